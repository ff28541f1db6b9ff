-- The judgement of a head's length fields, by which of them stand.
use Rattle.std.proofs.Common.{◌≡◌, ℕ, ◌&&◌, ◌||◌, ◌==◌, not, Bool, true, false, cond, List, Option, Some, None, is_some, MatchOption, Result, Ok, Err, refl, ap, ◌∙◌, nat_lt, nat_le}
use Rattle.std.proofs.lemmas.Bool.{leb-true, leb-false, le-ltb, lt-ltb}
use Rattle.hx_fields.specs.Line.{Field}
use Rattle.hx_fields.specs.FieldLines.{has_field}
use Rattle.hx_framing.specs.declared.frame_fault.FrameFault.{FrameFault}
use Rattle.hx_framing.specs.declared.frame_fault.FrameFault.TheVariants as fault
use Rattle.hx_framing.specs.declared.lengths.framing.Framing.{Framing}
use Rattle.hx_framing.specs.declared.lengths.framing.Framing.TheVariants as framing
use Rattle.hx_framing.specs.ContentLength.{content_length_name, announced_length, announced_length_up_to_or_fault}
use Rattle.hx_framing.specs.Lengths.{transfer_encoding_name, codings, only_last_coding_is_chunked, is_only_chunked, announced_framing, exceeds, announced_framing_or, framing_without_codings, framing_of_codings, framing_by_length_fields, has_coding_of_unknown_end}
use Rattle.hx_framing.proofs.LengthShown.{absent_shown}

-- coded, stands: which of the fields stand; zero: it is HTTP/1.0; endless, only: what the codings are
module _ (max_body : ℕ) (neither : Framing) where
  abbrev judged : (coded represents zero endless only : Bool) → Option ℕ → Result Framing FrameFault
  judged coded represents zero endless only shown =
      cond (coded && represents) (Err fault.BothLengths)
      (cond (((coded && zero) || (represents && not (is_some shown))) || endless) (Err fault.Length)
      (cond (coded && not only) (Err fault.Coding)
      (cond (exceeds max_body shown) (Err fault.TooLarge) (Ok (cond coded framing.Chunked (announced_framing_or neither shown))))))

  -- the same without the codings
  abbrev judged_uncoded : (coded represents zero : Bool) → Option ℕ → Option (Result Framing FrameFault)
  judged_uncoded coded represents zero shown =
      cond (coded && represents) (Some (Err fault.BothLengths))
      (cond (not coded) (Some (cond represents (announced_framing (announced_length_up_to_or_fault max_body shown)) (Ok neither)))
      (cond zero (Some (Err fault.Length)) None))

  above : {A : Type 0} (n : ℕ) (large small : A) → cond (nat_lt max_body n) large small ≡ cond (nat_le n max_body) small large
  above n large small = by_test (nat_le n max_body) refl
    where
      by_test : (t : Bool) → nat_le n max_body ≡ t → cond (nat_lt max_body n) large small ≡ cond t small large
      by_test true within = ap (λ b. cond b large small) (le-ltb max_body n (leb-true n max_body within))
      by_test false beyond = ap (λ b. cond b large small) (lt-ltb max_body n (leb-false n max_body beyond))

  -- without codings
  by_length : (represents zero only : Bool) (shown : Option ℕ) → (represents ≡ false → shown ≡ None)
      → judged false represents zero false only shown ≡ cond represents (announced_framing (announced_length_up_to_or_fault max_body shown)) (Ok neither)
  by_length true zero only None none = refl
  by_length true zero only (Some n) none = above n (Err fault.TooLarge) (Ok (framing.Announced n)) ∙ by_test (nat_le n max_body)
    where
      by_test : (t : Bool) → cond t (Ok (framing.Announced n)) (Err fault.TooLarge) ≡ announced_framing (cond t (Ok n) (Err fault.TooLarge))
      by_test true = refl
      by_test false = refl
  by_length false zero only shown none = ap (judged false false zero false only) (none refl)

  by_codings : (coded represents zero endless only : Bool) (shown : Option ℕ) → (represents ≡ false → shown ≡ None) → (coded ≡ false → endless ≡ false)
      → MatchOption (judged_uncoded coded represents zero shown)
      (judged coded represents zero endless only shown ≡ cond endless (Err fault.Length) (cond only (Ok framing.Chunked) (Err fault.Coding)))
      (λ r. judged coded represents zero endless only shown ≡ r)
  by_codings true true zero endless only shown none ends = refl
  by_codings true false true endless only shown none ends = refl
  by_codings true false false true only shown none ends = refl
  by_codings true false false false true shown none ends = ap (judged true false false false true) (none refl)
  by_codings true false false false false shown none ends = refl
  by_codings false represents zero endless only shown none ends =
      ap (λ e. judged false represents zero e only shown) (ends refl) ∙ by_length represents zero only shown none

  -- where the codings may have to tell the end of the content
  by_lengths : (coded represents zero must_end ends only : Bool) (shown : Option ℕ) → (represents ≡ false → shown ≡ None)
      → MatchOption (judged_uncoded coded represents zero shown)
      (judged coded represents zero (must_end && (coded && not ends)) only shown ≡ cond (must_end && not ends) (Err fault.Length) (cond only (Ok framing.Chunked) (Err fault.Coding)))
      (λ r. judged coded represents zero (must_end && (coded && not ends)) only shown ≡ r)
  by_lengths true represents zero must_end ends only shown none = by_codings true represents zero (must_end && not ends) only shown none (λ e. cc)
  by_lengths false represents zero true ends only shown none = by_codings false represents zero false only shown none (λ e. refl)
  by_lengths false represents zero false ends only shown none = by_codings false represents zero false only shown none (λ e. refl)

pub lengths-uncoded : (max_body minor : ℕ) (neither : Framing) (must_end : Bool) (fields : List Field)
    → MatchOption (framing_without_codings max_body minor neither fields)
    (framing_by_length_fields max_body minor neither (must_end && has_coding_of_unknown_end fields) fields ≡ framing_of_codings must_end (codings fields))
    (λ r. framing_by_length_fields max_body minor neither (must_end && has_coding_of_unknown_end fields) fields ≡ r)
lengths-uncoded max_body minor neither must_end fields =
    by_lengths max_body neither (has_field fields transfer_encoding_name) (has_field fields content_length_name) (minor == 0) must_end
    (only_last_coding_is_chunked (codings fields)) (is_only_chunked (codings fields)) (announced_length fields) (absent_shown fields)

-- what a call found without the codings, and where they count
module _ (whole coded : Result Framing FrameFault) where
  pub at_found : (o : Option (Result Framing FrameFault)) (r : Result Framing FrameFault) → Some r ≡ o
      → MatchOption o (whole ≡ coded) (λ q. whole ≡ q) → whole ≡ r
  at_found None r found by = absurd cc
  at_found (Some q) r found by = let same : q ≡ r = cc in by ∙ same

  pub at_none : (o : Option (Result Framing FrameFault)) → None ≡ o → MatchOption o (whole ≡ coded) (λ q. whole ≡ q) → whole ≡ coded
  at_none None found by = by
  at_none (Some q) found by = absurd cc
