-- A target in origin form of plain bytes is its own path and query, as `http_uri` cuts it.
use Rattle.std.proofs.Common.{◌≡◌, ◌≢◌, ℕ, ◌+◌, ◌<◌, ◌≤◌, true, false, Bool, List, [], ◌∷◌, length, get_or, drop, slice_index, nat_lt, nat_le, not, refl, sym, subst, cond, arith, inl, inr, get_or-drop, length-drop, ◌==◌, ◌||◌, ◌&&◌}
use Rattle.std.specs.Prelude.{Some, None, IfSome}
use Rattle.std.specs.List.{list_any}
use Rattle.std.proofs.lemmas.Bool.{both_ways, cases_Bool}
use Rattle.std.proofs.lemmas.Bool.Decides.{nat_tests, Decides-eqb}
use Rattle.std.proofs.lemmas.List.{take_all}
use Rattle.std.proofs.lemmas.List.Folds.{list_any_at}
use Rattle.std.proofs.lemmas.Str.{IsUtf8-from_ascii}
use Rattle.std.proofs.lemmas.Str.Ascii.{IsAscii-from_reads}
use Rattle.http_uri.specs.declared.uri.Uri.{Uri}
use Rattle.http_uri.specs.Uri.{Spells}
use Rattle.http_uri.specs.ByteClasses.{slash, is_path_byte, is_query_byte, index_of}
use Rattle.http_uri.specs.Grammar.{AllPass, IsPathAndQuery, IsPathInput, without_fragment}
use Rattle.http_uri.proofs.RunLemmas.{AllPass-take, AllPass-from, index_of_is, index_of_before, index_of_le}
use Rattle.hx_target.proofs.TablePaths.{or_parts, and_parts}
use Rattle.hx_target.specs.Judgement.{is_malformed, is_forbidden_target_byte}

abbrev pub is_rare : ℕ → Bool
is_rare b = nat_lt b 0x21 || nat_lt 0x7e b || (b == 34) || (b == 35) || (b == 60) || (b == 62) || (b == 96)

ascii : (b : ℕ) → is_rare b ≡ false → b < 128
ascii b h = grind (arith, nat_tests)

in_query : (b : ℕ) → is_rare b ≡ false → is_query_byte b ≡ true
in_query b h = grind (arith, nat_tests)

in_path : (b : ℕ) → is_rare b ≡ false → b ≢ 63 → is_path_byte b ≡ true
in_path b h other = grind (arith, nat_tests)

no_hash : (b : ℕ) → is_rare b ≡ false → b ≢ 35
no_hash b h = grind (arith, nat_tests)

good : (b : ℕ) → is_rare b ≡ false → is_forbidden_target_byte b ≡ false
good b h = grind (arith, nat_tests)

no_bad_byte : (text : List ℕ) → list_any is_rare text ≡ false → list_any is_forbidden_target_byte text ≡ false
no_bad_byte [] h = refl
no_bad_byte (b ∷ rest) h =
    let none = or_parts (is_rare b) (list_any is_rare rest) h in
    rw (good b none.0) (no_bad_byte rest none.1)

pub not_malformed : (text : List ℕ) → list_any is_rare text ≡ false → is_malformed text ≡ false
unfolding is_malformed
not_malformed text h = no_bad_byte text h

pub no_part : (part : List ℕ) → None ≡ Some part → ⊥
no_part part e = cc

if_query : (t : Bool) (query : List ℕ) → AllPass is_query_byte query → IfSome (cond t (Some query) None) (AllPass is_query_byte)
if_query true query all = all
if_query false query all = tt

module _ (text : List ℕ) (plain : list_any is_rare text ≡ false) (first : slice_index text 0 ≡ slash) (short : length text ≤ 65534) where
  read : (k : ℕ) → k < length text → is_rare (get_or text k 0) ≡ false
  read k h = elim (cases_Bool (is_rare (get_or text k 0))) [ inl rare ↦ absurd (both_ways _ plain (list_any_at is_rare text k 0 h rare)) | inr not_rare ↦ not_rare ]

  path_and_query : IsPathAndQuery text
  path_and_query =
      let mark = index_of 63 text in
      let within = index_of_le 63 text in
      let rest = drop (mark + 1) text in
      record {
        start = inr (inr (inl first));
        path = AllPass-take is_path_byte text mark (λ k h. in_path _ (read k (omega arith)) (index_of_before 63 text k h));
        query = if_query (nat_lt mark (length text)) rest
            (AllPass-from is_query_byte rest (λ k h. rw (get_or-drop (mark + 1) text k 0) (in_query (get_or text (mark + 1 + k) 0) (read (mark + 1 + k) (omega (arith, length-drop (mark + 1) text))))));
        utf8 = IsUtf8-from_ascii text (IsAscii-from_reads text (length text) (omega arith) (λ k h. ascii _ (read k h)));
        short = short;
      }

  whole : without_fragment text ≡ text
  whole =
      let no_fragment = index_of_is 35 text (length text) (omega arith) (λ k h. no_hash _ (read k h)) (λ h. absurd (omega arith)) in
      rw no_fragment (take_all (length text) text (omega arith))

  input : IsPathInput text
  input = record { start = inr (rw first refl); short = short; kept = subst IsPathAndQuery (sym whole) path_and_query }

  abbrev pub origin_form : Uri
  origin_form = record { scheme = None; authority = None; path_and_query = text; absolute = λ x e. absurd (no_part x e); authority_alone = λ _ x e. absurd (no_part x e) }

  pub origin_form_is_spelled : Spells text origin_form
  origin_form_is_spelled = (short, ((inr first, input), sym whole))

-- what a target is that is found to be plain
abbrev pub is_plain : List ℕ → Bool
is_plain text = (slice_index text 0 == slash) && nat_le (length text) 8192 && not (list_any is_rare text)

pub plain_parts : (text : List ℕ) → is_plain text ≡ true → (slice_index text 0 ≡ slash) × (length text ≤ 8192) × (list_any is_rare text ≡ false)
plain_parts text h =
    let front = and_parts ((slice_index text 0 == slash) && nat_le (length text) 8192) (not (list_any is_rare text)) h in
    let begins = and_parts (slice_index text 0 == slash) (nat_le (length text) 8192) front.0 in
    let short = begins.1 in
    ((Decides-eqb (slice_index text 0) 47).0 begins.0, grind (arith, nat_tests), not_true (list_any is_rare text) front.1)
  where
    not_true : (t : Bool) → not t ≡ true → t ≡ false
    not_true true e = sym e
    not_true false e = refl
