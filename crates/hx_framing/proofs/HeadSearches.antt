-- A search for the end of a head goes on where it stood.
use Rattle.std.proofs.Common.{◌≡◌, ℕ, ◌+◌, ◌<◌, ◌≤◌, ◌-◌, ◌&&◌, Bool, true, false, cond, List, [], ◌∷◌, ◌++◌, length, drop, take, ◌==◌, suc, zero, refl, sym, ap, ◌∙◌, subst, arith, Some, None, length-drop, length-append, append_assoc, leb}
use Rattle.std.proofs.lemmas.Bool.{leb-true, leb-false}
use Rattle.std.proofs.lemmas.List.{append-nil, drop-append-le, drop-drop, take-append-le, take_all}
use Rattle.std.proofs.Math.Seq.{take-append-add}
use Rattle.hx_framing.specs.declared.heads.head_end.HeadSearch.{HeadSearch}
use Rattle.hx_framing.specs.declared.heads.head_end.HeadSearchResult.TheVariants as searched
use Rattle.hx_framing.specs.HeadEnd.{empty_lines_end_from, empty_lines_length, head_end_size_at_front, head_end_from, head_length, most_head_bytes, IsUnfinishedHead}
use Rattle.hx_framing.specs.Searching.{NoHeadEndsBeforeSearch, IsHeadSearchResult}
use Rattle.hx_framing.proofs.HeadEnds.{empty_lines_stable, empty_line_ends}

-- ---- the empty lines in front

-- the empty lines go on from where they end
pub record Goes (u more : List ℕ) (at : ℕ) : Type 0 where
  pub count : ℕ
  pub end : empty_lines_end_from at u ≡ at + count
  pub on : empty_lines_end_from at (u ++ more) ≡ empty_lines_end_from (at + count) (drop count (u ++ more))

stays : (u more : List ℕ) (at : ℕ) → empty_lines_end_from at u ≡ at → Goes u more at
stays u more at here = record { count = 0; end = here ∙ omega arith; on = ap (λ k. empty_lines_end_from k (u ++ more)) (omega arith) }

empty_lines_on : (u more : List ℕ) (at : ℕ) → Goes u more at
empty_lines_on [] more at = stays [] more at refl
empty_lines_on (b ∷ []) [] at = stays_or (b == 10) refl
  where
    stays_or : (t : Bool) → (b == 10) ≡ t → Goes (b ∷ []) [] at
    stays_or true p = record { count = 1; end = rw p refl; on = rw p refl }
    stays_or false p = stays (b ∷ []) [] at (rw p refl)
empty_lines_on (b ∷ []) (c ∷ more) at = stays_or (b == 10) refl
  where
    stays_or : (t : Bool) → (b == 10) ≡ t → Goes (b ∷ []) (c ∷ more) at
    stays_or true p = record { count = 1; end = rw p refl; on = rw p refl }
    stays_or false p = stays (b ∷ []) (c ∷ more) at (rw p refl)
empty_lines_on (b ∷ c ∷ us) more at = by_test (empty_lines_on (c ∷ us) more (at + 1)) (empty_lines_on us more (at + 2)) (b == 10) refl (b == 13 && (c == 10)) refl
  where
    by_test : Goes (c ∷ us) more (at + 1) → Goes us more (at + 2) → (t : Bool) → (b == 10) ≡ t → (s : Bool) → (b == 13 && (c == 10)) ≡ s → Goes (b ∷ c ∷ us) more at
    by_test one two true p s q = record {
      count = suc one.count;
      end = rw p (one.end ∙ omega arith);
      on = rw p (one.on ∙ ap (λ k. empty_lines_end_from k (drop one.count ((c ∷ us) ++ more))) (omega arith));
    }
    by_test one two false p true q = record {
      count = suc (suc two.count);
      end = rw (p, q) (two.end ∙ omega arith);
      on = rw (p, q) (two.on ∙ ap (λ k. empty_lines_end_from k (drop two.count (us ++ more))) (omega arith));
    }
    by_test one two false p false q = stays (b ∷ c ∷ us) more at (rw (p, q) refl)

-- ---- the lines of a head

-- in one byte no line ends that an empty one follows
short_none : (u : List ℕ) (at : ℕ) → length u ≤ 1 → head_end_from at u ≡ None
short_none [] at short = refl
short_none (b ∷ []) at short = by_test (b == 10)
  where
    by_test : (t : Bool) → cond (cond (t && false) 2 (cond (t && false && false) 3 0) == 0) None (Some (at + cond (t && false) 2 (cond (t && false && false) 3 0))) ≡ None
    by_test true = refl
    by_test false = refl
short_none (b ∷ c ∷ us) at short = absurd (omega arith)

-- where none is found, none begins but in the last two bytes
empty_on : (u more : List ℕ) (at k : ℕ) → k + 2 ≡ length u → head_end_from at u ≡ None
    → head_end_from at (u ++ more) ≡ head_end_from (at + k) (drop k (u ++ more))
empty_on [] more at k long none = absurd (omega arith)
empty_on (b ∷ []) more at k long none = absurd (omega arith)
empty_on (b ∷ c ∷ []) more at zero long none = ap (λ j. head_end_from j (b ∷ c ∷ more)) (omega arith)
empty_on (b ∷ c ∷ []) more at (suc k) long none = absurd (omega arith)
empty_on (b ∷ c ∷ d ∷ us) more at zero long none = absurd (omega arith)
empty_on (b ∷ c ∷ d ∷ us) more at (suc k) long none = by_test (head_end_size_at_front (b ∷ c ∷ d ∷ us) == 0) (empty_on (c ∷ d ∷ us) more (at + 1) k (omega arith)) none
  where
    by_test : (t : Bool)
        → (head_end_from (at + 1) (c ∷ d ∷ us) ≡ None → head_end_from (at + 1) ((c ∷ d ∷ us) ++ more) ≡ head_end_from (at + 1 + k) (drop k ((c ∷ d ∷ us) ++ more)))
        → cond t (head_end_from (at + 1) (c ∷ d ∷ us)) (Some (at + head_end_size_at_front (b ∷ c ∷ d ∷ us))) ≡ None
        → cond t (head_end_from (at + 1) ((c ∷ d ∷ us) ++ more)) (Some (at + head_end_size_at_front (b ∷ c ∷ d ∷ us))) ≡ head_end_from (at + suc k) (drop k ((c ∷ d ∷ us) ++ more))
    by_test true later h = later h ∙ ap (λ j. head_end_from j (drop k ((c ∷ d ∷ us) ++ more))) (omega arith)
    by_test false later h = absurd cc

-- ---- searches

-- before the first byte
pub reaches_start : (bytes : List ℕ) → NoHeadEndsBeforeSearch bytes (record { at = 0; is_past_empty_lines = false })
reaches_start bytes = record {
  within = omega arith;
  empty_lines = λ e more. refl;
  room = λ e. absurd cc;
  lines = λ e. absurd cc;
}

-- more bytes have come
reaches_append : (bytes w : List ℕ) (s : HeadSearch) → NoHeadEndsBeforeSearch bytes s → NoHeadEndsBeforeSearch (bytes ++ w) s
reaches_append bytes w s r = record {
  within = omega (arith, r.within, length_append);
  empty_lines = λ e more. ap empty_lines_length (append_assoc bytes w more) ∙ r.empty_lines e (w ++ more) ∙ ap (λ u. empty_lines_end_from s.at (drop s.at u)) (sym (append_assoc bytes w more));
  room = λ e. omega (arith, r.room e, length_append);
  lines = λ e more. ap head_length (append_assoc bytes w more) ∙ r.lines e (w ++ more) ∙ ap (λ u. head_end_from s.at (drop s.at u)) (sym (append_assoc bytes w more));
}
  where
    length_append : length (bytes ++ w) ≡ length bytes + length w
    length_append = length-append bytes w

pub reaches_fed : (k : ℕ) (bytes w : List ℕ) (s : HeadSearch) → NoHeadEndsBeforeSearch (take k bytes) s → NoHeadEndsBeforeSearch (take k (bytes ++ w)) s
reaches_fed k bytes w s r = by_length (leb k (length bytes)) refl
  where
    by_length : (t : Bool) → leb k (length bytes) ≡ t → NoHeadEndsBeforeSearch (take k (bytes ++ w)) s
    by_length true p = subst (λ (u : List ℕ). NoHeadEndsBeforeSearch u s) (sym (take-append-le k bytes w (leb-true k (length bytes) p))) r
    by_length false p =
        let long : length bytes ≤ k = omega (arith, leb-false k (length bytes) p) in
        let more : length bytes + (k - length bytes) ≡ k = omega arith in
        subst (λ (j : ℕ). NoHeadEndsBeforeSearch (take j (bytes ++ w)) s) more
        (subst (λ (u : List ℕ). NoHeadEndsBeforeSearch u s) (sym (take-append-add bytes w (k - length bytes)))
        (reaches_append bytes (take (k - length bytes) w) s (subst (λ (u : List ℕ). NoHeadEndsBeforeSearch u s) (take_all k bytes long) r)))

-- the empty lines in front end where the bytes end, or one byte before that
pub searched_empty_lines : (bytes : List ℕ) (at : ℕ) → at ≡ empty_lines_length bytes → at ≤ length bytes → length bytes - at < 2
    → IsHeadSearchResult bytes (searched.Open (record { at = at; is_past_empty_lines = false }))
searched_empty_lines bytes at is within short = (
  ap (λ (k : ℕ). head_end_from k (drop k bytes)) (sym is) ∙ short_none (drop at bytes) at (omega (arith, length-drop at bytes)),
  record {
    within = within;
    empty_lines = λ e more.
        let goes : Goes bytes more 0 = empty_lines_on bytes more 0 in
        let here : 0 + goes.count ≡ at = sym (is ∙ goes.end) in
        let count : goes.count ≡ at = omega arith in
        goes.on ∙ ap (λ (k : ℕ). empty_lines_end_from k (drop goes.count (bytes ++ more))) here ∙ ap (λ (k : ℕ). empty_lines_end_from at (drop k (bytes ++ more))) count;
    room = λ e. absurd cc;
    lines = λ e. absurd cc;
  },
)

-- behind them the lines of the head are searched
pub lines_begin : (bytes : List ℕ) (at : ℕ) → at ≡ empty_lines_length bytes → at + 2 ≤ length bytes
    → (more : List ℕ) → head_length (bytes ++ more) ≡ head_end_from at (drop at (bytes ++ more))
lines_begin bytes at is room more = ap (λ (k : ℕ). head_end_from k (drop k (bytes ++ more))) (empty_lines_stable bytes more 0 (omega (arith, is)) ∙ sym is)

pub searched_end : (bytes : List ℕ) (at n : ℕ) → ((more : List ℕ) → head_length (bytes ++ more) ≡ head_end_from at (drop at (bytes ++ more)))
    → head_end_from at (drop at bytes) ≡ Some n → IsHeadSearchResult bytes (searched.Ended n)
searched_end bytes at n on found =
    ap head_length (sym (append-nil bytes)) ∙ on [] ∙ ap (λ u. head_end_from at (drop at u)) (append-nil bytes) ∙ found

pub searched_lines : (bytes : List ℕ) (at to : ℕ) → ((more : List ℕ) → head_length (bytes ++ more) ≡ head_end_from at (drop at (bytes ++ more)))
    → at + 2 ≤ length bytes → to + 2 ≡ length bytes → head_end_from at (drop at bytes) ≡ None
    → IsHeadSearchResult bytes (searched.Open (record { at = to; is_past_empty_lines = true }))
searched_lines bytes at to on room end none = (
  ap head_length (sym (append-nil bytes)) ∙ on [] ∙ ap (λ u. head_end_from at (drop at u)) (append-nil bytes) ∙ none,
  record {
    within = omega arith;
    empty_lines = λ e. absurd cc;
    room = λ e. omega arith;
    lines = λ e more.
        let here : drop at (bytes ++ more) ≡ drop at bytes ++ more = drop-append-le at bytes more (omega arith) in
        let on_rest = empty_on (drop at bytes) more at (to - at) (omega (arith, length-drop at bytes)) none in
        let there : drop (to - at) (drop at (bytes ++ more)) ≡ drop to (bytes ++ more) = drop-drop (to - at) at (bytes ++ more) ∙ ap (λ (k : ℕ). drop k (bytes ++ more)) (omega arith) in
        on more ∙ ap (head_end_from at) here ∙ on_rest ∙ ap (head_end_from (at + (to - at))) (ap (drop (to - at)) (sym here) ∙ there) ∙ ap (λ (k : ℕ). head_end_from k (drop to (bytes ++ more))) (omega arith);
  },
)

-- the empty lines in front, from where the search stood
pub empty_lines_reached : (bytes : List ℕ) (s : HeadSearch) (at : ℕ) → NoHeadEndsBeforeSearch bytes s → s.is_past_empty_lines ≡ false → at ≡ empty_lines_end_from s.at (drop s.at bytes) → at ≡ empty_lines_length bytes
empty_lines_reached bytes s at r outside is =
    is ∙ ap (λ u. empty_lines_end_from s.at (drop s.at u)) (sym (append-nil bytes)) ∙ sym (r.empty_lines outside []) ∙ ap empty_lines_length (append-nil bytes)

-- a head takes some bytes, and no more than there are
pub head_some : (u : List ℕ) (n : ℕ) → head_length u ≡ Some n → 0 < n
head_some u n found = omega (arith, (empty_line_ends (drop (empty_lines_length u) u) (empty_lines_length u) n found).two)

-- no head ends there, and the limit isn't reached
pub open_head : (bytes : List ℕ) → length bytes ≤ most_head_bytes → head_length (take most_head_bytes bytes) ≡ None → IsUnfinishedHead bytes
open_head bytes short none = record { none = ap head_length (sym (take_all most_head_bytes bytes short)) ∙ none; bounded = short }
