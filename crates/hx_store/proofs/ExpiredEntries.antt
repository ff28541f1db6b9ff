-- Entries of which some are expired: what stays as it is.
use Rattle.std.proofs.Common.{◌≡◌, ℕ, true, false, cond, ◌||◌, eqb, Option, None, Some, List, [], ◌∷◌, length, refl, sym, ◌∙◌, ap, subst, arith, inl, inr, zero, suc, ◌<◌, set, get_or}
use Rattle.std.specs.Prelude.{option_map}
use Rattle.std.specs.List.{filter}
use Rattle.std.specs.Map.{values_of, lookup, set_value}
use Rattle.std.proofs.lemmas.Bool.{cases_Bool, eqb-true, or_left, or_parts}
use Rattle.std.proofs.lemmas.List.Sums.{sum_by-cons}
use Rattle.std.proofs.lemmas.Option.{same_Some}
use Rattle.hx_fields.specs.Line.{Field}
use Rattle.hx_target.specs.declared.keys.Key.{Key}
use Rattle.hx_target.specs.Keys.{same_key}
use Rattle.hx_age.specs.declared.moments.Times.{Times}
use Rattle.hx_age.specs.Age.{times_once_purged}
use Rattle.hx_store.specs.Serials.{serial_is_in, SerialsAreDistinct, insert_ascending}
use Rattle.hx_store.specs.Stored.{Stored}
use Rattle.hx_store.specs.Shelf.{serials, holds_serial, find_entry_of_serial, serials_of_key, entry_vary_matches_request, matching_serials, expired_entry, entries_with_serials_expired}
use Rattle.hx_store.specs.Keyed.{EntriesHaveTheirSerials, EntriesHaveDistinctSerials}
use Rattle.hx_store.specs.Weights.{weight_of_entry, total_weight, weight_capped_to_64_bits, total_of_capped_weights}
use Rattle.hx_store.proofs.EntryLists.{eqb_comm, not_only}
use Rattle.hx_store.proofs.MatchLists.{filter-agree}

-- what holds of the entry at any times holds of it once it is expired
pub by_times : (P : Stored → Type 0) (ended : List ℕ) (now : ℕ) (e : Stored) → ((times : Times) → P (record e { times = times })) → P (expired_entry ended now e)
by_times P ended now e h =
    elim (serial_is_in e.serial ended) as (λ b. P (cond b (record e { times = times_once_purged e.times now }) e)) [
      | true ↦ h (times_once_purged e.times now)
      | false ↦ h e.times
    ]

pub expired_serial : (ended : List ℕ) (now : ℕ) (e : Stored) → (expired_entry ended now e).serial ≡ e.serial
expired_serial ended now e = by_times (λ x. x.serial ≡ e.serial) ended now e (λ times. refl)

pub times_expired : (ended : List ℕ) (now : ℕ) (e : Stored) → serial_is_in e.serial ended ≡ true → (expired_entry ended now e).times ≡ times_once_purged e.times now
times_expired ended now e h = ap (λ b. (cond b (record e { times = times_once_purged e.times now }) e).times) h

pub not_expired : (ended : List ℕ) (now : ℕ) (e : Stored) → serial_is_in e.serial ended ≡ false → expired_entry ended now e ≡ e
not_expired ended now e h = ap (λ b. cond b (record e { times = times_once_purged e.times now }) e) h

pub times_alone : (ended : List ℕ) (now : ℕ) (e : Stored) → record (expired_entry ended now e) { times = e.times } ≡ e
times_alone ended now e = by_times (λ x. record x { times = e.times } ≡ e) ended now e (λ times. refl)

pub serials-expired : (ended : List ℕ) (now : ℕ) (es : List Stored) → serials (entries_with_serials_expired ended now es) ≡ serials es
serials-expired ended now [] = refl
serials-expired ended now (e ∷ es) =
    ap (λ s. s ∷ serials (entries_with_serials_expired ended now es)) (expired_serial ended now e) ∙ ap (λ xs. e.serial ∷ xs) (serials-expired ended now es)

pub length-expired : (ended : List ℕ) (now : ℕ) (es : List Stored) → length (entries_with_serials_expired ended now es) ≡ length es
length-expired ended now [] = refl
length-expired ended now (e ∷ es) = ap suc (length-expired ended now es)

pub SerialsAreDistinct-expired : (ended : List ℕ) (now : ℕ) (es : List Stored) → SerialsAreDistinct (serials es) → SerialsAreDistinct (serials (entries_with_serials_expired ended now es))
SerialsAreDistinct-expired ended now es d = subst SerialsAreDistinct (sym (serials-expired ended now es)) d

weight-expired : (ended : List ℕ) (now : ℕ) (e : Stored) → weight_of_entry (expired_entry ended now e) ≡ weight_of_entry e
weight-expired ended now e = by_times (λ x. weight_of_entry x ≡ weight_of_entry e) ended now e (λ times. refl)

pub total-expired : (ended : List ℕ) (now : ℕ) (es : List Stored) → total_weight (entries_with_serials_expired ended now es) ≡ total_weight es
total-expired ended now [] = refl
total-expired ended now (e ∷ es) =
    omega (arith, sum_by-cons weight_of_entry e es, sum_by-cons weight_of_entry (expired_entry ended now e) (entries_with_serials_expired ended now es), weight-expired ended now e, total-expired ended now es)

pub counted-expired : (ended : List ℕ) (now : ℕ) (es : List Stored) → total_of_capped_weights (entries_with_serials_expired ended now es) ≡ total_of_capped_weights es
counted-expired ended now [] = refl
counted-expired ended now (e ∷ es) =
    omega (arith, sum_by-cons weight_capped_to_64_bits e es, sum_by-cons weight_capped_to_64_bits (expired_entry ended now e) (entries_with_serials_expired ended now es), weight-expired ended now e, counted-expired ended now es)

pub find-expired : (ended : List ℕ) (now s : ℕ) (es : List Stored) → find_entry_of_serial s (entries_with_serials_expired ended now es) ≡ option_map (expired_entry ended now) (find_entry_of_serial s es)
find-expired ended now s [] = refl
find-expired ended now s (e ∷ es) =
    let x = expired_entry ended now e in
    ap (λ z. cond (eqb z s) (Some x) (find_entry_of_serial s (entries_with_serials_expired ended now es))) (expired_serial ended now e)
    ∙ ap (λ o. cond (eqb e.serial s) (Some x) o) (find-expired ended now s es)
    ∙ (elim (eqb e.serial s) as (λ b. cond b (Some x) (option_map (expired_entry ended now) (find_entry_of_serial s es)) ≡ option_map (expired_entry ended now) (cond b (Some e) (find_entry_of_serial s es))) [
      | true ↦ refl
      | false ↦ refl
    ])

pub of_key-expired : (ended : List ℕ) (now : ℕ) (key : Key) (es : List Stored) → serials_of_key key (entries_with_serials_expired ended now es) ≡ serials_of_key key es
of_key-expired ended now key [] = refl
of_key-expired ended now key (e ∷ es) =
    by_times (λ x. serials_of_key key (x ∷ entries_with_serials_expired ended now es) ≡ serials_of_key key (e ∷ es)) ended now e
    (λ times. ap (λ xs. cond (same_key e.key key) (insert_ascending e.serial xs) xs) (of_key-expired ended now key es))

matches-expired : (ended : List ℕ) (now : ℕ) (request : List Field) (o : Option Stored) →
    entry_vary_matches_request request (option_map (expired_entry ended now) o) ≡ entry_vary_matches_request request o
matches-expired ended now request None = refl
matches-expired ended now request (Some e) = by_times (λ x. entry_vary_matches_request request (Some x) ≡ entry_vary_matches_request request (Some e)) ended now e (λ times. refl)

pub matching-expired : (ended : List ℕ) (now : ℕ) (key : Key) (request : List Field) (es : List Stored) →
    matching_serials key request (entries_with_serials_expired ended now es) ≡ matching_serials key request es
matching-expired ended now key request es =
    filter-agree (λ s. entry_vary_matches_request request (find_entry_of_serial s (entries_with_serials_expired ended now es))) (λ s. entry_vary_matches_request request (find_entry_of_serial s es)) (serials_of_key key (entries_with_serials_expired ended now es))
    (λ s m. ap (entry_vary_matches_request request) (find-expired ended now s es) ∙ matches-expired ended now request (find_entry_of_serial s es))
    ∙ ap (filter (λ s. entry_vary_matches_request request (find_entry_of_serial s es))) (of_key-expired ended now key es)

-- ---- one after the other

pub none-expired : (now : ℕ) (es : List Stored) → entries_with_serials_expired [] now es ≡ es
none-expired now [] = refl
none-expired now (e ∷ es) = ap (λ zs. e ∷ zs) (none-expired now es)

abbrev at_times : ℕ → Stored → Stored
at_times now e = record e { times = times_once_purged e.times now }

again : (s : ℕ) (ended : List ℕ) (now : ℕ) (e : Stored) → expired_entry (s ∷ ended) now e ≡ expired_entry ended now (expired_entry (s ∷ []) now e)
again s ended now e =
    elim (eqb s e.serial) as (λ b. cond (b || serial_is_in e.serial ended) (at_times now e) e ≡ expired_entry ended now (cond (b || false) (at_times now e) e)) [
      | true ↦ elim (serial_is_in e.serial ended) as (λ b. at_times now e ≡ cond b (at_times now (at_times now e)) (at_times now e)) [ true ↦ refl | false ↦ refl ]
      | false ↦ refl
    ]

-- those of one serial, and then those of others
pub one-more : (s : ℕ) (ended : List ℕ) (now : ℕ) (es : List Stored) →
    entries_with_serials_expired (s ∷ ended) now es ≡ entries_with_serials_expired ended now (entries_with_serials_expired (s ∷ []) now es)
one-more s ended now [] = refl
one-more s ended now (e ∷ es) =
    ap (λ x. x ∷ entries_with_serials_expired (s ∷ ended) now es) (again s ended now e)
    ∙ ap (λ zs. expired_entry ended now (expired_entry (s ∷ []) now e) ∷ zs) (one-more s ended now es)

pub not-held-expired : (s now : ℕ) (es : List Stored) → holds_serial s es ≡ false → entries_with_serials_expired (s ∷ []) now es ≡ es
not-held-expired s now [] h = refl
not-held-expired s now (e ∷ es) h =
    let p = or_parts (eqb e.serial s) (holds_serial s es) h in
    ap (λ x. x ∷ entries_with_serials_expired (s ∷ []) now es) (not_expired (s ∷ []) now e (not_only e.serial s p.0))
    ∙ ap (λ zs. e ∷ zs) (not-held-expired s now es p.1)

-- ---- beside their serials

-- the pair of a serial once its entry was expired where it stands
pub written : (s now : ℕ) (ps : List (ℕ × Stored)) (x : Stored) → EntriesHaveDistinctSerials ps → lookup (eqb s) ps ≡ Some x →
    (values_of (set_value (eqb s) ps (record x { times = times_once_purged x.times now })) ≡ entries_with_serials_expired (s ∷ []) now (values_of ps))
    × EntriesHaveTheirSerials (set_value (eqb s) ps (record x { times = times_once_purged x.times now }))
written s now [] x h l = absurd (cc)
written s now (p ∷ ps) x h l = elim (cases_Bool (eqb s p.0)) [
  | inl t ↦ (
      let k : p.1 ≡ x = same_Some p.1 x (sym (ap (λ b. cond b (Some p.1) (lookup (eqb s) ps)) t) ∙ l) in
      let is : s ≡ p.1.serial = eqb-true s p.0 t ∙ h.0.0 in
      let gone : serial_is_in p.1.serial (s ∷ []) ≡ true = or_left _ _ (ap (eqb s) (sym h.0.0) ∙ t) in
      let none : holds_serial s (values_of ps) ≡ false = subst (λ z. holds_serial z (values_of ps) ≡ false) (sym is) h.1.0 in
      let this : set_value (eqb s) (p ∷ ps) (at_times now x) ≡ (p.0, at_times now x) ∷ ps =
      ap (λ b. cond b ((p.0, at_times now x) ∷ ps) (p ∷ set_value (eqb s) ps (at_times now x))) t in
      subst (λ qs. (values_of qs ≡ entries_with_serials_expired (s ∷ []) now (values_of (p ∷ ps))) × EntriesHaveTheirSerials qs) (sym this) (
        ap (λ y. at_times now y ∷ values_of ps) (sym k)
            ∙ ap (λ y. y ∷ values_of ps) (sym (ap (λ b. cond b (at_times now p.1) p.1) gone))
            ∙ ap (λ zs. expired_entry (s ∷ []) now p.1 ∷ zs) (sym (not-held-expired s now (values_of ps) none)),
        (h.0.0 ∙ ap (λ (y : Stored). y.serial) k, h.0.1),
      )
      )
  | inr f ↦ (
      let more = written s now ps x (h.0.1, h.1.1) (sym (ap (λ b. cond b (Some p.1) (lookup (eqb s) ps)) f) ∙ l) in
      let this : set_value (eqb s) (p ∷ ps) (at_times now x) ≡ p ∷ set_value (eqb s) ps (at_times now x) =
      ap (λ b. cond b ((p.0, at_times now x) ∷ ps) (p ∷ set_value (eqb s) ps (at_times now x))) f in
      let other : eqb p.1.serial s ≡ false = sym (eqb_comm s p.1.serial) ∙ ap (eqb s) (sym h.0.0) ∙ f in
      subst (λ qs. (values_of qs ≡ entries_with_serials_expired (s ∷ []) now (values_of (p ∷ ps))) × EntriesHaveTheirSerials qs) (sym this) (
        ap (λ zs. p.1 ∷ zs) more.0
            ∙ ap (λ y. y ∷ entries_with_serials_expired (s ∷ []) now (values_of ps)) (sym (not_expired (s ∷ []) now p.1 (not_only p.1.serial s other))),
        (h.0.0, more.1),
      )
      )
]

pub apart-written : (s now : ℕ) (ps : List (ℕ × Stored)) (x : Stored) → EntriesHaveDistinctSerials ps → lookup (eqb s) ps ≡ Some x →
    EntriesHaveDistinctSerials (set_value (eqb s) ps (record x { times = times_once_purged x.times now }))
apart-written s now ps x h l =
    let w = written s now ps x h l in
    (w.1, subst (λ es. SerialsAreDistinct (serials es)) (sym w.0) (SerialsAreDistinct-expired (s ∷ []) now (values_of ps) h.1))

-- ---- in a list, from its front on

-- the first so many are expired
abbrev pub front-expired : List ℕ → ℕ → ℕ → List Stored → List Stored
front-expired ended now zero es = es
front-expired ended now (suc n) [] = []
front-expired ended now (suc n) (e ∷ es) = expired_entry ended now e ∷ front-expired ended now n es

pub front-expired-none : (ended : List ℕ) (now : ℕ) (es : List Stored) → front-expired ended now 0 es ≡ es
front-expired-none ended now es = refl

pub length-front-expired : (ended : List ℕ) (now n : ℕ) (es : List Stored) → length (front-expired ended now n es) ≡ length es
length-front-expired ended now zero es = refl
length-front-expired ended now (suc n) [] = refl
length-front-expired ended now (suc n) (e ∷ es) = ap suc (length-front-expired ended now n es)

pub front-expired-next : (ended : List ℕ) (now n : ℕ) (es : List Stored) (d : Stored) → n < length es →
    set (front-expired ended now n es) n (expired_entry ended now (get_or (front-expired ended now n es) n d)) ≡ front-expired ended now (suc n) es
front-expired-next ended now n [] d h = absurd (omega arith)
front-expired-next ended now zero (e ∷ es) d h = refl
front-expired-next ended now (suc n) (e ∷ es) d h = ap (λ zs. expired_entry ended now e ∷ zs) (front-expired-next ended now n es d (omega arith))

pub front-expired-all : (ended : List ℕ) (now : ℕ) (es : List Stored) → front-expired ended now (length es) es ≡ entries_with_serials_expired ended now es
front-expired-all ended now [] = refl
front-expired-all ended now (e ∷ es) = ap (λ zs. expired_entry ended now e ∷ zs) (front-expired-all ended now es)
