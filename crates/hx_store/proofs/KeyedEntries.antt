-- What a cache of entries beside their serials does, said of the list of the entries.
use Rattle.std.proofs.Common.{◌≡◌, ℕ, zero, suc, ◌-◌, ◌<◌, true, false, not, cond, ◌||◌, eqb, Option, None, Some, List, [], ◌∷◌, length, take, refl, sym, ◌∙◌, ap, subst, is_some, slice_get, arith, inl, inr}
use Rattle.std.specs.Prelude.{MatchOption}
use Rattle.std.specs.Option.{option_map}
use Rattle.std.specs.Map.{values_of, lookup, lookup_entry, remove_entry, set_value}
use Rattle.std.proofs.lemmas.Bool.{cases_Bool, false≢true, eqb-true, or_left, or_right}
use Rattle.std.proofs.lemmas.List.{take_all}
use Rattle.lru.specs.LruCache.{LruCache, promoted as lru_promoted, last_entry, put_entries}
use Rattle.hx_store.specs.Serials.{serial_is_in, SerialsAreDistinct}
use Rattle.hx_store.specs.Stored.{Stored}
use Rattle.hx_store.specs.Shelf.{serials, holds_serial, find_entry_of_serial, without_serials, entries_with_promoted}
use Rattle.hx_store.specs.Keyed.{EntriesHaveTheirSerials, EntriesHaveDistinctSerials}
use Rattle.hx_store.proofs.EntryLists.{eqb_comm, not_only, without_none, find_none, SerialsAreDistinct-filter, SerialsAreDistinct-take, without_gone}

-- the pair's own test is its entry's
own : (s : ℕ) (p : ℕ × Stored) → p.0 ≡ p.1.serial → eqb s p.0 ≡ eqb p.1.serial s
own s p h = ap (eqb s) h ∙ eqb_comm s p.1.serial

pub lookup_finds : (s : ℕ) (ps : List (ℕ × Stored)) → EntriesHaveTheirSerials ps → lookup (eqb s) ps ≡ find_entry_of_serial s (values_of ps)
lookup_finds s [] h = refl
lookup_finds s (p ∷ ps) h =
    ap (λ b. cond b (Some p.1) (lookup (eqb s) ps)) (own s p h.0) ∙ ap (cond (eqb p.1.serial s) (Some p.1)) (lookup_finds s ps h.1)

pub is_some-find : (s : ℕ) (es : List Stored) → is_some (find_entry_of_serial s es) ≡ holds_serial s es
is_some-find s [] = refl
is_some-find s (e ∷ es) =
    elim (eqb e.serial s) as (λ b. is_some (cond b (Some e) (find_entry_of_serial s es)) ≡ (b || holds_serial s es)) [ true ↦ refl | false ↦ is_some-find s es ]

pub lookup_holds : (s : ℕ) (ps : List (ℕ × Stored)) → EntriesHaveTheirSerials ps → is_some (lookup (eqb s) ps) ≡ holds_serial s (values_of ps)
lookup_holds s ps h = ap is_some (lookup_finds s ps h) ∙ is_some-find s (values_of ps)

-- one of these serial goes, where no serial stands twice
removed : (s : ℕ) (ps : List (ℕ × Stored)) → EntriesHaveTheirSerials ps → SerialsAreDistinct (serials (values_of ps)) →
    values_of (remove_entry (eqb s) ps) ≡ without_serials (s ∷ []) (values_of ps)
removed s [] h d = refl
removed s (p ∷ ps) h d = elim (cases_Bool (eqb p.1.serial s)) [
  | inl t ↦ (
      let none : holds_serial s (values_of ps) ≡ false = subst (λ z. holds_serial z (values_of ps) ≡ false) (eqb-true p.1.serial s t) d.0 in
      let gone : serial_is_in p.1.serial (s ∷ []) ≡ true = or_left _ _ (sym (eqb_comm p.1.serial s) ∙ t) in
      ap (λ b. values_of (cond b ps (p ∷ remove_entry (eqb s) ps))) (own s p h.0 ∙ t)
      ∙ sym (without_none s (values_of ps) none)
      ∙ sym (ap (λ b. cond (not b) (p.1 ∷ without_serials (s ∷ []) (values_of ps)) (without_serials (s ∷ []) (values_of ps))) gone)
      )
  | inr f ↦ (
      ap (λ b. values_of (cond b ps (p ∷ remove_entry (eqb s) ps))) (own s p h.0 ∙ f)
      ∙ ap (λ es. p.1 ∷ es) (removed s ps h.1 d.1)
      ∙ sym (ap (λ b. cond (not b) (p.1 ∷ without_serials (s ∷ []) (values_of ps)) (without_serials (s ∷ []) (values_of ps))) (not_only p.1.serial s f))
      )
]

keyed-removed : (s : ℕ) (ps : List (ℕ × Stored)) → EntriesHaveTheirSerials ps → EntriesHaveTheirSerials (remove_entry (eqb s) ps)
keyed-removed s [] h = tt
keyed-removed s (p ∷ ps) h =
    elim (eqb s p.0) as (λ b. EntriesHaveTheirSerials (cond b ps (p ∷ remove_entry (eqb s) ps))) [ true ↦ h.1 | false ↦ (h.0, keyed-removed s ps h.1) ]

pub removed_is : (s : ℕ) (ps : List (ℕ × Stored)) → EntriesHaveDistinctSerials ps → values_of (remove_entry (eqb s) ps) ≡ without_serials (s ∷ []) (values_of ps)
removed_is s ps h = removed s ps h.0 h.1

pub apart-removed : (s : ℕ) (ps : List (ℕ × Stored)) → EntriesHaveDistinctSerials ps → EntriesHaveDistinctSerials (remove_entry (eqb s) ps)
apart-removed s ps h = (
  keyed-removed s ps h.0,
  subst (λ es. SerialsAreDistinct (serials es)) (sym (removed_is s ps h)) (SerialsAreDistinct-filter _ (values_of ps) h.1),
)

-- what a pair that a look-up of a serial finds says of the list
record Found (s : ℕ) (ps : List (ℕ × Stored)) (p : ℕ × Stored) : Type 0 where
  keyed : p.0 ≡ p.1.serial
  serial : p.1.serial ≡ s
  passes : eqb s p.0 ≡ true
  found : find_entry_of_serial s (values_of ps) ≡ Some p.1
  held : holds_serial s (values_of ps) ≡ true

abbrev Looked : ℕ → List (ℕ × Stored) → Option (ℕ × Stored) → Type 0
Looked s ps o = MatchOption o (holds_serial s (values_of ps) ≡ false) (Found s ps)

on : (s : ℕ) (p : ℕ × Stored) (ps : List (ℕ × Stored)) (o : Option (ℕ × Stored)) → eqb p.1.serial s ≡ false → Looked s ps o → Looked s (p ∷ ps) o
on s p ps None f h = ap (λ b. b || holds_serial s (values_of ps)) f ∙ h
on s p ps (Some q) f h = record {
  keyed = h.keyed;
  serial = h.serial;
  passes = h.passes;
  found = ap (λ b. cond b (Some p.1) (find_entry_of_serial s (values_of ps))) f ∙ h.found;
  held = or_right _ _ h.held;
}

looked : (s : ℕ) (ps : List (ℕ × Stored)) → EntriesHaveTheirSerials ps → Looked s ps (lookup_entry (eqb s) ps)
looked s [] h = refl
looked s (p ∷ ps) h = elim (cases_Bool (eqb p.1.serial s)) [
  | inl t ↦ subst (λ b. Looked s (p ∷ ps) (cond b (Some p) (lookup_entry (eqb s) ps))) (sym (own s p h.0 ∙ t)) (record {
    keyed = h.0;
    serial = eqb-true p.1.serial s t;
    passes = own s p h.0 ∙ t;
    found = ap (λ b. cond b (Some p.1) (find_entry_of_serial s (values_of ps))) t;
    held = or_left _ _ t;
  })
  | inr f ↦ subst (λ b. Looked s (p ∷ ps) (cond b (Some p) (lookup_entry (eqb s) ps))) (sym (own s p h.0 ∙ f)) (on s p ps _ f (looked s ps h.1))
]

pub distinct-front : (s : ℕ) (x : Stored) (es : List Stored) → x.serial ≡ s → SerialsAreDistinct (serials es) → SerialsAreDistinct (serials (x ∷ without_serials (s ∷ []) es))
distinct-front s x es k d = (ap (λ z. holds_serial z (without_serials (s ∷ []) es)) k ∙ without_gone s es, SerialsAreDistinct-filter _ es d)

-- what the pairs are once the pair of this serial has gone first
abbrev pub Promotes : ℕ → List (ℕ × Stored) → List (ℕ × Stored) → Type 0
Promotes s ps qs = (values_of qs ≡ entries_with_promoted s (values_of ps)) × EntriesHaveDistinctSerials qs

promotes_by : (s : ℕ) (ps : List (ℕ × Stored)) → EntriesHaveDistinctSerials ps → (o : Option (ℕ × Stored)) → lookup_entry (eqb s) ps ≡ o → Looked s ps o →
    Promotes s ps (lru_promoted (eqb s) ps)
promotes_by s ps h None e l =
    rw e (rw (find_none s (values_of ps) l) (sym (without_none s (values_of ps) l)), h)
promotes_by s ps h (Some p) e l =
    let r = removed_is s ps h in
    rw e (
      rw l.found (ap (λ es. p.1 ∷ es) r),
      ((l.keyed, keyed-removed s ps h.0), subst (λ es. SerialsAreDistinct (serials (p.1 ∷ es))) (sym r) (distinct-front s p.1 (values_of ps) l.serial h.1)),
    )

pub promotes : (s : ℕ) (ps : List (ℕ × Stored)) → EntriesHaveDistinctSerials ps → Promotes s ps (lru_promoted (eqb s) ps)
promotes s ps h = promotes_by s ps h (lookup_entry (eqb s) ps) refl (looked s ps h.0)

-- what the pairs are once a new form of the held entry of its serial has gone first
abbrev pub Replaces : Stored → List (ℕ × Stored) → List (ℕ × Stored) → Type 0
Replaces x ps qs = (values_of qs ≡ x ∷ without_serials (x.serial ∷ []) (values_of ps)) × EntriesHaveDistinctSerials qs

replaces_by : (x : Stored) (ps : List (ℕ × Stored)) → EntriesHaveDistinctSerials ps → holds_serial x.serial (values_of ps) ≡ true →
    (o : Option (ℕ × Stored)) → lookup_entry (eqb x.serial) ps ≡ o → Looked x.serial ps o →
    Replaces x ps (set_value (eqb x.serial) (lru_promoted (eqb x.serial) ps) x)
replaces_by x ps h m None e l = absurd (cc)
replaces_by x ps h m (Some p) e l =
    let s = x.serial in
    let r = removed_is s ps h in
    rw e (rw l.passes (
      ap (λ es. x ∷ es) r,
      ((l.keyed ∙ l.serial, keyed-removed s ps h.0), subst (λ es. SerialsAreDistinct (serials (x ∷ es))) (sym r) (distinct-front s x (values_of ps) refl h.1)),
    ))

pub replaces : (x : Stored) (ps : List (ℕ × Stored)) → EntriesHaveDistinctSerials ps → holds_serial x.serial (values_of ps) ≡ true →
    Replaces x ps (set_value (eqb x.serial) (lru_promoted (eqb x.serial) ps) x)
replaces x ps h m = replaces_by x ps h m (lookup_entry (eqb x.serial) ps) refl (looked x.serial ps h.0)

pub keyed-take : (n : ℕ) (ps : List (ℕ × Stored)) → EntriesHaveTheirSerials ps → EntriesHaveTheirSerials (take n ps)
keyed-take zero ps h = tt
keyed-take (suc n) [] h = tt
keyed-take (suc n) (p ∷ ps) h = (h.0, keyed-take n ps h.1)

pub values-take : (n : ℕ) (ps : List (ℕ × Stored)) → values_of (take n ps) ≡ take n (values_of ps)
values-take zero ps = refl
values-take (suc n) [] = refl
values-take (suc n) (p ∷ ps) = ap (λ es. p.1 ∷ es) (values-take n ps)

pub apart-take : (n : ℕ) (ps : List (ℕ × Stored)) → EntriesHaveDistinctSerials ps → EntriesHaveDistinctSerials (take n ps)
apart-take n ps h = (
  keyed-take n ps h.0,
  subst (λ es. SerialsAreDistinct (serials es)) (sym (values-take n ps)) (SerialsAreDistinct-take n (values_of ps) h.1),
)

pub length-values : (ps : List (ℕ × Stored)) → length (values_of ps) ≡ length ps
length-values [] = refl
length-values (p ∷ ps) = ap suc (length-values ps)

pub slice_get-values : (ps : List (ℕ × Stored)) (i : ℕ) → slice_get (values_of ps) i ≡ option_map (λ p. p.1) (slice_get ps i)
slice_get-values [] i = refl
slice_get-values (p ∷ ps) zero = refl
slice_get-values (p ∷ ps) (suc i) = slice_get-values ps i

pub apart-more : (x : Stored) (ps : List (ℕ × Stored)) → holds_serial x.serial (values_of ps) ≡ false → EntriesHaveDistinctSerials ps → EntriesHaveDistinctSerials ((x.serial, x) ∷ ps)
apart-more x ps m h = ((refl, h.0), (m, h.1))

-- the last of them
pub last-values : (ps : List (ℕ × Stored)) → option_map (λ p. p.1) (last_entry ps) ≡ slice_get (values_of ps) (length (values_of ps) - 1)
last-values ps =
    sym (slice_get-values ps (length ps - 1)) ∙ ap (λ n. slice_get (values_of ps) (n - 1)) (sym (length-values ps))

absent : (s : ℕ) (ps : List (ℕ × Stored)) (o : Option (ℕ × Stored)) → holds_serial s (values_of ps) ≡ false → Looked s ps o → o ≡ None
absent s ps None m l = refl
absent s ps (Some p) m l = absurd (false≢true (sym m ∙ l.held))

-- a cache with room puts a new pair first
pub stores : (k : ℕ) (x : Stored) (c : LruCache ℕ Stored) → k ≡ x.serial → EntriesHaveDistinctSerials c.entries → length c.entries < c.cap →
    holds_serial x.serial (values_of c.entries) ≡ false → (put_entries eqb c k x ≡ (k, x) ∷ c.entries) × EntriesHaveDistinctSerials (put_entries eqb c k x)
stores k x c e h room m =
    let n : lookup_entry (eqb k) c.entries ≡ None = absent k c.entries _ (ap (λ z. holds_serial z (values_of c.entries)) e ∙ m) (looked k c.entries h.0) in
    let t : take (c.cap - 1) c.entries ≡ c.entries = take_all (c.cap - 1) c.entries (omega arith) in
    rw n (rw t (refl, ((e, h.0), (m, h.1))))
