-- What a map from keys to maps of marks says of the serials at each key.
use Rattle.std.proofs.Common.{None, Some, ◌≡◌, ℕ, true, false, cond, Option, List, [], ◌∷◌, refl, sym, ◌∙◌, ap, inl, inr}
use Rattle.std.specs.Prelude.{unwrap_or}
use Rattle.std.specs.Option.{ForSome}
use Rattle.std.specs.Ordering.{nat_cmp, match_ordering}
use Rattle.std.specs.declared.cmp.Ordering.{Ordering}
use Rattle.std.specs.declared.cmp.Ordering.TheVariants.{Less, Equal, Greater}
use Rattle.std.specs.BTreeMap.{insert_entry}
use Rattle.std.specs.HashMap.{get}
use Rattle.std.proofs.lemmas.Bool.{cases_Bool, false≢true, eq-eqb, or_left}
use Rattle.std.specs.Map.{lookup}
use Rattle.std.proofs.lemmas.Option.{same_Some}
use Rattle.hx_vary.specs.declared.marks.VariantMark.{VariantMark}
use Rattle.hx_target.specs.declared.keys.Key.{Key}
use Rattle.hx_target.specs.Keys.{same_key}
use Rattle.hx_target.specs.KeyHash.{same_keys_are_equal}
use Rattle.hx_store.specs.declared.key_index.KeyIndex.{KeyIndex}
use Rattle.hx_store.specs.Serials.{serial_is_in, insert_ascending}
use Rattle.hx_store.specs.Index.{serials_and_marks_at, IsSameKeyIndex, IndexHasNoEmptyKey, IndexHasNoEmptyKeyExcept}
use Rattle.hx_store.proofs.FoundSerials.{is_in-insert}

abbrev pub entries_or_none : Option (List (ℕ × VariantMark)) → List (ℕ × VariantMark)
entries_or_none o = unwrap_or o []

-- a map that has w at a key, and else what it had
pub written : (key : Key) (old new : KeyIndex) (w : Option (List (ℕ × VariantMark))) →
    ((q : Key) → get same_key new.serials q ≡ cond (same_key key q) w (get same_key old.serials q)) →
    (q : Key) → serials_and_marks_at new q ≡ cond (same_key key q) (entries_or_none w) (serials_and_marks_at old q)
written key old new w h q =
    let g = get same_key old.serials q in
    ap entries_or_none (h q)
    ∙ (elim (same_key key q) as (λ b. entries_or_none (cond b w g) ≡ cond b (entries_or_none w) (entries_or_none g)) [ true ↦ refl | false ↦ refl ])

-- what is at the key is what f makes of what was there
pub changed : (f : List (ℕ × VariantMark) → List (ℕ × VariantMark)) (key : Key) (old new : KeyIndex) (ks : List (ℕ × VariantMark)) →
    ((q : Key) → serials_and_marks_at new q ≡ cond (same_key key q) ks (serials_and_marks_at old q)) → ks ≡ f (serials_and_marks_at old key) →
    (q : Key) → serials_and_marks_at new q ≡ cond (same_key key q) (f (serials_and_marks_at old q)) (serials_and_marks_at old q)
changed f key old new ks h e q = elim (cases_Bool (same_key key q)) [
  | inl t ↦ (
      h q ∙ ap (λ b. cond b ks (serials_and_marks_at old q)) t ∙ e ∙ ap (λ k. f (serials_and_marks_at old k)) (same_keys_are_equal key q t)
      ∙ sym (ap (λ b. cond b (f (serials_and_marks_at old q)) (serials_and_marks_at old q)) t)
      )
  | inr n ↦ h q ∙ ap (λ b. cond b ks (serials_and_marks_at old q)) n ∙ sym (ap (λ b. cond b (f (serials_and_marks_at old q)) (serials_and_marks_at old q)) n)
]

-- the same where f leaves it as it was
pub unchanged : (key : Key) (old new : KeyIndex) (ks : List (ℕ × VariantMark)) →
    ((q : Key) → serials_and_marks_at new q ≡ cond (same_key key q) ks (serials_and_marks_at old q)) → ks ≡ serials_and_marks_at old key → IsSameKeyIndex old new
unchanged key old new ks h e q =
    changed (λ xs. xs) key old new ks h e q
    ∙ (elim (same_key key q) as (λ b. cond b (serials_and_marks_at old q) (serials_and_marks_at old q) ≡ serials_and_marks_at old q) [ true ↦ refl | false ↦ refl ])

-- ---- no key is in the index for nothing

abbrev pub HasSome : List (ℕ × VariantMark) → Type 0
HasSome marks = marks ≡ [] → ⊥

pub not_nothing : (s : ℕ) (xs : List ℕ) → insert_ascending s xs ≡ [] → ⊥
not_nothing s xs h = false≢true (
    sym (ap (serial_is_in s) h)
    ∙ is_in-insert s s xs
    ∙ or_left _ _ (eq-eqb s s refl)
    )

not_empty : (s : ℕ) (m : VariantMark) (p : ℕ × VariantMark) (ps : List (ℕ × VariantMark)) (o : Ordering) →
    match_ordering o ((s, m) ∷ p ∷ ps) ((p.0, m) ∷ ps) (p ∷ insert_entry nat_cmp ps s m) ≡ [] → ⊥
not_empty s m p ps Less h = cc
not_empty s m p ps Equal h = cc
not_empty s m p ps Greater h = cc

pub not_unmarked : (s : ℕ) (m : VariantMark) (ps : List (ℕ × VariantMark)) → insert_entry nat_cmp ps s m ≡ [] → ⊥
not_unmarked s m [] h = cc
not_unmarked s m (p ∷ ps) h = not_empty s m p ps (nat_cmp s p.0) h

pub some_has : (set : List (ℕ × VariantMark)) → HasSome set → ForSome (Some set) HasSome
some_has set n x e k = n (same_Some set x e ∙ k)

pub trim-written : (key : Key) (old new : KeyIndex) (w : Option (List (ℕ × VariantMark))) →
    ((q : Key) → get same_key new.serials q ≡ cond (same_key key q) w (get same_key old.serials q)) → ForSome w HasSome → IndexHasNoEmptyKey old → IndexHasNoEmptyKey new
trim-written key old new w h n o q set e k =
    let g = get same_key old.serials q in
    elim (cases_Bool (same_key key q)) [
      | inl t ↦ n set (sym (h q ∙ ap (λ b. cond b w g) t) ∙ e) k
      | inr f ↦ o q set (sym (h q ∙ ap (λ b. cond b w g) f) ∙ e) k
    ]

pub trim-beside : (key : Key) (old new : KeyIndex) (w : Option (List (ℕ × VariantMark))) →
    ((q : Key) → get same_key new.serials q ≡ cond (same_key key q) w (get same_key old.serials q)) → IndexHasNoEmptyKey old → IndexHasNoEmptyKeyExcept key new
trim-beside key old new w h o q f set e k =
    let g = get same_key old.serials q in
    o q set (sym (h q ∙ ap (λ b. cond b w g) f) ∙ e) k

pub trim-removed : (key : Key) (mid new : KeyIndex) →
    ((q : Key) → get same_key new.serials q ≡ cond (same_key key q) None (get same_key mid.serials q)) → IndexHasNoEmptyKeyExcept key mid → IndexHasNoEmptyKey new
trim-removed key mid new h b q set e k =
    let g = get same_key mid.serials q in
    elim (cases_Bool (same_key key q)) [
      | inl t ↦ (
          let n : None ≡ Some set = sym (h q ∙ ap (λ b. cond b None g) t) ∙ e in
          absurd (cc)
          )
      | inr f ↦ b q f set (sym (h q ∙ ap (λ b. cond b None g) f) ∙ e) k
    ]

pub trim-same : (old new : KeyIndex) → new.serials.entries ≡ old.serials.entries → IndexHasNoEmptyKey old → IndexHasNoEmptyKey new
trim-same old new s o q set e k = o q set (ap (lookup (same_key q)) (sym s) ∙ e) k
