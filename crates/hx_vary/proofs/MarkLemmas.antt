-- What a request matches isn't passed over by its tags.
use Rattle.std.proofs.Common.{◌≡◌, ℕ, ◌-◌, Bool, true, false, cond, eqb, List, [], ◌∷◌, Option, None, Some, refl, sym, ◌∙◌, ap, inl, inr}
use Rattle.std.proofs.lemmas.Bool.{and_parts, cases_Bool, false≢true, or_right}
use Rattle.std.proofs.lemmas.Slice.Eq.{bytes_eq-Decides}
use Rattle.hx_fields.specs.FieldLines.{combined_of}
use Rattle.hx_fields.specs.Line.{Field}
use Rattle.hx_vary.specs.declared.nominated_values.NominatedValue.{NominatedValue}
use Rattle.hx_vary.specs.Vary.{is_same_value, vary_matches}
use Rattle.hx_vary.specs.Marks.{RequestValuesHaveTags, mark_of_values, vary_tag_may_match, mark_may_match, value_tag_at, tags_with_value, value_tag, tags_of_values}

same_value : (value : List ℕ) (other : Option (List ℕ)) → is_same_value (Some value) other ≡ true → other ≡ Some value
same_value value None h = absurd (false≢true h)
same_value value (Some w) h = ap Some (sym ((bytes_eq-Decides value w).0 h))

passes : (seed : ℕ) (has : ℕ → Bool) (rest : List ℕ) (value : Option (List ℕ)) → ((v : List ℕ) → value ≡ Some v → has (value_tag seed v) ≡ true) →
    ((n : ℕ) → vary_tag_may_match has (value_tag_at n rest) ≡ true) → (n : ℕ) → vary_tag_may_match has (value_tag_at n (tags_with_value seed rest value)) ≡ true
passes seed has rest None h more n = more n
passes seed has rest (Some v) h more n =
    elim (eqb n 0) as (λ b. vary_tag_may_match has (cond b (value_tag seed v) (value_tag_at (n - 1) rest)) ≡ true) [
      | true ↦ or_right (eqb (value_tag seed v) 0) (has (value_tag seed v)) (h v refl)
      | false ↦ more (n - 1)
    ]

each_passes : (seed : ℕ) (kept : List NominatedValue) (request : List Field) (has : ℕ → Bool) → RequestValuesHaveTags seed request has →
    vary_matches kept request ≡ true → (n : ℕ) → vary_tag_may_match has (value_tag_at n (tags_of_values seed kept)) ≡ true
each_passes seed [] request has tags h n = refl
each_passes seed (k ∷ kept) request has tags h n =
    let p = and_parts (is_same_value k.value (combined_of request k.name)) (vary_matches kept request) h in
    passes seed has (tags_of_values seed kept) k.value
    (λ v e. tags k.name v (same_value v (combined_of request k.name) (ap (λ o. is_same_value o (combined_of request k.name)) (sym e) ∙ p.0)))
    (each_passes seed kept request has tags p.1) n

pub misses_nothing : (seed : ℕ) (kept : List NominatedValue) (request : List Field) (has : ℕ → Bool) → RequestValuesHaveTags seed request has →
    vary_matches kept request ≡ true → mark_may_match has (mark_of_values seed kept) ≡ true
misses_nothing seed kept request has tags h =
    let m = each_passes seed kept request has tags h in
    rw (m 0, m 1, m 2, m 3) refl

pub never_0 : (hash : ℕ) → eqb (cond (eqb hash 0) 1 hash) 0 ≡ false
never_0 hash = elim (cases_Bool (eqb hash 0)) [
  | inl t ↦ ap (λ b. eqb (cond b 1 hash) 0) t
  | inr f ↦ ap (λ b. eqb (cond b 1 hash) 0) f ∙ f
]
