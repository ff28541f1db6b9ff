use Rattle.std.proofs.Common.{◌≡◌, ℕ, ◌+◌, false, [], ◌∷◌, ap, sym, ◌∙◌, drop, eqb, get_or, inl, inr}
use Rattle.std.proofs.lemmas.Bool.{cases_Bool, eqb-true}
use Rattle.std.proofs.lemmas.List.{drop_all, drop_more}
use Rattle.hx_store.specs.Index.{entries_without_serials_but_one}
use Rattle.hx_store.proofs.IndexedLists.{others-none, others-same, others-step}
use Rattle.hx_store.proofs.indexed_entries.IndexedEntries.remove_serials_but_one.Goals.{then-serial-kept+in-Some-1, then-serial-kept+in-None-1, else-serial-kept}
use Rattle.hx_store.proofs.indexed_entries.IndexedEntries.remove_serials_but_one.Goals as goal

differs : (a b : ℕ) → (a ≡ b → ⊥) → eqb a b ≡ false
differs a b n = elim (cases_Bool (eqb a b)) [ inl t ↦ absurd (n (eqb-true a b t)) | inr f ↦ f ]

pub loop-serial-preserved : goal.loop-serial-preserved
loop-serial-preserved c = elim c.if-serial-kept.branch [
  | then-serial-kept+in-Some-1 w ↦ (
      let xs = c.args.gone.now in
      let i = c.loop-serial.serial-index in
      ap (entries_without_serials_but_one c.args.kept (drop (i + 1) xs)) (w.self-is ∙ w.remove.ensures.entries)
      ∙ others-step (get_or xs i 0) c.args.kept (drop (i + 1) xs) c.loop-serial.self (differs _ _ w.if-serial-kept.true)
      ∙ ap (λ ys. entries_without_serials_but_one c.args.kept ys c.loop-serial.self) (sym (drop_more xs i 0 c.loop-serial-test.true))
      ∙ c.loop-serial.invariant
      )
  | then-serial-kept+in-None-1 w ↦ (
      let xs = c.args.gone.now in
      let i = c.loop-serial.serial-index in
      ap (entries_without_serials_but_one c.args.kept (drop (i + 1) xs)) (w.self-is ∙ w.remove.ensures.entries)
      ∙ others-step (get_or xs i 0) c.args.kept (drop (i + 1) xs) c.loop-serial.self (differs _ _ w.if-serial-kept.true)
      ∙ ap (λ ys. entries_without_serials_but_one c.args.kept ys c.loop-serial.self) (sym (drop_more xs i 0 c.loop-serial-test.true))
      ∙ c.loop-serial.invariant
      )
  | else-serial-kept w ↦ (
      let xs = c.args.gone.now in
      let i = c.loop-serial.serial-index in
      ap (entries_without_serials_but_one c.args.kept (drop (i + 1) xs)) w.self-is
      ∙ others-same c.args.kept (drop (i + 1) xs) c.loop-serial.self
      ∙ ap (λ ys. entries_without_serials_but_one c.args.kept ys c.loop-serial.self)
      (sym (drop_more xs i 0 c.loop-serial-test.true ∙ ap (λ s. s ∷ drop (i + 1) xs) w.if-serial-kept.false))
      ∙ c.loop-serial.invariant
      )
]

pub returns : goal.returns
returns c =
    let end : drop c.loop-serial.serial-index c.args.gone.now ≡ [] = drop_all c.loop-serial.serial-index c.args.gone.now c.loop-serial-test.false in
    sym (ap (λ xs. entries_without_serials_but_one c.args.kept xs c.loop-serial.self) end ∙ others-none c.args.kept c.loop-serial.self) ∙ c.loop-serial.invariant
