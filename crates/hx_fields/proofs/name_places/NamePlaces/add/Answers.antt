use Rattle.std.proofs.Common.{◌≡◌, ◌%◌, ◌*◌, ◌^◌, bit_or, w64, eqb, sym, subst, ◌∙◌, inl, inr}
use Rattle.std.specs.Int.{bit_at}
use Rattle.std.proofs.lemmas.Bool.{cases_Bool, eqb-true, eq-eqb, false≢true}
use Rattle.std.proofs.lemmas.Nat.Bits.{bit_at_set_same, bit_at_set_other}
use Rattle.hx_fields.proofs.name_places.NamePlaces.add.Goals as goal

pub returns-clause-added : goal.returns-clause-added
returns-clause-added c =
    let place = c.bit_place_of_name.result in
    subst (λ p. bit_at (bit_or c.args.self.now.marks (1 * 2 ^ place % 18446744073709551616)) p ≡ 1) c.bit_place_of_name.ensures.place
    (bit_at_set_same w64 c.args.self.now.marks place c.bit_place_of_name.ensures.within)

pub returns-clause-kept : goal.returns-clause-kept
returns-clause-kept c i h =
    let place = c.bit_place_of_name.result in
    elim (cases_Bool (eqb i place)) [
      | inl t ↦ subst (λ p. bit_at (bit_or c.args.self.now.marks (1 * 2 ^ place % 18446744073709551616)) p ≡ 1) (sym (eqb-true i place t)) (bit_at_set_same w64 c.args.self.now.marks place c.bit_place_of_name.ensures.within)
      | inr f ↦ bit_at_set_other w64 c.args.self.now.marks place c.bit_place_of_name.ensures.within i (λ e. false≢true (sym f ∙ eq-eqb i place e)) ∙ h
    ]
