use Rattle.std.proofs.Common.{◌≡◌, Bool, true, false, eqb, [], sym, subst}
use Rattle.std.specs.Bool.{OnFalse}
use Rattle.std.specs.Int.{bit_at}
use Rattle.hx_fields.specs.FieldLines.{has_field, values_of}
use Rattle.hx_fields.specs.NamePlaces.{bit_place_of_name}
use Rattle.hx_fields.proofs.SamePlaces.{no_values, has_none}
use Rattle.hx_fields.proofs.field_lines.Fields.may_have.Goals as goal

-- what holds where the mark isn't there holds where the answer is no
no : (marked answer : Bool) (P : Type 0) → answer ≡ marked → (marked ≡ false → P) → OnFalse answer P
no marked true P e f = tt
no marked false P e f = f (sym e)

pub returns-clause-values : goal.returns-clause-values
returns-clause-values c =
    let name = c.args.name.now in
    let marks = c.self.inside.places.marks in
    no (eqb (bit_at marks (bit_place_of_name name)) 1) c.has.result (values_of c.args.self.now name ≡ []) c.has.ensures
    (λ f. subst (λ ls. values_of ls name ≡ []) c.self.view_is (no_values marks name c.self.inside.lines.items c.self.invariant f))

pub returns-clause-has : goal.returns-clause-has
returns-clause-has c =
    let name = c.args.name.now in
    let marks = c.self.inside.places.marks in
    no (eqb (bit_at marks (bit_place_of_name name)) 1) c.has.result (has_field c.args.self.now name ≡ false) c.has.ensures
    (λ f. subst (λ ls. has_field ls name ≡ false) c.self.view_is (has_none marks name c.self.inside.lines.items c.self.invariant f))
