use Rattle.std.proofs.Common.{sym, ◌∙◌, not, subst}
use Rattle.hx_fields.specs.FieldLines.{is_named}
use Rattle.hx_fields.specs.NamePlaces.{PlaceOfEachNameIsMarked}
use Rattle.hx_fields.proofs.Others.{all_others}
use Rattle.hx_fields.proofs.SamePlaces.{marked_left}
use Rattle.hx_fields.proofs.field_lines.Fields.remove_named.Goals as goal

pub returns-else-has : goal.returns-else-has
returns-else-has c = sym (all_others (is_named c.args.name.now) c.args.self.now (sym c.has.ensures ∙ c.if-has.false))

pub invariant_of-self : goal.invariant_of-self
invariant_of-self c =
    let marks = c.self.inside.places.marks in
    subst (PlaceOfEachNameIsMarked marks) (sym c.retain_others.ensures)
    (marked_left marks (λ f. not (is_named c.args.name.now f)) c.self.inside.lines.items c.self.invariant)
