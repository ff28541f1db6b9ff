use Rattle.std.proofs.Common.{◌+◌, rules, sym, ap, ◌∙◌, slice_range}
use Rattle.std.proofs.lemmas.List.{places}
use Rattle.hx_fields.proofs.Parts.{part_of_part}
use Rattle.hx_fields.proofs.byte_string.Part.part.Goals as goal

pub returns : goal.returns
returns c =
    let p = c.self.inside in
    ap (λ v. slice_range v.items (p.start + c.args.start) (p.start + c.args.end)) c.in_ok-clone.ensures.cases
    ∙ sym (part_of_part p.buffer.value.items p.start p.end c.args.start c.args.end c.requires.order (search (rules, places)))
    ∙ ap (λ l. slice_range l c.args.start c.args.end) c.self.view_is
