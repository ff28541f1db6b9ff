use Rattle.std.proofs.Common.{arith}
use Rattle.hx_fields.proofs.LineParts.{line_of_part}
use Rattle.hx_fields.proofs.field_line.Field.part_of.Goals as goal

pub returns : goal.returns
returns c =
    line_of_part c.args.head.now c.in_ok-part.field-0 c.args.name.0 c.args.name.1 c.args.value.0 c.args.value.1
    c.in_ok-place_in_line.field-0 c.in_ok-place_in_line-2.field-0 c.requires.name (omega arith) c.requires.value
    c.in_ok-part.ensures c.in_ok-place_in_line.ensures c.in_ok-place_in_line-2.ensures
