use Rattle.std.proofs.Common.{rules, ◌∙◌}
use Rattle.hx_fields.proofs.Pieces.{separator_at}
use Rattle.hx_fields.proofs.cutting.next_member.Goals as goal

pub loop-start-preserved-then-is_separator : goal.loop-start-preserved-then-is_separator
loop-start-preserved-then-is_separator c = separator_at c.args.value.now c.loop-start.start (search rules) (search rules) ∙ c.loop-start.invariant
