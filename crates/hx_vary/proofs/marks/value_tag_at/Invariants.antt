use Rattle.std.proofs.Common.{◌≡◌, drop}
use Rattle.hx_vary.specs.Marks.{value_tag_at, tags_of_values}
use Rattle.hx_vary.proofs.marks.value_tag_at.Given as goal

abbrev pub invariant-loop-kept : goal.invariant-loop-kept
invariant-loop-kept l = value_tag_at l.left (tags_of_values l.seed (drop l.kept-index l.values)) ≡ value_tag_at l.place (tags_of_values l.seed l.values)
