use Rattle.std.specs.List.{fold}
use Rattle.std.specs.Hash.{u64}
use Rattle.std.specs.Hash.DefaultHasher.{initial, write, finish}
use Rattle.hx_vary.proofs.MarkLemmas.{never_0}
use Rattle.hx_vary.proofs.laws.tag_of_a_value_is_never_0.Goals as goal

pub returns : goal.returns
unfolding Rattle.hx_vary.specs.Marks.value_tag
returns c = λ seed value. never_0 (finish (write (fold write initial (u64 seed)) value))
