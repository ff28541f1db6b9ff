use Rattle.std.specs.BTreeMap.{values}
use Rattle.std.specs.HashSet.{contains}
use Rattle.std.specs.Prelude.{nat_eq}
use Rattle.hx_vary.specs.Marks.{value_tag}
use Rattle.hx_vary.proofs.ValueLemmas.{PassesOn}
use Rattle.hx_vary.proofs.request_values.tags_of_values.Given as goal

abbrev pub invariant-loop-value : goal.invariant-loop-value
invariant-loop-value l = PassesOn (λ v. contains nat_eq l.tags (value_tag l.seed v)) l.value-iterator (values l.values)
