use Rattle.hx_allow.proofs.Loops.{seldom_as_before, forwarded_as_before, earlier_as_before}
use Rattle.hx_allow.proofs.loop_laws.only_refused_loops_change_the_verdict.Goals as goal

pub returns : goal.returns
returns c = record {
  seldom = λ table method target fields seldom. seldom_as_before table method target fields seldom;
  forwarded = λ table method target fields goes. forwarded_as_before table method target fields goes;
  earlier_versions = λ t table method target fields before is. earlier_as_before t table method target fields before is;
}
