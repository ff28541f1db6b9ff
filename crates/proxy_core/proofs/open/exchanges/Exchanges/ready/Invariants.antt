use Rattle.std.proofs.Common.{◌≡◌, ◌++◌}
use Rattle.std.specs.Map.{values_of}
use Rattle.proxy_core.specs.Leading.{wakeable_ids}
use Rattle.proxy_core.proofs.open.exchanges.Exchanges.ready.Given as goal

-- those of the exchanges that are left are still to come
abbrev pub invariant-loop-x : goal.invariant-loop-x
invariant-loop-x l = wakeable_ids l.self ≡ l.ids ++ wakeable_ids (values_of l.x-iterator)
