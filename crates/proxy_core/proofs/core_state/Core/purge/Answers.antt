use Rattle.std.proofs.Common.{sym, subst, ◌∙◌}
use Rattle.hx_allow.specs.PurgeModes.{request_purge_mode_or_remove}
use Rattle.proxy_core.specs.State.{NoSerialIsHeldFrom}
use Rattle.proxy_core.proofs.ExpiredEntries.{NoneFrom-purged}
use Rattle.proxy_core.proofs.core_state.Core.purge.Goals as goal

pub invariant_of-self : goal.invariant_of-self
invariant_of-self g c =
    subst (NoSerialIsHeldFrom c.self.inside.next) (sym c.take_each.ensures.entries) (NoneFrom-purged c.self.inside.next _ _ _ _ c.self.invariant)
