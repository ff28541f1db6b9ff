use Rattle.std.proofs.Common.{sym, subst}
use Rattle.proxy_core.specs.State.{NoSerialIsHeldFrom}
use Rattle.proxy_core.proofs.Held.{NoneFrom-promoted, NoneFrom-cut}
use Rattle.proxy_core.proofs.core_state.Core.serve_stored.Goals as goal

pub invariant_of-self : goal.invariant_of-self
invariant_of-self g c =
    subst (NoSerialIsHeldFrom c.self.inside.next) (sym c.cut.ensures.entries)
    (NoneFrom-cut c.self.inside.next _ _ (NoneFrom-promoted c.self.inside.next _ _ _ c.promote.ensures.entries c.self.invariant))
