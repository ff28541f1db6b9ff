use Rattle.std.proofs.Common.{◌≡◌, List, Option, ℕ, ap, sym, subst, ◌∙◌}
use Rattle.hx_store.specs.Stored.{Stored}
use Rattle.hx_store.specs.Weights.{StoreBounds}
use Rattle.proxy_core.specs.State.{State, NoSerialIsHeldFrom, next_serial_after_storing}
use Rattle.proxy_core.specs.Pending.{serial_stored_by_change, entries_after_change, StoresUnderNextSerial, FreshensHeldResponse}
use Rattle.proxy_core.proofs.Held.{NoneFrom-finished}
use Rattle.proxy_core.proofs.core_state.Core.finish.Goals as goal

pub invariant_of-self-2 : goal.invariant_of-self-2
invariant_of-self-2 g c =
    let s = c.self.inside in
    let pending = c.args.pending in
    let is : StoresUnderNextSerial s.next pending.change = subst (λ (z : State). StoresUnderNextSerial z.next pending.change) (sym c.self.view_is) c.requires.next in
    let held : FreshensHeldResponse pending.change (g.S.Shelf.entries s.shelf) = subst (λ (z : State). FreshensHeldResponse pending.change z.entries) (sym c.self.view_is) c.requires.held in
    let next_is : c.next_serial_after_storing-self-inside.result ≡ next_serial_after_storing s.next (serial_stored_by_change pending.change) = c.next_serial_after_storing-self-inside.ensures ∙ ap (next_serial_after_storing s.next) c.stored-stored.ensures in
    let bounds : StoreBounds = record { entries = g.S.Shelf.limit s.shelf; bytes = c.max_store-most.result } in
    let entries_is : g.S.Shelf.entries c.change_shelf.new.shelf ≡ entries_after_change bounds pending.removed pending.change (g.S.Shelf.entries s.shelf) =
    c.in-Ok.ensures.ok ∙ ap (λ (gone : List ℕ). entries_after_change bounds gone pending.change (g.S.Shelf.entries s.shelf)) c.as_slice.ensures in
    subst (λ (n : Option ℕ). NoSerialIsHeldFrom n (g.S.Shelf.entries c.change_shelf.new.shelf)) (sym next_is)
    (subst (λ (es : List Stored). NoSerialIsHeldFrom (next_serial_after_storing s.next (serial_stored_by_change pending.change)) es) (sym entries_is)
    (NoneFrom-finished bounds s.next pending.removed pending.change (g.S.Shelf.entries s.shelf) is held c.self.invariant))
