use Rattle.std.proofs.Common.{ℕ, subst, sym, Option}
use Rattle.std.specs.Prelude.{MatchOption}
use Rattle.hx_store.specs.SerialPlaces.{SerialIsInNoEntry, IsIndexOfSerial}
use Rattle.hx_store.specs.Shelf.{ShelfModel, serials}
use Rattle.hx_store.specs.Serials.{SerialsAreDistinct}
use Rattle.hx_store.proofs.EntryLists.{position_is}
use Rattle.hx_store.proofs.list_shelf.ListShelf.place.Goals as goal

pub returns : goal.returns
returns c =
    let es = c.args.self.now.entries in
    let d : SerialsAreDistinct (serials es) = subst (λ (v : ShelfModel). SerialsAreDistinct (serials v.entries)) c.self.view_is c.self.invariant.1 in
    let P : Option ℕ → Type 0 = λ r. MatchOption r (SerialIsInNoEntry c.args.serial es) (IsIndexOfSerial c.args.serial es) in
    subst P (sym c.first_index_with.ensures) (position_is c.args.serial es d)
