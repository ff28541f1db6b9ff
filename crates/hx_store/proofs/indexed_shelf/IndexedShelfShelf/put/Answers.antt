use Rattle.std.proofs.Common.{rules, arith, ◌≡◌, false, not, ◌∷◌, ap, ◌∙◌, take, slice_get}
use Rattle.hx_store.specs.Serials.{serial_is_in}
use Rattle.hx_store.specs.Shelf.{holds_serial, without_serials}
use Rattle.hx_store.proofs.EntryLists.{length-filter_le}
use Rattle.hx_store.proofs.IndexedLists.{put-stands}
use Rattle.hx_store.proofs.indexed_shelf.IndexedShelfShelf.put.Goals as goal

pub evict_last_beyond_capacity-requires : goal.evict_last_beyond_capacity-requires
evict_last_beyond_capacity-requires c =
    let es = c.self.inside.held in
    let stored : c.store.new.self ≡ c.args.entry ∷ es = search rules in
    let new : holds_serial c.args.entry.serial es ≡ false = ap (λ v. holds_serial c.args.entry.serial v.entries) c.self.view_is ∙ c.requires in
    let stands = put-stands c.args.entry c.args.replaced.now es c.store.new.self c.remove_serials_but_one.new.self c.entry.inside.serial
    (ap (λ e. e.serial) c.entry.view_is) stored c.remove_serials_but_one.ensures new in
    let l = length-filter_le (λ e. not (serial_is_in e.serial c.args.replaced.now)) es in
    let i = c.self.invariant in
    rw stands (omega arith)

pub returns-clause-ok : goal.returns-clause-ok
returns-clause-ok c =
    let es = c.self.inside.held in
    let stored : c.store.new.self ≡ c.args.entry ∷ es = search rules in
    let new : holds_serial c.args.entry.serial es ≡ false = ap (λ v. holds_serial c.args.entry.serial v.entries) c.self.view_is ∙ c.requires in
    let stands = put-stands c.args.entry c.args.replaced.now es c.store.new.self c.remove_serials_but_one.new.self c.entry.inside.serial
    (ap (λ e. e.serial) c.entry.view_is) stored c.remove_serials_but_one.ensures new in
    c.evict_last_beyond_capacity.ensures.entries ∙ ap (take c.self.inside.capacity) stands
    ∙ ap (λ v. take v.limit (c.args.entry ∷ without_serials c.args.replaced.now v.entries)) c.self.view_is

pub returns-clause-evicted : goal.returns-clause-evicted
returns-clause-evicted c =
    let es = c.self.inside.held in
    let stored : c.store.new.self ≡ c.args.entry ∷ es = search rules in
    let new : holds_serial c.args.entry.serial es ≡ false = ap (λ v. holds_serial c.args.entry.serial v.entries) c.self.view_is ∙ c.requires in
    let stands = put-stands c.args.entry c.args.replaced.now es c.store.new.self c.remove_serials_but_one.new.self c.entry.inside.serial
    (ap (λ e. e.serial) c.entry.view_is) stored c.remove_serials_but_one.ensures new in
    c.evict_last_beyond_capacity.ensures.gone ∙ ap (λ zs. slice_get zs c.self.inside.capacity) stands
    ∙ ap (λ v. slice_get (c.args.entry ∷ without_serials c.args.replaced.now v.entries) v.limit) c.self.view_is
