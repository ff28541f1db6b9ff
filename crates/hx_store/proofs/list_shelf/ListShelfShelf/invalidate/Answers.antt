use Rattle.std.proofs.Common.{rules, ◌≡◌, not, ap, ◌∙◌}
use Rattle.std.proofs.lemmas.Fn.{filter_same}
use Rattle.hx_target.specs.Keys.{same_key}
use Rattle.hx_store.specs.Shelf.{ShelfModel, entries_without_key}
use Rattle.hx_store.proofs.EntryLists.{sound_filter}
use Rattle.hx_store.proofs.list_shelf.ListShelfShelf.invalidate.Goals as goal

kept : (c : goal.After-len) → c.retain.new.self.items ≡ entries_without_key c.args.key.now c.self.inside.entries.items
kept c = filter_same _ (λ e. not (same_key e.key c.args.key.now)) _ (λ x b f' k. search rules) _ _ c.retain.ensures.filtered

pub invariant_of-self : goal.invariant_of-self
invariant_of-self c = sound_filter _ (λ e. not (same_key e.key c.args.key.now)) _ _ (kept c) c.self.invariant

pub returns-clause-entries : goal.returns-clause-entries
returns-clause-entries c = kept c ∙ ap (λ (v : ShelfModel). entries_without_key c.args.key.now v.entries) c.self.view_is
