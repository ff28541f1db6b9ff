use Rattle.std.proofs.Common.{refl, sym, ap, ◌∙◌, is_some}
use Rattle.proxy_engine.specs.Marked.{EndList}
use Rattle.proxy_engine.proofs.Shown.{none_from}
use Rattle.proxy_engine.proofs.Keeping.{seen_at}
use Rattle.proxy_engine.proofs.endpoints.marked_ends.MarkedEnds.at_mut.Goals as goal

pub change-requires : goal.change-requires
change-requires g c =
    let seen = seen_at c.self.inside.ends c.self.inside.count c.key.result c.args.self.now.items (ap (λ (v : EndList g.row.E.Denot). v.items) c.self.view_is) (rw c.key.ensures c.requires) in
    rw (← c.key.ensures) (sym (ap is_some seen.1) ∙ (sym c.contains_key.ensures ∙ c.if-not-contains_key.false))

pub returns-then-not-contains_key : goal.returns-then-not-contains_key
returns-then-not-contains_key g c =
    let seen = seen_at c.self.inside.ends c.self.inside.count c.key.result c.args.self.now.items (ap (λ (v : EndList g.row.E.Denot). v.items) c.self.view_is) (rw c.key.ensures c.requires) in rw (← c.key.ensures) (
      refl,
      record { writes_back = tt; value = sym (none_from _ (sym c.if-not-contains_key.true ∙ c.contains_key.ensures)) ∙ seen.1 },
    )
