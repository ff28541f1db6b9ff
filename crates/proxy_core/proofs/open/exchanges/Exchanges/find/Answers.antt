use Rattle.std.proofs.Common.{ap, sym, ◌∙◌}
use Rattle.std.specs.Prelude.{option_copied}
use Rattle.proxy_core.specs.Outcomes.{find_exchange}
use Rattle.proxy_core.proofs.Arrivals.{found, not_found}
use Rattle.proxy_core.proofs.open.exchanges.Exchanges.find.Goals as goal

pub returns-in_err-get : goal.returns-in_err-get
returns-in_err-get c =
    let s = c.self.inside in
    ap option_copied c.from_residual.ensures
    ∙ (sym (not_found c.args.id s.by_arrival.entries (sym (c.self.invariant.indexes.ids.indexed c.args.id) ∙ sym c.in_err-get.ensures.value))
    ∙ ap (find_exchange c.args.id) c.self.view_is)

pub returns : goal.returns
returns c =
    let s = c.self.inside in
    c.get-2.ensures.value
    ∙ (found c.args.id c.in_ok-get.field-0.now s.by_arrival.entries c.self.invariant.indexes.ids.apart (sym (c.self.invariant.indexes.ids.indexed c.args.id) ∙ sym c.in_ok-get.ensures.value)
    ∙ ap (find_exchange c.args.id) c.self.view_is)
