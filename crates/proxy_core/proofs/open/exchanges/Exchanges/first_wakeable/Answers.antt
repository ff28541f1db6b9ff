use Rattle.std.proofs.Common.{◌≡◌, List, Some, None, slice_get, ap, sym, subst, ◌∙◌}
use Rattle.std.specs.Option.{option_map}
use Rattle.std.specs.Map.{values_of}
use Rattle.proxy_core.specs.declared.open.exchange.Exchange.{Exchange}
use Rattle.proxy_core.specs.Leading.{wakeable_ids}
use Rattle.proxy_core.specs.Waiting.{ExchangeMayBeWoken}
use Rattle.proxy_core.proofs.Arrivals.{first_found}
use Rattle.proxy_core.proofs.Releases.{first_is, none_is}
use Rattle.proxy_core.proofs.open.exchanges.Exchanges.first_wakeable.Goals as goal

pub returns-in_err-first-clause-value : goal.returns-in_err-first-clause-value
returns-in_err-first-clause-value c =
    let es = c.self.inside.by_arrival.entries in
    let none : None ≡ c.self.inside.released.first = c.in_err-first.ensures in
    c.from_residual.ensures ∙ sym (none_is es (sym (none ∙ c.self.invariant.releases.first_is)))
    ∙ ap (λ (xs : List Exchange). slice_get (wakeable_ids xs) 0) c.self.view_is

pub returns-in_err-get-clause-value : goal.returns-in_err-get-clause-value
returns-in_err-get-clause-value c =
    let es = c.self.inside.by_arrival.entries in
    let n = c.in_ok-first.field-0 in
    let first : Some n ≡ c.self.inside.released.first = c.in_ok-first.ensures in
    c.from_residual-in_err-get.ensures ∙ ap (option_map (λ (x : Exchange). x.id)) c.in_err-get.ensures.value
    ∙ first_is n es c.self.invariant.indexes.ids.apart (sym (first ∙ c.self.invariant.releases.first_is))
    ∙ ap (λ (xs : List Exchange). slice_get (wakeable_ids xs) 0) c.self.view_is

it_is : (c : goal.In_ok-get) → Some c.in_ok-get.field-0.now.id ≡ slice_get (wakeable_ids (values_of c.self.inside.by_arrival.entries)) 0
it_is c =
    let es = c.self.inside.by_arrival.entries in
    let n = c.in_ok-first.field-0 in
    let first : Some n ≡ c.self.inside.released.first = c.in_ok-first.ensures in
    ap (option_map (λ (x : Exchange). x.id)) c.in_ok-get.ensures.value
    ∙ first_is n es c.self.invariant.indexes.ids.apart (sym (first ∙ c.self.invariant.releases.first_is))

pub returns-clause-value : goal.returns-clause-value
returns-clause-value c = it_is c ∙ ap (λ (xs : List Exchange). slice_get (wakeable_ids xs) 0) c.self.view_is

pub returns-clause-ready : goal.returns-clause-ready
returns-clause-ready c =
    subst (ExchangeMayBeWoken c.in_ok-get.field-0.now.id) c.self.view_is
    (first_found c.in_ok-get.field-0.now.id c.self.inside.by_arrival.entries c.self.invariant.indexes.ids.apart (it_is c))
