use Rattle.std.proofs.Common.{◌∷◌, ◌++◌, [], List, ℕ, cond, ap, sym, ◌∙◌}
use Rattle.std.proofs.lemmas.List.{append-nil, append_assoc}
use Rattle.std.specs.Map.{values_of}
use Rattle.proxy_core.specs.declared.open.exchange.Exchange.{Exchange}
use Rattle.proxy_core.specs.Leading.{wakeable_ids}
use Rattle.proxy_core.proofs.open.exchanges.Exchanges.ready.Goals as goal

pub loop-x-init : goal.loop-x-init
loop-x-init c =
    ap wakeable_ids (sym c.self.view_is) ∙ (ap (λ (it : List (ℕ × Exchange)). wakeable_ids (values_of it)) (sym c.into_iter-x-iterator.ensures.into_iter_gives.0)
    ∙ ap (λ (ids : List ℕ). ids ++ wakeable_ids (values_of c.into_iter-x-iterator.result)) (sym c.new-ids.ensures))

pub loop-x-preserved-in-Continue-1 : goal.loop-x-preserved-in-Continue-1
loop-x-preserved-in-Continue-1 c =
    let rest = wakeable_ids (values_of c.next.new.self) in
    c.loop-x.invariant ∙ (ap (λ (it : List (ℕ × Exchange)). c.loop-x.ids ++ wakeable_ids (values_of it)) c.in-Some.ensures.steps
    ∙ (ap (λ b. c.loop-x.ids ++ cond b (c.in-Some.x.now.id ∷ rest) rest) (sym c.is_released.ensures ∙ c.if-is_released.true)
    ∙ (sym (append_assoc c.loop-x.ids (c.in-Some.x.now.id ∷ []) rest) ∙ ap (λ (ids : List ℕ). ids ++ rest) (sym c.in_ok-push.ensures.ok))))

pub loop-x-preserved : goal.loop-x-preserved
loop-x-preserved c =
    let rest = wakeable_ids (values_of c.next.new.self) in
    c.loop-x.invariant ∙ (ap (λ (it : List (ℕ × Exchange)). c.loop-x.ids ++ wakeable_ids (values_of it)) c.in-Some.ensures.steps
    ∙ ap (λ b. c.loop-x.ids ++ cond b (c.in-Some.x.now.id ∷ rest) rest) (sym c.is_released.ensures ∙ c.if-is_released.false))

pub returns : goal.returns
returns c =
    sym (c.loop-x.invariant ∙ (ap (λ (it : List (ℕ × Exchange)). c.loop-x.ids ++ wakeable_ids (values_of it)) c.in-None.ensures.steps.0 ∙ append-nil c.loop-x.ids))
