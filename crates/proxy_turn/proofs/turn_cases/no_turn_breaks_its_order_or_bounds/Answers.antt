use Rattle.std.proofs.Common.{◌≡◌, ◌⊎◌, inl, inr, [], ◌∷◌, sym, ◌∙◌, ap, arith}
use Rattle.std.proofs.lemmas.Bool.{false≢true}
use Rattle.hx_status.specs.declared.cause.FailKind.TheVariants as kinds
use Rattle.proxy_engine.specs.Reading.{readable_ends_of}
use Rattle.proxy_turn.specs.Turn.{Came, Failed}
use Rattle.proxy_turn.proofs.turn_cases.no_turn_breaks_its_order_or_bounds.Goals as goal

pub returns-clause-acts : goal.returns-clause-acts
returns-clause-acts c now s t asked reads rest rounds h more = omega (arith, h.bound, more)

pub returns-clause-listener : goal.returns-clause-listener
returns-clause-listener c now s t asked reads rest rounds h none asks = false≢true (sym none ∙ h.only asks)

pub returns-clause-ends : goal.returns-clause-ends
returns-clause-ends c now s t read reads rest rounds h none =
    let never : read.end ∷ _ ≡ [] = h.ends ∙ ap readable_ends_of h.accepts ∙ none in
    absurd (cc)

pub returns-clause-order : goal.returns-clause-order
returns-clause-order c now s t asked reads end rest round rounds h = by_way h.behind
  where
    by_way : ((end ∷ rest) ≡ []) ⊎ ((round ∷ rounds) ≡ []) → ⊥
    by_way (inl none) = absurd (cc)
    by_way (inr none) = absurd (cc)

pub returns-clause-pieces : goal.returns-clause-pieces
returns-clause-pieces c bytes more few = omega (arith, more, few)

pub returns-clause-whole : goal.returns-clause-whole
returns-clause-whole c s t asked reads end rest rounds report h = let never : end ∷ rest ≡ [] = h.rest_is in absurd (cc)

pub returns-clause-counts : goal.returns-clause-counts
returns-clause-counts c s t asked reads rest rounds report h = (λ differ. differ h.works, λ differ. differ h.reads_are, λ differ. differ h.accepted)

pub returns-clause-failure : goal.returns-clause-failure
returns-clause-failure c s t reads rest rounds h = let never : Came ≡ Failed = h.0 in absurd (cc)

pub returns-clause-lost : goal.returns-clause-lost
returns-clause-lost c s t bytes about more h = false≢true (sym h.0)

pub returns-clause-passed : goal.returns-clause-passed
returns-clause-passed c s t bytes about more h = false≢true h.0

pub returns-clause-refused : goal.returns-clause-refused
returns-clause-refused c bytes about h = let never : kinds.Refused ≡ kinds.Closed = h in absurd (cc)

pub returns-clause-bytes_are_no_loss : goal.returns-clause-bytes_are_no_loss
returns-clause-bytes_are_no_loss c h = h

pub returns-clause-answers_are_no_loss : goal.returns-clause-answers_are_no_loss
returns-clause-answers_are_no_loss c h = h

pub returns-clause-a_connection_is_no_loss : goal.returns-clause-a_connection_is_no_loss
returns-clause-a_connection_is_no_loss c h = h

pub returns-clause-an_end_is_no_loss : goal.returns-clause-an_end_is_no_loss
returns-clause-an_end_is_no_loss c h = h

pub returns-clause-a_shut_link_is_no_loss : goal.returns-clause-a_shut_link_is_no_loss
returns-clause-a_shut_link_is_no_loss c h = h
