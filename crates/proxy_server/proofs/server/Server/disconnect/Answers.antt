use Rattle.std.proofs.Common.{ℕ, refl, sym, ap, subst, ◌∙◌}
use Rattle.std.specs.Prelude.{◌<◌}
use Rattle.hx_fields.specs.declared.limits.TheConstants.{START_OF_YEAR_10000}
use Rattle.proxy_engine.specs.Happenings.{model_of_happening}
use Rattle.proxy_turn.specs.Counts.{calls}
use Rattle.proxy_server.proofs.Losing.{taken_here, refused_here, lost_from_view, end_on, none_on, loss_of_end, did_well}
use Rattle.proxy_server.proofs.server.Server.disconnect.Goals as goal

pub invariant_of-self : goal.invariant_of-self
invariant_of-self g c =
    let losses = c.a_turn_is_served_after_end_losses.ensures in
    let loss = loss_of_end c.args.end c.args.kind c.happening_of_lost_end.result c.in-Some.happening c.in-Some.is c.happening_of_lost_end.ensures in
    let took = did_well c.take.result (sym c.is_ok.ensures.value ∙ c.if-is_ok.true) c.take.ensures.ok in
    let lost = losses.one c.self.inside.engine c.take.new.self (model_of_happening c.in-Some.happening) loss took in (
      c.a_reachable_engine_stays_reachable.ensures.executed c.self.inside.engine c.take.new.self (losses.on c.self.inside.engine c.take.new.self lost) c.self.invariant.0,
      subst (λ (moment : ℕ). moment < START_OF_YEAR_10000) (sym (ap (λ r. r.moment) c.record_between_turns.ensures.rest)) c.self.invariant.1,
    )

pub returns-then-is_ok-clause-loses : goal.returns-then-is_ok-clause-loses
returns-then-is_ok-clause-loses g c =
    let rest = c.record_between_turns.ensures.rest in
    lost_from_view c.args.end c.args.kind _ c.args.self.now _ c.self.view_is
    (taken_here c.args.end c.args.kind c.happening_of_lost_end.result c.in-Some.happening _ _ c.take.result (sym c.is_ok.ensures.value ∙ c.if-is_ok.true) c.in-Some.is c.happening_of_lost_end.ensures
    c.take.ensures.ok c.record_between_turns.ensures.kept c.record_between_turns.ensures.noted
    (ap (λ r. r.taken) rest) (ap (λ r. r.moment) rest) refl (ap (λ r. calls r.accepts r.reads r.failures) rest))

pub returns-then-is_ok-clause-on : goal.returns-then-is_ok-clause-on
returns-then-is_ok-clause-on g c = end_on c.args.end c.args.kind c.args.self.now _ c.requires (returns-then-is_ok-clause-loses g c)

pub returns-else-is_ok-clause-loses : goal.returns-else-is_ok-clause-loses
returns-else-is_ok-clause-loses g c =
    lost_from_view c.args.end c.args.kind _ c.args.self.now _ c.self.view_is
    (refused_here c.args.end c.args.kind c.happening_of_lost_end.result c.in-Some.happening _ c.take.new.self c.take.result (sym c.is_ok.ensures.value ∙ c.if-is_ok.false) c.in-Some.is c.happening_of_lost_end.ensures
    c.take.ensures.memory c.take.ensures.fault c.take.ensures.unchanged)

pub returns-else-is_ok-clause-on : goal.returns-else-is_ok-clause-on
returns-else-is_ok-clause-on g c = end_on c.args.end c.args.kind c.args.self.now _ c.requires (returns-else-is_ok-clause-loses g c)

pub returns-in_default-clause-on : goal.returns-in_default-clause-on
returns-in_default-clause-on g c = none_on c.args.self.now c.args.self.now refl
