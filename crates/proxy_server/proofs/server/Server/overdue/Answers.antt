use Rattle.std.proofs.Common.{ℕ, refl, sym, ap, subst, ◌∙◌}
use Rattle.std.specs.Prelude.{◌<◌}
use Rattle.hx_fields.specs.declared.limits.TheConstants.{START_OF_YEAR_10000}
use Rattle.proxy_engine.specs.Happenings.{Overdues}
use Rattle.proxy_turn.specs.Counts.{calls}
use Rattle.proxy_server.proofs.Losing.{one_taken, one_refused, one_taken_on, did_well}
use Rattle.proxy_server.proofs.server.Server.overdue.Goals as goal

pub invariant_of-self : goal.invariant_of-self
invariant_of-self g c =
    let losses = c.a_turn_is_served_after_end_losses.ensures in
    let took = did_well c.take.result (sym c.is_ok.ensures.value ∙ c.if-is_ok.true) c.take.ensures.ok in
    let lost = losses.one c.self.inside.engine c.take.new.self (Overdues c.args.n) tt took in (
      c.a_reachable_engine_stays_reachable.ensures.executed c.self.inside.engine c.take.new.self (losses.on c.self.inside.engine c.take.new.self lost) c.self.invariant.0,
      subst (λ (moment : ℕ). moment < START_OF_YEAR_10000) (sym (ap (λ r. r.moment) c.record_between_turns.ensures.rest)) c.self.invariant.1,
    )

pub returns-then-is_ok-clause-overdue : goal.returns-then-is_ok-clause-overdue
returns-then-is_ok-clause-overdue g c =
    let rest = c.record_between_turns.ensures.rest in
    one_taken (Overdues c.args.n) _ c.args.self.now _ c.take.result c.self.view_is (sym c.is_ok.ensures.value ∙ c.if-is_ok.true) c.take.ensures.ok
    c.record_between_turns.ensures.kept c.record_between_turns.ensures.noted (ap (λ r. r.taken) rest) (ap (λ r. r.moment) rest) refl (ap (λ r. calls r.accepts r.reads r.failures) rest)

pub returns-then-is_ok-clause-on : goal.returns-then-is_ok-clause-on
returns-then-is_ok-clause-on g c = one_taken_on (Overdues c.args.n) c.args.self.now _ tt c.requires (returns-then-is_ok-clause-overdue g c)

pub returns-else-is_ok-clause-overdue : goal.returns-else-is_ok-clause-overdue
returns-else-is_ok-clause-overdue g c =
    one_refused (Overdues c.args.n) _ c.args.self.now c.take.new.self c.take.result c.self.view_is (sym c.is_ok.ensures.value ∙ c.if-is_ok.false) tt
    c.take.ensures.memory c.take.ensures.fault c.take.ensures.unchanged

pub returns-else-is_ok-clause-on : goal.returns-else-is_ok-clause-on
returns-else-is_ok-clause-on g c = one_taken_on (Overdues c.args.n) c.args.self.now _ tt c.requires (returns-else-is_ok-clause-overdue g c)
