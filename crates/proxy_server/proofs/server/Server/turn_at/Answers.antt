use Rattle.std.proofs.Common.{◌≡◌, ℕ, refl, sym, ap, subst, ◌∙◌}
use Rattle.std.specs.Prelude.{◌<◌}
use Rattle.hx_fields.specs.declared.limits.TheConstants.{START_OF_YEAR_10000}
use Rattle.proxy_turn.specs.Served.{EngineContinues}
use Rattle.proxy_server.specs.ServerState.{ServerState}
use Rattle.proxy_server.specs.Losses.{ServerTakesEndLosses}
use Rattle.proxy_server.specs.Serving.{server_accept_bounds}
use Rattle.proxy_server.proofs.Living.{turned_over}
use Rattle.proxy_server.proofs.server.Server.turn_at.Given.{Over}
use Rattle.proxy_server.proofs.server.Server.turn_at.Goals as goal
use Rattle.proxy_server.proofs.server.Server.turn_at.Goals.{After-turn_over_given_ends}

turned : (g : Over) (c : After-turn_over_given_ends g) → EngineContinues c.self.inside.engine c.turn_over_given_ends.new.engine
turned g c =
    let losses = c.a_turn_is_served_after_end_losses.ensures in
    let e = c.self.inside.engine in
    c.a_reachable_engine_stays_reachable.ensures.turns e c.turn_over_given_ends.new.engine c.args.now server_accept_bounds c.turn_over_given_ends.result (losses.served e e c.turn_over_given_ends.new.engine c.args.now server_accept_bounds _ _ _ _ c.turn_over_given_ends.result (losses.none e) (λ s represents orderly. let both = c.turn_over_given_ends.ensures.turns s represents orderly in both.turns))

-- the moment of the turn stays
stays : (g : Over) (c : After-turn_over_given_ends g) → c.turn_over_given_ends.new.sockets.moment ≡ c.self.inside.ends.moment
stays g c =
    let reached = c.self.invariant.0 in
    let runs = c.a_reachable_engine_stays_reachable.ensures.runs c.self.inside.engine reached.held reached.first reached.link reached.steps reached.last reached.executed in
    let both = c.turn_over_given_ends.ensures.turns reached.last reached.executed.represents runs.0 in
    both.calls.5

pub invariant_of-self : goal.invariant_of-self
invariant_of-self g c = (
  c.a_reachable_engine_stays_reachable.ensures.executed c.self.inside.engine c.turn_over_given_ends.new.engine (turned g c) c.self.invariant.0,
  subst (λ (moment : ℕ). moment < START_OF_YEAR_10000) (sym (stays g c)) c.self.invariant.1,
)

pub returns : goal.returns
returns g c =
    let losses = c.a_turn_is_served_after_end_losses.ensures in
    turned_over losses.order c.args.self.now _ _ c.args.now c.requires.moment _ _ c.turn_over_given_ends.result
    (subst (ServerTakesEndLosses c.args.self.now) (sym (c.self.view_is ∙ c.take_ready_ends.ensures)) c.hand_in.ensures) refl
    (λ s represents orderly. let both = c.turn_over_given_ends.ensures.turns s represents orderly in record {
      turns = both.turns;
      calls = record { fails = both.calls.0; below = both.calls.1; passes = both.calls.3; stays = both.calls.5; notes = both.calls.4 };
    })
