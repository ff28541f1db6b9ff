use Rattle.std.proofs.Common.{true, refl}
use Rattle.proxy_engine.specs.EngineModel.{with_changed_connection}
use Rattle.proxy_engine.specs.Acts.{connection_with_closed}
use Rattle.proxy_engine.proofs.Acting.{closed_served, emitted_one}
use Rattle.proxy_engine.proofs.steps.serving.shut.Goals as goal

pub returns-clause-ok : goal.returns-clause-ok
returns-clause-ok c = λ s links core first now a w h. record {
  after = with_changed_connection s c.args.i (connection_with_closed true);
  does = closed_served s now c.args.i a c.put.new.effects.items (with_changed_connection s c.args.i (connection_with_closed true)) w (emitted_one c.in_ok-effects.effects.items c.put.new.effects.items _ (rw c.number_at-number.ensures at c.put.ensures.items) c.in_ok-effects.ensures.items, refl);
  represents = c.close_at.ensures.represents s links core first h;
}
