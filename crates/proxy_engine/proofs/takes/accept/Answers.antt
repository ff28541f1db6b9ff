use Rattle.std.proofs.Common.{true, List, Option, sym, subst, ◌∙◌}
use Rattle.proxy_engine.specs.State.{EngineRepresents, engine_state_of_parts}
use Rattle.proxy_engine.specs.EngineModel.{model_after_happening}
use Rattle.proxy_engine.specs.Happenings.{Accepts}
use Rattle.proxy_engine.specs.declared.endpoints.ends.Connection.{Connection}
use Rattle.proxy_engine.proofs.Peeking.{no_request_yet}
use Rattle.proxy_engine.proofs.Taking.{opens_free, opens_refused, opens_full, accepted_more}
use Rattle.proxy_engine.proofs.takes.accept.Goals as goal

pub returns-then-not-is_next-clause-fault : goal.returns-then-not-is_next-clause-fault
returns-then-not-is_next-clause-fault c = λ s links core first h. opens_refused c.args.connections.now.items links core first s c.args.n _ c.is_next.ensures c.if-not-is_next.true h

pub returns-in-Err-clause-fault : goal.returns-in-Err-clause-fault
returns-in-Err-clause-fault c = λ s links core first h. opens_full c.args.connections.now.items links core first s c.args.n _ c.is_next.ensures c.if-not-is_next.false h

pub returns-in-Ok-clause-ok : goal.returns-in-Ok-clause-ok
returns-in-Ok-clause-ok c = λ s links core first most h. record {
  free = opens_free c.args.connections.now.items links core first s c.args.n true (sym c.is_next.ensures ∙ c.if-not-is_next.false) h;
  represents = subst (λ (cs : List (Option Connection)). EngineRepresents (engine_state_of_parts cs links core first) (model_after_happening s (Accepts c.args.n))) (sym c.in-Ok.ensures.ok)
      (accepted_more c.args.connections.now.items links core first s c.args.max_body c.new-reader.result most (c.new-reader.ensures.represents _ c.new.ensures.represents (no_request_yet c.args.max_body)) h);
}
