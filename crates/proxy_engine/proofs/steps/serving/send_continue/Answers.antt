use Rattle.std.proofs.Common.{◌+◌, None, List, ℕ, ◌∷◌, [], refl, ap, ◌∙◌, arith}
use Rattle.hx_framing.specs.declared.messages.Next.TheVariants.{NeedsContinue}
use Rattle.proxy_script.specs.declared.effect_list.Effect.TheVariants.{Client}
use Rattle.proxy_engine.specs.EngineModel.{with_changed_connection}
use Rattle.proxy_engine.specs.Acts.{connection_with_due_answer_used}
use Rattle.proxy_engine.specs.State.{work_left_of_due_request}
use Rattle.proxy_engine.proofs.Keeping.{inside}
use Rattle.proxy_engine.proofs.Changes.{free_there, action_free}
use Rattle.proxy_engine.proofs.Acting.{emitted_one}
use Rattle.proxy_engine.proofs.steps.serving.send_continue.Goals as goal

pub number_at-number-requires : goal.number_at-number-requires
number_at-number-requires c = inside c.args.connections.now.items c.args.i (free_there _ (action_free _ c.requires))

pub returns-clause-ok : goal.returns-clause-ok
returns-clause-ok c = λ s links core first now due h. record {
  after = with_changed_connection s c.args.i (connection_with_due_answer_used NeedsContinue);
  does = (emitted_one c.in_ok-effects.effects.items c.put.new.effects.items _ (rw c.number_at-number.ensures at c.put.ensures.items) c.in_ok-effects.ensures.items ∙ ap (λ (b : List ℕ). Client (c.args.i + 1) b None ∷ []) c.in_ok-bytes.ensures, refl);
  represents = c.use_due_answer_at.ensures.represents s NeedsContinue links core first due h;
}

pub returns-clause-less : goal.returns-clause-less
returns-clause-less c = λ due.
    let one = ap work_left_of_due_request due in
    omega (arith, one, c.use_due_answer_at.ensures.load)
