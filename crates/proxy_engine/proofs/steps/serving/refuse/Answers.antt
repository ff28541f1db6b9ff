use Rattle.std.proofs.Common.{true, Some, ap, ◌∙◌, ◌+◌, ◌++◌, List, ℕ, ◌∷◌, [], refl}
use Rattle.proxy_core.specs.Abouts.{report_of_refusal_reply}
use Rattle.hx_status.specs.declared.about.StatusAndReason.{StatusAndReason}
use Rattle.proxy_script.specs.declared.effect_list.Effect.{Effect}
use Rattle.proxy_script.specs.declared.effect_list.Effect.TheVariants.{Client, Close}
use Rattle.proxy_engine.specs.EngineModel.{with_changed_connection}
use Rattle.proxy_engine.specs.Acts.{connection_with_closed}
use Rattle.proxy_engine.proofs.Acting.{refused_served}
use Rattle.proxy_engine.proofs.steps.serving.refuse.Goals as goal

pub returns-clause-ok : goal.returns-clause-ok
returns-clause-ok c = λ s links core first a w h.
    let i = c.args.i in
    let text = c.in_ok-own.ensures.text in
    record {
      after = with_changed_connection s i (connection_with_closed true);
      does = refused_served s c.args.now i a c.args.why c.args.head c.args.question c.send_reply.new.effects.items (with_changed_connection s i (connection_with_closed true)) w record {
        emitted_is = c.send_reply.ensures.effects
            ∙ (ap (λ (es : List Effect). es ++ Client (i + 1) c.in_ok-own.own.bytes (Some (record { about = c.in_ok-own.own.about; question = c.args.question })) ∷ Close (i + 1) ∷ []) c.in_ok-effects.ensures.items
            ∙ (ap (λ (a : StatusAndReason). Client (i + 1) c.in_ok-own.own.bytes (Some (record { about = a; question = c.args.question })) ∷ Close (i + 1) ∷ []) c.in_ok-own.ensures.about
            ∙ ap (λ (b : List ℕ). Client (i + 1) b (Some (record { about = report_of_refusal_reply c.args.why c.args.head; question = c.args.question })) ∷ Close (i + 1) ∷ []) text));
        after_is = refl;
      };
      represents = c.send_reply.ensures.represents s links core first h;
    }
