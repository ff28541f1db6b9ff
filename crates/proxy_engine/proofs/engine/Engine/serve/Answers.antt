use Rattle.std.proofs.Common.{Bool, get_or, None, ◌≡◌, Some, is_some, sym, subst, ap, ◌∙◌}
use Rattle.hx_framing.specs.declared.messages.Request.{Request}
use Rattle.hx_framing.specs.declared.messages.Next.{Next}
use Rattle.proxy_engine.specs.Admitted.{asked_closing_if_retired}
use Rattle.proxy_engine.specs.Due.{Serves}
use Rattle.proxy_engine.specs.State.{State, EngineDoesAct, due_request_at, is_retired_connection}
use Rattle.proxy_engine.proofs.Changes.{free_there, action_free}
use Rattle.proxy_engine.proofs.Acting.{arrival_action, one_action, on_ok, does_ok}
use Rattle.proxy_engine.proofs.engine.Engine.serve.Goals as goal

pub at-requires : goal.at-requires
at-requires g c = free_there _ (action_free _ (rw (← c.self.view_is) at c.requires.due))

pub action_of-requires : goal.action_of-requires
action_of-requires g c = ap (λ o. is_some (due_request_at o)) (sym c.at.ensures) ∙ (rw (← c.self.view_is) at c.requires.due)

pub refuse-requires-clause-free : goal.refuse-requires-clause-free
refuse-requires-clause-free g c = action_free _ (rw (← c.self.view_is) at c.requires.due)

pub shut-requires : goal.shut-requires
shut-requires g c = action_free _ (rw (← c.self.view_is) at c.requires.due)

pub returns-in-Arrive-clause-ok : goal.returns-in-Arrive-clause-ok
returns-in-Arrive-clause-ok g c =
    let known = c.in-Ok.ensures in
    let read = arrival_action known.0 c.in-Ok.action c.in-Arrive.asked c.in-Arrive.is known.3 in
    let due = subst (λ (e : State). due_request_at (get_or e.connections c.args.i None) ≡ Some known.0) c.self.view_is (ap due_request_at c.at.ensures ∙ known.1) in
    let marked = subst (λ (e : State). c.is_retired-retired.result ≡ is_retired_connection (get_or e.connections c.args.i None)) c.self.view_is c.is_retired-retired.ensures in
    on_ok c.arrive.result _ _ (λ emitted does s a shown h.
    let same : a ≡ known.0 = one_action _ known.0 a due shown in
    subst (λ (b : Next Request). EngineDoesAct s c.args.now (Serves c.args.i b) emitted.items c.arrive.new.self) (sym (same ∙ read.1))
    (does s read.0 (c.in-Arrive.asked, read.2, c.asked_closing_if_retired-asked.ensures ∙ ap (λ (b : Bool). asked_closing_if_retired b c.in-Arrive.asked) marked) (due ∙ ap (λ (b : Next Request). Some b) read.1) h)) c.arrive.ensures.ok

pub returns-in-Arrive-clause-less : goal.returns-in-Arrive-clause-less
returns-in-Arrive-clause-less g c =
    let known = c.in-Ok.ensures in
    let read = arrival_action known.0 c.in-Ok.action c.in-Arrive.asked c.in-Arrive.is known.3 in
    let due = subst (λ (e : State). due_request_at (get_or e.connections c.args.i None) ≡ Some known.0) c.self.view_is (ap due_request_at c.at.ensures ∙ known.1) in
    does_ok c.arrive.result _ _ (λ less. less read.0 (due ∙ ap (λ (b : Next Request). Some b) read.1)) c.arrive.ensures.less
