-- What a client's stream asks for, done on both sides.
use Rattle.std.proofs.Common.{◌≡◌, ℕ, List, [], ◌∷◌, ◌++◌, refl, sym, ap, ◌∙◌, subst, Bool, false, Option, None, Some, Result, Ok, Err, IfOk, IfErr, OnOk, OnErr}
use Rattle.hx_framing.specs.declared.messages.Request.{Request}
use Rattle.hx_framing.specs.declared.frame_fault.FrameFault.{FrameFault}
use Rattle.hx_framing.specs.declared.frame_fault.FrameFault.TheVariants as frame
use Rattle.hx_framing.specs.declared.messages.Next.{Next}
use Rattle.hx_framing.specs.declared.messages.Next.TheVariants as next
use Rattle.hx_hop.specs.declared.request_view.Asked.{Asked}
use Rattle.hx_status.specs.declared.cause.Cause.{Cause}
use Rattle.hx_status.specs.declared.cause.Cause.TheVariants as cause
use Rattle.hx_status.specs.declared.question.MethodAndTarget.{MethodAndTarget}
use Rattle.proxy_script.specs.declared.effect_list.Effect.{Effect}
use Rattle.proxy_engine.specs.Admitted.{RequestIsAdmittedOrRefused}
use Rattle.proxy_engine.specs.EngineModel.{EngineModel}
use Rattle.proxy_engine.specs.Due.{LinkResult}
use Rattle.proxy_engine.specs.Acts.{RequestIsRefusedAndClosed, ConnectionIsClosedWithEffect, ConnectionRequestIsServed}
use Rattle.proxy_engine.specs.State.{due_request_at, link_result_at}
use Rattle.proxy_engine.specs.Actions.{IsActionOfMessage, IsActionForReaderAnswer, action_of_fault}
use Rattle.proxy_engine.specs.declared.steps.actions.Action.{Action}
use Rattle.proxy_engine.specs.declared.steps.actions.Action.TheVariants as action
use Rattle.proxy_engine.specs.declared.endpoints.ends.Connection.{Connection}
use Rattle.proxy_engine.specs.declared.endpoints.ends.Link.{Link}

-- the only effect
pub emitted_one : (before now : List Effect) (e : Effect) → now ≡ before ++ e ∷ [] → before ≡ [] → now ≡ e ∷ []
emitted_one before now e is none = is ∙ ap (λ (b : List Effect). b ++ e ∷ []) none

refuses_same : (s : EngineModel) (now i : ℕ) (a b : Cause) (c d : Bool) (q r : Option MethodAndTarget) (emitted : List Effect) (after : EngineModel) → action.Refuse a c q ≡ action.Refuse b d r → RequestIsRefusedAndClosed s now i a c q emitted after → RequestIsRefusedAndClosed s now i b d r emitted after
refuses_same s now i a b c d q r emitted after e h =
    let why : a ≡ b = cc in
    let head : c ≡ d = cc in
    let question : q ≡ r = cc in
    subst (λ (x : Option MethodAndTarget). RequestIsRefusedAndClosed s now i b d x emitted after) question
    (subst (λ (x : Bool). RequestIsRefusedAndClosed s now i b x q emitted after) head (subst (λ (x : Cause). RequestIsRefusedAndClosed s now i x c q emitted after) why h))

refused_frame : (s : EngineModel) (now i : ℕ) (f : FrameFault) (why : Cause) (head : Bool) (question : Option MethodAndTarget) (emitted : List Effect) (after : EngineModel) → action.Refuse why head question ≡ action_of_fault f → RequestIsRefusedAndClosed s now i why head question emitted after → ConnectionRequestIsServed s now i (next.Refused f) emitted after
refused_frame s now i frame.Truncated why head question emitted after e h = cc
refused_frame s now i frame.Head why head question emitted after e h = refuses_same s now i why (cause.Frame frame.Head) head false question None emitted after e h
refused_frame s now i frame.Version why head question emitted after e h = refuses_same s now i why (cause.Frame frame.Version) head false question None emitted after e h
refused_frame s now i frame.BothLengths why head question emitted after e h = refuses_same s now i why (cause.Frame frame.BothLengths) head false question None emitted after e h
refused_frame s now i frame.Length why head question emitted after e h = refuses_same s now i why (cause.Frame frame.Length) head false question None emitted after e h
refused_frame s now i frame.Coding why head question emitted after e h = refuses_same s now i why (cause.Frame frame.Coding) head false question None emitted after e h
refused_frame s now i frame.Chunk why head question emitted after e h = refuses_same s now i why (cause.Frame frame.Chunk) head false question None emitted after e h
refused_frame s now i frame.TooLarge why head question emitted after e h = refuses_same s now i why (cause.Frame frame.TooLarge) head false question None emitted after e h
refused_frame s now i frame.Expect why head question emitted after e h = refuses_same s now i why (cause.Frame frame.Expect) head false question None emitted after e h
refused_frame s now i frame.Status why head question emitted after e h = refuses_same s now i why (cause.Frame frame.Status) head false question None emitted after e h

pub refused_served : (s : EngineModel) (now i : ℕ) (a : Next Request) (why : Cause) (head : Bool) (question : Option MethodAndTarget) (emitted : List Effect) (after : EngineModel) → IsActionForReaderAnswer a (action.Refuse why head question) → RequestIsRefusedAndClosed s now i why head question emitted after → ConnectionRequestIsServed s now i a emitted after
refused_served s now i next.More why head question emitted after w h = absurd w
refused_served s now i next.NeedsContinue why head question emitted after w h = cc
refused_served s now i (next.Message r) why head question emitted after w h =
    (Err (record { why = why; head = head }), w.0, subst (λ (q : Option MethodAndTarget). RequestIsRefusedAndClosed s now i why head q emitted after) w.1 h)
refused_served s now i (next.Refused f) why head question emitted after w h = refused_frame s now i f why head question emitted after w h
refused_served s now i next.End why head question emitted after w h = cc

closed_frame : (s : EngineModel) (now i : ℕ) (f : FrameFault) (emitted : List Effect) (after : EngineModel) → action.Close ≡ action_of_fault f → ConnectionIsClosedWithEffect s i emitted after → ConnectionRequestIsServed s now i (next.Refused f) emitted after
closed_frame s now i frame.Truncated emitted after e h = h
closed_frame s now i frame.Head emitted after e h = cc
closed_frame s now i frame.Version emitted after e h = cc
closed_frame s now i frame.BothLengths emitted after e h = cc
closed_frame s now i frame.Length emitted after e h = cc
closed_frame s now i frame.Coding emitted after e h = cc
closed_frame s now i frame.Chunk emitted after e h = cc
closed_frame s now i frame.TooLarge emitted after e h = cc
closed_frame s now i frame.Expect emitted after e h = cc
closed_frame s now i frame.Status emitted after e h = cc

pub closed_served : (s : EngineModel) (now i : ℕ) (a : Next Request) (emitted : List Effect) (after : EngineModel) → IsActionForReaderAnswer a action.Close → ConnectionIsClosedWithEffect s i emitted after → ConnectionRequestIsServed s now i a emitted after
closed_served s now i next.More emitted after w h = absurd w
closed_served s now i next.NeedsContinue emitted after w h = cc
closed_served s now i (next.Message r) emitted after w h = absurd w
closed_served s now i (next.Refused f) emitted after w h = closed_frame s now i f emitted after w h
closed_served s now i next.End emitted after w h = h

no_arrival : (f : FrameFault) (asked : Asked) {C : Type 0} → action.Arrive asked ≡ action_of_fault f → C
no_arrival frame.Truncated asked e = cc
no_arrival frame.Head asked e = cc
no_arrival frame.Version asked e = cc
no_arrival frame.BothLengths asked e = cc
no_arrival frame.Length asked e = cc
no_arrival frame.Coding asked e = cc
no_arrival frame.Chunk asked e = cc
no_arrival frame.TooLarge asked e = cc
no_arrival frame.Expect asked e = cc
no_arrival frame.Status asked e = cc

-- what arrives is a message that was read
pub arrival_action : (a : Next Request) (w : Action) (asked : Asked) → w ≡ action.Arrive asked → IsActionForReaderAnswer a w → (r : Request) × (a ≡ next.Message r) × RequestIsAdmittedOrRefused r (Ok asked)
arrival_action next.More w asked e h = absurd h
arrival_action next.NeedsContinue w asked e h = cc
arrival_action (next.Message r) w asked e h = (r, refl, subst (λ (v : Action). IsActionOfMessage r v) e h)
arrival_action (next.Refused f) w asked e h = no_arrival f asked (sym e ∙ h)
arrival_action next.End w asked e h = cc

some_same : {B : Type 0} {a b : B} → Some a ≡ Some b → a ≡ b
some_same h = cc

-- what is due is due once
pub one_action : (o : Option Connection) (a b : Next Request) → due_request_at o ≡ Some a → due_request_at o ≡ Some b → b ≡ a
one_action o a b here there = some_same (sym there ∙ here)

pub one_finish : (o : Option Link) (f g : LinkResult) → link_result_at o ≡ Some f → link_result_at o ≡ Some g → g ≡ f
one_finish o f g here there = some_same (sym there ∙ here)

pub on_ok : {A E : Type 0} (r : Result A E) (P Q : A → Type 0) → ((a : A) → P a → Q a) → IfOk r P → IfOk r Q
on_ok (Ok a) P Q f p = f a p
on_ok (Err e) P Q f p = tt

pub does_ok : {A E : Type 0} (r : Result A E) (P Q : Type 0) → (P → Q) → OnOk r P → OnOk r Q
does_ok (Ok a) P Q f p = f p
does_ok (Err e) P Q f p = tt

pub on_err : {A E : Type 0} (r : Result A E) (P Q : E → Type 0) → ((e : E) → P e → Q e) → IfErr r P → IfErr r Q
on_err (Ok a) P Q f p = tt
on_err (Err e) P Q f p = f e p

pub err_always : {A E : Type 0} (r : Result A E) (P : Type 0) → P → OnErr r P
err_always (Ok a) P p = tt
err_always (Err e) P p = p

pub stays_err : {A E : Type 0} (r : Result A E) (P Q : Type 0) → (P → Q) → OnErr r P → OnErr r Q
stays_err (Ok a) P Q f p = tt
stays_err (Err e) P Q f p = f p
