-- What a look shows is what stands.
use Rattle.std.proofs.Common.{◌≡◌, ℕ, Bool, true, false, ◌||◌, refl, sym, ap, subst, ◌∙◌, cond, Option, None, Some, is_some, ◌&&◌}
use Rattle.hx_framing.specs.declared.messages.Request.{Request}
use Rattle.hx_framing.specs.declared.messages.Response.{Response}
use Rattle.hx_framing.specs.declared.messages.Next.{Next}
use Rattle.hx_framing.specs.declared.messages.Next.TheVariants as next
use Rattle.proxy_engine.specs.declared.endpoints.lookahead.Lookahead.{Lookahead}
use Rattle.proxy_engine.specs.declared.endpoints.lookahead.Lookahead.TheVariants.{Unknown, Quiet, Due}
use Rattle.proxy_engine.specs.Lookahead.{LookaheadShowsAnswer, lookahead_is_due}
use Rattle.hx_framing.specs.RequestState.{ReaderRepresentsStream as RequestRepresentsStream}
use Rattle.hx_framing.specs.RequestStream.{Answers as RequestAnswers}
use Rattle.hx_framing.specs.ResponseState.{ReaderRepresentsStream as ResponseRepresentsStream}
use Rattle.hx_framing.specs.ResponseStream.{Answers as ResponseAnswers}
use Rattle.proxy_engine.proofs.Peeking.{answers_shown}
use Rattle.proxy_engine.specs.EngineModel.{LinkModel, ConnectionModel}
use Rattle.proxy_engine.specs.Due.{IsDueLinkResult, LinkResultUnlessDropped, IsDueOnConnection, IsDueRequestActionUnlessBusy, link_result_of_next, due_request_action, accepts_no_request}
use Rattle.proxy_engine.specs.State.{LinkRepresents, ConnectionRepresents, link_result_of_lookahead, link_result_at, due_request_of_lookahead, due_request_at, is_gone_if_connection}
use Rattle.proxy_engine.specs.Activities.{link_place_of_activity, has_exchange}
use Rattle.proxy_engine.specs.Pairing.{activity_of_connection}
use Rattle.proxy_engine.specs.Marked.{link_of_disconnected_exchange_at}
use Rattle.proxy_engine.specs.declared.endpoints.activities.Activity.{Activity}
use Rattle.proxy_engine.specs.declared.endpoints.ends.Connection.{Connection}
use Rattle.proxy_engine.specs.declared.endpoints.ends.Link.{Link}
use Rattle.hx_status.specs.declared.cause.FailKind.{FailKind}

-- whether something is shown
pub finish_variant : (l : Lookahead Response) (k : Option FailKind) → lookahead_is_due l || is_some k ≡ is_some (link_result_of_lookahead l k)
finish_variant Unknown None = refl
finish_variant Unknown (Some k) = refl
finish_variant Quiet None = refl
finish_variant Quiet (Some k) = refl
finish_variant (Due next.More) None = refl
finish_variant (Due next.More) (Some k) = refl
finish_variant (Due next.NeedsContinue) k = refl
finish_variant (Due (next.Refused f)) k = refl
finish_variant (Due next.End) k = refl
finish_variant (Due (next.Message m)) k = refl

pub action_variant : (l : Lookahead Request) → lookahead_is_due l ≡ is_some (due_request_of_lookahead l)
action_variant Unknown = refl
action_variant Quiet = refl
action_variant (Due next.More) = refl
action_variant (Due next.NeedsContinue) = refl
action_variant (Due (next.Refused f)) = refl
action_variant (Due next.End) = refl
action_variant (Due (next.Message m)) = refl

pub finish_by : (l : Lookahead Response) (k : Option FailKind) (a : Next Response) → LookaheadShowsAnswer l a → link_result_of_lookahead l k ≡ link_result_of_next a k
finish_by Unknown k a s = absurd s
finish_by Quiet k a s = ap (λ (a : Next Response). link_result_of_next a k) (sym s)
finish_by (Due b) k a s = ap (λ (a : Next Response). link_result_of_next a k) (sym s)

pub action_of_fault : (l : Lookahead Request) (a : Next Request) → LookaheadShowsAnswer l a → due_request_of_lookahead l ≡ due_request_action a
action_of_fault Unknown a s = absurd s
action_of_fault Quiet a s = ap (λ (a : Next Request). due_request_action a) (sym s)
action_of_fault (Due b) a s = ap (λ (a : Next Request). due_request_action a) (sym s)

-- a link that was looked at
pub finish_due : (k : Link) (s : LinkModel) (a : Next Response) → LinkRepresents (Some k) s → LookaheadShowsAnswer k.reader.ahead a → IsDueLinkResult s (link_result_at (Some k))
finish_due k s a h shows =
    subst (λ (b : Bool). LinkResultUnlessDropped b s (link_result_at (Some k))) (sym h.still) (
      a,
      answers_shown ResponseRepresentsStream ResponseAnswers k.reader s.progress a h.reader shows,
      finish_by k.reader.ahead k.failed a shows ∙ ap (link_result_of_next a) h.failed,
    )

busy_same : (c : Connection) (s : ConnectionModel) → ConnectionRepresents (Some c) s → accepts_no_request c.gone false c.activity ≡ accepts_no_request s.gone s.closed s.activity
busy_same c s h = ap (λ (b : Bool). accepts_no_request b false c.activity) h.gone ∙ (ap (λ (b : Bool). accepts_no_request s.gone b c.activity) (sym h.still) ∙ ap (λ (a : Activity). accepts_no_request s.gone s.closed a) h.activity)

pub wanted : (c : Connection) (s : ConnectionModel) (a : Next Request) → accepts_no_request c.gone false c.activity ≡ false → ConnectionRepresents (Some c) s → LookaheadShowsAnswer c.reader.ahead a → IsDueOnConnection s (due_request_at (Some c))
wanted c s a idle h shows =
    subst (λ (b : Bool). IsDueRequestActionUnlessBusy b s (due_request_at (Some c))) (sym idle ∙ busy_same c s h) (
      a,
      answers_shown RequestRepresentsStream RequestAnswers c.reader s.progress a h.reader shows,
      ap (λ (b : Bool). cond b None (due_request_of_lookahead c.reader.ahead)) idle ∙ action_of_fault c.reader.ahead a shows,
    )

pub wanted_busy : (c : Connection) (s : ConnectionModel) → accepts_no_request c.gone false c.activity ≡ true → ConnectionRepresents (Some c) s → IsDueOnConnection s (due_request_at (Some c))
wanted_busy c s busy h =
    subst (λ (b : Bool). IsDueRequestActionUnlessBusy b s (due_request_at (Some c))) (sym busy ∙ busy_same c s h) (ap (λ (b : Bool). cond b None (due_request_of_lookahead c.reader.ahead)) busy)

-- it isn't gone, and no exchange is open
pub idle : (gone : Bool) (a : Activity) → gone ≡ false → has_exchange a ≡ false → accepts_no_request gone false a ≡ false
idle gone a here none = ap (λ (b : Bool). accepts_no_request b false a) here ∙ none

pub none_from : {A : Type 0} (o : Option A) → false ≡ is_some o → o ≡ None
none_from None h = refl
none_from (Some a) h = cc

-- a connection that is gone with an open exchange, or not
pub lost : (c : Option Connection) (s : ConnectionModel) (l : Option ℕ) → ConnectionRepresents c s → link_of_disconnected_exchange_at c ≡ Some l → Some l ≡ cond (s.gone && has_exchange s.activity) (Some (link_place_of_activity s.activity)) None
lost None s l h e = absurd (cc)
lost (Some c) s l h e =
    sym e ∙ (ap (λ (b : Bool). cond (b && has_exchange c.activity) (Some (link_place_of_activity c.activity)) None) h.gone ∙ ap (λ (a : Activity). cond (s.gone && has_exchange a) (Some (link_place_of_activity a)) None) h.activity)

pub lost_by : (gone held : Bool) (link l : Option ℕ) → cond (gone && held) (Some link) None ≡ Some l → (gone ≡ true) × (held ≡ true) × (link ≡ l)
lost_by true true link l e = let same : link ≡ l = cc in (refl, refl, same)
lost_by true false link l e = absurd (cc)
lost_by false held link l e = absurd (cc)

-- it is gone, has an open exchange, and that link, if any
pub lost_link : (o : Option Connection) (l : Option ℕ) → link_of_disconnected_exchange_at o ≡ Some l → (is_gone_if_connection o ≡ Some true) × (has_exchange (activity_of_connection o) ≡ true) × (link_place_of_activity (activity_of_connection o) ≡ l)
lost_link None l e = absurd (cc)
lost_link (Some c) l e =
    let all = lost_by c.gone (has_exchange c.activity) (link_place_of_activity c.activity) l e in
    (ap (λ (b : Bool). Some b) all.0, all.1, all.2)
