-- A change of one connection or link, on both sides.
use Rattle.std.proofs.Common.{◌≡◌, ℕ, ◌+◌, ◌<◌, ◌≤◌, ◌^◌, List, [], ◌∷◌, ◌++◌, length, get_or, set, refl, sym, ap, ◌∙◌, subst, arith, Bool, true, false, not, cond, Option, None, Some, is_some, length-append, ◌||◌}
use Rattle.std.proofs.Math.ListN.{length-set}
use Rattle.proxy_core.specs.State.{State as CoreState}
use Rattle.hx_framing.specs.Progress.{empty_stream_progress}
use Rattle.hx_framing.specs.declared.messages.Next.{Next}
use Rattle.hx_framing.specs.declared.messages.Next.TheVariants as next
use Rattle.hx_framing.specs.declared.messages.Request.{Request}
use Rattle.proxy_engine.specs.declared.endpoints.lookahead.Lookahead.{Lookahead}
use Rattle.proxy_engine.specs.declared.endpoints.lookahead.Lookahead.TheVariants.{Unknown, Quiet, Due}
use Rattle.proxy_engine.specs.Lookahead.{one_if_message_or_continue}
use Rattle.proxy_engine.specs.Due.{accepts_no_request}
use Rattle.proxy_engine.specs.Activities.{has_exchange}
use Rattle.proxy_engine.specs.Acts.{connection_with_activity, model_with_opened_link, connection_with_closed}
use Rattle.hx_framing.specs.ResponseState.{State as ResponseState}
use Rattle.hx_framing.specs.declared.messages.Response.{Response}
use Rattle.proxy_engine.specs.declared.endpoints.peeked.PeekableReader.{PeekableReader}
use Rattle.proxy_engine.specs.PeekableReader.{ResponseRepresents}
use Rattle.proxy_engine.specs.EngineModel.{EngineModel, ConnectionModel, LinkModel, new_link_model, no_connection, no_link, connection_at, link_at, with_changed_connection, with_changed_link, model_with_core}
use Rattle.proxy_engine.specs.Pairing.{activity_of_connection}
use Rattle.proxy_engine.specs.State.{ListsAreRelated, ConnectionRepresents, LinkRepresents, EngineRepresents, engine_state_of_parts, due_request_at, due_request_of_lookahead, work_left_of_due_request, connection_is_open_and_idle, is_gone_if_connection, is_retired_connection, link_result_at, work_left_of_connection}
use Rattle.proxy_engine.specs.declared.endpoints.activities.Activity.{Activity}
use Rattle.proxy_engine.specs.declared.endpoints.activities.Activity.TheVariants.{Free, Forwarded}
use Rattle.proxy_engine.specs.declared.endpoints.ends.Connection.{Connection}
use Rattle.proxy_engine.specs.declared.endpoints.ends.Link.{Link}
use Rattle.proxy_engine.proofs.ActivityCases.{free_from, not_so}
use Rattle.proxy_engine.proofs.Parts.{both_length, both_at, both_set, both_push}

-- at i stands o then, which f tells of
pub changed_connection : (f : ConnectionModel → ConnectionModel) (cs : List (Option Connection)) (ks : List (Option Link)) (core : CoreState) (first : ℕ) (s : EngineModel) (i : ℕ) (o : Option Connection) → i < length cs
    → ((c : ConnectionModel) → ConnectionRepresents (get_or cs i None) c → ConnectionRepresents o (f c)) → EngineRepresents (engine_state_of_parts cs ks core first) s → EngineRepresents (engine_state_of_parts (set cs i o) ks core first) (with_changed_connection s i f)
changed_connection f cs ks core first s i o l keep h = record {
  connections = both_set ConnectionRepresents cs s.connections i o (f (connection_at s i)) h.connections (keep (connection_at s i) (both_at ConnectionRepresents cs s.connections i None no_connection h.connections l));
  links = h.links;
  core = h.core;
  first = h.first;
  numbers = h.numbers;
}

pub changed_link : (f : LinkModel → LinkModel) (cs : List (Option Connection)) (ks : List (Option Link)) (core : CoreState) (first : ℕ) (s : EngineModel) (j : ℕ) (o : Option Link) → j < length ks
    → ((k : LinkModel) → LinkRepresents (get_or ks j None) k → LinkRepresents o (f k)) → EngineRepresents (engine_state_of_parts cs ks core first) s → EngineRepresents (engine_state_of_parts cs (set ks j o) core first) (with_changed_link s j f)
changed_link f cs ks core first s j o l keep h = record {
  connections = h.connections;
  links = both_set LinkRepresents ks s.links j o (f (link_at s j)) h.links (keep (link_at s j) (both_at LinkRepresents ks s.links j None no_link h.links l));
  core = h.core;
  first = h.first;
  numbers = subst (λ n. s.first + n ≤ 2 ^ 64) (sym (length-set s.links j (f (link_at s j)))) h.numbers;
}

pub changed_core : (cs : List (Option Connection)) (ks : List (Option Link)) (core : CoreState) (first : ℕ) (new : CoreState) (s : EngineModel) → EngineRepresents (engine_state_of_parts cs ks core first) s → EngineRepresents (engine_state_of_parts cs ks new first) (model_with_core s new)
changed_core cs ks core first new s h = record { connections = h.connections; links = h.links; core = refl; first = h.first; numbers = h.numbers }

-- a link is opened for the connection at i, which has it already
pub opened_link : (cs : List (Option Connection)) (ks : List (Option Link)) (core : CoreState) (first max_body place : ℕ) (to_head : Bool) (s : EngineModel) (i : ℕ) (w : PeekableReader ResponseState Response)
    → place ≡ length ks → core.table.max_body ≡ max_body → ResponseRepresents w (empty_stream_progress max_body to_head) → first + length ks < 2 ^ 64 → EngineRepresents (engine_state_of_parts cs ks core first) (with_changed_connection s i (connection_with_activity (Forwarded place)))
    → EngineRepresents (engine_state_of_parts cs (ks ++ Some (record { reader = w; ended = false; failed = None; connection = i }) ∷ []) core first) (model_with_opened_link s i to_head)
opened_link cs ks core first max_body place to_head s i w at most fresh small h =
    let same = both_length LinkRepresents ks s.links h.links in
    let reader : ResponseRepresents w (empty_stream_progress s.core.table.max_body to_head) = subst (λ (n : ℕ). ResponseRepresents w (empty_stream_progress n to_head)) (sym most ∙ ap (λ (k : CoreState). k.table.max_body) h.core) fresh in
    record {
      connections = subst (λ (n : ℕ). ListsAreRelated ConnectionRepresents cs (set s.connections i (connection_with_activity (Forwarded n) (connection_at s i)))) (at ∙ same) h.connections;
      links = both_push LinkRepresents ks s.links (Some (record { reader = w; ended = false; failed = None; connection = i })) (new_link_model s.core.table.max_body to_head i) h.links record { reader = reader; ended = refl; failed = refl; still = refl; connection = refl };
      core = h.core;
      first = h.first;
      numbers = let first_is : first ≡ s.first = h.first in rw length-append (omega (arith, same));
    }

-- ends that were looked at
pub looked_connections : (cs ds : List (Option Connection)) (ks : List (Option Link)) (core : CoreState) (first : ℕ) (s : EngineModel) → ListsAreRelated ConnectionRepresents ds s.connections → EngineRepresents (engine_state_of_parts cs ks core first) s → EngineRepresents (engine_state_of_parts ds ks core first) s
looked_connections cs ds ks core first s b h = record { connections = b; links = h.links; core = h.core; first = h.first; numbers = h.numbers }

pub looked_links : (cs : List (Option Connection)) (ks ls : List (Option Link)) (core : CoreState) (first : ℕ) (s : EngineModel) → ListsAreRelated LinkRepresents ls s.links → EngineRepresents (engine_state_of_parts cs ks core first) s → EngineRepresents (engine_state_of_parts cs ls core first) s
looked_links cs ks ls core first s b h = record { connections = h.connections; links = b; core = h.core; first = h.first; numbers = h.numbers }

-- ---- what stands at a place

some_same : {B : Type 0} {x y : B} → Some x ≡ Some y → x ≡ y
some_same h = cc

free_by : (gone : Bool) (a : Activity) → not (accepts_no_request gone false a) ≡ true → (gone ≡ false) × (a ≡ Free)
free_by true a e = absurd (cc)
free_by false a e = (refl, free_from a (not_so (has_exchange a) e))

-- a free connection is there, isn't gone, and has no open exchange
pub free_there : (o : Option Connection) → connection_is_open_and_idle o ≡ true → is_some o ≡ true
free_there None e = absurd (cc)
free_there (Some c) e = refl

pub free_activity : (o : Option Connection) → connection_is_open_and_idle o ≡ true → activity_of_connection o ≡ Free
free_activity None e = absurd (cc)
free_activity (Some c) e = (free_by c.gone c.activity e).1

action_of_fault : (busy : Bool) (o : Option (Next Request)) → is_some (cond busy None o) ≡ true → not busy ≡ true
action_of_fault true o e = absurd (cc)
action_of_fault false o e = refl

-- one on which something is due is free
pub action_free : (o : Option Connection) → is_some (due_request_at o) ≡ true → connection_is_open_and_idle o ≡ true
action_free None e = absurd (cc)
action_free (Some c) e = action_of_fault (accepts_no_request c.gone false c.activity) (due_request_of_lookahead c.reader.ahead) e

or_true : (a b : Bool) → a || (b || true) ≡ true
or_true true b = refl
or_true false true = refl
or_true false false = refl

or_false : (b : Bool) → b || false ≡ b
or_false true = refl
or_false false = refl

-- a closed connection without an open exchange is over
pub closed_over : (o : Option Connection) (c : ConnectionModel) → activity_of_connection o ≡ Free → ConnectionRepresents o c → ConnectionRepresents None (connection_with_closed true c)
closed_over None c none h = (or_true c.gone c.closed, h.1)
closed_over (Some x) c none h = (or_true c.gone c.closed, sym h.activity ∙ none)

-- a gone one whose exchange is over
pub lost_over : (o : Option Connection) (c : ConnectionModel) → is_gone_if_connection o ≡ Some true → ConnectionRepresents o c → ConnectionRepresents None (connection_with_activity Free c)
lost_over None c g h = (h.0, refl)
lost_over (Some x) c g h = (ap (λ (b : Bool). b || c.closed) (sym h.gone ∙ some_same g), refl)

pub gone_there : (o : Option Connection) (b : Bool) → is_gone_if_connection o ≡ Some b → is_some o ≡ true
gone_there None b e = absurd (cc)
gone_there (Some c) b e = refl

-- whether one that isn't over is to end
retired_there : (o : Option Connection) (c : ConnectionModel) → is_some o ≡ true → ConnectionRepresents o c → is_retired_connection o ≡ c.retired
retired_there None c e h = absurd (cc)
retired_there (Some x) c e h = h.retired

pub retired_in_model : (cs : List (Option Connection)) (ks : List (Option Link)) (core : CoreState) (first : ℕ) (s : EngineModel) (i : ℕ) → i < length cs → is_some (get_or cs i None) ≡ true → EngineRepresents (engine_state_of_parts cs ks core first) s → is_retired_connection (get_or cs i None) ≡ (connection_at s i).retired
retired_in_model cs ks core first s i within there h = retired_there (get_or cs i None) (connection_at s i) there (both_at ConnectionRepresents cs s.connections i None no_connection h.connections within)

-- what is open counts
pub counts_one : (o : Option Connection) → is_some o ≡ true → 1 ≤ work_left_of_connection o
counts_one None e = absurd (cc)
counts_one (Some c) e = omega arith

pub finish_there : (o : Option Link) → is_some (link_result_at o) ≡ true → is_some o ≡ true
finish_there None e = absurd (cc)
finish_there (Some k) e = refl

-- where it isn't closed
pub left_open : (o : Option Connection) (c : ConnectionModel) → ConnectionRepresents o c → ConnectionRepresents o (connection_with_closed false c)
left_open None c h = (ap (λ (b : Bool). c.gone || b) (or_false c.closed) ∙ h.0, h.1)
left_open (Some x) c h = record { reader = h.reader; ended = h.ended; gone = h.gone; retired = h.retired; activity = h.activity; still = ap (λ (b : Bool). b || false) h.still; used = h.used }

-- what a look shows to be due, and how much that counts
action_due : (busy : Bool) (l : Lookahead Request) (a : Next Request) → cond busy None (due_request_of_lookahead l) ≡ Some a → l ≡ Due a
action_due true l a e = absurd (cc)
action_due false Unknown a e = absurd (cc)
action_due false Quiet a e = absurd (cc)
action_due false (Due next.More) a e = absurd (cc)
action_due false (Due next.NeedsContinue) a e = ap (λ (b : Next Request). Due b) (some_same e)
action_due false (Due (next.Message m)) a e = ap (λ (b : Next Request). Due b) (some_same e)
action_due false (Due (next.Refused f)) a e = ap (λ (b : Next Request). Due b) (some_same e)
action_due false (Due next.End) a e = ap (λ (b : Next Request). Due b) (some_same e)

pub due_at : (c : Connection) (a : Next Request) → due_request_at (Some c) ≡ Some a → c.reader.ahead ≡ Due a
due_at c a e = action_due (accepts_no_request c.gone false c.activity) c.reader.ahead a e

known_by : (busy : Bool) (l : Lookahead Request) → work_left_of_due_request (cond busy None (due_request_of_lookahead l)) ≤ one_if_message_or_continue l
known_by true l = omega arith
known_by false Unknown = omega arith
known_by false Quiet = omega arith
known_by false (Due next.More) = omega arith
known_by false (Due next.NeedsContinue) = omega arith
known_by false (Due (next.Message m)) = omega arith
known_by false (Due (next.Refused f)) = omega arith
known_by false (Due next.End) = omega arith

pub action_known : (c : Connection) → work_left_of_due_request (due_request_at (Some c)) ≤ one_if_message_or_continue c.reader.ahead
action_known c = known_by (accepts_no_request c.gone false c.activity) c.reader.ahead
