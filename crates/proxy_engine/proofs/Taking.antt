-- What is taken, on both sides.
use Rattle.std.proofs.Common.{◌≡◌, ℕ, ◌+◌, ◌-◌, ◌<◌, ◌&&◌, ◌||◌, ◌==◌, not, nat_lt, nat_le, List, [], ◌∷◌, ◌++◌, length, get_or, set, refl, sym, ap, ◌∙◌, subst, Bool, true, false, cond, Option, None, Some, is_some, Result, Ok, Err, OnOk}
use Rattle.hx_framing.specs.Progress.{empty_stream_progress, progress_after_piece, progress_after_end}
use Rattle.hx_status.specs.declared.cause.FailKind.{FailKind}
use Rattle.proxy_core.specs.State.{State as CoreState}
use Rattle.proxy_engine.specs.Activities.{has_exchange}
use Rattle.proxy_engine.specs.Happenings.{Accepts}
use Rattle.hx_framing.specs.declared.messages.Request.{Request}
use Rattle.hx_framing.specs.RequestState.{State as RequestState}
use Rattle.proxy_engine.specs.declared.endpoints.peeked.PeekableReader.{PeekableReader}
use Rattle.proxy_engine.specs.PeekableReader.{RequestRepresents}
use Rattle.proxy_engine.specs.EngineModel.{EngineModel, ConnectionModel, LinkModel, new_connection_model, no_connection, no_link, connection_at, link_at, with_changed_connection, with_changed_link, fault_of_unknown_connection, fault_of_unknown_link, model_after_happening, happening_fault, connection_after_bytes, connection_after_end, connection_after_disconnect, link_after_bytes, link_after_end, link_after_its_failure, connection_accepts_input, link_accepts_input}
use Rattle.proxy_engine.specs.State.{ConnectionRepresents, LinkRepresents, EngineRepresents, engine_state_of_parts, IsFaultOrOutOfMemory}
use Rattle.proxy_engine.specs.Pairing.{activity_of_connection}
use Rattle.proxy_engine.specs.declared.work.EngineFault.{EngineFault}
use Rattle.proxy_engine.specs.declared.work.EngineFault.TheVariants.{WrongNumber, NotAccepted, OutOfMemory}
use Rattle.proxy_engine.specs.declared.endpoints.activities.Activity.TheVariants.{Free}
use Rattle.proxy_engine.specs.declared.endpoints.ends.Connection.{Connection}
use Rattle.proxy_engine.specs.declared.endpoints.ends.Link.{Link}
use Rattle.proxy_engine.proofs.ActivityCases.{free_from}
use Rattle.proxy_engine.proofs.Parts.{both_length, both_at, both_push}
use Rattle.proxy_engine.proofs.Keeping.{set_none}
use Rattle.proxy_engine.proofs.Changes.{changed_connection, changed_link}

pub connection_free : (cs : List (Option Connection)) (ks : List (Option Link)) (core : CoreState) (first : ℕ) (s : EngineModel) (n : ℕ) (b : Bool) → nat_lt 0 n && nat_le n (length cs) ≡ b → EngineRepresents (engine_state_of_parts cs ks core first) s → fault_of_unknown_connection (length s.connections) n ≡ cond b None (Some NotAccepted)
connection_free cs ks core first s n b e h =
    let len : length s.connections ≡ length cs = sym (both_length ConnectionRepresents cs s.connections h.connections) in
    ap (λ k. cond (nat_lt 0 n && nat_le n k) None (Some NotAccepted)) len ∙ ap (λ (b : Bool). cond b None (Some NotAccepted)) e

pub link_free : (cs : List (Option Connection)) (ks : List (Option Link)) (core : CoreState) (first : ℕ) (s : EngineModel) (l : ℕ) (b : Bool) → nat_le first l && nat_lt (l - first) (length ks) ≡ b → EngineRepresents (engine_state_of_parts cs ks core first) s → fault_of_unknown_link s.first (length s.links) l ≡ cond b None (Some WrongNumber)
link_free cs ks core first s l b e h =
    let len : length s.links ≡ length ks = sym (both_length LinkRepresents ks s.links h.links) in
    ap (λ k. fault_of_unknown_link s.first k l) len ∙ (ap (λ f. fault_of_unknown_link f (length ks) l) (sym h.first) ∙ ap (λ (b : Bool). cond b None (Some WrongNumber)) e)

pub connection_refused : (cs : List (Option Connection)) (ks : List (Option Link)) (core : CoreState) (first : ℕ) (s : EngineModel) (n : ℕ) → nat_lt 0 n && nat_le n (length cs) ≡ false → EngineRepresents (engine_state_of_parts cs ks core first) s → IsFaultOrOutOfMemory (fault_of_unknown_connection (length s.connections) n) NotAccepted
connection_refused cs ks core first s n e h = subst (λ (o : Option EngineFault). IsFaultOrOutOfMemory o NotAccepted) (sym (connection_free cs ks core first s n false e h)) refl

pub connection_full : (cs : List (Option Connection)) (ks : List (Option Link)) (core : CoreState) (first : ℕ) (s : EngineModel) (n : ℕ) → nat_lt 0 n && nat_le n (length cs) ≡ true → EngineRepresents (engine_state_of_parts cs ks core first) s → IsFaultOrOutOfMemory (fault_of_unknown_connection (length s.connections) n) OutOfMemory
connection_full cs ks core first s n e h = subst (λ (o : Option EngineFault). IsFaultOrOutOfMemory o OutOfMemory) (sym (connection_free cs ks core first s n true e h)) refl

pub link_refused : (cs : List (Option Connection)) (ks : List (Option Link)) (core : CoreState) (first : ℕ) (s : EngineModel) (l : ℕ) → nat_le first l && nat_lt (l - first) (length ks) ≡ false → EngineRepresents (engine_state_of_parts cs ks core first) s → IsFaultOrOutOfMemory (fault_of_unknown_link s.first (length s.links) l) WrongNumber
link_refused cs ks core first s l e h = subst (λ (o : Option EngineFault). IsFaultOrOutOfMemory o WrongNumber) (sym (link_free cs ks core first s l false e h)) refl

pub link_full : (cs : List (Option Connection)) (ks : List (Option Link)) (core : CoreState) (first : ℕ) (s : EngineModel) (l : ℕ) → nat_le first l && nat_lt (l - first) (length ks) ≡ true → EngineRepresents (engine_state_of_parts cs ks core first) s → IsFaultOrOutOfMemory (fault_of_unknown_link s.first (length s.links) l) OutOfMemory
link_full cs ks core first s l e h = subst (λ (o : Option EngineFault). IsFaultOrOutOfMemory o OutOfMemory) (sym (link_free cs ks core first s l true e h)) refl

-- a change of the n-th connection, which stands at i
pub connection_taken : (f : ConnectionModel → ConnectionModel) (cs : List (Option Connection)) (ks : List (Option Link)) (core : CoreState) (first : ℕ) (s : EngineModel) (n i : ℕ) (o : Option Connection) → i ≡ n - 1 → i < length cs
    → ((c : ConnectionModel) → ConnectionRepresents (get_or cs i None) c → ConnectionRepresents o (f c)) → EngineRepresents (engine_state_of_parts cs ks core first) s → EngineRepresents (engine_state_of_parts (set cs i o) ks core first) (with_changed_connection s (n - 1) f)
connection_taken f cs ks core first s n i o place l keep h =
    subst (λ k. EngineRepresents (engine_state_of_parts (set cs i o) ks core first) (with_changed_connection s k f)) place (changed_connection f cs ks core first s i o l keep h)

-- none of one that is over
pub connection_over : (f : ConnectionModel → ConnectionModel) (cs : List (Option Connection)) (ks : List (Option Link)) (core : CoreState) (first : ℕ) (s : EngineModel) (n i : ℕ) → i ≡ n - 1 → i < length cs → None ≡ get_or cs i None
    → ((c : ConnectionModel) → ConnectionRepresents None c → ConnectionRepresents None (f c)) → EngineRepresents (engine_state_of_parts cs ks core first) s → EngineRepresents (engine_state_of_parts cs ks core first) (with_changed_connection s (n - 1) f)
connection_over f cs ks core first s n i place l none keep h =
    subst (λ (ds : List (Option Connection)). EngineRepresents (engine_state_of_parts ds ks core first) (with_changed_connection s (n - 1) f)) (set_none cs i (sym none))
    (connection_taken f cs ks core first s n i None place l (λ c q. keep c (subst (λ (o : Option Connection). ConnectionRepresents o c) (sym none) q)) h)

pub link_taken : (f : LinkModel → LinkModel) (cs : List (Option Connection)) (ks : List (Option Link)) (core : CoreState) (first : ℕ) (s : EngineModel) (l j : ℕ) (o : Option Link) → j ≡ l - first → j < length ks
    → ((k : LinkModel) → LinkRepresents (get_or ks j None) k → LinkRepresents o (f k)) → EngineRepresents (engine_state_of_parts cs ks core first) s → EngineRepresents (engine_state_of_parts cs (set ks j o) core first) (with_changed_link s (l - s.first) f)
link_taken f cs ks core first s l j o place within keep h =
    subst (λ k. EngineRepresents (engine_state_of_parts cs (set ks j o) core first) (with_changed_link s k f)) (place ∙ ap (λ f. l - f) h.first) (changed_link f cs ks core first s j o within keep h)

pub link_over : (f : LinkModel → LinkModel) (cs : List (Option Connection)) (ks : List (Option Link)) (core : CoreState) (first : ℕ) (s : EngineModel) (l j : ℕ) → j ≡ l - first → j < length ks → None ≡ get_or ks j None
    → ((k : LinkModel) → LinkRepresents None k → LinkRepresents None (f k)) → EngineRepresents (engine_state_of_parts cs ks core first) s → EngineRepresents (engine_state_of_parts cs ks core first) (with_changed_link s (l - s.first) f)
link_over f cs ks core first s l j place within none keep h =
    subst (λ (ls : List (Option Link)). EngineRepresents (engine_state_of_parts cs ls core first) (with_changed_link s (l - s.first) f)) (set_none ks j (sym none))
    (link_taken f cs ks core first s l j None place within (λ k q. keep k (subst (λ (o : Option Link). LinkRepresents o k) (sym none) q)) h)

-- ---- what comes for an end that is over changes nothing

or_more : (a b d : Bool) → a || b ≡ true → a || (b || d) ≡ true
or_more true b d e = refl
or_more false true d e = refl
or_more false false d e = absurd (cc)

pub sent_over : (bytes : List ℕ) (c : ConnectionModel) → ConnectionRepresents None c → ConnectionRepresents None (connection_after_bytes bytes c)
sent_over bytes c h = subst (λ (b : Bool). ConnectionRepresents None (cond b c (record c { progress = progress_after_piece c.progress bytes }))) (sym (or_more c.gone c.closed c.progress.ended h.0)) h

pub ended_over : (c : ConnectionModel) → ConnectionRepresents None c → ConnectionRepresents None (connection_after_end c)
ended_over c h = subst (λ (b : Bool). ConnectionRepresents None (cond b c (record c { progress = progress_after_end c.progress }))) (sym h.0) h

left_by : (b : Bool) (c : ConnectionModel) → ConnectionRepresents None c → ConnectionRepresents None (cond b c (record c { gone = true }))
left_by true c h = h
left_by false c h = (refl, h.1)

-- a client without an open exchange is over when it goes
pub left_gone : (o : Option Connection) (c : ConnectionModel) → has_exchange (activity_of_connection o) ≡ false → ConnectionRepresents o c → ConnectionRepresents None (connection_after_disconnect c)
left_gone None c e h = left_by c.closed c h
left_gone (Some x) c e h = subst (λ (b : Bool). ConnectionRepresents None (cond b c (record c { gone = true }))) (sym h.still) (refl, sym h.activity ∙ free_from x.activity e)

pub heard_over : (bytes : List ℕ) (k : LinkModel) → LinkRepresents None k → LinkRepresents None (link_after_bytes bytes k)
heard_over bytes k h = subst (λ (b : Bool). LinkRepresents None (cond (b || (is_some k.failed || k.progress.ended)) k (record k { progress = progress_after_piece k.progress bytes }))) (sym h) h

pub shut_over : (k : LinkModel) → LinkRepresents None k → LinkRepresents None (link_after_end k)
shut_over k h = subst (λ (b : Bool). LinkRepresents None (cond (b || is_some k.failed) k (record k { progress = progress_after_end k.progress }))) (sym h) h

pub failed_over : (kind : FailKind) (k : LinkModel) → LinkRepresents None k → LinkRepresents None (link_after_its_failure kind k)
failed_over kind k h = subst (λ (b : Bool). LinkRepresents None (cond (b || is_some k.failed) k (record k { failed = Some kind }))) (sym h) h

-- ---- an end that found no memory for bytes is still read

pub connection_keeps : (cs : List (Option Connection)) (ks : List (Option Link)) (core : CoreState) (first : ℕ) (s : EngineModel) (n i : ℕ) (x : Connection) → i ≡ n - 1 → i < length cs → Some x ≡ get_or cs i None
    → x.gone || x.ended ≡ false → EngineRepresents (engine_state_of_parts cs ks core first) s → connection_accepts_input (connection_at s (n - 1)) ≡ true
connection_keeps cs ks core first s n i x place l e read h =
    let c = connection_at s i in
    let q : ConnectionRepresents (Some x) c = subst (λ (o : Option Connection). ConnectionRepresents o c) (sym e) (both_at ConnectionRepresents cs s.connections i None no_connection h.connections l) in
    subst (λ k. connection_accepts_input (connection_at s k) ≡ true) place
    (ap (λ (b : Bool). not (b || (c.closed || c.progress.ended))) (sym q.gone) ∙ (ap (λ (b : Bool). not (x.gone || (b || c.progress.ended))) q.still ∙ (ap (λ (b : Bool). not (x.gone || b)) (sym q.ended) ∙ ap not read)))

pub link_keeps : (cs : List (Option Connection)) (ks : List (Option Link)) (core : CoreState) (first : ℕ) (s : EngineModel) (l j : ℕ) (x : Link) → j ≡ l - first → j < length ks → Some x ≡ get_or ks j None
    → is_some x.failed || x.ended ≡ false → EngineRepresents (engine_state_of_parts cs ks core first) s → link_accepts_input (link_at s (l - s.first)) ≡ true
link_keeps cs ks core first s l j x place within e read h =
    let k = link_at s j in
    let q : LinkRepresents (Some x) k = subst (λ (o : Option Link). LinkRepresents o k) (sym e) (both_at LinkRepresents ks s.links j None no_link h.links within) in
    subst (λ n. link_accepts_input (link_at s n) ≡ true) (place ∙ ap (λ f. l - f) h.first)
    (ap (λ (b : Bool). not (b || (is_some k.failed || k.progress.ended))) q.still ∙ (ap (λ o. not (is_some o || k.progress.ended)) (sym q.failed) ∙ (ap (λ (b : Bool). not (is_some x.failed || b)) (sym q.ended) ∙ ap not read)))

-- a connection more
pub accepted_more : (cs : List (Option Connection)) (ks : List (Option Link)) (core : CoreState) (first : ℕ) (s : EngineModel) (max_body : ℕ) (w : PeekableReader RequestState Request) → core.table.max_body ≡ max_body → RequestRepresents w (empty_stream_progress max_body false) → EngineRepresents (engine_state_of_parts cs ks core first) s
    → EngineRepresents (engine_state_of_parts (cs ++ Some (record { reader = w; ended = false; gone = false; retired = false; activity = Free }) ∷ []) ks core first) (model_after_happening s (Accepts 0))
accepted_more cs ks core first s max_body w most fresh h = record {
  connections = both_push ConnectionRepresents cs s.connections (Some (record { reader = w; ended = false; gone = false; retired = false; activity = Free })) (new_connection_model s.core.table.max_body) h.connections
      record { reader = subst (λ (n : ℕ). RequestRepresents w (empty_stream_progress n false)) (sym most ∙ ap (λ (k : CoreState). k.table.max_body) h.core) fresh; ended = refl; gone = refl; retired = refl; activity = refl; still = refl; used = λ e. absurd (cc) };
  links = h.links;
  core = h.core;
  first = h.first;
  numbers = h.numbers;
}

pub on_ok : {A E : Type 0} (r : Result A E) (P Q : Type 0) → (P → Q) → OnOk r P → OnOk r Q
on_ok (Ok a) P Q f p = f p
on_ok (Err e) P Q f p = tt

pub opens_free : (cs : List (Option Connection)) (ks : List (Option Link)) (core : CoreState) (first : ℕ) (s : EngineModel) (n : ℕ) (b : Bool) → (n == length cs + 1) ≡ b → EngineRepresents (engine_state_of_parts cs ks core first) s → happening_fault s (Accepts n) ≡ cond b None (Some WrongNumber)
opens_free cs ks core first s n b e h =
    let len : length s.connections ≡ length cs = sym (both_length ConnectionRepresents cs s.connections h.connections) in
    ap (λ k. cond (n == k + 1) None (Some WrongNumber)) len ∙ ap (λ (b : Bool). cond b None (Some WrongNumber)) e

pub opens_refused : (cs : List (Option Connection)) (ks : List (Option Link)) (core : CoreState) (first : ℕ) (s : EngineModel) (n : ℕ) (b : Bool) → b ≡ (n == length cs + 1) → b ≡ false → EngineRepresents (engine_state_of_parts cs ks core first) s → IsFaultOrOutOfMemory (happening_fault s (Accepts n)) WrongNumber
opens_refused cs ks core first s n b e isnt h = subst (λ (o : Option EngineFault). IsFaultOrOutOfMemory o WrongNumber) (sym (opens_free cs ks core first s n false (sym e ∙ isnt) h)) refl

pub opens_full : (cs : List (Option Connection)) (ks : List (Option Link)) (core : CoreState) (first : ℕ) (s : EngineModel) (n : ℕ) (b : Bool) → b ≡ (n == length cs + 1) → b ≡ true → EngineRepresents (engine_state_of_parts cs ks core first) s → IsFaultOrOutOfMemory (happening_fault s (Accepts n)) OutOfMemory
opens_full cs ks core first s n b e it h = subst (λ (o : Option EngineFault). IsFaultOrOutOfMemory o OutOfMemory) (sym (opens_free cs ks core first s n true (sym e ∙ it) h)) refl
