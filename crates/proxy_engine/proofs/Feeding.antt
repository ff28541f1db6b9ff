-- What comes for an end: room for bytes, bytes, and the end of its stream.
use Rattle.std.proofs.Common.{◌≡◌, ℕ, ◌||◌, List, refl, sym, ap, ◌∙◌, subst, arith, Bool, true, false, cond, is_some}
use Rattle.std.proofs.Math.Nat.{le_refl}
use Rattle.hx_framing.specs.declared.messages.Request.{Request}
use Rattle.hx_framing.specs.declared.messages.Response.{Response}
use Rattle.hx_framing.specs.Progress.{Progress, progress_after_piece, progress_after_end}
use Rattle.hx_framing.specs.RequestState.{State as RequestState, ReaderRepresentsStream as RequestRepresentsStream, weight}
use Rattle.hx_framing.specs.RequestStream.{Answers as RequestAnswers}
use Rattle.hx_framing.specs.ResponseState.{State as ResponseState, ReaderRepresentsStream as ResponseRepresentsStream}
use Rattle.hx_framing.specs.ResponseStream.{Answers as ResponseAnswers}
use Rattle.hx_framing.proofs.RequestStreams.{due_fed as request_due_fed, due_finished as request_due_finished}
use Rattle.hx_framing.proofs.ResponseStreams.{due_fed as response_due_fed, due_finished as response_due_finished}
use Rattle.proxy_engine.specs.declared.endpoints.lookahead.Lookahead.{Lookahead}
use Rattle.proxy_engine.specs.declared.endpoints.peeked.PeekableReader.{PeekableReader}
use Rattle.proxy_engine.specs.declared.endpoints.ends.Connection.{Connection}
use Rattle.proxy_engine.specs.declared.endpoints.ends.Link.{Link}
use Rattle.proxy_engine.specs.Lookahead.{lookahead_after_input}
use Rattle.proxy_engine.specs.EngineModel.{ConnectionModel, LinkModel, connection_after_bytes, connection_after_end, link_after_bytes, link_after_end}
use Rattle.proxy_engine.specs.State.{ConnectionMatchesModel, LinkMatchesModel}
use Rattle.proxy_engine.specs.Marked.{DiffersOnlyInSpareRoom, LookingAheadKeepsConnection, LinkAfterLookahead, connection_may_be_due, link_may_be_due}
use Rattle.proxy_engine.proofs.Peeking.{kept_ahead, fed_ahead, finished_ahead, request_spare_represents, spare_represents}

peeked_is : {S M : Type 0} (w : PeekableReader S M) (r : S) (l : Lookahead M) → w.inner ≡ r → w.ahead ≡ l → w ≡ record { inner = r; ahead = l }
peeked_is {S} {M} w r l same again = ap {B = PeekableReader S M} (λ (s : S). record { inner = s; ahead = w.ahead }) same ∙ ap {B = PeekableReader S M} (λ (k : Lookahead M). record { inner = r; ahead = k }) again

-- ---- room

pub connection_grows : (x : Connection) (r : RequestState) → r ≡ record x.reader.inner { spare = r.spare } → DiffersOnlyInSpareRoom LookingAheadKeepsConnection connection_may_be_due x (record x { reader = record { inner = r; ahead = x.reader.ahead } })
connection_grows x r same =
    let as_much : weight r ≡ weight x.reader.inner = ap weight same in
    record {
      alike = record {
        represents = λ c h. record {
          reader = kept_ahead RequestRepresentsStream RequestAnswers x.reader.inner r x.reader.ahead c.progress (λ q k. request_spare_represents x.reader.inner r q same k) h.reader;
          ended = h.ended;
          gone = h.gone;
          retired = h.retired;
          activity = h.activity;
          still = h.still;
          used = h.used;
        };
        gone = refl;
        activity = refl;
        load = omega (arith, as_much);
      };
      shows = refl;
    }

pub link_grows : (x : Link) (r : ResponseState) → r ≡ record x.reader.inner { spare = r.spare } → DiffersOnlyInSpareRoom LinkAfterLookahead link_may_be_due x (record x { reader = record { inner = r; ahead = x.reader.ahead } })
link_grows x r same = record {
  alike = record {
    represents = λ k h. record {
      reader = kept_ahead ResponseRepresentsStream ResponseAnswers x.reader.inner r x.reader.ahead k.progress (λ q g. spare_represents x.reader.inner r q same g) h.reader;
      ended = h.ended;
      failed = h.failed;
      still = h.still;
      connection = h.connection;
    };
    connection = refl;
    load = le_refl _;
  };
  shows = refl;
}

-- ---- bytes

connection_read : (x : Connection) (c : ConnectionModel) → x.gone ≡ false → x.ended ≡ false → ConnectionMatchesModel x c → c.gone || (c.closed || c.progress.ended) ≡ false
connection_read x c here still h =
    ap (λ (b : Bool). b || (c.closed || c.progress.ended)) (sym h.gone ∙ here) ∙ (ap (λ (b : Bool). b || c.progress.ended) h.still ∙ (sym h.ended ∙ still))

pub connection_fed : (x : Connection) (w : PeekableReader RequestState Request) (r : RequestState) (bytes : List ℕ) → x.gone ≡ false → x.ended ≡ false → w.inner ≡ r → w.ahead ≡ lookahead_after_input x.reader.ahead
    → ((p : Progress Request) → RequestRepresentsStream x.reader.inner p → p.ended ≡ false → RequestRepresentsStream r (progress_after_piece p bytes)) → (c : ConnectionModel) → ConnectionMatchesModel x c → ConnectionMatchesModel (record x { reader = w }) (connection_after_bytes bytes c)
connection_fed x w r bytes here still same again feed c h =
    subst (λ (b : Bool). ConnectionMatchesModel (record x { reader = w }) (cond b c (record c { progress = progress_after_piece c.progress bytes }))) (sym (connection_read x c here still h))
    (subst (λ (v : PeekableReader RequestState Request). ConnectionMatchesModel (record x { reader = v }) (record c { progress = progress_after_piece c.progress bytes })) (sym (peeked_is w r (lookahead_after_input x.reader.ahead) same again))
    (record {
      reader = fed_ahead RequestRepresentsStream RequestAnswers x.reader.inner r x.reader.ahead c.progress bytes feed (λ q a. request_due_fed q a bytes) (sym h.ended ∙ still) h.reader;
      ended = h.ended;
      gone = h.gone;
      retired = h.retired;
      activity = h.activity;
      still = h.still;
      used = h.used;
    }))

link_read : (x : Link) (k : LinkModel) → is_some x.failed ≡ false → x.ended ≡ false → LinkMatchesModel x k → k.dropped || (is_some k.failed || k.progress.ended) ≡ false
link_read x k here still h =
    ap (λ (b : Bool). b || (is_some k.failed || k.progress.ended)) h.still ∙ (ap (λ (b : Bool). b || k.progress.ended) (ap is_some (sym h.failed) ∙ here) ∙ (sym h.ended ∙ still))

pub link_fed : (x : Link) (w : PeekableReader ResponseState Response) (r : ResponseState) (bytes : List ℕ) → is_some x.failed ≡ false → x.ended ≡ false → w.inner ≡ r → w.ahead ≡ lookahead_after_input x.reader.ahead
    → ((p : Progress Response) → ResponseRepresentsStream x.reader.inner p → p.ended ≡ false → ResponseRepresentsStream r (progress_after_piece p bytes)) → (k : LinkModel) → LinkMatchesModel x k → LinkMatchesModel (record x { reader = w }) (link_after_bytes bytes k)
link_fed x w r bytes here still same again feed k h =
    subst (λ (b : Bool). LinkMatchesModel (record x { reader = w }) (cond b k (record k { progress = progress_after_piece k.progress bytes }))) (sym (link_read x k here still h))
    (subst (λ (v : PeekableReader ResponseState Response). LinkMatchesModel (record x { reader = v }) (record k { progress = progress_after_piece k.progress bytes })) (sym (peeked_is w r (lookahead_after_input x.reader.ahead) same again))
    (record {
      reader = fed_ahead ResponseRepresentsStream ResponseAnswers x.reader.inner r x.reader.ahead k.progress bytes feed (λ q a. response_due_fed q a bytes) (sym h.ended ∙ still) h.reader;
      ended = h.ended;
      failed = h.failed;
      still = h.still;
      connection = h.connection;
    }))

-- ---- the end

pub connection_finished : (x : Connection) (w : PeekableReader RequestState Request) (r : RequestState) → x.gone ≡ false → w.inner ≡ r → w.ahead ≡ lookahead_after_input x.reader.ahead
    → ((p : Progress Request) → RequestRepresentsStream x.reader.inner p → RequestRepresentsStream r (progress_after_end p)) → (c : ConnectionModel) → ConnectionMatchesModel x c → ConnectionMatchesModel (record x { reader = w; ended = true }) (connection_after_end c)
connection_finished x w r here same again finish c h =
    let open_now : c.gone || c.closed ≡ false = ap (λ (b : Bool). b || c.closed) (sym h.gone ∙ here) ∙ h.still in
    subst (λ (b : Bool). ConnectionMatchesModel (record x { reader = w; ended = true }) (cond b c (record c { progress = progress_after_end c.progress }))) (sym open_now)
    (subst (λ (v : PeekableReader RequestState Request). ConnectionMatchesModel (record x { reader = v; ended = true }) (record c { progress = progress_after_end c.progress })) (sym (peeked_is w r (lookahead_after_input x.reader.ahead) same again))
    (record {
      reader = finished_ahead RequestRepresentsStream RequestAnswers x.reader.inner r x.reader.ahead c.progress finish request_due_finished h.reader;
      ended = refl;
      gone = h.gone;
      retired = h.retired;
      activity = h.activity;
      still = h.still;
      used = h.used;
    }))

pub link_finished : (x : Link) (w : PeekableReader ResponseState Response) (r : ResponseState) → is_some x.failed ≡ false → w.inner ≡ r → w.ahead ≡ lookahead_after_input x.reader.ahead
    → ((p : Progress Response) → ResponseRepresentsStream x.reader.inner p → ResponseRepresentsStream r (progress_after_end p)) → (k : LinkModel) → LinkMatchesModel x k → LinkMatchesModel (record x { reader = w; ended = true }) (link_after_end k)
link_finished x w r here same again finish k h =
    let open_now : k.dropped || is_some k.failed ≡ false = ap (λ (b : Bool). b || is_some k.failed) h.still ∙ (ap is_some (sym h.failed) ∙ here) in
    subst (λ (b : Bool). LinkMatchesModel (record x { reader = w; ended = true }) (cond b k (record k { progress = progress_after_end k.progress }))) (sym open_now)
    (subst (λ (v : PeekableReader ResponseState Response). LinkMatchesModel (record x { reader = v; ended = true }) (record k { progress = progress_after_end k.progress })) (sym (peeked_is w r (lookahead_after_input x.reader.ahead) same again))
    (record {
      reader = finished_ahead ResponseRepresentsStream ResponseAnswers x.reader.inner r x.reader.ahead k.progress finish response_due_finished h.reader;
      ended = refl;
      failed = h.failed;
      still = h.still;
      connection = h.connection;
    }))
