-- What becomes of a range that stays with the proxy.
use Rattle.std.proofs.Common.{◌≡◌, ℕ, ◌+◌, Bool, true, false, cond, List, [], ◌∷◌, ◌++◌, length, refl, sym, ◌∙◌, ap}
use Rattle.std.specs.Prelude.{not, ◌&&◌, ◌||◌, ◌==◌, bytes_eq, codes, slice_range, is_none, is_some, Option, Some, None}
use Rattle.std.specs.List.{list_any}
use Rattle.std.proofs.lemmas.List.Folds.{list_any-append}
use Rattle.hx_fields.specs.FieldLines.{has_field, is_named}
use Rattle.hx_fields.specs.Line.{Field}
use Rattle.hx_fields.proofs.JoinedTests.{first_absent, last_absent, not_equal}
use Rattle.hx_framing.specs.Text.{request_text, response_text}
use Rattle.hx_framing.specs.declared.messages.Response.{Response}
use Rattle.hx_age.specs.Age.{times_of_message}
use Rattle.hx_age.specs.declared.moments.Times.{Times}
use Rattle.hx_allow.specs.Matching.{policy_of}
use Rattle.hx_allow.specs.TableLines.{Table}
use Rattle.hx_allow.specs.declared.verdicts.RouteOverLine.{RouteOverLine}
use Rattle.hx_hop.specs.Answering.{answered_of}
use Rattle.hx_hop.specs.Bypass.{asks_for_range}
use Rattle.hx_hop.specs.Forwarding.{forwarded_client_lines, condition_lines, forwarded_of, host_text, is_condition_line, line, line_if_present, via_text}
use Rattle.hx_hop.specs.declared.conditions.Conditions.{Conditions}
use Rattle.hx_hop.specs.declared.request_view.Asked.{Asked}
use Rattle.hx_hop.proofs.Lines.{list_any_fewer}
use Rattle.hx_policy.specs.declared.words.Policy.{Policy}
use Rattle.hx_reuse.specs.Conditions.{withholds_conditions}
use Rattle.hx_reuse.specs.FilledRanges.{fetches_whole_for_range, request_without_filled_range, request_without_range}
use Rattle.hx_reuse.proofs.FilledRanges.{as_the_whole, asks_no_more, has_stays, none_forwarded, only_these}
use Rattle.hx_storable.specs.declared.rule.StoreRule.{StoreRule}
use Rattle.hx_validate.specs.NotModified.{answer_gets_304}
use Rattle.hx_validate.specs.Ranges.{answer_to_range_if_any, range_is_answered, if_range_holds, range_answer_of, range_asked}
use Rattle.hx_validate.specs.Room.{head_leaves_room}
use Rattle.hx_validate.specs.declared.ranges.RangeAnswer.{RangeAnswer}
use Rattle.hx_validate.specs.declared.ranges.RangeAnswer.TheVariants.{Whole, Part, Unsatisfiable}
use Rattle.proxy_core.specs.declared.open.awaited.Awaited.{Awaited}
use Rattle.proxy_core.specs.declared.open.awaited.Awaited.TheVariants.{Missing, Expired}
use Rattle.proxy_core.specs.declared.open.exchange.Exchange.{Exchange}
use Rattle.proxy_core.specs.FilledRanges.{IfRangeMismatchGetsWholeAnswer, AnswerIsCutLikeAStoredResponse, AnswerIsWholeUnlessRangeIsFilled, FilledRangeLeadsLikeTheWhole, FilledRangeForwardsNoRangeField, OnlyA200AnswerIsCutToTheRange, PartialAnswerHasRangeBytes, FilledRangeIsForwardedAsTheWhole, WholeAnswerIsStored, UnsatisfiableRangeOfAnswerGets416}
use Rattle.proxy_core.specs.Leading.{exchange_went_forward_for_awaited, has_authorization, is_forwarded, is_get, bools_are_equal}
use Rattle.hx_target.specs.Keys.{same_key}
use Rattle.proxy_core.specs.Replies.{text_of_answer_or_its_range, client_wants_304_for_answer, content_unless_head, fields_in_place_of_answer, fields_of_answer_416, fields_of_partial_answer, not_modified_answer_text, part_of_answer_to_send, text_in_place_of_answer, whole_answer_text}
use Rattle.proxy_core.specs.Validating.{conditions_to_send}

-- ---- what the origin is asked

no_range_fills : (policy : Policy) (asked : Asked) → asks_for_range asked ≡ false → fetches_whole_for_range policy asked ≡ false
no_range_fills policy asked none = rw none (falls policy.fills_ranges policy.caches (bytes_eq asked.method (codes "GET")))
  where
    falls : (fills caches get : Bool) → fills && (caches && (get && false)) ≡ false
    falls true true true = refl
    falls true true false = refl
    falls true false get = refl
    falls false caches get = refl

pub goes_as_the_whole : FilledRangeIsForwardedAsTheWhole
goes_as_the_whole table line asked condition fills =
    let policy : Policy = policy_of table.lines line in
    let none = no_range_fills policy (request_without_range asked) (asks_no_more asked) in
    ap (λ t. request_text (forwarded_of (withholds_conditions policy asked) (cond t (request_without_range asked) asked) table.name (conditions_to_send condition))) fills
    ∙ (ap (λ k. request_text (forwarded_of k (request_without_range asked) table.name (conditions_to_send condition))) (as_the_whole policy asked fills)
    ∙ sym (ap (λ t. request_text (forwarded_of (withholds_conditions policy (request_without_range asked)) (cond t (request_without_range (request_without_range asked)) (request_without_range asked)) table.name (conditions_to_send condition))) none))

module _ (q : Field → Bool) where
  one_none : (name : List ℕ) (value : Option (List ℕ)) → ((v : List ℕ) → q (line name v) ≡ false) → list_any q (line_if_present name value) ≡ false
  one_none name None h = refl
  one_none name (Some v) h = rw (h v) refl

  conditions_none : (conditions : Option Conditions) → ((v : List ℕ) → q (line (codes "If-None-Match") v) ≡ false)
      → ((v : List ℕ) → q (line (codes "If-Modified-Since") v) ≡ false) → list_any q (condition_lines conditions) ≡ false
  conditions_none None tag date = refl
  conditions_none (Some c) tag date =
      rw (list_any-append q (line_if_present (codes "If-None-Match") c.etag) (line_if_present (codes "If-Modified-Since") c.modified), one_none (codes "If-None-Match") c.etag tag, one_none (codes "If-Modified-Since") c.modified date) refl

  sends_none : (host via : Field) (client conditions : List Field) → q host ≡ false → list_any q client ≡ false → list_any q conditions ≡ false → q via ≡ false
      → list_any q (host ∷ (client ++ conditions ++ via ∷ [])) ≡ false
  sends_none host via client conditions h c d v = rw (h, list_any-append q (client ++ conditions) (via ∷ []), list_any-append q client conditions, c, d, v) refl

-- no line of the proxy's own is one of these
pub none_of_ours : (keeps : Bool) (sent : Asked) (name field : List ℕ) (conditions : Option Conditions) → has_field sent.fields field ≡ false
    → ((v : List ℕ) → is_named field (line (codes "Host") v) ≡ false) → ((v : List ℕ) → is_named field (line (codes "If-None-Match") v) ≡ false)
    → ((v : List ℕ) → is_named field (line (codes "If-Modified-Since") v) ≡ false) → ((v : List ℕ) → is_named field (line (codes "Via") v) ≡ false)
    → has_field (forwarded_of keeps sent name conditions).fields field ≡ false
unfolding forwarded_of
none_of_ours keeps sent name field conditions none host tag date via =
    sends_none (is_named field) (line (codes "Host") (host_text sent.target.key)) (line (codes "Via") (via_text sent.minor name)) (forwarded_client_lines (keeps || is_some conditions) sent.fields) (condition_lines conditions)
    (host (host_text sent.target.key)) (list_any_fewer (λ f. not ((keeps || is_some conditions) && is_condition_line f)) (is_named field) sent.fields none) (conditions_none (is_named field) conditions tag date) (via (via_text sent.minor name))

pub forwards_no_range : FilledRangeForwardsNoRangeField
forwards_no_range table line asked condition fills =
    let policy : Policy = policy_of table.lines line in
    let sent : Asked = request_without_filled_range policy asked in
    let left = none_forwarded policy asked fills in (
      forwarded_of (withholds_conditions policy asked) sent table.name (conditions_to_send condition),
      refl,
      none_of_ours (withholds_conditions policy asked) sent table.name (codes "Range") (conditions_to_send condition) left.0 (λ v. refl) (λ v. refl) (λ v. refl) (λ v. refl),
      none_of_ours (withholds_conditions policy asked) sent table.name (codes "If-Range") (conditions_to_send condition) left.1 (λ v. refl) (λ v. refl) (λ v. refl) (λ v. refl),
    )

-- ---- who waits for the answer

pub leads_as_the_whole : FilledRangeLeadsLikeTheWhole
leads_as_the_whole policy awaited asked x fills =
    ap (λ b. leads (exchange_went_forward_for_awaited awaited x) (not (asks_for_range x.asked && not b)) (serves kept tag date credentials)) fills
    ∙ (ap (λ b. leads (exchange_went_forward_for_awaited awaited x) (not b) (serves kept tag date credentials)) (never (asks_for_range x.asked))
    ∙ (sym (ap (λ b. leads (exchange_went_forward_for_awaited awaited x) (not (b && not (fetches_whole_for_range policy (request_without_range x.asked)))) (serves kept tag date credentials)) (asks_no_more x.asked))
    ∙ (ap (λ b. leads (exchange_went_forward_for_awaited awaited x) (not (asks_for_range (request_without_range x.asked) && not (fetches_whole_for_range policy (request_without_range x.asked)))) b) same
    ∙ ap (λ b. leads b (not (asks_for_range (request_without_range x.asked) && not (fetches_whole_for_range policy (request_without_range x.asked)))) (serves (withholds_conditions policy (request_without_range x.asked)) (has_field whole (codes "If-None-Match")) (has_field whole (codes "If-Modified-Since")) (has_field whole (codes "Authorization")))) (same_wish awaited))))
  where
    kept : Bool
    kept = withholds_conditions policy x.asked

    tag : Bool
    tag = has_field x.asked.fields (codes "If-None-Match")

    date : Bool
    date = has_field x.asked.fields (codes "If-Modified-Since")

    credentials : Bool
    credentials = has_field x.asked.fields (codes "Authorization")

    whole : List Field
    whole = (request_without_range x.asked).fields

    never : (a : Bool) → (a && false) ≡ false
    never true = refl
    never false = refl

    serves : Bool → Bool → Bool → Bool → Bool
    serves k i m a = not x.no_store && (not x.overtaken && (not (is_none x.condition && (not k && (i || m))) && bools_are_equal a (has_authorization asked)))

    same_wish : (wish : Awaited) → exchange_went_forward_for_awaited wish x ≡ exchange_went_forward_for_awaited wish (record x { asked = request_without_range x.asked })
    same_wish Missing = refl
    same_wish (Expired serial) = refl

    leads : Bool → Bool → Bool → Bool
    leads asks whole_asked may =
        same_key x.asked.target.key asked.target.key
        && (is_get x.asked && (is_forwarded x.stage && (asks && (whole_asked && (not policy.waits_for_stale || may)))))

    same : serves kept tag date credentials ≡ serves (withholds_conditions policy (request_without_range x.asked)) (has_field whole (codes "If-None-Match")) (has_field whole (codes "If-Modified-Since")) (has_field whole (codes "Authorization"))
    same =
        ap (λ k. serves k tag date credentials) (as_the_whole policy x.asked fills)
        ∙ (ap (λ i. serves (withholds_conditions policy (request_without_range x.asked)) i date credentials) (sym (has_stays (codes "If-None-Match") x.asked.fields refl refl))
        ∙ (ap (λ m. serves (withholds_conditions policy (request_without_range x.asked)) (has_field whole (codes "If-None-Match")) m credentials) (sym (has_stays (codes "If-Modified-Since") x.asked.fields refl refl))
        ∙ ap (λ a. serves (withholds_conditions policy (request_without_range x.asked)) (has_field whole (codes "If-None-Match")) (has_field whole (codes "If-Modified-Since")) a) (sym (has_stays (codes "Authorization") x.asked.fields refl refl))))

-- ---- what its client is sent

pub cut_as_held : AnswerIsCutLikeAStoredResponse
cut_as_held policy x r now e fills status fields content times =
    let lines : List Field = (answered_of r now).fields in
    let made : Times = times_of_message lines x.request_time now in
    ap (λ t. cond t (range_answer_of x.asked r.status made.date lines (length r.content)) Whole) fills
    ∙ (ap (λ (s : ℕ). range_answer_of x.asked s made.date lines (length r.content)) (sym status)
    ∙ (ap (λ (t : Times). range_answer_of x.asked e.status t.date lines (length r.content)) (sym times)
    ∙ (ap (λ (f : List Field). range_answer_of x.asked e.status e.times.date f (length r.content)) (sym fields)
    ∙ ap (λ (c : List ℕ). range_answer_of x.asked e.status e.times.date e.fields (length c)) (sym content))))

module _ (policy : Policy) (name : List ℕ) (x : Exchange) (r : Response) (now : ℕ) (stored : Bool) (rule : Option StoreRule) where
  in_range : (answer : RangeAnswer) → client_wants_304_for_answer policy x r now ≡ false → part_of_answer_to_send policy x r now ≡ answer
      → cond (client_wants_304_for_answer policy x r now) (not_modified_answer_text policy name x r now stored rule) (text_of_answer_or_its_range policy name x r now stored rule (part_of_answer_to_send policy x r now))
      ≡ text_of_answer_or_its_range policy name x r now stored rule answer
  in_range answer has_not is =
      ap (λ b. cond b (not_modified_answer_text policy name x r now stored rule) (text_of_answer_or_its_range policy name x r now stored rule (part_of_answer_to_send policy x r now))) has_not
      ∙ ap (text_of_answer_or_its_range policy name x r now stored rule) is

-- only the answer to a GET is cut
pub to_get : (policy : Policy) (x : Exchange) (r : Response) (now : ℕ) (answer : RangeAnswer) → part_of_answer_to_send policy x r now ≡ answer → (Whole ≡ answer → ⊥) → bytes_eq x.asked.method (codes "HEAD") ≡ false
to_get policy x r now answer is not_whole = by_test (fetches_whole_for_range policy x.asked) refl is
  where
    by_test : (t : Bool) → fetches_whole_for_range policy x.asked ≡ t → cond t (range_answer_of x.asked r.status (times_of_message (answered_of r now).fields x.request_time now).date (answered_of r now).fields (length r.content)) Whole ≡ answer
        → bytes_eq x.asked.method (codes "HEAD") ≡ false
    by_test true fills e = ap (λ (m : List ℕ). bytes_eq m (codes "HEAD")) (only_these policy x.asked fills).2
    by_test false fills e = absurd (not_whole e)

pub part_cut : PartialAnswerHasRangeBytes
part_cut policy name x r now stored rule first last has_not is room =
    let part : List ℕ = slice_range r.content first (last + 1) in
    let own : List Field = fields_of_partial_answer r now first last in
    in_range policy name x r now stored rule (Part first last) has_not is
    ∙ (ap (λ b. cond b (text_in_place_of_answer policy name x r now stored rule 206 own part) (whole_answer_text policy name x r now stored rule)) room
    ∙ ap (λ b. response_text 206 (fields_in_place_of_answer policy name x r.status (answered_of r now).fields now stored rule own) (Some (length part)) x.asked.close (content_unless_head b part)) (to_get policy x r now (Part first last) is no_part))
  where
    no_part : Whole ≡ Part first last → ⊥
    no_part e = cc

pub unsatisfiable_told : UnsatisfiableRangeOfAnswerGets416
unsatisfiable_told policy name x r now stored rule has_not is room =
    let own : List Field = fields_of_answer_416 r now in
    in_range policy name x r now stored rule Unsatisfiable has_not is
    ∙ (ap (λ b. cond b (text_in_place_of_answer policy name x r now stored rule 416 own []) (whole_answer_text policy name x r now stored rule)) room
    ∙ ap (λ b. response_text 416 (fields_in_place_of_answer policy name x r.status (answered_of r now).fields now stored rule own) (Some 0) x.asked.close (content_unless_head b [])) (to_get policy x r now Unsatisfiable is no_part))
  where
    no_part : Whole ≡ Unsatisfiable → ⊥
    no_part e = cc

-- where Range isn't heeded all is sent
unheeded : (policy : Policy) (x : Exchange) (r : Response) (now : ℕ) → range_is_answered x.asked r.status (times_of_message (answered_of r now).fields x.request_time now).date (answered_of r now).fields ≡ false → part_of_answer_to_send policy x r now ≡ Whole
unheeded policy x r now off = by_test (fetches_whole_for_range policy x.asked)
  where
    by_test : (t : Bool) → cond t (range_answer_of x.asked r.status (times_of_message (answered_of r now).fields x.request_time now).date (answered_of r now).fields (length r.content)) Whole ≡ Whole
    by_test true = ap (λ h. cond h (answer_to_range_if_any (length r.content) (range_asked x.asked.fields)) Whole) off
    by_test false = refl

pub only_a_200 : OnlyA200AnswerIsCutToTheRange
only_a_200 policy name x r now stored rule other =
    let fields : List Field = (answered_of r now).fields in
    let date : ℕ = (times_of_message fields x.request_time now).date in
    let not_200 = not_equal r.status 200 other in
    let has_not : client_wants_304_for_answer policy x r now ≡ false = last_absent (withholds_conditions policy x.asked) (answer_gets_304 x.asked r.status fields) (first_absent (r.status == 200) _ not_200) in
    in_range policy name x r now stored rule Whole has_not
    (unheeded policy x r now (last_absent (bytes_eq x.asked.method (codes "GET")) ((r.status == 200) && if_range_holds x.asked.fields date fields) (first_absent (r.status == 200) (if_range_holds x.asked.fields date fields) not_200)))

pub whole_unless_filled : AnswerIsWholeUnlessRangeIsFilled
whole_unless_filled policy name x r now stored rule off =
    ap (λ t. cond (client_wants_304_for_answer policy x r now) (not_modified_answer_text policy name x r now stored rule)
    (text_of_answer_or_its_range policy name x r now stored rule
    (cond t (range_answer_of x.asked r.status (times_of_message (answered_of r now).fields x.request_time now).date (answered_of r now).fields (length r.content)) Whole))) off

pub another_if_range : IfRangeMismatchGetsWholeAnswer
another_if_range policy name x r now stored rule has_not off =
    let fields : List Field = (answered_of r now).fields in
    let date : ℕ = (times_of_message fields x.request_time now).date in
    in_range policy name x r now stored rule Whole has_not
    (unheeded policy x r now (last_absent (bytes_eq x.asked.method (codes "GET")) ((r.status == 200) && if_range_holds x.asked.fields date fields) (last_absent (r.status == 200) (if_range_holds x.asked.fields date fields) off)))

pub whole_stored : WholeAnswerIsStored
whole_stored serial x r now = refl
