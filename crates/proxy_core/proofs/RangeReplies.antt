-- What of a stored response is sent to a request for a range.
use Rattle.std.proofs.Common.{◌≡◌, ℕ, ◌+◌, Bool, true, false, cond, List, [], length, refl, sym, ◌∙◌, ap}
use Rattle.std.specs.Prelude.{bytes_eq, codes, slice_range, Some}
use Rattle.hx_fields.specs.Line.{Field}
use Rattle.hx_framing.specs.Text.{response_text}
use Rattle.hx_hop.specs.declared.request_view.Asked.{Asked}
use Rattle.hx_store.specs.Stored.{Stored}
use Rattle.hx_validate.specs.NotModified.{stored_gets_304}
use Rattle.hx_validate.specs.Ranges.{fields_of_416, fields_of_206, response_as_range_answer, response_206_of_part, range_answer, response_as_range_or_whole, response_416_of}
use Rattle.hx_validate.specs.Room.{head_leaves_room}
use Rattle.hx_validate.specs.declared.ranges.RangeAnswer.{RangeAnswer}
use Rattle.hx_validate.specs.declared.ranges.RangeAnswer.TheVariants.{Part, Unsatisfiable}
use Rattle.hx_validate.proofs.RangeLemmas.{of_no_range}
use Rattle.proxy_core.specs.Replies.{content_unless_head, fields_of_sent_response, stored_response_cut_to_range, is_head, not_modified_text, stored_reply_text, text_of_stored_sent_as}
use Rattle.proxy_core.specs.RangeReplies.{ConditionIsJudgedBeforeRange, LineForwardingRangesSendsWhole, StoredPartialReplyHasRangeBytes, UnsatisfiableRangeOfStoredGets416, RequestWithoutSingleRangeGetsWhole}
use Rattle.proxy_core.specs.Validating.{without_set_cookie_if}
use Rattle.proxy_core.specs.declared.replies.stored_reply.StoredCacheStatusInfo.{StoredCacheStatusInfo}

pub conditions_first : ConditionIsJudgedBeforeRange
conditions_first name e now info asked has =
    ap (λ b. cond b (not_modified_text name e now info asked) (text_of_stored_sent_as name (stored_response_cut_to_range info.policy asked e) e now info asked)) has

pub forwarded_unchanged : LineForwardingRangesSendsWhole
forwarded_unchanged name e now info asked forwards =
    ap (λ b. cond (stored_gets_304 asked e) (not_modified_text name e now info asked) (text_of_stored_sent_as name (cond b e (response_as_range_or_whole asked e)) e now info asked)) forwards

either_way : (b : Bool) (e : Stored) → cond b e e ≡ e
either_way true e = refl
either_way false e = refl

pub all_sent : RequestWithoutSingleRangeGetsWhole
all_sent name e now info asked none =
    let sent : (Stored → List ℕ) = (λ (f : Stored). cond (stored_gets_304 asked e) (not_modified_text name e now info asked) (text_of_stored_sent_as name f e now info asked)) in
    ap (λ (f : Stored). sent (cond info.policy.forwards_ranges e f)) (of_no_range asked e none) ∙ ap sent (either_way info.policy.forwards_ranges e)

-- a form that is sent to a GET
module _ (name : List ℕ) (e : Stored) (now : ℕ) (info : StoredCacheStatusInfo) (asked : Asked) (served : info.policy.forwards_ranges ≡ false) (has_not : stored_gets_304 asked e ≡ false) where
  in_range : (answer : RangeAnswer) → range_answer asked e ≡ answer → stored_reply_text name e now info asked ≡ text_of_stored_sent_as name (response_as_range_answer answer e) e now info asked
  in_range answer is =
      ap (λ b. cond b (not_modified_text name e now info asked) (text_of_stored_sent_as name (stored_response_cut_to_range info.policy asked e) e now info asked)) has_not
      ∙ (ap (λ b. text_of_stored_sent_as name (cond b e (response_as_range_or_whole asked e)) e now info asked) served
      ∙ ap (λ (a : RangeAnswer). text_of_stored_sent_as name (response_as_range_answer a e) e now info asked) is)

to_get : (asked : Asked) → asked.method ≡ codes "GET" → bytes_eq asked.method (codes "HEAD") ≡ false
to_get asked get = ap (λ (m : List ℕ). bytes_eq m (codes "HEAD")) get

pub part_cut : StoredPartialReplyHasRangeBytes
part_cut name e now info asked first last served has_not get is room =
    in_range name e now info asked served has_not (Part first last) is
    ∙ (ap (λ b. text_of_stored_sent_as name (cond b (response_206_of_part e first last) e) e now info asked) room
    ∙ ap (λ b. response_text 206 (fields_of_sent_response name 206 (without_set_cookie_if info.policy.removes_set_cookie (fields_of_206 e.fields first last (length e.content))) e now info) (Some (length (slice_range e.content first (last + 1)))) asked.close (content_unless_head b (slice_range e.content first (last + 1)))) (to_get asked get))

pub unsatisfiable_told : UnsatisfiableRangeOfStoredGets416
unsatisfiable_told name e now info asked served has_not get is room =
    in_range name e now info asked served has_not Unsatisfiable is
    ∙ (ap (λ b. text_of_stored_sent_as name (cond b (response_416_of e) e) e now info asked) room
    ∙ ap (λ b. response_text 416 (fields_of_sent_response name 416 (without_set_cookie_if info.policy.removes_set_cookie (fields_of_416 e.fields (length e.content))) e now info) (Some 0) asked.close (content_unless_head b [])) (to_get asked get))

-- ---- by the lines that were made, where they leave room

pub text_of_part_is : (name : List ℕ) (e : Stored) (now : ℕ) (info : StoredCacheStatusInfo) (asked : Asked) (first last : ℕ) (fields : List Field) → fields ≡ fields_of_206 e.fields first last (length e.content) → head_leaves_room fields ≡ true
    → response_text 206 (fields_of_sent_response name 206 (without_set_cookie_if info.policy.removes_set_cookie fields) e now info) (Some (length (slice_range e.content first (last + 1)))) asked.close (content_unless_head (is_head asked) (slice_range e.content first (last + 1)))
    ≡ text_of_stored_sent_as name (response_as_range_answer (Part first last) e) e now info asked
text_of_part_is name e now info asked first last fields same room =
    ap (λ (f : List Field). response_text 206 (fields_of_sent_response name 206 (without_set_cookie_if info.policy.removes_set_cookie f) e now info) (Some (length (slice_range e.content first (last + 1)))) asked.close (content_unless_head (is_head asked) (slice_range e.content first (last + 1)))) same
    ∙ sym (ap (λ b. text_of_stored_sent_as name (cond b (response_206_of_part e first last) e) e now info asked) (sym (ap head_leaves_room same) ∙ room))

pub text_of_416_is : (name : List ℕ) (e : Stored) (now : ℕ) (info : StoredCacheStatusInfo) (asked : Asked) (fields : List Field) → fields ≡ fields_of_416 e.fields (length e.content) → head_leaves_room fields ≡ true
    → response_text 416 (fields_of_sent_response name 416 (without_set_cookie_if info.policy.removes_set_cookie fields) e now info) (Some 0) asked.close (content_unless_head (is_head asked) [])
    ≡ text_of_stored_sent_as name (response_as_range_answer Unsatisfiable e) e now info asked
text_of_416_is name e now info asked fields same room =
    ap (λ (f : List Field). response_text 416 (fields_of_sent_response name 416 (without_set_cookie_if info.policy.removes_set_cookie f) e now info) (Some 0) asked.close (content_unless_head (is_head asked) [])) same
    ∙ sym (ap (λ b. text_of_stored_sent_as name (cond b (response_416_of e) e) e now info asked) (sym (ap head_leaves_room same) ∙ room))

pub form_of_part_is : (e : Stored) (first last : ℕ) (fields : List Field) → fields ≡ fields_of_206 e.fields first last (length e.content) → head_leaves_room fields ≡ true → response_206_of_part e first last ≡ response_as_range_answer (Part first last) e
form_of_part_is e first last fields same room = sym (ap (λ b. cond b (response_206_of_part e first last) e) (sym (ap head_leaves_room same) ∙ room))

pub form_of_416_is : (e : Stored) (fields : List Field) → fields ≡ fields_of_416 e.fields (length e.content) → head_leaves_room fields ≡ true → response_416_of e ≡ response_as_range_answer Unsatisfiable e
form_of_416_is e fields same room = sym (ap (λ b. cond b (response_416_of e) e) (sym (ap head_leaves_room same) ∙ room))
