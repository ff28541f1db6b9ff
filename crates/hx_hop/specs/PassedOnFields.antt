-- What stripping, dating and forwarding leave, in the standard's words (RFC 9110, sections 6.6.1,
-- 7.2, 7.6.1 and 7.6.3).
use Rattle.std.specs.Prelude.{◌≡◌, ◌⊎◌, ℕ, ◌<◌, ◌==◌, Bool, true, false, ◌||◌, decimal, List, [], ◌∷◌, ◌++◌, codes}
use Rattle.std.specs.Prelude.{Option}
use Rattle.std.specs.Prelude.{Some, None}
use Rattle.httpdate.specs.Date.{parse_secs}
use Rattle.hx_fields.specs.declared.limits.TheConstants.{START_OF_YEAR_10000}
use Rattle.hx_fields.specs.Line.{Field}
use Rattle.hx_fields.specs.FieldLines.{line_count_of_name, has_field, values_of}
use Rattle.hx_framing.specs.declared.messages.Request.{Request}
use Rattle.hx_target.specs.declared.targets.Target.{Target}
use Rattle.hx_hop.specs.declared.conditions.Conditions.{Conditions}
use Rattle.hx_framing.specs.declared.messages.Response.{Response}
use Rattle.hx_target.specs.declared.keys.Key.{Key}
use Rattle.hx_hop.specs.Answering.{answered_of, fields_with_valid_date, has_one_date}
use Rattle.hx_hop.specs.Asking.{asked_with_target}
use Rattle.hx_hop.specs.declared.request_view.Asked.{Asked}
use Rattle.hx_hop.specs.Forwarding.{forwarded_lines, forwarded_of, host_text, line, via_text}
use Rattle.hx_hop.specs.Moments.{date_text_of}
use Rattle.hx_hop.specs.Stripping.{connection_has_option, is_hop_by_hop_name, stripped}

-- a field of one connection doesn't go on, nor one that a member of Connection names
abbrev pub HopByHopFieldsAreRemoved : Type 0
HopByHopFieldsAreRemoved = (fields : List Field) (name : List ℕ) →
    is_hop_by_hop_name name || connection_has_option fields name ≡ true → has_field (stripped fields) name ≡ false

-- every other field goes on with all its lines
abbrev pub EndToEndFieldsAreKept : Type 0
EndToEndFieldsAreKept = (fields : List Field) (name : List ℕ) →
    is_hop_by_hop_name name || connection_has_option fields name ≡ false → values_of (stripped fields) name
    ≡ values_of fields name

-- what was stripped has nothing left to strip
abbrev pub StrippingIsIdempotent : Type 0
StrippingIsIdempotent = (fields : List Field) → stripped (stripped fields) ≡ stripped fields

-- the text of a moment is the date of that moment
abbrev pub DateTextReadsBackAsItsMoment : Type 0
DateTextReadsBackAsItsMoment = (now : ℕ) → now < START_OF_YEAR_10000 → parse_secs (date_text_of now) ≡ Some now

-- what was dated has one valid Date
abbrev pub DatedHasOneDate : Type 0
DatedHasOneDate = (fields : List Field) (now : ℕ) → now < START_OF_YEAR_10000
    → has_one_date (fields_with_valid_date fields now) ≡ true

-- so it isn't dated again
abbrev pub DatingIsIdempotent : Type 0
DatingIsIdempotent = (fields : List Field) (now later : ℕ) → now < START_OF_YEAR_10000
    → fields_with_valid_date (fields_with_valid_date fields now) later ≡ fields_with_valid_date fields now

-- whatever a request had, one Host line goes forward
abbrev pub ExactlyOneHostIsForwarded : Type 0
ExactlyOneHostIsForwarded = (keeps : Bool) (request : Request) (target : Target) (name : List ℕ)
    (conditions : Option Conditions) →
    line_count_of_name (forwarded_lines keeps (asked_with_target request target) name conditions) (codes "Host") ≡ 1

-- and the proxy's Via comes last
abbrev pub ForwardEndsWithVia : Type 0
ForwardEndsWithVia = (keeps : Bool) (request : Request) (target : Target) (name : List ℕ)
    (conditions : Option Conditions) →
    (front : List Field) × (forwarded_lines keeps (asked_with_target request target) name conditions
    ≡ front ++ line (codes "Via") (via_text request.minor name) ∷ [])

-- no field of one connection goes forward, whatever the request had (RFC 9110, section 7.6.1)
abbrev pub NoHopFieldIsInForwardedRequest : Type 0
NoHopFieldIsInForwardedRequest =
    (keeps : Bool) (request : Request) (target : Target) (name : List ℕ) (conditions : Option Conditions)
    (field : List ℕ) →
    is_hop_by_hop_name field ≡ true
    → has_field (forwarded_lines keeps (asked_with_target request target) name conditions) field
    ≡ false

-- where the proxy keeps the client's conditions, and has none of its own, none goes forward: so no 304 is asked for
-- (RFC 9110, sections 13.1.2, 13.1.3 and 15.4.5)
abbrev pub WithheldConditionsAreNotForwarded : Type 0
WithheldConditionsAreNotForwarded = (asked : Asked) (name : List ℕ) →
    (has_field (forwarded_lines true asked name None) (codes "If-None-Match") ≡ false)
    × (has_field (forwarded_lines true asked name None) (codes "If-Modified-Since") ≡ false)

-- nor does Expect, which the reader has carried out (RFC 9110, section 10.1.1)
abbrev pub NoExpectIsForwarded : Type 0
NoExpectIsForwarded = (keeps : Bool) (request : Request) (target : Target) (name : List ℕ)
    (conditions : Option Conditions) →
    has_field (forwarded_lines keeps (asked_with_target request target) name conditions) (codes "Expect") ≡ false

-- nor a length of the client's, which the reader has taken out, so the writer's stands alone (RFC 9112, section 6.3)
abbrev pub NoLengthFieldIsForwarded : Type 0
NoLengthFieldIsForwarded = (keeps : Bool) (request : Request) (target : Target) (name : List ℕ)
    (conditions : Option Conditions) →
    has_field request.fields (codes "Content-Length") ≡ false
    → has_field (forwarded_lines keeps (asked_with_target request target) name conditions) (codes "Content-Length") ≡ false

-- method and content go forward as they came, with the path and query of the target, in the proxy's own version
-- (RFC 9110, sections 2.5 and 7.6; RFC 9112, section 3.2.1)
abbrev pub MethodTargetAndContentAreForwarded : Type 0
MethodTargetAndContentAreForwarded = (keeps : Bool) (request : Request) (target : Target) (name : List ℕ)
    (conditions : Option Conditions) →
    let sent = forwarded_of keeps (asked_with_target request target) name conditions in
    (sent.method ≡ request.method) × (sent.content ≡ request.content) × (sent.target ≡ target.key.path_query)
    × (sent.minor ≡ 1)

-- Host has the port unless it is the default one of http (RFC 9110, sections 4.2.1 and 7.2)
abbrev pub DefaultPortIsLeftOut : Type 0
DefaultPortIsLeftOut = (key : Key) → key.port ≡ 80 → host_text key ≡ key.host

abbrev pub NonDefaultPortsAreWritten : Type 0
NonDefaultPortsAreWritten = (key : Key) → (key.port == 80) ≡ false → host_text key ≡ key.host ++ codes ":"
    ++ decimal key.port

-- Via tells the version that was received, and the name (RFC 9110, section 7.6.3)
abbrev pub ViaShowsTheVersion : Type 0
ViaShowsTheVersion = (name : List ℕ) → (via_text 0 name ≡ codes "1.0 " ++ name) × (via_text 1 name ≡ codes "1.1 " ++ name)

-- the connection of a client of HTTP/1.0 closes, and that of another where it says close (RFC 9112, section 9.6)
abbrev pub ConnectionClosesWhereAsked : Type 0
ConnectionClosesWhereAsked = (request : Request) (target : Target) →
    (request.minor ≡ 0) ⊎ (connection_has_option request.fields (codes "close") ≡ true) →
    (asked_with_target request target).close ≡ true

abbrev pub ConnectionStaysOpenWithoutClose : Type 0
ConnectionStaysOpenWithoutClose = (request : Request) (target : Target) →
    request.minor ≡ 1 → connection_has_option request.fields (codes "close") ≡ false →
    (asked_with_target request target).close ≡ false

-- an answer keeps its status
abbrev pub AnswerKeepsItsStatus : Type 0
AnswerKeepsItsStatus = (response : Response) (now : ℕ) → (answered_of response now).status ≡ response.status
