-- A message that was read goes on as one message (RFC 9112, sections 6.3 and 11.2): whatever a
-- client sends, what the origin gets for it is one request, which ends where the proxy ends it.
use Rattle.std.specs.Prelude.{◌≡◌, ℕ, ◌<◌, ◌≤◌, ◌^◌, ◌++◌, Bool, false, List, length, codes, All, Option, IfSome, Ok}
use Rattle.httparse.specs.Grammar.{AllPass, IsToken, is_value_byte, trim_ows}
use Rattle.hx_fields.specs.FieldLines.{has_field, values_of}
use Rattle.hx_framing.specs.declared.messages.Request.{Request}
use Rattle.hx_framing.specs.HeadEnd.{most_field_lines, most_head_bytes}
use Rattle.hx_framing.specs.Reading.{Spelled}
use Rattle.hx_framing.specs.RequestReading.{ReadsAs}
use Rattle.hx_framing.specs.Text.{content_bytes, request_text}
use Rattle.hx_framing.specs.Written.{RequestIsWritable, FieldIsWritable, request_head_text, request_as_read_back}
use Rattle.hx_framing.specs.Written.{request_fields_sent}
use Rattle.hx_target.specs.declared.targets.Target.{Target}
use Rattle.hx_target.specs.Judgement.{TargetIsJudged}
use Rattle.hx_hop.specs.declared.conditions.Conditions.{Conditions}
use Rattle.hx_hop.specs.Asking.{asked_with_target}
use Rattle.hx_hop.specs.Forwarding.{forwarded_of}

-- field-value: no control byte but the tab, no white space round it (RFC 9110, section 5.5)
abbrev pub IsFieldValue : List ℕ → Type 0
IsFieldValue value = AllPass is_value_byte value × (trim_ows value ≡ value)

-- What is read of a request, part by part (RFC 9110, sections 2.5, 5.1, 5.5 and 9.1): its method is
-- a token, its version 1.0 or 1.1, each line a token with a value in which no byte ends a line and
-- around which no white space is left; the length is told by the content alone.
pub record RequestPartsAreWellformed (r : Request) : Type 0 where
  pub method : IsToken r.method
  pub minor : r.minor ≤ 1
  pub fields : All FieldIsWritable r.fields
  pub lengths : has_field r.fields (codes "Content-Length") ≡ false

-- the proxy's conditions, where there are any, are such values
pub record ConditionsAreFieldValues (conditions : Conditions) : Type 0 where
  pub etag : IfSome conditions.etag IsFieldValue
  pub modified : IfSome conditions.modified IsFieldValue

-- Within the limits of a reader as this proxy's: 100 field lines, a head of 32,768 bytes, and so much content.
-- own: a request that comes close to them may go forward with a longer head, by the lines that the proxy adds
pub record RequestIsWithinLimits (max_body : ℕ) (sent : Request) : Type 0 where
  pub few : length (request_fields_sent sent) ≤ most_field_lines
  pub short : length (request_head_text sent) ≤ most_head_bytes
  pub content : length (content_bytes sent.content) ≤ max_body

abbrev pub ReadRequestHasWritableParts : Type 0
ReadRequestHasWritableParts = (max_body : ℕ) (ended continue_sent : Bool) (bytes rest : List ℕ) (request : Request)
    → ReadsAs max_body ended continue_sent bytes (Spelled request rest) → RequestPartsAreWellformed request

-- what was read and asked goes forward in parts that stand in its text as they are: no CR, no LF
-- and no blank in the method and the target, no CR or LF in a field line, and no length, coding or
-- expectation of the client's
abbrev pub ForwardedRequestHasWritableParts : Type 0
ForwardedRequestHasWritableParts =
    (max_body most : ℕ) (ended continue_sent : Bool) (bytes rest : List ℕ) (request : Request) (target : Target)
    (name : List ℕ)
    (keeps : Bool) (conditions : Option Conditions)
    → ReadsAs max_body ended continue_sent bytes (Spelled request rest)
    → TargetIsJudged request.target (values_of request.fields (codes "Host")) (Ok target)
    → IsToken name → IfSome conditions ConditionsAreFieldValues
    → let sent = forwarded_of keeps (asked_with_target request target) name conditions in
    most < 2 ^ 64 → RequestIsWithinLimits most sent → RequestIsWritable sent

-- and so its text is that of one request, whatever the origin's reader knows of the stream and
-- whatever stands behind it: it is read back as it was sent, and what stands behind it is left
abbrev pub ForwardedRequestReadsBackAsOne : Type 0
ForwardedRequestReadsBackAsOne =
    (max_body most : ℕ) (ended continue_sent : Bool) (bytes rest : List ℕ) (request : Request) (target : Target)
    (name : List ℕ)
    (keeps : Bool) (conditions : Option Conditions)
    → ReadsAs max_body ended continue_sent bytes (Spelled request rest)
    → TargetIsJudged request.target (values_of request.fields (codes "Host")) (Ok target)
    → IsToken name → IfSome conditions ConditionsAreFieldValues
    → let sent = forwarded_of keeps (asked_with_target request target) name conditions in
    most < 2 ^ 64 → RequestIsWithinLimits most sent
    → (over continued : Bool) (behind : List ℕ)
    → ReadsAs most over continued (request_text sent ++ behind) (Spelled (request_as_read_back sent) behind)
