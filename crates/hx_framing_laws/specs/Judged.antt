-- The statements of the laws: what is taken as a head is what the standard writes, both ways.
--
-- TakenRequestHeadsAreValid, GrammaticalRequestHeadsAreTaken: the two ways of the bytes of one head
-- ReadRequestsBeginWithTheirHeads, RequestHeadsInFrontAreRead: the two ways of the bytes of a stream
-- TakenResponseHeadsAreValid and so on: the same of responses
-- FieldValuesHaveNoOuterBlanks, TrimmedTextsAreFieldValues: what a field value is in short
use Rattle.std.specs.Prelude.{◌≡◌, ◌⊎◌, ℕ, ◌++◌, ◌≤◌, ◌<◌, Bool, true, false, List, length, Option}
use Rattle.std.specs.Prelude.{Ok, Err}
use Rattle.std.specs.List.{list_all}
use Rattle.hx_framing.specs.declared.frame_fault.FrameFault.{FrameFault}
use Rattle.hx_framing.specs.declared.frame_fault.FrameFault.TheVariants as fault
use Rattle.hx_framing.specs.declared.heads.request_head.Head.{Head}
use Rattle.hx_framing.specs.declared.heads.status_head.StatusHead.{StatusHead}
use Rattle.hx_framing.specs.declared.messages.Request.{Request}
use Rattle.hx_framing.specs.declared.messages.Response.{Response}
use Rattle.hx_framing.specs.HeadEnd.{most_field_lines, most_head_bytes}
use Rattle.hx_framing.specs.GivenFields.{TextIsTrimmed}
use Rattle.hx_framing.specs.Head.{RequestHeadIsJudged, fault_of_bad_request_head}
use Rattle.hx_framing.specs.StatusHead.{ResponseHeadIsJudged, status_head_fault}
use Rattle.hx_framing.specs.Reading.{StreamReadResult, Spelled, Faulty}
use Rattle.hx_framing.specs.RequestReading.{ReadsAs, request_of_head, reading_behind_request_head}
use Rattle.hx_framing.specs.Lengths.{is_interim}
use Rattle.hx_framing.specs.ResponseReading as response
use Rattle.hx_framing.specs.ResponseReading.{SkipsInterimResponses, response_of_head, reading_behind_response_head}
use Rattle.hx_framing_laws.specs.Characters.{BytesAreOctets, is_field_text_byte}
use Rattle.hx_framing_laws.specs.Lines.{IsFieldValue}
use Rattle.hx_framing_laws.specs.Heads.{IsRequestHead, IsResponseHead, HeadIsWithinLimits}

-- a field value has no SP or HTAB at its ends
abbrev pub FieldValuesHaveNoOuterBlanks : Type 0
FieldValuesHaveNoOuterBlanks = (value : List ℕ) → IsFieldValue value → (list_all is_field_text_byte value ≡ true)
    × TextIsTrimmed value

-- and so is each text of its characters that has none there
abbrev pub TrimmedTextsAreFieldValues : Type 0
TrimmedTextsAreFieldValues = (value : List ℕ) → list_all is_field_text_byte value ≡ true → TextIsTrimmed value
    → IsFieldValue value

-- what is taken as a head is one
abbrev pub TakenRequestHeadsAreValid : Type 0
TakenRequestHeadsAreValid = (bytes : List ℕ) (head : Head) → BytesAreOctets bytes → RequestHeadIsJudged bytes (Ok head)
    → IsRequestHead bytes head × (length head.fields ≤ most_field_lines)

-- what is one is taken as it, part by part
abbrev pub GrammaticalRequestHeadsAreTaken : Type 0
GrammaticalRequestHeadsAreTaken = (bytes : List ℕ) (head : Head) → IsRequestHead bytes head
    → length head.fields ≤ most_field_lines → RequestHeadIsJudged bytes (Ok head)

-- what is refused is none, or has too many lines
abbrev pub RefusedTextsAreNoRequestHeads : Type 0
RefusedTextsAreNoRequestHeads = (bytes : List ℕ) (fault : FrameFault) (head : Head)
    → RequestHeadIsJudged bytes (Err fault) → length head.fields ≤ most_field_lines → ¬ (IsRequestHead bytes head)

-- and what is none is refused, with its fault
abbrev pub UngrammaticalRequestHeadsAreRefused : Type 0
UngrammaticalRequestHeadsAreRefused = (bytes : List ℕ) → BytesAreOctets bytes
    → ((head : Head) → IsRequestHead bytes head → most_field_lines < length head.fields)
    → RequestHeadIsJudged bytes (Err (fault_of_bad_request_head bytes))

-- a text is one head at most
abbrev pub RequestHeadOfATextIsUnique : Type 0
RequestHeadOfATextIsUnique = (bytes : List ℕ) (head other : Head) → IsRequestHead bytes head
    → IsRequestHead bytes other → head ≡ other

-- a request that is read from a stream begins with a head within the limits, and has its parts; the length fields
-- aren't kept (`request_of_head`)
abbrev pub ReadRequestsBeginWithTheirHeads : Type 0
ReadRequestsBeginWithTheirHeads =
    (max_body : ℕ) (ended continue_sent : Bool) (bytes rest : List ℕ) (request : Request) → BytesAreOctets bytes
    → ReadsAs max_body ended continue_sent bytes (Spelled request rest)
    → (text : List ℕ) × (behind : List ℕ) × (head : Head) × (content : Option (List ℕ))
    × (bytes ≡ text ++ behind) × IsRequestHead text head × HeadIsWithinLimits text head.fields
    × (request ≡ request_of_head head content)

-- where a head within the limits stands in front, it is read, whatever stands behind it: what is told is what comes
-- behind this head, or the fault of what its fields say of the content (`request_framing_of`)
abbrev pub RequestHeadsInFrontAreRead : Type 0
RequestHeadsInFrontAreRead =
    (max_body : ℕ) (ended continue_sent : Bool) (text behind : List ℕ) (head : Head) → IsRequestHead text head
    → HeadIsWithinLimits text head.fields
    → ReadsAs max_body ended continue_sent (text ++ behind)
    (reading_behind_request_head max_body ended continue_sent behind (Ok head))

-- own: a head of the standard's with more field lines or more bytes is refused as a head, whatever stands behind it
abbrev pub RequestHeadsBeyondLimitsAreRefused : Type 0
RequestHeadsBeyondLimitsAreRefused =
    (max_body : ℕ) (ended continue_sent : Bool) (text behind : List ℕ) (head : Head) → IsRequestHead text head
    → (most_field_lines < length head.fields) ⊎ (most_head_bytes < length text)
    → ReadsAs max_body ended continue_sent (text ++ behind) (Faulty fault.Head)

-- the same of the heads of responses
abbrev pub TakenResponseHeadsAreValid : Type 0
TakenResponseHeadsAreValid = (bytes : List ℕ) (head : StatusHead) → BytesAreOctets bytes
    → ResponseHeadIsJudged bytes (Ok head)
    → IsResponseHead bytes head × (length head.fields ≤ most_field_lines)

abbrev pub GrammaticalResponseHeadsAreTaken : Type 0
GrammaticalResponseHeadsAreTaken = (bytes : List ℕ) (head : StatusHead) → IsResponseHead bytes head
    → length head.fields ≤ most_field_lines → ResponseHeadIsJudged bytes (Ok head)

abbrev pub RefusedTextsAreNoResponseHeads : Type 0
RefusedTextsAreNoResponseHeads = (bytes : List ℕ) (fault : FrameFault) (head : StatusHead)
    → ResponseHeadIsJudged bytes (Err fault) → length head.fields ≤ most_field_lines → ¬ (IsResponseHead bytes head)

abbrev pub UngrammaticalResponseHeadsAreRefused : Type 0
UngrammaticalResponseHeadsAreRefused = (bytes : List ℕ) → BytesAreOctets bytes
    → ((head : StatusHead) → IsResponseHead bytes head → most_field_lines < length head.fields)
    → ResponseHeadIsJudged bytes (Err (status_head_fault bytes))

abbrev pub ResponseHeadOfATextIsUnique : Type 0
ResponseHeadOfATextIsUnique = (bytes : List ℕ) (head other : StatusHead) → IsResponseHead bytes head
    → IsResponseHead bytes other → head ≡ other

-- a response that is read stands behind interim ones, which are passed over, and begins with such a head
abbrev pub ReadResponsesBeginWithTheirHeads : Type 0
ReadResponsesBeginWithTheirHeads =
    (max_body : ℕ) (to_head ended : Bool) (bytes rest : List ℕ) (given : Response) → BytesAreOctets bytes
    → response.ReadsAs max_body to_head ended bytes (Spelled given rest)
    → (sizes : List ℕ) × (front : List ℕ) × SkipsInterimResponses bytes sizes front
    × ((text : List ℕ) × (behind : List ℕ) × (head : StatusHead) × (content : Option (List ℕ))
    × (front ≡ text ++ behind) × IsResponseHead text head × HeadIsWithinLimits text head.fields
    × (given ≡ response_of_head to_head head content))

-- where the head of a final response stands in front, it is read, whatever stands behind it
abbrev pub FinalResponseHeadsInFrontAreRead : Type 0
FinalResponseHeadsInFrontAreRead =
    (max_body : ℕ) (to_head ended : Bool) (text behind : List ℕ) (head : StatusHead) → IsResponseHead text head
    → HeadIsWithinLimits text head.fields → is_interim head.status ≡ false
    → response.ReadsAs max_body to_head ended (text ++ behind)
    (reading_behind_response_head max_body to_head ended behind (Ok head))

-- where that of an interim one does, what is told is what stands behind it
abbrev pub InterimHeadsInFrontAreSkipped : Type 0
InterimHeadsInFrontAreSkipped =
    (max_body : ℕ) (to_head ended : Bool) (text behind : List ℕ) (head : StatusHead)
    (reading : StreamReadResult Response)
    → IsResponseHead text head → HeadIsWithinLimits text head.fields → is_interim head.status ≡ true
    → response.ReadsAs max_body to_head ended behind reading
    → response.ReadsAs max_body to_head ended (text ++ behind) reading

abbrev pub ResponseHeadsBeyondLimitsAreRefused : Type 0
ResponseHeadsBeyondLimitsAreRefused =
    (max_body : ℕ) (to_head ended : Bool) (text behind : List ℕ) (head : StatusHead) → IsResponseHead text head
    → (most_field_lines < length head.fields) ⊎ (most_head_bytes < length text)
    → response.ReadsAs max_body to_head ended (text ++ behind) (Faulty fault.Head)
