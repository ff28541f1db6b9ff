-- What is judged as a head.
use Rattle.std.proofs.Common.{ℕ, ◌≤◌, ◌<◌, List, length, refl, sym, subst, arith, Ok, Err}
use Rattle.std.proofs.lemmas.List.{length-map}
use Rattle.hx_framing.specs.declared.heads.request_head.Head.{Head}
use Rattle.hx_framing.specs.declared.heads.status_head.StatusHead.{StatusHead}
use Rattle.hx_framing.specs.HeadEnd.{most_field_lines}
use Rattle.hx_framing.specs.Head.{RequestHeadIsJudged, field_of_parsed_line, head_of_parsed_request, fault_of_bad_request_head}
use Rattle.hx_framing.specs.StatusHead.{ResponseHeadIsJudged, status_head_of, status_head_fault}
use Rattle.hx_framing_laws.specs.Characters.{BytesAreOctets}
use Rattle.hx_framing_laws.specs.Heads.{IsRequestHead, IsResponseHead}
use Rattle.hx_framing_laws.proofs.Written.{request_is, response_is}

pub request_written : (bytes : List ℕ) (head : Head) → BytesAreOctets bytes → RequestHeadIsJudged bytes (Ok head) → IsRequestHead bytes head × (length head.fields ≤ most_field_lines)
request_written bytes head octets (tree, is, gives) =
    subst (λ (h : Head). IsRequestHead bytes h × (length h.fields ≤ most_field_lines)) (sym gives)
    (request_is bytes tree octets is, omega (arith, length-map tree.fields field_of_parsed_line, is.1))

pub response_written : (bytes : List ℕ) (head : StatusHead) → BytesAreOctets bytes → ResponseHeadIsJudged bytes (Ok head)
    → IsResponseHead bytes head × (length head.fields ≤ most_field_lines)
response_written bytes head octets (tree, is, gives) =
    subst (λ (h : StatusHead). IsResponseHead bytes h × (length h.fields ≤ most_field_lines)) (sym gives)
    (response_is bytes tree octets is, omega (arith, length-map tree.fields field_of_parsed_line, is.1))

pub other_requests : (bytes : List ℕ) → BytesAreOctets bytes → ((head : Head) → IsRequestHead bytes head → most_field_lines < length head.fields)
    → RequestHeadIsJudged bytes (Err (fault_of_bad_request_head bytes))
other_requests bytes octets many = (
  λ tree is. absurd (omega (arith, many (head_of_parsed_request tree) (request_is bytes tree octets is), length-map tree.fields field_of_parsed_line, is.1)),
  refl,
)

pub other_responses : (bytes : List ℕ) → BytesAreOctets bytes → ((head : StatusHead) → IsResponseHead bytes head → most_field_lines < length head.fields)
    → ResponseHeadIsJudged bytes (Err (status_head_fault bytes))
other_responses bytes octets many = (
  λ tree is. absurd (omega (arith, many (status_head_of tree) (response_is bytes tree octets is), length-map tree.fields field_of_parsed_line, is.1)),
  refl,
)
