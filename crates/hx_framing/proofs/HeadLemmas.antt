-- What the spans cover is what the head gives.
use Rattle.std.proofs.Common.{◌≡◌, ℕ, Bool, List, map, take, ap, subst, ◌∙◌, refl, [], ◌∷◌, IsTrue, get_or}
use Rattle.http_header.specs.Token as header
use Rattle.httparse.specs.Grammar.{RequestHead, ResponseHead, field_value, is_token_byte, IsToken}
use Rattle.httparse.specs.Grammar as grammar
use Rattle.httparse.specs.Spans.{IsRequestAt, IsResponseAt, header_bytes, name_and_value}
use Rattle.httparse.specs.declared.spans.HeaderSpan.{HeaderSpan}
use Rattle.httparse.specs.declared.spans.RequestSpans.{RequestSpans}
use Rattle.httparse.specs.declared.spans.ResponseSpans.{ResponseSpans}
use Rattle.hx_fields.specs.Line.{Field}
use Rattle.hx_framing.specs.Head.{field_at_span, field_of_parsed_line, head_at_spans, head_of_parsed_request}
use Rattle.hx_framing.specs.StatusHead.{status_head_at, status_head_of}

-- a line of a name and a value
abbrev line : List ℕ × List ℕ → Field
line p = record { name = p.0; value = p.1 }

of_spans : (bytes : List ℕ) (spans : List HeaderSpan) → map (field_at_span bytes) spans ≡ map line (map (header_bytes bytes) spans)
of_spans bytes [] = refl
of_spans bytes (span ∷ spans) = ap (λ fs. field_at_span bytes span ∷ fs) (of_spans bytes spans)

of_fields : (fields : List grammar.Field) → map line (map name_and_value fields) ≡ map field_of_parsed_line fields
of_fields [] = refl
of_fields (f ∷ fields) = ap (λ fs. field_of_parsed_line f ∷ fs) (of_fields fields)

-- the lines of a head
pub fields_at_spans : (bytes : List ℕ) (spans : List HeaderSpan) (fields : List grammar.Field)
    → map (header_bytes bytes) spans ≡ map name_and_value fields → map (field_at_span bytes) spans ≡ map field_of_parsed_line fields
fields_at_spans bytes spans fields same = of_spans bytes spans ∙ ap (map line) same ∙ of_fields fields

pub head_at-is : (bytes : List ℕ) (spans : List HeaderSpan) (r : RequestSpans) (h : RequestHead)
    → IsRequestAt bytes spans r h → head_at_spans bytes spans r ≡ head_of_parsed_request h
head_at-is bytes spans r h at =
    let fields : map (field_at_span bytes) (take r.headers spans) ≡ map field_of_parsed_line h.fields
    = fields_at_spans bytes (take r.headers spans) h.fields at.fields in
    λ i. record { method = at.method i; target = at.path i; minor = at.version i; fields = fields i }

pub status_head_at-is : (bytes : List ℕ) (spans : List HeaderSpan) (r : ResponseSpans) (h : ResponseHead)
    → IsResponseAt bytes spans r h → status_head_at bytes spans r ≡ status_head_of h
status_head_at-is bytes spans r h at =
    let fields : map (field_at_span bytes) (take r.headers spans) ≡ map field_of_parsed_line h.fields
    = fields_at_spans bytes (take r.headers spans) h.fields at.fields in
    λ i. record { status = at.code i; minor = at.version i; fields = fields i }

-- both crates mean one thing by a token
same_token_byte : (b : ℕ) → is_token_byte b ≡ header.is_token_byte b
unfolding is_token_byte header.is_token_byte
same_token_byte b = refl

pub is_token-same : (name : List ℕ) → IsToken name → header.IsToken name
is_token-same name token = (token.0, λ k d inside. subst (λ (t : Bool). IsTrue t) (same_token_byte (get_or name k d)) (token.1 k d inside))
