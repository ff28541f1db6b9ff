-- What was read as a request has parts that can be written again.
use Rattle.std.proofs.Common.{◌≡◌, ℕ, Bool, true, false, not, ◌&&◌, cond, List, [], ◌∷◌, length, map, take, drop, sym, ap, ◌∙◌, subst}
use Rattle.std.specs.Prelude.{All, Option, Some, None, Result, Ok, Err, codes, nat_lt, ◌==◌}
use Rattle.std.proofs.lemmas.List.Elements.{All-nil, All-cons, All-head, All-tail, All-filter}
use Rattle.httparse.specs.Grammar.{IsField, IsToken, RequestHead, is_value_byte, trim_ows}
use Rattle.httparse.specs.Grammar as grammar
use Rattle.httparse.proofs.TrimLemmas.{AllPass-trim_ows}
use Rattle.hx_fields.specs.Line.{Field}
use Rattle.hx_fields.specs.FieldLines.{has_field, is_named, without_named}
use Rattle.hx_framing.specs.declared.frame_fault.FrameFault.{FrameFault}
use Rattle.hx_framing.specs.declared.frame_fault.FrameFault.TheVariants as fault
use Rattle.hx_framing.specs.declared.heads.request_head.Head.{Head}
use Rattle.hx_framing.specs.declared.messages.Request.{Request}
use Rattle.hx_framing.specs.Body.{ContentParseResult, Short, Bad, Whole}
use Rattle.hx_framing.specs.Contents.{content_by_framing}
use Rattle.hx_framing.specs.Head.{IsHeadOfRequest, RequestHeadIsJudged, field_of_parsed_line, head_of_parsed_request}
use Rattle.hx_framing.specs.Lengths.{request_framing_of, without_length_fields}
use Rattle.hx_framing.specs.HeadEnd.{empty_lines_length, head_length, most_head_bytes}
use Rattle.hx_framing.specs.Reading.{Continue, Faulty, Over, Spelled, truncated_or_incomplete, reading_of_content}
use Rattle.hx_framing.specs.RequestReading.{ReadsAs, RequestReadsByHeadLength, request_of_head, reading_behind_request_head, reading_with_request_body, reading_without_request_head}
use Rattle.hx_framing.specs.Written.{FieldIsWritable}
use Rattle.hx_hop.proofs.Lines.{list_any_fewer, list_any_none_left, not_true}
use Rattle.hx_hop_laws.specs.OneMessage.{RequestPartsAreWellformed}
use Rattle.hx_hop_laws.proofs.Values.{trim_twice}

line_is_clean : (f : grammar.Field) → IsField f → FieldIsWritable (field_of_parsed_line f)
line_is_clean f is = record { name = is.name; value = AllPass-trim_ows is_value_byte f.raw is.raw; trimmed = trim_twice f.raw }

pub lines_are_clean : (fs : List grammar.Field) → All IsField fs → All FieldIsWritable (map field_of_parsed_line fs)
lines_are_clean [] all = All-nil FieldIsWritable
lines_are_clean (f ∷ fs) all =
    All-cons FieldIsWritable (field_of_parsed_line f) (map field_of_parsed_line fs) (line_is_clean f (All-head IsField f fs all)) (lines_are_clean fs (All-tail IsField f fs all))

pub no_lengths : (fields : List Field) → has_field (without_length_fields fields) (codes "Content-Length") ≡ false
no_lengths fields =
    let length = is_named (codes "Content-Length") in
    list_any_fewer (λ f. not (is_named (codes "transfer-encoding") f)) length (without_named fields (codes "content-length"))
    (list_any_none_left (λ f. not (is_named (codes "content-length") f)) length (λ f e. not_true _ e) fields)

pub no_codings : (fields : List Field) → has_field (without_length_fields fields) (codes "transfer-encoding") ≡ false
no_codings fields =
    list_any_none_left (λ f. not (is_named (codes "transfer-encoding") f)) (is_named (codes "transfer-encoding")) (λ f e. not_true _ e) (without_named fields (codes "content-length"))

head_is_clean : (bytes : List ℕ) (h : RequestHead) (content : Option (List ℕ)) → IsHeadOfRequest bytes h → RequestPartsAreWellformed (request_of_head (head_of_parsed_request h) content)
head_is_clean bytes h content is = record {
  method = is.0.0.method;
  minor = is.0.0.minor;
  fields =
      All-filter (λ f. not (is_named (codes "transfer-encoding") f)) FieldIsWritable (without_named (map field_of_parsed_line h.fields) (codes "content-length"))
      (All-filter (λ f. not (is_named (codes "content-length") f)) FieldIsWritable (map field_of_parsed_line h.fields) (lines_are_clean h.fields is.0.0.fields));
  lengths = no_lengths (map field_of_parsed_line h.fields);
}

-- which of the readings is a request
no_request : (ended : Bool) (bytes : List ℕ) (r : Request) (rest : List ℕ) → Spelled r rest ≡ reading_without_request_head ended bytes → ⊥
no_request ended bytes r rest is = by_tests (nat_lt most_head_bytes (length bytes)) (ended && (empty_lines_length bytes == length bytes)) ended is
  where
    by_tests : (t u e : Bool) → Spelled r rest ≡ cond t (Faulty fault.Head) (cond u Over (truncated_or_incomplete e)) → ⊥
    by_tests true u e h = cc
    by_tests false true e h = cc
    by_tests false false true h = cc
    by_tests false false false h = cc

of_body : (ended : Bool) (head : Head) (body : ContentParseResult) (r : Request) (rest : List ℕ) → Spelled r rest ≡ reading_of_content ended (request_of_head head) body → (content : Option (List ℕ)) × (r ≡ request_of_head head content)
of_body true head Short r rest is = absurd cc
of_body false head Short r rest is = absurd cc
of_body ended head (Bad f) r rest is = absurd cc
of_body ended head (Whole content behind) r rest is = (content, cc)

of_plan : (max_body : ℕ) (ended continue_sent : Bool) (head : Head) (bytes : List ℕ) (plan : Result _ FrameFault) (r : Request) (rest : List ℕ)
    → Spelled r rest ≡ reading_with_request_body max_body ended continue_sent head bytes plan → (content : Option (List ℕ)) × (r ≡ request_of_head head content)
of_plan max_body ended continue_sent head bytes (Err f) r rest is = absurd cc
of_plan max_body ended continue_sent head bytes (Ok plan) r rest is = by_test (plan.wants_continue && not continue_sent) is
  where
    by_test : (t : Bool) → Spelled r rest ≡ cond t Continue (reading_of_content ended (request_of_head head) (content_by_framing max_body plan.framing false bytes)) → (content : Option (List ℕ)) × (r ≡ request_of_head head content)
    by_test true h = absurd cc
    by_test false h = of_body ended head (content_by_framing max_body plan.framing false bytes) r rest h

of_head : (max_body : ℕ) (ended continue_sent : Bool) (bytes behind : List ℕ) (judged : Result Head FrameFault) (r : Request) (rest : List ℕ)
    → RequestHeadIsJudged bytes judged → Spelled r rest ≡ reading_behind_request_head max_body ended continue_sent behind judged → RequestPartsAreWellformed r
of_head max_body ended continue_sent bytes behind (Err f) r rest judges is = absurd cc
of_head max_body ended continue_sent bytes behind (Ok head) r rest (h, is_head, same) is =
    let made = of_plan max_body ended continue_sent head behind (request_framing_of max_body head) r rest is in
    subst RequestPartsAreWellformed (sym (made.1 ∙ ap (λ (g : Head). request_of_head g made.0) same)) (head_is_clean bytes h made.0 is_head)

by_length : (max_body : ℕ) (ended continue_sent : Bool) (bytes : List ℕ) (o : Option ℕ) (r : Request) (rest : List ℕ)
    → RequestReadsByHeadLength max_body ended continue_sent bytes o (Spelled r rest) → RequestPartsAreWellformed r
by_length max_body ended continue_sent bytes None r rest reads = absurd (no_request ended bytes r rest reads)
by_length max_body ended continue_sent bytes (Some n) r rest (judged, judges, is) = of_head max_body ended continue_sent (take n bytes) (drop n bytes) judged r rest judges is

pub read_is_clean : (max_body : ℕ) (ended continue_sent : Bool) (bytes : List ℕ) (r : Request) (rest : List ℕ) → ReadsAs max_body ended continue_sent bytes (Spelled r rest) → RequestPartsAreWellformed r
read_is_clean max_body ended continue_sent bytes r rest reads = by_length max_body ended continue_sent bytes (head_length (take most_head_bytes bytes)) r rest reads
