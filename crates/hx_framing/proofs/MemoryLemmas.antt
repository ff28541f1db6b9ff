-- Which answers may want memory: behind a head none is the end, and none refuses bytes that are no head.
use Rattle.std.proofs.Common.{◌≡◌, ℕ, ◌+◌, ◌&&◌, ◌||◌, Bool, true, false, not, cond, List, [], ◌∷◌, length, ◌==◌, nat_lt, refl, ap, Option, Some, None, Result, Ok, Err, OnErr, ok_or}
use Rattle.hx_framing.specs.declared.frame_fault.FrameFault.{FrameFault}
use Rattle.hx_framing.specs.declared.frame_fault.FrameFault.TheVariants as fault
use Rattle.hx_framing.specs.declared.contents.chunk_tokens.ChunkPhase.{ChunkPhase}
use Rattle.hx_framing.specs.declared.contents.chunk_tokens.ChunkPhase.TheVariants as phase
use Rattle.hx_framing.specs.declared.lengths.framing.Framing.{Framing}
use Rattle.hx_framing.specs.declared.lengths.framing.Framing.TheVariants as framing
use Rattle.hx_framing.specs.declared.heads.request_head.Head.{Head}
use Rattle.hx_framing.specs.declared.heads.status_head.StatusHead.{StatusHead}
use Rattle.hx_framing.specs.declared.contents.content.Content.{Content}
use Rattle.hx_framing.specs.declared.contents.content.Content.TheVariants as content
use Rattle.hx_fields.specs.Line.{Field}
use Rattle.hx_framing.specs.Body.{ContentParseResult, Short, Bad, Whole}
use Rattle.hx_framing.specs.SizeLine.{chunk_size_of_line, is_chunk_size_text, without_last_byte, ends_in_cr, number_if_at_most, chunk_size_of}
use Rattle.hx_framing.specs.ChunkDecoder.{ChunkDecoder}
use Rattle.hx_framing.specs.Chunks.{ChunkStep, Go, Stop, Fail, step_after_size_line, step_in_phase, chunk_step, step_after_trailer_line, content_after_step, chunks_decoded_from_state, decoder_at_start}
use Rattle.hx_framing.specs.Contents.{content_by_framing, result_of_resumed_content}
use Rattle.hx_framing.specs.Lengths.{framing_by_length_fields, has_both_length_fields, has_bad_length_fields, has_coding_other_than_chunked, is_too_large, framing_with_expectation, expects_other_than_100_continue, expectation_of_head, framing_by_request_fields, request_framing_of, framing_if_accepted_status, is_accepted_status, framing_of_response, response_has_no_content}
use Rattle.hx_framing.specs.Reading.{reading_of_content}
use Rattle.hx_framing.specs.Progress.{is_head_or_version_fault, out_of_memory_may_replace, next_answer_of_reading}

-- ---- what stands behind a head is at no head's fault

abbrev pub IsBehindHead : {A : Type 0} → Result A FrameFault → Type 0
IsBehindHead (Ok a) = Unit {0}
IsBehindHead (Err f) = is_head_or_version_fault f ≡ false

judged_cond : {A : Type 0} (t : Bool) (r q : Result A FrameFault) → IsBehindHead r → IsBehindHead q → IsBehindHead (cond t r q)
judged_cond true r q x y = x
judged_cond false r q x y = y

abbrev IsFine : ChunkStep → Type 0
IsFine (Go s) = Unit {0}
IsFine (Stop c) = Unit {0}
IsFine (Fail f) = is_head_or_version_fault f ≡ false

step_cond : (t : Bool) (a b : ChunkStep) → IsFine a → IsFine b → IsFine (cond t a b)
step_cond true a b x y = x
step_cond false a b x y = y

capped_or : (o : Option ℕ) → IsBehindHead (ok_or o fault.TooLarge)
capped_or None = refl
capped_or (Some n) = tt

size_behind : (line : List ℕ) (left : ℕ) → IsBehindHead (chunk_size_of_line line left)
size_behind line left =
    judged_cond (ends_in_cr line && is_chunk_size_text (without_last_byte line)) (ok_or (number_if_at_most left (chunk_size_of (without_last_byte line))) fault.TooLarge) (Err fault.Chunk) (capped_or (number_if_at_most left (chunk_size_of (without_last_byte line)))) refl

sized_fine : (s : ChunkDecoder) (r : Result ℕ FrameFault) → IsBehindHead r → IsFine (step_after_size_line s r)
sized_fine s (Err f) x = x
sized_fine s (Ok n) x = step_cond (n == 0) _ _ tt tt

end_fine : (s : ChunkDecoder) → IsFine (step_after_trailer_line s)
end_fine s = step_cond (ends_in_cr s.line) _ _ (step_cond (length s.line == 1) _ _ tt tt) refl

step_fine : (at : ChunkPhase) (s : ChunkDecoder) (b : ℕ) → IsFine (step_in_phase at s b)
step_fine phase.Size s b = step_cond (b == 10) _ _ (sized_fine s (chunk_size_of_line s.line s.left) (size_behind s.line s.left)) (step_cond (nat_lt (length s.line) 273) _ _ tt refl)
step_fine phase.Data s b = tt
step_fine phase.DataEnd s b = step_cond (length s.line == 0) _ _ (step_cond (b == 13) _ _ tt refl) (step_cond (b == 10) _ _ tt refl)
step_fine phase.Trailers s b = step_cond (nat_lt (s.used + length s.line) 32768) _ _ (step_cond (b == 10) _ _ (end_fine s) tt) refl

abbrev pub IsBodyBehind : ContentParseResult → Type 0
IsBodyBehind Short = Unit {0}
IsBodyBehind (Bad f) = is_head_or_version_fault f ≡ false
IsBodyBehind (Whole c rest) = Unit {0}

body_cond : (t : Bool) (a b : ContentParseResult) → IsBodyBehind a → IsBodyBehind b → IsBodyBehind (cond t a b)
body_cond true a b x y = x
body_cond false a b x y = y

follow_behind : (x : ChunkStep) (run : ChunkDecoder → ContentParseResult) (rest : List ℕ) → IsFine x → ((s : ChunkDecoder) → IsBodyBehind (run s)) → IsBodyBehind (content_after_step x run rest)
follow_behind (Go s) run rest x later = later s
follow_behind (Stop c) run rest x later = tt
follow_behind (Fail f) run rest x later = x

chunks_behind : (bytes : List ℕ) (s : ChunkDecoder) → IsBodyBehind (chunks_decoded_from_state bytes s)
chunks_behind [] s = tt
chunks_behind (b ∷ bytes) s = follow_behind (chunk_step s b) (chunks_decoded_from_state bytes) bytes (step_fine s.phase s b) (chunks_behind bytes)

pub body_behind : (max : ℕ) (shown : Framing) (e : Bool) (bytes : List ℕ) → IsBodyBehind (content_by_framing max shown e bytes)
body_behind max framing.Nothing e bytes = tt
body_behind max (framing.Announced n) e bytes = body_cond (nat_lt (length bytes) n) _ _ tt tt
body_behind max framing.Chunked e bytes = chunks_behind bytes (decoder_at_start max)
body_behind max framing.UntilClose e bytes = body_cond (nat_lt max (length bytes)) _ _ refl (body_cond e _ _ tt tt)

pub rest_behind : (c : Content) (e : Bool) (bytes : List ℕ) → IsBodyBehind (result_of_resumed_content c e bytes)
rest_behind content.Nothing e bytes = tt
rest_behind (content.Announced s) e bytes = body_cond (nat_lt (length bytes) s.left) _ _ tt tt
rest_behind (content.Chunked s) e bytes = chunks_behind bytes s
rest_behind (content.UntilClose s) e bytes = body_cond (nat_lt s.left (length bytes)) _ _ refl (body_cond e _ _ tt tt)

-- ---- and so what is judged of a head's fields

lengths_behind : (max minor : ℕ) (neither : Framing) (endless : Bool) (fields : List Field) → IsBehindHead (framing_by_length_fields max minor neither endless fields)
lengths_behind max minor neither endless fields =
    judged_cond (has_both_length_fields fields) _ _ refl (judged_cond (has_bad_length_fields minor fields || endless) _ _ refl
    (judged_cond (has_coding_other_than_chunked fields) _ _ refl (judged_cond (is_too_large max fields) _ _ refl tt)))

expected_behind : (expected : Option (List ℕ)) (r : Result Framing FrameFault) → IsBehindHead r → IsBehindHead (framing_with_expectation expected r)
expected_behind expected (Err f) x = x
expected_behind expected (Ok shown) x = judged_cond (expects_other_than_100_continue expected) _ _ refl tt

pub request_body_behind : (max : ℕ) (head : Head) → IsBehindHead (request_framing_of max head)
request_body_behind max head =
    expected_behind (expectation_of_head head) (framing_by_request_fields max head) (lengths_behind max head.minor framing.Nothing _ head.fields)

status_behind : (status : ℕ) (r : Result Framing FrameFault) → IsBehindHead r → IsBehindHead (framing_if_accepted_status status r)
status_behind status (Err f) x = x
status_behind status (Ok shown) x = judged_cond (is_accepted_status status) _ _ tt refl

pub framing_behind : (max : ℕ) (h : Bool) (head : StatusHead) → IsBehindHead (framing_of_response max h head)
framing_behind max h head =
    status_behind head.status _ (judged_cond (head.status == 101 || response_has_no_content h head.status) _ _ tt
    (lengths_behind max head.minor framing.UntilClose false head.fields))

-- ---- the answer

pub body_needs : {M : Type 0} (e : Bool) (make : Option (List ℕ) → M) (body : ContentParseResult) → IsBodyBehind body → out_of_memory_may_replace (next_answer_of_reading (reading_of_content e make body)) ≡ true
body_needs true make Short x = refl
body_needs false make Short x = refl
body_needs e make (Bad f) x = ap not x
body_needs e make (Whole c rest) x = refl

-- what holds anyway holds where memory was wanting
pub on_err : {A E P : Type 0} (r : Result A E) → P → OnErr r P
on_err (Ok x) holds = tt
on_err (Err x) holds = holds
