-- What is printed is read.
use Rattle.std.proofs.Common.{◌≡◌, ℕ, ◌+◌, ◌-◌, ◌<◌, ◌≤◌, ◌&&◌, Bool, true, false, not, cond, List, [], ◌∷◌, ◌++◌, length, drop, take, ◌==◌, nat_lt, nat_le, slice_index, suc, zero, refl, sym, ap, ◌∙◌, arith, Some, None, Result, Ok, Err, ok_or, length-append, length-drop, append_assoc}
use Rattle.std.proofs.lemmas.List.{append-nil, get_or_at, take_at, take_all}
use Rattle.std.proofs.lemmas.Bool.{lt-ltb, leb-true, le-leb, ne_eqb}
use Rattle.std.specs.List.{list_all, AllByRecursion}
use Rattle.hx_framing.specs.declared.frame_fault.FrameFault.{FrameFault}
use Rattle.hx_framing.specs.declared.frame_fault.FrameFault.TheVariants as fault
use Rattle.hx_framing.specs.declared.contents.chunk_tokens.ChunkPhase.{ChunkPhase}
use Rattle.hx_framing.specs.declared.contents.chunk_tokens.ChunkPhase.TheVariants as phase
use Rattle.hx_framing.specs.Body.{Whole}
use Rattle.hx_framing.specs.ChunkDecoder.{ChunkDecoder}
use Rattle.hx_framing.specs.Chunks.{most_trailer_bytes, Go, Stop, Fail, step_in_size_line, step_in_trailers, content_after_step, chunks_decoded_from_state, decoder_after_step, decoder_after_bytes, decoded_chunked_content, decoder_with_phase_and_line, step_after_size_line}
use Rattle.hx_framing.specs.SizeLine.{most_chunk_size_digits, most_chunk_extension_bytes, most_chunk_size_line_bytes, is_chunk_size_text, chunk_size_of, chunk_size_of_line, ends_in_cr, without_last_byte, leading_hex_digit_count, is_chunk_extension, is_chunk_extension_byte, begins_with_chunk_extension, number_if_at_most}
use Rattle.hx_framing.specs.ChunkGrammar.{has_no_lf, ChunkSizeLineSpellsSize, Chunk, IsChunk, chunks_text, data_of_chunks, IsTrailerLine, trailer_section_text, trailer_section_length, ChunkedBody, IsChunkedBody, chunked_body_text_with_rest}
use Rattle.hx_framing.proofs.ChunkStreams.{chunks_behind}

-- the head and the tail of a test of each byte
pub and_parts : (a b : Bool) → (a && b) ≡ true → (a ≡ true) × (b ≡ true)
and_parts true b h = (refl, h)
and_parts false b h = absurd cc

not_true : (a : Bool) → not a ≡ true → a ≡ false
not_true true h = absurd cc
not_true false h = refl

-- fewer bytes have no LF where more have none
pub none_in_fewer : (m n : ℕ) (bytes : List ℕ) → m ≤ n → has_no_lf (take n bytes) ≡ true → has_no_lf (take m bytes) ≡ true
none_in_fewer zero n bytes fewer none = refl
none_in_fewer (suc m) zero bytes fewer none = absurd (omega arith)
none_in_fewer (suc m) (suc n) [] fewer none = refl
none_in_fewer (suc m) (suc n) (b ∷ bytes) fewer none =
    let parts = and_parts (not (b == 10)) (has_no_lf (take n bytes)) none in
    ap (λ (t : Bool). t && has_no_lf (take m bytes)) parts.0 ∙ none_in_fewer m n bytes (omega arith) parts.1

pub none_at_all : (m n : ℕ) (bytes : List ℕ) → length bytes ≤ n → has_no_lf (take n bytes) ≡ true → has_no_lf (take m bytes) ≡ true
none_at_all m n bytes all none =
    let whole : take (m + n) bytes ≡ take n bytes = take_all (m + n) bytes (omega arith) ∙ sym (take_all n bytes all) in
    none_in_fewer m (m + n) bytes (omega arith) (ap has_no_lf whole ∙ none)

-- a byte of a size line that isn't its LF
pub size_on : (s : ChunkDecoder) (text : List ℕ) (b : ℕ) → (b == 10) ≡ false → length text < most_chunk_size_line_bytes → step_in_size_line (decoder_with_phase_and_line s phase.Size text) b ≡ Go (decoder_with_phase_and_line s phase.Size (text ++ b ∷ []))
size_on s text b other short = rw (other, lt-ltb (length text) most_chunk_size_line_bytes short)

pub size_text : (s : ChunkDecoder) (text more : List ℕ) → has_no_lf more ≡ true → length text + length more ≤ most_chunk_size_line_bytes
    → decoder_after_bytes more (decoder_with_phase_and_line s phase.Size text) ≡ Some (decoder_with_phase_and_line s phase.Size (text ++ more))
size_text s text [] one_line short = ap (λ l. Some (decoder_with_phase_and_line s phase.Size l)) (sym (append-nil text))
size_text s text (b ∷ more) one_line short =
    let parts = and_parts (not (b == 10)) (has_no_lf more) one_line in
    ap (λ t. decoder_after_step t (decoder_after_bytes more)) (size_on s text b (not_true (b == 10) parts.0) (omega arith))
    ∙ size_text s (text ++ b ∷ []) more parts.1 (omega (arith, length-append text (b ∷ [])))
    ∙ ap (λ l. Some (decoder_with_phase_and_line s phase.Size l)) (append_assoc text (b ∷ []) more)

-- a line that ends in CR
pub cr_last : (text : List ℕ) → ends_in_cr (text ++ 13 ∷ []) ≡ true
cr_last text =
    let last : length (text ++ 13 ∷ []) - 1 ≡ length text = omega (arith, length-append text (13 ∷ [])) in
    ap (λ k. slice_index (text ++ 13 ∷ []) k == 13) last ∙ ap (λ b. b == 13) (get_or_at text 13 [] 0 (length text) refl)

pub cr_off : (text : List ℕ) → without_last_byte (text ++ 13 ∷ []) ≡ text
cr_off text =
    let last : length (text ++ 13 ∷ []) - 1 ≡ length text = omega (arith, length-append text (13 ∷ [])) in
    ap (λ k. take k (text ++ 13 ∷ [])) last ∙ take_at text (13 ∷ []) (length text) refl

pub size_short : (text : List ℕ) → is_chunk_size_text text ≡ true → length text ≤ most_chunk_size_digits + most_chunk_extension_bytes
size_short text form =
    let a = and_parts (nat_lt 0 (leading_hex_digit_count text) && nat_le (leading_hex_digit_count text) most_chunk_size_digits) (is_chunk_extension (drop (leading_hex_digit_count text) text)) form in
    let b = and_parts (nat_lt 0 (leading_hex_digit_count text)) (nat_le (leading_hex_digit_count text) most_chunk_size_digits) a.0 in
    let ext = drop (leading_hex_digit_count text) text in
    let c = and_parts (nat_le (length ext) most_chunk_extension_bytes && list_all is_chunk_extension_byte ext) (begins_with_chunk_extension ext) a.1 in
    let d = and_parts (nat_le (length ext) most_chunk_extension_bytes) (list_all is_chunk_extension_byte ext) c.0 in
    let few : leading_hex_digit_count text ≤ most_chunk_size_digits = leb-true _ _ b.1 in
    let short : length ext ≤ most_chunk_extension_bytes = leb-true _ _ d.0 in
    omega (arith, length-drop (leading_hex_digit_count text) text)

-- the choice that a size line is
choice : ℕ → Bool → List ℕ → Result ℕ FrameFault
choice left e t = cond (e && is_chunk_size_text t) (ok_or (number_if_at_most left (chunk_size_of t)) fault.TooLarge) (Err fault.Chunk)

size_at_is : (text : List ℕ) (left n : ℕ) → ChunkSizeLineSpellsSize text n → n ≤ left → chunk_size_of_line (text ++ 13 ∷ []) left ≡ Ok n
unfolding choice
size_at_is text left n is fits =
    ap (λ e. choice left e (without_last_byte (text ++ 13 ∷ []))) (cr_last text)
    ∙ ap (choice left true) (cr_off text)
    ∙ ap (λ b. cond b (ok_or (number_if_at_most left (chunk_size_of text)) fault.TooLarge) (Err fault.Chunk)) is.form
    ∙ ap (λ k. ok_or (number_if_at_most left k) fault.TooLarge) (sym is.size)
    ∙ ap (λ b. ok_or (cond b (Some n) None) fault.TooLarge) (le-leb n left fits)

-- a whole size line
pub size_line : (s : ChunkDecoder) (text rest : List ℕ) (n : ℕ) → ChunkSizeLineSpellsSize text n → n ≤ s.left
    → chunks_decoded_from_state (text ++ 13 ∷ 10 ∷ rest) (decoder_with_phase_and_line s phase.Size []) ≡ content_after_step (step_after_size_line (decoder_with_phase_and_line s phase.Size (text ++ 13 ∷ [])) (Ok n)) (chunks_decoded_from_state rest) rest
size_line s text rest n is fits =
    let short = size_short text is.form in
    let size = size_at_is text s.left n is fits in
    chunks_behind text (13 ∷ 10 ∷ rest) (decoder_with_phase_and_line s phase.Size []) (decoder_with_phase_and_line s phase.Size text) (size_text s [] text is.one_line (omega arith))
    ∙ ap (λ t. content_after_step t (chunks_decoded_from_state (10 ∷ rest)) (10 ∷ rest)) (size_on s text 13 refl (omega arith))
    ∙ ap (λ r. content_after_step (step_after_size_line (decoder_with_phase_and_line s phase.Size (text ++ 13 ∷ [])) r) (chunks_decoded_from_state rest) rest) size

-- ---- data

-- a state
abbrev pub in_phase : ChunkPhase → ℕ → ℕ → ℕ → List ℕ → List ℕ → ChunkDecoder
in_phase p need left used data_of_chunks line = record { phase = p; need = need; left = left; used = used; content = data_of_chunks; line = line }

-- some of the data of a chunk
pub data_part : (need left used : ℕ) (sofar run : List ℕ) → length run < need
    → decoder_after_bytes run (in_phase phase.Data need left used sofar []) ≡ Some (in_phase phase.Data (need - length run) left used (sofar ++ run) [])
data_part need left used sofar [] few =
    let none : need - 0 ≡ need = omega arith in
    ap (λ n. Some (in_phase phase.Data n left used sofar [])) (sym none)
    ∙ ap (λ l. Some (in_phase phase.Data (need - 0) left used l [])) (sym (append-nil sofar))
data_part need left used sofar (b ∷ run) few =
    let more : nat_lt 1 need ≡ true = lt-ltb _ _ (omega arith) in
    let less : need - 1 - length run ≡ need - length (b ∷ run) = omega arith in
    ap (λ t. decoder_after_bytes run (in_phase (cond t phase.Data phase.DataEnd) (need - 1) left used (sofar ++ b ∷ []) [])) more
    ∙ data_part (need - 1) left used (sofar ++ b ∷ []) run (omega arith)
    ∙ ap (λ n. Some (in_phase phase.Data n left used ((sofar ++ b ∷ []) ++ run) [])) less
    ∙ ap (λ l. Some (in_phase phase.Data (need - length (b ∷ run)) left used l [])) (append_assoc sofar (b ∷ []) run)

-- all of it
pub data_run : (left used : ℕ) (sofar run : List ℕ) → 0 < length run
    → decoder_after_bytes run (in_phase phase.Data (length run) left used sofar []) ≡ Some (in_phase phase.DataEnd 0 left used (sofar ++ run) [])
data_run left used sofar [] some = absurd (omega arith)
data_run left used sofar (b ∷ []) some = refl
data_run left used sofar (b ∷ c ∷ run) some =
    let more : nat_lt 1 (length (b ∷ c ∷ run)) ≡ true = lt-ltb _ _ (omega arith) in
    let less : length (b ∷ c ∷ run) - 1 ≡ length (c ∷ run) = omega arith in
    ap (λ t. decoder_after_bytes (c ∷ run) (in_phase (cond t phase.Data phase.DataEnd) (length (b ∷ c ∷ run) - 1) left used (sofar ++ b ∷ []) [])) more
    ∙ ap (λ n. decoder_after_bytes (c ∷ run) (in_phase phase.Data n left used (sofar ++ b ∷ []) [])) less
    ∙ data_run left used (sofar ++ b ∷ []) (c ∷ run) (omega arith)
    ∙ ap (λ l. Some (in_phase phase.DataEnd 0 left used l [])) (append_assoc sofar (b ∷ []) (c ∷ run))

-- one chunk
chunk_run : (left used : ℕ) (sofar rest : List ℕ) (c : Chunk) → IsChunk c → length c.bytes ≤ left
    → chunks_decoded_from_state (c.size ++ 13 ∷ 10 ∷ (c.bytes ++ 13 ∷ 10 ∷ rest)) (in_phase phase.Size 0 left used sofar [])
    ≡ chunks_decoded_from_state rest (in_phase phase.Size 0 (left - length c.bytes) used (sofar ++ c.bytes) [])
chunk_run left used sofar rest c is fits =
    let some : (length c.bytes == 0) ≡ false = let apart : length c.bytes ≡ 0 → ⊥ = (λ e. omega (arith, e, is.some)) in ne_eqb (length c.bytes) 0 apart in
    size_line (in_phase phase.Size 0 left used sofar []) c.size (c.bytes ++ 13 ∷ 10 ∷ rest) (length c.bytes) is.size fits
    ∙ ap (λ t. content_after_step (cond t (Go (in_phase phase.Trailers 0 left used sofar [])) (Go (in_phase phase.Data (length c.bytes) (left - length c.bytes) used sofar []))) (chunks_decoded_from_state (c.bytes ++ 13 ∷ 10 ∷ rest)) (c.bytes ++ 13 ∷ 10 ∷ rest)) some
    ∙ chunks_behind c.bytes (13 ∷ 10 ∷ rest) (in_phase phase.Data (length c.bytes) (left - length c.bytes) used sofar []) (in_phase phase.DataEnd 0 (left - length c.bytes) used (sofar ++ c.bytes) []) (data_run (left - length c.bytes) used sofar c.bytes is.some)

pub chunks_run : (cs : List Chunk) (left used : ℕ) (sofar rest : List ℕ) → AllByRecursion IsChunk cs → length (data_of_chunks cs) ≤ left
    → chunks_decoded_from_state (chunks_text cs rest) (in_phase phase.Size 0 left used sofar [])
    ≡ chunks_decoded_from_state rest (in_phase phase.Size 0 (left - length (data_of_chunks cs)) used (sofar ++ data_of_chunks cs) [])
chunks_run [] left used sofar rest all fits =
    let none : left - 0 ≡ left = omega arith in
    ap (λ l. chunks_decoded_from_state rest (in_phase phase.Size 0 l used sofar [])) (sym none)
    ∙ ap (λ l. chunks_decoded_from_state rest (in_phase phase.Size 0 (left - 0) used l [])) (sym (append-nil sofar))
chunks_run (c ∷ cs) left used sofar rest all fits =
    let parts = length-append c.bytes (data_of_chunks cs) in
    let still : left - length c.bytes - length (data_of_chunks cs) ≡ left - length (data_of_chunks (c ∷ cs)) = omega (arith, parts) in
    chunk_run left used sofar (chunks_text cs rest) c all.0 (omega (arith, parts))
    ∙ chunks_run cs (left - length c.bytes) used (sofar ++ c.bytes) rest all.1 (omega (arith, parts))
    ∙ ap (λ l. chunks_decoded_from_state rest (in_phase phase.Size 0 l used ((sofar ++ c.bytes) ++ data_of_chunks cs) [])) still
    ∙ ap (λ l. chunks_decoded_from_state rest (in_phase phase.Size 0 (left - length (data_of_chunks (c ∷ cs))) used l [])) (append_assoc sofar c.bytes (data_of_chunks cs))

-- ---- trailers

pub trailer_on : (need left used : ℕ) (sofar text : List ℕ) (b : ℕ) → (b == 10) ≡ false → used + length text < most_trailer_bytes
    → step_in_trailers (in_phase phase.Trailers need left used sofar text) b ≡ Go (in_phase phase.Trailers need left used sofar (text ++ b ∷ []))
trailer_on need left used sofar text b other room = rw (other, lt-ltb (used + length text) most_trailer_bytes room)

-- more bytes of a line
pub trailer_text : (need left used : ℕ) (sofar text more : List ℕ) → has_no_lf more ≡ true → length more ≤ most_trailer_bytes - (used + length text)
    → decoder_after_bytes more (in_phase phase.Trailers need left used sofar text) ≡ Some (in_phase phase.Trailers need left used sofar (text ++ more))
trailer_text need left used sofar text [] one_line room = ap (λ l. Some (in_phase phase.Trailers need left used sofar l)) (sym (append-nil text))
trailer_text need left used sofar text (b ∷ more) one_line room =
    let parts = and_parts (not (b == 10)) (has_no_lf more) one_line in
    ap (λ t. decoder_after_step t (decoder_after_bytes more)) (trailer_on need left used sofar text b (not_true (b == 10) parts.0) (omega arith))
    ∙ trailer_text need left used sofar (text ++ b ∷ []) more parts.1 (omega (arith, length-append text (b ∷ [])))
    ∙ ap (λ l. Some (in_phase phase.Trailers need left used sofar l)) (append_assoc text (b ∷ []) more)

-- the LF behind a CR
pub trailer_closed : (need left used : ℕ) (sofar text : List ℕ) → 0 < length text → used + length text + 1 < most_trailer_bytes
    → step_in_trailers (in_phase phase.Trailers need left used sofar (text ++ 13 ∷ [])) 10 ≡ Go (in_phase phase.Trailers need left (used + length (text ++ 13 ∷ []) + 1) sofar [])
trailer_closed need left used sofar text some room =
    let parts = length-append text (13 ∷ []) in
    let long : (length (text ++ 13 ∷ []) == 1) ≡ false = let apart : length (text ++ 13 ∷ []) ≡ 1 → ⊥ = (λ e. omega (arith, e, some, parts)) in ne_eqb (length (text ++ 13 ∷ [])) 1 apart in
    rw (lt-ltb (used + length (text ++ 13 ∷ [])) most_trailer_bytes (omega arith), cr_last text, long)

trailers_run : (ts : List (List ℕ)) (need left used : ℕ) (sofar rest : List ℕ) → AllByRecursion IsTrailerLine ts → used + trailer_section_length ts ≤ most_trailer_bytes
    → chunks_decoded_from_state (trailer_section_text ts rest) (in_phase phase.Trailers need left used sofar []) ≡ Whole (Some sofar) rest
trailers_run [] need left used sofar rest all room =
    ap (λ t. content_after_step t (chunks_decoded_from_state (10 ∷ rest)) (10 ∷ rest)) (trailer_on need left used sofar [] 13 refl (omega arith))
    ∙ ap (λ b. content_after_step (cond b (Stop sofar) (Fail fault.Chunk)) (chunks_decoded_from_state rest) rest) (lt-ltb (used + 1) most_trailer_bytes (omega arith))
trailers_run (t ∷ ts) need left used sofar rest all room =
    let s = in_phase phase.Trailers need left used sofar in
    chunks_behind t (13 ∷ 10 ∷ trailer_section_text ts rest) (s []) (s t) (trailer_text need left used sofar [] t all.0.one_line (omega arith))
    ∙ ap (λ s. content_after_step s (chunks_decoded_from_state (10 ∷ trailer_section_text ts rest)) (10 ∷ trailer_section_text ts rest)) (trailer_on need left used sofar t 13 refl (omega arith))
    ∙ ap (λ s. content_after_step s (chunks_decoded_from_state (trailer_section_text ts rest)) (trailer_section_text ts rest)) (trailer_closed need left used sofar t all.0.some (omega arith))
    ∙ trailers_run ts need left (used + length (t ++ 13 ∷ []) + 1) sofar rest all.1 (omega (arith, length-append t (13 ∷ [])))

-- what is printed is read
pub print_is_read : (max_body : ℕ) (t : ChunkedBody) (rest : List ℕ) → IsChunkedBody max_body t → decoded_chunked_content max_body (chunked_body_text_with_rest t rest) ≡ Whole (Some (data_of_chunks t.chunks)) rest
print_is_read max_body t rest is =
    chunks_run t.chunks max_body 0 [] (t.last ++ 13 ∷ 10 ∷ trailer_section_text t.trailers rest) is.chunks is.content_fits
    ∙ size_line (in_phase phase.Size 0 (max_body - length (data_of_chunks t.chunks)) 0 (data_of_chunks t.chunks) []) t.last (trailer_section_text t.trailers rest) 0 is.last (omega arith)
    ∙ trailers_run t.trailers 0 (max_body - length (data_of_chunks t.chunks)) 0 (data_of_chunks t.chunks) rest is.trailers (omega (arith, is.trailers_fit))
