-- Chunks that deviate from their grammar are refused.
use Rattle.std.proofs.Common.{◌≡◌, ℕ, ◌+◌, ◌-◌, ◌<◌, ◌≤◌, ◌&&◌, Bool, true, false, not, cond, List, [], ◌∷◌, ◌++◌, length, ◌==◌, nat_lt, nat_le, refl, sym, ap, ◌∙◌, subst, arith, Some, None, Result, Err, ok_or, length-append, append_assoc}
use Rattle.std.proofs.lemmas.List.{append-nil}
use Rattle.std.proofs.lemmas.Bool.{ltb-true, le-ltb, lt-leb, leb-true, leb-false, ne_eqb}
use Rattle.std.specs.List.{AllByRecursion}
use Rattle.hx_framing.specs.declared.frame_fault.FrameFault.{FrameFault}
use Rattle.hx_framing.specs.declared.frame_fault.FrameFault.TheVariants as fault
use Rattle.hx_framing.specs.declared.contents.chunk_tokens.ChunkPhase.TheVariants as phase
use Rattle.hx_framing.specs.Body.{ContentParseResult, Short, Bad, Whole, ContentIsWholeOrFaulty, content_result_with_more_bytes}
use Rattle.hx_framing.specs.ChunkDecoder.{ChunkDecoder}
use Rattle.hx_framing.specs.Chunks.{most_trailer_bytes, ChunkStep, Go, Stop, Fail, content_after_step, chunks_decoded_from_state, decoded_chunked_content, decoder_at_start, chunk_step, step_after_size_line, step_after_trailer_line}
use Rattle.hx_framing.specs.SizeLine.{most_chunk_size_line_bytes, is_chunk_size_text, chunk_size_of, chunk_size_of_line, ends_in_cr, without_last_byte, number_if_at_most}
use Rattle.hx_framing.specs.ChunkGrammar.{has_no_lf, ChunkSizeLineSpellsSize, Chunk, IsChunk, data_of_chunks, IsTrailerLine, ChunkedBody, IsChunkedBody, chunked_body_text_with_rest}
use Rattle.hx_framing.specs.ChunkFaults.{cannot_become_crlf, IsSizeLineWithCr, LineEndsInCr, trailer_lines_text_with_rest, trailer_lines_length, ChunkDeviation, NoSize, NoEnd, Large, BadEnd, BadTrailer, LongTrailers, BytesStartWithChunkDeviation, DeviatesFromChunks}
use Rattle.hx_framing.proofs.ChunkStreams.{chunks_append, chunks_behind}
use Rattle.hx_framing.proofs.ChunkSteps.{and_parts, in_phase, size_text, size_on, size_short, cr_last, cr_off, size_line, data_run, chunks_run, trailer_on, trailer_text, trailer_closed, print_is_read}
use Rattle.hx_framing.proofs.ChunkSound.{cr_line, no_lf_push, read_is_print}
use Rattle.hx_framing.proofs.ChunkFaultSound.{refused_breaks}

not_true : (a : Bool) → not a ≡ true → a ≡ false
not_true true h = absurd cc
not_true false h = refl

-- ---- size lines

-- a line that is no size line is refused at its LF
refused_size : (l : List ℕ) (left : ℕ) → ¬ (IsSizeLineWithCr l) → chunk_size_of_line l left ≡ Err fault.Chunk
refused_size l left never = by_test (ends_in_cr l) refl (is_chunk_size_text (without_last_byte l)) refl
  where
    by_test : (e : Bool) → ends_in_cr l ≡ e → (s : Bool) → is_chunk_size_text (without_last_byte l) ≡ s
        → cond (e && s) (ok_or (number_if_at_most left (chunk_size_of (without_last_byte l))) fault.TooLarge) (Err fault.Chunk) ≡ Err fault.Chunk
    by_test true p true q = absurd (never (record { text = without_last_byte l; ends = cr_line l p; form = q }))
    by_test true p false q = refl
    by_test false p s q = refl

no_size : (text line rest : List ℕ) (left used : ℕ) (sofar : List ℕ) → has_no_lf line ≡ true → ¬ (IsSizeLineWithCr (text ++ line))
    → chunks_decoded_from_state (line ++ 10 ∷ rest) (in_phase phase.Size 0 left used sofar text) ≡ Bad fault.Chunk
no_size text [] rest left used sofar none never =
    ap (λ r. content_after_step (step_after_size_line (in_phase phase.Size 0 left used sofar text) r) (chunks_decoded_from_state rest) rest)
    (refused_size text left (subst (λ (l : List ℕ). ¬ (IsSizeLineWithCr l)) (append-nil text) never))
no_size text (b ∷ line) rest left used sofar none never =
    let parts = and_parts (not (b == 10)) (has_no_lf line) none in
    let later = no_size (text ++ b ∷ []) line rest left used sofar parts.1 (subst (λ (l : List ℕ). ¬ (IsSizeLineWithCr l)) (sym (append_assoc text (b ∷ []) line)) never) in
    by_feed (b == 10) (not_true (b == 10) parts.0) (nat_lt (length text) most_chunk_size_line_bytes) later
  where
    by_room : (u : Bool) → chunks_decoded_from_state (line ++ 10 ∷ rest) (in_phase phase.Size 0 left used sofar (text ++ b ∷ [])) ≡ Bad fault.Chunk
        → content_after_step (cond u (Go (in_phase phase.Size 0 left used sofar (text ++ b ∷ []))) (Fail fault.Chunk)) (chunks_decoded_from_state (line ++ 10 ∷ rest)) (line ++ 10 ∷ rest) ≡ Bad fault.Chunk
    by_room true later = later
    by_room false later = refl

    by_feed : (t : Bool) → t ≡ false → (u : Bool) → chunks_decoded_from_state (line ++ 10 ∷ rest) (in_phase phase.Size 0 left used sofar (text ++ b ∷ [])) ≡ Bad fault.Chunk
        → content_after_step (cond t (step_after_size_line (in_phase phase.Size 0 left used sofar text) (chunk_size_of_line text left)) (cond u (Go (in_phase phase.Size 0 left used sofar (text ++ b ∷ []))) (Fail fault.Chunk)))
        (chunks_decoded_from_state (line ++ 10 ∷ rest)) (line ++ 10 ∷ rest) ≡ Bad fault.Chunk
    by_feed true other u later = absurd cc
    by_feed false other u later = by_room u later

no_end : (text line rest : List ℕ) (left used : ℕ) (sofar : List ℕ) → has_no_lf line ≡ true → length text ≤ most_chunk_size_line_bytes
    → most_chunk_size_line_bytes < length text + length line
    → chunks_decoded_from_state (line ++ rest) (in_phase phase.Size 0 left used sofar text) ≡ Bad fault.Chunk
no_end text [] rest left used sofar none short long = absurd (omega (arith, short, long))
no_end text (b ∷ line) rest left used sofar none short long =
    let parts = and_parts (not (b == 10)) (has_no_lf line) none in
    by_feed (b == 10) (not_true (b == 10) parts.0) (nat_lt (length text) most_chunk_size_line_bytes) refl
    (λ room. no_end (text ++ b ∷ []) line rest left used sofar parts.1 (omega (arith, room, length-append text (b ∷ []))) (omega (arith, long, length-append text (b ∷ []))))
  where
    by_room : (u : Bool) → nat_lt (length text) most_chunk_size_line_bytes ≡ u
        → (length text < most_chunk_size_line_bytes → chunks_decoded_from_state (line ++ rest) (in_phase phase.Size 0 left used sofar (text ++ b ∷ [])) ≡ Bad fault.Chunk)
        → content_after_step (cond u (Go (in_phase phase.Size 0 left used sofar (text ++ b ∷ []))) (Fail fault.Chunk)) (chunks_decoded_from_state (line ++ rest)) (line ++ rest) ≡ Bad fault.Chunk
    by_room true p later = later (ltb-true _ _ p)
    by_room false p later = refl

    by_feed : (t : Bool) → t ≡ false → (u : Bool) → nat_lt (length text) most_chunk_size_line_bytes ≡ u
        → (length text < most_chunk_size_line_bytes → chunks_decoded_from_state (line ++ rest) (in_phase phase.Size 0 left used sofar (text ++ b ∷ [])) ≡ Bad fault.Chunk)
        → content_after_step (cond t (step_after_size_line (in_phase phase.Size 0 left used sofar text) (chunk_size_of_line text left)) (cond u (Go (in_phase phase.Size 0 left used sofar (text ++ b ∷ []))) (Fail fault.Chunk)))
        (chunks_decoded_from_state (line ++ rest)) (line ++ rest) ≡ Bad fault.Chunk
    by_feed true other u p later = absurd cc
    by_feed false other u p later = by_room u p later

-- the choice that a size line is
judged_size : ℕ → Bool → List ℕ → Result ℕ FrameFault
judged_size left e t = cond (e && is_chunk_size_text t) (ok_or (number_if_at_most left (chunk_size_of t)) fault.TooLarge) (Err fault.Chunk)

-- a size that is above what is left
large_at : (text : List ℕ) (left n : ℕ) → ChunkSizeLineSpellsSize text n → left < n → chunk_size_of_line (text ++ 13 ∷ []) left ≡ Err fault.TooLarge
unfolding judged_size
large_at text left n is above =
    ap (λ e. judged_size left e (without_last_byte (text ++ 13 ∷ []))) (cr_last text)
    ∙ ap (judged_size left true) (cr_off text)
    ∙ ap (λ b. cond b (ok_or (number_if_at_most left (chunk_size_of text)) fault.TooLarge) (Err fault.Chunk)) is.form
    ∙ ap (λ k. ok_or (number_if_at_most left k) fault.TooLarge) (sym is.size)
    ∙ ap (λ b. ok_or (cond b (Some n) None) fault.TooLarge) (lt-leb n left above)

large : (text rest : List ℕ) (n left used : ℕ) (sofar : List ℕ) → ChunkSizeLineSpellsSize text n → left < n
    → chunks_decoded_from_state (text ++ 13 ∷ 10 ∷ rest) (in_phase phase.Size 0 left used sofar []) ≡ Bad fault.TooLarge
large text rest n left used sofar is above =
    let s = in_phase phase.Size 0 left used sofar in
    let short = size_short text is.form in
    chunks_behind text (13 ∷ 10 ∷ rest) (s []) (s text) (size_text (s []) [] text is.one_line (omega arith))
    ∙ ap (λ t. content_after_step t (chunks_decoded_from_state (10 ∷ rest)) (10 ∷ rest)) (size_on (s []) text 13 refl (omega arith))
    ∙ ap (λ r. content_after_step (step_after_size_line (s (text ++ 13 ∷ [])) r) (chunks_decoded_from_state rest) rest) (large_at text left n is above)

-- ---- data

-- what isn't CRLF
wrong_end : (rest : List ℕ) (left used : ℕ) (sofar : List ℕ) → cannot_become_crlf rest ≡ true
    → chunks_decoded_from_state rest (in_phase phase.DataEnd 0 left used sofar []) ≡ Bad fault.Chunk
wrong_end [] left used sofar wrong = absurd cc
wrong_end (b ∷ []) left used sofar wrong =
    ap (λ t. content_after_step (cond t (Go (in_phase phase.DataEnd 0 left used sofar (b ∷ []))) (Fail fault.Chunk)) (chunks_decoded_from_state []) []) (not_true (b == 13) wrong)
wrong_end (b ∷ c ∷ bytes) left used sofar wrong = by_first (b == 13) wrong
  where
    by_second : (u : Bool) → not u ≡ true
        → content_after_step (cond u (Go (in_phase phase.Size 0 left used sofar [])) (Fail fault.Chunk)) (chunks_decoded_from_state bytes) bytes ≡ Bad fault.Chunk
    by_second true wrong = absurd cc
    by_second false wrong = refl

    by_first : (t : Bool) → not (t && (c == 10)) ≡ true
        → content_after_step (cond t (Go (in_phase phase.DataEnd 0 left used sofar (b ∷ []))) (Fail fault.Chunk)) (chunks_decoded_from_state (c ∷ bytes)) (c ∷ bytes) ≡ Bad fault.Chunk
    by_first true wrong = by_second (c == 10) wrong
    by_first false wrong = refl

bad_end : (chunk : Chunk) (rest : List ℕ) (left used : ℕ) (sofar : List ℕ) → IsChunk chunk → length chunk.bytes ≤ left → cannot_become_crlf rest ≡ true
    → chunks_decoded_from_state (chunk.size ++ 13 ∷ 10 ∷ (chunk.bytes ++ rest)) (in_phase phase.Size 0 left used sofar []) ≡ Bad fault.Chunk
bad_end c rest left used sofar is fits wrong =
    let some : (length c.bytes == 0) ≡ false = let apart : length c.bytes ≡ 0 → ⊥ = (λ e. omega (arith, e, is.some)) in ne_eqb (length c.bytes) 0 apart in
    size_line (in_phase phase.Size 0 left used sofar []) c.size (c.bytes ++ rest) (length c.bytes) is.size fits
    ∙ ap (λ t. content_after_step (cond t (Go (in_phase phase.Trailers 0 left used sofar [])) (Go (in_phase phase.Data (length c.bytes) (left - length c.bytes) used sofar []))) (chunks_decoded_from_state (c.bytes ++ rest)) (c.bytes ++ rest)) some
    ∙ chunks_behind c.bytes rest (in_phase phase.Data (length c.bytes) (left - length c.bytes) used sofar []) (in_phase phase.DataEnd 0 (left - length c.bytes) used (sofar ++ c.bytes) []) (data_run (left - length c.bytes) used sofar c.bytes is.some)
    ∙ wrong_end rest (left - length c.bytes) used (sofar ++ c.bytes) wrong

-- ---- trailers

-- a byte of a line
trailer_byte : (b : ℕ) (rest : List ℕ) (left used : ℕ) (sofar text : List ℕ) → (b == 10) ≡ false
    → chunks_decoded_from_state rest (in_phase phase.Trailers 0 left used sofar (text ++ b ∷ [])) ≡ Bad fault.Chunk
    → chunks_decoded_from_state (b ∷ rest) (in_phase phase.Trailers 0 left used sofar text) ≡ Bad fault.Chunk
trailer_byte b rest left used sofar text other later = by_room (nat_lt (used + length text) most_trailer_bytes) (b == 10) other
  where
    by_room : (r t : Bool) → t ≡ false
        → content_after_step (cond r (cond t (step_after_trailer_line (in_phase phase.Trailers 0 left used sofar text)) (Go (in_phase phase.Trailers 0 left used sofar (text ++ b ∷ [])))) (Fail fault.Chunk)) (chunks_decoded_from_state rest) rest ≡ Bad fault.Chunk
    by_room true true other = absurd cc
    by_room true false other = later
    by_room false t other = refl

-- more bytes than trailers may have
overrun : (text line rest : List ℕ) (b left used : ℕ) (sofar : List ℕ) → has_no_lf line ≡ true → most_trailer_bytes ≤ used + (length text + length line)
    → chunks_decoded_from_state (line ++ b ∷ rest) (in_phase phase.Trailers 0 left used sofar text) ≡ Bad fault.Chunk
overrun text [] rest b left used sofar none long =
    ap (λ r. content_after_step (cond r (cond (b == 10) (step_after_trailer_line (in_phase phase.Trailers 0 left used sofar text)) (Go (in_phase phase.Trailers 0 left used sofar (text ++ b ∷ [])))) (Fail fault.Chunk)) (chunks_decoded_from_state rest) rest)
    (le-ltb (used + length text) most_trailer_bytes (omega (arith, long)))
overrun text (c ∷ line) rest b left used sofar none long =
    let parts = and_parts (not (c == 10)) (has_no_lf line) none in
    trailer_byte c (line ++ b ∷ rest) left used sofar text (not_true (c == 10) parts.0)
    (overrun (text ++ c ∷ []) line rest b left used sofar parts.1 (omega (arith, long, length-append text (c ∷ []))))

-- a line that ends by LF alone
bad_line : (text line rest : List ℕ) (left used : ℕ) (sofar : List ℕ) → has_no_lf line ≡ true → ¬ (LineEndsInCr (text ++ line))
    → chunks_decoded_from_state (line ++ 10 ∷ rest) (in_phase phase.Trailers 0 left used sofar text) ≡ Bad fault.Chunk
bad_line text [] rest left used sofar none never = by_room (nat_lt (used + length text) most_trailer_bytes) (ends_in_cr text) refl
  where
    by_room : (r e : Bool) → ends_in_cr text ≡ e
        → content_after_step (cond r (cond e (cond (length text == 1) (Stop sofar) (Go (in_phase phase.Trailers 0 left (used + length text + 1) sofar []))) (Fail fault.Chunk)) (Fail fault.Chunk)) (chunks_decoded_from_state rest) rest ≡ Bad fault.Chunk
    by_room true true e = absurd (never (record { text = without_last_byte text; ends = append-nil text ∙ cr_line text e }))
    by_room true false e = refl
    by_room false e p = refl
bad_line text (c ∷ line) rest left used sofar none never =
    let parts = and_parts (not (c == 10)) (has_no_lf line) none in
    trailer_byte c (line ++ 10 ∷ rest) left used sofar text (not_true (c == 10) parts.0)
    (bad_line (text ++ c ∷ []) line rest left used sofar parts.1 (subst (λ (l : List ℕ). ¬ (LineEndsInCr l)) (sym (append_assoc text (c ∷ []) line)) never))

-- whole trailer lines in front
behind_lines : (lines : List (List ℕ)) (rest : List ℕ) (left used : ℕ) (sofar : List ℕ) → AllByRecursion IsTrailerLine lines
    → ((k : ℕ) → k ≡ used + trailer_lines_length lines → chunks_decoded_from_state rest (in_phase phase.Trailers 0 left k sofar []) ≡ Bad fault.Chunk)
    → chunks_decoded_from_state (trailer_lines_text_with_rest lines rest) (in_phase phase.Trailers 0 left used sofar []) ≡ Bad fault.Chunk
behind_lines [] rest left used sofar each later = later used (omega arith)
behind_lines (t ∷ lines) rest left used sofar each later = by_room (nat_le (used + length t + 2) most_trailer_bytes) refl
    (behind_lines lines rest left (used + length (t ++ 13 ∷ []) + 1) sofar each.1 (λ k is. later k (omega (arith, is, length-append t (13 ∷ [])))))
  where
    by_room : (r : Bool) → nat_le (used + length t + 2) most_trailer_bytes ≡ r
        → chunks_decoded_from_state (trailer_lines_text_with_rest lines rest) (in_phase phase.Trailers 0 left (used + length (t ++ 13 ∷ []) + 1) sofar []) ≡ Bad fault.Chunk
        → chunks_decoded_from_state (t ++ 13 ∷ 10 ∷ trailer_lines_text_with_rest lines rest) (in_phase phase.Trailers 0 left used sofar []) ≡ Bad fault.Chunk
    by_room true p further =
        let room : used + length t + 2 ≤ most_trailer_bytes = leb-true _ _ p in
        let s = in_phase phase.Trailers 0 left used sofar in
        chunks_behind t (13 ∷ 10 ∷ trailer_lines_text_with_rest lines rest) (s []) (s t) (trailer_text 0 left used sofar [] t each.0.one_line (omega arith))
        ∙ ap (λ s. content_after_step s (chunks_decoded_from_state (10 ∷ trailer_lines_text_with_rest lines rest)) (10 ∷ trailer_lines_text_with_rest lines rest)) (trailer_on 0 left used sofar t 13 refl (omega arith))
        ∙ ap (λ s. content_after_step s (chunks_decoded_from_state (trailer_lines_text_with_rest lines rest)) (trailer_lines_text_with_rest lines rest)) (trailer_closed 0 left used sofar t each.0.some (omega arith))
        ∙ further
    by_room false p further =
        let long : most_trailer_bytes < used + length t + 2 = leb-false _ _ p in
        ap (λ l. chunks_decoded_from_state l (in_phase phase.Trailers 0 left used sofar [])) (sym (append_assoc t (13 ∷ []) (10 ∷ trailer_lines_text_with_rest lines rest)))
        ∙ overrun [] (t ++ 13 ∷ []) (trailer_lines_text_with_rest lines rest) 10 left used sofar (no_lf_push t 13 each.0.one_line refl) (omega (arith, long, length-append t (13 ∷ [])))

-- behind the last size line
behind_last : (last bytes : List ℕ) (left : ℕ) (sofar : List ℕ) → ChunkSizeLineSpellsSize last 0
    → chunks_decoded_from_state bytes (in_phase phase.Trailers 0 left 0 sofar []) ≡ Bad fault.Chunk
    → chunks_decoded_from_state (last ++ 13 ∷ 10 ∷ bytes) (in_phase phase.Size 0 left 0 sofar []) ≡ Bad fault.Chunk
behind_last last bytes left sofar is later = size_line (in_phase phase.Size 0 left 0 sofar []) last bytes 0 is (omega arith) ∙ later

-- ---- what deviates

broken : (max sum : ℕ) (bytes sofar : List ℕ) (kind : ChunkDeviation) (f : FrameFault) → sum ≤ max → BytesStartWithChunkDeviation max sum bytes kind f
    → chunks_decoded_from_state bytes (in_phase phase.Size 0 (max - sum) 0 sofar []) ≡ Bad f
broken max sum bytes sofar NoSize f within (is, (line, rest, parts, one_line, never)) =
    ap (λ l. chunks_decoded_from_state l (in_phase phase.Size 0 (max - sum) 0 sofar [])) parts ∙ no_size [] line rest (max - sum) 0 sofar one_line never ∙ ap Bad (sym is)
broken max sum bytes sofar NoEnd f within (is, (line, rest, parts, one_line, long)) =
    ap (λ l. chunks_decoded_from_state l (in_phase phase.Size 0 (max - sum) 0 sofar [])) parts
    ∙ no_end [] line rest (max - sum) 0 sofar one_line (omega arith) (omega (arith, long)) ∙ ap Bad (sym is)
broken max sum bytes sofar Large f within (is, (size, n, rest, parts, text, above)) =
    ap (λ l. chunks_decoded_from_state l (in_phase phase.Size 0 (max - sum) 0 sofar [])) parts
    ∙ large size rest n (max - sum) 0 sofar text (omega (arith, above, within)) ∙ ap Bad (sym is)
broken max sum bytes sofar BadEnd f within (is, (chunk, rest, parts, whole, below, wrong)) =
    ap (λ l. chunks_decoded_from_state l (in_phase phase.Size 0 (max - sum) 0 sofar [])) parts
    ∙ bad_end chunk rest (max - sum) 0 sofar whole (omega (arith, below)) wrong ∙ ap Bad (sym is)
broken max sum bytes sofar BadTrailer f within (is, (lines, line, rest, begins, never)) =
    ap (λ l. chunks_decoded_from_state l (in_phase phase.Size 0 (max - sum) 0 sofar [])) begins.parts
    ∙ behind_last begins.last (trailer_lines_text_with_rest lines (line ++ 10 ∷ rest)) (max - sum) sofar begins.size
    (behind_lines lines (line ++ 10 ∷ rest) (max - sum) 0 sofar begins.each (λ k e. bad_line [] line rest (max - sum) k sofar begins.one_line never))
    ∙ ap Bad (sym is)
broken max sum bytes sofar LongTrailers f within (is, (lines, line, b, rest, begins, long)) =
    ap (λ l. chunks_decoded_from_state l (in_phase phase.Size 0 (max - sum) 0 sofar [])) begins.parts
    ∙ behind_last begins.last (trailer_lines_text_with_rest lines (line ++ b ∷ rest)) (max - sum) sofar begins.size
    (behind_lines lines (line ++ b ∷ rest) (max - sum) 0 sofar begins.each (λ k e. overrun [] line rest b (max - sum) k sofar begins.one_line (omega (arith, e, long))))
    ∙ ap Bad (sym is)

pub breaks_refused : (max_body : ℕ) (bytes : List ℕ) (f : FrameFault) → DeviatesFromChunks max_body bytes f → decoded_chunked_content max_body bytes ≡ Bad f
breaks_refused max_body bytes f d =
    ap (decoded_chunked_content max_body) d.parts
    ∙ chunks_run d.chunks max_body 0 [] d.tail d.whole d.fits
    ∙ broken max_body (length (data_of_chunks d.chunks)) d.tail (data_of_chunks d.chunks) d.kind f d.fits d.breaks

-- ---- the laws

pub one_deviation : (max_body : ℕ) (bytes : List ℕ) (f g : FrameFault) → DeviatesFromChunks max_body bytes f → DeviatesFromChunks max_body bytes g → f ≡ g
one_deviation max_body bytes f g x y = same (sym (breaks_refused max_body bytes f x) ∙ breaks_refused max_body bytes g y)
  where
    same : Bad f ≡ Bad g → f ≡ g
    same e = cc

-- what is decided, with more bytes behind it
decided : (max_body : ℕ) (bytes more : List ℕ) (body : ContentParseResult) → ContentIsWholeOrFaulty body → decoded_chunked_content max_body bytes ≡ body
    → decoded_chunked_content max_body (bytes ++ more) ≡ content_result_with_more_bytes body more
decided max_body bytes more body is same =
    chunks_append bytes more (decoder_at_start max_body) (subst ContentIsWholeOrFaulty (sym same) is) ∙ ap (λ (b : ContentParseResult). content_result_with_more_bytes b more) same

pub never_ends : (max_body : ℕ) (bytes : List ℕ) (f : FrameFault) → DeviatesFromChunks max_body bytes f
    → (more : List ℕ) (body : ChunkedBody) (rest : List ℕ) → IsChunkedBody max_body body → ¬ (bytes ++ more ≡ chunked_body_text_with_rest body rest)
never_ends max_body bytes f deviates more body rest is same = no_content
    (sym (decided max_body bytes more (Bad f) tt (breaks_refused max_body bytes f deviates)) ∙ ap (decoded_chunked_content max_body) same ∙ print_is_read max_body body rest is)
  where
    no_content : Bad f ≡ Whole (Some (data_of_chunks body.chunks)) rest → ⊥
    no_content e = cc

pub short_deviates : (max_body : ℕ) (bytes : List ℕ) → decoded_chunked_content max_body bytes ≡ Short → (f : FrameFault) → ¬ (DeviatesFromChunks max_body bytes f)
short_deviates max_body bytes short f deviates = no_fault (sym short ∙ breaks_refused max_body bytes f deviates)
  where
    no_fault : Short ≡ Bad f → ⊥
    no_fault e = cc

pub short_spells : (max_body : ℕ) (bytes : List ℕ) → decoded_chunked_content max_body bytes ≡ Short → (body : ChunkedBody) (rest : List ℕ) → IsChunkedBody max_body body
    → ¬ (bytes ≡ chunked_body_text_with_rest body rest)
short_spells max_body bytes short body rest is same = no_content (sym short ∙ ap (decoded_chunked_content max_body) same ∙ print_is_read max_body body rest is)
  where
    no_content : Short ≡ Whole (Some (data_of_chunks body.chunks)) rest → ⊥
    no_content e = cc

-- content in chunks is some content
some_content : (bytes rest : List ℕ) (s : ChunkDecoder) → chunks_decoded_from_state bytes s ≡ Whole None rest → ⊥
some_content [] rest s e = cc
some_content (b ∷ bytes) rest s e = by_step (some_content bytes rest) (chunk_step s b) e
  where
    by_step : ((s : ChunkDecoder) → chunks_decoded_from_state bytes s ≡ Whole None rest → ⊥) → (t : ChunkStep) → content_after_step t (chunks_decoded_from_state bytes) bytes ≡ Whole None rest → ⊥
    by_step later (Go s) e = later s e
    by_step later (Stop data_of_chunks) e = cc
    by_step later (Fail f) e = cc

pub neither_waits : (max_body : ℕ) (bytes : List ℕ) → ((f : FrameFault) → ¬ (DeviatesFromChunks max_body bytes f))
    → ((body : ChunkedBody) (rest : List ℕ) → IsChunkedBody max_body body → ¬ (bytes ≡ chunked_body_text_with_rest body rest)) → decoded_chunked_content max_body bytes ≡ Short
neither_waits max_body bytes no_fault no_content = by_body (decoded_chunked_content max_body bytes) refl
  where
    by_body : (body : ContentParseResult) → decoded_chunked_content max_body bytes ≡ body → body ≡ Short
    by_body Short is = refl
    by_body (Bad f) is = absurd (no_fault f (refused_breaks max_body bytes f is))
    by_body (Whole None rest) is = absurd (some_content bytes rest (decoder_at_start max_body) is)
    by_body (Whole (Some data_of) rest) is = let read = read_is_print max_body bytes data_of rest is in absurd (no_content read.0 rest read.1 read.2)

pub beginning_waits : (max_body : ℕ) (bytes : List ℕ) (next : ℕ) (more : List ℕ) (body : ChunkedBody) → IsChunkedBody max_body body
    → bytes ++ next ∷ more ≡ chunked_body_text_with_rest body [] → decoded_chunked_content max_body bytes ≡ Short
beginning_waits max_body bytes next more body is same = by_body (decoded_chunked_content max_body bytes) refl
  where
    read : decoded_chunked_content max_body (bytes ++ next ∷ more) ≡ Whole (Some (data_of_chunks body.chunks)) []
    read = ap (decoded_chunked_content max_body) same ∙ print_is_read max_body body [] is

    no_fault : (f : FrameFault) → Bad f ≡ Whole (Some (data_of_chunks body.chunks)) [] → ⊥
    no_fault f e = cc

    rest_of : ContentParseResult → List ℕ
    rest_of Short = []
    rest_of (Bad f) = []
    rest_of (Whole c rest) = rest

    by_body : (b : ContentParseResult) → decoded_chunked_content max_body bytes ≡ b → b ≡ Short
    by_body Short is = refl
    by_body (Bad f) is = absurd (no_fault f (sym (decided max_body bytes (next ∷ more) (Bad f) tt is) ∙ read))
    by_body (Whole c rest) is =
        let left : rest ++ next ∷ more ≡ [] = ap rest_of (sym (decided max_body bytes (next ∷ more) (Whole c rest) tt is) ∙ read) in
        absurd (omega (arith, ap length left, length-append rest (next ∷ more)))
