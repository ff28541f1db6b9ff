-- A token of content in chunks and the bytes that it is made of.
use Rattle.std.proofs.Common.{◌≡◌, ℕ, ◌+◌, ◌-◌, ◌<◌, ◌≤◌, ◌&&◌, Bool, true, false, cond, List, [], ◌∷◌, ◌++◌, length, drop, take, get_or, ◌==◌, nat_lt, refl, sym, ap, ◌∙◌, arith, Some, Ok, Err, ok_or, append_assoc}
use Rattle.std.proofs.lemmas.List.{take_more, take_all, take-append-drop, length-take}
use Rattle.std.proofs.lemmas.Bool.{lt-ltb, le-ltb, ltb-true, ltb-false, ne_eqb}
use Rattle.hx_framing.specs.declared.frame_fault.FrameFault.{FrameFault}
use Rattle.hx_framing.specs.declared.frame_fault.FrameFault.TheVariants as fault
use Rattle.hx_framing.specs.declared.contents.chunk_tokens.ChunkPhase.{ChunkPhase}
use Rattle.hx_framing.specs.declared.contents.chunk_tokens.ChunkPhase.TheVariants as phase
use Rattle.hx_framing.specs.declared.contents.chunk_tokens.ChunkState.{ChunkState}
use Rattle.hx_framing.specs.declared.contents.chunk_tokens.ChunkToken.TheVariants as token
use Rattle.hx_framing.specs.ChunkDecoder.{ChunkDecoder, chunk_decoder_with_empty_line}
use Rattle.hx_framing.specs.Chunks.{most_trailer_bytes, Go, Stop, Fail, content_after_step, chunks_decoded_from_state, decoder_after_step, decoder_after_bytes, decoder_with_phase_and_line, step_after_size_line, step_in_size_line, step_after_trailer_line, step_in_trailers}
use Rattle.hx_framing.specs.ChunkGrammar.{has_no_lf}
use Rattle.hx_framing.specs.ChunkTokens.{ChunkTokenIsTaken, IsIndexOfFirstLineFeed}
use Rattle.hx_framing.specs.SizeLine.{most_chunk_size_line_bytes, chunk_size_of_line, chunk_size_of, is_chunk_size_text, ends_in_cr, without_last_byte, number_if_at_most}
use Rattle.hx_framing.proofs.ChunkSteps.{size_text, size_short, in_phase, data_part, data_run, trailer_text}
use Rattle.hx_framing.proofs.ChunkStreams.{chunks_behind, state_behind}

-- a place whose phase is known
known_phase : (place : ChunkState) (content : List ℕ) (p : ChunkPhase) → place.phase ≡ p
    → chunk_decoder_with_empty_line place content ≡ in_phase p place.need place.left place.used content []
known_phase place content p e = ap (λ p. in_phase p place.need place.left place.used content []) e

-- a part of a line, in a known phase
part : (place : ChunkState) (content bytes : List ℕ) (p : ChunkPhase) → place.phase ≡ p
    → decoder_after_bytes bytes (in_phase p place.need place.left place.used content []) ≡ Some (in_phase p place.need place.left place.used content bytes)
    → decoder_after_bytes bytes (chunk_decoder_with_empty_line place content) ≡ Some (record (chunk_decoder_with_empty_line place content) { line = bytes })
part place content bytes p is leads =
    ap (decoder_after_bytes bytes) (known_phase place content p is)
    ∙ leads
    ∙ ap (λ p. Some (in_phase p place.need place.left place.used content bytes)) (sym is)

-- ---- lines

-- the bytes as far as one, that one, and the rest
cut : (bytes more : List ℕ) (n : ℕ) → n < length bytes
    → bytes ++ more ≡ take n bytes ++ get_or bytes n 0 ∷ (drop (n + 1) bytes ++ more)
cut bytes more n inside =
    ap (λ l. l ++ more) (sym (take-append-drop (n + 1) bytes) ∙ ap (λ l. l ++ drop (n + 1) bytes) (take_more bytes n 0 inside))
    ∙ append_assoc (take n bytes ++ get_or bytes n 0 ∷ []) (drop (n + 1) bytes) more
    ∙ append_assoc (take n bytes) (get_or bytes n 0 ∷ []) (drop (n + 1) bytes ++ more)

-- a line with its LF
line_with_feed : (bytes : List ℕ) (limit at : ℕ) → IsIndexOfFirstLineFeed bytes limit at → take (at + 1) bytes ≡ take at bytes ++ 10 ∷ []
line_with_feed bytes limit at feed = take_more bytes at 0 feed.inside ∙ ap (λ b. take at bytes ++ b ∷ []) feed.here

take_length : (n : ℕ) (bytes : List ℕ) → n ≤ length bytes → length (take n bytes) ≡ n
take_length n bytes inside = omega (arith, length-take n bytes)

-- bytes that lead into a state, and the byte behind them
one_more : (bytes more : List ℕ) (n : ℕ) (s t : ChunkDecoder) (b : ℕ) → n < length bytes → get_or bytes n 0 ≡ b → decoder_after_bytes (take n bytes) s ≡ Some t
    → chunks_decoded_from_state (bytes ++ more) s ≡ chunks_decoded_from_state (b ∷ (drop (n + 1) bytes ++ more)) t
one_more bytes more n s t b inside here leads =
    ap (λ l. chunks_decoded_from_state l s) (cut bytes more n inside)
    ∙ chunks_behind (take n bytes) (get_or bytes n 0 ∷ (drop (n + 1) bytes ++ more)) s t leads
    ∙ ap (λ b. chunks_decoded_from_state (b ∷ (drop (n + 1) bytes ++ more)) t) here

-- ---- size lines

-- the line without its LF
size_line_read : (place : ChunkState) (content bytes : List ℕ) (at : ℕ) → place.phase ≡ phase.Size → IsIndexOfFirstLineFeed bytes most_chunk_size_line_bytes at
    → decoder_after_bytes (take at bytes) (chunk_decoder_with_empty_line place content) ≡ Some (in_phase phase.Size place.need place.left place.used content (take at bytes))
size_line_read place content bytes at is_chunk_size_text feed =
    let long = take_length at bytes (omega (arith, feed.inside)) in
    ap (decoder_after_bytes (take at bytes)) (known_phase place content phase.Size is_chunk_size_text)
    ∙ size_text (in_phase phase.Size place.need place.left place.used content []) [] (take at bytes) feed.first (omega (arith, feed.below))

-- the line with its LF
size_line_taken : (place : ChunkState) (content bytes : List ℕ) (at n : ℕ)
    → place.phase ≡ phase.Size → IsIndexOfFirstLineFeed bytes most_chunk_size_line_bytes at → chunk_size_of_line (take at bytes) place.left ≡ Ok n
    → decoder_after_bytes (take (at + 1) bytes) (chunk_decoder_with_empty_line place content)
    ≡ decoder_after_step (step_after_size_line (in_phase phase.Size place.need place.left place.used content (take at bytes)) (Ok n)) (decoder_after_bytes [])
size_line_taken place content bytes at n is_chunk_size_text feed said =
    let s = in_phase phase.Size place.need place.left place.used content (take at bytes) in
    ap (λ l. decoder_after_bytes l (chunk_decoder_with_empty_line place content)) (line_with_feed bytes most_chunk_size_line_bytes at feed)
    ∙ state_behind (take at bytes) (10 ∷ []) (chunk_decoder_with_empty_line place content) s (size_line_read place content bytes at is_chunk_size_text feed)
    ∙ ap (λ r. decoder_after_step (step_after_size_line s r) (decoder_after_bytes [])) said

-- a line that spells no size
pub size_bad : (place : ChunkState) (content bytes : List ℕ) (at : ℕ) (f : FrameFault)
    → place.phase ≡ phase.Size → IsIndexOfFirstLineFeed bytes most_chunk_size_line_bytes at → chunk_size_of_line (take at bytes) place.left ≡ Err f
    → ChunkTokenIsTaken place content bytes content (token.Faulty f)
size_bad place content bytes at f is_chunk_size_text feed said = λ more.
    let s = in_phase phase.Size place.need place.left place.used content (take at bytes) in
    let rest = drop (at + 1) bytes ++ more in
    one_more bytes more at (chunk_decoder_with_empty_line place content) s 10 feed.inside feed.here (size_line_read place content bytes at is_chunk_size_text feed)
    ∙ ap (λ r. content_after_step (step_after_size_line s r) (chunks_decoded_from_state rest) rest) said

-- the size of the last chunk
pub size_last : (place : ChunkState) (content bytes : List ℕ) (at : ℕ)
    → place.phase ≡ phase.Size → IsIndexOfFirstLineFeed bytes most_chunk_size_line_bytes at → chunk_size_of_line (take at bytes) place.left ≡ Ok 0
    → ChunkTokenIsTaken place content bytes content (token.Whole (at + 1) (record place { phase = phase.Trailers }))
size_last place content bytes at is_chunk_size_text feed said =
    let no_data : phase.Trailers ≡ phase.Data → 0 < place.need = (λ e. cc) in
    (omega (arith, feed.inside), omega arith, no_data, size_line_taken place content bytes at 0 is_chunk_size_text feed said)

-- the size of a chunk with data
pub size_some : (place : ChunkState) (content bytes : List ℕ) (at n : ℕ)
    → place.phase ≡ phase.Size → IsIndexOfFirstLineFeed bytes most_chunk_size_line_bytes at → chunk_size_of_line (take at bytes) place.left ≡ Ok n → (n ≡ 0 → ⊥)
    → ChunkTokenIsTaken place content bytes content (token.Whole (at + 1) (record place { phase = phase.Data; need = n; left = place.left - n }))
size_some place content bytes at n is_chunk_size_text feed said some =
    let last = in_phase phase.Trailers place.need place.left place.used content [] in
    let next = in_phase phase.Data n (place.left - n) place.used content [] in (
      omega (arith, feed.inside),
      omega arith,
      λ e. omega (arith, some),
      size_line_taken place content bytes at n is_chunk_size_text feed said ∙ ap (λ t. decoder_after_step (cond t (Go last) (Go next)) (decoder_after_bytes [])) (ne_eqb n 0 some),
    )

-- a line that is longer than any size line
long_line : (line : List ℕ) (left : ℕ) → most_chunk_size_line_bytes ≤ length line → chunk_size_of_line line left ≡ Err fault.Chunk
long_line line left long = by_test (ends_in_cr line) (is_chunk_size_text (without_last_byte line)) refl
  where
    by_test : (e t : Bool) → is_chunk_size_text (without_last_byte line) ≡ t
        → cond (e && t) (ok_or (number_if_at_most left (chunk_size_of (without_last_byte line))) fault.TooLarge) (Err fault.Chunk) ≡ Err fault.Chunk
    by_test true true form = absurd (omega (arith, size_short (without_last_byte line) form, length-take (length line - 1) line))
    by_test true false form = refl
    by_test false t form = refl

-- a byte behind such a line
size_past : (s : ChunkDecoder) (line : List ℕ) (b : ℕ) → length line ≡ most_chunk_size_line_bytes → step_in_size_line (decoder_with_phase_and_line s phase.Size line) b ≡ Fail fault.Chunk
size_past s line b long = by_test (b == 10)
  where
    by_test : (t : Bool)
        → cond t (step_after_size_line (decoder_with_phase_and_line s phase.Size line) (chunk_size_of_line line s.left)) (cond (nat_lt (length line) most_chunk_size_line_bytes) (Go (decoder_with_phase_and_line s phase.Size (line ++ b ∷ []))) (Fail fault.Chunk)) ≡ Fail fault.Chunk
    by_test true = ap (step_after_size_line (decoder_with_phase_and_line s phase.Size line)) (long_line line s.left (omega arith))
    by_test false = ap (λ t. cond t (Go (decoder_with_phase_and_line s phase.Size (line ++ b ∷ []))) (Fail fault.Chunk)) (le-ltb (length line) most_chunk_size_line_bytes (omega arith))

-- a line with no LF within the limit
pub size_open : (place : ChunkState) (content bytes : List ℕ) → place.phase ≡ phase.Size → has_no_lf (take most_chunk_size_line_bytes bytes) ≡ true
    → ChunkTokenIsTaken place content bytes content (cond (nat_lt most_chunk_size_line_bytes (length bytes)) (token.Faulty fault.Chunk) token.Incomplete)
size_open place content bytes is_chunk_size_text none = by_test (nat_lt most_chunk_size_line_bytes (length bytes)) refl
  where
    s : ChunkDecoder
    s = in_phase phase.Size place.need place.left place.used content []

    by_test : (t : Bool) → nat_lt most_chunk_size_line_bytes (length bytes) ≡ t → ChunkTokenIsTaken place content bytes content (cond t (token.Faulty fault.Chunk) token.Incomplete)
    by_test true p = λ more.
        let line = take most_chunk_size_line_bytes bytes in
        let b = get_or bytes most_chunk_size_line_bytes 0 in
        let rest = drop (most_chunk_size_line_bytes + 1) bytes ++ more in
        let inside : most_chunk_size_line_bytes < length bytes = ltb-true _ _ p in
        let whole = take_length most_chunk_size_line_bytes bytes (omega arith) in
        ap (chunks_decoded_from_state (bytes ++ more)) (known_phase place content phase.Size is_chunk_size_text)
        ∙ one_more bytes more most_chunk_size_line_bytes s (decoder_with_phase_and_line s phase.Size line) b inside refl (size_text s [] line none (omega arith))
        ∙ ap (λ t. content_after_step t (chunks_decoded_from_state rest) rest) (size_past s line b whole)
    by_test false p =
        let short : length bytes ≤ most_chunk_size_line_bytes = ltb-false _ _ p in
        let no_lf : has_no_lf bytes ≡ true = ap has_no_lf (sym (take_all most_chunk_size_line_bytes bytes short)) ∙ none in
        (refl, record { leads = part place content bytes phase.Size is_chunk_size_text (size_text s [] bytes no_lf (omega arith)); one_line = no_lf; bounded = omega arith })

-- ---- data

-- some of the data of a chunk
pub data_some : (place : ChunkState) (content bytes : List ℕ) (n : ℕ)
    → place.phase ≡ phase.Data → 0 < n → n ≤ length bytes → n < place.need
    → ChunkTokenIsTaken place content bytes (content ++ take n bytes) (token.Whole n (record place { phase = phase.Data; need = place.need - n }))
data_some place content bytes n is_data some inside few =
    let long = take_length n bytes inside in (
      inside,
      some,
      λ e. omega arith,
      ap (decoder_after_bytes (take n bytes)) (known_phase place content phase.Data is_data)
          ∙ data_part place.need place.left place.used content (take n bytes) (omega arith)
          ∙ ap (λ k. Some (in_phase phase.Data (place.need - k) place.left place.used (content ++ take n bytes) [])) long,
    )

-- all of it
pub data_all : (place : ChunkState) (content bytes : List ℕ) (n : ℕ)
    → place.phase ≡ phase.Data → 0 < n → n ≤ length bytes → n ≡ place.need
    → ChunkTokenIsTaken place content bytes (content ++ take n bytes) (token.Whole n (record place { phase = phase.DataEnd; need = place.need - n }))
data_all place content bytes n is_data some inside same =
    let long = take_length n bytes inside in
    let needed : place.need ≡ length (take n bytes) = sym same ∙ sym long in
    let none : 0 ≡ place.need - n = omega arith in
    let no_data : phase.DataEnd ≡ phase.Data → 0 < place.need - n = (λ e. cc) in (
      inside,
      some,
      no_data,
      ap (decoder_after_bytes (take n bytes)) (known_phase place content phase.Data is_data)
          ∙ ap (λ k. decoder_after_bytes (take n bytes) (in_phase phase.Data k place.left place.used content [])) needed
          ∙ data_run place.left place.used content (take n bytes) (omega arith)
          ∙ ap (λ k. Some (in_phase phase.DataEnd k place.left place.used (content ++ take n bytes) [])) none,
    )

-- ---- trailers

-- the line without its LF
trailer_read : (place : ChunkState) (content bytes : List ℕ) (limit at : ℕ)
    → place.phase ≡ phase.Trailers → limit ≡ most_trailer_bytes - place.used → IsIndexOfFirstLineFeed bytes limit at
    → decoder_after_bytes (take at bytes) (chunk_decoder_with_empty_line place content) ≡ Some (in_phase phase.Trailers place.need place.left place.used content (take at bytes))
trailer_read place content bytes limit at is_trailers is_limit feed =
    let long = take_length at bytes (omega (arith, feed.inside)) in
    ap (decoder_after_bytes (take at bytes)) (known_phase place content phase.Trailers is_trailers)
    ∙ trailer_text place.need place.left place.used content [] (take at bytes) feed.first (omega (arith, feed.below))

-- its LF
trailer_feed : (place : ChunkState) (content bytes : List ℕ) (limit at : ℕ)
    → limit ≡ most_trailer_bytes - place.used → IsIndexOfFirstLineFeed bytes limit at
    → (closed last : Bool) → ends_in_cr (take at bytes) ≡ closed → (length (take at bytes) == 1) ≡ last
    → step_in_trailers (in_phase phase.Trailers place.need place.left place.used content (take at bytes)) 10
    ≡ cond closed (cond last (Stop content) (Go (in_phase phase.Trailers place.need place.left (place.used + at + 1) content []))) (Fail fault.Chunk)
trailer_feed place content bytes limit at is_limit feed closed last is_closed is_last =
    let s = in_phase phase.Trailers place.need place.left place.used content (take at bytes) in
    let next = (λ (n : ℕ). in_phase phase.Trailers place.need place.left (place.used + n + 1) content []) in
    let long = take_length at bytes (omega (arith, feed.inside)) in
    let room : place.used + length (take at bytes) < most_trailer_bytes = omega (arith, feed.below) in
    ap (λ t. cond t (step_after_trailer_line s) (Fail fault.Chunk)) (lt-ltb _ _ room)
    ∙ ap (λ t. cond t (cond (length (take at bytes) == 1) (Stop content) (Go (next (length (take at bytes))))) (Fail fault.Chunk)) is_closed
    ∙ ap (λ t. cond closed (cond t (Stop content) (Go (next (length (take at bytes))))) (Fail fault.Chunk)) is_last
    ∙ ap (λ n. cond closed (cond last (Stop content) (Go (next n))) (Fail fault.Chunk)) long

-- a line that doesn't end in CR
pub trailer_bad : (place : ChunkState) (content bytes : List ℕ) (limit at : ℕ)
    → place.phase ≡ phase.Trailers → limit ≡ most_trailer_bytes - place.used → IsIndexOfFirstLineFeed bytes limit at → ends_in_cr (take at bytes) ≡ false
    → ChunkTokenIsTaken place content bytes content (token.Faulty fault.Chunk)
trailer_bad place content bytes limit at is_trailers is_limit feed other = λ more.
    let s = in_phase phase.Trailers place.need place.left place.used content (take at bytes) in
    let rest = drop (at + 1) bytes ++ more in
    one_more bytes more at (chunk_decoder_with_empty_line place content) s 10 feed.inside feed.here (trailer_read place content bytes limit at is_trailers is_limit feed)
    ∙ ap (λ t. content_after_step t (chunks_decoded_from_state rest) rest) (trailer_feed place content bytes limit at is_limit feed false (length (take at bytes) == 1) other refl)

-- a trailer line
pub trailer_some : (place : ChunkState) (content bytes : List ℕ) (limit at : ℕ)
    → place.phase ≡ phase.Trailers → limit ≡ most_trailer_bytes - place.used → IsIndexOfFirstLineFeed bytes limit at → ends_in_cr (take at bytes) ≡ true → (length (take at bytes) ≡ 1 → ⊥)
    → ChunkTokenIsTaken place content bytes content (token.Whole (at + 1) (record place { used = place.used + at + 1 }))
trailer_some place content bytes limit at is_trailers is_limit feed closed other =
    let s = in_phase phase.Trailers place.need place.left place.used content (take at bytes) in
    let no_data : place.phase ≡ phase.Data → 0 < place.need = (λ is_data. let e : phase.Trailers ≡ phase.Data = sym is_trailers ∙ is_data in cc) in (
      omega (arith, feed.inside),
      omega arith,
      no_data,
      ap (λ l. decoder_after_bytes l (chunk_decoder_with_empty_line place content)) (line_with_feed bytes limit at feed)
          ∙ state_behind (take at bytes) (10 ∷ []) (chunk_decoder_with_empty_line place content) s (trailer_read place content bytes limit at is_trailers is_limit feed)
          ∙ ap (λ t. decoder_after_step t (decoder_after_bytes [])) (trailer_feed place content bytes limit at is_limit feed true false closed (ne_eqb (length (take at bytes)) 1 other))
          ∙ ap Some (sym (known_phase (record place { used = place.used + at + 1 }) content phase.Trailers is_trailers)),
    )

-- a byte past the limit
trailer_past : (need left used : ℕ) (content line : List ℕ) (b : ℕ) → most_trailer_bytes ≤ used + length line
    → step_in_trailers (in_phase phase.Trailers need left used content line) b ≡ Fail fault.Chunk
trailer_past need left used content line b over =
    let s = in_phase phase.Trailers need left used content line in
    ap (λ t. cond t (cond (b == 10) (step_after_trailer_line s) (Go (decoder_with_phase_and_line s phase.Trailers (line ++ b ∷ [])))) (Fail fault.Chunk)) (le-ltb (used + length line) most_trailer_bytes over)

-- a line with no LF within the limit
pub trailer_open : (place : ChunkState) (content bytes : List ℕ) (limit : ℕ)
    → place.phase ≡ phase.Trailers → limit ≡ most_trailer_bytes - place.used → has_no_lf (take limit bytes) ≡ true
    → ChunkTokenIsTaken place content bytes content (cond (nat_lt limit (length bytes)) (token.Faulty fault.Chunk) token.Incomplete)
trailer_open place content bytes limit is_trailers is_limit none = by_test (nat_lt limit (length bytes)) refl
  where
    s : List ℕ → ChunkDecoder
    s line = in_phase phase.Trailers place.need place.left place.used content line

    by_test : (t : Bool) → nat_lt limit (length bytes) ≡ t → ChunkTokenIsTaken place content bytes content (cond t (token.Faulty fault.Chunk) token.Incomplete)
    by_test true p = λ more.
        let line = take limit bytes in
        let b = get_or bytes limit 0 in
        let rest = drop (limit + 1) bytes ++ more in
        let inside : limit < length bytes = ltb-true _ _ p in
        let whole = take_length limit bytes (omega arith) in
        ap (chunks_decoded_from_state (bytes ++ more)) (known_phase place content phase.Trailers is_trailers)
        ∙ one_more bytes more limit (s []) (s line) b inside refl (trailer_text place.need place.left place.used content [] line none (omega arith))
        ∙ ap (λ t. content_after_step t (chunks_decoded_from_state rest) rest) (trailer_past place.need place.left place.used content line b (omega arith))
    by_test false p =
        let short : length bytes ≤ limit = ltb-false _ _ p in
        let no_lf : has_no_lf bytes ≡ true = ap has_no_lf (sym (take_all limit bytes short)) ∙ none in (
          refl,
          record {
            leads = part place content bytes phase.Trailers is_trailers (trailer_text place.need place.left place.used content [] bytes no_lf (omega arith));
            one_line = no_lf;
            bounded = omega arith;
          },
        )
