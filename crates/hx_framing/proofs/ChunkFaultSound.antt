-- Chunks that are refused deviate from their grammar.
use Rattle.std.proofs.Common.{◌≡◌, ℕ, ◌+◌, ◌-◌, ◌<◌, ◌≤◌, ◌&&◌, ◌⊎◌, Bool, true, false, not, cond, inl, inr, List, [], ◌∷◌, ◌++◌, length, ◌==◌, nat_lt, nat_le, refl, sym, ap, ◌∙◌, subst, arith, Some, None, Result, Ok, Err, ok_or, length-append, append_assoc}
use Rattle.std.proofs.lemmas.Bool.{leb-false, ltb-true, ltb-false, eqb-true, eqb-false}
use Rattle.std.specs.List.{AllByRecursion}
use Rattle.hx_framing.specs.declared.frame_fault.FrameFault.{FrameFault}
use Rattle.hx_framing.specs.declared.frame_fault.FrameFault.TheVariants as fault
use Rattle.hx_framing.specs.declared.contents.chunk_tokens.ChunkPhase.TheVariants as phase
use Rattle.hx_framing.specs.Body.{Bad}
use Rattle.hx_framing.specs.Chunks.{most_trailer_bytes, Go, Stop, Fail, content_after_step, chunks_decoded_from_state, decoded_chunked_content, step_after_size_line, step_after_trailer_line}
use Rattle.hx_framing.specs.SizeLine.{most_chunk_size_line_bytes, is_chunk_size_text, chunk_size_of, chunk_size_of_line, ends_in_cr, without_last_byte, number_if_at_most}
use Rattle.hx_framing.specs.ChunkGrammar.{has_no_lf, ChunkSizeLineSpellsSize, Chunk, IsChunk, chunks_text, data_of_chunks, IsTrailerLine}
use Rattle.hx_framing.specs.ChunkFaults.{cannot_become_crlf, IsSizeLineWithCr, LineEndsInCr, trailer_lines_text_with_rest, trailer_lines_length, ChunkDeviation, NoSize, NoEnd, Large, BadEnd, BadTrailer, LongTrailers, IsBegunTrailerSection, BytesStartWithChunkDeviation, DeviatesFromChunks}
use Rattle.hx_framing.proofs.ChunkSteps.{in_phase, cr_last, cr_off}
use Rattle.hx_framing.proofs.ChunkSound.{no_lf_push, no_lf_take, cr_line, size_says, with_lf}

-- ---- what is ahead

-- a line l that begins chunks, and what follows it
record AtSize (left : ℕ) (l bytes : List ℕ) (f : FrameFault) : Type 0 where
  chunks : List Chunk
  tail : List ℕ
  parts : l ++ bytes ≡ chunks_text chunks tail
  whole : AllByRecursion IsChunk chunks
  fits : length (data_of_chunks chunks) ≤ left
  kind : ChunkDeviation
  breaks : BytesStartWithChunkDeviation left (length (data_of_chunks chunks)) tail kind f

-- what follows data
record OnEnd (left : ℕ) (text : List ℕ) (f : FrameFault) : Type 0 where
  more : List ℕ
  parts : text ≡ 13 ∷ 10 ∷ more
  next : AtSize left [] more f

abbrev AtEnd : ℕ → List ℕ → FrameFault → Type 0
AtEnd left text f = ((f ≡ fault.Chunk) × (cannot_become_crlf text ≡ true)) ⊎ OnEnd left text f

record AtData (need left : ℕ) (bytes : List ℕ) (f : FrameFault) : Type 0 where
  d : List ℕ
  rest : List ℕ
  long : length d ≡ need
  parts : bytes ≡ d ++ rest
  ends : AtEnd left rest f

-- a trailer line that is wrong, or trailers that are too long
abbrev IsWrong : ℕ → List ℕ → List ℕ → Type 0
IsWrong used line rest =
    ((more : List ℕ) × (rest ≡ 10 ∷ more) × ¬ (LineEndsInCr line))
    ⊎ ((b : ℕ) × (more : List ℕ) × (rest ≡ b ∷ more) × (most_trailer_bytes ≤ used + length line))

record AtTrailers (used : ℕ) (l bytes : List ℕ) (f : FrameFault) : Type 0 where
  is : f ≡ fault.Chunk
  lines : List (List ℕ)
  line : List ℕ
  rest : List ℕ
  each : AllByRecursion IsTrailerLine lines
  one_line : has_no_lf line ≡ true
  parts : l ++ bytes ≡ trailer_lines_text_with_rest lines (line ++ rest)
  wrong : IsWrong (used + trailer_lines_length lines) line rest

record Refused (bytes : List ℕ) (f : FrameFault) : Type 0 where
  size : (left : ℕ) (sofar l : List ℕ) → has_no_lf l ≡ true → chunks_decoded_from_state bytes (in_phase phase.Size 0 left 0 sofar l) ≡ Bad f → AtSize left l bytes f
  dat : (need left : ℕ) (sofar : List ℕ) → 0 < need → chunks_decoded_from_state bytes (in_phase phase.Data need left 0 sofar []) ≡ Bad f → AtData need left bytes f
  ends : (left : ℕ) (sofar : List ℕ) → chunks_decoded_from_state bytes (in_phase phase.DataEnd 0 left 0 sofar []) ≡ Bad f → AtEnd left bytes f
  ends_cr : (left : ℕ) (sofar : List ℕ) → chunks_decoded_from_state bytes (in_phase phase.DataEnd 0 left 0 sofar (13 ∷ [])) ≡ Bad f → AtEnd left (13 ∷ bytes) f
  trailers : (left used : ℕ) (sofar l : List ℕ) → has_no_lf l ≡ true → chunks_decoded_from_state bytes (in_phase phase.Trailers 0 left used sofar l) ≡ Bad f → AtTrailers used l bytes f

same_fault : (f g : FrameFault) → Bad f ≡ Bad g → g ≡ f
same_fault f g e = cc

-- the same behind one chunk more
behind_chunk : (left n sum : ℕ) (bytes : List ℕ) (kind : ChunkDeviation) (f : FrameFault) → n ≤ left
    → BytesStartWithChunkDeviation (left - n) sum bytes kind f → BytesStartWithChunkDeviation left (n + sum) bytes kind f
behind_chunk left n sum bytes NoSize f fits breaks = breaks
behind_chunk left n sum bytes NoEnd f fits breaks = breaks
behind_chunk left n sum bytes Large f fits (is, (size, k, rest, parts, text, above)) = (is, (size, k, rest, parts, text, omega (arith, above, fits)))
behind_chunk left n sum bytes BadEnd f fits (is, (chunk, rest, parts, whole, below, ends)) = (is, (chunk, rest, parts, whole, omega (arith, below, fits), ends))
behind_chunk left n sum bytes BadTrailer f fits breaks = breaks
behind_chunk left n sum bytes LongTrailers f fits breaks = breaks

-- ---- a byte of each phase

on_data : (b : ℕ) (bytes : List ℕ) (f : FrameFault) → Refused bytes f → (need left : ℕ) (sofar : List ℕ) → 0 < need
    → chunks_decoded_from_state (b ∷ bytes) (in_phase phase.Data need left 0 sofar []) ≡ Bad f → AtData need left (b ∷ bytes) f
on_data b bytes f later need left sofar some h = by_test (nat_lt 1 need) refl h
  where
    by_test : (t : Bool) → nat_lt 1 need ≡ t → chunks_decoded_from_state bytes (in_phase (cond t phase.Data phase.DataEnd) (need - 1) left 0 (sofar ++ b ∷ []) []) ≡ Bad f
        → AtData need left (b ∷ bytes) f
    by_test true p h =
        let more : 1 < need = ltb-true _ _ p in
        let a = later.dat (need - 1) left (sofar ++ b ∷ []) (omega arith) h in
        record { d = b ∷ a.d; rest = a.rest; long = omega (arith, a.long); parts = ap (λ bs. b ∷ bs) a.parts; ends = a.ends }
    by_test false p h =
        let few : need ≤ 1 = ltb-false _ _ p in
        let none : need - 1 ≡ 0 = omega arith in
        let a = later.ends left (sofar ++ b ∷ []) (subst (λ (n : ℕ). chunks_decoded_from_state bytes (in_phase phase.DataEnd n left 0 (sofar ++ b ∷ []) []) ≡ Bad f) none h) in
        record { d = b ∷ []; rest = bytes; long = omega arith; parts = refl; ends = a }

no_first : (b : ℕ) (bytes : List ℕ) → (b == 13) ≡ false → cannot_become_crlf (b ∷ bytes) ≡ true
no_first b [] p = ap not p
no_first b (c ∷ bytes) p = ap (λ t. not (t && (c == 10))) p

on_end : (b : ℕ) (bytes : List ℕ) (f : FrameFault) → Refused bytes f → (left : ℕ) (sofar : List ℕ)
    → chunks_decoded_from_state (b ∷ bytes) (in_phase phase.DataEnd 0 left 0 sofar []) ≡ Bad f → AtEnd left (b ∷ bytes) f
on_end b bytes f later left sofar h = by_test (b == 13) refl h
  where
    by_test : (t : Bool) → (b == 13) ≡ t → content_after_step (cond t (Go (in_phase phase.DataEnd 0 left 0 sofar (b ∷ []))) (Fail fault.Chunk)) (chunks_decoded_from_state bytes) bytes ≡ Bad f
        → AtEnd left (b ∷ bytes) f
    by_test true p h =
        let is_cr : b ≡ 13 = eqb-true _ _ p in
        let a = later.ends_cr left sofar (subst (λ (x : ℕ). chunks_decoded_from_state bytes (in_phase phase.DataEnd 0 left 0 sofar (x ∷ [])) ≡ Bad f) is_cr h) in
        subst (λ (x : ℕ). AtEnd left (x ∷ bytes) f) (sym is_cr) a
    by_test false p h = inl (same_fault fault.Chunk f h, no_first b bytes p)

on_end_cr : (b : ℕ) (bytes : List ℕ) (f : FrameFault) → Refused bytes f → (left : ℕ) (sofar : List ℕ)
    → chunks_decoded_from_state (b ∷ bytes) (in_phase phase.DataEnd 0 left 0 sofar (13 ∷ [])) ≡ Bad f → AtEnd left (13 ∷ b ∷ bytes) f
on_end_cr b bytes f later left sofar h = by_test (b == 10) refl h
  where
    by_test : (t : Bool) → (b == 10) ≡ t → content_after_step (cond t (Go (in_phase phase.Size 0 left 0 sofar [])) (Fail fault.Chunk)) (chunks_decoded_from_state bytes) bytes ≡ Bad f
        → AtEnd left (13 ∷ b ∷ bytes) f
    by_test true p h = inr (record { more = bytes; parts = ap (λ x. 13 ∷ x ∷ bytes) (eqb-true _ _ p); next = later.size left sofar [] refl h })
    by_test false p h = inl (same_fault fault.Chunk f h, ap not p)

-- a size line that is refused
record IsRefusedSize (l : List ℕ) (left : ℕ) (f : FrameFault) : Type 0 where
  is : ((f ≡ fault.Chunk) × ¬ (IsSizeLineWithCr l)) ⊎ ((f ≡ fault.TooLarge) × (ends_in_cr l ≡ true) × (is_chunk_size_text (without_last_byte l) ≡ true) × (left < chunk_size_of (without_last_byte l)))

size_refused : (l : List ℕ) (left : ℕ) (f : FrameFault) → chunk_size_of_line l left ≡ Err f → IsRefusedSize l left f
size_refused l left f h = by_test (ends_in_cr l) refl (is_chunk_size_text (without_last_byte l)) refl h
  where
    no_line : (e s : Bool) → ends_in_cr l ≡ e → is_chunk_size_text (without_last_byte l) ≡ s → (e && s) ≡ false → IsSizeLineWithCr l → ⊥
    no_line e s p q off line =
        let ends : ends_in_cr l ≡ true = ap ends_in_cr line.ends ∙ cr_last line.text in
        let form : is_chunk_size_text (without_last_byte l) ≡ true = ap (λ k. is_chunk_size_text (without_last_byte k)) line.ends ∙ ap is_chunk_size_text (cr_off line.text) ∙ line.form in
        let on : (e && s) ≡ true = ap (λ t. t && s) (sym p ∙ ends) ∙ sym q ∙ form in
        let both : true ≡ false = sym on ∙ off in cc

    by_size : (k : ℕ) (t : Bool) → nat_le k left ≡ t → ok_or (cond t (Some k) None) fault.TooLarge ≡ Err f → (f ≡ fault.TooLarge) × (left < k)
    by_size k true p h = absurd cc
    by_size k false p h = (cc, leb-false k left p)

    same_error : (g : FrameFault) → ◌≡◌ {A = Result ℕ FrameFault} (Err g) (Err f) → f ≡ g
    same_error g e = cc

    by_test : (e : Bool) → ends_in_cr l ≡ e → (s : Bool) → is_chunk_size_text (without_last_byte l) ≡ s
        → cond (e && s) (ok_or (number_if_at_most left (chunk_size_of (without_last_byte l))) fault.TooLarge) (Err fault.Chunk) ≡ Err f → IsRefusedSize l left f
    by_test true p true q h =
        let large = by_size (chunk_size_of (without_last_byte l)) (nat_le (chunk_size_of (without_last_byte l)) left) refl h in
        record { is = inr (large.0, p, q, large.1) }
    by_test true p false q h = record { is = inl (same_error fault.Chunk h, no_line true false p q refl) }
    by_test false p s q h = record { is = inl (same_error fault.Chunk h, no_line false s p q refl) }

on_size : (b : ℕ) (bytes : List ℕ) (f : FrameFault) → Refused bytes f → (left : ℕ) (sofar l : List ℕ) → has_no_lf l ≡ true
    → chunks_decoded_from_state (b ∷ bytes) (in_phase phase.Size 0 left 0 sofar l) ≡ Bad f → AtSize left l (b ∷ bytes) f
on_size b bytes f later left sofar l none h = by_test (b == 10) refl (nat_lt (length l) most_chunk_size_line_bytes) refl (chunk_size_of_line l left) refl h
  where
    -- the bytes themselves deviate
    here : (kind : ChunkDeviation) → BytesStartWithChunkDeviation left 0 (l ++ b ∷ bytes) kind f → AtSize left l (b ∷ bytes) f
    here kind breaks = record { chunks = []; tail = l ++ b ∷ bytes; parts = refl; whole = tt; fits = omega arith; kind = kind; breaks = breaks }

    text_of : (ends_in_cr l ≡ true) → (is_chunk_size_text (without_last_byte l) ≡ true) → (n : ℕ) → n ≡ chunk_size_of (without_last_byte l) → ChunkSizeLineSpellsSize (without_last_byte l) n
    text_of ends form n is = record { form = form; size = is; one_line = no_lf_take (length l - 1) l none }

    by_refused : b ≡ 10 → (g : FrameFault) → f ≡ g → IsRefusedSize l left g → AtSize left l (b ∷ bytes) f
    by_refused is_lf g same r = by_is r.is
      where
        by_is : ((g ≡ fault.Chunk) × ¬ (IsSizeLineWithCr l)) ⊎ ((g ≡ fault.TooLarge) × (ends_in_cr l ≡ true) × (is_chunk_size_text (without_last_byte l) ≡ true) × (left < chunk_size_of (without_last_byte l)))
            → AtSize left l (b ∷ bytes) f
        by_is (inl x) = here NoSize (same ∙ x.0, (l, bytes, ap (λ c. l ++ c ∷ bytes) is_lf, none, x.1))
        by_is (inr x) = here Large (same ∙ x.0, (without_last_byte l, chunk_size_of (without_last_byte l), bytes, with_lf l bytes b x.1 is_lf, text_of x.1 x.2 (chunk_size_of (without_last_byte l)) refl, omega (arith, x.3)))

    by_end : (n : ℕ) → b ≡ 10 → ends_in_cr l ≡ true → is_chunk_size_text (without_last_byte l) ≡ true → n ≡ chunk_size_of (without_last_byte l) → n ≤ left → 0 < n
        → (d rest : List ℕ) → length d ≡ n → bytes ≡ d ++ rest → AtEnd (left - n) rest f → AtSize left l (b ∷ bytes) f
    by_end n is_lf ends form is fits some d rest long parts (inl x) =
        let chunk : Chunk = record { size = without_last_byte l; bytes = d } in
        here BadEnd (
          x.0,
          (
            chunk,
            rest,
            with_lf l bytes b ends is_lf ∙ ap (λ bs. without_last_byte l ++ 13 ∷ 10 ∷ bs) parts,
            record { size = text_of ends form (length d) (long ∙ is); some = omega (arith, long, some) },
            omega (arith, long, fits),
            x.1,
          ),
        )
    by_end n is_lf ends form is fits some d rest long parts (inr x) =
        let a = x.next in
        let sum : length (d ++ data_of_chunks a.chunks) ≡ n + length (data_of_chunks a.chunks) = length-append d (data_of_chunks a.chunks) ∙ ap (λ k. k + length (data_of_chunks a.chunks)) long in
        record {
          chunks = record { size = without_last_byte l; bytes = d } ∷ a.chunks;
          tail = a.tail;
          parts = with_lf l bytes b ends is_lf
              ∙ ap (λ bs. without_last_byte l ++ 13 ∷ 10 ∷ bs) (parts ∙ ap (λ bs. d ++ bs) (x.parts ∙ ap (λ bs. 13 ∷ 10 ∷ bs) a.parts));
          whole = (record { size = text_of ends form (length d) (long ∙ is); some = omega (arith, long, some) }, a.whole);
          fits = omega (arith, sum, a.fits, fits);
          kind = a.kind;
          breaks = subst (λ (k : ℕ). BytesStartWithChunkDeviation left k a.tail a.kind f) (sym sum)
              (behind_chunk left n (length (data_of_chunks a.chunks)) a.tail a.kind f fits a.breaks);
        }

    by_trailers : b ≡ 10 → ends_in_cr l ≡ true → is_chunk_size_text (without_last_byte l) ≡ true → 0 ≡ chunk_size_of (without_last_byte l) → AtTrailers 0 [] bytes f → AtSize left l (b ∷ bytes) f
    by_trailers is_lf ends form is a = by_wrong a.wrong
      where
        begins : (rest : List ℕ) → a.rest ≡ rest → IsBegunTrailerSection (l ++ b ∷ bytes) a.lines a.line rest
        begins rest same = record {
          last = without_last_byte l;
          size = text_of ends form 0 is;
          each = a.each;
          one_line = a.one_line;
          parts = with_lf l bytes b ends is_lf
              ∙ ap (λ bs. without_last_byte l ++ 13 ∷ 10 ∷ bs) (a.parts ∙ ap (λ r. trailer_lines_text_with_rest a.lines (a.line ++ r)) same);
        }

        by_wrong : IsWrong (0 + trailer_lines_length a.lines) a.line a.rest → AtSize left l (b ∷ bytes) f
        by_wrong (inl x) = here BadTrailer (a.is, (a.lines, a.line, x.0, begins (10 ∷ x.0) x.1, x.2))
        by_wrong (inr x) = here LongTrailers (a.is, (a.lines, a.line, x.0, x.1, begins (x.0 ∷ x.1) x.2, omega (arith, x.3)))

    by_number : (n : ℕ) → chunk_size_of_line l left ≡ Ok n → b ≡ 10 → (z : Bool) → (n == 0) ≡ z
        → content_after_step (cond z (Go (in_phase phase.Trailers 0 left 0 sofar [])) (Go (in_phase phase.Data n (left - n) 0 sofar []))) (chunks_decoded_from_state bytes) bytes ≡ Bad f
        → AtSize left l (b ∷ bytes) f
    by_number n says is_lf true z h =
        let said = size_says l left n says in
        let zero_is : n ≡ 0 = eqb-true _ _ z in
        by_trailers is_lf said.0 said.1 (sym zero_is ∙ said.2) (later.trailers left 0 sofar [] refl h)
    by_number n says is_lf false z h =
        let said = size_says l left n says in
        let apart = eqb-false n 0 z in
        let some : 0 < n = omega arith in
        let a = later.dat n (left - n) sofar some h in
        by_end n is_lf said.0 said.1 said.2 said.3 some a.d a.rest a.long a.parts a.ends

    by_test : (t : Bool) → (b == 10) ≡ t → (u : Bool) → nat_lt (length l) most_chunk_size_line_bytes ≡ u → (r : Result ℕ FrameFault) → chunk_size_of_line l left ≡ r
        → content_after_step (cond t (step_after_size_line (in_phase phase.Size 0 left 0 sofar l) r) (cond u (Go (in_phase phase.Size 0 left 0 sofar (l ++ b ∷ []))) (Fail fault.Chunk))) (chunks_decoded_from_state bytes) bytes ≡ Bad f
        → AtSize left l (b ∷ bytes) f
    by_test true p u q (Ok n) says h = by_number n says (eqb-true _ _ p) (n == 0) refl h
    by_test true p u q (Err g) says h = by_refused (eqb-true _ _ p) g (same_fault g f h) (size_refused l left g says)
    by_test false p true q r says h =
        let a = later.size left sofar (l ++ b ∷ []) (no_lf_push l b none p) h in
        record { chunks = a.chunks; tail = a.tail; parts = sym (append_assoc l (b ∷ []) bytes) ∙ a.parts; whole = a.whole; fits = a.fits; kind = a.kind; breaks = a.breaks }
    by_test false p false q r says h =
        let long : most_chunk_size_line_bytes ≤ length l = ltb-false _ _ q in
        here NoEnd (same_fault fault.Chunk f h, (l ++ b ∷ [], bytes, sym (append_assoc l (b ∷ []) bytes), no_lf_push l b none p, omega (arith, long, length-append l (b ∷ []))))

on_trailers : (b : ℕ) (bytes : List ℕ) (f : FrameFault) → Refused bytes f → (left used : ℕ) (sofar l : List ℕ) → has_no_lf l ≡ true
    → chunks_decoded_from_state (b ∷ bytes) (in_phase phase.Trailers 0 left used sofar l) ≡ Bad f → AtTrailers used l (b ∷ bytes) f
on_trailers b bytes f later left used sofar l none h = by_room (nat_lt (used + length l) most_trailer_bytes) refl h
  where
    by_length : b ≡ 10 → ends_in_cr l ≡ true → (z : Bool) → (length l == 1) ≡ z
        → content_after_step (cond z (Stop sofar) (Go (in_phase phase.Trailers 0 left (used + length l + 1) sofar []))) (chunks_decoded_from_state bytes) bytes ≡ Bad f
        → AtTrailers used l (b ∷ bytes) f
    by_length is_lf e true z h = absurd cc
    by_length is_lf e false z h =
        let apart = eqb-false (length l) 1 z in
        let parts : length l ≡ length (without_last_byte l) + 1 = ap length (cr_line l e) ∙ length-append (without_last_byte l) (13 ∷ []) in
        let some : 0 < length (without_last_byte l) = omega arith in
        let a = later.trailers left (used + length l + 1) sofar [] refl h in
        let sum : used + length l + 1 + trailer_lines_length a.lines ≡ used + (length (without_last_byte l) + 2 + trailer_lines_length a.lines) = omega (arith, parts) in
        record {
          is = a.is;
          lines = without_last_byte l ∷ a.lines;
          line = a.line;
          rest = a.rest;
          each = (record { some = some; one_line = no_lf_take (length l - 1) l none }, a.each);
          one_line = a.one_line;
          parts = with_lf l bytes b e is_lf ∙ ap (λ bs. without_last_byte l ++ 13 ∷ 10 ∷ bs) a.parts;
          wrong = subst (λ (n : ℕ). IsWrong n a.line a.rest) sum a.wrong;
        }

    -- no line is whole
    here : f ≡ fault.Chunk → (line rest : List ℕ) → has_no_lf line ≡ true → l ++ b ∷ bytes ≡ line ++ rest → IsWrong (used + 0) line rest → AtTrailers used l (b ∷ bytes) f
    here is line rest one_line parts wrong = record { is = is; lines = []; line = line; rest = rest; each = tt; one_line = one_line; parts = parts; wrong = wrong }

    by_end : b ≡ 10 → (e : Bool) → ends_in_cr l ≡ e
        → content_after_step (cond e (cond (length l == 1) (Stop sofar) (Go (in_phase phase.Trailers 0 left (used + length l + 1) sofar []))) (Fail fault.Chunk)) (chunks_decoded_from_state bytes) bytes ≡ Bad f
        → AtTrailers used l (b ∷ bytes) f
    by_end is_lf true e h = by_length is_lf e (length l == 1) refl h
    by_end is_lf false e h =
        here (same_fault fault.Chunk f h) l (b ∷ bytes) none refl
        (inl (bytes, ap (λ c. c ∷ bytes) is_lf, λ line. absurd (let both : true ≡ false = sym (ap ends_in_cr line.ends ∙ cr_last line.text) ∙ e in cc)))

    by_lf : (t : Bool) → (b == 10) ≡ t
        → content_after_step (cond t (step_after_trailer_line (in_phase phase.Trailers 0 left used sofar l)) (Go (in_phase phase.Trailers 0 left used sofar (l ++ b ∷ [])))) (chunks_decoded_from_state bytes) bytes ≡ Bad f
        → AtTrailers used l (b ∷ bytes) f
    by_lf true p h = by_end (eqb-true _ _ p) (ends_in_cr l) refl h
    by_lf false p h =
        let a = later.trailers left used sofar (l ++ b ∷ []) (no_lf_push l b none p) h in
        record { is = a.is; lines = a.lines; line = a.line; rest = a.rest; each = a.each; one_line = a.one_line; parts = sym (append_assoc l (b ∷ []) bytes) ∙ a.parts; wrong = a.wrong }

    by_room : (r : Bool) → nat_lt (used + length l) most_trailer_bytes ≡ r
        → content_after_step (cond r (cond (b == 10) (step_after_trailer_line (in_phase phase.Trailers 0 left used sofar l)) (Go (in_phase phase.Trailers 0 left used sofar (l ++ b ∷ [])))) (Fail fault.Chunk)) (chunks_decoded_from_state bytes) bytes ≡ Bad f
        → AtTrailers used l (b ∷ bytes) f
    by_room true p h = by_lf (b == 10) refl h
    by_room false p h =
        let long : most_trailer_bytes ≤ used + length l = ltb-false _ _ p in
        here (same_fault fault.Chunk f h) l (b ∷ bytes) none refl (inr (b, bytes, refl, omega (arith, long)))

refused : (bytes : List ℕ) (f : FrameFault) → Refused bytes f
refused [] f = record { size = λ left sofar l none h. absurd cc; dat = λ need left sofar some h. absurd cc; ends = λ left sofar h. absurd cc; ends_cr = λ left sofar h. absurd cc; trailers = λ left used sofar l none h. absurd cc }
refused (b ∷ bytes) f =
    let later = refused bytes f in
    record { size = on_size b bytes f later; dat = on_data b bytes f later; ends = on_end b bytes f later; ends_cr = on_end_cr b bytes f later; trailers = on_trailers b bytes f later }

-- what is refused deviates
pub refused_breaks : (max_body : ℕ) (bytes : List ℕ) (f : FrameFault) → decoded_chunked_content max_body bytes ≡ Bad f → DeviatesFromChunks max_body bytes f
refused_breaks max_body bytes f h =
    let a = (refused bytes f).size max_body [] [] refl h in
    record { chunks = a.chunks; tail = a.tail; parts = a.parts; whole = a.whole; fits = a.fits; kind = a.kind; breaks = a.breaks }
