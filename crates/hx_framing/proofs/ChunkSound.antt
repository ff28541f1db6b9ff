-- What is read is printed so.
use Rattle.std.proofs.Common.{◌≡◌, ℕ, zero, suc, ◌+◌, ◌-◌, ◌<◌, ◌≤◌, ◌&&◌, Bool, true, false, not, cond, List, [], ◌∷◌, ◌++◌, length, take, ◌==◌, nat_lt, nat_le, get_or, refl, sym, ap, ◌∙◌, subst, arith, Some, None, Result, Ok, Err, ok_or, length-append, append_assoc}
use Rattle.std.proofs.lemmas.List.{append-nil, take_more, take_all}
use Rattle.std.proofs.lemmas.Bool.{leb-true, ltb-true, ltb-false, eqb-true, eqb-false}
use Rattle.std.specs.List.{AllByRecursion}
use Rattle.hx_framing.specs.declared.frame_fault.FrameFault.{FrameFault}
use Rattle.hx_framing.specs.declared.frame_fault.FrameFault.TheVariants as fault
use Rattle.hx_framing.specs.declared.contents.chunk_tokens.ChunkPhase.TheVariants as phase
use Rattle.hx_framing.specs.Body.{Whole}
use Rattle.hx_framing.specs.Chunks.{most_trailer_bytes, Go, Stop, Fail, content_after_step, chunks_decoded_from_state, decoded_chunked_content, step_after_size_line, step_after_trailer_line}
use Rattle.hx_framing.specs.SizeLine.{most_chunk_size_line_bytes, is_chunk_size_text, chunk_size_of, chunk_size_of_line, ends_in_cr, without_last_byte, number_if_at_most}
use Rattle.hx_framing.specs.ChunkGrammar.{has_no_lf, data_of_chunks, IsTrailerLine, trailer_section_text, trailer_section_length, ChunkedBody, IsChunkedBody, chunked_body_text_with_rest}
use Rattle.hx_framing.proofs.ChunkSteps.{and_parts, in_phase}

-- a line l that begins chunks, and what follows it
record Ahead (left : ℕ) (l bytes sofar c rest : List ℕ) : Type 0 where
  t : ChunkedBody
  is : IsChunkedBody left t
  reads : l ++ bytes ≡ chunked_body_text_with_rest t rest
  gives : c ≡ sofar ++ data_of_chunks t.chunks

record AheadData (need left : ℕ) (bytes sofar c rest : List ℕ) : Type 0 where
  d : List ℕ
  long : length d ≡ need
  t : ChunkedBody
  is : IsChunkedBody left t
  reads : bytes ≡ d ++ 13 ∷ 10 ∷ chunked_body_text_with_rest t rest
  gives : c ≡ sofar ++ (d ++ data_of_chunks t.chunks)

record AheadEnd (left : ℕ) (l bytes sofar c rest : List ℕ) : Type 0 where
  t : ChunkedBody
  is : IsChunkedBody left t
  reads : l ++ bytes ≡ 13 ∷ 10 ∷ chunked_body_text_with_rest t rest
  gives : c ≡ sofar ++ data_of_chunks t.chunks

record AheadTrailers (used : ℕ) (l bytes sofar c rest : List ℕ) : Type 0 where
  ts : List (List ℕ)
  all : AllByRecursion IsTrailerLine ts
  fits : used + trailer_section_length ts ≤ most_trailer_bytes
  reads : l ++ bytes ≡ trailer_section_text ts rest
  gives : c ≡ sofar

record Sound (bytes c rest : List ℕ) : Type 0 where
  size : (left : ℕ) (sofar l : List ℕ) → has_no_lf l ≡ true → chunks_decoded_from_state bytes (in_phase phase.Size 0 left 0 sofar l) ≡ Whole (Some c) rest → Ahead left l bytes sofar c rest
  dat : (need left : ℕ) (sofar : List ℕ) → 0 < need → chunks_decoded_from_state bytes (in_phase phase.Data need left 0 sofar []) ≡ Whole (Some c) rest → AheadData need left bytes sofar c rest
  ends : (left : ℕ) (sofar : List ℕ) → chunks_decoded_from_state bytes (in_phase phase.DataEnd 0 left 0 sofar []) ≡ Whole (Some c) rest → AheadEnd left [] bytes sofar c rest
  ends_cr : (left : ℕ) (sofar : List ℕ) → chunks_decoded_from_state bytes (in_phase phase.DataEnd 0 left 0 sofar (13 ∷ [])) ≡ Whole (Some c) rest → AheadEnd left (13 ∷ []) bytes sofar c rest
  trailers : (left used : ℕ) (sofar l : List ℕ) → has_no_lf l ≡ true → chunks_decoded_from_state bytes (in_phase phase.Trailers 0 left used sofar l) ≡ Whole (Some c) rest → AheadTrailers used l bytes sofar c rest

-- ---- tools

pub no_lf_push : (l : List ℕ) (b : ℕ) → has_no_lf l ≡ true → (b == 10) ≡ false → has_no_lf (l ++ b ∷ []) ≡ true
no_lf_push [] b none other = ap (λ t. not t && true) other
no_lf_push (x ∷ l) b none other =
    let p = and_parts (not (x == 10)) (has_no_lf l) none in
    ap (λ t. t && has_no_lf (l ++ b ∷ [])) p.0 ∙ no_lf_push l b p.1 other

pub no_lf_take : (n : ℕ) (l : List ℕ) → has_no_lf l ≡ true → has_no_lf (take n l) ≡ true
no_lf_take zero l none = refl
no_lf_take (suc n) [] none = refl
no_lf_take (suc n) (x ∷ l) none =
    let p = and_parts (not (x == 10)) (has_no_lf l) none in
    ap (λ t. t && has_no_lf (take n l)) p.0 ∙ no_lf_take n l p.1

-- a line that ends in CR
pub cr_line : (l : List ℕ) → ends_in_cr l ≡ true → l ≡ without_last_byte l ++ 13 ∷ []
cr_line [] e = absurd cc
cr_line (x ∷ xs) e =
    let l = x ∷ xs in
    let inside : length l - 1 < length l = omega arith in
    let whole : length l - 1 + 1 ≡ length l = omega arith in
    let last : get_or l (length l - 1) 0 ≡ 13 = eqb-true _ _ e in
    sym (take_all (length l) l (omega arith)) ∙ ap (λ n. take n l) (sym whole) ∙ take_more l (length l - 1) 0 inside ∙ ap (λ b. without_last_byte l ++ b ∷ []) last

-- what a size that was read says of its line
pub size_says : (l : List ℕ) (left n : ℕ) → chunk_size_of_line l left ≡ Ok n → (ends_in_cr l ≡ true) × (is_chunk_size_text (without_last_byte l) ≡ true) × (n ≡ chunk_size_of (without_last_byte l)) × (n ≤ left)
size_says l left n h = by_test (ends_in_cr l) refl (is_chunk_size_text (without_last_byte l)) refl h
  where
    by_size : (k : ℕ) (t : Bool) → nat_le k left ≡ t → ok_or (cond t (Some k) None) fault.TooLarge ≡ Ok n → (n ≡ k) × (n ≤ left)
    by_size k true p h = let e : n ≡ k = cc in (e, omega (arith, leb-true k left p))
    by_size k false p h = absurd cc

    by_test : (e : Bool) → ends_in_cr l ≡ e → (s : Bool) → is_chunk_size_text (without_last_byte l) ≡ s
        → cond (e && s) (ok_or (number_if_at_most left (chunk_size_of (without_last_byte l))) fault.TooLarge) (Err fault.Chunk) ≡ Ok n
        → (ends_in_cr l ≡ true) × (is_chunk_size_text (without_last_byte l) ≡ true) × (n ≡ chunk_size_of (without_last_byte l)) × (n ≤ left)
    by_test true p true q h = let r = by_size (chunk_size_of (without_last_byte l)) (nat_le (chunk_size_of (without_last_byte l)) left) refl h in (p, q, r.0, r.1)
    by_test true p false q h = absurd cc
    by_test false p s q h = absurd cc

-- ---- a byte of each phase

on_data : (b : ℕ) (bytes c rest : List ℕ) → Sound bytes c rest → (need left : ℕ) (sofar : List ℕ) → 0 < need
    → chunks_decoded_from_state (b ∷ bytes) (in_phase phase.Data need left 0 sofar []) ≡ Whole (Some c) rest → AheadData need left (b ∷ bytes) sofar c rest
on_data b bytes c rest later need left sofar some h = by_test (nat_lt 1 need) refl h
  where
    by_test : (t : Bool) → nat_lt 1 need ≡ t → chunks_decoded_from_state bytes (in_phase (cond t phase.Data phase.DataEnd) (need - 1) left 0 (sofar ++ b ∷ []) []) ≡ Whole (Some c) rest
        → AheadData need left (b ∷ bytes) sofar c rest
    by_test true p h =
        let more : 1 < need = ltb-true _ _ p in
        let a = later.dat (need - 1) left (sofar ++ b ∷ []) (omega arith) h in
        record { d = b ∷ a.d; long = omega (arith, a.long); t = a.t; is = a.is; reads = ap (λ bs. b ∷ bs) a.reads; gives = a.gives ∙ append_assoc sofar (b ∷ []) (a.d ++ data_of_chunks a.t.chunks) }
    by_test false p h =
        let few : need ≤ 1 = ltb-false _ _ p in
        let none : need - 1 ≡ 0 = omega arith in
        let a = later.ends left (sofar ++ b ∷ []) (subst (λ (n : ℕ). chunks_decoded_from_state bytes (in_phase phase.DataEnd n left 0 (sofar ++ b ∷ []) []) ≡ Whole (Some c) rest) none h) in
        record { d = b ∷ []; long = omega arith; t = a.t; is = a.is; reads = ap (λ bs. b ∷ bs) a.reads; gives = a.gives ∙ append_assoc sofar (b ∷ []) (data_of_chunks a.t.chunks) }

on_end : (b : ℕ) (bytes c rest : List ℕ) → Sound bytes c rest → (left : ℕ) (sofar : List ℕ)
    → chunks_decoded_from_state (b ∷ bytes) (in_phase phase.DataEnd 0 left 0 sofar []) ≡ Whole (Some c) rest → AheadEnd left [] (b ∷ bytes) sofar c rest
on_end b bytes c rest later left sofar h = by_test (b == 13) refl h
  where
    by_test : (t : Bool) → (b == 13) ≡ t → content_after_step (cond t (Go (in_phase phase.DataEnd 0 left 0 sofar (b ∷ []))) (Fail fault.Chunk)) (chunks_decoded_from_state bytes) bytes ≡ Whole (Some c) rest
        → AheadEnd left [] (b ∷ bytes) sofar c rest
    by_test true p h =
        let is_cr : b ≡ 13 = eqb-true _ _ p in
        let a = later.ends_cr left sofar (subst (λ (x : ℕ). chunks_decoded_from_state bytes (in_phase phase.DataEnd 0 left 0 sofar (x ∷ [])) ≡ Whole (Some c) rest) is_cr h) in
        record { t = a.t; is = a.is; reads = ap (λ x. x ∷ bytes) is_cr ∙ a.reads; gives = a.gives }
    by_test false p h = absurd cc

on_end_cr : (b : ℕ) (bytes c rest : List ℕ) → Sound bytes c rest → (left : ℕ) (sofar : List ℕ)
    → chunks_decoded_from_state (b ∷ bytes) (in_phase phase.DataEnd 0 left 0 sofar (13 ∷ [])) ≡ Whole (Some c) rest → AheadEnd left (13 ∷ []) (b ∷ bytes) sofar c rest
on_end_cr b bytes c rest later left sofar h = by_test (b == 10) refl h
  where
    by_test : (t : Bool) → (b == 10) ≡ t → content_after_step (cond t (Go (in_phase phase.Size 0 left 0 sofar [])) (Fail fault.Chunk)) (chunks_decoded_from_state bytes) bytes ≡ Whole (Some c) rest
        → AheadEnd left (13 ∷ []) (b ∷ bytes) sofar c rest
    by_test true p h =
        let is_lf : b ≡ 10 = eqb-true _ _ p in
        let a = later.size left sofar [] refl h in
        record { t = a.t; is = a.is; reads = ap (λ x. 13 ∷ x ∷ bytes) is_lf ∙ ap (λ bs. 13 ∷ 10 ∷ bs) a.reads; gives = a.gives }
    by_test false p h = absurd cc

-- a line with its LF
pub with_lf : (l bytes : List ℕ) (b : ℕ) → ends_in_cr l ≡ true → b ≡ 10 → l ++ b ∷ bytes ≡ without_last_byte l ++ 13 ∷ 10 ∷ bytes
with_lf l bytes b e is_lf = ap (λ m. m ++ b ∷ bytes) (cr_line l e) ∙ append_assoc (without_last_byte l) (13 ∷ []) (b ∷ bytes) ∙ ap (λ x. without_last_byte l ++ 13 ∷ x ∷ bytes) is_lf

on_size : (b : ℕ) (bytes c rest : List ℕ) → Sound bytes c rest → (left : ℕ) (sofar l : List ℕ) → has_no_lf l ≡ true
    → chunks_decoded_from_state (b ∷ bytes) (in_phase phase.Size 0 left 0 sofar l) ≡ Whole (Some c) rest → Ahead left l (b ∷ bytes) sofar c rest
on_size b bytes c rest later left sofar l none h = by_test (b == 10) refl (nat_lt (length l) most_chunk_size_line_bytes) (chunk_size_of_line l left) refl h
  where
    by_number : (n : ℕ) → chunk_size_of_line l left ≡ Ok n → b ≡ 10 → (z : Bool) → (n == 0) ≡ z
        → content_after_step (cond z (Go (in_phase phase.Trailers 0 left 0 sofar [])) (Go (in_phase phase.Data n (left - n) 0 sofar []))) (chunks_decoded_from_state bytes) bytes ≡ Whole (Some c) rest
        → Ahead left l (b ∷ bytes) sofar c rest
    by_number n says is_lf true z h =
        let said = size_says l left n says in
        let zero_is : n ≡ 0 = eqb-true _ _ z in
        let a = later.trailers left 0 sofar [] refl h in
        record {
          t = record { chunks = []; last = without_last_byte l; trailers = a.ts };
          is = record {
            chunks = tt;
            last = record { form = said.1; size = sym zero_is ∙ said.2; one_line = no_lf_take (length l - 1) l none };
            trailers = a.all;
            trailers_fit = omega (arith, a.fits);
            content_fits = omega arith;
          };
          reads = with_lf l bytes b said.0 is_lf ∙ ap (λ bs. without_last_byte l ++ 13 ∷ 10 ∷ bs) a.reads;
          gives = a.gives ∙ sym (append-nil sofar);
        }
    by_number n says is_lf false z h =
        let said = size_says l left n says in
        let apart = eqb-false n 0 z in
        let some : 0 < n = omega arith in
        let a = later.dat n (left - n) sofar some h in
        record {
          t = record { chunks = record { size = without_last_byte l; bytes = a.d } ∷ a.t.chunks; last = a.t.last; trailers = a.t.trailers };
          is = record {
            chunks = (record { size = record { form = said.1; size = a.long ∙ said.2; one_line = no_lf_take (length l - 1) l none }; some = omega (arith, a.long) }, a.is.chunks);
            last = a.is.last;
            trailers = a.is.trailers;
            trailers_fit = a.is.trailers_fit;
            content_fits = omega (arith, a.is.content_fits, a.long, said.3, length-append a.d (data_of_chunks a.t.chunks));
          };
          reads = with_lf l bytes b said.0 is_lf ∙ ap (λ bs. without_last_byte l ++ 13 ∷ 10 ∷ bs) a.reads;
          gives = a.gives;
        }

    by_test : (t : Bool) → (b == 10) ≡ t → (u : Bool) → (r : Result ℕ FrameFault) → chunk_size_of_line l left ≡ r
        → content_after_step (cond t (step_after_size_line (in_phase phase.Size 0 left 0 sofar l) r) (cond u (Go (in_phase phase.Size 0 left 0 sofar (l ++ b ∷ []))) (Fail fault.Chunk))) (chunks_decoded_from_state bytes) bytes ≡ Whole (Some c) rest
        → Ahead left l (b ∷ bytes) sofar c rest
    by_test true p u (Ok n) says h = by_number n says (eqb-true _ _ p) (n == 0) refl h
    by_test true p u (Err f) says h = absurd cc
    by_test false p true r says h =
        let a = later.size left sofar (l ++ b ∷ []) (no_lf_push l b none p) h in
        record { t = a.t; is = a.is; reads = sym (append_assoc l (b ∷ []) bytes) ∙ a.reads; gives = a.gives }
    by_test false p false r says h = absurd cc

on_trailers : (b : ℕ) (bytes c rest : List ℕ) → Sound bytes c rest → (left used : ℕ) (sofar l : List ℕ) → has_no_lf l ≡ true
    → chunks_decoded_from_state (b ∷ bytes) (in_phase phase.Trailers 0 left used sofar l) ≡ Whole (Some c) rest → AheadTrailers used l (b ∷ bytes) sofar c rest
on_trailers b bytes c rest later left used sofar l none h = by_room (nat_lt (used + length l) most_trailer_bytes) refl h
  where
    same_end : Whole (Some sofar) bytes ≡ Whole (Some c) rest → (c ≡ sofar) × (bytes ≡ rest)
    same_end e = (cc, cc)

    by_length : used + length l < most_trailer_bytes → b ≡ 10 → ends_in_cr l ≡ true → (z : Bool) → (length l == 1) ≡ z
        → content_after_step (cond z (Stop sofar) (Go (in_phase phase.Trailers 0 left (used + length l + 1) sofar []))) (chunks_decoded_from_state bytes) bytes ≡ Whole (Some c) rest
        → AheadTrailers used l (b ∷ bytes) sofar c rest
    by_length room is_lf e true z h =
        let one : length l ≡ 1 = eqb-true _ _ z in
        let none_left : length l - 1 ≡ 0 = omega arith in
        let same = same_end h in
        record {
          ts = [];
          all = tt;
          fits = omega arith;
          reads = with_lf l bytes b e is_lf ∙ ap (λ n. take n l ++ 13 ∷ 10 ∷ bytes) none_left ∙ ap (λ bs. 13 ∷ 10 ∷ bs) same.1;
          gives = same.0;
        }
    by_length room is_lf e false z h =
        let apart = eqb-false (length l) 1 z in
        let parts : length l ≡ length (without_last_byte l) + 1 = ap length (cr_line l e) ∙ length-append (without_last_byte l) (13 ∷ []) in
        let some : 0 < length (without_last_byte l) = omega arith in
        let a = later.trailers left (used + length l + 1) sofar [] refl h in
        record {
          ts = without_last_byte l ∷ a.ts;
          all = (record { some = some; one_line = no_lf_take (length l - 1) l none }, a.all);
          fits = omega (arith, a.fits, parts);
          reads = with_lf l bytes b e is_lf ∙ ap (λ bs. without_last_byte l ++ 13 ∷ 10 ∷ bs) a.reads;
          gives = a.gives;
        }

    by_end : used + length l < most_trailer_bytes → b ≡ 10 → (e : Bool) → ends_in_cr l ≡ e
        → content_after_step (cond e (cond (length l == 1) (Stop sofar) (Go (in_phase phase.Trailers 0 left (used + length l + 1) sofar []))) (Fail fault.Chunk)) (chunks_decoded_from_state bytes) bytes ≡ Whole (Some c) rest
        → AheadTrailers used l (b ∷ bytes) sofar c rest
    by_end room is_lf true e h = by_length room is_lf e (length l == 1) refl h
    by_end room is_lf false e h = absurd cc

    by_lf : used + length l < most_trailer_bytes → (t : Bool) → (b == 10) ≡ t
        → content_after_step (cond t (step_after_trailer_line (in_phase phase.Trailers 0 left used sofar l)) (Go (in_phase phase.Trailers 0 left used sofar (l ++ b ∷ [])))) (chunks_decoded_from_state bytes) bytes ≡ Whole (Some c) rest
        → AheadTrailers used l (b ∷ bytes) sofar c rest
    by_lf room true p h = by_end room (eqb-true _ _ p) (ends_in_cr l) refl h
    by_lf room false p h =
        let a = later.trailers left used sofar (l ++ b ∷ []) (no_lf_push l b none p) h in
        record { ts = a.ts; all = a.all; fits = a.fits; reads = sym (append_assoc l (b ∷ []) bytes) ∙ a.reads; gives = a.gives }

    by_room : (r : Bool) → nat_lt (used + length l) most_trailer_bytes ≡ r
        → content_after_step (cond r (cond (b == 10) (step_after_trailer_line (in_phase phase.Trailers 0 left used sofar l)) (Go (in_phase phase.Trailers 0 left used sofar (l ++ b ∷ [])))) (Fail fault.Chunk)) (chunks_decoded_from_state bytes) bytes ≡ Whole (Some c) rest
        → AheadTrailers used l (b ∷ bytes) sofar c rest
    by_room true p h = by_lf (ltb-true _ _ p) (b == 10) refl h
    by_room false p h = absurd cc

sound : (bytes c rest : List ℕ) → Sound bytes c rest
sound [] c rest = record { size = λ left sofar l none h. absurd cc; dat = λ need left sofar some h. absurd cc; ends = λ left sofar h. absurd cc; ends_cr = λ left sofar h. absurd cc; trailers = λ left used sofar l none h. absurd cc }
sound (b ∷ bytes) c rest =
    let later = sound bytes c rest in
    record { size = on_size b bytes c rest later; dat = on_data b bytes c rest later; ends = on_end b bytes c rest later; ends_cr = on_end_cr b bytes c rest later; trailers = on_trailers b bytes c rest later }

-- content that is read is printed so
pub read_is_print : (max_body : ℕ) (bytes c rest : List ℕ) → decoded_chunked_content max_body bytes ≡ Whole (Some c) rest
    → (t : ChunkedBody) × IsChunkedBody max_body t × (bytes ≡ chunked_body_text_with_rest t rest) × (c ≡ data_of_chunks t.chunks)
read_is_print max_body bytes c rest h =
    let a = (sound bytes c rest).size max_body [] [] refl h in
    (a.t, a.is, a.reads, a.gives)
