-- Contents: bytes that come later, the stream's end, and what is taken of a content.
use Rattle.std.proofs.Common.{◌≡◌, ℕ, ◌<◌, ◌≤◌, Bool, true, false, cond, List, [], ◌++◌, length, drop, take, nat_lt, refl, sym, ap, ◌∙◌, subst, arith, Option, Some, length-append}
use Rattle.std.proofs.lemmas.List.{append-nil, drop-append-le, take-append-le}
use Rattle.std.proofs.lemmas.Bool.{ltb-true, ltb-false, lt-ltb, le-ltb}
use Rattle.hx_framing.specs.declared.frame_fault.FrameFault.{FrameFault}
use Rattle.hx_framing.specs.declared.frame_fault.FrameFault.TheVariants as fault
use Rattle.hx_framing.specs.declared.contents.chunk_tokens.ChunkProgress.{ChunkProgress}
use Rattle.hx_framing.specs.declared.contents.chunk_tokens.ChunkProgress.TheVariants as chunk_progress
use Rattle.hx_framing.specs.declared.contents.content.Content.{Content}
use Rattle.hx_framing.specs.declared.contents.content.Content.TheVariants as content
use Rattle.hx_framing.specs.declared.contents.content.ContentProgress.TheVariants as content_progress
use Rattle.hx_framing.specs.declared.lengths.framing.Framing.{Framing}
use Rattle.hx_framing.specs.declared.lengths.framing.Framing.TheVariants as framing
use Rattle.hx_framing.specs.Body.{ContentParseResult, Short, Bad, Whole, ContentIsWholeOrFaulty, content_result_with_more_bytes}
use Rattle.hx_framing.specs.ChunkDecoder.{ChunkDecoder}
use Rattle.hx_framing.specs.Chunks.{chunks_decoded_from_state, decoder_at_start}
use Rattle.hx_framing.specs.Decoding.{ChunksAreDecoded}
use Rattle.hx_framing.specs.Contents.{content_by_framing, result_of_resumed_content, content_before_first_byte, announced_content, content_until_close, ContentAdvances, IsRestOfUnfinishedContent}
use Rattle.hx_framing.specs.ChunkGrammar.{has_no_lf}
use Rattle.hx_framing.specs.HeadEnd.{most_head_bytes}
use Rattle.hx_framing.specs.Reading.{StreamReadResult, Over, Spelled, reading_of_content, ReadingIsSettled, reading_with_more_bytes}
use Rattle.hx_framing.proofs.ChunkStreams.{chunks_append}

-- ---- a message made of a content

pub body_message : {M : Type 0} (e : Bool) (make : Option (List ℕ) → M) (m : M) (r : List ℕ) (b : ContentParseResult)
    → Spelled m r ≡ reading_of_content e make b → Spelled m r ≡ reading_of_content false make b
body_message true make m r Short x = absurd cc
body_message false make m r Short x = absurd cc
body_message e make m r (Bad f) x = absurd cc
body_message e make m r (Whole c rest) x = x

pub body_ended : {M : Type 0} (make : Option (List ℕ) → M) (r : StreamReadResult M) (b : ContentParseResult) → ReadingIsSettled r
    → r ≡ reading_of_content false make b → r ≡ reading_of_content true make b
body_ended make r Short due x = absurd (subst ReadingIsSettled x due)
body_ended make r (Bad f) due x = x
body_ended make r (Whole c rest) due x = x

pub body_over : {M : Type 0} (e : Bool) (make : Option (List ℕ) → M) (b : ContentParseResult) → Over ≡ reading_of_content e make b → ⊥
body_over true make Short x = cc
body_over false make Short x = cc
body_over e make (Bad f) x = cc
body_over e make (Whole c rest) x = cc

-- what is settled by a content is decided by it
pub settled_decided : {M : Type 0} (make : Option (List ℕ) → M) (b : ContentParseResult) → ReadingIsSettled (reading_of_content false make b) → ContentIsWholeOrFaulty b
settled_decided make Short due = due
settled_decided make (Bad f) due = tt
settled_decided make (Whole c rest) due = tt

pub body_extended : {M : Type 0} (make : Option (List ℕ) → M) (b : ContentParseResult) (w : List ℕ) → ContentIsWholeOrFaulty b
    → reading_of_content false make (content_result_with_more_bytes b w) ≡ reading_with_more_bytes (reading_of_content false make b) w
body_extended make Short w due = absurd due
body_extended make (Bad f) w due = refl
body_extended make (Whole c rest) w due = refl

-- ---- bytes that come later

announced_append : (n : ℕ) (bytes w : List ℕ) → ContentIsWholeOrFaulty (announced_content n bytes)
    → announced_content n (bytes ++ w) ≡ content_result_with_more_bytes (announced_content n bytes) w
announced_append n bytes w due = by_test (nat_lt (length bytes) n) refl due
  where
    by_test : (t : Bool) → nat_lt (length bytes) n ≡ t → ContentIsWholeOrFaulty (cond t Short (Whole (Some (take n bytes)) (drop n bytes)))
        → announced_content n (bytes ++ w) ≡ content_result_with_more_bytes (cond t Short (Whole (Some (take n bytes)) (drop n bytes))) w
    by_test true p due = absurd due
    by_test false p due =
        let enough : n ≤ length bytes = ltb-false _ _ p in
        let still : nat_lt (length (bytes ++ w)) n ≡ false = le-ltb _ _ (omega (arith, length-append bytes w)) in
        rw (still, take-append-le n bytes w enough, drop-append-le n bytes w enough)

closed_append : (max : ℕ) (bytes w : List ℕ) → ContentIsWholeOrFaulty (content_until_close max false bytes)
    → content_until_close max false (bytes ++ w) ≡ content_result_with_more_bytes (content_until_close max false bytes) w
closed_append max bytes w due = by_test (nat_lt max (length bytes)) refl due
  where
    by_test : (t : Bool) → nat_lt max (length bytes) ≡ t → ContentIsWholeOrFaulty (cond t (Bad fault.TooLarge) Short)
        → content_until_close max false (bytes ++ w) ≡ content_result_with_more_bytes (cond t (Bad fault.TooLarge) Short) w
    by_test true p due =
        let above : max < length bytes = ltb-true _ _ p in
        let still : nat_lt max (length (bytes ++ w)) ≡ true = lt-ltb _ _ (omega (arith, length-append bytes w)) in
        rw still
    by_test false p due = absurd due

pub body_append : (max : ℕ) (shown : Framing) (bytes w : List ℕ) → ContentIsWholeOrFaulty (content_by_framing max shown false bytes)
    → content_by_framing max shown false (bytes ++ w) ≡ content_result_with_more_bytes (content_by_framing max shown false bytes) w
body_append max framing.Nothing bytes w due = refl
body_append max (framing.Announced n) bytes w due = announced_append n bytes w due
body_append max framing.Chunked bytes w due = chunks_append bytes w (decoder_at_start max) due
body_append max framing.UntilClose bytes w due = closed_append max bytes w due

-- what is decided before the stream's end is decided so at its end
pub body_stays : (max : ℕ) (shown : Framing) (bytes : List ℕ) → ContentIsWholeOrFaulty (content_by_framing max shown false bytes)
    → content_by_framing max shown false bytes ≡ content_by_framing max shown true bytes
body_stays max framing.Nothing bytes due = refl
body_stays max (framing.Announced n) bytes due = refl
body_stays max framing.Chunked bytes due = refl
body_stays max framing.UntilClose bytes due = by_test (nat_lt max (length bytes)) due
  where
    by_test : (t : Bool) → ContentIsWholeOrFaulty (cond t (Bad fault.TooLarge) Short)
        → cond t (Bad fault.TooLarge) Short ≡ cond t (Bad fault.TooLarge) (Whole (Some bytes) [])
    by_test true due = refl
    by_test false due = absurd due

-- ---- a content that was begun

pub begun_is : (max : ℕ) (shown : Framing) (e : Bool) (bytes : List ℕ) → content_by_framing max shown e bytes ≡ result_of_resumed_content (content_before_first_byte max shown) e bytes
begun_is max framing.Nothing e bytes = refl
begun_is max (framing.Announced n) e bytes = refl
begun_is max framing.Chunked e bytes = refl
begun_is max framing.UntilClose e bytes = refl

-- ---- what a decoder of chunks takes

nothing_more : (bytes : List ℕ) (s : ChunkDecoder) (b : ContentParseResult) → chunks_decoded_from_state (bytes ++ []) s ≡ b → chunks_decoded_from_state bytes s ≡ b
nothing_more bytes s b x = ap (λ u. chunks_decoded_from_state u s) (sym (append-nil bytes)) ∙ x

pub decoded_more : (d : ChunkProgress) (n : ℕ) (old : ChunkDecoder) (bytes : List ℕ) (new : ChunkDecoder) (ended : Bool) → d ≡ chunk_progress.Incomplete n
    → ChunksAreDecoded old bytes new d → ContentAdvances ended bytes (content.Chunked old) (content_progress.Incomplete n) (content.Chunked new)
decoded_more d n old bytes new ended is h =
    let k : ChunksAreDecoded old bytes new (chunk_progress.Incomplete n) = subst (λ (d : ChunkProgress). ChunksAreDecoded old bytes new d) is h in
    (k.0, nothing_more bytes old Short (k.1 [] ∙ ap (λ u. chunks_decoded_from_state u new) (append-nil (drop n bytes)) ∙ k.2), λ more e. k.1 more, k.4)

pub decoded_whole : (d : ChunkProgress) (n : ℕ) (old : ChunkDecoder) (bytes : List ℕ) (mid new : ChunkDecoder) (c : List ℕ) (ended : Bool) → d ≡ chunk_progress.Whole n
    → c ≡ mid.content → ChunksAreDecoded old bytes mid d → ContentAdvances ended bytes (content.Chunked old) (content_progress.Whole (Some c) n) (content.Chunked new)
decoded_whole d n old bytes mid new c ended is same h =
    let k : ChunksAreDecoded old bytes mid (chunk_progress.Whole n) = subst (λ (d : ChunkProgress). ChunksAreDecoded old bytes mid d) is h in
    (k.0, nothing_more bytes old (Whole (Some c) (drop n bytes)) (k.2 [] ∙ ap (λ u. Whole (Some mid.content) u) (append-nil (drop n bytes)) ∙ ap (λ (c : List ℕ). Whole (Some c) (drop n bytes)) (sym same)))

pub decoded_bad : (d : ChunkProgress) (f : FrameFault) (old : ChunkDecoder) (bytes : List ℕ) (new : ChunkDecoder) (ended : Bool) → d ≡ chunk_progress.Faulty f
    → ChunksAreDecoded old bytes new d → ContentAdvances ended bytes (content.Chunked old) (content_progress.Faulty f) (content.Chunked new)
decoded_bad d f old bytes new ended is h =
    let k : ChunksAreDecoded old bytes new (chunk_progress.Faulty f) = subst (λ (d : ChunkProgress). ChunksAreDecoded old bytes new d) is h in
    nothing_more bytes old (Bad f) (k [])

-- ---- what stays unread of a content

pub open_one_line : (c : Content) (bytes : List ℕ) → IsRestOfUnfinishedContent c bytes → has_no_lf bytes ≡ true
open_one_line content.Nothing bytes x = ap has_no_lf x
open_one_line (content.Announced s) bytes x = ap has_no_lf x
open_one_line (content.Chunked chunks) bytes x = x.one_line
open_one_line (content.UntilClose s) bytes x = ap has_no_lf x

pub open_bounded : (c : Content) (bytes : List ℕ) → IsRestOfUnfinishedContent c bytes → length bytes ≤ most_head_bytes
open_bounded content.Nothing bytes x = omega (arith, ap length x)
open_bounded (content.Announced s) bytes x = omega (arith, ap length x)
open_bounded (content.Chunked chunks) bytes x = omega (arith, x.bounded)
open_bounded (content.UntilClose s) bytes x = omega (arith, ap length x)
