-- The content behind a head (RFC 9112, section 6), whole and as far as a reader has come in it.
--
-- content_by_framing: the content that bytes spell
-- result_of_resumed_content: the rest of one that was begun
-- ContentAdvances: one goes on
-- IsRestOfUnfinishedContent: what stays unread of one that goes on
use Rattle.std.specs.Prelude.{◌≡◌, ℕ, ◌≤◌, ◌++◌, Bool, cond, List, [], length, take, drop, nat_lt, Some, None}
use Rattle.hx_framing.specs.declared.frame_fault.FrameFault.TheVariants as fault
use Rattle.hx_framing.specs.declared.lengths.framing.Framing.{Framing}
use Rattle.hx_framing.specs.declared.lengths.framing.Framing.TheVariants as framing
use Rattle.hx_framing.specs.declared.contents.content.Content.{Content}
use Rattle.hx_framing.specs.declared.contents.content.Content.TheVariants as content
use Rattle.hx_framing.specs.declared.contents.content.ContentProgress.{ContentProgress}
use Rattle.hx_framing.specs.declared.contents.content.ContentProgress.TheVariants as content_progress
use Rattle.hx_framing.specs.Body.{ContentParseResult, Short, Bad, Whole}
use Rattle.hx_framing.specs.Chunks.{decoded_chunked_content, chunks_decoded_from_state, decoder_at_start}
use Rattle.hx_framing.specs.ChunkTokens.{IsUnfinishedLine}
use Rattle.hx_framing.specs.PlainContent.{PlainContent, plain_content_not_begun}

-- n bytes (RFC 9112, section 6.2)
abbrev pub announced_content : ℕ → List ℕ → ContentParseResult
announced_content n bytes = cond (nat_lt (length bytes) n) Short (Whole (Some (take n bytes)) (drop n bytes))

-- all bytes until the stream's end (RFC 9112, section 6.3)
-- own: a content of more than max_body bytes is refused
abbrev pub content_until_close : ℕ → Bool → List ℕ → ContentParseResult
content_until_close max_body ended bytes =
    cond (nat_lt max_body (length bytes)) (Bad fault.TooLarge) (cond ended (Whole (Some bytes) []) Short)

-- the content that the bytes behind a head spell; ended: no more of them come
abbrev pub content_by_framing : ℕ → Framing → Bool → List ℕ → ContentParseResult
content_by_framing max_body framing.Nothing ended bytes = Whole None bytes
content_by_framing max_body (framing.Announced n) ended bytes = announced_content n bytes
content_by_framing max_body framing.Chunked ended bytes = decoded_chunked_content max_body bytes
content_by_framing max_body framing.UntilClose ended bytes = content_until_close max_body ended bytes

-- a content of which nothing was taken
abbrev pub content_before_first_byte : ℕ → Framing → Content
content_before_first_byte max_body framing.Nothing = content.Nothing
content_before_first_byte max_body (framing.Announced n) = content.Announced (plain_content_not_begun n)
content_before_first_byte max_body framing.Chunked = content.Chunked (decoder_at_start max_body)
content_before_first_byte max_body framing.UntilClose = content.UntilClose (plain_content_not_begun max_body)

-- the rest of n bytes
abbrev pub announced_content_resumed : PlainContent → List ℕ → ContentParseResult
announced_content_resumed s bytes =
    cond (nat_lt (length bytes) s.left) Short (Whole (Some (s.content ++ take s.left bytes)) (drop s.left bytes))

-- the rest of all bytes until the stream's end
abbrev pub content_until_close_resumed : PlainContent → Bool → List ℕ → ContentParseResult
content_until_close_resumed s ended bytes =
    cond (nat_lt s.left (length bytes)) (Bad fault.TooLarge) (cond ended (Whole (Some (s.content ++ bytes)) []) Short)

-- the content whose beginning was taken
abbrev pub result_of_resumed_content : Content → Bool → List ℕ → ContentParseResult
result_of_resumed_content content.Nothing ended bytes = Whole None bytes
result_of_resumed_content (content.Announced s) ended bytes = announced_content_resumed s bytes
result_of_resumed_content
    (content.Chunked decoded_chunked_content) ended bytes = chunks_decoded_from_state bytes decoded_chunked_content
result_of_resumed_content (content.UntilClose s) ended bytes = content_until_close_resumed s ended bytes

-- what is left of the bytes where the content goes on: only a line, or the CRLF behind data, waits for the rest of it
abbrev pub IsRestOfUnfinishedContent : Content → List ℕ → Type 0
IsRestOfUnfinishedContent content.Nothing bytes = bytes ≡ []
IsRestOfUnfinishedContent (content.Announced s) bytes = bytes ≡ []
IsRestOfUnfinishedContent (content.Chunked decoded_chunked_content) bytes =
    IsUnfinishedLine decoded_chunked_content bytes
IsRestOfUnfinishedContent (content.UntilClose s) bytes = bytes ≡ []

-- what is found in the bytes of a content: it goes on behind n of them, is at fault, or ends behind n of them
abbrev pub ContentAdvances : Bool → List ℕ → Content → ContentProgress → Content → Type 0
ContentAdvances ended bytes old (content_progress.Incomplete n) new =
    (n ≤ length bytes) × (result_of_resumed_content old ended bytes ≡ Short)
    × ((more : List ℕ) (e : Bool) → result_of_resumed_content old e (bytes ++ more)
    ≡ result_of_resumed_content new e (drop n bytes ++ more))
    × IsRestOfUnfinishedContent new (drop n bytes)
ContentAdvances ended bytes old (content_progress.Faulty f) new = result_of_resumed_content old ended bytes ≡ Bad f
ContentAdvances ended bytes old (content_progress.Whole c n) new =
    (n ≤ length bytes) × (result_of_resumed_content old ended bytes ≡ Whole c (drop n bytes))
