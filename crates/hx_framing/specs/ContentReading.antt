-- How a reader goes on with a content over bytes that weren't read.
use Rattle.std.specs.Prelude.{◌≡◌, ℕ, ◌<◌, ◌≤◌, ◌++◌, Bool, false, List, Option, length, drop}
use Rattle.hx_framing.specs.declared.contents.content.Content.{Content}
use Rattle.hx_framing.specs.declared.contents.content.ContentProgress.{ContentProgress}
use Rattle.hx_framing.specs.declared.contents.content.ContentProgress.TheVariants as content_progress
use Rattle.hx_framing.specs.Contents.{result_of_resumed_content, ContentAdvances}
use Rattle.hx_framing.specs.Reading.{StreamReadResult, Faulty, reading_of_content}

-- the bytes behind what was taken
abbrev pub bytes_behind_content : ContentProgress → List ℕ → List ℕ
bytes_behind_content (content_progress.Incomplete n) bytes = drop n bytes
bytes_behind_content (content_progress.Faulty f) bytes = bytes
bytes_behind_content (content_progress.Whole c n) bytes = drop n bytes

-- ended: no more bytes come, so that a content that goes on is cut off; closed: they end a content until the close
-- left: the bytes behind what was taken
abbrev pub ContentIsReadFurther : Bool → Bool → List ℕ → Content → ContentProgress → Content → List ℕ → Type 0
ContentIsReadFurther ended closed bytes old (content_progress.Incomplete n) new left =
    (ended ≡ false) × ContentAdvances closed bytes old (content_progress.Incomplete n) new × (left ≡ drop n bytes)
ContentIsReadFurther ended closed bytes old (content_progress.Faulty f) new left =
    (reading_of_content {M = Option (List ℕ)} ended (λ content. content) (result_of_resumed_content old closed bytes)
    ≡ Faulty f)
    × (left ≡ bytes)
ContentIsReadFurther ended closed bytes old (content_progress.Whole c n) new left =
    ContentAdvances closed bytes old (content_progress.Whole c n) new × (left ≡ drop n bytes)

-- an index behind at least one of the bytes, and within them
abbrev pub IsIndexBehindSomeBytes : List ℕ → ℕ → Type 0
IsIndexBehindSomeBytes bytes n = (0 < n) × (n ≤ length bytes)

-- whatever comes, the bytes read as a message with what the unread ones make of its content
-- make: the message; closed: whether a content until the close has ended, by whether the stream has
abbrev pub MessageReadsByResumedContent : {M : Type 0} → (Bool → List ℕ → StreamReadResult M → Type 0)
    → (Option (List ℕ) → M) →
    (Bool → Bool)
    → Content → List ℕ → List ℕ → Type 0
MessageReadsByResumedContent reads make closed content bytes unread = (more : List ℕ) (ended : Bool)
    → reads ended (bytes ++ more) (reading_of_content ended make (result_of_resumed_content content (closed ended)
    (unread ++ more)))
