-- What a reader keeps, whatever its messages are.
use Rattle.std.specs.Prelude.{ℕ, ◌≤◌, Bool, List, length}
use Rattle.hx_framing.specs.declared.readers.progress.ReaderPhase.{ReaderPhase}
use Rattle.hx_framing.specs.declared.readers.progress.ReaderPhase.TheVariants as phase
use Rattle.hx_framing.specs.HeadEnd.{IsUnfinishedHead, most_head_bytes}
use Rattle.hx_framing.specs.Contents.{IsRestOfUnfinishedContent}

-- what contracts see of a reader; H: the heads of its messages
-- to_head: its message answers a HEAD; spare: how many more bytes find room without new memory
pub record ReaderState (H : Type 0) : Type 0 where
  pub max_body : ℕ
  pub to_head : Bool
  pub unread : List ℕ
  pub spare : ℕ
  pub ended : Bool
  pub phase : ReaderPhase H

-- the bytes of the stream that the reader keeps, but for those of a content
abbrev pub kept : {H : Type 0} → ReaderState H → List ℕ
kept s = s.unread

-- what is begun there: a head, or a line of a content or the CRLF behind data; whatever was whole is taken
abbrev pub BytesAreUnfinishedPart : {H : Type 0} → ReaderPhase H → List ℕ → Type 0
BytesAreUnfinishedPart phase.BeforeHead bytes = IsUnfinishedHead bytes
BytesAreUnfinishedPart (phase.InContent head content) bytes = IsRestOfUnfinishedContent content bytes
BytesAreUnfinishedPart phase.Given bytes = ⊥
BytesAreUnfinishedPart (phase.Faulty f) bytes = ⊥

-- no message, head, interim or not, size line, data byte, CRLF behind data or trailer line is whole in what is kept,
-- so it is bounded
pub record KeepsOnlyUnfinished {H : Type 0} (s : ReaderState H) : Type 0 where
  pub begun : BytesAreUnfinishedPart s.phase (kept s)
  pub bounded : length (kept s) ≤ most_head_bytes
