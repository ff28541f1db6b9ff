-- The content behind a head.
use Rattle.std.specs.Prelude.{ℕ, List, ◌++◌, Option}
use Rattle.hx_framing.specs.declared.frame_fault.FrameFault.{FrameFault}

-- it isn't whole yet, a fault, or the content and what follows it; None where there is none
pub data ContentParseResult : Type 0 where
  Short : ContentParseResult
  Bad : FrameFault → ContentParseResult
  Whole : Option (List ℕ) → List ℕ → ContentParseResult

-- it is whole or at fault, whatever follows
abbrev pub ContentIsWholeOrFaulty : ContentParseResult → Type 0
ContentIsWholeOrFaulty Short = ⊥
ContentIsWholeOrFaulty (Bad f) = Unit {0}
ContentIsWholeOrFaulty (Whole content rest) = Unit {0}

-- the same with more bytes behind it
abbrev pub content_result_with_more_bytes : ContentParseResult → List ℕ → ContentParseResult
content_result_with_more_bytes Short more = Short
content_result_with_more_bytes (Bad f) more = Bad f
content_result_with_more_bytes (Whole content rest) more = Whole content (rest ++ more)
