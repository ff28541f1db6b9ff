-- What is kept of a head: its first line that isn't empty stands for all of it.
--
-- has_no_lf: no line ends in a text
-- RequestLineOfHeadIsKept: what is kept of a head that has come so far      RequestLineIsEmptyAndOver: nothing is kept
-- of
-- it, nor will be
use Rattle.std.specs.Prelude.{◌≡◌, ℕ, ◌==◌, not, Bool, true, false, List, [], ◌++◌}
use Rattle.std.specs.List.{list_all}
use Rattle.proxy_log.specs.Asked.{first_line}
use Rattle.proxy_log.specs.declared.kept_line.RequestLine.{RequestLine}

abbrev pub has_no_lf : List ℕ → Bool
has_no_lf text = list_all (λ b. not (b == 10)) text

-- Whatever comes next, the request line of the head is that of what is kept. That has no LF while the line isn't over,
-- and nothing changes it once it is.
pub record RequestLineOfHeadIsKept (head : List ℕ) (line : RequestLine) : Type 0 where
  pub same : (more : List ℕ) → first_line (head ++ more) ≡ first_line (line.text.items ++ more)
  pub unended : line.is_over ≡ false → has_no_lf line.text.items ≡ true
  pub over : line.is_over ≡ true → (more : List ℕ) → first_line (line.text.items ++ more) ≡ first_line line.text.items

abbrev pub RequestLineIsEmptyAndOver : RequestLine → Type 0
RequestLineIsEmptyAndOver line = (line.text.items ≡ []) × (line.is_over ≡ true)
