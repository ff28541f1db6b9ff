-- The line that decides on a request, itself.
use Rattle.std.specs.Prelude.{ℕ, List, Option, filter}
use Rattle.std.specs.Option.{option_and_then}
use Rattle.hx_target.specs.declared.targets.Target.{Target}
use Rattle.hx_allow.specs.TableLines.{Line}
use Rattle.hx_allow.specs.LineHosts.{any_host_matches}
use Rattle.hx_allow.specs.Matching.{verdict_of, deciding_line_number, line_of_number}

-- the line that the verdict names
abbrev pub deciding_line : List Line → List ℕ → Target → Option Line
deciding_line lines method target = option_and_then (line_of_number lines)
    (deciding_line_number (verdict_of lines method target))

-- the lines without those of other hosts
abbrev pub lines_that_match_host : List ℕ → List Line → List Line
lines_that_match_host host lines = filter (λ (line : Line). any_host_matches line.hosts host) lines
