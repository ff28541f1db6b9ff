-- The lines of a request that go on, told by one test of each line: what `Asking` says in three steps.
use Rattle.std.specs.Prelude.{ℕ, Bool, not, ◌&&◌, List, codes}
use Rattle.hx_fields.specs.Line.{Field}
use Rattle.hx_fields.specs.FieldLines.{is_named}
use Rattle.hx_hop.specs.Stripping.{name_is_among, is_hop_by_hop_name}

-- where these are the members of Connection
abbrev pub line_is_passed_on : List (List ℕ) → Field → Bool
line_is_passed_on named line =
    not (is_named (codes "Host") line) && not (is_named (codes "Expect") line)
    && not (is_hop_by_hop_name line.name) && not (name_is_among named line.name)
