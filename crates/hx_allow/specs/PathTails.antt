-- What is looked at first of a line's path, since it stands beside the line: a path without it doesn't match.
--
-- path_length_and_end_of: the size of a line's path, and its last byte
-- path_may_match_tail: that byte stands there in the asked path
use Rattle.std.specs.Prelude.{ℕ, ◌-◌, ◌==◌, Bool, ◌||◌, if◌then◌else◌, List, length, slice_get, codes, bytes_eq}
use Rattle.std.specs.Prelude.{unwrap_or}
use Rattle.hx_allow.specs.Values.{is_some_and}
use Rattle.hx_allow.specs.declared.path_tails.PathLengthAndLastByte.{PathLengthAndLastByte}

-- `/`, which matches all, has none
abbrev pub path_length_and_end_of : List ℕ → PathLengthAndLastByte
path_length_and_end_of path =
    if bytes_eq path (codes "/") then record { size = 0; last = 0 }
    else record { size = length path; last = unwrap_or (slice_get path (length path - 1)) 0 }

abbrev pub path_may_match_tail : PathLengthAndLastByte → List ℕ → Bool
path_may_match_tail tail asked = (tail.size == 0) || is_some_and (λ b. b == tail.last) (slice_get asked (tail.size - 1))
