-- What is left of a client's bytes.
use Rattle.std.specs.Prelude.{◌==◌, ℕ, Bool, List, length}

-- no byte is left
abbrev pub has_no_bytes : List ℕ → Bool
has_no_bytes bytes = length bytes == 0
