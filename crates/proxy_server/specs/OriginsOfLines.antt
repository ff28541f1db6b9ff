-- The origins of the lines of a table, in the order of the lines.
use Rattle.std.specs.Prelude.{ℕ, zero, suc, List, [], ◌∷◌, ◌++◌, Option}
use Rattle.std.specs.declared.net.socket_addr.SocketAddrV4.{SocketAddrV4}
use Rattle.hx_allow.specs.Matching.{origin_address_of}
use Rattle.hx_allow.specs.TableLines.{Line}

-- of so many lines, from the first on; a line that denies has none
abbrev pub origins_of_lines : List Line → ℕ → List (Option SocketAddrV4)
origins_of_lines lines zero = []
origins_of_lines lines (suc n) = origins_of_lines lines n ++ origin_address_of lines (suc n) ∷ []
