-- The lines that a line with lists stands for.
--
-- line_for_each_host_and_path: a line for each of its hosts with each of its paths
-- lines_split_by_host_and_path: the same of a whole table
use Rattle.std.specs.Prelude.{ℕ, List, [], ◌∷◌, ◌++◌, map, Option}
use Rattle.hx_policy.specs.declared.words.Policy.{Policy}
use Rattle.hx_allow.specs.TableLines.{Line}
use Rattle.hx_allow.specs.declared.line_hosts.LineHost.{LineHost}

-- the line, of this host and this path alone
abbrev pub line_with_host_and_path : Line → LineHost → List ℕ → Line
line_with_host_and_path line host path = record line { hosts = host ∷ []; paths = path ∷ [] }

-- of each of these hosts, in order, with each path of the line, in order
abbrev pub line_for_each_of_hosts : Line → List LineHost → List Line
line_for_each_of_hosts line [] = []
line_for_each_of_hosts line (host ∷ hosts) =
    map (line_with_host_and_path line host) line.paths ++ line_for_each_of_hosts line hosts

abbrev pub line_for_each_host_and_path : Line → List Line
line_for_each_host_and_path line = line_for_each_of_hosts line line.hosts

abbrev pub lines_split_by_host_and_path : List Line → List Line
lines_split_by_host_and_path [] = []
lines_split_by_host_and_path (line ∷ lines) = line_for_each_host_and_path line ++ lines_split_by_host_and_path lines

-- what a line says where it decides: its origin, or that it denies, and what it says of caching
abbrev pub origin_and_policy_of_line : Line → Option (List ℕ) × Policy
origin_and_policy_of_line line = (line.origin, line.policy)
