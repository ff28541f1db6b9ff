-- Lines that are never reached, since one in front takes all that they match.
--
-- line_covers_line: a line matches whatever another one does
-- first_line_covering_line: the first line in front that does
use Rattle.std.specs.Prelude.{ℕ, ◌-◌, Bool, true, false, not, ◌&&◌, ◌||◌, List, take, codes, bytes_eq, Option}
use Rattle.std.specs.Option.{option_and_then}
use Rattle.std.specs.List.{list_any, list_all, position_from}
use Rattle.hx_allow.specs.LineHosts.{is_below_host}
use Rattle.hx_allow.specs.TableLines.{Line}
use Rattle.hx_allow.specs.Matching.{is_star_or_same, is_below_path, line_of_number}
use Rattle.hx_allow.specs.declared.line_hosts.LineHost.{LineHost}
use Rattle.hx_allow.specs.declared.line_hosts.LineHost.TheVariants.{Every, One, Below}

-- each host that the later one names is one of those that the first names
abbrev pub line_host_covers_line_host : LineHost → LineHost → Bool
line_host_covers_line_host Every later = true
line_host_covers_line_host (One host) (One later) = bytes_eq host later
line_host_covers_line_host (Below host) (One later) = is_below_host host later
line_host_covers_line_host (Below host) (Below later) = bytes_eq host later || is_below_host host later
line_host_covers_line_host _ _ = false

abbrev pub hosts_cover_hosts : List LineHost → List LineHost → Bool
hosts_cover_hosts hosts later = list_all (λ host. list_any (λ first. line_host_covers_line_host first host) hosts) later

-- it has `*`, or each method of the other
abbrev pub methods_cover_methods : List (List ℕ) → List (List ℕ) → Bool
methods_cover_methods methods later = list_all (λ text. list_any (is_star_or_same text) methods) later

-- it is `/`, the other's path, or one that this continues
abbrev pub path_covers_path : List ℕ → List ℕ → Bool
path_covers_path path later =
    bytes_eq path (codes "/") || bytes_eq path later || (not (bytes_eq later (codes "/")) && is_below_path path later)

abbrev pub paths_cover_paths : List (List ℕ) → List (List ℕ) → Bool
paths_cover_paths paths later = list_all (λ path. list_any (λ first. path_covers_path first path) paths) later

-- the first line takes each request that the later one would
unfoldable pub line_covers_line : Line → Line → Bool
line_covers_line first later =
    hosts_cover_hosts first.hosts later.hosts && methods_cover_methods first.methods later.methods
    && paths_cover_paths first.paths later.paths

-- the first line in front of the one with this number that takes all of it; lines are counted from 1
abbrev pub first_line_covering_line : List Line → ℕ → Option ℕ
first_line_covering_line lines n =
    option_and_then (λ later. position_from (λ first. line_covers_line first later) 1 (take (n - 1) lines))
    (line_of_number lines n)
