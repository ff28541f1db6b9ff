-- Which lines a host can match, kept beside the lines so that a request looks at no others.
--
-- parent_domains_of: the hosts that one is below
-- numbers_of_lines_with_host: the numbers of the lines that have hosts of a kind
-- IsHostIndexOfLines: the index has the lines that name a host, those for the hosts below one, and those for every host
-- verdict_by_line_numbers: the first of some lines that a method and a path match, where nothing before it was found
-- verdict_of_parent_domains: the same of the lines for the hosts below each of some
-- verdict_of_lines_that_pass: the first line that passes a test and that a method and a path match
use Rattle.std.specs.Prelude.{◌≡◌, ℕ, ◌+◌, ◌==◌, ◌<◌, nat_le, Bool, true, false, ◌&&◌, if◌then◌else◌, List, [], ◌∷◌}
use Rattle.std.specs.Prelude.{◌++◌, length, Option, Some, None, bytes_eq, Vec}
use Rattle.std.specs.Option.{option_map_or}
use Rattle.std.specs.List.{list_any}
use Rattle.std.specs.Ordering.{nat_cmp}
use Rattle.std.specs.Cmp.Lexicographic.{slice_cmp}
use Rattle.std.specs.BTreeMap.{BTreeMap, get_by}
use Rattle.std.specs.declared.alloc.Global.{Global}
use Rattle.hx_allow.specs.LineHosts.{any_host_matches}
use Rattle.hx_allow.specs.TableLines.{Line}
use Rattle.hx_allow.specs.Matching.{is_star_or_same, any_path_matches, verdict_of_line, line_of_number}
use Rattle.hx_allow.specs.Matching.{deciding_line_number}
use Rattle.hx_allow.specs.Values.{is_some_and}
use Rattle.hx_allow.specs.declared.host_index.HostIndex.{HostIndex}
use Rattle.hx_allow.specs.declared.line_hosts.LineHost.{LineHost}
use Rattle.hx_allow.specs.declared.line_hosts.LineHost.TheVariants.{Every, One, Below}
use Rattle.hx_allow.specs.declared.verdicts.Verdict.{Verdict}
use Rattle.hx_allow.specs.declared.verdicts.Verdict.TheVariants.{NoLine}

-- what stands behind each dot of a host: the hosts that it is below
abbrev pub parent_domains_of : List ℕ → List (List ℕ)
parent_domains_of [] = []
parent_domains_of (b ∷ bytes) = if b == 46 then bytes ∷ parent_domains_of bytes else parent_domains_of bytes

-- a line's host is this one, those below this one, or every host
abbrev pub line_host_is_exactly : List ℕ → LineHost → Bool
line_host_is_exactly host (One own) = bytes_eq own host
line_host_is_exactly host _ = false

abbrev pub is_wildcard_of : List ℕ → LineHost → Bool
is_wildcard_of host (Below own) = bytes_eq own host
is_wildcard_of host _ = false

abbrev pub is_for_every_host : LineHost → Bool
is_for_every_host Every = true
is_for_every_host _ = false

-- the line has such a host
abbrev pub line_has_host_that_passes : (LineHost → Bool) → Line → Bool
line_has_host_that_passes test line = list_any test line.hosts

-- the line can match this host
abbrev pub line_can_match_host : List ℕ → Line → Bool
line_can_match_host host line = any_host_matches line.hosts host

-- a number for each of these hosts that passes a test
abbrev pub number_repeated_for_hosts : ℕ → (LineHost → Bool) → List LineHost → List ℕ
number_repeated_for_hosts n test [] = []
number_repeated_for_hosts n test (host ∷ hosts) =
    if test host then n ∷ number_repeated_for_hosts n test hosts else number_repeated_for_hosts n test hosts

-- the numbers of the lines that have such hosts, ascending, one for each such host, where the first of the list has
-- this number
abbrev pub numbers_of_lines_with_host_from : ℕ → (LineHost → Bool) → List Line → List ℕ
numbers_of_lines_with_host_from n test [] = []
numbers_of_lines_with_host_from n test
    (line ∷ lines) = number_repeated_for_hosts n test line.hosts ++ numbers_of_lines_with_host_from (n + 1) test lines

-- the same, where lines are counted from 1
abbrev pub numbers_of_lines_with_host : (LineHost → Bool) → List Line → List ℕ
numbers_of_lines_with_host test lines = numbers_of_lines_with_host_from 1 test lines

-- hosts and the numbers of lines, both as the index keeps them
abbrev pub Numbers : Type 0
Numbers = Vec ℕ Global

-- the numbers that are kept for a host
abbrev pub line_numbers_for_host : BTreeMap Numbers Numbers → List ℕ → List ℕ
line_numbers_for_host kept host = option_map_or (λ (numbers : Numbers). numbers.items)
    (get_by (λ key. slice_cmp nat_cmp host key.items) kept) []

-- nothing is kept for a longer host
abbrev pub NoIndexedHostIsLonger : ℕ → BTreeMap Numbers Numbers → Type 0
NoIndexedHostIsLonger longest kept = (host : List ℕ) → longest < length host → line_numbers_for_host kept host ≡ []

-- the index has for each host the numbers of the lines that name it, of those for the hosts below it, and those of the
-- lines for every host
abbrev pub IsHostIndexOfLines : List Line → HostIndex → Type 0
IsHostIndexOfLines lines index =
    ((host : List ℕ) → line_numbers_for_host index.named host
    ≡ numbers_of_lines_with_host (line_host_is_exactly host) lines)
    × ((host : List ℕ) → line_numbers_for_host index.below host
    ≡ numbers_of_lines_with_host (is_wildcard_of host) lines)
    × (index.every.items ≡ numbers_of_lines_with_host is_for_every_host lines) × NoIndexedHostIsLonger index.longest
    index.below

abbrev pub append_number_if : Bool → List ℕ → ℕ → List ℕ
append_number_if belongs numbers n = if belongs then numbers ++ n ∷ [] else numbers

-- the number of a line was put behind those of each of these hosts, and the index has no longer host than it says
abbrev pub LineHostsAreIndexed : List LineHost → ℕ → HostIndex → HostIndex → Type 0
LineHostsAreIndexed hosts n old new =
    ((host : List ℕ) → line_numbers_for_host new.named host
    ≡ line_numbers_for_host old.named host ++ number_repeated_for_hosts n (line_host_is_exactly host) hosts)
    × ((host : List ℕ) → line_numbers_for_host new.below host
    ≡ line_numbers_for_host old.below host ++ number_repeated_for_hosts n (is_wildcard_of host) hosts)
    × (new.every.items ≡ old.every.items ++ number_repeated_for_hosts n is_for_every_host hosts)
    × (NoIndexedHostIsLonger old.longest old.below → NoIndexedHostIsLonger new.longest new.below)

-- the number of a line was put behind those of a host
abbrev pub LineNumberIsIndexedForHost : List ℕ → ℕ → BTreeMap Numbers Numbers → BTreeMap Numbers Numbers → Type 0
LineNumberIsIndexedForHost own n old new =
    (host : List ℕ) → line_numbers_for_host new host
    ≡ append_number_if (bytes_eq own host) (line_numbers_for_host old host) n

-- one of the line's paths and a method match
abbrev pub line_matches_method_and_path : Line → List ℕ → List ℕ → Bool
line_matches_method_and_path line method path =
    any_path_matches line.paths path && list_any (is_star_or_same method) line.methods

-- what the line of a number says where it stands and decides, and else what later lines say
abbrev pub verdict_of_line_or_later : ℕ → Option Line → List ℕ → List ℕ → Verdict → Verdict
verdict_of_line_or_later n None method path later = later
verdict_of_line_or_later n (Some line) method path later = if line_matches_method_and_path line method path
    then verdict_of_line n line else later

-- the line that was found isn't behind the one with this number
abbrev pub verdict_is_at_or_before_line : ℕ → Verdict → Bool
verdict_is_at_or_before_line n found = is_some_and (λ k. nat_le k n) (deciding_line_number found)

-- the first of the lines of these ascending numbers that a method and a path match, or the one that was found where
-- none in front of it does
abbrev pub verdict_by_line_numbers : List Line → List ℕ → List ℕ → List ℕ → Verdict → Verdict
verdict_by_line_numbers lines [] method path found = found
verdict_by_line_numbers lines (n ∷ ns) method path found =
    if verdict_is_at_or_before_line n found then found
    else verdict_of_line_or_later n (line_of_number lines n) method path
    (verdict_by_line_numbers lines ns method path found)

-- the same of the numbers that are kept for each of some hosts, one host after the other
abbrev pub verdict_of_parent_domains : List Line → BTreeMap Numbers Numbers → List (List ℕ) → List ℕ → List ℕ → Verdict
    → Verdict
verdict_of_parent_domains lines kept [] method path found = found
verdict_of_parent_domains lines kept (host ∷ hosts) method path found =
    verdict_of_parent_domains lines kept hosts method path
    (verdict_by_line_numbers lines (line_numbers_for_host kept host) method path found)

-- the first line that passes a test and that a method and a path match, where the first of the list has this number
abbrev pub verdict_of_lines_that_pass : ℕ → (Line → Bool) → List Line → List ℕ → List ℕ → Verdict
verdict_of_lines_that_pass n test [] method path = NoLine
verdict_of_lines_that_pass n test (line ∷ lines) method path =
    if test line && line_matches_method_and_path line method path then verdict_of_line n line
    else verdict_of_lines_that_pass (n + 1) test lines method path
