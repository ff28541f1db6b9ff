-- Which hosts a line of the table names.
--
-- labels_of: the labels of a host
-- is_below_host: a host has the labels of another one behind some of its own
-- line_host_of: what a text of the table names
-- line_host_matches: a host of a line matches the asked one
use Rattle.std.specs.Prelude.{ℕ, ◌==◌, Bool, true, false, ◌&&◌, List, [], ◌∷◌, take, drop, codes, bytes_eq}
use Rattle.std.specs.Prelude.{if◌then◌else◌}
use Rattle.std.specs.List.{list_any}
use Rattle.hx_allow.specs.declared.line_hosts.LineHost.{LineHost}
use Rattle.hx_allow.specs.declared.line_hosts.LineHost.TheVariants.{Every, One, Below}

-- a byte in front of the first label
abbrev pub labels_with_byte_in_front : ℕ → List (List ℕ) → List (List ℕ)
labels_with_byte_in_front b [] = (b ∷ []) ∷ []
labels_with_byte_in_front b (label ∷ labels) = (b ∷ label) ∷ labels

-- the labels of a host, which dots join (RFC 1034, section 3.1)
abbrev pub labels_of : List ℕ → List (List ℕ)
labels_of [] = [] ∷ []
labels_of (b ∷ bytes) = if b == 46 then [] ∷ labels_of bytes else labels_with_byte_in_front b (labels_of bytes)

-- what is left of some labels without the first, the first two, and so on
abbrev pub label_suffixes_of : List (List ℕ) → List (List (List ℕ))
label_suffixes_of [] = []
label_suffixes_of (label ∷ labels) = labels ∷ label_suffixes_of labels

-- label by label; both hosts are in lower case, the line's and the target's
abbrev pub labels_are_byte_equal : List (List ℕ) → List (List ℕ) → Bool
labels_are_byte_equal [] [] = true
labels_are_byte_equal (label ∷ labels) (other ∷ others) = bytes_eq label other && labels_are_byte_equal labels others
labels_are_byte_equal _ _ = false

-- the asked host has the labels of the other behind one or more of its own, so it is contained in that
-- domain (RFC 1034, section 3.1)
abbrev pub is_below_host : List ℕ → List ℕ → Bool
is_below_host host asked = list_any (labels_are_byte_equal (labels_of host)) (label_suffixes_of (labels_of asked))

-- `*.`, which a host follows
abbrev pub begins_with_star_dot : List ℕ → Bool
begins_with_star_dot text = bytes_eq (take 2 text) (codes "*.")

-- what a text of the table names: every host, those below one, or one
abbrev pub line_host_of : List ℕ → LineHost
line_host_of text =
    if bytes_eq text (codes "*") then Every
    else if begins_with_star_dot text then Below (drop 2 text)
    else One text

-- ports aren't compared
abbrev pub line_host_matches : LineHost → List ℕ → Bool
line_host_matches Every asked = true
line_host_matches (One host) asked = bytes_eq host asked
line_host_matches (Below host) asked = is_below_host host asked

-- one of some hosts matches
abbrev pub any_host_matches : List LineHost → List ℕ → Bool
any_host_matches hosts asked = list_any (λ host. line_host_matches host asked) hosts

-- the hosts below one are named
abbrev pub is_subdomain_wildcard : LineHost → Bool
is_subdomain_wildcard (Below host) = true
is_subdomain_wildcard _ = false
