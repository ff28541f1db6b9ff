-- What is wrong with a table and what may stand there, in words for the operator.
use Rattle.std.specs.Prelude.{ℕ, List, [], ◌++◌, Option, None, Some, codes, decimal}
use Rattle.hx_allow.specs.declared.config_faults.TableFault.{TableFault}
use Rattle.hx_allow.specs.declared.config_faults.TableFault.TheVariants.{NotToml, UnknownKey, BadName, BadNumber}
use Rattle.hx_allow.specs.declared.config_faults.TableFault.TheVariants.{BadHost}
use Rattle.hx_allow.specs.declared.config_faults.TableFault.TheVariants.{BadMethod, BadPath, BadOrigin, NoLines}
use Rattle.hx_allow.specs.declared.config_faults.TableFault.TheVariants.{OutOfMemory}
use Rattle.hx_allow.specs.declared.config_faults.TableFault.TheVariants.{BadCache, BadWord, MethodInLowerCase}
use Rattle.hx_allow.specs.declared.config_faults.TableFault.TheVariants.{StarInPath}
use Rattle.hx_allow.specs.declared.rows.LineKey.TheVariants.{Host, Methods, Path, Origin, Cache}
use Rattle.hx_allow.specs.declared.rows.KeyPlace.{KeyPlace}
use Rattle.hx_allow.specs.declared.rows.TopKey.TheVariants.{Name}
use Rattle.hx_allow.specs.declared.rows.KeyPlace.TheVariants.{Needed, Optional, AllowingLine, CachingLine, PurgingLine}
use Rattle.hx_allow.specs.Rows.{ValueKind, a_number, some_seconds, a_store_bound, a_version, one_of, a_name, some_lines}
use Rattle.hx_allow.specs.Rows.{some_names, one_of_in_four, one_of_three, a_purge_key}
use Rattle.hx_allow.specs.Rows.{a_host, some_methods, a_path, an_origin}
use Rattle.hx_allow.specs.Rows.{KeyDefinition, number_key_row, row_of_top_key, word_row, row_of_line_key}
use Rattle.hx_allow.specs.Rows.{requirement_of_unknown_key}

-- the line at fault, counted from 1
abbrev pub line_number_of_fault : TableFault → Option ℕ
line_number_of_fault (BadHost line) = Some line
line_number_of_fault (BadMethod line) = Some line
line_number_of_fault (BadPath line) = Some line
line_number_of_fault (BadOrigin line) = Some line
line_number_of_fault (BadCache line) = Some line
line_number_of_fault (BadWord line word) = Some line
line_number_of_fault (MethodInLowerCase line) = Some line
line_number_of_fault (StarInPath line) = Some line
line_number_of_fault _ = None

-- numbers between which one has to be
abbrev pub words_for_number_range : ℕ → ℕ → List ℕ
words_for_number_range low high = decimal low ++ (codes " to " ++ (decimal high ++ codes ", without quotes"))

-- what a value has to be; of the lines it is told without their key
abbrev pub requirement_of_kind : ValueKind → List ℕ
requirement_of_kind (a_number low high) = codes "be a whole number from " ++ words_for_number_range low high
requirement_of_kind (some_seconds low high) = codes "be a whole number of seconds from " ++ words_for_number_range low high
requirement_of_kind (a_store_bound low high) =
    codes "be a whole number from "
    ++ (decimal low ++ (codes " to " ++ (decimal high ++ codes ", without quotes, and no less than max_stored")))
requirement_of_kind a_version = codes "be 1, 2, 3 or 4, without quotes"
requirement_of_kind (one_of first second) = codes "be \"" ++ (first ++ (codes "\" or \"" ++ (second ++ codes "\"")))
requirement_of_kind (one_of_in_four first second third) =
    codes "be \"" ++ (first ++ (codes "\" or \"" ++ (second ++ (codes "\", in version 4 also \"" ++ (third ++ codes "\"")))))
requirement_of_kind (one_of_three first second third) =
    codes "be \"" ++ (first ++ (codes "\", \"" ++ (second ++ (codes "\" or \"" ++ (third ++ codes "\"")))))
requirement_of_kind (some_names most) =
    codes "be a list of 1 to " ++ (decimal most ++ codes " names, each of letters, digits and !#$%&'*+-.^_`|~, but not \"*\"")
requirement_of_kind a_name = codes "be a lower-case letter and at most 31 of a-z, 0-9 and -, in quotes"
requirement_of_kind some_lines = []
requirement_of_kind a_host = codes "be \"*\" or one host in lower case, without a port, an IPv6 address in brackets; in version 4 also \"*.\" and a name for the hosts below it, or a list of 1 to 32 of these"
requirement_of_kind some_methods = codes "be a list of 1 to 32, each \"*\" or a method of at most 15 bytes, but not CONNECT, TRACE or OPTIONS"
requirement_of_kind a_path = codes "begin with / and not to end with it, but for / itself; no ?, #, blank, byte above 7E, segment . or .., or % without two hexadecimal digits behind it; in version 4 also a list of 1 to 32 of these"
requirement_of_kind an_origin = codes "be \"deny\" or an IPv4 address and a port, as in \"127.0.0.1:8081\"; in version 4 also \"purge\""
requirement_of_kind a_purge_key = codes "be 16 to 64 letters and digits, in quotes"

-- where a key may stand
abbrev pub requirement_of_place : KeyPlace → List ℕ
requirement_of_place Needed = []
requirement_of_place Optional = []
requirement_of_place AllowingLine = codes ", and not to stand in a line that denies or purges"
requirement_of_place CachingLine = codes ", in a line that has an origin and its cache on"
requirement_of_place PurgingLine = codes ", in a line with origin = \"purge\" and in no other"

abbrev pub requirement_of_row : KeyDefinition → List ℕ
requirement_of_row row = row.key ++ (codes " has to " ++ (requirement_of_kind row.kind ++ requirement_of_place row.place))

-- the row of the key at fault
abbrev pub key_row_at_fault : TableFault → Option KeyDefinition
key_row_at_fault BadName = Some (row_of_top_key Name)
key_row_at_fault (BadNumber number) = Some (number_key_row number)
key_row_at_fault (BadHost line) = Some (row_of_line_key Host)
key_row_at_fault (BadMethod line) = Some (row_of_line_key Methods)
key_row_at_fault (BadPath line) = Some (row_of_line_key Path)
key_row_at_fault (BadOrigin line) = Some (row_of_line_key Origin)
key_row_at_fault (BadCache line) = Some (row_of_line_key Cache)
key_row_at_fault (BadWord line word) = Some (word_row word)
key_row_at_fault _ = None

-- what has to stand there, of a fault without a row
abbrev pub requirement_without_row : TableFault → List ℕ
requirement_without_row NotToml = codes "the table is no TOML, has a key twice, or has more than 1048576 bytes; look for a quote or bracket that is missing"
requirement_without_row (UnknownKey key) = requirement_of_unknown_key
requirement_without_row NoLines = codes "a table has 1 to 256 lines, or 1 to 4096 in version 4, each of which begins with [[line]]"
requirement_without_row OutOfMemory = codes "no memory is left for the table"
requirement_without_row (MethodInLowerCase line) = codes "a method has a letter in lower case; methods compare with their case, so write GET and not get"
requirement_without_row (StarInPath line) = codes "path has a *, which is that character and no pattern; leave it out: a path matches itself and all below it"
requirement_without_row _ = []

abbrev pub requirement_of_row_or_fault : Option KeyDefinition → TableFault → List ℕ
requirement_of_row_or_fault (Some row) fault = requirement_of_row row
requirement_of_row_or_fault None fault = requirement_without_row fault

-- what has to stand there
abbrev pub requirement_of_fault : TableFault → List ℕ
requirement_of_fault fault = requirement_of_row_or_fault (key_row_at_fault fault) fault

-- the place in the table, where a line is at fault
abbrev pub line_number_prefix_text : Option ℕ → List ℕ
line_number_prefix_text (Some line) = codes "in [[line]] number " ++ (decimal line ++ codes " ")
line_number_prefix_text None = []

abbrev pub fault_text : TableFault → List ℕ
fault_text fault = line_number_prefix_text (line_number_of_fault fault) ++ requirement_of_fault fault
