-- What a `[[line]]` table says, or its first fault.
use Rattle.std.specs.Prelude.{ℕ, ◌+◌, ◌-◌, ◌==◌, nat_le, Bool, not, ◌&&◌, ◌||◌, List, [], ◌∷◌, length}
use Rattle.std.specs.Prelude.{slice_index, codes, bytes_eq, Option, Some, None, is_none, unwrap_or, if◌then◌else◌}
use Rattle.std.specs.Prelude.{option_map, find, is_some, false, map, drop}
use Rattle.std.specs.Option.{option_and_then}
use Rattle.std.specs.List.{list_any, list_all}
use Rattle.std.specs.Char.{is_ascii_uppercase, is_ascii_lowercase}
use Rattle.http_uri.specs.ByteClasses.{slash, hash_sign, question_mark, left_bracket}
use Rattle.toml.specs.Data.{Data, Items, no_items, item, table, Members, get_member, as_str, as_table}
use Rattle.hx_fields.specs.Tokens.{is_token}
use Rattle.hx_target.specs.Hosts.{is_host}
use Rattle.hx_target.specs.Paths.{has_bad_escape, has_dot_segment, table_path_of}
use Rattle.hx_allow.specs.Addresses.{is_ipv4_and_port, text_if_address}
use Rattle.hx_allow.specs.LineHosts.{begins_with_star_dot, line_host_of}
use Rattle.hx_allow.specs.TableLines.{Line as PlainLine}
use Rattle.hx_allow.specs.LineWords.{key_has_one_of_two_texts, text_of_key_equals, line_has_no_origin, line_caches}
use Rattle.hx_allow.specs.LineWords.{line_purges}
use Rattle.hx_allow.specs.LineWords.{policy_of_line_table, refuses_loops, origin_timeout_seconds}
use Rattle.hx_allow.specs.LineWords.{collapsed_wait_timeout_seconds}
use Rattle.hx_allow.specs.Matching.{method_is_never_allowed}
use Rattle.hx_allow.specs.Purges.{is_purge_key}
use Rattle.hx_allow.specs.Rows.{ValueKind, a_number, some_seconds, one_of, a_host, some_methods, a_path, an_origin}
use Rattle.hx_allow.specs.Rows.{KeyDefinition}
use Rattle.hx_allow.specs.Rows.{some_names, one_of_in_four, one_of_three, a_purge_key, word_row}
use Rattle.hx_allow.specs.Rows.{row_of_line_key, has_keys_of}
use Rattle.hx_allow.specs.Rows.{all_line_keys, fault_of_line_key}
use Rattle.hx_allow.specs.Values.{first_unknown, text_of_key, number_between, is_some_and, count_is_from_1_to}
use Rattle.hx_allow.specs.Values.{all_items_pass}
use Rattle.hx_allow.specs.Values.{texts_of_items, texts_of_key, items_of_key}
use Rattle.hx_allow.specs.declared.values.Scope.TheVariants.{Line}
use Rattle.hx_allow.specs.declared.values.TableVersion.{TableVersion}
use Rattle.hx_allow.specs.declared.values.TableVersion.TheVariants.{Four}
use Rattle.hx_allow.specs.declared.config_faults.TableFault.{TableFault}
use Rattle.hx_allow.specs.declared.config_faults.LineOption.TheVariants.{PurgeKey}
use Rattle.hx_allow.specs.declared.config_faults.BorrowedTableFault.{BorrowedTableFault}
use Rattle.hx_allow.specs.declared.config_faults.BorrowedTableFault.TheVariants as found
use Rattle.hx_allow.specs.declared.config_faults.TableFault.TheVariants.{UnknownKey, MethodInLowerCase, StarInPath}
use Rattle.hx_allow.specs.declared.rows.LineKey.{LineKey}
use Rattle.hx_allow.specs.declared.rows.KeyPlace.{KeyPlace}
use Rattle.hx_allow.specs.declared.rows.KeyPlace.TheVariants.{Needed, Optional, AllowingLine, CachingLine, PurgingLine}

-- a host in lower case
abbrev pub is_host_in_lower_case : List ℕ → Bool
is_host_in_lower_case text = is_host text && not (list_any is_ascii_uppercase text)

-- own: `*.` and a name in lower case that has a letter, so that no address is below it: an address has no labels
-- (RFC 3986, section 3.2.2)
abbrev pub is_subdomain_wildcard_text : List ℕ → Bool
is_subdomain_wildcard_text text =
    begins_with_star_dot text && is_host_in_lower_case (drop 2 text)
    && not (slice_index (drop 2 text) 0 == left_bracket)
    && list_any is_ascii_lowercase (drop 2 text)

-- `*`, a host in lower case, or in the fourth version `*.` and a name
unfoldable pub is_line_host : TableVersion → List ℕ → Bool
is_line_host version text =
    bytes_eq text (codes "*") || is_host_in_lower_case text
    || (has_keys_of version Four && is_subdomain_wildcard_text text)

-- `*`, or a token of at most 15 bytes that a line may name
unfoldable pub is_line_method : List ℕ → Bool
is_line_method text =
    bytes_eq text (codes "*") || (is_token text && nat_le (length text) 15 && not (method_is_never_allowed text))

abbrev pub is_path_byte : ℕ → Bool
is_path_byte b = nat_le 0x21 b && nat_le b 0x7E && not (b == question_mark) && not (b == hash_sign)

abbrev pub is_root_or_ends_without_slash : List ℕ → Bool
is_root_or_ends_without_slash text = (length text == 1) || not (slice_index text (length text - 1) == slash)

-- `/`, or a path that begins with `/` and doesn't end with it, with whole escapes and, as a table path, without dot
-- segments (RFC 3986, sections 2.1, 3.3 and 5.2.4)
unfoldable pub is_line_path : List ℕ → Bool
is_line_path text =
    (slice_index text 0 == slash) && is_root_or_ends_without_slash text && list_all is_path_byte text
    && not (has_bad_escape text)
    && not (has_dot_segment (table_path_of text))

-- `deny`, an address, or in the fourth version `purge`
abbrev pub is_line_origin : TableVersion → List ℕ → Bool
is_line_origin version text =
    bytes_eq text (codes "deny") || is_ipv4_and_port text || (has_keys_of version Four && bytes_eq text (codes "purge"))

-- a token
-- own: no `*` alone, which an operator could take for every name
abbrev pub is_token_but_not_star : List ℕ → Bool
is_token_but_not_star text = is_token text && not (bytes_eq text (codes "*"))

-- a text is one of these, in a table of this version
abbrev pub is_text_of_value_kind : TableVersion → ValueKind → List ℕ → Bool
is_text_of_value_kind version a_host text = is_line_host version text
is_text_of_value_kind version some_methods text = is_line_method text
is_text_of_value_kind version a_path text = is_line_path text
is_text_of_value_kind version an_origin text = is_line_origin version text
is_text_of_value_kind version a_purge_key text = is_purge_key text
is_text_of_value_kind version (some_names most) text = is_token_but_not_star text
is_text_of_value_kind version _ text = false

-- the most texts of a list
abbrev pub most_list_texts : ValueKind → ℕ
most_list_texts (some_names most) = most
most_list_texts _ = 32

-- 1 to so many of these
abbrev pub are_texts_of_kind : TableVersion → ValueKind → Items → Bool
are_texts_of_kind version kind ds =
    count_is_from_1_to (most_list_texts kind) ds
    && all_items_pass (λ d. is_some_and (is_text_of_value_kind version kind) (as_str d)) ds

-- one of these, or in the fourth version a list of 1 to 32
abbrev pub is_text_or_list_of_kind : TableVersion → ValueKind → List ℕ → Members → Bool
is_text_or_list_of_kind version kind key ms =
    is_some_and (is_text_of_value_kind version kind) (text_of_key key ms)
    || (has_keys_of version Four && is_some_and (are_texts_of_kind version kind) (items_of_key key ms))

-- the value of a key is of this kind, of those that stand in a line of a table of this version
abbrev pub value_is_of_kind : TableVersion → ValueKind → List ℕ → Members → Bool
value_is_of_kind version (a_number low high) key ms = is_some (number_between low high (get_member key ms))
value_is_of_kind version (some_seconds low high) key ms = is_some (number_between low high (get_member key ms))
value_is_of_kind version (one_of first second) key ms = key_has_one_of_two_texts key first second ms
value_is_of_kind version (one_of_in_four first second third) key ms =
    key_has_one_of_two_texts key first second ms || (has_keys_of version Four && text_of_key_equals key third ms)
value_is_of_kind version (one_of_three first second third) key ms =
    key_has_one_of_two_texts key first second ms || text_of_key_equals key third ms
value_is_of_kind version a_host key ms = is_text_or_list_of_kind version a_host key ms
value_is_of_kind version some_methods key ms =
    is_some_and (are_texts_of_kind version some_methods) (items_of_key key ms)
value_is_of_kind version a_path key ms = is_text_or_list_of_kind version a_path key ms
value_is_of_kind version an_origin key ms = is_some_and (is_line_origin version) (text_of_key key ms)
value_is_of_kind version a_purge_key key ms = is_some_and is_purge_key (text_of_key key ms)
value_is_of_kind version (some_names most) key ms =
    is_some_and (are_texts_of_kind version (some_names most)) (items_of_key key ms)
value_is_of_kind version _ key ms = false

-- a row's key has a good value in a line that takes it, or needn't stand and doesn't; that of a line that purges has to
-- stand there, and nowhere else
abbrev pub value_is_good_for_key_row : TableVersion → KeyPlace → KeyDefinition → Members → Bool
value_is_good_for_key_row version Needed row ms = value_is_of_kind version row.kind row.key ms
value_is_good_for_key_row version Optional row ms = is_none (get_member row.key ms)
    || value_is_of_kind version row.kind row.key ms
value_is_good_for_key_row version AllowingLine row ms =
    is_none (get_member row.key ms) || (value_is_of_kind version row.kind row.key ms && not (line_has_no_origin ms))
value_is_good_for_key_row version CachingLine row ms =
    is_none (get_member row.key ms) || (value_is_of_kind version row.kind row.key ms && line_caches ms)
value_is_good_for_key_row version PurgingLine row ms =
    if line_purges version ms then value_is_of_kind version row.kind row.key ms else is_none (get_member row.key ms)

abbrev pub line_key_has_good_value : TableVersion → Members → LineKey → Bool
line_key_has_good_value version ms key =
    value_is_good_for_key_row version (row_of_line_key key).place (row_of_line_key key) ms

-- the first key that isn't good, in the order in which they are looked at
abbrev pub first_bad_key : TableVersion → Members → Option LineKey
first_bad_key version ms = find (λ key. not (line_key_has_good_value version ms key)) all_line_keys

abbrev pub first_fault_or_later : Option TableFault → Option TableFault → Option TableFault
first_fault_or_later None later = later
first_fault_or_later (Some fault) later = Some fault

-- a method with a letter in lower case; methods compare with their case (RFC 9110, section 9.1)
abbrev pub has_lowercase_letter : Data → Bool
has_lowercase_letter d = is_some_and (list_any is_ascii_lowercase) (as_str d)

abbrev pub line_has_lowercase_method : Members → Bool
line_has_lowercase_method ms =
    is_some_and (λ ds. not (all_items_pass (λ d. not (has_lowercase_letter d)) ds)) (items_of_key (codes "methods") ms)

-- a `*` in a path, which is that character alone and no pattern
abbrev pub text_has_star : List ℕ → Bool
text_has_star text = list_any (λ b. b == 42) text

abbrev pub is_text_with_star : Data → Bool
is_text_with_star d = is_some_and text_has_star (as_str d)

abbrev pub line_has_path_with_star : Members → Bool
line_has_path_with_star ms =
    is_some_and text_has_star (text_of_key (codes "path") ms)
    || is_some_and (λ ds. not (all_items_pass (λ d. not (is_text_with_star d)) ds)) (items_of_key (codes "path") ms)

-- own: what version 4 refuses of a line whose keys are good, since it is most often meant otherwise
abbrev pub lowercase_or_star_fault : TableVersion → ℕ → Members → Option TableFault
lowercase_or_star_fault Four n ms =
    if line_has_lowercase_method ms then Some (MethodInLowerCase n)
    else if line_has_path_with_star ms then Some (StarInPath n)
    else None
lowercase_or_star_fault _ n ms = None

-- the first fault of the line with this number, in a table of this version
unfoldable pub line_fault : TableVersion → ℕ → Members → Option TableFault
line_fault version n ms = after_keys (first_unknown (Line version) ms)
  where
    after_keys : Option (List ℕ) → Option TableFault
    after_keys (Some key) = Some (UnknownKey key)
    after_keys None =
        first_fault_or_later (option_map (fault_of_line_key n) (first_bad_key version ms))
        (lowercase_or_star_fault version n ms)

-- the line, where it has no fault, in a table of this version; a text alone is a list of one
unfoldable pub line_of_members : TableVersion → Members → PlainLine
line_of_members version ms = record {
  hosts = map line_host_of (texts_of_key (codes "host") ms);
  methods = texts_of_items (unwrap_or (items_of_key (codes "methods") ms) no_items);
  paths = map table_path_of (texts_of_key (codes "path") ms);
  origin = option_and_then text_if_address (text_of_key (codes "origin") ms);
  policy = policy_of_line_table version ms;
  refuses_loops = refuses_loops version ms;
  session_cookies = texts_of_items (unwrap_or (items_of_key (codes "session-cookies") ms) no_items);
  vary = texts_of_items (unwrap_or (items_of_key (codes "vary") ms) no_items);
  origin_timeout = origin_timeout_seconds ms;
  purge_key = text_of_key (word_row PurgeKey).key ms;
  wait_timeout = collapsed_wait_timeout_seconds version ms;
}

abbrev pub fault_of_line_if_table : TableVersion → ℕ → Option Members → Option TableFault
fault_of_line_if_table version n None = None
fault_of_line_if_table version n (Some ms) = line_fault version n ms

-- the first fault among lines of which the first has this number, in a table of this version
abbrev pub first_fault_of_lines : TableVersion → ℕ → Items → Option TableFault
first_fault_of_lines version n no_items = None
first_fault_of_lines version n (item d ds) = first_fault_or_later (fault_of_line_if_table version n (as_table d))
    (first_fault_of_lines version (n + 1) ds)

-- the items of an array of these tables
abbrev pub items_of_tables : List Members → Items
items_of_tables [] = no_items
items_of_tables (ms ∷ more) = item (table ms) (items_of_tables more)

abbrev pub lines_with_line_if_table : TableVersion → Option Members → List PlainLine → List PlainLine
lines_with_line_if_table version None lines = lines
lines_with_line_if_table version (Some ms) lines = line_of_members version ms ∷ lines

-- what the lines say, where they have no fault, in a table of this version
abbrev pub lines_of_tables : TableVersion → Items → List PlainLine
lines_of_tables version no_items = []
lines_of_tables version (item d ds) = lines_with_line_if_table version (as_table d) (lines_of_tables version ds)

-- the fault that was found
abbrev pub table_fault_of_borrowed : BorrowedTableFault → TableFault
table_fault_of_borrowed (found.UnknownKey key) = UnknownKey key.now
table_fault_of_borrowed (found.Other fault) = fault
