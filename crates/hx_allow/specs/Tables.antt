-- What a TOML table says as an operator's table, or its first fault.
--
-- table_fault: the first fault that stands      table_of_members: what is said where none stands
-- config_or_fault_of_table: one or the other
-- BytesReadAsTable: the same of bytes, with the reading of TOML as a relation
-- TableWasRead: some text reads as a table
use Rattle.std.specs.Prelude.{◌≡◌, ◌⊎◌, ◌≤◌, ℕ, ◌==◌, nat_le, Bool, true, false, not, ◌&&◌, ◌||◌, if◌then◌else◌, List}
use Rattle.std.specs.Prelude.{[], length, slice_index, find, codes, IsUtf8, Option, Some, None, is_some, is_none}
use Rattle.std.specs.Prelude.{unwrap_or, Result, Ok, Err}
use Rattle.std.specs.Option.{option_and_then}
use Rattle.std.specs.List.{list_all}
use Rattle.std.specs.Char.{is_ascii_lowercase, is_ascii_digit}
use Rattle.toml.specs.Data.{Items, no_items, Members, get_member, as_table}
use Rattle.toml.specs.Parse.{parse_document}
use Rattle.hx_allow.specs.TableLines.{Table}
use Rattle.hx_allow.specs.LineTables.{first_fault_of_lines, lines_of_tables}
use Rattle.hx_allow.specs.Rows.{number_key_row, top_keys, fault_of_top_key}
use Rattle.hx_allow.specs.Values.{first_unknown, text_of_key, number_in, is_some_and, count_is_from_1_to}
use Rattle.hx_allow.specs.Values.{all_items_pass}
use Rattle.hx_allow.specs.Values.{items_of_key}
use Rattle.hx_allow.specs.declared.values.Scope.TheVariants.{Top}
use Rattle.hx_allow.specs.declared.values.TableVersion.{TableVersion}
use Rattle.hx_allow.specs.declared.values.TableVersion.TheVariants.{One, Two, Three, Four}
use Rattle.hx_allow.specs.declared.config_faults.TableFault.{TableFault}
use Rattle.hx_allow.specs.declared.config_faults.TableFault.TheVariants.{NotToml, UnknownKey}
use Rattle.hx_allow.specs.declared.rows.TopKey.{TopKey}
use Rattle.hx_allow.specs.declared.rows.TopKey.TheVariants.{Name, Number, Lines}
use Rattle.hx_allow.specs.declared.config_faults.NumberKey.{NumberKey}
use Rattle.hx_allow.specs.declared.config_faults.NumberKey.TheVariants.{Version, Capacity, MaxBody, MaxStored}
use Rattle.hx_allow.specs.declared.config_faults.NumberKey.TheVariants.{MaxStore}

-- the most lines of a table of a version
abbrev pub most_lines_of_version : TableVersion → ℕ
most_lines_of_version Four = 4096
most_lines_of_version _ = 256

-- a lower-case letter, then at most 31 lower-case letters, digits and `-`
abbrev pub is_name_byte : ℕ → Bool
is_name_byte b = is_ascii_lowercase b || is_ascii_digit b || (b == 45)

unfoldable pub is_name : List ℕ → Bool
is_name text = nat_le (length text) 32 && is_ascii_lowercase (slice_index text 0) && list_all is_name_byte text

abbrev pub number_of_key : NumberKey → Members → Option ℕ
number_of_key key t = number_in (number_key_row key) t

-- the version that the number of `version` names
abbrev pub table_version_of : Members → TableVersion
table_version_of t =
    if is_some_and (λ n. n == 2) (number_of_key Version t) then Two
    else if is_some_and (λ n. n == 3) (number_of_key Version t) then Three
    else if is_some_and (λ n. n == 4) (number_of_key Version t) then Four
    else One

-- an array of tables, of as many as the version has
abbrev pub is_line_table_array : TableVersion → Items → Bool
is_line_table_array version ds = count_is_from_1_to (most_lines_of_version version) ds
    && all_items_pass (λ d. is_some (as_table d)) ds

abbrev pub items_if_line_tables : TableVersion → Items → Option Items
items_if_line_tables version ds = if is_line_table_array version ds then Some ds else None

abbrev pub line_tables_of_toml : Members → Option Items
line_tables_of_toml t = option_and_then (items_if_line_tables (table_version_of t)) (items_of_key (codes "line") t)

-- The bytes of the store aren't bounded, or the bound is within its range and no less than that of one content, which
-- is looked at before it.
-- own: a table whose store would be too small for what it lets be stored is refused ("The store is bounded in bytes")
abbrev pub store_bound_is_good : Members → Bool
store_bound_is_good t =
    is_none (get_member (number_key_row MaxStore).key t)
    || is_some_and (λ most. nat_le (unwrap_or (number_of_key MaxStored t) 0) most) (number_of_key MaxStore t)

abbrev pub top_number_key_has_good_value : Members → NumberKey → Bool
top_number_key_has_good_value t MaxStore = store_bound_is_good t
top_number_key_has_good_value t key = is_some (number_of_key key t)

abbrev pub top_key_has_good_value : Members → TopKey → Bool
top_key_has_good_value t Name = is_some_and is_name (text_of_key (codes "name") t)
top_key_has_good_value t (Number key) = top_number_key_has_good_value t key
top_key_has_good_value t Lines = is_some (line_tables_of_toml t)

-- the first key at the top that is missing or isn't good, in the order in which they are looked at
abbrev pub first_bad_top_key : Members → Option TopKey
first_bad_top_key t = find (λ key. not (top_key_has_good_value t key)) top_keys

-- the first fault of a table, in the order in which they are looked for
unfoldable pub table_fault : Members → Option TableFault
table_fault t = after_keys (first_unknown (Top (table_version_of t)) t)
  where
    after_top : Option TopKey → Option TableFault
    after_top (Some key) = Some (fault_of_top_key key)
    after_top None = first_fault_of_lines (table_version_of t) 1 (unwrap_or (line_tables_of_toml t) no_items)

    after_keys : Option (List ℕ) → Option TableFault
    after_keys (Some key) = Some (UnknownKey key)
    after_keys None = after_top (first_bad_top_key t)

-- what a table says, where it has no fault
unfoldable pub table_of_members : Members → Table
table_of_members t = record {
  name = unwrap_or (text_of_key (codes "name") t) [];
  capacity = unwrap_or (number_of_key Capacity t) 0;
  max_body = unwrap_or (number_of_key MaxBody t) 0;
  max_stored = unwrap_or (number_of_key MaxStored t) 0;
  max_store = number_of_key MaxStore t;
  lines = lines_of_tables (table_version_of t) (unwrap_or (line_tables_of_toml t) no_items);
}

abbrev pub fault_or_table_read : Option TableFault → Members → Result Table TableFault
fault_or_table_read (Some fault) t = Err fault
fault_or_table_read None t = Ok (table_of_members t)

-- the first fault of a table, or what it says
unfoldable pub config_or_fault_of_table : Members → Result Table TableFault
config_or_fault_of_table t = fault_or_table_read (table_fault t) t

-- the bytes are TOML of this table, within the limit
abbrev pub BytesAreToml : List ℕ → Members → Type 0
BytesAreToml bytes t = (length bytes ≤ 1048576) × IsUtf8 bytes × (parse_document bytes ≡ Some t)

-- what the bytes are read as: what their table says, or NotToml where they are none
abbrev pub BytesReadAsTable : List ℕ → Result Table TableFault → Type 0
BytesReadAsTable bytes r =
    ((t : Members) × BytesAreToml bytes t × (r ≡ config_or_fault_of_table t))
    ⊎ (((t : Members) → ¬ (BytesAreToml bytes t)) × (r ≡ Err NotToml))

-- some text is TOML of these members
abbrev pub MembersAreOfSomeToml : Members → Type 0
MembersAreOfSomeToml t = (text : List ℕ) × BytesAreToml text t

-- some text reads as this table
abbrev pub TableWasRead : Table → Type 0
TableWasRead table = (text : List ℕ) × BytesReadAsTable text (Ok table)

-- memory is taken before a fault is told only for the bytes of a key
abbrev pub out_of_memory_may_precede_fault : Option TableFault → Bool
out_of_memory_may_precede_fault None = true
out_of_memory_may_precede_fault (Some (UnknownKey key)) = true
out_of_memory_may_precede_fault (Some _) = false
