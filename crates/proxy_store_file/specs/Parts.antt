-- What an entry must be, so that it can have been stored. Each part has its range or its grammar.
--
-- first_invalid_part: the first part of an entry that isn't so
use Rattle.std.specs.Prelude.{ℕ, ◌==◌, nat_le, nat_lt, Bool, true, not, ◌&&◌, ◌||◌, if◌then◌else◌, List, length}
use Rattle.std.specs.Prelude.{Option, None, Some, slice_index, bytes_eq}
use Rattle.std.specs.List.{list_all, list_any}
use Rattle.std.specs.Char.{is_ascii_uppercase}
use Rattle.hx_fields.specs.Names.{trimmed}
use Rattle.hx_fields.specs.Tokens.{is_token}
use Rattle.hx_fields.specs.Line.{Field}
use Rattle.hx_target.specs.Hosts.{is_host}
use Rattle.hx_target.specs.declared.keys.Key.{Key}
use Rattle.hx_age.specs.declared.moments.Times.{Times}
use Rattle.hx_vary.specs.declared.nominated_values.NominatedValue.{NominatedValue}
use Rattle.hx_store.specs.Stored.{Stored}
use Rattle.proxy_store_file.specs.declared.store_faults.EntryPart.{EntryPart}
use Rattle.proxy_store_file.specs.declared.store_faults.EntryPart.TheVariants.{Status, Nominated, Lines}
use Rattle.proxy_store_file.specs.declared.store_faults.EntryPart.TheVariants.{Key as KeyPart, Times as TimesPart}

-- The most bytes of a head, and so of each text in it, and the most lines.
-- That is sixteen heads of the greatest length that is read ("The head of an entry is bounded" in docs/DECISIONS_STORE.md).
abbrev pub most_entry_head_bytes : ℕ
most_entry_head_bytes = 524288

-- a final status of three digits (RFC 9110, section 15)
abbrev pub is_three_digit_final_status : ℕ → Bool
is_three_digit_final_status status = nat_le 200 status && nat_le status 999

abbrev pub has_uppercase_letter : List ℕ → Bool
has_uppercase_letter text = list_any is_ascii_uppercase text

-- a host in lower case, a port of 16 bits, and a path with its query (RFC 9112, section 3.2)
abbrev pub is_valid_stored_key : Key → Bool
is_valid_stored_key key = is_host key.host && nat_le (length key.host) 253 && not (has_uppercase_letter key.host)
    && nat_le 1 key.port
    && (slice_index key.path_query 0 == 47) && nat_le (length key.path_query) 8192

-- a moment that a date can tell (RFC 9110, section 5.6.7)
abbrev pub is_valid_moment : ℕ → Bool
is_valid_moment seconds = nat_lt seconds 253402300800

abbrev pub is_valid_moment_if_any : Option ℕ → Bool
is_valid_moment_if_any None = true
is_valid_moment_if_any (Some seconds) = is_valid_moment seconds

-- and an age up to the cap (RFC 9111, section 1.2.2)
abbrev pub are_valid_times : Times → Bool
are_valid_times times = is_valid_moment times.date && is_valid_moment times.request_time
    && is_valid_moment times.response_time
    && nat_le times.age_value 2147483648 && is_valid_moment_if_any times.expired

-- field-vchar = VCHAR / obs-text; SP and HTAB stand between them (RFC 9110, section 5.5)
abbrev pub is_valid_value_byte : ℕ → Bool
is_valid_value_byte b = (b == 9) || (nat_le 32 b && not (b == 127))

abbrev pub are_valid_value_bytes : List ℕ → Bool
are_valid_value_bytes value = nat_le (length value) most_entry_head_bytes && list_all is_valid_value_byte value

abbrev pub is_valid_field_name : List ℕ → Bool
is_valid_field_name name = nat_le (length name) most_entry_head_bytes && is_token name

-- a combined value may begin or end with the blank of a comma
abbrev pub is_valid_nominated_text : Option (List ℕ) → Bool
is_valid_nominated_text None = true
is_valid_nominated_text (Some value) = are_valid_value_bytes value

abbrev pub is_valid_nominated_value : NominatedValue → Bool
is_valid_nominated_value kept = is_valid_field_name kept.name && is_valid_nominated_text kept.value

abbrev pub are_valid_nominated_values : List NominatedValue → Bool
are_valid_nominated_values values = nat_le (length values) most_entry_head_bytes
    && list_all is_valid_nominated_value values

-- field-line = field-name ":" OWS field-value OWS (RFC 9112, section 5)
abbrev pub is_valid_field_line : Field → Bool
is_valid_field_line line = is_valid_field_name line.name && are_valid_value_bytes line.value
    && bytes_eq (trimmed line.value) line.value

abbrev pub are_valid_field_lines : List Field → Bool
are_valid_field_lines lines = nat_le (length lines) most_entry_head_bytes && list_all is_valid_field_line lines

-- the first part that isn't what it must be
unfoldable pub first_invalid_part : Stored → Option EntryPart
first_invalid_part e =
    if not (is_three_digit_final_status e.status) then Some Status
    else if not (are_valid_times e.times) then Some TimesPart
    else if not (is_valid_stored_key e.key) then Some KeyPart
    else if not (are_valid_nominated_values e.nominated) then Some Nominated
    else if not (are_valid_field_lines e.fields) then Some Lines
    else None
