-- The head of an entry in the file of a store: all of it but its content.
--
-- times_spelling, key_spelling, nominated_value_spelling, line_spelling, purge_spelling: its parts
-- head_spelling: the whole       head_spelled_in: the head that bytes spell, if they do
use Rattle.std.specs.Prelude.{ℕ, ◌+◌, ◌-◌, ◌^◌, ◌==◌, nat_lt, zero, suc, if◌then◌else◌, List, [], ◌∷◌, ◌++◌, length}
use Rattle.std.specs.Prelude.{Option, None, Some, option_map}
use Rattle.std.specs.List.{flat_map}
use Rattle.hx_fields.specs.Line.{Field}
use Rattle.hx_target.specs.declared.keys.Key.{Key}
use Rattle.hx_age.specs.declared.moments.Times.{Times}
use Rattle.hx_vary.specs.declared.nominated_values.NominatedValue.{NominatedValue}
use Rattle.hx_store.specs.Stored.{Stored}
use Rattle.proxy_store_file.specs.declared.heads.Head.{Head}
use Rattle.proxy_store_file.specs.Texts.{number_spelling, text_spelling, leading_number, leading_text, cut, after}

abbrev pub times_spelling : Times → List ℕ
times_spelling times =
    number_spelling times.date ++ number_spelling times.age_value ++ number_spelling times.request_time
    ++ number_spelling times.response_time

abbrev pub key_spelling : Key → List ℕ
key_spelling key = number_spelling key.port ++ text_spelling key.host ++ text_spelling key.path_query

-- 0 where there is no value, else its length and one more, and the value
abbrev pub nominated_text_spelling : Option (List ℕ) → List ℕ
nominated_text_spelling None = number_spelling 0
nominated_text_spelling (Some value) = number_spelling (length value + 1) ++ value

abbrev pub nominated_value_spelling : NominatedValue → List ℕ
nominated_value_spelling kept = text_spelling kept.name ++ nominated_text_spelling kept.value

abbrev pub nominated_spelling : List NominatedValue → List ℕ
nominated_spelling values = number_spelling (length values) ++ flat_map nominated_value_spelling values

abbrev pub line_spelling : Field → List ℕ
line_spelling line = text_spelling line.name ++ text_spelling line.value

abbrev pub lines_spelling : List Field → List ℕ
lines_spelling lines = number_spelling (length lines) ++ flat_map line_spelling lines

abbrev pub head_numbers_spelling : Head → List ℕ
head_numbers_spelling head =
    number_spelling head.serial ++ number_spelling head.status ++ number_spelling head.content_length
    ++ times_spelling head.times

-- nothing, or the moment of the purge that expired the response
abbrev pub purge_spelling : Option ℕ → List ℕ
purge_spelling None = []
purge_spelling (Some moment) = number_spelling moment

-- numbers of one length first, then what has its length in front, and last the purge, where there was one
-- own: so a response that no purge expired is spelled as before there were such purges ("A purge in a store's file")
abbrev pub head_spelling : Head → List ℕ
head_spelling head =
    head_numbers_spelling head ++ key_spelling head.key ++ nominated_spelling head.nominated
    ++ lines_spelling head.fields
    ++ purge_spelling head.times.expired

-- the number at the front, where it is below a bound
abbrev pub below : ℕ → ℕ → List ℕ → Option (ℕ × List ℕ)
below bound n rest = if nat_lt n bound then Some (n, rest) else None

abbrev pub leading_number_below : ℕ → List ℕ → Option (ℕ × List ℕ)
leading_number_below bound bytes = after (leading_number bytes) (below bound)

-- the times behind those that were read
abbrev pub times_with_response_and_rest : ℕ → ℕ → ℕ → ℕ → List ℕ → Option (Times × List ℕ)
times_with_response_and_rest date age request response rest =
    Some (
      record { date = date; age_value = age; request_time = request; response_time = response; expired = None },
      rest,
    )

abbrev pub times_read_on_after_request : ℕ → ℕ → ℕ → List ℕ → Option (Times × List ℕ)
times_read_on_after_request date age request rest = after (leading_number rest)
    (times_with_response_and_rest date age request)

abbrev pub times_read_on_after_age : ℕ → ℕ → List ℕ → Option (Times × List ℕ)
times_read_on_after_age date age rest = after (leading_number rest) (times_read_on_after_request date age)

abbrev pub times_read_on_after_date : ℕ → List ℕ → Option (Times × List ℕ)
times_read_on_after_date date rest = after (leading_number_below (2 ^ 32) rest) (times_read_on_after_age date)

abbrev pub leading_times : List ℕ → Option (Times × List ℕ)
leading_times bytes = after (leading_number bytes) times_read_on_after_date

abbrev pub key_with_path_and_rest : ℕ → List ℕ → List ℕ → List ℕ → Option (Key × List ℕ)
key_with_path_and_rest port host path_query rest = Some
    (record { host = host; port = port; path_query = path_query }, rest)

abbrev pub key_read_on_after_host : ℕ → List ℕ → List ℕ → Option (Key × List ℕ)
key_read_on_after_host port host rest = after (leading_text rest) (key_with_path_and_rest port host)

abbrev pub key_read_on_after_port : ℕ → List ℕ → Option (Key × List ℕ)
key_read_on_after_port port rest = after (leading_text rest) (key_read_on_after_host port)

abbrev pub leading_key : List ℕ → Option (Key × List ℕ)
leading_key bytes = after (leading_number_below (2 ^ 16) bytes) key_read_on_after_port

abbrev pub some_value : List ℕ → List ℕ → Option (Option (List ℕ) × List ℕ)
some_value value rest = Some (Some value, rest)

abbrev pub value_after_length : ℕ → List ℕ → Option (Option (List ℕ) × List ℕ)
value_after_length n rest = if n == 0 then Some (None, rest) else after (cut (n - 1) rest) some_value

abbrev pub leading_value : List ℕ → Option (Option (List ℕ) × List ℕ)
leading_value bytes = after (leading_number bytes) value_after_length

abbrev pub nominated_value_and_rest : List ℕ → Option (List ℕ) → List ℕ → Option (NominatedValue × List ℕ)
nominated_value_and_rest name value rest = Some (record { name = name; value = value }, rest)

abbrev pub nominated_value_read_on_after_name : List ℕ → List ℕ → Option (NominatedValue × List ℕ)
nominated_value_read_on_after_name name rest = after (leading_value rest) (nominated_value_and_rest name)

abbrev pub leading_nominated_value : List ℕ → Option (NominatedValue × List ℕ)
leading_nominated_value bytes = after (leading_text bytes) nominated_value_read_on_after_name

-- so many more, behind those that were read
abbrev pub leading_nominated_values_after : List NominatedValue → ℕ → List ℕ → Option (List NominatedValue × List ℕ)
leading_nominated_values_after read zero bytes = Some (read, bytes)
leading_nominated_values_after read (suc n) bytes =
    after (leading_nominated_value bytes) (λ kept rest. leading_nominated_values_after (read ++ kept ∷ []) n rest)

abbrev pub leading_list_of_nominated_values : List ℕ → Option (List NominatedValue × List ℕ)
leading_list_of_nominated_values bytes = after (leading_number bytes) (leading_nominated_values_after [])

abbrev pub field_line_and_rest : List ℕ → List ℕ → List ℕ → Option (Field × List ℕ)
field_line_and_rest name value rest = Some (record { name = name; value = value }, rest)

abbrev pub line_read_on_after_name : List ℕ → List ℕ → Option (Field × List ℕ)
line_read_on_after_name name rest = after (leading_text rest) (field_line_and_rest name)

abbrev pub leading_field_line : List ℕ → Option (Field × List ℕ)
leading_field_line bytes = after (leading_text bytes) line_read_on_after_name

-- so many more, behind those that were read
abbrev pub leading_field_lines_after : List Field → ℕ → List ℕ → Option (List Field × List ℕ)
leading_field_lines_after read zero bytes = Some (read, bytes)
leading_field_lines_after read (suc n) bytes =
    after (leading_field_line bytes) (λ line rest. leading_field_lines_after (read ++ line ∷ []) n rest)

abbrev pub leading_field_lines : List ℕ → Option (List Field × List ℕ)
leading_field_lines bytes = after (leading_number bytes) (leading_field_lines_after [])

-- nothing follows it
abbrev pub whole : {A : Type 0} → A → List ℕ → Option A
whole read rest = if length rest == 0 then Some read else None

-- the times of a head behind whose lines this stands: nothing, or the moment of a purge
abbrev pub times_with_purge_if_at_end : Times → ℕ → List ℕ → Option Times
times_with_purge_if_at_end times moment rest = whole (record times { expired = Some moment }) rest

abbrev pub stored_times_with_purge_if_any : Times → List ℕ → Option Times
stored_times_with_purge_if_any times rest =
    if length rest == 0 then Some times else after (leading_number rest) (times_with_purge_if_at_end times)

-- nothing of a head was read
abbrev pub unread_entry_head : Head
unread_entry_head = record {
  serial = 0;
  status = 0;
  content_length = 0;
  times = record { date = 0; age_value = 0; request_time = 0; response_time = 0; expired = None };
  key = record { host = []; port = 0; path_query = [] };
  nominated = [];
  fields = [];
}

-- the head behind its parts that were read
abbrev pub head_read_on_after_lines : Head → List Field → List ℕ → Option Head
head_read_on_after_lines head fields rest =
    option_map (λ times. record head {
      times = times;
      fields = fields;
    }) (stored_times_with_purge_if_any head.times rest)

abbrev pub head_read_on_after_nominated : Head → List NominatedValue → List ℕ → Option Head
head_read_on_after_nominated head nominated rest =
    after (leading_field_lines rest) (head_read_on_after_lines (record head { nominated = nominated }))

abbrev pub head_read_on_after_key : Head → Key → List ℕ → Option Head
head_read_on_after_key head key rest = after (leading_list_of_nominated_values rest)
    (head_read_on_after_nominated (record head { key = key }))

abbrev pub head_read_on_after_times : Head → Times → List ℕ → Option Head
head_read_on_after_times head times rest = after (leading_key rest)
    (head_read_on_after_key (record head { times = times }))

abbrev pub head_read_on_after_length : Head → ℕ → List ℕ → Option Head
head_read_on_after_length head n rest = after (leading_times rest)
    (head_read_on_after_times (record head { content_length = n }))

abbrev pub head_read_on_after_status : Head → ℕ → List ℕ → Option Head
head_read_on_after_status head status rest =
    after (leading_number rest) (head_read_on_after_length (record head { status = status }))

abbrev pub head_read_on_after_serial : ℕ → List ℕ → Option Head
head_read_on_after_serial serial rest =
    after (leading_number_below (2 ^ 16) rest)
    (head_read_on_after_status (record unread_entry_head { serial = serial }))

unfoldable pub head_spelled_in : List ℕ → Option Head
head_spelled_in bytes = after (leading_number bytes) head_read_on_after_serial

-- an entry without its content, and with it
abbrev pub head_of_entry : Stored → Head
head_of_entry e = record {
  serial = e.serial;
  status = e.status;
  content_length = length e.content;
  times = e.times;
  key = e.key;
  nominated = e.nominated;
  fields = e.fields;
}

abbrev pub stored_with_content : Head → List ℕ → Stored
stored_with_content head content = record {
  serial = head.serial;
  key = head.key;
  nominated = head.nominated;
  status = head.status;
  fields = head.fields;
  content = content;
  times = head.times;
}
