-- Which requests purge, over a line that purges, and for which targets.
--
-- is_purge_key: the key of such a line          request_shows_purge_key: a request shows it
-- purge_scope_of_fields: the targets that it is for    has_invalid_purge_field: a request asks for what isn't known
-- here
-- asks_to_purge_with_key: a request purges               is_in_purge_scope: what is held for a key is within what it
-- purges
use Rattle.std.specs.Prelude.{ℕ, ◌==◌, ◌-◌, nat_lt, nat_le, Bool, true, not, ◌&&◌, ◌||◌, List, [], ◌∷◌, length, take}
use Rattle.std.specs.Prelude.{codes}
use Rattle.std.specs.Prelude.{bytes_eq, slice_index, Option, Some, None, is_none, unwrap_or, option_map, if◌then◌else◌}
use Rattle.std.specs.List.{list_any, list_all}
use Rattle.std.specs.Char.{is_ascii_uppercase, is_ascii_lowercase, is_ascii_digit}
use Rattle.hx_fields.specs.Line.{Field}
use Rattle.hx_fields.specs.FieldLines.{has_field, is_named, values_of}
use Rattle.hx_fields.specs.Names.{is_same_name, split_at_first_byte}
use Rattle.hx_target.specs.declared.keys.Key.{Key}
use Rattle.hx_target.specs.Keys.{same_key}
use Rattle.hx_allow.specs.PurgeModes.{purge_mode_of_request}
use Rattle.hx_allow.specs.Tags.{purge_tag_of_request}
use Rattle.hx_allow.specs.declared.purges.PurgeScope.{PurgeScope}
use Rattle.hx_allow.specs.declared.purges.PurgeScope.TheVariants.{Target, Prefix, Host, All}

abbrev pub is_letter_or_digit : ℕ → Bool
is_letter_or_digit b = is_ascii_lowercase b || is_ascii_uppercase b || is_ascii_digit b

-- own: 16 to 64 letters and digits, so that it isn't guessed, and stands in a field as it is ("A purge has a key")
abbrev pub is_purge_key : List ℕ → Bool
is_purge_key text = nat_le 16 (length text) && nat_le (length text) 64 && list_all is_letter_or_digit text

-- own: of several lines of Purge-Key each counts, as of Cookie
abbrev pub request_shows_purge_key : List ℕ → List Field → Bool
request_shows_purge_key key fields = list_any (λ value. bytes_eq key value) (values_of fields (codes "Purge-Key"))

-- the words of Purge-Scope, byte for byte
abbrev pub purge_scope_of_field_value : List ℕ → Option PurgeScope
purge_scope_of_field_value word =
    if bytes_eq word (codes "prefix") then Some Prefix
    else if bytes_eq word (codes "host") then Some Host
    else if bytes_eq word (codes "all") then Some All
    else None

-- own: without a word it is the target alone; with a tag all that names it ("A purge has a key")
abbrev pub default_purge_scope : List Field → PurgeScope
default_purge_scope fields = if has_field fields (codes "Purge-Tag") then All else Target

abbrev pub purge_scope_of_values : PurgeScope → List (List ℕ) → Option PurgeScope
purge_scope_of_values otherwise [] = Some otherwise
purge_scope_of_values otherwise (word ∷ []) = purge_scope_of_field_value word
purge_scope_of_values otherwise (word ∷ other ∷ more) = None

-- The targets that a request purges: those that its one line of Purge-Scope names, and without one its own target, or
-- all where it asks for a tag. With two lines, or another word, none are named.
abbrev pub purge_scope_of_fields : List Field → Option PurgeScope
purge_scope_of_fields fields = purge_scope_of_values (default_purge_scope fields) (values_of fields (codes "Purge-Scope"))

abbrev pub begins_with_purge_dash : List ℕ → Bool
begins_with_purge_dash name = nat_le 6 (length name) && is_same_name (take 6 name) (codes "Purge-")

abbrev pub is_unknown_purge_header_field : Field → Bool
is_unknown_purge_header_field field =
    begins_with_purge_dash field.name
    && not (is_named (codes "Purge-Key") field || is_named (codes "Purge-Scope") field
    || is_named (codes "Purge-Tag") field || is_named (codes "Purge-Mode") field)

-- own: a field whose name begins with `Purge-` is an order; one that isn't known, or names what isn't, could ask for
-- less than all of the scope, so nothing goes ("A purge has a key")
abbrev pub has_invalid_purge_field : List Field → Bool
has_invalid_purge_field fields =
    list_any is_unknown_purge_header_field fields || is_none (purge_scope_of_fields fields)
    || is_none (purge_tag_of_request fields)
    || is_none (purge_mode_of_request fields)

abbrev pub asks_to_purge_with_key : List ℕ → List Field → Bool
asks_to_purge_with_key key fields = request_shows_purge_key key fields && not (has_invalid_purge_field fields)

-- ---- what is within a scope

-- the path before the query (RFC 3986, section 3.3)
abbrev pub path_before_query : List ℕ → List ℕ
path_before_query path_query = unwrap_or (option_map (λ p. p.0) (split_at_first_byte 63 path_query)) path_query

abbrev pub ends_with_slash : List ℕ → Bool
ends_with_slash path = nat_lt 0 (length path) && (slice_index path (length path - 1) == 47)

-- the text begins with this one
abbrev pub text_begins_with : List ℕ → List ℕ → Bool
text_begins_with beginning text =
    nat_le (length beginning) (length text) && bytes_eq (take (length beginning) text) beginning

-- the text goes on with a slash behind as many bytes as the path has
abbrev pub has_slash_behind_path : List ℕ → List ℕ → Bool
has_slash_behind_path path text = nat_lt (length path) (length text) && (slice_index text (length path) == 47)

-- own: at a path is the path itself, byte for byte; below it is what continues it with a slash, and below one that ends
-- with a slash what continues it ("A purge has a key")
abbrev pub is_at_or_below : List ℕ → List ℕ → Bool
is_at_or_below path other =
    bytes_eq path other || (text_begins_with path other && (ends_with_slash path || has_slash_behind_path path other))

-- What is held for a key is within the scope of a purge that was asked for this one: the target itself; what is at and
-- below its path, on the same host and port, whatever the queries; what its host has, on each port; or all.
abbrev pub is_in_purge_scope : PurgeScope → Key → Key → Bool
is_in_purge_scope Target asked key = same_key key asked
is_in_purge_scope Prefix asked key =
    bytes_eq key.host asked.host && (key.port == asked.port)
    && is_at_or_below (path_before_query asked.path_query) (path_before_query key.path_query)
is_in_purge_scope Host asked key = bytes_eq key.host asked.host
is_in_purge_scope All asked key = true

-- the scope of a request that purges
abbrev pub purge_scope_of_request : List Field → PurgeScope
purge_scope_of_request fields = unwrap_or (purge_scope_of_fields fields) Target
