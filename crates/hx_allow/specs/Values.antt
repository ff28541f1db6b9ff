-- What the operator's table reads of a TOML table: keys, texts, numbers and arrays.
use Rattle.std.specs.Prelude.{ℕ, ◌+◌, nat_le, ℤ, pos, negsuc, Bool, true, false, ◌&&◌, if◌then◌else◌, List, [], ◌∷◌}
use Rattle.std.specs.Prelude.{bytes_eq, Option, Some, None}
use Rattle.std.specs.Option.{option_and_then}
use Rattle.std.specs.List.{list_any}
use Rattle.toml.specs.Data.{Data, as_integer, Items, no_items, item, Members, no_members, member, get_member, as_str}
use Rattle.toml.specs.Data.{as_array}
use Rattle.hx_allow.specs.declared.values.Scope.{Scope}
use Rattle.hx_allow.specs.declared.values.Scope.TheVariants.{Top, Line}
use Rattle.hx_allow.specs.declared.values.TableVersion.{TableVersion}
use Rattle.hx_allow.specs.Rows.{KeyDefinition, row_of_top_key, top_keys, row_of_line_key, all_line_keys, has_keys_of}
use Rattle.hx_allow.specs.Rows.{least_number}
use Rattle.hx_allow.specs.Rows.{greatest_number}

-- the key of a row, which a version has
abbrev pub is_row_key_in_version : TableVersion → List ℕ → KeyDefinition → Bool
is_row_key_in_version version key row = has_keys_of version row.since && bytes_eq key row.key

-- the keys that stand at the top, and in a line, of a table of a version
abbrev pub is_known_key : Scope → List ℕ → Bool
is_known_key (Top version) key = list_any (λ known. is_row_key_in_version version key (row_of_top_key known)) top_keys
is_known_key (Line version) key =
    list_any (λ known. is_row_key_in_version version key (row_of_line_key known)) all_line_keys

-- the first key that isn't known; the members of a table ascend by the bytes of their keys, so it is the least
abbrev pub first_unknown : Scope → Members → Option (List ℕ)
first_unknown scope no_members = None
first_unknown scope (member key value ms) = if is_known_key scope key then first_unknown scope ms else Some key

abbrev pub text_of_key : List ℕ → Members → Option (List ℕ)
text_of_key key ms = option_and_then as_str (get_member key ms)

abbrev pub within : ℕ → ℕ → Option ℤ → Option ℕ
within low high None = None
within low high (Some (pos n)) = if nat_le low n && nat_le n high then Some n else None
within low high (Some (negsuc n)) = None

-- a whole number within bounds
abbrev pub number_between : ℕ → ℕ → Option Data → Option ℕ
number_between low high value = within low high (option_and_then as_integer value)

-- the number of a row's key, where it is whole and within its bounds
abbrev pub number_in : KeyDefinition → Members → Option ℕ
number_in row ms = number_between (least_number row.kind) (greatest_number row.kind) (get_member row.key ms)

abbrev pub is_some_and : {A : Type 0} → (A → Bool) → Option A → Bool
is_some_and test None = false
is_some_and test (Some x) = test x

abbrev pub item_count : Items → ℕ
item_count no_items = 0
item_count (item d ds) = item_count ds + 1

abbrev pub all_items_pass : (Data → Bool) → Items → Bool
all_items_pass test no_items = true
all_items_pass test (item d ds) = test d && all_items_pass test ds

abbrev pub count_is_from_1_to : ℕ → Items → Bool
count_is_from_1_to most ds = nat_le 1 (item_count ds) && nat_le (item_count ds) most

abbrev pub texts_with_text_if_any : Option (List ℕ) → List (List ℕ) → List (List ℕ)
texts_with_text_if_any None texts = texts
texts_with_text_if_any (Some text) texts = text ∷ texts

-- the texts among some items
abbrev pub texts_of_items : Items → List (List ℕ)
texts_of_items no_items = []
texts_of_items (item d ds) = texts_with_text_if_any (as_str d) (texts_of_items ds)

abbrev pub items_of_key : List ℕ → Members → Option Items
items_of_key key ms = option_and_then as_array (get_member key ms)

abbrev pub texts_of_text_or_list : Option (List ℕ) → Option Items → List (List ℕ)
texts_of_text_or_list (Some text) values = text ∷ []
texts_of_text_or_list None (Some values) = texts_of_items values
texts_of_text_or_list None None = []

-- the text of a key, or those of its list
abbrev pub texts_of_key : List ℕ → Members → List (List ℕ)
texts_of_key key ms = texts_of_text_or_list (text_of_key key ms) (items_of_key key ms)
