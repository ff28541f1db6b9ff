-- A text alone reads as a list of one.
use Rattle.std.proofs.Common.{◌≡◌, ℕ, Bool, true, false, ◌&&◌, ◌||◌, List, Option, Some, refl, ap, sym, ◌∙◌}
use Rattle.std.specs.Prelude.{nat_le}
use Rattle.std.specs.Option.{option_and_then}
use Rattle.toml.specs.Data.{Data, string, array, no_items, item, Members, get_member, as_str, as_array}
use Rattle.hx_allow.specs.LineTables.{is_text_of_value_kind, are_texts_of_kind, is_text_or_list_of_kind, most_list_texts}
use Rattle.hx_allow.specs.Rows.{ValueKind}
use Rattle.hx_allow.specs.Values.{is_some_and, texts_of_key, texts_of_text_or_list}
use Rattle.hx_allow.specs.declared.values.TableVersion.TheVariants.{Four}

abbrev one_text : List ℕ → Data
one_text text = array (item (string text) no_items)

abbrev texts_in : Option Data → List (List ℕ)
texts_in value = texts_of_text_or_list (option_and_then as_str value) (option_and_then as_array value)

pub same_texts : (key text : List ℕ) (alone list : Members) → get_member key alone ≡ Some (string text) → get_member key list ≡ Some (one_text text) → texts_of_key key list ≡ texts_of_key key alone
same_texts key text alone list is also = ap texts_in also ∙ sym (ap texts_in is)

abbrev good_in : ValueKind → Option Data → Bool
good_in kind value =
    is_some_and (is_text_of_value_kind Four kind) (option_and_then as_str value)
    || (true && is_some_and (are_texts_of_kind Four kind) (option_and_then as_array value))

one_of_them : (b : Bool) → (b && true) ≡ (b || false)
one_of_them true = refl
one_of_them false = refl

pub same_good : (kind : ValueKind) (key text : List ℕ) (alone list : Members) → nat_le 1 (most_list_texts kind) ≡ true → get_member key alone ≡ Some (string text) → get_member key list ≡ Some (one_text text) → is_text_or_list_of_kind Four kind key list ≡ is_text_or_list_of_kind Four kind key alone
same_good kind key text alone list few is also =
    ap (good_in kind) also ∙ (ap (λ (b : Bool). b && (is_text_of_value_kind Four kind text && true)) few ∙ (one_of_them (is_text_of_value_kind Four kind text) ∙ sym (ap (good_in kind) is)))
