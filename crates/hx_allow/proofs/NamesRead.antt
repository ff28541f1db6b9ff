-- Hosts and paths of a line in each version: before the fourth each is one text, and what the third reads is read alike in
-- the fourth.
use Rattle.std.proofs.Common.{◌≡◌, ◌⊎◌, inl, inr, ℕ, Bool, true, false, cond, List, [], ◌∷◌, drop, length, codes, Option, Some, None, refl, ap, sym, ◌∙◌, subst}
use Rattle.std.specs.Prelude.{Ok, not, ◌&&◌, ◌||◌, ◌==◌, bytes_eq, option_map, nat_le, is_none, slice_index, map}
use Rattle.std.specs.Option.{option_and_then}
use Rattle.std.specs.List.{All, list_any}
use Rattle.std.specs.Char.{is_ascii_uppercase, is_ascii_lowercase}
use Rattle.std.proofs.lemmas.Bool.{and_parts, false≢true}
use Rattle.std.proofs.lemmas.Slice.Eq.{bytes_eq-Decides}
use Rattle.http_uri.specs.ByteClasses.{left_bracket}
use Rattle.toml.specs.Data.{Data, string, integer, float, boolean, datetime, array, table, Items, Members, get_member, as_str, as_array}
use Rattle.hx_target.specs.Hosts.{is_host, number_of_few_digits}
use Rattle.hx_target.specs.Paths.{table_path_of}
use Rattle.hx_allow.specs.Addresses.{address_of, is_ipv4_and_port}
use Rattle.hx_allow.specs.LineHosts.{begins_with_star_dot, is_subdomain_wildcard, line_host_of}
use Rattle.hx_allow.specs.LineWords.{is_one_of_two, key_has_one_of_two_texts, text_of_key_equals, line_has_no_origin, line_caches, line_purges, key_has_third_text}
use Rattle.hx_allow.specs.LineTables.{is_line_origin, is_host_in_lower_case, is_subdomain_wildcard_text, is_line_host, is_line_path, is_text_of_value_kind, are_texts_of_kind, is_text_or_list_of_kind, value_is_of_kind, value_is_good_for_key_row, line_key_has_good_value, first_bad_key, line_fault, line_of_members, first_fault_or_later, lowercase_or_star_fault}
use Rattle.hx_allow.specs.Rows.{ValueKind, a_number, some_seconds, a_store_bound, a_version, one_of, one_of_in_four, one_of_three, some_names, a_name, some_lines, a_purge_key, a_host, some_methods, a_path, an_origin, KeyDefinition, row_of_line_key, word_row, fault_of_line_key, has_keys_of}
use Rattle.hx_allow.specs.TableLines.{Line as PlainLine, Table}
use Rattle.hx_allow.specs.Tables.{table_version_of, config_or_fault_of_table}
use Rattle.hx_allow.specs.Values.{first_unknown, is_some_and, text_of_key, items_of_key, texts_of_text_or_list}
use Rattle.hx_allow.specs.Versions.{LineReadsAsInVersionThree, LineHasOneHostAndPath}
use Rattle.hx_allow.specs.declared.config_faults.TableFault.TheVariants.{UnknownKey}
use Rattle.hx_allow.specs.declared.line_hosts.LineHost.TheVariants.{Every, One as OneHost, Below}
use Rattle.hx_allow.specs.declared.config_faults.LineOption.{LineOption}
use Rattle.hx_allow.specs.declared.config_faults.LineOption.TheVariants.{SetCookie}
use Rattle.hx_allow.specs.declared.rows.LineKey.{LineKey}
use Rattle.hx_allow.specs.declared.rows.LineKey.TheVariants.{Host, Methods, Path, Origin, Cache, Word}
use Rattle.hx_allow.specs.declared.rows.KeyPlace.{KeyPlace}
use Rattle.hx_allow.specs.declared.rows.KeyPlace.TheVariants.{Needed, Optional, AllowingLine, CachingLine, PurgingLine}
use Rattle.hx_allow.specs.declared.values.Scope.TheVariants.{Line}
use Rattle.hx_allow.specs.declared.values.TableVersion.{TableVersion}
use Rattle.hx_allow.specs.declared.values.TableVersion.TheVariants.{One, Three, Four}
use Rattle.hx_allow.proofs.KeysListed.{each_key, each_good, same_bad_key}
use Rattle.hx_allow.proofs.LinesRead.{none_mapped, or_later_none, each_line_read}

-- ---- what is good in which version

not_true : (b : Bool) → not b ≡ true → b ≡ false
not_true true e = cc
not_true false e = refl

or_false : (a : Bool) → (a || false) ≡ a
or_false true = refl
or_false false = refl

abbrev is_of_names : ValueKind → Bool
is_of_names a_host = true
is_of_names a_path = true
is_of_names an_origin = true
is_of_names _ = false

abbrev is_no_name : LineKey → Bool
is_no_name Host = true
is_no_name Path = true
is_no_name Origin = true
is_no_name key = not (is_of_names (row_of_line_key key).kind)

-- before the fourth version a host is alike in each, and no list is one
host_before : (version : TableVersion) (text : List ℕ) → has_keys_of version Four ≡ false → is_line_host version text ≡ is_line_host One text
unfolding is_line_host
host_before version text before = ap (λ four. bytes_eq text (codes "*") || is_host_in_lower_case text || (four && is_subdomain_wildcard_text text)) before

origin_before : (version : TableVersion) (text : List ℕ) → has_keys_of version Four ≡ false → is_line_origin version text ≡ is_line_origin One text
origin_before version text before = ap (λ four. bytes_eq text (codes "deny") || is_ipv4_and_port text || (four && bytes_eq text (codes "purge"))) before

texts_before : (version : TableVersion) (kind : ValueKind) (key : List ℕ) (ms : Members) → has_keys_of version Four ≡ false → is_text_or_list_of_kind version kind key ms ≡ is_some_and (is_text_of_value_kind version kind) (text_of_key key ms)
texts_before version kind key ms before =
    ap (λ four. is_some_and (is_text_of_value_kind version kind) (text_of_key key ms) || (four && is_some_and (are_texts_of_kind version kind) (items_of_key key ms))) before
    ∙ or_false (is_some_and (is_text_of_value_kind version kind) (text_of_key key ms))

some_alike : (p q : List ℕ → Bool) (o : Option (List ℕ)) → ((text : List ℕ) → p text ≡ q text) → is_some_and p o ≡ is_some_and q o
some_alike p q None same = refl
some_alike p q (Some text) same = same text

kind_before : (version : TableVersion) (kind : ValueKind) (key : List ℕ) (ms : Members) → has_keys_of version Four ≡ false → value_is_of_kind version kind key ms ≡ value_is_of_kind One kind key ms
kind_before version (a_number low high) key ms before = refl
kind_before version (some_seconds low high) key ms before = refl
kind_before version (a_store_bound low high) key ms before = refl
kind_before version a_version key ms before = refl
kind_before version (one_of first second) key ms before = refl
kind_before version (one_of_in_four first second third) key ms before =
    ap (λ four. key_has_one_of_two_texts key first second ms || (four && text_of_key_equals key third ms)) before
kind_before version (one_of_three first second third) key ms before = refl
kind_before version (some_names most) key ms before = refl
kind_before version a_name key ms before = refl
kind_before version some_lines key ms before = refl
kind_before version a_host key ms before =
    texts_before version a_host key ms before
    ∙ some_alike (is_line_host version) (is_line_host One) (text_of_key key ms) (λ text. host_before version text before)
    ∙ sym (texts_before One a_host key ms refl)
kind_before version some_methods key ms before = refl
kind_before version a_path key ms before = texts_before version a_path key ms before ∙ sym (texts_before One a_path key ms refl)
kind_before version an_origin key ms before = some_alike (is_line_origin version) (is_line_origin One) (text_of_key key ms) (λ text. origin_before version text before)
kind_before version a_purge_key key ms before = refl

-- in the fourth version other kinds are as before
kind_in_four : (kind : ValueKind) (key : List ℕ) (ms : Members) → is_of_names kind ≡ false → key_has_third_text kind key ms ≡ false → value_is_of_kind Four kind key ms ≡ value_is_of_kind Three kind key ms
kind_in_four (a_number low high) key ms other third = refl
kind_in_four (some_seconds low high) key ms other third = refl
kind_in_four (a_store_bound low high) key ms other third = refl
kind_in_four a_version key ms other third = refl
kind_in_four (one_of first second) key ms other third = refl
kind_in_four (one_of_in_four first second third) key ms other no_third = ap (λ t. key_has_one_of_two_texts key first second ms || t) no_third
kind_in_four (one_of_three first second third_text) key ms other third = refl
kind_in_four (some_names most) key ms other third = refl
kind_in_four a_name key ms other third = refl
kind_in_four some_lines key ms other third = refl
kind_in_four a_host key ms other third = cc
kind_in_four some_methods key ms other third = refl
kind_in_four a_path key ms other third = cc
kind_in_four an_origin key ms other third = cc
kind_in_four a_purge_key key ms other third = refl

at_alike : (version other : TableVersion) (place : KeyPlace) (row : KeyDefinition) (ms : Members) → line_purges version ms ≡ line_purges other ms → value_is_of_kind version row.kind row.key ms ≡ value_is_of_kind other row.kind row.key ms → value_is_good_for_key_row version place row ms ≡ value_is_good_for_key_row other place row ms
at_alike version other Needed row ms purges same = same
at_alike version other Optional row ms purges same = ap (λ t. is_none (get_member row.key ms) || t) same
at_alike version other AllowingLine row ms purges same = ap (λ t. is_none (get_member row.key ms) || (t && not (line_has_no_origin ms))) same
at_alike version other CachingLine row ms purges same = ap (λ t. is_none (get_member row.key ms) || (t && line_caches ms)) same
at_alike version other PurgingLine row ms purges same =
    ap (λ t. cond t (value_is_of_kind version row.kind row.key ms) (is_none (get_member row.key ms))) purges
    ∙ ap (λ t. cond (line_purges other ms) t (is_none (get_member row.key ms))) same

none_purges_before : (version : TableVersion) (ms : Members) → has_keys_of version Four ≡ false → line_purges version ms ≡ false
none_purges_before version ms before = ap (λ four. four && text_of_key_equals (codes "origin") (codes "purge") ms) before

pub bad_before : (version : TableVersion) (ms : Members) → has_keys_of version Four ≡ false → first_bad_key version ms ≡ first_bad_key One ms
bad_before version ms before = same_bad_key version One ms (λ key. at_alike version One (row_of_line_key key).place (row_of_line_key key) ms (none_purges_before version ms before) (kind_before version (row_of_line_key key).kind (row_of_line_key key).key ms before))

not_below : (text : List ℕ) → begins_with_star_dot text ≡ false → is_line_host Four text ≡ is_line_host Three text
unfolding is_line_host
not_below text isnt = ap (λ t. bytes_eq text (codes "*") || is_host_in_lower_case text || (t && is_host_in_lower_case (drop 2 text) && not (slice_index (drop 2 text) 0 == left_bracket) && list_any is_ascii_lowercase (drop 2 text))) isnt

host_in_four : (o : Option (List ℕ)) → is_some_and begins_with_star_dot o ≡ false → is_some_and (is_line_host Four) o ≡ is_some_and (is_line_host Three) o
host_in_four None isnt = refl
host_in_four (Some text) isnt = not_below text isnt

texts_in_four : (kind : ValueKind) (key : List ℕ) (ms : Members) → items_of_key key ms ≡ None → is_text_or_list_of_kind Four kind key ms ≡ is_some_and (is_text_of_value_kind Four kind) (text_of_key key ms)
texts_in_four kind key ms none =
    ap (λ (o : Option Items). is_some_and (is_text_of_value_kind Four kind) (text_of_key key ms) || (true && is_some_and (are_texts_of_kind Four kind) o)) none
    ∙ or_false (is_some_and (is_text_of_value_kind Four kind) (text_of_key key ms))

no_third : (ms : Members) → text_of_key_equals (codes "set-cookie") (codes "removed") ms ≡ false → (word : LineOption) → key_has_third_text (word_row word).kind (word_row word).key ms ≡ false
no_third ms isnt SetCookie = isnt
no_third ms isnt _ = refl

origin_in_four : (o : Option (List ℕ)) → is_some_and (λ text. bytes_eq text (codes "purge")) o ≡ false → is_some_and (is_line_origin Four) o ≡ is_some_and (is_line_origin Three) o
origin_in_four None isnt = refl
origin_in_four (Some text) isnt = ap (λ t. bytes_eq text (codes "deny") || is_ipv4_and_port text || t) isnt

good_in_four : (ms : Members) → LineReadsAsInVersionThree ms → (key : LineKey) → line_key_has_good_value Four ms key ≡ line_key_has_good_value Three ms key
good_in_four ms names Host =
    texts_in_four a_host (codes "host") ms names.0
    ∙ host_in_four (text_of_key (codes "host") ms) names.2
    ∙ sym (texts_before Three a_host (codes "host") ms refl)
good_in_four ms names Path = texts_in_four a_path (codes "path") ms names.1 ∙ sym (texts_before Three a_path (codes "path") ms refl)
good_in_four ms names Methods = refl
good_in_four ms names Origin = origin_in_four (text_of_key (codes "origin") ms) names.4
good_in_four ms names Cache = refl
good_in_four ms names (Word word) =
    at_alike Four Three (word_row word).place (word_row word) ms names.4
    (kind_in_four (word_row word).kind (word_row word).key ms (not_true (is_of_names (word_row word).kind) (each_key is_no_name refl (Word word))) (no_third ms names.3 word))

pub bad_in_four : (ms : Members) → LineReadsAsInVersionThree ms → first_bad_key Four ms ≡ first_bad_key Three ms
bad_in_four ms names = same_bad_key Four Three ms (good_in_four ms names)

-- ---- a line that the third version reads has one host and one path

-- what begins with `*.` is no host
star_is_no_name_byte : (rest : List ℕ) → is_host (42 ∷ rest) ≡ true → ⊥
unfolding is_host
star_is_no_name_byte rest is = by_length (nat_le 1 (length (42 ∷ rest)) && nat_le (length (42 ∷ rest)) 253) is
  where
    by_length : (b : Bool) → (b && false) ≡ true → ⊥
    by_length true e = cc
    by_length false e = cc

star_dot_begins : (text : List ℕ) → begins_with_star_dot text ≡ true → (rest : List ℕ) × (text ≡ 42 ∷ rest)
star_dot_begins [] is = absurd cc
star_dot_begins (b ∷ []) is = let whole : b ∷ [] ≡ codes "*." = (bytes_eq-Decides (b ∷ []) (codes "*.")).0 is in absurd cc
star_dot_begins (b ∷ c ∷ rest) is = let front : b ∷ c ∷ [] ≡ codes "*." = (bytes_eq-Decides (b ∷ c ∷ []) (codes "*.")).0 is in let first : b ≡ 42 = cc in (c ∷ rest, ap (λ x. x ∷ c ∷ rest) first)

host_of_three : (text : List ℕ) → is_line_host Three text ≡ true → begins_with_star_dot text ≡ false
unfolding is_line_host
host_of_three text is = by_test (begins_with_star_dot text) refl
  where
    no_host : is_host_in_lower_case text ≡ true → begins_with_star_dot text ≡ true → ⊥
    no_host host begins =
        let at = star_dot_begins text begins in
        let name = and_parts (is_host text) (not (list_any is_ascii_uppercase text)) host in
        star_is_no_name_byte at.0 (ap is_host (sym at.1) ∙ name.0)

    either : (star host : Bool) → (star || host || (false && is_subdomain_wildcard_text text)) ≡ true → (star ≡ true) ⊎ (host ≡ true)
    either true host e = inl refl
    either false true e = inr refl
    either false false e = absurd cc

    by_test : (b : Bool) → begins_with_star_dot text ≡ b → b ≡ false
    by_test false begins = refl
    by_test true begins = by_kind (either (bytes_eq text (codes "*")) (is_host_in_lower_case text) is)
      where
        by_kind : (bytes_eq text (codes "*") ≡ true) ⊎ (is_host_in_lower_case text ≡ true) → true ≡ false
        by_kind (inl star) =
            let whole : text ≡ codes "*" = (bytes_eq-Decides text (codes "*")).0 star in
            let bad : begins_with_star_dot (codes "*") ≡ true = subst (λ t. begins_with_star_dot t ≡ true) whole begins in
            absurd cc
        by_kind (inr host) = absurd (no_host host begins)

-- a value that is a text is no list
text_is_no_list : (value : Option Data) (test : List ℕ → Bool) → is_some_and test (option_and_then as_str value) ≡ true → option_and_then as_array value ≡ None
text_is_no_list None test is = refl
text_is_no_list (Some (string text)) test is = refl
text_is_no_list (Some (array ds)) test is = absurd cc
text_is_no_list (Some (integer n)) test is = refl
text_is_no_list (Some (float x)) test is = refl
text_is_no_list (Some (boolean b)) test is = refl
text_is_no_list (Some (datetime d)) test is = refl
text_is_no_list (Some (table ms)) test is = refl

text_stands : (o : Option (List ℕ)) (test : List ℕ → Bool) → is_some_and test o ≡ true → (text : List ℕ) × ((o ≡ Some text) × (test text ≡ true))
text_stands None test is = absurd cc
text_stands (Some text) test is = (text, (refl, is))

-- before the fourth version `set-cookie` isn't `removed`
third_is_other : (text : List ℕ) → is_one_of_two (codes "stored") (codes "not-stored") text ≡ true → bytes_eq text (codes "removed") ≡ false
third_is_other text is = by_either (either (bytes_eq text (codes "stored")) (bytes_eq text (codes "not-stored")) is)
  where
    either : (a b : Bool) → a || b ≡ true → (a ≡ true) ⊎ (b ≡ true)
    either true b h = inl refl
    either false b h = inr h

    by_either : (bytes_eq text (codes "stored") ≡ true) ⊎ (bytes_eq text (codes "not-stored") ≡ true) → bytes_eq text (codes "removed") ≡ false
    by_either (inl h) = ap (λ t. bytes_eq t (codes "removed")) ((bytes_eq-Decides text (codes "stored")).0 h)
    by_either (inr h) = ap (λ t. bytes_eq t (codes "removed")) ((bytes_eq-Decides text (codes "not-stored")).0 h)

not_removed : (version : TableVersion) (ms : Members) → has_keys_of version Four ≡ false → first_bad_key version ms ≡ None → text_of_key_equals (codes "set-cookie") (codes "removed") ms ≡ false
not_removed version ms before good = by_tests (is_none value) refl (subst (λ four. (is_none value || ((one || (four && removed)) && line_caches ms)) ≡ true) before (each_good version ms good (Word SetCookie)))
  where
    value : Option Data
    value = get_member (codes "set-cookie") ms

    one : Bool
    one = key_has_one_of_two_texts (codes "set-cookie") (codes "stored") (codes "not-stored") ms

    removed : Bool
    removed = text_of_key_equals (codes "set-cookie") (codes "removed") ms

    absent : (o : Option Data) → is_none o ≡ true → is_some_and (λ text. bytes_eq text (codes "removed")) (option_and_then as_str o) ≡ false
    absent None e = refl
    absent (Some found) e = absurd cc

    first_stands : (a takes : Bool) → ((a || false) && takes) ≡ true → a ≡ true
    first_stands true takes e = refl
    first_stands false takes e = absurd cc

    by_tests : (none : Bool) → is_none value ≡ none → (none || ((one || (false && removed)) && line_caches ms)) ≡ true → removed ≡ false
    by_tests true is e = absent value is
    by_tests false is e =
        let stands = text_stands (text_of_key (codes "set-cookie") ms) (is_one_of_two (codes "stored") (codes "not-stored")) (first_stands one (line_caches ms) e) in
        ap (is_some_and (λ text. bytes_eq text (codes "removed"))) stands.1.0 ∙ third_is_other stands.0 stands.1.1

-- each key of a line without fault is good
pub keys_are_good : (version : TableVersion) (n : ℕ) (ms : Members) → line_fault version n ms ≡ None → first_bad_key version ms ≡ None
unfolding line_fault
keys_are_good version n ms none = by_keys (first_unknown (Line version) ms) refl
  where
    by_keys : (o : Option (List ℕ)) → first_unknown (Line version) ms ≡ o → first_bad_key version ms ≡ None
    by_keys (Some key) e = let bad : line_fault version n ms ≡ Some (UnknownKey key) = rw e refl in cc
    by_keys None e =
        let is : line_fault version n ms ≡ first_fault_or_later (option_map (fault_of_line_key n) (first_bad_key version ms)) (lowercase_or_star_fault version n ms) = rw e refl in
        none_mapped (fault_of_line_key n) (first_bad_key version ms) (or_later_none (option_map (fault_of_line_key n) (first_bad_key version ms)) (lowercase_or_star_fault version n ms) (sym is ∙ none)).0

host_is_text : (version : TableVersion) (ms : Members) → has_keys_of version Four ≡ false → first_bad_key version ms ≡ None → is_some_and (is_line_host Three) (text_of_key (codes "host") ms) ≡ true
host_is_text version ms before good =
    some_alike (is_line_host Three) (is_line_host One) (text_of_key (codes "host") ms) (λ text. host_before Three text refl)
    ∙ sym (some_alike (is_line_host version) (is_line_host One) (text_of_key (codes "host") ms) (λ text. host_before version text before))
    ∙ sym (texts_before version a_host (codes "host") ms before)
    ∙ each_good version ms good Host

path_is_text : (version : TableVersion) (ms : Members) → has_keys_of version Four ≡ false → first_bad_key version ms ≡ None → is_some_and is_line_path (text_of_key (codes "path") ms) ≡ true
path_is_text version ms before good = sym (texts_before version a_path (codes "path") ms before) ∙ each_good version ms good Path

purge_is_no_origin : is_line_origin One (codes "purge") ≡ false
unfolding address_of number_of_few_digits
purge_is_no_origin = refl

no_purge : (o : Option (List ℕ)) → is_some_and (is_line_origin One) o ≡ true → is_some_and (λ text. bytes_eq text (codes "purge")) o ≡ false
no_purge None good = refl
no_purge (Some text) good = by_test (bytes_eq text (codes "purge")) refl
  where
    by_test : (b : Bool) → bytes_eq text (codes "purge") ≡ b → b ≡ false
    by_test true e = absurd (false≢true (sym purge_is_no_origin ∙ ap (is_line_origin One) (sym ((bytes_eq-Decides text (codes "purge")).0 e)) ∙ good))
    by_test false e = refl

pub names_as_before : (version : TableVersion) (ms : Members) → has_keys_of version Four ≡ false → first_bad_key version ms ≡ None → LineReadsAsInVersionThree ms
names_as_before version ms before good =
    let host = text_stands (text_of_key (codes "host") ms) (is_line_host Three) (host_is_text version ms before good) in
    let origin : is_some_and (is_line_origin One) (text_of_key (codes "origin") ms) ≡ true =
    sym (kind_before version an_origin (codes "origin") ms before) ∙ each_good version ms good Origin
    in (
      text_is_no_list (get_member (codes "host") ms) (is_line_host Three) (host_is_text version ms before good),
      text_is_no_list (get_member (codes "path") ms) is_line_path (path_is_text version ms before good),
      ap (is_some_and begins_with_star_dot) host.1.0 ∙ host_of_three host.0 host.1.1,
      not_removed version ms before good,
      no_purge (text_of_key (codes "origin") ms) origin,
    )

read_of_one : (host path : List ℕ) (line : PlainLine) → line.hosts ≡ line_host_of host ∷ [] → line.paths ≡ table_path_of path ∷ [] → begins_with_star_dot host ≡ false → LineHasOneHostAndPath line
read_of_one host path line hosts paths isnt = (ap length hosts, ap length paths, ap (list_any is_subdomain_wildcard) hosts ∙ by_tests (bytes_eq host (codes "*")) (begins_with_star_dot host) isnt)
  where
    by_tests : (star below : Bool) → below ≡ false → list_any is_subdomain_wildcard (cond star Every (cond below (Below (drop 2 host)) (OneHost host)) ∷ []) ≡ false
    by_tests true below isnt = refl
    by_tests false true isnt = absurd cc
    by_tests false false isnt = refl

pub has_one_host_and_path : (version : TableVersion) (n : ℕ) (ms : Members) → has_keys_of version Four ≡ false → line_fault version n ms ≡ None → LineHasOneHostAndPath (line_of_members version ms)
unfolding line_of_members
has_one_host_and_path version n ms before none =
    let good = keys_are_good version n ms none in
    let host = text_stands (text_of_key (codes "host") ms) (is_line_host Three) (host_is_text version ms before good) in
    let path = text_stands (text_of_key (codes "path") ms) is_line_path (path_is_text version ms before good) in
    read_of_one host.0 path.0 (line_of_members version ms)
    (ap (λ (o : Option (List ℕ)). map line_host_of (texts_of_text_or_list o (items_of_key (codes "host") ms))) host.1.0)
    (ap (λ (o : Option (List ℕ)). map table_path_of (texts_of_text_or_list o (items_of_key (codes "path") ms))) path.1.0)
    (host_of_three host.0 host.1.1)

pub each_has_one : (t : Members) (table : Table) → has_keys_of (table_version_of t) Four ≡ false → config_or_fault_of_table t ≡ Ok table → All LineHasOneHostAndPath table.lines
each_has_one t read before e = each_line_read LineHasOneHostAndPath t read (λ n ms none. has_one_host_and_path (table_version_of t) n ms before none) (sym e)
