-- A verdict rests on host and table path, and the paths of a table's lines are table paths themselves.
use Rattle.std.proofs.Common.{◌≡◌, inl, inr, ℕ, ◌+◌, Bool, true, false, cond, List, [], ◌∷◌, codes, Option, Some, None, refl, ap, sym, ◌∙◌}
use Rattle.std.specs.Prelude.{Ok, not, ◌&&◌, ◌==◌, slice_index, option_map, map, ◌||◌}
use Rattle.std.specs.List.{All, list_all}
use Rattle.std.specs.Option.{option_and_then}
use Rattle.std.proofs.lemmas.Bool.{and_parts}
use Rattle.std.proofs.lemmas.List.Elements.{All-nil, All-cons}
use Rattle.http_uri.specs.ByteClasses.{slash}
use Rattle.toml.specs.Data.{Data, string, integer, float, boolean, datetime, array, table, Items, no_items, item, Members, get_member, as_str, as_array}
use Rattle.hx_target.specs.declared.targets.Target.{Target}
use Rattle.hx_target.specs.Paths.{has_bad_escape, has_dot_segment, table_path_of}
use Rattle.hx_allow.specs.TableLines.{Line as PlainLine, Table}
use Rattle.hx_allow.specs.Rows.{a_path, fault_of_line_key, has_keys_of}
use Rattle.hx_allow.specs.LineTables.{is_path_byte, is_root_or_ends_without_slash, is_line_path, is_text_of_value_kind, are_texts_of_kind, is_text_or_list_of_kind, first_bad_key, first_fault_or_later, lowercase_or_star_fault, line_fault, line_of_members}
use Rattle.hx_allow.specs.LineHosts.{any_host_matches}
use Rattle.hx_allow.specs.Matching.{matches_method, any_path_matches, matches_line, verdict_of_line, verdict_from, verdict_of}
use Rattle.hx_allow.specs.Tables.{BytesReadAsTable, table_version_of}
use Rattle.hx_allow.specs.Values.{first_unknown, is_some_and, count_is_from_1_to, all_items_pass, texts_with_text_if_any, texts_of_items, texts_of_text_or_list}
use Rattle.hx_allow.specs.declared.config_faults.TableFault.TheVariants.{UnknownKey}
use Rattle.hx_allow.specs.declared.rows.LineKey.TheVariants.{Path}
use Rattle.hx_allow.specs.declared.values.Scope.TheVariants.{Line}
use Rattle.hx_allow.specs.declared.values.TableVersion.{TableVersion}
use Rattle.hx_allow.specs.declared.values.TableVersion.TheVariants.{Four}
use Rattle.hx_allow.proofs.KeysListed.{each_good}
use Rattle.hx_allow.proofs.LinesRead.{none_mapped, or_later_none, each_line_read}

matches_alike : (line : PlainLine) (method : List ℕ) (a b : Target) → a.key.host ≡ b.key.host → a.table_path ≡ b.table_path → matches_line line method a ≡ matches_line line method b
unfolding matches_line
matches_alike line method a b host path =
    ap (λ h. any_host_matches line.hosts h && matches_method line.methods method && any_path_matches line.paths a.table_path) host
    ∙ ap (λ p. any_host_matches line.hosts b.key.host && matches_method line.methods method && any_path_matches line.paths p) path

verdicts_from : (n : ℕ) (lines : List PlainLine) (method : List ℕ) (a b : Target) → a.key.host ≡ b.key.host → a.table_path ≡ b.table_path → verdict_from n lines method a ≡ verdict_from n lines method b
verdicts_from n [] method a b host path = refl
verdicts_from n (line ∷ lines) method a b host path =
    ap (λ t. cond t (verdict_of_line n line) (verdict_from (n + 1) lines method a)) (matches_alike line method a b host path)
    ∙ ap (cond (matches_line line method b) (verdict_of_line n line)) (verdicts_from (n + 1) lines method a b host path)

pub verdicts_alike : (lines : List PlainLine) (method : List ℕ) (a b : Target) → a.key.host ≡ b.key.host → a.table_path ≡ b.table_path → verdict_of lines method a ≡ verdict_of lines method b
unfolding verdict_of
verdicts_alike = verdicts_from 1

-- a path is normalised once
abbrev pub Once : Type 0
Once = (path : List ℕ) → has_bad_escape path ≡ false → table_path_of (table_path_of path) ≡ table_path_of path

abbrev pub IsTablePath : List ℕ → Type 0
IsTablePath path = table_path_of path ≡ path

abbrev pub HasTablePaths : PlainLine → Type 0
HasTablePaths line = All IsTablePath line.paths

not_true : (b : Bool) → not b ≡ true → b ≡ false
not_true true e = cc
not_true false e = refl

no_bad_escape : (text : List ℕ) → is_line_path text ≡ true → has_bad_escape text ≡ false
unfolding is_line_path
no_bad_escape text is =
    let bytes = (slice_index text 0 == slash) && is_root_or_ends_without_slash text && list_all is_path_byte text in
    let dots = and_parts (bytes && not (has_bad_escape text)) (not (has_dot_segment (table_path_of text))) is in
    not_true (has_bad_escape text) (and_parts bytes (not (has_bad_escape text)) dots.0).1

one_is : Once → (text : List ℕ) → is_line_path text ≡ true → All IsTablePath (table_path_of text ∷ [])
one_is once text is = All-cons IsTablePath (table_path_of text) [] (once text (no_bad_escape text is)) (All-nil IsTablePath)

with_text : Once → (version : TableVersion) (o : Option (List ℕ)) (texts : List (List ℕ)) → is_some_and (is_text_of_value_kind version a_path) o ≡ true → All IsTablePath (map table_path_of texts) → All IsTablePath (map table_path_of (texts_with_text_if_any o texts))
with_text once version None texts is rest = absurd cc
with_text once version (Some text) texts is rest = All-cons IsTablePath (table_path_of text) (map table_path_of texts) (once text (no_bad_escape text is)) rest

each_is : Once → (version : TableVersion) (ds : Items) → all_items_pass (λ d. is_some_and (is_text_of_value_kind version a_path) (as_str d)) ds ≡ true → All IsTablePath (map table_path_of (texts_of_items ds))
each_is once version no_items is = All-nil IsTablePath
each_is once version (item d ds) is =
    let parts = and_parts (is_some_and (is_text_of_value_kind version a_path) (as_str d)) (all_items_pass (λ d. is_some_and (is_text_of_value_kind version a_path) (as_str d)) ds) is in
    with_text once version (as_str d) (texts_of_items ds) parts.0 (each_is once version ds parts.1)

text_alone : (b four : Bool) → (b || (four && false)) ≡ true → b ≡ true
text_alone true four e = refl
text_alone false true e = absurd cc
text_alone false false e = absurd cc

paths_of_list : Once → (version : TableVersion) (ds : Items) → (false || (has_keys_of version Four && are_texts_of_kind version a_path ds)) ≡ true → All IsTablePath (map table_path_of (texts_of_items ds))
paths_of_list once version ds is =
    let list = and_parts (has_keys_of version Four) (are_texts_of_kind version a_path ds) is in
    let each = and_parts (count_is_from_1_to 32 ds) (all_items_pass (λ d. is_some_and (is_text_of_value_kind version a_path) (as_str d)) ds) list.1 in
    each_is once version ds each.1

paths_are : Once → (version : TableVersion) (value : Option Data) →
    (is_some_and (is_text_of_value_kind version a_path) (option_and_then as_str value) || (has_keys_of version Four && is_some_and (are_texts_of_kind version a_path) (option_and_then as_array value))) ≡ true →
    All IsTablePath (map table_path_of (texts_of_text_or_list (option_and_then as_str value) (option_and_then as_array value)))
paths_are once version None is = All-nil IsTablePath
paths_are once version (Some (string text)) is = one_is once text (text_alone (is_line_path text) (has_keys_of version Four) is)
paths_are once version (Some (array ds)) is = paths_of_list once version ds is
paths_are once version (Some (integer n)) is = All-nil IsTablePath
paths_are once version (Some (float x)) is = All-nil IsTablePath
paths_are once version (Some (boolean b)) is = All-nil IsTablePath
paths_are once version (Some (datetime d)) is = All-nil IsTablePath
paths_are once version (Some (table ms)) is = All-nil IsTablePath

line_is : Once → (version : TableVersion) (n : ℕ) (ms : Members) → line_fault version n ms ≡ None → HasTablePaths (line_of_members version ms)
unfolding line_fault line_of_members
line_is once version n ms none = by_keys (first_unknown (Line version) ms) refl
  where
    by_keys : (o : Option (List ℕ)) → first_unknown (Line version) ms ≡ o → HasTablePaths (line_of_members version ms)
    by_keys (Some key) e = let bad : line_fault version n ms ≡ Some (UnknownKey key) = rw e refl in cc
    by_keys None e =
        let is : line_fault version n ms ≡ first_fault_or_later (option_map (fault_of_line_key n) (first_bad_key version ms)) (lowercase_or_star_fault version n ms) = rw e refl in
        let good : is_text_or_list_of_kind version a_path (codes "path") ms ≡ true = each_good version ms (none_mapped (fault_of_line_key n) (first_bad_key version ms) (or_later_none (option_map (fault_of_line_key n) (first_bad_key version ms)) (lowercase_or_star_fault version n ms) (sym is ∙ none)).0) Path in
        paths_are once version (get_member (codes "path") ms) good

pub read_paths_are : Once → (bytes : List ℕ) (table : Table) → BytesReadAsTable bytes (Ok table) → All HasTablePaths table.lines
read_paths_are once bytes read (inl (t, is, e)) = each_line_read HasTablePaths t read (line_is once (table_version_of t)) e
read_paths_are once bytes read (inr (none, e)) = cc
