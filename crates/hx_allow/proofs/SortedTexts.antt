-- The keys of each table that a TOML text writes ascend.
use Rattle.std.proofs.Common.{◌≡◌, ◌==◌, ◌&&◌, ℕ, zero, suc, Bool, true, false, cond, List, [], length, drop, Some, None, option_map, option_and_then, refl, subst}
use Rattle.std.specs.Prelude.{slice_index}
use Rattle.std.proofs.lemmas.Option.{none-some, same_Some}
use Rattle.toml_parser.specs.Lexical.{Read, left_bracket, right_bracket, left_brace, right_brace, first, skip_ws, skip_blank}
use Rattle.toml_parser.specs.Strings.{Key, quoted, starts_string, recursion_limit}
use Rattle.toml_parser.specs.Numbers.{unquoted}
use Rattle.toml_parser.specs.declared.scalar.Scalar.{Scalar}
use Rattle.toml_parser.specs.declared.scalar.Scalar.TheVariants.{Boolean, Integer, Float, Datetime}
use Rattle.toml.specs.Data.{Data, string, array, table, Items, no_items, push_item, Members, is_sorted, items_are_sorted, members_are_sorted}
use Rattle.toml.specs.Tables.{Nodes, no_nodes, close, put, Expression, key_value, std_table, array_table, Document, define}
use Rattle.toml.specs.Parse.{after_element, key_equals, keyval, items, members, scalar_data, atom, val, header_key, expression, ends_line, line, lines, skip_bom, parse_document, after_byte, read_map}
use Rattle.hx_allow.proofs.SortedNodes.{from_map, from_then, push_sorted, Sorted, IsSortedIn, SortedDocument, put_keeps, define_keeps}

-- what is read is sorted
abbrev ReadsSorted : (List ℕ → Read Data) → Type 0
ReadsSorted read = (text : List ℕ) (p : Data × List ℕ) → read text ≡ Some p → is_sorted p.0 ≡ true

items_sorted : (read : List ℕ → Read Data) → ReadsSorted read → (n : ℕ) (found : Items) (text : List ℕ) (p : Items × List ℕ) → items_are_sorted found ≡ true → items read n found text ≡ Some p → items_are_sorted p.0 ≡ true
unfolding items
items_sorted read good zero found text p sorted e = absurd (none-some p e)
items_sorted read good (suc n) found text p sorted e = by_end (items_sorted read good n) (first (skip_blank text) == right_bracket) e
  where
    by_end : ((next : Items) (rest : List ℕ) (q : Items × List ℕ) → items_are_sorted next ≡ true → items read n next rest ≡ Some q → items_are_sorted q.0 ≡ true)
        → (b : Bool) → cond b (Some (found, drop 1 (skip_blank text))) (option_and_then (λ (v : Data × List ℕ). option_and_then (items read n (push_item found v.0)) (after_element right_bracket v.1)) (read (skip_blank text))) ≡ Some p → items_are_sorted p.0 ≡ true
    by_end rec true e = subst (λ (q : Items × List ℕ). items_are_sorted q.0 ≡ true) (same_Some (found, drop 1 (skip_blank text)) p e) sorted
    by_end rec false e =
        let (v, is, goes) = from_then (λ (v : Data × List ℕ). option_and_then (items read n (push_item found v.0)) (after_element right_bracket v.1)) (read (skip_blank text)) p e in
        let (rest, ends, last) = from_then (items read n (push_item found v.0)) (after_element right_bracket v.1) p goes in
        rec (push_item found v.0) rest p (push_sorted found v.0 sorted (good (skip_blank text) v is)) last

keyval_sorted : (read : List ℕ → Read Data) → ReadsSorted read → (text : List ℕ) (p : (Key × Data) × List ℕ) → keyval read text ≡ Some p → is_sorted p.0.1 ≡ true
keyval_sorted read good text p e =
    let (k, is, goes) = from_then (λ (k : Key × List ℕ). read_map (λ (d : Data). (k.0, d)) (read k.1)) (key_equals text) p e in
    let (v, found, same) = from_map (λ (v : Data × List ℕ). ((k.0, v.0), v.1)) (read k.1) p goes in
    subst (λ (q : (Key × Data) × List ℕ). is_sorted q.0.1 ≡ true) same (good k.1 v found)

members_sorted : (read : List ℕ → Read Data) → ReadsSorted read → (n : ℕ) (found : Nodes) (text : List ℕ) (p : Members × List ℕ) → Sorted found → members read n found text ≡ Some p → members_are_sorted p.0 ≡ true
unfolding members
members_sorted read good zero found text p sorted e = absurd (none-some p e)
members_sorted read good (suc n) found text p sorted e = by_end (members_sorted read good n) (first (skip_blank text) == right_brace) e
  where
    by_end : ((next : Nodes) (rest : List ℕ) (q : Members × List ℕ) → Sorted next → members read n next rest ≡ Some q → members_are_sorted q.0 ≡ true)
        → (b : Bool) → cond b (Some (close found, drop 1 (skip_blank text))) (option_and_then (λ (v : (Key × Data) × List ℕ). option_and_then (λ (more : Nodes). option_and_then (members read n more) (after_element right_brace v.1)) (put v.0.0 v.0.1 found)) (keyval read (skip_blank text))) ≡ Some p → members_are_sorted p.0 ≡ true
    by_end rec true e = subst (λ (q : Members × List ℕ). members_are_sorted q.0 ≡ true) (same_Some (close found, drop 1 (skip_blank text)) p e) sorted
    by_end rec false e =
        let (v, is, goes) = from_then (λ (v : (Key × Data) × List ℕ). option_and_then (λ (more : Nodes). option_and_then (members read n more) (after_element right_brace v.1)) (put v.0.0 v.0.1 found)) (keyval read (skip_blank text)) p e in
        let (more, put_is, then_goes) = from_then (λ (more : Nodes). option_and_then (members read n more) (after_element right_brace v.1)) (put v.0.0 v.0.1 found) p goes in
        let (rest, ends, last) = from_then (members read n more) (after_element right_brace v.1) p then_goes in
        rec more rest p (put_keeps v.0.0 v.0.1 (keyval_sorted read good (skip_blank text) v is) found more sorted put_is) last

scalar_sorted : (s : Scalar) → is_sorted (scalar_data s) ≡ true
scalar_sorted (Boolean b) = refl
scalar_sorted (Integer z) = refl
scalar_sorted (Float x) = refl
scalar_sorted (Datetime dt) = refl

abbrev SortedFront : Data × List ℕ → Type 0
SortedFront q = is_sorted q.0 ≡ true

atom_sorted : ReadsSorted atom
unfolding atom
atom_sorted text p e = by_start (starts_string text) e
  where
    by_start : (b : Bool) → cond b (read_map string (quoted text)) (read_map scalar_data (unquoted text)) ≡ Some p → is_sorted p.0 ≡ true
    by_start true e =
        let (q, is, same) = from_map (λ (q : List ℕ × List ℕ). (string q.0, q.1)) (quoted text) p e in
        subst SortedFront same refl
    by_start false e =
        let (q, is, same) = from_map (λ (q : Scalar × List ℕ). (scalar_data q.0, q.1)) (unquoted text) p e in
        subst SortedFront same (scalar_sorted q.0)

val_sorted : (depth : ℕ) → ReadsSorted (val depth)
unfolding val
val_sorted zero text p e = atom_sorted text p e
val_sorted (suc depth) text p e = by_first (val_sorted depth) (first text == left_bracket) e
  where
    inner_table : ReadsSorted (val depth) → (b : Bool) → cond b (read_map table (members (val depth) (length text) no_nodes (drop 1 text))) (atom text) ≡ Some p → is_sorted p.0 ≡ true
    inner_table good true e =
        let (q, is, same) = from_map (λ (q : Members × List ℕ). (table q.0, q.1)) (members (val depth) (length text) no_nodes (drop 1 text)) p e in
        subst SortedFront same (members_sorted (val depth) good (length text) no_nodes (drop 1 text) q refl is)
    inner_table good false e = atom_sorted text p e

    by_first : ReadsSorted (val depth) → (b : Bool) → cond b (read_map array (items (val depth) (length text) no_items (drop 1 text))) (cond (first text == left_brace) (read_map table (members (val depth) (length text) no_nodes (drop 1 text))) (atom text)) ≡ Some p → is_sorted p.0 ≡ true
    by_first good true e =
        let (q, is, same) = from_map (λ (q : Items × List ℕ). (array q.0, q.1)) (items (val depth) (length text) no_items (drop 1 text)) p e in
        subst SortedFront same (items_sorted (val depth) good (length text) no_items (drop 1 text) q refl is)
    by_first good false e = inner_table good (first text == left_brace) e

abbrev SortedExpression : Expression × List ℕ → Type 0
SortedExpression p = IsSortedIn p.0.1

expression_sorted : (text : List ℕ) (p : Expression × List ℕ) → expression text ≡ Some p → SortedExpression p
unfolding expression
expression_sorted text p e = by_brackets (first text == left_bracket && slice_index text 1 == left_bracket) e
  where
    one_bracket : (b : Bool) → cond b (read_map (λ (k : Key). (k, std_table)) (header_key (drop 1 text))) (read_map (λ (q : Key × Data). (q.0, key_value q.1)) (keyval (val recursion_limit) text)) ≡ Some p → SortedExpression p
    one_bracket true e =
        let (k, is, same) = from_map (λ (k : Key × List ℕ). ((k.0, std_table), k.1)) (header_key (drop 1 text)) p e in
        subst SortedExpression same tt
    one_bracket false e =
        let (q, is, same) = from_map (λ (q : (Key × Data) × List ℕ). ((q.0.0, key_value q.0.1), q.1)) (keyval (val recursion_limit) text) p e in
        subst SortedExpression same (keyval_sorted (val recursion_limit) (val_sorted recursion_limit) text q is)

    by_brackets : (b : Bool) → cond b (option_and_then (λ (k : Key × List ℕ). option_map (λ (rest : List ℕ). ((k.0, array_table), rest)) (after_byte right_bracket k.1)) (header_key (drop 2 text))) (cond (first text == left_bracket) (read_map (λ (k : Key). (k, std_table)) (header_key (drop 1 text))) (read_map (λ (q : Key × Data). (q.0, key_value q.1)) (keyval (val recursion_limit) text))) ≡ Some p → SortedExpression p
    by_brackets true e =
        let (k, is, goes) = from_then (λ (k : Key × List ℕ). option_map (λ (rest : List ℕ). ((k.0, array_table), rest)) (after_byte right_bracket k.1)) (header_key (drop 2 text)) p e in
        let (rest, ends, same) = from_map (λ (rest : List ℕ). ((k.0, array_table), rest)) (after_byte right_bracket k.1) p goes in
        subst SortedExpression same tt
    by_brackets false e = one_bracket (first text == left_bracket) e

line_sorted : (text : List ℕ) (p : Expression × List ℕ) → line text ≡ Some p → SortedExpression p
unfolding line
line_sorted text p e =
    let (q, is, ends) = from_then (λ (q : Expression × List ℕ). cond (ends_line (skip_ws q.1)) (Some q) None) (expression text) p e in
    by_end q is (ends_line (skip_ws q.1)) ends
  where
    by_end : (q : Expression × List ℕ) → expression text ≡ Some q → (b : Bool) → cond b (Some q) None ≡ Some p → SortedExpression p
    by_end q is true e = subst SortedExpression (same_Some q p e) (expression_sorted text q is)
    by_end q is false e = absurd (none-some p e)

lines_sorted : (n : ℕ) (doc result : Document) (text : List ℕ) → SortedDocument doc → lines n doc text ≡ Some result → SortedDocument result
unfolding lines
lines_sorted zero doc result text sorted e = absurd (none-some result e)
lines_sorted (suc n) doc result text sorted e = by_end (lines_sorted n) (length (skip_blank text) == 0) e
  where
    by_end : ((d r : Document) (t : List ℕ) → SortedDocument d → lines n d t ≡ Some r → SortedDocument r)
        → (b : Bool) → cond b (Some doc) (option_and_then (λ (q : Expression × List ℕ). option_and_then (λ (next : Document). lines n next q.1) (define doc q.0)) (line (skip_blank text))) ≡ Some result → SortedDocument result
    by_end rec true e = subst SortedDocument (same_Some doc result e) sorted
    by_end rec false e =
        let (q, is, goes) = from_then (λ (q : Expression × List ℕ). option_and_then (λ (next : Document). lines n next q.1) (define doc q.0)) (line (skip_blank text)) result e in
        let (next, defined, last) = from_then (λ (next : Document). lines n next q.1) (define doc q.0) result goes in
        rec next result q.1 (define_keeps doc next q.0.0 q.0.1 (line_sorted (skip_blank text) q is) sorted defined) last

pub read_is_sorted : (text : List ℕ) (t : Members) → parse_document text ≡ Some t → members_are_sorted t ≡ true
unfolding parse_document
read_is_sorted text t e =
    let (doc, is, same) = from_map (λ (doc : Document). close doc.0) (lines (suc (length text)) (no_nodes, []) (skip_bom text)) t e in
    subst (λ (ms : Members). members_are_sorted ms ≡ true) same (lines_sorted (suc (length text)) (no_nodes, []) doc (skip_bom text) refl is)
