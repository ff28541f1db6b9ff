-- The keys of each table that TOML's definitions build ascend.
use Rattle.std.proofs.Common.{◌≡◌, Less, Equal, Greater, Ordering, is_lt, nat_cmp, ℕ, Bool, true, false, cond, ◌&&◌, List, [], ◌∷◌, Option, Some, None, option_map, option_and_then, refl, ap, ◌∙◌, subst}
use Rattle.std.specs.Ordering.{match_ordering, ordering_reverse}
use Rattle.std.specs.Cmp.Lexicographic.{slice_cmp}
use Rattle.std.proofs.lemmas.Bool.{and_parts, and_from}
use Rattle.std.proofs.lemmas.Cmp.{nat_list_cmp_total}
use Rattle.std.proofs.lemmas.Option.{none-some, same_Some}
use Rattle.toml.specs.Data.{Data, table, Items, no_items, item, Members, no_members, member, same_key, push_item, is_before, is_sorted, items_are_sorted, members_are_sorted}
use Rattle.toml.specs.Tables.{implicit, dotted, header, Node, value, open_table, open_array, Nodes, no_nodes, node, get_node, insert, replace, close, close_node, Edit, header_node, dot_node, by_header, by_dot, along_header, along_dots, Definition, key_value, std_table, array_table, new_node, redefine, at_found, at_key, put, Document, define}
use Rattle.toml_parser.specs.Strings.{Key}

-- ---- what a map or a chain of options came from

pub from_map : {A B : Type 0} (f : A → B) (o : Option A) (y : B) → option_map f o ≡ Some y → (x : A) × (o ≡ Some x) × (f x ≡ y)
from_map f None y e = absurd (none-some y e)
from_map f (Some x) y e = (x, refl, same_Some (f x) y e)

pub from_then : {A B : Type 0} (f : A → Option B) (o : Option A) (y : B) → option_and_then f o ≡ Some y → (x : A) × (o ≡ Some x) × (f x ≡ Some y)
from_then f None y e = absurd (none-some y e)
from_then f (Some x) y e = (x, refl, e)

-- ---- items

pub push_sorted : (ds : Items) (d : Data) → items_are_sorted ds ≡ true → is_sorted d ≡ true → items_are_sorted (push_item ds d) ≡ true
push_sorted no_items d all good = and_from (is_sorted d) true good refl
push_sorted (item e ds) d all good =
    let (here, more) = and_parts (is_sorted e) (items_are_sorted ds) all in
    and_from (is_sorted e) (items_are_sorted (push_item ds d)) here (push_sorted ds d more good)

pushed_parts : (ds : Items) (d : Data) → items_are_sorted (push_item ds d) ≡ true → (items_are_sorted ds ≡ true) × (is_sorted d ≡ true)
pushed_parts no_items d all = (refl, (and_parts (is_sorted d) true all).0)
pushed_parts (item e ds) d all =
    let (here, more) = and_parts (is_sorted e) (items_are_sorted (push_item ds d)) all in
    let (front, last) = pushed_parts ds d more in
    (and_from (is_sorted e) (items_are_sorted ds) here front, last)

-- ---- nodes

-- what the nodes stand for is sorted
abbrev pub Sorted : Nodes → Type 0
Sorted ns = members_are_sorted (close ns) ≡ true

abbrev pub SortedNode : Node → Type 0
SortedNode x = is_sorted (close_node x) ≡ true

member_sorted : (k : List ℕ) (d : Data) (ms : Members) → is_before k ms ≡ true → is_sorted d ≡ true → members_are_sorted ms ≡ true → members_are_sorted (member k d ms) ≡ true
member_sorted k d ms before here more = and_from (is_before k ms && is_sorted d) (members_are_sorted ms) (and_from (is_before k ms) (is_sorted d) before here) more

member_parts : (k : List ℕ) (d : Data) (ms : Members) → members_are_sorted (member k d ms) ≡ true → (is_before k ms ≡ true) × (is_sorted d ≡ true) × (members_are_sorted ms ≡ true)
member_parts k d ms sorted =
    let (front, more) = and_parts (is_before k ms && is_sorted d) (members_are_sorted ms) sorted in
    let (before, here) = and_parts (is_before k ms) (is_sorted d) front in
    (before, here, more)

before_inserted : (l k : List ℕ) (x : Node) (ns : Nodes) → slice_cmp nat_cmp l k ≡ Less → is_before l (close ns) ≡ true → is_before l (close (insert k x ns)) ≡ true
before_inserted l k x no_nodes first before = ap is_lt first
before_inserted l k x (node j y ns) first before = by_order (slice_cmp nat_cmp k j)
  where
    by_order : (o : Ordering) → is_before l (close (match_ordering o (node k x (node j y ns)) (node j x ns) (node j y (insert k x ns)))) ≡ true
    by_order Less = ap is_lt first
    by_order Equal = before
    by_order Greater = before

insert_sorted : (k : List ℕ) (x : Node) (ns : Nodes) → SortedNode x → Sorted ns → Sorted (insert k x ns)
insert_sorted k x no_nodes good sorted = member_sorted k (close_node x) no_members refl good refl
insert_sorted k x (node l y ns) good sorted =
    let (before, here, more) = member_parts l (close_node y) (close ns) sorted in
    by_order (insert_sorted k x ns good more) before here more (slice_cmp nat_cmp k l) refl
  where
    by_order : Sorted (insert k x ns) → is_before l (close ns) ≡ true → SortedNode y → Sorted ns → (o : Ordering) → slice_cmp nat_cmp k l ≡ o
        → Sorted (match_ordering o (node k x (node l y ns)) (node l x ns) (node l y (insert k x ns)))
    by_order later before here more Less is = member_sorted k (close_node x) (close (node l y ns)) (ap is_lt is) good sorted
    by_order later before here more Equal is = member_sorted l (close_node x) (close ns) before good more
    by_order later before here more Greater is =
        let first = nat_list_cmp_total.antisymm l k ∙ ap ordering_reverse is in
        member_sorted l (close_node y) (close (insert k x ns)) (before_inserted l k x ns first before) here later

before_replaced : (l k : List ℕ) (x : Node) (ns : Nodes) → is_before l (close ns) ≡ true → is_before l (close (replace k x ns)) ≡ true
before_replaced l k x no_nodes before = before
before_replaced l k x (node j y ns) before = by_key (same_key k j)
  where
    by_key : (b : Bool) → is_before l (close (cond b (node j x ns) (node j y (replace k x ns)))) ≡ true
    by_key true = before
    by_key false = before

replace_sorted : (k : List ℕ) (x : Node) (ns : Nodes) → SortedNode x → Sorted ns → Sorted (replace k x ns)
replace_sorted k x no_nodes good sorted = sorted
replace_sorted k x (node l y ns) good sorted =
    let (before, here, more) = member_parts l (close_node y) (close ns) sorted in
    by_key (replace_sorted k x ns good more) before here more (same_key k l)
  where
    by_key : Sorted (replace k x ns) → is_before l (close ns) ≡ true → SortedNode y → Sorted ns → (b : Bool) → Sorted (cond b (node l x ns) (node l y (replace k x ns)))
    by_key later before here more true = member_sorted l (close_node x) (close ns) before good more
    by_key later before here more false = member_sorted l (close_node y) (close (replace k x ns)) (before_replaced l k x ns before) here later

found_sorted : (k : List ℕ) (ns : Nodes) (x : Node) → get_node k ns ≡ Some x → Sorted ns → SortedNode x
found_sorted k no_nodes x found sorted = absurd (none-some x found)
found_sorted k (node l y ns) x found sorted =
    let (before, here, more) = member_parts l (close_node y) (close ns) sorted in
    by_key (λ later. found_sorted k ns x later more) here (same_key k l) found
  where
    by_key : (get_node k ns ≡ Some x → SortedNode x) → SortedNode y → (b : Bool) → cond b (Some y) (get_node k ns) ≡ Some x → SortedNode x
    by_key later here true e = subst SortedNode (same_Some y x e) here
    by_key later here false e = later e

-- ---- edits

abbrev pub Keeps : Edit → Type 0
Keeps edit = (ns result : Nodes) → Sorted ns → edit ns ≡ Some result → Sorted result

array_sorted : (done : Items) (last next : Nodes) → SortedNode (open_array done last) → Sorted next → SortedNode (open_array done next)
array_sorted done last next sorted good = push_sorted done (table (close next)) (pushed_parts done (table (close last)) sorted).0 good

header_sorted : (edit : Edit) → Keeps edit → (x y : Node) → SortedNode x → header_node edit x ≡ Some y → SortedNode y
header_sorted edit keeps (value d) y sorted e = absurd (none-some y e)
header_sorted edit keeps (open_table origin inner) y sorted e =
    let (next, is, same) = from_map (open_table origin) (edit inner) y e in
    subst SortedNode same (keeps inner next sorted is)
header_sorted edit keeps (open_array done last) y sorted e =
    let (next, is, same) = from_map (open_array done) (edit last) y e in
    subst SortedNode same (array_sorted done last next sorted (keeps last next (pushed_parts done (table (close last)) sorted).1 is))

dot_sorted : (edit : Edit) → Keeps edit → (x y : Node) → SortedNode x → dot_node edit x ≡ Some y → SortedNode y
dot_sorted edit keeps (value d) y sorted e = absurd (none-some y e)
dot_sorted edit keeps (open_table header inner) y sorted e = absurd (none-some y e)
dot_sorted edit keeps (open_table implicit inner) y sorted e =
    let (next, is, same) = from_map (open_table dotted) (edit inner) y e in
    subst SortedNode same (keeps inner next sorted is)
dot_sorted edit keeps (open_table dotted inner) y sorted e =
    let (next, is, same) = from_map (open_table dotted) (edit inner) y e in
    subst SortedNode same (keeps inner next sorted is)
dot_sorted edit keeps (open_array done last) y sorted e = absurd (none-some y e)

pub along_header_keeps : (path : List (List ℕ)) (edit : Edit) → Keeps edit → Keeps (along_header path edit)
unfolding along_header
along_header_keeps [] edit keeps ns result sorted e = keeps ns result sorted e
along_header_keeps (k ∷ path) edit keeps ns result sorted e = by_found (along_header_keeps path edit keeps) (get_node k ns) refl e
  where
    by_found : Keeps (along_header path edit) → (o : Option Node) → get_node k ns ≡ o → by_header k (along_header path edit) ns o ≡ Some result → Sorted result
    by_found rest None none e =
        let (new, is, same) = from_map (λ new. insert k (open_table implicit new) ns) (along_header path edit no_nodes) result e in
        subst Sorted same (insert_sorted k (open_table implicit new) ns (rest no_nodes new refl is) sorted)
    by_found rest (Some x) found e =
        let (new, is, same) = from_map (λ new. replace k new ns) (header_node (along_header path edit) x) result e in
        subst Sorted same (replace_sorted k new ns (header_sorted (along_header path edit) rest x new (found_sorted k ns x found sorted) is) sorted)

along_dots_keeps : (path : List (List ℕ)) (edit : Edit) → Keeps edit → Keeps (along_dots path edit)
unfolding along_dots
along_dots_keeps [] edit keeps ns result sorted e = keeps ns result sorted e
along_dots_keeps (k ∷ path) edit keeps ns result sorted e = by_found (along_dots_keeps path edit keeps) (get_node k ns) refl e
  where
    by_found : Keeps (along_dots path edit) → (o : Option Node) → get_node k ns ≡ o → by_dot k (along_dots path edit) ns o ≡ Some result → Sorted result
    by_found rest None none e =
        let (new, is, same) = from_map (λ new. insert k (open_table dotted new) ns) (along_dots path edit no_nodes) result e in
        subst Sorted same (insert_sorted k (open_table dotted new) ns (rest no_nodes new refl is) sorted)
    by_found rest (Some x) found e =
        let (new, is, same) = from_map (λ new. replace k new ns) (dot_node (along_dots path edit) x) result e in
        subst Sorted same (replace_sorted k new ns (dot_sorted (along_dots path edit) rest x new (found_sorted k ns x found sorted) is) sorted)

-- ---- definitions

abbrev pub IsSortedIn : Definition → Type 0
IsSortedIn (key_value d) = is_sorted d ≡ true
IsSortedIn std_table = Unit {0}
IsSortedIn array_table = Unit {0}

new_sorted : (what : Definition) → IsSortedIn what → SortedNode (new_node what)
new_sorted (key_value d) good = good
new_sorted std_table good = refl
new_sorted array_table good = refl

redefined_sorted : (what : Definition) (x y : Node) → SortedNode x → redefine what x ≡ Some y → SortedNode y
redefined_sorted (key_value d) x y sorted e = absurd (none-some y e)
redefined_sorted std_table (value d) y sorted e = absurd (none-some y e)
redefined_sorted std_table (open_table implicit inner) y sorted e = subst SortedNode (same_Some (open_table header inner) y e) sorted
redefined_sorted std_table (open_table dotted inner) y sorted e = absurd (none-some y e)
redefined_sorted std_table (open_table header inner) y sorted e = absurd (none-some y e)
redefined_sorted std_table (open_array done last) y sorted e = absurd (none-some y e)
redefined_sorted array_table (value d) y sorted e = absurd (none-some y e)
redefined_sorted array_table (open_table origin inner) y sorted e = absurd (none-some y e)
redefined_sorted array_table (open_array done last) y sorted e =
    subst SortedNode (same_Some (open_array (push_item done (table (close last))) no_nodes) y e) (push_sorted (push_item done (table (close last))) (table no_members) sorted refl)

at_key_keeps : (k : List ℕ) (what : Definition) → IsSortedIn what → Keeps (at_key k what)
unfolding at_key
at_key_keeps k what good ns result sorted e = by_found (get_node k ns) refl e
  where
    by_found : (o : Option Node) → get_node k ns ≡ o → at_found k what ns o ≡ Some result → Sorted result
    by_found None none e = subst Sorted (same_Some (insert k (new_node what) ns) result e) (insert_sorted k (new_node what) ns (new_sorted what good) sorted)
    by_found (Some x) found e =
        let (new, is, same) = from_map (λ y. replace k y ns) (redefine what x) result e in
        subst Sorted same (replace_sorted k new ns (redefined_sorted what x new (found_sorted k ns x found sorted) is) sorted)

pub put_keeps : (key : Key) (d : Data) → is_sorted d ≡ true → Keeps (put key d)
put_keeps key d good = along_dots_keeps key.0 (at_key key.1 (key_value d)) (at_key_keeps key.1 (key_value d) good)

abbrev pub SortedDocument : Document → Type 0
SortedDocument doc = Sorted doc.0

at_root : (doc next : Document) (key : Key) (edit : Edit) (section : List (List ℕ)) → Keeps edit → SortedDocument doc
    → option_map (λ root. (root, section)) (edit doc.0) ≡ Some next → SortedDocument next
at_root doc next key edit section keeps sorted e =
    let (root, is, same) = from_map (λ root. (root, section)) (edit doc.0) next e in
    subst SortedDocument same (keeps doc.0 root sorted is)

pub define_keeps : (doc next : Document) (key : Key) (what : Definition) → IsSortedIn what → SortedDocument doc → define doc (key, what) ≡ Some next → SortedDocument next
unfolding define
define_keeps doc next key (key_value d) good sorted e =
    at_root doc next key (along_header doc.1 (put key d)) doc.1 (along_header_keeps doc.1 (put key d) (put_keeps key d good)) sorted e
define_keeps doc next key std_table good sorted e =
    at_root doc next key (along_header key.0 (at_key key.1 std_table)) _ (along_header_keeps key.0 (at_key key.1 std_table) (at_key_keeps key.1 std_table good)) sorted e
define_keeps doc next key array_table good sorted e =
    at_root doc next key (along_header key.0 (at_key key.1 array_table)) _ (along_header_keeps key.0 (at_key key.1 array_table) (at_key_keeps key.1 array_table good)) sorted e
