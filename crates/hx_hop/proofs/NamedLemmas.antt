-- Names of lines that members of Connection give.
use Rattle.std.proofs.Common.{◌≡◌, ℕ, suc, ◌+◌, ◌<◌, ◌++◌, length, get_or, drop, map, add-one, Bool, true, false, not, cond, ◌||◌, List, [], ◌∷◌, Option, None, Some, refl, sym, ◌∙◌, ap, BTreeMap, codes}
use Rattle.std.specs.Prelude.{filter, bytes_eq}
use Rattle.std.specs.List.{list_any}
use Rattle.std.specs.BTreeMap.{get, is_at}
use Rattle.std.proofs.Math.Seq.{drop-cons}
use Rattle.std.proofs.lemmas.Bool.{false≢true, or_left, or_right}
use Rattle.std.proofs.lemmas.List.Folds.{list_any-append}
use Rattle.std.proofs.lemmas.Slice.Eq.{bytes_eq-Decides}
use Rattle.hx_fields.specs.Folded.{folded, folded_names_cmp, folded_cmp_ties_are_equal}
use Rattle.hx_fields.specs.FieldLines.{is_named, members_of}
use Rattle.hx_fields.specs.Names.{is_same_name, joined_lists, members_of_value}
use Rattle.hx_fields.specs.Line.{Field}
use Rattle.hx_hop.specs.Stripping.{caching_field_names, connection_has_option, name_is_among, is_hop_by_hop_line, is_hop_by_hop_name, connection_names_caching_field, stripped}
use Rattle.hx_hop.specs.NamedLines.{AllSoughtNamesAreUnmarked, NamesThatPassAreMarked, members_have_folded_name, is_line_name_or_close, is_present_and_marked, is_present_and_unmarked, mark_after_naming, connection_has_folded_option, name_is_present}

abbrev pub Marked : Type 0
Marked = BTreeMap (List ℕ) Bool

-- ---- cache names among members, or members among cache names

abbrev pub any_is_cache_name : List (List ℕ) → Bool
any_is_cache_name members = list_any (λ member. list_any (is_same_name member) caching_field_names) members

none_of_all : {X : Type 0} (xs : List X) → list_any (λ x. false) xs ≡ false
none_of_all [] = refl
none_of_all (x ∷ xs) = none_of_all xs

either_way : (a b c d : Bool) → ((a || b) || (c || d)) ≡ ((a || c) || (b || d))
either_way true b c d = refl
either_way false true true d = refl
either_way false true false d = refl
either_way false false true d = refl
either_way false false false d = refl

either_of : {X : Type 0} (p q : X → Bool) (xs : List X) → list_any (λ x. p x || q x) xs ≡ (list_any p xs || list_any q xs)
either_of p q [] = refl
either_of p q (x ∷ xs) = ap (λ b. (p x || q x) || b) (either_of p q xs) ∙ either_way (p x) (q x) (list_any p xs) (list_any q xs)

swapped : (names members : List (List ℕ)) → list_any (λ name. name_is_among members name) names ≡ list_any (λ member. list_any (is_same_name member) names) members
swapped names [] = none_of_all names
swapped names (member ∷ members) =
    either_of (is_same_name member) (λ name. name_is_among members name) names ∙ ap (λ b. list_any (is_same_name member) names || b) (swapped names members)

pub lists_by_members : (fields : List Field) → any_is_cache_name (members_of fields (codes "Connection")) ≡ connection_names_caching_field fields
lists_by_members fields = sym (swapped caching_field_names (members_of fields (codes "Connection")))

-- ---- the names of lines

one : (a b : List ℕ) → bytes_eq a b ≡ true → a ≡ b
one a b h = (bytes_eq-Decides a b).0 h

pub at_name : {X : Type 0} (name : List ℕ) (v : X) (old new : BTreeMap (List ℕ) X) →
    ((q : List ℕ) → get folded_names_cmp new q ≡ cond (is_at (folded_names_cmp name) q) (Some v) (get folded_names_cmp old q)) →
    (q : List ℕ) → get folded_names_cmp new q ≡ cond (bytes_eq name q) (Some v) (get folded_names_cmp old q)
at_name name v old new h q = h q ∙ ap (λ b. cond b (Some v) (get folded_names_cmp old q)) (sym (folded_cmp_ties_are_equal name q))

by_put : (s n c : Bool) (g : Option Bool) → g ≡ cond (s || c) (Some false) None → cond n (Some false) g ≡ cond ((s || (n || false)) || c) (Some false) None
by_put true true c g h = refl
by_put true false c g h = h
by_put false true c g h = refl
by_put false false c g h = h

pub one_name_more : (done : List Field) (line : Field) (old new : Marked) →
    ((q : List ℕ) → get folded_names_cmp new q ≡ cond (is_at (folded_names_cmp (folded line.name)) q) (Some false) (get folded_names_cmp old q)) →
    AllSoughtNamesAreUnmarked done old → AllSoughtNamesAreUnmarked (done ++ line ∷ []) new
one_name_more done line old new u h q =
    let close = bytes_eq (folded (codes "close")) q in
    at_name (folded line.name) false old new u q
    ∙ by_put (name_is_present done q) (bytes_eq (folded line.name) q) close (get folded_names_cmp old q) (h q)
    ∙ sym (ap (λ b. cond (b || close) (Some false) None) (list_any-append (λ (l : Field). bytes_eq (folded l.name) q) done (line ∷ [])))

pub close_alone : (old new : Marked) → ((q : List ℕ) → get folded_names_cmp old q ≡ None) →
    ((q : List ℕ) → get folded_names_cmp new q ≡ cond (is_at (folded_names_cmp (folded (codes "close"))) q) (Some false) (get folded_names_cmp old q)) → AllSoughtNamesAreUnmarked [] new
close_alone old new none u q =
    at_name (folded (codes "close")) false old new u q
    ∙ ap (λ (g : Option Bool). cond (bytes_eq (folded (codes "close")) q) (Some false) g) (none q)

-- ---- marks

-- what members that are left mark of what there is, is what all mark of what there was
abbrev pub MarksOn : (List ℕ → Bool) → Marked → (List ℕ → Bool) → Marked → Type 0
MarksOn left now all start = (q : List ℕ) → mark_after_naming (left q) (get folded_names_cmp now q) ≡ mark_after_naming (all q) (get folded_names_cmp start q)

unmarked_is : (g : Option Bool) → is_present_and_unmarked g ≡ true → g ≡ Some false
unmarked_is None h = absurd (false≢true h)
unmarked_is (Some true) h = absurd (false≢true h)
unmarked_is (Some false) h = refl

nothing_marks : (g : Option Bool) → mark_after_naming false g ≡ g
nothing_marks None = refl
nothing_marks (Some true) = refl
nothing_marks (Some false) = refl

-- a member marks the name that it is
pub member_marks : (member : List ℕ) (old new : Marked) → is_present_and_unmarked (get folded_names_cmp old (folded member)) ≡ true →
    ((q : List ℕ) → get folded_names_cmp new q ≡ cond (is_at (folded_names_cmp (folded member)) q) (Some true) (get folded_names_cmp old q)) →
    NamesThatPassAreMarked (bytes_eq (folded member)) old new
member_marks member old new un u q =
    at_name (folded member) true old new u q
    ∙ sets (bytes_eq (folded member) q) (get folded_names_cmp old q)
    (λ n. ap (get folded_names_cmp old) (sym (one (folded member) q n)) ∙ unmarked_is (get folded_names_cmp old (folded member)) un)
  where
    sets : (n : Bool) (g : Option Bool) → (n ≡ true → g ≡ Some false) → cond n (Some true) g ≡ mark_after_naming n g
    sets true g h = sym (ap (mark_after_naming true) (h refl))
    sets false g h = sym (nothing_marks g)

-- one that is no line's name, or was marked, changes nothing
pub member_passes : (member : List ℕ) (old : Marked) → is_present_and_unmarked (get folded_names_cmp old (folded member)) ≡ false → NamesThatPassAreMarked (bytes_eq (folded member)) old old
member_passes member old un q = sym (stays (bytes_eq (folded member) q) (get folded_names_cmp old q) (λ n. ap (λ z. is_present_and_unmarked (get folded_names_cmp old z)) (sym (one (folded member) q n)) ∙ un))
  where
    stays : (n : Bool) (g : Option Bool) → (n ≡ true → is_present_and_unmarked g ≡ false) → mark_after_naming n g ≡ g
    stays true None h = refl
    stays true (Some true) h = refl
    stays true (Some false) h = absurd (false≢true (sym (h refl)))
    stays false g h = nothing_marks g

pub all_marked : (all : List ℕ → Bool) (start now : Marked) → MarksOn (members_have_folded_name []) now all start → NamesThatPassAreMarked all start now
all_marked all start now h q = sym (nothing_marks (get folded_names_cmp now q)) ∙ h q

twice : (a b : Bool) (g : Option Bool) → mark_after_naming b (mark_after_naming a g) ≡ mark_after_naming (a || b) g
twice a b None = refl
twice true b (Some true) = refl
twice true b (Some false) = refl
twice false b (Some true) = refl
twice false b (Some false) = refl

-- one member marks before those behind it
pub one_marks : (member : List ℕ) (behind : List (List ℕ)) (all : List ℕ → Bool) (start old new : Marked) → NamesThatPassAreMarked (bytes_eq (folded member)) old new →
    MarksOn (members_have_folded_name (member ∷ behind)) old all start → MarksOn (members_have_folded_name behind) new all start
one_marks member behind all start old new m h q =
    ap (mark_after_naming (members_have_folded_name behind q)) (m q) ∙ twice (bytes_eq (folded member) q) (members_have_folded_name behind q) (get folded_names_cmp old q) ∙ h q

-- the members of a line mark before those behind it
pub line_marks : (members behind : List (List ℕ)) (all : List ℕ → Bool) (start old new : Marked) → NamesThatPassAreMarked (members_have_folded_name members) old new →
    MarksOn (members_have_folded_name (members ++ behind)) old all start → MarksOn (members_have_folded_name behind) new all start
line_marks members behind all start old new m h q =
    ap (mark_after_naming (members_have_folded_name behind q)) (m q)
    ∙ twice (members_have_folded_name members q) (members_have_folded_name behind q) (get folded_names_cmp old q)
    ∙ ap (λ b. mark_after_naming b (get folded_names_cmp old q)) (sym (list_any-append (λ (n : List ℕ). bytes_eq (folded n) q) members behind))
    ∙ h q

-- the members of a name, line by line
at_line : (fields : List Field) (i : ℕ) (line : Field) → line ≡ get_or fields i line → i < length fields → drop i fields ≡ line ∷ drop (i + 1) fields
at_line fields i line is at = rw add-one (drop-cons fields i line at ∙ ap (λ l. l ∷ drop (suc i) fields) (sym is))

by_name : Bool → Field → List Field → List (List ℕ)
by_name b line lines = joined_lists (map members_of_value (map (λ (f : Field). f.value) (cond b (line ∷ filter (is_named (codes "Connection")) lines) (filter (is_named (codes "Connection")) lines))))

module _ (fields : List Field) (i : ℕ) (line : Field) (is : line ≡ get_or fields i line) (at : i < length fields) where
  pub members_here : is_same_name line.name (codes "Connection") ≡ true →
      members_of (drop i fields) (codes "Connection") ≡ members_of_value line.value ++ members_of (drop (i + 1) fields) (codes "Connection")
  unfolding by_name
  members_here h = ap (λ lines. members_of lines (codes "Connection")) (at_line fields i line is at) ∙ ap (λ b. by_name b line (drop (i + 1) fields)) h

  pub no_members_here : is_same_name line.name (codes "Connection") ≡ false → members_of (drop i fields) (codes "Connection") ≡ members_of (drop (i + 1) fields) (codes "Connection")
  unfolding by_name
  no_members_here h = ap (λ lines. members_of lines (codes "Connection")) (at_line fields i line is at) ∙ ap (λ b. by_name b line (drop (i + 1) fields)) h

-- ---- what is kept

marked_line : (there given : Bool) → there ≡ true → is_present_and_marked (mark_after_naming given (cond there (Some false) None)) ≡ given
marked_line true given h = refl
marked_line false given h = absurd (false≢true h)

kept_alike : (all rest : List Field) (names : Marked) → ((q : List ℕ) → get folded_names_cmp names q ≡ mark_after_naming (connection_has_folded_option all q) (cond (is_line_name_or_close all q) (Some false) None)) →
    ((q : List ℕ) → name_is_present rest q ≡ true → is_line_name_or_close all q ≡ true) →
    filter (λ (line : Field). not (is_hop_by_hop_name line.name || is_present_and_marked (get folded_names_cmp names (folded line.name)))) rest ≡ filter (λ line. not (is_hop_by_hop_line all line)) rest
kept_alike all [] names h within = refl
kept_alike all (line ∷ lines) names h within =
    let q = folded line.name in
    let p : Field → Bool = λ l. not (is_hop_by_hop_name l.name || is_present_and_marked (get folded_names_cmp names (folded l.name))) in
    let more = kept_alike all lines names h (λ z e. within z (or_right (bytes_eq (folded line.name) z) (name_is_present lines z) e)) in
    let there = within q (or_left (bytes_eq q q) (name_is_present lines q) ((bytes_eq-Decides q q).1 refl)) in
    let same : is_present_and_marked (get folded_names_cmp names q) ≡ connection_has_option all line.name = ap is_present_and_marked (h q) ∙ marked_line (is_line_name_or_close all q) (connection_has_folded_option all q) there in
    ap (λ b. cond (not (is_hop_by_hop_name line.name || b)) (line ∷ filter p lines) (filter p lines)) same
    ∙ ap (λ zs. cond (not (is_hop_by_hop_line all line)) (line ∷ zs) zs) more

module _ (fields : List Field) (start names : Marked) (l : AllSoughtNamesAreUnmarked fields start) (m : NamesThatPassAreMarked (connection_has_folded_option fields) start names) where
  marked_at : (q : List ℕ) → get folded_names_cmp names q ≡ mark_after_naming (connection_has_folded_option fields q) (cond (is_line_name_or_close fields q) (Some false) None)
  marked_at q = m q ∙ ap (mark_after_naming (connection_has_folded_option fields q)) (l q)

  pub keeps_stripped : filter (λ (line : Field). not (is_hop_by_hop_name line.name || is_present_and_marked (get folded_names_cmp names (folded line.name)))) fields ≡ stripped fields
  keeps_stripped = kept_alike fields fields names marked_at (λ q e. or_left (name_is_present fields q) (bytes_eq (folded (codes "close")) q) e)

  pub tells_close : is_present_and_marked (get folded_names_cmp names (folded (codes "close"))) ≡ connection_has_option fields (codes "close")
  tells_close =
      let q = folded (codes "close") in
      ap is_present_and_marked (marked_at q)
      ∙ marked_line (is_line_name_or_close fields q) (connection_has_folded_option fields q) (or_right (name_is_present fields q) (bytes_eq q q) ((bytes_eq-Decides q q).1 refl))
