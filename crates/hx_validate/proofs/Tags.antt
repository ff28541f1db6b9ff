-- Entity tags are read by their grammar, and compare both ways.
use Rattle.std.proofs.Common.{◌≡◌, ℕ, suc, ◌+◌, ◌-◌, ◌<◌, ◌≤◌, nat_le, Bool, true, false, not, ◌&&◌, List, [], ◌∷◌, ◌++◌, length, take, drop, get_or, cond, refl, sym, ◌∙◌, ap, codes, arith, length-append, None, Some}
use Rattle.std.specs.Prelude.{Option, bytes_eq, option_map, slice_index}
use Rattle.std.specs.List.{list_all}
use Rattle.std.proofs.Math.Seq.{get_or-append_seam, take-append_seam, take-suc}
use Rattle.std.proofs.lemmas.Bool.{and_parts, eqb-true, leb-true}
use Rattle.std.proofs.lemmas.Bool.Decides.{nat_tests}
use Rattle.std.proofs.lemmas.List.{take_all, take-append-drop}
use Rattle.std.proofs.lemmas.Option.{same_Some}
use Rattle.std.proofs.lemmas.Slice.Eq.{bytes_eq-Decides}
use Rattle.hx_validate.specs.EntityTags.{EntityTagParts, both_are_tags_that_compare, without_first_and_last, is_opaque_tag, is_tag_byte, opaque_tag_of, are_strongly_equal, entity_tag_of, tagged, are_weakly_equal}
use Rattle.hx_validate.specs.TagsAndFreshening.{EqualityIsSymmetric, EachEntityTagSpellingIsRead, EntityTagIsOfTheGrammar, StrongEqualityImpliesWeak, entity_tag_text, weak_prefix}
use Rattle.hx_validate.proofs.Lines.{bytes_eq-sym}

-- an opaque tag
abbrev quoted : List ℕ → List ℕ
quoted opaque = 34 ∷ opaque ++ 34 ∷ []

length-quoted : (o : List ℕ) → length (quoted o) ≡ length o + 2
length-quoted o = omega (arith, length-append (34 ∷ o) (34 ∷ []))

inside-quoted : (o : List ℕ) → without_first_and_last (quoted o) ≡ o
inside-quoted o =
    let n : length (quoted o) - 1 - 1 ≡ length o = omega (arith, length-quoted o) in
    rw n (take-append_seam o (34 ∷ []))

last-quoted : (o : List ℕ) → slice_index (quoted o) (length (quoted o) - 1) ≡ 34
last-quoted o =
    let n : length (quoted o) - 1 ≡ length (34 ∷ o) = omega (arith, length-quoted o) in
    rw n (get_or-append_seam (34 ∷ o) 34 [] 0)

opaque_of-quoted : (o : List ℕ) → list_all is_tag_byte o ≡ true → opaque_tag_of (quoted o) ≡ Some o
opaque_of-quoted o h =
    let long : nat_le 2 (length (quoted o)) ≡ true = grind (arith, nat_tests, length-quoted o) in
    rw (long, last-quoted o, inside-quoted o, h) refl

reads_by : (weak : Bool) (o : List ℕ) → list_all is_tag_byte o ≡ true → entity_tag_of (entity_tag_text (tagged weak o)) ≡ Some (tagged weak o)
reads_by true o h = ap (option_map (tagged true)) (opaque_of-quoted o h)
reads_by false o h = ap (option_map (tagged false)) (opaque_of-quoted o h)

pub reads_each_tag : EachEntityTagSpellingIsRead
reads_each_tag tag h = reads_by tag.weak tag.opaque h

-- a text of two bytes at least is its first, what stands between, and its last
front_and_last : (t : List ℕ) → 1 ≤ length t → take (length t - 1) t ++ get_or t (length t - 1) 0 ∷ [] ≡ t
front_and_last t h =
    let n : suc (length t - 1) ≡ length t = omega arith in
    let one : length t - 1 < length t = omega arith in
    sym (take-suc t (length t - 1) 0 one) ∙ (rw n (take_all (length t) t (omega arith)))

requoted : (text : List ℕ) → 2 ≤ length text → slice_index text 0 ≡ 34 → slice_index text (length text - 1) ≡ 34 → text ≡ quoted (without_first_and_last text)
requoted [] h first last = absurd (omega arith)
requoted (x ∷ t) h first last =
    let long : 1 ≤ length t = omega arith in
    let n : length (x ∷ t) - 1 ≡ suc (length t - 1) = omega arith in
    let m : length (x ∷ t) - 1 - 1 ≡ length t - 1 = omega arith in
    let end : get_or t (length t - 1) 0 ≡ 34 = rw n at last in
    sym (rw (m, first) (ap (λ u. 34 ∷ u) (ap (λ b. take (length t - 1) t ++ b ∷ []) (sym end) ∙ front_and_last t long)))

opaque_by : (text o : List ℕ) (t : Bool) → is_opaque_tag text ≡ t → cond t (Some (without_first_and_last text)) None ≡ Some o → (text ≡ quoted o) × (list_all is_tag_byte o ≡ true)
opaque_by text o false e h = cc
opaque_by text o true e h =
    let same = same_Some (without_first_and_last text) o h in
    let all = and_parts _ _ e in
    let ends = and_parts _ _ all.0 in
    let starts = and_parts _ _ ends.0 in
    (requoted text (leb-true _ _ starts.0) (eqb-true _ _ starts.1) (eqb-true _ _ ends.1) ∙ ap quoted same, ap (list_all is_tag_byte) (sym same) ∙ all.1)

opaque_is : (text o : List ℕ) → opaque_tag_of text ≡ Some o → (text ≡ quoted o) × (list_all is_tag_byte o ≡ true)
opaque_is text o h = opaque_by text o (is_opaque_tag text) refl h

with_tag : (weak : Bool) (text : List ℕ) (found : Option (List ℕ)) (tag : EntityTagParts) → opaque_tag_of text ≡ found → option_map (tagged weak) found ≡ Some tag
    → (weak ≡ tag.weak) × (text ≡ quoted tag.opaque) × (list_all is_tag_byte tag.opaque ≡ true)
with_tag weak text None tag e h = cc
with_tag weak text (Some o) tag e h =
    let same : tagged weak o ≡ tag = same_Some (tagged weak o) tag h in
    let is = opaque_is text o e in
    let opaque : o ≡ tag.opaque = ap (λ t. t.opaque) same in
    (ap (λ t. t.weak) same, is.0 ∙ ap quoted opaque, ap (list_all is_tag_byte) (sym opaque) ∙ is.1)

by_front : (text : List ℕ) (tag : EntityTagParts) (t : Bool) → bytes_eq (take 2 text) (codes "W/") ≡ t
    → cond t (option_map (tagged true) (opaque_tag_of (drop 2 text))) (option_map (tagged false) (opaque_tag_of text)) ≡ Some tag
    → (text ≡ entity_tag_text tag) × (list_all is_tag_byte tag.opaque ≡ true)
by_front text tag true e h =
    let found = with_tag true (drop 2 text) (opaque_tag_of (drop 2 text)) tag refl h in
    let front : take 2 text ≡ codes "W/" = (bytes_eq-Decides _ _).0 e in
    (sym (take-append-drop 2 text) ∙ ap (λ f. f ++ drop 2 text) front ∙ ap (λ b. codes "W/" ++ b) found.1 ∙ ap (λ w. weak_prefix w ++ 34 ∷ tag.opaque ++ 34 ∷ []) found.0, found.2)
by_front text tag false e h =
    let found = with_tag false text (opaque_tag_of text) tag refl h in
    (found.1 ∙ ap (λ w. weak_prefix w ++ 34 ∷ tag.opaque ++ 34 ∷ []) found.0, found.2)

pub reads_the_grammar : EntityTagIsOfTheGrammar
reads_the_grammar text tag h = by_front text tag (bytes_eq (take 2 text) (codes "W/")) refl h

narrower : (s t : Option EntityTagParts) → both_are_tags_that_compare are_strongly_equal s t ≡ true → both_are_tags_that_compare are_weakly_equal s t ≡ true
narrower None t h = cc
narrower (Some a) None h = cc
narrower (Some a) (Some b) h = (and_parts _ _ h).1

pub strong_is_weak : StrongEqualityImpliesWeak
strong_is_weak a b h = narrower (entity_tag_of a) (entity_tag_of b) h

strong_turned : (v w : Bool) (e f : Bool) → e ≡ f → (not v && not w && e) ≡ (not w && not v && f)
strong_turned true true e f same = refl
strong_turned true false e f same = refl
strong_turned false true e f same = refl
strong_turned false false e f same = same

turned : (s t : Option EntityTagParts) → (both_are_tags_that_compare are_strongly_equal s t ≡ both_are_tags_that_compare are_strongly_equal t s) × (both_are_tags_that_compare are_weakly_equal s t ≡ both_are_tags_that_compare are_weakly_equal t s)
turned None None = (refl, refl)
turned None (Some b) = (refl, refl)
turned (Some a) None = (refl, refl)
turned (Some a) (Some b) = (strong_turned a.weak b.weak _ _ (bytes_eq-sym a.opaque b.opaque), bytes_eq-sym a.opaque b.opaque)

pub compares_both_ways : EqualityIsSymmetric
compares_both_ways a b = turned (entity_tag_of a) (entity_tag_of b)
