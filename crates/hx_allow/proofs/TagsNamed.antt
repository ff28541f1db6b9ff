-- Which tags are named, one member after the other.
use Rattle.std.proofs.Common.{◌≡◌, ◌⊎◌, ℕ, ◌+◌, ◌-◌, ◌<◌, Bool, true, false, ◌||◌, eqb, ltb, cond, zero, suc, Option, None, Some, List, [], ◌∷◌, ◌++◌, length, filter, map, refl, sym, ◌∙◌, ap, arith, inl, inr}
use Rattle.std.specs.Prelude.{bytes_eq, is_none, is_some, not, codes, Decides}
use Rattle.std.specs.List.{list_any, Contains}
use Rattle.std.specs.Option.{option_and_then}
use Rattle.std.specs.Cmp.Lexicographic.{nat_list_eq_equiv}
use Rattle.std.proofs.lemmas.Bool.{or_cases, or_left, or_right, ltb-true, lt-ltb, eqb-true, false≢true}
use Rattle.std.proofs.lemmas.Bool.Decides.{nat_tests}
use Rattle.std.proofs.lemmas.Map.Views.{list_any-from_Contains, Contains-from_any}
use Rattle.std.proofs.lemmas.Slice.Eq.{bytes_eq-Decides}
use Rattle.hx_fields.specs.Line.{Field}
use Rattle.hx_fields.specs.FieldLines.{is_named}
use Rattle.hx_fields.specs.Names.{members_of_value, joined_lists}
use Rattle.hx_allow.specs.Tags.{comparisons_left_unless_found, comparisons_left_behind_fields, response_names_tag, cache_tags_of}

behind_both : (tag : List ℕ) (left : ℕ) (xs ys : List (List ℕ)) → comparisons_left_unless_found tag left (xs ++ ys) ≡ option_and_then (λ still. comparisons_left_unless_found tag still ys) (comparisons_left_unless_found tag left xs)
behind_both tag left [] ys = refl
behind_both tag left (x ∷ xs) ys = by_test (eqb left 0 || bytes_eq tag x) (behind_both tag (left - 1) xs ys)
  where
    by_test : (b : Bool) → comparisons_left_unless_found tag (left - 1) (xs ++ ys) ≡ option_and_then (λ still. comparisons_left_unless_found tag still ys) (comparisons_left_unless_found tag (left - 1) xs)
        → cond b None (comparisons_left_unless_found tag (left - 1) (xs ++ ys)) ≡ option_and_then (λ still. comparisons_left_unless_found tag still ys) (cond b None (comparisons_left_unless_found tag (left - 1) xs))
    by_test true later = refl
    by_test false later = later

each_alike : (tag : List ℕ) (fields : List Field) → ((left : ℕ) → comparisons_left_behind_fields tag left fields ≡ comparisons_left_unless_found tag left (cache_tags_of fields)) → (o : Option ℕ) →
    option_and_then (λ still. comparisons_left_behind_fields tag still fields) o ≡ option_and_then (λ still. comparisons_left_unless_found tag still (cache_tags_of fields)) o
each_alike tag fields same None = refl
each_alike tag fields same (Some left) = same left

-- over the lines as over all members
by_lines : (tag : List ℕ) (left : ℕ) (fields : List Field) → comparisons_left_behind_fields tag left fields ≡ comparisons_left_unless_found tag left (cache_tags_of fields)
by_lines tag left [] = refl
by_lines tag left (f ∷ fields) = by_name (is_named (codes "Cache-Tag") f) (each_alike tag fields (λ still. by_lines tag still fields) (comparisons_left_unless_found tag left (members_of_value f.value))) (by_lines tag left fields)
  where
    others : List Field
    others = filter (is_named (codes "Cache-Tag")) fields

    by_name : (b : Bool) → option_and_then (λ still. comparisons_left_behind_fields tag still fields) (comparisons_left_unless_found tag left (members_of_value f.value)) ≡ option_and_then (λ still. comparisons_left_unless_found tag still (cache_tags_of fields)) (comparisons_left_unless_found tag left (members_of_value f.value))
        → comparisons_left_behind_fields tag left fields ≡ comparisons_left_unless_found tag left (cache_tags_of fields)
        → cond b (option_and_then (λ still. comparisons_left_behind_fields tag still fields) (comparisons_left_unless_found tag left (members_of_value f.value))) (comparisons_left_behind_fields tag left fields)
        ≡ comparisons_left_unless_found tag left (joined_lists (map members_of_value (map (λ (g : Field). g.value) (cond b (f ∷ others) others))))
    by_name true named rest = named ∙ sym (behind_both tag left (members_of_value f.value) (cache_tags_of fields))
    by_name false named rest = rest

or_true : (b : Bool) → (b || true) ≡ true
or_true true = refl
or_true false = refl

-- a test that fails
test_fails : (n m : ℕ) → (n < m → ⊥) → ltb n m ≡ false
test_fails n m never = by_test (ltb n m) refl
  where
    by_test : (b : Bool) → ltb n m ≡ b → ltb n m ≡ false
    by_test true is = absurd (never (ltb-true n m is))
    by_test false is = is

none_below : (n : ℕ) → ltb (suc n) 0 ≡ false
none_below n = test_fails (suc n) 0 (λ less. omega arith)

one_is_left : (n : ℕ) → eqb (suc n) 0 ≡ false
one_is_left n = by_test (eqb (suc n) 0) refl
  where
    by_test : (b : Bool) → eqb (suc n) 0 ≡ b → eqb (suc n) 0 ≡ false
    by_test true is = let same : suc n ≡ 0 = eqb-true (suc n) 0 is in absurd (omega arith)
    by_test false is = is

-- and one that is as that of numbers which are one less
one_less : (n m : ℕ) → ltb (suc n) (suc m) ≡ ltb n m
one_less n m = by_test (ltb n m) refl
  where
    by_test : (b : Bool) → ltb n m ≡ b → ltb (suc n) (suc m) ≡ ltb n m
    by_test true is = let less : n < m = ltb-true n m is in lt-ltb (suc n) (suc m) (omega arith) ∙ sym is
    by_test false is = test_fails (suc n) (suc m) (λ less. false≢true (sym is ∙ lt-ltb n m (omega arith))) ∙ sym is

-- they are too many, or one is the tag
too_many_or_named : (tag : List ℕ) (left : ℕ) (members : List (List ℕ)) → is_none (comparisons_left_unless_found tag left members) ≡ (ltb left (length members) || list_any (bytes_eq tag) members)
too_many_or_named tag zero [] = refl
too_many_or_named tag (suc left) [] = ap (λ b. b || false) (sym (none_below left))
too_many_or_named tag zero (m ∷ members) = sym (ap (λ b. b || list_any (bytes_eq tag) (m ∷ members)) (lt-ltb 0 (length (m ∷ members)) (omega arith)))
too_many_or_named tag (suc left) (m ∷ members) =
    let less : suc left - 1 ≡ left = omega arith in
    ap (λ b. is_none (cond (b || bytes_eq tag m) None (comparisons_left_unless_found tag (suc left - 1) members))) (one_is_left left)
    ∙ (ap (λ n. is_none (cond (bytes_eq tag m) None (comparisons_left_unless_found tag n members))) less) ∙ by_test (bytes_eq tag m) (too_many_or_named tag left members)
  where
    by_test : (b : Bool) → is_none (comparisons_left_unless_found tag left members) ≡ (ltb left (length members) || list_any (bytes_eq tag) members)
        → is_none (cond b None (comparisons_left_unless_found tag left members)) ≡ (ltb (suc left) (suc (length members)) || (b || list_any (bytes_eq tag) members))
    by_test true later = sym (or_true (ltb (suc left) (suc (length members))))
    by_test false later = later ∙ ap (λ b. b || list_any (bytes_eq tag) members) (sym (one_less left (length members)))

pub none_is : (o : Option ℕ) (none : Bool) → is_some o ≡ not none → none ≡ is_none o
none_is None true e = refl
none_is None false e = cc
none_is (Some left) true e = cc
none_is (Some left) false e = refl

pub none_left_where_named : (tag : List ℕ) (fields : List Field) → is_none (comparisons_left_behind_fields tag 64 fields) ≡ response_names_tag tag fields
none_left_where_named tag fields = ap is_none (by_lines tag 64 fields) ∙ too_many_or_named tag 64 (cache_tags_of fields)

same_text : (x y : List ℕ) → bytes_eq x y ≡ true → x ≡ y
same_text x y e = (bytes_eq-Decides x y).0 e

pub named_told : (tag : List ℕ) (fields : List Field) → Decides (response_names_tag tag fields) ((64 < length (cache_tags_of fields)) ⊎ Contains (cache_tags_of fields) tag)
named_told tag fields = (
  (λ h. by_case (or_cases (ltb 64 (length (cache_tags_of fields))) (list_any (bytes_eq tag) (cache_tags_of fields)) h)),
  (λ w. back w),
)
  where
    by_case : (ltb 64 (length (cache_tags_of fields)) ≡ true) ⊎ (list_any (bytes_eq tag) (cache_tags_of fields) ≡ true) → (64 < length (cache_tags_of fields)) ⊎ Contains (cache_tags_of fields) tag
    by_case (inl many) = inl (ltb-true 64 (length (cache_tags_of fields)) many)
    by_case (inr one) = inr (Contains-from_any same_text tag (cache_tags_of fields) one)

    back : (64 < length (cache_tags_of fields)) ⊎ Contains (cache_tags_of fields) tag → response_names_tag tag fields ≡ true
    back (inl many) = or_left (ltb 64 (length (cache_tags_of fields))) _ (lt-ltb 64 (length (cache_tags_of fields)) many)
    back (inr one) = or_right (ltb 64 (length (cache_tags_of fields))) (list_any (bytes_eq tag) (cache_tags_of fields)) (list_any-from_Contains nat_list_eq_equiv tag (cache_tags_of fields) one)
