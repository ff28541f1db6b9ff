-- An answer gets a client a 304 exactly where the client's condition is false.
use Rattle.std.proofs.Common.{◌≡◌, ◌⊎◌, inl, inr, ℕ, ◌≤◌, Bool, true, false, List, codes, Option, Some, None, refl, sym, ◌∙◌, ap, cond, arith}
use Rattle.std.specs.Prelude.{◌==◌, nat_le, ◌&&◌, ◌||◌, bytes_eq}
use Rattle.std.specs.List.{Any, list_any}
use Rattle.std.proofs.lemmas.Bool.{and_parts}
use Rattle.std.proofs.lemmas.List.Folds.{Any-from_list_any, list_any-from_Any}
use Rattle.std.proofs.lemmas.Slice.Eq.{bytes_eq-Decides}
use Rattle.hx_fields.specs.Line.{Field}
use Rattle.hx_fields.specs.FieldLines.{combined_of, has_field, members_of, values_of}
use Rattle.hx_age.specs.Dates.{moment_of_single_date}
use Rattle.hx_store.specs.Stored.{Stored}
use Rattle.hx_hop.specs.declared.request_view.Asked.{Asked}
use Rattle.hx_validate.specs.ClientConditions.{ConditionIsFalse, FalseClientConditionGets304, IfModifiedSinceIsFalse, IfNoneMatchIsFalse, OnlyFalseClientConditionGets304, AnswerThatGets304GetsItFromTheStore}
use Rattle.hx_validate.specs.EntityTags.{EntityTagParts}
use Rattle.hx_validate.specs.NotModified.{answer_gets_304, stored_gets_304, if_none_match_lists, if_none_match_matches_fields, moment_is_not_before, are_known_and_not_before, answer_states_no_change_since, is_unmodified_by_if_modified_since, is_weakly_equal_tag, value_equals_text, last_modified_or_date, etag_of_fields}
use Rattle.hx_validate.proofs.Lines.{bytes_eq-refl}

-- ---- from the test

whole : (value : Option (List ℕ)) → value_equals_text (codes "*") value ≡ true → value ≡ Some (codes "*")
whole None e = cc
whole (Some value) e = ap (λ v. Some v) ((bytes_eq-Decides value (codes "*")).0 e)

listed : (request fields : List Field) (held : Option EntityTagParts) → etag_of_fields fields ≡ held → if_none_match_lists request held ≡ true → IfNoneMatchIsFalse request fields
listed request fields None is e = cc
listed request fields (Some held) is e = inr (held, is, Any-from_list_any (is_weakly_equal_tag held) (members_of request (codes "If-None-Match")) e)

named : (request fields : List Field) → if_none_match_matches_fields request fields ≡ true → IfNoneMatchIsFalse request fields
named request fields e = by_star (value_equals_text (codes "*") (combined_of request (codes "If-None-Match"))) refl e
  where
    by_star : (b : Bool) → value_equals_text (codes "*") (combined_of request (codes "If-None-Match")) ≡ b → b || if_none_match_lists request (etag_of_fields fields) ≡ true → IfNoneMatchIsFalse request fields
    by_star true is e = inl (whole (combined_of request (codes "If-None-Match")) is)
    by_star false is e = listed request fields (etag_of_fields fields) refl e

within : (changed since : ℕ) → nat_le changed since ≡ true → changed ≤ since
within changed since e = grind arith

unchanged : (request fields : List Field) (since changed : Option ℕ) → moment_of_single_date (values_of request (codes "If-Modified-Since")) ≡ since → moment_of_single_date (values_of fields (codes "Last-Modified")) ≡ changed
    → are_known_and_not_before since changed ≡ true → IfModifiedSinceIsFalse request fields
unchanged request fields (Some since) (Some changed) s c e = (since, changed, s, c, within changed since e)
unchanged request fields None (Some changed) s c e = cc
unchanged request fields since None s c e = cc

is_200 : (status : ℕ) → (status == 200) ≡ true → status ≡ 200
is_200 status e = grind arith

pub no_other_gets_304 : OnlyFalseClientConditionGets304
no_other_gets_304 asked status fields e =
    let parts = and_parts (status == 200) (cond (has_field asked.fields (codes "If-None-Match")) (if_none_match_matches_fields asked.fields fields) (answer_states_no_change_since asked.fields fields)) e in
    (is_200 status parts.0, by_tag (has_field asked.fields (codes "If-None-Match")) refl parts.1)
  where
    by_tag : (b : Bool) → has_field asked.fields (codes "If-None-Match") ≡ b → cond b (if_none_match_matches_fields asked.fields fields) (answer_states_no_change_since asked.fields fields) ≡ true
        → ((has_field asked.fields (codes "If-None-Match") ≡ true) × IfNoneMatchIsFalse asked.fields fields) ⊎ ((has_field asked.fields (codes "If-None-Match") ≡ false) × IfModifiedSinceIsFalse asked.fields fields)
    by_tag true is e = inl (is, named asked.fields fields e)
    by_tag false is e = inr (is, unchanged asked.fields fields (moment_of_single_date (values_of asked.fields (codes "If-Modified-Since"))) (moment_of_single_date (values_of fields (codes "Last-Modified"))) refl refl e)

-- ---- to the test

or_second : (a b : Bool) → b ≡ true → a || b ≡ true
or_second true b e = refl
or_second false b e = e

names : (request fields : List Field) → IfNoneMatchIsFalse request fields → if_none_match_matches_fields request fields ≡ true
names request fields (inl star) = rw star refl
names request fields (inr (held, is, some)) =
    or_second (value_equals_text (codes "*") (combined_of request (codes "If-None-Match"))) (if_none_match_lists request (etag_of_fields fields))
    (ap (if_none_match_lists request) is ∙ list_any-from_Any (is_weakly_equal_tag held) (members_of request (codes "If-None-Match")) some)

at_most : (changed since : ℕ) → changed ≤ since → nat_le changed since ≡ true
at_most changed since e = grind arith

pub false_gets_304 : FalseClientConditionGets304
false_gets_304 asked status fields (ok, inl (tag, none)) = rw ok (rw tag (names asked.fields fields none))
false_gets_304 asked status fields (ok, inr (tag, (since, changed, s, c, before))) = rw ok (rw tag (rw s (rw c (at_most changed since before))))

-- ---- out of the store

pub judged_alike : AnswerThatGets304GetsItFromTheStore
judged_alike asked entry e =
    let parts = and_parts (entry.status == 200) (cond (has_field asked.fields (codes "If-None-Match")) (if_none_match_matches_fields asked.fields entry.fields) (answer_states_no_change_since asked.fields entry.fields)) e in
    rw parts.0 (by_tag (has_field asked.fields (codes "If-None-Match")) parts.1)
  where
    by_date : (changed : Option ℕ) → moment_of_single_date (values_of entry.fields (codes "Last-Modified")) ≡ changed → are_known_and_not_before (moment_of_single_date (values_of asked.fields (codes "If-Modified-Since"))) changed ≡ true
        → is_unmodified_by_if_modified_since asked.fields entry ≡ true
    by_date (Some changed) is e = rw is e
    by_date None is e = cc

    by_tag : (b : Bool) → cond b (if_none_match_matches_fields asked.fields entry.fields) (answer_states_no_change_since asked.fields entry.fields) ≡ true → cond b (if_none_match_matches_fields asked.fields entry.fields) (is_unmodified_by_if_modified_since asked.fields entry) ≡ true
    by_tag true e = e
    by_tag false e = by_date (moment_of_single_date (values_of entry.fields (codes "Last-Modified"))) refl e
