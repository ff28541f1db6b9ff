-- A client's conditions get a 304 exactly where the standard says that they fail.
use Rattle.std.proofs.Common.{◌≡◌, inl, inr, ◌⊎◌, ℕ, Bool, true, false, ◌||◌, cond, List, refl, ap, ◌∙◌}
use Rattle.std.specs.Prelude.{Any, Option, Some, None, codes, nat_le, option_and_then, unwrap_or, ◌==◌}
use Rattle.std.specs.List.{list_any}
use Rattle.std.proofs.lemmas.Bool.{eqb-true, eq-eqb, leb-true, le-leb}
use Rattle.std.proofs.lemmas.List.Folds.{Any-from_list_any, list_any-from_Any}
use Rattle.std.proofs.lemmas.Slice.Eq.{bytes_eq-Decides}
use Rattle.hx_fields.specs.Line.{Field}
use Rattle.hx_fields.specs.FieldLines.{combined_of, has_field, members_of, values_of}
use Rattle.hx_age.specs.Dates.{moment_of_single_date}
use Rattle.hx_store.specs.Stored.{Stored}
use Rattle.hx_validate.specs.EntityTags.{EntityTagParts, both_are_tags_that_compare, entity_tag_of, are_weakly_equal}
use Rattle.hx_validate.specs.NotModified.{last_modified_or_date, etag_of_fields, moment_is_not_before, is_weakly_equal_tag, value_equals_text, if_none_match_lists, if_none_match_matches_fields, is_unmodified_by_if_modified_since}
use Rattle.hx_validate.specs.Validators.{etag_validator}
use Rattle.proxy_core_laws.specs.ClientConditions.{OnlyFailedConditionGetsA304, FailedConditionGetsA304, StoredResponseLastChangedAt, IfModifiedSinceFails, IfNoneMatchFails, TagIsWeaklyEqual, IfNoneMatchListsTag}
use Rattle.proxy_core_laws.proofs.Words.{both_are, one_of}

-- ---- tags

equal_by : (held : EntityTagParts) (o : Option EntityTagParts) → both_are_tags_that_compare are_weakly_equal (Some held) o ≡ true → (tag : EntityTagParts) × (o ≡ Some tag) × (held.opaque ≡ tag.opaque)
equal_by held (Some tag) h = (tag, refl, (bytes_eq-Decides held.opaque tag.opaque).0 h)
equal_by held None h = absurd cc

any_equal : (held : EntityTagParts) (members : List (List ℕ)) → list_any (is_weakly_equal_tag held) members ≡ true → Any (TagIsWeaklyEqual held) members
any_equal held members h =
    let (k, member, inside, at, equal) = Any-from_list_any (is_weakly_equal_tag held) members h in
    (k, member, inside, at, equal_by held (entity_tag_of member) equal)

back : (held : EntityTagParts) (member : List ℕ) → TagIsWeaklyEqual held member → is_weakly_equal_tag held member ≡ true
back held member (tag, is, equal) = ap (both_are_tags_that_compare are_weakly_equal (Some held)) is ∙ (bytes_eq-Decides held.opaque tag.opaque).1 equal

equal_any : (held : EntityTagParts) (members : List (List ℕ)) → Any (TagIsWeaklyEqual held) members → list_any (is_weakly_equal_tag held) members ≡ true
equal_any held members (k, member, inside, at, equal) = list_any-from_Any (is_weakly_equal_tag held) members (k, member, inside, at, back held member equal)

module _ (request : List Field) where
  lists : (value : Option (List ℕ)) → if_none_match_lists request (option_and_then entity_tag_of value) ≡ true
      → (v : List ℕ) × (held : EntityTagParts) × (value ≡ Some v) × (entity_tag_of v ≡ Some held) × Any (TagIsWeaklyEqual held) (members_of request (codes "If-None-Match"))
  lists None h = absurd cc
  lists (Some v) h = by_tag (entity_tag_of v) refl h
    where
      by_tag : (o : Option EntityTagParts) → entity_tag_of v ≡ o → if_none_match_lists request o ≡ true
          → (w : List ℕ) × (held : EntityTagParts) × (Some v ≡ Some w) × (entity_tag_of w ≡ Some held) × Any (TagIsWeaklyEqual held) (members_of request (codes "If-None-Match"))
      by_tag None is k = absurd cc
      by_tag (Some held) is k = (v, held, refl, is, any_equal held (members_of request (codes "If-None-Match")) k)

  is_listed : (stored : List Field) → IfNoneMatchListsTag request stored → if_none_match_lists request (etag_of_fields stored) ≡ true
  is_listed stored (value, held, value_is, held_is, any) =
      ap (λ (o : Option (List ℕ)). if_none_match_lists request (option_and_then entity_tag_of o)) value_is ∙ ap (if_none_match_lists request) held_is
      ∙ equal_any held (members_of request (codes "If-None-Match")) any

  vary_is_star : (o : Option (List ℕ)) → value_equals_text (codes "*") o ≡ true → o ≡ Some (codes "*")
  vary_is_star None h = absurd cc
  vary_is_star (Some v) h = ap (λ (t : List ℕ). Some t) ((bytes_eq-Decides v (codes "*")).0 h)

  none_match : (stored : List Field) → if_none_match_matches_fields request stored ≡ true → IfNoneMatchFails request stored
  none_match stored h = by_part (one_of (value_equals_text (codes "*") (combined_of request (codes "If-None-Match"))) (if_none_match_lists request (etag_of_fields stored)) h)
    where
      by_part : (value_equals_text (codes "*") (combined_of request (codes "If-None-Match")) ≡ true) ⊎ (if_none_match_lists request (etag_of_fields stored) ≡ true) → IfNoneMatchFails request stored
      by_part (inl star) = inl (vary_is_star (combined_of request (codes "If-None-Match")) star)
      by_part (inr tag) = inr (lists (etag_validator stored) tag)

  names : (stored : List Field) → IfNoneMatchFails request stored → if_none_match_matches_fields request stored ≡ true
  names stored (inl star) = ap (λ (o : Option (List ℕ)). value_equals_text (codes "*") o || if_none_match_lists request (etag_of_fields stored)) star
  names stored (inr tag) = last (value_equals_text (codes "*") (combined_of request (codes "If-None-Match"))) (is_listed stored tag)
    where
      last : (a : Bool) → if_none_match_lists request (etag_of_fields stored) ≡ true → a || if_none_match_lists request (etag_of_fields stored) ≡ true
      last true h = refl
      last false h = h

  -- ---- moments

  changed : (entry : Stored) → StoredResponseLastChangedAt entry (last_modified_or_date entry)
  changed entry = by_date (moment_of_single_date (values_of entry.fields (codes "Last-Modified"))) refl
    where
      by_date : (o : Option ℕ) → moment_of_single_date (values_of entry.fields (codes "Last-Modified")) ≡ o → StoredResponseLastChangedAt entry (unwrap_or o entry.times.date)
      by_date None is = inr (is, refl)
      by_date (Some m) is = inl is

  change_is : (entry : Stored) (moment : ℕ) → StoredResponseLastChangedAt entry moment → last_modified_or_date entry ≡ moment
  change_is entry moment (inl is) = ap (λ (o : Option ℕ). unwrap_or o entry.times.date) is
  change_is entry moment (inr (none, date)) = ap (λ (o : Option ℕ). unwrap_or o entry.times.date) none ∙ date

  modified : (entry : Stored) → is_unmodified_by_if_modified_since request entry ≡ true → IfModifiedSinceFails request entry
  modified entry h = by_date (moment_of_single_date (values_of request (codes "If-Modified-Since"))) refl h
    where
      by_date : (o : Option ℕ) → moment_of_single_date (values_of request (codes "If-Modified-Since")) ≡ o → moment_is_not_before o (last_modified_or_date entry) ≡ true → IfModifiedSinceFails request entry
      by_date None is k = absurd cc
      by_date (Some since) is k = (since, last_modified_or_date entry, is, changed entry, leb-true (last_modified_or_date entry) since k)

  since : (entry : Stored) → IfModifiedSinceFails request entry → is_unmodified_by_if_modified_since request entry ≡ true
  since entry (moment, at, is, changed_then, low) =
      ap (λ (o : Option ℕ). moment_is_not_before o (last_modified_or_date entry)) is ∙ ap (λ (n : ℕ). nat_le n moment) (change_is entry at changed_then) ∙ le-leb at moment low

-- ---- the laws

pub answers_the_condition : FailedConditionGetsA304
answers_the_condition asked entry (status, inl (applies, fails)) =
    rw (eq-eqb entry.status 200 status, applies) (names asked.fields entry.fields fails)
answers_the_condition asked entry (status, inr (absent, fails)) =
    rw (eq-eqb entry.status 200 status, absent) (since asked.fields entry fails)

pub answers_no_other : OnlyFailedConditionGetsA304
answers_no_other asked entry h =
    let parts = both_are (entry.status == 200) (cond (has_field asked.fields (codes "If-None-Match")) (if_none_match_matches_fields asked.fields entry.fields) (is_unmodified_by_if_modified_since asked.fields entry)) h in
    (eqb-true entry.status 200 parts.0, by_field (has_field asked.fields (codes "If-None-Match")) refl parts.1)
  where
    by_field : (t : Bool) → has_field asked.fields (codes "If-None-Match") ≡ t → cond t (if_none_match_matches_fields asked.fields entry.fields) (is_unmodified_by_if_modified_since asked.fields entry) ≡ true
        → ((has_field asked.fields (codes "If-None-Match") ≡ true) × IfNoneMatchFails asked.fields entry.fields)
        ⊎ ((has_field asked.fields (codes "If-None-Match") ≡ false) × IfModifiedSinceFails asked.fields entry)
    by_field true is k = inl (is, none_match asked.fields entry.fields k)
    by_field false is k = inr (is, modified asked.fields entry k)
