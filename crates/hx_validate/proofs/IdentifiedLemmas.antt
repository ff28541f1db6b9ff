-- A 304 answers what it identifies, and nothing else.
use Rattle.std.proofs.Common.{◌≡◌, ◌⊎◌, inl, inr, ℕ, Bool, true, false, List, cond, refl, sym, subst, ◌∙◌, ap, codes, None, Some}
use Rattle.std.specs.Prelude.{Option, ◌&&◌}
use Rattle.std.proofs.lemmas.Bool.{and_parts}
use Rattle.std.proofs.lemmas.Slice.Eq.{bytes_eq-Decides}
use Rattle.hx_fields.specs.Line.{Field}
use Rattle.hx_fields.specs.FieldLines.{has_field, only_value}
use Rattle.hx_vary.specs.Vary.{is_same_value}
use Rattle.hx_hop.specs.declared.conditions.Conditions.{Conditions}
use Rattle.hx_validate.specs.Answering.{validators_match_sent, tag_matches_by_strength, last_modified_matches_sent, held_conditions_equal_sent, etag_matches_sent}
use Rattle.hx_validate.specs.EntityTags.{EntityTagParts, strong_eq, entity_tag_of, weak_eq}
use Rattle.hx_validate.specs.Identified.{A304AnswersOnlyTheStoredItIdentifies, A304AnswersTheStoredItIdentifies, FieldsOf304MatchSentLastModified, FieldsOf304MatchSentTag, StoredStillHasTheSentValidators, FieldsOf304IdentifyStored, A304FreshensOnlyAStoredOfItsTag, A304WithSeveralTagsAnswersNothing, TagOf304MatchesSentTag}
use Rattle.hx_validate.specs.Validators.{validating_conditions_of, etag_validator}
use Rattle.hx_validate.proofs.Echoes.{held_at, same_value}
use Rattle.hx_validate.proofs.Lines.{bytes_eq-refl}

both_true : (a b : Bool) → a ≡ true → b ≡ true → a && b ≡ true
both_true a b h k = rw (h, k) refl

-- two values that are the same are one
one_value : (a b : Option (List ℕ)) → is_same_value a b ≡ true → a ≡ b
one_value None None h = refl
one_value (Some a) (Some b) h = ap (λ v. Some v) ((bytes_eq-Decides a b).0 h)
one_value None (Some b) h = cc
one_value (Some a) None h = cc

same_if_one : (a b : Option (List ℕ)) → a ≡ b → is_same_value a b ≡ true
same_if_one a b h = rw (sym h) (same_value a)

-- ---- from the test

agrees_so : (tag : EntityTagParts) (held given : List ℕ) (w : Bool) → tag.weak ≡ w → cond w (weak_eq held given) (strong_eq held given) ≡ true
    → ((tag.weak ≡ false) × (strong_eq held given ≡ true)) ⊎ ((tag.weak ≡ true) × (weak_eq held given ≡ true))
agrees_so tag held given true e h = inr (e, h)
agrees_so tag held given false e h = inl (e, h)

tags_agree : (held given : List ℕ) (found : Option EntityTagParts) → entity_tag_of given ≡ found → tag_matches_by_strength found held given ≡ true → TagOf304MatchesSentTag held given
tags_agree held given None e h = cc
tags_agree held given (Some tag) e h = (tag, e, agrees_so tag held given tag.weak refl h)

that_tag : (sent : Conditions) (fields : List Field) (e o : Option (List ℕ)) → sent.etag ≡ e → only_value fields (codes "ETag") ≡ o → etag_matches_sent e o ≡ true → FieldsOf304MatchSentTag sent fields
that_tag sent fields (Some held) (Some given) e o h = (held, given, e, o, tags_agree held given (entity_tag_of given) refl h)
that_tag sent fields (Some held) None e o h = cc
that_tag sent fields None given e o h = cc

that_date : (sent : Conditions) (fields : List Field) (d o : Option (List ℕ)) → sent.modified ≡ d → only_value fields (codes "Last-Modified") ≡ o → last_modified_matches_sent d o ≡ true → FieldsOf304MatchSentLastModified sent fields
that_date sent fields (Some held) (Some given) d o h = (held, d, o ∙ ap (λ v. Some v) (sym ((bytes_eq-Decides held given).0 h)))
that_date sent fields (Some held) None d o h = cc
that_date sent fields None given d o h = cc

identifies : (sent : Conditions) (fields : List Field) (t m : Bool) → has_field fields (codes "ETag") ≡ t → has_field fields (codes "Last-Modified") ≡ m
    → cond t (etag_matches_sent sent.etag (only_value fields (codes "ETag"))) (cond m (last_modified_matches_sent sent.modified (only_value fields (codes "Last-Modified"))) true) ≡ true
    → FieldsOf304IdentifyStored sent fields
identifies sent fields true m et em h = inl (et, that_tag sent fields sent.etag (only_value fields (codes "ETag")) refl refl h)
identifies sent fields false true et em h = inr (inl (et, em, that_date sent fields sent.modified (only_value fields (codes "Last-Modified")) refl refl h))
identifies sent fields false false et em h = inr (inr (et, em))

pub answers_nothing_else : A304AnswersOnlyTheStoredItIdentifies
answers_nothing_else entry sent answered h =
    let parts = and_parts (held_conditions_equal_sent (validating_conditions_of entry.fields) sent) (validators_match_sent sent answered.fields) h in
    let values = and_parts _ _ parts.0 in (
      (one_value _ _ values.0, one_value _ _ values.1),
      identifies sent answered.fields (has_field answered.fields (codes "ETag")) (has_field answered.fields (codes "Last-Modified")) refl refl parts.1,
    )

-- ---- to the test

strength : (tag : EntityTagParts) (held given : List ℕ) → ((tag.weak ≡ false) × (strong_eq held given ≡ true)) ⊎ ((tag.weak ≡ true) × (weak_eq held given ≡ true))
    → cond tag.weak (weak_eq held given) (strong_eq held given) ≡ true
strength tag held given (inl (w, h)) = rw w h
strength tag held given (inr (w, h)) = rw w h

agrees_if : (sent : Conditions) (fields : List Field) → FieldsOf304IdentifyStored sent fields → validators_match_sent sent fields ≡ true
agrees_if sent fields (inl (stands, (held, given, e, o, (tag, found, s)))) =
    rw (stands, e, o) (ap (λ f. tag_matches_by_strength f held given) found ∙ strength tag held given s)
agrees_if sent fields (inr (inl (absent, stands, (date, d, o)))) = rw (absent, stands, d, o) (bytes_eq-refl date)
agrees_if sent fields (inr (inr (absent, none))) = rw (absent, none) refl

pub answers_what_it_identifies : A304AnswersTheStoredItIdentifies
answers_what_it_identifies entry sent answered is_sent identified =
    both_true _ _ (both_true _ _ (same_if_one _ _ is_sent.0) (same_if_one _ _ is_sent.1)) (agrees_if sent answered.fields identified)

-- ---- the promises

same_given : (held given other : List ℕ) → Some other ≡ Some given → TagOf304MatchesSentTag held other → TagOf304MatchesSentTag held given
same_given held given other h agree = let same : other ≡ given = cc in subst (TagOf304MatchesSentTag held) same agree

pub never_freshens_another : A304FreshensOnlyAStoredOfItsTag
never_freshens_another entry sent answered given one h =
    let so = answers_nothing_else entry sent answered h in
    by_tag so.0 so.1
  where
    stands : has_field answered.fields (codes "ETag") ≡ true
    stands = held_at answered.fields given (has_field answered.fields (codes "ETag")) refl one

    by_tag : StoredStillHasTheSentValidators entry sent → FieldsOf304IdentifyStored sent answered.fields → (held : List ℕ) × (etag_validator entry.fields ≡ Some held) × TagOf304MatchesSentTag held given
    by_tag was (inl (t, (held, other, e, o, agree))) = (held, was.0 ∙ e, same_given held given other (sym o ∙ one) agree)
    by_tag was (inr (inl (absent, there, rest))) = let off : true ≡ false = sym stands ∙ absent in absurd cc
    by_tag was (inr (inr (absent, there))) = let off : true ≡ false = sym stands ∙ absent in absurd cc

pub several_tags_answer_nothing : A304WithSeveralTagsAnswersNothing
several_tags_answer_nothing entry sent answered stands several h = by_tag (answers_nothing_else entry sent answered h).1
  where
    by_tag : FieldsOf304IdentifyStored sent answered.fields → ⊥
    by_tag (inl (t, (held, other, e, o, agree))) = let off : Some other ≡ None = sym o ∙ several in cc
    by_tag (inr (inl (absent, there, rest))) = let off : true ≡ false = sym stands ∙ absent in cc
    by_tag (inr (inr (absent, there))) = let off : true ≡ false = sym stands ∙ absent in cc
