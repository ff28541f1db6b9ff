-- Which orders of a purge are known, by tests and in words.
use Rattle.std.proofs.Common.{◌≡◌, ◌⊎◌, ℕ, Bool, true, false, cond, ◌||◌, List, [], ◌∷◌, Option, Some, None, refl, sym, ◌∙◌, ap, inl, inr, codes, not}
use Rattle.std.specs.Prelude.{bytes_eq, Decides, is_some, is_none, unwrap_or}
use Rattle.std.specs.List.{list_any}
use Rattle.std.proofs.lemmas.Slice.Eq.{bytes_eq-Decides}
use Rattle.hx_fields.specs.Line.{Field}
use Rattle.hx_fields.specs.FieldLines.{has_field, values_of}
use Rattle.hx_allow.specs.PurgeModes.{purge_mode_of_field_values, purge_mode_of_request, request_purge_mode_or_remove, PurgeModeIsAbsentOrStale}
use Rattle.hx_allow.specs.Purges.{has_invalid_purge_field, is_unknown_purge_header_field, purge_scope_of_fields, purge_scope_of_values, default_purge_scope}
use Rattle.hx_allow.specs.declared.purges.PurgeScope.TheVariants.{All, Target}
use Rattle.hx_allow.specs.Scopes.{EachPurgeFieldIsKnownAndValid}
use Rattle.hx_allow.specs.Tags.{purge_tag_of_request}
use Rattle.hx_allow.specs.declared.purge_modes.PurgeMode.{PurgeMode}
use Rattle.hx_allow.specs.declared.purge_modes.PurgeMode.TheVariants.{Remove, Stale}

abbrev the_word : List ℕ
the_word = codes "stale"

abbrev one_of : Bool → Option PurgeMode
one_of b = cond b (Some Stale) None

known_values : (values : List (List ℕ)) → is_some (purge_mode_of_field_values values) ≡ true → PurgeModeIsAbsentOrStale values
known_values [] h = inl refl
known_values (word ∷ []) h = by_test (bytes_eq word the_word) refl h
  where
    by_test : (b : Bool) → bytes_eq word the_word ≡ b → is_some (one_of b) ≡ true → PurgeModeIsAbsentOrStale (word ∷ [])
    by_test true is h = inr (ap (λ (w : List ℕ). w ∷ []) ((bytes_eq-Decides word the_word).0 is))
    by_test false is h = cc
known_values (word ∷ other ∷ more) h = cc

told_known : (values : List (List ℕ)) → PurgeModeIsAbsentOrStale values → is_some (purge_mode_of_field_values values) ≡ true
told_known values (inl none) = ap (λ vs. is_some (purge_mode_of_field_values vs)) none
told_known values (inr one) = ap (λ vs. is_some (purge_mode_of_field_values vs)) one

pub mode_known : (fields : List Field) → Decides (is_some (purge_mode_of_request fields)) (PurgeModeIsAbsentOrStale (values_of fields (codes "Purge-Mode")))
mode_known fields = (known_values (values_of fields (codes "Purge-Mode")), told_known (values_of fields (codes "Purge-Mode")))

pub stale_where_said : (fields : List Field) → values_of fields (codes "Purge-Mode") ≡ codes "stale" ∷ [] → request_purge_mode_or_remove fields ≡ Stale
stale_where_said fields is = ap (λ vs. unwrap_or (purge_mode_of_field_values vs) Remove) is

stale_values : (values : List (List ℕ)) → unwrap_or (purge_mode_of_field_values values) Remove ≡ Stale → values ≡ the_word ∷ []
stale_values [] h = cc
stale_values (word ∷ []) h = by_test (bytes_eq word the_word) refl h
  where
    by_test : (b : Bool) → bytes_eq word the_word ≡ b → unwrap_or (one_of b) Remove ≡ Stale → word ∷ [] ≡ the_word ∷ []
    by_test true is h = ap (λ (w : List ℕ). w ∷ []) ((bytes_eq-Decides word the_word).0 is)
    by_test false is h = cc
stale_values (word ∷ other ∷ more) h = cc

pub said_where_stale : (fields : List Field) → request_purge_mode_or_remove fields ≡ Stale → values_of fields (codes "Purge-Mode") ≡ codes "stale" ∷ []
said_where_stale fields h = stale_values (values_of fields (codes "Purge-Mode")) h

pub removed_without : (fields : List Field) → values_of fields (codes "Purge-Mode") ≡ [] → purge_mode_of_request fields ≡ Some Remove
removed_without fields none = ap purge_mode_of_field_values none

-- four tests of which none stands
none_stands : (a b c d : Bool) → not (((a || b) || c) || d) ≡ true → (a ≡ false) × (b ≡ false) × (c ≡ false) × (d ≡ false)
none_stands false false false false h = (refl, refl, refl, refl)
none_stands true b c d h = cc
none_stands false true c d h = cc
none_stands false false true d h = cc
none_stands false false false true h = cc

some_is : {A : Type 0} → (o : Option A) → is_none o ≡ false → is_some o ≡ true
some_is None h = cc
some_is (Some x) h = refl

none_isnt : {A : Type 0} → (o : Option A) → is_some o ≡ true → is_none o ≡ false
none_isnt None h = cc
none_isnt (Some x) h = refl

pub orders_known : (fields : List Field) → Decides (not (has_invalid_purge_field fields)) (EachPurgeFieldIsKnownAndValid fields)
orders_known fields = (there, back)
  where
    there : not (has_invalid_purge_field fields) ≡ true → EachPurgeFieldIsKnownAndValid fields
    there h =
        let p = none_stands (list_any is_unknown_purge_header_field fields) (is_none (purge_scope_of_fields fields)) (is_none (purge_tag_of_request fields)) (is_none (purge_mode_of_request fields)) h in
        record {
          no_other = p.0;
          scope = some_is (purge_scope_of_fields fields) p.1;
          tag = some_is (purge_tag_of_request fields) p.2;
          mode = (mode_known fields).0 (some_is (purge_mode_of_request fields) p.3);
        }

    none_of : (a b c d : Bool) → a ≡ false → b ≡ false → c ≡ false → d ≡ false → not (((a || b) || c) || d) ≡ true
    none_of false false false false ha hb hc hd = refl
    none_of true b c d ha hb hc hd = cc
    none_of false true c d ha hb hc hd = cc
    none_of false false true d ha hb hc hd = cc
    none_of false false false true ha hb hc hd = cc

    back : EachPurgeFieldIsKnownAndValid fields → not (has_invalid_purge_field fields) ≡ true
    back w = none_of (list_any is_unknown_purge_header_field fields) (is_none (purge_scope_of_fields fields)) (is_none (purge_tag_of_request fields)) (is_none (purge_mode_of_request fields))
        w.no_other (none_isnt (purge_scope_of_fields fields) w.scope) (none_isnt (purge_tag_of_request fields) w.tag) (none_isnt (purge_mode_of_request fields) ((mode_known fields).1 w.mode))

pub same_scope : (fields other : List Field) → values_of fields (codes "Purge-Scope") ≡ values_of other (codes "Purge-Scope") → has_field fields (codes "Purge-Tag") ≡ has_field other (codes "Purge-Tag")
    → purge_scope_of_fields fields ≡ purge_scope_of_fields other
same_scope fields other same tagged =
    ap (purge_scope_of_values (default_purge_scope fields)) same
    ∙ ap (λ (b : Bool). purge_scope_of_values (cond b All Target) (values_of other (codes "Purge-Scope"))) tagged
