-- The facts that the storing rules are handed, and what they say in words.
use Rattle.std.proofs.Common.{◌≡◌, inl, inr, ◌⊎◌, ℕ, ◌≤◌, Bool, true, false, not, ◌||◌, cond, List, [], ◌∷◌, length, refl, ap, ◌∙◌, arith}
use Rattle.std.specs.Prelude.{All, Option, Some, None, IfSome, bytes_eq, codes, is_none, is_some, nat_lt}
use Rattle.std.specs.List.{list_any}
use Rattle.std.proofs.lemmas.Bool.Decides.{nat_tests}
use Rattle.std.proofs.lemmas.List.Elements.{All-nil, All-cons, All-head, All-tail}
use Rattle.hx_fields.specs.Line.{Field}
use Rattle.hx_fields.specs.FieldLines.{has_field as has_line}
use Rattle.hx_fields.specs.Tokens.{is_token}
use Rattle.hx_directives.specs.Occurrences.{occurrences_of}
use Rattle.hx_directives.specs.Answers.{directive_occurs, seconds_of_directive}
use Rattle.hx_directives.specs.declared.names.Directive.TheVariants.{MaxAge, SMaxage}
use Rattle.hx_age.specs.declared.lifetimes.Lifetime.{Lifetime}
use Rattle.hx_age.specs.Lifetime.{explicit_lifetime, lifetime_of, seconds_or_zero, seconds_from_date_to_expires}
use Rattle.hx_vary.specs.declared.limits.TheConstants.{MOST_VARY_NAMES}
use Rattle.hx_vary.specs.Vary.{exceeds_most_vary_names, vary_counts_as_star, is_star_member, vary_names}
use Rattle.hx_hop.specs.Stripping.{caching_field_names, connection_has_option, connection_names_caching_field}
use Rattle.hx_policy.specs.Policies.{lifetime_given_by_policy}
use Rattle.hx_policy.specs.declared.words.Policy.{Policy}
use Rattle.hx_reuse.specs.Lifetimes.{lifetime_capped_at, lifetime_or_given_by_operator, lifetime_under_policy}
use Rattle.hx_validate.specs.Validators.{has_validator, date_validator, etag_validator}
use Rattle.proxy_core.specs.Validating.{weight_exceeds_optional_bound}
use Rattle.proxy_core.specs.StoredAnswers.{ResponseHasLifetimeOrValidator, ConnectionRemovedNoCachingField, VaryHasOnlyFieldNames}

neither : (a b : Bool) → a || b ≡ false → (a ≡ false) × (b ≡ false)
neither true b h = absurd cc
neither false b h = (refl, h)

one_of : (a b : Bool) → a || b ≡ true → (a ≡ true) ⊎ (b ≡ true)
one_of true b h = inl refl
one_of false b h = inr h

pub not_false : (b : Bool) → not b ≡ false → b ≡ true
not_false true h = refl
not_false false h = absurd cc

-- ---- Vary

no_star : (names : List (List ℕ)) → All (λ name. (bytes_eq name (codes "*") ≡ false) × (is_token name ≡ true)) names → list_any is_star_member names ≡ false
no_star [] all = refl
no_star (n ∷ names) all =
    let first = All-head (λ name. (bytes_eq name (codes "*") ≡ false) × (is_token name ≡ true)) n names all in
    rw (first.0, first.1) (no_star names (All-tail (λ name. (bytes_eq name (codes "*") ≡ false) × (is_token name ≡ true)) n names all))

names_each : (names : List (List ℕ)) → list_any is_star_member names ≡ false → All (λ name. (bytes_eq name (codes "*") ≡ false) × (is_token name ≡ true)) names
names_each [] h = All-nil (λ name. (bytes_eq name (codes "*") ≡ false) × (is_token name ≡ true))
names_each (n ∷ names) h =
    let parts = neither (is_star_member n) (list_any is_star_member names) h in
    let first = neither (bytes_eq n (codes "*")) (not (is_token n)) parts.0 in
    All-cons (λ name. (bytes_eq name (codes "*") ≡ false) × (is_token name ≡ true)) n names (first.0, not_false (is_token n) first.1) (names_each names parts.1)

few_names : (names : List (List ℕ)) → length names ≤ MOST_VARY_NAMES → exceeds_most_vary_names names ≡ false
few_names names h = grind (arith, nat_tests)

not_many : (names : List (List ℕ)) → exceeds_most_vary_names names ≡ false → length names ≤ MOST_VARY_NAMES
not_many names h = grind (arith, nat_tests)

pub star_absent : (fields : List Field) → VaryHasOnlyFieldNames fields → vary_counts_as_star fields ≡ false
star_absent fields all = ap (λ b. b || list_any is_star_member (vary_names fields)) (few_names (vary_names fields) all.0) ∙ no_star (vary_names fields) all.1

pub fields_named : (fields : List Field) → vary_counts_as_star fields ≡ false → VaryHasOnlyFieldNames fields
fields_named fields h =
    let parts = neither (exceeds_most_vary_names (vary_names fields)) (list_any is_star_member (vary_names fields)) h in
    (not_many (vary_names fields) parts.0, names_each (vary_names fields) parts.1)

-- ---- Connection

module _ (received : List Field) where
  none_listed : (names : List (List ℕ)) → All (λ name. connection_has_option received name ≡ false) names → list_any (connection_has_option received) names ≡ false
  none_listed [] all = refl
  none_listed (n ∷ names) all =
      rw (All-head (λ name. connection_has_option received name ≡ false) n names all) (none_listed names (All-tail (λ name. connection_has_option received name ≡ false) n names all))

  each_kept : (names : List (List ℕ)) → list_any (connection_has_option received) names ≡ false → All (λ name. connection_has_option received name ≡ false) names
  each_kept [] h = All-nil (λ name. connection_has_option received name ≡ false)
  each_kept (n ∷ names) h =
      let parts = neither (connection_has_option received n) (list_any (connection_has_option received) names) h in
      All-cons (λ name. connection_has_option received name ≡ false) n names parts.0 (each_kept names parts.1)

  pub lists_none : ConnectionRemovedNoCachingField received → connection_names_caching_field received ≡ false
  lists_none all = none_listed caching_field_names all

  pub keeps_all : connection_names_caching_field received ≡ false → ConnectionRemovedNoCachingField received
  keeps_all h = each_kept caching_field_names h

-- ---- lifetimes and validators

abbrev stated : Bool → Bool → Bool → ℕ → ℕ → ℕ → Lifetime
stated s m e a b c = cond s (explicit_lifetime a) (cond m (explicit_lifetime b) (cond e (explicit_lifetime c) (record { explicit = false; seconds = 0 })))

explicit_by : (s m e : Bool) (a b c : ℕ) → (s ≡ true) ⊎ ((m ≡ true) ⊎ (e ≡ true)) → (stated s m e a b c).explicit ≡ true
explicit_by true m e a b c h = refl
explicit_by false true e a b c h = refl
explicit_by false false true a b c h = refl
explicit_by false false false a b c (inl h) = absurd cc
explicit_by false false false a b c (inr (inl h)) = absurd cc
explicit_by false false false a b c (inr (inr h)) = absurd cc

said_by : (s m e : Bool) (a b c : ℕ) → (stated s m e a b c).explicit ≡ true → (s ≡ true) ⊎ ((m ≡ true) ⊎ (e ≡ true))
said_by true m e a b c h = inl refl
said_by false true e a b c h = inr (inl refl)
said_by false false true a b c h = inr (inr refl)
said_by false false false a b c h = absurd cc

-- a lifetime stands where the response states one or is given one
explicit_under : (l : Lifetime) (e : Bool) → l.explicit ≡ e → (m g : Option ℕ) → (cond e (lifetime_capped_at m l) (lifetime_or_given_by_operator g l)).explicit ≡ true → (l.explicit ≡ true) ⊎ (is_some g ≡ true)
explicit_under l true k m g h = inl k
explicit_under l false k m None h = inl h
explicit_under l false k m (Some n) h = inr refl

under_explicit : (l : Lifetime) (e : Bool) → l.explicit ≡ e → (m g : Option ℕ) → (l.explicit ≡ true) ⊎ (is_some g ≡ true) → (cond e (lifetime_capped_at m l) (lifetime_or_given_by_operator g l)).explicit ≡ true
under_explicit l true k None g h = k
under_explicit l true k (Some most) g h = k
under_explicit l false k m None (inl h) = h
under_explicit l false k m None (inr h) = absurd cc
under_explicit l false k m (Some n) h = refl

module _ (fields : List Field) where
  lasting : (directive_occurs (occurrences_of fields) SMaxage ≡ true) ⊎ ((directive_occurs (occurrences_of fields) MaxAge ≡ true) ⊎ (has_line fields (codes "Expires") ≡ true)) → (lifetime_of fields).explicit ≡ true
  lasting h =
      explicit_by (directive_occurs (occurrences_of fields) SMaxage) (directive_occurs (occurrences_of fields) MaxAge) (has_line fields (codes "Expires"))
      (seconds_or_zero (seconds_of_directive (occurrences_of fields) SMaxage)) (seconds_or_zero (seconds_of_directive (occurrences_of fields) MaxAge)) (seconds_from_date_to_expires fields) h

  lasts : (lifetime_of fields).explicit ≡ true → (directive_occurs (occurrences_of fields) SMaxage ≡ true) ⊎ ((directive_occurs (occurrences_of fields) MaxAge ≡ true) ⊎ (has_line fields (codes "Expires") ≡ true))
  lasts h =
      said_by (directive_occurs (occurrences_of fields) SMaxage) (directive_occurs (occurrences_of fields) MaxAge) (has_line fields (codes "Expires"))
      (seconds_or_zero (seconds_of_directive (occurrences_of fields) SMaxage)) (seconds_or_zero (seconds_of_directive (occurrences_of fields) MaxAge)) (seconds_from_date_to_expires fields) h

  module _ (policy : Policy) (status : ℕ) where
    pub can_be_reused : ((lifetime_under_policy policy status fields).explicit ≡ true) ⊎ (has_validator fields ≡ true) → ResponseHasLifetimeOrValidator policy status fields
    can_be_reused (inl h) = of_either (explicit_under (lifetime_of fields) (lifetime_of fields).explicit refl policy.lifetime_most (lifetime_given_by_policy policy status) h)
      where
        of_lifetime : (directive_occurs (occurrences_of fields) SMaxage ≡ true) ⊎ ((directive_occurs (occurrences_of fields) MaxAge ≡ true) ⊎ (has_line fields (codes "Expires") ≡ true)) → ResponseHasLifetimeOrValidator policy status fields
        of_lifetime (inl s) = inl s
        of_lifetime (inr (inl m)) = inr (inl m)
        of_lifetime (inr (inr e)) = inr (inr (inl e))

        of_either : ((lifetime_of fields).explicit ≡ true) ⊎ (is_some (lifetime_given_by_policy policy status) ≡ true) → ResponseHasLifetimeOrValidator policy status fields
        of_either (inl stated) = of_lifetime (lasts stated)
        of_either (inr lifetime_or_given_by_operator) = inr (inr (inr (inr (inr lifetime_or_given_by_operator))))
    can_be_reused (inr h) = of_validator (one_of (is_some (etag_validator fields)) (is_some (date_validator fields)) h)
      where
        of_validator : (is_some (etag_validator fields) ≡ true) ⊎ (is_some (date_validator fields) ≡ true) → ResponseHasLifetimeOrValidator policy status fields
        of_validator (inl t) = inr (inr (inr (inl t)))
        of_validator (inr m) = inr (inr (inr (inr (inl m))))

    stated_lasts : (lifetime_of fields).explicit ≡ true → (lifetime_under_policy policy status fields).explicit ≡ true
    stated_lasts h = under_explicit (lifetime_of fields) (lifetime_of fields).explicit refl policy.lifetime_most (lifetime_given_by_policy policy status) (inl h)

    pub lasts_or_validates : ResponseHasLifetimeOrValidator policy status fields → ((lifetime_under_policy policy status fields).explicit ≡ true) ⊎ (has_validator fields ≡ true)
    lasts_or_validates (inl s) = inl (stated_lasts (lasting (inl s)))
    lasts_or_validates (inr (inl m)) = inl (stated_lasts (lasting (inr (inl m))))
    lasts_or_validates (inr (inr (inl e))) = inl (stated_lasts (lasting (inr (inr e))))
    lasts_or_validates (inr (inr (inr (inl t)))) = inr (rw t refl)
    lasts_or_validates (inr (inr (inr (inr (inl m))))) = inr (last (is_some (etag_validator fields)) m)
      where
        last : (a : Bool) → is_some (date_validator fields) ≡ true → a || is_some (date_validator fields) ≡ true
        last true h = refl
        last false h = h
    lasts_or_validates (inr (inr (inr (inr (inr g))))) =
        inl (under_explicit (lifetime_of fields) (lifetime_of fields).explicit refl policy.lifetime_most (lifetime_given_by_policy policy status) (inr g))

-- ---- limits

pub fits_in : (most n : ℕ) → n ≤ most → nat_lt most n ≡ false
fits_in most n h = grind (arith, nat_tests, h)

pub arrival_may_be_released : (most n : ℕ) → nat_lt most n ≡ false → n ≤ most
arrival_may_be_released most n h = grind (arith, nat_tests, h)

-- what fits a bound isn't above it, and what isn't above it fits
pub not_above : (bound : Option ℕ) (weight : ℕ) → IfSome bound (λ most. weight ≤ most) → weight_exceeds_optional_bound bound weight ≡ false
not_above None weight h = refl
not_above (Some most) weight h = fits_in most weight h

pub within_bound : (bound : Option ℕ) (weight : ℕ) → weight_exceeds_optional_bound bound weight ≡ false → IfSome bound (λ most. weight ≤ most)
within_bound None weight h = tt
within_bound (Some most) weight h = arrival_may_be_released most weight h

pub some_left : (next : Option ℕ) → is_none next ≡ false → is_some next ≡ true
some_left None h = absurd cc
some_left (Some n) h = refl

pub none_is_not : (next : Option ℕ) → is_some next ≡ true → is_none next ≡ false
none_is_not None h = absurd cc
none_is_not (Some n) h = refl
