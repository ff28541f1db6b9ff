-- What the words of a line change, and that a line without words changes nothing.
use Rattle.std.proofs.Common.{◌≡◌, ℕ, ◌≤◌, ◌<◌, ◌-◌, ◌⊎◌, inl, inr, Bool, true, false, cond, List, [], ◌∷◌, refl, sym, ◌∙◌, ap, subst, arith}
use Rattle.std.proofs.lemmas.Bool.Decides.{nat_tests}
use Rattle.std.specs.Prelude.{not, ◌&&◌, ◌||◌, ◌==◌, nat_lt, nat_le, bytes_eq, codes, length, find, filter, is_none, Option, Some, None, option_map}
use Rattle.hx_fields.specs.Line.{Field}
use Rattle.hx_directives.specs.Occurrences.{occurrences_of}
use Rattle.hx_directives.specs.Answers.{is_same_directive, directive_occurs, seconds_of_directive, first_valid_seconds, max_stale}
use Rattle.hx_directives.specs.declared.names.Directive.{Directive}
use Rattle.hx_directives.specs.declared.names.Directive.TheVariants.{StaleIfError}
use Rattle.hx_directives.specs.declared.occurrences.Occurrence.{Occurrence}
use Rattle.hx_directives.specs.declared.answers.MaxStale.{MaxStale}
use Rattle.hx_target.specs.declared.keys.Key.{Key}
use Rattle.hx_target.specs.Keys.{same_key}
use Rattle.hx_age.specs.declared.lifetimes.Lifetime.{Lifetime}
use Rattle.hx_age.specs.Lifetime.{lifetime_of}
use Rattle.hx_age.specs.Age.{age_of, lifetime_shortened_by_purge}
use Rattle.hx_hop.specs.declared.request_view.Asked.{Asked}
use Rattle.hx_store.specs.Stored.{Stored}
use Rattle.hx_policy.specs.declared.words.Policy.{Policy}
use Rattle.hx_policy.specs.Policies.{plain, is_heuristic_status, is_error, lifetime_given_by_policy}
use Rattle.hx_reuse.specs.declared.rule.ReuseRule.{ReuseRule}
use Rattle.hx_reuse.specs.declared.rule.ReuseRule.TheVariants.{Operator, Method, Content, Range, Precondition, UriMiss, VaryMiss, ResponseNoCache, RequestNoCache, AboveMaxAge, BelowMinFresh, MustRevalidate, NoLifetime, StaleNoCache, NoMaxStale, PastMaxStale, StaleMaxAge, StaleMinFresh}
use Rattle.hx_reuse.specs.declared.rule.ErrorRule.{ErrorRule}
use Rattle.hx_reuse.specs.declared.rule.ErrorRule.TheVariants as on_error
use Rattle.hx_reuse.specs.Chosen.{chosen_of}
use Rattle.hx_reuse.specs.Lifetimes.{lifetime_capped_at, lifetime_or_given_by_operator, lifetime_of_stored_response, lifetime_under_policy}
use Rattle.hx_reuse.specs.Rules.{ReuseSituation, situation_with, situation_of_request, situation_is_fresh, heeded_request_has_no_cache, is_above_max_age_limit, is_below_min_fresh_of_request, heeded_request_has_min_fresh, max_stale_is_present, is_past_max_stale, is_some_and, reuse_rule_condition, reuse_rule_applies, reuse_rules, least_reuse_rule_of, decision_by_rule, decision_of}
use Rattle.hx_reuse.specs.ErrorRules.{seconds_stated_once, stale_if_error_limit_of_response, request_stale_if_error_limit, operator_stale_if_error_limit, is_stale_beyond_limit, error_rule_condition, error_rules, situation_of_stored_response, error_rule_against, permission_from_error_rule, permission_on_error}
use Rattle.hx_reuse.specs.OnError.{staleness_at}
use Rattle.hx_reuse.specs.PlainLines.{standard_rule_condition, standard_condition_on_chosen, standard_rule_applies, plain_decision_of, standard_error_rule_condition, standard_permission_on_error}
use Rattle.hx_reuse.specs.LineWordsInReuse.{is_rule_on_request_directives, RequestsDifferOnlyInIgnoredDirectives, NeitherHasStaleIfError, policy_without_stale_if_error}
use Rattle.std.proofs.Math.Nat.{min-le_left, min-eq_left, min-eq_right}
use Rattle.hx_fields.proofs.JoinedTests.{never, first_absent, last_absent, neither, or_right, has_value, is_below, is_not_below}
use Rattle.hx_reuse.proofs.OnErrorLemmas.{is_given}

-- two tests that agree everywhere find the same
pub same_found : {X : Type 0} (p q : X → Bool) (xs : List X) → ((x : X) → p x ≡ q x) → find p xs ≡ find q xs
same_found p q [] all = refl
same_found p q (x ∷ xs) all = rw (all x, same_found p q xs all) refl

-- and of a value that may be absent say the same
pub same_of_some : {X : Type 0} (p q : X → Bool) (o : Option X) → ((x : X) → p x ≡ q x) → is_some_and p o ≡ is_some_and q o
same_of_some p q None all = refl
same_of_some p q (Some x) all = all x

-- ---- a lifetime

stated : (l : Lifetime) (m o : Option ℕ) (b : Bool) → b ≡ true → cond b (lifetime_capped_at m l) (lifetime_or_given_by_operator o l) ≡ lifetime_capped_at m l
stated l m o true h = refl
stated l m o false h = absurd (never (sym h))

counts_at_most : (policy : Policy) (status : ℕ) (fields : List Field) → (lifetime_of fields).explicit ≡ true → lifetime_under_policy policy status fields ≡ lifetime_capped_at policy.lifetime_most (lifetime_of fields)
counts_at_most policy status fields h = stated (lifetime_of fields) policy.lifetime_most (lifetime_given_by_policy policy status) (lifetime_of fields).explicit h

pub stated_stays : (policy : Policy) (status : ℕ) (fields : List Field) → (lifetime_of fields).explicit ≡ true → policy.lifetime_most ≡ None → lifetime_under_policy policy status fields ≡ lifetime_of fields
stated_stays policy status fields h none =
    counts_at_most policy status fields h ∙ ap (λ (m : Option ℕ). lifetime_capped_at m (lifetime_of fields)) none

within : (l : Lifetime) (most : ℕ) → l.seconds ≤ most → lifetime_capped_at (Some most) l ≡ l
within l most fits = ap (λ (n : ℕ). record { explicit = l.explicit; seconds = n }) (min-eq_left fits)

pub within_the_most : (policy : Policy) (status : ℕ) (fields : List Field) (most : ℕ) → (lifetime_of fields).explicit ≡ true → policy.lifetime_most ≡ Some most → (lifetime_of fields).seconds ≤ most → lifetime_under_policy policy status fields ≡ lifetime_of fields
within_the_most policy status fields most h is fits =
    counts_at_most policy status fields h ∙ ap (λ (m : Option ℕ). lifetime_capped_at m (lifetime_of fields)) is ∙ within (lifetime_of fields) most fits

beyond : (l : Lifetime) (most : ℕ) → l.explicit ≡ true → most < l.seconds → lifetime_capped_at (Some most) l ≡ record { explicit = true; seconds = most }
beyond l most h over = rw (h, min-eq_right (below_is_at_most over)) refl
  where
    below_is_at_most : most < l.seconds → most ≤ l.seconds
    below_is_at_most less = omega arith

pub beyond_the_most : (policy : Policy) (status : ℕ) (fields : List Field) (most : ℕ) → (lifetime_of fields).explicit ≡ true → policy.lifetime_most ≡ Some most → most < (lifetime_of fields).seconds
    → lifetime_under_policy policy status fields ≡ record { explicit = true; seconds = most }
beyond_the_most policy status fields most h is over =
    counts_at_most policy status fields h ∙ ap (λ (m : Option ℕ). lifetime_capped_at m (lifetime_of fields)) is ∙ beyond (lifetime_of fields) most h over

at_most_stated : (m : Option ℕ) (l : Lifetime) → (lifetime_capped_at m l).seconds ≤ l.seconds
at_most_stated None l = omega arith
at_most_stated (Some most) l = min-le_left l.seconds most

pub never_longer : (policy : Policy) (status : ℕ) (fields : List Field) → (lifetime_of fields).explicit ≡ true → (lifetime_under_policy policy status fields).seconds ≤ (lifetime_of fields).seconds
never_longer policy status fields h =
    subst (λ (l : Lifetime). l.seconds ≤ (lifetime_of fields).seconds) (sym (counts_at_most policy status fields h)) (at_most_stated policy.lifetime_most (lifetime_of fields))

none_given : (l k : Lifetime) (o : Option ℕ) (b : Bool) → b ≡ false → o ≡ None → cond b k (lifetime_or_given_by_operator o l) ≡ l
none_given l k o true h none = absurd (never h)
none_given l k o false h none = ap (λ (n : Option ℕ). lifetime_or_given_by_operator n l) none

pub others_stay : (policy : Policy) (status : ℕ) (fields : List Field) → (lifetime_of fields).explicit ≡ false → is_heuristic_status status ≡ false → lifetime_under_policy policy status fields ≡ lifetime_of fields
others_stay policy status fields unstated h =
    none_given (lifetime_of fields) (lifetime_capped_at policy.lifetime_most (lifetime_of fields)) (lifetime_given_by_policy policy status) (lifetime_of fields).explicit unstated (rw h refl)

below_400 : (status : ℕ) → status < 400 → nat_le 400 status ≡ false
below_400 status h = grind (arith, nat_tests)

from_400 : (status : ℕ) → 400 ≤ status → nat_le 400 status ≡ true
from_400 status h = grind (arith, nat_tests)

same_none : (b : Bool) → ◌≡◌ {A = Option ℕ} (cond b None None) None
same_none true = refl
same_none false = refl

pub errors_stay : (policy : Policy) (status : ℕ) (fields : List Field) → (lifetime_of fields).explicit ≡ false → 400 ≤ status → policy.error_lifetime ≡ None → lifetime_under_policy policy status fields ≡ lifetime_of fields
errors_stay policy status fields unstated high none =
    none_given (lifetime_of fields) (lifetime_capped_at policy.lifetime_most (lifetime_of fields)) (lifetime_given_by_policy policy status) (lifetime_of fields).explicit unstated (rw (from_400 status high) (rw none (same_none (is_heuristic_status status))))

is_some_given : (l m : Lifetime) (o : Option ℕ) (n : ℕ) (b : Bool) → b ≡ false → o ≡ Some n → cond b m (lifetime_or_given_by_operator o l) ≡ lifetime_or_given_by_operator (Some n) l
is_some_given l m o n b h k = rw (h, k) refl

pub given_counts : (policy : Policy) (status : ℕ) (fields : List Field) (n : ℕ) → (lifetime_of fields).explicit ≡ false → is_heuristic_status status ≡ true → status < 400 → policy.lifetime ≡ Some n
    → lifetime_under_policy policy status fields ≡ lifetime_or_given_by_operator (Some n) (lifetime_of fields)
given_counts policy status fields n none heuristic low word =
    is_some_given (lifetime_of fields) (lifetime_capped_at policy.lifetime_most (lifetime_of fields)) (lifetime_given_by_policy policy status) n (lifetime_of fields).explicit none (rw heuristic (rw (below_400 status low) word))

pub given_to_errors_counts : (policy : Policy) (status : ℕ) (fields : List Field) (n : ℕ) → (lifetime_of fields).explicit ≡ false → is_heuristic_status status ≡ true → 400 ≤ status → policy.error_lifetime ≡ Some n
    → lifetime_under_policy policy status fields ≡ lifetime_or_given_by_operator (Some n) (lifetime_of fields)
given_to_errors_counts policy status fields n none heuristic high word =
    is_some_given (lifetime_of fields) (lifetime_capped_at policy.lifetime_most (lifetime_of fields)) (lifetime_given_by_policy policy status) n (lifetime_of fields).explicit none (rw heuristic (rw (from_400 status high) word))

none_of_both : (b c : Bool) → ◌≡◌ {A = Option ℕ} (cond b (cond c None None) None) None
none_of_both b true = same_none b
none_of_both b false = same_none b

as_stated : (l : Lifetime) (o : Option ℕ) (b : Bool) → o ≡ None → cond b l (lifetime_or_given_by_operator o l) ≡ l
as_stated l o true none = refl
as_stated l o false none = ap (λ (n : Option ℕ). lifetime_or_given_by_operator n l) none

pub plain_lifetime : (caches : Bool) (status : ℕ) (fields : List Field) → lifetime_under_policy (plain caches) status fields ≡ lifetime_of fields
plain_lifetime caches status fields =
    as_stated (lifetime_of fields) (lifetime_given_by_policy (plain caches) status) (lifetime_of fields).explicit (none_of_both (is_heuristic_status status) (is_error status))

-- ---- a line without words

pub plain_rule : (caches : Bool) (which : ReuseRule) (lifetime : Lifetime) (age : ℕ) (response request : List Occurrence) →
    reuse_rule_condition which (situation_with (plain caches) lifetime age response request) ≡ standard_rule_condition which lifetime age response request
plain_rule caches Operator lifetime age response request = refl
plain_rule caches Method lifetime age response request = refl
plain_rule caches Content lifetime age response request = refl
plain_rule caches Range lifetime age response request = refl
plain_rule caches Precondition lifetime age response request = refl
plain_rule caches UriMiss lifetime age response request = refl
plain_rule caches VaryMiss lifetime age response request = refl
plain_rule caches ResponseNoCache lifetime age response request = refl
plain_rule caches RequestNoCache lifetime age response request = refl
plain_rule caches AboveMaxAge lifetime age response request = refl
plain_rule caches BelowMinFresh lifetime age response request = refl
plain_rule caches MustRevalidate lifetime age response request = refl
plain_rule caches NoLifetime lifetime age response request = refl
plain_rule caches StaleNoCache lifetime age response request = refl
plain_rule caches NoMaxStale lifetime age response request = refl
plain_rule caches PastMaxStale lifetime age response request = refl
plain_rule caches StaleMaxAge lifetime age response request = refl
plain_rule caches StaleMinFresh lifetime age response request = refl

last_none : (a b : Bool) → b ≡ true → a && b ≡ a
last_none true b h = h
last_none false b h = refl

last_false : (a b : Bool) → b ≡ false → a || b ≡ a
last_false true b h = refl
last_false false b h = h

no_limit : (caches : Bool) (lifetime : Lifetime) (age : ℕ) (response request : List Occurrence) → operator_stale_if_error_limit (situation_with (plain caches) lifetime age response request) ≡ None
no_limit caches lifetime age response request = same_none (directive_occurs response StaleIfError || directive_occurs request StaleIfError)

pub plain_error_rule : (caches : Bool) (which : ErrorRule) (lifetime : Lifetime) (age : ℕ) (response request : List Occurrence) →
    error_rule_condition which (situation_with (plain caches) lifetime age response request) ≡ standard_error_rule_condition which lifetime age response request
plain_error_rule caches on_error.NoCache lifetime age response request = refl
plain_error_rule caches on_error.MustRevalidate lifetime age response request = refl
plain_error_rule caches on_error.NoLifetime lifetime age response request = refl
plain_error_rule caches on_error.RequestNoCache lifetime age response request = refl
plain_error_rule caches on_error.NoDirective lifetime age response request =
    let s : ReuseSituation = situation_with (plain caches) lifetime age response request in
    last_none (is_none (stale_if_error_limit_of_response s) && is_none (request_stale_if_error_limit s)) (is_none (operator_stale_if_error_limit s)) (ap is_none (no_limit caches lifetime age response request))
plain_error_rule caches on_error.TooStale lifetime age response request =
    let s : ReuseSituation = situation_with (plain caches) lifetime age response request in
    last_false (is_stale_beyond_limit s (stale_if_error_limit_of_response s) || is_stale_beyond_limit s (request_stale_if_error_limit s)) (is_stale_beyond_limit s (operator_stale_if_error_limit s)) (ap (is_stale_beyond_limit s) (no_limit caches lifetime age response request))

plain_chosen : (caches : Bool) (which : ReuseRule) (e : Stored) (asked : Asked) (now : ℕ) → reuse_rule_condition which (situation_of_request (plain caches) e asked now) ≡ standard_condition_on_chosen which e asked now
plain_chosen caches which e asked now =
    ap (λ (l : Lifetime). reuse_rule_condition which (situation_with (plain caches) (lifetime_shortened_by_purge e.times l) (age_of e.times now) (occurrences_of e.fields) (occurrences_of asked.fields))) (plain_lifetime caches e.status e.fields)
    ∙ plain_rule caches which (lifetime_shortened_by_purge e.times (lifetime_of e.fields)) (age_of e.times now) (occurrences_of e.fields) (occurrences_of asked.fields)

module _ (caches : Bool) (held : List Stored) (asked : Asked) (now : ℕ) where
  plain_apply : (which : ReuseRule) → reuse_rule_applies which (plain caches) held asked now ≡ standard_rule_applies which caches held asked now
  plain_apply Operator = refl
  plain_apply Method = refl
  plain_apply Content = refl
  plain_apply Range = refl
  plain_apply Precondition = refl
  plain_apply UriMiss = refl
  plain_apply VaryMiss = refl
  plain_apply which =
      same_of_some (λ e. reuse_rule_condition which (situation_of_request (plain caches) e asked now)) (λ e. standard_condition_on_chosen which e asked now) (chosen_of held asked)
      (λ e. plain_chosen caches which e asked now)

  pub plain_decides : decision_of (plain caches) held asked now ≡ plain_decision_of caches held asked now
  unfolding decision_of least_reuse_rule_of plain_decision_of
  plain_decides =
      ap (λ (o : Option ReuseRule). decision_by_rule o (option_map (λ e. e.serial) (chosen_of held asked)))
      (same_found (λ which. reuse_rule_applies which (plain caches) held asked now) (λ which. standard_rule_applies which caches held asked now) reuse_rules plain_apply)

pub plain_leaves : (caches : Bool) (response : Stored) (request : List Occurrence) (now : ℕ) → permission_on_error (plain caches) response request now ≡ standard_permission_on_error response request now
unfolding error_rule_against standard_permission_on_error
plain_leaves caches response request now =
    let age = age_of response.times now in
    let directives = occurrences_of response.fields in
    let lasts : Lifetime → Lifetime = lifetime_shortened_by_purge response.times in
    ap permission_from_error_rule (same_found (λ which. error_rule_condition which (situation_of_stored_response (plain caches) response request now)) (λ which. standard_error_rule_condition which (lasts (lifetime_of response.fields)) age directives request) error_rules
    (λ which. ap (λ (l : Lifetime). error_rule_condition which (situation_with (plain caches) (lasts l) age directives request)) (plain_lifetime caches response.status response.fields)
    ∙ plain_error_rule caches which (lasts (lifetime_of response.fields)) age directives request))

-- ---- a request's advice

unheeded : (word test : Bool) → word ≡ false → word && test ≡ false
unheeded word test h = first_absent word test h

pub advice_never_applies : (which : ReuseRule) (s : ReuseSituation) → s.policy.heeds_requests ≡ false → is_rule_on_request_directives which ≡ true → reuse_rule_condition which s ≡ false
advice_never_applies RequestNoCache s h is = last_absent (situation_is_fresh s) (heeded_request_has_no_cache s) (unheeded s.policy.heeds_requests _ h)
advice_never_applies AboveMaxAge s h is = last_absent (situation_is_fresh s) (is_above_max_age_limit s) (unheeded s.policy.heeds_requests _ h)
advice_never_applies BelowMinFresh s h is = last_absent (situation_is_fresh s) (is_below_min_fresh_of_request s) (unheeded s.policy.heeds_requests _ h)
advice_never_applies StaleNoCache s h is = last_absent (not (situation_is_fresh s)) (heeded_request_has_no_cache s) (unheeded s.policy.heeds_requests _ h)
advice_never_applies StaleMaxAge s h is = last_absent (not (situation_is_fresh s)) (is_above_max_age_limit s) (unheeded s.policy.heeds_requests _ h)
advice_never_applies StaleMinFresh s h is = last_absent (not (situation_is_fresh s)) (heeded_request_has_min_fresh s) (unheeded s.policy.heeds_requests _ h)
advice_never_applies which s h is = absurd (never (sym is))

pub advice_never_on_error : (s : ReuseSituation) → s.policy.heeds_requests ≡ false → error_rule_condition on_error.RequestNoCache s ≡ false
advice_never_on_error s h = unheeded s.policy.heeds_requests _ h

module _ (policy : Policy) (off : policy.heeds_requests ≡ false) (lifetime : Lifetime) (age : ℕ) (response one two : List Occurrence) (same : max_stale one ≡ max_stale two) where
  abbrev here : ReuseSituation
  here = situation_with policy lifetime age response one

  abbrev there : ReuseSituation
  there = situation_with policy lifetime age response two

  -- of the request's directives nothing counts but max-stale
  advice_is_none : (which : ReuseRule) → reuse_rule_condition which here ≡ reuse_rule_condition which there
  advice_is_none RequestNoCache = advice_never_applies RequestNoCache here off refl ∙ sym (advice_never_applies RequestNoCache there off refl)
  advice_is_none AboveMaxAge = advice_never_applies AboveMaxAge here off refl ∙ sym (advice_never_applies AboveMaxAge there off refl)
  advice_is_none BelowMinFresh = advice_never_applies BelowMinFresh here off refl ∙ sym (advice_never_applies BelowMinFresh there off refl)
  advice_is_none StaleNoCache = advice_never_applies StaleNoCache here off refl ∙ sym (advice_never_applies StaleNoCache there off refl)
  advice_is_none StaleMaxAge = advice_never_applies StaleMaxAge here off refl ∙ sym (advice_never_applies StaleMaxAge there off refl)
  advice_is_none StaleMinFresh = advice_never_applies StaleMinFresh here off refl ∙ sym (advice_never_applies StaleMinFresh there off refl)
  advice_is_none NoMaxStale = ap (λ (m : MaxStale). not (situation_is_fresh here) && not (max_stale_is_present m)) same
  advice_is_none PastMaxStale = ap (λ (m : MaxStale). not (situation_is_fresh here) && is_past_max_stale (age - lifetime.seconds) m) same
  advice_is_none which = refl

module _ (policy : Policy) (held : List Stored) (asked other : Asked) (now : ℕ) (off : policy.heeds_requests ≡ false) (like : RequestsDifferOnlyInIgnoredDirectives held asked other) where
  same_apply : (which : ReuseRule) → reuse_rule_applies which policy held asked now ≡ reuse_rule_applies which policy held other now
  same_apply Operator = refl
  same_apply Method = ap (λ (m : List ℕ). not (bytes_eq m (codes "GET") || bytes_eq m (codes "HEAD"))) like.same_method
  same_apply Content = like.same_content
  same_apply Range = ap (λ (b : Bool). policy.forwards_ranges && b) like.same_range
  same_apply Precondition = like.same_precondition
  same_apply UriMiss = ap (λ (k : Key). length (filter (λ e. same_key e.key k) held) == 0) like.one_key
  same_apply VaryMiss = ap is_none like.same_chosen_response
  same_apply which =
      same_of_some (λ e. reuse_rule_condition which (situation_of_request policy e asked now)) (λ e. reuse_rule_condition which (situation_of_request policy e other now)) (chosen_of held asked)
      (λ e. advice_is_none policy off (lifetime_of_stored_response policy e) (age_of e.times now) (occurrences_of e.fields) (occurrences_of asked.fields) (occurrences_of other.fields) like.same_max_stale which)
      ∙ ap (is_some_and (λ e. reuse_rule_condition which (situation_of_request policy e other now))) like.same_chosen_response

  pub advice_decides_nothing : decision_of policy held asked now ≡ decision_of policy held other now
  unfolding decision_of least_reuse_rule_of
  advice_decides_nothing =
      let rule = same_found (λ which. reuse_rule_applies which policy held asked now) (λ which. reuse_rule_applies which policy held other now) reuse_rules same_apply in
      ap (λ (o : Option ReuseRule). decision_by_rule o (option_map (λ e. e.serial) (chosen_of held asked))) rule
      ∙ ap (λ (c : Option Stored). decision_by_rule (find (λ which. reuse_rule_applies which policy held other now) reuse_rules) (option_map (λ e. e.serial) c)) like.same_chosen_response

-- ---- a staleness after an error

-- a directive that doesn't occur has no argument
pub none_occurs : (found : List Occurrence) (d : Directive) → directive_occurs found d ≡ false → filter (λ o. is_same_directive o.directive d) found ≡ []
none_occurs [] d h = refl
none_occurs (o ∷ more) d h = at (is_same_directive o.directive d) h (none_occurs more d)
  where
    at : (t : Bool) → t || directive_occurs more d ≡ false → (directive_occurs more d ≡ false → filter (λ x. is_same_directive x.directive d) more ≡ []) → cond t (o ∷ filter (λ x. is_same_directive x.directive d) more) (filter (λ x. is_same_directive x.directive d) more) ≡ []
    at true k rest = absurd (never k)
    at false k rest = rest k

none_stated : (found : List Occurrence) → directive_occurs found StaleIfError ≡ false → seconds_stated_once (seconds_of_directive found StaleIfError) ≡ None
none_stated found h = rw (none_occurs found StaleIfError h) refl

none_valid : (found : List Occurrence) → directive_occurs found StaleIfError ≡ false → first_valid_seconds found StaleIfError ≡ None
none_valid found h = rw (none_occurs found StaleIfError h) refl

module _ (policy : Policy) (response : Stored) (request : List Occurrence) (now most : ℕ) (silent : NeitherHasStaleIfError response request) (word : policy.stale_if_error ≡ Some most) where
  abbrev s : ReuseSituation
  s = situation_of_stored_response policy response request now

  limit_is : operator_stale_if_error_limit s ≡ Some most
  limit_is =
      is_given policy response request now most (record { policy_states_limit = word; response_has_none = silent.response_has_none; request_has_none = silent.request_has_none })

  past_by : (o : Option ℕ) (t : Bool) → o ≡ Some most → nat_lt most (staleness_at policy response now) ≡ t → is_stale_beyond_limit s o ≡ t
  past_by o t h k = ap (is_stale_beyond_limit s) h ∙ k

  pub limit_allows : staleness_at policy response now ≤ most → (error_rule_condition on_error.NoDirective s ≡ false) × (error_rule_condition on_error.TooStale s ≡ false)
  limit_allows within = (
    last_absent (is_none (stale_if_error_limit_of_response s) && is_none (request_stale_if_error_limit s)) (is_none (operator_stale_if_error_limit s)) (has_value (operator_stale_if_error_limit s) most limit_is),
    neither (is_stale_beyond_limit s (stale_if_error_limit_of_response s) || is_stale_beyond_limit s (request_stale_if_error_limit s)) (is_stale_beyond_limit s (operator_stale_if_error_limit s))
        (neither (is_stale_beyond_limit s (stale_if_error_limit_of_response s)) (is_stale_beyond_limit s (request_stale_if_error_limit s)) (ap (is_stale_beyond_limit s) (none_stated s.response silent.response_has_none)) (ap (is_stale_beyond_limit s) (none_valid s.request silent.request_has_none)))
        (past_by (operator_stale_if_error_limit s) false limit_is (is_not_below most (staleness_at policy response now) within)),
  )

  pub limit_ends : most < staleness_at policy response now → error_rule_condition on_error.TooStale s ≡ true
  limit_ends past =
      or_right (is_stale_beyond_limit s (stale_if_error_limit_of_response s) || is_stale_beyond_limit s (request_stale_if_error_limit s)) (is_stale_beyond_limit s (operator_stale_if_error_limit s))
      (past_by (operator_stale_if_error_limit s) true limit_is (is_below most (staleness_at policy response now) past))

module _ (policy : Policy) (response : Stored) (request : List Occurrence) (now : ℕ) where
  abbrev with : ReuseSituation
  with = situation_of_stored_response policy response request now

  abbrev without : ReuseSituation
  without = situation_of_stored_response (policy_without_stale_if_error policy) response request now

  one_says : (a b : Bool) (o p : Option ℕ) → (a ≡ true) ⊎ (b ≡ true) → cond (a || b) None o ≡ cond (a || b) None p
  one_says true b o p h = refl
  one_says false true o p h = refl
  one_says false false o p (inl h) = absurd (never (sym h))
  one_says false false o p (inr h) = absurd (never (sym h))

  same_limit : (directive_occurs (occurrences_of response.fields) StaleIfError ≡ true) ⊎ (directive_occurs request StaleIfError ≡ true) → operator_stale_if_error_limit with ≡ operator_stale_if_error_limit without
  same_limit h = one_says (directive_occurs (occurrences_of response.fields) StaleIfError) (directive_occurs request StaleIfError) policy.stale_if_error None h

  same_error_rule : operator_stale_if_error_limit with ≡ operator_stale_if_error_limit without → (which : ErrorRule) → error_rule_condition which with ≡ error_rule_condition which without
  same_error_rule h on_error.NoDirective = ap (λ (o : Option ℕ). (is_none (stale_if_error_limit_of_response with) && is_none (request_stale_if_error_limit with)) && is_none o) h
  same_error_rule h on_error.TooStale = ap (λ (o : Option ℕ). (is_stale_beyond_limit with (stale_if_error_limit_of_response with) || is_stale_beyond_limit with (request_stale_if_error_limit with)) || is_stale_beyond_limit with o) h
  same_error_rule h which = refl

  pub stated_limit_stays : (directive_occurs (occurrences_of response.fields) StaleIfError ≡ true) ⊎ (directive_occurs request StaleIfError ≡ true) → error_rule_against policy response request now ≡ error_rule_against (policy_without_stale_if_error policy) response request now
  unfolding error_rule_against
  stated_limit_stays h = same_found (λ which. error_rule_condition which with) (λ which. error_rule_condition which without) error_rules (same_error_rule (same_limit h))
