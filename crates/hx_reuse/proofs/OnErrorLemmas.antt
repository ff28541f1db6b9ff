-- No rule stands after an error exactly where the response may be sent; the rule that is named is the least.
use Rattle.std.proofs.Common.{◌≡◌, ℕ, ◌≤◌, ◌⊎◌, inl, inr, Bool, true, false, cond, List, refl, ◌∙◌, ap}
use Rattle.std.specs.Prelude.{◌&&◌, ◌||◌, nat_lt, is_none, Option, Some, None}
use Rattle.hx_directives.specs.Answers.{directive_occurs, seconds_of_directive}
use Rattle.hx_directives.specs.declared.occurrences.Occurrence.{Occurrence}
use Rattle.hx_directives.specs.declared.names.Directive.TheVariants as directive
use Rattle.hx_directives.specs.declared.answers.Seconds.{Seconds}
use Rattle.hx_directives.specs.declared.answers.Seconds.TheVariants as seconds_are
use Rattle.hx_store.specs.Stored.{Stored}
use Rattle.hx_policy.specs.declared.words.Policy.{Policy}
use Rattle.hx_reuse.specs.declared.rule.ErrorRule.{ErrorRule}
use Rattle.hx_reuse.specs.declared.rule.ErrorRule.TheVariants.{NoCache, MustRevalidate, NoLifetime, RequestNoCache, NoDirective, TooStale}
use Rattle.hx_reuse.specs.RuleNames.{error_rule_number}
use Rattle.hx_reuse.specs.Rules.{ReuseSituation, forbids_sending_stale}
use Rattle.hx_reuse.specs.ErrorRules.{seconds_stated_once, stale_if_error_limit_of_response, request_stale_if_error_limit, operator_stale_if_error_limit, is_stale_beyond_limit, error_rule_condition, error_rules, situation_of_stored_response, error_rule_against}
use Rattle.hx_reuse.specs.OnError.{ResponseHasStaleIfErrorOf, RequestHasStaleIfErrorOf, OperatorGivesStaleIfErrorOf, staleness_at, ResponseMayBeSentOnError, IsLeastErrorRule}
use Rattle.hx_fields.proofs.FirstThat.{IsMember, ascends, passes, fails_before, none_passes, none_found, first_found}
use Rattle.hx_fields.proofs.JoinedTests.{not_false, not_true, left_false, right_false, neither, last_absent, first_absent, second_false, either_false, some_value, has_value, not_below, is_not_below}
use Rattle.hx_reuse.proofs.ValueTests.{test_false, none_tests}

-- ---- the table

listed : (r : ErrorRule) → IsMember r error_rules
listed NoCache = inl refl
listed MustRevalidate = inr (inl refl)
listed NoLifetime = inr (inr (inl refl))
listed RequestNoCache = inr (inr (inr (inl refl)))
listed NoDirective = inr (inr (inr (inr (inl refl))))
listed TooStale = inr (inr (inr (inr (inr (inl refl)))))

in_order : ascends error_rule_number 0 error_rules ≡ true
unfolding ascends
in_order = refl

-- ---- the limit that a response states

states : (s : Seconds) (n : ℕ) → seconds_stated_once s ≡ Some n → s ≡ seconds_are.Value n
states seconds_are.Absent n h = absurd cc
states seconds_are.Bad n h = absurd cc
states seconds_are.Repeated n h = absurd cc
states (seconds_are.Value m) n h = let same : m ≡ n = cc in ap seconds_are.Value same

module _ (policy : Policy) (response : Stored) (request : List Occurrence) (now : ℕ) where
  abbrev here : ReuseSituation
  here = situation_of_stored_response policy response request now

  pub least_on_error : (least : ErrorRule) → error_rule_against policy response request now ≡ Some least → IsLeastErrorRule policy response request now least
  unfolding error_rule_against
  least_on_error least h = record {
    rule_applies = passes error_rule_number (λ r. error_rule_condition r here) error_rules least h;
    none_before = λ r l. fails_before error_rule_number (λ r. error_rule_condition r here) 0 error_rules least r in_order h (listed r) l;
  }

  pub named_on_error : (least : ErrorRule) → IsLeastErrorRule policy response request now least → error_rule_against policy response request now ≡ Some least
  unfolding error_rule_against
  named_on_error least is =
      first_found error_rule_number (λ r. error_rule_condition r here) 0 error_rules least in_order (listed least) is.rule_applies is.none_before

  none_on_error : error_rule_against policy response request now ≡ None → (rule : ErrorRule) → error_rule_condition rule here ≡ false
  unfolding error_rule_against
  none_on_error h rule = none_passes error_rule_number (λ r. error_rule_condition r here) error_rules rule h (listed rule)

  none_is_found : ((rule : ErrorRule) → error_rule_condition rule here ≡ false) → error_rule_against policy response request now ≡ None
  unfolding error_rule_against
  none_is_found none = none_found error_rule_number (λ r. error_rule_condition r here) error_rules none

  -- ---- the limit of the operator's line

  abbrev response_says : Bool
  response_says = directive_occurs here.response directive.StaleIfError

  abbrev request_says : Bool
  request_says = directive_occurs here.request directive.StaleIfError

  -- a value that stands only where neither says one
  where_neither : (a b : Bool) (o : Option ℕ) (n : ℕ) → cond (a || b) None o ≡ Some n → (a ≡ false) × ((b ≡ false) × (o ≡ Some n))
  where_neither true b o n h = absurd cc
  where_neither false true o n h = absurd cc
  where_neither false false o n h = (refl, (refl, h))

  neither_says : (a b : Bool) (o : Option ℕ) → a ≡ false → b ≡ false → cond (a || b) None o ≡ o
  neither_says a b o h k = rw (h, k) refl

  gives : (most : ℕ) → operator_stale_if_error_limit here ≡ Some most → OperatorGivesStaleIfErrorOf policy response request most
  gives most h =
      let r = where_neither response_says request_says policy.stale_if_error most h in
      record { policy_states_limit = r.1.1; response_has_none = r.0; request_has_none = r.1.0 }

  pub is_given : (most : ℕ) → OperatorGivesStaleIfErrorOf policy response request most → operator_stale_if_error_limit here ≡ Some most
  is_given most g = neither_says response_says request_says policy.stale_if_error g.response_has_none g.request_has_none ∙ g.policy_states_limit

  abbrev IsAllowed : Type 0
  IsAllowed = ((most : ℕ) × ResponseHasStaleIfErrorOf response most) ⊎ (((most : ℕ) × RequestHasStaleIfErrorOf request most) ⊎ ((most : ℕ) × OperatorGivesStaleIfErrorOf policy response request most))

  -- ---- from no rule to what may be sent

  within : (limit : Option ℕ) (most : ℕ) → is_stale_beyond_limit here limit ≡ false → limit ≡ Some most → staleness_at policy response now ≤ most
  within limit most h is = not_below most (staleness_at policy response now) (test_false (λ m. nat_lt m (staleness_at policy response now)) limit most h is)

  module _ (none : (rule : ErrorRule) → error_rule_condition rule here ≡ false) where
    revalidated : Bool
    revalidated = forbids_sending_stale here

    allowed : IsAllowed
    allowed = at (either_false (is_none (stale_if_error_limit_of_response here) && is_none (request_stale_if_error_limit here)) (is_none (operator_stale_if_error_limit here)) (none NoDirective))
      where
        stated : (is_none (stale_if_error_limit_of_response here) ≡ false) ⊎ (is_none (request_stale_if_error_limit here) ≡ false) → IsAllowed
        stated (inl h) = let limit = some_value (stale_if_error_limit_of_response here) h in inl (limit.0, states (seconds_of_directive here.response directive.StaleIfError) limit.0 limit.1)
        stated (inr h) = let limit = some_value (request_stale_if_error_limit here) h in inr (inl (limit.0, limit.1))

        at : (is_none (stale_if_error_limit_of_response here) && is_none (request_stale_if_error_limit here) ≡ false) ⊎ (is_none (operator_stale_if_error_limit here) ≡ false) → IsAllowed
        at (inl h) = stated (either_false (is_none (stale_if_error_limit_of_response here)) (is_none (request_stale_if_error_limit here)) h)
        at (inr h) = let limit = some_value (operator_stale_if_error_limit here) h in inr (inr (limit.0, gives limit.0 limit.1))

    sent : ResponseMayBeSentOnError policy response request now
    sent =
        let must = directive_occurs here.response directive.MustRevalidate in
        let proxy = directive_occurs here.response directive.ProxyRevalidate in
        let shared = directive_occurs here.response directive.SMaxage in
        let neither_two = left_false (must || proxy) shared (none MustRevalidate) in
        let two = is_stale_beyond_limit here (stale_if_error_limit_of_response here) || is_stale_beyond_limit here (request_stale_if_error_limit here) in
        let of_two = left_false two (is_stale_beyond_limit here (operator_stale_if_error_limit here)) (none TooStale) in
        record {
          no_no_cache = none NoCache;
          no_must_revalidate = left_false must proxy neither_two;
          no_proxy_revalidate = right_false must proxy neither_two;
          no_s_maxage = right_false (must || proxy) shared (none MustRevalidate);
          has_a_lifetime = not_false here.lifetime.explicit (none NoLifetime);
          not_to_be_validated = λ heeds. second_false policy.heeds_requests (directive_occurs request directive.NoCache) heeds (none RequestNoCache);
          is_allowed = allowed;
          within_its_limit = λ most h. within (stale_if_error_limit_of_response here) most (left_false (is_stale_beyond_limit here (stale_if_error_limit_of_response here)) (is_stale_beyond_limit here (request_stale_if_error_limit here)) of_two) (ap seconds_stated_once h);
          within_the_requests = λ most h. within (request_stale_if_error_limit here) most (right_false (is_stale_beyond_limit here (stale_if_error_limit_of_response here)) (is_stale_beyond_limit here (request_stale_if_error_limit here)) of_two) h;
          within_the_operators = λ most h. within (operator_stale_if_error_limit here) most (right_false two (is_stale_beyond_limit here (operator_stale_if_error_limit here)) (none TooStale)) (is_given most h);
        }

  pub sent_may_be : error_rule_against policy response request now ≡ None → ResponseMayBeSentOnError policy response request now
  sent_may_be h = sent (none_on_error h)

  -- ---- and back

  heeded : (word test : Bool) → (word ≡ true → test ≡ false) → word && test ≡ false
  heeded true test h = h refl
  heeded false test h = refl

  not_past : (limit : Option ℕ) → ((most : ℕ) → limit ≡ Some most → staleness_at policy response now ≤ most) → is_stale_beyond_limit here limit ≡ false
  not_past limit below =
      none_tests (λ m. nat_lt m (staleness_at policy response now)) limit (λ most h. is_not_below most (staleness_at policy response now) (below most h))

  some_limit : IsAllowed → error_rule_condition NoDirective here ≡ false
  some_limit (inl limit) =
      first_absent (is_none (stale_if_error_limit_of_response here) && is_none (request_stale_if_error_limit here)) (is_none (operator_stale_if_error_limit here))
      (first_absent (is_none (stale_if_error_limit_of_response here)) (is_none (request_stale_if_error_limit here)) (has_value (stale_if_error_limit_of_response here) limit.0 (ap seconds_stated_once limit.1)))
  some_limit (inr (inl limit)) =
      first_absent (is_none (stale_if_error_limit_of_response here) && is_none (request_stale_if_error_limit here)) (is_none (operator_stale_if_error_limit here))
      (last_absent (is_none (stale_if_error_limit_of_response here)) (is_none (request_stale_if_error_limit here)) (has_value (request_stale_if_error_limit here) limit.0 limit.1))
  some_limit (inr (inr limit)) =
      last_absent (is_none (stale_if_error_limit_of_response here) && is_none (request_stale_if_error_limit here)) (is_none (operator_stale_if_error_limit here))
      (has_value (operator_stale_if_error_limit here) limit.0 (is_given limit.0 limit.1))

  module _ (may : ResponseMayBeSentOnError policy response request now) where
    none_applies : (rule : ErrorRule) → error_rule_condition rule here ≡ false
    none_applies NoCache = may.no_no_cache
    none_applies MustRevalidate =
        let must = directive_occurs here.response directive.MustRevalidate in
        let proxy = directive_occurs here.response directive.ProxyRevalidate in
        let shared = directive_occurs here.response directive.SMaxage in
        neither (must || proxy) shared (neither must proxy may.no_must_revalidate may.no_proxy_revalidate) may.no_s_maxage
    none_applies NoLifetime = not_true here.lifetime.explicit may.has_a_lifetime
    none_applies RequestNoCache = heeded policy.heeds_requests (directive_occurs request directive.NoCache) may.not_to_be_validated
    none_applies NoDirective = some_limit may.is_allowed
    none_applies TooStale =
        neither (is_stale_beyond_limit here (stale_if_error_limit_of_response here) || is_stale_beyond_limit here (request_stale_if_error_limit here)) (is_stale_beyond_limit here (operator_stale_if_error_limit here))
        (neither (is_stale_beyond_limit here (stale_if_error_limit_of_response here)) (is_stale_beyond_limit here (request_stale_if_error_limit here))
        (not_past (stale_if_error_limit_of_response here) (λ most h. may.within_its_limit most (states (seconds_of_directive here.response directive.StaleIfError) most h)))
        (not_past (request_stale_if_error_limit here) (λ most h. may.within_the_requests most h)))
        (not_past (operator_stale_if_error_limit here) (λ most h. may.within_the_operators most (gives most h)))

    pub may_be_sent_on_error : error_rule_against policy response request now ≡ None
    may_be_sent_on_error = none_is_found none_applies
