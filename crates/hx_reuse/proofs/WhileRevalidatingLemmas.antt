-- A stale response may be sent while it is validated exactly where RFC 5861, section 3 and the request let it be.
use Rattle.std.proofs.Common.{◌≡◌, ℕ, ◌≤◌, ◌⊎◌, inl, inr, Bool, true, false, cond, List, [], ◌∷◌, refl, sym, ◌∙◌, ap, arith}
use Rattle.std.specs.Prelude.{◌&&◌, ◌||◌, not, nat_lt, nat_le, find, is_none, is_some, Option, Some, None}
use Rattle.std.specs.List.{AllByRecursion}
use Rattle.std.proofs.lemmas.Bool.Decides.{nat_tests}
use Rattle.hx_directives.specs.Occurrences.{occurrences_of}
use Rattle.hx_directives.specs.Answers.{directive_occurs, seconds_of_directive, first_valid_seconds, max_stale}
use Rattle.hx_directives.specs.declared.occurrences.Occurrence.{Occurrence}
use Rattle.hx_directives.specs.declared.names.Directive.TheVariants as directive
use Rattle.hx_directives.specs.declared.answers.Seconds.{Seconds}
use Rattle.hx_directives.specs.declared.answers.Seconds.TheVariants as seconds_are
use Rattle.hx_store.specs.Stored.{Stored}
use Rattle.hx_policy.specs.declared.words.Policy.{Policy}
use Rattle.hx_policy.specs.Policies.{plain}
use Rattle.hx_reuse.specs.declared.rule.ReuseRule.{ReuseRule}
use Rattle.hx_reuse.specs.declared.rule.ReuseRule.TheVariants.{ResponseNoCache, MustRevalidate, NoLifetime, StaleNoCache, PastMaxStale, StaleMaxAge, StaleMinFresh}
use Rattle.hx_reuse.specs.RuleNames.{reuse_rule_number}
use Rattle.hx_reuse.specs.Rules.{ReuseSituation, is_some_and, situation_is_fresh, forbids_sending_stale, heeded_request_has_no_cache, is_above_max_age_limit, heeded_request_has_min_fresh, is_past_max_stale, reuse_rule_condition}
use Rattle.hx_reuse.specs.ErrorRules.{seconds_stated_once, situation_of_stored_response}
use Rattle.hx_reuse.specs.OnError.{staleness_at}
use Rattle.hx_reuse.specs.Promises.{ResponseForbidsStale}
use Rattle.hx_reuse.specs.WhileRevalidating.{limit_of_stale_while_revalidate, stale_while_revalidate_rules, situation_allows_stale_while_revalidate, may_be_sent_while_revalidating, ResponseHasStaleWhileRevalidateOf, OperatorGivesStaleWhileRevalidateOf, ResponseMayBeSentWhileRevalidating, policy_without_stale_while_revalidate}
use Rattle.hx_fields.proofs.FirstThat.{IsMember, none_passes}
use Rattle.hx_fields.proofs.JoinedTests.{never, not_false, not_true, left_false, right_false, neither, last_absent, second_false, under_not, no_value, not_below, is_not_below}
use Rattle.hx_reuse.proofs.ValueTests.{test_false, none_tests}
use Rattle.hx_reuse.proofs.LineLemmas.{none_occurs}

both_true : (a b : Bool) → a && b ≡ true → (a ≡ true) × (b ≡ true)
both_true true b h = (refl, h)
both_true false b h = absurd (never (sym h))

and_true : (a b : Bool) → a ≡ true → b ≡ true → a && b ≡ true
and_true true b h k = k
and_true false b h k = h

not_so : (a : Bool) → not a ≡ true → a ≡ false
not_so true h = absurd (never (sym h))
not_so false h = refl

is_not_so : (a : Bool) → a ≡ false → not a ≡ true
is_not_so true h = absurd (never h)
is_not_so false h = refl

none_of : (o : Option ReuseRule) → is_none o ≡ true → o ≡ None
none_of None h = refl
none_of (Some rule) h = absurd (never (sym h))

passing : (p : ℕ → Bool) (o : Option ℕ) → is_some_and p o ≡ true → (n : ℕ) × (o ≡ Some n) × (p n ≡ true)
passing p None h = absurd (never (sym h))
passing p (Some n) h = (n, refl, h)

passed : (p : ℕ → Bool) (o : Option ℕ) (n : ℕ) → o ≡ Some n → p n ≡ true → is_some_and p o ≡ true
passed p o n h k = ap (is_some_and p) h ∙ k

within : (m n : ℕ) → nat_le m n ≡ true → m ≤ n
within m n h = grind (arith, nat_tests)

is_within : (m n : ℕ) → m ≤ n → nat_le m n ≡ true
is_within m n h = grind (arith, nat_tests)

none_stands : (p : ReuseRule → Bool) (xs : List ReuseRule) → AllByRecursion (λ x. p x ≡ false) xs → find p xs ≡ None
none_stands p [] all = refl
none_stands p (x ∷ xs) all = rw all.0 (none_stands p xs all.1)

-- ---- the limit

states : (s : Seconds) (n : ℕ) → seconds_stated_once s ≡ Some n → s ≡ seconds_are.Value n
states seconds_are.Absent n h = absurd cc
states seconds_are.Bad n h = absurd cc
states seconds_are.Repeated n h = absurd cc
states (seconds_are.Value m) n h = let same : m ≡ n = cc in ap seconds_are.Value same

absent : (found : List Occurrence) → directive_occurs found directive.StaleWhileRevalidate ≡ false → seconds_of_directive found directive.StaleWhileRevalidate ≡ seconds_are.Absent
absent found h = rw (none_occurs found directive.StaleWhileRevalidate h) refl

module _ (policy : Policy) (response : Stored) (request : List Occurrence) (now : ℕ) where
  abbrev here : ReuseSituation
  here = situation_of_stored_response policy response request now

  abbrev occurs : Bool
  occurs = directive_occurs (occurrences_of response.fields) directive.StaleWhileRevalidate

  abbrev stated : Option ℕ
  stated = seconds_stated_once (seconds_of_directive (occurrences_of response.fields) directive.StaleWhileRevalidate)

  said_by : (most : ℕ) → limit_of_stale_while_revalidate here ≡ Some most → ResponseHasStaleWhileRevalidateOf response most ⊎ OperatorGivesStaleWhileRevalidateOf policy response most
  said_by most h = at occurs refl h
    where
      at : (t : Bool) → occurs ≡ t → cond t stated policy.stale_while_revalidate ≡ Some most → ResponseHasStaleWhileRevalidateOf response most ⊎ OperatorGivesStaleWhileRevalidateOf policy response most
      at true o k = inl (states (seconds_of_directive (occurrences_of response.fields) directive.StaleWhileRevalidate) most k)
      at false o k = inr (record { policy_states_limit = k; response_has_none = o })

  limit_of : (most : ℕ) → ResponseHasStaleWhileRevalidateOf response most ⊎ OperatorGivesStaleWhileRevalidateOf policy response most → limit_of_stale_while_revalidate here ≡ Some most
  limit_of most (inl says) = at occurs refl
    where
      none : seconds_are.Absent ≡ seconds_are.Value most → ⊥
      none h = cc

      at : (t : Bool) → occurs ≡ t → cond t stated policy.stale_while_revalidate ≡ Some most
      at true o = ap seconds_stated_once says
      at false o = absurd (none (sym (absent (occurrences_of response.fields) o) ∙ says))
  limit_of most (inr gives) = ap (λ t. cond t stated policy.stale_while_revalidate) gives.response_has_none ∙ gives.policy_states_limit

  -- ---- from what is found to what may be sent

  abbrev passes : ReuseRule → Bool
  passes rule = reuse_rule_condition rule here

  module _ (sent : situation_allows_stale_while_revalidate here ≡ true) where
    abbrev rest : Bool
    rest = is_none (find passes stale_while_revalidate_rules) && is_some_and (λ most. nat_le (staleness_at policy response now) most) (limit_of_stale_while_revalidate here)

    lets : (policy.sends_while_revalidating ≡ true) × (not (situation_is_fresh here) && rest ≡ true)
    lets = both_true policy.sends_while_revalidating (not (situation_is_fresh here) && rest) sent

    stale : (not (situation_is_fresh here) ≡ true) × (rest ≡ true)
    stale = both_true (not (situation_is_fresh here)) rest lets.1

    others : (is_none (find passes stale_while_revalidate_rules) ≡ true) × (is_some_and (λ most. nat_le (staleness_at policy response now) most) (limit_of_stale_while_revalidate here) ≡ true)
    others = both_true (is_none (find passes stale_while_revalidate_rules)) (is_some_and (λ most. nat_le (staleness_at policy response now) most) (limit_of_stale_while_revalidate here)) stale.1

    isnt_fresh : situation_is_fresh here ≡ false
    isnt_fresh = not_so (situation_is_fresh here) stale.0

    none : (rule : ReuseRule) → IsMember rule stale_while_revalidate_rules → reuse_rule_condition rule here ≡ false
    none rule m = none_passes reuse_rule_number passes stale_while_revalidate_rules rule (none_of (find passes stale_while_revalidate_rules) others.0) m

    revalidated : forbids_sending_stale here ≡ false
    revalidated = under_not (situation_is_fresh here) (forbids_sending_stale here) isnt_fresh (none MustRevalidate (inr (inl refl)))

    limit : (most : ℕ) × (limit_of_stale_while_revalidate here ≡ Some most) × (nat_le (staleness_at policy response now) most ≡ true)
    limit = passing (λ most. nat_le (staleness_at policy response now) most) (limit_of_stale_while_revalidate here) others.1

    as_words : ResponseMayBeSentWhileRevalidating policy response request now
    as_words =
        let must = directive_occurs here.response directive.MustRevalidate in
        let proxy = directive_occurs here.response directive.ProxyRevalidate in
        let shared = directive_occurs here.response directive.SMaxage in
        let neither_two = left_false (must || proxy) shared revalidated in
        record {
          policy_sends_while_revalidating = lets.0;
          is_stale = not_below here.age here.lifetime.seconds isnt_fresh;
          no_no_cache = none ResponseNoCache (inl refl);
          no_must_revalidate = left_false must proxy neither_two;
          no_proxy_revalidate = right_false must proxy neither_two;
          no_s_maxage = right_false (must || proxy) shared revalidated;
          has_a_lifetime = not_false here.lifetime.explicit (under_not (situation_is_fresh here) (not here.lifetime.explicit) isnt_fresh (none NoLifetime (inr (inr (inl refl)))));
          not_to_be_validated = λ heeds. second_false policy.heeds_requests (directive_occurs request directive.NoCache) heeds
              (under_not (situation_is_fresh here) (heeded_request_has_no_cache here) isnt_fresh (none StaleNoCache (inr (inr (inr (inl refl))))));
          within_max_age = λ heeds most is.
              let over = is_some_and (λ m. nat_lt m here.age) (first_valid_seconds request directive.MaxAge) in
              not_below most here.age (test_false (λ m. nat_lt m here.age) (first_valid_seconds request directive.MaxAge) most
              (second_false policy.heeds_requests over heeds (under_not (situation_is_fresh here) (is_above_max_age_limit here) isnt_fresh (none StaleMaxAge (inr (inr (inr (inr (inr (inl refl))))))))) is);
          no_min_fresh = λ heeds. no_value (first_valid_seconds request directive.MinFresh) (second_false policy.heeds_requests (is_some (first_valid_seconds request directive.MinFresh)) heeds
              (under_not (situation_is_fresh here) (heeded_request_has_min_fresh here) isnt_fresh (none StaleMinFresh (inr (inr (inr (inr (inr (inr (inl refl))))))))));
          within_max_stale = under_not (situation_is_fresh here) (is_past_max_stale (staleness_at policy response now) (max_stale request)) isnt_fresh (none PastMaxStale (inr (inr (inr (inr (inl refl))))));
          most = limit.0;
          limit_is = said_by limit.0 limit.1;
          within_limit = within (staleness_at policy response now) limit.0 limit.2;
        }

  pub sent_may_be : may_be_sent_while_revalidating policy response request now ≡ true → ResponseMayBeSentWhileRevalidating policy response request now
  unfolding may_be_sent_while_revalidating
  sent_may_be h = as_words h

  -- ---- and back

  heeded : (word test : Bool) → (word ≡ true → test ≡ false) → word && test ≡ false
  heeded true test h = h refl
  heeded false test h = refl

  module _ (may : ResponseMayBeSentWhileRevalidating policy response request now) where
    absent_where_stale : (b : Bool) → b ≡ false → not (situation_is_fresh here) && b ≡ false
    absent_where_stale b h = last_absent (not (situation_is_fresh here)) b h

    none_is_against : AllByRecursion (λ (rule : ReuseRule). passes rule ≡ false) stale_while_revalidate_rules
    none_is_against =
        let must = directive_occurs here.response directive.MustRevalidate in
        let proxy = directive_occurs here.response directive.ProxyRevalidate in
        let shared = directive_occurs here.response directive.SMaxage in
        let stale : not (situation_is_fresh here) && forbids_sending_stale here ≡ false =
        absent_where_stale (forbids_sending_stale here) (neither (must || proxy) shared (neither must proxy may.no_must_revalidate may.no_proxy_revalidate) may.no_s_maxage) in
        let lasts : not (situation_is_fresh here) && not here.lifetime.explicit ≡ false = absent_where_stale (not here.lifetime.explicit) (not_true here.lifetime.explicit may.has_a_lifetime) in
        let asks : not (situation_is_fresh here) && heeded_request_has_no_cache here ≡ false =
        absent_where_stale (heeded_request_has_no_cache here) (heeded policy.heeds_requests (directive_occurs request directive.NoCache) may.not_to_be_validated) in
        let past : not (situation_is_fresh here) && is_past_max_stale (staleness_at policy response now) (max_stale request) ≡ false =
        absent_where_stale (is_past_max_stale (staleness_at policy response now) (max_stale request)) may.within_max_stale in
        let above : not (situation_is_fresh here) && is_above_max_age_limit here ≡ false =
        absent_where_stale (is_above_max_age_limit here) (heeded policy.heeds_requests (is_some_and (λ m. nat_lt m here.age) (first_valid_seconds request directive.MaxAge))
        (λ heeds. none_tests (λ m. nat_lt m here.age) (first_valid_seconds request directive.MaxAge) (λ most h. is_not_below most here.age (may.within_max_age heeds most h)))) in
        let wants : not (situation_is_fresh here) && heeded_request_has_min_fresh here ≡ false =
        absent_where_stale (heeded_request_has_min_fresh here) (heeded policy.heeds_requests (is_some (first_valid_seconds request directive.MinFresh)) (λ heeds. ap is_some (may.no_min_fresh heeds))) in
        (may.no_no_cache, (stale, (lasts, (asks, (past, (above, (wants, tt)))))))

    is_in : situation_allows_stale_while_revalidate here ≡ true
    is_in =
        let found = is_none (find passes stale_while_revalidate_rules) in
        let limited = is_some_and (λ most. nat_le (staleness_at policy response now) most) (limit_of_stale_while_revalidate here) in
        and_true policy.sends_while_revalidating (not (situation_is_fresh here) && (found && limited)) may.policy_sends_while_revalidating
        (and_true (not (situation_is_fresh here)) (found && limited) (is_not_so (situation_is_fresh here) (is_not_below here.age here.lifetime.seconds may.is_stale))
        (and_true found limited (ap is_none (none_stands passes stale_while_revalidate_rules none_is_against))
        (passed (λ most. nat_le (staleness_at policy response now) most) (limit_of_stale_while_revalidate here) may.most (limit_of may.most may.limit_is) (is_within (staleness_at policy response now) may.most may.within_limit))))

  pub may_be_sent : ResponseMayBeSentWhileRevalidating policy response request now → may_be_sent_while_revalidating policy response request now ≡ true
  unfolding may_be_sent_while_revalidating
  may_be_sent may = is_in may

  -- ---- what never is

  pub never_where_forbidden : may_be_sent_while_revalidating policy response request now ≡ true → (directive_occurs (occurrences_of response.fields) directive.NoCache ≡ true) ⊎ ResponseForbidsStale response → ⊥
  never_where_forbidden h (inl no_cache) = never (sym no_cache ∙ (sent_may_be h).no_no_cache)
  never_where_forbidden h (inr (inl must)) = never (sym must ∙ (sent_may_be h).no_must_revalidate)
  never_where_forbidden h (inr (inr (inl proxy))) = never (sym proxy ∙ (sent_may_be h).no_proxy_revalidate)
  never_where_forbidden h (inr (inr (inr shared))) = never (sym shared ∙ (sent_may_be h).no_s_maxage)

  false_unless : (b : Bool) → (b ≡ true → ⊥) → b ≡ false
  false_unless true h = absurd (h refl)
  false_unless false h = refl

  pub never_without_a_limit : policy.stale_while_revalidate ≡ None → occurs ≡ false → may_be_sent_while_revalidating policy response request now ≡ false
  never_without_a_limit none unsaid = false_unless (may_be_sent_while_revalidating policy response request now) (λ h. by_limit (sent_may_be h).most (sent_may_be h).limit_is)
    where
      by_limit : (most : ℕ) → ResponseHasStaleWhileRevalidateOf response most ⊎ OperatorGivesStaleWhileRevalidateOf policy response most → ⊥
      by_limit most k = never_some most (sym none ∙ no_stated ∙ limit_of most k)
        where
          never_some : (n : ℕ) → ◌≡◌ {A = Option ℕ} None (Some n) → ⊥
          never_some n h = cc

          no_stated : policy.stale_while_revalidate ≡ limit_of_stale_while_revalidate here
          no_stated = sym (ap (λ t. cond t stated policy.stale_while_revalidate) unsaid)

  pub stated_stays : occurs ≡ true → may_be_sent_while_revalidating policy response request now ≡ may_be_sent_while_revalidating (policy_without_stale_while_revalidate policy) response request now
  unfolding may_be_sent_while_revalidating
  stated_stays says =
      ap (λ (o : Option ℕ). policy.sends_while_revalidating && (not (situation_is_fresh here) && (is_none (find passes stale_while_revalidate_rules) && is_some_and (λ most. nat_le (staleness_at policy response now) most) o)))
      (ap (λ t. cond t stated policy.stale_while_revalidate) says ∙ sym (ap (λ t. cond t stated None) says))

pub plain_sends_nothing : (caches : Bool) (response : Stored) (request : List Occurrence) (now : ℕ) → may_be_sent_while_revalidating (plain caches) response request now ≡ false
unfolding may_be_sent_while_revalidating
plain_sends_nothing caches response request now = refl
