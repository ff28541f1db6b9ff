-- No rule stands exactly where the standard's list holds of the chosen response.
use Rattle.std.proofs.Common.{◌≡◌, ℕ, ◌+◌, ◌-◌, ◌⊎◌, inl, inr, Bool, true, false, List, refl, sym, ◌∙◌, ap}
use Rattle.std.specs.Prelude.{◌&&◌, ◌||◌, not, nat_lt, codes, bytes_eq, is_none, is_some, Some, None}
use Rattle.std.proofs.lemmas.Slice.Eq.{bytes_eq-Decides}
use Rattle.hx_directives.specs.Answers.{directive_occurs, first_valid_seconds, max_stale}
use Rattle.hx_directives.specs.declared.names.Directive.TheVariants as directive
use Rattle.hx_directives.specs.declared.answers.MaxStale.{MaxStale}
use Rattle.hx_directives.specs.declared.answers.MaxStale.TheVariants.{Absent, Any, UpTo}
use Rattle.hx_target.specs.Keys.{same_key}
use Rattle.hx_hop.specs.declared.request_view.Asked.{Asked}
use Rattle.hx_hop.specs.Bypass.{asks_for_range}
use Rattle.hx_store.specs.Stored.{Stored}
use Rattle.hx_policy.specs.declared.words.Policy.{Policy}
use Rattle.hx_store.specs.Serials.{SerialsAreDistinct}
use Rattle.hx_store.specs.Shelf.{serials}
use Rattle.hx_reuse.specs.declared.decision.Decision.TheVariants.{Hit}
use Rattle.hx_reuse.specs.declared.rule.ReuseRule.{ReuseRule}
use Rattle.hx_reuse.specs.declared.rule.ReuseRule.TheVariants.{Operator, Method, Content, Range, Precondition, UriMiss, VaryMiss, ResponseNoCache, RequestNoCache, AboveMaxAge, BelowMinFresh, MustRevalidate, NoLifetime, StaleNoCache, NoMaxStale, PastMaxStale, StaleMaxAge, StaleMinFresh}
use Rattle.hx_reuse.specs.Chosen.{entries_of_key, chosen_of}
use Rattle.hx_reuse.specs.Rules.{ReuseSituation, reuse_rule_applies, reuse_rule_condition, situation_of_request, situation_is_fresh, forbids_sending_stale, heeded_request_has_no_cache, is_above_max_age_limit, is_below_min_fresh_of_request, heeded_request_has_min_fresh, max_stale_is_present, is_past_max_stale, is_some_and, decision_of}
use Rattle.hx_reuse.specs.Reusable.{ResponseIsWithinMaxAge, ResponseIsFreshForMinFresh, MayBeSentFresh, MayBeSentStale, MaxStaleAcceptsStaleness, ResponseMayBeReused}
use Rattle.hx_fields.proofs.JoinedTests.{never, second_false, first_absent, last_absent, under_not, not_first, not_false, left_false, right_false, neither, no_value, not_below, is_not_below, below, is_below, not_true}
use Rattle.hx_reuse.proofs.ValueTests.{test_false, none_tests}
use Rattle.hx_reuse.proofs.Preferred.{member_filter}
use Rattle.hx_reuse.proofs.RuleLemmas.{some_there}
use Rattle.hx_reuse.proofs.Choice.{chosen_is_preferred, preferred_is_the_chosen, member_contained}
use Rattle.hx_reuse.proofs.MeaningLemmas.{may_be_sent, is_sent}

-- ---- the request's method and its max-stale

method_allows : (m : List ℕ) → not (bytes_eq m (codes "GET") || bytes_eq m (codes "HEAD")) ≡ false → (m ≡ codes "GET") ⊎ (m ≡ codes "HEAD")
method_allows m h = one_of (bytes_eq m (codes "GET")) (bytes_eq m (codes "HEAD")) (bytes_eq-Decides m (codes "GET")).0 (bytes_eq-Decides m (codes "HEAD")).0 (not_false (bytes_eq m (codes "GET") || bytes_eq m (codes "HEAD")) h)
  where
    one_of : (a b : Bool) → (a ≡ true → m ≡ codes "GET") → (b ≡ true → m ≡ codes "HEAD") → a || b ≡ true → (m ≡ codes "GET") ⊎ (m ≡ codes "HEAD")
    one_of true b get head k = inl (get refl)
    one_of false b get head k = inr (head k)

method_is_allowed : (m : List ℕ) → (m ≡ codes "GET") ⊎ (m ≡ codes "HEAD") → not (bytes_eq m (codes "GET") || bytes_eq m (codes "HEAD")) ≡ false
method_is_allowed m (inl get) = rw get refl
method_is_allowed m (inr head) = rw head refl

takes : (limit : MaxStale) (n : ℕ) → not (max_stale_is_present limit) ≡ false → is_past_max_stale n limit ≡ false → MaxStaleAcceptsStaleness limit n
takes Absent n h k = absurd (never h)
takes Any n h k = tt
takes (UpTo most) n h k = not_below most n k

accepts_what_it_takes : (limit : MaxStale) (n : ℕ) → MaxStaleAcceptsStaleness limit n → max_stale_is_present limit ≡ true
accepts_what_it_takes Absent n h = absurd h
accepts_what_it_takes Any n h = refl
accepts_what_it_takes (UpTo most) n h = refl

not_past_what_it_takes : (limit : MaxStale) (n : ℕ) → MaxStaleAcceptsStaleness limit n → is_past_max_stale n limit ≡ false
not_past_what_it_takes Absent n h = absurd h
not_past_what_it_takes Any n h = refl
not_past_what_it_takes (UpTo most) n h = is_not_below most n h

module _ (policy : Policy) (e : Stored) (asked : Asked) (now : ℕ) where
  abbrev here : ReuseSituation
  here = situation_of_request policy e asked now

  -- ---- what is so where no rule on the chosen response stands

  not_to_be_validated : heeded_request_has_no_cache here ≡ false → policy.heeds_requests ≡ true → directive_occurs here.request directive.NoCache ≡ false
  not_to_be_validated h heeds = second_false policy.heeds_requests (directive_occurs here.request directive.NoCache) heeds h

  within_max_age : is_above_max_age_limit here ≡ false → policy.heeds_requests ≡ true → ResponseIsWithinMaxAge e asked now
  within_max_age h heeds most is =
      let over = is_some_and (λ m. nat_lt m here.age) (first_valid_seconds here.request directive.MaxAge) in
      not_below most here.age (test_false (λ m. nat_lt m here.age) (first_valid_seconds here.request directive.MaxAge) most (second_false policy.heeds_requests over heeds h) is)

  fresh_for_min_fresh : is_below_min_fresh_of_request here ≡ false → policy.heeds_requests ≡ true → ResponseIsFreshForMinFresh policy e asked now
  fresh_for_min_fresh h heeds least is =
      let short = is_some_and (λ m. nat_lt here.lifetime.seconds (here.age + m)) (first_valid_seconds here.request directive.MinFresh) in
      not_below here.lifetime.seconds (here.age + least) (test_false (λ m. nat_lt here.lifetime.seconds (here.age + m)) (first_valid_seconds here.request directive.MinFresh) least (second_false policy.heeds_requests short heeds h) is)

  no_min_fresh : heeded_request_has_min_fresh here ≡ false → policy.heeds_requests ≡ true → first_valid_seconds here.request directive.MinFresh ≡ None
  no_min_fresh h heeds =
      no_value (first_valid_seconds here.request directive.MinFresh) (second_false policy.heeds_requests (is_some (first_valid_seconds here.request directive.MinFresh)) heeds h)

  module _ (none : (rule : ReuseRule) → reuse_rule_condition rule here ≡ false) where
    sent_fresh : situation_is_fresh here ≡ true → MayBeSentFresh policy e asked now
    sent_fresh f =
        record {
          is_fresh = below here.age here.lifetime.seconds f;
          not_to_be_validated = not_to_be_validated (second_false (situation_is_fresh here) (heeded_request_has_no_cache here) f (none RequestNoCache));
          within_max_age = within_max_age (second_false (situation_is_fresh here) (is_above_max_age_limit here) f (none AboveMaxAge));
          fresh_for_min_fresh = fresh_for_min_fresh (second_false (situation_is_fresh here) (is_below_min_fresh_of_request here) f (none BelowMinFresh));
        }

    sent_stale : situation_is_fresh here ≡ false → MayBeSentStale policy e asked now
    sent_stale f =
        let must = directive_occurs here.response directive.MustRevalidate in
        let proxy = directive_occurs here.response directive.ProxyRevalidate in
        let shared = directive_occurs here.response directive.SMaxage in
        let limit = max_stale here.request in
        let staleness = here.age - here.lifetime.seconds in
        let revalidate = under_not (situation_is_fresh here) (forbids_sending_stale here) f (none MustRevalidate) in
        let neither_two = left_false (must || proxy) shared revalidate in
        record {
          is_stale = not_below here.age here.lifetime.seconds f;
          no_must_revalidate = left_false must proxy neither_two;
          no_proxy_revalidate = right_false must proxy neither_two;
          no_s_maxage = right_false (must || proxy) shared revalidate;
          has_a_lifetime = not_false here.lifetime.explicit (under_not (situation_is_fresh here) (not here.lifetime.explicit) f (none NoLifetime));
          not_to_be_validated = not_to_be_validated (under_not (situation_is_fresh here) (heeded_request_has_no_cache here) f (none StaleNoCache));
          within_max_stale = takes limit staleness (under_not (situation_is_fresh here) (not (max_stale_is_present limit)) f (none NoMaxStale)) (under_not (situation_is_fresh here) (is_past_max_stale staleness limit) f (none PastMaxStale));
          within_max_age = within_max_age (under_not (situation_is_fresh here) (is_above_max_age_limit here) f (none StaleMaxAge));
          no_min_fresh = no_min_fresh (under_not (situation_is_fresh here) (heeded_request_has_min_fresh here) f (none StaleMinFresh));
        }

    sent_somehow : (t : Bool) → situation_is_fresh here ≡ t → MayBeSentFresh policy e asked now ⊎ MayBeSentStale policy e asked now
    sent_somehow true f = inl (sent_fresh f)
    sent_somehow false f = inr (sent_stale f)

  -- ---- and no such rule stands where it is so

  -- a test that counts only where a word is set fails where it fails under that word
  heeded : (word test : Bool) → (word ≡ true → test ≡ false) → word && test ≡ false
  heeded true test h = h refl
  heeded false test h = refl

  not_asked : (policy.heeds_requests ≡ true → directive_occurs here.request directive.NoCache ≡ false) → heeded_request_has_no_cache here ≡ false
  not_asked h = heeded policy.heeds_requests (directive_occurs here.request directive.NoCache) h

  not_above : (policy.heeds_requests ≡ true → ResponseIsWithinMaxAge e asked now) → is_above_max_age_limit here ≡ false
  not_above within =
      heeded policy.heeds_requests (is_some_and (λ m. nat_lt m here.age) (first_valid_seconds here.request directive.MaxAge))
      (λ heeds. none_tests (λ m. nat_lt m here.age) (first_valid_seconds here.request directive.MaxAge) (λ most h. is_not_below most here.age (within heeds most h)))

  not_short : (policy.heeds_requests ≡ true → ResponseIsFreshForMinFresh policy e asked now) → is_below_min_fresh_of_request here ≡ false
  not_short long =
      heeded policy.heeds_requests (is_some_and (λ m. nat_lt here.lifetime.seconds (here.age + m)) (first_valid_seconds here.request directive.MinFresh))
      (λ heeds. none_tests (λ m. nat_lt here.lifetime.seconds (here.age + m)) (first_valid_seconds here.request directive.MinFresh)
      (λ least h. is_not_below here.lifetime.seconds (here.age + least) (long heeds least h)))

  not_for_freshness : (policy.heeds_requests ≡ true → first_valid_seconds here.request directive.MinFresh ≡ None) → heeded_request_has_min_fresh here ≡ false
  not_for_freshness absent = heeded policy.heeds_requests (is_some (first_valid_seconds here.request directive.MinFresh)) (λ heeds. ap is_some (absent heeds))

  none_where_fresh : directive_occurs here.response directive.NoCache ≡ false → MayBeSentFresh policy e asked now → situation_is_fresh here ≡ true → (rule : ReuseRule) → reuse_rule_condition rule here ≡ false
  none_where_fresh free sent f ResponseNoCache = free
  none_where_fresh free sent f RequestNoCache = last_absent (situation_is_fresh here) (heeded_request_has_no_cache here) (not_asked sent.not_to_be_validated)
  none_where_fresh free sent f AboveMaxAge = last_absent (situation_is_fresh here) (is_above_max_age_limit here) (not_above sent.within_max_age)
  none_where_fresh free sent f BelowMinFresh = last_absent (situation_is_fresh here) (is_below_min_fresh_of_request here) (not_short sent.fresh_for_min_fresh)
  none_where_fresh free sent f MustRevalidate = not_first (situation_is_fresh here) (forbids_sending_stale here) f
  none_where_fresh free sent f NoLifetime = not_first (situation_is_fresh here) (not here.lifetime.explicit) f
  none_where_fresh free sent f StaleNoCache = not_first (situation_is_fresh here) (heeded_request_has_no_cache here) f
  none_where_fresh free sent f NoMaxStale = not_first (situation_is_fresh here) (not (max_stale_is_present (max_stale here.request))) f
  none_where_fresh free sent f PastMaxStale = not_first (situation_is_fresh here) (is_past_max_stale (here.age - here.lifetime.seconds) (max_stale here.request)) f
  none_where_fresh free sent f StaleMaxAge = not_first (situation_is_fresh here) (is_above_max_age_limit here) f
  none_where_fresh free sent f StaleMinFresh = not_first (situation_is_fresh here) (heeded_request_has_min_fresh here) f
  none_where_fresh free sent f rule = refl

  none_where_stale : directive_occurs here.response directive.NoCache ≡ false → MayBeSentStale policy e asked now → situation_is_fresh here ≡ false → (rule : ReuseRule) → reuse_rule_condition rule here ≡ false
  none_where_stale free sent f ResponseNoCache = free
  none_where_stale free sent f RequestNoCache = first_absent (situation_is_fresh here) (heeded_request_has_no_cache here) f
  none_where_stale free sent f AboveMaxAge = first_absent (situation_is_fresh here) (is_above_max_age_limit here) f
  none_where_stale free sent f BelowMinFresh = first_absent (situation_is_fresh here) (is_below_min_fresh_of_request here) f
  none_where_stale free sent f MustRevalidate =
      let must = directive_occurs here.response directive.MustRevalidate in
      let proxy = directive_occurs here.response directive.ProxyRevalidate in
      let shared = directive_occurs here.response directive.SMaxage in
      last_absent (not (situation_is_fresh here)) (forbids_sending_stale here)
      (neither (must || proxy) shared (neither must proxy sent.no_must_revalidate sent.no_proxy_revalidate) sent.no_s_maxage)
  none_where_stale free sent f NoLifetime = last_absent (not (situation_is_fresh here)) (not here.lifetime.explicit) (not_true here.lifetime.explicit sent.has_a_lifetime)
  none_where_stale free sent f StaleNoCache = last_absent (not (situation_is_fresh here)) (heeded_request_has_no_cache here) (not_asked sent.not_to_be_validated)
  none_where_stale free sent f NoMaxStale =
      let limit = max_stale here.request in
      last_absent (not (situation_is_fresh here)) (not (max_stale_is_present limit)) (not_true (max_stale_is_present limit) (accepts_what_it_takes limit (here.age - here.lifetime.seconds) sent.within_max_stale))
  none_where_stale free sent f PastMaxStale =
      let limit = max_stale here.request in
      let staleness = here.age - here.lifetime.seconds in
      last_absent (not (situation_is_fresh here)) (is_past_max_stale staleness limit) (not_past_what_it_takes limit staleness sent.within_max_stale)
  none_where_stale free sent f StaleMaxAge = last_absent (not (situation_is_fresh here)) (is_above_max_age_limit here) (not_above sent.within_max_age)
  none_where_stale free sent f StaleMinFresh = last_absent (not (situation_is_fresh here)) (heeded_request_has_min_fresh here) (not_for_freshness sent.no_min_fresh)
  none_where_stale free sent f rule = refl

  none_against : directive_occurs here.response directive.NoCache ≡ false → MayBeSentFresh policy e asked now ⊎ MayBeSentStale policy e asked now → (rule : ReuseRule) → reuse_rule_condition rule here ≡ false
  none_against free (inl sent) rule = none_where_fresh free sent (is_below here.age here.lifetime.seconds sent.is_fresh) rule
  none_against free (inr sent) rule = none_where_stale free sent (is_not_below here.age here.lifetime.seconds sent.is_stale) rule

implied_absent : (a b : Bool) → (a ≡ true → b ≡ false) → a && b ≡ false
implied_absent true b h = h refl
implied_absent false b h = refl

module _ (policy : Policy) (held : List Stored) (asked : Asked) (now : ℕ) where
  -- ---- from no rule to the list

  none_on : (e : Stored) → chosen_of held asked ≡ Some e → ((rule : ReuseRule) → reuse_rule_applies rule policy held asked now ≡ false) → (rule : ReuseRule) → reuse_rule_condition rule (situation_of_request policy e asked now) ≡ false
  none_on e is none Operator = refl
  none_on e is none Method = refl
  none_on e is none Content = refl
  none_on e is none Range = refl
  none_on e is none Precondition = refl
  none_on e is none UriMiss = refl
  none_on e is none VaryMiss = refl
  none_on e is none rule = sym (ap (is_some_and (λ x. reuse_rule_condition rule (situation_of_request policy x asked now))) is) ∙ none rule

  pub reused_is_allowed : (serial : ℕ) → decision_of policy held asked now ≡ Hit serial → (response : Stored) × ResponseMayBeReused policy held asked now response × (response.serial ≡ serial)
  reused_is_allowed serial h =
      let may = may_be_sent policy held asked now serial h in
      let none = none_on may.response may.chosen_is may.no_rule in (
        may.response,
        record {
          operator_allows = not_false policy.caches (may.no_rule Operator);
          is_chosen = chosen_is_preferred held asked may.response may.chosen_is;
          request_allows = record { method_allows = method_allows asked.method (may.no_rule Method); no_content = may.no_rule Content; no_range = (λ forwards. second_false policy.forwards_ranges (asks_for_range asked) forwards (may.no_rule Range)); no_precondition = may.no_rule Precondition };
          no_no_cache = none ResponseNoCache;
          fresh_or_stale = sent_somehow policy may.response asked now none (situation_is_fresh (situation_of_request policy may.response asked now)) refl;
        },
        may.serial_is,
      )

  -- ---- and back

  none_applies : (e : Stored) → chosen_of held asked ≡ Some e → ResponseMayBeReused policy held asked now e → (rule : ReuseRule) → reuse_rule_applies rule policy held asked now ≡ false
  none_applies e is may Operator = ap not may.operator_allows
  none_applies e is may Method = method_is_allowed asked.method may.request_allows.method_allows
  none_applies e is may Content = may.request_allows.no_content
  none_applies e is may Range = implied_absent policy.forwards_ranges (asks_for_range asked) may.request_allows.no_range
  none_applies e is may Precondition = may.request_allows.no_precondition
  none_applies e is may UriMiss =
      let candidate = may.is_chosen.is_candidate in
      some_there (entries_of_key held asked) e (member_filter (λ x. same_key x.key asked.target.key) held e candidate.has_the_same_key (member_contained held e candidate.is_held))
  none_applies e is may VaryMiss = ap is_none is
  none_applies e is may rule =
      ap (is_some_and (λ x. reuse_rule_condition rule (situation_of_request policy x asked now))) is ∙ none_against policy e asked now may.no_no_cache may.fresh_or_stale rule

  pub allowed_is_reused : (response : Stored) → SerialsAreDistinct (serials held) → ResponseMayBeReused policy held asked now response → decision_of policy held asked now ≡ Hit response.serial
  allowed_is_reused response distinct may =
      let is = preferred_is_the_chosen held asked response distinct may.is_chosen in
      is_sent policy held asked now response.serial (record { response = response; chosen_is = is; serial_is = refl; no_rule = none_applies response is may })
