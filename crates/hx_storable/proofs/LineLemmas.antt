-- What the words of a line keep from the store.
use Rattle.std.proofs.Common.{◌≡◌, ℕ, ◌<◌, ◌≤◌, ◌⊎◌, inl, inr, Bool, true, false, refl, sym, ◌∙◌, arith}
use Rattle.std.specs.Prelude.{nat_le, ◌&&◌, ◌||◌, not, find, codes, Option, Some, None, is_some}
use Rattle.std.proofs.lemmas.Bool.Decides.{nat_tests}
use Rattle.hx_fields.specs.FieldLines.{has_field as has_line}
use Rattle.hx_directives.specs.declared.names.Directive.TheVariants as directive
use Rattle.hx_hop.specs.declared.request_view.Asked.{Asked}
use Rattle.hx_hop.specs.declared.response_view.Answered.{Answered}
use Rattle.hx_policy.specs.Policies.{is_heuristic_status, lifetime_given_by_policy, plain}
use Rattle.hx_storable.specs.declared.known_facts.StoringFacts.{StoringFacts}
use Rattle.hx_storable.specs.declared.rule.StoreRule.{StoreRule}
use Rattle.hx_storable.specs.declared.rule.StoreRule.TheVariants.{Operator, SetCookie, ErrorStatus, RequestCookie}
use Rattle.hx_storable.specs.Rules.{response_has_directive, sets_cookie_without_public, is_error_not_heuristically_cacheable, request_has_cookie_or_authorization, response_states_lifetime, has_lifetime_only_by_policy, policy_forbids_set_cookie, storing_rule_applies, storage_rules_from_policy, rule_against_storing}
use Rattle.hx_storable.specs.Storable.{RequestHasNoCookieOrAuthorization, ResponseStatesItsLifetime, PolicyAllowsStoring, ResponseIsStored}
use Rattle.hx_storable.specs.LineWordsInStoring.{ResponseStatesNoLifetime, facts_with_policy, default_policy_but_for_ranges, storage_rules_not_from_policy}
use Rattle.hx_fields.proofs.JoinedTests.{never, not_false, not_true, left_false, right_false, neither, one_of, or_left, or_right, first_absent, last_absent, either_false}
use Rattle.hx_storable.proofs.Joined.{find_before}
use Rattle.hx_storable.proofs.LeastRule.{no_rule_applies, no_rule_found}

less : (status : ℕ) → nat_le 400 status ≡ false → status < 400
less status h = grind (arith, nat_tests)

not_reached : (status : ℕ) → status < 400 → nat_le 400 status ≡ false
not_reached status h = grind (arith, nat_tests)

reached : (status : ℕ) → 400 ≤ status → nat_le 400 status ≡ true
reached status h = grind (arith, nat_tests)

both : (a b : Bool) → a ≡ true → b ≡ true → a && b ≡ true
both true b h k = k
both false b h k = absurd (never (sym h))

is_absent : {X : Type 0} (o : Option X) → is_some o ≡ false → o ≡ None
is_absent None h = refl
is_absent (Some x) h = absurd (never h)

pub turned : (a : Bool) → a ≡ false → not a ≡ true
turned true h = sym h
turned false h = refl

module _ (asked : Asked) (answered : Answered) (facts : StoringFacts) where
  -- where no rule stands the words allow it, and where they do neither rule of theirs stands

  module _ (none : (any : StoreRule) → storing_rule_applies any asked answered facts ≡ false) where
    pub within_the_words : PolicyAllowsStoring asked answered facts.policy
    within_the_words = record {
      cookies = cookies (either_false (policy_forbids_set_cookie facts.policy answered) (sets_cookie_without_public answered) (none SetCookie));
      set_cookie_lifetimes = lifetimes (either_false (policy_forbids_set_cookie facts.policy answered) (sets_cookie_without_public answered) (none SetCookie));
      errors = errors (either_false (not facts.policy.stores_errors) (is_error_not_heuristically_cacheable answered.status) (none ErrorStatus));
      requests_with_cookies = given (either_false (not facts.policy.gives_to_cookies && request_has_cookie_or_authorization asked) (has_lifetime_only_by_policy facts.policy answered && not public) (none RequestCookie));
    }
      where
        cookie : Bool
        cookie = has_line answered.fields (codes "Set-Cookie")

        public : Bool
        public = response_has_directive answered directive.Public

        for_all : (cookie ≡ false) ⊎ (not public ≡ false) → (cookie ≡ false) ⊎ (public ≡ true)
        for_all (inl absent) = inl absent
        for_all (inr h) = inr (not_false public h)

        stored_anyway : Bool
        stored_anyway = not facts.policy.stores_cookies

        by_the_line : Bool
        by_the_line = not facts.policy.gives_to_set_cookie && has_lifetime_only_by_policy facts.policy answered

        cookies : (policy_forbids_set_cookie facts.policy answered ≡ false) ⊎ (sets_cookie_without_public answered ≡ false) → (facts.policy.stores_cookies ≡ true) ⊎ ((cookie ≡ false) ⊎ (public ≡ true))
        cookies (inl h) = inl (not_false facts.policy.stores_cookies (left_false stored_anyway by_the_line h))
        cookies (inr h) = inr (for_all (either_false cookie (not public) h))

        no_error : (nat_le 400 answered.status ≡ false) ⊎ (not (is_heuristic_status answered.status) ≡ false) → (answered.status < 400) ⊎ (is_heuristic_status answered.status ≡ true)
        no_error (inl h) = inl (less answered.status h)
        no_error (inr h) = inr (not_false (is_heuristic_status answered.status) h)

        errors : (not facts.policy.stores_errors ≡ false) ⊎ (is_error_not_heuristically_cacheable answered.status ≡ false) → (facts.policy.stores_errors ≡ true) ⊎ ((answered.status < 400) ⊎ (is_heuristic_status answered.status ≡ true))
        errors (inl h) = inl (not_false facts.policy.stores_errors h)
        errors (inr h) = inr (no_error (either_false (nat_le 400 answered.status) (not (is_heuristic_status answered.status)) h))

        of_no_one : request_has_cookie_or_authorization asked ≡ false → RequestHasNoCookieOrAuthorization asked
        of_no_one h = (
          left_false (has_line asked.fields (codes "Cookie")) (has_line asked.fields (codes "Authorization")) h,
          right_false (has_line asked.fields (codes "Cookie")) (has_line asked.fields (codes "Authorization")) h,
        )

        by_itself : response_states_lifetime answered ≡ true → ResponseStatesItsLifetime answered
        by_itself h = first (one_of (response_has_directive answered directive.SMaxage || response_has_directive answered directive.MaxAge) (has_line answered.fields (codes "Expires")) h)
          where
            second : (response_has_directive answered directive.SMaxage ≡ true) ⊎ (response_has_directive answered directive.MaxAge ≡ true) → ResponseStatesItsLifetime answered
            second (inl k) = inl k
            second (inr k) = inr (inl k)

            first : (response_has_directive answered directive.SMaxage || response_has_directive answered directive.MaxAge ≡ true) ⊎ (has_line answered.fields (codes "Expires") ≡ true) → ResponseStatesItsLifetime answered
            first (inl k) = second (one_of (response_has_directive answered directive.SMaxage) (response_has_directive answered directive.MaxAge) k)
            first (inr k) = inr (inr k)

        own_or_none : (not (response_states_lifetime answered) ≡ false) ⊎ (is_some (lifetime_given_by_policy facts.policy answered.status) ≡ false) → ResponseStatesItsLifetime answered ⊎ (lifetime_given_by_policy facts.policy answered.status ≡ None)
        own_or_none (inl k) = inl (by_itself (not_false (response_states_lifetime answered) k))
        own_or_none (inr k) = inr (is_absent (lifetime_given_by_policy facts.policy answered.status) k)

        OfCookies : Type 0
        OfCookies = (facts.policy.gives_to_set_cookie ≡ true) ⊎ ((cookie ≡ false) ⊎ ((public ≡ true) ⊎ (ResponseStatesItsLifetime answered ⊎ (lifetime_given_by_policy facts.policy answered.status ≡ None))))

        lifetimes : (policy_forbids_set_cookie facts.policy answered ≡ false) ⊎ (sets_cookie_without_public answered ≡ false) → OfCookies
        lifetimes (inl h) = by_line (either_false (not facts.policy.gives_to_set_cookie) (has_lifetime_only_by_policy facts.policy answered) (right_false stored_anyway by_the_line h))
          where
            by_line : (not facts.policy.gives_to_set_cookie ≡ false) ⊎ (has_lifetime_only_by_policy facts.policy answered ≡ false) → OfCookies
            by_line (inl k) = inl (not_false facts.policy.gives_to_set_cookie k)
            by_line (inr k) = inr (inr (inr (own_or_none (either_false (not (response_states_lifetime answered)) (is_some (lifetime_given_by_policy facts.policy answered.status)) k))))
        lifetimes (inr h) = inr (by_cookie (for_all (either_false cookie (not public) h)))
          where
            by_cookie : (cookie ≡ false) ⊎ (public ≡ true) → (cookie ≡ false) ⊎ ((public ≡ true) ⊎ (ResponseStatesItsLifetime answered ⊎ (lifetime_given_by_policy facts.policy answered.status ≡ None)))
            by_cookie (inl k) = inl k
            by_cookie (inr k) = inr (inl k)

        lasting : (has_lifetime_only_by_policy facts.policy answered ≡ false) ⊎ (not public ≡ false) → (public ≡ true) ⊎ (ResponseStatesItsLifetime answered ⊎ (lifetime_given_by_policy facts.policy answered.status ≡ None))
        lasting (inr h) = inl (not_false public h)
        lasting (inl h) = inr (own_or_none (either_false (not (response_states_lifetime answered)) (is_some (lifetime_given_by_policy facts.policy answered.status)) h))

        asking : (not facts.policy.gives_to_cookies ≡ false) ⊎ (request_has_cookie_or_authorization asked ≡ false) → (facts.policy.gives_to_cookies ≡ true) ⊎ (RequestHasNoCookieOrAuthorization asked ⊎ ((public ≡ true) ⊎ (ResponseStatesItsLifetime answered ⊎ (lifetime_given_by_policy facts.policy answered.status ≡ None))))
        asking (inl h) = inl (not_false facts.policy.gives_to_cookies h)
        asking (inr h) = inr (inl (of_no_one h))

        given : (not facts.policy.gives_to_cookies && request_has_cookie_or_authorization asked ≡ false) ⊎ (has_lifetime_only_by_policy facts.policy answered && not public ≡ false) → (facts.policy.gives_to_cookies ≡ true) ⊎ (RequestHasNoCookieOrAuthorization asked ⊎ ((public ≡ true) ⊎ (ResponseStatesItsLifetime answered ⊎ (lifetime_given_by_policy facts.policy answered.status ≡ None))))
        given (inl h) = asking (either_false (not facts.policy.gives_to_cookies) (request_has_cookie_or_authorization asked) h)
        given (inr h) = inr (inr (lasting (either_false (has_lifetime_only_by_policy facts.policy answered) (not public) h)))

  itself_states : ResponseStatesItsLifetime answered → response_states_lifetime answered ≡ true
  itself_states (inl h) = or_left (response_has_directive answered directive.SMaxage || response_has_directive answered directive.MaxAge) (has_line answered.fields (codes "Expires")) (or_left (response_has_directive answered directive.SMaxage) (response_has_directive answered directive.MaxAge) h)
  itself_states (inr (inl h)) = or_left (response_has_directive answered directive.SMaxage || response_has_directive answered directive.MaxAge) (has_line answered.fields (codes "Expires")) (or_right (response_has_directive answered directive.SMaxage) (response_has_directive answered directive.MaxAge) h)
  itself_states (inr (inr h)) = or_right (response_has_directive answered directive.SMaxage || response_has_directive answered directive.MaxAge) (has_line answered.fields (codes "Expires")) h

  pub cookie_applies : (facts.policy.stores_cookies ≡ true) ⊎ ((has_line answered.fields (codes "Set-Cookie") ≡ false) ⊎ (response_has_directive answered directive.Public ≡ true))
      → (facts.policy.gives_to_set_cookie ≡ true) ⊎ ((has_line answered.fields (codes "Set-Cookie") ≡ false) ⊎ ((response_has_directive answered directive.Public ≡ true) ⊎ (ResponseStatesItsLifetime answered ⊎ (lifetime_given_by_policy facts.policy answered.status ≡ None))))
      → storing_rule_applies SetCookie asked answered facts ≡ false
  cookie_applies stores gives = at stores gives
    where
      withholds : Bool
      withholds = policy_forbids_set_cookie facts.policy answered

      cookie : Bool
      cookie = has_line answered.fields (codes "Set-Cookie")

      public : Bool
      public = response_has_directive answered directive.Public

      lasts : Bool
      lasts = has_lifetime_only_by_policy facts.policy answered

      for_all : sets_cookie_without_public answered ≡ false → storing_rule_applies SetCookie asked answered facts ≡ false
      for_all h = last_absent withholds (sets_cookie_without_public answered) h

      by_absence : cookie ≡ false → storing_rule_applies SetCookie asked answered facts ≡ false
      by_absence h = for_all (first_absent cookie (not public) h)

      by_public : public ≡ true → storing_rule_applies SetCookie asked answered facts ≡ false
      by_public h = for_all (last_absent cookie (not public) (not_true public h))

      by_line : facts.policy.stores_cookies ≡ true → not facts.policy.gives_to_set_cookie && lasts ≡ false → storing_rule_applies SetCookie asked answered facts ≡ false
      by_line h k = first_absent withholds (sets_cookie_without_public answered) (neither (not facts.policy.stores_cookies) (not facts.policy.gives_to_set_cookie && lasts) (not_true facts.policy.stores_cookies h) k)

      by_lasting : facts.policy.stores_cookies ≡ true → lasts ≡ false → storing_rule_applies SetCookie asked answered facts ≡ false
      by_lasting h k = by_line h (last_absent (not facts.policy.gives_to_set_cookie) lasts k)

      at : (facts.policy.stores_cookies ≡ true) ⊎ ((cookie ≡ false) ⊎ (public ≡ true))
          → (facts.policy.gives_to_set_cookie ≡ true) ⊎ ((cookie ≡ false) ⊎ ((public ≡ true) ⊎ (ResponseStatesItsLifetime answered ⊎ (lifetime_given_by_policy facts.policy answered.status ≡ None))))
          → storing_rule_applies SetCookie asked answered facts ≡ false
      at (inr (inl absent)) k = by_absence absent
      at (inr (inr for_each)) k = by_public for_each
      at (inl h) (inl k) = by_line h (first_absent (not facts.policy.gives_to_set_cookie) lasts (not_true facts.policy.gives_to_set_cookie k))
      at (inl h) (inr (inl absent)) = by_absence absent
      at (inl h) (inr (inr (inl for_each))) = by_public for_each
      at (inl h) (inr (inr (inr (inl own)))) = by_lasting h (first_absent (not (response_states_lifetime answered)) (is_some (lifetime_given_by_policy facts.policy answered.status)) (not_true (response_states_lifetime answered) (itself_states own)))
      at (inl h) (inr (inr (inr (inr none)))) = by_lasting h (last_absent (not (response_states_lifetime answered)) (is_some (lifetime_given_by_policy facts.policy answered.status)) (rw none refl))

  pub error_applies : (facts.policy.stores_errors ≡ true) ⊎ ((answered.status < 400) ⊎ (is_heuristic_status answered.status ≡ true)) → storing_rule_applies ErrorStatus asked answered facts ≡ false
  error_applies (inl h) = first_absent (not facts.policy.stores_errors) (is_error_not_heuristically_cacheable answered.status) (not_true facts.policy.stores_errors h)
  error_applies (inr (inl low)) =
      last_absent (not facts.policy.stores_errors) (is_error_not_heuristically_cacheable answered.status)
      (first_absent (nat_le 400 answered.status) (not (is_heuristic_status answered.status)) (not_reached answered.status low))
  error_applies (inr (inr heuristic)) =
      last_absent (not facts.policy.stores_errors) (is_error_not_heuristically_cacheable answered.status)
      (last_absent (nat_le 400 answered.status) (not (is_heuristic_status answered.status)) (not_true (is_heuristic_status answered.status) heuristic))

  pub request_cookie_applies : (facts.policy.gives_to_cookies ≡ true) ⊎ (RequestHasNoCookieOrAuthorization asked ⊎ ((response_has_directive answered directive.Public ≡ true) ⊎ (ResponseStatesItsLifetime answered ⊎ (lifetime_given_by_policy facts.policy answered.status ≡ None)))) → storing_rule_applies RequestCookie asked answered facts ≡ false
  request_cookie_applies says_so = at says_so
    where
      asks : Bool
      asks = not facts.policy.gives_to_cookies && request_has_cookie_or_authorization asked

      lasts : Bool
      lasts = has_lifetime_only_by_policy facts.policy answered

      public : Bool
      public = response_has_directive answered directive.Public

      by_asking : asks ≡ false → storing_rule_applies RequestCookie asked answered facts ≡ false
      by_asking h = first_absent asks (lasts && not public) h

      by_lasting : lasts ≡ false → storing_rule_applies RequestCookie asked answered facts ≡ false
      by_lasting h = last_absent asks (lasts && not public) (first_absent lasts (not public) h)

      at : (facts.policy.gives_to_cookies ≡ true) ⊎ (RequestHasNoCookieOrAuthorization asked ⊎ ((public ≡ true) ⊎ (ResponseStatesItsLifetime answered ⊎ (lifetime_given_by_policy facts.policy answered.status ≡ None)))) → storing_rule_applies RequestCookie asked answered facts ≡ false
      at (inl h) = by_asking (first_absent (not facts.policy.gives_to_cookies) (request_has_cookie_or_authorization asked) (not_true facts.policy.gives_to_cookies h))
      at (inr (inl no_one)) =
          by_asking (last_absent (not facts.policy.gives_to_cookies) (request_has_cookie_or_authorization asked) (neither (has_line asked.fields (codes "Cookie")) (has_line asked.fields (codes "Authorization")) no_one.0 no_one.1))
      at (inr (inr (inl h))) = last_absent asks (lasts && not public) (last_absent lasts (not public) (not_true public h))
      at (inr (inr (inr (inl own)))) = by_lasting (first_absent (not (response_states_lifetime answered)) (is_some (lifetime_given_by_policy facts.policy answered.status)) (not_true (response_states_lifetime answered) (itself_states own)))
      at (inr (inr (inr (inr none)))) = by_lasting (last_absent (not (response_states_lifetime answered)) (is_some (lifetime_given_by_policy facts.policy answered.status)) (rw none refl))

  -- ---- what is never stored, and what is all the same

  tells_who : (has_line asked.fields (codes "Cookie") ≡ true) ⊎ (has_line asked.fields (codes "Authorization") ≡ true) → request_has_cookie_or_authorization asked ≡ true
  tells_who (inl h) = or_left (has_line asked.fields (codes "Cookie")) (has_line asked.fields (codes "Authorization")) h
  tells_who (inr h) = or_right (has_line asked.fields (codes "Cookie")) (has_line asked.fields (codes "Authorization")) h

  pub request_cookie_forbids : (seconds : ℕ) → facts.policy.gives_to_cookies ≡ false → (has_line asked.fields (codes "Cookie") ≡ true) ⊎ (has_line asked.fields (codes "Authorization") ≡ true) → ResponseStatesNoLifetime answered
      → lifetime_given_by_policy facts.policy answered.status ≡ Some seconds → response_has_directive answered directive.Public ≡ false → ResponseIsStored asked answered facts → ⊥
  request_cookie_forbids seconds word who none given public h =
      let stated : response_states_lifetime answered ≡ false =
      neither (response_has_directive answered directive.SMaxage || response_has_directive answered directive.MaxAge) (has_line answered.fields (codes "Expires"))
      (neither (response_has_directive answered directive.SMaxage) (response_has_directive answered directive.MaxAge) none.0 none.1) none.2 in
      let asks = both (not facts.policy.gives_to_cookies) (request_has_cookie_or_authorization asked) (turned facts.policy.gives_to_cookies word) (tells_who who) in
      let lasts = both (not (response_states_lifetime answered)) (is_some (lifetime_given_by_policy facts.policy answered.status)) (turned (response_states_lifetime answered) stated) (rw given refl) in
      let for_one = both (has_lifetime_only_by_policy facts.policy answered) (not (response_has_directive answered directive.Public)) lasts (turned (response_has_directive answered directive.Public) public) in
      never (sym (both (not facts.policy.gives_to_cookies && request_has_cookie_or_authorization asked) (has_lifetime_only_by_policy facts.policy answered && not (response_has_directive answered directive.Public)) asks for_one) ∙ no_rule_applies asked answered facts RequestCookie h)

  pub cookie_forbids : facts.policy.stores_cookies ≡ false → has_line answered.fields (codes "Set-Cookie") ≡ true → response_has_directive answered directive.Public ≡ false → ResponseIsStored asked answered facts → ⊥
  cookie_forbids word cookie public h =
      let for_one = both (has_line answered.fields (codes "Set-Cookie")) (not (response_has_directive answered directive.Public)) cookie (turned (response_has_directive answered directive.Public) public) in
      let withheld = or_left (not facts.policy.stores_cookies) (not facts.policy.gives_to_set_cookie && has_lifetime_only_by_policy facts.policy answered) (turned facts.policy.stores_cookies word) in
      never (sym (both (policy_forbids_set_cookie facts.policy answered) (sets_cookie_without_public answered) withheld for_one) ∙ no_rule_applies asked answered facts SetCookie h)

  pub cookie_is_given_none : (seconds : ℕ) → facts.policy.gives_to_set_cookie ≡ false → has_line answered.fields (codes "Set-Cookie") ≡ true → ResponseStatesNoLifetime answered
      → lifetime_given_by_policy facts.policy answered.status ≡ Some seconds → response_has_directive answered directive.Public ≡ false → ResponseIsStored asked answered facts → ⊥
  cookie_is_given_none seconds word cookie none given public h =
      let stated : response_states_lifetime answered ≡ false =
      neither (response_has_directive answered directive.SMaxage || response_has_directive answered directive.MaxAge) (has_line answered.fields (codes "Expires"))
      (neither (response_has_directive answered directive.SMaxage) (response_has_directive answered directive.MaxAge) none.0 none.1) none.2 in
      let lasts = both (not (response_states_lifetime answered)) (is_some (lifetime_given_by_policy facts.policy answered.status)) (turned (response_states_lifetime answered) stated) (rw given refl) in
      let for_one = both (has_line answered.fields (codes "Set-Cookie")) (not (response_has_directive answered directive.Public)) cookie (turned (response_has_directive answered directive.Public) public) in
      let by_line = both (not facts.policy.gives_to_set_cookie) (has_lifetime_only_by_policy facts.policy answered) (turned facts.policy.gives_to_set_cookie word) lasts in
      let withheld = or_right (not facts.policy.stores_cookies) (not facts.policy.gives_to_set_cookie && has_lifetime_only_by_policy facts.policy answered) by_line in
      never (sym (both (policy_forbids_set_cookie facts.policy answered) (sets_cookie_without_public answered) withheld for_one) ∙ no_rule_applies asked answered facts SetCookie h)

  pub error_forbids : facts.policy.stores_errors ≡ false → 400 ≤ answered.status → is_heuristic_status answered.status ≡ false → ResponseIsStored asked answered facts → ⊥
  error_forbids word high other h =
      let error = both (nat_le 400 answered.status) (not (is_heuristic_status answered.status)) (reached answered.status high) (turned (is_heuristic_status answered.status) other) in
      never (sym (both (not facts.policy.stores_errors) (is_error_not_heuristically_cacheable answered.status) (turned facts.policy.stores_errors word) error) ∙ no_rule_applies asked answered facts ErrorStatus h)

  -- without the words no rule stands that doesn't stand with them
  plain_none : ((any : StoreRule) → storing_rule_applies any asked answered facts ≡ false) → (any : StoreRule) → storing_rule_applies any asked answered (facts_with_policy facts (default_policy_but_for_ranges true facts.policy)) ≡ false
  plain_none none Operator = refl
  plain_none none SetCookie = refl
  plain_none none ErrorStatus = refl
  plain_none none RequestCookie = refl
  plain_none none any = none any

  pub stored_without_words : ResponseIsStored asked answered facts → ResponseIsStored asked answered (facts_with_policy facts (default_policy_but_for_ranges true facts.policy))
  stored_without_words h = no_rule_found asked answered (facts_with_policy facts (default_policy_but_for_ranges true facts.policy)) (plain_none (λ any. no_rule_applies asked answered facts any h))

  words_none : ((any : StoreRule) → storing_rule_applies any asked answered (facts_with_policy facts (default_policy_but_for_ranges facts.policy.caches facts.policy)) ≡ false) → PolicyAllowsStoring asked answered facts.policy → (any : StoreRule) → storing_rule_applies any asked answered facts ≡ false
  words_none none within SetCookie = cookie_applies within.cookies within.set_cookie_lifetimes
  words_none none within ErrorStatus = error_applies within.errors
  words_none none within RequestCookie = request_cookie_applies within.requests_with_cookies
  words_none none within any = none any

  pub stored_with_words : ResponseIsStored asked answered (facts_with_policy facts (default_policy_but_for_ranges facts.policy.caches facts.policy)) → PolicyAllowsStoring asked answered facts.policy → ResponseIsStored asked answered facts
  stored_with_words h within =
      no_rule_found asked answered facts (words_none (λ any. no_rule_applies asked answered (facts_with_policy facts (default_policy_but_for_ranges facts.policy.caches facts.policy)) any h) within)

  pub plain_asks_the_others : (caches : Bool) → rule_against_storing asked answered (facts_with_policy facts (plain caches)) ≡ find (λ rule. storing_rule_applies rule asked answered (facts_with_policy facts (plain caches))) storage_rules_not_from_policy
  unfolding rule_against_storing
  plain_asks_the_others caches = find_before (λ rule. storing_rule_applies rule asked answered (facts_with_policy facts (plain caches))) storage_rules_not_from_policy storage_rules_from_policy refl
