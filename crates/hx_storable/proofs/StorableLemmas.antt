-- No storage rule stands exactly where the standard's list holds, and what this cache asks besides.
use Rattle.std.proofs.Common.{◌≡◌, ℕ, ◌⊎◌, inl, inr, Bool, true, false, List, refl, sym, ◌∙◌, ap}
use Rattle.std.specs.Prelude.{◌==◌, ◌&&◌, ◌||◌, not, codes, bytes_eq}
use Rattle.std.proofs.lemmas.Slice.Eq.{bytes_eq-Decides}
use Rattle.hx_fields.specs.FieldLines.{has_field as has_line}
use Rattle.hx_directives.specs.Occurrences.{occurrences_of}
use Rattle.hx_directives.specs.declared.names.Directive.TheVariants as directive
use Rattle.hx_hop.specs.declared.request_view.Asked.{Asked}
use Rattle.hx_hop.specs.declared.response_view.Answered.{Answered}
use Rattle.hx_hop.specs.Bypass.{request_has_content, asks_for_range, has_precondition_for_origin}
use Rattle.hx_storable.specs.declared.known_facts.StoringFacts.{StoringFacts}
use Rattle.hx_storable.specs.declared.rule.StoreRule.{StoreRule}
use Rattle.hx_storable.specs.declared.rule.StoreRule.TheVariants.{Operator, Method, Bypass, Status, MustUnderstand, ResponseNoStore, RequestNoStore, Private, Authorization, NothingAllows, VaryStar, ConnectionField, NothingToReuse, TooLarge, Overtaken, Serials, SetCookie, ErrorStatus, RequestCookie}
use Rattle.hx_policy.specs.Policies.{is_heuristic_status}
use Rattle.hx_storable.specs.Rules.{request_has_directive, response_has_directive, answer_may_depend_on_range, is_understood_status, allows_authorized, response_allows_storing, storing_rule_applies}
use Rattle.hx_storable.specs.Storable.{StatusIsFinal, StatusNeedsToBeUnderstood, NoStoreIsAbsentOrLifted, ResponseAllowsSharedWithAuthorization, ResponseAllowsStoring, RequestAllowsStoring, AnswerDoesNotDependOnRange, ResponseMayBeStored, ResponseIsStored}
use Rattle.hx_fields.proofs.JoinedTests.{never, not_false, not_true, left_false, right_false, neither, one_of, or_left, or_right, second_false, either_false, first_absent, last_absent, is_equal, not_equal, implied}
use Rattle.hx_storable.proofs.LeastRule.{no_rule_applies, no_rule_found}
use Rattle.hx_storable.proofs.LineLemmas.{turned, within_the_words, cookie_applies, error_applies, request_cookie_applies}

-- ---- statuses and methods

part_is_not_understood : (status : ℕ) → status ≡ 206 → is_understood_status status ≡ true → ⊥
part_is_not_understood status e h = never (sym (sym (ap is_understood_status e) ∙ h))

not_modified_is_not_understood : (status : ℕ) → status ≡ 304 → is_understood_status status ≡ true → ⊥
not_modified_is_not_understood status e h = never (sym (sym (ap is_understood_status e) ∙ h))

method_is_get : (m : List ℕ) → not (bytes_eq m (codes "GET")) ≡ false → m ≡ codes "GET"
method_is_get m h = (bytes_eq-Decides m (codes "GET")).0 (not_false (bytes_eq m (codes "GET")) h)

get_is_method : (m : List ℕ) → m ≡ codes "GET" → not (bytes_eq m (codes "GET")) ≡ false
get_is_method m is = rw is refl

-- by whether the line has ranges forwarded, and the request asks for one
pub not_for_its_range : (forwards asks : Bool) (status : ℕ) → (forwards || (status == 416)) && asks ≡ false → (asks ≡ false) ⊎ ((forwards ≡ false) × (status ≡ 416 → ⊥))
not_for_its_range forwards false status h = inl refl
not_for_its_range true true status h = cc
not_for_its_range false true status h = inr (refl, λ e. never (sym (is_equal status 416 e) ∙ left_false (status == 416) false (by_test (status == 416) h)))
  where
    by_test : (t : Bool) → t && true ≡ false → t || false ≡ false
    by_test true k = k
    by_test false k = k

pub for_no_range : (forwards asks : Bool) (status : ℕ) → (asks ≡ false) ⊎ ((forwards ≡ false) × (status ≡ 416 → ⊥)) → (forwards || (status == 416)) && asks ≡ false
for_no_range forwards asks status (inl none) = last_absent (forwards || (status == 416)) asks none
for_no_range forwards asks status (inr (served, other)) =
    first_absent (forwards || (status == 416)) asks (neither forwards (status == 416) served (not_equal status 416 other))

module _ (asked : Asked) (answered : Answered) (facts : StoringFacts) where
  -- ---- what is so where no rule stands

  module _ (none : (any : StoreRule) → storing_rule_applies any asked answered facts ≡ false) where
    pub is_get : asked.method ≡ codes "GET"
    is_get = method_is_get asked.method (none Method)

    pub not_a_part : answered.status ≡ 206 → ⊥
    not_a_part e = never (sym (is_equal answered.status 206 e) ∙ left_false (answered.status == 206) (answered.status == 304) (none Status))

    pub not_a_304 : answered.status ≡ 304 → ⊥
    not_a_304 e = never (sym (is_equal answered.status 304 e) ∙ right_false (answered.status == 206) (answered.status == 304) (none Status))

    must_be_understood : response_has_directive answered directive.MustUnderstand ≡ true → is_understood_status answered.status ≡ true
    must_be_understood must =
        not_false (is_understood_status answered.status) (second_false (response_has_directive answered directive.MustUnderstand) (not (is_understood_status answered.status)) must (none MustUnderstand))

    understood : StatusNeedsToBeUnderstood answered → is_understood_status answered.status ≡ true
    understood (inl part) = absurd (not_a_part part)
    understood (inr (inl not_modified)) = absurd (not_a_304 not_modified)
    understood (inr (inr must)) = must_be_understood must

    pub not_forbidden : NoStoreIsAbsentOrLifted answered
    not_forbidden = at (either_false (response_has_directive answered directive.NoStore) (not (response_has_directive answered directive.MustUnderstand)) (none ResponseNoStore))
      where
        at : (response_has_directive answered directive.NoStore ≡ false) ⊎ (not (response_has_directive answered directive.MustUnderstand) ≡ false) → NoStoreIsAbsentOrLifted answered
        at (inl absent) = inl absent
        at (inr lifted) = let must = not_false (response_has_directive answered directive.MustUnderstand) lifted in inr (must, must_be_understood must)

    pub shared_or_unauthorized : (has_line asked.fields (codes "Authorization") ≡ false) ⊎ ResponseAllowsSharedWithAuthorization answered
    shared_or_unauthorized = at (either_false (has_line asked.fields (codes "Authorization")) (not (allows_authorized (occurrences_of answered.fields))) (none Authorization))
      where
        must : Bool
        must = response_has_directive answered directive.MustRevalidate

        public : Bool
        public = response_has_directive answered directive.Public

        shared : Bool
        shared = response_has_directive answered directive.SMaxage

        last : (must || public ≡ true) ⊎ (shared ≡ true) → ResponseAllowsSharedWithAuthorization answered
        last (inl h) = elim (one_of must public h) [ inl k ↦ inl k | inr k ↦ inr (inl k) ]
        last (inr h) = inr (inr h)

        at : (has_line asked.fields (codes "Authorization") ≡ false) ⊎ (not (allows_authorized (occurrences_of answered.fields)) ≡ false) → (has_line asked.fields (codes "Authorization") ≡ false) ⊎ ResponseAllowsSharedWithAuthorization answered
        at (inl absent) = inl absent
        at (inr h) = inr (last (one_of (must || public) shared (not_false (allows_authorized (occurrences_of answered.fields)) h)))

    allowed : ResponseAllowsStoring answered
    allowed = first (one_of (((public || expires) || max_age) || shared) (is_heuristic_status answered.status) (not_false (response_allows_storing answered) (none NothingAllows)))
      where
        public : Bool
        public = response_has_directive answered directive.Public

        expires : Bool
        expires = has_line answered.fields (codes "Expires")

        max_age : Bool
        max_age = response_has_directive answered directive.MaxAge

        shared : Bool
        shared = response_has_directive answered directive.SMaxage

        third : (public || expires ≡ true) ⊎ (max_age ≡ true) → ResponseAllowsStoring answered
        third (inl h) = elim (one_of public expires h) [ inl k ↦ inl k | inr k ↦ inr (inl k) ]
        third (inr h) = inr (inr (inl h))

        second : ((public || expires) || max_age ≡ true) ⊎ (shared ≡ true) → ResponseAllowsStoring answered
        second (inl h) = third (one_of (public || expires) max_age h)
        second (inr h) = inr (inr (inr (inl h)))

        first : (((public || expires) || max_age) || shared ≡ true) ⊎ (is_heuristic_status answered.status ≡ true) → ResponseAllowsStoring answered
        first (inl h) = second (one_of ((public || expires) || max_age) shared h)
        first (inr h) = inr (inr (inr (inr h)))

    has_lifetime_or_validator : (facts.explicit ≡ true) ⊎ (facts.validator ≡ true)
    has_lifetime_or_validator = at (either_false (not facts.explicit) (not facts.validator) (none NothingToReuse))
      where
        at : (not facts.explicit ≡ false) ⊎ (not facts.validator ≡ false) → (facts.explicit ≡ true) ⊎ (facts.validator ≡ true)
        at (inl h) = inl (not_false facts.explicit h)
        at (inr h) = inr (not_false facts.validator h)

    no_bypass : RequestAllowsStoring asked answered facts.policy
    no_bypass =
        let both = left_false (request_has_content asked || answer_may_depend_on_range facts.policy asked answered) (has_precondition_for_origin asked) (none Bypass) in
        record {
          is_get = is_get;
          no_content = left_false (request_has_content asked) (answer_may_depend_on_range facts.policy asked answered) both;
          no_range = not_for_its_range facts.policy.forwards_ranges (asks_for_range asked) answered.status (right_false (request_has_content asked) (answer_may_depend_on_range facts.policy asked answered) both);
          no_precondition = right_false (request_has_content asked || answer_may_depend_on_range facts.policy asked answered) (has_precondition_for_origin asked) (none Bypass);
        }

    may_be_stored : StatusIsFinal answered → ResponseMayBeStored asked answered facts
    may_be_stored final = record {
      operator_allows = not_false facts.policy.caches (none Operator);
      is_storable = record {
        method_is_understood = inl is_get;
        status_is_final = final;
        status_is_understood = understood;
        no_no_store = not_forbidden;
        not_private = none Private;
        not_authorized = shared_or_unauthorized;
        allowed = allowed;
        request_has_no_no_store = none RequestNoStore;
      };
      is_for_the_store = no_bypass;
      could_be_reused = record { vary_is_not_star = none VaryStar; connection_lists_no_cache_field = none ConnectionField; has_lifetime_or_validator = has_lifetime_or_validator; not_overtaken = none Overtaken };
      has_room = record { not_too_large = none TooLarge; has_serial = none Serials };
      policy_allows_it = within_the_words asked answered facts none;
    }

  -- ---- and back

  shared_is_allowed : ResponseAllowsSharedWithAuthorization answered → allows_authorized (occurrences_of answered.fields) ≡ true
  shared_is_allowed (inl h) = or_left (response_has_directive answered directive.MustRevalidate || response_has_directive answered directive.Public) (response_has_directive answered directive.SMaxage) (or_left (response_has_directive answered directive.MustRevalidate) (response_has_directive answered directive.Public) h)
  shared_is_allowed (inr (inl h)) = or_left (response_has_directive answered directive.MustRevalidate || response_has_directive answered directive.Public) (response_has_directive answered directive.SMaxage) (or_right (response_has_directive answered directive.MustRevalidate) (response_has_directive answered directive.Public) h)
  shared_is_allowed (inr (inr h)) = or_right (response_has_directive answered directive.MustRevalidate || response_has_directive answered directive.Public) (response_has_directive answered directive.SMaxage) h

  storing_is_allowed : ResponseAllowsStoring answered → response_allows_storing answered ≡ true
  storing_is_allowed says_so = at says_so
    where
      public : Bool
      public = response_has_directive answered directive.Public

      expires : Bool
      expires = has_line answered.fields (codes "Expires")

      max_age : Bool
      max_age = response_has_directive answered directive.MaxAge

      shared : Bool
      shared = response_has_directive answered directive.SMaxage

      heuristic : Bool
      heuristic = is_heuristic_status answered.status

      by_two : public || expires ≡ true → response_allows_storing answered ≡ true
      by_two h = or_left (((public || expires) || max_age) || shared) heuristic (or_left ((public || expires) || max_age) shared (or_left (public || expires) max_age h))

      at : ResponseAllowsStoring answered → response_allows_storing answered ≡ true
      at (inl h) = by_two (or_left public expires h)
      at (inr (inl h)) = by_two (or_right public expires h)
      at (inr (inr (inl h))) = or_left (((public || expires) || max_age) || shared) heuristic (or_left ((public || expires) || max_age) shared (or_right (public || expires) max_age h))
      at (inr (inr (inr (inl h)))) = or_left (((public || expires) || max_age) || shared) heuristic (or_right ((public || expires) || max_age) shared h)
      at (inr (inr (inr (inr h)))) = or_right (((public || expires) || max_age) || shared) heuristic h

  not_forbidden_applies : NoStoreIsAbsentOrLifted answered → response_has_directive answered directive.NoStore && not (response_has_directive answered directive.MustUnderstand) ≡ false
  not_forbidden_applies (inl absent) = first_absent (response_has_directive answered directive.NoStore) (not (response_has_directive answered directive.MustUnderstand)) absent
  not_forbidden_applies (inr lifted) = last_absent (response_has_directive answered directive.NoStore) (not (response_has_directive answered directive.MustUnderstand)) (not_true (response_has_directive answered directive.MustUnderstand) lifted.0)

  authorization_applies : (has_line asked.fields (codes "Authorization") ≡ false) ⊎ ResponseAllowsSharedWithAuthorization answered → has_line asked.fields (codes "Authorization") && not (allows_authorized (occurrences_of answered.fields)) ≡ false
  authorization_applies (inl absent) = first_absent (has_line asked.fields (codes "Authorization")) (not (allows_authorized (occurrences_of answered.fields))) absent
  authorization_applies (inr shared) = last_absent (has_line asked.fields (codes "Authorization")) (not (allows_authorized (occurrences_of answered.fields))) (not_true (allows_authorized (occurrences_of answered.fields)) (shared_is_allowed shared))

  of_use_applies : (facts.explicit ≡ true) ⊎ (facts.validator ≡ true) → not facts.explicit && not facts.validator ≡ false
  of_use_applies (inl h) = first_absent (not facts.explicit) (not facts.validator) (not_true facts.explicit h)
  of_use_applies (inr h) = last_absent (not facts.explicit) (not facts.validator) (not_true facts.validator h)

  module _ (may : ResponseMayBeStored asked answered facts) where
    none_applies : (any : StoreRule) → storing_rule_applies any asked answered facts ≡ false
    none_applies Operator = not_true facts.policy.caches may.operator_allows
    none_applies Method = get_is_method asked.method may.is_for_the_store.is_get
    none_applies Bypass =
        neither (request_has_content asked || answer_may_depend_on_range facts.policy asked answered) (has_precondition_for_origin asked)
        (neither (request_has_content asked) (answer_may_depend_on_range facts.policy asked answered) may.is_for_the_store.no_content (for_no_range facts.policy.forwards_ranges (asks_for_range asked) answered.status may.is_for_the_store.no_range)) may.is_for_the_store.no_precondition
    none_applies Status =
        neither (answered.status == 206) (answered.status == 304)
        (not_equal answered.status 206 (λ e. part_is_not_understood answered.status e (may.is_storable.status_is_understood (inl e))))
        (not_equal answered.status 304 (λ e. not_modified_is_not_understood answered.status e (may.is_storable.status_is_understood (inr (inl e)))))
    none_applies MustUnderstand = implied (response_has_directive answered directive.MustUnderstand) (is_understood_status answered.status) (λ must. may.is_storable.status_is_understood (inr (inr must)))
    none_applies ResponseNoStore = not_forbidden_applies may.is_storable.no_no_store
    none_applies RequestNoStore = may.is_storable.request_has_no_no_store
    none_applies Private = may.is_storable.not_private
    none_applies Authorization = authorization_applies may.is_storable.not_authorized
    none_applies NothingAllows = not_true (response_allows_storing answered) (storing_is_allowed may.is_storable.allowed)
    none_applies VaryStar = may.could_be_reused.vary_is_not_star
    none_applies ConnectionField = may.could_be_reused.connection_lists_no_cache_field
    none_applies NothingToReuse = of_use_applies may.could_be_reused.has_lifetime_or_validator
    none_applies TooLarge = may.has_room.not_too_large
    none_applies Overtaken = may.could_be_reused.not_overtaken
    none_applies Serials = may.has_room.has_serial
    none_applies SetCookie = cookie_applies asked answered facts may.policy_allows_it.cookies may.policy_allows_it.set_cookie_lifetimes
    none_applies ErrorStatus = error_applies asked answered facts may.policy_allows_it.errors
    none_applies RequestCookie = request_cookie_applies asked answered facts may.policy_allows_it.requests_with_cookies

    pub is_stored : ResponseIsStored asked answered facts
    is_stored = no_rule_found asked answered facts none_applies

  -- ---- what is never stored

  pub stored_may_be : StatusIsFinal answered → ResponseIsStored asked answered facts → ResponseMayBeStored asked answered facts
  stored_may_be final h = may_be_stored (λ any. no_rule_applies asked answered facts any h) final

  forbids : (response_has_directive answered directive.NoStore ≡ true) → (response_has_directive answered directive.MustUnderstand ≡ true → is_understood_status answered.status ≡ true → ⊥) → ResponseIsStored asked answered facts → ⊥
  forbids no_store not_lifted h = at (not_forbidden (λ any. no_rule_applies asked answered facts any h))
    where
      at : NoStoreIsAbsentOrLifted answered → ⊥
      at (inl absent) = never (sym no_store ∙ absent)
      at (inr lifted) = not_lifted lifted.0 lifted.1

  pub no_store_forbids : (response_has_directive answered directive.NoStore ≡ true) × (response_has_directive answered directive.MustUnderstand ≡ false) → ResponseIsStored asked answered facts → ⊥
  no_store_forbids p h = forbids p.0 (λ must understood. never (sym must ∙ p.1)) h

  pub no_store_forbids_unless_understood : (response_has_directive answered directive.NoStore ≡ true) × (is_understood_status answered.status ≡ false) → ResponseIsStored asked answered facts → ⊥
  no_store_forbids_unless_understood p h = forbids p.0 (λ must understood. never (sym understood ∙ p.1)) h

  pub requests_no_store_forbids : request_has_directive asked directive.NoStore ≡ true → ResponseIsStored asked answered facts → ⊥
  requests_no_store_forbids p h = never (sym p ∙ no_rule_applies asked answered facts RequestNoStore h)

  pub private_forbids : response_has_directive answered directive.Private ≡ true → ResponseIsStored asked answered facts → ⊥
  private_forbids p h = never (sym p ∙ no_rule_applies asked answered facts Private h)

  pub authorization_forbids : (has_line asked.fields (codes "Authorization") ≡ true) × (response_has_directive answered directive.MustRevalidate ≡ false) × (response_has_directive answered directive.Public ≡ false) × (response_has_directive answered directive.SMaxage ≡ false)
      → ResponseIsStored asked answered facts → ⊥
  authorization_forbids p h = at (shared_or_unauthorized (λ any. no_rule_applies asked answered facts any h))
    where
      at : (has_line asked.fields (codes "Authorization") ≡ false) ⊎ ResponseAllowsSharedWithAuthorization answered → ⊥
      at (inl absent) = never (sym p.0 ∙ absent)
      at (inr (inl must)) = never (sym must ∙ p.1)
      at (inr (inr (inl public))) = never (sym public ∙ p.2)
      at (inr (inr (inr shared))) = never (sym shared ∙ p.3)

  pub parts_forbid : (answered.status ≡ 206) ⊎ (answered.status ≡ 304) → ResponseIsStored asked answered facts → ⊥
  parts_forbid (inl e) h = not_a_part (λ any. no_rule_applies asked answered facts any h) e
  parts_forbid (inr e) h = not_a_304 (λ any. no_rule_applies asked answered facts any h) e

  pub other_methods_forbid : ((asked.method ≡ codes "GET") → ⊥) → ResponseIsStored asked answered facts → ⊥
  other_methods_forbid p h = p (is_get (λ any. no_rule_applies asked answered facts any h))

  pub operator_forbids : facts.policy.caches ≡ false → ResponseIsStored asked answered facts → ⊥
  operator_forbids p h = never (sym (turned facts.policy.caches p) ∙ no_rule_applies asked answered facts Operator h)
