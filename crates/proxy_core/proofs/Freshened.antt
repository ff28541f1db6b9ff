-- What a 304 freshens is kept where the storing rules let it be, and its head leaves room: in words, and back.
use Rattle.std.proofs.Common.{◌≡◌, ◌⊎◌, inl, inr, ℕ, Bool, true, false, not, ◌&&◌, ◌||◌, length, refl, sym, ◌∙◌, ap}
use Rattle.std.specs.Prelude.{codes, Option, Some, None, is_none, nat_lt, ◌==◌}
use Rattle.std.proofs.lemmas.Bool.{and_parts}
use Rattle.hx_fields.specs.FieldLines.{has_field as has_line}
use Rattle.hx_directives.specs.Occurrences.{occurrences_of}
use Rattle.hx_directives.specs.declared.names.Directive.TheVariants as directive
use Rattle.hx_framing.specs.declared.messages.Response.{Response}
use Rattle.hx_hop.specs.Bypass.{request_has_content, asks_for_range, has_precondition_for_origin}
use Rattle.hx_policy.specs.Policies.{is_heuristic_status}
use Rattle.hx_allow.specs.TableLines.{Table}
use Rattle.hx_allow.specs.Matching.{policy_of}
use Rattle.hx_store.specs.Stored.{Stored}
use Rattle.hx_store.specs.Weights.{weight_of_entry}
use Rattle.hx_storable.specs.Rules.{allows_authorized, response_allows_storing, answer_may_depend_on_range, is_understood_status, response_has_directive, storing_rule_applies, rule_against_storing}
use Rattle.hx_storable.specs.Storable.{StatusNeedsToBeUnderstood, NoStoreIsAbsentOrLifted, ResponseAllowsSharedWithAuthorization, ResponseAllowsStoring, PolicyAllowsStoring}
use Rattle.hx_storable.specs.declared.rule.StoreRule.{StoreRule}
use Rattle.hx_storable.specs.declared.rule.StoreRule.TheVariants.{Operator, Method, Bypass, Status, MustUnderstand, ResponseNoStore, RequestNoStore, Private, Authorization, NothingAllows, VaryStar, ConnectionField, NothingToReuse, TooLarge, Overtaken, Serials, SetCookie, ErrorStatus, RequestCookie}
use Rattle.hx_validate.specs.Room.{head_leaves_room}
use Rattle.hx_fields.proofs.JoinedTests.{never, not_false, not_true, left_false, right_false, neither, one_of, or_left, or_right, second_false, either_false, first_absent, last_absent, is_equal, not_equal, implied}
use Rattle.hx_storable.proofs.LeastRule.{no_rule_applies, no_rule_found}
use Rattle.hx_storable.proofs.LineLemmas.{within_the_words, cookie_applies, error_applies, request_cookie_applies}
use Rattle.hx_storable.proofs.StorableLemmas.{not_for_its_range, for_no_range}
use Rattle.proxy_core.specs.declared.open.exchange.Exchange.{Exchange}
use Rattle.proxy_core.specs.Validating.{weight_exceeds_optional_bound, as_get_request, head_of_stored, storing_facts_of_freshened}
use Rattle.proxy_core.specs.StoredAnswers.{FreshenedMayBeKept, FreshenedIsKeptWhereAllowed, NothingElseFreshenedIsKept}
use Rattle.proxy_core.proofs.StoringWords.{can_be_reused, fields_named, fits_in, arrival_may_be_released, not_above, within_bound, keeps_all, lasts_or_validates, lists_none, star_absent}

none_of : {A : Type 0} (o : Option A) → is_none o ≡ true → o ≡ None
none_of None h = refl
none_of (Some a) h = absurd cc

both_true : (a b : Bool) → a ≡ true → b ≡ true → a && b ≡ true
both_true true b h k = k
both_true false b h k = absurd cc

never_understood : (status n : ℕ) → status ≡ n → is_understood_status n ≡ false → is_understood_status status ≡ true → ⊥
never_understood status n e unknown h = never (sym h ∙ ap is_understood_status e ∙ unknown)

module _ (table : Table) (x : Exchange) (r : Response) (e : Stored) where
  -- ---- in words

  as_it_came : PolicyAllowsStoring (as_get_request x.asked) (head_of_stored e) (policy_of table.lines x.line) → PolicyAllowsStoring x.asked (head_of_stored e) (policy_of table.lines x.line)
  as_it_came within = record { cookies = within.cookies; set_cookie_lifetimes = within.set_cookie_lifetimes; errors = within.errors; requests_with_cookies = within.requests_with_cookies }

  module _ (none : (any : StoreRule) → storing_rule_applies any (as_get_request x.asked) (head_of_stored e) (storing_facts_of_freshened table x r e) ≡ false) where
    must_be_understood : response_has_directive (head_of_stored e) directive.MustUnderstand ≡ true → is_understood_status e.status ≡ true
    must_be_understood must =
        not_false (is_understood_status e.status) (second_false (response_has_directive (head_of_stored e) directive.MustUnderstand) (not (is_understood_status e.status)) must (none MustUnderstand))

    understood : StatusNeedsToBeUnderstood (head_of_stored e) → is_understood_status e.status ≡ true
    understood (inl part) = absurd (never (sym (is_equal e.status 206 part) ∙ left_false (e.status == 206) (e.status == 304) (none Status)))
    understood (inr (inl unchanged)) = absurd (never (sym (is_equal e.status 304 unchanged) ∙ right_false (e.status == 206) (e.status == 304) (none Status)))
    understood (inr (inr must)) = must_be_understood must

    not_forbidden : NoStoreIsAbsentOrLifted (head_of_stored e)
    not_forbidden = at (either_false (response_has_directive (head_of_stored e) directive.NoStore) (not (response_has_directive (head_of_stored e) directive.MustUnderstand)) (none ResponseNoStore))
      where
        at : (response_has_directive (head_of_stored e) directive.NoStore ≡ false) ⊎ (not (response_has_directive (head_of_stored e) directive.MustUnderstand) ≡ false) → NoStoreIsAbsentOrLifted (head_of_stored e)
        at (inl absent) = inl absent
        at (inr lifted) = let must = not_false (response_has_directive (head_of_stored e) directive.MustUnderstand) lifted in inr (must, must_be_understood must)

    shared_or_unauthorized : (has_line x.asked.fields (codes "Authorization") ≡ false) ⊎ ResponseAllowsSharedWithAuthorization (head_of_stored e)
    shared_or_unauthorized = at (either_false (has_line x.asked.fields (codes "Authorization")) (not (allows_authorized (occurrences_of e.fields))) (none Authorization))
      where
        must : Bool
        must = response_has_directive (head_of_stored e) directive.MustRevalidate

        public : Bool
        public = response_has_directive (head_of_stored e) directive.Public

        shared : Bool
        shared = response_has_directive (head_of_stored e) directive.SMaxage

        last : (must || public ≡ true) ⊎ (shared ≡ true) → ResponseAllowsSharedWithAuthorization (head_of_stored e)
        last (inl h) = elim (one_of must public h) [ inl k ↦ inl k | inr k ↦ inr (inl k) ]
        last (inr h) = inr (inr h)

        at : (has_line x.asked.fields (codes "Authorization") ≡ false) ⊎ (not (allows_authorized (occurrences_of e.fields)) ≡ false) → (has_line x.asked.fields (codes "Authorization") ≡ false) ⊎ ResponseAllowsSharedWithAuthorization (head_of_stored e)
        at (inl absent) = inl absent
        at (inr h) = inr (last (one_of (must || public) shared (not_false (allows_authorized (occurrences_of e.fields)) h)))

    allowed : ResponseAllowsStoring (head_of_stored e)
    allowed = first (one_of (((public || expires) || max_age) || shared) (is_heuristic_status e.status) (not_false (response_allows_storing (head_of_stored e)) (none NothingAllows)))
      where
        public : Bool
        public = response_has_directive (head_of_stored e) directive.Public

        expires : Bool
        expires = has_line e.fields (codes "Expires")

        max_age : Bool
        max_age = response_has_directive (head_of_stored e) directive.MaxAge

        shared : Bool
        shared = response_has_directive (head_of_stored e) directive.SMaxage

        third : (public || expires ≡ true) ⊎ (max_age ≡ true) → ResponseAllowsStoring (head_of_stored e)
        third (inl h) = elim (one_of public expires h) [ inl k ↦ inl k | inr k ↦ inr (inl k) ]
        third (inr h) = inr (inr (inl h))

        second : ((public || expires) || max_age ≡ true) ⊎ (shared ≡ true) → ResponseAllowsStoring (head_of_stored e)
        second (inl h) = third (one_of (public || expires) max_age h)
        second (inr h) = inr (inr (inr (inl h)))

        first : (((public || expires) || max_age) || shared ≡ true) ⊎ (is_heuristic_status e.status ≡ true) → ResponseAllowsStoring (head_of_stored e)
        first (inl h) = second (one_of ((public || expires) || max_age) shared h)
        first (inr h) = inr (inr (inr (inr h)))

    has_lifetime_or_validator : ((storing_facts_of_freshened table x r e).explicit ≡ true) ⊎ ((storing_facts_of_freshened table x r e).validator ≡ true)
    has_lifetime_or_validator =
        at (either_false (not (storing_facts_of_freshened table x r e).explicit) (not (storing_facts_of_freshened table x r e).validator) (none NothingToReuse))
      where
        at : (not (storing_facts_of_freshened table x r e).explicit ≡ false) ⊎ (not (storing_facts_of_freshened table x r e).validator ≡ false) → ((storing_facts_of_freshened table x r e).explicit ≡ true) ⊎ ((storing_facts_of_freshened table x r e).validator ≡ true)
        at (inl h) = inl (not_false (storing_facts_of_freshened table x r e).explicit h)
        at (inr h) = inr (not_false (storing_facts_of_freshened table x r e).validator h)

    in_words : head_leaves_room e.fields ≡ true → FreshenedMayBeKept table x r e
    in_words room =
        let both = left_false (request_has_content x.asked || answer_may_depend_on_range (policy_of table.lines x.line) x.asked (head_of_stored e)) (has_precondition_for_origin x.asked) (none Bypass) in
        record {
          line_has_cache = not_false (policy_of table.lines x.line).caches (none Operator);
          status_is_understood = understood;
          no_no_store = not_forbidden;
          not_private = none Private;
          not_authorized = shared_or_unauthorized;
          allowed = allowed;
          request_has_no_no_store = none RequestNoStore;
          no_content = left_false (request_has_content x.asked) (answer_may_depend_on_range (policy_of table.lines x.line) x.asked (head_of_stored e)) both;
          is_not_for_its_range = not_for_its_range (policy_of table.lines x.line).forwards_ranges (asks_for_range x.asked) e.status (right_false (request_has_content x.asked) (answer_may_depend_on_range (policy_of table.lines x.line) x.asked (head_of_stored e)) both);
          no_precondition = right_false (request_has_content x.asked || answer_may_depend_on_range (policy_of table.lines x.line) x.asked (head_of_stored e)) (has_precondition_for_origin x.asked) (none Bypass);
          policy_allows_it = as_it_came (within_the_words (as_get_request x.asked) (head_of_stored e) (storing_facts_of_freshened table x r e) none);
          names_fields = fields_named e.fields (none VaryStar);
          connection_of_304_removed_no_caching_field = keeps_all r.fields (none ConnectionField);
          can_be_reused = can_be_reused e.fields (policy_of table.lines x.line) e.status has_lifetime_or_validator;
          fits = arrival_may_be_released table.max_stored (length e.content) (left_false (nat_lt table.max_stored (length e.content)) (weight_exceeds_optional_bound table.max_store (weight_of_entry e)) (none TooLarge));
          fits_the_store = within_bound table.max_store (weight_of_entry e) (right_false (nat_lt table.max_stored (length e.content)) (weight_exceeds_optional_bound table.max_store (weight_of_entry e)) (none TooLarge));
          leaves_room = room;
        }

  -- ---- and back

  shared_is_allowed : ResponseAllowsSharedWithAuthorization (head_of_stored e) → allows_authorized (occurrences_of e.fields) ≡ true
  shared_is_allowed says_so = at says_so
    where
      must : Bool
      must = response_has_directive (head_of_stored e) directive.MustRevalidate

      public : Bool
      public = response_has_directive (head_of_stored e) directive.Public

      shared : Bool
      shared = response_has_directive (head_of_stored e) directive.SMaxage

      at : ResponseAllowsSharedWithAuthorization (head_of_stored e) → allows_authorized (occurrences_of e.fields) ≡ true
      at (inl h) = or_left (must || public) shared (or_left must public h)
      at (inr (inl h)) = or_left (must || public) shared (or_right must public h)
      at (inr (inr h)) = or_right (must || public) shared h

  storing_is_allowed : ResponseAllowsStoring (head_of_stored e) → response_allows_storing (head_of_stored e) ≡ true
  storing_is_allowed says_so = at says_so
    where
      public : Bool
      public = response_has_directive (head_of_stored e) directive.Public

      expires : Bool
      expires = has_line e.fields (codes "Expires")

      max_age : Bool
      max_age = response_has_directive (head_of_stored e) directive.MaxAge

      shared : Bool
      shared = response_has_directive (head_of_stored e) directive.SMaxage

      heuristic : Bool
      heuristic = is_heuristic_status e.status

      by_two : public || expires ≡ true → response_allows_storing (head_of_stored e) ≡ true
      by_two h = or_left (((public || expires) || max_age) || shared) heuristic (or_left ((public || expires) || max_age) shared (or_left (public || expires) max_age h))

      at : ResponseAllowsStoring (head_of_stored e) → response_allows_storing (head_of_stored e) ≡ true
      at (inl h) = by_two (or_left public expires h)
      at (inr (inl h)) = by_two (or_right public expires h)
      at (inr (inr (inl h))) = or_left (((public || expires) || max_age) || shared) heuristic (or_left ((public || expires) || max_age) shared (or_right (public || expires) max_age h))
      at (inr (inr (inr (inl h)))) = or_left (((public || expires) || max_age) || shared) heuristic (or_right ((public || expires) || max_age) shared h)
      at (inr (inr (inr (inr h)))) = or_right (((public || expires) || max_age) || shared) heuristic h

  no_store_applies : NoStoreIsAbsentOrLifted (head_of_stored e) → response_has_directive (head_of_stored e) directive.NoStore && not (response_has_directive (head_of_stored e) directive.MustUnderstand) ≡ false
  no_store_applies (inl absent) = first_absent (response_has_directive (head_of_stored e) directive.NoStore) (not (response_has_directive (head_of_stored e) directive.MustUnderstand)) absent
  no_store_applies (inr lifted) = last_absent (response_has_directive (head_of_stored e) directive.NoStore) (not (response_has_directive (head_of_stored e) directive.MustUnderstand)) (not_true (response_has_directive (head_of_stored e) directive.MustUnderstand) lifted.0)

  authorization_applies : (has_line x.asked.fields (codes "Authorization") ≡ false) ⊎ ResponseAllowsSharedWithAuthorization (head_of_stored e) → has_line x.asked.fields (codes "Authorization") && not (allows_authorized (occurrences_of e.fields)) ≡ false
  authorization_applies (inl absent) = first_absent (has_line x.asked.fields (codes "Authorization")) (not (allows_authorized (occurrences_of e.fields))) absent
  authorization_applies (inr shared) = last_absent (has_line x.asked.fields (codes "Authorization")) (not (allows_authorized (occurrences_of e.fields))) (not_true (allows_authorized (occurrences_of e.fields)) (shared_is_allowed shared))

  reuse_applies : ((storing_facts_of_freshened table x r e).explicit ≡ true) ⊎ ((storing_facts_of_freshened table x r e).validator ≡ true) → not (storing_facts_of_freshened table x r e).explicit && not (storing_facts_of_freshened table x r e).validator ≡ false
  reuse_applies (inl h) = first_absent (not (storing_facts_of_freshened table x r e).explicit) (not (storing_facts_of_freshened table x r e).validator) (not_true (storing_facts_of_freshened table x r e).explicit h)
  reuse_applies (inr h) = last_absent (not (storing_facts_of_freshened table x r e).explicit) (not (storing_facts_of_freshened table x r e).validator) (not_true (storing_facts_of_freshened table x r e).validator h)

  none_applies : FreshenedMayBeKept table x r e → (any : StoreRule) → storing_rule_applies any (as_get_request x.asked) (head_of_stored e) (storing_facts_of_freshened table x r e) ≡ false
  none_applies may Operator = not_true (policy_of table.lines x.line).caches may.line_has_cache
  none_applies may Method = refl
  none_applies may Bypass =
      neither (request_has_content x.asked || answer_may_depend_on_range (policy_of table.lines x.line) x.asked (head_of_stored e)) (has_precondition_for_origin x.asked)
      (neither (request_has_content x.asked) (answer_may_depend_on_range (policy_of table.lines x.line) x.asked (head_of_stored e)) may.no_content (for_no_range (policy_of table.lines x.line).forwards_ranges (asks_for_range x.asked) e.status may.is_not_for_its_range)) may.no_precondition
  none_applies may Status =
      neither (e.status == 206) (e.status == 304)
      (not_equal e.status 206 (λ is. never_understood e.status 206 is refl (may.status_is_understood (inl is))))
      (not_equal e.status 304 (λ is. never_understood e.status 304 is refl (may.status_is_understood (inr (inl is)))))
  none_applies may MustUnderstand = implied (response_has_directive (head_of_stored e) directive.MustUnderstand) (is_understood_status e.status) (λ must. may.status_is_understood (inr (inr must)))
  none_applies may ResponseNoStore = no_store_applies may.no_no_store
  none_applies may RequestNoStore = may.request_has_no_no_store
  none_applies may Private = may.not_private
  none_applies may Authorization = authorization_applies may.not_authorized
  none_applies may NothingAllows = not_true (response_allows_storing (head_of_stored e)) (storing_is_allowed may.allowed)
  none_applies may VaryStar = star_absent e.fields may.names_fields
  none_applies may ConnectionField = lists_none r.fields may.connection_of_304_removed_no_caching_field
  none_applies may NothingToReuse = reuse_applies (lasts_or_validates e.fields (policy_of table.lines x.line) e.status may.can_be_reused)
  none_applies may TooLarge =
      neither (nat_lt table.max_stored (length e.content)) (weight_exceeds_optional_bound table.max_store (weight_of_entry e)) (fits_in table.max_stored (length e.content) may.fits) (not_above table.max_store (weight_of_entry e) may.fits_the_store)
  none_applies may Overtaken = refl
  none_applies may Serials = refl
  none_applies may SetCookie = cookie_applies (as_get_request x.asked) (head_of_stored e) (storing_facts_of_freshened table x r e) may.policy_allows_it.cookies may.policy_allows_it.set_cookie_lifetimes
  none_applies may ErrorStatus = error_applies (as_get_request x.asked) (head_of_stored e) (storing_facts_of_freshened table x r e) may.policy_allows_it.errors
  none_applies may RequestCookie = request_cookie_applies (as_get_request x.asked) (head_of_stored e) (storing_facts_of_freshened table x r e) may.policy_allows_it.requests_with_cookies

-- ---- the laws

pub is_kept : FreshenedIsKeptWhereAllowed
is_kept table x r e may =
    both_true (is_none (rule_against_storing (as_get_request x.asked) (head_of_stored e) (storing_facts_of_freshened table x r e))) (head_leaves_room e.fields)
    (ap is_none (no_rule_found (as_get_request x.asked) (head_of_stored e) (storing_facts_of_freshened table x r e) (none_applies table x r e may))) may.leaves_room

pub may_be_kept : NothingElseFreshenedIsKept
may_be_kept table x r e kept =
    let parts = and_parts (is_none (rule_against_storing (as_get_request x.asked) (head_of_stored e) (storing_facts_of_freshened table x r e))) (head_leaves_room e.fields) kept in
    in_words table x r e
    (λ any. no_rule_applies (as_get_request x.asked) (head_of_stored e) (storing_facts_of_freshened table x r e) any
    (none_of (rule_against_storing (as_get_request x.asked) (head_of_stored e) (storing_facts_of_freshened table x r e)) parts.0)) parts.1
