-- What is sent without the origin has the nominated values, and is fresh where it forbids to be sent stale.
use Rattle.std.proofs.Common.{◌≡◌, ℕ, ◌<◌, ◌≤◌, ◌⊎◌, inl, inr, Bool, true, false, List, [], ◌∷◌, refl, sym, ◌∙◌, ap, subst, arith}
use Rattle.std.specs.Prelude.{◌&&◌, Option, Some, None}
use Rattle.std.specs.List.{Contains, list_all}
use Rattle.std.proofs.lemmas.Slice.Eq.{bytes_eq-Decides}
use Rattle.hx_fields.specs.FieldLines.{combined_of}
use Rattle.hx_directives.specs.Occurrences.{occurrences_of}
use Rattle.hx_directives.specs.Answers.{directive_occurs}
use Rattle.hx_directives.specs.declared.occurrences.Occurrence.{Occurrence}
use Rattle.hx_directives.specs.declared.names.Directive.TheVariants.{NoCache}
use Rattle.hx_age.specs.declared.lifetimes.Lifetime.{Lifetime}
use Rattle.hx_age.specs.Lifetime.{lifetime_of}
use Rattle.hx_age.specs.declared.moments.Times.{Times}
use Rattle.hx_age.specs.Age.{age_of, lifetime_shortened_to_end_by, lifetime_shortened_by_purge}
use Rattle.hx_vary.specs.declared.nominated_values.NominatedValue.{NominatedValue}
use Rattle.hx_vary.specs.Vary.{is_same_value, vary_matches}
use Rattle.hx_hop.specs.declared.request_view.Asked.{Asked}
use Rattle.hx_store.specs.Stored.{Stored}
use Rattle.hx_policy.specs.declared.words.Policy.{Policy}
use Rattle.hx_reuse.specs.Lifetimes.{lifetime_of_stored_response, lifetime_under_policy}
use Rattle.hx_reuse.specs.ErrorRules.{error_rule_against}
use Rattle.hx_reuse.specs.Reusable.{ResponseMayBeReused, MayBeSentFresh, MayBeSentStale}
use Rattle.hx_reuse.specs.Promises.{ResponseForbidsStale, ResponseIsTheHit, ResponseWasPurged}
use Rattle.hx_fields.proofs.FirstThat.{IsMember}
use Rattle.hx_reuse.proofs.Members.{distinct_entries}
use Rattle.hx_fields.proofs.JoinedTests.{never}
use Rattle.hx_reuse.proofs.Choice.{member_contained}
use Rattle.hx_reuse.proofs.ReusableLemmas.{reused_is_allowed}
use Rattle.hx_reuse.proofs.OnErrorLemmas.{sent_may_be}
use Rattle.hx_reuse.proofs.LineLemmas.{never_longer}

same_value : (a b : Option (List ℕ)) → is_same_value a b ≡ true → a ≡ b
same_value None None h = refl
same_value None (Some b) h = absurd (never (sym h))
same_value (Some a) None h = absurd (never (sym h))
same_value (Some a) (Some b) h = ap Some ((bytes_eq-Decides a b).0 h)

left_true : (a b : Bool) → a && b ≡ true → a ≡ true
left_true true b h = refl
left_true false b h = h

right_true : (a b : Bool) → a && b ≡ true → b ≡ true
right_true true b h = h
right_true false b h = absurd (never (sym h))

-- a test that all pass is passed by each member
passed : {X : Type 0} (p : X → Bool) (xs : List X) (x : X) → list_all p xs ≡ true → IsMember x xs → p x ≡ true
passed p [] x h m = absurd m
passed p (y ∷ ys) x h (inl same) = rw (← same) (left_true (p y) (list_all p ys) h)
passed p (y ∷ ys) x h (inr m) = passed p ys x (right_true (p y) (list_all p ys) h) m

-- ---- a purge

not_longer : (purge : Option ℕ) (times : Times) (lifetime : Lifetime) → (lifetime_shortened_to_end_by purge times lifetime).seconds ≤ lifetime.seconds
not_longer None times lifetime = omega arith
not_longer (Some moment) times lifetime = omega arith

over_once_purged : (times : Times) (lifetime : Lifetime) (purge now : ℕ) → times.expired ≡ Some purge → purge ≤ now → (lifetime_shortened_by_purge times lifetime).seconds ≤ age_of times now
over_once_purged times lifetime purge now is before = rw is (omega arith)

pub lasts_as_long : (policy : Policy) (response : Stored) → response.times.expired ≡ None → lifetime_of_stored_response policy response ≡ lifetime_under_policy policy response.status response.fields
lasts_as_long policy response none =
    ap (λ (o : Option ℕ). lifetime_shortened_to_end_by o response.times (lifetime_under_policy policy response.status response.fields)) none

module _ (policy : Policy) (held : List Stored) (asked : Asked) (now : ℕ) (response : Stored) (sent : ResponseIsTheHit policy held asked now response) where
  reused : ResponseMayBeReused policy held asked now response
  reused =
      let r = reused_is_allowed policy held asked now response.serial sent.is_the_hit in
      let same : r.0 ≡ response = distinct_entries held sent.serials_are_distinct r.0 response (member_contained held r.0 r.1.is_chosen.is_candidate.is_held) (member_contained held response sent.is_held) r.2 in
      subst (λ (e : Stored). ResponseMayBeReused policy held asked now e) same r.1

  pub same_values : (kept : NominatedValue) → Contains response.nominated kept → kept.value ≡ combined_of asked.fields kept.name
  same_values kept c =
      same_value kept.value (combined_of asked.fields kept.name)
      (passed (λ k. is_same_value k.value (combined_of asked.fields k.name)) response.nominated kept reused.is_chosen.is_candidate.matches_nominated_values (member_contained response.nominated kept c))

  pub matches_the_kept : vary_matches response.nominated asked.fields ≡ true
  matches_the_kept = reused.is_chosen.is_candidate.matches_nominated_values

  fresh_of : MayBeSentFresh policy response asked now ⊎ MayBeSentStale policy response asked now → ResponseForbidsStale response → age_of response.times now < (lifetime_of_stored_response policy response).seconds
  fresh_of (inl fresh) forbids = fresh.is_fresh
  fresh_of (inr stale) (inl must) = absurd (never (sym must ∙ stale.no_must_revalidate))
  fresh_of (inr stale) (inr (inl proxy)) = absurd (never (sym proxy ∙ stale.no_proxy_revalidate))
  fresh_of (inr stale) (inr (inr shared)) = absurd (never (sym shared ∙ stale.no_s_maxage))

  pub is_fresh : ResponseForbidsStale response → age_of response.times now < (lifetime_of_stored_response policy response).seconds
  is_fresh forbids = fresh_of reused.fresh_or_stale forbids

  pub keeps_its_own : ResponseForbidsStale response → (lifetime_of response.fields).explicit ≡ true → age_of response.times now < (lifetime_of response.fields).seconds
  keeps_its_own forbids stated =
      let fresh : age_of response.times now < (lifetime_of_stored_response policy response).seconds = is_fresh forbids in
      let longer = never_longer policy response.status response.fields stated in
      let ended = not_longer response.times.expired response.times (lifetime_under_policy policy response.status response.fields) in
      omega (arith, fresh, longer, ended)

  stale_of : ResponseWasPurged response now → MayBeSentFresh policy response asked now ⊎ MayBeSentStale policy response asked now → MayBeSentStale policy response asked now
  stale_of purged (inl fresh) =
      let over = over_once_purged response.times (lifetime_under_policy policy response.status response.fields) purged.0 now purged.1 purged.2 in
      let isnt : age_of response.times now < (lifetime_of_stored_response policy response).seconds = fresh.is_fresh in
      absurd (omega (arith, over, isnt))
  stale_of purged (inr stale) = stale

  pub purged_is_stale : ResponseWasPurged response now → MayBeSentStale policy response asked now
  purged_is_stale purged = stale_of purged reused.fresh_or_stale

  pub purged_is_not_forbidden : ResponseWasPurged response now → ResponseForbidsStale response → ⊥
  purged_is_not_forbidden purged (inl must) = never (sym must ∙ (purged_is_stale purged).no_must_revalidate)
  purged_is_not_forbidden purged (inr (inl proxy)) = never (sym proxy ∙ (purged_is_stale purged).no_proxy_revalidate)
  purged_is_not_forbidden purged (inr (inr shared)) = never (sym shared ∙ (purged_is_stale purged).no_s_maxage)

  pub has_no_no_cache : directive_occurs (occurrences_of response.fields) NoCache ≡ true → ⊥
  has_no_no_cache h = never (sym h ∙ reused.no_no_cache)

module _ (policy : Policy) (response : Stored) (request : List Occurrence) (now : ℕ) where
  pub never_on_error : error_rule_against policy response request now ≡ None → (directive_occurs (occurrences_of response.fields) NoCache ≡ true) ⊎ ResponseForbidsStale response → ⊥
  never_on_error h (inl no_cache) = let may = sent_may_be policy response request now h in never (sym no_cache ∙ may.no_no_cache)
  never_on_error h (inr (inl must)) = let may = sent_may_be policy response request now h in never (sym must ∙ may.no_must_revalidate)
  never_on_error h (inr (inr (inl proxy))) = let may = sent_may_be policy response request now h in never (sym proxy ∙ may.no_proxy_revalidate)
  never_on_error h (inr (inr (inr shared))) = let may = sent_may_be policy response request now h in never (sym shared ∙ may.no_s_maxage)
