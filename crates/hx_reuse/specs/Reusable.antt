-- What a stored response and a request have to be, that the one may answer the other, in the order
-- of the standard's list and without the rules and their numbers (RFC 9111, section 4).
--
-- RequestIsForTheCache: the request
-- MayBeSentFresh, MayBeSentStale: the two ways to be sent
-- ResponseMayBeReused: all of the list
use Rattle.std.specs.Prelude.{◌≡◌, ℕ, ◌+◌, ◌-◌, ◌<◌, ◌≤◌, ◌⊎◌, Bool, true, false, List, codes, Some, None}
use Rattle.hx_directives.specs.Occurrences.{occurrences_of}
use Rattle.hx_directives.specs.Answers.{directive_occurs, first_valid_seconds, max_stale}
use Rattle.hx_directives.specs.declared.names.Directive.TheVariants.{NoCache, MaxAge, MinFresh, MustRevalidate}
use Rattle.hx_directives.specs.declared.names.Directive.TheVariants.{ProxyRevalidate, SMaxage}
use Rattle.hx_directives.specs.declared.answers.MaxStale.{MaxStale}
use Rattle.hx_directives.specs.declared.answers.MaxStale.TheVariants.{Absent, Any, UpTo}
use Rattle.hx_age.specs.Age.{age_of}
use Rattle.hx_hop.specs.declared.request_view.Asked.{Asked}
use Rattle.hx_hop.specs.Bypass.{request_has_content, asks_for_range, has_precondition_for_origin}
use Rattle.hx_store.specs.Stored.{Stored}
use Rattle.hx_policy.specs.declared.words.Policy.{Policy}
use Rattle.hx_store.specs.Serials.{SerialsAreDistinct}
use Rattle.hx_store.specs.Shelf.{serials}
use Rattle.hx_reuse.specs.Lifetimes.{lifetime_of_stored_response}
use Rattle.hx_reuse.specs.ChosenAndNamed.{ResponseIsChosen}
use Rattle.hx_reuse.specs.Rules.{decision_of}
use Rattle.hx_reuse.specs.declared.decision.Decision.TheVariants.{Hit}

-- the request takes an answer from the store
-- own: one with content, or a precondition that only the origin can judge, takes none; nor does one with a range, where
-- ranges are the origin's to answer: else one is cut from what is stored (RFC 9110, section 14.2)
pub record RequestIsForTheCache (forwards_ranges : Bool) (asked : Asked) : Type 0 where
  pub method_allows : (asked.method ≡ codes "GET") ⊎ (asked.method ≡ codes "HEAD")
  pub no_content : request_has_content asked ≡ false
  pub no_range : forwards_ranges ≡ true → asks_for_range asked ≡ false
  pub no_precondition : has_precondition_for_origin asked ≡ false

-- the response isn't older than the request's max-age allows (RFC 9111, section 5.2.1.1)
abbrev pub ResponseIsWithinMaxAge : Stored → Asked → ℕ → Type 0
ResponseIsWithinMaxAge response asked now =
    (most : ℕ) → first_valid_seconds (occurrences_of asked.fields) MaxAge ≡ Some most → age_of response.times now ≤ most

-- it stays fresh for as long as the request's min-fresh wants (RFC 9111, section 5.2.1.3)
abbrev pub ResponseIsFreshForMinFresh : Policy → Stored → Asked → ℕ → Type 0
ResponseIsFreshForMinFresh policy response asked now =
    (least : ℕ) → first_valid_seconds (occurrences_of asked.fields) MinFresh ≡ Some least
    → age_of response.times now + least ≤ (lifetime_of_stored_response policy response).seconds

-- it is fresh, and the request takes it so (RFC 9111, sections 4.2 and 5.2.1)
-- own: its no-cache, max-age and min-fresh count where the operator's line heeds them
pub record MayBeSentFresh (policy : Policy) (response : Stored) (asked : Asked) (now : ℕ) : Type 0 where
  pub is_fresh : age_of response.times now < (lifetime_of_stored_response policy response).seconds
  pub not_to_be_validated : policy.heeds_requests ≡ true → directive_occurs (occurrences_of asked.fields) NoCache
      ≡ false
  pub within_max_age : policy.heeds_requests ≡ true → ResponseIsWithinMaxAge response asked now
  pub fresh_for_min_fresh : policy.heeds_requests ≡ true → ResponseIsFreshForMinFresh policy response asked now

-- a request's max-stale takes a response that is so many seconds past its lifetime (RFC 9111, section 5.2.1.2)
abbrev pub MaxStaleAcceptsStaleness : MaxStale → ℕ → Type 0
MaxStaleAcceptsStaleness Absent n = ⊥
MaxStaleAcceptsStaleness Any n = Unit {0}
MaxStaleAcceptsStaleness (UpTo limit) n = n ≤ limit

-- it is stale, doesn't forbid to be sent so, and the request takes it so (RFC 9111, sections 4.2.4, 5.2.1, 5.2.2.2,
-- 5.2.2.8 and 5.2.2.10)
-- own: its lifetime is stated, or the operator gives it one; none is guessed
pub record MayBeSentStale (policy : Policy) (response : Stored) (asked : Asked) (now : ℕ) : Type 0 where
  pub is_stale : (lifetime_of_stored_response policy response).seconds ≤ age_of response.times now
  pub no_must_revalidate : directive_occurs (occurrences_of response.fields) MustRevalidate ≡ false
  pub no_proxy_revalidate : directive_occurs (occurrences_of response.fields) ProxyRevalidate ≡ false
  pub no_s_maxage : directive_occurs (occurrences_of response.fields) SMaxage ≡ false
  pub has_a_lifetime : (lifetime_of_stored_response policy response).explicit ≡ true
  pub not_to_be_validated : policy.heeds_requests ≡ true → directive_occurs (occurrences_of asked.fields) NoCache
      ≡ false
  pub within_max_stale : MaxStaleAcceptsStaleness (max_stale (occurrences_of asked.fields))
      (age_of response.times now - (lifetime_of_stored_response policy response).seconds)
  pub within_max_age : policy.heeds_requests ≡ true → ResponseIsWithinMaxAge response asked now
  pub no_min_fresh : policy.heeds_requests ≡ true → first_valid_seconds (occurrences_of asked.fields) MinFresh ≡ None

-- all that is asked of a response which isn't validated first (RFC 9111, sections 4 and 5.2.2.4)
-- own: the operator lets the request be answered from the store
-- own: of all that match the preferred one alone may be sent; where it may not, none is, though another may be fresh
pub record ResponseMayBeReused (policy : Policy) (held : List Stored) (asked : Asked) (now : ℕ)
    (response : Stored) : Type 0 where
  pub operator_allows : policy.caches ≡ true
  pub is_chosen : ResponseIsChosen held asked response
  pub request_allows : RequestIsForTheCache policy.forwards_ranges asked
  pub no_no_cache : directive_occurs (occurrences_of response.fields) NoCache ≡ false
  pub fresh_or_stale : MayBeSentFresh policy response asked now ⊎ MayBeSentStale policy response asked now

-- ---- the statements

abbrev pub OnlyReusableResponseIsSent : Type 0
OnlyReusableResponseIsSent = (policy : Policy) (held : List Stored) (asked : Asked) (now serial : ℕ) →
    decision_of policy held asked now ≡ Hit serial
    → (response : Stored) × ResponseMayBeReused policy held asked now response × (response.serial ≡ serial)

-- where each serial names one response
abbrev pub ReusableResponseIsSent : Type 0
ReusableResponseIsSent = (policy : Policy) (held : List Stored) (asked : Asked) (now : ℕ) (response : Stored) →
    SerialsAreDistinct (serials held) → ResponseMayBeReused policy held asked now response
    → decision_of policy held asked now ≡ Hit response.serial
