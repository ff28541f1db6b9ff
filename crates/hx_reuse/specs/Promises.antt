-- What an origin can rely on once its response is stored, whatever the requests and the operator's
-- line say: it follows from the rules.
--
-- ResponseForbidsStale: the response may not be sent stale    ResponseIsTheHit: it is the one that answers
-- ResponseWasPurged: a purge expired it, at a moment or before
-- Below them are the statements that the laws of `src/laws.rt` prove.
use Rattle.std.specs.Prelude.{◌≡◌, ℕ, ◌<◌, ◌≤◌, ◌⊎◌, true, List, None, Some}
use Rattle.std.specs.List.{Contains}
use Rattle.hx_fields.specs.FieldLines.{combined_of}
use Rattle.hx_fields.specs.Line.{Field}
use Rattle.hx_directives.specs.Occurrences.{occurrences_of}
use Rattle.hx_directives.specs.Answers.{directive_occurs}
use Rattle.hx_directives.specs.declared.occurrences.Occurrence.{Occurrence}
use Rattle.hx_directives.specs.declared.names.Directive.TheVariants.{NoCache, MustRevalidate, ProxyRevalidate, SMaxage}
use Rattle.hx_age.specs.Lifetime.{lifetime_of}
use Rattle.hx_age.specs.Age.{age_of}
use Rattle.hx_vary.specs.declared.nominated_values.NominatedValue.{NominatedValue}
use Rattle.hx_vary.specs.Vary.{nominated_values_of, requests_have_same_nominated_values}
use Rattle.hx_hop.specs.declared.request_view.Asked.{Asked}
use Rattle.hx_store.specs.Stored.{Stored}
use Rattle.hx_policy.specs.declared.words.Policy.{Policy}
use Rattle.hx_store.specs.Serials.{SerialsAreDistinct}
use Rattle.hx_store.specs.Shelf.{serials}
use Rattle.hx_reuse.specs.Lifetimes.{lifetime_of_stored_response, lifetime_under_policy}
use Rattle.hx_reuse.specs.Rules.{decision_of}
use Rattle.hx_reuse.specs.ErrorRules.{error_rule_against}
use Rattle.hx_reuse.specs.Reusable.{MayBeSentStale}
use Rattle.hx_reuse.specs.declared.decision.Decision.TheVariants.{Hit}

-- must-revalidate, proxy-revalidate or s-maxage (RFC 9111, sections 5.2.2.2, 5.2.2.8 and 5.2.2.10)
abbrev pub ResponseForbidsStale : Stored → Type 0
ResponseForbidsStale response =
    (directive_occurs (occurrences_of response.fields) MustRevalidate ≡ true)
    ⊎ ((directive_occurs (occurrences_of response.fields) ProxyRevalidate ≡ true)
    ⊎ (directive_occurs (occurrences_of response.fields) SMaxage ≡ true))

-- a held response answers the request without the origin; each serial names one response
pub record ResponseIsTheHit (policy : Policy) (held : List Stored) (asked : Asked) (now : ℕ)
    (response : Stored) : Type 0 where
  pub serials_are_distinct : SerialsAreDistinct (serials held)
  pub is_held : Contains held response
  pub is_the_hit : decision_of policy held asked now ≡ Hit response.serial

-- a purge ended its lifetime, at this moment or before
abbrev pub ResponseWasPurged : Stored → ℕ → Type 0
ResponseWasPurged response now = (purge : ℕ) × (response.times.expired ≡ Some purge) × (purge ≤ now)

-- ---- the statements

-- the request has of each nominated field the value that the response was asked for with (RFC 9111, section 4.1)
abbrev pub HitHasTheNominatedValues : Type 0
HitHasTheNominatedValues = (policy : Policy) (held : List Stored) (asked : Asked) (now : ℕ) (response : Stored) →
    ResponseIsTheHit policy held asked now response → (kept : NominatedValue) → Contains response.nominated kept →
    kept.value ≡ combined_of asked.fields kept.name

-- so of a response that was stored with what its own request had, only a request gets it that has
-- the same values of all that it nominates (RFC 9111, section 4.1)
abbrev pub HitWasStoredForTheSameNominatedValues : Type 0
HitWasStoredForTheSameNominatedValues =
    (policy : Policy) (held : List Stored) (asked : Asked) (now : ℕ) (response : Stored) (fields earlier : List Field) →
    ResponseIsTheHit policy held asked now response → response.nominated ≡ nominated_values_of fields earlier
    → requests_have_same_nominated_values fields earlier asked.fields ≡ true

-- one that forbids to be sent stale is fresh, for as long as it states or the operator gives it
abbrev pub StaleForbiddenHitIsFresh : Type 0
StaleForbiddenHitIsFresh = (policy : Policy) (held : List Stored) (asked : Asked) (now : ℕ) (response : Stored) →
    ResponseIsTheHit policy held asked now response → ResponseForbidsStale response
    → age_of response.times now < (lifetime_of_stored_response policy response).seconds

-- and where it states its lifetime no word of the operator's line lengthens that
abbrev pub StaleForbiddenHitIsWithinItsOwnLifetime : Type 0
StaleForbiddenHitIsWithinItsOwnLifetime =
    (policy : Policy) (held : List Stored) (asked : Asked) (now : ℕ) (response : Stored) →
    ResponseIsTheHit policy held asked now response → ResponseForbidsStale response →
    (lifetime_of response.fields).explicit ≡ true →
    age_of response.times now < (lifetime_of response.fields).seconds

-- one with no-cache is sent only once it was validated (RFC 9111, section 5.2.2.4)
abbrev pub NoCacheResponseIsNeverAHit : Type 0
NoCacheResponseIsNeverAHit = (policy : Policy) (held : List Stored) (asked : Asked) (now : ℕ) (response : Stored) →
    ResponseIsTheHit policy held asked now response → directive_occurs (occurrences_of response.fields) NoCache ≡ true
    → ⊥

-- nor is one of either kind sent in place of an error
abbrev pub ForbiddenResponseIsNeverSentOnError : Type 0
ForbiddenResponseIsNeverSentOnError = (policy : Policy) (response : Stored) (request : List Occurrence) (now : ℕ) →
    error_rule_against policy response request now ≡ None
    → (directive_occurs (occurrences_of response.fields) NoCache ≡ true) ⊎ ResponseForbidsStale response → ⊥

-- what a purge expired is sent from then on only where a stale one may be (RFC 9111, section 4.2.4)
abbrev pub PurgedHitIsSentOnlyWhereStaleMayBe : Type 0
PurgedHitIsSentOnlyWhereStaleMayBe = (policy : Policy) (held : List Stored) (asked : Asked) (now : ℕ)
    (response : Stored) →
    ResponseIsTheHit policy held asked now response → ResponseWasPurged response now
    → MayBeSentStale policy response asked now

-- so never where it forbids that
abbrev pub StaleForbiddenPurgedIsNeverAHit : Type 0
StaleForbiddenPurgedIsNeverAHit = (policy : Policy) (held : List Stored) (asked : Asked) (now : ℕ) (response : Stored) →
    ResponseIsTheHit policy held asked now response → ResponseWasPurged response now → ResponseForbidsStale response → ⊥

-- and what no purge expired lasts as long as it would without purges
abbrev pub UnpurgedLifetimeIsUnchanged : Type 0
UnpurgedLifetimeIsUnchanged = (policy : Policy) (response : Stored) → response.times.expired ≡ None
    → lifetime_of_stored_response policy response ≡ lifetime_under_policy policy response.status response.fields
