-- What is sent beside the exchange that leads is held, and what follows where nothing is sent.
use Rattle.std.proofs.Common.{◌≡◌, ℕ, Bool, true, false, cond, Option, None, Some, List, refl, sym, ◌∙◌, ap}
use Rattle.std.proofs.lemmas.Bool.{false≢true}
use Rattle.std.proofs.lemmas.Option.{same_Some}
use Rattle.hx_policy.specs.declared.words.Policy.{Policy}
use Rattle.hx_directives.specs.Occurrences.{occurrences_of}
use Rattle.hx_hop.specs.declared.request_view.Asked.{Asked}
use Rattle.hx_allow.specs.TableLines.{Table}
use Rattle.hx_allow.specs.Matching.{policy_of}
use Rattle.hx_store.specs.Stored.{Stored}
use Rattle.hx_store.specs.Shelf.{find_entry_of_serial}
use Rattle.hx_reuse.specs.Rules.{is_some_and}
use Rattle.hx_reuse.specs.WhileRevalidating.{may_be_sent_while_revalidating}
use Rattle.hx_reuse.specs.declared.rule.ReuseRule.{ReuseRule}
use Rattle.hx_allow.specs.declared.verdicts.RouteOverLine.{RouteOverLine}
use Rattle.proxy_core.specs.declared.open.awaited.Awaited.{Awaited}
use Rattle.proxy_core.specs.declared.open.awaited.Awaited.TheVariants.{Missing, Expired}
use Rattle.proxy_core.specs.declared.open.exchange.Exchange.{Exchange}
use Rattle.proxy_core.specs.declared.replies.stored_reply.StoredCacheStatusInfo.{StoredCacheStatusInfo}
use Rattle.proxy_core.specs.declared.outcome.Outcome.{Outcome}
use Rattle.proxy_core.specs.declared.outcome.Outcome.TheVariants.{Forward, Waits}
use Rattle.proxy_core.specs.Allowing.{exchanges_to_wait_for}
use Rattle.proxy_core.specs.Awaiting.{response_awaited_by_request, leader_of_request}
use Rattle.proxy_core.specs.Revalidating.{stale_serial_may_be_sent, serial_sent_while_revalidating}
use Rattle.proxy_core.specs.Outcomes.{outcome_of_sending_stored, stale_while_revalidating_info, outcome_unless_stale_is_sent}

-- the exchange for which a request waits over a line, and the stale response that is sent in place of that
abbrev pub led_over : Table → List Stored → List Exchange → RouteOverLine → Asked → ReuseRule → Option ℕ
led_over table es xs line asked rule = leader_of_request (policy_of table.lines line) es (exchanges_to_wait_for table line asked xs) asked rule

abbrev pub sent_over : Table → List Stored → List Exchange → RouteOverLine → ℕ → Asked → ReuseRule → Option ℕ
sent_over table es xs line now asked rule =
    serial_sent_while_revalidating (policy_of table.lines line) es asked now (response_awaited_by_request (policy_of table.lines line) es asked rule) (led_over table es xs line asked rule)

-- a stored response that is sent isn't a request that goes forward or waits
pub sent_is_no_forward : (table : Table) (es : List Stored) (s now : ℕ) (info : StoredCacheStatusInfo) (asked : Asked) (line : RouteOverLine) (bytes : List ℕ) → outcome_of_sending_stored table es s now info asked ≡ Forward line bytes → ⊥
sent_is_no_forward table es s now info asked line bytes h = cc

pub sent_is_no_wait : (table : Table) (es : List Stored) (s now : ℕ) (info : StoredCacheStatusInfo) (asked : Asked) (leader : ℕ) → outcome_of_sending_stored table es s now info asked ≡ Waits leader → ⊥
sent_is_no_wait table es s now info asked leader h = cc

-- what holds of each stale response that is sent, and of what follows otherwise
pub unless_sent : (P : Outcome → Type 0) (table : Table) (es : List Stored) (line : RouteOverLine) (now : ℕ) (asked : Asked) (sent : Option ℕ) (otherwise : Outcome) →
    ((s : ℕ) → sent ≡ Some s → P (outcome_of_sending_stored table es s now (stale_while_revalidating_info (policy_of table.lines line)) asked)) → P otherwise → P (outcome_unless_stale_is_sent table es line now asked sent otherwise)
unless_sent P table es line now asked None otherwise sends others = others
unless_sent P table es line now asked (Some s) otherwise sends others = sends s refl

none_is_some : (s : ℕ) → ◌≡◌ {A = Option ℕ} None (Some s) → ⊥
none_is_some s h = cc

-- nothing is sent where nobody leads
pub none_beside_none : (policy : Policy) (es : List Stored) (asked : Asked) (now : ℕ) (awaited : Option Awaited) (leader : Option ℕ) → leader ≡ None → serial_sent_while_revalidating policy es asked now awaited leader ≡ None
none_beside_none policy es asked now awaited leader h = ap (serial_sent_while_revalidating policy es asked now awaited) h

-- what may be sent is held
pub record IsSentBeside (policy : Policy) (es : List Stored) (asked : Asked) (now s : ℕ) (awaited : Option Awaited) (leader : Option ℕ) : Type 0 where
  pub one : ℕ
  pub leads : leader ≡ Some one
  pub awaits : awaited ≡ Some (Expired s)
  pub response : Stored
  pub found : find_entry_of_serial s es ≡ Some response
  pub may : may_be_sent_while_revalidating policy response (occurrences_of asked.fields) now ≡ true

pub sent_beside_is : (policy : Policy) (es : List Stored) (asked : Asked) (now s : ℕ) (awaited : Option Awaited) (leader : Option ℕ) → serial_sent_while_revalidating policy es asked now awaited leader ≡ Some s → IsSentBeside policy es asked now s awaited leader
sent_beside_is policy es asked now s awaited None h = absurd (none_is_some s h)
sent_beside_is policy es asked now s None (Some l) h = absurd (none_is_some s h)
sent_beside_is policy es asked now s (Some Missing) (Some l) h = absurd (none_is_some s h)
sent_beside_is policy es asked now s (Some (Expired t)) (Some l) h = by_test (stale_serial_may_be_sent policy es asked now t) refl h
  where
    by_entry : (o : Option Stored) → find_entry_of_serial t es ≡ o → is_some_and (λ (e : Stored). may_be_sent_while_revalidating policy e (occurrences_of asked.fields) now) o ≡ true → t ≡ s → IsSentBeside policy es asked now s (Some (Expired t)) (Some l)
    by_entry None f k same = absurd (false≢true k)
    by_entry (Some e) f k same =
        record {
          one = l;
          leads = refl;
          awaits = ap (λ n. Some (Expired n)) same;
          response = e;
          found = ap (λ n. find_entry_of_serial n es) (sym same) ∙ f;
          may = k;
        }

    by_test : (b : Bool) → stale_serial_may_be_sent policy es asked now t ≡ b → cond b (Some t) None ≡ Some s → IsSentBeside policy es asked now s (Some (Expired t)) (Some l)
    by_test true k h = by_entry (find_entry_of_serial t es) refl k (same_Some t s h)
    by_test false k h = absurd (none_is_some s h)
