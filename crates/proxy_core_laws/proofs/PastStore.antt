-- Who has a cookie that the line names goes past the store.
use Rattle.std.proofs.Common.{◌≡◌, inl, inr, ℕ, Bool, true, false, Option, Some, None, refl, sym, ◌∙◌, ap, subst}
use Rattle.std.specs.Prelude.{◌&&◌, ◌||◌, not}
use Rattle.hx_hop.specs.declared.request_view.Asked.{Asked}
use Rattle.hx_target.specs.Keys.{same_key}
use Rattle.hx_allow.specs.Matching.{policy_of}
use Rattle.hx_allow.specs.TableLines.{Table}
use Rattle.hx_allow.specs.declared.verdicts.RouteOverLine.{RouteOverLine}
use Rattle.hx_allow.specs.declared.verdicts.Verdict.TheVariants as verdict
use Rattle.hx_allow.proofs.Sessions.{by_its_cookies}
use Rattle.hx_reuse.specs.Rules.{decision_of}
use Rattle.hx_reuse.specs.declared.rule.ReuseRule.TheVariants.{Operator}
use Rattle.hx_reuse.specs.declared.decision.Decision.{Decision}
use Rattle.hx_reuse.specs.declared.decision.Decision.TheVariants as decision
use Rattle.hx_reuse.proofs.RuleLemmas.{by_operator}
use Rattle.proxy_core.specs.Allowing.{verdict_of_asked}
use Rattle.proxy_core.specs.declared.open.awaited.Awaited.{Awaited}
use Rattle.proxy_core.specs.declared.open.awaited.Awaited.TheVariants.{Missing, Expired}
use Rattle.proxy_core.specs.declared.open.exchange.Exchange.{Exchange}
use Rattle.proxy_core.specs.declared.outcome.Outcome.{Outcome}
use Rattle.proxy_core.specs.declared.outcome.Outcome.TheVariants.{Waits}
use Rattle.proxy_core.specs.declared.event.Event.{Event}
use Rattle.proxy_core.specs.declared.event.Event.TheVariants.{Arrive, Answer, Fail, Wake, Abandon, Overdue}
use Rattle.proxy_core.specs.Leading.{is_get, is_uri_miss, option_names_serial, exchange_went_forward_for_awaited, answer_may_serve}
use Rattle.proxy_core.specs.Outcomes.{find_exchange, exchange_id_of_event}
use Rattle.proxy_core.specs.State.{rule_of_decision, serial_named_by_rule_of_decision, forwarded_exchange}
use Rattle.proxy_core.specs.Histories.{open_exchanges}
use Rattle.proxy_core.specs.Uncached.{EventGoesOverLine, RequestIsForwardedUnlessOnlyIfCached}
use Rattle.proxy_core.proofs.Carries.{carries_its_arrival}
use Rattle.proxy_core.proofs.Uncached.{sends_nothing_over_it, stores_nothing_over_it, goes_forward_over_it}
use Rattle.proxy_core.proofs.Waits.{waits_nowhere_else}
use Rattle.proxy_core_laws.specs.PastStore.{request_of_event, NamedCookieBypassesTheStore, BypassingRequestLeadsNobody, BypassingAnswerReportsTheCookie}

-- past the store what a line without cache says counts
no_cache : (table : Table) (line : RouteOverLine) → line.past_store ≡ true → (policy_of table.lines line).caches ≡ false
unfolding policy_of
no_cache table line past = rw past refl

module _ (table : Table) (line : RouteOverLine) (asked : Asked) where
  same_asked : (a : Asked) → Some a ≡ Some asked → a ≡ asked
  same_asked a e = cc

  of_open : (x : Exchange) → verdict_of_asked table x.asked ≡ verdict.Allowed x.line → x.line ≡ line → Some x.asked ≡ Some asked → verdict_of_asked table asked ≡ verdict.Allowed line
  of_open x allowed over is = ap (verdict_of_asked table) (sym (same_asked x.asked is)) ∙ allowed ∙ ap (λ l. verdict.Allowed l) over

  -- the line over which an event's request goes is the one that allows it
  line_allows : (x : Option Exchange) → ((z : Exchange) → x ≡ Some z → verdict_of_asked table z.asked ≡ verdict.Allowed z.line) → (event : Event) →
      EventGoesOverLine table x event line → request_of_event x event ≡ Some asked → verdict_of_asked table asked ≡ verdict.Allowed line
  line_allows x carries (Arrive now id a) over is = ap (verdict_of_asked table) (sym (same_asked a is)) ∙ over
  line_allows (Some x) carries (Answer now id r) over is = of_open x (carries x refl) over is
  line_allows (Some x) carries (Fail now id kind) over is = of_open x (carries x refl) over is
  line_allows (Some x) carries (Wake now id) over is = of_open x (carries x refl) over is
  line_allows (Some x) carries (Abandon id) over is = of_open x (carries x refl) over is
  line_allows (Some x) carries (Overdue id) over is = of_open x (carries x refl) over is
  line_allows None carries (Answer now id r) over is = absurd over
  line_allows None carries (Fail now id kind) over is = absurd over
  line_allows None carries (Wake now id) over is = absurd over
  line_allows None carries (Abandon id) over is = absurd over
  line_allows None carries (Overdue id) over is = absurd over

never_waits : (table : Table) (now : ℕ) (asked : Asked) (line : RouteOverLine) (o : Outcome) (leader : ℕ) → RequestIsForwardedUnlessOnlyIfCached table now asked line o → o ≡ Waits leader → ⊥
never_waits table now asked line o leader (inl forward) waits = let e = sym forward.1 ∙ waits in cc
never_waits table now asked line o leader (inr refused) waits = let e = sym refused.1 ∙ waits in cc

pub passes_the_store : NamedCookieBypassesTheStore
passes_the_store table start first line asked item past g over is has =
    let x = find_exchange (exchange_id_of_event item.event) (open_exchanges table start past) in
    let allowed : verdict_of_asked table asked ≡ verdict.Allowed line =
    line_allows table line asked x (λ z at. (carries_its_arrival table start first (exchange_id_of_event item.event) past z g.1 at).0.line_allows) item.event over is in
    let off = no_cache table line (by_its_cookies table asked.method asked.target asked.fields line allowed ∙ has) in
    record {
      sends_nothing_stored = sends_nothing_over_it table start first line item past g over off;
      stores_nothing = stores_nothing_over_it table start first line item past g over off;
      waits_for_none = λ leader waits.
          let w = waits_nowhere_else table start first leader item past g waits in
          never_waits table w.now w.asked line item.outcome leader
          (goes_forward_over_it table start first w.now w.id line w.asked item past g w.arrives (subst (λ (event : Event). EventGoesOverLine table x event line) w.arrives over) off) waits;
    }

-- ---- nobody is led

falls : (a b : Bool) → (a && (b && false)) ≡ false
falls true true = refl
falls true false = refl
falls false b = refl

pub leads_nobody : BypassingRequestLeadsNobody
leads_nobody table held now id asked other line policy awaited past =
    ap (λ t. same_key asked.target.key other.target.key && (is_get asked && (t && answer_may_serve policy other (forwarded_exchange table held now id asked line)))) (asks awaited)
    ∙ falls (same_key asked.target.key other.target.key) (is_get asked)
  where
    decided : decision_of (policy_of table.lines line) held asked now ≡ decision.Forward Operator None
    decided = sym (by_operator (policy_of table.lines line) held asked now (no_cache table line past))

    asks : (awaited : Awaited) → exchange_went_forward_for_awaited awaited (forwarded_exchange table held now id asked line) ≡ false
    asks Missing = ap (λ (k : Decision). is_uri_miss (rule_of_decision k)) decided
    asks (Expired serial) = ap (λ (k : Decision). option_names_serial (serial_named_by_rule_of_decision k) serial) decided

pub tells_of_the_cookie : BypassingAnswerReportsTheCookie
tells_of_the_cookie policy x status fields now stored rule past = rw past refl
