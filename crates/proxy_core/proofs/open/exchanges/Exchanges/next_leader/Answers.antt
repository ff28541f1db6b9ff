use Rattle.std.proofs.Common.{◌≡◌, ◌<◌, ◌≤◌, ◌∙◌, ℕ, Bool, true, false, cond, Option, None, ap, sym, subst, refl, length, List}
use Rattle.std.specs.Prelude.{nat_le, filter}
use Rattle.std.specs.Map.{values_of}
use Rattle.std.proofs.lemmas.Bool.{le-leb, lt-leb}
use Rattle.hx_allow.specs.TableLines.{Table}
use Rattle.proxy_core.specs.declared.open.exchange.Exchange.{Exchange}
use Rattle.proxy_core.specs.declared.open.as_next_leader.NextLeader.{NextLeader}
use Rattle.proxy_core.specs.Leading.{waits_for}
use Rattle.proxy_core.specs.LeadingOn.{count_waiting_for, most_followers_led_on, first_waiter_to_lead, next_leader, exchanges_without}
use Rattle.proxy_core.specs.Waiters.{set_contains}
use Rattle.proxy_core.proofs.Crowds.{counted}
use Rattle.proxy_core.proofs.Indexed.{passes}
use Rattle.proxy_core.proofs.AskedArrivals.{none_waits}
use Rattle.proxy_core.proofs.open.exchanges.Exchanges.next_leader.Goals as goal

-- by how many wait
too_many : (table : Table) (id n : ℕ) (xs : List Exchange) → n ≡ count_waiting_for id xs → most_followers_led_on < n → None ≡ next_leader table id xs
too_many table id n xs e more =
    sym (ap (λ b. cond b (first_waiter_to_lead table id (exchanges_without id xs)) None) (ap (λ m. nat_le m most_followers_led_on) (sym e) ∙ lt-leb n most_followers_led_on more))

not_too_many : (table : Table) (id n : ℕ) (xs : List Exchange) → n ≡ count_waiting_for id xs → n ≤ most_followers_led_on → first_waiter_to_lead table id (exchanges_without id xs) ≡ next_leader table id xs
not_too_many table id n xs e few =
    sym (ap (λ b. cond b (first_waiter_to_lead table id (exchanges_without id xs)) None) (ap (λ m. nat_le m most_followers_led_on) (sym e) ∙ le-leb n most_followers_led_on few))

nobody : (table : Table) (id : ℕ) (xs : List Exchange) → first_waiter_to_lead table id (exchanges_without id xs) ≡ None → None ≡ next_leader table id xs
nobody table id xs none = sym (either (first_waiter_to_lead table id (exchanges_without id xs)) none (nat_le (count_waiting_for id xs) most_followers_led_on))
  where
    either : (o : Option NextLeader) → o ≡ None → (b : Bool) → cond b o None ≡ None
    either o e true = e
    either o e false = refl

pub first_waiter_to_lead-requires : goal.first_waiter_to_lead-requires
first_waiter_to_lead-requires c =
    passes (λ x. waits_for c.args.id x.stage) _ c.self.inside.by_arrival.entries c.self.invariant.indexes.ids.apart
    (λ m. ap (λ o. set_contains o m) c.in-Some.ensures ∙ c.self.invariant.indexes.waiters c.args.id m)

pub returns-then-len-gt-MOST_FOLLOWERS_LED_ON-clause-next : goal.returns-then-len-gt-MOST_FOLLOWERS_LED_ON-clause-next
returns-then-len-gt-MOST_FOLLOWERS_LED_ON-clause-next c =
    let id = c.args.id in
    let es = c.self.inside.by_arrival.entries in
    let many : length c.in-Some.waiting.now.keys ≡ count_waiting_for id (values_of es) =
    counted (λ x. waits_for id x.stage) c.in-Some.waiting.now.keys es c.len.ensures.ordered c.self.invariant.indexes.ids.apart
    (λ m. ap (λ o. set_contains o m) c.in-Some.ensures ∙ c.self.invariant.indexes.waiters id m) in
    too_many c.args.config.now id c.len.result (values_of es) (c.len.ensures.len ∙ many) c.if-len-gt-MOST_FOLLOWERS_LED_ON.true
    ∙ ap (next_leader c.args.config.now id) c.self.view_is

pub returns-else-len-gt-MOST_FOLLOWERS_LED_ON-clause-next : goal.returns-else-len-gt-MOST_FOLLOWERS_LED_ON-clause-next
returns-else-len-gt-MOST_FOLLOWERS_LED_ON-clause-next c =
    let id = c.args.id in
    let es = c.self.inside.by_arrival.entries in
    let many : length c.in-Some.waiting.now.keys ≡ count_waiting_for id (values_of es) =
    counted (λ x. waits_for id x.stage) c.in-Some.waiting.now.keys es c.len.ensures.ordered c.self.invariant.indexes.ids.apart
    (λ m. ap (λ o. set_contains o m) c.in-Some.ensures ∙ c.self.invariant.indexes.waiters id m) in
    c.first_waiter_to_lead.ensures.next
    ∙ not_too_many c.args.config.now id c.len.result (values_of es) (c.len.ensures.len ∙ many) c.if-len-gt-MOST_FOLLOWERS_LED_ON.false
    ∙ ap (next_leader c.args.config.now id) c.self.view_is

pub returns-in-None-clause-next : goal.returns-in-None-clause-next
returns-in-None-clause-next c =
    let es = c.self.inside.by_arrival.entries in
    nobody c.args.config.now c.args.id (values_of es) (none_waits c.args.config.now c.args.id es (passes (λ x. waits_for c.args.id x.stage) (λ m. false) es c.self.invariant.indexes.ids.apart
    (λ m. ap (λ o. set_contains o m) c.in-None.ensures ∙ c.self.invariant.indexes.waiters c.args.id m)))
    ∙ ap (next_leader c.args.config.now c.args.id) c.self.view_is
