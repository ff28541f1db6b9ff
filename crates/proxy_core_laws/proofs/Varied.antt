-- Whoever is sent a stored response has the values that the request had which it was left for.
use Rattle.std.proofs.Common.{◌≡◌, ◌⊎◌, inl, inr, ℕ, eqb, ◌==◌, Bool, true, false, not, ◌&&◌, ◌||◌, cond, List, [], ◌∷◌, ◌++◌, refl, sym, ap, ◌∙◌, subst}
use Rattle.std.specs.Prelude.{All, Option, None, Some, filter, map, option_map}
use Rattle.std.proofs.lemmas.Bool.{and_parts, eqb-true, eq-eqb, false≢true}
use Rattle.std.proofs.lemmas.List.Elements.{All-nil, All-cons, All-append, All-filter, All-head, All-map, All-tail, All-weaker, All-contains}
use Rattle.std.proofs.lemmas.Slice.Eq.{bytes_eq-Decides}
use Rattle.hx_fields.specs.FieldLines.{combined_of}
use Rattle.hx_framing.specs.declared.messages.Response.{Response}
use Rattle.hx_hop.specs.Answering.{answered_of}
use Rattle.hx_hop.specs.declared.request_view.Asked.{Asked}
use Rattle.hx_allow.specs.Matching.{policy_of, vary_names_of_line}
use Rattle.hx_allow.specs.TableLines.{Table}
use Rattle.hx_allow.specs.declared.verdicts.RouteOverLine.{RouteOverLine}
use Rattle.hx_policy.specs.declared.words.Policy.{Policy}
use Rattle.hx_store.specs.Stored.{Stored}
use Rattle.hx_store.specs.Recency.{option_is_serial}
use Rattle.hx_store.specs.Serials.{SerialsAreDistinct, serial_is_in}
use Rattle.hx_store.specs.Shelf.{find_entry_of_serial, serials}
use Rattle.hx_reuse.specs.ChosenAndNamed.{ResponseIsChosen}
use Rattle.hx_reuse.specs.declared.rule.ReuseRule.{ReuseRule}
use Rattle.hx_reuse.proofs.Choice.{found_by_serial}
use Rattle.hx_validate.specs.Answering.{freshened_of, nominated_values_unless_star}
use Rattle.hx_vary.specs.Vary.{requests_have_same_values, requests_have_same_nominated_values, is_same_value, vary_counts_as_star, nominated_values_with_further_names, vary_matches}
use Rattle.hx_vary.specs.declared.nominated_values.NominatedValue.{NominatedValue}
use Rattle.hx_vary.specs.declared.nominations.Nomination.TheVariants.{Star, Names}
use Rattle.hx_vary.proofs.FurtherLemmas.{compared_too}
use Rattle.proxy_core.specs.declared.open.exchange.Exchange.{Exchange}
use Rattle.proxy_core.specs.declared.open.stage.Stage.TheVariants.{Released}
use Rattle.proxy_core.specs.declared.steps.condition.Condition.{Condition}
use Rattle.proxy_core.specs.declared.event.Event.{Event}
use Rattle.proxy_core.specs.declared.event.Event.TheVariants.{Arrive, Answer, Fail, Wake, Abandon, Overdue}
use Rattle.proxy_core.specs.declared.outcome.Outcome.{Outcome}
use Rattle.proxy_core.specs.declared.outcome.Outcome.TheVariants.{Reply, Forward, Waits, Ended, WaitsNoMore}
use Rattle.proxy_core.specs.Histories.{IsGoodHistory, held_entries, entry_held_after, held_serials, next_serial, open_exchanges}
use Rattle.proxy_core.specs.Leading.{is_waiting, waits_for}
use Rattle.proxy_core.specs.Outcomes.{find_exchange, exchange_id_of_event, outcome_of_event_at_exchange}
use Rattle.proxy_core.specs.Sending.{MayBeSentAsFallback, ReplySendsTheStoredResponse, StoredResponseIsReusable, StoredResponseMayBeSent, StoredResponseMayBeSentAtEvent, StoredMayBeSentWhileRevalidating}
use Rattle.proxy_core.specs.Starts.{StoreAtStart}
use Rattle.proxy_core.specs.Scopes.{Scope, key_is_in_scope}
use Rattle.proxy_core.specs.LeadingOn.{next_leader, stage_after_leader, waiter_after_abandon, exchanges_without, exchanges_after_abandon}
use Rattle.proxy_core.specs.State.{serials_expired_by_outcome, exchanges_after_end_and_release, exchanges_after_exchange_end, exchanges_overtaken_in_scope, scope_purged, exchange_after_second_forward, open_exchanges_after_event, forwarded_exchange, exchange_overtaken_if_in_scope, exchange_begun_waiting, exchange_released_from_leader, exchange_gone_forward, exchange_sent_forward_if_of_id, exchanges_after_wake, target_invalidated_by_response, serial_stored_by_outcome, serial_used_by_outcome, serials_removed_by_outcome, stored_response_freshened_by_event, stored_response_by_answer, exchange_after_wait_timeout, exchange_released_by_timeout}
use Rattle.proxy_core.specs.Storing.{stored_response_made}
use Rattle.proxy_core.specs.Traces.{Item}
use Rattle.proxy_core.specs.Validating.{times_after_304, freshened_by_304, freshened_may_be_kept, stored_response_is_answered_by_304}
use Rattle.proxy_core.proofs.ExpiredEntries.{was_there}
use Rattle.proxy_core.proofs.FirstRules.{held_distinct}
use Rattle.proxy_core.proofs.Freshened.{may_be_kept}
use Rattle.proxy_core.proofs.Leaving.{validated_is}
use Rattle.proxy_core.proofs.SendLaws.{sends_nothing_else}
use Rattle.proxy_core.proofs.SentResponses.{sends_what_is_held}
use Rattle.proxy_core.proofs.StoringWords.{star_absent}
use Rattle.proxy_core_laws.specs.PastStore.{request_of_event}
use Rattle.proxy_core_laws.specs.Varied.{SentResponseHasTheRequestsVaryValues, OpenExchangeHasTheVaryNamesOfItsLine, exchange_that_last_stored_or_freshened, latest_storing_exchange_of, stored_if_any_is_answered_by_304}
use Rattle.proxy_core_laws.proofs.OtherLines.{star_stays}
use Rattle.proxy_core_laws.proofs.HeldHeads.{entry_of, held_in, kept_so, not_removed, stays_in}

-- ---- an exchange has the names of its line

abbrev Names2 : Type 0
Names2 = List (List ℕ) × RouteOverLine × Bool

abbrev names_and_line : Exchange → Names2
names_and_line x = (x.vary, x.line, x.removes_set_cookie)

-- it has them, and says of cookies what the line says
record HasNames (table : Table) (x : Exchange) : Type 0 where
  is : x.vary ≡ vary_names_of_line table.lines x.line.number
  removes : x.removes_set_cookie ≡ (policy_of table.lines x.line).removes_set_cookie

carried : (table : Table) (x y : Exchange) → names_and_line y ≡ names_and_line x → HasNames table x → HasNames table y
carried table x y same has = record {
  is = subst (λ (p : Names2). p.0 ≡ vary_names_of_line table.lines p.1.number) (sym same) has.is;
  removes = subst (λ (p : Names2). p.2 ≡ (policy_of table.lines p.1).removes_set_cookie) (sym same) has.removes;
}

sent_out-names : (id now : ℕ) (rule : ReuseRule) (named : Option ℕ) (condition : Option Condition) (x : Exchange) → names_and_line (exchange_sent_forward_if_of_id id now rule named condition x) ≡ names_and_line x
sent_out-names id now rule named condition x = elim (eqb x.id id) as (λ b. names_and_line (cond b (exchange_gone_forward now rule named condition x) x) ≡ names_and_line x) [ true ↦ refl | false ↦ refl ]

gone_out-names : (id now : ℕ) (x : Exchange) → names_and_line (exchange_after_second_forward id now x) ≡ names_and_line x
gone_out-names id now x = elim (eqb x.id id) as (λ b. names_and_line (cond b (exchange_gone_forward now x.rule x.named None x) x) ≡ names_and_line x) [ true ↦ refl | false ↦ refl ]

release-names : (q : ℕ) (x : Exchange) → names_and_line (exchange_released_from_leader q x) ≡ names_and_line x
release-names q x = elim (waits_for q x.stage) as (λ b. names_and_line (cond b (record x { stage = Released }) x) ≡ names_and_line x) [ true ↦ refl | false ↦ refl ]

led_on-names : (table : Table) (ys : List Exchange) (q : ℕ) (x : Exchange) → names_and_line (waiter_after_abandon table (next_leader table q ys) q x) ≡ names_and_line x
led_on-names table ys q x = elim (waits_for q x.stage) as (λ b. names_and_line (cond b (record x { stage = stage_after_leader table (next_leader table q ys) x }) x) ≡ names_and_line x) [ true ↦ refl | false ↦ refl ]

overdue-names : (q : ℕ) (x : Exchange) → names_and_line (exchange_after_wait_timeout q x) ≡ names_and_line x
overdue-names q x = elim (x.id == q && is_waiting x.stage) as (λ b. names_and_line (cond b (exchange_released_by_timeout x) x) ≡ names_and_line x) [ true ↦ refl | false ↦ refl ]

overtake-names : (key : Scope) (x : Exchange) → names_and_line (exchange_overtaken_if_in_scope key x) ≡ names_and_line x
overtake-names key x = elim (key_is_in_scope key x.asked.target.key) as (λ b. names_and_line (cond b (record x { overtaken = true }) x) ≡ names_and_line x) [ true ↦ refl | false ↦ refl ]

module _ (table : Table) where
  mapped : (f : Exchange → Exchange) → ((x : Exchange) → names_and_line (f x) ≡ names_and_line x) → (xs : List Exchange) → All (HasNames table) xs → All (HasNames table) (map f xs)
  mapped f same xs all =
      All-map (HasNames table) f xs (All-weaker (HasNames table) (λ x. HasNames table (f x)) (λ x has. carried table x (f x) (same x) has) xs all)

  closed_so : (id : ℕ) (xs : List Exchange) → All (HasNames table) xs → All (HasNames table) (exchanges_after_end_and_release id xs)
  closed_so id xs all = mapped (exchange_released_from_leader id) (release-names id) (filter (λ (x : Exchange). not (x.id == id)) xs) (All-filter (λ (x : Exchange). not (x.id == id)) (HasNames table) xs all)

  abandoned_so : (id : ℕ) (xs : List Exchange) → All (HasNames table) xs → All (HasNames table) (exchanges_after_abandon table id xs)
  abandoned_so id xs all =
      mapped (waiter_after_abandon table (next_leader table id xs) id) (led_on-names table xs id) (exchanges_without id xs)
      (All-filter (λ (x : Exchange). not (x.id == id)) (HasNames table) xs all)

  left_so : (key : Option Scope) (id : ℕ) (xs : List Exchange) → All (HasNames table) xs → All (HasNames table) (exchanges_after_exchange_end key id xs)
  left_so None id xs all = closed_so id xs all
  left_so (Some key) id xs all = mapped (exchange_overtaken_if_in_scope key) (overtake-names key) (exchanges_after_end_and_release id xs) (closed_so id xs all)

  purged_so : (key : Option Scope) (xs : List Exchange) → All (HasNames table) xs → All (HasNames table) (exchanges_overtaken_in_scope key xs)
  purged_so None xs all = all
  purged_so (Some key) xs all = mapped (exchange_overtaken_if_in_scope key) (overtake-names key) xs all

  woken_so : (es : List Stored) (id now : ℕ) (o : Option Exchange) (xs : List Exchange) → All (HasNames table) xs → All (HasNames table) (exchanges_after_wake table es id now o xs)
  woken_so es id now None xs all = all
  woken_so es id now (Some x) xs all = mapped (exchange_sent_forward_if_of_id id now _ _ _) (sent_out-names id now _ _ _) xs all

  added : (xs : List Exchange) (x : Exchange) → All (HasNames table) xs → x.vary ≡ vary_names_of_line table.lines x.line.number → x.removes_set_cookie ≡ (policy_of table.lines x.line).removes_set_cookie → All (HasNames table) (xs ++ x ∷ [])
  added xs x all is removes = All-append (HasNames table) xs (x ∷ []) all (All-cons (HasNames table) x [] (record { is = is; removes = removes }) (All-nil (HasNames table)))

  after_so : (es : List Stored) (xs : List Exchange) (event : Event) (outcome : Outcome) → All (HasNames table) xs → All (HasNames table) (open_exchanges_after_event table es xs event outcome)
  after_so es xs (Arrive now id asked) (Forward line bytes) all = added xs (forwarded_exchange table es now id asked line) all refl refl
  after_so es xs (Arrive now id asked) (Waits leader) all = added xs (exchange_begun_waiting table es now id asked _ leader) all refl refl
  after_so es xs (Arrive now id asked) (Reply r) all = purged_so (scope_purged asked (Reply r)) xs all
  after_so es xs (Arrive now id asked) Ended all = all
  after_so es xs (Arrive now id asked) WaitsNoMore all = all
  after_so es xs (Answer now id r) (Forward line bytes) all = mapped (exchange_after_second_forward id now) (gone_out-names id now) xs all
  after_so es xs (Answer now id r) (Reply reply) all = left_so (target_invalidated_by_response (find_exchange id xs) r) id xs all
  after_so es xs (Answer now id r) (Waits leader) all = left_so (target_invalidated_by_response (find_exchange id xs) r) id xs all
  after_so es xs (Answer now id r) Ended all = left_so (target_invalidated_by_response (find_exchange id xs) r) id xs all
  after_so es xs (Answer now id r) WaitsNoMore all = left_so (target_invalidated_by_response (find_exchange id xs) r) id xs all
  after_so es xs (Fail now id kind) outcome all = closed_so id xs all
  after_so es xs (Wake now id) (Forward line bytes) all = woken_so es id now (find_exchange id xs) xs all
  after_so es xs (Wake now id) (Reply r) all = closed_so id xs all
  after_so es xs (Wake now id) (Waits leader) all = closed_so id xs all
  after_so es xs (Wake now id) Ended all = closed_so id xs all
  after_so es xs (Wake now id) WaitsNoMore all = closed_so id xs all
  after_so es xs (Abandon id) outcome all = abandoned_so id xs all
  after_so es xs (Overdue id) outcome all = mapped (exchange_after_wait_timeout id) (overdue-names id) xs all

  open_so : (start : StoreAtStart) (trace : List Item) → All (HasNames table) (open_exchanges table start trace)
  open_so start [] = All-nil (HasNames table)
  open_so start (item ∷ past) =
      after_so (held_entries table start past) (open_exchanges table start past) item.event item.outcome (open_so start past)

  found_so : (id : ℕ) (xs : List Exchange) (x : Exchange) → All (HasNames table) xs → find_exchange id xs ≡ Some x → HasNames table x
  found_so id [] x all h = absurd cc
  found_so id (y ∷ ys) x all h = by_id (y.id == id) (λ k. found_so id ys x (All-tail (HasNames table) y ys all) k) h
    where
      by_id : (b : Bool) → (find_exchange id ys ≡ Some x → HasNames table x) → cond b (Some y) (find_exchange id ys) ≡ Some x → HasNames table x
      by_id true later k = subst (HasNames table) same (All-head (HasNames table) y ys all)
        where
          same : y ≡ x
          same = cc
      by_id false later k = later k

pub named_so : OpenExchangeHasTheVaryNamesOfItsLine
named_so table start id trace x h = (found_so table id (open_exchanges table start trace) x (open_so table start trace) h).is

pub removes_so : (table : Table) (start : StoreAtStart) (id : ℕ) (trace : List Item) (x : Exchange) → find_exchange id (open_exchanges table start trace) ≡ Some x → x.removes_set_cookie ≡ (policy_of table.lines x.line).removes_set_cookie
removes_so table start id trace x h = (found_so table id (open_exchanges table start trace) x (open_so table start trace) h).removes

-- ---- what is left compares the names of its exchange

abbrev ComparesNames : Exchange → Stored → Type 0
ComparesNames x e = (asked : Asked) → vary_matches e.nominated asked.fields ≡ true → requests_have_same_values x.vary x.asked.fields asked.fields ≡ true

made_so : (s : ℕ) (x : Exchange) (r : Response) (now : ℕ) → ComparesNames x (stored_response_made s x r now)
made_so s x r now asked h =
    (and_parts (requests_have_same_nominated_values (answered_of r now).fields x.asked.fields asked.fields) (requests_have_same_values x.vary x.asked.fields asked.fields)
    (sym (compared_too x.vary (answered_of r now).fields x.asked.fields asked.fields) ∙ h)).1

by_names : (x : Exchange) (e : Stored) (star : Bool) → vary_counts_as_star e.fields ≡ star → star ≡ false → e.nominated ≡ nominated_values_unless_star (cond star Star (Names (nominated_values_with_further_names x.vary e.fields x.asked.fields))) → ComparesNames x e
by_names x e true is none names asked h = absurd cc
by_names x e false is none names asked h =
    (and_parts (requests_have_same_nominated_values e.fields x.asked.fields asked.fields) (requests_have_same_values x.vary x.asked.fields asked.fields)
    (sym (compared_too x.vary e.fields x.asked.fields asked.fields) ∙ ap (λ (kept : List NominatedValue). vary_matches kept asked.fields) (sym names) ∙ h)).1

freshened_so : (table : Table) (x : Exchange) (r : Response) (now : ℕ) (e : Stored) → freshened_may_be_kept table x r (freshened_by_304 x r now e) ≡ true → ComparesNames x (freshened_by_304 x r now e)
unfolding freshened_of
freshened_so table x r now e kept =
    let f : Stored = freshened_by_304 x r now e in
    let g : Stored = freshened_of x.vary e (answered_of r now) x.asked (times_after_304 x r now e) in
    let none : vary_counts_as_star f.fields ≡ false = star_absent f.fields (may_be_kept table x r f kept).names_fields in
    by_names x g (vary_counts_as_star g.fields) refl (sym (star_stays x.removes_set_cookie g.fields) ∙ none) refl

-- ---- who is sent a response matches it, or has it freshened

some_same : {B : Type 0} {x y : B} → Some x ≡ Some y → x ≡ y
some_same h = cc

abbrev Matches : Asked → Stored → Type 0
Matches asked f = vary_matches f.nominated asked.fields ≡ true

module _ (table : Table) (es : List Stored) (xs : List Exchange) (distinct : SerialsAreDistinct (serials es)) where
  chosen_so : (asked : Asked) (c : Stored) (s : ℕ) (f : Stored) → ResponseIsChosen es asked c → c.serial ≡ s → find_entry_of_serial s es ≡ Some f → Matches asked f
  chosen_so asked c s f is serial found =
      let same : c ≡ f = some_same (sym (found_by_serial es distinct c is.is_candidate.is_held) ∙ ap (λ z. find_entry_of_serial z es) serial ∙ found) in
      subst (Matches asked) same is.is_candidate.matches_nominated_values

  reused_so : (policy : Policy) (asked : Asked) (now s : ℕ) (f : Stored) → StoredResponseIsReusable policy es asked now s → find_entry_of_serial s es ≡ Some f → Matches asked f
  reused_so policy asked now s f may found = chosen_so asked may.0 s f may.1.is_chosen may.2 found

  fallen_so : (policy : Policy) (asked : Asked) (now s : ℕ) (f : Stored) → MayBeSentAsFallback policy es asked now s → find_entry_of_serial s es ≡ Some f → Matches asked f
  fallen_so policy asked now s f (inl may) found = reused_so policy asked now s f may found
  fallen_so policy asked now s f (inr may) found = chosen_so asked may.0 s f may.1.is_chosen may.2 found

  answered_so : (x : Exchange) (r : Response) (now id s : ℕ) (f : Stored) → StoredResponseMayBeSentAtEvent table es (Some x) (Answer now id r) s → find_entry_of_serial s es ≡ Some f
      → (stored_response_is_answered_by_304 x r now f ≡ true) ⊎ Matches x.asked f
  answered_so x r now id s f (inl (validation, (e, valid, serial))) found =
      let is = validated_is es x r now e valid in
      let same : e ≡ f = some_same (sym is.found ∙ ap (λ z. find_entry_of_serial z es) serial ∙ found) in
      inl (subst (λ (g : Stored). stored_response_is_answered_by_304 x r now g ≡ true) same is.answered)
  answered_so x r now id s f (inr (inl (validation, none, may))) found = inr (reused_so _ x.asked now s f may found)
  answered_so x r now id s f (inr (inr (validation, error, may))) found = inr (fallen_so _ x.asked now s f may found)

  beside_so : (asked : Asked) (now id s : ℕ) (f : Stored) → StoredMayBeSentWhileRevalidating table es xs (Arrive now id asked) s → find_entry_of_serial s es ≡ Some f → Matches asked f
  beside_so asked now id s f (line, allowed, may) found = chosen_so asked may.response s f may.chosen_is may.serial_is found

  abbrev answered_at : Option Exchange → Event → Stored → Bool
  answered_at (Some y) (Answer now id r) f = stored_response_is_answered_by_304 y r now f
  answered_at (Some y) (Arrive now id asked) f = false
  answered_at (Some y) (Fail now id kind) f = false
  answered_at (Some y) (Wake now id) f = false
  answered_at (Some y) (Abandon id) f = false
  answered_at (Some y) (Overdue id) f = false
  answered_at None event f = false

  -- who is sent it without a 304 that answers it
  sent_so : (x : Option Exchange) (event : Event) (asked : Asked) (s : ℕ) (f : Stored) → StoredResponseMayBeSent table es xs x event s → request_of_event x event ≡ Some asked → find_entry_of_serial s es ≡ Some f
      → answered_at x event f ≡ false → Matches asked f
  sent_so x (Arrive now id a) asked s f (inl (line, allowed, may)) is found none = subst (λ (b : Asked). Matches b f) (some_same is) (reused_so _ a now s f may found)
  sent_so x (Arrive now id a) asked s f (inr beside) is found none = subst (λ (b : Asked). Matches b f) (some_same is) (beside_so a now id s f beside found)
  sent_so (Some y) (Answer now id r) asked s f (inl at) is found none = by_case (answered_so y r now id s f at found)
    where
      by_case : (stored_response_is_answered_by_304 y r now f ≡ true) ⊎ Matches y.asked f → Matches asked f
      by_case (inl answered) = absurd (false≢true (sym none ∙ answered))
      by_case (inr matches) = subst (λ (b : Asked). Matches b f) (some_same is) matches
  sent_so (Some y) (Fail now id kind) asked s f (inl may) is found none = subst (λ (b : Asked). Matches b f) (some_same is) (fallen_so _ y.asked now s f may found)
  sent_so (Some y) (Wake now id) asked s f (inl may) is found none = subst (λ (b : Asked). Matches b f) (some_same is) (reused_so _ y.asked now s f may found)
  sent_so (Some y) (Answer now id r) asked s f (inr beside) is found none = absurd beside
  sent_so (Some y) (Fail now id kind) asked s f (inr beside) is found none = absurd beside
  sent_so (Some y) (Wake now id) asked s f (inr beside) is found none = absurd beside
  sent_so None (Answer now id r) asked s f may is found none = absurd cc
  sent_so None (Fail now id kind) asked s f may is found none = absurd cc
  sent_so None (Wake now id) asked s f may is found none = absurd cc
  sent_so x (Abandon id) asked s f (inl may) is found none = absurd may
  sent_so x (Overdue id) asked s f (inl may) is found none = absurd may
  sent_so x (Abandon id) asked s f (inr may) is found none = absurd may
  sent_so x (Overdue id) asked s f (inr may) is found none = absurd may

  -- the request is that of the exchange that leaves it, or compares with it
  same_or_compared : (o : Option Exchange) (event : Event) (outcome : Outcome) (before : Option Exchange) (s : ℕ) (x : Exchange) (asked : Asked) (f : Stored) →
      StoredResponseMayBeSent table es xs o event s → find_entry_of_serial s es ≡ Some f → option_is_serial (serial_used_by_outcome outcome) s ≡ true → request_of_event o event ≡ Some asked →
      exchange_that_last_stored_or_freshened o event outcome (Some f) before s ≡ Some x → (before ≡ Some x → ComparesNames x f) → (x.asked ≡ asked) ⊎ (requests_have_same_values x.vary x.asked.fields asked.fields ≡ true)
  same_or_compared (Some y) (Answer now id r) outcome before s x asked f may found used is left earlier =
      by_tests (option_is_serial (serial_stored_by_outcome outcome) s) (option_is_serial (serial_used_by_outcome outcome) s) used (stored_response_is_answered_by_304 y r now f) refl left
    where
      own : Some y ≡ Some x → (x.asked ≡ asked) ⊎ (requests_have_same_values x.vary x.asked.fields asked.fields ≡ true)
      own same = inl (ap (λ (z : Exchange). z.asked) (sym (some_same same)) ∙ some_same is)

      by_tests : (t u : Bool) → u ≡ true → (b : Bool) → stored_response_is_answered_by_304 y r now f ≡ b → cond (t || (u && b)) (Some y) before ≡ Some x → (x.asked ≡ asked) ⊎ (requests_have_same_values x.vary x.asked.fields asked.fields ≡ true)
      by_tests true u us b answered k = own k
      by_tests false true us true answered k = own k
      by_tests false true us false answered k = inr (earlier k asked (sent_so (Some y) (Answer now id r) asked s f may is found answered))
      by_tests false false us b answered k = absurd cc
  same_or_compared (Some y) (Arrive now id a) outcome before s x asked f may found used is left earlier = inr (earlier left asked (sent_so (Some y) (Arrive now id a) asked s f may is found refl))
  same_or_compared (Some y) (Fail now id kind) outcome before s x asked f may found used is left earlier = inr (earlier left asked (sent_so (Some y) (Fail now id kind) asked s f may is found refl))
  same_or_compared (Some y) (Wake now id) outcome before s x asked f may found used is left earlier = inr (earlier left asked (sent_so (Some y) (Wake now id) asked s f may is found refl))
  same_or_compared (Some y) (Abandon id) outcome before s x asked f may found used is left earlier = inr (earlier left asked (sent_so (Some y) (Abandon id) asked s f may is found refl))
  same_or_compared (Some y) (Overdue id) outcome before s x asked f may found used is left earlier = inr (earlier left asked (sent_so (Some y) (Overdue id) asked s f may is found refl))
  same_or_compared None event outcome before s x asked f may found used is left earlier = inr (earlier left asked (sent_so None event asked s f may is found refl))

-- ---- over a history

the_serial : (o : Option ℕ) (s : ℕ) → option_is_serial o s ≡ true → o ≡ Some s
the_serial None s h = absurd cc
the_serial (Some x) s h = ap (λ (n : ℕ). Some n) (eqb-true x s h)

its_serial : (o : Option ℕ) (s : ℕ) → o ≡ Some s → option_is_serial o s ≡ true
its_serial o s h = ap (λ (p : Option ℕ). option_is_serial p s) h ∙ eq-eqb s s refl

both_false : (a b : Bool) → a ≡ false → b ≡ false → (a || b) ≡ false
both_false true b h k = absurd cc
both_false false b h k = k

module _ (table : Table) (start : StoreAtStart) (first : ℕ) where
  abbrev Earlier : ℕ → List Item → Type 0
  Earlier s past = (x : Exchange) (f : Stored) → serial_is_in s (held_serials table start past) ≡ true → entry_held_after table start past s ≡ Some f → latest_storing_exchange_of table start past s ≡ Some x → ComparesNames x f

  -- an event that is no answer leaves it as it was
  as_it_was : (o : Option Exchange) (event : Event) (outcome : Outcome) (look : Option Stored) (s : ℕ) (e : Stored) → stored_response_by_answer o event s ≡ None → ((f : Stored) → stored_response_freshened_by_event o event f ≡ f) →
      (t u : Bool) → cond t (stored_response_by_answer o event s) (cond u (option_map (stored_response_freshened_by_event o event) look) look) ≡ Some e → (t ≡ false) × (look ≡ Some e)
  as_it_was o event outcome look s e none same true u k = let bad : ◌≡◌ {A = Option Stored} None (Some e) = sym none ∙ k in absurd (cc)
  as_it_was o event outcome None s e none same false true k = absurd cc
  as_it_was o event outcome (Some f) s e none same false true k = (refl, ap Some (sym (same f)) ∙ k)
  as_it_was o event outcome look s e none same false false k = (refl, k)

  -- what an item leaves of a serial that it stores, uses or doesn't touch
  step_so : (o : Option Exchange) (event : Event) (outcome : Outcome) (look : Option Stored) (before : Option Exchange) (s : ℕ) (x : Exchange) (e : Stored) →
      ((f : Stored) → option_is_serial (serial_used_by_outcome outcome) s ≡ true → look ≡ Some f → (y : Exchange) (now id : ℕ) (r : Response) → o ≡ Some y → event ≡ Answer now id r → stored_response_is_answered_by_304 y r now f ≡ true → freshened_may_be_kept table y r (freshened_by_304 y r now f) ≡ true) →
      ((f : Stored) → option_is_serial (serial_stored_by_outcome outcome) s ≡ false → look ≡ Some f → before ≡ Some x → ComparesNames x f) →
      cond (option_is_serial (serial_stored_by_outcome outcome) s) (stored_response_by_answer o event s) (cond (option_is_serial (serial_used_by_outcome outcome) s) (option_map (stored_response_freshened_by_event o event) look) look) ≡ Some e →
      exchange_that_last_stored_or_freshened o event outcome look before s ≡ Some x → ComparesNames x e
  step_so (Some y) (Answer now id r) outcome look before s x e kept earlier k left = by_tests (option_is_serial (serial_stored_by_outcome outcome) s) refl (option_is_serial (serial_used_by_outcome outcome) s) refl look refl k left
    where
      by_answered : (f : Stored) → look ≡ Some f → option_is_serial (serial_used_by_outcome outcome) s ≡ true → option_is_serial (serial_stored_by_outcome outcome) s ≡ false → (b : Bool) → stored_response_is_answered_by_304 y r now f ≡ b →
          Some (cond b (freshened_by_304 y r now f) f) ≡ Some e → cond b (Some y) before ≡ Some x → ComparesNames x e
      by_answered f look_is used unstored true answered k left =
          subst (λ (z : Exchange). ComparesNames z e) (some_same left) (subst (ComparesNames y) (some_same k) (freshened_so table y r now f (kept f used look_is y now id r refl refl answered)))
      by_answered f look_is used unstored false answered k left = subst (ComparesNames x) (some_same k) (earlier f unstored look_is left)

      by_tests : (t : Bool) → option_is_serial (serial_stored_by_outcome outcome) s ≡ t → (u : Bool) → option_is_serial (serial_used_by_outcome outcome) s ≡ u → (o : Option Stored) → look ≡ o →
          cond t (Some (stored_response_made s y r now)) (cond u (option_map (stored_response_freshened_by_event (Some y) (Answer now id r)) o) o) ≡ Some e →
          cond (t || (u && stored_if_any_is_answered_by_304 y r now o)) (Some y) before ≡ Some x → ComparesNames x e
      by_tests true stored u used o look_is k left = subst (λ (z : Exchange). ComparesNames z e) (some_same left) (subst (ComparesNames y) (some_same k) (made_so s y r now))
      by_tests false stored true used None look_is k left = absurd cc
      by_tests false stored true used (Some f) look_is k left = by_answered f look_is used stored (stored_response_is_answered_by_304 y r now f) refl k left
      by_tests false stored false used None look_is k left = absurd cc
      by_tests false stored false used (Some f) look_is k left = subst (ComparesNames x) (some_same k) (earlier f stored look_is left)
  step_so (Some y) (Arrive now id asked) outcome look before s x e kept earlier k left =
      let was = as_it_was (Some y) (Arrive now id asked) outcome look s e refl (λ f. refl) (option_is_serial (serial_stored_by_outcome outcome) s) (option_is_serial (serial_used_by_outcome outcome) s) k in
      earlier e was.0 was.1 left
  step_so (Some y) (Fail now id kind) outcome look before s x e kept earlier k left =
      let was = as_it_was (Some y) (Fail now id kind) outcome look s e refl (λ f. refl) (option_is_serial (serial_stored_by_outcome outcome) s) (option_is_serial (serial_used_by_outcome outcome) s) k in
      earlier e was.0 was.1 left
  step_so (Some y) (Wake now id) outcome look before s x e kept earlier k left =
      let was = as_it_was (Some y) (Wake now id) outcome look s e refl (λ f. refl) (option_is_serial (serial_stored_by_outcome outcome) s) (option_is_serial (serial_used_by_outcome outcome) s) k in
      earlier e was.0 was.1 left
  step_so (Some y) (Abandon id) outcome look before s x e kept earlier k left =
      let was = as_it_was (Some y) (Abandon id) outcome look s e refl (λ f. refl) (option_is_serial (serial_stored_by_outcome outcome) s) (option_is_serial (serial_used_by_outcome outcome) s) k in
      earlier e was.0 was.1 left
  step_so (Some y) (Overdue id) outcome look before s x e kept earlier k left =
      let was = as_it_was (Some y) (Overdue id) outcome look s e refl (λ f. refl) (option_is_serial (serial_stored_by_outcome outcome) s) (option_is_serial (serial_used_by_outcome outcome) s) k in
      earlier e was.0 was.1 left
  step_so None event outcome look before s x e kept earlier k left =
      let was = as_it_was None event outcome look s e refl (λ f. refl) (option_is_serial (serial_stored_by_outcome outcome) s) (option_is_serial (serial_used_by_outcome outcome) s) k in
      earlier e was.0 was.1 left

  held_so : (trace : List Item) → IsGoodHistory table start first trace → (s : ℕ) → Earlier s trace
  held_so [] good s x e inside h left = absurd cc
  held_so (item ∷ past) good s x e inside h left =
      let there = was_there item.event (serials_expired_by_outcome item.outcome) _ e h in
      subst (ComparesNames x) (sym there.is)
      (step_so o item.event item.outcome (entry_held_after table start past s) (latest_storing_exchange_of table start past s) s x there.response kept (earlier (held_so past good.1 s)) there.was left)
    where
      o : Option Exchange
      o = find_exchange (exchange_id_of_event item.event) (open_exchanges table start past)

      es : List Stored
      es = held_entries table start past

      xs : List Exchange
      xs = open_exchanges table start past

      found : (f : Stored) → option_is_serial (serial_used_by_outcome item.outcome) s ≡ true → entry_held_after table start past s ≡ Some f → find_entry_of_serial s es ≡ Some f
      found f used look =
          let is = sends_what_is_held table start first s item past good (the_serial (serial_used_by_outcome item.outcome) s used) in
          let same : is.response ≡ f = some_same (sym (entry_of table start first past good.1 s is.response is.is_held) ∙ look) in
          subst (λ (g : Stored). find_entry_of_serial s es ≡ Some g) same is.is_held

      kept : (f : Stored) → option_is_serial (serial_used_by_outcome item.outcome) s ≡ true → entry_held_after table start past s ≡ Some f → (y : Exchange) (now id : ℕ) (r : Response) → o ≡ Some y → item.event ≡ Answer now id r → stored_response_is_answered_by_304 y r now f ≡ true →
          freshened_may_be_kept table y r (freshened_by_304 y r now f) ≡ true
      kept f used look y now id r open_is event_is answered =
          kept_so table es xs (next_serial first past) y now id r s f answered (found f used look)
          (ap (λ q. serial_is_in s (serials_removed_by_outcome q))
          (ap (λ (z : Option Exchange). outcome_of_event_at_exchange table es xs z (next_serial first past) (Answer now id r)) (sym open_is)
          ∙ ap (λ (v : Event). outcome_of_event_at_exchange table es xs o (next_serial first past) v) (sym event_is)
          ∙ sym good.0.outcome_is)
          ∙ not_removed table start item past s inside)

      earlier : Earlier s past → (f : Stored) → option_is_serial (serial_stored_by_outcome item.outcome) s ≡ false → entry_held_after table start past s ≡ Some f → latest_storing_exchange_of table start past s ≡ Some x → ComparesNames x f
      earlier rest f unstored look before = by_used (option_is_serial (serial_used_by_outcome item.outcome) s) refl
        where
          by_used : (u : Bool) → option_is_serial (serial_used_by_outcome item.outcome) s ≡ u → ComparesNames x f
          by_used true used = rest x f (held_in table start first past good.1 s f (found f used look)) look before
          by_used false unused = rest x f ((stays_in table start item past s inside).1 (both_false (option_is_serial (serial_stored_by_outcome item.outcome) s) (option_is_serial (serial_used_by_outcome item.outcome) s) unstored unused)) look before

-- ---- the law

left_named : (table : Table) (start : StoreAtStart) (trace : List Item) (s : ℕ) (x : Exchange) → latest_storing_exchange_of table start trace s ≡ Some x → x.vary ≡ vary_names_of_line table.lines x.line.number
left_named table start [] s x left = absurd cc
left_named table start (item ∷ past) s x left =
    by_event (find_exchange (exchange_id_of_event item.event) (open_exchanges table start past)) item.event (λ y h. named_so table start (exchange_id_of_event item.event) past y h) (λ h. left_named table start past s x h) left
  where
    look : Option Stored
    look = entry_held_after table start past s

    by_event : (o : Option Exchange) (event : Event) → ((y : Exchange) → o ≡ Some y → y.vary ≡ vary_names_of_line table.lines y.line.number) →
        (latest_storing_exchange_of table start past s ≡ Some x → x.vary ≡ vary_names_of_line table.lines x.line.number) →
        exchange_that_last_stored_or_freshened o event item.outcome look (latest_storing_exchange_of table start past s) s ≡ Some x → x.vary ≡ vary_names_of_line table.lines x.line.number
    by_event (Some y) (Answer now id r) own earlier k =
        by_test (option_is_serial (serial_stored_by_outcome item.outcome) s || (option_is_serial (serial_used_by_outcome item.outcome) s && stored_if_any_is_answered_by_304 y r now look)) k
      where
        by_test : (b : Bool) → cond b (Some y) (latest_storing_exchange_of table start past s) ≡ Some x → x.vary ≡ vary_names_of_line table.lines x.line.number
        by_test true h = own x h
        by_test false h = earlier h
    by_event (Some y) (Arrive now id asked) own earlier k = earlier k
    by_event (Some y) (Fail now id kind) own earlier k = earlier k
    by_event (Some y) (Wake now id) own earlier k = earlier k
    by_event (Some y) (Abandon id) own earlier k = earlier k
    by_event (Some y) (Overdue id) own earlier k = earlier k
    by_event None event own earlier k = earlier k

same_value : (a b : Option (List ℕ)) → is_same_value a b ≡ true → a ≡ b
same_value None None h = refl
same_value (Some a) (Some b) h = ap Some ((bytes_eq-Decides a b).0 h)
same_value None (Some b) h = absurd (false≢true h)
same_value (Some a) None h = absurd (false≢true h)

each_same : (names : List (List ℕ)) (earlier later : Asked) → requests_have_same_values names earlier.fields later.fields ≡ true → All (λ name. combined_of earlier.fields name ≡ combined_of later.fields name) names
each_same [] earlier later h = All-nil (λ name. combined_of earlier.fields name ≡ combined_of later.fields name)
each_same (name ∷ names) earlier later h =
    let parts = and_parts (is_same_value (combined_of earlier.fields name) (combined_of later.fields name)) (requests_have_same_values names earlier.fields later.fields) h in
    All-cons (λ n. combined_of earlier.fields n ≡ combined_of later.fields n) name names (same_value (combined_of earlier.fields name) (combined_of later.fields name) parts.0) (each_same names earlier later parts.1)

pub sends_the_same_values : SentResponseHasTheRequestsVaryValues
sends_the_same_values table start first s item past x asked name good used about left named =
    by_case (same_or_compared table es xs distinct o item.event item.outcome (latest_storing_exchange_of table start past s) s x asked is.response
    (sends_nothing_else table start first s item past good used) is.is_held (its_serial (serial_used_by_outcome item.outcome) s used) about
    (sym (ap (λ (look : Option Stored). exchange_that_last_stored_or_freshened o item.event item.outcome look (latest_storing_exchange_of table start past s) s) look_is) ∙ left)
    (λ before. held_so table start first past good.1 s x is.response (held_in table start first past good.1 s is.response is.is_held) look_is before))
  where
    es : List Stored
    es = held_entries table start past

    xs : List Exchange
    xs = open_exchanges table start past

    o : Option Exchange
    o = find_exchange (exchange_id_of_event item.event) xs

    distinct : SerialsAreDistinct (serials es)
    distinct = held_distinct table start first past good.1

    is : ReplySendsTheStoredResponse table es o item.event item.outcome s
    is = sends_what_is_held table start first s item past good used

    look_is : entry_held_after table start past s ≡ Some is.response
    look_is = entry_of table start first past good.1 s is.response is.is_held

    by_case : (x.asked ≡ asked) ⊎ (requests_have_same_values x.vary x.asked.fields asked.fields ≡ true) → combined_of x.asked.fields name ≡ combined_of asked.fields name
    by_case (inl same) = ap (λ (a : Asked). combined_of a.fields name) same
    by_case (inr compared) =
        All-contains (λ n. combined_of x.asked.fields n ≡ combined_of asked.fields n) (vary_names_of_line table.lines x.line.number) name
        (subst (λ names. All (λ n. combined_of x.asked.fields n ≡ combined_of asked.fields n) names) (left_named table start (item ∷ past) s x left) (each_same x.vary x.asked asked compared)) named
