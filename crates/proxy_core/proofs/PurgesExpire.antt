-- What a purge leaves of what is held, and until when what it expired stays so.
use Rattle.std.proofs.Common.{◌≡◌, ℕ, ◌≤◌, Bool, true, false, cond, ◌&&◌, ◌||◌, not, Option, None, Some, List, [], ◌∷◌, ◌++◌, filter, refl, sym, ◌∙◌, ap, subst, arith}
use Rattle.std.specs.Prelude.{map, option_map, length, unwrap_or}
use Rattle.std.proofs.lemmas.Bool.{or_parts, false≢true, eqb-true}
use Rattle.std.proofs.lemmas.Option.{same_Some}
use Rattle.hx_framing.specs.declared.messages.Response.{Response}
use Rattle.hx_hop.specs.Moments.{date_text_of}
use Rattle.hx_hop.specs.declared.request_view.Asked.{Asked}
use Rattle.hx_age.specs.Age.{age_of, times_once_purged}
use Rattle.hx_policy.specs.declared.words.Policy.{Policy}
use Rattle.hx_reuse.specs.Lifetimes.{lifetime_of_stored_response}
use Rattle.hx_allow.specs.PurgeModes.{request_purge_mode_or_remove}
use Rattle.hx_allow.specs.TableLines.{Table}
use Rattle.hx_allow.specs.declared.purge_modes.PurgeMode.{PurgeMode}
use Rattle.hx_allow.specs.declared.purge_modes.PurgeMode.TheVariants.{Remove, Stale}
use Rattle.hx_store.specs.Stored.{Stored}
use Rattle.hx_validate.specs.Answering.{freshened_of}
use Rattle.hx_store.specs.Serials.{serial_is_in, SerialsAreDistinct}
use Rattle.hx_store.specs.Shelf.{serials, expired_entry, entries_with_serials_expired}
use Rattle.hx_store.specs.Recency.{option_is_serial}
use Rattle.hx_store.proofs.PassingEntries.{others_stay}
use Rattle.proxy_core.specs.declared.open.exchange.Exchange.{Exchange}
use Rattle.proxy_core.specs.declared.outcome.Outcome.{Outcome}
use Rattle.proxy_core.specs.declared.event.Event.{Event}
use Rattle.proxy_core.specs.declared.event.Event.TheVariants.{Arrive, Answer, Fail, Wake, Abandon, Overdue}
use Rattle.proxy_core.specs.Allowing.{request_purges}
use Rattle.proxy_core.specs.Replies.{purge_reply_text}
use Rattle.proxy_core.specs.Outcomes.{find_exchange, exchange_id_of_event, outcome_of_purge, fault_at_exchange}
use Rattle.proxy_core.specs.Scopes.{is_purged_by_request, serials_purged_by_request}
use Rattle.proxy_core.specs.State.{serial_stored_by_outcome, serial_used_by_outcome, serials_expired_by_outcome, stored_response_freshened_by_event, stored_response_by_answer, response_after_expiring, entries_after_event, entries_after_purging_serials, bounds_of}
use Rattle.proxy_core.specs.Starts.{StoreAtStart}
use Rattle.proxy_core.specs.Traces.{Item, initial_state, state_after_trace}
use Rattle.proxy_core.specs.Histories.{IsGoodHistory, held_entries, entry_held_after, open_exchanges, response_if_any_after_expiring}
use Rattle.proxy_core.specs.Validating.{stored_response_is_answered_by_304, freshened_by_304}
use Rattle.proxy_core.specs.Expiring.{response_with_lifetime_ended_if, is_freshened_by_answer, item_makes_response_fresh, NoItemMakesResponseFresh, ExpiringPurgeChangesNothingElse, RemovingPurgeChangesNothingElse, ExpiredResponseIsStaleUntilMadeFresh, A304MakesFreshUnlessOvertaken, OnlyUnovertakenRequestMakesFresh}
use Rattle.proxy_core.specs.StoredAnswers.{KeyIsNotOvertakenSinceForward}
use Rattle.proxy_core.proofs.Carries.{carries_its_arrival}
use Rattle.proxy_core.proofs.ExchangeLists.{found-id}
use Rattle.proxy_core.proofs.SinceItWent.{at_the_origin, stays_valid}
use Rattle.proxy_core.proofs.HeldEntries.{taken_is}
use Rattle.proxy_core.proofs.ExpiredEntries.{expired_are_those, purge_leaves}
use Rattle.proxy_core.proofs.HeldLaw.{good_plain, entries_are_held}
use Rattle.proxy_core.proofs.FirstRules.{held_distinct}
use Rattle.proxy_core.proofs.SendLaws.{purges_its_scope}

-- ---- what is held behind a purge

-- the list of the core behind it
left_by : (table : Table) (start : StoreAtStart) (first now id : ℕ) (asked : Asked) (item : Item) (past : List Item) → IsGoodHistory table start first (item ∷ past) → item.event ≡ Arrive now id asked → request_purges table asked ≡ true →
    held_entries table start (item ∷ past) ≡ entries_after_purging_serials (request_purge_mode_or_remove asked.fields) (serials_purged_by_request asked (held_entries table start past)) now (held_entries table start past)
left_by table start first now id asked item past g e p =
    let plain = good_plain table start first (item ∷ past) g in
    let st = state_after_trace (initial_state table start first) past in
    let bounds = bounds_of st.table st.limit in
    let x = find_exchange (exchange_id_of_event item.event) st.exchanges in
    let held = held_entries table start past in
    let is : item.outcome ≡ outcome_of_purge held now asked = purges_its_scope table start first now id asked item past g e p in
    sym (entries_are_held table start first (item ∷ past) plain)
    ∙ ap (λ (v : Event). entries_after_event bounds st.entries x v item.outcome) e
    ∙ ap (λ (o : Outcome). entries_after_event bounds st.entries x (Arrive now id asked) o) is
    ∙ ap (λ es. entries_after_event bounds es x (Arrive now id asked) (outcome_of_purge held now asked)) (entries_are_held table start first past plain.1)
    ∙ purge_leaves bounds held x now id asked (purge_reply_text (date_text_of now) (length (serials_purged_by_request asked held)) asked.close) asked.close (request_purge_mode_or_remove asked.fields) (serials_purged_by_request asked held)

pub leaves_expired : ExpiringPurgeChangesNothingElse
leaves_expired table start first now id asked item past g e p mode =
    let held = held_entries table start past in
    left_by table start first now id asked item past g e p
    ∙ ap (λ (m : PurgeMode). entries_after_purging_serials m (serials_purged_by_request asked held) now held) mode
    ∙ expired_are_those (is_purged_by_request asked) now held (held_distinct table start first past g.1)

pub leaves_removed : RemovingPurgeChangesNothingElse
leaves_removed table start first now id asked item past g e p mode =
    let held = held_entries table start past in
    left_by table start first now id asked item past g e p
    ∙ ap (λ (m : PurgeMode). entries_after_purging_serials m (serials_purged_by_request asked held) now held) mode
    ∙ taken_is (serials_purged_by_request asked held) held
    ∙ others_stay (is_purged_by_request asked) held (held_distinct table start first past g.1)

-- ---- until when

-- a response has its lifetime ended at this moment
EndedAt : ℕ → Option Stored → Type 0
EndedAt purge o = (e : Stored) × (o ≡ Some e) × (e.times.expired ≡ Some purge)

pub a_304_leaves : A304MakesFreshUnlessOvertaken
unfolding freshened_of
a_304_leaves x r now e = (
  (λ h. ap (λ b. cond b e.times.expired None) h),
  (λ h. ap (λ b. cond b e.times.expired None) h),
)

-- what ended before stays so
ended_once : (purge now : ℕ) (gone : List ℕ) (e : Stored) → e.times.expired ≡ Some purge → (expired_entry gone now e).times.expired ≡ Some purge
ended_once purge now gone e h = elim (serial_is_in e.serial gone) as (λ b. (cond b (record e { times = times_once_purged e.times now }) e).times.expired ≡ Some purge) [
  | true ↦ ap (λ (o : Option ℕ). Some (unwrap_or o now)) h
  | false ↦ h
]

ended_still : (purge : ℕ) (event : Event) (gone : List ℕ) (e : Stored) → e.times.expired ≡ Some purge → (response_after_expiring event gone e).times.expired ≡ Some purge
ended_still purge (Arrive now id asked) gone e h = ended_once purge now gone e h
ended_still purge (Answer now id r) gone e h = h
ended_still purge (Fail now id kind) gone e h = h
ended_still purge (Wake now id) gone e h = h
ended_still purge (Abandon id) gone e h = h
ended_still purge (Overdue id) gone e h = h

by_purge : (purge : ℕ) (event : Event) (gone : List ℕ) (o : Option Stored) → EndedAt purge o → EndedAt purge (response_if_any_after_expiring event gone o)
unfolding EndedAt
by_purge purge event [] o h = h
by_purge purge event (s ∷ gone) o (e, is, ended) =
    (response_after_expiring event (s ∷ gone) e, ap (option_map (response_after_expiring event (s ∷ gone))) is, ended_still purge event (s ∷ gone) e ended)

used_ends : (purge : ℕ) (x : Option Exchange) (event : Event) (e : Stored) → is_freshened_by_answer x event (Some e) ≡ false → e.times.expired ≡ Some purge → (stored_response_freshened_by_event x event e).times.expired ≡ Some purge
used_ends purge None event e fresh h = h
used_ends purge (Some x) (Answer now id r) e fresh h = by_answer (stored_response_is_answered_by_304 x r now e) fresh
  where
    overtaken : (b : Bool) → not b ≡ false → b ≡ true
    overtaken true k = refl
    overtaken false k = absurd (false≢true (sym k))

    by_answer : (b : Bool) → (b && not x.overtaken) ≡ false → (cond b (freshened_by_304 x r now e) e).times.expired ≡ Some purge
    by_answer true k = (a_304_leaves x r now e).1 (overtaken x.overtaken k) ∙ h
    by_answer false k = h
used_ends purge (Some x) (Arrive now id asked) e fresh h = h
used_ends purge (Some x) (Fail now id kind) e fresh h = h
used_ends purge (Some x) (Wake now id) e fresh h = h
used_ends purge (Some x) (Abandon id) e fresh h = h
used_ends purge (Some x) (Overdue id) e fresh h = h

by_use : (purge s : ℕ) (x : Option Exchange) (event : Event) (st us : Option ℕ) (o : Option Stored) → option_is_serial st s ≡ false → is_freshened_by_answer x event o ≡ false → EndedAt purge o →
    EndedAt purge (cond (option_is_serial st s) (stored_response_by_answer x event s) (cond (option_is_serial us s) (option_map (stored_response_freshened_by_event x event) o) o))
unfolding EndedAt
by_use purge s x event st us o unstored fresh (e, is, ended) =
    subst (EndedAt purge) (sym (ap (λ b. cond b (stored_response_by_answer x event s) (cond (option_is_serial us s) (option_map (stored_response_freshened_by_event x event) o) o)) unstored))
    (elim (option_is_serial us s) as (λ b. EndedAt purge (cond b (option_map (stored_response_freshened_by_event x event) o) o)) [
      | true ↦ (stored_response_freshened_by_event x event e, ap (option_map (stored_response_freshened_by_event x event)) is, used_ends purge x event e (ap (is_freshened_by_answer x event) (sym is) ∙ fresh) ended)
      | false ↦ (e, is, ended)
    ])

stays_ended : (table : Table) (start : StoreAtStart) (s purge : ℕ) (items past : List Item) → EndedAt purge (entry_held_after table start past s) → NoItemMakesResponseFresh table start s items past → EndedAt purge (entry_held_after table start (items ++ past) s)
stays_ended table start s purge [] past h none = h
stays_ended table start s purge (i ∷ items) past h none =
    let before = items ++ past in
    let x = find_exchange (exchange_id_of_event i.event) (open_exchanges table start before) in
    let p = or_parts (option_is_serial (serial_stored_by_outcome i.outcome) s) (is_freshened_by_answer x i.event (entry_held_after table start before s)) none.0 in
    by_purge purge i.event (serials_expired_by_outcome i.outcome) _
    (by_use purge s x i.event (serial_stored_by_outcome i.outcome) (serial_used_by_outcome i.outcome) (entry_held_after table start before s) p.0 p.1 (stays_ended table start s purge items past h none.1))

pub stays_so : ExpiredResponseIsStaleUntilMadeFresh
unfolding EndedAt
stays_so table start first s purge response items past g is ended none =
    let r = stays_ended table start s purge items past (response, is, ended) none in (r.0, r.1, r.2, over r.0 r.2)
  where
    over : (e : Stored) → e.times.expired ≡ Some purge → (policy : Policy) (now : ℕ) → purge ≤ now → (lifetime_of_stored_response policy e).seconds ≤ age_of e.times now
    over e ends policy now before = rw ends (omega arith)

-- ---- by which answers

fresh_parts : (a b : Bool) → (a && not b) ≡ true → b ≡ false
fresh_parts true false h = refl
fresh_parts true true h = absurd (false≢true h)
fresh_parts false b h = absurd (false≢true h)

module _ (table : Table) (start : StoreAtStart) (first : ℕ) (past : List Item) (good : IsGoodHistory table start first past) where
  asked_behind : (w : Option Exchange) (event : Event) (o : Option Stored) → find_exchange (exchange_id_of_event event) (open_exchanges table start past) ≡ w → fault_at_exchange w event ≡ None → is_freshened_by_answer w event o ≡ true →
      (x : Exchange) × (find_exchange (exchange_id_of_event event) (open_exchanges table start past) ≡ Some x) × KeyIsNotOvertakenSinceForward past x
  asked_behind (Some x) (Answer now id r) (Some e) is allowed h =
      let same : x.id ≡ id = eqb-true x.id id (found-id id (open_exchanges table start past) x is) in
      let found : find_exchange x.id (open_exchanges table start past) ≡ Some x = ap (λ n. find_exchange n (open_exchanges table start past)) same ∙ is in (
        x,
        is,
        stays_valid table start first past good x found (at_the_origin x now id r allowed) (carries_its_arrival table start first id past x good is).0
            (fresh_parts (stored_response_is_answered_by_304 x r now e) x.overtaken h),
      )
  asked_behind (Some x) (Answer now id r) None is allowed h = absurd (false≢true h)
  asked_behind None (Answer now id r) o is allowed h = absurd (false≢true h)
  asked_behind w (Arrive now id asked) o is allowed h = absurd (false≢true h)
  asked_behind w (Fail now id kind) o is allowed h = absurd (false≢true h)
  asked_behind w (Wake now id) o is allowed h = absurd (false≢true h)
  asked_behind w (Abandon id) o is allowed h = absurd (false≢true h)
  asked_behind w (Overdue id) o is allowed h = absurd (false≢true h)

pub made_fresh_behind : OnlyUnovertakenRequestMakesFresh
made_fresh_behind table start first s item past g h =
    asked_behind table start first past g.1 (find_exchange (exchange_id_of_event item.event) (open_exchanges table start past)) item.event (entry_held_after table start past s) refl g.0.allowed h
