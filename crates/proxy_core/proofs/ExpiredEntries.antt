-- What a purge that expires leaves of held responses: each stays in its place, with all but its times.
use Rattle.std.proofs.Common.{◌≡◌, ℕ, suc, ◌+◌, ◌≤◌, Bool, true, false, cond, ◌&&◌, ◌||◌, eqb, Option, None, Some, List, [], ◌∷◌, length, refl, sym, ◌∙◌, ap, subst, arith}
use Rattle.std.specs.Prelude.{map, option_map, IfSome}
use Rattle.std.specs.List.{sum_by, list_any}
use Rattle.std.proofs.lemmas.Bool.{eq-eqb, or_parts}
use Rattle.std.proofs.lemmas.List.Sums.{sum_by-cons}
use Rattle.std.proofs.lemmas.Option.{IfSome_then}
use Rattle.hx_age.specs.Age.{times_once_purged}
use Rattle.hx_age.specs.declared.moments.Times.{Times}
use Rattle.hx_target.specs.declared.keys.Key.{Key}
use Rattle.hx_hop.specs.declared.request_view.Asked.{Asked}
use Rattle.hx_store.specs.Stored.{Stored}
use Rattle.hx_store.specs.Serials.{serial_is_in, SerialsAreDistinct}
use Rattle.hx_store.specs.Shelf.{serials, holds_serial, expired_entry, entries_with_serials_expired, serials_of_entries_that_pass}
use Rattle.hx_store.proofs.EntryLists.{eqb_comm}
use Rattle.hx_store.proofs.PassingEntries.{finds_passing}
use Rattle.hx_store.specs.Weights.{StoreBounds, IsWithinBounds, weight_of_entry}
use Rattle.hx_allow.specs.declared.purge_modes.PurgeMode.{PurgeMode}
use Rattle.hx_allow.specs.declared.purge_modes.PurgeMode.TheVariants.{Remove, Stale}
use Rattle.proxy_core.specs.declared.event.Event.{Event}
use Rattle.proxy_core.specs.declared.event.Event.TheVariants.{Arrive, Answer, Fail, Wake, Abandon, Overdue}
use Rattle.proxy_core.specs.declared.open.exchange.Exchange.{Exchange}
use Rattle.proxy_core.specs.Outcomes.{outcome_of_purge_reply}
use Rattle.proxy_core.specs.State.{NoSerialIsHeldFrom, response_after_expiring, entries_after_expiring, entries_after_event, entries_after_purging_serials}
use Rattle.proxy_core.specs.Expiring.{response_with_lifetime_ended_if}
use Rattle.proxy_core.specs.Starts.{weight_of_stored_if_any}
use Rattle.proxy_core.specs.Histories.{response_if_any_after_expiring}
use Rattle.proxy_core.proofs.Held.{NoneFrom-taken}
use Rattle.proxy_core.proofs.HeldEntries.{EachIs, EachIs-map}

-- what doesn't ask for the times stays
entry_stays : {A : Type 0} (part : Stored → A) → ((e : Stored) (t : Times) → part (record e { times = t }) ≡ part e) → (expired : List ℕ) (now : ℕ) (e : Stored) → part (expired_entry expired now e) ≡ part e
entry_stays part same expired now e = elim (serial_is_in e.serial expired) as (λ b. part (cond b (record e { times = times_once_purged e.times now }) e) ≡ part e) [
  | true ↦ same e (times_once_purged e.times now)
  | false ↦ refl
]

stays : {A : Type 0} (part : Stored → A) → ((e : Stored) (t : Times) → part (record e { times = t }) ≡ part e) → (event : Event) (expired : List ℕ) (e : Stored) → part (response_after_expiring event expired e) ≡ part e
stays part same (Arrive now id asked) expired e = entry_stays part same expired now e
stays part same (Answer now id r) expired e = refl
stays part same (Fail now id kind) expired e = refl
stays part same (Wake now id) expired e = refl
stays part same (Abandon id) expired e = refl
stays part same (Overdue id) expired e = refl

pub serial_expired : (event : Event) (expired : List ℕ) (e : Stored) → (response_after_expiring event expired e).serial ≡ e.serial
serial_expired = stays (λ (z : Stored). z.serial) (λ e t. refl)

pub key_expired : (event : Event) (expired : List ℕ) (e : Stored) → (response_after_expiring event expired e).key ≡ e.key
key_expired = stays (λ (z : Stored). z.key) (λ e t. refl)

weight_expired : (event : Event) (expired : List ℕ) (e : Stored) → weight_of_entry (response_after_expiring event expired e) ≡ weight_of_entry e
weight_expired = stays weight_of_entry (λ e t. refl)

pub weight_stays : (event : Event) (expired : List ℕ) (o : Option Stored) → weight_of_stored_if_any (response_if_any_after_expiring event expired o) ≡ weight_of_stored_if_any o
weight_stays event [] o = refl
weight_stays event (s ∷ expired) None = refl
weight_stays event (s ∷ expired) (Some e) = weight_expired event (s ∷ expired) e

-- ---- of a list

mapped_serials : (event : Event) (expired : List ℕ) (es : List Stored) → serials (map (response_after_expiring event expired) es) ≡ serials es
mapped_serials event expired [] = refl
mapped_serials event expired (e ∷ es) =
    ap (λ s. s ∷ serials (map (response_after_expiring event expired) es)) (serial_expired event expired e)
    ∙ ap (λ ss. e.serial ∷ ss) (mapped_serials event expired es)

pub serials_stay : (event : Event) (expired : List ℕ) (es : List Stored) → serials (entries_after_expiring event expired es) ≡ serials es
serials_stay event [] es = refl
serials_stay event (s ∷ expired) es = mapped_serials event (s ∷ expired) es

pub EachIs-expired : (event : Event) (expired : List ℕ) (look : ℕ → Option Stored) (es : List Stored) → EachIs look es →
    EachIs (λ s. response_if_any_after_expiring event expired (look s)) (entries_after_expiring event expired es)
EachIs-expired event [] look es h = h
EachIs-expired event (s ∷ expired) look es h = EachIs-map (response_after_expiring event (s ∷ expired)) (serial_expired event (s ∷ expired)) look es h

mapped_weigh : (event : Event) (expired : List ℕ) (es : List Stored) → (length (map (response_after_expiring event expired) es) ≡ length es) × (sum_by weight_of_entry (map (response_after_expiring event expired) es) ≡ sum_by weight_of_entry es)
mapped_weigh event expired [] = (refl, refl)
mapped_weigh event expired (e ∷ es) =
    let more = mapped_weigh event expired es in (
      ap (λ n. suc n) more.0,
      sum_by-cons weight_of_entry (response_after_expiring event expired e) (map (response_after_expiring event expired) es)
          ∙ ap (λ n. n + sum_by weight_of_entry (map (response_after_expiring event expired) es)) (weight_expired event expired e)
          ∙ ap (λ n. weight_of_entry e + n) more.1
          ∙ sym (sum_by-cons weight_of_entry e es),
    )

pub within_stays_expired : (bounds : StoreBounds) (event : Event) (expired : List ℕ) (es : List Stored) → IsWithinBounds bounds weight_of_entry es → IsWithinBounds bounds weight_of_entry (entries_after_expiring event expired es)
within_stays_expired bounds event [] es h = h
within_stays_expired bounds event (s ∷ expired) es h =
    let same = mapped_weigh event (s ∷ expired) es in
    record {
      number = subst (λ n. n ≤ bounds.entries) (sym same.0) h.number;
      weighs = IfSome_then bounds.bytes h.weighs (λ most p. subst (λ n. n ≤ most) (sym same.1) p);
    }

pub NoneFrom-expired : (next : Option ℕ) (event : Event) (expired : List ℕ) (es : List Stored) → NoSerialIsHeldFrom next es → NoSerialIsHeldFrom next (entries_after_expiring event expired es)
NoneFrom-expired None event expired es h = tt
NoneFrom-expired (Some n) event expired es h = λ s l. ap (serial_is_in s) (serials_stay event expired es) ∙ h s l

-- where none is expired, all is as it was
pub none_expired : (now : ℕ) (es : List Stored) → entries_with_serials_expired [] now es ≡ es
none_expired now [] = refl
none_expired now (e ∷ es) = ap (λ zs. e ∷ zs) (none_expired now es)

-- ---- which those are

-- each of these responses has a serial that passes the one test where it passes the other
AreTold : (Stored → Bool) → (ℕ → Bool) → List Stored → Type 0
AreTold passes test [] = Unit {0}
AreTold passes test (e ∷ es) = (test e.serial ≡ passes e) × AreTold passes test es

told_same : (passes : Stored → Bool) (test other : ℕ → Bool) (es : List Stored) → ((s : ℕ) → other s ≡ test s) → AreTold passes test es → AreTold passes other es
unfolding AreTold
told_same passes test other [] same h = tt
told_same passes test other (e ∷ es) same h = (same e.serial ∙ h.0, told_same passes test other es same h.1)

module _ (passes : Stored → Bool) where
  abbrev some_passes : List Stored → ℕ → Bool
  some_passes es s = list_any (λ (e : Stored). passes e && eqb e.serial s) es

  and_none : (a : Bool) → (a && false) ≡ false
  and_none true = refl
  and_none false = refl

  or_none : (a : Bool) → (a || false) ≡ a
  or_none true = refl
  or_none false = refl

  none_passes : (s : ℕ) (es : List Stored) → serial_is_in s (serials es) ≡ false → some_passes es s ≡ false
  none_passes s [] h = refl
  none_passes s (e ∷ es) h =
      let p = or_parts (eqb e.serial s) (serial_is_in s (serials es)) h in
      ap (λ b. (passes e && b) || some_passes es s) p.0 ∙ ap (λ b. b || some_passes es s) (and_none (passes e)) ∙ none_passes s es p.1

  told_by_one_more : (e : Stored) (test : ℕ → Bool) (es : List Stored) → serial_is_in e.serial (serials es) ≡ false → AreTold passes test es → AreTold passes (λ s. (passes e && eqb e.serial s) || test s) es
  unfolding AreTold
  told_by_one_more e test [] h told = tt
  told_by_one_more e test (x ∷ es) h told =
      let p = or_parts (eqb x.serial e.serial) (serial_is_in e.serial (serials es)) h in
      let apart : eqb e.serial x.serial ≡ false = eqb_comm e.serial x.serial ∙ p.0 in (
        ap (λ b. (passes e && b) || test x.serial) apart ∙ ap (λ b. b || test x.serial) (and_none (passes e)) ∙ told.0,
        told_by_one_more e test es p.1 told.1,
      )

  told : (es : List Stored) → SerialsAreDistinct (serials es) → AreTold passes (some_passes es) es
  unfolding AreTold
  told [] d = tt
  told (e ∷ es) d = (
    ap (λ b. (passes e && b) || some_passes es e.serial) (eq-eqb e.serial e.serial refl)
        ∙ ap (λ b. (passes e && true) || b) (none_passes e.serial es d.0) ∙ or_none (passes e && true) ∙ and_true (passes e),
    told_by_one_more e (some_passes es) es d.0 (told es d.1),
  )
    where
      and_true : (a : Bool) → (a && true) ≡ a
      and_true true = refl
      and_true false = refl

  mapped_by_test : (now : ℕ) (gone : List ℕ) (es : List Stored) → AreTold passes (λ s. serial_is_in s gone) es → entries_with_serials_expired gone now es ≡ map (response_with_lifetime_ended_if passes now) es
  unfolding AreTold
  mapped_by_test now gone [] h = refl
  mapped_by_test now gone (e ∷ es) h =
      ap (λ b. cond b (record e { times = times_once_purged e.times now }) e ∷ entries_with_serials_expired gone now es) h.0
      ∙ ap (λ zs. response_with_lifetime_ended_if passes now e ∷ zs) (mapped_by_test now gone es h.1)

  -- those that pass are expired, and no other
  pub expired_are_those : (now : ℕ) (es : List Stored) → SerialsAreDistinct (serials es) → entries_with_serials_expired (serials_of_entries_that_pass passes es) now es ≡ map (response_with_lifetime_ended_if passes now) es
  expired_are_those now es d = mapped_by_test now (serials_of_entries_that_pass passes es) es
      (told_same passes (some_passes es) (λ s. serial_is_in s (serials_of_entries_that_pass passes es)) es (λ s. finds_passing passes s es) (told es d))

-- ---- what a purge leaves

-- as the core does it
pub purge_leaves : (bounds : StoreBounds) (es : List Stored) (x : Option Exchange) (now id : ℕ) (asked : Asked) (bytes : List ℕ) (close : Bool) (mode : PurgeMode) (taken : List ℕ) →
    entries_after_event bounds es x (Arrive now id asked) (outcome_of_purge_reply bytes close mode taken) ≡ entries_after_purging_serials mode taken now es
purge_leaves bounds es x now id asked bytes close Remove taken = refl
purge_leaves bounds es x now id asked bytes close Stale [] = sym (none_expired now es)
purge_leaves bounds es x now id asked bytes close Stale (s ∷ taken) = refl

pub NoneFrom-purged : (next : Option ℕ) (mode : PurgeMode) (taken : List ℕ) (now : ℕ) (es : List Stored) → NoSerialIsHeldFrom next es → NoSerialIsHeldFrom next (entries_after_purging_serials mode taken now es)
NoneFrom-purged next Remove taken now es h = NoneFrom-taken next taken es h
NoneFrom-purged None Stale taken now es h = tt
NoneFrom-purged (Some n) Stale taken now es h = λ s l. ap (serial_is_in s) (all_serials taken now es) ∙ h s l
  where
    all_serials : (gone : List ℕ) (now : ℕ) (es : List Stored) → serials (entries_with_serials_expired gone now es) ≡ serials es
    all_serials gone now [] = refl
    all_serials gone now (e ∷ es) = ap (λ s. s ∷ serials (entries_with_serials_expired gone now es)) (entry_stays (λ (z : Stored). z.serial) (λ z t. refl) gone now e) ∙ ap (λ ss. e.serial ∷ ss) (all_serials gone now es)

-- ---- of a response that is there behind it: it was there before, with other times at most

pub record WasThere (o : Option Stored) (e : Stored) : Type 0 where
  pub response : Stored
  pub times : Times
  pub was : o ≡ Some response
  pub is : e ≡ record response { times = times }

same_response : (f e : Stored) → ◌≡◌ {A = Option Stored} (Some f) (Some e) → f ≡ e
same_response f e h = cc

expired_is : (event : Event) (expired : List ℕ) (e : Stored) → (t : Times) × (response_after_expiring event expired e ≡ record e { times = t })
expired_is (Arrive now id asked) expired e = by_test (serial_is_in e.serial expired)
  where
    by_test : (b : Bool) → (t : Times) × (cond b (record e { times = times_once_purged e.times now }) e ≡ record e { times = t })
    by_test true = (times_once_purged e.times now, refl)
    by_test false = (e.times, refl)
expired_is (Answer now id r) expired e = (e.times, refl)
expired_is (Fail now id kind) expired e = (e.times, refl)
expired_is (Wake now id) expired e = (e.times, refl)
expired_is (Abandon id) expired e = (e.times, refl)
expired_is (Overdue id) expired e = (e.times, refl)

pub was_there : (event : Event) (expired : List ℕ) (o : Option Stored) (e : Stored) → response_if_any_after_expiring event expired o ≡ Some e → WasThere o e
was_there event [] o e h = record { response = e; times = e.times; was = h; is = refl }
was_there event (s ∷ expired) None e h = absurd (cc)
was_there event (s ∷ expired) (Some f) e h =
    let form = expired_is event (s ∷ expired) f in
    record { response = f; times = form.0; was = refl; is = sym (same_response (response_after_expiring event (s ∷ expired) f) e h) ∙ form.1 }
