-- Of the open exchanges the first that leads, and that none does.
use Rattle.std.proofs.Common.{◌≡◌, ℕ, Bool, true, false, cond, Option, None, Some, List, [], ◌∷◌, ◌++◌, refl, sym, ◌∙◌, ap}
use Rattle.std.proofs.lemmas.Option.{same_Some}
use Rattle.hx_policy.specs.declared.words.Policy.{Policy}
use Rattle.hx_store.specs.Stored.{Stored}
use Rattle.hx_store.specs.Serials.{SerialsAreDistinct}
use Rattle.hx_store.specs.Shelf.{serials}
use Rattle.hx_hop.specs.declared.request_view.Asked.{Asked}
use Rattle.hx_reuse.specs.declared.rule.ReuseRule.{ReuseRule}
use Rattle.proxy_core.specs.declared.open.exchange.Exchange.{Exchange}
use Rattle.proxy_core.specs.Leading.{is_leader_for_request, leader, leader_id_if_awaited, NoExchangeIsLeaderForRequest, IsFirstLeader}
use Rattle.proxy_core.specs.declared.open.awaited.Awaited.{Awaited}
use Rattle.hx_reuse.specs.ChosenAndNamed.{IsLeastReuseRule}
use Rattle.proxy_core.specs.Awaiting.{RequestMayAwaitAnother, response_awaited_by_request, leader_of_request}
use Rattle.proxy_core.specs.Sending.{NoLeaderForRequestIsOpen}
use Rattle.proxy_core.proofs.Awaits.{awaited_by_words, awaited_in_words}

pub first_is : (policy : Policy) (awaited : Awaited) (asked : Asked) (before : List Exchange) (x : Exchange) (behind : List Exchange) → is_leader_for_request policy awaited asked x ≡ true → NoExchangeIsLeaderForRequest policy awaited asked before → leader policy awaited asked (before ++ x ∷ behind) ≡ Some x.id
first_is policy awaited asked [] x behind h n = ap (λ b. cond b (Some x.id) (leader policy awaited asked behind)) h
first_is policy awaited asked (y ∷ before) x behind h n = ap (λ b. cond b (Some y.id) (leader policy awaited asked (before ++ x ∷ behind))) n.0 ∙ first_is policy awaited asked before x behind h n.1

pub led_by : (policy : Policy) (awaited : Awaited) (asked : Asked) (xs : List Exchange) (l : ℕ) → leader policy awaited asked xs ≡ Some l → IsFirstLeader policy awaited asked xs l
led_by policy awaited asked [] l h = absurd (cc)
led_by policy awaited asked (x ∷ xs) l h = by_test (λ k. led_by policy awaited asked xs l k) (is_leader_for_request policy awaited asked x) refl h
  where
    by_test : (leader policy awaited asked xs ≡ Some l → IsFirstLeader policy awaited asked xs l) → (b : Bool) → is_leader_for_request policy awaited asked x ≡ b → cond b (Some x.id) (leader policy awaited asked xs) ≡ Some l → IsFirstLeader policy awaited asked (x ∷ xs) l
    by_test rest true k h = record { before = []; x = x; behind = xs; open_exchanges_are = refl; id = same_Some x.id l h; it_leads = k; none_before = tt }
    by_test rest false k h =
        let r = rest h in
        record { before = x ∷ r.before; x = r.x; behind = r.behind; open_exchanges_are = ap (λ (zs : List Exchange). x ∷ zs) r.open_exchanges_are; id = r.id; it_leads = r.it_leads; none_before = (k, r.none_before) }

some_is_not : (n : ℕ) → ◌≡◌ {A = Option ℕ} (Some n) None → ⊥
some_is_not n h = cc

pub none_leads : (policy : Policy) (awaited : Awaited) (asked : Asked) (xs : List Exchange) → leader policy awaited asked xs ≡ None → NoExchangeIsLeaderForRequest policy awaited asked xs
none_leads policy awaited asked [] h = tt
none_leads policy awaited asked (x ∷ xs) h = by_test (none_leads policy awaited asked xs) (is_leader_for_request policy awaited asked x) refl h
  where
    by_test : (leader policy awaited asked xs ≡ None → NoExchangeIsLeaderForRequest policy awaited asked xs) → (b : Bool) → is_leader_for_request policy awaited asked x ≡ b → cond b (Some x.id) (leader policy awaited asked xs) ≡ None → NoExchangeIsLeaderForRequest policy awaited asked (x ∷ xs)
    by_test rest true k h = absurd (some_is_not x.id h)
    by_test rest false k h = (k, rest h)

pub no_leader : (policy : Policy) (awaited : Awaited) (asked : Asked) (xs : List Exchange) → NoExchangeIsLeaderForRequest policy awaited asked xs → leader policy awaited asked xs ≡ None
no_leader policy awaited asked [] n = refl
no_leader policy awaited asked (x ∷ xs) n = ap (λ b. cond b (Some x.id) (leader policy awaited asked xs)) n.0 ∙ no_leader policy awaited asked xs n.1

-- where nobody is open, nobody leads
pub nobody_to_wait_for : (policy : Policy) (asked : Asked) (awaited : Option Awaited) → leader_id_if_awaited policy asked [] awaited ≡ None
nobody_to_wait_for policy asked None = refl
nobody_to_wait_for policy asked (Some awaited) = refl

pub first_leads : (policy : Policy) (awaited : Awaited) (asked : Asked) (xs : List Exchange) (l : ℕ) → IsFirstLeader policy awaited asked xs l → leader policy awaited asked xs ≡ Some l
first_leads policy awaited asked xs l first =
    ap (leader policy awaited asked) first.open_exchanges_are ∙ first_is policy awaited asked first.before first.x first.behind first.it_leads first.none_before ∙ ap (λ n. Some n) first.id

module _ (policy : Policy) (es : List Stored) (distinct : SerialsAreDistinct (serials es)) (xs : List Exchange) (asked : Asked) (now : ℕ) (rule : ReuseRule) (least : IsLeastReuseRule policy es asked now rule) where
  pub nobody_leads : leader_of_request policy es xs asked rule ≡ None → NoLeaderForRequestIsOpen policy es xs asked now
  nobody_leads h awaited w =
      none_leads policy awaited asked xs (sym (ap (leader_id_if_awaited policy asked xs) (awaited_by_words policy es asked now distinct rule awaited least w)) ∙ h)

  pub leads_for_none : NoLeaderForRequestIsOpen policy es xs asked now → leader_of_request policy es xs asked rule ≡ None
  leads_for_none nobody = by_awaited (response_awaited_by_request policy es asked rule) refl
    where
      by_awaited : (o : Option Awaited) → response_awaited_by_request policy es asked rule ≡ o → leader_id_if_awaited policy asked xs o ≡ None
      by_awaited None k = refl
      by_awaited (Some awaited) k = no_leader policy awaited asked xs (nobody awaited (awaited_in_words policy es asked now distinct rule awaited least k))

  -- where the first leads, a GET that could be sent its answer waits for it
  pub led_for : (awaited : Awaited) (l : ℕ) → RequestMayAwaitAnother policy es asked now awaited → leader policy awaited asked xs ≡ Some l → leader_of_request policy es xs asked rule ≡ Some l
  led_for awaited l w led = ap (leader_id_if_awaited policy asked xs) (awaited_by_words policy es asked now distinct rule awaited least w) ∙ led

  pub leads_for : (awaited : Awaited) (l : ℕ) → RequestMayAwaitAnother policy es asked now awaited → IsFirstLeader policy awaited asked xs l → leader_of_request policy es xs asked rule ≡ Some l
  leads_for awaited l w first = led_for awaited l w (first_leads policy awaited asked xs l first)

  -- where a request waits, it could be sent something, and the first leads
  pub is_led : (l : ℕ) → leader_of_request policy es xs asked rule ≡ Some l → (awaited : Awaited) × RequestMayAwaitAnother policy es asked now awaited × (leader policy awaited asked xs ≡ Some l)
  is_led l h = by_awaited (response_awaited_by_request policy es asked rule) refl h
    where
      by_awaited : (o : Option Awaited) → response_awaited_by_request policy es asked rule ≡ o → leader_id_if_awaited policy asked xs o ≡ Some l → (awaited : Awaited) × RequestMayAwaitAnother policy es asked now awaited × (leader policy awaited asked xs ≡ Some l)
      by_awaited None k h = absurd (some_is_not l (sym h))
      by_awaited (Some awaited) k h = (awaited, awaited_in_words policy es asked now distinct rule awaited least k, h)
