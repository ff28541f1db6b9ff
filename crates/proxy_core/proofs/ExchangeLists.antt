-- Finding an exchange by its id in a list that was changed.
use Rattle.std.proofs.Common.{◌≡◌, ℕ, Bool, true, false, not, cond, ◌&&◌, eqb, Option, None, Some, List, [], ◌∷◌, ◌++◌, map, refl, sym, ◌∙◌, ap, inl, inr}
use Rattle.std.specs.Prelude.{option_map}
use Rattle.std.proofs.lemmas.Bool.{cases_Bool, eqb-true, eq-eqb, false_from_ne_true, false≢true}
use Rattle.proxy_core.specs.declared.open.exchange.Exchange.{Exchange}
use Rattle.proxy_core.specs.Outcomes.{find_exchange}
use Rattle.std.specs.Prelude.{filter}
use Rattle.hx_reuse.specs.declared.rule.ReuseRule.{ReuseRule}
use Rattle.proxy_core.specs.declared.steps.condition.Condition.{Condition}
use Rattle.proxy_core.specs.declared.open.stage.Stage.TheVariants.{Released}
use Rattle.hx_allow.specs.TableLines.{Table}
use Rattle.proxy_core.specs.declared.open.as_next_leader.NextLeader.{NextLeader}
use Rattle.proxy_core.specs.Leading.{waits_for, is_waiting}
use Rattle.proxy_core.specs.LeadingOn.{next_leader, stage_after_leader, waiter_after_abandon, exchanges_without, exchanges_after_abandon}
use Rattle.proxy_core.specs.Scopes.{Scope, key_is_in_scope}
use Rattle.proxy_core.specs.State.{exchanges_after_end_and_release, exchange_released_from_leader, exchange_overtaken_if_in_scope, exchanges_after_exchange_end, exchanges_overtaken_in_scope, exchange_gone_forward, exchange_after_second_forward, exchange_sent_forward_if_of_id, exchange_released_by_timeout, exchange_after_wait_timeout}

pub find-map : (f : Exchange → Exchange) → ((x : Exchange) → (f x).id ≡ x.id) → (id : ℕ) (xs : List Exchange) →
    find_exchange id (map f xs) ≡ option_map f (find_exchange id xs)
find-map f k id [] = refl
find-map f k id (x ∷ xs) =
    ap (λ n. cond (eqb n id) (Some (f x)) (find_exchange id (map f xs))) (k x)
    ∙ elim (eqb x.id id) as (λ b. cond b (Some (f x)) (find_exchange id (map f xs)) ≡ option_map f (cond b (Some x) (find_exchange id xs))) [
      | true ↦ refl
      | false ↦ find-map f k id xs
    ]

pub gone_out-id : (i now : ℕ) (x : Exchange) → (exchange_after_second_forward i now x).id ≡ x.id
gone_out-id i now x = elim (eqb x.id i) as (λ b. (cond b (exchange_gone_forward now x.rule x.named None x) x).id ≡ x.id) [
  | true ↦ refl
  | false ↦ refl
]

pub sent_out-id : (i now : ℕ) (rule : ReuseRule) (named : Option ℕ) (condition : Option Condition) (x : Exchange) → (exchange_sent_forward_if_of_id i now rule named condition x).id ≡ x.id
sent_out-id i now rule named condition x = elim (eqb x.id i) as (λ b. (cond b (exchange_gone_forward now rule named condition x) x).id ≡ x.id) [
  | true ↦ refl
  | false ↦ refl
]

pub release-id : (i : ℕ) (x : Exchange) → (exchange_released_from_leader i x).id ≡ x.id
release-id i x = elim (waits_for i x.stage) as (λ b. (cond b (record x { stage = Released }) x).id ≡ x.id) [
  | true ↦ refl
  | false ↦ refl
]

pub led_on-id : (table : Table) (next : Option NextLeader) (i : ℕ) (x : Exchange) → (waiter_after_abandon table next i x).id ≡ x.id
led_on-id table next i x = elim (waits_for i x.stage) as (λ b. (cond b (record x { stage = stage_after_leader table next x }) x).id ≡ x.id) [
  | true ↦ refl
  | false ↦ refl
]

pub overdue-id : (i : ℕ) (x : Exchange) → (exchange_after_wait_timeout i x).id ≡ x.id
overdue-id i x = elim (eqb x.id i && is_waiting x.stage) as (λ b. (cond b (exchange_released_by_timeout x) x).id ≡ x.id) [
  | true ↦ refl
  | false ↦ refl
]

pub overtake-id : (key : Scope) (x : Exchange) → (exchange_overtaken_if_in_scope key x).id ≡ x.id
overtake-id key x = elim (key_is_in_scope key x.asked.target.key) as (λ b. (cond b (record x { overtaken = true }) x).id ≡ x.id) [
  | true ↦ refl
  | false ↦ refl
]

pub find-gone_out : (i now : ℕ) (id : ℕ) (xs : List Exchange) →
    find_exchange id (map (exchange_after_second_forward i now) xs) ≡ option_map (exchange_after_second_forward i now) (find_exchange id xs)
find-gone_out i now id xs = find-map (exchange_after_second_forward i now) (gone_out-id i now) id xs

-- what an invalidation does to an exchange
abbrev pub overtaken_by : Option Scope → Option Exchange → Option Exchange
overtaken_by None o = o
overtaken_by (Some key) o = option_map (exchange_overtaken_if_in_scope key) o

-- what the end of another does to it
abbrev pub released_by : Option ℕ → Option Exchange → Option Exchange
released_by None o = o
released_by (Some i) o = option_map (exchange_released_from_leader i) o

-- and what a step of another does
abbrev pub changed_by : Option Scope → Option ℕ → Option Exchange → Option Exchange
changed_by key gone o = overtaken_by key (released_by gone o)

find-overtake : (key : Scope) (id : ℕ) (xs : List Exchange) → find_exchange id (map (exchange_overtaken_if_in_scope key) xs) ≡ option_map (exchange_overtaken_if_in_scope key) (find_exchange id xs)
find-overtake key id xs = find-map (exchange_overtaken_if_in_scope key) (overtake-id key) id xs

collapse : (b : Bool) (o p q : Option Exchange) → cond b o (cond b p q) ≡ cond b o q
collapse true o p q = refl
collapse false o p q = refl

pub swap : {X : Type 0} (a b : Bool) (p q r : Option X) → (a ≡ true → b ≡ false) → cond a p (cond b q r) ≡ cond b q (cond a p r)
swap true b p q r h = sym (ap (λ b. cond b q p) (h refl))
swap false b p q r h = refl

pub cond_none : {X : Type 0} (b : Bool) (y : X) (o : Option X) → cond b (Some y) o ≡ None → (b ≡ false) × (o ≡ None)
cond_none true y o h = absurd (cc)
cond_none false y o h = (refl, h)

pub nones : {X : Type 0} (b : Bool) → ◌≡◌ {A = Option X} None (cond b None None)
nones true = refl
nones false = refl

pub not_both : (a b id : ℕ) → eqb a b ≡ false → eqb a id ≡ true → eqb b id ≡ false
not_both a b id h k = false_from_ne_true _ (λ q. false≢true (sym h ∙ eq-eqb a b (eqb-true a id k ∙ sym (eqb-true b id q))))

-- one is taken out
abbrev but : ℕ → List Exchange → List Exchange
but i xs = filter (λ (x : Exchange). not (eqb x.id i)) xs

find-but : (i id : ℕ) (xs : List Exchange) → find_exchange id (but i xs) ≡ cond (eqb i id) None (find_exchange id xs)
find-but i id [] = nones (eqb i id)
find-but i id (x ∷ xs) =
    let rest = but i xs in
    elim (cases_Bool (eqb x.id i)) [
      | inl t ↦ (
          let e : eqb x.id id ≡ eqb i id = ap (λ n. eqb n id) (eqb-true x.id i t) in
          ap (λ b. find_exchange id (cond (not b) (x ∷ rest) rest)) t
          ∙ find-but i id xs
          ∙ sym (ap (λ b. cond (eqb i id) None (cond b (Some x) (find_exchange id xs))) e ∙ collapse (eqb i id) None (Some x) (find_exchange id xs))
          )
      | inr f ↦ (
          ap (λ b. find_exchange id (cond (not b) (x ∷ rest) rest)) f
          ∙ ap (λ o. cond (eqb x.id id) (Some x) o) (find-but i id xs)
          ∙ swap (eqb x.id id) (eqb i id) (Some x) None (find_exchange id xs) (λ k. not_both x.id i id f k)
          )
    ]

pub find-closed : (i id : ℕ) (xs : List Exchange) → find_exchange id (exchanges_after_end_and_release i xs) ≡ cond (eqb i id) None (released_by (Some i) (find_exchange id xs))
find-closed i id xs =
    find-map (exchange_released_from_leader i) (release-id i) id (but i xs)
    ∙ ap (option_map (exchange_released_from_leader i)) (find-but i id xs)
    ∙ elim (eqb i id) as (λ b. option_map (exchange_released_from_leader i) (cond b None (find_exchange id xs)) ≡ cond b None (option_map (exchange_released_from_leader i) (find_exchange id xs))) [
      | true ↦ refl
      | false ↦ refl
    ]

pub find-without : (i id : ℕ) (xs : List Exchange) → find_exchange id (exchanges_without i xs) ≡ cond (eqb i id) None (find_exchange id xs)
find-without i id xs = find-but i id xs

-- the client of another went away
pub find-abandoned : (table : Table) (i id : ℕ) (xs : List Exchange) →
    find_exchange id (exchanges_after_abandon table i xs) ≡ cond (eqb i id) None (option_map (waiter_after_abandon table (next_leader table i xs) i) (find_exchange id xs))
find-abandoned table i id xs = by_next (next_leader table i xs)
  where
    by_next : (next : Option NextLeader) → find_exchange id (map (waiter_after_abandon table next i) (but i xs)) ≡ cond (eqb i id) None (option_map (waiter_after_abandon table next i) (find_exchange id xs))
    by_next next =
        find-map (waiter_after_abandon table next i) (led_on-id table next i) id (but i xs)
        ∙ ap (option_map (waiter_after_abandon table next i)) (find-but i id xs)
        ∙ elim (eqb i id) as (λ b. option_map (waiter_after_abandon table next i) (cond b None (find_exchange id xs)) ≡ cond b None (option_map (waiter_after_abandon table next i) (find_exchange id xs))) [
          | true ↦ refl
          | false ↦ refl
        ]

-- an end, by which others may be overtaken
pub find-left_open : (key : Option Scope) (i id : ℕ) (xs : List Exchange) →
    find_exchange id (exchanges_after_exchange_end key i xs) ≡ cond (eqb i id) None (changed_by key (Some i) (find_exchange id xs))
find-left_open None i id xs = find-closed i id xs
find-left_open (Some key) i id xs =
    find-overtake key id (exchanges_after_end_and_release i xs) ∙ ap (option_map (exchange_overtaken_if_in_scope key)) (find-closed i id xs)
    ∙ elim (eqb i id) as (λ b. option_map (exchange_overtaken_if_in_scope key) (cond b None (released_by (Some i) (find_exchange id xs))) ≡ cond b None (option_map (exchange_overtaken_if_in_scope key) (released_by (Some i) (find_exchange id xs)))) [
      | true ↦ refl
      | false ↦ refl
    ]

-- a purge
pub find-purged : (key : Option Scope) (id : ℕ) (xs : List Exchange) → find_exchange id (exchanges_overtaken_in_scope key xs) ≡ overtaken_by key (find_exchange id xs)
find-purged None id xs = refl
find-purged (Some key) id xs = find-overtake key id xs

pub none_overtaken : (key : Option Scope) → overtaken_by key None ≡ None
none_overtaken None = refl
none_overtaken (Some key) = refl

pub find-push : (id : ℕ) (xs : List Exchange) (x : Exchange) → find_exchange x.id xs ≡ None →
    find_exchange id (xs ++ x ∷ []) ≡ cond (eqb x.id id) (Some x) (find_exchange id xs)
find-push id [] x h = refl
find-push id (y ∷ ys) x h =
    let p = cond_none (eqb y.id x.id) y (find_exchange x.id ys) h in
    ap (λ o. cond (eqb y.id id) (Some y) o) (find-push id ys x p.1)
    ∙ swap (eqb y.id id) (eqb x.id id) (Some y) (Some x) (find_exchange id ys) (λ k. not_both y.id x.id id p.0 k)

pub found-id : (i : ℕ) (xs : List Exchange) (z : Exchange) → find_exchange i xs ≡ Some z → eqb z.id i ≡ true
found-id i [] z h = absurd (cc)
found-id i (x ∷ xs) z h = elim (cases_Bool (eqb x.id i)) [
  | inl t ↦ (
      let k : Some x ≡ Some z = sym (ap (λ b. cond b (Some x) (find_exchange i xs)) t) ∙ h in
      let e : x ≡ z = cc in
      ap (λ (y : Exchange). eqb y.id i) (sym e) ∙ t
      )
  | inr f ↦ found-id i xs z (sym (ap (λ b. cond b (Some x) (find_exchange i xs)) f) ∙ h)
]
