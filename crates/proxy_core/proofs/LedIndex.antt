-- The index of those that wait, once the client of a leader went away: it tells just those that wait for the next one.
use Rattle.std.proofs.Common.{◌≡◌, ℕ, Bool, true, false, not, cond, ◌&&◌, ◌||◌, eqb, None, Some, Option, List, refl, sym, ◌∙◌, ap}
use Rattle.std.specs.Ordering.{nat_cmp}
use Rattle.std.specs.Option.{option_map, option_map_or}
use Rattle.std.specs.BTreeMap.{is_at}
use Rattle.std.specs.BTreeSet.{BTreeSet, contains}
use Rattle.std.specs.Map.{lookup}
use Rattle.std.proofs.lemmas.Bool.{eqb-true, false≢true}
use Rattle.hx_allow.specs.TableLines.{Table}
use Rattle.proxy_core.specs.declared.open.exchange.Exchange.{Exchange}
use Rattle.proxy_core.specs.declared.open.as_next_leader.NextLeader.{NextLeader}
use Rattle.proxy_core.specs.declared.open.stage.Stage.{Stage}
use Rattle.proxy_core.specs.declared.open.stage.Stage.TheVariants.{Forwarded, Waiting, Released}
use Rattle.proxy_core.specs.declared.open.wait_index.WaitIndex.{WaitIndex}
use Rattle.proxy_core.specs.Leading.{waits_for}
use Rattle.proxy_core.specs.LeadingOn.{follows_next_leader, waiter_after_abandon}
use Rattle.proxy_core.specs.Arrivals.{exchanges_each_changed, is_arrival_of_selected}
use Rattle.proxy_core.specs.Waiters.{arrival_is_in_wait_index, WaitersAreEntered, WaitersAreRemoved}
use Rattle.proxy_core.proofs.Indexed.{lookup-on_all}
use Rattle.proxy_core.proofs.LedOn.{led_on-stage}
use Rattle.proxy_core.proofs.Waiters.{AllIndexed}

abbrev Numbered : Type 0
Numbered = List (ℕ × Exchange)

abbrev at : ℕ → ℕ → Bool
at n k = is_at (nat_cmp n) k

abbrev is_one : (Exchange → Bool) → Option Exchange → Bool
is_one which o = option_map_or which o false

-- who is entered under another id, those that wait for this one stay
pub still_those : (q : ℕ) (next : ℕ) (set : BTreeSet ℕ) (old mid : WaitIndex) → eqb next q ≡ false → WaitersAreEntered next set old mid → (m : ℕ) → arrival_is_in_wait_index mid q m ≡ arrival_is_in_wait_index old q m
still_those q next set old mid apart entered m = entered q m ∙ ap (λ b. (b && contains nat_cmp set m) || arrival_is_in_wait_index old q m) apart

-- of one that waits for an id, whether it waits for another
other_leader : (q id : ℕ) (s : Stage) → waits_for q s ≡ true → waits_for id s ≡ eqb q id
other_leader q id Forwarded h = absurd (false≢true h)
other_leader q id (Waiting l) h = ap (λ n. eqb n id) (eqb-true l q h)
other_leader q id Released h = absurd (false≢true h)

module _ (table : Table) (next : NextLeader) (q : ℕ) (apart : eqb next.id q ≡ false) (id : ℕ) where
  not_both : (a b : Bool) → eqb q id ≡ a → eqb next.id id ≡ b → a ≡ true → b ≡ false
  not_both a b ha hb t = sym hb ∙ (ap (eqb next.id) (sym (eqb-true q id (ha ∙ t))) ∙ apart)

  by_follow : (a b fl : Bool) → eqb next.id id ≡ b → (a ≡ true → b ≡ false) → (not a && ((b && (true && fl)) || a)) ≡ waits_for id (cond fl (Waiting next.id) Released)
  by_follow true b true hb h = sym (hb ∙ h refl)
  by_follow true b false hb h = refl
  by_follow false true true hb h = sym hb
  by_follow false false true hb h = sym hb
  by_follow false true false hb h = refl
  by_follow false false false hb h = refl

  stays : (a b fl v : Bool) → (a ≡ true → v ≡ false) → (not a && ((b && (false && fl)) || v)) ≡ v
  stays true b fl v h = sym (h refl)
  stays false true fl v h = refl
  stays false false fl v h = refl

  nobody : (a b : Bool) → (not a && ((b && (false && false)) || false)) ≡ false
  nobody true b = refl
  nobody false true = refl
  nobody false false = refl

  led : (x : Exchange) (w : Bool) → waits_for q x.stage ≡ w →
      (not (eqb q id) && ((eqb next.id id && (w && follows_next_leader table next x)) || waits_for id x.stage)) ≡ waits_for id (cond w (cond (follows_next_leader table next x) (Waiting next.id) Released) x.stage)
  led x true h =
      ap (λ v. not (eqb q id) && ((eqb next.id id && (true && follows_next_leader table next x)) || v)) (other_leader q id x.stage h)
      ∙ by_follow (eqb q id) (eqb next.id id) (follows_next_leader table next x) refl (not_both (eqb q id) (eqb next.id id) refl refl)
  led x false h = stays (eqb q id) (eqb next.id id) (follows_next_leader table next x) (waits_for id x.stage) (λ t. ap (λ n. waits_for n x.stage) (sym (eqb-true q id t)) ∙ h)

  pub led_waits : (o : Option Exchange) →
      (not (eqb q id) && ((eqb next.id id && (is_one (λ x. waits_for q x.stage) o && is_one (follows_next_leader table next) o)) || is_one (λ x. waits_for id x.stage) o))
      ≡ is_one (λ x. waits_for id x.stage) (option_map (waiter_after_abandon table (Some next) q) o)
  led_waits None = nobody (eqb q id) (eqb next.id id)
  led_waits (Some x) = led x (waits_for q x.stage) refl ∙ sym (ap (waits_for id) (led_on-stage table (Some next) q x))

-- those that follow are under the next leader, and nobody is under the one that ended
pub waiters-led_on : (table : Table) (next : NextLeader) (q : ℕ) → eqb next.id q ≡ false → (es : Numbered) (followers waiting : BTreeSet ℕ) (old mid new : WaitIndex) →
    ((n : ℕ) → contains nat_cmp followers n ≡ (contains nat_cmp waiting n && is_arrival_of_selected (follows_next_leader table next) es n)) →
    ((n : ℕ) → contains nat_cmp waiting n ≡ arrival_is_in_wait_index old q n) → WaitersAreEntered next.id followers old mid → WaitersAreRemoved q mid new →
    AllIndexed old es → AllIndexed new (exchanges_each_changed (waiter_after_abandon table (Some next) q) es)
waiters-led_on table next q apart es followers waiting old mid new f w entered out h id m =
    out id m
    ∙ (ap (λ b. not (eqb q id) && b) (entered id m ∙ ap (λ b. (eqb next.id id && b) || arrival_is_in_wait_index old id m) (f m ∙ ap (λ b. b && is_arrival_of_selected (follows_next_leader table next) es m) (w m ∙ h q m)))
    ∙ (ap (λ b. not (eqb q id) && ((eqb next.id id && (is_arrival_of_selected (λ x. waits_for q x.stage) es m && is_arrival_of_selected (follows_next_leader table next) es m)) || b)) (h id m)
    ∙ (led_waits table next q apart id (lookup (at m) es)
    ∙ sym (ap (is_one (λ x. waits_for id x.stage)) (lookup-on_all (waiter_after_abandon table (Some next) q) m es)))))
