-- How many ends are kept, and how many of them are open.
use Rattle.std.proofs.Common.{◌≡◌, inl, inr, ℕ, suc, ◌+◌, ◌-◌, ◌≤◌, List, [], ◌∷◌, length, sym, ap, ◌∙◌, arith, refl, Bool, true, false, not, cond, ◌&&◌, Option, Some, None, is_some}
use Rattle.std.specs.Ordering.{nat_cmp}
use Rattle.std.specs.Map.{lookup}
use Rattle.std.specs.BTreeMap.{BTreeMap, get, is_at, IsOrdered}
use Rattle.std.proofs.lemmas.Bool.{cases_eq}
use Rattle.proxy_engine.specs.Activities.{has_exchange}
use Rattle.proxy_engine.specs.EngineModel.{ConnectionModel}
use Rattle.proxy_engine.specs.Held.{flagged_places, open_end_has_flag, is_true_of_every_end, connection_is_not_gone}
use Rattle.proxy_engine.specs.Marked.{is_gone_with_exchange, NoEndIsOpenBeyond}
use Rattle.proxy_engine.specs.Reading.{places_with_flag}
use Rattle.proxy_engine.specs.ReadyList.{entries_below}
use Rattle.proxy_engine.specs.State.{ListsAreRelated, ConnectionRepresents}
use Rattle.proxy_engine.specs.declared.endpoints.ends.Connection.{Connection}
use Rattle.proxy_engine.proofs.Keeping.{here_at, elsewhere}
use Rattle.proxy_engine.proofs.Readable.{Ascends, ascends_map, below, not_below, held_listed}

module _ {A : Type 0} (n : ℕ) where
  -- all are below n, but for the one at n
  kept_ascending : (es : List (ℕ × A)) (a : ℕ) → Ascends a es → ((q : ℕ) → is_some (lookup (is_at (nat_cmp q)) es) ≡ true → q ≤ n) → length (flagged_places is_true_of_every_end n es) + cond (is_some (lookup (is_at (nat_cmp n)) es)) 1 0 ≡ length es
  kept_ascending [] a h most = refl
  kept_ascending (e ∷ es) a h most = elim (cases_eq e.0 n) [
    | inl same ↦ by_rest es (λ q there. most q there) h.1 same
    | inr apart ↦
        let low : e.0 ≤ n = most e.0 (ap (λ (b : Bool). is_some (cond b (Some e.1) (lookup (is_at (nat_cmp e.0)) es))) (here_at e.0 e.0 refl)) in
        let behind = kept_ascending es (e.0 + 1) h.1 (λ q there. most q (later q there (is_at (nat_cmp q) e.0))) in
        let first = ap (λ (b : Bool). length (cond (b && true) (e.0 ∷ flagged_places is_true_of_every_end n es) (flagged_places is_true_of_every_end n es))) (below e.0 n (omega (arith, low, apart))) in
        let other = ap (λ (b : Bool). cond {A = ℕ} (is_some (cond b (Some e.1) (lookup (is_at (nat_cmp n)) es))) 1 0) (elsewhere n e.0 apart) in
        omega (arith, behind, first, other)
  ]
    where
      later : (q : ℕ) → is_some (lookup (is_at (nat_cmp q)) es) ≡ true → (b : Bool) → is_some (cond b (Some e.1) (lookup (is_at (nat_cmp q)) es)) ≡ true
      later q there true = refl
      later q there false = there

      by_rest : (fs : List (ℕ × A)) → ((q : ℕ) → is_some (lookup (is_at (nat_cmp q)) (e ∷ fs)) ≡ true → q ≤ n) → Ascends (e.0 + 1) fs → e.0 ≡ n → length (flagged_places is_true_of_every_end n (e ∷ fs)) + cond (is_some (lookup (is_at (nat_cmp n)) (e ∷ fs))) 1 0 ≡ suc (length fs)
      by_rest [] top up same =
          let none = ap (λ (b : Bool). length (cond (b && true) (e.0 ∷ []) [])) (not_below e.0 n (omega (arith, same))) in
          let here = ap (λ (b : Bool). cond {A = ℕ} (is_some (cond b (Some e.1) None)) 1 0) (here_at n e.0 same) in
          omega (arith, none, here)
      by_rest (f ∷ fs) top up same =
          let from = up.0 in
          let there = ap (λ (b : Bool). is_some (cond b (Some e.1) (lookup (is_at (nat_cmp f.0)) (f ∷ fs)))) (elsewhere f.0 e.0 (λ other. absurd (omega (arith, other, from)))) ∙ ap (λ (b : Bool). is_some (cond b (Some f.1) (lookup (is_at (nat_cmp f.0)) fs))) (here_at f.0 f.0 refl) in
          let high = top f.0 there in
          absurd (omega (arith, high, from, same))

-- as many as the map has, without the one at the count
pub kept_beside : {A : Type 0} (m : BTreeMap ℕ A) (n : ℕ) → IsOrdered nat_cmp m → NoEndIsOpenBeyond n (get nat_cmp m) → (there : Bool) (beyond : ℕ) → there ≡ is_some (get nat_cmp m n) → beyond ≡ cond there 1 0
    → length m.entries - beyond ≡ length (places_with_flag (open_end_has_flag is_true_of_every_end) 0 (entries_below m n))
kept_beside m n ordered most there beyond is b =
    let all = kept_ascending n m.entries 0 (ascends_map m ordered) most in
    let same = b ∙ ap (λ (c : Bool). cond {A = ℕ} c 1 0) is in
    let listed = ap length (held_listed is_true_of_every_end m n ordered) in
    omega (arith, all, same, listed)

-- one that isn't open is gone, and its exchange is open
pub open_or_lost : (xs : List (Option Connection)) (ss : List ConnectionModel) → ListsAreRelated ConnectionRepresents xs ss → (i : ℕ)
    → length (places_with_flag (open_end_has_flag connection_is_not_gone) i xs) + length (places_with_flag (open_end_has_flag is_gone_with_exchange) i xs) ≡ length (places_with_flag (open_end_has_flag is_true_of_every_end) i xs)
open_or_lost [] [] h i = refl
open_or_lost [] (s ∷ ss) h i = absurd h
open_or_lost (x ∷ xs) [] h i = absurd h
open_or_lost (None ∷ xs) (s ∷ ss) h i = open_or_lost xs ss h.1 (i + 1)
open_or_lost (Some c ∷ xs) (s ∷ ss) h i =
    by_gone c.gone (has_exchange c.activity) (places_with_flag (open_end_has_flag connection_is_not_gone) (i + 1) xs) (places_with_flag (open_end_has_flag is_gone_with_exchange) (i + 1) xs) (places_with_flag (open_end_has_flag is_true_of_every_end) (i + 1) xs)
    (λ gone. ap has_exchange h.0.activity ∙ h.0.used (sym h.0.gone ∙ gone)) (open_or_lost xs ss h.1 (i + 1))
  where
    by_gone : (gone exchange : Bool) (live lost kept : List ℕ) → (gone ≡ true → exchange ≡ true) → length live + length lost ≡ length kept → length (cond (not gone) (i ∷ live) live) + length (cond (gone && exchange) (i ∷ lost) lost) ≡ suc (length kept)
    by_gone true true live lost kept used e = omega (arith, e)
    by_gone true false live lost kept used e = absurd (let both : true ≡ false = sym (used refl) in cc)
    by_gone false exchange live lost kept used e = omega (arith, e)
