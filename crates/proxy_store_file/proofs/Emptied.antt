-- A shelf is emptied: each entry weighs something.
use Rattle.std.proofs.Common.{◌≡◌, ℕ, ◌+◌, ◌-◌, ◌<◌, ◌≤◌, List, [], ◌∷◌, ◌++◌, length, refl, ap, cond, false, nat_le, None, Some, Option, arith}
use Rattle.std.proofs.lemmas.Bool.{lt-leb}
use Rattle.std.proofs.lemmas.List.Sums.{sum_by-cons}
use Rattle.hx_store.specs.Stored.{Stored}
use Rattle.hx_store.specs.Weights.{weight_of_entry, prefix_within_weight, total_weight, entry_evicted_by_weight}
use Rattle.hx_store.proofs.ShedEntries.{nothing_shed}

weighs_something : (e : Stored) → 0 < weight_of_entry e
weighs_something e = omega arith

pub front_of_nothing : (es : List Stored) → prefix_within_weight weight_of_entry 0 es ≡ []
front_of_nothing [] = refl
front_of_nothing (e ∷ es) =
    let heavy : nat_le (weight_of_entry e) 0 ≡ false = lt-leb (weight_of_entry e) 0 (weighs_something e) in
    ap (λ t. cond {A = List Stored} t (e ∷ prefix_within_weight weight_of_entry (0 - weight_of_entry e) es) []) heavy

none_weigh_nothing : (es : List Stored) → total_weight es ≤ 0 → es ≡ []
none_weigh_nothing [] h = refl
none_weigh_nothing (e ∷ es) h =
    let all : total_weight (e ∷ es) ≡ weight_of_entry e + total_weight es = sum_by-cons weight_of_entry e es in
    absurd (omega (arith, all, weighs_something e, h))

pub nothing_is_shed : (es : List Stored) → entry_evicted_by_weight 0 es ≡ None → es ≡ []
nothing_is_shed es h = none_weigh_nothing es (nothing_shed 0 es h)
