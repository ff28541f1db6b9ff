-- Exchanges by the numbers of their arrivals, and an index of their ids.
--
-- arrival_number_of_id: the arrival of an id     HaveDistinctArrivalsAndIds: no two have one number, no two one id
-- IsIdIndexOf: the index tells the arrival of each id
-- SelectedArrivalsPassTest: some exchanges have numbers that pass a test
-- WaitingArrivalsPassTest: so those do that wait for an id
-- IsExactIndexOfSelected: the numbers that pass are those of some open exchanges
-- IndexesMatchExchanges: what the indexes say of the exchanges
use Rattle.std.specs.Prelude.{◌≡◌, ℕ, ◌==◌, Bool, true, false, List, [], ◌∷◌, map, Option, Some, None, cond}
use Rattle.std.specs.Option.{option_map_or}
use Rattle.std.specs.Ordering.{nat_cmp}
use Rattle.std.specs.BTreeMap.{is_at}
use Rattle.std.specs.Map.{lookup}
use Rattle.proxy_core.specs.declared.open.exchange.Exchange.{Exchange}
use Rattle.proxy_core.specs.Leading.{waits_for}

-- the arrival of the exchange of an id
abbrev pub arrival_number_of_id : ℕ → List (ℕ × Exchange) → Option ℕ
arrival_number_of_id id [] = None
arrival_number_of_id id (e ∷ es) = cond (e.1.id == id) (Some e.0) (arrival_number_of_id id es)

-- no two have one number, and no two one id
abbrev pub HaveDistinctArrivalsAndIds : List (ℕ × Exchange) → Type 0
HaveDistinctArrivalsAndIds [] = Unit {0}
HaveDistinctArrivalsAndIds (e ∷ es) = (lookup (is_at (nat_cmp e.0)) es ≡ None) × (arrival_number_of_id e.1.id es ≡ None)
    × HaveDistinctArrivalsAndIds es

-- the index tells the arrival of each id
pub record IsIdIndexOf (es : List (ℕ × Exchange)) (index : ℕ → Option ℕ) : Type 0 where
  pub apart : HaveDistinctArrivalsAndIds es
  pub indexed : (id : ℕ) → index id ≡ arrival_number_of_id id es

-- each of these exchanges has a number that passes
abbrev pub SelectedArrivalsPassTest : (Exchange → Bool) → (ℕ → Bool) → List (ℕ × Exchange) → Type 0
SelectedArrivalsPassTest which test [] = Unit {0}
SelectedArrivalsPassTest which test (e ∷ es) = (which e.1 ≡ true → test e.0 ≡ true)
    × SelectedArrivalsPassTest which test es

-- the number is that of an open exchange, and of such a one
abbrev pub is_arrival_of_selected : (Exchange → Bool) → List (ℕ × Exchange) → ℕ → Bool
is_arrival_of_selected which es n = option_map_or which (lookup (is_at (nat_cmp n)) es) false

-- the numbers that pass are those of such exchanges: each of them, and none that is over
abbrev pub IsExactIndexOfSelected : (Exchange → Bool) → (ℕ → Bool) → List (ℕ × Exchange) → Type 0
IsExactIndexOfSelected which test es = (n : ℕ) → test n ≡ is_arrival_of_selected which es n

abbrev pub WaitingArrivalsPassTest : ℕ → (ℕ → Bool) → List (ℕ × Exchange) → Type 0
WaitingArrivalsPassTest id test es = SelectedArrivalsPassTest (λ x. waits_for id x.stage) test es

-- a change of each exchange, which keeps its number
abbrev pub exchanges_each_changed : (Exchange → Exchange) → List (ℕ × Exchange) → List (ℕ × Exchange)
exchanges_each_changed f es = map (λ e. (e.0, f e.1)) es

-- the same change of those alone whose numbers pass
abbrev pub map_exchanges_where_number_passes : (ℕ → Bool) → (Exchange → Exchange) → List (ℕ × Exchange)
    → List (ℕ × Exchange)
map_exchanges_where_number_passes test f es = map (λ e. (e.0, cond (test e.0) (f e.1) e.1)) es

-- the indexes tell the arrival of each id, and who waits for it: nothing else stands there
pub record IndexesMatchExchanges (es : List (ℕ × Exchange)) (arrivals : ℕ → Option ℕ)
    (waiting : ℕ → ℕ → Bool) : Type 0 where
  pub ids : IsIdIndexOf es arrivals
  pub waiters : (id : ℕ) → IsExactIndexOfSelected (λ x. waits_for id x.stage) (waiting id) es
