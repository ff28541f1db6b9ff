-- The places at which something open has a flag, by the map and by the list.
use Rattle.std.proofs.Common.{◌≡◌, ◌≢◌, inl, inr, ℕ, zero, suc, ◌+◌, ◌<◌, ◌≤◌, ◌^◌, nat_lt, List, [], ◌∷◌, ◌++◌, length, map, get_or, refl, sym, ap, ◌∙◌, subst, arith, Bool, true, false, cond, not, ◌&&◌, ◌||◌, Option, None, Some, is_some}
use Rattle.std.specs.Option.{SomeIff}
use Rattle.std.specs.Ordering.{nat_cmp}
use Rattle.std.specs.Cmp.{ranked}
use Rattle.std.specs.declared.cmp.Ordering.TheVariants.{Less}
use Rattle.std.specs.List.{range_with_len, AllByRecursion}
use Rattle.std.specs.List.Sorted.{IsStrictlySortedBy}
use Rattle.std.specs.Map.{lookup, keys_of}
use Rattle.std.specs.BTreeMap.{BTreeMap, get, is_at, IsOrdered}
use Rattle.std.proofs.lemmas.Bool.{cases_eq, cases_order}
use Rattle.hx_status.specs.declared.cause.FailKind.{FailKind}
use Rattle.proxy_core.specs.State.{State as CoreState}
use Rattle.proxy_engine.specs.Activities.{has_exchange}
use Rattle.proxy_engine.specs.EngineModel.{EngineModel, ConnectionModel, LinkModel, no_connection, no_link, link_accepts_input}
use Rattle.proxy_engine.specs.State.{State, ListsAreRelated, ConnectionRepresents, LinkRepresents, EngineRepresents, engine_state_of_parts}
use Rattle.proxy_engine.specs.Happenings.{model_of_happening}
use Rattle.proxy_engine.specs.Room.{HappeningFindsMemory}
use Rattle.proxy_script.specs.declared.happening.Happening.{Happening}
use Rattle.proxy_engine.specs.ReadyList.{entries_below}
use Rattle.proxy_engine.specs.Held.{flagged_places, open_end_has_flag, connection_is_not_gone, client_of_connection_may_send, open_link_has_failed, link_may_send}
use Rattle.proxy_engine.specs.Pairing.{activity_of_connection, owner_of_open_link}
use Rattle.proxy_engine.specs.Reading.{places_with_flag, connection_is_open_in_model, connection_may_send_request, open_link_model_has_failed, link_end_at, owner_place_of_link_model}
use Rattle.proxy_engine.specs.declared.endpoints.activities.Activity.{Activity}
use Rattle.proxy_engine.specs.declared.endpoints.ends.Connection.{Connection}
use Rattle.proxy_engine.specs.declared.endpoints.ends.Link.{Link}
use Rattle.proxy_engine.specs.declared.work.End.{End}
use Rattle.proxy_engine.proofs.Keeping.{here_at, elsewhere}

-- the keys ascend from a
abbrev pub Ascends : {A : Type 0} → ℕ → List (ℕ × A) → Type 0
Ascends a [] = Unit {0}
Ascends a (e ∷ es) = (a ≤ e.0) × Ascends (e.0 + 1) es

abbrev Above : {A : Type 0} → ℕ → List (ℕ × A) → Type 0
Above a [] = Unit {0}
Above a (e ∷ es) = a ≤ e.0

above_next : {A : Type 0} (k : ℕ) (es : List (ℕ × A)) → AllByRecursion (λ y. nat_cmp k y ≡ Less) (keys_of es) → Above (k + 1) es
above_next k [] h = tt
above_next k (e ∷ es) h = let less : k < e.0 = ranked k e.0 Less (sym h.0) in omega (arith, less)

ascends : {A : Type 0} (a : ℕ) (es : List (ℕ × A)) → Above a es → IsStrictlySortedBy nat_cmp (keys_of es) → Ascends a es
unfolding IsStrictlySortedBy
ascends a [] above h = tt
ascends a (e ∷ es) above h = (above, ascends (e.0 + 1) es (above_next e.0 es h.0) h.1)

from_zero : {A : Type 0} (es : List (ℕ × A)) → Above 0 es
from_zero [] = tt
from_zero (e ∷ es) = omega arith

pub ascends_map : {A : Type 0} (m : BTreeMap ℕ A) → IsOrdered nat_cmp m → Ascends 0 m.entries
ascends_map m ordered = ascends 0 m.entries (from_zero m.entries) ordered

pub not_below : (i n : ℕ) → n ≤ i → nat_lt i n ≡ false
not_below i n l = search (arith, l)

pub below : (i n : ℕ) → i < n → nat_lt i n ≡ true
below i n l = search (arith, l)

module _ {A : Type 0} where
  held_none : (flag : A → Bool) (n : ℕ) (es : List (ℕ × A)) (a : ℕ) → n ≤ a → Ascends a es → flagged_places flag n es ≡ []
  held_none flag n [] a l h = refl
  held_none flag n (e ∷ es) a l h =
      let from = h.0 in
      ap (λ (b : Bool). cond (b && flag e.1) (e.0 ∷ flagged_places flag n es) (flagged_places flag n es)) (not_below e.0 n (omega (arith, l, from)))
      ∙ held_none flag n es (e.0 + 1) (omega (arith, l, from)) h.1

  lookup_none : (es : List (ℕ × A)) (a : ℕ) → Ascends (a + 1) es → lookup (is_at (nat_cmp a)) es ≡ None
  lookup_none [] a h = refl
  lookup_none (e ∷ es) a h =
      let from = h.0 in
      ap (λ (b : Bool). cond b (Some e.1) (lookup (is_at (nat_cmp a)) es)) (elsewhere a e.0 (λ same. absurd (omega (arith, same, from))))
      ∙ lookup_none es a (weaker es (e.0 + 1) (a + 1) (omega (arith, from)) h.1)
    where
      weaker : (es : List (ℕ × A)) (b c : ℕ) → c ≤ b → Ascends b es → Ascends c es
      weaker [] b c l h = tt
      weaker (e ∷ es) b c l h = let from = h.0 in (omega (arith, l, from), h.1)

module _ {A : Type 0} (flag : A → Bool) (f : ℕ → Option A) where
  held_range : (k : ℕ) (es : List (ℕ × A)) (a : ℕ) → Ascends a es → ((q : ℕ) → a ≤ q → f q ≡ lookup (is_at (nat_cmp q)) es) → flagged_places flag (a + k) es ≡ places_with_flag (open_end_has_flag flag) a (map f (range_with_len a k))
  held_range zero es a h same = held_none flag (a + 0) es a (omega arith) h
  held_range (suc k) [] a h same =
      held_range k [] (a + 1) tt (λ q l. same q (omega (arith, l)))
      ∙ sym (ap (λ (o : Option A). places_with_flag (open_end_has_flag flag) a (o ∷ map f (range_with_len (a + 1) k))) (same a (omega arith)))
  held_range (suc k) (e ∷ es) a h same = elim (cases_eq e.0 a) [
    | inl is ↦
        let rest = held_range k es (a + 1) (subst (λ (n : ℕ). Ascends (n + 1) es) is h.1) (λ q l. same q (omega (arith, l)) ∙ ap (λ (b : Bool). cond b (Some e.1) (lookup (is_at (nat_cmp q)) es)) (elsewhere q e.0 (λ other. absurd (omega (arith, other, is, l))))) in
        let here = same a (omega arith) ∙ ap (λ (b : Bool). cond b (Some e.1) (lookup (is_at (nat_cmp a)) es)) (here_at a e.0 is) in
        let more : a + suc k ≡ a + 1 + k = omega arith in
        let low = below e.0 (a + suc k) (omega (arith, is)) in
        ap (λ (b : Bool). cond (b && flag e.1) (e.0 ∷ flagged_places flag (a + suc k) es) (flagged_places flag (a + suc k) es)) low
        ∙ (ap (λ (n : ℕ). cond (flag e.1) (n ∷ flagged_places flag (a + suc k) es) (flagged_places flag (a + suc k) es)) is
        ∙ (ap (λ (ns : List ℕ). cond (flag e.1) (a ∷ ns) ns) (ap (λ (n : ℕ). flagged_places flag n es) more ∙ rest)
        ∙ sym (ap (λ (o : Option A). places_with_flag (open_end_has_flag flag) a (o ∷ map f (range_with_len (a + 1) k))) here)))
    | inr apart ↦
        let from = h.0 in
        let behind : a + 1 ≤ e.0 = omega (arith, from, apart) in
        let none = same a (omega arith) ∙ lookup_none (e ∷ es) a (behind, h.1) in
        let more : a + suc k ≡ a + 1 + k = omega arith in
        ap (λ (n : ℕ). flagged_places flag n (e ∷ es)) more
        ∙ (held_range k (e ∷ es) (a + 1) (behind, h.1) (λ q l. same q (omega (arith, l)))
        ∙ sym (ap (λ (o : Option A). places_with_flag (open_end_has_flag flag) a (o ∷ map f (range_with_len (a + 1) k))) none))
  ]

-- by the map, and by the list of what is at each place
pub held_listed : {A : Type 0} (flag : A → Bool) (m : BTreeMap ℕ A) (n : ℕ) → IsOrdered nat_cmp m → flagged_places flag n m.entries ≡ places_with_flag (open_end_has_flag flag) 0 (entries_below m n)
held_listed flag m n ordered =
    let same : n ≡ 0 + n = omega arith in
    ap (λ (k : ℕ). flagged_places flag k m.entries) same ∙ held_range flag (get nat_cmp m) n m.entries 0 (ascends 0 m.entries (from_zero m.entries) ordered) (λ q l. refl)

-- in the model, where the flags agree
both_places : {A B : Type 0} (R : A → B → Type 0) (f : A → Bool) (g : B → Bool) → ((x : A) (y : B) → R x y → f x ≡ g y) → (xs : List A) (ys : List B) → ListsAreRelated R xs ys → (i : ℕ) → places_with_flag f i xs ≡ places_with_flag g i ys
both_places R f g agree [] [] h i = refl
both_places R f g agree [] (y ∷ ys) h i = absurd h
both_places R f g agree (x ∷ xs) [] h i = absurd h
both_places R f g agree (x ∷ xs) (y ∷ ys) h i =
    ap (λ (b : Bool). cond b (i ∷ places_with_flag f (i + 1) xs) (places_with_flag f (i + 1) xs)) (agree x y h.0)
    ∙ ap (λ (ns : List ℕ). cond (g y) (i ∷ ns) ns) (both_places R f g agree xs ys h.1 (i + 1))

open_same : (o : Option Connection) (s : ConnectionModel) → ConnectionRepresents o s → open_end_has_flag connection_is_not_gone o ≡ connection_is_open_in_model s
open_same None s h = sym (ap not h.0)
open_same (Some c) s h = by_gone c.gone s.gone s.closed h.gone h.still
  where
    by_gone : (b gone closed : Bool) → b ≡ gone → closed ≡ false → not b ≡ not (gone || closed)
    by_gone true true closed e still = refl
    by_gone true false closed e still = absurd cc
    by_gone false true closed e still = absurd cc
    by_gone false false closed e still = sym (ap not still)

read_same : (o : Option Connection) (s : ConnectionModel) → ConnectionRepresents o s → open_end_has_flag client_of_connection_may_send o ≡ connection_may_send_request s
read_same None s h = over s.gone s.closed s.progress.ended (has_exchange s.activity) h.0
  where
    over : (gone closed ended linked : Bool) → gone || closed ≡ true → false ≡ not (gone || (closed || ended)) && not linked
    over true closed ended linked e = refl
    over false true ended linked e = refl
    over false false ended linked e = absurd cc
read_same (Some c) s h =
    ap (λ (b : Bool). not b && (not c.ended && not (has_exchange c.activity))) h.gone
    ∙ (ap (λ (b : Bool). not s.gone && (not b && not (has_exchange c.activity))) h.ended
    ∙ (ap (λ (a : Activity). not s.gone && (not s.progress.ended && not (has_exchange a))) h.activity
    ∙ here s.gone s.closed s.progress.ended (has_exchange s.activity) h.still))
  where
    here : (gone closed ended linked : Bool) → closed ≡ false → not gone && (not ended && not linked) ≡ not (gone || (closed || ended)) && not linked
    here true closed ended linked e = refl
    here false true ended linked e = absurd cc
    here false false true linked e = refl
    here false false false linked e = refl

failed_same : (o : Option Link) (s : LinkModel) → LinkRepresents o s → open_end_has_flag open_link_has_failed o ≡ open_link_model_has_failed s
failed_same None s h = sym (ap (λ (b : Bool). not b && is_some s.failed) h)
failed_same (Some k) s h = ap (λ (o : Option FailKind). is_some o) h.failed ∙ sym (ap (λ (b : Bool). not b && is_some s.failed) h.still)

answer_same : (o : Option Link) (s : LinkModel) → LinkRepresents o s → open_end_has_flag link_may_send o ≡ link_accepts_input s
answer_same None s h = sym (ap (λ (b : Bool). not (b || (is_some s.failed || s.progress.ended))) h)
answer_same (Some k) s h =
    ap (λ (o : Option FailKind). not (is_some o) && not k.ended) h.failed
    ∙ (ap (λ (b : Bool). not (is_some s.failed) && not b) h.ended
    ∙ (both_not (is_some s.failed) s.progress.ended
    ∙ sym (ap (λ (b : Bool). not (b || (is_some s.failed || s.progress.ended))) h.still)))
  where
    both_not : (a b : Bool) → not a && not b ≡ not (a || b)
    both_not true b = refl
    both_not false b = refl

module _ (xs : List (Option Connection)) (ss : List ConnectionModel) (both : ListsAreRelated ConnectionRepresents xs ss) where
  pub open_places : places_with_flag (open_end_has_flag connection_is_not_gone) 0 xs ≡ places_with_flag connection_is_open_in_model 0 ss
  open_places = both_places ConnectionRepresents (open_end_has_flag connection_is_not_gone) connection_is_open_in_model open_same xs ss both 0

  pub read_places : places_with_flag (open_end_has_flag client_of_connection_may_send) 0 xs ≡ places_with_flag connection_may_send_request 0 ss
  read_places = both_places ConnectionRepresents (open_end_has_flag client_of_connection_may_send) connection_may_send_request read_same xs ss both 0

module _ (xs : List (Option Link)) (ss : List LinkModel) (both : ListsAreRelated LinkRepresents xs ss) where
  pub failed_places : places_with_flag (open_end_has_flag open_link_has_failed) 0 xs ≡ places_with_flag open_link_model_has_failed 0 ss
  failed_places = both_places LinkRepresents (open_end_has_flag open_link_has_failed) open_link_model_has_failed failed_same xs ss both 0

  pub answer_places : places_with_flag (open_end_has_flag link_may_send) 0 xs ≡ places_with_flag link_accepts_input 0 ss
  answer_places = both_places LinkRepresents (open_end_has_flag link_may_send) link_accepts_input answer_same xs ss both 0

-- at one place, also beyond the end
flag_at : {A B C : Type 0} (R : Option A → B → Type 0) (f : Option A → C) (g : B → C) (d : B) → ((x : Option A) (y : B) → R x y → f x ≡ g y) → f None ≡ g d → (xs : List (Option A)) (ys : List B) → ListsAreRelated R xs ys → (i : ℕ) → f (get_or xs i None) ≡ g (get_or ys i d)
flag_at R f g d agree none [] [] h i = none
flag_at R f g d agree none [] (y ∷ ys) h i = absurd h
flag_at R f g d agree none (x ∷ xs) [] h i = absurd h
flag_at R f g d agree none (x ∷ xs) (y ∷ ys) h zero = agree x y h.0
flag_at R f g d agree none (x ∷ xs) (y ∷ ys) h (suc i) = flag_at R f g d agree none xs ys h.1 i

pub read_at : (xs : List (Option Connection)) (ss : List ConnectionModel) → ListsAreRelated ConnectionRepresents xs ss → (i : ℕ) → open_end_has_flag client_of_connection_may_send (get_or xs i None) ≡ connection_may_send_request (get_or ss i no_connection)
read_at = flag_at ConnectionRepresents (open_end_has_flag client_of_connection_may_send) connection_may_send_request no_connection read_same refl

activity_same : (o : Option Connection) (c : ConnectionModel) → ConnectionRepresents o c → activity_of_connection o ≡ c.activity
activity_same None c h = sym h.1
activity_same (Some k) c h = h.activity

pub activity_read_at : (xs : List (Option Connection)) (ss : List ConnectionModel) → ListsAreRelated ConnectionRepresents xs ss → (i : ℕ) → activity_of_connection (get_or xs i None) ≡ (get_or ss i no_connection).activity
activity_read_at = flag_at ConnectionRepresents activity_of_connection (λ (c : ConnectionModel). c.activity) no_connection activity_same refl

owner_same : (o : Option Link) (s : LinkModel) → LinkRepresents o s → owner_of_open_link o ≡ owner_place_of_link_model s
owner_same None s h = sym (ap (λ (b : Bool). cond b None (Some s.connection)) h)
owner_same (Some k) s h = ap Some h.connection ∙ sym (ap (λ (b : Bool). cond b None (Some s.connection)) h.still)

pub owner_read_at : (xs : List (Option Link)) (ss : List LinkModel) → ListsAreRelated LinkRepresents xs ss → (j : ℕ) → owner_of_open_link (get_or xs j None) ≡ owner_place_of_link_model (get_or ss j no_link)
owner_read_at = flag_at LinkRepresents owner_of_open_link owner_place_of_link_model no_link owner_same refl

pub answer_at : (xs : List (Option Link)) (ss : List LinkModel) → ListsAreRelated LinkRepresents xs ss → (j : ℕ) → open_end_has_flag link_may_send (get_or xs j None) ≡ link_accepts_input (get_or ss j no_link)
answer_at = flag_at LinkRepresents (open_end_has_flag link_may_send) link_accepts_input no_link answer_same refl

-- nothing is beyond the end
pub beyond : {A : Type 0} (xs : List (Option A)) (i : ℕ) → length xs ≤ i → get_or xs i None ≡ None
beyond [] i l = refl
beyond (x ∷ xs) zero l = absurd (omega (arith, l))
beyond (x ∷ xs) (suc i) l = beyond xs i (omega (arith, l))

-- where nothing changed at the place, and nothing elsewhere
pub by_place : {A : Type 0} (m k : BTreeMap ℕ A) (i : ℕ) → get nat_cmp k i ≡ get nat_cmp m i → ((q : ℕ) → q ≢ i → get nat_cmp k q ≡ get nat_cmp m q) → (q : ℕ) → get nat_cmp k q ≡ get nat_cmp m q
by_place m k i here others q = elim (cases_eq q i) [
  | inl is ↦ ap (get nat_cmp k) is ∙ (here ∙ sym (ap (get nat_cmp m) is))
  | inr other ↦ others q other
]

-- the links with a flag, by their numbers
pub links_emitted : (flag : LinkModel → Bool) (cs : List (Option Connection)) (ks : List (Option Link)) (core : CoreState) (first : ℕ) (s : EngineModel) → EngineRepresents (engine_state_of_parts cs ks core first) s → (before emitted : List End) → before ≡ []
    → ((ss : List LinkModel) → ListsAreRelated LinkRepresents ks ss → first + length ss ≤ 2 ^ 64 → emitted ≡ before ++ map (link_end_at first) (places_with_flag flag 0 ss)) → emitted ≡ map (link_end_at s.first) (places_with_flag flag 0 s.links)
links_emitted flag cs ks core first s h before emitted none is =
    let fits : first + length s.links ≤ 2 ^ 64 = subst (λ (n : ℕ). n + length s.links ≤ 2 ^ 64) (sym h.first) h.numbers in
    is s.links h.links fits ∙ (ap (λ (es : List End). es ++ map (link_end_at first) (places_with_flag flag 0 s.links)) none ∙ ap (λ (n : ℕ). map (link_end_at n) (places_with_flag flag 0 s.links)) h.first)

-- what finds its memory does so by either view
pub found_in : (e d : State) (x y : Happening) → x ≡ y → d ≡ e → HappeningFindsMemory e (model_of_happening x) → HappeningFindsMemory d (model_of_happening y)
found_in e d x y same view found = subst (λ (h : Happening). HappeningFindsMemory d (model_of_happening h)) same (subst (λ (f : State). HappeningFindsMemory f (model_of_happening x)) (sym view) found)

-- the number behind the last, where one is left
pub number_shown : (o : Option ℕ) (n m : ℕ) → n ≡ m → SomeIff o (n + 1 < 2 ^ 64) (n + 1) → o ≡ cond (nat_lt (m + 1) (2 ^ 64)) (Some (m + 1)) None
number_shown None n m same none =
    let full : 2 ^ 64 ≤ m + 1 = elim (cases_order (m + 1) (2 ^ 64)) [
      | inl is ↦ omega (arith, is)
      | inr (inl less) ↦ absurd (none (omega (arith, less, same)))
      | inr (inr more) ↦ omega (arith, more)
    ] in
    ap (λ (b : Bool). cond b (Some (m + 1)) None) (sym (not_below (m + 1) (2 ^ 64) full))
number_shown (Some k) n m same some = ap Some some.1 ∙ (ap (λ (j : ℕ). Some (j + 1)) same ∙ ap (λ (b : Bool). cond b (Some (m + 1)) None) (sym (below (m + 1) (2 ^ 64) (omega (arith, some.0, same)))))
