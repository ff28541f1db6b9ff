-- What a search over the map of open ends has found, in the list of all.
use Rattle.std.proofs.Common.{◌≡◌, inl, inr, ℕ, ◌<◌, List, length, refl, sym, ap, ◌∙◌, subst, arith, Contains, Bool, false, Option, None, Some, is_some, IfNone, IfSome, MatchOption, true}
use Rattle.std.specs.Ordering.{nat_cmp}
use Rattle.std.specs.BTreeMap.{BTreeMap, get}
use Rattle.std.proofs.lemmas.Bool.{cases_lt}
use Rattle.std.proofs.lemmas.List.{get_or-map}
use Rattle.proxy_engine.specs.EngineModel.{ConnectionModel, no_connection}
use Rattle.proxy_engine.specs.Due.{IsFirstAtWhich, IsGoneWhileBusy}
use Rattle.proxy_engine.specs.State.{ListsAreRelated, ConnectionRepresents, IsFirstPlaceFoundDue, is_gone_if_connection}
use Rattle.proxy_engine.specs.Activities.{link_place_of_activity, has_exchange}
use Rattle.proxy_engine.specs.Pairing.{activity_at, activity_of_connection, activities_of_connections}
use Rattle.proxy_engine.specs.ReadyList.{entries_below, PlacesAreBelow}
use Rattle.proxy_engine.specs.Exhausted.{IsOpenWithFlag}
use Rattle.proxy_engine.specs.Marked.{end_if_open_at, is_gone_with_exchange, OptionsAreRelated, ContentsOfPlacesAreRelated, NoOpenEndBelowHasFlag, NoOpenEndHasFlag, link_of_disconnected_exchange_at, LookaheadShowsWhatIsDue}
use Rattle.proxy_engine.specs.declared.endpoints.activities.Activity.TheVariants.{Free}
use Rattle.proxy_engine.specs.declared.endpoints.ends.Connection.{Connection}
use Rattle.proxy_engine.proofs.Keeping.{listed_length, listed_at, inside}
use Rattle.proxy_engine.proofs.Readable.{beyond}
use Rattle.proxy_engine.proofs.Shown.{lost, lost_link}
use Rattle.proxy_engine.proofs.Searching.{found_first, none_first, some_from}
use Rattle.proxy_engine.proofs.Marking.{unlost, unlost_over}

-- ---- what is so by the map is so by the list

module _ {A : Type 0} (m : BTreeMap ℕ A) (n : ℕ) where
  listed_some : (j : ℕ) (x : A) → end_if_open_at (entries_below m n) j ≡ Some x → get nat_cmp m j ≡ Some x
  listed_some j x e =
      let within : j < n = subst (λ (k : ℕ). j < k) (listed_length m n) (inside (entries_below m n) j (ap is_some e)) in
      sym (listed_at m n j None within) ∙ e

  pub none_listed : (flag : A → Bool) → NoOpenEndHasFlag flag (get nat_cmp m) → NoOpenEndHasFlag flag (end_if_open_at (entries_below m n))
  none_listed flag h j x e = h j x (listed_some j x e)

  pub below_listed : (flag : A → Bool) (i : ℕ) → NoOpenEndBelowHasFlag flag (get nat_cmp m) i → NoOpenEndBelowHasFlag flag (end_if_open_at (entries_below m n)) i
  below_listed flag i h j x l e = h j x l (listed_some j x e)

pub alike_listed : {A : Type 0} (R : A → A → Type 0) (m k : BTreeMap ℕ A) (n : ℕ) → ContentsOfPlacesAreRelated R (get nat_cmp m) (get nat_cmp k) → ContentsOfPlacesAreRelated R (end_if_open_at (entries_below m n)) (end_if_open_at (entries_below k n))
alike_listed {A} R m k n alike i = elim (cases_lt i n) [
  | inl within ↦ subst (λ (o : Option A). OptionsAreRelated R o (end_if_open_at (entries_below k n) i)) (sym (listed_at m n i None within)) (subst (λ (o : Option A). OptionsAreRelated R (get nat_cmp m i) o) (sym (listed_at k n i None within)) (alike i))
  | inr behind ↦
      let none : (l : BTreeMap ℕ A) → end_if_open_at (entries_below l n) i ≡ None = λ l. let count = listed_length l n in beyond (entries_below l n) i (omega (arith, behind, count)) in
      subst (λ (o : Option A). OptionsAreRelated R o (end_if_open_at (entries_below k n) i)) (sym (none m)) (subst (λ (o : Option A). OptionsAreRelated R None o) (sym (none k)) tt)
]

module _ {A : Type 0} (flag : A → Bool) (m : BTreeMap ℕ A) (n : ℕ) (places : List ℕ) (below : PlacesAreBelow n places) where
  pub listed_found : (Shown : Option A → Type 0) (r : Option ℕ) → MatchOption r (NoOpenEndHasFlag flag (get nat_cmp m)) (λ i. Shown (get nat_cmp m i) × NoOpenEndBelowHasFlag flag (get nat_cmp m) i × Contains places i)
      → MatchOption r (NoOpenEndHasFlag flag (end_if_open_at (entries_below m n))) (λ i. Shown (end_if_open_at (entries_below m n) i) × NoOpenEndBelowHasFlag flag (end_if_open_at (entries_below m n)) i × (i < length (entries_below m n)))
  listed_found Shown None h = none_listed m n flag h
  listed_found Shown (Some i) h =
      let within : i < n = below i h.2 in
      (subst Shown (sym (listed_at m n i None within)) h.0, below_listed m n flag i h.1, subst (λ (k : ℕ). i < k) (sym (listed_length m n)) within)

  pub listed_stopped : (unknown : A → Bool) → (i : ℕ) × IsOpenWithFlag unknown (get nat_cmp m i) × NoOpenEndBelowHasFlag flag (get nat_cmp m) i × Contains places i
      → (i : ℕ) × IsOpenWithFlag unknown (end_if_open_at (entries_below m n) i) × NoOpenEndBelowHasFlag flag (end_if_open_at (entries_below m n)) i × (i < length (entries_below m n))
  listed_stopped unknown h =
      let within : h.0 < n = below h.0 h.3 in
      (h.0, subst (IsOpenWithFlag unknown) (sym (listed_at m n h.0 None within)) h.1, below_listed m n flag h.0 h.2, subst (λ (k : ℕ). h.0 < k) (sym (listed_length m n)) within)

-- ---- what a search for a gone connection with an open exchange found

abbrev pub LostThere : List (Option Connection) → ℕ × Option ℕ → Type 0
LostThere xs p = (link_of_disconnected_exchange_at (end_if_open_at xs p.0) ≡ Some p.1) × NoOpenEndBelowHasFlag is_gone_with_exchange (end_if_open_at xs) p.0

lost_within : (xs : List (Option Connection)) (p : ℕ × Option ℕ) → LostThere xs p → p.0 < length xs
lost_within xs p h = inside xs p.0 (lost_some (end_if_open_at xs p.0) p.1 h.0)
  where
    lost_some : (o : Option Connection) (l : Option ℕ) → link_of_disconnected_exchange_at o ≡ Some l → is_some o ≡ true
    lost_some None l e = absurd (cc)
    lost_some (Some c) l e = refl

module _ (xs : List (Option Connection)) where
  pub lost_first : (r : Option (ℕ × Option ℕ)) → IfNone r (NoOpenEndHasFlag is_gone_with_exchange (end_if_open_at xs)) → IfSome r (LostThere xs) → (ss : List ConnectionModel) → ListsAreRelated ConnectionRepresents xs ss → IsFirstAtWhich IsGoneWhileBusy no_connection ss r
  lost_first None none some ss both = none_first ConnectionRepresents IsGoneWhileBusy is_gone_with_exchange no_connection xs unlost unlost_over none ss both
  lost_first (Some p) none some ss both =
      found_first ConnectionRepresents IsGoneWhileBusy is_gone_with_exchange no_connection xs unlost unlost_over p.0 p.1 (lost_within xs p some) (λ s h. lost (end_if_open_at xs p.0) s p.1 h some.0) some.1 ss both

  at_place : (p : ℕ × Option ℕ) → LostThere xs p → activity_at (activities_of_connections xs) p.0 ≡ activity_of_connection (end_if_open_at xs p.0)
  at_place p h = get_or-map activity_of_connection xs p.0 None Free (lost_within xs p h)

  pub lost_linked : (r : Option (ℕ × Option ℕ)) → IfSome r (LostThere xs) → IfSome r (λ p. link_place_of_activity (activity_at (activities_of_connections xs) p.0) ≡ p.1)
  lost_linked None some = tt
  lost_linked (Some p) some = ap link_place_of_activity (at_place p some) ∙ (lost_link (end_if_open_at xs p.0) p.1 some.0).2

  pub lost_open : (r : Option (ℕ × Option ℕ)) → IfSome r (LostThere xs) → IfSome r (λ p. has_exchange (activity_at (activities_of_connections xs) p.0) ≡ true)
  lost_open None some = tt
  lost_open (Some p) some = ap has_exchange (at_place p some) ∙ (lost_link (end_if_open_at xs p.0) p.1 some.0).1

  pub lost_gone : (r : Option (ℕ × Option ℕ)) → IfSome r (LostThere xs) → IfSome r (λ p. is_gone_if_connection (end_if_open_at xs p.0) ≡ Some true)
  lost_gone None some = tt
  lost_gone (Some p) some = (lost_link (end_if_open_at xs p.0) p.1 some.0).0

-- what a search for the first end at which something is due found
pub due_found : {A B C : Type 0} (R : Option A → B → Type 0) (P : B → Option C → Type 0) (flag : A → Bool) (d : B) (seen : Option A → Option C) (xs : List (Option A))
    → ((x : A) (y : B) → flag x ≡ false → R (Some x) y → P y None) → ((y : B) → R None y → P y None) → (r : Option ℕ)
    → MatchOption r (NoOpenEndHasFlag flag (end_if_open_at xs)) (λ i. LookaheadShowsWhatIsDue R P seen (end_if_open_at xs i) × NoOpenEndBelowHasFlag flag (end_if_open_at xs) i × (i < length xs)) → IsFirstPlaceFoundDue R P d seen xs r
due_found R P flag d seen xs hidden over None h = λ ys both. none_first R P flag d xs hidden over h ys both
due_found R P flag d seen xs hidden over (Some i) h =
    let some = some_from (seen (end_if_open_at xs i)) (sym h.0.0) in
    record {
      due = some.0;
      shown = some.1;
      first = λ ys both. found_first R P flag d xs hidden over i some.0 h.2 (λ y k. subst (λ o. P y o) some.1 (h.0.1 y k)) h.1 ys both;
    }
