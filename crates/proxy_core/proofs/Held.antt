-- No serial from the next one on is held: what the steps do to that.
use Rattle.std.proofs.Common.{◌≡◌, ℕ, ◌+◌, true, false, cond, ◌||◌, eqb, ltb, ◌^◌, Option, None, Some, List, [], ◌∷◌, ◌++◌, refl, sym, ◌∙◌, ap, subst, arith}
use Rattle.std.proofs.lemmas.Bool.{false≢true, eqb-true, ne_eqb, or_parts, false_from_ne_true}
use Rattle.std.proofs.lemmas.Option.{same_Some}
use Rattle.hx_store.specs.Stored.{Stored}
use Rattle.hx_store.specs.Shelf.{holds_serial, find_entry_of_serial, without_serials, entries_with_promoted, entries_with_first_if_any}
use Rattle.hx_store.specs.Weights.{StoreBounds, cut_to_bounds, weight_of_entry}
use Rattle.hx_store.proofs.EntryLists.{filter_keeps, find_holds}
use Rattle.hx_store.proofs.Fronts.{front_of_within}
use Rattle.proxy_core.specs.declared.replies.pending.Change.{Change}
use Rattle.proxy_core.specs.declared.replies.pending.Change.TheVariants.{Keep, Use, Freshen, Remove, Store}
use Rattle.proxy_core.specs.State.{NoSerialIsHeldFrom, entries_without_serials, serial_after_this, next_serial_after_storing}
use Rattle.proxy_core.specs.Pending.{serial_stored_by_change, entries_after_change, StoresUnderNextSerial, StoresNewSerial, FreshensHeldResponse}

front_none : (s : ℕ) (o : Option Stored) (es rest : List Stored) → ((x : Stored) → o ≡ Some x → holds_serial x.serial es ≡ true) →
    holds_serial s es ≡ false → holds_serial s rest ≡ false → holds_serial s (entries_with_first_if_any o rest) ≡ false
front_none s None es rest f h r = r
front_none s (Some x) es rest f h r =
    let other : eqb x.serial s ≡ false = false_from_ne_true _ (λ e. false≢true (sym h ∙ ap (λ z. holds_serial z es) (sym (eqb-true x.serial s e)) ∙ f x refl)) in
    ap (λ b. b || holds_serial s rest) other ∙ r

pub NoneFrom-promoted : (next : Option ℕ) (s : ℕ) (es zs : List Stored) → zs ≡ entries_with_promoted s es → NoSerialIsHeldFrom next es → NoSerialIsHeldFrom next zs
NoneFrom-promoted None s es zs e h = tt
NoneFrom-promoted (Some n) s es zs e h = λ t l.
    ap (holds_serial t) e ∙ front_none t (find_entry_of_serial s es) es (without_serials (s ∷ []) es) (λ x g. find_holds s es x g) (h t l) (filter_keeps _ t es (h t l))

NoneFrom-put : (n : ℕ) (gone : List ℕ) (es zs : List Stored) (x : Stored) → zs ≡ x ∷ without_serials gone es → x.serial ≡ n →
    NoSerialIsHeldFrom (Some n) es → NoSerialIsHeldFrom (Some (n + 1)) zs
NoneFrom-put n gone es zs x e k h = λ s l.
    ap (holds_serial s) e
    ∙ (ap (λ b. b || holds_serial s (without_serials gone es)) (ne_eqb x.serial s (λ q. absurd (omega arith))) ∙ filter_keeps _ s es (h s (omega arith)))

pub NoneFrom-next : (n : ℕ) (gone : List ℕ) (es zs : List Stored) (x : Stored) (last next : Option ℕ) → next ≡ serial_after_this n → zs ≡ x ∷ without_serials gone es →
    x.serial ≡ n → last ≡ Some n → NoSerialIsHeldFrom last es → NoSerialIsHeldFrom next zs
NoneFrom-next n gone es zs x last next m e k l h =
    let some : NoSerialIsHeldFrom (Some (n + 1)) zs = NoneFrom-put n gone es zs x e k (subst (λ o. NoSerialIsHeldFrom o es) l h) in
    let P : Option ℕ → Type 0 = λ o. NoSerialIsHeldFrom o zs in
    subst P (sym m) (elim (ltb (n + 1) (2 ^ 64)) as (λ b. P (cond b (Some (n + 1)) None)) [ true ↦ some | false ↦ tt ])

pub NoneFrom-taken : (next : Option ℕ) (gone : List ℕ) (es : List Stored) → NoSerialIsHeldFrom next es → NoSerialIsHeldFrom next (entries_without_serials gone es)
NoneFrom-taken next [] es h = h
NoneFrom-taken None (s ∷ gone) es h = tt
NoneFrom-taken (Some n) (s ∷ gone) es h = λ t l. filter_keeps _ t es (h t l)

-- what takes the place of a held response has its serial
pub NoneFrom-fresh : (next : Option ℕ) (e : Stored) (es : List Stored) → holds_serial e.serial es ≡ true → NoSerialIsHeldFrom next es → NoSerialIsHeldFrom next (e ∷ without_serials (e.serial ∷ []) es)
NoneFrom-fresh None e es held h = tt
NoneFrom-fresh (Some n) e es held h = λ t l.
    front_none t (Some e) es (without_serials (e.serial ∷ []) es) (λ x g. ap (λ (z : Stored). holds_serial z.serial es) (sym (same_Some e x g)) ∙ held) (h t l) (filter_keeps _ t es (h t l))

front_keeps : (s : ℕ) (front rest : List Stored) → holds_serial s (front ++ rest) ≡ false → holds_serial s front ≡ false
front_keeps s [] rest h = refl
front_keeps s (e ∷ front) rest h =
    let p = or_parts (eqb e.serial s) (holds_serial s (front ++ rest)) h in
    ap (λ b. b || holds_serial s front) p.0 ∙ front_keeps s front rest p.1

-- nor is one held once the last ones went
pub NoneFrom-cut : (next : Option ℕ) (bounds : StoreBounds) (es : List Stored) → NoSerialIsHeldFrom next es → NoSerialIsHeldFrom next (cut_to_bounds bounds es)
NoneFrom-cut None bounds es h = tt
NoneFrom-cut (Some n) bounds es h = λ t l.
    let q = front_of_within bounds weight_of_entry es in
    front_keeps t (cut_to_bounds bounds es) q.0 (ap (holds_serial t) q.1 ∙ h t l)

-- a pending reply leaves no serial held from the next one on
pub NoneFrom-finished : (bounds : StoreBounds) (next : Option ℕ) (removed : List ℕ) (c : Change) (es : List Stored) → StoresUnderNextSerial next c → FreshensHeldResponse c es → NoSerialIsHeldFrom next es
    → NoSerialIsHeldFrom (next_serial_after_storing next (serial_stored_by_change c)) (entries_after_change bounds removed c es)
NoneFrom-finished bounds next removed Keep es is held h = NoneFrom-taken next removed es h
NoneFrom-finished bounds next removed (Use serial) es is held h =
    NoneFrom-cut next bounds _ (NoneFrom-taken next removed (entries_with_promoted serial es) (NoneFrom-promoted next serial es _ refl h))
NoneFrom-finished bounds next removed (Freshen e) es is held h =
    NoneFrom-cut next bounds _ (NoneFrom-taken next removed _ (NoneFrom-fresh next e es held.0 h))
NoneFrom-finished bounds next removed (Remove serial) es is held h =
    NoneFrom-cut next bounds _ (NoneFrom-taken next removed _ (NoneFrom-taken next (serial ∷ []) es h))
NoneFrom-finished bounds next removed (Store e) es is held h =
    NoneFrom-cut (serial_after_this e.serial) bounds _ (NoneFrom-next e.serial removed es _ e next (serial_after_this e.serial) refl refl refl is h)

-- what has the next serial isn't held
pub next_is_new : (next : Option ℕ) (c : Change) (es : List Stored) → StoresUnderNextSerial next c → NoSerialIsHeldFrom next es → StoresNewSerial c es
next_is_new next Keep es is h = tt
next_is_new next (Use serial) es is h = tt
next_is_new next (Freshen e) es is h = tt
next_is_new next (Remove serial) es is h = tt
next_is_new next (Store e) es is h = subst (λ o. NoSerialIsHeldFrom o es) is h e.serial (omega arith)
