-- Lists of held responses, against what a function gives of each serial.
use Rattle.std.proofs.Common.{◌≡◌, ℕ, Bool, true, false, not, cond, ◌&&◌, ◌||◌, eqb, Option, Some, List, [], ◌∷◌, ◌++◌, refl, sym, ◌∙◌, ap, subst, inl, inr}
use Rattle.std.specs.Prelude.{map, option_map}
use Rattle.std.specs.List.{filter, filter_map, cons_option, list_any}
use Rattle.std.proofs.lemmas.Bool.{cases_Bool, eqb-true, eq-eqb, or_parts, false_from_ne_true, false≢true}
use Rattle.std.proofs.lemmas.Option.{same_Some}
use Rattle.hx_target.specs.declared.keys.Key.{Key}
use Rattle.hx_target.specs.Keys.{same_key}
use Rattle.hx_store.specs.Stored.{Stored}
use Rattle.hx_store.specs.Serials.{serial_is_in}
use Rattle.hx_store.specs.Weights.{StoreBounds, WeightsAreThoseOfEntries, cut_to_bounds, weight_of_entry}
use Rattle.hx_store.specs.Shelf.{serials, holds_serial, find_entry_of_serial, without_serials, serials_of_key, serials_of_entries_that_pass}
use Rattle.hx_store.proofs.FoundSerials.{finds_those}
use Rattle.hx_store.proofs.PassingEntries.{finds_passing}
use Rattle.hx_store.proofs.Fronts.{front_of_within}
use Rattle.proxy_core.specs.State.{entries_without_serials}
use Rattle.proxy_core.specs.Starts.{weight_of_stored_if_any}

pub serials-filter : (p : ℕ → Bool) (es : List Stored) → serials (filter (λ e. p e.serial) es) ≡ filter p (serials es)
serials-filter p [] = refl
serials-filter p (e ∷ es) = elim (p e.serial) as (λ b. serials (cond b (e ∷ filter (λ (e : Stored). p e.serial) es) (filter (λ (e : Stored). p e.serial) es)) ≡ cond b (e.serial ∷ filter p (serials es)) (filter p (serials es))) [
  | true ↦ ap (λ zs. e.serial ∷ zs) (serials-filter p es)
  | false ↦ serials-filter p es
]

without_nil : (es : List Stored) → without_serials [] es ≡ es
without_nil [] = refl
without_nil (e ∷ es) = ap (λ zs. e ∷ zs) (without_nil es)

pub taken_is : (gone : List ℕ) (es : List Stored) → entries_without_serials gone es ≡ without_serials gone es
taken_is [] es = sym (without_nil es)
taken_is (s ∷ gone) es = refl

pub serials-taken : (rm : List ℕ) (es : List Stored) → serials (entries_without_serials rm es) ≡ filter (λ s. not (serial_is_in s rm)) (serials es)
serials-taken rm es = ap serials (taken_is rm es) ∙ serials-filter (λ s. not (serial_is_in s rm)) es

-- each response is what the function gives at its serial
pub EachIs : (ℕ → Option Stored) → List Stored → Type 0
EachIs look [] = Unit {0}
EachIs look (e ∷ es) = (look e.serial ≡ Some e) × EachIs look es

pub EachIs-nil : (look : ℕ → Option Stored) → EachIs look []
unfolding EachIs
EachIs-nil look = tt

pub EachIs-all : (look : ℕ → Option Stored) (es : List Stored) → EachIs look es → filter_map look (serials es) ≡ es
unfolding EachIs
EachIs-all look [] h = refl
EachIs-all look (e ∷ es) h = ap (λ o. cons_option o (filter_map look (serials es))) h.0 ∙ ap (λ zs. e ∷ zs) (EachIs-all look es h.1)

pub EachIs-filter : (look : ℕ → Option Stored) (p : Stored → Bool) (es : List Stored) → EachIs look es → EachIs look (filter p es)
unfolding EachIs
EachIs-filter look p [] h = tt
EachIs-filter look p (e ∷ es) h = elim (p e) as (λ b. EachIs look (cond b (e ∷ filter p es) (filter p es))) [
  | true ↦ (h.0, EachIs-filter look p es h.1)
  | false ↦ EachIs-filter look p es h.1
]

EachIs-front : (look : ℕ → Option Stored) (front rest : List Stored) → EachIs look (front ++ rest) → EachIs look front
unfolding EachIs
EachIs-front look [] rest h = tt
EachIs-front look (e ∷ front) rest h = (h.0, EachIs-front look front rest h.1)

pub EachIs-cut : (look : ℕ → Option Stored) (bounds : StoreBounds) (es : List Stored) → EachIs look es → EachIs look (cut_to_bounds bounds es)
EachIs-cut look bounds es h =
    let q = front_of_within bounds weight_of_entry es in
    EachIs-front look (cut_to_bounds bounds es) q.0 (subst (EachIs look) (sym q.1) h)

-- by these weights of serials each weighs what it does
pub EachIs-weights : (look : ℕ → Option Stored) (es : List Stored) → EachIs look es → WeightsAreThoseOfEntries (λ s. weight_of_stored_if_any (look s)) es
unfolding EachIs
EachIs-weights look [] h = tt
EachIs-weights look (e ∷ es) h = (ap weight_of_stored_if_any h.0, EachIs-weights look es h.1)

pub EachIs-taken : (look : ℕ → Option Stored) (rm : List ℕ) (es : List Stored) → EachIs look es → EachIs look (entries_without_serials rm es)
EachIs-taken look [] es h = h
EachIs-taken look (s ∷ rm) es h = EachIs-filter look (λ e. not (serial_is_in e.serial (s ∷ rm))) es h

pub EachIs-cons : (look : ℕ → Option Stored) (e : Stored) (es : List Stored) → look e.serial ≡ Some e → EachIs look es → EachIs look (e ∷ es)
unfolding EachIs
EachIs-cons look e es k h = (k, h)

-- another function that gives the same but at a serial that none of these has
pub EachIs-but : (look other : ℕ → Option Stored) (s : ℕ) (es : List Stored) → holds_serial s es ≡ false → ((t : ℕ) → eqb s t ≡ false → other t ≡ look t) →
    EachIs look es → EachIs other es
unfolding EachIs
EachIs-but look other s [] h k g = tt
EachIs-but look other s (e ∷ es) h k g =
    let p = or_parts (eqb e.serial s) (holds_serial s es) h in
    let off : eqb s e.serial ≡ false = false_from_ne_true _ (λ q. false≢true (sym p.0 ∙ eq-eqb e.serial s (sym (eqb-true s e.serial q)))) in
    (k e.serial off ∙ g.0, EachIs-but look other s es p.1 k g.1)

pub EachIs-same : (look other : ℕ → Option Stored) (es : List Stored) → ((s : ℕ) → other s ≡ look s) → EachIs look es → EachIs other es
EachIs-same look other es k h = subst (λ f. EachIs f es) (λ i. λ s. k' s i) h
  where
    k' : (s : ℕ) → look s ≡ other s
    k' s = sym (k s)

-- each under its serial is changed by a function that leaves the serial
pub EachIs-map : (f : Stored → Stored) → ((e : Stored) → (f e).serial ≡ e.serial) → (look : ℕ → Option Stored) (es : List Stored) → EachIs look es → EachIs (λ s. option_map f (look s)) (map f es)
unfolding EachIs
EachIs-map f same look [] h = tt
EachIs-map f same look (e ∷ es) h = (ap (λ s. option_map f (look s)) (same e) ∙ ap (option_map f) h.0, EachIs-map f same look es h.1)

pub EachIs-find : (look : ℕ → Option Stored) (s : ℕ) (es : List Stored) (e : Stored) → find_entry_of_serial s es ≡ Some e → EachIs look es → look s ≡ Some e
unfolding EachIs
EachIs-find look s [] e f g = absurd (cc)
EachIs-find look s (x ∷ es) e f g = elim (cases_Bool (eqb x.serial s)) [
  | inl t ↦ (
      let k : x ≡ e = same_Some x e (sym (ap (λ b. cond b (Some x) (find_entry_of_serial s es)) t) ∙ f) in
      ap look (sym (eqb-true x.serial s t)) ∙ g.0 ∙ ap (λ y. Some y) k
      )
  | inr n ↦ EachIs-find look s es e (sym (ap (λ b. cond b (Some x) (find_entry_of_serial s es)) n) ∙ f) g.1
]

-- a held serial has its response
pub held_found : (s : ℕ) (es : List Stored) → holds_serial s es ≡ true → (e : Stored) × (find_entry_of_serial s es ≡ Some e)
held_found s [] h = absurd (false≢true h)
held_found s (e ∷ es) h = go (eqb e.serial s) refl (held_found s es)
  where
    go : (b : Bool) → eqb e.serial s ≡ b → (holds_serial s es ≡ true → (x : Stored) × (find_entry_of_serial s es ≡ Some x)) → (x : Stored) × (find_entry_of_serial s (e ∷ es) ≡ Some x)
    go true k f = (e, ap (λ b. cond b (Some e) (find_entry_of_serial s es)) k)
    go false k f =
        let r = f (sym (ap (λ b. b || holds_serial s es) k) ∙ h) in (r.0, ap (λ b. cond b (Some e) (find_entry_of_serial s es)) k ∙ r.1)

and_none : (a : Bool) → (a && false) ≡ false
and_none true = refl
and_none false = refl

none_any : (key : Key) (s : ℕ) (es : List Stored) → holds_serial s es ≡ false → list_any (λ (e : Stored). same_key e.key key && eqb e.serial s) es ≡ false
none_any key s [] h = refl
none_any key s (e ∷ es) h =
    let p = or_parts (eqb e.serial s) (holds_serial s es) h in
    ap (λ b. (same_key e.key key && b) || list_any (λ (e : Stored). same_key e.key key && eqb e.serial s) es) p.0
    ∙ ap (λ b. b || list_any (λ (e : Stored). same_key e.key key && eqb e.serial s) es) (and_none (same_key e.key key))
    ∙ none_any key s es p.1

-- what isn't held isn't found of a key
pub none_of_key : (key : Key) (s : ℕ) (es : List Stored) → holds_serial s es ≡ false → serial_is_in s (serials_of_key key es) ≡ false
none_of_key key s es h = finds_those key s es ∙ none_any key s es h

some_any : (passes : Stored → Bool) (s : ℕ) (es : List Stored) (e : Stored) → find_entry_of_serial s es ≡ Some e → passes e ≡ true →
    list_any (λ (e : Stored). passes e && eqb e.serial s) es ≡ true
some_any passes s [] e f h = absurd (cc)
some_any passes s (x ∷ es) e f h = elim (cases_Bool (eqb x.serial s)) [
  | inl t ↦ (
      let same : x ≡ e = same_Some x e (sym (ap (λ b. cond b (Some x) (find_entry_of_serial s es)) t) ∙ f) in
      ap (λ b. (passes x && b) || list_any (λ (e : Stored). passes e && eqb e.serial s) es) t
      ∙ ap (λ b. (b && true) || list_any (λ (e : Stored). passes e && eqb e.serial s) es) (ap passes same ∙ h)
      )
  | inr n ↦ (
      let more = some_any passes s es e (sym (ap (λ b. cond b (Some x) (find_entry_of_serial s es)) n) ∙ f) h in
      ap (λ b. (passes x && b) || list_any (λ (e : Stored). passes e && eqb e.serial s) es) n
      ∙ ap (λ b. b || list_any (λ (e : Stored). passes e && eqb e.serial s) es) (and_none (passes x))
      ∙ more
      )
]

-- what is held and passes a test is found by it
pub some_passing : (passes : Stored → Bool) (s : ℕ) (es : List Stored) (e : Stored) → find_entry_of_serial s es ≡ Some e → passes e ≡ true → serial_is_in s (serials_of_entries_that_pass passes es) ≡ true
some_passing passes s es e f h = finds_passing passes s es ∙ some_any passes s es e f h
