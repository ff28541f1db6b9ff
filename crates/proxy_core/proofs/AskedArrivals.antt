-- Who asks for a key, among exchanges that were changed: the indexes still tell just them. And the first that leads.
use Rattle.std.proofs.Common.{◌≡◌, ◌<◌, ◌==◌, ℕ, Bool, true, false, cond, ◌&&◌, ◌||◌, eqb, Option, None, Some, List, [], ◌∷◌, ◌++◌, refl, sym, ◌∙◌, ap, inl, inr, not}
use Rattle.std.specs.Ordering.{nat_cmp}
use Rattle.std.specs.BTreeMap.{is_at}
use Rattle.std.specs.List.{All, list_any}
use Rattle.std.specs.List.Sorted.{IsStrictlySortedBy}
use Rattle.std.specs.Map.{lookup, remove_entry, set_value, keys_of, values_of}
use Rattle.std.proofs.lemmas.Bool.{cases_Bool, eqb-true, eq-eqb, false≢true}
use Rattle.std.proofs.lemmas.Option.{same_Some}
use Rattle.std.specs.Prelude.{option_map}
use Rattle.hx_allow.specs.TableLines.{Table}
use Rattle.hx_policy.specs.declared.words.Policy.{Policy}
use Rattle.hx_target.specs.declared.keys.Key.{Key}
use Rattle.hx_target.specs.Keys.{same_key}
use Rattle.proxy_core.specs.declared.open.exchange.Exchange.{Exchange}
use Rattle.proxy_core.specs.declared.open.arrivals_by_key.ArrivalsByKey.{ArrivalsByKey}
use Rattle.proxy_core.specs.declared.open.key_index.ArrivalKeyIndex.{ArrivalKeyIndex}
use Rattle.hx_hop.specs.declared.request_view.Asked.{Asked}
use Rattle.proxy_core.specs.declared.open.stage.Stage.{Stage}
use Rattle.proxy_core.specs.declared.open.stage.Stage.TheVariants.{Forwarded, Waiting, Released}
use Rattle.proxy_core.specs.Leading.{is_get, is_forwarded, waits_for, exchange_went_forward_for_awaited, answer_may_serve, is_leader_for_request, leader}
use Rattle.proxy_core.specs.declared.open.awaited.Awaited.{Awaited}
use Rattle.proxy_core.specs.Scopes.{Scope, key_is_in_scope}
use Rattle.proxy_core.specs.State.{exchange_released_from_leader, exchange_overtaken_if_in_scope}
use Rattle.proxy_core.specs.Arrivals.{HaveDistinctArrivalsAndIds, SelectedArrivalsPassTest, WaitingArrivalsPassTest, IsExactIndexOfSelected, exchanges_each_changed}
use Rattle.proxy_core.specs.ByKey.{is_get_at_origin_for_key, is_get_for_key_not_at_origin, is_for_key_but_no_get_at_origin, ArrivalIsMovedToOrigin, arrival_is_in_key_index, ArrivalsOfGetsAtOriginPassTest, ArrivalIsAddedIfSelected, ArrivalIsRemovedIfSelected, KeyIndexesHaveSameMembers, ArrivalIsNotInKeyIndex, ArrivalIsAddedToItsKeyIndex, ArrivalIsRemovedFromItsKeyIndex, ArrivalsByKeyAreUnchanged, ArrivalIsInNeitherKeyIndex, ArrivalsByKeyAreExact}
use Rattle.proxy_core.proofs.Indexed.{lookup-removed, not_indexed, indexes-entered, indexes-left, indexes-written, indexes-on_all}
use Rattle.proxy_core.specs.LeadingOn.{may_lead_next, as_next_leader, first_waiter_to_lead, exchanges_without}
use Rattle.proxy_core.proofs.FirstOf.{first_of, FirstIsLeft, none_passes, none_left, not_there, not_passing, it_is_first}
use Rattle.proxy_core.proofs.Waiters.{none_has, overtake-stage}

abbrev Numbered : Type 0
Numbered = List (ℕ × Exchange)

abbrev at : ℕ → ℕ → Bool
at n k = is_at (nat_cmp n) k

-- one index, of the exchanges that ask so
abbrev TellsAll : (Key → Exchange → Bool) → ArrivalKeyIndex → Numbered → Type 0
TellsAll which index es = (key : Key) → IsExactIndexOfSelected (which key) (arrival_is_in_key_index index key) es

not_told : (which : Key → Exchange → Bool) (n : ℕ) (es : Numbered) (index : ArrivalKeyIndex) → All (λ k. k < n) (keys_of es) → TellsAll which index es → ArrivalIsNotInKeyIndex n index
not_told which n es index l h key = not_indexed (which key) (arrival_is_in_key_index index key) n es (none_has n es l) (h key)

told-entered : (which : Key → Exchange → Bool) (n : ℕ) (x : Exchange) (es : Numbered) (old new : ArrivalKeyIndex) → All (λ k. k < n) (keys_of es) → ArrivalIsAddedIfSelected which x n old new →
    TellsAll which old es → TellsAll which new (es ++ (n, x) ∷ [])
told-entered which n x es old new l k h key = indexes-entered (which key) n x (arrival_is_in_key_index old key) (arrival_is_in_key_index new key) es (none_has n es l) (k key) (h key)

told-again : (which : Key → Exchange → Bool) (es : Numbered) (old new : ArrivalKeyIndex) → KeyIndexesHaveSameMembers old new → TellsAll which old es → TellsAll which new es
told-again which es old new k h key m = k key m ∙ h key m

told-closed : (which : Key → Exchange → Bool) (n : ℕ) (x : Exchange) (es : Numbered) (old new : ArrivalKeyIndex) → HaveDistinctArrivalsAndIds es → lookup (at n) es ≡ Some x → ArrivalIsRemovedIfSelected which x n old new →
    TellsAll which old es → TellsAll which new (remove_entry (at n) es)
told-closed which n x es old new a there k h key =
    indexes-left (which key) n x None (arrival_is_in_key_index old key) (arrival_is_in_key_index new key) es (remove_entry (at n) es) there refl (λ m. lookup-removed m n es a) (k key) (h key)

told-on_all : (which : Key → Exchange → Bool) (f : Exchange → Exchange) → ((key : Key) (x : Exchange) → which key (f x) ≡ which key x) → (es : Numbered) (index : ArrivalKeyIndex) → TellsAll which index es → TellsAll which index (exchanges_each_changed f es)
told-on_all which f k es index h key =
    indexes-on_all (which key) f (λ b. b) (arrival_is_in_key_index index key) (arrival_is_in_key_index index key) es refl (k key) (λ m. refl) (h key)

-- what was put in and taken out again leaves what was there
again-nothing : (which : Key → Exchange → Bool) (n : ℕ) (x : Exchange) (old mid new : ArrivalKeyIndex) → ArrivalIsNotInKeyIndex n old → ArrivalIsAddedIfSelected which x n old mid → ArrivalIsRemovedIfSelected which x n mid new → KeyIndexesHaveSameMembers old new
again-nothing which n x old mid new not_there put out key m = elim (cases_Bool (eqb n m)) [
  | inl t ↦ (
      let none : arrival_is_in_key_index old key m ≡ false = ap (arrival_is_in_key_index old key) (sym (eqb-true n m t)) ∙ not_there key in
      out key m ∙ ap (λ b. not (which key x && eqb n m) && b) (put key m)
      ∙ ap (λ b. not (which key x && b) && ((which key x && b) || arrival_is_in_key_index old key m)) t
      ∙ ap (λ b. not (which key x && true) && ((which key x && true) || b)) none ∙ gone (which key x) ∙ sym none
      )
  | inr f ↦ (
      out key m ∙ ap (λ b. not (which key x && eqb n m) && b) (put key m)
      ∙ ap (λ b. not (which key x && b) && ((which key x && b) || arrival_is_in_key_index old key m)) f
      ∙ stays (which key x) (arrival_is_in_key_index old key m)
      )
]
  where
    gone : (a : Bool) → (not (a && true) && ((a && true) || false)) ≡ false
    gone true = refl
    gone false = refl

    stays : (a b : Bool) → (not (a && false) && ((a && false) || b)) ≡ b
    stays true b = refl
    stays false b = refl

-- both
pub asked-nothing : (n : ℕ) (x : Exchange) (old mid new : ArrivalsByKey) → ArrivalIsInNeitherKeyIndex n old → ArrivalIsAddedToItsKeyIndex x n old mid → ArrivalIsRemovedFromItsKeyIndex x n mid new → ArrivalsByKeyAreUnchanged old new
asked-nothing n x old mid new not_there put out = (
  again-nothing is_get_at_origin_for_key n x old.gets mid.gets new.gets not_there.0 put.0 out.0,
  again-nothing is_for_key_but_no_get_at_origin n x old.others mid.others new.others not_there.1 put.1 out.1,
)

pub asked-not : (n : ℕ) (es : Numbered) (by_key : ArrivalsByKey) → All (λ k. k < n) (keys_of es) → ArrivalsByKeyAreExact by_key es → ArrivalIsInNeitherKeyIndex n by_key
asked-not n es by_key l h = (not_told is_get_at_origin_for_key n es by_key.gets l h.0, not_told is_for_key_but_no_get_at_origin n es by_key.others l h.1)

pub asked-entered : (n : ℕ) (x : Exchange) (es : Numbered) (old new : ArrivalsByKey) → All (λ k. k < n) (keys_of es) → ArrivalIsAddedToItsKeyIndex x n old new →
    ArrivalsByKeyAreExact old es → ArrivalsByKeyAreExact new (es ++ (n, x) ∷ [])
asked-entered n x es old new l k h =
    (told-entered is_get_at_origin_for_key n x es old.gets new.gets l k.0 h.0, told-entered is_for_key_but_no_get_at_origin n x es old.others new.others l k.1 h.1)

pub asked-again : (es : Numbered) (old new : ArrivalsByKey) → ArrivalsByKeyAreUnchanged old new → ArrivalsByKeyAreExact old es → ArrivalsByKeyAreExact new es
asked-again es old new k h = (told-again is_get_at_origin_for_key es old.gets new.gets k.0 h.0, told-again is_for_key_but_no_get_at_origin es old.others new.others k.1 h.1)

pub asked-closed : (n : ℕ) (x : Exchange) (es : Numbered) (old new : ArrivalsByKey) → HaveDistinctArrivalsAndIds es → lookup (at n) es ≡ Some x → ArrivalIsRemovedFromItsKeyIndex x n old new →
    ArrivalsByKeyAreExact old es → ArrivalsByKeyAreExact new (remove_entry (at n) es)
asked-closed n x es old new a there k h =
    (told-closed is_get_at_origin_for_key n x es old.gets new.gets a there k.0 h.0, told-closed is_for_key_but_no_get_at_origin n x es old.others new.others a there k.1 h.1)

-- a change that leaves what each asks for, and whether it is at the origin
abbrev pub KeepsItsPlace : (Exchange → Exchange) → Type 0
KeepsItsPlace f = (x : Exchange) → ((f x).asked ≡ x.asked) × (is_forwarded (f x).stage ≡ is_forwarded x.stage)

pub asked-on_all : (f : Exchange → Exchange) → KeepsItsPlace f → (es : Numbered) (by_key : ArrivalsByKey) → ArrivalsByKeyAreExact by_key es → ArrivalsByKeyAreExact by_key (exchanges_each_changed f es)
asked-on_all f k es by_key h = (
  told-on_all is_get_at_origin_for_key f at_origin es by_key.gets h.0,
  told-on_all is_for_key_but_no_get_at_origin f other_place es by_key.others h.1,
)
  where
    at_origin : (key : Key) (x : Exchange) → is_get_at_origin_for_key key (f x) ≡ is_get_at_origin_for_key key x
    at_origin key x =
        ap (λ (a : Asked). same_key a.target.key key && (is_get a && is_forwarded (f x).stage)) (k x).0
        ∙ ap (λ b. same_key x.asked.target.key key && (is_get x.asked && b)) (k x).1

    other_place : (key : Key) (x : Exchange) → is_for_key_but_no_get_at_origin key (f x) ≡ is_for_key_but_no_get_at_origin key x
    other_place key x =
        ap (λ (a : Asked). same_key a.target.key key && not (is_get a && is_forwarded (f x).stage)) (k x).0
        ∙ ap (λ b. same_key x.asked.target.key key && not (is_get x.asked && b)) (k x).1

-- whoever is released waited, and so wasn't at the origin
pub release-place : (q : ℕ) → KeepsItsPlace (exchange_released_from_leader q)
release-place q x = (
  elim (waits_for q x.stage) as (λ b. (cond b (record x { stage = Released }) x).asked ≡ x.asked) [ true ↦ refl | false ↦ refl ],
  elim (cases_Bool (waits_for q x.stage)) [
    | inl t ↦ ap (λ b. is_forwarded (cond b (record x { stage = Released }) x).stage) t ∙ sym (not_yet x.stage t)
    | inr f ↦ ap (λ b. is_forwarded (cond b (record x { stage = Released }) x).stage) f
  ],
)
  where
    not_yet : (s : Stage) → waits_for q s ≡ true → is_forwarded s ≡ false
    not_yet Forwarded h = absurd (false≢true h)
    not_yet (Waiting leader) h = refl
    not_yet Released h = refl

pub overtake-place : (key : Scope) → KeepsItsPlace (exchange_overtaken_if_in_scope key)
overtake-place key x = (
  elim (key_is_in_scope key x.asked.target.key) as (λ b. (cond b (record x { overtaken = true }) x).asked ≡ x.asked) [ true ↦ refl | false ↦ refl ],
  ap is_forwarded (overtake-stage key x),
)

-- ---- going forward

-- one exchange was written at its number: the index tells of it what holds now, and of the others what it told
told-written : (which : Key → Exchange → Bool) (n : ℕ) (x y : Exchange) (es : Numbered) (old new : ArrivalKeyIndex) → lookup (at n) es ≡ Some x →
    ((key : Key) (m : ℕ) → eqb n m ≡ false → arrival_is_in_key_index new key m ≡ arrival_is_in_key_index old key m) →
    ((key : Key) → arrival_is_in_key_index old key n ≡ which key x → arrival_is_in_key_index new key n ≡ which key y) →
    TellsAll which old es → TellsAll which new (set_value (at n) es y)
told-written which n x y es old new there beside here h key =
    indexes-written (which key) n x y (arrival_is_in_key_index old key) (arrival_is_in_key_index new key) es there (beside key) (here key) (h key)

pub asked-moved : (n : ℕ) (x y : Exchange) (es : Numbered) (old new : ArrivalsByKey) → lookup (at n) es ≡ Some x → y.asked ≡ x.asked → is_forwarded y.stage ≡ true →
    ArrivalIsMovedToOrigin x n old new → ArrivalsByKeyAreExact old es → ArrivalsByKeyAreExact new (set_value (at n) es y)
asked-moved n x y es old new there asks out k h = (
  told-written is_get_at_origin_for_key n x y es old.gets new.gets there gets_beside gets_here h.0,
  told-written is_for_key_but_no_get_at_origin n x y es old.others new.others there others_beside others_here h.1,
)
  where
    itself : eqb n n ≡ true
    itself = eq-eqb n n refl

    put_beside : (a b : Bool) → ((a && false) || b) ≡ b
    put_beside true b = refl
    put_beside false b = refl

    out_beside : (a b : Bool) → (not (a && false) && b) ≡ b
    out_beside true b = refl
    out_beside false b = refl

    gets_beside : (key : Key) (m : ℕ) → eqb n m ≡ false → arrival_is_in_key_index new.gets key m ≡ arrival_is_in_key_index old.gets key m
    gets_beside key m o = k.0 key m ∙ ap (λ b. (is_get_for_key_not_at_origin key x && b) || arrival_is_in_key_index old.gets key m) o ∙ put_beside (is_get_for_key_not_at_origin key x) (arrival_is_in_key_index old.gets key m)

    others_beside : (key : Key) (m : ℕ) → eqb n m ≡ false → arrival_is_in_key_index new.others key m ≡ arrival_is_in_key_index old.others key m
    others_beside key m o = k.1 key m ∙ ap (λ b. not (is_get_for_key_not_at_origin key x && b) && arrival_is_in_key_index old.others key m) o ∙ out_beside (is_get_for_key_not_at_origin key x) (arrival_is_in_key_index old.others key m)

    -- by the key, the method, and whether it was at the origin
    put_here : (s g f : Bool) → (((s && (g && not f)) && true) || (s && (g && f))) ≡ (s && (g && true))
    put_here true true true = refl
    put_here true true false = refl
    put_here true false f = refl
    put_here false g f = refl

    out_here : (s g f : Bool) → (not ((s && (g && not f)) && true) && (s && not (g && f))) ≡ (s && not (g && true))
    out_here true true true = refl
    out_here true true false = refl
    out_here true false f = refl
    out_here false g f = refl

    gets_here : (key : Key) → arrival_is_in_key_index old.gets key n ≡ is_get_at_origin_for_key key x → arrival_is_in_key_index new.gets key n ≡ is_get_at_origin_for_key key y
    gets_here key was =
        k.0 key n ∙ ap (λ b. (is_get_for_key_not_at_origin key x && b) || arrival_is_in_key_index old.gets key n) itself
        ∙ ap (λ b. (is_get_for_key_not_at_origin key x && true) || b) was
        ∙ put_here (same_key x.asked.target.key key) (is_get x.asked) (is_forwarded x.stage)
        ∙ ap (λ (a : Asked). same_key a.target.key key && (is_get a && true)) (sym asks)
        ∙ ap (λ b. same_key y.asked.target.key key && (is_get y.asked && b)) (sym out)

    others_here : (key : Key) → arrival_is_in_key_index old.others key n ≡ is_for_key_but_no_get_at_origin key x → arrival_is_in_key_index new.others key n ≡ is_for_key_but_no_get_at_origin key y
    others_here key was =
        k.1 key n ∙ ap (λ b. not (is_get_for_key_not_at_origin key x && b) && arrival_is_in_key_index old.others key n) itself
        ∙ ap (λ b. not (is_get_for_key_not_at_origin key x && true) && b) was
        ∙ out_here (same_key x.asked.target.key key) (is_get x.asked) (is_forwarded x.stage)
        ∙ ap (λ (a : Asked). same_key a.target.key key && not (is_get a && true)) (sym asks)
        ∙ ap (λ b. same_key y.asked.target.key key && not (is_get y.asked && b)) (sym out)

-- what is written as it was is nothing new
pub written_again : (n : ℕ) (x : Exchange) (es : Numbered) → lookup (at n) es ≡ Some x → set_value (at n) es x ≡ es
written_again n x [] h = absurd (cc)
written_again n x (e ∷ es) h = elim (cases_Bool (at n e.0)) [
  | inl t ↦ (
      ap (λ b. cond b ((e.0, x) ∷ es) (e ∷ set_value (at n) es x)) t
      ∙ ap (λ (y : Exchange). (e.0, y) ∷ es) (sym (same_Some e.1 x (sym (ap (λ b. cond b (Some e.1) (lookup (at n) es)) t) ∙ h)))
      )
  | inr f ↦ (
      ap (λ b. cond b ((e.0, x) ∷ es) (e ∷ set_value (at n) es x)) f
      ∙ ap (λ (zs : Numbered). e ∷ zs) (written_again n x es (sym (ap (λ b. cond b (Some e.1) (lookup (at n) es)) f) ∙ h))
      )
]

-- ---- the first that leads

-- those that lead have numbers that are still to come, and these ascend
abbrev pub LeadersLeft : Policy → Awaited → Asked → List ℕ → Numbered → Type 0
LeadersLeft policy awaited asked ns es = FirstIsLeft (is_leader_for_request policy awaited asked) ns es

leader_is : (policy : Policy) (awaited : Awaited) (asked : Asked) (xs : List Exchange) → leader policy awaited asked xs ≡ option_map (λ (x : Exchange). x.id) (first_of (is_leader_for_request policy awaited asked) xs)
leader_is policy awaited asked [] = refl
leader_is policy awaited asked (x ∷ xs) =
    ap (λ (o : Option ℕ). cond (is_leader_for_request policy awaited asked x) (Some x.id) o) (leader_is policy awaited asked xs)
    ∙ (elim (is_leader_for_request policy awaited asked x) as (λ b. cond b (Some x.id) (option_map (λ (x : Exchange). x.id) (first_of (is_leader_for_request policy awaited asked) xs)) ≡ option_map (λ (x : Exchange). x.id) (cond b (Some x) (first_of (is_leader_for_request policy awaited asked) xs))) [ true ↦ refl | false ↦ refl ])

parts : (a b c d : Bool) → (a && (b && (c && d))) ≡ true → (a && (b && c)) ≡ true
parts true true true d h = refl
parts true true false d h = absurd (false≢true h)
parts true false c d h = absurd (false≢true h)
parts false b c d h = absurd (false≢true h)

gets_lead : (policy : Policy) (awaited : Awaited) (asked : Asked) (p : ℕ → Bool) (es : Numbered) → ArrivalsOfGetsAtOriginPassTest asked.target.key p es → SelectedArrivalsPassTest (is_leader_for_request policy awaited asked) p es
gets_lead policy awaited asked p [] h = tt
gets_lead policy awaited asked p (e ∷ es) h =
    (λ w. h.0 (parts (same_key e.1.asked.target.key asked.target.key) (is_get e.1.asked) (is_forwarded e.1.stage) (exchange_went_forward_for_awaited awaited e.1 && answer_may_serve policy asked e.1) w), gets_lead policy awaited asked p es h.1)

pub leaders : (policy : Policy) (awaited : Awaited) (asked : Asked) (ns : List ℕ) (es : Numbered) → IsStrictlySortedBy nat_cmp ns → ArrivalsOfGetsAtOriginPassTest asked.target.key (λ k. list_any (λ n. at k n) ns) es → LeadersLeft policy awaited asked ns es
leaders policy awaited asked ns es s h = (gets_lead policy awaited asked (λ k. list_any (λ n. at k n) ns) es h, s)

pub none_leads : (policy : Policy) (awaited : Awaited) (asked : Asked) (es : Numbered) → LeadersLeft policy awaited asked [] es → leader policy awaited asked (values_of es) ≡ None
none_leads policy awaited asked es h = leader_is policy awaited asked (values_of es) ∙ ap (option_map (λ (x : Exchange). x.id)) (none_left (is_leader_for_request policy awaited asked) es h)

pub none_asks : (policy : Policy) (awaited : Awaited) (asked : Asked) (es : Numbered) → ArrivalsOfGetsAtOriginPassTest asked.target.key (λ k. false) es → leader policy awaited asked (values_of es) ≡ None
none_asks policy awaited asked es h =
    leader_is policy awaited asked (values_of es)
    ∙ ap (option_map (λ (x : Exchange). x.id)) (none_passes (is_leader_for_request policy awaited asked) es (gets_lead policy awaited asked (λ k. false) es h))

-- one that isn't open
pub not_open : (policy : Policy) (awaited : Awaited) (asked : Asked) (n : ℕ) (ns : List ℕ) (es : Numbered) → None ≡ lookup (at n) es → LeadersLeft policy awaited asked (n ∷ ns) es → LeadersLeft policy awaited asked ns es
not_open policy awaited asked n ns es none h = not_there (is_leader_for_request policy awaited asked) n ns es none h

-- one that doesn't lead
pub not_leading : (policy : Policy) (awaited : Awaited) (asked : Asked) (n : ℕ) (x : Exchange) (ns : List ℕ) (es : Numbered) → IsStrictlySortedBy nat_cmp (keys_of es) → Some x ≡ lookup (at n) es → is_leader_for_request policy awaited asked x ≡ false →
    LeadersLeft policy awaited asked (n ∷ ns) es → LeadersLeft policy awaited asked ns es
not_leading policy awaited asked n x ns es s there idle h = not_passing (is_leader_for_request policy awaited asked) n x ns es s there idle h

-- one that does
pub it_leads : (policy : Policy) (awaited : Awaited) (asked : Asked) (n : ℕ) (x : Exchange) (ns : List ℕ) (es : Numbered) → IsStrictlySortedBy nat_cmp (keys_of es) → Some x ≡ lookup (at n) es → is_leader_for_request policy awaited asked x ≡ true →
    LeadersLeft policy awaited asked (n ∷ ns) es → Some x.id ≡ leader policy awaited asked (values_of es)
it_leads policy awaited asked n x ns es s there active h =
    ap (option_map (λ (x : Exchange). x.id)) (it_is_first (is_leader_for_request policy awaited asked) n x ns es s there active h) ∙ sym (leader_is policy awaited asked (values_of es))

-- ---- the first that leads on

-- of those that wait for an id the first that may lead on, but for the one of that id
abbrev pub leads_on_for : Table → ℕ → Exchange → Bool
leads_on_for table id x = not (x.id == id) && (waits_for id x.stage && may_lead_next table x)

pub first_to_lead_on_is : (table : Table) (id : ℕ) (xs : List Exchange) → first_waiter_to_lead table id (exchanges_without id xs) ≡ option_map as_next_leader (first_of (leads_on_for table id) xs)
first_to_lead_on_is table id [] = refl
first_to_lead_on_is table id (x ∷ xs) = by_id (first_to_lead_on_is table id xs) (x.id == id)
  where
    by_test : first_waiter_to_lead table id (exchanges_without id xs) ≡ option_map as_next_leader (first_of (leads_on_for table id) xs) → (b : Bool) →
        cond b (Some (as_next_leader x)) (first_waiter_to_lead table id (exchanges_without id xs)) ≡ option_map as_next_leader (cond b (Some x) (first_of (leads_on_for table id) xs))
    by_test rest true = refl
    by_test rest false = rest

    by_id : first_waiter_to_lead table id (exchanges_without id xs) ≡ option_map as_next_leader (first_of (leads_on_for table id) xs) → (b : Bool) →
        first_waiter_to_lead table id (cond (not b) (x ∷ exchanges_without id xs) (exchanges_without id xs)) ≡ option_map as_next_leader (cond (not b && (waits_for id x.stage && may_lead_next table x)) (Some x) (first_of (leads_on_for table id) xs))
    by_id rest true = rest
    by_id rest false = by_test rest (waits_for id x.stage && may_lead_next table x)

waiters_lead_on : (table : Table) (id : ℕ) (p : ℕ → Bool) (es : Numbered) → WaitingArrivalsPassTest id p es → SelectedArrivalsPassTest (leads_on_for table id) p es
waiters_lead_on table id p [] h = tt
waiters_lead_on table id p (e ∷ es) h = (λ w. h.0 (middle (not (e.1.id == id)) (waits_for id e.1.stage) (may_lead_next table e.1) w), waiters_lead_on table id p es h.1)
  where
    middle : (a b c : Bool) → (a && (b && c)) ≡ true → b ≡ true
    middle true true c h = refl
    middle true false c h = absurd (false≢true h)
    middle false b c h = absurd (false≢true h)

pub next_leaders : (table : Table) (id : ℕ) (ns : List ℕ) (es : Numbered) → IsStrictlySortedBy nat_cmp ns → WaitingArrivalsPassTest id (λ k. list_any (λ n. at k n) ns) es → FirstIsLeft (leads_on_for table id) ns es
next_leaders table id ns es s h = (waiters_lead_on table id (λ k. list_any (λ n. at k n) ns) es h, s)

pub none_waits : (table : Table) (id : ℕ) (es : Numbered) → WaitingArrivalsPassTest id (λ k. false) es → first_waiter_to_lead table id (exchanges_without id (values_of es)) ≡ None
none_waits table id es h =
    first_to_lead_on_is table id (values_of es) ∙ ap (option_map as_next_leader) (none_passes (leads_on_for table id) es (waiters_lead_on table id (λ k. false) es h))
