-- Ends that have a flag are at marked places.
use Rattle.std.proofs.Common.{◌≡◌, ◌≢◌, ◌⊎◌, inl, inr, ℕ, zero, suc, ◌+◌, ◌<◌, ◌≤◌, List, [], ◌∷◌, length, get_or, set, refl, sym, ap, ◌∙◌, subst, arith, Bool, true, false, not, cond, ◌&&◌, ◌||◌, Contains, Option, None, Some, is_some}
use Rattle.std.specs.Option.{option_map}
use Rattle.std.specs.Ordering.{nat_cmp}
use Rattle.std.specs.Map.{lookup}
use Rattle.std.specs.BTreeMap.{BTreeMap, get, is_at}
use Rattle.std.proofs.lemmas.Bool.{cases_eq, cases_Bool}
use Rattle.std.proofs.lemmas.List.{get_or-set_other}
use Rattle.std.proofs.lemmas.List.Sums.{sum_by-set}
use Rattle.hx_framing.specs.declared.messages.Next.{Next}
use Rattle.hx_framing.specs.declared.messages.Next.TheVariants as next
use Rattle.hx_status.specs.declared.cause.FailKind.{FailKind}
use Rattle.proxy_engine.specs.Activities.{link_place_of_activity, has_exchange}
use Rattle.proxy_engine.specs.declared.endpoints.lookahead.Lookahead.{Lookahead}
use Rattle.proxy_engine.specs.declared.endpoints.lookahead.Lookahead.TheVariants.{Unknown, Quiet, Due}
use Rattle.proxy_engine.specs.Lookahead.{LookaheadShowsAnswer, lookahead_is_due, lookahead_may_be_due}
use Rattle.proxy_engine.specs.EngineModel.{ConnectionModel, LinkModel}
use Rattle.proxy_engine.specs.Due.{Breaks, IsGoneWhileBusy, IsDueLinkResult, IsDueOnConnection, IsDueRequestActionUnlessBusy, LinkResultUnlessDropped, accepts_no_request}
use Rattle.proxy_engine.specs.State.{ConnectionRepresents, LinkRepresents, due_request_of_lookahead}
use Rattle.proxy_engine.specs.ReadyList.{ReadyPlaces, PlacesAscend, PlacesAreBelow, PlaceIsLeast, FlaggedPlacesAreMarked}
use Rattle.proxy_engine.specs.Marked.{EndList, end_if_open_at, open_end_count, LookingAheadKeepsConnection, is_gone_with_exchange, connection_may_be_due, link_may_be_due, OptionsAreRelated, ContentsOfPlacesAreRelated, NoOpenEndBelowHasFlag, NoOpenEndHasFlag, NoEndIsOpenBeyond, link_of_disconnected_exchange_at}
use Rattle.proxy_engine.specs.declared.endpoints.activities.Activity.{Activity}
use Rattle.proxy_engine.specs.declared.endpoints.ends.Connection.{Connection}
use Rattle.proxy_engine.specs.declared.endpoints.ends.Link.{Link}
use Rattle.proxy_engine.proofs.Keeping.{fits, inside, one_if_some}
use Rattle.proxy_engine.proofs.Rising.{at_any}
use Rattle.proxy_engine.proofs.Shown.{finish_due, wanted, wanted_busy, finish_by, action_of_fault}

pub some_same : {B : Type 0} {a b : B} → Some a ≡ Some b → a ≡ b
some_same h = cc

pub least_there : (places : List ℕ) (i : ℕ) → PlaceIsLeast places i → Contains places i
least_there places i h = (0, h.some, h.first i)

-- no more places than this are told apart at which something is open
abbrev pub FillsAtMost : {A : Type 0} → (ℕ → Option A) → ℕ → Type 0
FillsAtMost m n = (ps : List ℕ) → ((i j : ℕ) → i < j → j < length ps → get_or ps j 0 ≢ get_or ps i 0) → ((p : ℕ) → Contains ps p → is_some (m p) ≡ true) → length ps ≤ n

pub fills_map : {A : Type 0} (m : BTreeMap ℕ A) → FillsAtMost (get nat_cmp m) (length m.entries)
fills_map m ps apart there = fits ps m.entries apart there

pub fills_list : {A : Type 0} (xs : List (Option A)) → FillsAtMost (end_if_open_at xs) (open_end_count xs)
fills_list xs [] apart there = omega arith
fills_list {A} xs (p ∷ ps) apart there =
    let here : is_some (get_or xs p None) ≡ true = there p (0, omega arith, refl) in
    let one : one_if_some (get_or xs p None) ≡ 1 = ap {B = ℕ} (λ (b : Bool). cond b 1 0) here in
    let gone = sum_by-set one_if_some xs p None None (inside xs p here) in
    let rest : length ps ≤ open_end_count (set xs p None) =
    fills_list (set xs p None) ps (λ i j l m. apart (suc i) (suc j) (omega (arith, l)) (omega (arith, m)))
    (λ q c. ap is_some (get_or-set_other xs p q None None (not_first q c)) ∙ there q (suc c.0, omega (arith, c.1), c.2)) in
    omega (arith, rest, gone, one)
  where
    not_first : (q : ℕ) → Contains ps q → q ≢ p
    not_first q c e = apart 0 (suc c.0) (omega arith) (omega (arith, c.1)) (at_any ps c.0 q c.1 ∙ (c.2 ∙ e))

-- the same is at each place of a map with the same entries
pub same_at : {A : Type 0} (m k : BTreeMap ℕ A) → k.entries ≡ m.entries → (q : ℕ) → get nat_cmp k q ≡ get nat_cmp m q
same_at {A} m k same q = ap (λ (es : List (ℕ × A)). lookup (is_at (nat_cmp q)) es) same

-- what is open stays so
pub alike_some : {A : Type 0} (R : A → A → Type 0) (m k : ℕ → Option A) → ContentsOfPlacesAreRelated R m k → (i : ℕ) → is_some (m i) ≡ true → is_some (k i) ≡ true
alike_some {A} R m k alike i e = by_new (m i) (k i) (alike i) e
  where
    by_new : (o p : Option A) → OptionsAreRelated R o p → is_some o ≡ true → is_some p ≡ true
    by_new (Some x) (Some y) r e = refl
    by_new (Some x) None r e = absurd r
    by_new None p r e = absurd (cc)

module _ {A : Type 0} (flag : A → Bool) where
  -- there is room for the mark of one that is open
  pub has_room : (m : ℕ → Option A) (a : ℕ) (kept : ReadyPlaces) (i : ℕ) → FillsAtMost m a → FlaggedPlacesAreMarked flag m a kept → is_some (m i) ≡ true → Contains kept.places i ⊎ (length kept.places < kept.room)
  has_room m a kept i fills h here = by_place (place_or_not kept.places i)
    where
      place_or_not : (ps : List ℕ) (p : ℕ) → Contains ps p ⊎ (Contains ps p → ⊥)
      place_or_not [] p = inr (λ c. omega (arith, c.1))
      place_or_not (q ∷ ps) p = elim (cases_eq q p) [
        | inl same ↦ inl (0, omega arith, same)
        | inr other ↦ elim (place_or_not ps p) [
          | inl there ↦ inl (suc there.0, omega (arith, there.1), there.2)
          | inr none ↦ inr (not_in q ps p other none)
        ]
      ]
        where
          not_in : (q : ℕ) (ps : List ℕ) (p : ℕ) → q ≢ p → (Contains ps p → ⊥) → Contains (q ∷ ps) p → ⊥
          not_in q ps p other none (zero, l, e) = other e
          not_in q ps p other none (suc k, l, e) = none (k, omega (arith, l), e)

      by_place : Contains kept.places i ⊎ (Contains kept.places i → ⊥) → Contains kept.places i ⊎ (length kept.places < kept.room)
      by_place (inl there) = inl there
      by_place (inr none) =
          let more : suc (length kept.places) ≤ a = fills (i ∷ kept.places) (apart none) filled in
          inr (omega (arith, more, h.room))
        where
          apart : (Contains kept.places i → ⊥) → (j k : ℕ) → j < k → k < length (i ∷ kept.places) → get_or (i ∷ kept.places) k 0 ≢ get_or (i ∷ kept.places) j 0
          apart none j zero l within = absurd (omega (arith, l))
          apart none zero (suc k) l within = λ e. none (k, omega (arith, within), sym (at_any kept.places k i (omega (arith, within))) ∙ e)
          apart none (suc j) (suc k) l within = λ e. absurd (let rising = h.rises.rises j k (omega (arith, l)) (omega (arith, within)) in omega (arith, rising, e))

          filled : (p : ℕ) → Contains (i ∷ kept.places) p → is_some (m p) ≡ true
          filled p (zero, l, e) = subst (λ (q : ℕ). is_some (m q) ≡ true) e here
          filled p (suc k, l, e) = h.filled p (k, omega (arith, l), e)

  -- so there is for one that is yet to come, where the room is greater
  pub has_room_beyond : (m : ℕ → Option A) (a : ℕ) (kept : ReadyPlaces) (i : ℕ) → FillsAtMost m a → FlaggedPlacesAreMarked flag m a kept → a < kept.room → Contains kept.places i ⊎ (length kept.places < kept.room)
  has_room_beyond m a kept i fills h more =
      let few = fills kept.places (λ i j l within e. absurd (let rising = h.rises.rises i j l within in omega (arith, rising, e))) h.filled in
      inr (omega (arith, few, more))

  -- what is open changes at one place, and so do the marks
  pub marked_by : (m k : ℕ → Option A) (a b : ℕ) (old new : ReadyPlaces) (i : ℕ) → FlaggedPlacesAreMarked flag m a old → ((q : ℕ) → q ≢ i → k q ≡ m q) → b ≤ new.room → PlacesAscend new.places
      → ((q : ℕ) → q ≢ i → Contains old.places q → Contains new.places q) → ((q : ℕ) → q ≢ i → Contains new.places q → Contains old.places q)
      → ((x : A) → k i ≡ Some x → flag x ≡ true → Contains new.places i) → (Contains new.places i → is_some (k i) ≡ true) → FlaggedPlacesAreMarked flag k b new
  marked_by m k a b old new i h same room rises others only here there = record {
    marked = λ j x e f. elim (cases_eq j i) [
      | inl is ↦ subst (λ (p : ℕ). Contains new.places p) (sym is) (here x (sym (ap k is) ∙ e) f)
      | inr other ↦ others j other (h.marked j x (sym (same j other) ∙ e) f)
    ];
    filled = λ j c. elim (cases_eq j i) [
      | inl is ↦ subst (λ (p : ℕ). is_some (k p) ≡ true) (sym is) (there (subst (λ (p : ℕ). Contains new.places p) is c))
      | inr other ↦ ap is_some (same j other) ∙ h.filled j (only j other c)
    ];
    room = room;
    rises = rises;
  }

  -- one that is open changes, or comes, and its place is marked
  pub marked_put : (m k : ℕ → Option A) (a b : ℕ) (old new : ReadyPlaces) (i : ℕ) → FlaggedPlacesAreMarked flag m a old → ((q : ℕ) → q ≢ i → k q ≡ m q) → is_some (k i) ≡ true → b ≤ new.room
      → Contains new.places i → ((q : ℕ) → Contains old.places q → Contains new.places q) → ((q : ℕ) → q ≢ i → Contains new.places q → Contains old.places q) → PlacesAscend new.places → FlaggedPlacesAreMarked flag k b new
  marked_put m k a b old new i h same some room there others only rises = marked_by m k a b old new i h same room rises (λ q other c. others q c) only (λ x e f. there) (λ c. some)

  -- one more is there that has no flag
  pub marked_spare : (m k : ℕ → Option A) (a b : ℕ) (old new : ReadyPlaces) (i : ℕ) (x : A) → FlaggedPlacesAreMarked flag m a old → ((q : ℕ) → q ≢ i → k q ≡ m q) → k i ≡ Some x → flag x ≡ false → b ≤ new.room → new.places ≡ old.places
      → FlaggedPlacesAreMarked flag k b new
  marked_spare m k a b old new i x h same here none room places =
      marked_by m k a b old new i h same room (subst PlacesAscend (sym places) h.rises) (λ q other c. subst (λ (ps : List ℕ). Contains ps q) (sym places) c) (λ q other c. subst (λ (ps : List ℕ). Contains ps q) places c)
      (λ y e f. absurd (let both : true ≡ false = sym f ∙ (ap flag (some_same (sym e ∙ here)) ∙ none) in absurd (cc))) (λ c. ap is_some here)

  -- one is let go, and its place isn't marked
  pub marked_gone : (m k : ℕ → Option A) (a b : ℕ) (old new : ReadyPlaces) (i : ℕ) → FlaggedPlacesAreMarked flag m a old → ((q : ℕ) → q ≢ i → k q ≡ m q) → k i ≡ None → b ≤ a
      → ((q : ℕ) → q ≢ i → Contains old.places q → Contains new.places q) → ((q : ℕ) → Contains new.places q → (q ≢ i) × Contains old.places q) → new.room ≡ old.room → PlacesAscend new.places → FlaggedPlacesAreMarked flag k b new
  marked_gone m k a b old new i h same none size others only room rises =
      marked_by m k a b old new i h same (omega (arith, h.room, size, room)) rises others (λ q other c. (only q c).1) (λ x e f. absurd (let both : None ≡ Some x = sym none ∙ e in absurd (cc))) (λ c. absurd ((only i c).0 refl))

  -- room is made
  pub marked_room : (m k : ℕ → Option A) (a b : ℕ) (old new : ReadyPlaces) → FlaggedPlacesAreMarked flag m a old → ((q : ℕ) → k q ≡ m q) → b ≡ a → new.places ≡ old.places → old.room ≤ new.room → FlaggedPlacesAreMarked flag k b new
  marked_room m k a b old new h is size same more = record {
    marked = λ j x e f. subst (λ (ps : List ℕ). Contains ps j) (sym same) (h.marked j x (sym (is j) ∙ e) f);
    filled = λ j c. ap is_some (is j) ∙ h.filled j (subst (λ (ps : List ℕ). Contains ps j) same c);
    room = omega (arith, h.room, more, size);
    rises = subst PlacesAscend (sym same) h.rises;
  }

  -- a look at each place leaves the flags
  pub marked_alike : (R : A → A → Type 0) (m k : ℕ → Option A) (a b : ℕ) (kept : ReadyPlaces) → ((x y : A) → R x y → flag y ≡ true → flag x ≡ true) → FlaggedPlacesAreMarked flag m a kept → ContentsOfPlacesAreRelated R m k → b ≤ a → FlaggedPlacesAreMarked flag k b kept
  marked_alike R m k a b kept keep h alike size = record {
    marked = λ j y e f. by_old j y (m j) refl (subst (λ (o : Option A). OptionsAreRelated R (m j) o) e (alike j)) f;
    filled = λ j c. alike_some R m k alike j (h.filled j c);
    room = omega (arith, h.room, size);
    rises = h.rises;
  }
    where
      by_old : (j : ℕ) (y : A) (o : Option A) → m j ≡ o → OptionsAreRelated R (m j) (Some y) → flag y ≡ true → Contains kept.places j
      by_old j y None e r f = absurd (subst (λ (p : Option A). OptionsAreRelated R p (Some y)) e r)
      by_old j y (Some x) e r f = h.marked j x e (keep x y (subst (λ (p : Option A). OptionsAreRelated R p (Some y)) e r) f)

  -- a look at the least place
  pub marked_look : (R : A → A → Type 0) (m k : ℕ → Option A) (a b : ℕ) (kept : ReadyPlaces) (i : ℕ) → FlaggedPlacesAreMarked flag m a kept → PlaceIsLeast kept.places i → ((q : ℕ) → q ≢ i → k q ≡ m q) → ContentsOfPlacesAreRelated R m k → b ≡ a → FlaggedPlacesAreMarked flag k b kept
  marked_look R m k a b kept i h first others alike size =
      marked_by m k a b kept kept i h others (omega (arith, h.room, size)) h.rises (λ q other c. c) (λ q other c. c) (λ x e f. least_there kept.places i first) (λ c. alike_some R m k alike i (h.filled i c))

  -- the least place is dropped, since what is open there has no flag
  pub marked_dropped : (m : ℕ → Option A) (a : ℕ) (old new : ReadyPlaces) (i : ℕ) → FlaggedPlacesAreMarked flag m a old → PlaceIsLeast old.places i → ((x : A) → m i ≡ Some x → flag x ≡ false) → ((p q : ℕ) → PlaceIsLeast old.places p → q ≢ p → Contains old.places q → Contains new.places q)
      → ((p q : ℕ) → PlaceIsLeast old.places p → Contains new.places q → (q ≢ p) × Contains old.places q) → new.room ≡ old.room → PlacesAscend new.places → FlaggedPlacesAreMarked flag m a new
  marked_dropped m a old new i h first none others only room rises =
      marked_by m m a a old new i h (λ q other. refl) (omega (arith, h.room, room)) rises (λ q other c. others i q first other c) (λ q other c. (only i q first c).1)
      (λ x e f. absurd (let both : true ≡ false = sym f ∙ none x e in absurd (cc))) (λ c. absurd ((only i i first c).0 refl))

  -- nothing that is open before the least place has the flag
  pub none_before : (m : ℕ → Option A) (a : ℕ) (kept : ReadyPlaces) (n : ℕ) → FlaggedPlacesAreMarked flag m a kept → PlaceIsLeast kept.places n → NoOpenEndBelowHasFlag flag m n
  none_before m a kept n h first j x l e = elim (cases_Bool (flag x)) [
    | inl shown ↦ absurd (let most = first.least j (h.marked j x e shown) in omega (arith, most, l))
    | inr hidden ↦ hidden
  ]

  -- where no place is marked, nothing has it
  pub none_at_all : (m : ℕ → Option A) (a : ℕ) (kept : ReadyPlaces) → FlaggedPlacesAreMarked flag m a kept → kept.places ≡ [] → NoOpenEndHasFlag flag m
  none_at_all m a kept h none j x e = elim (cases_Bool (flag x)) [
    | inl shown ↦ absurd (let c = subst (λ (ps : List ℕ). Contains ps j) none (h.marked j x e shown) in omega (arith, c.1))
    | inr hidden ↦ hidden
  ]

-- ---- looks

-- ---- below the count

pub below_put : (n : ℕ) (old new : List ℕ) (i : ℕ) → PlacesAreBelow n old → i < n → ((q : ℕ) → q ≢ i → Contains new q → Contains old q) → PlacesAreBelow n new
below_put n old new i h l only q c = elim (cases_eq q i) [
  | inl is ↦ omega (arith, is, l)
  | inr other ↦ h q (only q other c)
]

pub below_more : (n : ℕ) (places : List ℕ) → PlacesAreBelow n places → PlacesAreBelow (n + 1) places
below_more n places h q c = let less = h q c in omega (arith, less)

pub below_same : (n : ℕ) (old new : List ℕ) → PlacesAreBelow n old → new ≡ old → PlacesAreBelow n new
below_same n old new h same = subst (PlacesAreBelow n) (sym same) h

pub same_list : {A : Type 0} (xs ys : List (Option A)) (a b : Bool) → xs ≡ ys → a ≡ b → ◌≡◌ {A = EndList A} (record { items = xs; has_room = a }) (record { items = ys; has_room = b })
same_list {A} xs ys a b e f = ap {B = EndList A} (λ (zs : List (Option A)). record { items = zs; has_room = a }) e ∙ ap {B = EndList A} (λ (c : Bool). record { items = ys; has_room = c }) f

-- a look leaves what may be lost
pub looked_lost : (x y : Connection) → LookingAheadKeepsConnection x y → is_gone_with_exchange y ≡ true → is_gone_with_exchange x ≡ true
looked_lost x y r f = sym (ap (λ (b : Bool). b && has_exchange y.activity) r.gone ∙ ap (λ (a : Activity). x.gone && has_exchange a) r.activity) ∙ f

-- ---- nothing is beyond the count

module _ {A : Type 0} (m k : ℕ → Option A) (n : ℕ) (h : NoEndIsOpenBeyond n m) where
  -- what is at one place changes
  pub none_changed : (i : ℕ) → i ≤ n → ((q : ℕ) → q ≢ i → k q ≡ m q) → NoEndIsOpenBeyond n k
  none_changed i l same q there = elim (cases_eq q i) [
    | inl is ↦ omega (arith, is, l)
    | inr other ↦ h q (sym (ap is_some (same q other)) ∙ there)
  ]

  pub none_alike : (R : A → A → Type 0) → ContentsOfPlacesAreRelated R m k → NoEndIsOpenBeyond n k
  none_alike R alike q there = h q (by_old (m q) (k q) (alike q) there)
    where
      by_old : (o p : Option A) → OptionsAreRelated R o p → is_some p ≡ true → is_some o ≡ true
      by_old o None r e = absurd (cc)
      by_old None (Some y) r e = absurd r
      by_old (Some x) (Some y) r e = refl

pub none_beyond_more : {A : Type 0} (m : ℕ → Option A) (n : ℕ) → NoEndIsOpenBeyond n m → NoEndIsOpenBeyond (n + 1) m
none_beyond_more m n h q there = let most = h q there in omega (arith, most)

-- one look after another
pub alike_trans : {A : Type 0} (R : A → A → Type 0) → ((x y z : A) → R x y → R y z → R x z) → (m k l : ℕ → Option A) → ContentsOfPlacesAreRelated R m k → ContentsOfPlacesAreRelated R k l → ContentsOfPlacesAreRelated R m l
alike_trans {A} R trans m k l first second i = by_each (m i) (k i) (l i) (first i) (second i)
  where
    by_each : (o p q : Option A) → OptionsAreRelated R o p → OptionsAreRelated R p q → OptionsAreRelated R o q
    by_each None None None r s = tt
    by_each None None (Some z) r s = absurd s
    by_each None (Some y) q r s = absurd r
    by_each (Some x) None q r s = absurd r
    by_each (Some x) (Some y) None r s = absurd s
    by_each (Some x) (Some y) (Some z) r s = trans x y z r s

pub alike_refl : {A : Type 0} (R : A → A → Type 0) → ((x : A) → R x x) → (m : ℕ → Option A) → ContentsOfPlacesAreRelated R m m
alike_refl {A} R same m i = by_each (m i)
  where
    by_each : (o : Option A) → OptionsAreRelated R o o
    by_each None = tt
    by_each (Some x) = same x

-- a look at one place
pub alike_at : {A : Type 0} (R : A → A → Type 0) → ((x : A) → R x x) → (m k : ℕ → Option A) (i : ℕ) → OptionsAreRelated R (m i) (k i) → ((q : ℕ) → q ≢ i → k q ≡ m q) → ContentsOfPlacesAreRelated R m k
alike_at {A} R same m k i here others j = elim (cases_eq j i) [
  | inl is ↦ subst (λ (p : ℕ). OptionsAreRelated R (m p) (k p)) (sym is) here
  | inr other ↦ subst (λ (o : Option A). OptionsAreRelated R (m j) o) (sym (others j other)) (alike_refl R same m j)
]

-- a look that shows nothing
quiet_shows : {M : Type 0} (l : Lookahead M) → lookahead_may_be_due l ≡ false → LookaheadShowsAnswer l next.More
quiet_shows Unknown e = absurd cc
quiet_shows Quiet e = refl
quiet_shows (Due next.More) e = refl
quiet_shows (Due next.NeedsContinue) e = absurd cc
quiet_shows (Due (next.Message m)) e = absurd cc
quiet_shows (Due (next.Refused f)) e = absurd cc
quiet_shows (Due next.End) e = absurd cc

-- it was looked at, and nothing is due
pub settled : {M : Type 0} (l : Lookahead M) (a : Next M) → LookaheadShowsAnswer l a → lookahead_is_due l ≡ false → lookahead_may_be_due l ≡ false
settled Unknown a shows e = absurd shows
settled Quiet a shows e = refl
settled (Due b) a shows e = e

-- ---- what has no flag

pub unlost : (c : Connection) (s : ConnectionModel) → is_gone_with_exchange c ≡ false → ConnectionRepresents (Some c) s → IsGoneWhileBusy s None
unlost c s e h = ap (λ (b : Bool). cond b (Some (link_place_of_activity s.activity)) None) (sym e ∙ (ap (λ (b : Bool). b && has_exchange c.activity) h.gone ∙ ap (λ (a : Activity). s.gone && has_exchange a) h.activity))

pub unlost_over : (s : ConnectionModel) → ConnectionRepresents None s → IsGoneWhileBusy s None
unlost_over s h = by_gone s.gone ∙ ap (λ (a : Activity). cond (s.gone && has_exchange a) (Some (link_place_of_activity s.activity)) None) (sym h.1)
  where
    by_gone : (b : Bool) → None ≡ cond (b && false) (Some (link_place_of_activity s.activity)) None
    by_gone true = refl
    by_gone false = refl

pub unwanted : (c : Connection) (s : ConnectionModel) → connection_may_be_due c ≡ false → ConnectionRepresents (Some c) s → IsDueOnConnection s None
unwanted c s e h = by_busy (accepts_no_request c.gone false c.activity) refl e
  where
    by_busy : (b : Bool) → accepts_no_request c.gone false c.activity ≡ b → not b && lookahead_may_be_due c.reader.ahead ≡ false → IsDueOnConnection s None
    by_busy true busy e = subst (λ o. IsDueOnConnection s o) (ap (λ (b : Bool). cond b None (due_request_of_lookahead c.reader.ahead)) busy) (wanted_busy c s busy h)
    by_busy false idle e =
        let shows = quiet_shows c.reader.ahead e in
        subst (λ o. IsDueOnConnection s o) (ap (λ (b : Bool). cond b None (due_request_of_lookahead c.reader.ahead)) idle ∙ action_of_fault c.reader.ahead next.More shows) (wanted c s next.More idle h shows)

pub unwanted_over : (s : ConnectionModel) → ConnectionRepresents None s → IsDueOnConnection s None
unwanted_over s h = subst (λ (b : Bool). IsDueRequestActionUnlessBusy b s None) (sym (by_over s.gone s.closed h.0)) refl
  where
    by_over : (gone closed : Bool) → gone || closed ≡ true → accepts_no_request gone closed s.activity ≡ true
    by_over true closed e = refl
    by_over false true e = refl
    by_over false false e = absurd (cc)

pub no_finish_due : (k : Link) (s : LinkModel) → link_may_be_due k ≡ false → LinkRepresents (Some k) s → IsDueLinkResult s None
no_finish_due k s e h =
    let none = no_failure (lookahead_may_be_due k.reader.ahead) k.failed e in
    let shows = quiet_shows k.reader.ahead none.0 in
    subst (λ o. IsDueLinkResult s o) (finish_by k.reader.ahead k.failed next.More shows ∙ none.1) (finish_due k s next.More h shows)
  where
    no_failure : (quiet : Bool) (o : Option FailKind) → quiet || is_some o ≡ false → (quiet ≡ false) × (option_map Breaks o ≡ None)
    no_failure true o e = absurd cc
    no_failure false None e = (refl, refl)
    no_failure false (Some kind) e = absurd cc

pub no_finish_due_over : (s : LinkModel) → LinkRepresents None s → IsDueLinkResult s None
no_finish_due_over s h = subst (λ (b : Bool). LinkResultUnlessDropped b s None) (sym h) refl

-- the link that was read of a gone connection
pub no_mark : (c : Connection) → None ≡ link_of_disconnected_exchange_at (Some c) → is_gone_with_exchange c ≡ false
no_mark c e = by_mark (is_gone_with_exchange c) (link_place_of_activity c.activity) e
  where
    by_mark : (b : Bool) (o : Option ℕ) → None ≡ cond b (Some o) None → b ≡ false
    by_mark true o e = absurd (cc)
    by_mark false o e = refl
