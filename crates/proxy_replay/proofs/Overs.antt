-- Connections that are closed or gone, and links that were dropped: no effect names them.
use Rattle.std.proofs.Common.{◌≡◌, ◌≢◌, ◌⊎◌, inl, inr, ℕ, zero, suc, ◌+◌, ◌-◌, ◌<◌, ◌≤◌, List, [], ◌∷◌, ◌++◌, length, get_or, set, refl, sym, ap, ◌∙◌, subst, arith, Bool, true, false, ◌&&◌, cond, Option, None, Some}
use Rattle.std.specs.Prelude.{nat_lt, nat_le}
use Rattle.std.proofs.lemmas.Bool.{cases_lt, cases_Bool}
use Rattle.std.proofs.lemmas.Bool.Decides.{nat_tests}
use Rattle.std.proofs.lemmas.List.{append_assoc}
use Rattle.proxy_script.specs.Script.{ItemModel as Item}
use Rattle.proxy_script.specs.Script as item
use Rattle.proxy_script.specs.declared.effect_list.Effect.{Effect}
use Rattle.proxy_script.specs.declared.effect_list.Effect.TheVariants as effects
use Rattle.proxy_engine.specs.Happenings.{HappeningModel as Happening, Leaves}
use Rattle.proxy_engine.specs.Happenings as happening
use Rattle.proxy_engine.specs.EngineModel.{EngineModel, ConnectionModel, LinkModel, model_after_happening, connection_at, link_at, no_connection, no_link, connection_after_disconnect, fault_of_unknown_connection, happening_fault}
use Rattle.proxy_engine.specs.Acts.{next_link_number}
use Rattle.proxy_engine.specs.Drops.{link_dropped_by_effect, EffectsDropNoLink, ActHasFewEffects, EachDroppedLinkIsEmitted, HappeningsDropNoLink}
use Rattle.proxy_engine.specs.Orderly.{ModelIsConsistent, ConnectionIsOpen, ConnectionHasClosed, LinkIsDropped, EffectsNameOpenEnds, EndedEndsStayEnded, HappeningKeepsModelConsistent, ActKeepsModelConsistent, EndedEndsStayEndedAfterHappening, EndedEndsStayEndedAfterAct}
use Rattle.proxy_replay.specs.Played.{DoneActWithEffects, FirstDueActsAreDoneInOrder, effects_of_acts, PlayState, ItemsArePlayed, HappeningIfAnyIsPlayed, happening_of_item}
use Rattle.proxy_replay.specs.Closes.{client_named_by_effect, link_named_by_effect, client_closed_by_effect, EffectsNeverName, NothingIsNamedAfterItsEnd, EffectsDropLink}
use Rattle.proxy_replay.proofs.Behind.{IsAct, item_orderly, works_over, works_unnamed, plays_unnamed, plays_end}

-- ---- connections

-- the connection of this number was accepted, and is closed or gone
pub record IsShut (s : EngineModel) (n : ℕ) : Type 0 where
  pub place : ℕ
  pub number : n ≡ place + 1
  pub within : place < length s.connections
  pub over : ((connection_at s place).closed ≡ true) ⊎ ((connection_at s place).gone ≡ true)

-- beyond the connections the stand-in is closed
beyond : (cs : List ConnectionModel) (i : ℕ) → length cs ≤ i → get_or cs i no_connection ≡ no_connection
beyond [] i l = refl
beyond (c ∷ cs) zero l = absurd (omega (arith, l))
beyond (c ∷ cs) (suc i) l = beyond cs i (omega (arith, l))

-- so an open one was accepted
open_within : (s : EngineModel) (i : ℕ) → (connection_at s i).closed ≡ false → i < length s.connections
open_within s i h = by_order (cases_lt i (length s.connections))
  where
    by_order : (i < length s.connections) ⊎ (length s.connections ≤ i) → i < length s.connections
    by_order (inl l) = l
    by_order (inr l) = let shut : (connection_at s i).closed ≡ true = ap (λ (c : ConnectionModel). c.closed) (beyond s.connections i l) in cc

shut_later : (s t : EngineModel) (n : ℕ) → EndedEndsStayEnded s t → IsShut s n → IsShut t n
shut_later s t n stays h = record { place = h.place; number = h.number; within = omega (arith, h.within, stays.connections); over = by_way h.over }
  where
    by_way : ((connection_at s h.place).closed ≡ true) ⊎ ((connection_at s h.place).gone ≡ true) → ((connection_at t h.place).closed ≡ true) ⊎ ((connection_at t h.place).gone ≡ true)
    by_way (inl e) = inl (stays.closed h.place h.within e)
    by_way (inr e) = inr (stays.gone h.place h.within e)

apart : (s : EngineModel) (m n : ℕ) → ConnectionIsOpen s m → IsShut s n → Some m ≢ Some n
apart s m n o h = λ e.
    let same : m ≡ n = cc in
    let place : o.place ≡ h.place = omega (arith, same, o.number, h.number) in
    by_way place h.over
  where
    by_way : o.place ≡ h.place → ((connection_at s h.place).closed ≡ true) ⊎ ((connection_at s h.place).gone ≡ true) → ⊥
    by_way place (inl shut) = let both : true ≡ false = sym (ap (λ i. (connection_at s i).closed) place ∙ shut) ∙ o.closed in cc
    by_way place (inr gone) = let both : true ≡ false = sym (ap (λ i. (connection_at s i).gone) place ∙ gone) ∙ o.gone in cc

names_no_shut : (s after : EngineModel) (emitted : List Effect) (n : ℕ) → EffectsNameOpenEnds s after emitted → IsShut s n → EffectsNeverName client_named_by_effect n emitted
names_no_shut s after [] n h shut = tt
names_no_shut s after (effects.Client m bytes replied ∷ emitted) n h shut = (apart s m n h.0 shut, names_no_shut s after emitted n h.1 shut)
names_no_shut s after (effects.Forward l address bytes ∷ emitted) n h shut = ((λ e. cc), names_no_shut s after emitted n h.1 shut)
names_no_shut s after (effects.Close m ∷ emitted) n h shut = (apart s m n h.0 shut, subst (λ (es : List Effect). EffectsNeverName client_named_by_effect n es) (sym h.2) tt)
names_no_shut s after (effects.Drop l ∷ emitted) n h shut = ((λ e. cc), names_no_shut s after emitted n h.1 shut)

shut_unnamed : (s after : EngineModel) (emitted : List Effect) (n : ℕ) → IsAct s after emitted → IsShut s n → EffectsNeverName client_named_by_effect n emitted
shut_unnamed s after emitted n a shut = names_no_shut s after emitted n a.names shut

-- an act that closes, and what is told behind it
close_ends : (s after : EngineModel) (emitted rest : List Effect) → EffectsNameOpenEnds s after emitted → EndedEndsStayEnded s after → ((n : ℕ) → IsShut after n → EffectsNeverName client_named_by_effect n rest) → NothingIsNamedAfterItsEnd client_closed_by_effect client_named_by_effect rest →
    NothingIsNamedAfterItsEnd client_closed_by_effect client_named_by_effect (emitted ++ rest)
close_ends s after [] rest h stays behind ending = ending
close_ends s after (effects.Client m bytes replied ∷ emitted) rest h stays behind ending = (tt, close_ends s after emitted rest h.1 stays behind ending)
close_ends s after (effects.Forward l address bytes ∷ emitted) rest h stays behind ending = (tt, close_ends s after emitted rest h.1 stays behind ending)
close_ends s after (effects.Close m ∷ emitted) rest h stays behind ending =
    let closed : ConnectionHasClosed after m = h.1 in
    let opened : ConnectionIsOpen s m = h.0 in
    let before : opened.place < length s.connections = open_within s opened.place opened.closed in
    let shut : IsShut after m = record { place = closed.0; number = closed.1; within = omega (arith, before, opened.number, closed.1, stays.connections); over = inl closed.2 } in
    subst (λ (es : List Effect). NothingIsNamedAfterItsEnd client_closed_by_effect client_named_by_effect (effects.Close m ∷ (es ++ rest))) (sym h.2) (behind m shut, ending)
close_ends s after (effects.Drop l ∷ emitted) rest h stays behind ending = (tt, close_ends s after emitted rest h.1 stays behind ending)

-- the connection that goes away was accepted
taken_place : (count n : ℕ) → fault_of_unknown_connection count n ≡ None → (n ≡ (n - 1) + 1) × ((n - 1) < count)
taken_place count n h = by_test (cases_Bool (nat_lt 0 n && nat_le n count))
  where
    by_test : ((nat_lt 0 n && nat_le n count) ≡ true) ⊎ ((nat_lt 0 n && nat_le n count) ≡ false) → (n ≡ (n - 1) + 1) × ((n - 1) < count)
    by_test (inl t) = let some : (0 < n) × (n ≤ count) = grind (arith, nat_tests) in (omega (arith, some.0), omega (arith, some.0, some.1))
    by_test (inr f) = absurd (cc)

gone_here : (cs : List ConnectionModel) (i : ℕ) (y : ConnectionModel) → i < length cs → get_or (set cs i y) i no_connection ≡ y
gone_here [] i y l = absurd (omega (arith, l))
gone_here (c ∷ cs) zero y l = refl
gone_here (c ∷ cs) (suc i) y l = gone_here cs i y (omega (arith, l))

-- ---- links

-- the link of this number was opened, and is dropped
pub record IsOver (s : EngineModel) (l : ℕ) : Type 0 where
  pub place : ℕ
  pub number : l ≡ s.first + place
  pub within : place < length s.links
  pub dropped : (link_at s place).dropped ≡ true

over_later : (s t : EngineModel) (l : ℕ) → EndedEndsStayEnded s t → IsOver s l → IsOver t l
over_later s t l stays h = record {
  place = h.place;
  number = h.number ∙ ap (λ n. n + h.place) (sym stays.first);
  within = omega (arith, h.within, stays.links);
  dropped = stays.dropped h.place h.within h.dropped;
}

beyond_links : (ks : List LinkModel) (j : ℕ) → length ks ≤ j → get_or ks j no_link ≡ no_link
beyond_links [] j l = refl
beyond_links (k ∷ ks) zero l = absurd (omega (arith, l))
beyond_links (k ∷ ks) (suc j) l = beyond_links ks j (omega (arith, l))

-- so one that isn't dropped was opened
still_within : (s : EngineModel) (j : ℕ) → (link_at s j).dropped ≡ false → j < length s.links
still_within s j h = by_order (cases_lt j (length s.links))
  where
    by_order : (j < length s.links) ⊎ (length s.links ≤ j) → j < length s.links
    by_order (inl l) = l
    by_order (inr l) = let over : (link_at s j).dropped ≡ true = ap (λ (k : LinkModel). k.dropped) (beyond_links s.links j l) in cc

names_no_over : (s after : EngineModel) (emitted : List Effect) (n : ℕ) → EffectsNameOpenEnds s after emitted → IsOver s n → EffectsNeverName link_named_by_effect n emitted
names_no_over s after [] n h over = tt
names_no_over s after (effects.Client m bytes replied ∷ emitted) n h over = ((λ e. cc), names_no_over s after emitted n h.1 over)
names_no_over s after (effects.Forward l address bytes ∷ emitted) n h over =
    ((λ e. let same : l ≡ n = cc in absurd (omega (arith, same, h.0, over.number, over.within))), names_no_over s after emitted n h.1 over)
names_no_over s after (effects.Close m ∷ emitted) n h over = ((λ e. cc), subst (λ (es : List Effect). EffectsNeverName link_named_by_effect n es) (sym h.2) tt)
names_no_over s after (effects.Drop l ∷ emitted) n h over =
    ((λ e. let same : l ≡ n = cc in twice (omega (arith, same, h.0.number, over.number))), names_no_over s after emitted n h.1 over)
  where
    twice : h.0.place ≡ over.place → ⊥
    twice place = let both : true ≡ false = sym (ap (λ j. (link_at s j).dropped) place ∙ over.dropped) ∙ h.0.still in cc

over_unnamed : (s after : EngineModel) (emitted : List Effect) (n : ℕ) → IsAct s after emitted → IsOver s n → EffectsNeverName link_named_by_effect n emitted
over_unnamed s after emitted n a over = names_no_over s after emitted n a.names over

-- behind the first effect an act drops none, and opens the next link alone
names_next : (s after : EngineModel) (emitted : List Effect) (l : ℕ) → EffectsNameOpenEnds s after emitted → EffectsDropNoLink emitted → l < next_link_number s → EffectsNeverName link_named_by_effect l emitted
names_next s after [] l h none below = tt
names_next s after (effects.Client m bytes replied ∷ emitted) l h none below = ((λ e. cc), names_next s after emitted l h.1 none.1 below)
names_next s after (effects.Forward k address bytes ∷ emitted) l h none below = ((λ e. let same : k ≡ l = cc in absurd (omega (arith, same, h.0, below))), names_next s after emitted l h.1 none.1 below)
names_next s after (effects.Close m ∷ emitted) l h none below = ((λ e. cc), subst (λ (es : List Effect). EffectsNeverName link_named_by_effect l es) (sym h.2) tt)
names_next s after (effects.Drop k ∷ emitted) l h none below = let some : ◌≡◌ {A = Option ℕ} (Some k) None = none.0 in absurd (cc)

never_more : (n : ℕ) (xs ys : List Effect) → EffectsNeverName link_named_by_effect n xs → EffectsNeverName link_named_by_effect n ys → EffectsNeverName link_named_by_effect n (xs ++ ys)
never_more n [] ys h k = k
never_more n (x ∷ xs) ys h k = (h.0, never_more n xs ys h.1 k)

plain_ends : (emitted rest : List Effect) → EffectsDropNoLink emitted → NothingIsNamedAfterItsEnd link_dropped_by_effect link_named_by_effect rest → NothingIsNamedAfterItsEnd link_dropped_by_effect link_named_by_effect (emitted ++ rest)
plain_ends [] rest none ending = ending
plain_ends (effects.Client m bytes replied ∷ emitted) rest none ending = (tt, plain_ends emitted rest none.1 ending)
plain_ends (effects.Forward l address bytes ∷ emitted) rest none ending = (tt, plain_ends emitted rest none.1 ending)
plain_ends (effects.Close m ∷ emitted) rest none ending = (tt, plain_ends emitted rest none.1 ending)
plain_ends (effects.Drop l ∷ emitted) rest none ending = let some : ◌≡◌ {A = Option ℕ} (Some l) None = none.0 in absurd (cc)

-- an act that drops a link, and what is told behind it
drop_ends : (s after : EngineModel) (emitted rest : List Effect) → IsAct s after emitted → ((n : ℕ) → IsOver after n → EffectsNeverName link_named_by_effect n rest) → NothingIsNamedAfterItsEnd link_dropped_by_effect link_named_by_effect rest → NothingIsNamedAfterItsEnd link_dropped_by_effect link_named_by_effect (emitted ++ rest)
drop_ends s after [] rest a behind ending = ending
drop_ends s after (effects.Client m bytes replied ∷ emitted) rest a behind ending = (tt, plain_ends emitted rest a.drops ending)
drop_ends s after (effects.Forward l address bytes ∷ emitted) rest a behind ending = (tt, plain_ends emitted rest a.drops ending)
drop_ends s after (effects.Close m ∷ emitted) rest a behind ending = (tt, plain_ends emitted rest a.drops ending)
drop_ends s after (effects.Drop l ∷ emitted) rest a behind ending =
    let drops : LinkIsDropped s after l = a.names.0 in
    let within : drops.place < length s.links = still_within s drops.place drops.still in
    let over : IsOver after l = record {
      place = drops.place;
      number = drops.number ∙ ap (λ n. n + drops.place) (sym a.stays.first);
      within = omega (arith, within, a.stays.links);
      dropped = drops.dropped;
    } in (
      never_more l emitted rest (names_next s after emitted l a.names.1 a.drops (omega (arith, drops.number, within))) (behind l over),
      plain_ends emitted rest a.drops ending,
    )

-- ---- plays

module _ (takes_order : HappeningKeepsModelConsistent) (acts_order : ActKeepsModelConsistent) (takes_stay : EndedEndsStayEndedAfterHappening) (acts_stay : EndedEndsStayEndedAfterAct) (acts_short : ActHasFewEffects) where
  pub no_effect_follows_a_close : (a : PlayState) (items : List Item) (emitted : List Effect) (c : PlayState) → ItemsArePlayed a items emitted c → ModelIsConsistent a.model → NothingIsNamedAfterItsEnd client_closed_by_effect client_named_by_effect emitted
  no_effect_follows_a_close a items emitted c h o =
      plays_end takes_order acts_order takes_stay acts_stay acts_short client_named_by_effect IsShut shut_later shut_unnamed client_closed_by_effect
      (λ s after emitted rest a behind ending. close_ends s after emitted rest a.names a.stays behind ending) a items emitted c h o

  -- a play in two parts
  record Parted (a : PlayState) (items more : List Item) (emitted : List Effect) (c : PlayState) : Type 0 where
    there : PlayState
    before : List Effect
    behind : List Effect
    plays : ItemsArePlayed a items before there
    others : ItemsArePlayed there more behind c
    emitted_is : emitted ≡ before ++ behind

  parted : (items more : List Item) (a : PlayState) (emitted : List Effect) (c : PlayState) → ItemsArePlayed a (items ++ more) emitted c → Parted a items more emitted c
  parted [] more a emitted c h = record { there = a; before = []; behind = emitted; plays = (refl, refl); others = h; emitted_is = refl }
  parted (item ∷ items) more a emitted c h =
      let rest = parted items more h.0 h.2 c h.4 in
      record {
        there = rest.there;
        before = h.1 ++ rest.before;
        behind = rest.behind;
        plays = (h.0, h.1, rest.before, h.3, rest.plays, refl);
        others = rest.others;
        emitted_is = h.5 ∙ (ap (λ (es : List Effect). h.1 ++ es) rest.emitted_is ∙ sym (append_assoc h.1 rest.before rest.behind));
      }

  plays_orderly : (items : List Item) (a : PlayState) (emitted : List Effect) (c : PlayState) → ItemsArePlayed a items emitted c → ModelIsConsistent a.model → ModelIsConsistent c.model
  plays_orderly [] a emitted c h o = subst (λ (x : PlayState). ModelIsConsistent x.model) (sym h.1) o
  plays_orderly (item ∷ items) a emitted c h o =
      plays_orderly items h.0 h.2 c h.4 (item_orderly takes_order acts_order takes_stay acts_stay acts_short a.model h.0.now (happening_of_item item) h.1 h.0.model h.3.happened o)

  -- a client that goes away is shut, then and in every later model
  gone_shut : (s : EngineModel) (n : ℕ) → happening_fault s (Leaves n) ≡ None → IsShut (model_after_happening s (Leaves n)) n
  gone_shut s n free =
      let p = taken_place (length s.connections) n free in
      let c = connection_at s (n - 1) in
      let same : connection_at (model_after_happening s (Leaves n)) (n - 1) ≡ connection_after_disconnect c = gone_here s.connections (n - 1) (connection_after_disconnect c) p.1 in
      record {
        place = n - 1;
        number = p.0;
        within = let count = same_length s.connections (n - 1) (connection_after_disconnect c) in omega (arith, p.1, count);
        over = by_closed c.closed refl same;
      }
    where
      same_length : (cs : List ConnectionModel) (i : ℕ) (y : ConnectionModel) → length (set cs i y) ≡ length cs
      same_length [] i y = refl
      same_length (c ∷ cs) zero y = refl
      same_length (c ∷ cs) (suc i) y = ap suc (same_length cs i y)

      by_closed : (b : Bool) → (connection_at s (n - 1)).closed ≡ b → connection_at (model_after_happening s (Leaves n)) (n - 1) ≡ connection_after_disconnect (connection_at s (n - 1)) →
          ((connection_at (model_after_happening s (Leaves n)) (n - 1)).closed ≡ true) ⊎ ((connection_at (model_after_happening s (Leaves n)) (n - 1)).gone ≡ true)
      by_closed true e same = inl (ap (λ (c : ConnectionModel). c.closed) same ∙ ap (λ b. (cond b (connection_at s (n - 1)) (record (connection_at s (n - 1)) { gone = true })).closed) e ∙ e)
      by_closed false e same = inr (ap (λ (c : ConnectionModel). c.gone) same ∙ ap (λ b. (cond b (connection_at s (n - 1)) (record (connection_at s (n - 1)) { gone = true })).gone) e)

  pub no_effect_follows_a_gone_client : (a : PlayState) (items more : List Item) (n : ℕ) (emitted : List Effect) (c : PlayState) → ItemsArePlayed a (items ++ item.Happens (Leaves n) ∷ more) emitted c → ModelIsConsistent a.model →
      (before behind : List Effect) × (there : PlayState) × ItemsArePlayed a items before there × (emitted ≡ before ++ behind) × EffectsNeverName client_named_by_effect n behind
  no_effect_follows_a_gone_client a items more n emitted c h o =
      let p = parted items (item.Happens (Leaves n) ∷ more) a emitted c h in
      let orderly = plays_orderly items a p.before p.there p.plays o in
      let one = p.others.3.happened in
      let shut = gone_shut p.there.model n one.free in
      let next = takes_order p.there.model (Leaves n) orderly in
      let here = works_unnamed takes_order acts_order takes_stay acts_stay acts_short client_named_by_effect IsShut shut_later shut_unnamed (model_after_happening p.there.model (Leaves n)) p.others.0.now one.done_acts p.others.0.model n one.settles.0 next shut in
      let over = works_over takes_order acts_order takes_stay acts_stay acts_short client_named_by_effect IsShut shut_later shut_unnamed (model_after_happening p.there.model (Leaves n)) p.others.0.now one.done_acts p.others.0.model n one.settles.0 next shut in
      let later = plays_unnamed takes_order acts_order takes_stay acts_stay acts_short client_named_by_effect IsShut shut_later shut_unnamed p.others.0 more p.others.2 c n p.others.4
      (item_orderly takes_order acts_order takes_stay acts_stay acts_short p.there.model p.others.0.now (Some (Leaves n)) p.others.1 p.others.0.model one orderly) over in (
        p.before,
        p.behind,
        p.there,
        p.plays,
        p.emitted_is,
        subst (λ (es : List Effect). EffectsNeverName client_named_by_effect n es) (sym p.others.5)
            (both n p.others.1 p.others.2 (subst (λ (es : List Effect). EffectsNeverName client_named_by_effect n es) (sym one.emitted) here) later),
      )
    where
      both : (n : ℕ) (xs ys : List Effect) → EffectsNeverName client_named_by_effect n xs → EffectsNeverName client_named_by_effect n ys → EffectsNeverName client_named_by_effect n (xs ++ ys)
      both n [] ys h k = k
      both n (x ∷ xs) ys h k = (h.0, both n xs ys h.1 k)

  pub each_ends_with_its_drop : (a : PlayState) (items : List Item) (emitted : List Effect) (c : PlayState) → ItemsArePlayed a items emitted c → ModelIsConsistent a.model → NothingIsNamedAfterItsEnd link_dropped_by_effect link_named_by_effect emitted
  each_ends_with_its_drop a items emitted c h o =
      plays_end takes_order acts_order takes_stay acts_stay acts_short link_named_by_effect IsOver over_later over_unnamed link_dropped_by_effect drop_ends a items emitted c h o

-- ---- each link that is dropped was told

abbrev IsLost : EngineModel → ℕ → Type 0
IsLost s j = (j < length s.links) × ((link_at s j).dropped ≡ true)

has_later : (l : ℕ) (xs ys : List Effect) → EffectsDropLink l ys → EffectsDropLink l (xs ++ ys)
has_later l xs ys h = (xs ++ h.0, h.1, ap (λ (es : List Effect). xs ++ es) h.2 ∙ sym (append_assoc xs h.0 (effects.Drop l ∷ h.1)))

has_sooner : (l : ℕ) (xs ys : List Effect) → EffectsDropLink l xs → EffectsDropLink l (xs ++ ys)
has_sooner l xs ys h = (h.0, h.1 ++ ys, ap (λ (es : List Effect). es ++ ys) h.2 ∙ append_assoc h.0 (effects.Drop l ∷ h.1) ys)

has_same : (l m : ℕ) (xs ys : List Effect) → l ≡ m → xs ≡ ys → EffectsDropLink m ys → EffectsDropLink l xs
has_same l m xs ys e f h = (h.0, h.1, f ∙ (h.2 ∙ ap (λ n. h.0 ++ effects.Drop n ∷ h.1) (sym e)))

set_many : (ks : List LinkModel) (i : ℕ) (y : LinkModel) → length (set ks i y) ≡ length ks
set_many [] i y = refl
set_many (k ∷ ks) zero y = refl
set_many (k ∷ ks) (suc i) y = ap suc (set_many ks i y)

-- what happens opens no link
as_many : (s : EngineModel) (h : Happening) → length (model_after_happening s h).links ≡ length s.links
as_many s (happening.Accepts n) = refl
as_many s (happening.Sends n bytes) = refl
as_many s (happening.Hears l bytes) = set_many s.links (l - s.first) _
as_many s (happening.Ends n) = refl
as_many s (happening.Leaves n) = refl
as_many s (happening.Retires n) = refl
as_many s (happening.Overdues n) = refl
as_many s (happening.Shuts l) = set_many s.links (l - s.first) _
as_many s (happening.Fails l kind) = set_many s.links (l - s.first) _

module _ (takes_stay : EndedEndsStayEndedAfterHappening) (acts_stay : EndedEndsStayEndedAfterAct) (acts_emit : EachDroppedLinkIsEmitted) (takes_none : HappeningsDropNoLink) where
  -- a link that is dropped in the end was dropped before, or that is told
  abbrev Writes : EngineModel → EngineModel → List Effect → Type 0
  Writes s t emitted = (j : ℕ) → IsLost t j → IsLost s j ⊎ EffectsDropLink (s.first + j) emitted

  -- the number of the first link stays
  record Numbered (s t : EngineModel) (emitted : List Effect) : Type 0 where
    writes : Writes s t emitted
    first : t.first ≡ s.first

  numbered_works : (done_acts : List DoneActWithEffects) (s : EngineModel) (now : ℕ) (t : EngineModel) → FirstDueActsAreDoneInOrder s now done_acts t → Numbered s t (effects_of_acts done_acts)
  numbered_works [] s now t h = record { writes = λ j d. inl (subst (λ (u : EngineModel). IsLost u j) h d); first = ap (λ (u : EngineModel). u.first) h }
  numbered_works (done_act ∷ done_acts) s now t h =
      let rest = numbered_works done_acts h.0 now t h.3 in
      let stays = acts_stay s now done_act.act done_act.effects h.0 h.2 in
      record { writes = λ j d. by_rest rest stays j (rest.writes j d); first = rest.first ∙ stays.first }
    where
      by_act : (j : ℕ) → ((j < length s.links) × ((link_at s j).dropped ≡ true)) ⊎ ((more : List Effect) × (done_act.effects ≡ effects.Drop (s.first + j) ∷ more)) → IsLost s j ⊎ EffectsDropLink (s.first + j) (done_act.effects ++ effects_of_acts done_acts)
      by_act j (inl before) = inl before
      by_act j (inr emitted) = inr (has_sooner (s.first + j) done_act.effects (effects_of_acts done_acts) ([], emitted.0, emitted.1))

      by_rest : Numbered h.0 t (effects_of_acts done_acts) → EndedEndsStayEnded s h.0 → (j : ℕ) → IsLost h.0 j ⊎ EffectsDropLink (h.0.first + j) (effects_of_acts done_acts) → IsLost s j ⊎ EffectsDropLink (s.first + j) (done_act.effects ++ effects_of_acts done_acts)
      by_rest rest stays j (inl d) = by_act j (acts_emit s now done_act.act done_act.effects h.0 j h.2 d.0 d.1)
      by_rest rest stays j (inr emitted) =
          inr (has_later (s.first + j) done_act.effects (effects_of_acts done_acts) (has_same (s.first + j) (h.0.first + j) (effects_of_acts done_acts) (effects_of_acts done_acts) (ap (λ n. n + j) (sym stays.first)) refl emitted))

  numbered_item : (s : EngineModel) (now : ℕ) (o : Option Happening) (emitted : List Effect) (t : EngineModel) → HappeningIfAnyIsPlayed o s now emitted t → Numbered s t emitted
  numbered_item s now None emitted t h = record { writes = λ j d. inl (subst (λ (u : EngineModel). IsLost u j) h.1 d); first = ap (λ (u : EngineModel). u.first) h.1 }
  numbered_item s now (Some happening) emitted t h =
      let works = numbered_works h.done_acts (model_after_happening s happening) now t h.settles.0 in
      let stays = takes_stay s happening in
      record { writes = λ j d. by_works stays j (works.writes j d); first = works.first ∙ stays.first }
    where
      by_works : EndedEndsStayEnded s (model_after_happening s happening) → (j : ℕ) → IsLost (model_after_happening s happening) j ⊎ EffectsDropLink ((model_after_happening s happening).first + j) (effects_of_acts h.done_acts) → IsLost s j ⊎ EffectsDropLink (s.first + j) emitted
      by_works stays j (inl d) = inl (same_links happening j d)
        where
          same_links : (happening : Happening) (j : ℕ) → IsLost (model_after_happening s happening) j → IsLost s j
          same_links happening j d = (let count = as_many s happening in let below = d.0 in omega (arith, count, below), sym (takes_none s happening j) ∙ d.1)
      by_works stays j (inr emitted_so) = inr (has_same (s.first + j) ((model_after_happening s happening).first + j) emitted (effects_of_acts h.done_acts) (ap (λ n. n + j) (sym stays.first)) h.emitted emitted_so)

  numbered_plays : (items : List Item) (a : PlayState) (emitted : List Effect) (c : PlayState) → ItemsArePlayed a items emitted c → Numbered a.model c.model emitted
  numbered_plays [] a emitted c h = record { writes = λ j d. inl (subst (λ (x : PlayState). IsLost x.model j) h.1 d); first = ap (λ (x : PlayState). x.model.first) h.1 }
  numbered_plays (item ∷ items) a emitted c h =
      let one = numbered_item a.model h.0.now (happening_of_item item) h.1 h.0.model h.3.happened in
      let rest = numbered_plays items h.0 h.2 c h.4 in
      record { writes = λ j d. by_rest one j (rest.writes j d); first = rest.first ∙ one.first }
    where
      by_one : (j : ℕ) → IsLost a.model j ⊎ EffectsDropLink (a.model.first + j) h.1 → IsLost a.model j ⊎ EffectsDropLink (a.model.first + j) emitted
      by_one j (inl d) = inl d
      by_one j (inr so) = inr (has_same (a.model.first + j) (a.model.first + j) emitted (h.1 ++ h.2) refl h.5 (has_sooner (a.model.first + j) h.1 h.2 so))

      by_rest : Numbered a.model h.0.model h.1 → (j : ℕ) → IsLost h.0.model j ⊎ EffectsDropLink (h.0.model.first + j) h.2 → IsLost a.model j ⊎ EffectsDropLink (a.model.first + j) emitted
      by_rest one j (inl d) = by_one j (one.writes j d)
      by_rest one j (inr so) =
          inr (has_same (a.model.first + j) (h.0.model.first + j) emitted (h.1 ++ h.2) (ap (λ n. n + j) (sym one.first)) h.5 (has_later (h.0.model.first + j) h.1 h.2 so))

  pub each_drop_is_emitted : (a : PlayState) (items : List Item) (emitted : List Effect) (c : PlayState) → a.model.links ≡ [] → ItemsArePlayed a items emitted c →
      (j : ℕ) → j < length c.model.links → (link_at c.model j).dropped ≡ true → EffectsDropLink (c.model.first + j) emitted
  each_drop_is_emitted a items emitted c none h j below d =
      let all = numbered_plays items a emitted c h in
      by_emitted all.first (all.writes j (below, d))
    where
      by_emitted : c.model.first ≡ a.model.first → IsLost a.model j ⊎ EffectsDropLink (a.model.first + j) emitted → EffectsDropLink (c.model.first + j) emitted
      by_emitted first (inl lost) = let empty : length a.model.links ≡ 0 = ap (λ (ks : List LinkModel). length ks) none in let below = lost.0 in absurd (omega (arith, empty, below))
      by_emitted first (inr so) = has_same (c.model.first + j) (a.model.first + j) emitted emitted (ap (λ n. n + j) first) refl so
