-- A script has one play, and one text.
use Rattle.std.proofs.Common.{◌≡◌, ℕ, List, [], ◌∷◌, ◌++◌, refl, sym, ap, ◌∙◌, subst, Bool, true, false, Option, None, Some, Result, Ok}
use Rattle.std.specs.List.{flat_map, AllByRecursion}
use Rattle.hx_allow.specs.TableLines.{Table}
use Rattle.hx_allow.specs.Tables.{BytesReadAsTable}
use Rattle.hx_allow.specs.declared.config_faults.TableFault.{TableFault}
use Rattle.proxy_script.specs.Script.{ItemModel as Item, item_spelling, ItemCanBeSpelled, ItemIsAllowedAtPosition, IsScript, ItemReading, Found, Cut, leading_item}
use Rattle.proxy_script.specs.Script as item
use Rattle.proxy_script.specs.Effects.{effects_text}
use Rattle.proxy_script.specs.declared.effect_list.Effect.{Effect}
use Rattle.proxy_engine.specs.Happenings.{HappeningModel as Happening}
use Rattle.proxy_engine.specs.EngineModel.{EngineModel, model_after_happening}
use Rattle.proxy_engine.specs.Due.{Act, IsFirstDueAct}
use Rattle.proxy_engine.specs.Acts.{ActIsDone}
use Rattle.proxy_engine.specs.Executions.{ActIsDoneInOneWay}
use Rattle.proxy_replay.specs.Played.{DoneActWithEffects, FirstDueActsAreDoneInOrder, effects_of_acts, PlayState, play_state_over_store, ItemIsPlayed, ItemsArePlayed, HappeningIfAnyIsPlayed, happening_of_item}
use Rattle.proxy_replay.specs.Runs.{ScriptHasOnePlay}
use Rattle.proxy_replay.specs.Replay.{ReplayHasOneText}
use Rattle.proxy_replay.proofs.Fronts.{item_nil}

none_some : {P : Type 0} (act : Act) → ◌≡◌ {A = Option Act} None (Some act) → P
none_some {P} act h = absurd (cc)

-- where one act is due first, and is done in one way
module _ (due : (s : EngineModel) → (a b : Option Act) → IsFirstDueAct s a → IsFirstDueAct s b → a ≡ b) (done : ActIsDoneInOneWay) where
  settled_once : (done_acts more : List DoneActWithEffects) (s : EngineModel) (now : ℕ) (t u : EngineModel) → FirstDueActsAreDoneInOrder s now done_acts t → IsFirstDueAct t None → FirstDueActsAreDoneInOrder s now more u → IsFirstDueAct u None →
      (effects_of_acts done_acts ≡ effects_of_acts more) × (t ≡ u)
  settled_once [] [] s now t u h i k j = (refl, h ∙ sym k)
  settled_once [] (done_act ∷ more) s now t u h i k j = none_some done_act.act (due s None (Some done_act.act) (subst (λ (v : EngineModel). IsFirstDueAct v None) h i) k.1)
  settled_once (done_act ∷ done_acts) [] s now t u h i k j = none_some done_act.act (due s None (Some done_act.act) (subst (λ (v : EngineModel). IsFirstDueAct v None) k j) h.1)
  settled_once (done_act ∷ done_acts) (other ∷ more) s now t u h i k j =
      let some : Some done_act.act ≡ Some other.act = due s (Some done_act.act) (Some other.act) h.1 k.1 in
      let act : done_act.act ≡ other.act = cc in
      let does : ActIsDone s now done_act.act other.effects k.0 = subst (λ (a : Act). ActIsDone s now a other.effects k.0) (sym act) k.2 in
      let same = done s now done_act.act done_act.effects other.effects h.0 k.0 h.2 does in
      let rest = settled_once done_acts more h.0 now t u h.3 i (subst (λ (v : EngineModel). FirstDueActsAreDoneInOrder v now more u) (sym same.1) k.3) j in
      (ap (λ (es : List Effect). es ++ effects_of_acts done_acts) same.0 ∙ ap (λ (es : List Effect). other.effects ++ es) rest.0, rest.1)

  happened_once : (s : EngineModel) (now : ℕ) (o : Option Happening) (effects more : List Effect) (t u : EngineModel) → HappeningIfAnyIsPlayed o s now effects t → HappeningIfAnyIsPlayed o s now more u →
      (effects ≡ more) × (t ≡ u)
  happened_once s now None effects more t u h k = (h.0 ∙ sym k.0, h.1 ∙ sym k.1)
  happened_once s now (Some happening) effects more t u h k =
      let same = settled_once h.done_acts k.done_acts (model_after_happening s happening) now t u h.settles.0 h.settles.1 k.settles.0 k.settles.1 in
      (h.emitted ∙ (same.0 ∙ sym k.emitted), same.1)

  item_once : (a b c : PlayState) (item : Item) (effects more : List Effect) → ItemIsPlayed a item effects b → ItemIsPlayed a item more c → (effects ≡ more) × (b ≡ c)
  item_once a b c item effects more h k =
      let now : c.now ≡ b.now = k.moment ∙ sym h.moment in
      let same = happened_once a.model b.now (happening_of_item item) effects more b.model c.model h.happened
      (subst (λ n. HappeningIfAnyIsPlayed (happening_of_item item) a.model n more c.model) now k.happened) in (
        same.0,
        ap (λ (s : EngineModel). record { model = s; now = b.now }) same.1 ∙ ap (λ n. record { model = c.model; now = n }) (sym now),
      )

  pub has_one_play : ScriptHasOnePlay
  has_one_play a [] effects more b c h k = (h.0 ∙ sym k.0, h.1 ∙ sym k.1)
  has_one_play a (item ∷ items) effects more b c h k =
      let here = item_once a h.0 k.0 item h.1 k.1 h.3 k.3 in
      let rest = has_one_play h.0 items h.2 k.2 b c h.4 (subst (λ (m : PlayState). ItemsArePlayed m items k.2 c) (sym here.1) k.4) in
      (h.5 ∙ (ap (λ (es : List Effect). es ++ h.2) here.0 ∙ (ap (λ (es : List Effect). k.1 ++ es) rest.0 ∙ sym k.5)), rest.1)

-- where what is spelled is found
module _ (again : (first : Bool) (h : Item) (rest : List ℕ) → ItemCanBeSpelled h → ItemIsAllowedAtPosition first h → leading_item first (item_spelling h ++ rest) ≡ Found h rest) where
  record SameFront (h k : Item) (xs ys : List ℕ) : Type 0 where
    item_is : h ≡ k
    rest_is : xs ≡ ys

  front_once : (first : Bool) (h k : Item) (xs ys : List ℕ) → ItemCanBeSpelled h → ItemIsAllowedAtPosition first h → ItemCanBeSpelled k → ItemIsAllowedAtPosition first k → (item_spelling h ++ xs) ≡ (item_spelling k ++ ys) → SameFront h k xs ys
  front_once first h k xs ys f p g q e =
      let found : Found h xs ≡ Found k ys = sym (again first h xs f p) ∙ (ap (leading_item first) e ∙ again first k ys g q) in
      record { item_is = cc; rest_is = cc }

  never_empty : {P : Type 0} (h : Item) (xs : List ℕ) → ItemCanBeSpelled h → ItemIsAllowedAtPosition false h → (item_spelling h ++ xs) ≡ [] → P
  never_empty {P} h xs f p e = let found : Found h xs ≡ Cut = sym (again false h xs f p) ∙ (ap (leading_item false) e ∙ item_nil false) in absurd (cc)

  items_once : (items others : List Item) → AllByRecursion ItemCanBeSpelled items → AllByRecursion (ItemIsAllowedAtPosition false) items → AllByRecursion ItemCanBeSpelled others → AllByRecursion (ItemIsAllowedAtPosition false) others →
      flat_map item_spelling items ≡ flat_map item_spelling others → items ≡ others
  items_once [] [] f p g q e = refl
  items_once [] (k ∷ others) f p g q e = never_empty k (flat_map item_spelling others) g.0 q.0 (sym e)
  items_once (h ∷ items) [] f p g q e = never_empty h (flat_map item_spelling items) f.0 p.0 e
  items_once (h ∷ items) (k ∷ others) f p g q e =
      let front = front_once false h k (flat_map item_spelling items) (flat_map item_spelling others) f.0 p.0 g.0 q.0 e in
      ap (λ (i : Item). i ∷ items) front.item_is ∙ ap (λ (is : List Item). k ∷ is) (items_once items others f.1 p.1 g.1 q.1 front.rest_is)

  table_of : Item → List ℕ
  table_of (item.Table bytes) = bytes
  table_of other = []

  pub has_one_text : ScriptHasOnePlay → ((bytes : List ℕ) (r s : Result Table TableFault) → BytesReadAsTable bytes r → BytesReadAsTable bytes s → r ≡ s) → ReplayHasOneText
  unfolding table_of
  has_one_text play reads held first script text other h k =
      let front = front_once true (item.Table h.table) (item.Table k.table) (flat_map item_spelling h.items) (flat_map item_spelling k.items)
      h.is_script.table_fits refl k.is_script.table_fits refl (sym h.is_script.script ∙ k.is_script.script) in
      let table : h.table ≡ k.table = ap table_of front.item_is in
      let items : h.items ≡ k.items =
      items_once h.items k.items h.is_script.items_fit h.is_script.one_table k.is_script.items_fit k.is_script.one_table front.rest_is in
      let read : Ok h.config ≡ Ok k.config = reads h.table (Ok h.config) (Ok k.config) h.reads (subst (λ (b : List ℕ). BytesReadAsTable b (Ok k.config)) (sym table) k.reads) in
      let config : h.config ≡ k.config = cc in
      let plays : ItemsArePlayed (play_state_over_store h.config held first) h.items k.effects k.last =
      subst (λ (t : Table). ItemsArePlayed (play_state_over_store t held first) h.items k.effects k.last) (sym config) (subst (λ (is : List Item). ItemsArePlayed (play_state_over_store k.config held first) is k.effects k.last) (sym items) k.plays) in
      h.emitted ∙ (ap effects_text (play (play_state_over_store h.config held first) h.items h.effects k.effects h.last k.last h.plays plays).0 ∙ sym k.emitted)
