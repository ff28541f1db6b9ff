-- A replay of a server's record tells what was served.
use Rattle.std.proofs.Common.{◌≡◌, ◌⊎◌, inl, inr, ℕ, ◌+◌, ◌<◌, ◌≤◌, List, [], ◌∷◌, ◌++◌, length, length-append, ◌==◌, refl, sym, ap, ◌∙◌, subst, arith, append-nil, append_assoc, Bool, true, false, Option, None, Some, Result, Ok, Err}
use Rattle.std.specs.Prelude.{not, if◌then◌else◌, nat_le, ◌-◌}
use Rattle.std.proofs.lemmas.Bool.Decides.{nat_tests}
use Rattle.std.specs.Io.KnownBytes.{Appends}
use Rattle.std.specs.List.{AllByRecursion}
use Rattle.hx_allow.specs.TableLines.{Table}
use Rattle.hx_allow.specs.Tables.{BytesReadAsTable}
use Rattle.hx_allow.specs.declared.config_faults.TableFault.{TableFault}
use Rattle.hx_store.specs.Stored.{Stored}
use Rattle.proxy_script.specs.Effects.{effects_text}
use Rattle.proxy_script.specs.Happenings.{HappeningModel as Happening}
use Rattle.proxy_script.specs.Script.{ItemModel as Item, Moment, Happens, line_of_item, block_of_item, item_spelling, ItemCanBeSpelled, ItemIsAllowedAtPosition, IsScript, Found, leading_item}
use Rattle.proxy_script.specs.Script as item
use Rattle.proxy_script.specs.ScriptLines.{line_text}
use Rattle.proxy_script.specs.declared.limits.TheConstants.{MOST_SCRIPT_BYTES}
use Rattle.proxy_script.specs.declared.effect_list.Effect.{Effect}
use Rattle.proxy_engine.specs.EngineModel.{EngineModel}
use Rattle.proxy_engine.specs.Due.{Act, IsFirstDueAct}
use Rattle.proxy_engine.specs.Executions.{ExecutionStep, StepsLeadToModel, effects_of_steps}
use Rattle.proxy_engine.specs.Beginnings.{ResponsesMayBeHeldAtStart, engine_model_at_start}
use Rattle.proxy_engine.specs.State.{EngineRepresents}
use Rattle.proxy_replay.specs.Played.{PlayState, play_state_over_store, ItemsArePlayed}
use Rattle.proxy_replay.specs.Replay.{ScriptIsReplayedOverAStore}
use Rattle.proxy_turn.specs.OverSteps.{TurnOverGivenEndsStepsEmitTheirEffects}
use Rattle.proxy_turn.specs.Served.{initial_model_of, EngineLivedThroughSteps, TurnIsServedAfterEndLosses, TurnExecutesItsSteps, ExecutedEngineHasServedAGoodRun}
use Rattle.proxy_turn.specs.declared.report.Report.{Report}
use Rattle.proxy_turn.specs.declared.report.TurnFault.{TurnFault}
use Rattle.proxy_turn.specs.declared.report.TurnFault.TheVariants as faults
use Rattle.proxy_turn_laws.specs.ActsOfATurn.{RoundsWithoutFailureAreActsInOrder}
use Rattle.proxy_record.specs.Records.{RecordSoFar, record_text_if_room, items_of_happening, text_of_items, RecordBeginsWithTable, RecordedHappening, RecordMayEnd, HappeningsAreRecordedOrRecordEnds, items_of_recorded, script_of_recorded, RecordedHappeningHasSpelling, IsRecordOfHappenings, RecordIsScriptOfItsHappenings, RecordedScriptsFollowGrammar}
use Rattle.proxy_record.specs.Recorded.{is_recording}
use Rattle.proxy_record.specs.RecordedTurns.{recorded_at_moment, TurnsAreRecorded}
use Rattle.proxy_server.specs.ServerState.{ServerState, state_at_turn_start}
use Rattle.proxy_server.specs.Serving.{server_accept_bounds, ServerTurn, TurnIsServedAndSettled}
use Rattle.proxy_record_laws.specs.PlaysOfARecord.{AWholePlayExtendsThePlaySoFar}
use Rattle.proxy_record_laws.specs.LivesOfAServer.{steps_of_server_turn, happenings_of_server_turn, ServerLife, ServerBegins, RecordedLifeBegins, LifeContinuesByTurn, TurnsLeadToLife, AServerBegins, NewServerBeginsRecordedLife, ALifeIsAnExecution, AServedTurnContinuesTheLife, ATurnOutOfLinkNumbersContinuesTheLife, ARecordReplaysWhatWasServed, AnEndedRecordReplaysWhatWasServed}
use Rattle.proxy_record_laws.proofs.Playing.{moment_behind, items_joined, played_in_two}
use Rattle.proxy_record_laws.proofs.PlayingOn.{nothing_due}
use Rattle.proxy_record_laws.proofs.Living.{noted_joined, first_fine, life_noted}
use Rattle.proxy_record_laws.proofs.LivingOn.{Stands, life_stands, isnt, is_not}
use Rattle.proxy_record_laws.proofs.Spelling.{one_script}

-- ---- a life is lived by steps

pub server_begins : AServerBegins
server_begins bytes table kept serial a reads table_is may represents = (
  record { server = a; model = engine_model_at_start table kept serial 1; steps = []; happened = [] },
  refl,
  record {
    reads = reads;
    may = may;
    table_is = table_is;
    represents = represents;
    model = refl;
    steps = refl;
    happened = refl;
  },
)

pub new_server_begins : NewServerBeginsRecordedLife
unfolding server_begins
new_server_begins bytes table kept serial a begun reads table_is may represents recorder begins unended =
    let server = server_begins bytes table kept serial a reads table_is may represents in
    (server.0, server.1, record { server = server.2; begun = begun; recorder = recorder; begins = begins; unended = unended })

begins_with_no_step : (bytes : List ℕ) (table : Table) (kept : List Stored) (serial : ℕ) (l : ServerLife) → ServerBegins bytes table kept serial l → EngineLivedThroughSteps l.server.engine kept serial 1 l.steps l.model
begins_with_no_step bytes table kept serial l begins =
    let begin = initial_model_of l.server.engine kept serial 1 in
    let same : engine_model_at_start table kept serial 1 ≡ begin = ap (λ (t : Table). engine_model_at_start t kept serial 1) (sym begins.table_is) in
    record {
      begins = subst (λ (t : Table). ResponsesMayBeHeldAtStart t kept serial) (sym begins.table_is) begins.may;
      executes = subst (λ (ss : List ExecutionStep). StepsLeadToModel begin ss l.model) (sym begins.steps) (begins.model ∙ same);
      represents = subst (EngineRepresents l.server.engine) (sym begins.model) begins.represents;
    }

-- a turn of a server, as one of an engine
abbrev pub turn_of_engine : (s : EngineModel) (a b : ServerState) (reported : Result Report TurnFault) → ServerTurn s a b reported → TurnIsServedAfterEndLosses a.moment server_accept_bounds s b.engine reported
turn_of_engine s a b reported turn = record {
  lost = turn.handed_in.losses.lost;
  are_losses = turn.handed_in.losses.are_losses;
  mid = turn.handed_in.losses.after;
  takes = turn.handed_in.losses.takes;
  given = turn.given;
  left = turn.left;
  before = turn.mid.calls;
  after = b.calls;
  turn = turn.turn.turns;
}

pub life_is_executed : TurnExecutesItsSteps → ALifeIsAnExecution
life_is_executed by_steps bytes table kept serial begin l [] begins same = subst (λ (k : ServerLife). EngineLivedThroughSteps k.server.engine kept serial 1 k.steps k.model) (sym same) (begins_with_no_step bytes table kept serial begin begins)
life_is_executed by_steps bytes table kept serial begin l (reported ∷ past) begins leads =
    let before = leads.0 in
    let on = leads.2 in
    let begun = state_at_turn_start on.now before.server in
    let executed = life_is_executed by_steps bytes table kept serial begin before past begins leads.1 in
    let lived : EngineLivedThroughSteps on.last.engine kept serial 1 (steps_of_server_turn on.served before.steps) on.served.turn.turns.last =
    by_steps before.server.engine on.last.engine kept serial 1 before.steps before.model begun.moment server_accept_bounds reported executed (turn_of_engine before.model begun on.last reported on.served) in
    subst (λ (a : ServerState). EngineLivedThroughSteps a.engine kept serial 1 l.steps l.model) (sym on.server)
    (subst (λ (s : EngineModel). EngineLivedThroughSteps on.last.engine kept serial 1 l.steps s) (sym on.model)
    (subst (λ (ss : List ExecutionStep). EngineLivedThroughSteps on.last.engine kept serial 1 ss on.served.turn.turns.last) (sym on.steps) lived))

settled_turn_is_lived : ExecutedEngineHasServedAGoodRun → (kept : List Stored) (serial : ℕ) (l : ServerLife) (b : ServerState) (reported : Result Report TurnFault) → EngineLivedThroughSteps l.server.engine kept serial 1 l.steps l.model → TurnIsServedAndSettled l.server b reported → (m : ServerLife) × (m.server ≡ b) × LifeContinuesByTurn l reported m
settled_turn_is_lived runs kept serial l b reported executed settled =
    let begun = state_at_turn_start settled.served.now l.server in
    let orderly = (runs l.server.engine kept serial 1 l.steps l.model executed).0 in
    let turn : ServerTurn l.model begun settled.last reported = settled.served.serves l.model executed.represents orderly in (
      record {
        server = b;
        model = turn.turn.turns.last;
        steps = steps_of_server_turn turn l.steps;
        happened = l.happened ++ recorded_at_moment begun.moment (happenings_of_server_turn turn);
      },
      refl,
      record { now = settled.served.now; last = settled.last; early = settled.served.early; serves = settled.served.serves; served = turn; server = settled.settles; model = refl; steps = refl; happened = refl },
    )

pub turn_is_lived : ExecutedEngineHasServedAGoodRun → AServedTurnContinuesTheLife
turn_is_lived runs kept serial l b turned executed answers = settled_turn_is_lived runs kept serial l b turned.reported executed answers.1.0

pub spent_turn_is_lived : ExecutedEngineHasServedAGoodRun → ATurnOutOfLinkNumbersContinuesTheLife
spent_turn_is_lived runs kept serial l b executed answers = settled_turn_is_lived runs kept serial l b (Err faults.Spent) executed answers

-- ---- lists

abbrev OneIsInFront : List RecordedHappening → List RecordedHappening → Type 0
OneIsInFront xs us =
    ((more : List RecordedHappening) × (us ≡ xs ++ more)) ⊎ ((one : RecordedHappening) × (more : List RecordedHappening) × (xs ≡ us ++ one ∷ more))

one_in_front : (xs ys us vs : List RecordedHappening) → xs ++ ys ≡ us ++ vs → OneIsInFront xs us
one_in_front [] ys us vs is = inl (us, refl)
one_in_front (x ∷ xs) ys [] vs is = inr (x, xs, refl)
one_in_front (x ∷ xs) ys (u ∷ us) vs is = behind (one_in_front xs ys us vs rest)
  where
    first : x ≡ u
    first = cc

    rest : xs ++ ys ≡ us ++ vs
    rest = cc

    behind : OneIsInFront xs us → OneIsInFront (x ∷ xs) (u ∷ us)
    behind (inl here) = inl (here.0, ap (λ (k : RecordedHappening). k ∷ us) (sym first) ∙ ap (λ (ks : List RecordedHappening). x ∷ ks) here.1)
    behind (inr here) = inr (here.0, here.1, ap (λ (k : RecordedHappening). k ∷ xs) first ∙ ap (λ (ks : List RecordedHappening). u ∷ ks) here.2)

all_in_front : (P : RecordedHappening → Type 0) (xs ys : List RecordedHappening) → AllByRecursion P (xs ++ ys) → AllByRecursion P xs
all_in_front P [] ys all = tt
all_in_front P (x ∷ xs) ys all = (all.0, all_in_front P xs ys all.1)

-- ---- lengths

text_joined : (is js : List Item) → text_of_items (is ++ js) ≡ text_of_items is ++ text_of_items js
text_joined [] js = refl
text_joined (i ∷ is) js = ap (λ (bs : List ℕ). item_spelling i ++ bs) (text_joined is js) ∙ sym (append_assoc (item_spelling i) (text_of_items is) (text_of_items js))

some_text : (i : Item) (more : List ℕ) → length more < length (item_spelling i ++ more)
some_text i more =
    let all = length-append (item_spelling i) more in
    let parts = length-append (line_text (line_of_item i)) (10 ∷ block_of_item i) in
    omega (arith, all, parts)

happening_has_text : (same : Bool) (now : ℕ) (h : Happening) → 0 < length (text_of_items (if same then Happens h ∷ [] else Moment now ∷ Happens h ∷ []))
happening_has_text true now h = some_text (Happens h) []
happening_has_text false now h = let some = some_text (Moment now) (text_of_items (Happens h ∷ [])) in omega (arith, some)

script_is_longer : (bytes : List ℕ) (us : List RecordedHappening) (one : RecordedHappening) (more : List RecordedHappening) → length (script_of_recorded bytes us) < length (script_of_recorded bytes (us ++ one ∷ more))
script_is_longer bytes us one more =
    let table = item_spelling (item.Table bytes) in
    let last = moment_behind 0 us in
    let here = items_of_happening last one.moment one.happening in
    let behind = items_of_recorded one.moment more in
    let texts : text_of_items (items_of_recorded 0 (us ++ one ∷ more)) ≡ text_of_items (items_of_recorded 0 us) ++ (text_of_items here ++ text_of_items behind) =
    ap text_of_items (items_joined 0 us (one ∷ more)) ∙ (text_joined (items_of_recorded 0 us) (here ++ behind) ∙ ap (λ (bs : List ℕ). text_of_items (items_of_recorded 0 us) ++ bs) (text_joined here behind)) in
    let some : 0 < length (text_of_items here) = happening_has_text (one.moment == last) one.moment one.happening in
    let first = length-append table (text_of_items (items_of_recorded 0 us)) in
    let second = length-append table (text_of_items (items_of_recorded 0 (us ++ one ∷ more))) in
    let third = ap length texts in
    let fourth = length-append (text_of_items (items_of_recorded 0 us)) (text_of_items here ++ text_of_items behind) in
    let fifth = length-append (text_of_items here) (text_of_items behind) in
    omega (arith, some, first, second, third, fourth, fifth)

same_length : (r new : RecordSoFar) → RecordMayEnd r new → new.len ≡ r.len
same_length r new (inl same) = ap (λ (k : RecordSoFar). k.len) same
same_length r new (inr ends) = ap (λ (k : RecordSoFar). k.len) ends

no_shorter : (ns : List RecordedHappening) (r new : RecordSoFar) → HappeningsAreRecordedOrRecordEnds r ns new → r.len ≤ new.len
no_shorter [] r new may = let same = same_length r new may in omega (arith, same)
no_shorter (one ∷ ns) r new (begun, may, mid, happens, rest) =
    let same = same_length r begun may in
    let longer : mid.len ≡ begun.len + length (record_text_if_room begun (text_of_items (items_of_happening begun.moment one.moment one.happening))) = happens.len in
    let more = no_shorter ns mid new rest in
    omega (arith, same, longer, more)

few_bytes : (n : ℕ) → nat_le n (MOST_SCRIPT_BYTES - 0) ≡ true → n ≤ 16777216
few_bytes n fits = grind (arith, nat_tests)

-- a table with which a record begins has a spelling
table_has_spelling : (bytes : List ℕ) (begun : RecordSoFar) → RecordBeginsWithTable (Some []) bytes begun → begun.over ≡ false → ItemCanBeSpelled (item.Table bytes)
table_has_spelling bytes begun begins unended =
    let text = item_spelling (item.Table bytes) in
    let fits : nat_le (length text) (MOST_SCRIPT_BYTES - 0) ≡ true = isnt (nat_le (length text) (MOST_SCRIPT_BYTES - 0)) (sym begins.ends ∙ unended) in
    let few = few_bytes (length text) fits in
    let all = length-append (line_text (line_of_item (item.Table bytes))) (10 ∷ block_of_item (item.Table bytes)) in
    let block = length-append bytes (10 ∷ []) in
    omega (arith, few, all, block)

held_is : (held : Option (List ℕ)) (script text : List ℕ) → held ≡ Some script → Appends (Some []) held text → script ≡ text
held_is held script text is appends = subst (λ (o : Option (List ℕ)). Appends (Some []) o text) is appends

-- ---- the replay

life_fine : TurnsAreRecorded → (turns : List (Result Report TurnFault)) (l m : ServerLife) → TurnsLeadToLife l turns m → m.server.failed ≡ false → l.server.failed ≡ false
life_fine recorded [] l m same fine = ap (λ (k : ServerLife). k.server.failed) (sym same) ∙ fine
life_fine recorded (reported ∷ past) l m leads fine = life_fine recorded past l leads.0 leads.1 (first_fine recorded leads.0 reported m leads.2 fine)

module _ (recorded : TurnsAreRecorded) (due : (s : EngineModel) → (a b : Option Act) → IsFirstDueAct s a → IsFirstDueAct s b → a ≡ b) (in_order : RoundsWithoutFailureAreActsInOrder) (emit : TurnOverGivenEndsStepsEmitTheirEffects) (goes_on : AWholePlayExtendsThePlaySoFar) where
  module _ (one_table : (bytes : List ℕ) (r s : Result Table TableFault) → BytesReadAsTable bytes r → BytesReadAsTable bytes s → r ≡ s) (again : (first : Bool) (h : Item) (rest : List ℕ) → ItemCanBeSpelled h → ItemIsAllowedAtPosition first h → leading_item first (item_spelling h ++ rest) ≡ Found h rest)
      (scripts : RecordIsScriptOfItsHappenings) (spelled : RecordedScriptsFollowGrammar) where
    record PlaysNoted (table : Table) (kept : List Stored) (serial : ℕ) (ns : List RecordedHappening) (text : List ℕ) : Type 0 where
      effects : List Effect
      end : PlayState
      plays : ItemsArePlayed (play_state_over_store table kept serial) (items_of_recorded 0 ns) effects end
      text_is : text ≡ effects_text effects

    replay_plays : (table : Table) (kept : List Stored) (serial : ℕ) (bytes : List ℕ) (ns : List RecordedHappening) (script text : List ℕ) → BytesReadAsTable bytes (Ok table) → script ≡ script_of_recorded bytes ns → ItemCanBeSpelled (item.Table bytes) → AllByRecursion RecordedHappeningHasSpelling ns → ScriptIsReplayedOverAStore kept serial script text → PlaysNoted table kept serial ns text
    replay_plays table kept serial bytes ns script text reads is fits all replayed =
        let here : IsScript script bytes (items_of_recorded 0 ns) = subst (λ (bs : List ℕ). IsScript bs bytes (items_of_recorded 0 ns)) (sym is) (spelled bytes ns fits all) in
        let same = one_script again script bytes replayed.table (items_of_recorded 0 ns) replayed.items here replayed.is_script in
        let read : Ok table ≡ Ok replayed.config = one_table bytes (Ok table) (Ok replayed.config) reads (subst (λ (bs : List ℕ). BytesReadAsTable bs (Ok replayed.config)) (sym same.table_is) replayed.reads) in
        let config : table ≡ replayed.config = cc in
        record {
          effects = replayed.effects;
          end = replayed.last;
          plays = subst (λ (t : Table). ItemsArePlayed (play_state_over_store t kept serial) (items_of_recorded 0 ns) replayed.effects replayed.last) (sym config)
              (subst (λ (is : List Item). ItemsArePlayed (play_state_over_store replayed.config kept serial) is replayed.effects replayed.last) (sym same.items_are) replayed.plays);
          text_is = replayed.emitted;
        }

    begin_stands : (bytes : List ℕ) (table : Table) (kept : List Stored) (serial : ℕ) (begin : ServerLife) → RecordedLifeBegins bytes table kept serial begin → Stands table kept serial begin
    begin_stands bytes table kept serial begin begins = record {
      played = inl (begins.server.happened, ap effects_of_steps begins.server.steps, begins.server.model);
      settled = λ is. subst (λ (s : EngineModel). IsFirstDueAct s None) (sym begins.server.model) (nothing_due table kept serial);
    }

    -- all that happened since the beginning was noted
    record Noted (bytes : List ℕ) (begun : RecordSoFar) (l : ServerLife) : Type 0 where
      r : RecordSoFar
      held : l.server.recorder ≡ Some r
      noted : HappeningsAreRecordedOrRecordEnds begun l.happened r
      of : IsRecordOfHappenings (Some []) bytes l.happened r

    all_noted : (bytes : List ℕ) (table : Table) (kept : List Stored) (serial : ℕ) (begin l : ServerLife) (turns : List (Result Report TurnFault)) (begins : RecordedLifeBegins bytes table kept serial begin) → TurnsLeadToLife begin turns l → l.server.failed ≡ false → Noted bytes begins.begun l
    all_noted bytes table kept serial begin l turns begins leads fine =
        let since = life_noted recorded turns begin l begins.begun leads begins.recorder fine in
        let all : since.since ≡ l.happened = sym (since.happened ∙ ap (λ (ns : List RecordedHappening). ns ++ since.since) begins.server.happened) in
        let noted : HappeningsAreRecordedOrRecordEnds begins.begun l.happened since.later = subst (λ (ns : List RecordedHappening). HappeningsAreRecordedOrRecordEnds begins.begun ns since.later) all since.noted in
        record { r = since.later; held = since.held; noted = noted; of = scripts (Some []) bytes l.happened begins.begun since.later begins.begins begins.unended noted }

    same_record : (r k : RecordSoFar) (o : Option RecordSoFar) → o ≡ Some r → o ≡ Some k → r ≡ k
    same_record r k o is are = let same : Some r ≡ Some k = sym is ∙ are in cc

    whole_front : (bytes : List ℕ) (ns : List RecordedHappening) (r : RecordSoFar) (of : IsRecordOfHappenings (Some []) bytes ns r) → r.over ≡ false → of.front ≡ ns
    whole_front bytes ns r of is = sym (append-nil of.front) ∙ (ap (λ (ks : List RecordedHappening). of.front ++ ks) (sym (of.all is)) ∙ sym of.split)

    pub record_replays : ARecordReplaysWhatWasServed
    record_replays bytes table kept serial begin l turns r script text begins leads fine is unended held all replayed =
        let noted = all_noted bytes table kept serial begin l turns begins leads fine in
        let same : noted.r ≡ r = same_record noted.r r l.server.recorder noted.held is in
        let of : IsRecordOfHappenings (Some []) bytes l.happened r = subst (IsRecordOfHappenings (Some []) bytes l.happened) same noted.of in
        let front : of.front ≡ l.happened = whole_front bytes l.happened r of unended in
        let script_is : script ≡ script_of_recorded bytes l.happened = held_is r.held script (script_of_recorded bytes of.front) held of.held ∙ ap (script_of_recorded bytes) front in
        let writes : is_recording l.server.recorder ≡ true = ap is_recording is ∙ ap not unended in
        let stands = life_stands recorded due in_order emit turns table kept serial begin l begins.begun (begin_stands bytes table kept serial begin begins) leads begins.recorder fine writes in
        let plays = replay_plays table kept serial bytes l.happened script text begins.server.reads script_is (table_has_spelling bytes begins.begun begins.begins begins.unended) all replayed in
        let more = goes_on table kept serial l.happened (effects_of_steps l.steps) plays.effects l.model l.server.moment plays.end stands.played plays.plays in
        record { rest = more.0; text_is = plays.text_is ∙ ap effects_text more.1; due = more.2; settled = λ settled. more.2 (stands.settled settled) }

    -- what was noted while a record was written stands in front, whatever follows
    stays_in_front : (bytes : List ℕ) (us ks : List RecordedHappening) (r k : RecordSoFar) (more : List RecordedHappening) → IsRecordOfHappenings (Some []) bytes us r → r.over ≡ false → HappeningsAreRecordedOrRecordEnds r more k → (of : IsRecordOfHappenings (Some []) bytes ks k) → ks ≡ us ++ more
        → (behind : List RecordedHappening) × (of.front ≡ us ++ behind)
    stays_in_front bytes us ks r k more first is noted of all = by_front (one_in_front us more of.front of.rest (sym all ∙ of.split))
      where
        by_front : OneIsInFront us of.front → (behind : List RecordedHappening) × (of.front ≡ us ++ behind)
        by_front (inl here) = here
        by_front (inr here) =
            let longer = script_is_longer bytes of.front here.0 here.1 in
            let is_us : length (script_of_recorded bytes us) ≡ length (script_of_recorded bytes (of.front ++ here.0 ∷ here.1)) = ap (λ (ns : List RecordedHappening). length (script_of_recorded bytes ns)) here.2 in
            let first_len : r.len ≡ length (script_of_recorded bytes us) = first.len ∙ ap (λ (ns : List RecordedHappening). length (script_of_recorded bytes ns)) (whole_front bytes us r first is) in
            let last_len : k.len ≡ length (script_of_recorded bytes of.front) = of.len in
            let grows = no_shorter more r k noted in
            absurd (omega (arith, longer, is_us, first_len, last_len, grows))

    pub ended_record_replays : AnEndedRecordReplaysWhatWasServed
    ended_record_replays bytes table kept serial begin l m turns more k script text begins leads writes later fine is held all replayed =
        let first_fine_is = life_fine recorded more l m later fine in
        let noted = all_noted bytes table kept serial begin l turns begins leads first_fine_is in
        let since = life_noted recorded more l m noted.r later noted.held fine in
        let same : since.later ≡ k = same_record since.later k m.server.recorder since.held is in
        let both : HappeningsAreRecordedOrRecordEnds begins.begun (l.happened ++ since.since) since.later = noted_joined l.happened since.since begins.begun noted.r since.later noted.noted since.noted in
        let all_of : IsRecordOfHappenings (Some []) bytes (l.happened ++ since.since) since.later = scripts (Some []) bytes (l.happened ++ since.since) begins.begun since.later begins.begins begins.unended both in
        let of : IsRecordOfHappenings (Some []) bytes (l.happened ++ since.since) k = subst (IsRecordOfHappenings (Some []) bytes (l.happened ++ since.since)) same all_of in
        let unended : noted.r.over ≡ false = is_not noted.r.over (ap is_recording (sym noted.held) ∙ writes) in
        let front = stays_in_front bytes l.happened (l.happened ++ since.since) noted.r k since.since noted.of unended (subst (HappeningsAreRecordedOrRecordEnds noted.r since.since) same since.noted) of refl in
        let script_is : script ≡ script_of_recorded bytes of.front = held_is k.held script (script_of_recorded bytes of.front) held of.held in
        let all_front : AllByRecursion RecordedHappeningHasSpelling of.front = all_in_front RecordedHappeningHasSpelling of.front of.rest (subst (AllByRecursion RecordedHappeningHasSpelling) (since.happened ∙ of.split) all) in
        let plays = replay_plays table kept serial bytes of.front script text begins.server.reads script_is (table_has_spelling bytes begins.begun begins.begins begins.unended) all_front replayed in
        let items : ItemsArePlayed (play_state_over_store table kept serial) (items_of_recorded 0 l.happened ++ items_of_recorded (moment_behind 0 l.happened) front.0) plays.effects plays.end =
        subst (λ (is : List Item). ItemsArePlayed (play_state_over_store table kept serial) is plays.effects plays.end) (ap (items_of_recorded 0) front.1 ∙ items_joined 0 l.happened front.0) plays.plays in
        let parts = played_in_two (items_of_recorded 0 l.happened) (items_of_recorded (moment_behind 0 l.happened) front.0) (play_state_over_store table kept serial) plays.end plays.effects items in
        let stands = life_stands recorded due in_order emit turns table kept serial begin l begins.begun (begin_stands bytes table kept serial begin begins) leads begins.recorder first_fine_is writes in
        let on = goes_on table kept serial l.happened (effects_of_steps l.steps) parts.1 l.model l.server.moment parts.0 stands.played parts.3 in (
          on.0 ++ parts.2,
          plays.text_is ∙ ap effects_text (parts.5 ∙ (ap (λ (es : List Effect). es ++ parts.2) on.1 ∙ append_assoc (effects_of_steps l.steps) on.0 parts.2)),
        )
