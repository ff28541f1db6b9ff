-- A script's items so far, one item further, and how a replay ends.
use Rattle.std.proofs.Common.{take-add, ◌≡◌, ℕ, ◌+◌, List, [], ◌∷◌, ◌++◌, length, take, drop, refl, ap, sym, ◌∙◌, subst, Bool, true, false, Option, Some, Result, Ok, Err, arith, append_assoc}
use Rattle.std.specs.Io.KnownBytes.{Appends, Consumes}
use Rattle.std.specs.List.{flat_map, AllByRecursion}
use Rattle.std.proofs.KnownBytes.{Appends-trans, Appends-nil}
use Rattle.std.proofs.lemmas.Grind.{flat_map-append}
use Rattle.std.proofs.lemmas.List.{append-nil, length_push, take_at, drop_at}
use Rattle.hx_allow.specs.TableLines.{Table}
use Rattle.hx_store.specs.Stored.{Stored}
use Rattle.proxy_script.specs.Script.{ItemModel as Item, item_spelling, ItemCanBeSpelled, ItemIsAllowedAtPosition, IsScript, Found, Cut, Wrong, leading_item}
use Rattle.proxy_script.specs.Script as item
use Rattle.proxy_script.specs.Effects.{effect_text, effects_text}
use Rattle.proxy_script.specs.declared.effect_list.Effect.{Effect}
use Rattle.proxy_store_file.specs.Stores.{StoreReading}
use Rattle.proxy_store_file.specs.Streams.{store_contents_of}
use Rattle.proxy_engine.specs.Beginnings.{ResponsesMayBeHeldAtStart}
use Rattle.proxy_engine.specs.State.{State, EngineRepresents}
use Rattle.proxy_replay.specs.Bytes.{ReaderGaveAtMost, script_limit}
use Rattle.proxy_replay.specs.Played.{PlayState, play_state_over_store, happening_of_item, moment_after_item, ItemIsPlayed, ItemsArePlayed, EngineFailsAtHappening}
use Rattle.proxy_replay.specs.Runs.{PlayIsAGoodRunOverAStore}
use Rattle.proxy_replay.proofs.Running.{plays_run}
use Rattle.proxy_replay.specs.Replay.{BytesBeginWithItem, NoItemIsReadAtFront, OpensEmptyStore, ScriptBytesLeadToState, ScriptBytesLeadToStateWhere, ReplayEndsAtItemBoundary, ReplayFails, ReplayWritesAndEnds, ReplayOverAStoreReadsAndEnds, IsStreamReplayOverEmptyStore, IsReplayedOverEmptyStore, ScriptReplayFails}
use Rattle.proxy_replay.specs.Steps.{TableIsReadFirst, ItemWasPlayedAndWritten, ItemWasNotPlayed, PlayingItemFails}
use Rattle.proxy_replay.specs.declared.replay_fault.ReplayFault.{ReplayFault}
use Rattle.proxy_replay.specs.declared.replay_fault.ReplayFault.TheVariants as faults
use Rattle.proxy_replay.proofs.Fronts.{ends_first}

-- one item further

plays_more : (items : List Item) (a b c : PlayState) (effects more : List Effect) (h : Item) → ItemsArePlayed a items effects b → ItemIsPlayed b h more c → ItemsArePlayed a (items ++ h ∷ []) (effects ++ more) c
plays_more [] a b c effects more h before one =
    (c, more, [], subst (λ x. ItemIsPlayed x h more c) before.1 one, (refl, refl), ap (λ es. es ++ more) before.0 ∙ sym (append-nil more))
plays_more (first ∷ items) a b c effects more h before one = (
  before.0,
  before.1,
  before.2 ++ more,
  before.3,
  plays_more items before.0 b c before.2 more h before.4 one,
  ap (λ es. es ++ more) before.5 ∙ append_assoc before.1 before.2 more,
)

all_push : (P : Item → Type 0) (items : List Item) (h : Item) → AllByRecursion P items → P h → AllByRecursion P (items ++ h ∷ [])
all_push P [] h all one = (one, tt)
all_push P (first ∷ items) h all one = (all.0, all_push P items h all.1 one)

script_more : (front table : List ℕ) (items : List Item) (h : Item) → IsScript front table items → ItemCanBeSpelled h → ItemIsAllowedAtPosition false h → IsScript (front ++ item_spelling h) table (items ++ h ∷ [])
script_more front table items h script fits placed = record {
  script = ap (λ xs. xs ++ item_spelling h) script.script
      ∙ (append_assoc (item_spelling (item.Table table)) (flat_map item_spelling items) (item_spelling h)
      ∙ ap (λ xs. item_spelling (item.Table table) ++ xs) (ap (λ xs. flat_map item_spelling items ++ xs) (sym (append-nil (item_spelling h))) ∙ sym (flat_map-append item_spelling items (h ∷ []))));
  table_fits = script.table_fits;
  items_fit = all_push ItemCanBeSpelled items h script.items_fit fits;
  one_table = all_push (ItemIsAllowedAtPosition false) items h script.one_table placed;
}

-- over a store that opens so
module _ (Opens : Table → StoreReading → Type 0) where
  leads_more : (bytes rest more : List ℕ) (items : List Item) (h : Item) (effects others : List Effect) (b c : PlayState) → ScriptBytesLeadToState Opens bytes items rest effects b → BytesBeginWithItem false rest h more → ItemIsPlayed b h others c → ScriptBytesLeadToState Opens bytes (items ++ h ∷ []) more (effects ++ others) c
  leads_more bytes rest more items h effects others b c leads represents one = let longer = plays_more items (play_state_over_store leads.config leads.held leads.first) b c effects others h leads.plays one in record {
    front = leads.front ++ item_spelling h;
    bytes_are = leads.bytes_are ∙ (ap (λ xs. leads.front ++ xs) represents.0 ∙ sym (append_assoc leads.front (item_spelling h) more));
    table = leads.table;
    script = script_more leads.front leads.table items h leads.script represents.1 represents.2;
    config = leads.config;
    reads = leads.reads;
    held = leads.held;
    first = leads.first;
    opens = leads.opens;
    may = leads.may;
    plays = longer;
    run = plays_run leads.config leads.held leads.first (items ++ h ∷ []) (effects ++ others) c leads.may longer;
  }

  -- what was played so far, at this moment and line, by an engine that stands for it
  pub record SoFar (bytes rest : List ℕ) (now line : ℕ) (e : State) (old current : Option (List ℕ)) : Type 0 where
    pub items : List Item
    pub effects : List Effect
    pub last : PlayState
    pub leads : ScriptBytesLeadToState Opens bytes items rest effects last
    pub moment : last.now ≡ now
    pub line_is : line ≡ length items + 2
    pub represents : EngineRepresents e last.model
    pub appends : Appends old current (effects_text effects)

  pub so_far_first : (bytes rest : List ℕ) (table : Table) (held : List Stored) (first : ℕ) (e : State) (old : Option (List ℕ)) → TableIsReadFirst bytes table rest → Opens table (Ok (store_contents_of held first)) → ResponsesMayBeHeldAtStart table held first → EngineRepresents e (play_state_over_store table held first).model →
      SoFar bytes rest 0 2 e old old
  so_far_first bytes rest table held first e old opens opened may represents = record {
    items = [];
    effects = [];
    last = play_state_over_store table held first;
    leads = record {
      front = item_spelling (item.Table opens.text);
      bytes_are = opens.represents.0;
      table = opens.text;
      script = record { script = sym (append-nil (item_spelling (item.Table opens.text))); table_fits = opens.represents.1; items_fit = tt; one_table = tt };
      config = table;
      reads = opens.reads;
      held = held;
      first = first;
      opens = opened;
      may = may;
      plays = (refl, refl);
      run = plays_run table held first [] [] (play_state_over_store table held first) may (refl, refl);
    };
    moment = refl;
    line_is = refl;
    represents = represents;
    appends = Appends-nil old;
  }

  -- an item was played
  played : (a : PlayState) (now : ℕ) (h : Item) (e : State) (old new : Option (List ℕ)) (emitted : ItemWasPlayedAndWritten a.model (moment_after_item now h) (happening_of_item h) e old new) → a.now ≡ now → ItemIsPlayed a h emitted.effects (record { model = emitted.last; now = moment_after_item now h })
  played a now h e old new emitted same = record { moment = ap (λ m. moment_after_item m h) (sym same); happened = emitted.happened }

  pub so_far_more : (bytes rest more : List ℕ) (now line : ℕ) (h : Item) (e f : State) (old mid new : Option (List ℕ)) → (before : SoFar bytes rest now line e old mid) → BytesBeginWithItem false rest h more → ItemWasPlayedAndWritten before.last.model (moment_after_item now h) (happening_of_item h) f mid new → SoFar bytes more (moment_after_item now h) (line + 1) f old new
  so_far_more bytes rest more now line h e f old mid new before represents emitted = record {
    items = before.items ++ h ∷ [];
    effects = before.effects ++ emitted.effects;
    last = record { model = emitted.last; now = moment_after_item now h };
    leads = leads_more bytes rest more before.items h before.effects emitted.effects before.last _ before.leads represents (played before.last now h f mid new emitted before.moment);
    moment = refl;
    line_is = rw length_push (omega (arith, before.line_is));
    represents = emitted.represents;
    appends = subst (Appends old new) (sym (flat_map-append effect_text before.effects emitted.effects)) (Appends-trans old mid new (effects_text before.effects) (effects_text emitted.effects) before.appends emitted.appends);
  }

  -- how a replay ends

  leads_so_far : (P : List Item → List ℕ → List Effect → PlayState → Type 0) (bytes rest : List ℕ) (now line : ℕ) (e : State) (old current : Option (List ℕ)) → (before : SoFar bytes rest now line e old current) → P before.items rest before.effects before.last → ScriptBytesLeadToStateWhere Opens bytes P
  leads_so_far P bytes rest now line e old current before holds = record { items = before.items; rest = rest; effects = before.effects; last = before.last; leads = before.leads; holds = holds }

  -- behind what was played so far
  ends_here : (P : Bool → List ℕ → ℕ → Type 0) (bytes rest : List ℕ) (now line : ℕ) (e : State) (old current : Option (List ℕ)) → (before : SoFar bytes rest now line e old current) → P false rest line → ReplayEndsAtItemBoundary Opens bytes (effects_text before.effects) P
  ends_here P bytes rest now line e old current before holds = record {
    first = false;
    rest = rest;
    line = line;
    effects = before.effects;
    reaches = leads_so_far _ bytes rest now line e old current before (refl, refl, before.line_is);
    emitted = refl;
    holds = holds;
  }

  -- in front of the table
  pub writes_first : (bytes : List ℕ) (ended : Bool) (fault : ReplayFault) (old : Option (List ℕ)) → ReplayFails Opens bytes ended [] fault → ReplayWritesAndEnds Opens bytes ended old old (Err fault)
  writes_first bytes ended fault old fails = record { written = []; appends = Appends-nil old; replays = fails }

  -- at a line or a block that is wrong
  pub writes_wrong : (bytes rest : List ℕ) (ended : Bool) (now line : ℕ) (e : State) (old current : Option (List ℕ)) → SoFar bytes rest now line e old current → NoItemIsReadAtFront false ended rest → ReplayWritesAndEnds Opens bytes ended old current (Err (faults.Line line))
  writes_wrong bytes rest ended now line e old current before wrong = record {
    written = effects_text before.effects;
    appends = before.appends;
    replays = ends_here _ bytes rest now line e old current before (wrong, refl);
  }

  -- where the reader failed in the middle of an item
  pub writes_cut : (bytes rest : List ℕ) (ended : Bool) (now line : ℕ) (e : State) (old current : Option (List ℕ)) → SoFar bytes rest now line e old current → ended ≡ false → leading_item false rest ≡ Cut → ReplayWritesAndEnds Opens bytes ended old current (Err faults.Read)
  writes_cut bytes rest ended now line e old current before more cut = record {
    written = effects_text before.effects;
    appends = before.appends;
    replays = (more, ends_here _ bytes rest now line e old current before cut);
  }

  -- at the script's end
  pub writes_whole : (bytes rest : List ℕ) (ended : Bool) (now line : ℕ) (e : State) (old current : Option (List ℕ)) → SoFar bytes rest now line e old current → ended ≡ true → rest ≡ [] → ReplayWritesAndEnds Opens bytes ended old current (Ok tt)
  writes_whole bytes rest ended now line e old current before whole none = record {
    written = effects_text before.effects;
    appends = before.appends;
    replays = (whole, leads_so_far _ bytes rest now line e old current before (none, refl));
  }

  take_past : (xs ys : List ℕ) (k : ℕ) → take (length xs + k) (xs ++ ys) ≡ xs ++ take k ys
  take_past xs ys k = take-add (length xs) k (xs ++ ys) ∙ (ap (λ a. a ++ take k (drop (length xs) (xs ++ ys))) (take_at xs ys (length xs) refl) ∙ ap (λ b. xs ++ take k b) (drop_at xs ys (length xs) refl))

  -- at an item that isn't taken, or whose text isn't written
  fails_by : (bytes rest more : List ℕ) (h : Item) (ended : Bool) (now line : ℕ) (e : State) (old mid : Option (List ℕ)) (written : List ℕ) (fault : ReplayFault) → (before : SoFar bytes rest now line e old mid) → BytesBeginWithItem false rest h more → PlayingItemFails before.last.model (moment_after_item now h) (happening_of_item h) written fault → ReplayFails Opens bytes ended (effects_text before.effects ++ written) fault
  fails_by bytes rest more h ended now line e old mid written (faults.Engine fault) before represents fails =
      leads_so_far _ bytes rest now line e old mid before (
        h,
        more,
        represents,
        (fails.0, fails.1, subst (λ m. EngineFailsAtHappening before.last.model (moment_after_item m h) fails.0 fault) (sym before.moment) fails.2),
        ap (λ w. effects_text before.effects ++ w) fails.3 ∙ append-nil (effects_text before.effects),
      )
  fails_by bytes rest more h ended now line e old mid written faults.OutOfMemory before represents fails =
      subst (λ w. ReplayEndsAtItemBoundary Opens bytes w (λ first rest line. Unit {0})) (sym (append-nil (effects_text before.effects)) ∙ ap (λ w. effects_text before.effects ++ w) (sym fails)) (ends_here _ bytes rest now line e old mid before tt)
  fails_by bytes rest more h ended now line e old mid written faults.Write before represents fails = record {
    items = before.items ++ h ∷ [];
    rest = more;
    effects = before.effects ++ fails.0;
    last = record { model = fails.1; now = moment_after_item now h };
    leads = leads_more bytes rest more before.items h before.effects fails.0 before.last _ before.leads represents (record { moment = ap (λ m. moment_after_item m h) (sym before.moment); happened = fails.2 });
    holds = (
      length (effects_text before.effects) + fails.3,
      ap (λ w. effects_text before.effects ++ w) fails.4 ∙ (sym (take_past (effects_text before.effects) (effects_text fails.0) fails.3)
          ∙ ap (take (length (effects_text before.effects) + fails.3)) (sym (flat_map-append effect_text before.effects fails.0))),
    );
  }
  fails_by bytes rest more h ended now line e old mid written (faults.Config fault) before represents fails = absurd fails
  fails_by bytes rest more h ended now line e old mid written (faults.Line n) before represents fails = absurd fails
  fails_by bytes rest more h ended now line e old mid written faults.Read before represents fails = absurd fails
  fails_by bytes rest more h ended now line e old mid written (faults.Store fault) before represents fails = absurd fails

  pub writes_not_done : (bytes rest more : List ℕ) (h : Item) (ended : Bool) (now line : ℕ) (e : State) (old mid new : Option (List ℕ)) (fault : ReplayFault) → (before : SoFar bytes rest now line e old mid) → BytesBeginWithItem false rest h more → ItemWasNotPlayed before.last.model (moment_after_item now h) (happening_of_item h) fault mid new → ReplayWritesAndEnds Opens bytes ended old new (Err fault)
  writes_not_done bytes rest more h ended now line e old mid new fault before represents not_done = record {
    written = effects_text before.effects ++ not_done.written;
    appends = Appends-trans old mid new (effects_text before.effects) not_done.written before.appends not_done.appends;
    replays = fails_by bytes rest more h ended now line e old mid not_done.written fault before represents not_done.fails;
  }

  -- the whole

  -- memory ran out while the script was read
  pub ends_unread : (old new before : Option (List ℕ)) (read : List ℕ) → Consumes old new read → ReplayOverAStoreReadsAndEnds Opens old new before before (Err faults.OutOfMemory)
  ends_unread old new before read consumes = record {
    bytes = [];
    over = read;
    ended = false;
    consumes = consumes;
    few = omega arith;
    whole = λ e. cc;
    full = λ e other. absurd (other refl);
    writes = writes_first [] false faults.OutOfMemory before (ends_first Opens _ [] tt);
  }

  pub ends_read : (bytes : List ℕ) (ended : Bool) (old new before after : Option (List ℕ)) (r : Result (Unit {0}) ReplayFault) → ReaderGaveAtMost script_limit bytes ended old new → ReplayWritesAndEnds Opens bytes ended before after r → ReplayOverAStoreReadsAndEnds Opens old new before after r
  ends_read bytes ended old new before after r was writes = record {
    bytes = bytes;
    over = was.over;
    ended = ended;
    consumes = was.consumes;
    few = was.few;
    whole = was.whole;
    full = λ e other. was.full e;
    writes = writes;
  }

-- a replay over nothing plays from the beginning

abbrev entries_of : StoreReading → List Stored
entries_of (Ok store) = store.entries
entries_of (Err fault) = []

abbrev serial_of : StoreReading → ℕ
serial_of (Ok store) = store.next_serial
serial_of (Err fault) = 0

pub begins_empty : (table : Table) (items : List Item) (effects : List Effect) (last : PlayState) (held : List Stored) (first : ℕ) → OpensEmptyStore table (Ok (store_contents_of held first)) → ItemsArePlayed (play_state_over_store table held first) items effects last →
    ItemsArePlayed (play_state_over_store table [] 1) items effects last
begins_empty table items effects last held first opens plays =
    subst (λ (n : ℕ). ItemsArePlayed (play_state_over_store table [] n) items effects last) (ap serial_of opens)
    (subst (λ (es : List Stored). ItemsArePlayed (play_state_over_store table es first) items effects last) (ap entries_of opens) plays)

pub runs_empty : (table : Table) (items : List Item) (effects : List Effect) (last : PlayState) (held : List Stored) (first : ℕ) → OpensEmptyStore table (Ok (store_contents_of held first)) → PlayIsAGoodRunOverAStore table held first items effects last →
    PlayIsAGoodRunOverAStore table [] 1 items effects last
runs_empty table items effects last held first opens run =
    subst (λ (n : ℕ). PlayIsAGoodRunOverAStore table [] n items effects last) (ap serial_of opens)
    (subst (λ (es : List Stored). PlayIsAGoodRunOverAStore table es first items effects last) (ap entries_of opens) run)

-- over memory
pub replayed_by : (script rest before text : List ℕ) → before ≡ [] → IsStreamReplayOverEmptyStore (Some script) (Some rest) (Some before) (Some text) (Ok tt) → IsReplayedOverEmptyStore script text
replayed_by script rest before text none replay =
    let led = replay.writes.replays.1 in
    let whole = replay.whole replay.writes.replays.0 in
    let read : script ≡ replay.bytes = replay.consumes
    ∙ (ap (λ xs. (replay.bytes ++ replay.over) ++ xs) whole.1
    ∙ (append-nil (replay.bytes ++ replay.over) ∙ (ap (λ xs. replay.bytes ++ xs) whole.0 ∙ append-nil replay.bytes))) in
    let front : replay.bytes ≡ led.leads.front = led.leads.bytes_are ∙ (ap (λ xs. led.leads.front ++ xs) led.holds.0 ∙ append-nil led.leads.front) in
    record {
      table = led.leads.table;
      items = led.items;
      is_script = subst (λ xs. IsScript xs led.leads.table led.items) (sym (read ∙ front)) led.leads.script;
      config = led.leads.config;
      reads = led.leads.reads;
      effects = led.effects;
      last = led.last;
      plays = begins_empty led.leads.config led.items led.effects led.last led.leads.held led.leads.first led.leads.opens led.leads.plays;
      run = runs_empty led.leads.config led.items led.effects led.last led.leads.held led.leads.first led.leads.opens led.leads.run;
      emitted = replay.writes.appends ∙ (ap (λ xs. xs ++ replay.writes.written) none ∙ led.holds.1);
    }

pub refused_by : (script rest before text : List ℕ) (fault : ReplayFault) → IsStreamReplayOverEmptyStore (Some script) (Some rest) (Some before) (Some text) (Err fault) → ScriptReplayFails script fault
refused_by script rest before text fault replay = record {
  bytes = replay.bytes;
  more = replay.over ++ rest;
  split = replay.consumes ∙ append_assoc replay.bytes replay.over rest;
  ended = replay.ended;
  whole = λ e. ap (λ xs. xs ++ rest) (replay.whole e).0 ∙ (replay.whole e).1;
  written = replay.writes.written;
  fails = replay.writes.replays;
}
