-- What a replay gives: the bytes that were read, how far they lead, and the text that was written.
--
-- BytesBeginWithItem, NoItemIsReadAtFront: an item stands at the front of bytes, or none
-- OpensEmptyStore, ReplayStoreIsRead: how a replay may open: over nothing, or over a store that was kept
-- ScriptBytesLeadToState: the bytes are a table and items, which were played, and a rest
-- ReplayEndsWith, ReplayFails: how the replay of bytes ends, and with which text written
-- ReplayOverAStoreReadsAndEnds, IsStreamReplayOverEmptyStore: the same over a reader and a writer
-- ScriptIsReplayedOverAStore, IsReplayedOverEmptyStore, ScriptReplayFails: over memory
use Rattle.std.specs.Prelude.{◌≡◌, ◌≢◌, ℕ, ◌+◌, ◌≤◌, List, [], ◌++◌, length, take, Bool, true, false, Option, Result}
use Rattle.std.specs.Prelude.{Ok, Err}
use Rattle.std.specs.Io.KnownBytes.{Consumes, Appends, IsAtEnd}
use Rattle.hx_allow.specs.TableLines.{Table}
use Rattle.hx_allow.specs.Tables.{BytesReadAsTable}
use Rattle.hx_store.specs.Stored.{Stored}
use Rattle.proxy_script.specs.Script.{ItemModel as Item, item_spelling, ItemCanBeSpelled, ItemIsAllowedAtPosition}
use Rattle.proxy_script.specs.Script.{IsScript}
use Rattle.proxy_script.specs.Script.{Cut, Wrong, leading_item}
use Rattle.proxy_script.specs.Script as item
use Rattle.proxy_script.specs.Effects.{effects_text}
use Rattle.proxy_script.specs.declared.effect_list.Effect.{Effect}
use Rattle.proxy_engine.specs.Beginnings.{ResponsesMayBeHeldAtStart}
use Rattle.proxy_store_file.specs.Stores.{StoreReading, read_store}
use Rattle.proxy_store_file.specs.Streams.{ReaderGaveReading, ReaderIsRefusedFor, bounds_of, store_contents_of}
use Rattle.proxy_replay.specs.Bytes.{script_limit}
use Rattle.proxy_replay.specs.Played.{PlayState, play_state_over_store, ItemsArePlayed, EngineStopsAtItem}
use Rattle.proxy_replay.specs.Runs.{PlayIsAGoodRunOverAStore}
use Rattle.proxy_replay.specs.declared.replay_fault.ReplayFault.{ReplayFault}
use Rattle.proxy_replay.specs.declared.replay_fault.ReplayFault.TheVariants as faults

-- the item stands at the front, the first of a script or a later one, and more behind it
abbrev pub BytesBeginWithItem : Bool → List ℕ → Item → List ℕ → Type 0
BytesBeginWithItem first bytes item more = (bytes ≡ item_spelling item ++ more) × ItemCanBeSpelled item
    × ItemIsAllowedAtPosition first item

-- No item stands here. Of bytes that are the whole script that is said where some are left, or the table is missing;
-- where more may follow, of a line that has its LF or a block that is long enough.
abbrev pub NoItemIsReadAtFront : Bool → Bool → List ℕ → Type 0
NoItemIsReadAtFront first true rest =
    (rest ≡ [] → first ≡ true) × ((item : Item) (more : List ℕ) → ¬ (BytesBeginWithItem first rest item more))
NoItemIsReadAtFront first false rest = leading_item first rest ≡ Wrong

-- A replay opens over a store: what is held at first, and the serial that the next stored response gets. Over nothing,
-- serials begin at 1.
abbrev pub OpensEmptyStore : Table → StoreReading → Type 0
OpensEmptyStore table reading = reading ≡ Ok (store_contents_of [] 1)

-- over what a reader gives of a store, within the bounds of the table, or refused for what it is
abbrev pub ReplayStoreIsRead : Option (List ℕ) → Table → StoreReading → Type 0
ReplayStoreIsRead old table (Ok store) =
    (new : Option (List ℕ))
    × ReaderGaveReading (read_store (bounds_of table.capacity table.max_store)) old new (Ok store)
ReplayStoreIsRead old table (Err fault) =
    (new : Option (List ℕ)) × ReaderIsRefusedFor (read_store (bounds_of table.capacity table.max_store)) old new fault

-- The bytes are a table and items, spelled, and a rest; a store was opened, the items were played over it, with these
-- effects, and the steps of the core that they lead to are a good run.
pub record ScriptBytesLeadToState (Opens : Table → StoreReading
    → Type 0) (bytes : List ℕ) (items : List Item) (rest : List ℕ)
    (effects : List Effect) (last : PlayState) : Type 0 where
  pub front : List ℕ
  pub bytes_are : bytes ≡ front ++ rest
  pub table : List ℕ
  pub script : IsScript front table items
  pub config : Table
  pub reads : BytesReadAsTable table (Ok config)
  pub held : List Stored
  pub first : ℕ
  pub opens : Opens config (Ok (store_contents_of held first))
  pub may : ResponsesMayBeHeldAtStart config held first
  pub plays : ItemsArePlayed (play_state_over_store config held first) items effects last
  pub run : PlayIsAGoodRunOverAStore config held first items effects last

-- they lead so far, and P holds there
pub record ScriptBytesLeadToStateWhere (Opens : Table → StoreReading → Type 0) (bytes : List ℕ)
    (P : List Item → List ℕ → List Effect → PlayState → Type 0) : Type 0 where
  pub items : List Item
  pub rest : List ℕ
  pub effects : List Effect
  pub last : PlayState
  pub leads : ScriptBytesLeadToState Opens bytes items rest effects last
  pub holds : P items rest effects last

-- a place between items: in front of the table, on line 1, or behind items that were played; each item has one line
abbrev pub ReplayReachesItemBoundary : (Table → StoreReading → Type 0) → List ℕ → Bool → List ℕ → ℕ → List Effect
    → Type 0
ReplayReachesItemBoundary Opens bytes true rest line effects = (rest ≡ bytes) × (line ≡ 1) × (effects ≡ [])
ReplayReachesItemBoundary Opens bytes false rest line effects =
    ScriptBytesLeadToStateWhere Opens bytes (λ items more emitted last. (more ≡ rest) × (emitted ≡ effects)
    × (line ≡ length items + 2))

-- the replay ended at a place between items, where P holds, and the effects up to there were written
pub record ReplayEndsAtItemBoundary (Opens : Table → StoreReading → Type 0) (bytes written : List ℕ)
    (P : Bool → List ℕ → ℕ → Type 0) : Type 0 where
  pub first : Bool
  pub rest : List ℕ
  pub line : ℕ
  pub effects : List Effect
  pub reaches : ReplayReachesItemBoundary Opens bytes first rest line effects
  pub emitted : written ≡ effects_text effects
  pub holds : P first rest line

-- why the replay of these bytes ends so, with this text written
abbrev pub ReplayFails : (Table → StoreReading → Type 0) → List ℕ → Bool → List ℕ → ReplayFault → Type 0
ReplayFails Opens bytes ended written (faults.Config fault) =
    (table more : List ℕ) × BytesBeginWithItem true bytes (item.Table table) more
    × BytesReadAsTable table (Err fault) × (written ≡ [])
ReplayFails Opens bytes ended written (faults.Store fault) =
    (table more : List ℕ) × (config : Table) × BytesBeginWithItem true bytes (item.Table table) more
    × BytesReadAsTable table (Ok config) × Opens config (Err fault) × (written ≡ [])
ReplayFails Opens bytes ended written (faults.Line n) =
    ReplayEndsAtItemBoundary Opens bytes written (λ first rest line. NoItemIsReadAtFront first ended rest × (n ≡ line))
ReplayFails Opens bytes ended written (faults.Engine fault) =
    ScriptBytesLeadToStateWhere Opens bytes (λ items rest effects last. (h : Item) × (more : List ℕ)
    × BytesBeginWithItem false rest h more
    × EngineStopsAtItem last h fault × (written ≡ effects_text effects))
ReplayFails Opens bytes ended written faults.Read =
    (ended ≡ false) × ReplayEndsAtItemBoundary Opens bytes written (λ first rest line. leading_item first rest ≡ Cut)
ReplayFails Opens bytes ended written faults.Write =
    ScriptBytesLeadToStateWhere Opens bytes (λ items rest effects last. (k : ℕ)
    × (written ≡ take k (effects_text effects)))
ReplayFails Opens bytes ended written faults.OutOfMemory =
    ReplayEndsAtItemBoundary Opens bytes written (λ first rest line. Unit {0})

-- how the replay of these bytes ends, with this text written; `ended` where they are the whole of the script
abbrev pub ReplayEndsWith : (Table → StoreReading → Type 0) → List ℕ → Bool → List ℕ → Result (Unit {0}) ReplayFault
    → Type 0
ReplayEndsWith Opens bytes ended written (Ok _) = (ended ≡ true)
    × ScriptBytesLeadToStateWhere Opens bytes
    (λ items rest effects last. (rest ≡ []) × (written ≡ effects_text effects))
ReplayEndsWith Opens bytes ended written (Err fault) = ReplayFails Opens bytes ended written fault

-- what was written, and how the replay of these bytes ends
pub record ReplayWritesAndEnds (Opens : Table → StoreReading → Type 0) (bytes : List ℕ) (ended : Bool)
    (old new : Option (List ℕ)) (result : Result (Unit {0}) ReplayFault) : Type 0 where
  pub written : List ℕ
  pub appends : Appends old new written
  pub replays : ReplayEndsWith Opens bytes ended written result

-- Bytes were read, and more only where they are too many or memory ran out; this is how their replay ends.
pub record ReplayOverAStoreReadsAndEnds (Opens : Table → StoreReading → Type 0) (old new before after : Option (List ℕ))
    (result : Result (Unit {0}) ReplayFault) : Type 0 where
  pub bytes : List ℕ
  pub over : List ℕ
  pub ended : Bool
  pub consumes : Consumes old new (bytes ++ over)
  pub few : length bytes ≤ script_limit
  pub whole : ended ≡ true → (over ≡ []) × IsAtEnd new
  pub full : over ≢ [] → result ≢ Err faults.OutOfMemory → length bytes ≡ script_limit
  pub writes : ReplayWritesAndEnds Opens bytes ended before after result

-- over an empty store
abbrev pub IsStreamReplayOverEmptyStore : Option (List ℕ) → Option (List ℕ) → Option (List ℕ) → Option (List ℕ)
    → Result (Unit {0}) ReplayFault → Type 0
IsStreamReplayOverEmptyStore old new before after result = ReplayOverAStoreReadsAndEnds OpensEmptyStore old new before
    after result

-- a whole script over a store that holds these responses at first: its table and its items, and the text of the
-- effects of their play
pub record ScriptIsReplayedOverAStore (held : List Stored) (first : ℕ) (script text : List ℕ) : Type 0 where
  pub table : List ℕ
  pub items : List Item
  pub is_script : IsScript script table items
  pub config : Table
  pub reads : BytesReadAsTable table (Ok config)
  pub effects : List Effect
  pub last : PlayState
  pub plays : ItemsArePlayed (play_state_over_store config held first) items effects last
  pub run : PlayIsAGoodRunOverAStore config held first items effects last
  pub emitted : text ≡ effects_text effects

-- over an empty store
abbrev pub IsReplayedOverEmptyStore : List ℕ → List ℕ → Type 0
IsReplayedOverEmptyStore script text = ScriptIsReplayedOverAStore [] 1 script text

-- a script that is replayed over a store has one text of its effects
abbrev pub ReplayHasOneText : Type 0
ReplayHasOneText =
    (held : List Stored) (first : ℕ) (script text other : List ℕ) → ScriptIsReplayedOverAStore held first script text
    → ScriptIsReplayedOverAStore held first script other → text ≡ other

-- why a script isn't replayed whole: the fault of it, or of the part that was read
pub record ScriptReplayFails (script : List ℕ) (fault : ReplayFault) : Type 0 where
  pub bytes : List ℕ
  pub more : List ℕ
  pub split : script ≡ bytes ++ more
  pub ended : Bool
  pub whole : ended ≡ true → more ≡ []
  pub written : List ℕ
  pub fails : ReplayFails OpensEmptyStore bytes ended written fault
