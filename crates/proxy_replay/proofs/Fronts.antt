-- What stands at the front of a script's bytes: an item, or none; and how the table is read.
use Rattle.std.proofs.Common.{◌≡◌, ◌≢◌, ℕ, ◌<◌, ◌==◌, List, [], ◌∷◌, length, refl, ap, sym, ◌∙◌, subst, Bool, true, false, Result, Ok, Err, arith}
use Rattle.std.proofs.lemmas.List.{length-append}
use Rattle.hx_fields.specs.declared.limits.TheConstants.{START_OF_YEAR_10000}
use Rattle.hx_allow.specs.TableLines.{Table}
use Rattle.hx_allow.specs.Tables.{BytesReadAsTable}
use Rattle.hx_allow.specs.declared.config_faults.TableFault.{TableFault}
use Rattle.hx_allow.specs.declared.config_faults.TableFault.TheVariants as config
use Rattle.proxy_store_file.specs.declared.store_faults.StoreReadFault.{StoreReadFault}
use Rattle.proxy_store_file.specs.declared.store_faults.StoreReadFault.TheVariants as store
use Rattle.proxy_store_file.specs.Stores.{StoreReading}
use Rattle.proxy_script.specs.ScriptLines.{is_config, line_text}
use Rattle.proxy_script.specs.Script.{ItemModel as Item, item_spelling, line_of_item, block_of_item, ItemCanBeSpelled, ItemIsAllowedAtPosition, ItemReading, Found, Cut, Wrong, leading_item}
use Rattle.proxy_script.specs.Script as item
use Rattle.proxy_script.proofs.ItemLaws.{item_found, item_again}
use Rattle.proxy_replay.specs.Played.{moment_after_item}
use Rattle.proxy_replay.specs.Replay.{BytesBeginWithItem, NoItemIsReadAtFront, ReplayEndsAtItemBoundary, ReplayFails}
use Rattle.proxy_replay.specs.Steps.{replay_fault_of_table_fault, replay_fault_of_store_fault, TableIsReadFirst, TableIsNotRead, EngineBeginningFails}
use Rattle.proxy_replay.specs.declared.replay_fault.ReplayFault.{ReplayFault}
use Rattle.proxy_replay.specs.declared.replay_fault.ReplayFault.TheVariants as faults

pub item_shorter : (first : Bool) (rest more : List ℕ) (h : Item) → BytesBeginWithItem first rest h more → length more < length rest
item_shorter first rest more h represents =
    omega (arith, ap length represents.0, length-append (item_spelling h) more, length-append (line_text (line_of_item h)) (10 ∷ block_of_item h))

pub item_nil : (first : Bool) → leading_item first [] ≡ Cut
unfolding leading_item
item_nil first = refl

-- an item that stands here is found
found_by : (first : Bool) (rest : List ℕ) (h : Item) (more : List ℕ) → BytesBeginWithItem first rest h more → leading_item first rest ≡ Found h more
found_by first rest h more represents = ap (leading_item first) represents.0 ∙ item_again first h more represents.1 represents.2

-- where an item is wrong, none stands
pub wrong_by : (first ended : Bool) (rest : List ℕ) → leading_item first rest ≡ Wrong → NoItemIsReadAtFront first ended rest
wrong_by first true rest e = (
  λ none. let cut : Wrong ≡ Cut = sym e ∙ (ap (leading_item first) none ∙ item_nil first) in cc,
  λ h more represents. let found : Wrong ≡ Found h more = sym e ∙ found_by first rest h more represents in cc,
)
wrong_by first false rest e = e

-- nor where the script ends in the middle of one
pub cut_by : (first : Bool) (rest : List ℕ) → leading_item first rest ≡ Cut → (rest ≡ [] → first ≡ true) → NoItemIsReadAtFront first true rest
cut_by first rest e some = (some, λ h more represents. let found : Cut ≡ Found h more = sym e ∙ found_by first rest h more represents in cc)

-- behind the table, where something is left
pub short_by : (rest : List ℕ) (ended none : Bool) → ended ≡ true → none ≡ (length rest == 0) → none ≡ false → leading_item false rest ≡ Cut → NoItemIsReadAtFront false ended rest
short_by rest ended none whole is some cut =
    subst (λ e. NoItemIsReadAtFront false e rest) (sym whole) (cut_by false rest cut (λ empty. sym some ∙ (is ∙ ap (λ (xs : List ℕ). length xs == 0) empty)))

pub opens_by : (bytes rest text : List ℕ) (h : Item) (table : Table) → Found h rest ≡ leading_item true bytes → h ≡ item.Table text → BytesReadAsTable text (Ok table) → TableIsReadFirst bytes table rest
opens_by bytes rest text h table found is reads = record {
  text = text;
  represents = subst (λ h. BytesBeginWithItem true bytes h rest) is (item_found true bytes rest h (sym found));
  reads = reads;
}

-- a replay that ends in front of the table
pub ends_first : (Opens : Table → StoreReading → Type 0) (P : Bool → List ℕ → ℕ → Type 0) (bytes : List ℕ) → P true bytes 1 → ReplayEndsAtItemBoundary Opens bytes [] P
ends_first Opens P bytes holds = record { first = true; rest = bytes; line = 1; effects = []; reaches = (refl, refl, refl); emitted = refl; holds = holds }

refused_with : (bytes rest text : List ℕ) (ended : Bool) (fault : TableFault) → BytesBeginWithItem true bytes (item.Table text) rest → ((◌≢◌ {A = Result Table TableFault} (Err fault) (Err config.OutOfMemory)) → BytesReadAsTable text (Err fault)) → TableIsNotRead bytes ended (replay_fault_of_table_fault fault)
refused_with bytes rest text ended config.OutOfMemory represents reads = tt
refused_with bytes rest text ended fault represents reads = (text, rest, represents, reads (λ e. cc))

pub refused_by : (bytes rest text : List ℕ) (ended : Bool) (h : Item) (fault : TableFault) → Found h rest ≡ leading_item true bytes → h ≡ item.Table text → ((◌≢◌ {A = Result Table TableFault} (Err fault) (Err config.OutOfMemory)) → BytesReadAsTable text (Err fault)) → TableIsNotRead bytes ended (replay_fault_of_table_fault fault)
refused_by bytes rest text ended h fault found is reads =
    refused_with bytes rest text ended fault (subst (λ h. BytesBeginWithItem true bytes h rest) is (item_found true bytes rest h (sym found))) reads

-- a replay whose table isn't read fails, whatever a store would hold
pub not_read : (Opens : Table → StoreReading → Type 0) (bytes : List ℕ) (ended : Bool) (fault : ReplayFault) → TableIsNotRead bytes ended fault → ReplayFails Opens bytes ended [] fault
not_read Opens bytes ended (faults.Config fault) why = (why.0, why.1, why.2, why.3, refl)
not_read Opens bytes ended (faults.Line n) why = ends_first Opens _ bytes why
not_read Opens bytes ended faults.Read why = (why.0, ends_first Opens _ bytes why.1)
not_read Opens bytes ended faults.OutOfMemory why = ends_first Opens _ bytes tt
not_read Opens bytes ended (faults.Store fault) why = absurd why
not_read Opens bytes ended (faults.Engine fault) why = absurd why
not_read Opens bytes ended faults.Write why = absurd why

-- no other item stands first
pub other_by : (bytes rest : List ℕ) (h : Item) → Found h rest ≡ leading_item true bytes → is_config (line_of_item h) ≡ false → ⊥
other_by bytes rest h found other = let placed = item_found true bytes rest h (sym found) in let same : true ≡ false = sym placed.2 ∙ other in cc

-- the moment stays below the end of moments
pub moment_fits : (now : ℕ) (h : Item) → now < START_OF_YEAR_10000 → ItemCanBeSpelled h → moment_after_item now h < START_OF_YEAR_10000
moment_fits now (item.Moment m) before fits = fits
moment_fits now h before fits = before

-- a replay whose store is refused
pub store_refused : (Opens : Table → StoreReading → Type 0) (table : Table) (fault : StoreReadFault) → Opens table (Err fault) → EngineBeginningFails Opens table (replay_fault_of_store_fault fault)
store_refused Opens table store.OutOfMemory refused = λ bytes rest ended opens. ends_first Opens _ bytes tt
store_refused Opens table fault refused = λ bytes rest ended opens. (opens.text, rest, table, opens.represents, opens.reads, refused, refl)
