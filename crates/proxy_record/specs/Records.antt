-- What a record is: the spelling of a table, moments and happenings, as a script has them.
--
-- RecordSoFar: what is known of a record            TextIsAddedOrRecordEnds: a text was added whole, or the record ends
-- items_of_happening: a happening at a moment, as items
-- RecordBeginsWithTable, HappeningIsRecorded: a record begins, and takes one more happening
-- ended_record: it ends
-- RecordedHappening: a happening and its moment             EachHappeningIsRecorded: several, one after another
-- HappeningsAreRecordedOrRecordEnds: several, where the record may end anywhere among them
-- items_of_recorded, script_of_recorded: the items and the script that tell of them
-- RecordedHappeningHasSpelling: what a script can tell of
-- IsRecordOfHappenings, RecordIsScriptOfItsHappenings: the laws
use Rattle.std.specs.Prelude.{◌≡◌, ℕ, ◌+◌, ◌-◌, ◌<◌, ◌≤◌, List, [], ◌∷◌, ◌++◌, length, Bool, true, false, not, ◌&&◌}
use Rattle.std.specs.Prelude.{◌==◌, nat_le, if◌then◌else◌, Option, None, Some, ◌⊎◌}
use Rattle.std.specs.Io.KnownBytes.{Appends}
use Rattle.std.specs.List.{flat_map, AllByRecursion}
use Rattle.hx_fields.specs.declared.limits.TheConstants.{START_OF_YEAR_10000}
use Rattle.proxy_script.specs.declared.limits.TheConstants.{MOST_SCRIPT_BYTES}
use Rattle.proxy_script.specs.Happenings.{HappeningModel as Happening}
use Rattle.proxy_script.specs.Script.{ItemModel as Item, Table, Moment, Happens, item_spelling, ItemCanBeSpelled}
use Rattle.proxy_script.specs.Script.{IsScript}

-- what its writer holds, where that is known, how long it is, the moment that stands at its end, and whether it has
-- ended
pub record RecordSoFar : Type 0 where
  pub held : Option (List ℕ)
  pub len : ℕ
  pub moment : ℕ
  pub over : Bool

-- nothing was recorded behind these bytes
abbrev pub empty_record : Option (List ℕ) → RecordSoFar
empty_record held = record { held = held; len = 0; moment = 0; over = false }

-- the record ends here
abbrev pub ended_record : RecordSoFar → RecordSoFar
ended_record r = record r { over = true }

-- a text may be added: the record hasn't ended, and is no longer than a script with it
abbrev pub has_room : RecordSoFar → List ℕ → Bool
has_room r text = not r.over && nat_le (length text) (MOST_SCRIPT_BYTES - r.len)

abbrev pub record_text_if_room : RecordSoFar → List ℕ → List ℕ
record_text_if_room r text = if has_room r text then text else []

-- a text was added whole, up to this moment; or the record has ended, with nothing of it
pub record TextIsAddedOrRecordEnds (r : RecordSoFar) (text : List ℕ) (moment : ℕ) (new : RecordSoFar) : Type 0 where
  pub written : Appends r.held new.held (record_text_if_room r text)
  pub len : new.len ≡ r.len + length (record_text_if_room r text)
  pub moment_is : new.moment ≡ (if has_room r text then moment else r.moment)
  pub ends : new.over ≡ not (has_room r text)

-- A happening at a moment, where the last one stands before it. Another moment is an item, an earlier one too.
abbrev pub items_of_happening : ℕ → ℕ → Happening → List Item
items_of_happening last now h = if now == last then Happens h ∷ [] else Moment now ∷ Happens h ∷ []

abbrev pub text_of_items : List Item → List ℕ
text_of_items items = flat_map item_spelling items

-- a record begins with its table
abbrev pub RecordBeginsWithTable : Option (List ℕ) → List ℕ → RecordSoFar → Type 0
RecordBeginsWithTable before table new = TextIsAddedOrRecordEnds (empty_record before)
    (item_spelling (Table table)) 0 new

-- one more happening
abbrev pub HappeningIsRecorded : RecordSoFar → ℕ → Happening → RecordSoFar → Type 0
HappeningIsRecorded r now h new = TextIsAddedOrRecordEnds r (text_of_items (items_of_happening r.moment now h)) now new

-- what happened, and when
pub record RecordedHappening : Type 0 where
  pub moment : ℕ
  pub happening : Happening

-- each of them, the oldest first
abbrev pub EachHappeningIsRecorded : RecordSoFar → List RecordedHappening → RecordSoFar → Type 0
EachHappeningIsRecorded r [] new = new ≡ r
EachHappeningIsRecorded r (one ∷ more) new = (mid : RecordSoFar) × HappeningIsRecorded r one.moment one.happening mid
    × EachHappeningIsRecorded mid more new

-- the record goes on as it is, or ends here
abbrev pub RecordMayEnd : RecordSoFar → RecordSoFar → Type 0
RecordMayEnd r new = (new ≡ r) ⊎ (new ≡ ended_record r)

-- each of them, and the record may end in front of any, or behind all
abbrev pub HappeningsAreRecordedOrRecordEnds : RecordSoFar → List RecordedHappening → RecordSoFar → Type 0
HappeningsAreRecordedOrRecordEnds r [] new = RecordMayEnd r new
HappeningsAreRecordedOrRecordEnds r (one ∷ more) new = (begun : RecordSoFar) × RecordMayEnd r begun
    × (mid : RecordSoFar)
    × HappeningIsRecorded begun one.moment one.happening mid × HappeningsAreRecordedOrRecordEnds mid more new

-- the items that tell of them, behind a moment
abbrev pub items_of_recorded : ℕ → List RecordedHappening → List Item
items_of_recorded last [] = []
items_of_recorded last (one ∷ more) = items_of_happening last one.moment one.happening
    ++ items_of_recorded one.moment more

abbrev pub script_of_recorded : List ℕ → List RecordedHappening → List ℕ
script_of_recorded table all_noted = item_spelling (Table table) ++ text_of_items (items_of_recorded 0 all_noted)

-- a moment up to the end of the year 9999, and numbers of 64 bits
abbrev pub RecordedHappeningHasSpelling : RecordedHappening → Type 0
RecordedHappeningHasSpelling one = (one.moment < START_OF_YEAR_10000) × ItemCanBeSpelled (Happens one.happening)

-- The record is the script of the first of these, whole: of all of them, unless it has ended; and it is no longer than
-- a script.
pub record IsRecordOfHappenings (before : Option (List ℕ)) (table : List ℕ) (all_noted : List RecordedHappening)
    (r : RecordSoFar) : Type 0 where
  pub front : List RecordedHappening
  pub rest : List RecordedHappening
  pub split : all_noted ≡ front ++ rest
  pub all : r.over ≡ false → rest ≡ []
  pub held : Appends before r.held (script_of_recorded table front)
  pub len : r.len ≡ length (script_of_recorded table front)

abbrev pub RecordIsScriptOfItsHappenings : Type 0
RecordIsScriptOfItsHappenings =
    (before : Option (List ℕ)) (table : List ℕ) (all_noted : List RecordedHappening) (begun new : RecordSoFar)
    → RecordBeginsWithTable before table begun
    → begun.over ≡ false → HappeningsAreRecordedOrRecordEnds begun all_noted new
    → IsRecordOfHappenings before table all_noted new

-- such a script is one of the grammar, of these items
abbrev pub RecordedScriptsFollowGrammar : Type 0
RecordedScriptsFollowGrammar =
    (table : List ℕ) (all_noted : List RecordedHappening) → ItemCanBeSpelled (Table table)
    → AllByRecursion RecordedHappeningHasSpelling all_noted
    → IsScript (script_of_recorded table all_noted) table (items_of_recorded 0 all_noted)
