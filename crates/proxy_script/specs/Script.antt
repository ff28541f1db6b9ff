-- The grammar of scripts: how an item is spelled, and what stands at the front of bytes.
--
-- ItemModel: what an item says       item_spelling: how it is spelled      ItemCanBeSpelled: what has a spelling
-- leading_item: the item at the front, less than a whole one, or none
-- IsScript: the bytes are the spelling of a table and of items
use Rattle.std.specs.Prelude.{◌≡◌, ℕ, ◌+◌, ◌==◌, nat_le, List, [], ◌∷◌, ◌++◌, length, Bool, false, Option, None, Some}
use Rattle.std.specs.Prelude.{if◌then◌else◌, slice_index, take, drop}
use Rattle.std.specs.List.{flat_map, AllByRecursion}
use Rattle.hx_fields.specs.Names.{split_at_first_byte}
use Rattle.proxy_script.specs.ScriptLines.{line_text, LineCanBeSpelled, is_config, line_of_text_if_allowed}
use Rattle.proxy_script.specs.Happenings.{HappeningModel as Happening}
use Rattle.proxy_script.specs.Happenings as happening
use Rattle.proxy_script.specs.declared.line_parser.ItemLine.{ItemLine}
use Rattle.proxy_script.specs.declared.line_parser.ItemLine.TheVariants.{Config, At, Accept, Client, Link, End, Gone}
use Rattle.proxy_script.specs.declared.line_parser.ItemLine.TheVariants.{Retire, Overdue, Shut, Fail}
use Rattle.proxy_script.specs.declared.items.Item.{Item}
use Rattle.proxy_script.specs.declared.items.Item.TheVariants as item
use Rattle.proxy_script.specs.declared.parser.LeadingItemReading.{LeadingItemReading}
use Rattle.proxy_script.specs.declared.parser.LeadingItemReading.TheVariants as front
use Rattle.proxy_script.specs.declared.parser.Block.{Block}
use Rattle.proxy_script.specs.declared.parser.Block.TheVariants as block

-- what an item says: the table, the moment, or what happens
pub data ItemModel : Type 0 where
  Table : (bytes : List ℕ) → ItemModel
  Moment : (m : ℕ) → ItemModel
  Happens : (happening : Happening) → ItemModel

abbrev pub line_of_item : ItemModel → ItemLine
line_of_item (Table bytes) = Config (length bytes)
line_of_item (Moment m) = At m
line_of_item (Happens (happening.Accepts n)) = Accept n
line_of_item (Happens (happening.Sends n bytes)) = Client n (length bytes)
line_of_item (Happens (happening.Hears l bytes)) = Link l (length bytes)
line_of_item (Happens (happening.Ends n)) = End n
line_of_item (Happens (happening.Leaves n)) = Gone n
line_of_item (Happens (happening.Retires n)) = Retire n
line_of_item (Happens (happening.Overdues n)) = Overdue n
line_of_item (Happens (happening.Shuts l)) = Shut l
line_of_item (Happens (happening.Fails l kind)) = Fail l kind

-- the block behind a line, with its LF
abbrev pub block_of_item : ItemModel → List ℕ
block_of_item (Table bytes) = bytes ++ 10 ∷ []
block_of_item (Moment m) = []
block_of_item (Happens (happening.Accepts n)) = []
block_of_item (Happens (happening.Sends n bytes)) = bytes ++ 10 ∷ []
block_of_item (Happens (happening.Hears l bytes)) = bytes ++ 10 ∷ []
block_of_item (Happens (happening.Ends n)) = []
block_of_item (Happens (happening.Leaves n)) = []
block_of_item (Happens (happening.Retires n)) = []
block_of_item (Happens (happening.Overdues n)) = []
block_of_item (Happens (happening.Shuts l)) = []
block_of_item (Happens (happening.Fails l kind)) = []

-- how an item is spelled: its line, LF, and its block
abbrev pub item_spelling : ItemModel → List ℕ
item_spelling h = line_text (line_of_item h) ++ 10 ∷ block_of_item h

-- what has a spelling
abbrev pub ItemCanBeSpelled : ItemModel → Type 0
ItemCanBeSpelled h = LineCanBeSpelled (line_of_item h)

-- the item stands first, as the table does, or later
abbrev pub ItemIsAllowedAtPosition : Bool → ItemModel → Type 0
ItemIsAllowedAtPosition first h = is_config (line_of_item h) ≡ first

-- what stands at the front: an item and what follows it, less than a whole one, or none
pub data ItemReading : Type 0 where
  Found : (h : ItemModel) (rest : List ℕ) → ItemReading
  Cut : ItemReading
  Wrong : ItemReading

-- a block and what follows its LF, less than a whole one, or none
pub data BlockReading : Type 0 where
  Whole : (bytes rest : List ℕ) → BlockReading
  Short : BlockReading
  Bad : BlockReading

-- the block of this length at the front
abbrev pub leading_block : ℕ → List ℕ → BlockReading
leading_block len rest =
    if nat_le (length rest) len then Short
    else if slice_index rest len == 10 then Whole (take len rest) (drop (len + 1) rest)
    else Bad

abbrev pub item_reading_with_block : (List ℕ → ItemModel) → BlockReading → ItemReading
item_reading_with_block says (Whole bytes rest) = Found (says bytes) rest
item_reading_with_block says Short = Cut
item_reading_with_block says Bad = Wrong

abbrev pub item_of_line : ItemLine → List ℕ → ItemReading
item_of_line (Config len) rest = item_reading_with_block Table (leading_block len rest)
item_of_line (At m) rest = Found (Moment m) rest
item_of_line (Accept n) rest = Found (Happens (happening.Accepts n)) rest
item_of_line (Client n len) rest = item_reading_with_block (λ bytes. Happens (happening.Sends n bytes))
    (leading_block len rest)
item_of_line (Link l len) rest = item_reading_with_block (λ bytes. Happens (happening.Hears l bytes))
    (leading_block len rest)
item_of_line (End n) rest = Found (Happens (happening.Ends n)) rest
item_of_line (Gone n) rest = Found (Happens (happening.Leaves n)) rest
item_of_line (Retire n) rest = Found (Happens (happening.Retires n)) rest
item_of_line (Overdue n) rest = Found (Happens (happening.Overdues n)) rest
item_of_line (Shut l) rest = Found (Happens (happening.Shuts l)) rest
item_of_line (Fail l kind) rest = Found (Happens (happening.Fails l kind)) rest

abbrev pub item_of_line_if_any : List ℕ → Option ItemLine → ItemReading
item_of_line_if_any rest None = Wrong
item_of_line_if_any rest (Some header) = item_of_line header rest

abbrev pub item_after_line_end : Bool → Option (List ℕ × List ℕ) → ItemReading
item_after_line_end first None = Cut
item_after_line_end first (Some p) = item_of_line_if_any p.1 (line_of_text_if_allowed first p.0)

-- the item at the front, the table where it is the first
unfoldable pub leading_item : Bool → List ℕ → ItemReading
leading_item first bytes = item_after_line_end first (split_at_first_byte 10 bytes)

-- the bytes are a script of this table and these items
pub record IsScript (bytes table : List ℕ) (items : List ItemModel) : Type 0 where
  pub script : bytes ≡ item_spelling (Table table) ++ flat_map item_spelling items
  pub table_fits : ItemCanBeSpelled (Table table)
  pub items_fit : AllByRecursion ItemCanBeSpelled items
  pub one_table : AllByRecursion (ItemIsAllowedAtPosition false) items

-- what the code's items say
abbrev pub model_of_item : Item → ItemModel
model_of_item (item.Config bytes) = Table bytes.now
model_of_item (item.At m) = Moment m
model_of_item (item.Happens h) = Happens (happening.model_of_happening h)

abbrev pub model_of_leading_item : LeadingItemReading → ItemReading
model_of_leading_item (front.Found h rest) = Found (model_of_item h) rest.now
model_of_leading_item front.Cut = Cut
model_of_leading_item front.Wrong = Wrong

abbrev pub model_of_leading_block : Block → BlockReading
model_of_leading_block (block.Whole bytes rest) = Whole bytes.now rest.now
model_of_leading_block block.Cut = Short
model_of_leading_block block.Wrong = Bad
