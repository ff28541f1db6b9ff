-- The lines of a script: how each is spelled, and what a text says as a line.
use Rattle.std.specs.Prelude.{ℕ, ◌^◌, ◌<◌, List, [], ◌∷◌, ◌++◌, Bool, true, false, not, find, nat_lt, Option, None}
use Rattle.std.specs.Prelude.{Some, if◌then◌else◌, codes, decimal, bytes_eq}
use Rattle.std.specs.Option.{option_map, option_and_then}
use Rattle.hx_fields.specs.declared.limits.TheConstants.{START_OF_YEAR_10000}
use Rattle.hx_fields.specs.Names.{split_at_first_byte}
use Rattle.proxy_script.specs.DecimalNumbers.{number_of}
use Rattle.proxy_script.specs.declared.first_words.Word.{Word}
use Rattle.proxy_script.specs.declared.first_words.Word.TheVariants as word
use Rattle.hx_status.specs.Refusals.{fail_kind_word}
use Rattle.hx_status.specs.declared.cause.FailKind.{FailKind}
use Rattle.hx_status.specs.declared.cause.FailKind.TheVariants.{Refused, TimedOut, Closed, BadAnswer, TooLarge}
use Rattle.proxy_script.specs.declared.line_parser.ItemLine.{ItemLine}
use Rattle.proxy_script.specs.declared.line_parser.ItemLine.TheVariants.{Config, At, Accept, Client, Link, End, Gone}
use Rattle.proxy_script.specs.declared.line_parser.ItemLine.TheVariants.{Retire, Overdue, Shut, Fail}

abbrev pub word_text : Word → List ℕ
word_text word.Config = codes "config"
word_text word.At = codes "at"
word_text word.Accept = codes "accept"
word_text word.Client = codes "client"
word_text word.Link = codes "link"
word_text word.End = codes "end"
word_text word.Gone = codes "gone"
word_text word.Retire = codes "retire"
word_text word.Overdue = codes "overdue"
word_text word.Shut = codes "shut"
word_text word.Fail = codes "fail"

abbrev pub words : List Word
words =
    word.Config ∷ word.At ∷ word.Accept ∷ word.Client ∷ word.Link ∷ word.End ∷ word.Gone ∷ word.Retire
    ∷ word.Overdue ∷ word.Shut ∷ word.Fail ∷ []

-- how a link fails by itself; the other kinds are what the proxy makes of an answer
abbrev pub link_failures : List FailKind
link_failures = Refused ∷ TimedOut ∷ Closed ∷ []

abbrev pub IsFailKindOfConnection : FailKind → Type 0
IsFailKindOfConnection Refused = Unit {0}
IsFailKindOfConnection TimedOut = Unit {0}
IsFailKindOfConnection Closed = Unit {0}
IsFailKindOfConnection BadAnswer = ⊥
IsFailKindOfConnection TooLarge = ⊥

abbrev pub word_of_line : ItemLine → Word
word_of_line (Config len) = word.Config
word_of_line (At m) = word.At
word_of_line (Accept n) = word.Accept
word_of_line (Client n len) = word.Client
word_of_line (Link l len) = word.Link
word_of_line (End n) = word.End
word_of_line (Gone n) = word.Gone
word_of_line (Retire n) = word.Retire
word_of_line (Overdue n) = word.Overdue
word_of_line (Shut l) = word.Shut
word_of_line (Fail l kind) = word.Fail

-- what stands behind the first word and its space
abbrev pub text_behind_word : ItemLine → List ℕ
text_behind_word (Config len) = decimal len
text_behind_word (At m) = decimal m
text_behind_word (Accept n) = decimal n
text_behind_word (Client n len) = decimal n ++ 32 ∷ decimal len
text_behind_word (Link l len) = decimal l ++ 32 ∷ decimal len
text_behind_word (End n) = decimal n
text_behind_word (Gone n) = decimal n
text_behind_word (Retire n) = decimal n
text_behind_word (Overdue n) = decimal n
text_behind_word (Shut l) = decimal l
text_behind_word (Fail l kind) = decimal l ++ 32 ∷ fail_kind_word kind

-- how a line is spelled, without its LF
abbrev pub line_text : ItemLine → List ℕ
line_text header = word_text (word_of_line header) ++ 32 ∷ text_behind_word header

-- numbers that have a spelling, moments, and the failures of links
abbrev pub LineCanBeSpelled : ItemLine → Type 0
LineCanBeSpelled (Config len) = len < 2 ^ 64
LineCanBeSpelled (At m) = m < START_OF_YEAR_10000
LineCanBeSpelled (Accept n) = n < 2 ^ 64
LineCanBeSpelled (Client n len) = (n < 2 ^ 64) × (len < 2 ^ 64)
LineCanBeSpelled (Link l len) = (l < 2 ^ 64) × (len < 2 ^ 64)
LineCanBeSpelled (End n) = n < 2 ^ 64
LineCanBeSpelled (Gone n) = n < 2 ^ 64
LineCanBeSpelled (Retire n) = n < 2 ^ 64
LineCanBeSpelled (Overdue n) = n < 2 ^ 64
LineCanBeSpelled (Shut l) = l < 2 ^ 64
LineCanBeSpelled (Fail l kind) = (l < 2 ^ 64) × IsFailKindOfConnection kind

abbrev pub moment_if_in_range : ℕ → Option ℕ
moment_if_in_range m = if nat_lt m START_OF_YEAR_10000 then Some m else None

abbrev pub moment_of_text : List ℕ → Option ℕ
moment_of_text text = option_and_then moment_if_in_range (number_of text)

abbrev pub pair_if_both_present : {A B : Type 0} → Option A → Option B → Option (A × B)
pair_if_both_present None y = None
pair_if_both_present (Some x) None = None
pair_if_both_present (Some x) (Some y) = Some (x, y)

abbrev pub failure_of : List ℕ → Option FailKind
failure_of text = find (λ kind. bytes_eq text (fail_kind_word kind)) link_failures

abbrev pub two_numbers_of_text : List ℕ → Option (ℕ × ℕ)
two_numbers_of_text text =
    option_and_then (λ p. pair_if_both_present (number_of p.0) (number_of p.1)) (split_at_first_byte 32 text)

abbrev pub number_and_failure : List ℕ → Option (ℕ × FailKind)
number_and_failure text =
    option_and_then (λ p. pair_if_both_present (number_of p.0) (failure_of p.1)) (split_at_first_byte 32 text)

-- what a line says behind its first word
abbrev pub line_of_word_with_rest : Word → List ℕ → Option ItemLine
line_of_word_with_rest word.Config rest = option_map Config (number_of rest)
line_of_word_with_rest word.At rest = option_map At (moment_of_text rest)
line_of_word_with_rest word.Accept rest = option_map Accept (number_of rest)
line_of_word_with_rest word.Client rest = option_map (λ p. Client p.0 p.1) (two_numbers_of_text rest)
line_of_word_with_rest word.Link rest = option_map (λ p. Link p.0 p.1) (two_numbers_of_text rest)
line_of_word_with_rest word.End rest = option_map End (number_of rest)
line_of_word_with_rest word.Gone rest = option_map Gone (number_of rest)
line_of_word_with_rest word.Retire rest = option_map Retire (number_of rest)
line_of_word_with_rest word.Overdue rest = option_map Overdue (number_of rest)
line_of_word_with_rest word.Shut rest = option_map Shut (number_of rest)
line_of_word_with_rest word.Fail rest = option_map (λ p. Fail p.0 p.1) (number_and_failure rest)

abbrev pub word_of_text : List ℕ → Option Word
word_of_text text = find (λ word. bytes_eq text (word_text word)) words

abbrev pub line_of_word_and_rest : List ℕ × List ℕ → Option ItemLine
line_of_word_and_rest p = option_and_then (λ word. line_of_word_with_rest word p.1) (word_of_text p.0)

-- what a line says: its first word, a space, and the rest
unfoldable pub line_of_text : List ℕ → Option ItemLine
line_of_text line = option_and_then line_of_word_and_rest (split_at_first_byte 32 line)

abbrev pub is_config : ItemLine → Bool
is_config (Config len) = true
is_config _ = false

abbrev pub same_truth : Bool → Bool → Bool
same_truth true b = b
same_truth false b = not b

abbrev pub line_if_allowed_at_position : Bool → ItemLine → Option ItemLine
line_if_allowed_at_position first header = if same_truth (is_config header) first then Some header else None

-- what a line says, where an item of its kind stands here: the table first, and first alone
abbrev pub line_of_text_if_allowed : Bool → List ℕ → Option ItemLine
line_of_text_if_allowed first line = option_and_then (line_if_allowed_at_position first) (line_of_text line)
