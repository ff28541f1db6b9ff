-- The keys of numbers and of a line's words, as they stand in the table, and the numbers of faults.
use Rattle.std.specs.Prelude.{ℕ, List}
use Rattle.hx_allow.specs.Rows.{number_key_row, word_row}
use Rattle.hx_allow.specs.declared.config_faults.TableFault.{TableFault}
use Rattle.hx_allow.specs.declared.config_faults.TableFault.TheVariants.{NotToml, UnknownKey, BadName, BadNumber}
use Rattle.hx_allow.specs.declared.config_faults.TableFault.TheVariants.{BadHost}
use Rattle.hx_allow.specs.declared.config_faults.TableFault.TheVariants.{BadMethod, BadPath, BadOrigin, NoLines}
use Rattle.hx_allow.specs.declared.config_faults.TableFault.TheVariants.{OutOfMemory}
use Rattle.hx_allow.specs.declared.config_faults.TableFault.TheVariants.{BadCache, BadWord, MethodInLowerCase}
use Rattle.hx_allow.specs.declared.config_faults.TableFault.TheVariants.{StarInPath}
use Rattle.hx_allow.specs.declared.config_faults.LineOption.{LineOption}
use Rattle.hx_allow.specs.declared.config_faults.NumberKey.{NumberKey}

abbrev pub key_text : NumberKey → List ℕ
key_text number = (number_key_row number).key

abbrev pub key_of_line_option : LineOption → List ℕ
key_of_line_option word = (word_row word).key

-- the numbers of the faults, which order them
abbrev pub table_fault_number : TableFault → ℕ
table_fault_number NotToml = 1
table_fault_number (UnknownKey key) = 2
table_fault_number BadName = 3
table_fault_number (BadNumber key) = 4
table_fault_number (BadHost line) = 5
table_fault_number (BadMethod line) = 6
table_fault_number (BadPath line) = 7
table_fault_number (BadOrigin line) = 8
table_fault_number NoLines = 9
table_fault_number OutOfMemory = 10
table_fault_number (BadCache line) = 11
table_fault_number (BadWord line word) = 12
table_fault_number (MethodInLowerCase line) = 13
table_fault_number (StarInPath line) = 14
