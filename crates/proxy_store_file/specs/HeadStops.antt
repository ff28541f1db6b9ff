-- What the reader of a head says where it reads none.
use Rattle.std.specs.Prelude.{◌≡◌, ℕ, List, Option, None, Some}
use Rattle.proxy_store_file.specs.declared.head_reading.HeadStop.{HeadStop}
use Rattle.proxy_store_file.specs.declared.head_reading.HeadStop.TheVariants.{Shapeless, OutOfMemory}
use Rattle.proxy_store_file.specs.declared.head_reading.LeadingValue.{LeadingValue}
use Rattle.proxy_store_file.specs.declared.head_reading.LeadingValue.TheVariants.{Cut, Absent, Value}

-- nothing is read; of bytes for which memory ran out nothing is said
abbrev pub HeadReadFailureMatchesReading : {A : Type 0} → HeadStop → Option A → Type 0
HeadReadFailureMatchesReading Shapeless read = read ≡ None
HeadReadFailureMatchesReading OutOfMemory read = Unit {0}

abbrev pub model_of_leading_value : LeadingValue → Option (Option (List ℕ) × List ℕ)
model_of_leading_value Cut = None
model_of_leading_value (Absent rest) = Some (None, rest.now)
model_of_leading_value (Value value rest) = Some (Some value.now, rest.now)
