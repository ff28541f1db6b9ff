-- What happens to a proxy, as contracts see it: without references.
use Rattle.std.specs.Prelude.{ℕ, List}
use Rattle.hx_status.specs.declared.cause.FailKind.{FailKind}
use Rattle.proxy_script.specs.declared.happening.Happening.{Happening}
use Rattle.proxy_script.specs.declared.happening.Happening.TheVariants as happenings

pub data HappeningModel : Type 0 where
  Accepts : (n : ℕ) → HappeningModel
  Sends : (n : ℕ) (bytes : List ℕ) → HappeningModel
  Hears : (l : ℕ) (bytes : List ℕ) → HappeningModel
  Ends : (n : ℕ) → HappeningModel
  Leaves : (n : ℕ) → HappeningModel
  Retires : (n : ℕ) → HappeningModel
  Overdues : (n : ℕ) → HappeningModel
  Shuts : (l : ℕ) → HappeningModel
  Fails : (l : ℕ) (kind : FailKind) → HappeningModel

abbrev pub model_of_happening : Happening → HappeningModel
model_of_happening (happenings.Accept n) = Accepts n
model_of_happening (happenings.Client n bytes) = Sends n bytes.now
model_of_happening (happenings.Link l bytes) = Hears l bytes.now
model_of_happening (happenings.End n) = Ends n
model_of_happening (happenings.Gone n) = Leaves n
model_of_happening (happenings.Retire n) = Retires n
model_of_happening (happenings.Overdue n) = Overdues n
model_of_happening (happenings.Shut l) = Shuts l
model_of_happening (happenings.Fail l kind) = Fails l kind
