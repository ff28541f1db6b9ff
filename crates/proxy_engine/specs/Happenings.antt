-- What happens to a proxy, and which of it takes memory.
use Rattle.std.specs.Prelude.{Bool, true, false}
pub use Rattle.proxy_script.specs.Happenings.{
  HappeningModel,
  Accepts,
  Sends,
  Hears,
  Ends,
  Leaves,
  Retires,
  Overdues,
  Shuts,
  Fails,
  model_of_happening,
}

-- a connection or bytes are kept
abbrev pub happening_takes_memory : HappeningModel → Bool
happening_takes_memory (Accepts n) = true
happening_takes_memory (Sends n bytes) = true
happening_takes_memory (Hears l bytes) = true
happening_takes_memory (Ends n) = false
happening_takes_memory (Leaves n) = false
happening_takes_memory (Retires n) = false
happening_takes_memory (Overdues n) = false
happening_takes_memory (Shuts l) = false
happening_takes_memory (Fails l kind) = false
