-- Bytes that wait to be read.
use Rattle.std.specs.Prelude.{ℕ, List}

-- items: the bytes; spare: how many more find room without new memory
pub record ByteQueue : Type 0 where
  pub items : List ℕ
  pub spare : ℕ
