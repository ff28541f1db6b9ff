-- A field line: its name and its value (RFC 9110, section 5).
use Rattle.std.specs.Prelude.{ℕ, List}

pub record Field : Type 0 where
  pub name : List ℕ
  pub value : List ℕ
