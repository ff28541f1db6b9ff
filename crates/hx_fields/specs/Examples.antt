-- Field lines for worked examples.
use Rattle.std.specs.Prelude.{ℕ, List}
use Rattle.hx_fields.specs.Line.{Field}

abbrev pub line : List ℕ → List ℕ → Field
line name value = record { name = name; value = value }
