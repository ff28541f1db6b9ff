-- Which of several keys that aren't known is told.
-- own: the least by its bytes
use Rattle.std.specs.Prelude.{◌≡◌, ◌⊎◌, ℕ, List, false, IsSome}
use Rattle.std.specs.declared.cmp.Ordering.TheVariants.{Less}
use Rattle.std.specs.Ordering.{nat_cmp}
use Rattle.std.specs.Cmp.Lexicographic.{slice_cmp}
use Rattle.toml.specs.Data.{Members, get_member}
use Rattle.hx_allow.specs.Values.{is_known_key}
use Rattle.hx_allow.specs.declared.values.Scope.{Scope}

-- the key stands in the table
abbrev pub KeyIsInTable : List ℕ → Members → Type 0
KeyIsInTable key ms = IsSome (get_member key ms)

-- the bytes of a key come before those of another
abbrev pub KeyPrecedesKey : List ℕ → List ℕ → Type 0
KeyPrecedesKey key other = slice_cmp nat_cmp key other ≡ Less

-- the key stands in the table and isn't known there, and it comes before each other such key
pub record IsLeastUnknownKey (scope : Scope) (ms : Members) (key : List ℕ) : Type 0 where
  pub is_present : KeyIsInTable key ms
  pub unknown : is_known_key scope key ≡ false
  pub least : (other : List ℕ) → KeyIsInTable other ms → is_known_key scope other ≡ false → (other ≡ key)
      ⊎ KeyPrecedesKey key other
