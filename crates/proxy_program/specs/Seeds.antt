-- The seed behind which keys and values of the store are hashed.
use Rattle.std.specs.Prelude.{◌≡◌, ℕ}
use Rattle.std.specs.Hash.DefaultHasher.{finish}
use Rattle.std.specs.RandomState.{initial_hasher}
use Rattle.std.specs.declared.random_state.RandomState.{RandomState}

-- what a hasher of some 128 bits of keys gives of nothing, whole: `RandomState::new` has the system draw them
abbrev pub SeedIsHashOfRandomKeys : ℕ → Type 0
SeedIsHashOfRandomKeys seed = (keys : RandomState) × (seed ≡ finish (initial_hasher keys))
