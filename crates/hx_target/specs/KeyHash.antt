-- What a cache key feeds a hash function: path and query, the port, the host. Keys that are one feed the same.
use Rattle.std.specs.Prelude.{◌≡◌, ℕ, List, [], ◌∷◌, ◌++◌, Bool, true, false, ◌&&◌, IsTrue, refl}
use Rattle.std.specs.Hash.{u16}
use Rattle.std.specs.Cmp.Lexicographic.{bytes_decides}
use Rattle.std.proofs.Common.{ap}
use Rattle.std.proofs.lemmas.Bool.{eqb-true, false≢true}
use Rattle.hx_target.specs.declared.keys.Key.{Key}
use Rattle.hx_target.specs.Keys.{same_key}

-- the writes, in their order
abbrev pub writes_of_key_to_hasher : Key → List (List ℕ)
writes_of_key_to_hasher k = (k.path_query ∷ []) ++ u16 k.port ++ k.host ∷ []

both : (a b : Bool) → (a && b) ≡ true → (a ≡ true) × (b ≡ true)
both true b h = (refl, h)
both false b h = absurd (false≢true h)

-- keys that are the same are one
pub same_keys_are_equal : (a b : Key) → same_key a b ≡ true → a ≡ b
same_keys_are_equal a b h =
    let p = both _ _ h in
    let q = both _ _ p.0 in
    let host = (bytes_decides a.host b.host).0 q.0 in
    let port = eqb-true a.port b.port q.1 in
    let path_query = (bytes_decides a.path_query b.path_query).0 p.1 in
    λ i. record { host = host i; port = port i; path_query = path_query i }

pub same_keys_hash_alike : (a b : Key) → IsTrue (same_key a b) → writes_of_key_to_hasher a ≡ writes_of_key_to_hasher b
same_keys_hash_alike a b h = ap writes_of_key_to_hasher (same_keys_are_equal a b h)
