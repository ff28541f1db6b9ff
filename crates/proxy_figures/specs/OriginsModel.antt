-- The origins that are known, as callers see them.
--
-- OriginsModel: what is kept of them           some_origin_is_crowded: whether nearly as many links to one are open as
-- may be
-- OriginWithAddressIsFoundOrAdded: an address has its place     total_connects_refused_beyond_bound: connects that were
-- refused
-- for too many links
use Rattle.std.specs.Prelude.{◌≡◌, ◌≢◌, ◌⊎◌, ℕ, min, Bool, List, [], ◌∷◌, ◌++◌, length, map, Some}
use Rattle.std.specs.Prelude.{All, AllPairs, count_by, sum_by, slice_get}
use Rattle.std.specs.List.{list_any}
use Rattle.std.specs.declared.net.socket_addr.SocketAddrV4.{SocketAddrV4}
use Rattle.proxy_figures.specs.declared.origins.Origin.{Origin}
use Rattle.proxy_figures.specs.Origins.{is_crowded, IsFreshOriginOfAddress}

-- the origins, each at its place; how many links may be open to each; and how often one became silent
pub record OriginsModel : Type 0 where
  pub items : List Origin
  pub most : ℕ
  pub times_fallen_silent : ℕ

abbrev pub addresses : List Origin → List SocketAddrV4
addresses origins = map (λ (origin : Origin). origin.address) origins

-- how many are crowded is counted, and no two have one address
pub record CrowdedCountAndAddressesAreValid (most crowded : ℕ) (origins : List Origin) : Type 0 where
  pub counted : crowded ≡ count_by (is_crowded most) origins
  pub distinct : AllPairs (λ (a b : SocketAddrV4). a ≢ b) (addresses origins)

-- nearly as many links to some origin are open as may be
abbrev pub some_origin_is_crowded : OriginsModel → Bool
some_origin_is_crowded known = list_any (is_crowded known.most) known.items

abbrev pub AddressIsOfNoOrigin : SocketAddrV4 → List Origin → Type 0
AddressIsOfNoOrigin address origins = All (λ (other : SocketAddrV4). other ≢ address) (addresses origins)

-- an origin with this address stands at the end
abbrev pub OriginIsAdded : SocketAddrV4 → OriginsModel → OriginsModel → Type 0
OriginIsAdded address old new = (origin : Origin) × IsFreshOriginOfAddress address origin
    × (new ≡ record old { items = old.items ++ origin ∷ [] })

-- The place of an address is that of the origin which has it; a new address is added at the end.
abbrev pub OriginWithAddressIsFoundOrAdded : SocketAddrV4 → OriginsModel → ℕ → OriginsModel → Type 0
OriginWithAddressIsFoundOrAdded address old place new =
    ((new ≡ old) × (slice_get (addresses old.items) place ≡ Some address))
    ⊎ (AddressIsOfNoOrigin address old.items × (place ≡ length old.items) × OriginIsAdded address old new)

-- how often connects were refused at once since as many links were open as may be, up to the most that a count has
abbrev pub total_connects_refused_beyond_bound : List Origin → ℕ
total_connects_refused_beyond_bound origins =
    min (sum_by (λ (origin : Origin). origin.refused_beyond_bound) origins) 18446744073709551615
