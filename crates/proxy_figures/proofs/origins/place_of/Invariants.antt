use Rattle.std.proofs.Common.{◌≢◌, ◌<◌, ℕ, get_or}
use Rattle.std.specs.declared.net.socket_addr.SocketAddrV4.{SocketAddrV4}
use Rattle.proxy_figures.specs.OriginsModel.{addresses}
use Rattle.proxy_figures.proofs.origins.place_of.Given as goal

abbrev pub invariant-loop-place : goal.invariant-loop-place
invariant-loop-place l = (k : ℕ) (d : SocketAddrV4) → k < l.place → get_or (addresses l.origins) k d ≢ l.address
