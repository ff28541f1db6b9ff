use Rattle.std.proofs.Common.{refl}
use Rattle.hx_allow.proofs.ScopesTold.{below_told, prefix_told, host_told, target_told}
use Rattle.hx_allow.proofs.purge_laws.purge_scopes_cover_what_they_name.Goals as goal

pub returns : goal.returns
returns c = record { target = target_told; below = below_told; prefix = prefix_told; host = host_told; all = λ asked key. refl }
