use Rattle.std.proofs.Common.{◌≡◌, drop}
use Rattle.hx_vary.specs.Vary.{vary_matches}
use Rattle.hx_vary.proofs.nominations.matches_few.Given as goal

abbrev pub invariant-loop-kept : goal.invariant-loop-kept
invariant-loop-kept l = vary_matches (drop l.kept-index l.nominated) l.request ≡ vary_matches l.nominated l.request
