use Rattle.std.proofs.Common.{◌≡◌, drop}
use Rattle.hx_vary.specs.Combined.{values_match_all_nominated}
use Rattle.hx_vary.proofs.request_values.RequestValues.matches.Given as goal

abbrev pub invariant-loop-kept : goal.invariant-loop-kept
invariant-loop-kept l = values_match_all_nominated l.self.values (drop l.kept-index l.nominated) ≡ values_match_all_nominated l.self.values l.nominated
