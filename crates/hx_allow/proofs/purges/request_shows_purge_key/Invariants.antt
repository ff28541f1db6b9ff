use Rattle.std.proofs.Common.{◌≡◌, drop}
use Rattle.hx_allow.specs.Purges.{request_shows_purge_key}
use Rattle.hx_allow.proofs.purges.request_shows_purge_key.Given as goal

abbrev pub invariant-loop-line : goal.invariant-loop-line
invariant-loop-line l = request_shows_purge_key l.key (drop l.line-index l.fields) ≡ request_shows_purge_key l.key l.fields
