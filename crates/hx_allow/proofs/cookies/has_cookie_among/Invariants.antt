use Rattle.std.proofs.Common.{◌≡◌, drop}
use Rattle.hx_allow.specs.Cookies.{has_cookie_among}
use Rattle.hx_allow.proofs.cookies.has_cookie_among.Given as goal

abbrev pub invariant-loop-line : goal.invariant-loop-line
invariant-loop-line l = has_cookie_among l.names (drop l.line-index l.fields) ≡ has_cookie_among l.names l.fields
