use Rattle.std.proofs.Common.{◌≡◌, drop}
use Rattle.std.specs.List.{list_all}
use Rattle.proxy_log.specs.Asked.{may_be_in_logged_target}
use Rattle.proxy_log.proofs.request_line.is_target.Given as goal

abbrev pub invariant-loop-b : goal.invariant-loop-b
invariant-loop-b l = list_all may_be_in_logged_target (drop l.b-index l.text) ≡ list_all may_be_in_logged_target l.text
