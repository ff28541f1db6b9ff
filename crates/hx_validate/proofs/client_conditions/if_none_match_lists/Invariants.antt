use Rattle.std.proofs.Common.{◌≡◌, drop, Some}
use Rattle.hx_validate.specs.EntityTags.{tagged}
use Rattle.hx_validate.specs.NotModified.{if_none_match_lists}
use Rattle.hx_validate.proofs.client_conditions.if_none_match_lists.Given as goal

abbrev pub invariant-loop-line : goal.invariant-loop-line
invariant-loop-line l =
    if_none_match_lists (drop l.line-index l.line-items) (Some (tagged l.held.weak l.held.opaque.now))
    ≡ if_none_match_lists l.line-items (Some (tagged l.held.weak l.held.opaque.now))
