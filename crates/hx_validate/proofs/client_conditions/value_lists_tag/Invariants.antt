use Rattle.std.proofs.Common.{◌≡◌, length}
use Rattle.std.specs.List.{list_any}
use Rattle.hx_fields.specs.Names.{members_of_value}
use Rattle.hx_validate.specs.EntityTags.{tagged}
use Rattle.hx_validate.specs.NotModified.{is_weakly_equal_tag}
use Rattle.hx_validate.proofs.client_conditions.value_lists_tag.Given as goal

abbrev pub invariant-loop-member : goal.invariant-loop-member
invariant-loop-member l =
    list_any (is_weakly_equal_tag (tagged l.held.weak l.held.opaque.now)) (members_of_value l.rest)
    ≡ list_any (is_weakly_equal_tag (tagged l.held.weak l.held.opaque.now)) (members_of_value l.value)

abbrev pub decreases-loop-member : goal.decreases-loop-member
decreases-loop-member l = length l.rest
