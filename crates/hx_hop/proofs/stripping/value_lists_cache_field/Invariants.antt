use Rattle.std.proofs.Common.{◌≡◌, length}
use Rattle.hx_fields.specs.LongMembers.{members_of_at_least_length}
use Rattle.hx_fields.specs.Names.{members_of_value}
use Rattle.hx_hop.proofs.NamedLemmas.{any_is_cache_name}
use Rattle.hx_hop.proofs.stripping.value_lists_cache_field.Given as goal

abbrev pub invariant-loop-member : goal.invariant-loop-member
invariant-loop-member l = any_is_cache_name (members_of_at_least_length 3 l.rest) ≡ any_is_cache_name (members_of_value l.value)

abbrev pub decreases-loop-member : goal.decreases-loop-member
decreases-loop-member l = length l.rest
