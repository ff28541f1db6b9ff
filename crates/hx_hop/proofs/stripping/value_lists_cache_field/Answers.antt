use Rattle.hx_hop.proofs.Passed.{listed_by_long}
use Rattle.hx_hop.proofs.stripping.value_lists_cache_field.Goals as goal

pub loop-member-init : goal.loop-member-init
loop-member-init c = listed_by_long c.args.value.now
