use Rattle.std.proofs.Common.{sym}
use Rattle.hx_target.proofs.Segments.{all_in_front-nil}
use Rattle.hx_target.proofs.paths.cut_segment.Goals as goal

pub loop-i-init : goal.loop-i-init
loop-i-init c = sym (all_in_front-nil c.args.path.now)
