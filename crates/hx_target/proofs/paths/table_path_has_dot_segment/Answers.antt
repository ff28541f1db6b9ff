use Rattle.hx_target.proofs.TableSegments.{dots-table}
use Rattle.hx_target.proofs.paths.table_path_has_dot_segment.Goals as goal

pub segments-init : goal.segments-init
segments-init c = dots-table c.args.path.now
