use Rattle.hx_target.proofs.Judgements.{no_dots_pass}
use Rattle.hx_target.proofs.laws.no_table_path_has_a_dot_segment.Goals as goal

pub returns : goal.returns
returns c = no_dots_pass
