use Rattle.proxy_figures.proofs.LinePlaces.{each_line}
use Rattle.proxy_figures.proofs.laws.each_line_has_its_origin.Goals as goal

pub returns : goal.returns
returns c = each_line
