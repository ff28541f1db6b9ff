use Rattle.proxy_turn_laws.proofs.Telling.{each_write_tells}
use Rattle.proxy_turn_laws.proofs.turn_laws.each_write_reports_its_effect.Goals as goal

pub returns : goal.returns
returns c = each_write_tells
