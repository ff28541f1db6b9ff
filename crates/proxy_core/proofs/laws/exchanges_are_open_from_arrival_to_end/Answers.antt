use Rattle.proxy_core.proofs.OpenLaws.{exchanges_are_open_from_arrival_to_end, open_by_arrival_alone, has_its_request, keeps_its_rule}
use Rattle.proxy_core.proofs.laws.exchanges_are_open_from_arrival_to_end.Goals as goal

pub returns : goal.returns
returns c = record { ends = exchanges_are_open_from_arrival_to_end; alone = open_by_arrival_alone; request = has_its_request; rule = keeps_its_rule }
