use Rattle.proxy_script.proofs.ItemLaws.{item_found, item_again}
use Rattle.proxy_script.proofs.laws.items_are_found_as_they_are_spelled.Goals as goal

pub returns-clause-found : goal.returns-clause-found
returns-clause-found c = item_found

pub returns-clause-again : goal.returns-clause-again
returns-clause-again c = item_again
