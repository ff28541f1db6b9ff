use Rattle.proxy_store_file.proofs.TextLaws.{number_again, number_found, text_again, text_found}
use Rattle.proxy_store_file.proofs.laws.texts_are_read_as_they_are_spelled.Goals as goal

pub returns-clause-number_again : goal.returns-clause-number_again
returns-clause-number_again c = number_again

pub returns-clause-number_found : goal.returns-clause-number_found
returns-clause-number_found c = number_found

pub returns-clause-text_again : goal.returns-clause-text_again
returns-clause-text_again c = text_again

pub returns-clause-text_found : goal.returns-clause-text_found
returns-clause-text_found c = text_found
