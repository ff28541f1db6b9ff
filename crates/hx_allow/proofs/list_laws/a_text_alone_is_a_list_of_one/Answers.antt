use Rattle.hx_allow.proofs.OneText.{same_texts, same_good}
use Rattle.hx_allow.proofs.list_laws.a_text_alone_is_a_list_of_one.Goals as goal

pub returns-clause-texts : goal.returns-clause-texts
returns-clause-texts c = same_texts

pub returns-clause-good : goal.returns-clause-good
returns-clause-good c = same_good
