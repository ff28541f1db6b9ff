use Rattle.hx_allow.proofs.OneByOne.{matches_one_by_one, decides_one_by_one, says_the_same}
use Rattle.hx_allow.proofs.list_laws.lists_mean_the_same_as_many_lines.Goals as goal

pub returns-clause-matching : goal.returns-clause-matching
returns-clause-matching c = matches_one_by_one

pub returns-clause-deciding : goal.returns-clause-deciding
returns-clause-deciding c = decides_one_by_one

pub returns-clause-said : goal.returns-clause-said
returns-clause-said c = says_the_same
