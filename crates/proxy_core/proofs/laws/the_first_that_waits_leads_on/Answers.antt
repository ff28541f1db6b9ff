use Rattle.proxy_core.proofs.NextLeaders.{first_leads_on, nobody_leads_on, one_leads_alone}
use Rattle.proxy_core.proofs.laws.the_first_that_waits_leads_on.Goals as goal

pub returns-clause-leads : goal.returns-clause-leads
returns-clause-leads c = first_leads_on

pub returns-clause-nobody : goal.returns-clause-nobody
returns-clause-nobody c = nobody_leads_on

pub returns-clause-alone : goal.returns-clause-alone
returns-clause-alone c = one_leads_alone
