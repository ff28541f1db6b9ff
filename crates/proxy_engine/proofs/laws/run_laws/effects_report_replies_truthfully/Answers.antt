use Rattle.proxy_engine.proofs.Telling.{told_as_it_is, run_tells, tells_no_other, tells_some}
use Rattle.proxy_engine.proofs.laws.run_laws.effects_report_replies_truthfully.Goals as goal

pub returns : goal.returns
returns c = record { step = told_as_it_is; run = run_tells; another = tells_no_other; none = tells_some }
