use Rattle.std.proofs.Common.{inr, subst}
use Rattle.std.specs.Prelude.{Result, IfOk}
use Rattle.http_uri.specs.declared.error.UriError.{UriError}
use Rattle.http_uri.specs.declared.uri.Uri.{Uri}
use Rattle.http_uri.specs.Uri.{Spells}
use Rattle.hx_target.proofs.target_reading.judge_cut_target.Goals as goal

pub returns-in-Ok-clause-judged : goal.returns-in-Ok-clause-judged
returns-in-Ok-clause-judged c = λ free.
    let spelled = subst (λ (cut : Result Uri UriError). IfOk cut (Spells c.args.target.now)) c.in-Ok.is c.requires.spelled in
    inr (inr (c.requires.good, (c.in-Ok.uri, spelled, c.judge_target.ensures.judged free)))
