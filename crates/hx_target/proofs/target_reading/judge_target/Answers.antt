use Rattle.std.proofs.Common.{sym, ap, codes}
use Rattle.hx_fields.specs.FieldLines.{values_of}
use Rattle.hx_target.specs.Judgement.{judged_of, target_parts_of, fault_or_target}
use Rattle.hx_target.proofs.Judgements.{authority_alone}
use Rattle.hx_target.proofs.target_reading.judge_target.Goals as goal

pub returns-in-None-clause-judged : goal.returns-in-None-clause-judged
unfolding judged_of
returns-in-None-clause-judged c = λ free.
    let hosts = values_of c.args.fields.now (codes "Host") in
    sym (ap (λ o. fault_or_target o (target_parts_of c.args.target.now c.args.uri.now hosts)) (authority_alone c.args.target.now c.args.uri.now hosts c.requires.cut c.in-None.ensures))
