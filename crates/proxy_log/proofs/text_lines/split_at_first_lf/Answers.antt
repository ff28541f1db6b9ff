use Rattle.std.proofs.Common.{Option, ℕ, Some, take, List, subst, sym, ap, ◌∙◌}
use Rattle.memchr.specs.Find.{IsFirstByte, is_byte}
use Rattle.proxy_log.proofs.LineSteps.{cut_found, cut_none, behind_place}
use Rattle.proxy_log.proofs.text_lines.split_at_first_lf.Goals as goal

pub returns-in-Some-clause-cut : goal.returns-in-Some-clause-cut
returns-in-Some-clause-cut c =
    ap (λ (behind : List ℕ). Some (take c.in-Some.at c.args.text.now, behind)) (behind_place c.in-Some.at c.args.text.now)
    ∙ sym (cut_found 10 c.in-Some.at c.args.text.now (subst (λ (r : Option ℕ). IsFirstByte (is_byte 10) c.args.text.now r) c.in-Some.is c.memchr.ensures))

pub returns-in-None-clause-cut : goal.returns-in-None-clause-cut
returns-in-None-clause-cut c = sym (cut_none 10 c.args.text.now (subst (λ (r : Option ℕ). IsFirstByte (is_byte 10) c.args.text.now r) c.in-None.is c.memchr.ensures))
