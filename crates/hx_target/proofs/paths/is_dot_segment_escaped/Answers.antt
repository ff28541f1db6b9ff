use Rattle.std.proofs.Common.{◌∙◌, sym, ap, ◌∷◌, length, ◌<◌, arith}
use Rattle.std.proofs.lemmas.Bool.Decides.{nat_tests}
use Rattle.hx_target.specs.Paths.{is_dot_segment, table_path_of}
use Rattle.hx_target.proofs.TablePaths.{table-nonempty}
use Rattle.hx_target.proofs.TableSegments.{dots_none, dots_one, dots_two}
use Rattle.hx_target.proofs.paths.is_dot_segment_escaped.Goals as goal

pub returns-in-Some-after_dot : goal.returns-in-Some-after_dot
returns-in-Some-after_dot c =
    let two = dots_two c.in-Some-after_dot.rest.now in
    c.is_empty-in-Some-after_dot.ensures
    ∙ sym (ap is_dot_segment (c.in-Some.ensures ∙ ap (λ t. 46 ∷ t) c.in-Some-after_dot.ensures) ∙ two)

pub returns-in-None-after_dot : goal.returns-in-None-after_dot
returns-in-None-after_dot c =
    let long : 0 < length c.in-Some.rest.now = grind (arith, nat_tests, c.is_empty.ensures, c.if-is_empty.false) in
    sym (ap is_dot_segment (c.in-Some.ensures) ∙ dots_one (table_path_of c.in-Some.rest.now) (table-nonempty c.in-Some.rest.now long) c.in-None-after_dot.ensures)

pub returns-in-None : goal.returns-in-None
returns-in-None c = sym (dots_none (table_path_of c.args.segment.now) c.in-None.ensures)
