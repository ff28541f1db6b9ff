use Rattle.std.proofs.Common.{◌∙◌, sym, ap}
use Rattle.hx_target.specs.Paths.{begins_bad_escape}
use Rattle.hx_target.proofs.TablePaths.{bad_escape_step}
use Rattle.hx_target.proofs.escapes.has_bad_escape.Goals as goal

pub loop-i-preserved : goal.loop-i-preserved
loop-i-preserved c =
    sym (bad_escape_step c.args.path.now c.loop-i.i c.loop-i-test.true (ap begins_bad_escape (sym c.after.ensures) ∙ (sym c.begins_bad_escape.ensures ∙ c.if-begins_bad_escape.false)))
    ∙ c.loop-i.invariant
