use Rattle.std.proofs.Common.{◌∙◌, sym, ap, ◌∷◌}
use Rattle.hx_target.specs.Paths.{table_path_of}
use Rattle.hx_target.proofs.TablePaths.{table-dot, table-escaped_dot, table-no_dot}
use Rattle.hx_target.proofs.paths.after_dot.Goals as goal

pub returns-then-begins_dot : goal.returns-then-begins_dot
returns-then-begins_dot c =
    table-dot c.args.segment.now (sym c.begins_dot.ensures ∙ c.if-begins_dot.true) ∙ ap (λ rest. 46 ∷ table_path_of rest) (sym c.after.ensures)

pub returns-then-begins_escaped_dot : goal.returns-then-begins_escaped_dot
returns-then-begins_escaped_dot c =
    table-escaped_dot c.args.segment.now (sym c.begins_escaped_dot.ensures ∙ c.if-begins_escaped_dot.true)
    ∙ ap (λ rest. 46 ∷ table_path_of rest) (sym c.after-then-begins_escaped_dot.ensures)

pub returns : goal.returns
returns c =
    table-no_dot c.args.segment.now (sym c.begins_dot.ensures ∙ c.if-begins_dot.false) (sym c.begins_escaped_dot.ensures ∙ c.if-begins_escaped_dot.false)
