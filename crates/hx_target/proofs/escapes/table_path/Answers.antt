use Rattle.std.proofs.Common.{◌∙◌, sym, ap, drop, ◌+◌, ◌∷◌, [], slice_index, arith}
use Rattle.hx_target.specs.Paths.{begins_escape, normal_form_of_escape, table_path_of}
use Rattle.hx_target.proofs.TablePaths.{table_step_plain, table_step_escape, escape_within, found_step}
use Rattle.hx_target.proofs.escapes.table_path.Goals as goal

pub loop-i-preserved-then-begins_escape : goal.loop-i-preserved-then-begins_escape
loop-i-preserved-then-begins_escape c =
    let path = c.args.path.now in
    let i = c.loop-i.i in
    let is = ap begins_escape (sym c.after.ensures) ∙ (sym c.begins_escape.ensures ∙ c.if-begins_escape.true) in
    record {
      within = escape_within path i is;
      so_far =
          found_step c.loop-i.found.items (normal_form_of_escape (slice_index path (i + 1)) (slice_index path (i + 2))) (table_path_of (drop (i + 3) path)) (table_path_of path)
          c.in_ok-push_escape.ensures (table_step_escape path i is) c.loop-i.invariant.so_far;
    }

pub loop-i-preserved : goal.loop-i-preserved
loop-i-preserved c =
    let path = c.args.path.now in
    let i = c.loop-i.i in
    let is = ap begins_escape (sym c.after.ensures) ∙ (sym c.begins_escape.ensures ∙ c.if-begins_escape.false) in
    record {
      within = omega (arith, c.loop-i-test.true);
      so_far =
          found_step c.loop-i.found.items (slice_index path i ∷ []) (table_path_of (drop (i + 1) path)) (table_path_of path)
          c.in_ok-push.ensures.items (table_step_plain path i c.loop-i-test.true is) c.loop-i.invariant.so_far;
    }
