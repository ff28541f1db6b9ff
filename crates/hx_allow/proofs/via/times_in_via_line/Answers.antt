use Rattle.std.proofs.Common.{rules, ◌≡◌, ◌≤◌, ◌<◌, ◌+◌, length, get_or, arith, ap, sym, ◌∙◌}
use Rattle.hx_allow.specs.Via.{number_of_enclosing_comments}
use Rattle.hx_allow.proofs.ViaPieces.{naming, none_in_front, comments_grow, times_at_comma, times_elsewhere, times_at_end}
use Rattle.hx_allow.specs.declared.via.ViaLineParseState.TheVariants.{Outside}
use Rattle.hx_allow.proofs.via.times_in_via_line.Goals as goal
use Rattle.hx_allow.proofs.via.times_in_via_line.Goals.{then-is_list_comma_at, else-is_list_comma_at}

pub loop-i-init : goal.loop-i-init
loop-i-init c = record {
  within = omega arith;
  begun = omega arith;
  few = omega arith;
  shallow = omega arith;
  times = omega arith ∙ ap (naming c.args.name.now) (none_in_front Outside c.args.value.now);
}

pub loop-i-preserved : goal.loop-i-preserved
loop-i-preserved c =
    let v = c.args.value.now in
    let inv = c.loop-i.invariant in
    let b = get_or v c.loop-i.i 0 in
    let next = c.via_place_after_byte-place.ensures in
    let deeper = comments_grow c.loop-i.place b in
    let same = ap number_of_enclosing_comments next in
    elim c.if-is_list_comma_at.branch [
      | then-is_list_comma_at w ↦ record {
        within = search rules;
        begun = omega (arith, w.start-is);
        few = omega (arith, w.start-is, w.found-is, w.one_if_named-found.ensures.bound, inv.few, inv.begun);
        shallow = omega (arith, same, deeper, inv.shallow);
        times = times_at_comma c.args.name.now v c.loop-i.start c.loop-i.i c.loop-i.place inv.begun (search rules) c.loop-i.found w.one_if_named-found.result c.if-is_list_comma_at.found c.if-is_list_comma_at.start _ c.via_place_after_byte-place.result
            (sym c.is_list_comma_at.ensures ∙ w.if-is_list_comma_at.true) w.one_if_named-found.ensures.times w.found-is w.start-is next inv.times;
      }
      | else-is_list_comma_at w ↦ record {
        within = search rules;
        begun = omega (arith, w.start-is, inv.begun);
        few = omega (arith, w.start-is, w.found-is, inv.few);
        shallow = omega (arith, same, deeper, inv.shallow);
        times = times_elsewhere c.args.name.now v c.loop-i.start c.loop-i.i c.loop-i.place inv.begun (search rules) c.loop-i.found c.if-is_list_comma_at.found c.if-is_list_comma_at.start _ c.via_place_after_byte-place.result
            (sym c.is_list_comma_at.ensures ∙ w.if-is_list_comma_at.false) w.found-is w.start-is next inv.times;
      }
    ]
