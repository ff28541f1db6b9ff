use Rattle.std.proofs.Common.{◌+◌, ◌<◌, false, true, sym, subst, arith}
use Rattle.hx_fields.specs.declared.limits.TheConstants.{START_OF_YEAR_10000}
use Rattle.proxy_script.specs.Script.{model_of_item, Table}
use Rattle.proxy_script.proofs.ItemLaws.{item_found}
use Rattle.proxy_replay.specs.Played.{happening_of_item}
use Rattle.proxy_replay.specs.Steps.{ItemWasPlayedAndWritten, ItemWasNotPlayed}
use Rattle.proxy_replay.proofs.Fronts.{not_read, item_shorter, moment_fits, wrong_by, short_by}
use Rattle.proxy_replay.proofs.Playing.{SoFar, so_far_first, so_far_more, writes_first, writes_wrong, writes_cut, writes_not_done}
use Rattle.proxy_replay.proofs.play.play.Goals as goal

pub items-init : goal.items-init
items-init g c = record {
  so_far = so_far_first (g.O.StoreOpening.opens c.args.opening.now) c.args.bytes.now c.in-Ok.opened.1.now _ c.in-Ok-begin.ensures.ok.held c.in-Ok-begin.ensures.ok.first c.in-Ok-begin.engine _ c.in-Ok.ensures.ok c.in-Ok-begin.ensures.ok.opens c.in-Ok-begin.ensures.ok.may c.in-Ok-begin.ensures.ok.represents;
  lines = omega (arith, item_shorter true c.args.bytes.now c.in-Ok.opened.1.now (Table c.in-Ok.ensures.ok.text) c.in-Ok.ensures.ok.represents);
  moments = omega arith;
}

pub play_item-requires : goal.play_item-requires
play_item-requires g c =
    let represents = item_found false c.items.rest.now c.in-Found.more.now (model_of_item c.in-Found.item) (sym c.in-Found.ensures) in
    subst (λ m. m < START_OF_YEAR_10000) (sym c.moment_after_item-now.ensures) (moment_fits c.items.now (model_of_item c.in-Found.item) c.items.invariant.moments represents.1)

pub returns-in-Err-play_item : goal.returns-in-Err-play_item
returns-in-Err-play_item g c =
    let represents = item_found false c.items.rest.now c.in-Found.more.now (model_of_item c.in-Found.item) (sym c.in-Found.ensures) in
    let before = c.items.invariant.so_far in
    writes_not_done (g.O.StoreOpening.opens c.args.opening.now) c.args.bytes.now c.items.rest.now c.in-Found.more.now (model_of_item c.in-Found.item) c.args.ended c.items.now c.items.line c.items.engine _ _ _ _ before represents
    (subst (λ m. ItemWasNotPlayed before.last.model m (happening_of_item (model_of_item c.in-Found.item)) c.in-Err-play_item.fault (g.W.Write.contents c.items.writer) (g.W.Write.contents c.play_item.new.writer)) c.moment_after_item-now.ensures
    (c.in-Err-play_item.ensures.fault before.last.model before.represents))

pub items-smaller : goal.items-smaller
items-smaller g c =
    item_shorter false c.items.rest.now c.in-Found.more.now (model_of_item c.in-Found.item) (item_found false c.items.rest.now c.in-Found.more.now (model_of_item c.in-Found.item) (sym c.in-Found.ensures))

pub items-preserved : goal.items-preserved
items-preserved g c =
    let represents = item_found false c.items.rest.now c.in-Found.more.now (model_of_item c.in-Found.item) (sym c.in-Found.ensures) in
    let before = c.items.invariant.so_far in
    record {
      so_far = subst (λ m. SoFar (g.O.StoreOpening.opens c.args.opening.now) c.args.bytes.now c.in-Found.more.now m (c.items.line + 1) c.play_item.new.engine (g.W.Write.contents c.args.writer.now) (g.W.Write.contents c.play_item.new.writer)) (sym c.moment_after_item-now.ensures)
          (so_far_more (g.O.StoreOpening.opens c.args.opening.now) c.args.bytes.now c.items.rest.now c.in-Found.more.now c.items.now c.items.line (model_of_item c.in-Found.item) c.items.engine c.play_item.new.engine _ _ _ before represents
          (subst (λ m. ItemWasPlayedAndWritten before.last.model m (happening_of_item (model_of_item c.in-Found.item)) c.play_item.new.engine (g.W.Write.contents c.items.writer) (g.W.Write.contents c.play_item.new.writer)) c.moment_after_item-now.ensures
          (c.in-Ok-play_item.ensures.ok before.last.model before.represents)));
      lines = omega (arith, c.items.invariant.lines, item_shorter false c.items.rest.now c.in-Found.more.now (model_of_item c.in-Found.item) represents);
      moments = subst (λ m. m < START_OF_YEAR_10000) (sym c.moment_after_item-now.ensures) (moment_fits c.items.now (model_of_item c.in-Found.item) c.items.invariant.moments represents.1);
    }

pub returns-in-Wrong : goal.returns-in-Wrong
returns-in-Wrong g c = writes_wrong (g.O.StoreOpening.opens c.args.opening.now) c.args.bytes.now c.items.rest.now c.args.ended c.items.now c.items.line c.items.engine _ _ c.items.invariant.so_far (wrong_by false c.args.ended c.items.rest.now (sym c.in-Wrong.ensures))

pub returns-then-not-ended : goal.returns-then-not-ended
returns-then-not-ended g c = writes_cut (g.O.StoreOpening.opens c.args.opening.now) c.args.bytes.now c.items.rest.now c.args.ended c.items.now c.items.line c.items.engine _ _ c.items.invariant.so_far c.if-not-ended.true (sym c.in-Cut.ensures)

pub returns-in-Cut : goal.returns-in-Cut
returns-in-Cut g c = writes_wrong (g.O.StoreOpening.opens c.args.opening.now) c.args.bytes.now c.items.rest.now c.args.ended c.items.now c.items.line c.items.engine _ _ c.items.invariant.so_far
    (short_by c.items.rest.now c.args.ended c.is_empty.result c.if-not-ended.false c.is_empty.ensures c.if-is_empty.false (sym c.in-Cut.ensures))

pub returns-in-Err-begin : goal.returns-in-Err-begin
returns-in-Err-begin g c = writes_first (g.O.StoreOpening.opens c.args.opening.now) c.args.bytes.now c.args.ended c.in-Err-begin.fault _ (c.in-Err-begin.ensures.fault c.args.bytes.now c.in-Ok.opened.1.now c.args.ended c.in-Ok.ensures.ok)

pub returns-in-Err : goal.returns-in-Err
returns-in-Err g c = writes_first (g.O.StoreOpening.opens c.args.opening.now) c.args.bytes.now c.args.ended c.in-Err.fault _ (not_read (g.O.StoreOpening.opens c.args.opening.now) c.args.bytes.now c.args.ended c.in-Err.fault c.in-Err.ensures.fault)
