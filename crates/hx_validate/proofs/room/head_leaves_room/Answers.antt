use Rattle.std.proofs.Common.{◌∙◌, ap, sym}
use Rattle.hx_validate.specs.Room.{head_leaves_room}
use Rattle.hx_validate.proofs.Rooms.{no_room}
use Rattle.hx_validate.proofs.room.head_leaves_room.Goals as goal

pub returns-in-None : goal.returns-in-None
returns-in-None c =
    sym (ap head_leaves_room (sym c.as_slice-lines.ensures)
    ∙ no_room c.as_slice-lines.result.now c.loop-line.line-index c.loop-line.room c.line-item.result c.line-item.is c.loop-line-test.true c.loop-line.invariant (sym c.room_left_after_line.ensures ∙ c.in-None.is))
