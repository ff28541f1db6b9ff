use Rattle.std.proofs.Common.{refl}
use Rattle.hx_validate.proofs.Rooms.{leaves_room_for_all, leaves_room_for_no_more, leaves_room_to_the_byte}
use Rattle.hx_validate.proofs.laws.head_room_is_exact_for_added_lines.Goals as goal

pub returns : goal.returns
returns c = record { all = leaves_room_for_all; no_more = leaves_room_for_no_more; bytes = leaves_room_to_the_byte; none = refl; lines_96 = refl; lines_97 = refl }
