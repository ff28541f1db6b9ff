use Rattle.proxy_core_laws.proofs.SentHeads.{fits_as_304_where_room_is_left, fits_where_room_is_left}
use Rattle.proxy_core_laws.proofs.SentRoom.{sends_what_leaves_room}
use Rattle.proxy_core_laws.proofs.answer_laws.a_head_with_room_is_sent_as_one_response.Goals as goal

pub returns : goal.returns
returns c = record { whole = fits_where_room_is_left; not_modified = fits_as_304_where_room_is_left; sent = sends_what_leaves_room }
