use Rattle.proxy_core_laws.proofs.HeldHeads.{freshens_with_room, holds_bounded, holds_with_room, keeps_bounded}
use Rattle.proxy_core_laws.proofs.ReadHeads.{stores_bounded, stores_with_room}
use Rattle.proxy_core_laws.proofs.answer_laws.a_held_head_has_a_bound.Goals as goal

pub returns : goal.returns
returns c = record { stored = stores_bounded; kept = keeps_bounded; freshened = freshens_with_room; room = holds_with_room; stored_with_room = stores_with_room; held = holds_bounded }
