use Rattle.proxy_core_laws.proofs.StoredReplies.{freshens_sendable, sends_a_304_as_one, sends_whole_as_one, stores_sendable}
use Rattle.proxy_core_laws.proofs.HeldReplies.{holds_sendable}
use Rattle.proxy_core_laws.proofs.answer_laws.a_stored_response_is_sent_as_one.Goals as goal

pub returns : goal.returns
returns c = record { stored = stores_sendable; freshened = freshens_sendable; held = holds_sendable; whole = sends_whole_as_one; not_modified = sends_a_304_as_one }
