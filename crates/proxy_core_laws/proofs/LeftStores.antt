-- What is held behind messages that were read may be held at first again.
use Rattle.proxy_core_laws.specs.LeftStores.{HeldResponsesAreSoundForARestart}
use Rattle.proxy_core_laws.proofs.HeldHeads.{entry_of, held_in, holds_with_room}
use Rattle.proxy_core_laws.proofs.HeldReplies.{holds_sendable}
use Rattle.proxy_core_laws.proofs.HeldValues.{fits_in_memory}

pub leaves_sound : HeldResponsesAreSoundForARestart
leaves_sound table start first trace table_of_members good begins read s e found =
    let look = entry_of table start first trace good s e found in
    let inside = held_in table start first trace good s e found in
    record {
      can_be_sent = record {
        sendable = holds_sendable table start first trace good (λ t f k. (begins t f k).can_be_sent.sendable) read s e look;
        fits = fits_in_memory table start first trace table_of_members (λ t f k. (begins t f k).can_be_sent) good read s e look;
      };
      room = holds_with_room table start first trace good (λ t f k. (begins t f k).room) read s e inside look;
    }
