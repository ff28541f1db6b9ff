-- What contracts see of a server: its engine, and the record of what that takes.
--
-- ServerState: what they see      may_take_an_end_loss: an end may be lost      state_at_turn_start: a turn begins
-- ServerSocketsMadeCalls: these calls were made on the sockets of the server itself, as it records them
use Rattle.std.specs.Prelude.{◌≡◌, ℕ, List, Bool, true, false, not, ◌||◌, Option, cond}
use Rattle.proxy_engine.specs.State.{State}
use Rattle.proxy_turn.specs.Calls.{Call}
use Rattle.proxy_turn.specs.Counts.{Calls}
use Rattle.proxy_record.specs.Records.{RecordSoFar}
use Rattle.proxy_record.specs.Recorded.{CallsArePassedOn, TurnIsRecorded, is_recording, may_be_taken_while_recording}

-- Its engine; the record, where one is kept, and whether that has failed; the moment of the turn; whether something has
-- happened in it, or is due from the one before; whether nothing is due any more; and how many calls were made on its
-- sockets.
pub record ServerState : Type 0 where
  pub engine : State
  pub recorder : Option RecordSoFar
  pub failed : Bool
  pub moment : ℕ
  pub taken : Bool
  pub settled : Bool
  pub calls : Calls

-- An end may be lost in front of the turn: recording hasn't failed, and while a record is written nothing was taken.
abbrev pub may_take_an_end_loss : ServerState → Bool
may_take_an_end_loss a = may_be_taken_while_recording a.failed a.taken (is_recording a.recorder)

-- A turn begins at a moment: while a record is written, at that of the turn before until all is done that was due then.
abbrev pub state_at_turn_start : ℕ → ServerState → ServerState
state_at_turn_start now a = record a {
  moment = cond (a.settled || not (is_recording a.recorder)) now a.moment;
  taken = not a.settled;
}

-- These calls were made on the server's own sockets, and each was passed on but for what isn't to happen in this turn.
-- Unless recording failed, they were recorded as what happened at this moment.
pub record ServerSocketsMadeCalls (a : ServerState) (made : List Call) (b : ServerState) : Type 0 where
  pub fails : a.failed ≡ true → b.failed ≡ true
  pub below : List Call
  pub passes : CallsArePassedOn b.failed made below
  pub stays : b.moment ≡ a.moment
  pub notes : b.failed ≡ false → TurnIsRecorded a.moment a.recorder a.taken made b.moment b.recorder b.taken
