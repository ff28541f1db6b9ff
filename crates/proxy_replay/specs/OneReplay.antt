-- What a replay refuses: another text than that of its script's play, an end that isn't there, a text where nothing was
-- played.
use Rattle.std.specs.Prelude.{◌≢◌, ℕ, List, ◌∷◌, Bool, true, false, Ok, Err}
use Rattle.hx_allow.specs.declared.config_faults.TableFault.{TableFault}
use Rattle.proxy_replay.specs.Replay.{ReplayEndsWith, OpensEmptyStore}
use Rattle.proxy_replay.specs.declared.replay_fault.ReplayFault.TheVariants as faults

-- a whole script has no other text: none, a part of it, another order, other bytes
abbrev pub WholeReplayHasOnlyThatText : Type 0
WholeReplayHasOnlyThatText =
    (script written other : List ℕ) → ReplayEndsWith OpensEmptyStore script true written (Ok tt) → written ≢ other
    → ReplayEndsWith OpensEmptyStore script true other (Ok tt) → ⊥

-- a script that hasn't ended isn't replayed whole
abbrev pub NoWholeReplayBeforeTheEnd : Type 0
NoWholeReplayBeforeTheEnd = (bytes written : List ℕ) → ReplayEndsWith OpensEmptyStore bytes false written (Ok tt) → ⊥

-- a reader that came to its end didn't fail
abbrev pub NoReadFaultAtTheEnd : Type 0
NoReadFaultAtTheEnd = (bytes written : List ℕ) → ReplayEndsWith OpensEmptyStore bytes true written (Err faults.Read) → ⊥

-- nothing is written where the table is refused
abbrev pub NothingIsWrittenForARefusedTable : Type 0
NothingIsWrittenForARefusedTable =
    (bytes written : List ℕ) (byte : ℕ) (ended : Bool) (fault : TableFault)
    → ReplayEndsWith OpensEmptyStore bytes ended (byte ∷ written) (Err (faults.Config fault)) → ⊥
