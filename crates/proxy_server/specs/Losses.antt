-- How an end that is lost between two turns is taken, and recorded.
--
-- EndLossIsTaken: the engine takes it, and it is recorded      EndLossIsRefused: the engine has no such end
-- EndLossOfKindIsTaken: an end is lost, by a failure of this kind
-- EndLossesAreRecorded, AtMostOneEndLossIsTaken, EndLossesAreTakenAndRecorded, ServerTakesEndLosses: ends are lost, one
-- after
-- another
use Rattle.std.specs.Prelude.{◌≡◌, ◌⊎◌, ℕ, List, [], ◌∷◌, Bool, true, false, Option, None, Some, is_some}
use Rattle.hx_status.specs.declared.cause.FailKind.{FailKind}
use Rattle.proxy_engine.specs.Happenings.{HappeningModel}
use Rattle.proxy_engine.specs.EngineModel.{EngineModel, happening_fault}
use Rattle.proxy_engine.specs.State.{EngineRepresents, EngineTakesHappening}
use Rattle.proxy_engine.specs.declared.work.End.{End}
use Rattle.proxy_turn.specs.Turn.{happening_of_loss}
use Rattle.proxy_turn.specs.Served.{EndLossesAreTaken}
use Rattle.proxy_record.specs.Records.{RecordSoFar, EachHappeningIsRecorded}
use Rattle.proxy_record.specs.Recorded.{HappeningIfAnyIsRecorded, is_recording}
use Rattle.proxy_record.specs.RecordedTurns.{recorded_at_moment}
use Rattle.proxy_server.specs.ServerState.{ServerState}

-- The engine takes it as what happened. It is recorded at the moment of the turn, unless recording fails, as the one
-- thing that happens.
pub record EndLossIsTaken (h : HappeningModel) (a b : ServerState) : Type 0 where
  pub takes : (s : EngineModel) → EngineRepresents a.engine s → EngineTakesHappening s h b.engine
  pub fails : a.failed ≡ true → b.failed ≡ true
  pub notes : b.failed ≡ false → HappeningIfAnyIsRecorded a.moment (Some h) a.recorder b.recorder
  pub taken : b.taken ≡ true
  pub moment : b.moment ≡ a.moment
  pub settled : b.settled ≡ a.settled
  pub calls : b.calls ≡ a.calls

-- the engine has no such end, and nothing changes
pub record EndLossIsRefused (h : HappeningModel) (a b : ServerState) : Type 0 where
  pub same : b ≡ a
  pub gone : (s : EngineModel) → EngineRepresents a.engine s → is_some (happening_fault s h) ≡ true

abbrev pub EndLossIfAnyIsTakenOrRefused : Option HappeningModel → ServerState → ServerState → Type 0
EndLossIfAnyIsTakenOrRefused None a b = b ≡ a
EndLossIfAnyIsTakenOrRefused (Some h) a b = EndLossIsTaken h a b ⊎ EndLossIsRefused h a b

abbrev pub EndLossOfKindIsTaken : End → FailKind → ServerState → ServerState → Type 0
EndLossOfKindIsTaken end kind a b = EndLossIfAnyIsTakenOrRefused (happening_of_loss end kind) a b

-- each is recorded at this moment, where a record is kept
abbrev pub EndLossesAreRecorded : ℕ → List HappeningModel → Option RecordSoFar → Option RecordSoFar → Type 0
EndLossesAreRecorded now lost None new = new ≡ None
EndLossesAreRecorded now lost (Some r) new =
    (later : RecordSoFar) × (new ≡ Some later) × EachHappeningIsRecorded r (recorded_at_moment now lost) later

-- At most one is, and none where something has happened before, or is due.
abbrev pub AtMostOneEndLossIsTaken : Bool → List HappeningModel → Bool → Type 0
AtMostOneEndLossIsTaken taken [] later = later ≡ taken
AtMostOneEndLossIsTaken taken (h ∷ more) later = (taken ≡ false) × AtMostOneEndLossIsTaken true more later

-- Clients that went away and links that failed were taken, one after another, and recorded. While a record is written,
-- at most one was.
pub record EndLossesAreTakenAndRecorded (s : EngineModel) (a b : ServerState) : Type 0 where
  pub losses : EndLossesAreTaken s b.engine
  pub fails : a.failed ≡ true → b.failed ≡ true
  pub notes : b.failed ≡ false → EndLossesAreRecorded a.moment losses.lost a.recorder b.recorder
  pub takes : b.failed ≡ false → is_recording b.recorder ≡ true → AtMostOneEndLossIsTaken a.taken losses.lost b.taken
  pub moment : b.moment ≡ a.moment
  pub settled : b.settled ≡ a.settled
  pub calls : b.calls ≡ a.calls

-- from each model that its engine stood for
abbrev pub ServerTakesEndLosses : ServerState → ServerState → Type 0
ServerTakesEndLosses a b = (s : EngineModel) → EngineRepresents a.engine s → EndLossesAreTakenAndRecorded s a b
