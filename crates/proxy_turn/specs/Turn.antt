-- What a turn does with an engine: the happenings that it takes and the acts that it does, over the models of the
-- engine.
--
-- AcceptOutcomeIfCalled, may_accept_below_256: the call of accept
-- ReadOutcome, EndRead, ReadsAreTaken: reads, and what each gave, as a happening
-- EffectFate, EffectIsHandledWithFate, EffectsAreHandledWithFates: what became of the effects of an act
-- ActWithEffectFates, ActsAreDoneWithEffectFates: acts with their effects
-- calls_of_turn: the calls of a turn, in order       TurnIsDoneInOrder: a turn, whole or as far as it came
-- TurnIsReported: what it answers      EngineTurnIsServed: both      EngineTurnsWithCalls: with its calls
use Rattle.std.specs.Prelude.{◌≡◌, ℕ, ◌+◌, ◌≤◌, List, [], ◌∷◌, ◌++◌, length, sum_by, map, Bool, true, false, ◌&&◌, ◌==◌}
use Rattle.std.specs.Prelude.{nat_lt, Option, None, Some, is_some, cond, Result, Ok, Err, ◌⊎◌}
use Rattle.std.specs.List.{list_any}
use Rattle.std.specs.declared.net.socket_addr.SocketAddrV4.{SocketAddrV4}
use Rattle.hx_status.specs.declared.cause.FailKind.{FailKind}
use Rattle.hx_status.specs.declared.cause.FailKind.TheVariants as kinds
use Rattle.proxy_script.specs.declared.effect_list.Effect.{Effect}
use Rattle.proxy_script.specs.declared.effect_list.Effect.TheVariants as effects
use Rattle.proxy_engine.specs.Happenings.{HappeningModel, Accepts, Sends, Hears, Ends, Leaves, Shuts, Fails}
use Rattle.proxy_engine.specs.EngineModel.{EngineModel, model_after_happening, happening_fault}
use Rattle.proxy_engine.specs.Due.{Act, IsFirstDueAct}
use Rattle.proxy_engine.specs.Acts.{ActIsDone}
use Rattle.proxy_engine.specs.Reading.{readable_ends_of, failed_links, open_connection_count, next_connection_number}
use Rattle.proxy_engine.specs.State.{State, EngineRepresents, NoActWasDoneBecauseOf as EngineFailed}
use Rattle.proxy_engine.specs.declared.work.EngineFault.TheVariants as engine
use Rattle.proxy_engine.specs.declared.work.End.{End}
use Rattle.proxy_engine.specs.declared.work.End.TheVariants as ends
use Rattle.proxy_turn.specs.Calls as call
use Rattle.proxy_turn.specs.Calls.{Call}
pub use Rattle.proxy_turn.specs.Calls.{ReadOutcome, Nothing, Ended, Broken, Bytes}
use Rattle.proxy_turn.specs.Counts.{Calls, CallCountsRiseBy}
use Rattle.proxy_turn.specs.declared.report.Report.{Report}
use Rattle.proxy_turn.specs.declared.report.TurnFault.{TurnFault}
use Rattle.proxy_turn.specs.declared.report.TurnFault.TheVariants as faults

-- a happening is taken, if there is one
abbrev pub HappeningIfAnyIsTaken : EngineModel → Option HappeningModel → EngineModel → Type 0
HappeningIfAnyIsTaken s None t = t ≡ s
HappeningIfAnyIsTaken s (Some h) t = (happening_fault s h ≡ None) × (t ≡ model_after_happening s h)

-- ---- the listener

-- accept wasn't called, failed, had no connection, or gave one
pub data AcceptOutcomeIfCalled : Type 0 where
  NotAsked Failed NoneCame Came : AcceptOutcomeIfCalled

-- where fewer than 256 connections are open, and a number is left
abbrev pub may_accept_below_256 : EngineModel → Bool
may_accept_below_256 s = nat_lt (open_connection_count s) 256 && is_some (next_connection_number s)

abbrev pub accept_was_called : AcceptOutcomeIfCalled → Bool
accept_was_called NotAsked = false
accept_was_called Failed = true
accept_was_called NoneCame = true
accept_was_called Came = true

abbrev pub happening_of_accept : EngineModel → AcceptOutcomeIfCalled → Option HappeningModel
happening_of_accept s NotAsked = None
happening_of_accept s Failed = None
happening_of_accept s NoneCame = None
happening_of_accept s Came = Some (Accepts (length s.connections + 1))

-- ---- what comes of an end, as a happening

abbrev pub happening_of_bytes : End → List ℕ → Option HappeningModel
happening_of_bytes ends.Listener bytes = None
happening_of_bytes (ends.Client n) bytes = Some (Sends n bytes)
happening_of_bytes (ends.Link l) bytes = Some (Hears l bytes)

abbrev pub happening_of_input_end : End → Option HappeningModel
happening_of_input_end ends.Listener = None
happening_of_input_end (ends.Client n) = Some (Ends n)
happening_of_input_end (ends.Link l) = Some (Shuts l)

abbrev pub happening_of_loss : End → FailKind → Option HappeningModel
happening_of_loss ends.Listener kind = None
happening_of_loss (ends.Client n) kind = Some (Leaves n)
happening_of_loss (ends.Link l) kind = Some (Fails l kind)

-- ---- reads

-- at most 4,096 bytes
abbrev pub IsAtMostOnePiece : ReadOutcome → Type 0
IsAtMostOnePiece Nothing = Unit {0}
IsAtMostOnePiece Ended = Unit {0}
IsAtMostOnePiece Broken = Unit {0}
IsAtMostOnePiece (Bytes bytes) = length bytes ≤ 4096

abbrev pub happening_of_read : End → ReadOutcome → Option HappeningModel
happening_of_read end Nothing = None
happening_of_read end Ended = happening_of_input_end end
happening_of_read end Broken = happening_of_loss end kinds.Closed
happening_of_read end (Bytes bytes) = happening_of_bytes end bytes

pub record EndRead : Type 0 where
  pub end : End
  pub given : ReadOutcome

-- what each read gave is taken before the next
abbrev pub ReadsAreTaken : EngineModel → List EndRead → EngineModel → Type 0
ReadsAreTaken s [] t = t ≡ s
ReadsAreTaken s (r ∷ rs) t =
    (after : EngineModel) × HappeningIfAnyIsTaken s (happening_of_read r.end r.given) after × ReadsAreTaken after rs t
    × IsAtMostOnePiece r.given

abbrev pub ends_of_reads : List EndRead → List End
ends_of_reads reads = map (λ (r : EndRead). r.end) reads

-- ---- effects

-- it was carried out, passed over, or a call failed
pub data EffectFate : Type 0 where
  Carried Passed : EffectFate
  Lost : (kind : FailKind) → EffectFate

abbrev pub ends_are_equal : End → End → Bool
ends_are_equal ends.Listener ends.Listener = true
ends_are_equal ends.Listener (ends.Client n) = false
ends_are_equal ends.Listener (ends.Link l) = false
ends_are_equal (ends.Client n) ends.Listener = false
ends_are_equal (ends.Client n) (ends.Client m) = n == m
ends_are_equal (ends.Client n) (ends.Link l) = false
ends_are_equal (ends.Link l) ends.Listener = false
ends_are_equal (ends.Link l) (ends.Client n) = false
ends_are_equal (ends.Link l) (ends.Link k) = l == k

-- a call on that end has failed
abbrev pub end_has_failed : List End → End → Bool
end_has_failed gone end = list_any (λ other. ends_are_equal other end) gone

abbrev pub end_of_effect : Effect → End
end_of_effect (effects.Client n bytes replied) = ends.Client n
end_of_effect (effects.Close n) = ends.Client n
end_of_effect (effects.Forward l address bytes) = ends.Link l
end_of_effect (effects.Drop l) = ends.Link l

-- A link that can't be opened counts as refused by the origin, a write that fails as its closing.
abbrev pub FailedEffectHasFailKind : Effect → FailKind → Type 0
FailedEffectHasFailKind (effects.Client n bytes replied) kind = kind ≡ kinds.Closed
FailedEffectHasFailKind (effects.Close n) kind = kind ≡ kinds.Closed
FailedEffectHasFailKind (effects.Forward l address bytes) kind = (kind ≡ kinds.Refused) ⊎ (kind ≡ kinds.Closed)
FailedEffectHasFailKind (effects.Drop l) kind = kind ≡ kinds.Closed

-- No call is made on an end on which one has failed before. A loss is taken at once.
abbrev pub EffectIsHandledWithFate : EngineModel → List End → Effect → EffectFate → EngineModel → List End → Type 0
EffectIsHandledWithFate s gone e Carried t more =
    (end_has_failed gone (end_of_effect e) ≡ false) × (t ≡ s) × (more ≡ gone)
EffectIsHandledWithFate s gone e Passed t more =
    (end_has_failed gone (end_of_effect e) ≡ true) × (t ≡ s) × (more ≡ gone)
EffectIsHandledWithFate s gone e (Lost kind) t more =
    (end_has_failed gone (end_of_effect e) ≡ false) × FailedEffectHasFailKind e kind × HappeningIfAnyIsTaken s
    (happening_of_loss (end_of_effect e) kind) t
    × (more ≡ gone ++ end_of_effect e ∷ [])

-- effects, one after another
abbrev pub EffectsAreHandledWithFates : EngineModel → List End → List Effect → List EffectFate → EngineModel → List End
    → Type 0
EffectsAreHandledWithFates s gone [] [] t more = (t ≡ s) × (more ≡ gone)
EffectsAreHandledWithFates s gone [] (f ∷ fs) t more = ⊥
EffectsAreHandledWithFates s gone (e ∷ es) [] t more = ⊥
EffectsAreHandledWithFates s gone (e ∷ es) (f ∷ fs) t more =
    (after : EngineModel) × (then : List End)
    × EffectIsHandledWithFate s gone e f after then × EffectsAreHandledWithFates after
    then es fs t more

-- ---- acts

-- an act, its effects, and what became of each
pub record ActWithEffectFates : Type 0 where
  pub act : Act
  pub emitted : List Effect
  pub fates : List EffectFate

-- each act is the first that was due, and its effects are carried out before the next
abbrev pub ActsAreDoneWithEffectFates : ℕ → EngineModel → List End → List ActWithEffectFates → EngineModel → List End
    → Type 0
ActsAreDoneWithEffectFates now s gone [] t more = (t ≡ s) × (more ≡ gone)
ActsAreDoneWithEffectFates now s gone (r ∷ rs) t more =
    (done : EngineModel) × (after : EngineModel) × (then : List End)
    × IsFirstDueAct s (Some r.act) × ActIsDone s now r.act r.emitted done
    × EffectsAreHandledWithFates done gone r.emitted r.fates after then
    × ActsAreDoneWithEffectFates now after then rs t more

-- ---- calls

-- for a connection of the next number
abbrev pub calls_of_accept : EngineModel → AcceptOutcomeIfCalled → List Call
calls_of_accept s NotAsked = []
calls_of_accept s Failed = call.Accept (length s.connections + 1) call.Failed ∷ []
calls_of_accept s NoneCame = call.Accept (length s.connections + 1) call.NoneCame ∷ []
calls_of_accept s Came = call.Accept (length s.connections + 1) call.Came ∷ []

abbrev pub calls_of_reads : List EndRead → List Call
calls_of_reads reads = map (λ (r : EndRead). call.Read r.end r.given) reads

-- A link is told as refused where its connect failed; then nothing is written. Otherwise the write failed.
abbrev pub calls_of_failed_forward : ℕ → SocketAddrV4 → List ℕ → FailKind → List Call
calls_of_failed_forward l address bytes kinds.Refused = call.Connect l address false ∷ []
calls_of_failed_forward l address bytes other =
    call.Connect l address true ∷ call.Write (ends.Link l) bytes None false ∷ []

-- An effect's calls, once, with its bytes whole, and with what reply they are. Of one that was lost the last call
-- failed; for one that was passed over none is made.
abbrev pub calls_of_effect : Effect → EffectFate → List Call
calls_of_effect effect Passed = []
calls_of_effect (effects.Client n bytes replied) Carried = call.Write (ends.Client n) bytes replied true ∷ []
calls_of_effect (effects.Client n bytes replied) (Lost kind) = call.Write (ends.Client n) bytes replied false ∷ []
calls_of_effect (effects.Close n) Carried = call.Shut (ends.Client n) true ∷ []
calls_of_effect (effects.Close n) (Lost kind) = call.Shut (ends.Client n) false ∷ []
calls_of_effect (effects.Forward l address bytes) Carried =
    call.Connect l address true ∷ call.Write (ends.Link l) bytes None true ∷ []
calls_of_effect (effects.Forward l address bytes) (Lost kind) = calls_of_failed_forward l address bytes kind
calls_of_effect (effects.Drop l) Carried = call.Shut (ends.Link l) true ∷ []
calls_of_effect (effects.Drop l) (Lost kind) = call.Shut (ends.Link l) false ∷ []

abbrev pub calls_of_effects : List Effect → List EffectFate → List Call
calls_of_effects [] fates = []
calls_of_effects (e ∷ es) [] = []
calls_of_effects (e ∷ es) (f ∷ fs) = calls_of_effect e f ++ calls_of_effects es fs

abbrev pub calls_of_rounds : List ActWithEffectFates → List Call
calls_of_rounds [] = []
calls_of_rounds (r ∷ rs) = calls_of_effects r.emitted r.fates ++ calls_of_rounds rs

-- all of a turn, in order
abbrev pub calls_of_turn : EngineModel → AcceptOutcomeIfCalled → List EndRead → List ActWithEffectFates → List Call
calls_of_turn s asked reads rounds = calls_of_accept s asked ++ (calls_of_reads reads ++ calls_of_rounds rounds)

-- ---- counts

abbrev pub count_of_accept_calls : AcceptOutcomeIfCalled → ℕ
count_of_accept_calls asked = cond (accept_was_called asked) 1 0

abbrev pub count_of_accepted_if_called : AcceptOutcomeIfCalled → ℕ
count_of_accepted_if_called NotAsked = 0
count_of_accepted_if_called Failed = 0
count_of_accepted_if_called NoneCame = 0
count_of_accepted_if_called Came = 1

abbrev pub count_of_failed_accepts : AcceptOutcomeIfCalled → ℕ
count_of_failed_accepts NotAsked = 0
count_of_failed_accepts Failed = 1
count_of_failed_accepts NoneCame = 0
count_of_failed_accepts Came = 0

abbrev pub one_if_read_failed : ReadOutcome → ℕ
one_if_read_failed Nothing = 0
one_if_read_failed Ended = 0
one_if_read_failed Broken = 1
one_if_read_failed (Bytes bytes) = 0

abbrev pub one_if_effect_failed : EffectFate → ℕ
one_if_effect_failed Carried = 0
one_if_effect_failed Passed = 0
one_if_effect_failed (Lost kind) = 1

abbrev pub count_of_failed_reads : List EndRead → ℕ
count_of_failed_reads reads = sum_by (λ (r : EndRead). one_if_read_failed r.given) reads

abbrev pub count_of_failed_effects : List EffectFate → ℕ
count_of_failed_effects fates = sum_by one_if_effect_failed fates

abbrev pub count_of_failed_in_rounds : List ActWithEffectFates → ℕ
count_of_failed_in_rounds rounds = sum_by (λ (r : ActWithEffectFates). count_of_failed_effects r.fates) rounds

-- ---- a turn

-- As far as it came: accept, one read of each end from which bytes may come, in order, but for the rest, and then acts.
pub record TurnIsDoneInOrder (now : ℕ) (s : EngineModel) (asked : AcceptOutcomeIfCalled) (reads : List EndRead)
    (rest : List End)
    (rounds : List ActWithEffectFates) (t : EngineModel) : Type 0 where
  pub begun : EngineModel
  pub read : EngineModel
  pub gone : List End
  pub only : accept_was_called asked ≡ true → may_accept_below_256 s ≡ true
  pub accepts : HappeningIfAnyIsTaken s (happening_of_accept s asked) begun
  pub ends : ends_of_reads reads ++ rest ≡ readable_ends_of begun
  pub reads_are : ReadsAreTaken begun reads read
  pub works : ActsAreDoneWithEffectFates now read (failed_links read) rounds t gone
  pub bound : length rounds ≤ 1000
  pub behind : rest ≡ [] ⊎ rounds ≡ []

-- nothing was left out, and this was counted
pub record TurnIsWholeAndCounted (s : EngineModel) (asked : AcceptOutcomeIfCalled) (reads : List EndRead)
    (rest : List End)
    (rounds : List ActWithEffectFates)
    (t : EngineModel) (report : Report) : Type 0 where
  pub asked_is : accept_was_called asked ≡ may_accept_below_256 s
  pub unbroken : count_of_failed_accepts asked ≡ 0
  pub rest_is : rest ≡ []
  pub worked : (length rounds ≡ 1000) ⊎ IsFirstDueAct t None
  pub accepted : report.accepted ≡ count_of_accepted_if_called asked
  pub reads_are : report.reads ≡ length reads
  pub works : report.works ≡ length rounds
  pub faults : report.faults ≡ count_of_failed_reads reads + count_of_failed_in_rounds rounds

-- what a turn answers
abbrev pub TurnIsReported : EngineModel → AcceptOutcomeIfCalled → List EndRead → List End → List ActWithEffectFates
    → EngineModel
    → Result Report TurnFault
    → Type 0
TurnIsReported s asked reads rest rounds t (Ok report) = TurnIsWholeAndCounted s asked reads rest rounds t report
TurnIsReported s asked reads rest rounds t (Err faults.Listener) = (asked ≡ Failed) × (reads ≡ []) × (rounds ≡ [])
TurnIsReported s asked reads rest rounds t (Err faults.NoMemory) = count_of_failed_accepts asked ≡ 0
TurnIsReported s asked reads rest rounds t (Err faults.Spent) =
    (count_of_failed_accepts asked ≡ 0) × (accept_was_called asked ≡ may_accept_below_256 s) × (rest ≡ [])
    × EngineFailed t engine.Spent

-- a turn of an engine, with how the counts of calls rose
pub record EngineTurnIsServed (now : ℕ) (s : EngineModel) (e : State) (before after : Calls)
    (result : Result Report TurnFault) : Type 0 where
  pub asked : AcceptOutcomeIfCalled
  pub reads : List EndRead
  pub rest : List End
  pub rounds : List ActWithEffectFates
  pub last : EngineModel
  pub turn : TurnIsDoneInOrder now s asked reads rest rounds last
  pub represents : EngineRepresents e last
  pub reports : TurnIsReported s asked reads rest rounds last result
  pub raises : CallCountsRiseBy before after (count_of_accept_calls asked) (length reads)
      (count_of_failed_accepts asked + (count_of_failed_reads reads + count_of_failed_in_rounds rounds))

-- A turn of an engine, and its calls: `did` says that just these were made on the sockets.
pub record EngineTurnsWithCalls (now : ℕ) (s : EngineModel) (e : State) (did : List Call → Type 0)
    (before after : Calls)
    (result : Result Report TurnFault) : Type 0 where
  pub turns : EngineTurnIsServed now s e before after result
  pub calls : did (calls_of_turn s turns.asked turns.reads turns.rounds)
