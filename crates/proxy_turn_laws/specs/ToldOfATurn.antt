-- What the writes of a turn tell of their bytes: what the effects of its acts tell.
--
-- CallReportsItsEffect: a write to a client is an effect of one of these acts, and tells what that tells
-- EachWriteReportsItsEffect: the statement
use Rattle.std.specs.Prelude.{◌≡◌, List, All, Contains, None}
use Rattle.proxy_script.specs.declared.effect_list.Effect.TheVariants as effects
use Rattle.proxy_engine.specs.EngineModel.{EngineModel}
use Rattle.proxy_engine.specs.declared.work.End.TheVariants as ends
use Rattle.proxy_turn.specs.Calls as call
use Rattle.proxy_turn.specs.Calls.{Call, AcceptOutcome}
use Rattle.proxy_turn.specs.Turn.{EndRead, ActWithEffectFates}
use Rattle.proxy_turn.specs.Over.{calls_of_turn_over_given_ends}

-- to a client the bytes of an effect of one of these acts, with what it tells of them; of a request on a link nothing
-- is told
abbrev pub CallReportsItsEffect : List ActWithEffectFates → Call → Type 0
CallReportsItsEffect rounds (call.Accept n answer) = Unit {0}
CallReportsItsEffect rounds (call.Read end given) = Unit {0}
CallReportsItsEffect rounds (call.Write ends.Listener bytes replied done) = ⊥
CallReportsItsEffect rounds (call.Write (ends.Client n) bytes replied done) =
    (round : ActWithEffectFates) × Contains rounds round × Contains round.emitted (effects.Client n bytes replied)
CallReportsItsEffect rounds (call.Write (ends.Link l) bytes replied done) = replied ≡ None
CallReportsItsEffect rounds (call.Connect link address done) = Unit {0}
CallReportsItsEffect rounds (call.Shut end done) = Unit {0}

-- so does each call of a turn of these acts
abbrev pub EachWriteReportsItsEffect : Type 0
EachWriteReportsItsEffect =
    (s : EngineModel) (accepts : List AcceptOutcome) (reads : List EndRead) (rounds : List ActWithEffectFates)
    → All (CallReportsItsEffect rounds) (calls_of_turn_over_given_ends s accepts reads rounds)
