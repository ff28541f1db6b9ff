-- Each write of a turn tells what the effect of its act tells.
use Rattle.std.proofs.Common.{ℕ, ◌+◌, List, [], ◌∷◌, ◌++◌, length, refl}
use Rattle.std.specs.Prelude.{Contains}
use Rattle.std.specs.List.{AllByRecursion}
use Rattle.std.specs.declared.net.socket_addr.SocketAddrV4.{SocketAddrV4}
use Rattle.std.proofs.lemmas.List.Elements.{All-from_recursion, recursion_from_All, All-contains_itself}
use Rattle.hx_status.specs.declared.cause.FailKind.{FailKind}
use Rattle.hx_status.specs.declared.cause.FailKind.TheVariants as kinds
use Rattle.proxy_script.specs.declared.effect_list.Effect.{Effect}
use Rattle.proxy_script.specs.declared.effect_list.Effect.TheVariants as effects
use Rattle.proxy_turn.specs.Calls.{AcceptOutcome}
use Rattle.proxy_turn.specs.Turn.{EndRead, ActWithEffectFates, EffectFate, Carried, Passed, Lost, calls_of_reads, calls_of_failed_forward, calls_of_effect, calls_of_effects, calls_of_rounds}
use Rattle.proxy_turn.specs.Over.{calls_of_accepts, calls_of_turn_over_given_ends}
use Rattle.proxy_turn_laws.specs.ToldOfATurn.{CallReportsItsEffect, EachWriteReportsItsEffect}
use Rattle.proxy_turn_laws.proofs.Writing.{both_all}

module _ (rounds : List ActWithEffectFates) where
  failed_forward_tells : (l : ℕ) (address : SocketAddrV4) (bytes : List ℕ) (kind : FailKind) → AllByRecursion (CallReportsItsEffect rounds) (calls_of_failed_forward l address bytes kind)
  failed_forward_tells l address bytes kinds.Refused = (tt, tt)
  failed_forward_tells l address bytes kinds.TimedOut = (tt, (refl, tt))
  failed_forward_tells l address bytes kinds.Closed = (tt, (refl, tt))
  failed_forward_tells l address bytes kinds.BadAnswer = (tt, (refl, tt))
  failed_forward_tells l address bytes kinds.TooLarge = (tt, (refl, tt))

  effect_tells : (r : ActWithEffectFates) (e : Effect) (f : EffectFate) → Contains rounds r → Contains r.emitted e → AllByRecursion (CallReportsItsEffect rounds) (calls_of_effect e f)
  effect_tells r (effects.Client n bytes replied) Carried there has = ((r, there, has), tt)
  effect_tells r (effects.Client n bytes replied) Passed there has = tt
  effect_tells r (effects.Client n bytes replied) (Lost kind) there has = ((r, there, has), tt)
  effect_tells r (effects.Close n) Carried there has = (tt, tt)
  effect_tells r (effects.Close n) Passed there has = tt
  effect_tells r (effects.Close n) (Lost kind) there has = (tt, tt)
  effect_tells r (effects.Forward l address bytes) Carried there has = (tt, (refl, tt))
  effect_tells r (effects.Forward l address bytes) Passed there has = tt
  effect_tells r (effects.Forward l address bytes) (Lost kind) there has = failed_forward_tells l address bytes kind
  effect_tells r (effects.Drop l) Carried there has = (tt, tt)
  effect_tells r (effects.Drop l) Passed there has = tt
  effect_tells r (effects.Drop l) (Lost kind) there has = (tt, tt)

  effects_tell : (r : ActWithEffectFates) (es : List Effect) (fs : List EffectFate) → Contains rounds r → AllByRecursion (Contains r.emitted) es → AllByRecursion (CallReportsItsEffect rounds) (calls_of_effects es fs)
  effects_tell r [] fs there has = tt
  effects_tell r (e ∷ es) [] there has = tt
  effects_tell r (e ∷ es) (f ∷ fs) there has =
      both_all (CallReportsItsEffect rounds) (calls_of_effect e f) (calls_of_effects es fs) (effect_tells r e f there has.0) (effects_tell r es fs there has.1)

  rounds_tell : (rs : List ActWithEffectFates) → AllByRecursion (Contains rounds) rs → AllByRecursion (CallReportsItsEffect rounds) (calls_of_rounds rs)
  rounds_tell [] has = tt
  rounds_tell (r ∷ rs) has =
      both_all (CallReportsItsEffect rounds) (calls_of_effects r.emitted r.fates) (calls_of_rounds rs)
      (effects_tell r r.emitted r.fates has.0 (recursion_from_All (Contains r.emitted) r.emitted (All-contains_itself r.emitted)))
      (rounds_tell rs has.1)

  accepts_tell : (n : ℕ) (xs : List AcceptOutcome) → AllByRecursion (CallReportsItsEffect rounds) (calls_of_accepts n xs)
  accepts_tell n [] = tt
  accepts_tell n (a ∷ xs) = (tt, accepts_tell (n + 1) xs)

  reads_tell : (rs : List EndRead) → AllByRecursion (CallReportsItsEffect rounds) (calls_of_reads rs)
  reads_tell [] = tt
  reads_tell (r ∷ rs) = (tt, reads_tell rs)

pub each_write_tells : EachWriteReportsItsEffect
each_write_tells s accepts reads rounds =
    All-from_recursion (CallReportsItsEffect rounds) (calls_of_turn_over_given_ends s accepts reads rounds)
    (both_all (CallReportsItsEffect rounds) (calls_of_accepts (length s.connections + 1) accepts) (calls_of_reads reads ++ calls_of_rounds rounds) (accepts_tell rounds (length s.connections + 1) accepts)
    (both_all (CallReportsItsEffect rounds) (calls_of_reads reads) (calls_of_rounds rounds) (reads_tell rounds reads)
    (rounds_tell rounds rounds (recursion_from_All (Contains rounds) rounds (All-contains_itself rounds)))))
