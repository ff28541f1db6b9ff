-- Calls, one after another.
use Rattle.std.proofs.Common.{◌≡◌, ◌+◌, List, [], ◌∷◌, ◌++◌, length, sym, ap, ◌∙◌}
use Rattle.std.proofs.lemmas.List.{append-nil, append_assoc, map-append}
use Rattle.proxy_script.specs.declared.effect_list.Effect.{Effect}
use Rattle.proxy_engine.specs.EngineModel.{EngineModel}
use Rattle.proxy_engine.specs.declared.work.End.{End}
use Rattle.proxy_turn.specs.Calls as call
use Rattle.proxy_turn.specs.Calls.{Call, AcceptOutcome}
use Rattle.proxy_turn.specs.Over.{calls_of_accepts, calls_of_turn_over_given_ends}
use Rattle.proxy_turn.specs.Turn.{EndRead, EffectFate, EffectsAreHandledWithFates, ActWithEffectFates, calls_of_reads, calls_of_effect, calls_of_effects, calls_of_rounds}

-- what was called, and then what was called behind it
abbrev pub Joins : (List Call → Type 0) → (List Call → Type 0) → (List Call → Type 0) → Type 0
Joins p q r = (a b : List Call) → p a → q b → r (a ++ b)

pub read_more : (rs : List EndRead) (r : EndRead) → calls_of_reads (rs ++ r ∷ []) ≡ calls_of_reads rs ++ call.Read r.end r.given ∷ []
read_more rs r = map-append (λ (x : EndRead). call.Read x.end x.given) rs (r ∷ [])

pub emitted_more : (es : List Effect) (fs : List EffectFate) (s : EngineModel) (gone : List End) (t : EngineModel) (mid : List End) (e : Effect) (f : EffectFate) → EffectsAreHandledWithFates s gone es fs t mid → calls_of_effects (es ++ e ∷ []) (fs ++ f ∷ []) ≡ calls_of_effects es fs ++ calls_of_effect e f
emitted_more [] [] s gone t mid e f out = append-nil (calls_of_effect e f)
emitted_more [] (x ∷ fs) s gone t mid e f out = absurd out
emitted_more (x ∷ es) [] s gone t mid e f out = absurd out
emitted_more (x ∷ es) (y ∷ fs) s gone t mid e f out =
    ap (λ (xs : List Call). calls_of_effect x y ++ xs) (emitted_more es fs out.0 out.1 t mid e f out.3) ∙ sym (append_assoc (calls_of_effect x y) (calls_of_effects es fs) (calls_of_effect e f))

pub worked_one_more : (rs : List ActWithEffectFates) (r : ActWithEffectFates) → calls_of_rounds (rs ++ r ∷ []) ≡ calls_of_rounds rs ++ calls_of_effects r.emitted r.fates
worked_one_more [] r = append-nil (calls_of_effects r.emitted r.fates)
worked_one_more (x ∷ rs) r =
    ap (λ (xs : List Call). calls_of_effects x.emitted x.fates ++ xs) (worked_one_more rs r) ∙ sym (append_assoc (calls_of_effects x.emitted x.fates) (calls_of_rounds rs) (calls_of_effects r.emitted r.fates))

-- nothing was read or done
pub accepted_alone : (s : EngineModel) (accepts : List AcceptOutcome) → calls_of_accepts (length s.connections + 1) accepts ≡ calls_of_turn_over_given_ends s accepts [] []
accepted_alone s accepts = sym (append-nil (calls_of_accepts (length s.connections + 1) accepts))

-- nothing was done
pub accepted_read : (s : EngineModel) (accepts : List AcceptOutcome) (reads : List EndRead) → calls_of_accepts (length s.connections + 1) accepts ++ calls_of_reads reads ≡ calls_of_turn_over_given_ends s accepts reads []
accepted_read s accepts reads = ap (λ (xs : List Call). calls_of_accepts (length s.connections + 1) accepts ++ xs) (sym (append-nil (calls_of_reads reads)))
