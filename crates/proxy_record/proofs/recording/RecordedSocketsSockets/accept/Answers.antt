use Rattle.std.proofs.Common.{[], is_some, refl, sym, ◌∙◌}
use Rattle.proxy_turn.specs.Calls.{Accept, Failed, NoneCame}
use Rattle.proxy_record.proofs.Passing.{passes_it, passes_came, passes_none, passes_nobody, noted_came, noted_nothing, is_reported}
use Rattle.proxy_record.proofs.recording.RecordedSocketsSockets.accept.Goals as goal

pub returns-then-not-may_take_a_happening-clause-did : goal.returns-then-not-may_take_a_happening-clause-did
returns-then-not-may_take_a_happening-clause-did g c = (λ failed. failed, [], g.met.K.Sockets.none c.args.self.now.sockets, passes_nobody (is_some c.args.self.now.fault) _, λ ok. noted_nothing _ _ _ (Accept _ NoneCame) refl refl, refl)

pub returns-in-Ok-true-clause-did : goal.returns-in-Ok-true-clause-did
returns-in-Ok-true-clause-did g c = (c.note.ensures.kept, _, c.in-Ok-true.ensures.did, passes_came _ c.in-Ok-true.field-0 c.note.result _ c.in-Ok-true.field-0-test c.note.ensures.reported, λ ok. noted_came _ _ (is_some c.args.self.now.fault) _ _ c.note.result _ _ _ (is_reported c.note.result _ c.note.ensures.reported ok) refl (sym c.may_take_a_happening.ensures ∙ c.if-not-may_take_a_happening.false) (c.note.ensures.noted ok) refl, refl)

pub returns-in-Ok-false-clause-did : goal.returns-in-Ok-false-clause-did
returns-in-Ok-false-clause-did g c = (λ failed. failed, _, c.in-Ok-false.ensures.did, passes_none (is_some c.args.self.now.fault) c.in-Ok-false.field-0 _ c.in-Ok-false.field-0-test, λ ok. noted_nothing _ _ _ (Accept _ NoneCame) refl refl, refl)

pub returns-in-Err-clause-did : goal.returns-in-Err-clause-did
returns-in-Err-clause-did g c = (λ failed. failed, _, c.in-Err.ensures.did, passes_it (is_some c.args.self.now.fault) _, λ ok. noted_nothing _ _ _ (Accept _ Failed) refl refl, refl)
