use Rattle.std.proofs.Common.{[], ◌∷◌, true, ◌≡◌, refl, sym, ap, subst, Bool, is_ok, is_some}
use Rattle.std.specs.Option.{option_copied}
use Rattle.proxy_turn.specs.Calls.{Write}
use Rattle.proxy_record.proofs.Passing.{passes_reported, noted_reported}
use Rattle.proxy_record.proofs.recording.RecordedSocketsSockets.write.Goals as goal

pub returns-clause-did : goal.returns-clause-did
returns-clause-did g c = (
  λ failed. subst (λ o. is_some o ≡ true) (sym c.pass_on.ensures.fault) failed,
  Write c.args.end c.args.bytes.now (option_copied c.args.replied) (is_ok c.write-written.result) ∷ [],
  subst (λ k. g.K.Sockets.Did c.args.self.now.sockets (Write c.args.end c.args.bytes.now (option_copied c.args.replied) (is_ok c.write-written.result) ∷ []) k) (sym c.pass_on.ensures.sockets) c.write-written.ensures.did,
  passes_reported (is_some c.pass_on.new.self.fault) (λ (done : Bool). Write c.args.end c.args.bytes.now (option_copied c.args.replied) done) (is_ok c.write-written.result) (is_ok c.pass_on.result) (ap is_ok c.pass_on.ensures.value),
  λ ok. noted_reported _ _ _ (λ (done : Bool). Write c.args.end c.args.bytes.now (option_copied c.args.replied) done) (is_ok c.write-written.result) (is_ok c.pass_on.result) _ _ _ (λ b. refl) (λ b is. is) (ap is_ok c.pass_on.ensures.value) c.pass_on.ensures.now c.pass_on.ensures.noted c.pass_on.ensures.taken,
  c.pass_on.ensures.now,
)
