use Rattle.std.proofs.Common.{sym, ap, ◌∙◌, subst}
use Rattle.hx_framing.specs.declared.messages.Next.TheVariants as next
use Rattle.hx_framing.specs.ReaderSteps.{StepsTo, HeadProgressLeadsReaderOn}
use Rattle.hx_framing.specs.ReaderState.{ReaderState}
use Rattle.hx_framing.proofs.ReaderLemmas.{put_back, passed, waits}
use Rattle.hx_framing.proofs.readers.message_reader.MessageReader.step.Goals as goal

pub pass-requires-clause-open : goal.pass-requires-clause-open
pass-requires-clause-open g c = waits g.H.MessageHead.kind _ c.look.ensures.same c.in_ok-found-in-BeforeHead.ensures.found

pub returns-in_ok-found-in-BeforeHead-clause-steps : goal.returns-in_ok-found-in-BeforeHead-clause-steps
returns-in_ok-found-in-BeforeHead-clause-steps g c =
    let here = put_back _ c.self.view_is (c.replace.ensures.after ∙ sym c.in-BeforeHead.is ∙ c.replace.ensures.value) in
    passed g.H.MessageHead.kind {t = c.pass.new.self} _ _ (c.look.ensures.same ∙ here) (subst (λ (s : ReaderState g.row.H.Denot). HeadProgressLeadsReaderOn g.H.MessageHead.kind s c.in_ok-found-in-BeforeHead.found) here c.in_ok-found-in-BeforeHead.ensures.found)
    c.pass.ensures.answer c.pass.ensures.state

pub returns-in-Given-clause-steps : goal.returns-in-Given-clause-steps
returns-in-Given-clause-steps g c =
    let is = sym c.in-Given.is ∙ c.replace.ensures.value in
    subst (λ (t : ReaderState g.row.H.Denot). StepsTo g.H.MessageHead.kind c.args.self.now next.End t) (sym (put_back _ c.self.view_is is))
    (c.self.invariant.given c.args.self.now (ap (λ (s : ReaderState g.row.H.Denot). s.phase) (sym c.self.view_is) ∙ sym is))

pub returns-in-Faulty-clause-steps : goal.returns-in-Faulty-clause-steps
returns-in-Faulty-clause-steps g c =
    let is = sym c.in-Faulty.is ∙ c.replace.ensures.value in
    subst (λ (t : ReaderState g.row.H.Denot). StepsTo g.H.MessageHead.kind c.args.self.now (next.Refused c.in-Faulty.fault) t) (sym (put_back _ c.self.view_is is))
    (c.self.invariant.faulty c.args.self.now c.in-Faulty.fault (ap (λ (s : ReaderState g.row.H.Denot). s.phase) (sym c.self.view_is) ∙ sym is))
