use Rattle.std.proofs.Common.{refl, ap}
use Rattle.hx_framing.specs.declared.messages.Next.TheVariants as next
use Rattle.hx_framing.proofs.ReaderLemmas.{content_on}
use Rattle.hx_framing.proofs.readers.message_reader.MessageReader.read_content.Goals as goal

pub returns-in-Ok-Incomplete-clause-steps : goal.returns-in-Ok-Incomplete-clause-steps
returns-in-Ok-Incomplete-clause-steps g c =
    content_on g.H.MessageHead.kind c.self.invariant c.args.head c.args.content _ _ _ _ _ _ c.self.view_is c.is_closed_by.ensures c.in-Ok-Incomplete.field-0-is c.in-Ok-Incomplete.ensures.reads refl refl

pub returns-in-Ok-Faulty-clause-steps : goal.returns-in-Ok-Faulty-clause-steps
returns-in-Ok-Faulty-clause-steps g c =
    content_on g.H.MessageHead.kind c.self.invariant c.args.head c.args.content _ _ _ _ _ _ c.self.view_is c.is_closed_by.ensures c.in-Ok-Faulty.field-0-is c.in-Ok-Faulty.ensures.reads refl refl

pub returns-in-Ok-Whole-clause-steps : goal.returns-in-Ok-Whole-clause-steps
returns-in-Ok-Whole-clause-steps g c =
    content_on g.H.MessageHead.kind c.self.invariant c.args.head c.args.content _ _ _ _ _ _ c.self.view_is c.is_closed_by.ensures c.in-Ok-Whole.field-0-is c.in-Ok-Whole.ensures.reads (ap next.Message c.into_message.ensures) c.behind_message.ensures
