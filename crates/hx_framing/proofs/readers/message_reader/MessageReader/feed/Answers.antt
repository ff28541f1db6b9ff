use Rattle.std.proofs.Common.{refl}
use Rattle.hx_framing.proofs.ReaderLemmas.{still_fed, fed_on, fed_weighs}
use Rattle.hx_framing.proofs.readers.message_reader.MessageReader.feed.Goals as goal

pub returns-in-BeforeHead-clause-represents : goal.returns-in-BeforeHead-clause-represents
returns-in-BeforeHead-clause-represents g c =
    fed_on g.H.MessageHead.kind c.self.invariant c.args.piece.now _ c.extend.new.self c.self.view_is c.in-BeforeHead.is refl c.extend.result c.extend.ensures.ok

pub returns-in-InContent-clause-represents : goal.returns-in-InContent-clause-represents
returns-in-InContent-clause-represents g c =
    fed_on g.H.MessageHead.kind c.self.invariant c.args.piece.now _ c.extend-in-InContent.new.self c.self.view_is c.in-InContent.is refl c.extend-in-InContent.result c.extend-in-InContent.ensures.ok

pub returns-in-Given-clause-represents : goal.returns-in-Given-clause-represents
returns-in-Given-clause-represents g c = λ p. still_fed g.H.MessageHead.kind c.self.invariant p c.args.piece.now _ c.self.view_is c.in-Given.is refl

pub returns-in-Faulty-clause-represents : goal.returns-in-Faulty-clause-represents
returns-in-Faulty-clause-represents g c = λ p. still_fed g.H.MessageHead.kind c.self.invariant p c.args.piece.now _ c.self.view_is c.in-Faulty.is refl

pub returns-in-BeforeHead-clause-weight : goal.returns-in-BeforeHead-clause-weight
returns-in-BeforeHead-clause-weight g c =
    fed_weighs g.H.MessageHead.kind c.self.invariant c.args.piece.now _ c.extend.new.self c.self.view_is c.in-BeforeHead.is refl c.self.inside.unread c.extend.result refl c.extend.ensures.ok c.extend.ensures.err

pub returns-in-InContent-clause-weight : goal.returns-in-InContent-clause-weight
returns-in-InContent-clause-weight g c =
    fed_weighs g.H.MessageHead.kind c.self.invariant c.args.piece.now _ c.extend-in-InContent.new.self c.self.view_is c.in-InContent.is refl c.self.inside.unread c.extend-in-InContent.result refl c.extend-in-InContent.ensures.ok c.extend-in-InContent.ensures.err
