use Rattle.hx_framing.proofs.BodyLemmas.{decoded_more, decoded_whole, decoded_bad}
use Rattle.hx_framing.proofs.contents.content.decode_chunks.Goals as goal

pub returns-in-Incomplete-clause-ok : goal.returns-in-Incomplete-clause-ok
returns-in-Incomplete-clause-ok c = λ ended. decoded_more _ _ _ _ _ ended c.in-Incomplete.is c.in_ok-n.ensures.decodes

pub returns-in-Whole-clause-ok : goal.returns-in-Whole-clause-ok
returns-in-Whole-clause-ok c = λ ended. decoded_whole _ _ _ _ _ c.take_content.new.self _ ended c.in-Whole.is c.take_content.ensures c.in_ok-n.ensures.decodes

pub returns-in-Faulty-clause-ok : goal.returns-in-Faulty-clause-ok
returns-in-Faulty-clause-ok c = λ ended. decoded_bad _ _ _ _ _ ended c.in-Faulty.is c.in_ok-n.ensures.decodes
