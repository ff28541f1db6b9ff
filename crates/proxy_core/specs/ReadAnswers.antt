-- Answers that were read: each is one that the stream of an origin spells (RFC 9112, sections 4 and
-- 6). A core takes any response; whoever drives it hands it those that were read.
--
-- ResponseWasReadFromAStream: a response that some stream spells
-- EventIsReadFromAStream: an event that is no answer, or a read one
use Rattle.std.specs.Prelude.{ℕ, Bool, List}
use Rattle.hx_framing.specs.declared.messages.Response.{Response}
use Rattle.hx_framing.specs.Reading.{Spelled}
use Rattle.hx_framing.specs.ResponseReading.{ReadsAs}
use Rattle.proxy_core.specs.declared.event.Event.{Event}
use Rattle.proxy_core.specs.declared.event.Event.TheVariants.{Arrive, Answer, Fail, Wake, Abandon, Overdue}

-- within some limit, to a HEAD or not, a stream begins with this response
pub record ResponseWasReadFromAStream (response : Response) : Type 0 where
  pub max_body : ℕ
  pub to_head : Bool
  pub ended : Bool
  pub bytes : List ℕ
  pub rest : List ℕ
  pub reads : ReadsAs max_body to_head ended bytes (Spelled response rest)

abbrev pub EventIsReadFromAStream : Event → Type 0
EventIsReadFromAStream (Answer now id response) = ResponseWasReadFromAStream response
EventIsReadFromAStream (Arrive now id asked) = Unit {0}
EventIsReadFromAStream (Fail now id kind) = Unit {0}
EventIsReadFromAStream (Wake now id) = Unit {0}
EventIsReadFromAStream (Abandon id) = Unit {0}
EventIsReadFromAStream (Overdue id) = Unit {0}
