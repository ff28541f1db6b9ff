use Rattle.std.proofs.Common.{ℕ, [], ◌∷◌, ◌++◌, List, refl, true, false, Some, Bool}
use Rattle.std.specs.Prelude.{codes}
use Rattle.httparse.specs.Grammar.{RequestHead}
use Rattle.httparse.proofs.OnLiterals.{httparse_on_literals}
use Rattle.hx_framing.specs.declared.messages.Request.{Request}
use Rattle.hx_framing.specs.Reading.{Spelled, Incomplete, Faulty}
use Rattle.hx_framing.specs.declared.frame_fault.FrameFault.TheVariants as fault
use Rattle.hx_framing.specs.ReadingExamples.{two_requests_and_a_beginning, put_request_with, put_request_read}
use Rattle.hx_framing.specs.RequestReading.{ReadsAs}
use Rattle.hx_framing.proofs.ReadingLemmas.{field, asked, reads_request, reads_no_request}
use Rattle.hx_framing.proofs.laws.stream_laws.worked_requests_in_a_row_are_given.Goals as goal

abbrev hi : Request
hi = put_request_read [] (Some (codes "hi"))

abbrev abc : Request
abc = put_request_read [] (Some (codes "abc"))

-- what follows the first, and the second
abbrev two : List ℕ
two = put_request_with (codes "Transfer-Encoding: chunked\r\n") ++ codes "3\r\nabc\r\n0\r\n\r\nPUT"

abbrev hi_head : RequestHead
hi_head = asked (codes "PUT") (codes "/a") 1 (field (codes "Content-Length") (codes " 2") ∷ [])

abbrev abc_head : RequestHead
abc_head = asked (codes "PUT") (codes "/a") 1 (field (codes "Transfer-Encoding") (codes " chunked") ∷ [])

reads_hi : (continue_sent : Bool) → ReadsAs 1000 false continue_sent two_requests_and_a_beginning (Spelled hi two)
unfolding httparse_on_literals
reads_hi true = reads_request 1000 false true two_requests_and_a_beginning hi_head 38 _ refl refl refl refl
reads_hi false = reads_request 1000 false false two_requests_and_a_beginning hi_head 38 _ refl refl refl refl

reads_abc : (continue_sent : Bool) → ReadsAs 1000 false continue_sent two (Spelled abc (codes "PUT"))
unfolding httparse_on_literals
reads_abc true = reads_request 1000 false true two abc_head 47 _ refl refl refl refl
reads_abc false = reads_request 1000 false false two abc_head 47 _ refl refl refl refl

pub returns-clause-spelled : goal.returns-clause-spelled
returns-clause-spelled c = (two, reads_hi true, (codes "PUT", reads_abc true, refl))

pub returns-clause-first : goal.returns-clause-first
returns-clause-first c = record { rest = two_requests_and_a_beginning; reading = Spelled hi two; spells = refl; reads = reads_hi false; answer_is = refl }

pub returns-clause-second : goal.returns-clause-second
returns-clause-second c =
    record { rest = two; reading = Spelled abc (codes "PUT"); spells = (two, reads_hi true, refl); reads = reads_abc false; answer_is = refl }

pub returns-clause-third : goal.returns-clause-third
returns-clause-third c = record {
  rest = codes "PUT";
  reading = Incomplete;
  spells = (two, reads_hi true, (codes "PUT", reads_abc true, refl));
  reads = reads_no_request 1000 false false (codes "PUT") _ refl refl;
  answer_is = refl;
}

pub returns-clause-cut : goal.returns-clause-cut
returns-clause-cut c = record {
  rest = codes "PUT";
  reading = Faulty fault.Truncated;
  spells = (two, reads_hi true, (codes "PUT", reads_abc true, refl));
  reads = reads_no_request 1000 true false (codes "PUT") _ refl refl;
  answer_is = refl;
}
