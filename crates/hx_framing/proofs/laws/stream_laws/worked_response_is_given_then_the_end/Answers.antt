use Rattle.std.proofs.Common.{[], ◌∷◌, refl, true, false, Some, Bool}
use Rattle.std.specs.Prelude.{codes}
use Rattle.httparse.specs.Grammar.{ResponseHead}
use Rattle.httparse.proofs.OnLiterals.{httparse_on_literals}
use Rattle.hx_framing.specs.Reading.{Spelled}
use Rattle.hx_framing.specs.ReadingExamples.{hello_response, hello_response_read}
use Rattle.hx_framing.specs.ResponseReading.{ReadsAs}
use Rattle.hx_framing.proofs.ReadingLemmas.{field, answered, reads_response}
use Rattle.hx_framing.proofs.laws.stream_laws.worked_response_is_given_then_the_end.Goals as goal

abbrev hello : ResponseHead
hello = answered 1 (codes "200") (Some (codes "OK"))
    (field (codes "Date") (codes " Mon, 27 Jul 2009 12:28:53 GMT") ∷ field (codes "Server") (codes " Apache")
    ∷ field (codes "Last-Modified") (codes " Wed, 22 Jul 2009 19:15:56 GMT") ∷ field (codes "ETag") (codes " \"34aa387-d-1568eb00\"")
    ∷ field (codes "Accept-Ranges") (codes " bytes") ∷ field (codes "Content-Length") (codes " 51")
    ∷ field (codes "Vary") (codes " Accept-Encoding") ∷ field (codes "Content-Type") (codes " text/plain") ∷ [])

reads : (ended : Bool) → ReadsAs 1000 false ended hello_response (Spelled hello_response_read [])
unfolding httparse_on_literals
reads true = reads_response 1000 false true hello_response hello 237 _ refl refl refl refl refl
reads false = reads_response 1000 false false hello_response hello 237 _ refl refl refl refl refl

pub returns-clause-first : goal.returns-clause-first
returns-clause-first c = record { spells = tt; by = (Spelled hello_response_read [], reads false, refl) }

pub returns-clause-end : goal.returns-clause-end
returns-clause-end c = record { spells = ([], reads false); by = refl }

pub returns-clause-closed : goal.returns-clause-closed
returns-clause-closed c = record { spells = ([], reads true); by = refl }
