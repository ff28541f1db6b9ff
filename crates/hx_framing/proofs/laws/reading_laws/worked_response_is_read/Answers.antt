use Rattle.std.proofs.Common.{[], ◌∷◌, ◌++◌, refl, true, false, Some}
use Rattle.std.specs.Prelude.{codes}
use Rattle.httparse.specs.Grammar.{ResponseHead}
use Rattle.httparse.proofs.OnLiterals.{httparse_on_literals}
use Rattle.hx_framing.specs.ReadingExamples.{hello_response, ok_response_text_with_lines}
use Rattle.hx_framing.proofs.ReadingLemmas.{field, answered, reads_response}
use Rattle.hx_framing.proofs.laws.reading_laws.worked_response_is_read.Goals as goal

abbrev whole_head : ResponseHead
whole_head = answered 1 (codes "200") (Some (codes "OK")) (field (codes "Date") (codes " Mon, 27 Jul 2009 12:28:53 GMT") ∷ field (codes "Server") (codes " Apache") ∷ field (codes "Last-Modified") (codes " Wed, 22 Jul 2009 19:15:56 GMT") ∷ field (codes "ETag") (codes " \"34aa387-d-1568eb00\"") ∷ field (codes "Accept-Ranges") (codes " bytes") ∷ field (codes "Content-Length") (codes " 51") ∷ field (codes "Vary") (codes " Accept-Encoding") ∷ field (codes "Content-Type") (codes " text/plain") ∷ [])

abbrev short_head : ResponseHead
short_head = answered 1 (codes "200") (Some (codes "OK")) (field (codes "Content-Length") (codes " 3") ∷ [])

pub returns-clause-whole : goal.returns-clause-whole
unfolding httparse_on_literals
returns-clause-whole c = reads_response 1000 false false (hello_response) whole_head 237 _ refl refl refl refl refl

pub returns-clause-behind : goal.returns-clause-behind
unfolding httparse_on_literals
returns-clause-behind c = reads_response 1000 false false (hello_response ++ codes "x") whole_head 237 _ refl refl refl refl refl

pub returns-clause-short : goal.returns-clause-short
unfolding httparse_on_literals
returns-clause-short c = reads_response 1000 false false (ok_response_text_with_lines (codes "Content-Length: 3\r\n") ++ codes "hi") short_head 38 _ refl refl refl refl refl

pub returns-clause-cut : goal.returns-clause-cut
unfolding httparse_on_literals
returns-clause-cut c = reads_response 1000 false true (ok_response_text_with_lines (codes "Content-Length: 3\r\n") ++ codes "hi") short_head 38 _ refl refl refl refl refl
