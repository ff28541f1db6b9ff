use Rattle.std.proofs.Common.{[], ◌∷◌, ◌++◌, refl, true, false, Some}
use Rattle.std.specs.Prelude.{codes}
use Rattle.httparse.specs.Grammar.{ResponseHead}
use Rattle.httparse.proofs.OnLiterals.{httparse_on_literals}
use Rattle.hx_framing.specs.ReadingExamples.{ok_response_text_with_lines}
use Rattle.hx_framing.proofs.ReadingLemmas.{field, answered, reads_response}
use Rattle.hx_framing.proofs.laws.reading_laws.worked_responses_without_content_are_read.Goals as goal

abbrev no_content_head : ResponseHead
no_content_head = answered 1 (codes "204") (Some (codes "No Content")) (field (codes "Content-Length") (codes " 5") ∷ [])

abbrev not_modified_head : ResponseHead
not_modified_head = answered 1 (codes "304") (Some (codes "Not Modified")) (field (codes "ETag") (codes " \"v\"") ∷ field (codes "Content-Length") (codes " x") ∷ [])

abbrev to_head_head : ResponseHead
to_head_head = answered 1 (codes "200") (Some (codes "OK")) (field (codes "Content-Length") (codes " 5") ∷ [])

abbrev to_head_coded_head : ResponseHead
to_head_coded_head = answered 1 (codes "200") (Some (codes "OK")) (field (codes "Transfer-Encoding") (codes " chunked") ∷ [])

abbrev reset_head : ResponseHead
reset_head = answered 1 (codes "205") (Some []) (field (codes "Content-Length") (codes " 2") ∷ [])

abbrev other_interim_neighbour_head : ResponseHead
other_interim_neighbour_head = answered 1 (codes "303") (Some []) (field (codes "Content-Length") (codes " 2") ∷ [])

pub returns-clause-no_content : goal.returns-clause-no_content
unfolding httparse_on_literals
returns-clause-no_content c = reads_response 1000 false false (codes "HTTP/1.1 204 No Content\r\nContent-Length: 5\r\n\r\n" ++ codes "hello") no_content_head 46 _ refl refl refl refl refl

pub returns-clause-not_modified : goal.returns-clause-not_modified
unfolding httparse_on_literals
returns-clause-not_modified c = reads_response 1000 false false (codes "HTTP/1.1 304 Not Modified\r\nETag: \"v\"\r\nContent-Length: x\r\n\r\n" ++ codes "hello") not_modified_head 59 _ refl refl refl refl refl

pub returns-clause-to_head : goal.returns-clause-to_head
unfolding httparse_on_literals
returns-clause-to_head c = reads_response 1000 true false (ok_response_text_with_lines (codes "Content-Length: 5\r\n") ++ codes "hello") to_head_head 38 _ refl refl refl refl refl

pub returns-clause-to_head_coded : goal.returns-clause-to_head_coded
unfolding httparse_on_literals
returns-clause-to_head_coded c = reads_response 1000 true false (ok_response_text_with_lines (codes "Transfer-Encoding: chunked\r\n") ++ codes "hello") to_head_coded_head 47 _ refl refl refl refl refl

pub returns-clause-reset : goal.returns-clause-reset
unfolding httparse_on_literals
returns-clause-reset c = reads_response 1000 false false (codes "HTTP/1.1 205 \r\nContent-Length: 2\r\n\r\n" ++ codes "hi!") reset_head 36 _ refl refl refl refl refl

pub returns-clause-other_interim_neighbour : goal.returns-clause-other_interim_neighbour
unfolding httparse_on_literals
returns-clause-other_interim_neighbour c = reads_response 1000 false false (codes "HTTP/1.1 303 \r\nContent-Length: 2\r\n\r\n" ++ codes "hi!") other_interim_neighbour_head 36 _ refl refl refl refl refl
