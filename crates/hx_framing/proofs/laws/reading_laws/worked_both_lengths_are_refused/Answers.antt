use Rattle.std.proofs.Common.{[], ◌∷◌, ◌++◌, refl, false, Some}
use Rattle.std.specs.Prelude.{codes}
use Rattle.httparse.specs.Grammar.{RequestHead, ResponseHead}
use Rattle.httparse.proofs.OnLiterals.{httparse_on_literals}
use Rattle.hx_framing.specs.ReadingExamples.{put_request_with, ok_response_text_with_lines}
use Rattle.hx_framing.proofs.ReadingLemmas.{field, asked, answered, reads_request, reads_response}
use Rattle.hx_framing.proofs.laws.reading_laws.worked_both_lengths_are_refused.Goals as goal

abbrev request_head : RequestHead
request_head = asked (codes "PUT") (codes "/a") 1 (field (codes "Transfer-Encoding") (codes " chunked") ∷ field (codes "Content-Length") (codes " 5") ∷ [])

abbrev turned_head : RequestHead
turned_head = asked (codes "PUT") (codes "/a") 1 (field (codes "Content-Length") (codes " 5") ∷ field (codes "Transfer-Encoding") (codes " chunked") ∷ [])

abbrev old_head : RequestHead
old_head = asked (codes "PUT") (codes "/a") 0 (field (codes "Transfer-Encoding") (codes " chunked") ∷ field (codes "Content-Length") (codes " x") ∷ [])

abbrev response_head : ResponseHead
response_head = answered 1 (codes "200") (Some (codes "OK")) (field (codes "Transfer-Encoding") (codes " chunked") ∷ field (codes "Content-Length") (codes " 5") ∷ [])

pub returns-clause-request : goal.returns-clause-request
unfolding httparse_on_literals
returns-clause-request c = reads_request 1000 false false (put_request_with (codes "Transfer-Encoding: chunked\r\nContent-Length: 5\r\n") ++ codes "0\r\n\r\n") request_head 66 _ refl refl refl refl

pub returns-clause-turned : goal.returns-clause-turned
unfolding httparse_on_literals
returns-clause-turned c = reads_request 1000 false false (put_request_with (codes "Content-Length: 5\r\nTransfer-Encoding: chunked\r\n") ++ codes "0\r\n\r\n") turned_head 66 _ refl refl refl refl

pub returns-clause-old : goal.returns-clause-old
unfolding httparse_on_literals
returns-clause-old c = reads_request 1000 false false (codes "PUT /a HTTP/1.0\r\nTransfer-Encoding: chunked\r\nContent-Length: x\r\n\r\n") old_head 66 _ refl refl refl refl

pub returns-clause-response : goal.returns-clause-response
unfolding httparse_on_literals
returns-clause-response c = reads_response 1000 false false (ok_response_text_with_lines (codes "Transfer-Encoding: chunked\r\nContent-Length: 5\r\n") ++ codes "0\r\n\r\n") response_head 66 _ refl refl refl refl refl
