use Rattle.std.proofs.Common.{[], ◌∷◌, ◌++◌, refl, false, Some}
use Rattle.std.specs.Prelude.{codes}
use Rattle.httparse.specs.Grammar.{RequestHead, ResponseHead}
use Rattle.httparse.proofs.OnLiterals.{httparse_on_literals}
use Rattle.hx_framing.specs.ReadingExamples.{put_request_with, ok_response_text_with_lines}
use Rattle.hx_framing.proofs.ReadingLemmas.{field, asked, answered, reads_request, reads_response}
use Rattle.hx_framing.proofs.laws.reading_laws.only_chunked_is_read.Goals as goal

abbrev any_case_head : RequestHead
any_case_head = asked (codes "PUT") (codes "/a") 1 (field (codes "transfer-encoding") (codes " CHUNKED") ∷ [])

abbrev two_head : RequestHead
two_head = asked (codes "PUT") (codes "/a") 1 (field (codes "Transfer-Encoding") (codes " gzip, chunked") ∷ [])

abbrev endless_head : RequestHead
endless_head = asked (codes "PUT") (codes "/a") 1 (field (codes "Transfer-Encoding") (codes " gzip") ∷ [])

abbrev twice_head : RequestHead
twice_head = asked (codes "PUT") (codes "/a") 1 (field (codes "Transfer-Encoding") (codes " chunked") ∷ field (codes "Transfer-Encoding") (codes " chunked") ∷ [])

abbrev old_head : RequestHead
old_head = asked (codes "PUT") (codes "/a") 0 (field (codes "Transfer-Encoding") (codes " chunked") ∷ [])

abbrev response_head : ResponseHead
response_head = answered 1 (codes "200") (Some (codes "OK")) (field (codes "Transfer-Encoding") (codes " gzip") ∷ [])

abbrev old_response_head : ResponseHead
old_response_head = answered 0 (codes "200") (Some (codes "OK")) (field (codes "Transfer-Encoding") (codes " chunked") ∷ [])

pub returns-clause-any_case : goal.returns-clause-any_case
unfolding httparse_on_literals
returns-clause-any_case c = reads_request 1000 false false (put_request_with (codes "transfer-encoding: CHUNKED\r\n") ++ codes "0\r\n\r\n") any_case_head 47 _ refl refl refl refl

pub returns-clause-two : goal.returns-clause-two
unfolding httparse_on_literals
returns-clause-two c = reads_request 1000 false false (put_request_with (codes "Transfer-Encoding: gzip, chunked\r\n")) two_head 53 _ refl refl refl refl

pub returns-clause-endless : goal.returns-clause-endless
unfolding httparse_on_literals
returns-clause-endless c = reads_request 1000 false false (put_request_with (codes "Transfer-Encoding: gzip\r\n")) endless_head 44 _ refl refl refl refl

pub returns-clause-twice : goal.returns-clause-twice
unfolding httparse_on_literals
returns-clause-twice c = reads_request 1000 false false (put_request_with (codes "Transfer-Encoding: chunked\r\nTransfer-Encoding: chunked\r\n")) twice_head 75 _ refl refl refl refl

pub returns-clause-old : goal.returns-clause-old
unfolding httparse_on_literals
returns-clause-old c = reads_request 1000 false false (codes "PUT /a HTTP/1.0\r\nTransfer-Encoding: chunked\r\n\r\n") old_head 47 _ refl refl refl refl

pub returns-clause-response : goal.returns-clause-response
unfolding httparse_on_literals
returns-clause-response c = reads_response 1000 false false (ok_response_text_with_lines (codes "Transfer-Encoding: gzip\r\n")) response_head 44 _ refl refl refl refl refl

pub returns-clause-old_response : goal.returns-clause-old_response
unfolding httparse_on_literals
returns-clause-old_response c = reads_response 1000 false false (codes "HTTP/1.0 200 OK\r\nTransfer-Encoding: chunked\r\n\r\n") old_response_head 47 _ refl refl refl refl refl
