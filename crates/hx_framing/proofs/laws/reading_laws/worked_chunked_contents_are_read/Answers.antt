use Rattle.std.proofs.Common.{[], ◌∷◌, ◌++◌, refl, true, false, Some}
use Rattle.std.specs.Prelude.{codes, replicate}
use Rattle.httparse.specs.Grammar.{RequestHead, ResponseHead}
use Rattle.httparse.proofs.OnLiterals.{httparse_on_literals}
use Rattle.hx_framing.specs.ReadingExamples.{put_request_with, ok_response_text_with_lines}
use Rattle.hx_framing.proofs.ReadingLemmas.{field, asked, answered, reads_request, reads_response}
use Rattle.hx_framing.proofs.laws.reading_laws.worked_chunked_contents_are_read.Goals as goal

abbrev request_head : RequestHead
request_head = asked (codes "PUT") (codes "/a") 1 (field (codes "Transfer-Encoding") (codes " chunked") ∷ [])

abbrev response_head : ResponseHead
response_head = answered 1 (codes "200") (Some (codes "OK")) (field (codes "Transfer-Encoding") (codes " chunked") ∷ [])

pub returns-clause-request : goal.returns-clause-request
unfolding httparse_on_literals
returns-clause-request c = reads_request 1000 false false (put_request_with (codes "Transfer-Encoding: chunked\r\n") ++ codes "4\r\nWiki\r\n5;x=1\r\npedia\r\n0\r\nExpires: 0\r\n\r\nGET") request_head 47 _ refl refl refl refl

pub returns-clause-response : goal.returns-clause-response
unfolding httparse_on_literals
returns-clause-response c = reads_response 1000 false false (ok_response_text_with_lines (codes "Transfer-Encoding: chunked\r\n") ++ codes "4\r\nWiki\r\n5;x=1\r\npedia\r\n0\r\nExpires: 0\r\n\r\n") response_head 47 _ refl refl refl refl refl

pub returns-clause-open : goal.returns-clause-open
unfolding httparse_on_literals
returns-clause-open c = reads_request 1000 false false (put_request_with (codes "Transfer-Encoding: chunked\r\n") ++ codes "4\r\nWiki\r\n0\r\n\r") request_head 47 _ refl refl refl refl

pub returns-clause-cut : goal.returns-clause-cut
unfolding httparse_on_literals
returns-clause-cut c = reads_request 1000 true false (put_request_with (codes "Transfer-Encoding: chunked\r\n") ++ codes "4\r\nWiki\r\n0\r\n\r") request_head 47 _ refl refl refl refl

pub returns-clause-cut_response : goal.returns-clause-cut_response
unfolding httparse_on_literals
returns-clause-cut_response c = reads_response 1000 false true (ok_response_text_with_lines (codes "Transfer-Encoding: chunked\r\n") ++ codes "4\r\nWiki\r\n") response_head 47 _ refl refl refl refl refl

pub returns-clause-bad_end : goal.returns-clause-bad_end
unfolding httparse_on_literals
returns-clause-bad_end c = reads_request 1000 false false (put_request_with (codes "Transfer-Encoding: chunked\r\n") ++ codes "4\r\nWikipedia") request_head 47 _ refl refl refl refl

pub returns-clause-large : goal.returns-clause-large
unfolding httparse_on_literals
returns-clause-large c = reads_request 1000 false false (put_request_with (codes "Transfer-Encoding: chunked\r\n") ++ codes "3e9\r\n") request_head 47 _ refl refl refl refl

pub returns-clause-most : goal.returns-clause-most
unfolding httparse_on_literals
returns-clause-most c = reads_request 1000 false false (put_request_with (codes "Transfer-Encoding: chunked\r\n") ++ codes "3e8\r\n") request_head 47 _ refl refl refl refl

pub returns-clause-long_line : goal.returns-clause-long_line
unfolding httparse_on_literals
returns-clause-long_line c = reads_request 1000 false false (put_request_with (codes "Transfer-Encoding: chunked\r\n") ++ replicate 274 48) request_head 47 _ refl refl refl refl

pub returns-clause-longest_line : goal.returns-clause-longest_line
unfolding httparse_on_literals
returns-clause-longest_line c = reads_request 1000 false false (put_request_with (codes "Transfer-Encoding: chunked\r\n") ++ replicate 273 48) request_head 47 _ refl refl refl refl
