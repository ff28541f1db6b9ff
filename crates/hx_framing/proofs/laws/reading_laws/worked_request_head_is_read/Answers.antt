use Rattle.std.proofs.Common.{[], ◌∷◌, ◌++◌, refl, true, false}
use Rattle.std.specs.Prelude.{codes}
use Rattle.httparse.specs.Grammar.{RequestHead}
use Rattle.httparse.proofs.OnLiterals.{httparse_on_literals}
use Rattle.hx_framing.specs.ReadingExamples.{hello_request}
use Rattle.hx_framing.proofs.ReadingLemmas.{field, asked, reads_request, reads_no_request}
use Rattle.hx_framing.proofs.laws.reading_laws.worked_request_head_is_read.Goals as goal

abbrev whole_head : RequestHead
whole_head = asked (codes "GET") (codes "/hello.txt") 1 (field (codes "User-Agent") (codes " curl/7.64.1") ∷ field (codes "Host") (codes " www.example.com") ∷ field (codes "Accept-Language") (codes " en, mi") ∷ [])

pub returns-clause-whole : goal.returns-clause-whole
unfolding httparse_on_literals
returns-clause-whole c = reads_request 1000 false false (hello_request) whole_head 100 _ refl refl refl refl

pub returns-clause-behind : goal.returns-clause-behind
unfolding httparse_on_literals
returns-clause-behind c = reads_request 1000 false false (hello_request ++ codes "GET / HT") whole_head 100 _ refl refl refl refl

pub returns-clause-last : goal.returns-clause-last
unfolding httparse_on_literals
returns-clause-last c = reads_request 1000 true false (hello_request) whole_head 100 _ refl refl refl refl

pub returns-clause-open : goal.returns-clause-open
returns-clause-open c = reads_no_request 1000 false false (codes "GET /hello.txt HTTP/1.1\r\nHost: www.example.com\r\n\r") _ refl refl

pub returns-clause-cut : goal.returns-clause-cut
returns-clause-cut c = reads_no_request 1000 true false (codes "GET /hello.txt HTTP/1.1\r\nHost: www.example.com\r\n\r") _ refl refl
