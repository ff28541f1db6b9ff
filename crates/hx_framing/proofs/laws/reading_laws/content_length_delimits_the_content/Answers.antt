use Rattle.std.proofs.Common.{[], ◌∷◌, ◌++◌, refl, true, false}
use Rattle.std.specs.Prelude.{codes}
use Rattle.httparse.specs.Grammar.{RequestHead}
use Rattle.httparse.proofs.OnLiterals.{httparse_on_literals}
use Rattle.hx_framing.specs.ReadingExamples.{put_request_with}
use Rattle.hx_framing.proofs.ReadingLemmas.{field, asked, reads_request}
use Rattle.hx_framing.proofs.laws.reading_laws.content_length_delimits_the_content.Goals as goal

abbrev none_head : RequestHead
none_head = asked (codes "PUT") (codes "/a") 1 []

abbrev zero_head : RequestHead
zero_head = asked (codes "PUT") (codes "/a") 1 (field (codes "Content-Length") (codes " 0") ∷ [])

abbrev agree_head : RequestHead
agree_head = asked (codes "PUT") (codes "/a") 1 (field (codes "Content-Length") (codes " 5") ∷ field (codes "Content-Length") (codes " 5") ∷ [])

abbrev listed_head : RequestHead
listed_head = asked (codes "PUT") (codes "/a") 1 (field (codes "Content-Length") (codes " 5,05") ∷ [])

abbrev short_head : RequestHead
short_head = asked (codes "PUT") (codes "/a") 1 (field (codes "Content-Length") (codes " 5") ∷ [])

abbrev differ_head : RequestHead
differ_head = asked (codes "PUT") (codes "/a") 1 (field (codes "Content-Length") (codes " 5") ∷ field (codes "Content-Length") (codes " 6") ∷ [])

abbrev minus_head : RequestHead
minus_head = asked (codes "PUT") (codes "/a") 1 (field (codes "Content-Length") (codes " -5") ∷ [])

abbrev most_head : RequestHead
most_head = asked (codes "PUT") (codes "/a") 1 (field (codes "Content-Length") (codes " 1000") ∷ [])

abbrev large_head : RequestHead
large_head = asked (codes "PUT") (codes "/a") 1 (field (codes "Content-Length") (codes " 1001") ∷ [])

abbrev others_stay_head : RequestHead
others_stay_head = asked (codes "PUT") (codes "/a") 1 (field (codes "A") (codes " 1") ∷ field (codes "Content-Length") (codes " 2") ∷ field (codes "B") (codes " 2") ∷ [])

pub returns-clause-none : goal.returns-clause-none
unfolding httparse_on_literals
returns-clause-none c = reads_request 1000 false false (put_request_with [] ++ codes "hello") none_head 19 _ refl refl refl refl

pub returns-clause-zero : goal.returns-clause-zero
unfolding httparse_on_literals
returns-clause-zero c = reads_request 1000 false false (put_request_with (codes "Content-Length: 0\r\n") ++ codes "hello") zero_head 38 _ refl refl refl refl

pub returns-clause-agree : goal.returns-clause-agree
unfolding httparse_on_literals
returns-clause-agree c = reads_request 1000 false false (put_request_with (codes "Content-Length: 5\r\nContent-Length: 5\r\n") ++ codes "hello!") agree_head 57 _ refl refl refl refl

pub returns-clause-listed : goal.returns-clause-listed
unfolding httparse_on_literals
returns-clause-listed c = reads_request 1000 false false (put_request_with (codes "Content-Length: 5,05\r\n") ++ codes "hello!") listed_head 41 _ refl refl refl refl

pub returns-clause-short : goal.returns-clause-short
unfolding httparse_on_literals
returns-clause-short c = reads_request 1000 false false (put_request_with (codes "Content-Length: 5\r\n") ++ codes "hell") short_head 38 _ refl refl refl refl

pub returns-clause-cut : goal.returns-clause-cut
unfolding httparse_on_literals
returns-clause-cut c = reads_request 1000 true false (put_request_with (codes "Content-Length: 5\r\n") ++ codes "hell") short_head 38 _ refl refl refl refl

pub returns-clause-differ : goal.returns-clause-differ
unfolding httparse_on_literals
returns-clause-differ c = reads_request 1000 false false (put_request_with (codes "Content-Length: 5\r\nContent-Length: 6\r\n") ++ codes "hello") differ_head 57 _ refl refl refl refl

pub returns-clause-minus : goal.returns-clause-minus
unfolding httparse_on_literals
returns-clause-minus c = reads_request 1000 false false (put_request_with (codes "Content-Length: -5\r\n")) minus_head 39 _ refl refl refl refl

pub returns-clause-most : goal.returns-clause-most
unfolding httparse_on_literals
returns-clause-most c = reads_request 1000 false false (put_request_with (codes "Content-Length: 1000\r\n")) most_head 41 _ refl refl refl refl

pub returns-clause-large : goal.returns-clause-large
unfolding httparse_on_literals
returns-clause-large c = reads_request 1000 false false (put_request_with (codes "Content-Length: 1001\r\n")) large_head 41 _ refl refl refl refl

pub returns-clause-others_stay : goal.returns-clause-others_stay
unfolding httparse_on_literals
returns-clause-others_stay c = reads_request 1000 false false (put_request_with (codes "A: 1\r\nContent-Length: 2\r\nB: 2\r\n") ++ codes "hi") others_stay_head 50 _ refl refl refl refl
