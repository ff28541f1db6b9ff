use Rattle.std.proofs.Common.{[], ◌∷◌, ◌++◌, refl, true, false}
use Rattle.std.specs.Prelude.{codes}
use Rattle.httparse.specs.Grammar.{RequestHead}
use Rattle.httparse.proofs.OnLiterals.{httparse_on_literals}
use Rattle.hx_framing.specs.ReadingExamples.{put_request_with}
use Rattle.hx_framing.proofs.ReadingLemmas.{field, asked, reads_request}
use Rattle.hx_framing.proofs.laws.reading_laws.worked_only_100_continue_is_met.Goals as goal

abbrev waits_head : RequestHead
waits_head = asked (codes "PUT") (codes "/a") 1 (field (codes "Expect") (codes " 100-continue") ∷ field (codes "Content-Length") (codes " 2") ∷ [])

abbrev one_byte_head : RequestHead
one_byte_head = asked (codes "PUT") (codes "/a") 1 (field (codes "Expect") (codes " 100-continue") ∷ field (codes "Content-Length") (codes " 1") ∷ [])

abbrev content_there_head : RequestHead
content_there_head = asked (codes "PUT") (codes "/a") 1 (field (codes "Expect") (codes " 100-Continue") ∷ field (codes "Content-Length") (codes " 2") ∷ [])

abbrev no_content_head : RequestHead
no_content_head = asked (codes "PUT") (codes "/a") 1 (field (codes "Expect") (codes " 100-continue") ∷ [])

abbrev other_head : RequestHead
other_head = asked (codes "PUT") (codes "/a") 1 (field (codes "Expect") (codes " x") ∷ field (codes "Content-Length") (codes " 2") ∷ [])

abbrev old_head : RequestHead
old_head = asked (codes "PUT") (codes "/a") 0 (field (codes "Expect") (codes " x") ∷ field (codes "Content-Length") (codes " 2") ∷ [])

pub returns-clause-waits : goal.returns-clause-waits
unfolding httparse_on_literals
returns-clause-waits c = reads_request 1000 false false (put_request_with (codes "Expect: 100-continue\r\nContent-Length: 2\r\n")) waits_head 60 _ refl refl refl refl

pub returns-clause-one_byte : goal.returns-clause-one_byte
unfolding httparse_on_literals
returns-clause-one_byte c = reads_request 1000 false false (put_request_with (codes "Expect: 100-continue\r\nContent-Length: 1\r\n")) one_byte_head 60 _ refl refl refl refl

pub returns-clause-content_there : goal.returns-clause-content_there
unfolding httparse_on_literals
returns-clause-content_there c = reads_request 1000 false false (put_request_with (codes "Expect: 100-Continue\r\nContent-Length: 2\r\n") ++ codes "hi") content_there_head 60 _ refl refl refl refl

pub returns-clause-given : goal.returns-clause-given
unfolding httparse_on_literals
returns-clause-given c = reads_request 1000 false true (put_request_with (codes "Expect: 100-continue\r\nContent-Length: 2\r\n") ++ codes "hi!") waits_head 60 _ refl refl refl refl

pub returns-clause-given_open : goal.returns-clause-given_open
unfolding httparse_on_literals
returns-clause-given_open c = reads_request 1000 false true (put_request_with (codes "Expect: 100-continue\r\nContent-Length: 2\r\n") ++ codes "h") waits_head 60 _ refl refl refl refl

pub returns-clause-no_content : goal.returns-clause-no_content
unfolding httparse_on_literals
returns-clause-no_content c = reads_request 1000 false false (put_request_with (codes "Expect: 100-continue\r\n")) no_content_head 41 _ refl refl refl refl

pub returns-clause-other : goal.returns-clause-other
unfolding httparse_on_literals
returns-clause-other c = reads_request 1000 false false (put_request_with (codes "Expect: x\r\nContent-Length: 2\r\n")) other_head 49 _ refl refl refl refl

pub returns-clause-old : goal.returns-clause-old
unfolding httparse_on_literals
returns-clause-old c = reads_request 1000 false false (codes "PUT /a HTTP/1.0\r\nExpect: x\r\nContent-Length: 2\r\n\r\n" ++ codes "hi") old_head 49 _ refl refl refl refl
