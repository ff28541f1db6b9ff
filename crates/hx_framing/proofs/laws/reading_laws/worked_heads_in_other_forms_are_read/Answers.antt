use Rattle.std.proofs.Common.{[], ◌∷◌, refl, false, None, Some}
use Rattle.std.specs.Prelude.{codes}
use Rattle.httparse.specs.Grammar.{crlf, lf, RequestHead, ResponseHead}
use Rattle.httparse.proofs.OnLiterals.{httparse_on_literals}
use Rattle.hx_framing.proofs.ReadingLemmas.{field, asked, answered, reads_request, reads_response}
use Rattle.hx_framing.proofs.laws.reading_laws.worked_heads_in_other_forms_are_read.Goals as goal

abbrev line_feeds_head : RequestHead
line_feeds_head = record { blank = crlf ∷ lf ∷ []; method = codes "GET"; target = codes "/"; minor = 0; line_end = lf; fields = (record { name = codes "A"; raw = codes "\t b \t"; end = lf } ∷ []); last = lf }

abbrev values_head : RequestHead
values_head = asked (codes "GET") (codes "*") 1 (field (codes "a") (codes "b:c") ∷ field (codes "A") (codes " b c") ∷ [])

abbrev no_phrase_head : ResponseHead
no_phrase_head = answered 0 (codes "204") None []

abbrev empty_phrase_head : ResponseHead
empty_phrase_head = record { blank = lf ∷ []; minor = 1; digits = codes "204"; reason = (Some []); line_end = lf; fields = (record { name = codes "X"; raw = []; end = lf } ∷ []); last = lf }

pub returns-clause-line_feeds : goal.returns-clause-line_feeds
unfolding httparse_on_literals
returns-clause-line_feeds c = reads_request 1000 false false (codes "\r\n\nGET / HTTP/1.0\nA:\t b \t\n\nx") line_feeds_head 27 _ refl refl refl refl

pub returns-clause-values : goal.returns-clause-values
unfolding httparse_on_literals
returns-clause-values c = reads_request 1000 false false (codes "GET * HTTP/1.1\r\na:b:c\r\nA: b c\r\n\r\n") values_head 33 _ refl refl refl refl

pub returns-clause-no_phrase : goal.returns-clause-no_phrase
unfolding httparse_on_literals
returns-clause-no_phrase c = reads_response 1000 false false (codes "HTTP/1.0 204\r\n\r\nx") no_phrase_head 16 _ refl refl refl refl refl

pub returns-clause-empty_phrase : goal.returns-clause-empty_phrase
unfolding httparse_on_literals
returns-clause-empty_phrase c = reads_response 1000 false false (codes "\nHTTP/1.1 204 \nX:\n\n") empty_phrase_head 19 _ refl refl refl refl refl
