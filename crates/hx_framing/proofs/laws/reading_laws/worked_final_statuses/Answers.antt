use Rattle.std.proofs.Common.{[], ◌∷◌, refl, false, Some}
use Rattle.std.specs.Prelude.{codes}
use Rattle.httparse.specs.Grammar.{ResponseHead}
use Rattle.httparse.proofs.OnLiterals.{httparse_on_literals}
use Rattle.hx_framing.proofs.ReadingLemmas.{field, answered, reads_response}
use Rattle.hx_framing.proofs.laws.reading_laws.worked_final_statuses.Goals as goal

abbrev high_head : ResponseHead
high_head = answered 1 (codes "600") (Some []) (field (codes "Content-Length") (codes " 0") ∷ [])

abbrev low_head : ResponseHead
low_head = answered 1 (codes "099") (Some []) (field (codes "Content-Length") (codes " 0") ∷ [])

abbrev last_head : ResponseHead
last_head = answered 1 (codes "599") (Some []) (field (codes "Content-Length") (codes " 0") ∷ [])

abbrev first_head : ResponseHead
first_head = answered 1 (codes "200") (Some []) (field (codes "Content-Length") (codes " 0") ∷ [])

abbrev large_first_head : ResponseHead
large_first_head = answered 1 (codes "600") (Some []) (field (codes "Content-Length") (codes " 1001") ∷ [])

pub returns-clause-high : goal.returns-clause-high
unfolding httparse_on_literals
returns-clause-high c = reads_response 1000 false false (codes "HTTP/1.1 600 \r\nContent-Length: 0\r\n\r\n") high_head 36 _ refl refl refl refl refl

pub returns-clause-low : goal.returns-clause-low
unfolding httparse_on_literals
returns-clause-low c = reads_response 1000 false false (codes "HTTP/1.1 099 \r\nContent-Length: 0\r\n\r\n") low_head 36 _ refl refl refl refl refl

pub returns-clause-last : goal.returns-clause-last
unfolding httparse_on_literals
returns-clause-last c = reads_response 1000 false false (codes "HTTP/1.1 599 \r\nContent-Length: 0\r\n\r\n") last_head 36 _ refl refl refl refl refl

pub returns-clause-first : goal.returns-clause-first
unfolding httparse_on_literals
returns-clause-first c = reads_response 1000 false false (codes "HTTP/1.1 200 \r\nContent-Length: 0\r\n\r\n") first_head 36 _ refl refl refl refl refl

pub returns-clause-large_first : goal.returns-clause-large_first
unfolding httparse_on_literals
returns-clause-large_first c = reads_response 1000 false false (codes "HTTP/1.1 600 \r\nContent-Length: 1001\r\n\r\n") large_first_head 39 _ refl refl refl refl refl
