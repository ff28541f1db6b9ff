use Rattle.std.proofs.Common.{[], ◌∷◌, ◌++◌, refl, true, false, Some, drop}
use Rattle.std.specs.Prelude.{codes}
use Rattle.httparse.specs.Grammar.{ResponseHead}
use Rattle.httparse.proofs.OnLiterals.{httparse_on_literals}
use Rattle.hx_framing.specs.ReadingExamples.{ok_response_text_with_lines}
use Rattle.hx_framing.proofs.ReadingLemmas.{field, answered, reads_response, passes_interim, reads_no_response}
use Rattle.hx_framing.proofs.laws.reading_laws.interim_responses_are_skipped.Goals as goal

abbrev early_hints_head : ResponseHead
early_hints_head = answered 1 (codes "200") (Some (codes "OK")) (field (codes "Content-Length") (codes " 2") ∷ [])

abbrev early_hints_interim : ResponseHead
early_hints_interim = answered 1 (codes "103") (Some (codes "Early Hints")) (field (codes "Link") (codes " </style.css>; rel=preload; as=style") ∷ field (codes "Link") (codes " </script.js>; rel=preload; as=script") ∷ [])

abbrev two_head : ResponseHead
two_head = answered 1 (codes "204") (Some []) []

abbrev two_interim : ResponseHead
two_interim = answered 1 (codes "199") (Some []) (field (codes "Content-Length") (codes " x") ∷ [])

abbrev two_first : ResponseHead
two_first = answered 1 (codes "100") (Some (codes "Continue")) []

abbrev switch_head : ResponseHead
switch_head = answered 1 (codes "101") (Some (codes "Switching Protocols")) (field (codes "Upgrade") (codes " websocket") ∷ [])

pub returns-clause-early_hints : goal.returns-clause-early_hints
unfolding httparse_on_literals
returns-clause-early_hints c = passes_interim 1000 false false (codes "HTTP/1.1 103 Early Hints\r\nLink: </style.css>; rel=preload; as=style\r\nLink: </script.js>; rel=preload; as=script\r\n\r\n" ++ ok_response_text_with_lines (codes "Content-Length: 2\r\n") ++ codes "hi") early_hints_interim 115 _ refl refl refl refl
    (reads_response 1000 false false (drop 115 (codes "HTTP/1.1 103 Early Hints\r\nLink: </style.css>; rel=preload; as=style\r\nLink: </script.js>; rel=preload; as=script\r\n\r\n" ++ ok_response_text_with_lines (codes "Content-Length: 2\r\n") ++ codes "hi")) early_hints_head 38 _ refl refl refl refl refl)

pub returns-clause-two : goal.returns-clause-two
unfolding httparse_on_literals
returns-clause-two c = passes_interim 1000 false false (codes "HTTP/1.1 100 Continue\r\n\r\nHTTP/1.1 199 \r\nContent-Length: x\r\n\r\nHTTP/1.1 204 \r\n\r\n") two_first 25 _ refl refl refl refl
    (passes_interim 1000 false false (drop 25 (codes "HTTP/1.1 100 Continue\r\n\r\nHTTP/1.1 199 \r\nContent-Length: x\r\n\r\nHTTP/1.1 204 \r\n\r\n")) two_interim 36 _ refl refl refl refl
    (reads_response 1000 false false (drop 36 (drop 25 (codes "HTTP/1.1 100 Continue\r\n\r\nHTTP/1.1 199 \r\nContent-Length: x\r\n\r\nHTTP/1.1 204 \r\n\r\n"))) two_head 17 _ refl refl refl refl refl))

pub returns-clause-alone : goal.returns-clause-alone
unfolding httparse_on_literals
returns-clause-alone c = passes_interim 1000 false false (codes "HTTP/1.1 100 Continue\r\n\r\n") two_first 25 _ refl refl refl refl
    (reads_no_response 1000 false false (drop 25 (codes "HTTP/1.1 100 Continue\r\n\r\n")) _ refl refl)

pub returns-clause-alone_at_the_end : goal.returns-clause-alone_at_the_end
unfolding httparse_on_literals
returns-clause-alone_at_the_end c = passes_interim 1000 false true (codes "HTTP/1.1 100 Continue\r\n\r\n") two_first 25 _ refl refl refl refl
    (reads_no_response 1000 false true (drop 25 (codes "HTTP/1.1 100 Continue\r\n\r\n")) _ refl refl)

pub returns-clause-switch : goal.returns-clause-switch
unfolding httparse_on_literals
returns-clause-switch c = reads_response 1000 false false (codes "HTTP/1.1 101 Switching Protocols\r\nUpgrade: websocket\r\n\r\n") switch_head 56 _ refl refl refl refl refl
