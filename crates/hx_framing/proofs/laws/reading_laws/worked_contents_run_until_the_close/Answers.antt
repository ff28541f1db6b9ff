use Rattle.std.proofs.Common.{[], ◌++◌, refl, true, false, Some}
use Rattle.std.specs.Prelude.{codes, replicate}
use Rattle.httparse.specs.Grammar.{ResponseHead}
use Rattle.httparse.proofs.OnLiterals.{httparse_on_literals}
use Rattle.hx_framing.specs.ReadingExamples.{ok_response_text_with_lines}
use Rattle.hx_framing.proofs.ReadingLemmas.{answered, reads_response}
use Rattle.hx_framing.proofs.laws.reading_laws.worked_contents_run_until_the_close.Goals as goal

abbrev open_head : ResponseHead
open_head = answered 1 (codes "200") (Some (codes "OK")) []

pub returns-clause-open : goal.returns-clause-open
unfolding httparse_on_literals
returns-clause-open c = reads_response 1000 false false (ok_response_text_with_lines [] ++ codes "hi") open_head 19 _ refl refl refl refl refl

pub returns-clause-closed : goal.returns-clause-closed
unfolding httparse_on_literals
returns-clause-closed c = reads_response 1000 false true (ok_response_text_with_lines [] ++ codes "hi") open_head 19 _ refl refl refl refl refl

pub returns-clause-empty : goal.returns-clause-empty
unfolding httparse_on_literals
returns-clause-empty c = reads_response 1000 false true (ok_response_text_with_lines []) open_head 19 _ refl refl refl refl refl

pub returns-clause-large : goal.returns-clause-large
unfolding httparse_on_literals
returns-clause-large c = reads_response 1000 false false (ok_response_text_with_lines [] ++ replicate 1001 120) open_head 19 _ refl refl refl refl refl

pub returns-clause-most : goal.returns-clause-most
unfolding httparse_on_literals
returns-clause-most c = reads_response 1000 false false (ok_response_text_with_lines [] ++ replicate 1000 120) open_head 19 _ refl refl refl refl refl
