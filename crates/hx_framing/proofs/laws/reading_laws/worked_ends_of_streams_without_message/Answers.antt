use Rattle.std.proofs.Common.{[], refl, true, false}
use Rattle.std.specs.Prelude.{codes}
use Rattle.hx_framing.proofs.ReadingLemmas.{reads_no_request, reads_no_response}
use Rattle.hx_framing.proofs.laws.reading_laws.worked_ends_of_streams_without_message.Goals as goal

pub returns-clause-nothing : goal.returns-clause-nothing
returns-clause-nothing c = reads_no_request 1000 false false [] _ refl refl

pub returns-clause-nothing_more : goal.returns-clause-nothing_more
returns-clause-nothing_more c = reads_no_request 1000 true false [] _ refl refl

pub returns-clause-empty_lines : goal.returns-clause-empty_lines
returns-clause-empty_lines c = reads_no_request 1000 true false (codes "\r\n\n\r\n") _ refl refl

pub returns-clause-line_feed : goal.returns-clause-line_feed
returns-clause-line_feed c = reads_no_request 1000 true false (codes "\n") _ refl refl

pub returns-clause-lone_return : goal.returns-clause-lone_return
returns-clause-lone_return c = reads_no_request 1000 true false (codes "\r\n\r") _ refl refl

pub returns-clause-lone_returns : goal.returns-clause-lone_returns
returns-clause-lone_returns c = reads_no_request 1000 true false (codes "\r\r") _ refl refl

pub returns-clause-begun : goal.returns-clause-begun
returns-clause-begun c = reads_no_request 1000 true false (codes "\r\nG") _ refl refl

pub returns-clause-no_response : goal.returns-clause-no_response
returns-clause-no_response c = reads_no_response 1000 false true [] _ refl refl

pub returns-clause-no_response_yet : goal.returns-clause-no_response_yet
returns-clause-no_response_yet c = reads_no_response 1000 false false (codes "\r\n") _ refl refl
