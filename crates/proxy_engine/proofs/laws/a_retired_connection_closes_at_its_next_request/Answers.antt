use Rattle.proxy_engine.proofs.Retiring.{marks_its_connection, each_later_request_closes, others_come_as_they_are_asked}
use Rattle.proxy_engine.proofs.laws.a_retired_connection_closes_at_its_next_request.Goals as goal

pub returns : goal.returns
returns c = record { marks = marks_its_connection; closes = each_later_request_closes; others = others_come_as_they_are_asked }
