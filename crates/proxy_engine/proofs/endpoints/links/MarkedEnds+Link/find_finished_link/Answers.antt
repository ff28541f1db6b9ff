use Rattle.std.proofs.Common.{ap, Some}
use Rattle.proxy_engine.specs.Pairing.{owner_of_open_link}
use Rattle.proxy_engine.specs.EngineModel.{no_link}
use Rattle.proxy_engine.specs.Due.{IsDueLinkResult}
use Rattle.proxy_engine.specs.State.{LinkRepresents, link_result_at, work_left_of_link}
use Rattle.proxy_engine.specs.Marked.{LinkAfterLookahead, link_may_be_due}
use Rattle.proxy_engine.proofs.Searching.{both_alike, map_alike, sum_alike}
use Rattle.proxy_engine.proofs.Marking.{no_finish_due, no_finish_due_over}
use Rattle.proxy_engine.proofs.Finding.{due_found}
use Rattle.proxy_engine.proofs.Exhausting.{stops_at}
use Rattle.proxy_engine.proofs.Acting.{on_ok, stays_err}
use Rattle.proxy_engine.proofs.endpoints.links.MarkedEnds+Link.find_finished_link.Goals as goal

pub returns-clause-represents : goal.returns-clause-represents
returns-clause-represents c = both_alike LinkAfterLookahead LinkRepresents (λ x y r. r.represents) c.args.self.now.items c.find.new.self.items c.find.ensures.length c.find.ensures.alike

pub returns-clause-found : goal.returns-clause-found
returns-clause-found c = on_ok c.find.result _ _ (λ r h. due_found LinkRepresents IsDueLinkResult link_may_be_due no_link link_result_at c.find.new.self.items no_finish_due no_finish_due_over r h) c.find.ensures.found

pub returns-clause-failed : goal.returns-clause-failed
returns-clause-failed c = stays_err c.find.result _ _ (λ h. stops_at c.find.new.self.items h) c.find.ensures.failed

pub returns-clause-owners : goal.returns-clause-owners
returns-clause-owners c = map_alike LinkAfterLookahead owner_of_open_link (λ x y r. ap Some r.connection) c.args.self.now.items c.find.new.self.items c.find.ensures.length c.find.ensures.alike

pub returns-clause-load : goal.returns-clause-load
returns-clause-load c = sum_alike LinkAfterLookahead work_left_of_link (λ x y r. r.load) c.args.self.now.items c.find.new.self.items c.find.ensures.length c.find.ensures.alike
