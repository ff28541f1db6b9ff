use Rattle.proxy_engine.proofs.Doing.{acts_in_one_way, has_one_trace}
use Rattle.proxy_engine.proofs.OneRun.{no_other_effects, no_other_act, no_other_moment, nothing_untaken, no_more_items, nothing_undone}
use Rattle.proxy_engine.proofs.laws.run_laws.a_run_refuses_what_was_not_done.Goals as goal

pub returns : goal.returns
returns c = record {
  effects = no_other_effects (has_one_trace c.request_is_asked_in_one_way.ensures) (acts_in_one_way c.request_is_asked_in_one_way.ensures);
  act = no_other_act (has_one_trace c.request_is_asked_in_one_way.ensures);
  moment = no_other_moment;
  taken = nothing_untaken (has_one_trace c.request_is_asked_in_one_way.ensures);
  items = no_more_items;
  nothing = nothing_undone;
}
