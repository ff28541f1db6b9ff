use Rattle.std.proofs.Common.{refl}
use Rattle.proxy_replay.specs.Played.{initial_play_state}
use Rattle.proxy_replay.proofs.Overs.{each_ends_with_its_drop, each_drop_is_emitted}
use Rattle.proxy_replay.proofs.laws.each_link_is_dropped_once.Goals as goal

pub returns : goal.returns
returns c = λ table items emitted last h. record {
  once = each_ends_with_its_drop c.effects_name_open_ends.ensures.takes c.effects_name_open_ends.ensures.acts c.ended_connections_and_links_stay_ended.ensures.takes c.ended_connections_and_links_stay_ended.ensures.acts c.an_act_has_three_effects_at_most.ensures
      (initial_play_state table) items emitted last h (c.effects_name_open_ends.ensures.first _ 1 refl);
  each_has_a_drop = each_drop_is_emitted c.ended_connections_and_links_stay_ended.ensures.takes c.ended_connections_and_links_stay_ended.ensures.acts c.each_drop_is_emitted.ensures.acts c.each_drop_is_emitted.ensures.takes (initial_play_state table) items emitted last refl h;
}
