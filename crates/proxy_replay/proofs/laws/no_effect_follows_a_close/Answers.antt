use Rattle.std.proofs.Common.{refl}
use Rattle.proxy_replay.specs.Played.{initial_play_state}
use Rattle.proxy_replay.proofs.Overs.{no_effect_follows_a_close}
use Rattle.proxy_replay.proofs.laws.no_effect_follows_a_close.Goals as goal

pub returns : goal.returns
returns c = λ table items emitted last h.
    no_effect_follows_a_close c.effects_name_open_ends.ensures.takes c.effects_name_open_ends.ensures.acts c.ended_connections_and_links_stay_ended.ensures.takes c.ended_connections_and_links_stay_ended.ensures.acts c.an_act_has_three_effects_at_most.ensures
    (initial_play_state table) items emitted last h (c.effects_name_open_ends.ensures.first _ 1 refl)
