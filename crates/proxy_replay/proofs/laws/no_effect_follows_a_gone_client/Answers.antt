use Rattle.std.proofs.Common.{refl}
use Rattle.proxy_replay.specs.Played.{initial_play_state}
use Rattle.proxy_replay.proofs.Overs.{no_effect_follows_a_gone_client}
use Rattle.proxy_replay.proofs.laws.no_effect_follows_a_gone_client.Goals as goal

pub returns : goal.returns
returns c = λ table items more n emitted last h.
    let p = no_effect_follows_a_gone_client c.effects_name_open_ends.ensures.takes c.effects_name_open_ends.ensures.acts c.ended_connections_and_links_stay_ended.ensures.takes c.ended_connections_and_links_stay_ended.ensures.acts c.an_act_has_three_effects_at_most.ensures
    (initial_play_state table) items more n emitted last h (c.effects_name_open_ends.ensures.first _ 1 refl) in
    record { before = p.0; behind = p.1; there = p.2; plays = p.3; emitted_is = p.4; silent = p.5 }
