use Rattle.std.proofs.Common.{[]}
use Rattle.proxy_replay.proofs.Running.{plays_run, nothing_is_held}
use Rattle.proxy_replay.proofs.laws.each_play_is_a_good_run.Goals as goal

pub returns : goal.returns
returns c = record {
  empty = λ table items effects last. plays_run table [] 1 items effects last (nothing_is_held table 1);
  over = plays_run;
}
