-- How turns are counted.
use Rattle.proxy_figures.specs.Counts.{count_plus_one}
use Rattle.proxy_figures.specs.declared.turn_counts.TurnEnd.{TurnEnd}
use Rattle.proxy_figures.specs.declared.turn_counts.TurnEnd.TheVariants as ends
use Rattle.proxy_figures.specs.declared.turn_counts.Turns.{Turns}

-- one more, and one more of those that ended early
abbrev pub turns_with_one_more : Turns → TurnEnd → Turns
turns_with_one_more t ends.Served = record t { served = count_plus_one t.served }
turns_with_one_more t ends.WithoutListener =
    record t { served = count_plus_one t.served; without_listener = count_plus_one t.without_listener }
turns_with_one_more t ends.WithoutMemory =
    record t { served = count_plus_one t.served; without_memory = count_plus_one t.without_memory }
