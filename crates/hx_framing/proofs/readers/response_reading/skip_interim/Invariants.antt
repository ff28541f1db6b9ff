use Rattle.std.proofs.Common.{◌≡◌, ℕ, ◌-◌, ◌≤◌, List, length, take, drop}
use Rattle.hx_framing.specs.HeadEnd.{head_length, most_head_bytes}
use Rattle.hx_framing.specs.ResponseReading.{SkipsInterimResponses}
use Rattle.hx_framing.proofs.readers.response_reading.skip_interim.Given as goal

-- interim responses take the first bytes; next tells how many the head behind them takes
abbrev pub invariant-loop-next : goal.invariant-loop-next
invariant-loop-next l = (l.at ≤ length l.bytes) × ((sizes : List ℕ) × SkipsInterimResponses l.bytes sizes (drop l.at l.bytes))
    × (l.next ≡ head_length (take most_head_bytes (drop l.at l.bytes)))

abbrev pub decreases-loop-next : goal.decreases-loop-next
decreases-loop-next l = length l.bytes - l.at
