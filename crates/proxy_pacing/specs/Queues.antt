-- Queues of streams that were closed, by their stamps.
--
-- entries_of_stream_queue: one of them       longest_waiting_in_queue: who has stood longest in it
-- OnlyQueueChangesToEntries: so a queue is now, and the other one is as it was
-- first_entry_from: the first in a queue from a stamp on
use Rattle.std.specs.Prelude.{◌≡◌, ℕ, List, Option, not, nat_lt, filter, slice_get}
use Rattle.std.specs.Option.{option_map}
use Rattle.std.specs.BTreeMap.{BTreeMap}
use Rattle.proxy_pacing.specs.declared.stream_queues.ClosedStreamQueue.{ClosedStreamQueue}
use Rattle.proxy_pacing.specs.declared.stream_queues.ClosedStreamQueue.TheVariants.{Leaving, Lingering}
use Rattle.proxy_pacing.specs.declared.stream_queues.ClosedStreamQueues.{ClosedStreamQueues}

abbrev pub entries_of_stream_queue : ClosedStreamQueue → ClosedStreamQueues → BTreeMap ℕ ℕ
entries_of_stream_queue Leaving queues = queues.leaving
entries_of_stream_queue Lingering queues = queues.lingering

abbrev pub longest_waiting_in_queue : BTreeMap ℕ ℕ → Option ℕ
longest_waiting_in_queue line = option_map (λ e. e.1) (slice_get line.entries 0)

-- each stream with its stamp, the least first; and of the other queue, and of the stamp of who comes next, nothing
-- changed
abbrev pub OnlyQueueChangesToEntries : ClosedStreamQueue → List (ℕ × ℕ) → ClosedStreamQueues → ClosedStreamQueues
    → Type 0
OnlyQueueChangesToEntries Leaving entries old new = (new.leaving.entries ≡ entries)
    × (new ≡ record old { leaving = new.leaving })
OnlyQueueChangesToEntries Lingering entries old new =
    (new.lingering.entries ≡ entries) × (new ≡ record old { lingering = new.lingering })

abbrev pub first_entry_from : ℕ → List (ℕ × ℕ) → Option (ℕ × ℕ)
first_entry_from stamp entries = slice_get (filter (λ e. not (nat_lt e.0 stamp)) entries) 0
