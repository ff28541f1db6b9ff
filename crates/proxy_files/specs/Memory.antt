-- What the bounds of a table and of a server come to in memory, in bytes, as docs/LIMITS.md has it.
use Rattle.std.specs.Prelude.{ℕ, Option, None, Some, ◌+◌, ◌-◌, ◌*◌, ◌/◌, ◌%◌, ◌^◌, ◌==◌, min, if◌then◌else◌}

-- the greatest number that is told
abbrev pub greatest : ℕ
greatest = 2 ^ 64 - 1

-- each response with the most content, and 80,000 bytes for its head, its target twice and its nominated values
abbrev pub most_store_bytes_by_entry_count : ℕ → ℕ → ℕ
most_store_bytes_by_entry_count capacity max_stored = min ((max_stored + 80000) * capacity) greatest

-- and no more than all may weigh, with a tenth for what a weight leaves out
abbrev pub most_store_bytes : ℕ → ℕ → Option ℕ → ℕ
most_store_bytes capacity max_stored None = most_store_bytes_by_entry_count capacity max_stored
most_store_bytes capacity max_stored (Some weight) =
    min (most_store_bytes_by_entry_count capacity max_stored) (weight + weight / 10)

-- contents and heads in progress, whose room grows by doubling; and 16 KiB a connection
abbrev pub most_bytes_in_progress : ℕ → ℕ
most_bytes_in_progress content = min (content * 2) greatest

abbrev pub most_bytes_held_beside_store : ℕ → ℕ → ℕ
most_bytes_held_beside_store content connections =
    min (most_bytes_in_progress content + min (connections * 16384) greatest) greatest

-- rounded up
abbrev pub megabytes : ℕ → ℕ
megabytes bytes = if bytes % 1000000 == 0 then bytes / 1000000 else bytes / 1000000 + 1
