-- By which bound a time is counted.
use Rattle.std.specs.Prelude.{ℕ, nat_lt, if◌then◌else◌}

-- the place of a time in milliseconds among the bounds: the first that isn't below it, else the one behind all
abbrev pub time_bucket_of : ℕ → ℕ
time_bucket_of t =
    if nat_lt t 2 then 0 else if nat_lt t 6 then 1 else if nat_lt t 11 then 2
    else if nat_lt t 51 then 3 else if nat_lt t 101 then 4
    else if nat_lt t 501 then 5 else if nat_lt t 1001 then 6 else if nat_lt t 5001 then 7 else if nat_lt t 10001 then 8
    else if nat_lt t 30001 then 9 else if nat_lt t 60001 then 10 else 11
