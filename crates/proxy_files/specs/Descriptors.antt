-- How many descriptors a server may want, and how many connections there can be where so many are allowed.
use Rattle.std.specs.Prelude.{ℕ, ◌+◌, ◌-◌, ◌/◌, ◌^◌, min, max}

-- the listener, the log, the record, the table, and what the system wants besides
abbrev pub descriptors_besides_connections : ℕ
descriptors_besides_connections = 16

-- one for each connection of a client and each link; a sum too great for 64 bits counts as the greatest number
abbrev pub descriptors_wanted : ℕ → ℕ → ℕ
descriptors_wanted connections links =
    min (min (connections + links) (2 ^ 64 - 1) + descriptors_besides_connections) (2 ^ 64 - 1)

-- a quarter of those allowed at most is for links; one client at least can connect
abbrev pub connections_within_descriptors : ℕ → ℕ → ℕ
connections_within_descriptors allows links = max (allows - min links (allows / 4) - descriptors_besides_connections) 1
