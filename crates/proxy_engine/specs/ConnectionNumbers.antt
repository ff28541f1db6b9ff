-- Numbers and places. A connection has a number from 1 on, by which happenings and effects name it, and the core its
-- exchange; it stands in the list of connections at a place from 0 on. Links have numbers from that of the first on.
--
-- connection_number_of_place, place_of_connection_number: of a connection      link_number_of_place, link_place: of a
-- link, behind the first number
-- link_number_if_in_64_bits: the number of the link at a place, where there is one
use Rattle.std.specs.Prelude.{ℕ, ◌+◌, ◌-◌, ◌^◌, nat_lt, if◌then◌else◌, Option, None, Some}

abbrev pub connection_number_of_place : ℕ → ℕ
connection_number_of_place place = place + 1

abbrev pub place_of_connection_number : ℕ → ℕ
place_of_connection_number number = number - 1

abbrev pub link_number_of_place : ℕ → ℕ → ℕ
link_number_of_place first place = first + place

abbrev pub link_place : ℕ → ℕ → ℕ
link_place first number = number - first

-- numbers end with the greatest of 64 bits
abbrev pub link_number_if_in_64_bits : ℕ → ℕ → Option ℕ
link_number_if_in_64_bits first place =
    if nat_lt (link_number_of_place first place) (2 ^ 64) then Some (link_number_of_place first place) else None
