-- What a connection does with the last request that it took.
--
-- link_place_of_activity: the link on which it went forward     has_exchange: its exchange is open
-- is_forwarded_if_exchange: whether the request of its open exchange is at the origin
use Rattle.std.specs.Prelude.{ℕ, Bool, true, false, Option, None, Some}
use Rattle.proxy_engine.specs.declared.endpoints.activities.Activity.{Activity}
use Rattle.proxy_engine.specs.declared.endpoints.activities.Activity.TheVariants.{Free, Forwarded, Waiting}

-- the place of the link on which the request went forward
abbrev pub link_place_of_activity : Activity → Option ℕ
link_place_of_activity Free = None
link_place_of_activity (Forwarded place) = Some place
link_place_of_activity Waiting = None

-- an exchange is open
abbrev pub has_exchange : Activity → Bool
has_exchange Free = false
has_exchange (Forwarded place) = true
has_exchange Waiting = true

-- an exchange is open, and its request is at the origin or waits
abbrev pub is_forwarded_if_exchange : Activity → Option Bool
is_forwarded_if_exchange Free = None
is_forwarded_if_exchange (Forwarded place) = Some true
is_forwarded_if_exchange Waiting = Some false
