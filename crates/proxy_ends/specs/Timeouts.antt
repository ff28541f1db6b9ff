-- Whose time is over. Times are milliseconds of the clock that never goes back; what lies ahead of now is now.
--
-- has_lasted_longer: something was so for longer      close_timeout_is_over: of who was closed
-- client_is_half_closed_and_idle_too_long: of who has sent its end           incomplete_since: since when a request has
-- been
-- incomplete
-- milliseconds_since: for how long something is so, if at all
-- client_is_silent, client_is_absent_or_half_closed_too_long: of the client of a number; who isn't there is, and has
-- end_of_wait_of_client_if_any, client_waited_seconds_for_another: until when a request waits for the answer to another
-- milliseconds_open_of_link: of a link, 0 where there is none
-- silence_limit_of_link: for how long the origin of a link may send no byte
-- first_overtime_moment_of_link: the first moment of a link at which a time of it may be
-- exceeded_limit_of_link: which time of a link is over
-- IsIdleClientSince, IsIdleClientWithNumber, IsClientNotMarkedHalfClosed: of who may be let go
use Rattle.std.specs.Prelude.{◌≡◌, ℕ, ◌-◌, ◌*◌, min, max, nat_lt, nat_le, Bool, true, false, not, ◌&&◌, ◌||◌}
use Rattle.std.specs.Prelude.{Option, None, Some, is_some, cond, if◌then◌else◌, unwrap_or, option_map}
use Rattle.std.specs.Option.{option_and_then}
use Rattle.proxy_figures.specs.Counts.{count_plus}
use Rattle.proxy_streams.specs.Silence.{end_is_silent}
use Rattle.proxy_ends.specs.Streams.{client_may_have_input, client_is_idle, client_number_of_place}
use Rattle.proxy_ends.specs.declared.clients.client.Client.{Client}
use Rattle.proxy_ends.specs.declared.limits.Limits.{Limits}
use Rattle.proxy_ends.specs.declared.limits.TheConstants.{CLOSE_TIMEOUT_MILLISECONDS}
use Rattle.proxy_ends.specs.declared.limits.TheConstants.{LINGER_MILLISECONDS}
use Rattle.proxy_ends.specs.declared.links.link.Link.{Link}
use Rattle.proxy_streams.specs.declared.peer.Peer.{Peer}
use Rattle.proxy_figures.specs.declared.link_timeouts.ExceededLinkLimit.{ExceededLinkLimit}
use Rattle.proxy_figures.specs.declared.link_timeouts.ExceededLinkLimit.TheVariants.{Connect, Silence, Exchange}
use Rattle.proxy_pacing.specs.declared.stream_queues.ClosedStreamQueue.{ClosedStreamQueue}
use Rattle.proxy_pacing.specs.declared.stream_queues.ClosedStreamQueue.TheVariants.{Leaving, Lingering}

-- since then, if at all, for more than so many milliseconds
abbrev pub has_lasted_longer : ℕ → Option ℕ → ℕ → Bool
has_lasted_longer now None limit = false
has_lasted_longer now (Some since) limit = nat_lt limit (now - since)

-- It has sent its end, and nothing was written since for more than so many milliseconds.
abbrev pub client_is_half_closed_and_idle_too_long : ℕ → Option ℕ → ℕ → ℕ → Bool
client_is_half_closed_and_idle_too_long now None heard limit = false
client_is_half_closed_and_idle_too_long now (Some left) heard limit = nat_lt limit (now - max left heard)

-- What was closed has something to take and is silent, or has taken all and is quiet, or goes on sending for too long.
abbrev pub close_timeout_is_over : ClosedStreamQueue → Limits → ℕ → ℕ → ℕ → Bool
close_timeout_is_over Leaving limits now heard closed =
    nat_lt (min limits.client_timeout CLOSE_TIMEOUT_MILLISECONDS) (now - heard)
close_timeout_is_over Lingering limits now heard closed =
    nat_lt LINGER_MILLISECONDS (now - heard) || nat_lt CLOSE_TIMEOUT_MILLISECONDS (now - closed)

-- a request that comes has been incomplete since it was asked for first
abbrev pub incomplete_since : ℕ → Option ℕ → Option ℕ
incomplete_since now None = Some now
incomplete_since now (Some since) = Some since

-- For how long its origin may send no byte: so many seconds where the line over which its request went forward says so,
-- else what is said of all.
abbrev pub silence_limit_of_link : {S : Type 0} → Limits → Link S → ℕ
silence_limit_of_link limits link =
    unwrap_or (option_map (λ seconds. seconds * 1000) link.seconds) limits.origin_timeout

-- a link whose request went forward over a line that says so many seconds, or nothing of it
abbrev pub link_given_origin_timeout : {S : Type 0} → Option ℕ → Link S → Link S
link_given_origin_timeout seconds link = record link { seconds = seconds }

-- Which time is over: of a link as a whole, else, while its connection isn't made, of that, else of
-- the origin's silence.
abbrev pub exceeded_link_time_limit : Limits → ℕ → ℕ → Bool → Bool → Option ExceededLinkLimit
exceeded_link_time_limit limits now began connecting silent =
    if nat_lt limits.exchange_timeout (now - began) then Some Exchange
    else if connecting then (if nat_lt limits.connect_timeout (now - began) then Some Connect else None)
    else if silent then Some Silence else None

-- none of a link without a stream
abbrev pub exceeded_limit_of_link : {S : Type 0} → Link S → Limits → ℕ → Option ExceededLinkLimit
exceeded_limit_of_link link limits now =
    option_and_then (λ peer. exceeded_link_time_limit limits now link.began peer.connecting
    (end_is_silent peer.readable peer.unsent.bytes now peer.heard (silence_limit_of_link limits link))) link.peer

-- The time of a link is over, also where it has no stream, or isn't there.
abbrev pub link_time_is_over : {S : Type 0} → Option (Link S) → Limits → ℕ → Bool
link_time_is_over None limits now = true
link_time_is_over (Some link) limits now = not (is_some link.peer) || is_some (exceeded_limit_of_link link limits now)

abbrev pub milliseconds_since : ℕ → Option ℕ → ℕ
milliseconds_since now None = 0
milliseconds_since now (Some since) = now - since

-- nothing of it waits to be read, and no byte came or went for more than so many milliseconds
abbrev pub client_is_silent : {S : Type 0} → ℕ → ℕ → Option (Client S) → Bool
client_is_silent limit now None = true
client_is_silent limit now (Some client) = not (client_may_have_input client) && nat_lt limit (now - client.peer.heard)

abbrev pub client_is_absent_or_half_closed_too_long : {S : Type 0} → ℕ → ℕ → Option (Client S) → Bool
client_is_absent_or_half_closed_too_long limit now None = true
client_is_absent_or_half_closed_too_long limit now (Some client) =
    client_is_half_closed_and_idle_too_long now client.left client.peer.heard limit

abbrev pub moment_has_come : ℕ → Option ℕ → Bool
moment_has_come now None = false
moment_has_come now (Some moment) = nat_le moment now

-- when a request that came then has waited for so many seconds
abbrev pub end_of_wait_since : ℕ → Option ℕ → Option ℕ
end_of_wait_since seconds None = None
end_of_wait_since seconds (Some asked) = Some (count_plus asked (seconds * 1000))

abbrev pub end_of_wait_of_client_if_any : {S : Type 0} → ℕ → Option (Client S) → Option ℕ
end_of_wait_of_client_if_any seconds None = None
end_of_wait_of_client_if_any seconds (Some client) = end_of_wait_since seconds client.asked

-- The request of a client, of which the first byte came then, has waited for the answer to another for so many seconds.
abbrev pub client_waited_seconds_for_another : {S : Type 0} → ℕ → ℕ → Option (Client S) → Bool
client_waited_seconds_for_another seconds now client = moment_has_come now (end_of_wait_of_client_if_any seconds client)

abbrev pub milliseconds_open_of_link : {S : Type 0} → ℕ → Option (Link S) → ℕ
milliseconds_open_of_link now None = 0
milliseconds_open_of_link now (Some link) = now - link.began

-- the end of the time for its connection, or for its silence
abbrev pub peer_timeout_moment : {S : Type 0} → Limits → ℕ → ℕ → Option (Peer S) → ℕ
peer_timeout_moment limits silence began None = count_plus began limits.exchange_timeout
peer_timeout_moment limits silence began (Some peer) =
    if peer.connecting then count_plus began limits.connect_timeout else count_plus peer.heard silence

abbrev pub link_timeout_moment : {S : Type 0} → Limits → Link S → ℕ
link_timeout_moment limits link = peer_timeout_moment limits (silence_limit_of_link limits link) link.began link.peer

-- the first moment at which that, or all of its time, is over
abbrev pub first_overtime_moment_of_link : {S : Type 0} → Limits → Link S → ℕ
first_overtime_moment_of_link limits link =
    count_plus (min (count_plus link.began limits.exchange_timeout) (link_timeout_moment limits link)) 1

-- a client is between two requests, since then; or under this number
abbrev pub IsIdleClientSince : {S : Type 0} → ℕ → Option (Client S) → Type 0
IsIdleClientSince moment None = ⊥
IsIdleClientSince moment (Some client) = (client_is_idle client ≡ true) × (client.idle_since ≡ moment)

abbrev pub IsIdleClientWithNumber : {S : Type 0} → ℕ → Option (Client S) → Type 0
IsIdleClientWithNumber n None = ⊥
IsIdleClientWithNumber n (Some client) = (client_is_idle client ≡ true) × (client_number_of_place client.place ≡ Some n)

-- a client of this number that stands among those that have sent their end no more
abbrev pub IsClientNotMarkedHalfClosed : {S : Type 0} → ℕ → Option (Client S) → Type 0
IsClientNotMarkedHalfClosed n None = ⊥
IsClientNotMarkedHalfClosed n (Some client) = (client.departed_mark ≡ None)
    × (client_number_of_place client.place ≡ Some n)
