-- What is counted of an origin, and whether a link to it may be begun.
--
-- is_silent, is_crowded: of an origin
-- admission_of_link_to_origin, admission_of_known_origin: whether a further link may be begun
-- origin_with_refusal_if_not_admitted, origin_with_answer, origin_with_written_bytes, origin_heard_with_received_bytes:
-- an origin, with one
-- thing more counted
-- origin_with_failure, origin_with_failure_covered_by_store, origin_with_reply: where it failed, or by the reply that
-- was made of it
-- origin_with_link_begun, origin_with_link_ended, origin_with_one_more_silence: where a link is begun, has ended, or
-- had no answer
-- falls_silent: an origin is silent from this exchange on
-- IsFreshOriginOfAddress: an origin of which nothing is counted
-- origin_changed_at: the origins, where the one at a place is changed
-- name_of_origin: its name, empty where there is none
use Rattle.std.specs.Prelude.{◌≡◌, ℕ, ◌-◌, ◌/◌, nat_le, Bool, true, false, not, ◌&&◌, ◌||◌, if◌then◌else◌, List, []}
use Rattle.std.specs.Prelude.{Option, None, Some, string_bytes, option_map, replicate, slice_get, slice_set, unwrap_or}
use Rattle.std.specs.Net.Text.{socket_v4_text}
use Rattle.std.specs.declared.net.socket_addr.SocketAddrV4.{SocketAddrV4}
use Rattle.proxy_figures.specs.Counts.{count_plus_one, count_plus, counts_with_one_more}
use Rattle.proxy_figures.specs.ReplyCounts.{empty_reply_times, reply_times_with}
use Rattle.proxy_figures.specs.Sorts.{is_failure_covered_by_store}
use Rattle.proxy_figures.specs.declared.limits.TheConstants.{SILENT_EXCHANGES}
use Rattle.proxy_figures.specs.declared.origins.TheConstants.{FAILURE_KIND_COUNT, STATUS_CLASS_COUNT}
use Rattle.proxy_figures.specs.declared.origins.LinkAdmission.{LinkAdmission}
use Rattle.proxy_figures.specs.declared.origins.LinkAdmission.TheVariants.{Yes, AsProbe, No}
use Rattle.proxy_figures.specs.declared.origins.Origin.{Origin}
use Rattle.proxy_figures.specs.declared.sorts.Cause.{Cause}
use Rattle.proxy_figures.specs.declared.sorts.Cause.TheVariants as cause
use Rattle.proxy_figures.specs.declared.sorts.ReplySort.{ReplySort}

-- so many exchanges in a row were timed out, or couldn't connect
abbrev pub is_silent : Origin → Bool
is_silent origin = nat_le SILENT_EXCHANGES origin.silences

-- seven eighths of the links that may be open are
abbrev pub is_crowded : ℕ → Origin → Bool
is_crowded most origin = nat_le (most - most / 8) origin.open

-- No link beyond as many as may be open; where silent origins are asked by one request at a time, one that asks.
abbrev pub admission_of_link_to_origin : ℕ → Bool → Origin → LinkAdmission
admission_of_link_to_origin most probes origin =
    if nat_le most origin.open then No
    else if not probes || not (is_silent origin) then Yes
    else if origin.is_probed then No else AsProbe

abbrev pub admission_of_known_origin : ℕ → Bool → Option Origin → LinkAdmission
admission_of_known_origin most probes None = No
admission_of_known_origin most probes (Some origin) = admission_of_link_to_origin most probes origin

-- a refusal is counted by its cause
abbrev pub origin_with_refusal_if_not_admitted : LinkAdmission → ℕ → Origin → Origin
origin_with_refusal_if_not_admitted Yes most origin = origin
origin_with_refusal_if_not_admitted AsProbe most origin = origin
origin_with_refusal_if_not_admitted No most origin =
    if nat_le most origin.open then record origin { refused_beyond_bound = count_plus_one origin.refused_beyond_bound }
    else record origin { while_silent = count_plus_one origin.while_silent }

-- an answer counts by the hundred of its status
abbrev pub origin_with_answer : ℕ → Origin → Origin
origin_with_answer status origin = record origin { answers = counts_with_one_more origin.answers (status / 100 - 2) }

-- one failure more, by its kind; the kinds stand in the order of their words on the page of figures
abbrev pub failure_counts_with : Cause → List ℕ → List ℕ
failure_counts_with cause.OriginRefused failures = counts_with_one_more failures 0
failure_counts_with cause.OriginTimedOut failures = counts_with_one_more failures 1
failure_counts_with cause.OriginClosed failures = counts_with_one_more failures 2
failure_counts_with cause.OriginBadAnswer failures = counts_with_one_more failures 3
failure_counts_with cause.OriginTooLarge failures = counts_with_one_more failures 4
failure_counts_with other failures = failures

abbrev pub origin_with_failure : Cause → Origin → Origin
origin_with_failure cause origin = record origin { failures = failure_counts_with cause origin.failures }

-- one failure more for which a stored response was sent
abbrev pub origin_with_failure_covered_by_store : Origin → Origin
origin_with_failure_covered_by_store origin = record origin { failures = counts_with_one_more origin.failures 5 }

-- Of an origin that answered it is the status of its own answer, where another was sent.
abbrev pub origin_with_answer_or_covered_failure : ℕ → ReplySort → Origin → Origin
origin_with_answer_or_covered_failure status sort origin =
    if is_failure_covered_by_store sort then origin_with_failure_covered_by_store origin
    else origin_with_answer (unwrap_or sort.fwd_status status) origin

abbrev pub origin_with_failure_or_answer : Option Cause → ℕ → ReplySort → Origin → Origin
origin_with_failure_or_answer (Some cause) status sort origin = origin_with_failure cause origin
origin_with_failure_or_answer None status sort origin = origin_with_answer_or_covered_failure status sort origin

-- By the reply that was made of what an origin said or did: its failure, one that a stored response covered, or its
-- answer. Each counts once.
abbrev pub origin_with_reply : ℕ → ReplySort → Origin → Origin
origin_with_reply status sort origin = origin_with_failure_or_answer sort.cause status sort origin

abbrev pub origin_with_written_bytes : ℕ → Origin → Origin
origin_with_written_bytes written origin = record origin { written = count_plus origin.written written }

-- bytes came: it isn't silent
abbrev pub origin_heard_with_received_bytes : ℕ → Origin → Origin
origin_heard_with_received_bytes count origin = record
    origin { silences = 0; received = count_plus origin.received count }

-- a link is begun, and has ended after so many milliseconds; one that isn't admitted is none
abbrev pub origin_with_link_begun : LinkAdmission → Origin → Origin
origin_with_link_begun No origin = origin
origin_with_link_begun Yes origin =
    record origin { begun = count_plus_one origin.begun; «open» = count_plus_one origin.open }
origin_with_link_begun AsProbe origin =
    record origin { begun = count_plus_one origin.begun; «open» = count_plus_one origin.open; is_probed = true }

abbrev pub origin_with_link_ended : LinkAdmission → ℕ → Origin → Origin
origin_with_link_ended No lasted origin = origin
origin_with_link_ended Yes lasted origin =
    record origin { «open» = origin.open - 1; times = reply_times_with lasted origin.times }
origin_with_link_ended AsProbe lasted origin =
    record origin { «open» = origin.open - 1; times = reply_times_with lasted origin.times; is_probed = false }

-- an exchange was timed out, or couldn't connect
abbrev pub origin_with_one_more_silence : Origin → Origin
origin_with_one_more_silence origin = record origin { silences = count_plus_one origin.silences }

-- it wasn't silent, and is from this exchange on
abbrev pub falls_silent : Origin → Bool
falls_silent origin = not (is_silent origin) && is_silent (origin_with_one_more_silence origin)

abbrev pub origin_if_any_falls_silent : Option Origin → Bool
origin_if_any_falls_silent None = false
origin_if_any_falls_silent (Some origin) = falls_silent origin

abbrev pub zero_answer_counts : List ℕ
zero_answer_counts = replicate STATUS_CLASS_COUNT 0

abbrev pub zero_failure_counts : List ℕ
zero_failure_counts = replicate FAILURE_KIND_COUNT 0

-- it has this address, whose text is its name, and nothing is counted of it
pub record IsFreshOriginOfAddress (address : SocketAddrV4) (origin : Origin) : Type 0 where
  pub name : string_bytes origin.name ≡ socket_v4_text address
  pub rest : origin ≡ record {
    address = address;
    name = origin.name;
    begun = 0;
    «open» = 0;
    times = empty_reply_times;
    received = 0;
    written = 0;
    answers = zero_answer_counts;
    failures = zero_failure_counts;
    silences = 0;
    is_probed = false;
    refused_beyond_bound = 0;
    while_silent = 0;
  }

-- this one stands at the place, if there is one
abbrev pub with_origin_at : ℕ → Option Origin → List Origin → List Origin
with_origin_at place None origins = origins
with_origin_at place (Some origin) origins = slice_set origins place origin

-- the origins, where the one at this place is changed, if there is one; no other is
abbrev pub origin_changed_at : ℕ → (Origin → Origin) → List Origin → List Origin
origin_changed_at place change origins = with_origin_at place (option_map change (slice_get origins place)) origins

abbrev pub name_of_origin : Option Origin → List ℕ
name_of_origin None = []
name_of_origin (Some origin) = string_bytes origin.name
