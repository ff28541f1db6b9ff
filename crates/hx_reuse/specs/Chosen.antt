-- Which held response answers a request, if any does (RFC 9111, sections 4 and 4.1).
--
-- entries_of_key: the held responses of the request's key
-- entries_that_match: those of them whose nominated values it has
-- nominates: it has a Vary                                is_more_recent: by Date
-- is_preferred_over: by both                                   most_preferred_response: of some the one that comes
-- before the
-- others
-- chosen_of: the one that would be sent
use Rattle.std.specs.Prelude.{◌==◌, nat_lt, if◌then◌else◌, Bool, true, false, not, ◌&&◌, ◌||◌}
use Rattle.std.specs.Prelude.{List, filter, Option, Some, None, fold}
use Rattle.hx_target.specs.Keys.{same_key}
use Rattle.hx_vary.specs.Vary.{vary_matches, nominates_any_field}
use Rattle.hx_hop.specs.declared.request_view.Asked.{Asked}
use Rattle.hx_store.specs.Stored.{Stored}

abbrev pub entries_of_key : List Stored → Asked → List Stored
entries_of_key held asked = filter (λ e. same_key e.key asked.target.key) held

abbrev pub entries_that_match : List Stored → Asked → List Stored
entries_that_match held asked = filter (λ e. vary_matches e.nominated asked.fields) (entries_of_key held asked)

-- a field of its request selected it: its Vary names one
-- own: a Vary that names none counts as none
abbrev pub nominates : Stored → Bool
nominates e = nominates_any_field e.nominated

-- the first has a later Date
-- own: of two with one Date the greater serial is taken, so that a run has one outcome
abbrev pub is_more_recent : Stored → Stored → Bool
is_more_recent e f = nat_lt f.times.date e.times.date || ((f.times.date == e.times.date) && nat_lt f.serial e.serial)

-- the first has a Vary and the other has none, or they are alike in this and it is the more recent: "a cache SHOULD
-- choose the most recent .. stored response with a valid Vary field value" (RFC 9111, section 4.1)
abbrev pub is_preferred_over : Stored → Stored → Bool
is_preferred_over e f =
    if nominates e && not (nominates f) then true
    else if nominates f && not (nominates e) then false
    else is_more_recent e f

-- the preferred one of the best so far and one more
abbrev pub preferred_of_two : Option Stored → Stored → Option Stored
preferred_of_two None e = Some e
preferred_of_two (Some best) e = if is_preferred_over e best then Some e else Some best

abbrev pub most_preferred_response : List Stored → Option Stored
most_preferred_response es = fold preferred_of_two None es

-- of those that match the one that comes before the others (RFC 9111, sections 4 and 4.1)
abbrev pub chosen_of : List Stored → Asked → Option Stored
chosen_of held asked = most_preferred_response (entries_that_match held asked)
