-- Which line of the operator's table decides on a request.
--
-- matches_line: one of a line's hosts, one of its methods and one of its paths match
-- verdict_of: the first line that matches
-- verdict_of_request: what the whole table says of a whole request
-- origin_of, origin_address_of, line_policy: what the line of a number says
-- policy_of: what counts for a request, by its way over a line
use Rattle.std.specs.Prelude.{◌≤◌, IsSome, ℕ, ◌+◌, ◌-◌, ◌==◌, nat_lt, nat_le, Bool, false, not, ◌&&◌, ◌||◌}
use Rattle.std.specs.Prelude.{if◌then◌else◌}
use Rattle.std.specs.Prelude.{List, [], ◌∷◌, length, take, slice_index, slice_get, codes, bytes_eq, Option}
use Rattle.std.specs.Prelude.{Some, None, is_some, unwrap_or, option_map}
use Rattle.std.specs.Option.{option_and_then}
use Rattle.std.specs.List.{list_any}
use Rattle.std.specs.declared.net.socket_addr.SocketAddrV4.{SocketAddrV4}
use Rattle.hx_fields.specs.Line.{Field}
use Rattle.hx_target.specs.declared.targets.Target.{Target}
use Rattle.hx_policy.specs.declared.words.Policy.{Policy}
use Rattle.hx_policy.specs.Policies.{plain, default_policy_with_hidden_tags}
use Rattle.hx_allow.specs.Addresses.{address_of}
use Rattle.hx_allow.specs.LineHosts.{any_host_matches}
use Rattle.hx_allow.specs.Cookies.{has_cookie_among}
use Rattle.hx_allow.specs.Purges.{asks_to_purge_with_key}
use Rattle.hx_allow.specs.TableLines.{Line, Table}
use Rattle.hx_allow.specs.declared.verdicts.RouteOverLine.{RouteOverLine}
use Rattle.hx_allow.specs.Values.{is_some_and}
use Rattle.hx_allow.specs.Via.{times_in_via, via_names_proxy_twice}
use Rattle.hx_allow.specs.declared.verdicts.Verdict.{Verdict}
use Rattle.hx_allow.specs.declared.verdicts.Verdict.TheVariants.{Allowed, DeniedBy, NoLine, Looped, Purged}

-- own: methods that no line allows: a tunnel, and two that need Max-Forwards (RFC 9110, sections 7.6.2 and 9.3.6)
abbrev pub method_is_never_allowed : List ℕ → Bool
method_is_never_allowed method = bytes_eq method (codes "CONNECT") || bytes_eq method (codes "TRACE") || bytes_eq method (codes "OPTIONS")

abbrev pub is_star_or_same : List ℕ → List ℕ → Bool
is_star_or_same method text = bytes_eq text (codes "*") || bytes_eq text method

-- methods compare with their case (RFC 9110, section 9.1)
abbrev pub matches_method : List (List ℕ) → List ℕ → Bool
matches_method methods method = not (method_is_never_allowed method) && list_any (is_star_or_same method) methods

-- the path of a line begins the asked one, and a slash follows
abbrev pub is_below_path : List ℕ → List ℕ → Bool
is_below_path path asked =
    nat_lt (length path) (length asked) && bytes_eq (take (length path) asked) path
    && (slice_index asked (length path) == 47)

-- `/` matches all; any other path itself and what continues it with a slash
abbrev pub matches_path : List ℕ → List ℕ → Bool
matches_path path asked = bytes_eq path (codes "/") || bytes_eq path asked || is_below_path path asked

-- one of some paths matches
abbrev pub any_path_matches : List (List ℕ) → List ℕ → Bool
any_path_matches paths asked = list_any (λ path. matches_path path asked) paths

unfoldable pub matches_line : Line → List ℕ → Target → Bool
matches_line line method target =
    any_host_matches line.hosts target.key.host && matches_method line.methods method
    && any_path_matches line.paths target.table_path

-- the way over the line of a number for a request that doesn't go past the store
abbrev pub route_over_line : ℕ → RouteOverLine
route_over_line n = record { number = n; past_store = false }

-- what a line of this number says where it decides
abbrev pub verdict_of_line : ℕ → Line → Verdict
verdict_of_line n line = if is_some line.origin then Allowed (route_over_line n) else DeniedBy n

-- the first line that matches, where the first of the list has this number
abbrev pub verdict_from : ℕ → List Line → List ℕ → Target → Verdict
verdict_from n [] method target = NoLine
verdict_from n (line ∷ lines) method target =
    if matches_line line method target then verdict_of_line n line else verdict_from (n + 1) lines method target

-- the first line that matches; lines are counted from 1
unfoldable pub verdict_of : List Line → List ℕ → Target → Verdict
verdict_of lines method target = verdict_from 1 lines method target

-- the line of a number, where it stands; lines are counted from 1
abbrev pub line_of_number : List Line → ℕ → Option Line
line_of_number lines n = if n == 0 then None else slice_get lines (n - 1)

-- the origin of the line with this number, where it stands and doesn't deny
abbrev pub origin_of : List Line → ℕ → Option (List ℕ)
origin_of lines n = option_and_then (λ (line : Line). line.origin) (line_of_number lines n)

-- its address
abbrev pub origin_address_of : List Line → ℕ → Option SocketAddrV4
origin_address_of lines n = option_and_then address_of (origin_of lines n)

-- what the line with this number says of caching; what no line says anything of isn't kept
abbrev pub line_policy : List Line → ℕ → Policy
line_policy lines n = unwrap_or (option_map (λ (line : Line). line.policy) (line_of_number lines n)) (plain false)

-- what counts for a request that goes this way; past the store it is what a line without cache says, and whether tags
-- are hidden is as over the line
unfoldable pub policy_of : List Line → RouteOverLine → Policy
policy_of lines route =
    if route.past_store then default_policy_with_hidden_tags (line_policy lines route.number).hides_tags false
    else line_policy lines route.number

-- a line of this number stands and has an origin
abbrev pub LineHasOrigin : List Line → ℕ → Type 0
LineHasOrigin lines n = (1 ≤ n) × IsSome (origin_of lines n)

-- where the verdict allows, its line stands and has an origin
abbrev pub VerdictNamesAnOrigin : List Line → Verdict → Type 0
VerdictNamesAnOrigin lines (Allowed route) = LineHasOrigin lines route.number
VerdictNamesAnOrigin lines (DeniedBy n) = Unit {0}
VerdictNamesAnOrigin lines NoLine = Unit {0}
VerdictNamesAnOrigin lines (Looped n) = Unit {0}
VerdictNamesAnOrigin lines (Purged n) = Unit {0}

-- the number of the line that decided
abbrev pub deciding_line_number : Verdict → Option ℕ
deciding_line_number (Allowed route) = Some route.number
deciding_line_number (DeniedBy n) = Some n
deciding_line_number NoLine = None
deciding_line_number (Looped n) = Some n
deciding_line_number (Purged n) = Some n

-- the line of this number refuses requests that loop
abbrev pub line_refuses_loops : List Line → ℕ → Bool
line_refuses_loops lines n =
    unwrap_or (option_map (λ (line : Line). line.refuses_loops) (line_of_number lines n)) false

-- over a line that refuses loops a request was here before
abbrev pub request_is_refused_as_loop : Table → RouteOverLine → List Field → Bool
request_is_refused_as_loop table route fields =
    line_refuses_loops table.lines route.number && nat_le 1 (times_in_via table.name fields)

-- what is said of a request that a line allows, by whether it loops
abbrev pub verdict_after_loop_check : List Line → Bool → Verdict → Verdict
verdict_after_loop_check lines loops (Allowed route) =
    if line_refuses_loops lines route.number && loops then Looped route.number else Allowed route
verdict_after_loop_check lines loops (DeniedBy n) = DeniedBy n
verdict_after_loop_check lines loops NoLine = NoLine
verdict_after_loop_check lines loops (Looped n) = Looped n
verdict_after_loop_check lines loops (Purged n) = Purged n

-- the names of the cookies whose requests go past the store, over the line of this number
abbrev pub session_cookies_of : List Line → ℕ → List (List ℕ)
session_cookies_of lines n = unwrap_or (option_map (λ (line : Line). line.session_cookies) (line_of_number lines n)) []

-- the fields that count as if the Vary of an answer named them, over the line of this number
abbrev pub vary_names_of_line : List Line → ℕ → List (List ℕ)
vary_names_of_line lines n = unwrap_or (option_map (λ (line : Line). line.vary) (line_of_number lines n)) []

-- for how many seconds without a byte its origin is waited for, where the line of this number says so
abbrev pub origin_timeout_of : List Line → ℕ → Option ℕ
origin_timeout_of lines n = option_and_then (λ (line : Line). line.origin_timeout) (line_of_number lines n)

-- after how many seconds a request waits no longer for the answer to another, over the line of this number, where there
-- is such a time
abbrev pub wait_timeout_of : List Line → ℕ → Option ℕ
wait_timeout_of lines n = option_and_then (λ (line : Line). line.wait_timeout) (line_of_number lines n)

-- over this line a request goes past the store, since it has such a cookie
abbrev pub request_has_session_cookie_of_line : List Line → ℕ → List Field → Bool
request_has_session_cookie_of_line lines n fields = has_cookie_among (session_cookies_of lines n) fields

-- by which way a request goes that is allowed
abbrev pub verdict_routed_by_session_cookies : List Line → List Field → Verdict → Verdict
verdict_routed_by_session_cookies lines fields (Allowed route) =
    Allowed (record
    { number = route.number; past_store = request_has_session_cookie_of_line lines route.number fields })
verdict_routed_by_session_cookies lines fields (DeniedBy n) = DeniedBy n
verdict_routed_by_session_cookies lines fields NoLine = NoLine
verdict_routed_by_session_cookies lines fields (Looped n) = Looped n
verdict_routed_by_session_cookies lines fields (Purged n) = Purged n

-- the key of the line of this number, where it purges
abbrev pub purge_key_of : List Line → ℕ → Option (List ℕ)
purge_key_of lines n = option_and_then (λ (line : Line). line.purge_key) (line_of_number lines n)

-- the line of this number purges for a request with these fields
abbrev pub line_purges_for_request : List Line → ℕ → List Field → Bool
line_purges_for_request lines n fields = is_some_and (λ key. asks_to_purge_with_key key fields) (purge_key_of lines n)

-- a line that purges denies each request but those that show its key and ask for nothing that isn't known
abbrev pub verdict_after_purge : List Line → List Field → Verdict → Verdict
verdict_after_purge lines fields (Allowed route) = Allowed route
verdict_after_purge lines fields (DeniedBy n) = if line_purges_for_request lines n fields then Purged n else DeniedBy n
verdict_after_purge lines fields NoLine = NoLine
verdict_after_purge lines fields (Looped n) = Looped n
verdict_after_purge lines fields (Purged n) = Purged n

-- What the table says of a request, of which it knows method, target and fields: what the first line says that matches,
-- but that one which refuses loops doesn't allow a request that was here twice already, that a request goes past the
-- store where it has one of the cookies that the line names, and that a line which purges takes one that shows its key.
unfoldable pub verdict_of_request : Table → List ℕ → Target → List Field → Verdict
verdict_of_request table method target fields =
    verdict_after_purge table.lines fields
    (verdict_routed_by_session_cookies table.lines fields
    (verdict_after_loop_check table.lines (via_names_proxy_twice table.name fields)
    (verdict_of table.lines method target)))
