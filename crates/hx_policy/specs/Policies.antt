-- The words of a line, and the statuses that a cache may give a lifetime.
--
-- plain: a line without words of versions 3 and 4     default_policy_with_hidden_tags: the same, in version 4 or before
-- it
-- is_heuristic_status, is_error: statuses
-- lifetime_given_by_policy: what the operator gives
use Rattle.std.specs.Prelude.{ℕ, ◌==◌, nat_le, if◌then◌else◌, Bool, true, false, List, [], ◌∷◌, Option, None}
use Rattle.std.specs.List.{list_any}
use Rattle.hx_policy.specs.declared.words.Policy.{Policy}

-- neither more nor less is stored and reused than the written rules say
abbrev pub plain : Bool → Policy
plain caches = record {
  caches = caches;
  lifetime = None;
  error_lifetime = None;
  lifetime_most = None;
  stale_if_error = None;
  stale_while_revalidate = None;
  stores_cookies = true;
  removes_set_cookie = false;
  gives_to_set_cookie = true;
  gives_to_cookies = true;
  stores_errors = true;
  heeds_requests = true;
  waits_for_stale = false;
  sends_while_revalidating = false;
  explains_storing = false;
  forwards_conditions = true;
  forwards_ranges = true;
  fills_ranges = false;
  hides_tags = false;
}

-- the same in a table of version 4 or before it: in one of version 4 the tags of an answer stay with the proxy
-- ("Tags stay with the proxy")
abbrev pub default_policy_with_hidden_tags : Bool → Bool → Policy
default_policy_with_hidden_tags hides caches = record (plain caches) { hides_tags = hides }

-- the statuses that are heuristically cacheable (RFC 9110, section 15.1)
abbrev pub heuristic_statuses : List ℕ
heuristic_statuses = 200 ∷ 203 ∷ 204 ∷ 206 ∷ 300 ∷ 301 ∷ 308 ∷ 404 ∷ 405 ∷ 410 ∷ 414 ∷ 501 ∷ []

abbrev pub is_heuristic_status : ℕ → Bool
is_heuristic_status status = list_any (λ s. s == status) heuristic_statuses

-- the statuses that tell an error of the client or of the server (RFC 9110, sections 15.5 and 15.6)
abbrev pub is_error : ℕ → Bool
is_error status = nat_le 400 status

-- "A cache MUST NOT use heuristics" but for "statuses that are defined as heuristically cacheable"
-- and what public marks (RFC 9111, section 4.2.2); own: for those statuses alone, and errors have a
-- lifetime of their own
abbrev pub lifetime_given_by_policy : Policy → ℕ → Option ℕ
lifetime_given_by_policy policy status =
    if is_heuristic_status status then (if is_error status then policy.error_lifetime else policy.lifetime) else None
