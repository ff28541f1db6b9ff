-- The messages that the laws of worked cases speak of.
use Rattle.std.specs.Prelude.{ℕ, List, [], ◌∷◌, codes, None, Some, true, false}
use Rattle.hx_fields.specs.Examples.{line}
use Rattle.hx_fields.specs.Line.{Field}
use Rattle.hx_hop.specs.declared.request_view.Asked.{Asked}
use Rattle.hx_hop.specs.declared.response_view.Answered.{Answered}
use Rattle.hx_policy.specs.Policies.{plain}
use Rattle.hx_storable.specs.declared.known_facts.StoringFacts.{StoringFacts}

-- one Cache-Control line
abbrev pub cache_control_fields : List ℕ → List Field
cache_control_fields value = line (codes "Cache-Control") value ∷ []

-- a GET of /a with these lines
abbrev pub get_a_with : List Field → Asked
get_a_with fields = record {
  method = codes "GET";
  minor = 1;
  target = record { key = record { host = codes "h"; port = 80; path_query = codes "/a" }; table_path = codes "/a" };
  fields = fields;
  content = None;
  close = false;
}

-- with Authorization
abbrev pub get_with_authorization : Asked
get_with_authorization = get_a_with (line (codes "Authorization") (codes "x") ∷ [])

-- for a range
abbrev pub get_of_a_range : Asked
get_of_a_range = get_a_with (line (codes "Range") (codes "bytes=0-1") ∷ [])

-- with a cookie
abbrev pub get_with_cookie : Asked
get_with_cookie = get_a_with (line (codes "Cookie") (codes "session=alice") ∷ [])

abbrev pub answer_with : ℕ → List Field → Answered
answer_with status fields = record { status = status; fields = fields }

-- an answer that states its lifetime, with nothing against it
abbrev pub storable_facts : StoringFacts
storable_facts = record {
  policy = plain true;
  vary_star = false;
  listed = false;
  explicit = true;
  validator = false;
  too_large = false;
  overtaken = false;
  no_serial = false;
}

-- one over a line that has ranges cut from what is stored
abbrev pub facts_of_served_ranges : StoringFacts
facts_of_served_ranges = record storable_facts { policy = record (plain true) { forwards_ranges = false } }

-- one whose Vary is `*`
abbrev pub facts_with_vary_star : StoringFacts
facts_with_vary_star = record {
  policy = plain true;
  vary_star = true;
  listed = false;
  explicit = true;
  validator = false;
  too_large = false;
  overtaken = false;
  no_serial = false;
}

-- and whose Connection names a cache field too
abbrev pub facts_with_vary_star_and_field_in_connection : StoringFacts
facts_with_vary_star_and_field_in_connection = record {
  policy = plain true;
  vary_star = true;
  listed = true;
  explicit = true;
  validator = false;
  too_large = false;
  overtaken = false;
  no_serial = false;
}

-- one that the operator keeps from the store
abbrev pub facts_of_uncached_line : StoringFacts
facts_of_uncached_line = record {
  policy = plain false;
  vary_star = false;
  listed = false;
  explicit = true;
  validator = false;
  too_large = false;
  overtaken = false;
  no_serial = false;
}

-- and any other, whatever the other words say
abbrev pub facts_with_caching_on : StoringFacts → StoringFacts
facts_with_caching_on facts = record facts { policy = record facts.policy { caches = true } }

-- a page that sets a cookie, with one Cache-Control line
abbrev pub login_page : List ℕ → Answered
login_page value = answer_with 200 (line (codes "Set-Cookie") (codes "session=1") ∷ cache_control_fields value)

-- an answer that lasts a minute
abbrev pub answer_fresh_a_minute : ℕ → Answered
answer_fresh_a_minute status = answer_with status (cache_control_fields (codes "max-age=60"))

-- where the operator stores no cookies, and where he stores no errors
abbrev pub facts_without_cookie_storing : StoringFacts
facts_without_cookie_storing = record storable_facts { policy = record (plain true) { stores_cookies = false } }

abbrev pub facts_without_error_storing : StoringFacts
facts_without_error_storing = record storable_facts { policy = record (plain true) { stores_errors = false } }

-- a page that sets a cookie, and says nothing of its lifetime
abbrev pub page_with_cookie : ℕ → List Field → Answered
page_with_cookie status fields = answer_with status (line (codes "Set-Cookie") (codes "session=1") ∷ fields)

-- where the line gives a lifetime, and doesn't give it to what sets a cookie
abbrev pub facts_without_cookie_lifetime : StoringFacts
facts_without_cookie_lifetime =
    record storable_facts { policy = record (plain true) { lifetime = Some 60; gives_to_set_cookie = false } }

-- and where each other hears nothing of the cookie
abbrev pub facts_with_cookies_removed : StoringFacts
facts_with_cookies_removed =
    record storable_facts { policy = record (plain true) { lifetime = Some 60; removes_set_cookie = true } }

-- where the line gives a lifetime, and doesn't give it to requests with a cookie
abbrev pub facts_without_lifetime_for_request_cookies : StoringFacts
facts_without_lifetime_for_request_cookies =
    record storable_facts { policy = record (plain true) { lifetime = Some 60; gives_to_cookies = false } }

-- and where it gives it to each
abbrev pub facts_with_lifetime_for_request_cookies : StoringFacts
facts_with_lifetime_for_request_cookies = record storable_facts { policy = record (plain true) { lifetime = Some 60 } }
