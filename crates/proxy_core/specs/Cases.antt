-- The messages, stored responses and exchanges that the laws of worked cases speak of.
use Rattle.std.specs.Prelude.{ℕ, zero, suc, ◌+◌, true, false, List, [], ◌∷◌, map, codes, Some, None}
use Rattle.hx_policy.specs.declared.words.Policy.{Policy}
use Rattle.hx_policy.specs.Policies.{plain}
use Rattle.hx_fields.specs.Line.{Field}
use Rattle.hx_fields.specs.Examples.{line}
use Rattle.hx_framing.specs.declared.messages.Response.{Response}
use Rattle.hx_target.specs.declared.keys.Key.{Key}
use Rattle.hx_vary.specs.Vary.{nominated_values_of}
use Rattle.hx_hop.specs.declared.request_view.Asked.{Asked}
use Rattle.hx_allow.specs.TableLines.{Line, Table}
use Rattle.hx_allow.specs.declared.line_hosts.LineHost.TheVariants.{Every}
use Rattle.hx_allow.specs.Matching.{route_over_line}
use Rattle.hx_store.specs.Stored.{Stored}
use Rattle.hx_reuse.specs.declared.rule.ReuseRule.TheVariants.{UriMiss, NoLifetime, NoMaxStale}
use Rattle.proxy_core.specs.Leading.{request_has_no_store}
use Rattle.proxy_core.specs.declared.open.stage.Stage.{Stage}
use Rattle.proxy_core.specs.declared.open.stage.Stage.TheVariants.{Forwarded, Waiting}
use Rattle.proxy_core.specs.declared.open.exchange.Exchange.{Exchange}
use Rattle.proxy_core.specs.declared.outcome.Outcome.{Outcome}
use Rattle.proxy_core.specs.declared.outcome.Outcome.TheVariants.{Reply, Forward, Waits, Ended, WaitsNoMore}

abbrev pub key_of_path : List ℕ → Key
key_of_path path = record { host = codes "h"; port = 80; path_query = path }

-- a request of this method for a path, with these lines
abbrev pub request_for_path : List ℕ → List ℕ → List Field → Asked
request_for_path method path fields = record {
  method = method;
  minor = 1;
  target = record { key = key_of_path path; table_path = path };
  fields = fields;
  content = None;
  close = false;
}

abbrev pub get_a_with : List Field → Asked
get_a_with fields = request_for_path (codes "GET") (codes "/a") fields

-- and one that asks, over a line that purges, to expire what it takes
abbrev pub get_a_with_purge_mode_stale : Asked
get_a_with_purge_mode_stale = get_a_with (line (codes "Purge-Mode") (codes "stale") ∷ [])

abbrev pub head_request_for_a : Asked
head_request_for_a = request_for_path (codes "HEAD") (codes "/a") []

-- the second line of the table has no cache, and what is stored has two bytes at most
abbrev pub plain_caching_line : Line
plain_caching_line = record {
  hosts = Every ∷ [];
  methods = codes "*" ∷ [];
  paths = codes "/" ∷ [];
  origin = Some (codes "127.0.0.1:8081");
  policy = plain true;
  refuses_loops = false;
  session_cookies = [];
  vary = [];
  origin_timeout = None;
  purge_key = None;
  wait_timeout = None;
}

abbrev pub table : Table
table = record {
  name = codes "edge";
  capacity = 2;
  max_body = 1000;
  max_stored = 2;
  max_store = None;
  lines = plain_caching_line ∷ record plain_caching_line { policy = plain false } ∷ [];
}

-- the same with one line, which names a field for Vary
abbrev pub table_varying_by_scheme : Table
table_varying_by_scheme = record table { lines = record plain_caching_line { vary = codes "X-Forwarded-Proto" ∷ [] } ∷ [] }

-- the same, but for the words of its one line
abbrev pub table_with_policy : Policy → Table
table_with_policy policy = record table { lines = record plain_caching_line { policy = policy } ∷ [] }

-- the same with the words of its one line, over which a request waits for five seconds at most
abbrev pub table_with_wait_timeout_5 : Policy → Table
table_with_wait_timeout_5 policy = record table {
  lines = record plain_caching_line { policy = policy; wait_timeout = Some 5 } ∷ [];
}

abbrev pub serves_ranges_policy : Policy
serves_ranges_policy = record (plain true) { forwards_ranges = false }

abbrev pub fills_ranges_policy : Policy
fills_ranges_policy = record serves_ranges_policy { fills_ranges = true }

abbrev pub keeps_conditions_policy : Policy
keeps_conditions_policy = record (plain true) { forwards_conditions = false }

abbrev pub policy_explaining_storing : Policy
policy_explaining_storing = record (plain true) { explains_storing = true }

abbrev pub lifetime_60_policy : Policy
lifetime_60_policy = record (plain true) { lifetime = Some 60 }

abbrev pub lifetime_60_but_not_to_cookies_policy : Policy
lifetime_60_but_not_to_cookies_policy = record lifetime_60_policy { gives_to_cookies = false }

abbrev pub lifetime_at_most_15_policy : Policy
lifetime_at_most_15_policy = record (plain true) { lifetime_most = Some 15 }

abbrev pub stores_no_cookies_policy : Policy
stores_no_cookies_policy = record (plain true) { stores_cookies = false }

abbrev pub stores_no_errors_policy : Policy
stores_no_errors_policy = record (plain true) { stores_errors = false }

-- a request that went forward at 100, since nothing was held for it
abbrev pub forwarded_on_miss : Asked → Exchange
forwarded_on_miss asked =
    record {
      id = 1;
      asked = asked;
      line = route_over_line 1;
      vary = [];
      removes_set_cookie = false;
      rule = UriMiss;
      named = None;
      request_time = 100;
      condition = None;
      overtaken = false;
      no_store = request_has_no_store asked;
      stage = Forwarded;
    }

-- the same over a line that names a field for Vary
abbrev pub exchange_varying_by_scheme : Exchange → Exchange
exchange_varying_by_scheme x = record x { vary = codes "X-Forwarded-Proto" ∷ [] }

-- the same over a line that removes cookies
abbrev pub exchange_removing_cookies : Exchange → Exchange
exchange_removing_cookies x = record x { removes_set_cookie = true }

-- a line of a table of version 4 hides tags
abbrev pub hides_tags_policy : Policy
hides_tags_policy = record (plain true) { hides_tags = true }

abbrev pub removes_cookies_policy : Policy
removes_cookies_policy = record (plain true) { removes_set_cookie = true }

-- a request that a front got in this scheme
abbrev pub get_a_by_scheme : List ℕ → Asked
get_a_by_scheme scheme = get_a_with (line (codes "X-Forwarded-Proto") scheme ∷ [])

-- one that went forward since the response of serial 1 was stale, which has no validator
abbrev pub exchange_forwarded_on_stale_for : Asked → Exchange
exchange_forwarded_on_stale_for asked = record (forwarded_on_miss asked) { rule = NoMaxStale; named = Some 1 }

abbrev pub exchange_forwarded_on_stale : Exchange
exchange_forwarded_on_stale = exchange_forwarded_on_stale_for (get_a_with [])

-- a line that lets requests wait for that, and a request with Authorization
abbrev pub wait_for_stale_policy : Policy
wait_for_stale_policy = record (plain true) { waits_for_stale = true }

abbrev pub get_a_with_authorization : Asked
get_a_with_authorization = get_a_with (line (codes "Authorization") (codes "Basic eA==") ∷ [])

-- a GET of /a for a range, beside other lines
abbrev pub get_a_for_range : List ℕ → List Field → Asked
get_a_for_range value beside = get_a_with (line (codes "Range") value ∷ beside)

-- and one with a cookie
abbrev pub get_a_with_cookie : Asked
get_a_with_cookie = get_a_with (line (codes "Cookie") (codes "session=alice") ∷ [])

abbrev pub exchange_forwarded_over_line_2 : Exchange
exchange_forwarded_over_line_2 = record (forwarded_on_miss (get_a_with [])) { line = route_over_line 2 }

-- one that waits for it
abbrev pub waiting : Exchange
waiting = record (forwarded_on_miss (get_a_with [])) { id = 2; stage = Waiting 1 }

-- the exchange of this id, which waits for this one, and the stages in which some stand
abbrev pub exchange_waiting_for : ℕ → ℕ → Asked → Exchange
exchange_waiting_for leader id asked = record (forwarded_on_miss asked) { id = id; stage = Waiting leader }

abbrev pub stages_of_exchanges : List Exchange → List Stage
stages_of_exchanges xs = map (λ (x : Exchange). x.stage) xs

-- the first leads, two wait for it behind the one of this request, and one waits for another
abbrev pub exchanges_with_leader_and_waiters : Asked → List Exchange
exchanges_with_leader_and_waiters asked =
    forwarded_on_miss (get_a_with []) ∷ exchange_waiting_for 1 2 asked ∷ exchange_waiting_for 1 3 (get_a_with [])
    ∷ exchange_waiting_for 7 4 (get_a_with []) ∷ exchange_waiting_for 1 5 (get_a_with []) ∷ []

-- so many that wait for the first
abbrev pub exchanges_waiting_for_first : ℕ → List Exchange
exchanges_waiting_for_first zero = []
exchanges_waiting_for_first (suc n) = exchange_waiting_for 1 (2 + n) (get_a_with []) ∷ exchanges_waiting_for_first n

-- one that asked about the stored response of serial 1, which states no lifetime, by its tag
abbrev pub exchange_that_revalidates_e : Asked → Exchange
exchange_that_revalidates_e asked =
    record (forwarded_on_miss asked) {
      rule = NoLifetime;
      named = Some 1;
      condition = Some (record { serial = 1; sent = record { etag = Some (codes "\"e\""); modified = None } });
    }

-- one that no stored response may answer, of this id and for this path
abbrev pub post_exchange : ℕ → List ℕ → Exchange
post_exchange id path = record (forwarded_on_miss (request_for_path (codes "POST") path [])) { id = id }

-- the same, once what its answer may be was purged
abbrev pub as_overtaken : Exchange → Exchange
as_overtaken x = record x { overtaken = true }

-- an answer of these lines
abbrev pub response_with : ℕ → List Field → Response
response_with status fields = record { status = status; fields = fields; content = codes "hi"; announced = None }

abbrev pub cache_control : List ℕ → Field
cache_control value = line (codes "Cache-Control") value

abbrev pub cache_tag : List ℕ → Field
cache_tag value = line (codes "Cache-Tag") value

abbrev pub etag_field : List ℕ → Field
etag_field value = line (codes "ETag") value

abbrev pub connection_field : List ℕ → Field
connection_field value = line (codes "Connection") value

abbrev pub vary_field : List ℕ → Field
vary_field value = line (codes "Vary") value

abbrev pub set_cookie_field : Field
set_cookie_field = line (codes "Set-Cookie") (codes "a=1")

abbrev pub accept_language_line : List ℕ → Field
accept_language_line value = line (codes "Accept-Language") value

abbrev pub date_at_101 : Field
date_at_101 = line (codes "Date") (codes "Thu, 01 Jan 1970 00:01:41 GMT")

-- the answer of the first run, made and received at 101
abbrev pub first_answer_fields : List Field
first_answer_fields = date_at_101 ∷ cache_control (codes "max-age=60") ∷ etag_field (codes "\"v1\"") ∷ []

-- a stored response of these lines, asked for at 100 and received at 101
abbrev pub stored_of_fields : ℕ → List Field → Stored
stored_of_fields serial fields = record {
  serial = serial;
  key = key_of_path (codes "/a");
  nominated = [];
  status = 200;
  fields = fields;
  content = codes "hi";
  times = record { date = 101; age_value = 0; request_time = 100; response_time = 101; expired = None };
}

abbrev pub stored_from_first_answer : Stored
stored_from_first_answer = stored_of_fields 1 first_answer_fields

-- a response once a purge expired it at a moment, and one that was received in the second in which it was asked for
abbrev pub purged_at : ℕ → Stored → Stored
purged_at moment e = record e { times = record e.times { expired = Some moment } }

abbrev pub stored_without_response_delay : Stored → Stored
stored_without_response_delay e = record e { times = record e.times { request_time = 101 } }

-- one of /a with these tags
abbrev pub stored_with_tags : ℕ → List ℕ → Stored
stored_with_tags serial tags = stored_of_fields serial (cache_tag tags ∷ first_answer_fields)

-- four that are held: one of another host, and three of /a, of which one has no tag
abbrev pub four_entries_with_and_without_tags : List Stored
four_entries_with_and_without_tags =
    record (stored_with_tags 4 (codes "news")) { key = record (key_of_path (codes "/c")) { host = codes "g" } }
    ∷ stored_with_tags 3 (codes "sport, old-news") ∷ stored_of_fields 2 first_answer_fields
    ∷ stored_with_tags 1 (codes "front,news") ∷ []

-- one that was asked for in this language
abbrev pub stored_in_language : ℕ → List ℕ → Stored
stored_in_language serial language =
    record (stored_of_fields serial first_answer_fields) {
      nominated = nominated_values_of (vary_field (codes "Accept-Language")
          ∷ []) (accept_language_line language ∷ []);
    }

-- one that states no lifetime, with the tag that `exchange_that_revalidates_e` asks about, and what a 304 brings
abbrev pub stored_without_lifetime : Stored
stored_without_lifetime = stored_of_fields 1 (etag_field (codes "\"e\"") ∷ [])

abbrev pub lines_of_origins_304 : List Field
lines_of_origins_304 = date_at_101 ∷ cache_control (codes "max-age=60") ∷ etag_field (codes "\"e\"") ∷ []

-- three that are held: two of /a, in German and in English, and one of /b
abbrev pub three_held_responses : List Stored
three_held_responses =
    stored_in_language 3 (codes "de") ∷ stored_in_language 2 (codes "en")
    ∷ record (stored_in_language 1 (codes "de")) { key = key_of_path (codes "/b") } ∷ []

-- what was fresh for 10 seconds, has no validator, and is stale at 130
abbrev pub stale_stored_with_directives : List ℕ → Stored
stale_stored_with_directives directives = stored_of_fields 1 (cache_control directives ∷ [])

abbrev pub held_with_lifetime_10 : List Stored
held_with_lifetime_10 = stale_stored_with_directives (codes "max-age=10") ∷ []

-- a request with a condition of the client's own, and one that asks the origin
abbrev pub get_a_if_changed : Asked
get_a_if_changed = get_a_with (line (codes "If-None-Match") (codes "\"v\"") ∷ [])

abbrev pub get_a_with_no_cache : Asked
get_a_with_no_cache = get_a_with (cache_control (codes "no-cache") ∷ [])

abbrev pub get_a_with_no_store : Asked
get_a_with_no_store = get_a_with (cache_control (codes "no-store") ∷ [])

-- the bytes of a reply
abbrev pub bytes_of_outcome : Outcome → List ℕ
bytes_of_outcome (Reply r) = r.bytes
bytes_of_outcome (Forward line bytes) = bytes
bytes_of_outcome (Waits leader) = []
bytes_of_outcome Ended = []
bytes_of_outcome WaitsNoMore = []
