-- The requests and stored responses that the laws of worked cases speak of.
use Rattle.std.specs.Prelude.{ℕ, List, [], ◌∷◌, codes, None, Some, true, false}
use Rattle.hx_fields.specs.Examples.{line}
use Rattle.hx_fields.specs.Line.{Field}
use Rattle.hx_directives.specs.Occurrences.{occurrences_of}
use Rattle.hx_directives.specs.declared.occurrences.Occurrence.{Occurrence}
use Rattle.hx_target.specs.declared.keys.Key.{Key}
use Rattle.hx_vary.specs.Vary.{nominated_values_of}
use Rattle.hx_hop.specs.declared.request_view.Asked.{Asked}
use Rattle.hx_store.specs.Stored.{Stored}
use Rattle.hx_policy.specs.declared.words.Policy.{Policy}
use Rattle.hx_policy.specs.Policies.{plain}

-- one Cache-Control line
abbrev pub cache_control_fields : List ℕ → List Field
cache_control_fields value = line (codes "Cache-Control") value ∷ []

abbrev pub accept_language_line : List ℕ → Field
accept_language_line value = line (codes "Accept-Language") value

abbrev pub key_of_path_a : Key
key_of_path_a = record { host = codes "h"; port = 80; path_query = codes "/a" }

-- a GET of /a with these lines
abbrev pub get_a_with : List Field → Asked
get_a_with fields = record {
  method = codes "GET";
  minor = 1;
  target = record { key = key_of_path_a; table_path = codes "/a" };
  fields = fields;
  content = None;
  close = false;
}

-- a GET of /b in German
abbrev pub get_b_in_german : Asked
get_b_in_german = record (get_a_with (accept_language_line (codes "de") ∷ [])) {
  target = record { key = record { host = codes "h"; port = 80; path_query = codes "/b" }; table_path = codes "/b" };
}

-- a GET of /a with content
abbrev pub get_a_with_content : List ℕ → List Field → Asked
get_a_with_content content fields = record {
  method = codes "GET";
  minor = 1;
  target = record { key = key_of_path_a; table_path = codes "/a" };
  fields = fields;
  content = Some content;
  close = false;
}

-- what answered a request with these lines, made, asked for and received at a moment
abbrev pub example_response_stored_at : ℕ → List Field → List Field → Stored
example_response_stored_at moment request fields = record {
  serial = 1;
  key = key_of_path_a;
  nominated = nominated_values_of fields request;
  status = 200;
  fields = fields;
  content = codes "hi";
  times = record { date = moment; age_value = 0; request_time = moment; response_time = moment; expired = None };
}

-- the one response that is held, stored at 0, with one Cache-Control line
abbrev pub stored_with_cache_control : List ℕ → Stored
stored_with_cache_control value = example_response_stored_at 0 [] (cache_control_fields value)

-- the same once a purge expired it
abbrev pub purged_at : ℕ → Stored → Stored
purged_at moment e = record e { times = record e.times { expired = Some moment } }

abbrev pub one_held_with_cache_control : List ℕ → List Stored
one_held_with_cache_control value = stored_with_cache_control value ∷ []

-- the one response that is held, of a minute, in German
abbrev pub one_held_in_german : List Stored
one_held_in_german = example_response_stored_at 0 (accept_language_line (codes "de") ∷ []) (line (codes "Vary") (codes "Accept-Language")
    ∷ cache_control_fields (codes "max-age=60")) ∷ []

-- what answered a request in this language, made at a moment, of a minute, with a Vary that names the language; and
-- what answers in any, without a Vary
abbrev pub language_variant_made_at : ℕ → ℕ → List ℕ → Stored
language_variant_made_at moment serial language = record
    (example_response_stored_at moment (accept_language_line language ∷ [])
    (line (codes "Vary") (codes "Accept-Language") ∷ cache_control_fields (codes "max-age=60"))) { serial = serial }

abbrev pub no_vary_made_at : ℕ → ℕ → Stored
no_vary_made_at moment serial = record
    (example_response_stored_at moment [] (cache_control_fields (codes "max-age=60"))) { serial = serial }

-- an answer in English was stored at 100 as 1, and at 110 the default as 2
abbrev pub held_english_and_default : List Stored
held_english_and_default = no_vary_made_at 110 2 ∷ language_variant_made_at 100 1 (codes "en") ∷ []

-- a GET of /a in this language
abbrev pub get_a_in_this_language : List ℕ → Asked
get_a_in_this_language language = get_a_with (accept_language_line language ∷ [])

-- the one response that is held, with an entity tag alone
abbrev pub one_held_with_etag : List Field → List Stored
one_held_with_etag more = example_response_stored_at 0 [] (line (codes "ETag") (codes "\"e\"") ∷ more) ∷ []

-- the directives of a request with one Cache-Control line
abbrev pub request_directives : List ℕ → List Occurrence
request_directives value = occurrences_of (cache_control_fields value)

-- a line that caches and gives a lifetime, one that gives errors one of their own, one that gives a lifetime and has a
-- most, one that allows a staleness after an error, and one that heeds no advice of a request
abbrev pub policy_with_lifetime : ℕ → Policy
policy_with_lifetime n = record (plain true) { lifetime = Some n }

abbrev pub policy_with_error_lifetime : ℕ → ℕ → Policy
policy_with_error_lifetime n errors = record (plain true) { lifetime = Some n; error_lifetime = Some errors }

abbrev pub policy_with_greatest_lifetime : ℕ → ℕ → Policy
policy_with_greatest_lifetime n most = record (plain true) { lifetime = Some n; lifetime_most = Some most }

abbrev pub policy_with_stale_if_error : ℕ → Policy
policy_with_stale_if_error n = record (plain true) { stale_if_error = Some n }

abbrev pub ignore_directives_policy : Policy
ignore_directives_policy = record (plain true) { heeds_requests = false }

-- one that sends what is stale while it is validated, without a limit of its own and with one
abbrev pub while_revalidating_policy : Policy
while_revalidating_policy = record (plain true) { waits_for_stale = true; sends_while_revalidating = true }

abbrev pub stale_while_revalidate_policy : ℕ → Policy
stale_while_revalidate_policy n = record while_revalidating_policy { stale_while_revalidate = Some n }

-- and one that keeps the conditions of clients
abbrev pub withhold_conditions_policy : Policy
withhold_conditions_policy = record (plain true) { forwards_conditions = false }

-- one that has ranges cut from what is stored, and the line of such a request
abbrev pub serve_ranges_policy : Policy
serve_ranges_policy = record (plain true) { forwards_ranges = false }

-- one that fills them
abbrev pub fill_ranges_policy : Policy
fill_ranges_policy = record serve_ranges_policy { fills_ranges = true }

abbrev pub range_field_of_two_bytes : List Field
range_field_of_two_bytes = line (codes "Range") (codes "bytes=0-1") ∷ []

-- a GET of /a with these lines and one condition more
abbrev pub get_a_if_none_match : List Field → Asked
get_a_if_none_match fields = get_a_with (line (codes "If-None-Match") (codes "\"e\"") ∷ fields)

-- what is stored at 0 with these lines, of another status
abbrev pub stored_with_status : ℕ → List Field → Stored
stored_with_status status fields = record (example_response_stored_at 0 [] fields) { status = status }

-- the one response that is held, of a status, without lines
abbrev pub one_held_of_status : ℕ → List Stored
one_held_of_status status = stored_with_status status [] ∷ []
