-- What a line says of caching, and which lines may say it.
--
-- line_has_no_origin, line_caches: a line denies or purges, or has an origin and its cache on
-- line_purges: it purges
-- option_that_gives_error_lifetime: the word that gives errors their lifetime
-- removes_set_cookie: what is stored and sent to others has no Set-Cookie
-- gives_lifetimes_to_set_cookie: the line gives its lifetimes to responses with Set-Cookie, too
-- gives_lifetimes_to_cookie_requests: the line gives its lifetimes to requests with a cookie, too
-- forwards_conditions_of_line: the conditions of clients are the origin's to judge
-- forwards_ranges_of_line: requests for a range are the origin's to answer
-- fills_ranges: what is missing to answer one is asked for whole
-- refuses_loops: requests that loop are refused
-- origin_timeout_seconds: for how long the origin may send no byte
-- sends_while_revalidating: what is stale is sent while it is validated
-- policy_of_line_table: what a line without fault says
use Rattle.std.specs.Prelude.{ℕ, Bool, false, not, ◌&&◌, ◌||◌, if◌then◌else◌, List, codes, bytes_eq, Option}
use Rattle.std.specs.Prelude.{is_some, unwrap_or, Some, None}
use Rattle.toml.specs.Data.{Members, get_member}
use Rattle.hx_policy.specs.declared.words.Policy.{Policy}
use Rattle.hx_allow.specs.Rows.{ValueKind, one_of, one_of_in_four, one_of_three, KeyDefinition, word_row}
use Rattle.hx_allow.specs.Rows.{row_of_line_key, has_keys_of}
use Rattle.hx_allow.specs.Values.{text_of_key, is_some_and, number_in}
use Rattle.hx_allow.specs.declared.config_faults.LineOption.{LineOption}
use Rattle.hx_allow.specs.declared.config_faults.LineOption.TheVariants.{Lifetime, ErrorLifetime, StaleIfError}
use Rattle.hx_allow.specs.declared.config_faults.LineOption.TheVariants.{SetCookie}
use Rattle.hx_allow.specs.declared.config_faults.LineOption.TheVariants.{Errors, RequestDirectives, Wait, Explain}
use Rattle.hx_allow.specs.declared.config_faults.LineOption.TheVariants.{LifetimeMost, Cookies, Conditions, Loops}
use Rattle.hx_allow.specs.declared.config_faults.LineOption.TheVariants.{Ranges}
use Rattle.hx_allow.specs.declared.config_faults.LineOption.TheVariants.{StaleWhileRevalidate, OriginTimeout}
use Rattle.hx_allow.specs.declared.config_faults.LineOption.TheVariants.{WaitTimeout}
use Rattle.hx_allow.specs.declared.rows.LineKey.TheVariants.{Cache}
use Rattle.hx_allow.specs.declared.values.TableVersion.{TableVersion}
use Rattle.hx_allow.specs.declared.values.TableVersion.TheVariants.{Four}

-- the text of a key is one of two
abbrev pub is_one_of_two : List ℕ → List ℕ → List ℕ → Bool
is_one_of_two first second text = bytes_eq text first || bytes_eq text second

abbrev pub key_has_one_of_two_texts : List ℕ → List ℕ → List ℕ → Members → Bool
key_has_one_of_two_texts key first second ms = is_some_and (is_one_of_two first second) (text_of_key key ms)

-- a key says this text
abbrev pub text_of_key_equals : List ℕ → List ℕ → Members → Bool
text_of_key_equals key word ms = is_some_and (λ text. bytes_eq text word) (text_of_key key ms)

-- own: from the fourth version on a line may purge what is held ("A purge has a key")
abbrev pub line_purges : TableVersion → Members → Bool
line_purges version ms = has_keys_of version Four && text_of_key_equals (codes "origin") (codes "purge") ms

-- a line that denies has none, nor one that purges
abbrev pub line_has_no_origin : Members → Bool
line_has_no_origin ms = key_has_one_of_two_texts (codes "origin") (codes "deny") (codes "purge") ms

-- a line takes words where it has an origin and its cache on
abbrev pub line_caches : Members → Bool
line_caches ms = not (line_has_no_origin ms) && not (text_of_key_equals (codes "cache") (codes "off") ms)

-- a key says the second of its texts
abbrev pub value_is_second_allowed_text : ValueKind → List ℕ → Members → Bool
value_is_second_allowed_text (one_of first second) key ms = text_of_key_equals key second ms
value_is_second_allowed_text (one_of_in_four first second third) key ms = text_of_key_equals key second ms
value_is_second_allowed_text (one_of_three first second third) key ms = text_of_key_equals key second ms
value_is_second_allowed_text _ key ms = false

abbrev pub row_key_has_second_text : KeyDefinition → Members → Bool
row_key_has_second_text row ms = value_is_second_allowed_text row.kind row.key ms

-- a key says the third, which has to be from the fourth version on
abbrev pub key_has_third_text : ValueKind → List ℕ → Members → Bool
key_has_third_text (one_of_in_four first second third) key ms = text_of_key_equals key third ms
key_has_third_text _ key ms = false

abbrev pub row_key_has_third_text_in_four : TableVersion → KeyDefinition → Members → Bool
row_key_has_third_text_in_four version row ms = has_keys_of version Four && key_has_third_text row.kind row.key ms

-- a key says the last of three texts
abbrev pub key_has_last_of_three_texts : ValueKind → List ℕ → Members → Bool
key_has_last_of_three_texts (one_of_three first second third) key ms = text_of_key_equals key third ms
key_has_last_of_three_texts _ key ms = false

abbrev pub row_key_has_last_text : KeyDefinition → Members → Bool
row_key_has_last_text row ms = key_has_last_of_three_texts row.kind row.key ms

-- own: the word that gives errors their lifetime, which is that of all others in a version without a word of its own
abbrev pub option_that_gives_error_lifetime : TableVersion → LineOption
option_that_gives_error_lifetime version =
    if has_keys_of version (word_row ErrorLifetime).since then ErrorLifetime else Lifetime

-- own: from the fourth version on, where the line says so, what is stored and sent to others has no Set-Cookie ("A
-- cookie stays with the one whom it was set for")
abbrev pub removes_set_cookie : TableVersion → Members → Bool
removes_set_cookie version ms = row_key_has_third_text_in_four version (word_row SetCookie) ms

-- own: from the fourth version on a line gives no lifetime to a response with Set-Cookie, unless the line says what
-- becomes of those; a line that takes no words gives none at all ("A cookie stays with the one whom it was set for")
abbrev pub gives_lifetimes_to_set_cookie : TableVersion → Members → Bool
gives_lifetimes_to_set_cookie version ms =
    not (has_keys_of version Four && line_caches ms) || is_some (get_member (word_row SetCookie).key ms)

-- own: from the fourth version on a line gives no lifetime to the response to a request with a cookie, unless the line
-- says else; a line that takes no words gives none at all ("A page for one isn't given a lifetime for all")
abbrev pub gives_lifetimes_to_cookie_requests : TableVersion → Members → Bool
gives_lifetimes_to_cookie_requests version ms =
    not (has_keys_of version (word_row Cookies).since && line_caches ms)
    || row_key_has_second_text (word_row Cookies) ms

-- own: from the fourth version on the conditions of clients stay with the proxy, unless the line says else; a line that
-- takes no words says nothing of them ("A client's condition doesn't empty the cache")
abbrev pub forwards_conditions_of_line : TableVersion → Members → Bool
forwards_conditions_of_line version ms =
    not (has_keys_of version (word_row Conditions).since && line_caches ms)
    || row_key_has_second_text (word_row Conditions) ms

-- own: from the fourth version on a range is cut from what is stored, unless the line says else; a line that takes no
-- words says nothing of them ("A range is cut from what is stored")
abbrev pub forwards_ranges_of_line : TableVersion → Members → Bool
forwards_ranges_of_line version ms =
    not (has_keys_of version (word_row Ranges).since && line_caches ms) || row_key_has_second_text (word_row Ranges) ms

-- own: from the fourth version on, where the line says so, the whole is asked for where a range can't be cut from what
-- is stored ("A range is filled by the whole")
abbrev pub fills_ranges : TableVersion → Members → Bool
fills_ranges version ms = has_keys_of version (word_row Ranges).since && row_key_has_last_text (word_row Ranges) ms

-- own: from the fourth version on requests that loop are refused, unless the line says else ("A request that loops is
-- refused")
abbrev pub refuses_loops : TableVersion → Members → Bool
refuses_loops version ms =
    has_keys_of version (word_row Loops).since && not (row_key_has_second_text (word_row Loops) ms)

-- own: for how long the origin may send no byte, where the line says so ("A line has a time-out of its own")
abbrev pub origin_timeout_seconds : Members → Option ℕ
origin_timeout_seconds ms = number_in (word_row OriginTimeout) ms

-- own: from the fourth version on who waits for the answer to another does so for 5 seconds, unless the line says for
-- how many; where a line takes no words nobody waits ("Who has waited long goes by itself")
abbrev pub collapsed_wait_timeout_seconds : TableVersion → Members → Option ℕ
collapsed_wait_timeout_seconds version ms =
    if has_keys_of version (word_row WaitTimeout).since && line_caches ms
    then Some (unwrap_or (number_in (word_row WaitTimeout) ms) 5) else None

-- own: from the fourth version on what is stale is sent while it is validated, over a line that lets others wait for it
-- ("Stale at once, while one asks")
abbrev pub sends_while_revalidating : TableVersion → Members → Bool
sends_while_revalidating version ms =
    row_key_has_second_text (word_row Wait) ms && has_keys_of version (word_row StaleWhileRevalidate).since

-- own: what a line of a table of a version says of caching, by the operator's words; each key that doesn't stand is as
-- in the versions before. From the fourth version on no answer has tags, whatever the line says
-- ("Tags stay with the proxy")
abbrev pub policy_of_line_table : TableVersion → Members → Policy
policy_of_line_table version ms = record {
  caches = not (row_key_has_second_text (row_of_line_key Cache) ms);
  lifetime = number_in (word_row Lifetime) ms;
  error_lifetime = number_in (word_row (option_that_gives_error_lifetime version)) ms;
  lifetime_most = number_in (word_row LifetimeMost) ms;
  stale_if_error = number_in (word_row StaleIfError) ms;
  stale_while_revalidate = number_in (word_row StaleWhileRevalidate) ms;
  stores_cookies = not (row_key_has_second_text (word_row SetCookie) ms);
  removes_set_cookie = removes_set_cookie version ms;
  gives_to_set_cookie = gives_lifetimes_to_set_cookie version ms;
  gives_to_cookies = gives_lifetimes_to_cookie_requests version ms;
  stores_errors = not (row_key_has_second_text (word_row Errors) ms);
  heeds_requests = not (row_key_has_second_text (word_row RequestDirectives) ms);
  waits_for_stale = row_key_has_second_text (word_row Wait) ms;
  sends_while_revalidating = sends_while_revalidating version ms;
  explains_storing = row_key_has_second_text (word_row Explain) ms;
  forwards_conditions = forwards_conditions_of_line version ms;
  forwards_ranges = forwards_ranges_of_line version ms;
  fills_ranges = fills_ranges version ms;
  hides_tags = has_keys_of version Four;
}
