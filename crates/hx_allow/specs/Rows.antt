-- The keys of the operator's table: a row for each, and the order in which their faults are looked for.
--
-- number_key_row, row_of_top_key: the row of a key at the top     top_keys: their order
-- word_row, row_of_line_key: the row of a key of a line       line_words, all_line_keys: their order
-- fault_of_top_key, fault_of_line_key: what is told of a key that is missing, or stands as it can't
-- requirement_of_unknown_key: what is told of a key that isn't known
use Rattle.std.specs.Prelude.{ℕ, nat_le, Bool, List, [], ◌∷◌, codes, map}
use Rattle.hx_allow.specs.declared.config_faults.TableFault.{TableFault}
use Rattle.hx_allow.specs.declared.config_faults.TableFault.TheVariants.{BadName, BadNumber, NoLines, BadHost}
use Rattle.hx_allow.specs.declared.config_faults.TableFault.TheVariants.{BadMethod}
use Rattle.hx_allow.specs.declared.config_faults.TableFault.TheVariants.{BadPath, BadOrigin, BadCache, BadWord}
use Rattle.hx_allow.specs.declared.config_faults.LineOption.{LineOption}
use Rattle.hx_allow.specs.declared.config_faults.LineOption.TheVariants.{Lifetime, ErrorLifetime, StaleIfError}
use Rattle.hx_allow.specs.declared.config_faults.LineOption.TheVariants.{SetCookie}
use Rattle.hx_allow.specs.declared.config_faults.LineOption.TheVariants.{Errors, RequestDirectives, Wait, Explain}
use Rattle.hx_allow.specs.declared.config_faults.LineOption.TheVariants.{LifetimeMost, Cookies, Conditions, Loops}
use Rattle.hx_allow.specs.declared.config_faults.LineOption.TheVariants.{SessionCookies, StaleWhileRevalidate, Vary}
use Rattle.hx_allow.specs.declared.config_faults.LineOption.TheVariants.{OriginTimeout, PurgeKey, Ranges, WaitTimeout}
use Rattle.hx_allow.specs.declared.config_faults.NumberKey.{NumberKey}
use Rattle.hx_allow.specs.declared.config_faults.NumberKey.TheVariants.{Version, Capacity, MaxBody, MaxStored}
use Rattle.hx_allow.specs.declared.config_faults.NumberKey.TheVariants.{MaxStore}
use Rattle.hx_allow.specs.declared.rows.ValueKind.{ValueKind as SourceKind}
use Rattle.hx_allow.specs.declared.rows.ValueKind.TheVariants as source
use Rattle.hx_allow.specs.declared.rows.LineKey.{LineKey}
use Rattle.hx_allow.specs.declared.rows.LineKey.TheVariants.{Host, Methods, Path, Origin, Cache, Word}
use Rattle.hx_allow.specs.declared.rows.KeyPlace.{KeyPlace}
use Rattle.hx_allow.specs.declared.rows.KeyPlace.TheVariants.{Needed, Optional, AllowingLine, CachingLine, PurgingLine}
use Rattle.hx_allow.specs.declared.rows.KeyDefinition.{KeyDefinition as SourceRow}
use Rattle.hx_allow.specs.declared.rows.TopKey.{TopKey}
use Rattle.hx_allow.specs.declared.rows.TopKey.TheVariants.{Name, Number, Lines}
use Rattle.hx_allow.specs.declared.values.TableVersion.{TableVersion}
use Rattle.hx_allow.specs.declared.values.TableVersion.TheVariants.{One, Two, Three, Four}

-- what the value of a key has to be
pub data ValueKind : Type 0 where
  -- a whole number from the first to the second, and one of seconds
  a_number : ℕ → ℕ → ValueKind
  some_seconds : ℕ → ℕ → ValueKind
  -- a whole number from the first to the second, and no less than max_stored
  a_store_bound : ℕ → ℕ → ValueKind
  -- the number of a version
  a_version : ValueKind
  -- one of two texts; where the key doesn't stand it is as with the first
  one_of : List ℕ → List ℕ → ValueKind
  -- the same, or from the fourth version on the third text
  one_of_in_four : List ℕ → List ℕ → List ℕ → ValueKind
  -- one of three texts; where the key doesn't stand it is as with the first
  one_of_three : List ℕ → List ℕ → List ℕ → ValueKind
  -- a list of 1 to so many tokens, of which none is `*`
  some_names : ℕ → ValueKind
  a_name : ValueKind
  some_lines : ValueKind
  a_host : ValueKind
  some_methods : ValueKind
  a_path : ValueKind
  an_origin : ValueKind
  a_purge_key : ValueKind

-- A key, the version since which it is known, what its value has to be, and where it may stand.
pub record KeyDefinition : Type 0 where
  pub key : List ℕ
  pub since : TableVersion
  pub kind : ValueKind
  pub place : KeyPlace

-- a key that each version has, and that has to stand
abbrev pub row_of_required_key : List ℕ → ValueKind → KeyDefinition
row_of_required_key key kind = record { key = key; since = One; kind = kind; place = Needed }

-- a key of a line that has an origin and its cache on
abbrev pub row_for_caching_lines : List ℕ → TableVersion → ValueKind → KeyDefinition
row_for_caching_lines key since kind = record { key = key; since = since; kind = kind; place = CachingLine }

-- a key of a line that has an origin
abbrev pub row_for_allowing_lines : List ℕ → TableVersion → ValueKind → KeyDefinition
row_for_allowing_lines key since kind = record { key = key; since = since; kind = kind; place = AllowingLine }

abbrev pub number_key_row : NumberKey → KeyDefinition
number_key_row Version = row_of_required_key (codes "version") a_version
number_key_row Capacity = row_of_required_key (codes "capacity") (a_number 1 65536)
number_key_row MaxBody = row_of_required_key (codes "max_body") (a_number 0 16777216)
number_key_row MaxStored = row_of_required_key (codes "max_stored") (a_number 0 16777216)
number_key_row MaxStore = record {
  key = codes "max_store";
  since = Four;
  kind = a_store_bound 65536 1099511627776;
  place = Optional;
}

abbrev pub row_of_top_key : TopKey → KeyDefinition
row_of_top_key Name = row_of_required_key (codes "name") a_name
row_of_top_key (Number key) = number_key_row key
row_of_top_key Lines = row_of_required_key (codes "line") some_lines

-- the keys at the top, in the order in which they are looked at
abbrev pub top_keys : List TopKey
top_keys = Name ∷ Number Version ∷ Number Capacity ∷ Number MaxBody ∷ Number MaxStored ∷ Number MaxStore ∷ Lines ∷ []

abbrev pub fault_of_top_key : TopKey → TableFault
fault_of_top_key Name = BadName
fault_of_top_key (Number key) = BadNumber key
fault_of_top_key Lines = NoLines

-- the most seconds that a lifetime has (RFC 9111, section 1.2.2)
abbrev pub most_seconds : ℕ
most_seconds = 2147483648

-- the most seconds that an origin may be given to send a byte: a day
abbrev pub most_timeout_seconds : ℕ
most_timeout_seconds = 86400

abbrev pub word_row : LineOption → KeyDefinition
word_row Lifetime = row_for_caching_lines (codes "lifetime") Three (some_seconds 1 most_seconds)
word_row ErrorLifetime = row_for_caching_lines (codes "error-lifetime") Four (some_seconds 1 most_seconds)
word_row LifetimeMost = row_for_caching_lines (codes "lifetime-most") Four (some_seconds 1 most_seconds)
word_row StaleIfError = row_for_caching_lines (codes "stale-if-error") Three (some_seconds 0 most_seconds)
word_row SetCookie = row_for_caching_lines (codes "set-cookie") Three (one_of_in_four (codes "stored") (codes "not-stored") (codes "removed"))
word_row Cookies = row_for_caching_lines (codes "cookies") Four (one_of (codes "private") (codes "shared"))
word_row SessionCookies = row_for_caching_lines (codes "session-cookies") Four (some_names 16)
word_row Errors = row_for_caching_lines (codes "errors") Three (one_of (codes "stored") (codes "not-stored"))
word_row RequestDirectives = row_for_caching_lines (codes "request-directives") Three (one_of (codes "heeded") (codes "ignored"))
word_row Wait = row_for_caching_lines (codes "wait") Three (one_of (codes "missing") (codes "missing-or-stale"))
word_row Explain = row_for_caching_lines (codes "explain") Three (one_of (codes "reuse") (codes "storing"))
word_row Conditions = row_for_caching_lines (codes "conditions") Four (one_of (codes "answered") (codes "forwarded"))
word_row Loops = row_for_allowing_lines (codes "loops") Four (one_of (codes "refused") (codes "forwarded"))
word_row StaleWhileRevalidate = row_for_caching_lines (codes "stale-while-revalidate") Four (some_seconds 0 most_seconds)
word_row Vary = row_for_caching_lines (codes "vary") Four (some_names 8)
word_row OriginTimeout = row_for_allowing_lines (codes "origin-timeout") Four (some_seconds 1 most_timeout_seconds)
word_row PurgeKey = record { key = codes "key"; since = Four; kind = a_purge_key; place = PurgingLine }
word_row Ranges = row_for_caching_lines (codes "ranges") Four (one_of_three (codes "served") (codes "forwarded") (codes "filled"))
word_row WaitTimeout = row_for_caching_lines (codes "wait-timeout") Four (some_seconds 1 most_timeout_seconds)

-- the words of a line, in the order in which they are looked at
abbrev pub line_words : List LineOption
line_words =
    Lifetime ∷ ErrorLifetime ∷ LifetimeMost ∷ StaleIfError ∷ SetCookie ∷ Cookies ∷ SessionCookies ∷ Errors
    ∷ RequestDirectives ∷ Wait ∷ Explain ∷ Conditions ∷ Loops ∷ StaleWhileRevalidate ∷ Vary
    ∷ OriginTimeout ∷ PurgeKey ∷ Ranges ∷ WaitTimeout ∷ []

-- what is told of a key that isn't known, with the keys that a version adds
abbrev pub requirement_of_unknown_key : List ℕ
requirement_of_unknown_key = codes "a key isn't known where it stands; correct its spelling or delete it: behind [[line]] keys belong to that line; cache needs version = 2, 3 or 4, lifetime, stale-if-error, set-cookie, errors, request-directives, wait and explain need version = 3 or 4, and max_store, error-lifetime, lifetime-most, cookies, session-cookies, conditions, loops, stale-while-revalidate, vary, origin-timeout, key, ranges and wait-timeout need version = 4"

abbrev pub row_of_line_key : LineKey → KeyDefinition
row_of_line_key Host = row_of_required_key (codes "host") a_host
row_of_line_key Methods = row_of_required_key (codes "methods") some_methods
row_of_line_key Path = row_of_required_key (codes "path") a_path
row_of_line_key Origin = row_of_required_key (codes "origin") an_origin
row_of_line_key Cache = record {
  key = codes "cache";
  since = Two;
  kind = one_of (codes "on") (codes "off");
  place = AllowingLine;
}
row_of_line_key (Word word) = word_row word

-- the keys of a line, in the order in which they are looked at
abbrev pub all_line_keys : List LineKey
all_line_keys = Host ∷ Methods ∷ Path ∷ Origin ∷ Cache ∷ map Word line_words

-- the fault of a key in the line with this number
abbrev pub fault_of_line_key : ℕ → LineKey → TableFault
fault_of_line_key n Host = BadHost n
fault_of_line_key n Methods = BadMethod n
fault_of_line_key n Path = BadPath n
fault_of_line_key n Origin = BadOrigin n
fault_of_line_key n Cache = BadCache n
fault_of_line_key n (Word word) = BadWord n word

abbrev pub version_number : TableVersion → ℕ
version_number One = 1
version_number Two = 2
version_number Three = 3
version_number Four = 4

-- a version has the keys of the versions before it
abbrev pub has_keys_of : TableVersion → TableVersion → Bool
has_keys_of version since = nat_le (version_number since) (version_number version)

-- the least and the greatest number of a kind
abbrev pub least_number : ValueKind → ℕ
least_number (a_number low high) = low
least_number (some_seconds low high) = low
least_number (a_store_bound low high) = low
least_number a_version = 1
least_number _ = 0

abbrev pub greatest_number : ValueKind → ℕ
greatest_number (a_number low high) = high
greatest_number (some_seconds low high) = high
greatest_number (a_store_bound low high) = high
greatest_number a_version = 4
greatest_number _ = 0

-- the rows of the code
abbrev pub value_kind_of_source_kind : SourceKind → ValueKind
value_kind_of_source_kind (source.Number low high) = a_number low high
value_kind_of_source_kind (source.Seconds low high) = some_seconds low high
value_kind_of_source_kind (source.StoreBound low high) = a_store_bound low high
value_kind_of_source_kind source.Version = a_version
value_kind_of_source_kind (source.OneOf first second) = one_of first.now second.now
value_kind_of_source_kind (source.OneOfInFour first second third) = one_of_in_four first.now second.now third.now
value_kind_of_source_kind (source.OneOfThree first second third) = one_of_three first.now second.now third.now
value_kind_of_source_kind (source.Names most) = some_names most
value_kind_of_source_kind source.Name = a_name
value_kind_of_source_kind source.Lines = some_lines
value_kind_of_source_kind source.Host = a_host
value_kind_of_source_kind source.Methods = some_methods
value_kind_of_source_kind source.Path = a_path
value_kind_of_source_kind source.Origin = an_origin
value_kind_of_source_kind source.PurgeKey = a_purge_key

abbrev pub definition_of_source_row : SourceRow → KeyDefinition
definition_of_source_row row = record
    { key = row.key.now; since = row.since; kind = value_kind_of_source_kind row.kind; place = row.place }
