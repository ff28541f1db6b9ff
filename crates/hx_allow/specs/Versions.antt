-- Lines that say nothing new, and which lines may.
use Rattle.std.specs.Prelude.{◌≡◌, ◌⊎◌, true, false, [], None, is_some, codes, length, IfSome}
use Rattle.std.specs.List.{list_any}
use Rattle.toml.specs.Data.{Members, get_member}
use Rattle.hx_policy.specs.Policies.{default_policy_with_hidden_tags}
use Rattle.hx_allow.specs.Keys.{key_of_line_option}
use Rattle.hx_allow.specs.LineHosts.{begins_with_star_dot, is_subdomain_wildcard}
use Rattle.hx_allow.specs.LineWords.{text_of_key_equals}
use Rattle.hx_allow.specs.LineTables.{line_has_lowercase_method, line_has_path_with_star}
use Rattle.hx_allow.specs.LineWords.{line_purges}
use Rattle.hx_allow.specs.Purges.{is_purge_key}
use Rattle.hx_allow.specs.Rows.{word_row}
use Rattle.hx_allow.specs.TableLines.{Line}
use Rattle.hx_allow.specs.Values.{is_some_and, items_of_key, text_of_key}
use Rattle.hx_allow.specs.declared.config_faults.LineOption.{LineOption}
use Rattle.hx_allow.specs.declared.rows.KeyPlace.TheVariants.{CachingLine}
use Rattle.hx_allow.specs.declared.values.TableVersion.TheVariants.{Four}

-- no word stands
abbrev pub LineHasNoOptionKey : Members → Type 0
LineHasNoOptionKey ms = (word : LineOption) → get_member (key_of_line_option word) ms ≡ None

-- no word of the fourth version stands
abbrev pub LineHasNoKeyOfVersionFour : Members → Type 0
LineHasNoKeyOfVersionFour ms = (word : LineOption) → (word_row word).since ≡ Four
    → get_member (key_of_line_option word) ms ≡ None

-- no method has a letter in lower case, and the path has no `*`
abbrev pub LineHasNoLowercaseMethodOrStar : Members → Type 0
LineHasNoLowercaseMethodOrStar ms = (line_has_lowercase_method ms ≡ false) × (line_has_path_with_star ms ≡ false)

-- host and path are no lists, the host isn't `*.` and another, `set-cookie` isn't `removed`, and the line doesn't purge
abbrev pub LineReadsAsInVersionThree : Members → Type 0
LineReadsAsInVersionThree ms =
    (items_of_key (codes "host") ms ≡ None) × (items_of_key (codes "path") ms ≡ None)
    × (is_some_and begins_with_star_dot (text_of_key (codes "host") ms) ≡ false)
    × (text_of_key_equals (codes "set-cookie") (codes "removed") ms ≡ false) × (line_purges Four ms ≡ false)

-- one path, and one host or every one
abbrev pub LineHasOneHostAndPath : Line → Type 0
LineHasOneHostAndPath line =
    (length line.hosts ≡ 1) × (length line.paths ≡ 1) × (list_any is_subdomain_wildcard line.hosts ≡ false)

-- no word on caching stands
abbrev pub LineHasNoCachingKey : Members → Type 0
LineHasNoCachingKey ms = (word : LineOption) → (word_row word).place ≡ CachingLine
    → get_member (key_of_line_option word) ms ≡ None

-- what a line of the third version says: errors have the lifetime of all others, each stated lifetime counts as it is,
-- cookies aren't removed, responses and requests with a cookie are given the lifetimes of all others, the conditions of
-- clients are the origin's to judge and their ranges the origin's to answer, nothing stale is sent while it is
-- validated, requests that loop go on, no request goes past the store for its cookies, Vary alone nominates, no origin
-- has a time-out of its own, no line purges, who waits does so until he may be sent an answer, and tags are seen
abbrev pub LineIsAsInVersionThree : Line → Type 0
LineIsAsInVersionThree line =
    (line.policy.error_lifetime ≡ line.policy.lifetime) × (line.policy.lifetime_most ≡ None)
    × (line.policy.removes_set_cookie ≡ false) × (line.policy.gives_to_set_cookie ≡ true)
    × (line.policy.gives_to_cookies ≡ true) × (line.policy.forwards_conditions ≡ true)
    × (line.policy.forwards_ranges ≡ true) × (line.policy.fills_ranges ≡ false)
    × (line.policy.stale_while_revalidate ≡ None) × (line.policy.sends_while_revalidating ≡ false)
    × (line.refuses_loops ≡ false) × (line.session_cookies ≡ []) × (line.vary ≡ [])
    × (line.origin_timeout ≡ None) × (line.purge_key ≡ None) × (line.wait_timeout ≡ None)
    × (line.policy.hides_tags ≡ false)

-- a line says nothing of caching but whether it caches, or it allows and has its cache on; whether tags are hidden is
-- said by no word
abbrev pub LineWithCachingKeysCaches : Line → Type 0
LineWithCachingKeysCaches line =
    (line.policy ≡ default_policy_with_hidden_tags line.policy.hides_tags line.policy.caches)
    ⊎ ((is_some line.origin ≡ true) × (line.policy.caches ≡ true))

-- a line that has a key purges: it has no origin, and its key is one
abbrev pub OnlyPurgingLineHasPurgeKey : Line → Type 0
OnlyPurgingLineHasPurgeKey line = IfSome line.purge_key (λ key. (is_purge_key key ≡ true) × (line.origin ≡ None))
