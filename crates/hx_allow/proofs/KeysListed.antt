-- Each key of a line is one of those that are looked at, and a line without words has a plain policy. Where no key is bad
-- each of them is good. What has a line for each key stands in front.
use Rattle.std.proofs.Common.{◌≡◌, Bool, true, false, cond, List, [], ◌∷◌, codes, Some, None, refl, arith}
use Rattle.std.specs.Prelude.{not, ◌&&◌, find}
use Rattle.std.specs.List.{All, list_all, list_any}
use Rattle.std.proofs.lemmas.Bool.{and_parts}
use Rattle.std.proofs.lemmas.List.Elements.{All-nil, All-cons}
use Rattle.toml.specs.Data.{Members, get_member}
use Rattle.hx_policy.specs.Policies.{default_policy_with_hidden_tags}
use Rattle.hx_allow.specs.LineTables.{line_key_has_good_value, first_bad_key}
use Rattle.hx_allow.specs.LineWords.{text_of_key_equals, option_that_gives_error_lifetime, line_caches, removes_set_cookie, gives_lifetimes_to_set_cookie, gives_lifetimes_to_cookie_requests, forwards_conditions_of_line, forwards_ranges_of_line, fills_ranges, policy_of_line_table}
use Rattle.hx_allow.specs.Keys.{key_of_line_option}
use Rattle.hx_allow.specs.Rows.{all_line_keys, word_row, has_keys_of}
use Rattle.hx_allow.specs.Versions.{LineHasNoCachingKey}
use Rattle.hx_allow.specs.declared.config_faults.LineOption.TheVariants.{Lifetime, ErrorLifetime, LifetimeMost, StaleIfError, SetCookie, Cookies, SessionCookies, Errors, RequestDirectives, Wait, Explain, Conditions, Loops, StaleWhileRevalidate, Vary, OriginTimeout, PurgeKey, Ranges, WaitTimeout}
use Rattle.hx_allow.specs.declared.rows.LineKey.{LineKey}
use Rattle.hx_allow.specs.declared.rows.LineKey.TheVariants.{Host, Methods, Path, Origin, Cache, Word}
use Rattle.hx_allow.specs.declared.values.TableVersion.{TableVersion}
use Rattle.hx_allow.specs.declared.rows.KeyPlace.TheVariants.{CachingLine}
use Rattle.hx_allow.specs.declared.values.TableVersion.TheVariants.{One, Two, Three, Four}
use Rattle.hx_allow.proofs.LinesRead.{none_applies}

-- what holds of the list holds of each key
listed : (P : LineKey → Type 0) → All P all_line_keys → (key : LineKey) → P key
listed P all Host = all 0 Host (omega arith)
listed P all Methods = all 1 Host (omega arith)
listed P all Path = all 2 Host (omega arith)
listed P all Origin = all 3 Host (omega arith)
listed P all Cache = all 4 Host (omega arith)
listed P all (Word Lifetime) = all 5 Host (omega arith)
listed P all (Word ErrorLifetime) = all 6 Host (omega arith)
listed P all (Word LifetimeMost) = all 7 Host (omega arith)
listed P all (Word StaleIfError) = all 8 Host (omega arith)
listed P all (Word SetCookie) = all 9 Host (omega arith)
listed P all (Word Cookies) = all 10 Host (omega arith)
listed P all (Word SessionCookies) = all 11 Host (omega arith)
listed P all (Word Errors) = all 12 Host (omega arith)
listed P all (Word RequestDirectives) = all 13 Host (omega arith)
listed P all (Word Wait) = all 14 Host (omega arith)
listed P all (Word Explain) = all 15 Host (omega arith)
listed P all (Word Conditions) = all 16 Host (omega arith)
listed P all (Word Loops) = all 17 Host (omega arith)
listed P all (Word StaleWhileRevalidate) = all 18 Host (omega arith)
listed P all (Word Vary) = all 19 Host (omega arith)
listed P all (Word OriginTimeout) = all 20 Host (omega arith)
listed P all (Word PurgeKey) = all 21 Host (omega arith)
listed P all (Word Ranges) = all 22 Host (omega arith)
listed P all (Word WaitTimeout) = all 23 Host (omega arith)

-- where no word on caching stands, the policy is that of the versions before the third, in a version before the fourth,
-- or where the line takes none
error_lifetime_is_of_caching : (version : TableVersion) → (word_row (option_that_gives_error_lifetime version)).place ≡ CachingLine
error_lifetime_is_of_caching One = refl
error_lifetime_is_of_caching Two = refl
error_lifetime_is_of_caching Three = refl
error_lifetime_is_of_caching Four = refl

and_false : (b : Bool) → (b && false) ≡ false
and_false true = refl
and_false false = refl

pub plain_policy : (version : TableVersion) (ms : Members) → LineHasNoCachingKey ms → (has_keys_of version Four && line_caches ms) ≡ false → policy_of_line_table version ms ≡ default_policy_with_hidden_tags (has_keys_of version Four) (not (text_of_key_equals (codes "cache") (codes "off") ms))
plain_policy version ms none older =
    let error_lifetime : get_member (key_of_line_option (option_that_gives_error_lifetime version)) ms ≡ None = none (option_that_gives_error_lifetime version) (error_lifetime_is_of_caching version) in
    let lifetime : get_member (codes "lifetime") ms ≡ None = none Lifetime refl in
    let lifetime_most : get_member (codes "lifetime-most") ms ≡ None = none LifetimeMost refl in
    let stale_if_error : get_member (codes "stale-if-error") ms ≡ None = none StaleIfError refl in
    let stale_while_revalidate : get_member (codes "stale-while-revalidate") ms ≡ None = none StaleWhileRevalidate refl in
    let set_cookie : get_member (codes "set-cookie") ms ≡ None = none SetCookie refl in
    let errors : get_member (codes "errors") ms ≡ None = none Errors refl in
    let request_directives : get_member (codes "request-directives") ms ≡ None = none RequestDirectives refl in
    let wait : get_member (codes "wait") ms ≡ None = none Wait refl in
    let explain : get_member (codes "explain") ms ≡ None = none Explain refl in
    let cookies : gives_lifetimes_to_cookie_requests version ms ≡ true = rw older refl in
    let conditions : forwards_conditions_of_line version ms ≡ true = rw older refl in
    let removed : removes_set_cookie version ms ≡ false = rw set_cookie (and_false (has_keys_of version Four)) in
    let given : gives_lifetimes_to_set_cookie version ms ≡ true = rw older refl in
    let ranges : forwards_ranges_of_line version ms ≡ true = rw older refl in
    let ranges_word : get_member (codes "ranges") ms ≡ None = none Ranges refl in
    let filled : fills_ranges version ms ≡ false = rw ranges_word (and_false (has_keys_of version Four)) in
    rw filled (rw cookies (rw conditions (rw ranges (rw removed (rw given (rw error_lifetime (rw lifetime (rw lifetime_most (rw stale_if_error (rw stale_while_revalidate (rw set_cookie (rw errors (rw request_directives (rw wait (rw explain refl)))))))))))))))

-- ---- what a test of the list tells of each

module _ {A : Type 0} (p : A → Bool) where
  all_pass : (xs : List A) → list_all p xs ≡ true → All (λ x. p x ≡ true) xs
  all_pass [] e = All-nil (λ x. p x ≡ true)
  all_pass (x ∷ xs) e =
      let parts = and_parts (p x) (list_all p xs) e in
      All-cons (λ x. p x ≡ true) x xs parts.0 (all_pass xs parts.1)

  not_false : (b : Bool) → not b ≡ false → b ≡ true
  not_false true e = refl
  not_false false e = cc

  pub none_fails : (xs : List A) → find (λ x. not (p x)) xs ≡ None → All (λ x. p x ≡ true) xs
  none_fails [] e = All-nil (λ x. p x ≡ true)
  none_fails (x ∷ xs) e =
      let parts = none_applies (not (p x)) (find (λ x. not (p x)) xs) x e in
      All-cons (λ x. p x ≡ true) x xs (not_false (p x) parts.0) (none_fails xs parts.1)

  pub found_fails : (xs : List A) (y : A) → find (λ x. not (p x)) xs ≡ Some y → p y ≡ false
  found_fails [] y e = cc
  found_fails (x ∷ xs) y e = by_first (p x) refl e (found_fails xs y)
    where
      by_first : (b : Bool) → p x ≡ b → cond (not b) (Some x) (find (λ x. not (p x)) xs) ≡ Some y → (find (λ x. not (p x)) xs ≡ Some y → p y ≡ false) → p y ≡ false
      by_first true is e rest = rest e
      by_first false is e rest = cc

pub each_key : (p : LineKey → Bool) → list_all p all_line_keys ≡ true → (key : LineKey) → p key ≡ true
each_key p e = listed (λ key. p key ≡ true) (all_pass p all_line_keys e)

pub each_good : (version : TableVersion) (ms : Members) → first_bad_key version ms ≡ None → (key : LineKey) → line_key_has_good_value version ms key ≡ true
each_good version ms none = listed (λ key. line_key_has_good_value version ms key ≡ true) (none_fails (line_key_has_good_value version ms) all_line_keys none)

find_alike : (p q : LineKey → Bool) (keys : List LineKey) → ((key : LineKey) → p key ≡ q key) → find (λ key. not (p key)) keys ≡ find (λ key. not (q key)) keys
find_alike p q [] same = refl
find_alike p q (key ∷ keys) same = rw (same key) (rw (find_alike p q keys same) refl)

-- where each key is good in both of two versions or in none, the first that isn't is one
pub same_bad_key : (version other : TableVersion) (ms : Members) → ((key : LineKey) → line_key_has_good_value version ms key ≡ line_key_has_good_value other ms key) → first_bad_key version ms ≡ first_bad_key other ms
same_bad_key version other ms same = find_alike (line_key_has_good_value version ms) (line_key_has_good_value other ms) all_line_keys same

pub any_alike : (p q : LineKey → Bool) (keys : List LineKey) → ((key : LineKey) → p key ≡ q key) → list_any p keys ≡ list_any q keys
any_alike p q [] same = refl
any_alike p q (key ∷ keys) same = rw (same key) (rw (any_alike p q keys same) refl)
