-- What the versions of the table share: a line without the keys that a version adds says the same in each, a table of the
-- first has no line with `cache`, one of the first two none with a word, and one of the first three none with a word of
-- the fourth.
use Rattle.std.proofs.Common.{◌≡◌, Less, Equal, Greater, Ordering, is_eq, nat_cmp, ℕ, ◌+◌, ◌^◌, ◌≤◌, leb, arith, Bool, true, false, cond, List, codes, Option, Some, None, refl, ap, sym, ◌∙◌, subst}
use Rattle.std.specs.Prelude.{Ok, Err, not, ◌&&◌, bytes_eq, unwrap_or, option_map, IfSome, ℤ, pos, negsuc, nat_le, is_none, ◌||◌}
use Rattle.std.specs.Option.{option_and_then}
use Rattle.std.specs.List.{All}
use Rattle.std.specs.Ordering.{match_ordering}
use Rattle.std.specs.Cmp.Lexicographic.{slice_cmp, nat_list_eq_equiv}
use Rattle.std.proofs.lemmas.Bool.{leb-true}
use Rattle.std.proofs.lemmas.Slice.Eq.{bytes_eq-Decides}
use Rattle.std.proofs.lemmas.Map.Text.{is_eq-slice_cmp}
use Rattle.toml.specs.Data.{Data, Items, no_items, item, Members, no_members, member, get_member, as_table, as_integer}
use Rattle.hx_policy.specs.Policies.{plain, default_policy_with_hidden_tags}
use Rattle.hx_allow.specs.TableLines.{Line as PlainLine, Table}
use Rattle.hx_allow.specs.Keys.{key_of_line_option}
use Rattle.hx_allow.specs.LineWords.{text_of_key_equals, line_caches}
use Rattle.hx_allow.specs.Rows.{KeyDefinition, row_of_line_key, word_row, top_keys, all_line_keys, fault_of_top_key, fault_of_line_key, has_keys_of}
use Rattle.hx_allow.specs.LineTables.{value_is_good_for_key_row, line_key_has_good_value, first_bad_key, line_fault, line_of_members, first_fault_of_lines, first_fault_or_later, fault_of_line_if_table, line_has_lowercase_method, line_has_path_with_star, lowercase_or_star_fault}
use Rattle.hx_allow.specs.Tables.{top_key_has_good_value, store_bound_is_good, number_of_key, first_bad_top_key, line_tables_of_toml, table_version_of, table_fault, table_of_members, config_or_fault_of_table, fault_or_table_read}
use Rattle.hx_allow.specs.Values.{is_known_key, is_row_key_in_version, first_unknown, within, is_some_and}
use Rattle.hx_allow.specs.Versions.{LineHasNoOptionKey, LineHasNoKeyOfVersionFour, LineHasNoLowercaseMethodOrStar, LineReadsAsInVersionThree, LineIsAsInVersionThree}
use Rattle.hx_allow.specs.declared.config_faults.TableFault.{TableFault}
use Rattle.hx_allow.specs.declared.config_faults.TableFault.TheVariants.{UnknownKey, BadNumber, BadCache, BadWord, MethodInLowerCase, StarInPath}
use Rattle.hx_allow.specs.declared.config_faults.LineOption.{LineOption}
use Rattle.hx_allow.specs.declared.config_faults.LineOption.TheVariants.{Lifetime, ErrorLifetime, LifetimeMost, StaleIfError, SetCookie, Cookies, SessionCookies, Errors, RequestDirectives, Wait, Explain, Conditions, Loops, StaleWhileRevalidate, Vary, OriginTimeout, PurgeKey, Ranges, WaitTimeout}
use Rattle.hx_allow.specs.declared.config_faults.NumberKey.TheVariants.{Version, Capacity, MaxBody, MaxStored, MaxStore}
use Rattle.hx_allow.specs.declared.rows.LineKey.{LineKey}
use Rattle.hx_allow.specs.declared.rows.LineKey.TheVariants.{Host, Methods, Path, Origin, Cache, Word}
use Rattle.hx_allow.specs.declared.rows.KeyPlace.{KeyPlace}
use Rattle.hx_allow.specs.declared.rows.TopKey.{TopKey}
use Rattle.hx_allow.specs.declared.rows.TopKey.TheVariants.{Name, Number, Lines}
use Rattle.hx_allow.specs.declared.rows.KeyPlace.TheVariants.{Needed, Optional, AllowingLine, CachingLine, PurgingLine}
use Rattle.hx_allow.specs.declared.values.Scope.{Scope}
use Rattle.hx_allow.specs.declared.values.Scope.TheVariants.{Top, Line}
use Rattle.hx_allow.specs.declared.values.TableVersion.{TableVersion}
use Rattle.hx_allow.specs.declared.values.TableVersion.TheVariants.{One, Two, Three, Four}
use Rattle.hx_allow.proofs.KeysListed.{each_key, found_fails, none_fails, any_alike, plain_policy}
use Rattle.hx_allow.proofs.LinesRead.{each_line_read}
use Rattle.hx_allow.proofs.NamesRead.{bad_before, bad_in_four, keys_are_good, names_as_before}

-- ---- keys

-- a key that stands where another one is looked for and isn't found is another key
is_other : (word key : List ℕ) (value : Data) (found : Option Data) → match_ordering (slice_cmp nat_cmp word key) found (Some value) found ≡ None → (bytes_eq key word ≡ false) × (found ≡ None)
is_other word key value found none = by_order (slice_cmp nat_cmp word key) refl none
  where
    differs : (o : Ordering) → slice_cmp nat_cmp word key ≡ o → is_eq o ≡ false → bytes_eq key word ≡ false
    differs o is other = nat_list_eq_equiv.symm key word ∙ (sym (is_eq-slice_cmp word key) ∙ (ap is_eq is ∙ other))

    by_order : (o : Ordering) → slice_cmp nat_cmp word key ≡ o → match_ordering o found (Some value) found ≡ None → (bytes_eq key word ≡ false) × (found ≡ None)
    by_order Less is absent = (differs Less is refl, absent)
    by_order Equal is absent = cc
    by_order Greater is absent = (differs Greater is refl, absent)

-- a key that is known isn't one that isn't
known_is_other : (scope : Scope) (word key : List ℕ) (value : Data) (found : Option Data) → is_known_key scope word ≡ false → is_known_key scope key ≡ true → match_ordering (slice_cmp nat_cmp word key) found (Some value) found ≡ found
known_is_other scope word key value found unknown known = by_order (slice_cmp nat_cmp word key) refl
  where
    by_order : (o : Ordering) → slice_cmp nat_cmp word key ≡ o → match_ordering (slice_cmp nat_cmp word key) found (Some value) found ≡ found
    by_order Less is = rw is refl
    by_order Equal is =
        let same : word ≡ key = (bytes_eq-Decides word key).0 (sym (is_eq-slice_cmp word key) ∙ ap is_eq is) in
        let bad : is_known_key scope word ≡ true = subst (λ k. is_known_key scope k ≡ true) (sym same) known in
        cc
    by_order Greater is = rw is refl

all_known : (known : Bool) (rest : Option (List ℕ)) (key : List ℕ) → cond known rest (Some key) ≡ None → (known ≡ true) × (rest ≡ None)
all_known true rest key none = (refl, none)
all_known false rest key none = cc

-- where each key is known, one that isn't doesn't stand
pub not_among_known : (scope : Scope) (word : List ℕ) (ms : Members) → is_known_key scope word ≡ false → first_unknown scope ms ≡ None → get_member word ms ≡ None
not_among_known scope word no_members unknown none = refl
not_among_known scope word (member key value ms) unknown none =
    let known = all_known (is_known_key scope key) (first_unknown scope ms) key none in
    known_is_other scope word key value (get_member word ms) unknown known.0 ∙ not_among_known scope word ms unknown known.1

no_cache : (ms : Members) → first_unknown (Line One) ms ≡ None → get_member (codes "cache") ms ≡ None
no_cache ms none = not_among_known (Line One) (codes "cache") ms refl none

abbrev is_needed : KeyPlace → Bool
is_needed Needed = true
is_needed _ = false

abbrev is_no_needed_word : LineKey → Bool
is_no_needed_word (Word word) = not (is_needed (word_row word).place)
is_no_needed_word key = true

-- a version before the third has none of its words
abbrev is_no_word_of : TableVersion → LineKey → Bool
is_no_word_of version (Word word) = not (is_known_key (Line version) (key_of_line_option word))
is_no_word_of version key = true

not_true : (b : Bool) → not b ≡ true → b ≡ false
not_true true e = cc
not_true false e = refl

unknown_word : (version : TableVersion) (word : LineOption) → has_keys_of version Three ≡ false → is_known_key (Line version) (key_of_line_option word) ≡ false
unknown_word One word other = not_true (is_known_key (Line One) (key_of_line_option word)) (each_key (is_no_word_of One) refl (Word word))
unknown_word Two word other = not_true (is_known_key (Line Two) (key_of_line_option word)) (each_key (is_no_word_of Two) refl (Word word))
unknown_word Three word other = cc
unknown_word Four word other = cc

no_words : (version : TableVersion) (ms : Members) → has_keys_of version Three ≡ false → first_unknown (Line version) ms ≡ None → LineHasNoOptionKey ms
no_words version ms other none = λ word. not_among_known (Line version) (key_of_line_option word) ms (unknown_word version word other) none

-- ---- lines that say nothing new read alike

-- where `cache` doesn't stand, the first two versions know the same keys
same_unknown : (ms : Members) → get_member (codes "cache") ms ≡ None → first_unknown (Line Two) ms ≡ first_unknown (Line One) ms
same_unknown no_members none = refl
same_unknown (member key value ms) none =
    let other = is_other (codes "cache") key value (get_member (codes "cache") ms) none in
    rw other.0 (rw (same_unknown ms other.1) refl)

and_false : (b : Bool) → (b && false) ≡ false
and_false true = refl
and_false false = refl

-- where no word stands, the last two do
known_alike : (key : List ℕ) → ((word : LineOption) → bytes_eq key (key_of_line_option word) ≡ false) → is_known_key (Line Three) key ≡ is_known_key (Line Two) key
known_alike key other = any_alike (λ known. is_row_key_in_version Three key (row_of_line_key known)) (λ known. is_row_key_in_version Two key (row_of_line_key known)) all_line_keys alike
  where
    alike : (known : LineKey) → is_row_key_in_version Three key (row_of_line_key known) ≡ is_row_key_in_version Two key (row_of_line_key known)
    alike Host = refl
    alike Methods = refl
    alike Path = refl
    alike Origin = refl
    alike Cache = refl
    alike (Word word) =
        ap (λ b. has_keys_of Three (word_row word).since && b) (other word)
        ∙ (and_false (has_keys_of Three (word_row word).since)
        ∙ (sym (and_false (has_keys_of Two (word_row word).since))
        ∙ sym (ap (λ b. has_keys_of Two (word_row word).since && b) (other word))))

pub without_words : (ms : Members) → LineHasNoOptionKey ms → first_unknown (Line Three) ms ≡ first_unknown (Line Two) ms
without_words no_members none = refl
without_words (member key value ms) none =
    let others : (word : LineOption) → (bytes_eq key (key_of_line_option word) ≡ false) × (get_member (key_of_line_option word) ms ≡ None) =
    λ word. is_other (key_of_line_option word) key value (get_member (key_of_line_option word) ms) (none word) in
    rw (known_alike key (λ word. (others word).0)) (rw (without_words ms (λ word. (others word).1)) refl)

-- where no word of the fourth version stands, the last two versions know the same keys
known_in_four : (key : List ℕ) → ((word : LineOption) → (word_row word).since ≡ Four → bytes_eq key (key_of_line_option word) ≡ false) → is_known_key (Line Four) key ≡ is_known_key (Line Three) key
known_in_four key other = any_alike (λ known. is_row_key_in_version Four key (row_of_line_key known)) (λ known. is_row_key_in_version Three key (row_of_line_key known)) all_line_keys alike
  where
    alike : (known : LineKey) → is_row_key_in_version Four key (row_of_line_key known) ≡ is_row_key_in_version Three key (row_of_line_key known)
    alike Host = refl
    alike Methods = refl
    alike Path = refl
    alike Origin = refl
    alike Cache = refl
    alike (Word Lifetime) = refl
    alike (Word ErrorLifetime) = other ErrorLifetime refl
    alike (Word LifetimeMost) = other LifetimeMost refl
    alike (Word StaleIfError) = refl
    alike (Word SetCookie) = refl
    alike (Word Cookies) = other Cookies refl
    alike (Word SessionCookies) = other SessionCookies refl
    alike (Word Errors) = refl
    alike (Word RequestDirectives) = refl
    alike (Word Wait) = refl
    alike (Word Explain) = refl
    alike (Word Conditions) = other Conditions refl
    alike (Word Loops) = other Loops refl
    alike (Word StaleWhileRevalidate) = other StaleWhileRevalidate refl
    alike (Word Vary) = other Vary refl
    alike (Word OriginTimeout) = other OriginTimeout refl
    alike (Word PurgeKey) = other PurgeKey refl
    alike (Word Ranges) = other Ranges refl
    alike (Word WaitTimeout) = other WaitTimeout refl

same_unknown_of_four : (ms : Members) → LineHasNoKeyOfVersionFour ms → first_unknown (Line Four) ms ≡ first_unknown (Line Three) ms
same_unknown_of_four no_members none = refl
same_unknown_of_four (member key value ms) none =
    let others : (word : LineOption) → (word_row word).since ≡ Four → (bytes_eq key (key_of_line_option word) ≡ false) × (get_member (key_of_line_option word) ms ≡ None) =
    λ word since. is_other (key_of_line_option word) key value (get_member (key_of_line_option word) ms) (none word since) in
    rw (known_in_four key (λ word since. (others word since).0)) (rw (same_unknown_of_four ms (λ word since. (others word since).1)) refl)

-- versions that know the same keys of a line, find the same of them good and tell the same of its spelling have the
-- same first fault
same_by_keys : (later earlier : TableVersion) (n : ℕ) (ms : Members) → first_unknown (Line later) ms ≡ first_unknown (Line earlier) ms → first_bad_key later ms ≡ first_bad_key earlier ms → lowercase_or_star_fault later n ms ≡ lowercase_or_star_fault earlier n ms → line_fault later n ms ≡ line_fault earlier n ms
unfolding line_fault
same_by_keys later earlier n ms keys bad spelling = by_keys (first_unknown (Line earlier) ms) refl
  where
    by_keys : (o : Option (List ℕ)) → first_unknown (Line earlier) ms ≡ o → line_fault later n ms ≡ line_fault earlier n ms
    by_keys (Some key) e = rw keys (rw e refl)
    by_keys None e =
        rw keys (rw e (
        ap (λ (o : Option LineKey). first_fault_or_later (option_map (fault_of_line_key n) o) (lowercase_or_star_fault later n ms)) bad
        ∙ ap (first_fault_or_later (option_map (fault_of_line_key n) (first_bad_key earlier ms))) spelling
        ))

pub same_fault : (version : TableVersion) (n : ℕ) (ms : Members) → has_keys_of version Four ≡ false → get_member (codes "cache") ms ≡ None → LineHasNoOptionKey ms → line_fault version n ms ≡ line_fault One n ms
same_fault One n ms before none no_word = refl
same_fault Two n ms before none no_word = same_by_keys Two One n ms (same_unknown ms none) (bad_before Two ms refl) refl
same_fault Three n ms before none no_word = same_by_keys Three One n ms (without_words ms no_word ∙ same_unknown ms none) (bad_before Three ms refl) refl
same_fault Four n ms before none no_word = cc

-- a line that is spelled for the fourth version has no fault of its spelling
no_spelling_fault : (n : ℕ) (ms : Members) → LineHasNoLowercaseMethodOrStar ms → lowercase_or_star_fault Four n ms ≡ None
no_spelling_fault n ms spelled = rw spelled.0 (rw spelled.1 refl)

pub same_fault_of_three : (n : ℕ) (ms : Members) → LineHasNoKeyOfVersionFour ms → LineHasNoLowercaseMethodOrStar ms → LineReadsAsInVersionThree ms → line_fault Four n ms ≡ line_fault Three n ms
same_fault_of_three n ms no_word spelled names = same_by_keys Four Three n ms (same_unknown_of_four ms no_word) (bad_in_four ms names) (no_spelling_fault n ms spelled)

pub same_fault_in_four : (n : ℕ) (ms : Members) → get_member (codes "cache") ms ≡ None → LineHasNoOptionKey ms → LineHasNoLowercaseMethodOrStar ms → LineReadsAsInVersionThree ms → line_fault Four n ms ≡ line_fault One n ms
same_fault_in_four n ms none no_word spelled names = same_fault_of_three n ms (λ word since. no_word word) spelled names ∙ same_fault Three n ms refl none no_word

-- what the third version reads the fourth reads, but for its spelling
pub still_read : (n : ℕ) (ms : Members) → LineHasNoKeyOfVersionFour ms → LineHasNoLowercaseMethodOrStar ms → line_fault Three n ms ≡ None → line_fault Four n ms ≡ None
still_read n ms no_word spelled none = same_fault_of_three n ms no_word spelled (names_as_before Three ms refl (keys_are_good Three n ms none)) ∙ none

pub same_fault_of_two : (n : ℕ) (ms : Members) → LineHasNoOptionKey ms → line_fault Three n ms ≡ line_fault Two n ms
same_fault_of_two n ms no_word = same_by_keys Three Two n ms (without_words ms no_word) (bad_before Three ms refl ∙ sym (bad_before Two ms refl)) refl

-- ---- faults that a version never has

-- the fault is of a key that a version adds
abbrev is_of_added_key : TableFault → Bool
is_of_added_key (BadCache line) = true
is_of_added_key (BadWord line word) = true
is_of_added_key (BadNumber MaxStore) = true
is_of_added_key (MethodInLowerCase line) = true
is_of_added_key (StarInPath line) = true
is_of_added_key _ = false

neither_gives : (a b : Option TableFault) (fault : TableFault) → ¬ (a ≡ Some fault) → ¬ (b ≡ Some fault) → ¬ (first_fault_or_later a b ≡ Some fault)
neither_gives None b fault first later = later
neither_gives (Some x) b fault first later = first

module _ (fault : TableFault) (is_added : is_of_added_key fault ≡ true) where
  not_it : (x : TableFault) → is_of_added_key x ≡ false → ¬ (x ≡ fault)
  not_it x other same =
      let bad : is_of_added_key fault ≡ false = subst (λ f. is_of_added_key f ≡ false) same other in
      cc

  module _ (version : TableVersion)
      (never : (n : ℕ) (ms : Members) (key : LineKey) → first_unknown (Line version) ms ≡ None → line_key_has_good_value version ms key ≡ false → ¬ (fault_of_line_key n key ≡ fault))
      (never_spelled : (n : ℕ) (ms : Members) → ¬ (lowercase_or_star_fault version n ms ≡ Some fault))
      (never_at_top : (t : Members) (key : TopKey) → table_version_of t ≡ version → first_unknown (Top (table_version_of t)) t ≡ None → top_key_has_good_value t key ≡ false → ¬ (fault_of_top_key key ≡ fault)) where
    not_refused : (n : ℕ) (ms : Members) → ¬ (line_fault version n ms ≡ Some fault)
    unfolding line_fault
    not_refused n ms bad = by_keys (first_unknown (Line version) ms) refl (first_bad_key version ms) refl
      where
        by_keys : (o : Option (List ℕ)) → first_unknown (Line version) ms ≡ o → (p : Option LineKey) → first_bad_key version ms ≡ p → ⊥
        by_keys (Some key) e p f =
            let is : line_fault version n ms ≡ Some (UnknownKey key) = rw e refl in
            not_it (UnknownKey key) refl cc
        by_keys None e None f =
            let is : line_fault version n ms ≡ lowercase_or_star_fault version n ms = rw e (rw f refl) in
            never_spelled n ms (sym is ∙ bad)
        by_keys None e (Some key) f =
            let is : line_fault version n ms ≡ Some (fault_of_line_key n key) = rw e (rw f refl) in
            let same : fault_of_line_key n key ≡ fault = cc in
            never n ms key e (found_fails (line_key_has_good_value version ms) all_line_keys key f) same

    item_not_refused : (n : ℕ) (o : Option Members) → ¬ (fault_of_line_if_table version n o ≡ Some fault)
    item_not_refused n None bad = cc
    item_not_refused n (Some ms) bad = not_refused n ms bad

    lines_not_refused : (n : ℕ) (ds : Items) → ¬ (first_fault_of_lines version n ds ≡ Some fault)
    lines_not_refused n no_items = λ bad. cc
    lines_not_refused n (item d ds) =
        neither_gives (fault_of_line_if_table version n (as_table d)) (first_fault_of_lines version (n + 1) ds) fault (item_not_refused n (as_table d)) (lines_not_refused (n + 1) ds)

    table_not_refused : (t : Members) → table_version_of t ≡ version → ¬ (table_fault t ≡ Some fault)
    unfolding table_fault
    table_not_refused t same bad = by_keys (first_unknown (Top (table_version_of t)) t) refl (first_bad_top_key t) refl
      where
        by_keys : (o : Option (List ℕ)) → first_unknown (Top (table_version_of t)) t ≡ o → (p : Option TopKey) → first_bad_top_key t ≡ p → ⊥
        by_keys (Some key) e p f =
            let is : table_fault t ≡ Some (UnknownKey key) = rw e refl in
            not_it (UnknownKey key) refl cc
        by_keys None e (Some key) f =
            let is : table_fault t ≡ Some (fault_of_top_key key) = rw e (rw f refl) in
            let found : fault_of_top_key key ≡ fault = cc in
            never_at_top t key same e (found_fails (top_key_has_good_value t) top_keys key f) found
        by_keys None e None f =
            let is : table_fault t ≡ first_fault_of_lines version 1 (unwrap_or (line_tables_of_toml t) no_items) = rw e (rw f (rw same refl)) in
            lines_not_refused 1 (unwrap_or (line_tables_of_toml t) no_items) (sym is ∙ bad)

    never_judged : (t : Members) → table_version_of t ≡ version → ¬ (config_or_fault_of_table t ≡ Err fault)
    unfolding config_or_fault_of_table
    never_judged t same bad = by_fault (table_fault t) refl
      where
        by_fault : (o : Option TableFault) → table_fault t ≡ o → ⊥
        by_fault None e = let is : config_or_fault_of_table t ≡ fault_or_table_read None t = rw e refl in cc
        by_fault (Some other) e =
            let is : config_or_fault_of_table t ≡ Err other = rw e refl in
            let both : other ≡ fault = cc in
            table_not_refused t same (e ∙ ap Some both)

-- a spelling's fault is one of two
abbrev is_of_spelling : TableFault → Bool
is_of_spelling (MethodInLowerCase line) = true
is_of_spelling (StarInPath line) = true
is_of_spelling _ = false

never_by_spelling : (version : TableVersion) (fault : TableFault) → is_of_spelling fault ≡ false → (n : ℕ) (ms : Members) → ¬ (lowercase_or_star_fault version n ms ≡ Some fault)
never_by_spelling One fault other n ms is = cc
never_by_spelling Two fault other n ms is = cc
never_by_spelling Three fault other n ms is = cc
never_by_spelling Four fault other n ms is = by_tests (line_has_lowercase_method ms) (line_has_path_with_star ms) is
  where
    by_tests : (small star : Bool) → cond small (Some (MethodInLowerCase n)) (cond star (Some (StarInPath n)) None) ≡ Some fault → ⊥
    by_tests true star e =
        let same : MethodInLowerCase n ≡ fault = cc in
        let bad : is_of_spelling fault ≡ true = subst (λ f. is_of_spelling f ≡ true) same refl in
        cc
    by_tests false true e =
        let same : StarInPath n ≡ fault = cc in
        let bad : is_of_spelling fault ≡ true = subst (λ f. is_of_spelling f ≡ true) same refl in
        cc
    by_tests false false e = cc

-- before the fourth version no spelling is refused
no_spelling_before : (version : TableVersion) (n : ℕ) (ms : Members) → has_keys_of version Four ≡ false → lowercase_or_star_fault version n ms ≡ None
no_spelling_before One n ms before = refl
no_spelling_before Two n ms before = refl
no_spelling_before Three n ms before = refl
no_spelling_before Four n ms before = cc

never_of_cache : (line n : ℕ) (ms : Members) (key : LineKey) → first_unknown (Line One) ms ≡ None → line_key_has_good_value One ms key ≡ false → ¬ (fault_of_line_key n key ≡ BadCache line)
never_of_cache line n ms Host known bad same = cc
never_of_cache line n ms Methods known bad same = cc
never_of_cache line n ms Path known bad same = cc
never_of_cache line n ms Origin known bad same = cc
never_of_cache line n ms Cache known bad same =
    let good : line_key_has_good_value One ms Cache ≡ true = rw (no_cache ms known) refl in
    cc
never_of_cache line n ms (Word word) known bad same = cc

-- a key that needn't stand is good where it doesn't
missing_is_good : (version : TableVersion) (place : KeyPlace) (row : KeyDefinition) (ms : Members) → has_keys_of version Four ≡ false → is_needed place ≡ false → get_member row.key ms ≡ None → value_is_good_for_key_row version place row ms ≡ true
missing_is_good version Needed row ms before other none = cc
missing_is_good version Optional row ms before other none = rw none refl
missing_is_good version AllowingLine row ms before other none = rw none refl
missing_is_good version CachingLine row ms before other none = rw none refl
missing_is_good version PurgingLine row ms before other none = rw before (rw none refl)

older_than_four : (version : TableVersion) → has_keys_of version Three ≡ false → has_keys_of version Four ≡ false
older_than_four One other = refl
older_than_four Two other = refl
older_than_four Three other = cc
older_than_four Four other = cc

never_of_words : (version : TableVersion) (line : ℕ) (word : LineOption) (n : ℕ) (ms : Members) (key : LineKey) → has_keys_of version Three ≡ false → first_unknown (Line version) ms ≡ None → line_key_has_good_value version ms key ≡ false → ¬ (fault_of_line_key n key ≡ BadWord line word)
never_of_words version line word n ms Host other known bad same = cc
never_of_words version line word n ms Methods other known bad same = cc
never_of_words version line word n ms Path other known bad same = cc
never_of_words version line word n ms Origin other known bad same = cc
never_of_words version line word n ms Cache other known bad same = cc
never_of_words version line word n ms (Word bad_word) other known bad same =
    let place : is_needed (word_row bad_word).place ≡ false = not_true (is_needed (word_row bad_word).place) (each_key is_no_needed_word refl (Word bad_word)) in
    let good : line_key_has_good_value version ms (Word bad_word) ≡ true = missing_is_good version (word_row bad_word).place (word_row bad_word) ms (older_than_four version other) place (no_words version ms other known bad_word) in
    cc

pub never_refused : (t : Members) (line : ℕ) → table_version_of t ≡ One → ¬ (config_or_fault_of_table t ≡ Err (BadCache line))
never_refused t line one = never_judged (BadCache line) refl One (never_of_cache line) (λ n ms same. cc) (λ t key same known bad. at_top key) t one
  where
    at_top : (key : TopKey) → ¬ (fault_of_top_key key ≡ BadCache line)
    at_top Name same = cc
    at_top (Number key) same = cc
    at_top Lines same = cc

pub never_refused_for_words : (t : Members) (line : ℕ) (word : LineOption) → has_keys_of (table_version_of t) Three ≡ false → ¬ (config_or_fault_of_table t ≡ Err (BadWord line word))
never_refused_for_words t line word other =
    never_judged (BadWord line word) refl (table_version_of t) (λ n ms key known bad. never_of_words (table_version_of t) line word n ms key other known bad) (never_by_spelling (table_version_of t) (BadWord line word) refl) (λ t key same known bad. at_top key) t refl
  where
    at_top : (key : TopKey) → ¬ (fault_of_top_key key ≡ BadWord line word)
    at_top Name same = cc
    at_top (Number key) same = cc
    at_top Lines same = cc

-- ---- the words of the fourth version

unknown_word_of_four : (version : TableVersion) (word : LineOption) → (word_row word).since ≡ Four → has_keys_of version Four ≡ false → is_known_key (Line version) (key_of_line_option word) ≡ false
unknown_word_of_four One word since before = unknown_word One word refl
unknown_word_of_four Two word since before = unknown_word Two word refl
unknown_word_of_four Three Lifetime since before = cc
unknown_word_of_four Three ErrorLifetime since before = refl
unknown_word_of_four Three LifetimeMost since before = refl
unknown_word_of_four Three StaleIfError since before = cc
unknown_word_of_four Three SetCookie since before = cc
unknown_word_of_four Three Cookies since before = refl
unknown_word_of_four Three SessionCookies since before = refl
unknown_word_of_four Three Errors since before = cc
unknown_word_of_four Three RequestDirectives since before = cc
unknown_word_of_four Three Wait since before = cc
unknown_word_of_four Three Explain since before = cc
unknown_word_of_four Three Conditions since before = refl
unknown_word_of_four Three Loops since before = refl
unknown_word_of_four Three StaleWhileRevalidate since before = refl
unknown_word_of_four Three Vary since before = refl
unknown_word_of_four Three OriginTimeout since before = refl
unknown_word_of_four Three PurgeKey since before = refl
unknown_word_of_four Three Ranges since before = refl
unknown_word_of_four Three WaitTimeout since before = refl
unknown_word_of_four Four word since before = cc

never_of_new_words : (version : TableVersion) (line : ℕ) (word : LineOption) (n : ℕ) (ms : Members) (key : LineKey) → (word_row word).since ≡ Four → has_keys_of version Four ≡ false → first_unknown (Line version) ms ≡ None → line_key_has_good_value version ms key ≡ false → ¬ (fault_of_line_key n key ≡ BadWord line word)
never_of_new_words version line word n ms Host since before known bad same = cc
never_of_new_words version line word n ms Methods since before known bad same = cc
never_of_new_words version line word n ms Path since before known bad same = cc
never_of_new_words version line word n ms Origin since before known bad same = cc
never_of_new_words version line word n ms Cache since before known bad same = cc
never_of_new_words version line word n ms (Word bad_word) since before known bad same =
    let alike : bad_word ≡ word = cc in
    let new : (word_row bad_word).since ≡ Four = subst (λ w. (word_row w).since ≡ Four) (sym alike) since in
    let none : get_member (key_of_line_option bad_word) ms ≡ None = not_among_known (Line version) (key_of_line_option bad_word) ms (unknown_word_of_four version bad_word new before) known in
    let place : is_needed (word_row bad_word).place ≡ false = not_true (is_needed (word_row bad_word).place) (each_key is_no_needed_word refl (Word bad_word)) in
    let good : line_key_has_good_value version ms (Word bad_word) ≡ true = missing_is_good version (word_row bad_word).place (word_row bad_word) ms before place none in
    cc

pub never_refused_for_new_words : (t : Members) (line : ℕ) (word : LineOption) → (word_row word).since ≡ Four → has_keys_of (table_version_of t) Four ≡ false → ¬ (config_or_fault_of_table t ≡ Err (BadWord line word))
never_refused_for_new_words t line word since before =
    never_judged (BadWord line word) refl (table_version_of t) (λ n ms key known bad. never_of_new_words (table_version_of t) line word n ms key since before known bad) (never_by_spelling (table_version_of t) (BadWord line word) refl) (λ t key same known bad. at_top key) t refl
  where
    at_top : (key : TopKey) → ¬ (fault_of_top_key key ≡ BadWord line word)
    at_top Name same = cc
    at_top (Number key) same = cc
    at_top Lines same = cc

-- ---- the bound of the store

unknown_bound : (version : TableVersion) → has_keys_of version Four ≡ false → is_known_key (Top version) (codes "max_store") ≡ false
unknown_bound One before = refl
unknown_bound Two before = refl
unknown_bound Three before = refl
unknown_bound Four before = cc

no_bound : (version : TableVersion) (t : Members) → has_keys_of version Four ≡ false → first_unknown (Top version) t ≡ None → get_member (codes "max_store") t ≡ None
no_bound version t before known = not_among_known (Top version) (codes "max_store") t (unknown_bound version before) known

never_of_bound : (t : Members) (key : TopKey) → has_keys_of (table_version_of t) Four ≡ false → first_unknown (Top (table_version_of t)) t ≡ None → top_key_has_good_value t key ≡ false → ¬ (fault_of_top_key key ≡ BadNumber MaxStore)
never_of_bound t Name before known bad same = cc
never_of_bound t (Number Version) before known bad same = cc
never_of_bound t (Number Capacity) before known bad same = cc
never_of_bound t (Number MaxBody) before known bad same = cc
never_of_bound t (Number MaxStored) before known bad same = cc
never_of_bound t (Number MaxStore) before known bad same =
    let good : top_key_has_good_value t (Number MaxStore) ≡ true = rw (no_bound (table_version_of t) t before known) refl in
    cc
never_of_bound t Lines before known bad same = cc

no_line_gives : (n : ℕ) (key : LineKey) → ¬ (fault_of_line_key n key ≡ BadNumber MaxStore)
no_line_gives n Host same = cc
no_line_gives n Methods same = cc
no_line_gives n Path same = cc
no_line_gives n Origin same = cc
no_line_gives n Cache same = cc
no_line_gives n (Word word) same = cc

pub never_refused_for_bound : (t : Members) → has_keys_of (table_version_of t) Four ≡ false → ¬ (config_or_fault_of_table t ≡ Err (BadNumber MaxStore))
never_refused_for_bound t before =
    never_judged (BadNumber MaxStore) refl (table_version_of t) (λ n ms key known bad. no_line_gives n key) (never_by_spelling (table_version_of t) (BadNumber MaxStore) refl)
    (λ u key same known bad. never_of_bound u key (subst (λ v. has_keys_of v Four ≡ false) (sym same) before) known bad) t refl

-- ---- spellings that the fourth version refuses

never_spelled_before : (t : Members) (fault : TableFault) → is_of_added_key fault ≡ true → is_of_spelling fault ≡ true → has_keys_of (table_version_of t) Four ≡ false → ¬ (config_or_fault_of_table t ≡ Err fault)
never_spelled_before t fault added spelled before =
    never_judged fault added (table_version_of t) (λ n ms key known bad same. no_key n key same) (λ n ms same. let none : lowercase_or_star_fault (table_version_of t) n ms ≡ None = no_spelling_before (table_version_of t) n ms before in cc) (λ t key same known bad. at_top key) t refl
  where
    other : (x : TableFault) → is_of_spelling x ≡ false → ¬ (x ≡ fault)
    other x is same = let bad : is_of_spelling fault ≡ false = subst (λ f. is_of_spelling f ≡ false) same is in cc

    no_key : (n : ℕ) (key : LineKey) → ¬ (fault_of_line_key n key ≡ fault)
    no_key n Host = other (fault_of_line_key n Host) refl
    no_key n Methods = other (fault_of_line_key n Methods) refl
    no_key n Path = other (fault_of_line_key n Path) refl
    no_key n Origin = other (fault_of_line_key n Origin) refl
    no_key n Cache = other (fault_of_line_key n Cache) refl
    no_key n (Word word) = other (fault_of_line_key n (Word word)) refl

    at_top : (key : TopKey) → ¬ (fault_of_top_key key ≡ fault)
    at_top Name = other (fault_of_top_key Name) refl
    at_top (Number key) = other (fault_of_top_key (Number key)) refl
    at_top Lines = other (fault_of_top_key Lines) refl

pub never_refused_for_methods : (t : Members) (line : ℕ) → has_keys_of (table_version_of t) Four ≡ false → ¬ (config_or_fault_of_table t ≡ Err (MethodInLowerCase line))
never_refused_for_methods t line before = never_spelled_before t (MethodInLowerCase line) refl refl before

pub never_refused_for_stars : (t : Members) (line : ℕ) → has_keys_of (table_version_of t) Four ≡ false → ¬ (config_or_fault_of_table t ≡ Err (StarInPath line))
never_refused_for_stars t line before = never_spelled_before t (StarInPath line) refl refl before

-- a line of the fourth version that is read is spelled for it
pub spelled_for_four : (n : ℕ) (ms : Members) → line_fault Four n ms ≡ None → LineHasNoLowercaseMethodOrStar ms
unfolding line_fault
spelled_for_four n ms none = by_keys (first_unknown (Line Four) ms) refl (first_bad_key Four ms) refl
  where
    by_tests : (small star : Bool) → line_has_lowercase_method ms ≡ small → line_has_path_with_star ms ≡ star → cond small (Some (MethodInLowerCase n)) (cond star (Some (StarInPath n)) None) ≡ None → LineHasNoLowercaseMethodOrStar ms
    by_tests true star is also e = cc
    by_tests false true is also e = cc
    by_tests false false is also e = (is, also)

    by_keys : (o : Option (List ℕ)) → first_unknown (Line Four) ms ≡ o → (p : Option LineKey) → first_bad_key Four ms ≡ p → LineHasNoLowercaseMethodOrStar ms
    by_keys (Some key) e p f = let bad : line_fault Four n ms ≡ Some (UnknownKey key) = rw e refl in cc
    by_keys None e (Some key) f = let bad : line_fault Four n ms ≡ Some (fault_of_line_key n key) = rw e (rw f refl) in cc
    by_keys None e None f =
        let is : line_fault Four n ms ≡ lowercase_or_star_fault Four n ms = rw e (rw f refl) in
        by_tests (line_has_lowercase_method ms) (line_has_path_with_star ms) refl refl (sym is ∙ none)

-- a line that the third version reads is told its spelling's fault
pub spelling_alone : (n : ℕ) (ms : Members) → LineHasNoKeyOfVersionFour ms → line_fault Three n ms ≡ None → line_fault Four n ms ≡ lowercase_or_star_fault Four n ms
unfolding line_fault
spelling_alone n ms no_word none =
    let good = keys_are_good Three n ms none in
    let bad : first_bad_key Four ms ≡ None = bad_in_four ms (names_as_before Three ms refl good) ∙ good in
    by_keys bad (first_unknown (Line Three) ms) refl
  where
    by_keys : first_bad_key Four ms ≡ None → (o : Option (List ℕ)) → first_unknown (Line Three) ms ≡ o → line_fault Four n ms ≡ lowercase_or_star_fault Four n ms
    by_keys bad (Some key) e = let bad : line_fault Three n ms ≡ Some (UnknownKey key) = rw e refl in cc
    by_keys bad None e = rw (same_unknown_of_four ms no_word) (rw e (rw bad refl))

pub small_method_is_told : (n : ℕ) (ms : Members) → LineHasNoKeyOfVersionFour ms → line_fault Three n ms ≡ None → line_has_lowercase_method ms ≡ true → line_fault Four n ms ≡ Some (MethodInLowerCase n)
small_method_is_told n ms no_word none small = spelling_alone n ms no_word none ∙ rw small refl

pub star_is_told : (n : ℕ) (ms : Members) → LineHasNoKeyOfVersionFour ms → line_fault Three n ms ≡ None → line_has_lowercase_method ms ≡ false → line_has_path_with_star ms ≡ true → line_fault Four n ms ≡ Some (StarInPath n)
star_is_told n ms no_word none small star = spelling_alone n ms no_word none ∙ rw small (rw star refl)

-- where a table was read no key at the top is unknown, and none is bad
read_without_fault : (t : Members) (table : Table) → config_or_fault_of_table t ≡ Ok table → (table_fault t ≡ None) × (table_of_members t ≡ table)
unfolding config_or_fault_of_table
read_without_fault t table e = by_fault (table_fault t) refl e
  where
    by_fault : (o : Option TableFault) → table_fault t ≡ o → fault_or_table_read o t ≡ Ok table → (table_fault t ≡ None) × (table_of_members t ≡ table)
    by_fault (Some fault) is e = cc
    by_fault None is e = (is, cc)

top_without_fault : (t : Members) → table_fault t ≡ None → (first_unknown (Top (table_version_of t)) t ≡ None) × (first_bad_top_key t ≡ None)
unfolding table_fault
top_without_fault t none = by_keys (first_unknown (Top (table_version_of t)) t) refl (first_bad_top_key t) refl
  where
    by_keys : (o : Option (List ℕ)) → first_unknown (Top (table_version_of t)) t ≡ o → (p : Option TopKey) → first_bad_top_key t ≡ p → (first_unknown (Top (table_version_of t)) t ≡ None) × (first_bad_top_key t ≡ None)
    by_keys (Some key) e p f = let bad : table_fault t ≡ Some (UnknownKey key) = rw e refl in cc
    by_keys None e (Some key) f = let bad : table_fault t ≡ Some (fault_of_top_key key) = rw e (rw f refl) in cc
    by_keys None e None f = (e, f)

pub read_unbounded : (t : Members) (table : Table) → has_keys_of (table_version_of t) Four ≡ false → config_or_fault_of_table t ≡ Ok table → table.max_store ≡ None
unfolding table_of_members
read_unbounded t table before e =
    let read = read_without_fault t table e in
    let none : get_member (codes "max_store") t ≡ None = no_bound (table_version_of t) t before (top_without_fault t read.0).0 in
    let absent : number_of_key MaxStore t ≡ None = rw none refl in
    ap (λ (read : Table). read.max_store) (sym read.1) ∙ absent

within_range : (low high n : ℕ) (o : Option ℤ) → within low high o ≡ Some n → (low ≤ n) × (n ≤ high)
within_range low high n None e = cc
within_range low high n (Some (negsuc k)) e = cc
within_range low high n (Some (pos k)) e = by_tests (leb low k) refl (leb k high) refl e
  where
    by_tests : (a : Bool) → leb low k ≡ a → (b : Bool) → leb k high ≡ b → cond (a && b) (Some k) None ≡ Some n → (low ≤ n) × (n ≤ high)
    by_tests true x true y e = let same : k ≡ n = cc in (subst (λ m. low ≤ m) same (leb-true low k x), subst (λ m. m ≤ high) same (leb-true k high y))
    by_tests true x false y e = cc
    by_tests false x b y e = cc

pub read_bound : (t : Members) (table : Table) → config_or_fault_of_table t ≡ Ok table → IfSome table.max_store (λ most. (65536 ≤ most) × (most ≤ 2 ^ 40) × (table.max_stored ≤ most))
unfolding table_of_members
read_bound t table e =
    let read = read_without_fault t table e in
    let good : store_bound_is_good t ≡ true = none_fails (top_key_has_good_value t) top_keys (top_without_fault t read.0).1 5 Name (omega arith) in
    subst (λ (read : Table). IfSome read.max_store (λ most. (65536 ≤ most) × (most ≤ 2 ^ 40) × (read.max_stored ≤ most))) read.1 (by_number (number_of_key MaxStore t) refl good)
  where
    Bounded : Option ℕ → Type 0
    Bounded o = IfSome o (λ most. (65536 ≤ most) × (most ≤ 2 ^ 40) × (unwrap_or (number_of_key MaxStored t) 0 ≤ most))

    by_number : (o : Option ℕ) → number_of_key MaxStore t ≡ o → store_bound_is_good t ≡ true → Bounded o
    by_number None is good = tt
    by_number (Some most) is good =
        let range = within_range 65536 1099511627776 most (option_and_then as_integer (get_member (codes "max_store") t)) is in
        (range.0, omega arith, by_member (get_member (codes "max_store") t) refl)
      where
        fits : Option ℕ → Bool
        fits o = is_some_and (λ most. nat_le (unwrap_or (number_of_key MaxStored t) 0) most) o

        by_member : (m : Option Data) → get_member (codes "max_store") t ≡ m → unwrap_or (number_of_key MaxStored t) 0 ≤ most
        by_member None e = let absent : number_of_key MaxStore t ≡ None = rw e refl in absurd (cc)
        by_member (Some value) e =
            let shown : (is_none (Some value) || fits (number_of_key MaxStore t)) ≡ true = subst (λ m. (is_none m || fits (number_of_key MaxStore t)) ≡ true) e good in
            leb-true (unwrap_or (number_of_key MaxStored t) 0) most (subst (λ o. fits o ≡ true) is shown)

-- ---- what lines say

all_keys_known : (version : TableVersion) (n : ℕ) (ms : Members) → line_fault version n ms ≡ None → first_unknown (Line version) ms ≡ None
unfolding line_fault
all_keys_known version n ms none = by_keys (first_unknown (Line version) ms) refl
  where
    by_keys : (o : Option (List ℕ)) → first_unknown (Line version) ms ≡ o → first_unknown (Line version) ms ≡ None
    by_keys (Some key) e = let is : line_fault version n ms ≡ Some (UnknownKey key) = rw e refl in cc
    by_keys None e = e

older : (version : TableVersion) (ms : Members) → has_keys_of version Three ≡ false → (has_keys_of version Four && line_caches ms) ≡ false
older One ms other = refl
older Two ms other = refl
older Three ms other = cc
older Four ms other = cc

none_of_four : (version : TableVersion) → has_keys_of version Three ≡ false → has_keys_of version Four ≡ false
none_of_four One other = refl
none_of_four Two other = refl
none_of_four Three other = cc
none_of_four Four other = cc

is_cached_line : (n : ℕ) (ms : Members) → line_fault One n ms ≡ None → (line_of_members One ms).policy ≡ plain true
unfolding line_of_members
is_cached_line n ms none =
    let known = all_keys_known One n ms none in
    let caches : not (text_of_key_equals (codes "cache") (codes "off") ms) ≡ true = rw (no_cache ms known) refl in
    plain_policy One ms (λ word of_caching. no_words One ms refl known word) refl ∙ ap plain caches

is_plain_line : (version : TableVersion) (n : ℕ) (ms : Members) → has_keys_of version Three ≡ false → line_fault version n ms ≡ None → (line_of_members version ms).policy ≡ plain (line_of_members version ms).policy.caches
unfolding line_of_members
is_plain_line version n ms other none =
    plain_policy version ms (λ word of_caching. no_words version ms other (all_keys_known version n ms none) word) (older version ms other)
    ∙ ap (λ hides. default_policy_with_hidden_tags hides (not (text_of_key_equals (codes "cache") (codes "off") ms))) (none_of_four version other)

is_line_of_three : (version : TableVersion) (n : ℕ) (ms : Members) → has_keys_of version Four ≡ false → line_fault version n ms ≡ None → LineIsAsInVersionThree (line_of_members version ms)
unfolding line_of_members
is_line_of_three version n ms before none =
    let known = all_keys_known version n ms none in
    let most : get_member (codes "lifetime-most") ms ≡ None = not_among_known (Line version) (codes "lifetime-most") ms (unknown_word_of_four version LifetimeMost refl before) known in
    let stale : get_member (codes "stale-while-revalidate") ms ≡ None = not_among_known (Line version) (codes "stale-while-revalidate") ms (unknown_word_of_four version StaleWhileRevalidate refl before) known in
    let cookies : get_member (codes "session-cookies") ms ≡ None = not_among_known (Line version) (codes "session-cookies") ms (unknown_word_of_four version SessionCookies refl before) known in
    let vary : get_member (codes "vary") ms ≡ None = not_among_known (Line version) (codes "vary") ms (unknown_word_of_four version Vary refl before) known in
    let timeout : get_member (codes "origin-timeout") ms ≡ None = not_among_known (Line version) (codes "origin-timeout") ms (unknown_word_of_four version OriginTimeout refl before) known in
    let key : get_member (codes "key") ms ≡ None = not_among_known (Line version) (codes "key") ms (unknown_word_of_four version PurgeKey refl before) known in
    (rw before refl, rw most refl, rw before refl, rw before refl, rw before refl, rw before refl, rw before refl, rw before refl, rw stale refl, and_none (text_of_key_equals (codes "wait") (codes "missing-or-stale") ms) before, rw before refl, rw cookies refl, rw vary refl, rw timeout refl, rw key refl, rw before refl, before)
  where
    and_none : {b : Bool} (a : Bool) → b ≡ false → (a && b) ≡ false
    and_none true e = e
    and_none false e = refl

pub each_is_cached : (t : Members) (table : Table) → table_version_of t ≡ One → config_or_fault_of_table t ≡ Ok table → All (λ (line : PlainLine). line.policy ≡ plain true) table.lines
each_is_cached t table one e =
    each_line_read (λ (line : PlainLine). line.policy ≡ plain true) t table
    (λ n ms none. subst (λ v. (line_of_members v ms).policy ≡ plain true) (sym one) (is_cached_line n ms (subst (λ v. line_fault v n ms ≡ None) one none))) (sym e)

pub each_is_plain : (t : Members) (table : Table) → has_keys_of (table_version_of t) Three ≡ false → config_or_fault_of_table t ≡ Ok table → All (λ (line : PlainLine). line.policy ≡ plain line.policy.caches) table.lines
each_is_plain t table other e =
    each_line_read (λ (line : PlainLine). line.policy ≡ plain line.policy.caches) t table (λ n ms none. is_plain_line (table_version_of t) n ms other none) (sym e)

pub each_is_of_three : (t : Members) (table : Table) → has_keys_of (table_version_of t) Four ≡ false → config_or_fault_of_table t ≡ Ok table → All LineIsAsInVersionThree table.lines
each_is_of_three t table before e = each_line_read LineIsAsInVersionThree t table (λ n ms none. is_line_of_three (table_version_of t) n ms before none) (sym e)
