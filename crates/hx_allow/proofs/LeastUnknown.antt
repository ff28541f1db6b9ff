-- The first unknown key of a sorted table is the least.
use Rattle.std.proofs.Common.{◌≡◌, Less, Equal, Greater, Ordering, is_lt, is_eq, nat_cmp, ℕ, Bool, true, false, ◌&&◌, cond, List, Option, Some, None, refl, ap, sym, ◌∙◌, subst, inl, inr, ◌⊎◌}
use Rattle.std.specs.Prelude.{Err, IsSome}
use Rattle.std.specs.Ordering.{match_ordering, ordering_reverse}
use Rattle.std.specs.Cmp.{tied_itself}
use Rattle.std.specs.Cmp.Lexicographic.{slice_cmp}
use Rattle.std.proofs.lemmas.Bool.{and_parts}
use Rattle.std.proofs.lemmas.Cmp.{nat_list_cmp_total}
use Rattle.std.proofs.lemmas.Slice.Eq.{bytes_eq-Decides}
use Rattle.std.proofs.lemmas.Map.Text.{is_eq-slice_cmp}
use Rattle.toml.specs.Data.{Data, Members, no_members, member, get_member, is_before, is_sorted, members_are_sorted}
use Rattle.hx_allow.specs.LineTables.{line_fault}
use Rattle.hx_allow.specs.Tables.{table_fault, config_or_fault_of_table, table_version_of, BytesAreToml, BytesReadAsTable}
use Rattle.hx_allow.specs.Unknown.{KeyIsInTable, KeyPrecedesKey, IsLeastUnknownKey}
use Rattle.hx_allow.specs.Values.{is_known_key, first_unknown}
use Rattle.hx_allow.specs.declared.config_faults.TableFault.TheVariants.{UnknownKey}
use Rattle.hx_allow.specs.declared.values.Scope.{Scope}
use Rattle.hx_allow.specs.declared.values.Scope.TheVariants.{Top, Line}
use Rattle.hx_allow.specs.declared.values.TableVersion.{TableVersion}
use Rattle.hx_allow.proofs.SortedTexts.{read_is_sorted}

less : (o : Ordering) → is_lt o ≡ true → o ≡ Less
less Less e = refl
less Equal e = cc
less Greater e = cc

same : (j k : List ℕ) → slice_cmp nat_cmp j k ≡ Equal → j ≡ k
same j k tie = (bytes_eq-Decides j k).0 (sym (is_eq-slice_cmp j k) ∙ ap is_eq tie)

-- a key that stands in the members is the first one's, or stands in the rest
in_front : (key k : List ℕ) (d : Data) (ms : Members) → KeyIsInTable key (member k d ms) → (key ≡ k) ⊎ KeyIsInTable key ms
in_front key k d ms is_present = by_order (slice_cmp nat_cmp key k) refl
  where
    by_order : (o : Ordering) → slice_cmp nat_cmp key k ≡ o → (key ≡ k) ⊎ KeyIsInTable key ms
    by_order Less is = inr (subst (λ o. IsSome (match_ordering o (get_member key ms) (Some d) (get_member key ms))) is is_present)
    by_order Equal is = inl (same key k is)
    by_order Greater is = inr (subst (λ o. IsSome (match_ordering o (get_member key ms) (Some d) (get_member key ms))) is is_present)

present_first : (k : List ℕ) (d : Data) (ms : Members) → KeyIsInTable k (member k d ms)
present_first k d ms = subst (λ o. IsSome (match_ordering o (get_member k ms) (Some d) (get_member k ms))) (sym (tied_itself nat_list_cmp_total k)) refl

present_later : (key k : List ℕ) (d : Data) (ms : Members) → KeyIsInTable key ms → KeyIsInTable key (member k d ms)
present_later key k d ms is_present = by_order (slice_cmp nat_cmp key k)
  where
    by_order : (o : Ordering) → IsSome (match_ordering o (get_member key ms) (Some d) (get_member key ms))
    by_order Less = is_present
    by_order Equal = refl
    by_order Greater = is_present

-- what is sorted behind a key stands behind it
all_behind : (k : List ℕ) (ms : Members) → is_before k ms ≡ true → members_are_sorted ms ≡ true → (key : List ℕ) → KeyIsInTable key ms → KeyPrecedesKey k key
all_behind k no_members before sorted key is_present = cc
all_behind k (member l d ms) before sorted key is_present =
    let (front, more) = and_parts (is_before l ms && is_sorted d) (members_are_sorted ms) sorted in
    let (next, here) = and_parts (is_before l ms) (is_sorted d) front in
    let first = less (slice_cmp nat_cmp k l) before in
    elim (in_front key l d ms is_present) [
      | inl is ↦ subst (KeyPrecedesKey k) (sym is) first
      | inr later ↦ nat_list_cmp_total.trans k l key first (all_behind l ms next more key later)
    ]

each_known : (scope : Scope) (ms : Members) (key : List ℕ) → first_unknown scope ms ≡ None → KeyIsInTable key ms → is_known_key scope key ≡ true
each_known scope no_members key none is_present = cc
each_known scope (member k d ms) key none is_present = by_first (λ rest. each_known scope ms key rest) (is_known_key scope k) refl
  where
    by_first : (first_unknown scope ms ≡ None → KeyIsInTable key ms → is_known_key scope key ≡ true) → (b : Bool) → is_known_key scope k ≡ b → is_known_key scope key ≡ true
    by_first known_later false is = let bad : cond false (first_unknown scope ms) (Some k) ≡ None = subst (λ b. cond b (first_unknown scope ms) (Some k) ≡ None) is none in cc
    by_first known_later true is =
        let rest : first_unknown scope ms ≡ None = subst (λ b. cond b (first_unknown scope ms) (Some k) ≡ None) is none in
        elim (in_front key k d ms is_present) [
          | inl e ↦ ap (is_known_key scope) e ∙ is
          | inr later ↦ known_later rest later
        ]

pub none_found : (scope : Scope) (ms : Members) (key : List ℕ) → first_unknown scope ms ≡ None → KeyIsInTable key ms → is_known_key scope key ≡ true
none_found = each_known

same_key_found : (a b : List ℕ) → ◌≡◌ {A = Option (List ℕ)} (Some a) (Some b) → a ≡ b
same_key_found a b e = cc

pub first_is_least : (scope : Scope) (ms : Members) (key : List ℕ) → members_are_sorted ms ≡ true → first_unknown scope ms ≡ Some key → IsLeastUnknownKey scope ms key
first_is_least scope no_members key sorted found_fault = cc
first_is_least scope (member k d ms) key sorted found_fault =
    let (front, more) = and_parts (is_before k ms && is_sorted d) (members_are_sorted ms) sorted in
    let (next, here) = and_parts (is_before k ms) (is_sorted d) front in
    by_first (λ found_later. first_is_least scope ms key more found_later) next more (is_known_key scope k) refl
  where
    by_first : (first_unknown scope ms ≡ Some key → IsLeastUnknownKey scope ms key) → is_before k ms ≡ true → members_are_sorted ms ≡ true → (b : Bool) → is_known_key scope k ≡ b → IsLeastUnknownKey scope (member k d ms) key
    by_first least_later next more true is =
        let rest : first_unknown scope ms ≡ Some key = subst (λ b. cond b (first_unknown scope ms) (Some k) ≡ Some key) is found_fault in
        let inside = least_later rest in
        record {
          is_present = present_later key k d ms inside.is_present;
          unknown = inside.unknown;
          least = λ other is_present unknown. elim (in_front other k d ms is_present) [
            | inl e ↦ let known : is_known_key scope other ≡ true = ap (is_known_key scope) e ∙ is in let bad = sym unknown ∙ known in cc
            | inr later ↦ inside.least other later unknown
          ];
        }
    by_first least_later next more false is =
        let e : k ≡ key = same_key_found k key (subst (λ b. cond b (first_unknown scope ms) (Some k) ≡ Some key) is found_fault) in
        record {
          is_present = subst (λ j. KeyIsInTable j (member k d ms)) e (present_first k d ms);
          unknown = subst (λ j. is_known_key scope j ≡ false) e is;
          least = λ other is_present unknown. elim (in_front other k d ms is_present) [
            | inl same_one ↦ inl (same_one ∙ e)
            | inr later ↦ inr (subst (λ j. KeyPrecedesKey j other) e (all_behind k ms next more other later))
          ];
        }

-- of two that come before each other neither does
not_both : (a b : List ℕ) → KeyPrecedesKey a b → KeyPrecedesKey b a → ⊥
not_both a b before after = let bad : Less ≡ ordering_reverse Less = sym before ∙ (nat_list_cmp_total.antisymm a b ∙ ap ordering_reverse after) in cc

one_least : (scope : Scope) (ms : Members) (a b : List ℕ) → IsLeastUnknownKey scope ms a → IsLeastUnknownKey scope ms b → a ≡ b
one_least scope ms a b x y =
    elim (x.least b y.is_present y.unknown) [
      | inl e ↦ sym e
      | inr before ↦ elim (y.least a x.is_present x.unknown) [
        | inl e ↦ e
        | inr after ↦ absurd (not_both a b before after)
      ]
    ]

least_is_first : (scope : Scope) (ms : Members) (key : List ℕ) → members_are_sorted ms ≡ true → IsLeastUnknownKey scope ms key → first_unknown scope ms ≡ Some key
least_is_first scope ms key sorted least = by_first (first_unknown scope ms) refl
  where
    by_first : (o : Option (List ℕ)) → first_unknown scope ms ≡ o → o ≡ Some key
    by_first None none = let bad = sym least.unknown ∙ each_known scope ms key none least.is_present in cc
    by_first (Some k) found_fault = ap Some (one_least scope ms k key (first_is_least scope ms k sorted found_fault) least)

pub found_at_top : (t : Members) (key : List ℕ) → members_are_sorted t ≡ true → IsLeastUnknownKey (Top (table_version_of t)) t key → config_or_fault_of_table t ≡ Err (UnknownKey key)
unfolding config_or_fault_of_table table_fault
found_at_top t key sorted least = rw (least_is_first (Top (table_version_of t)) t key sorted least) refl

pub found_in_line : (version : TableVersion) (n : ℕ) (ms : Members) (key : List ℕ) → members_are_sorted ms ≡ true → IsLeastUnknownKey (Line version) ms key → line_fault version n ms ≡ Some (UnknownKey key)
unfolding line_fault
found_in_line version n ms key sorted least = rw (least_is_first (Line version) ms key sorted least) refl

pub found_of_text : (text : List ℕ) (t : Members) (key : List ℕ) → BytesAreToml text t → IsLeastUnknownKey (Top (table_version_of t)) t key → BytesReadAsTable text (Err (UnknownKey key))
found_of_text text t key is least = inl (t, is, sym (found_at_top t key (read_is_sorted text t is.2) least))
