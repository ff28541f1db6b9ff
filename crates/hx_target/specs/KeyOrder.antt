-- The order of the cache's keys: by the length of path and query, then by their bytes, then by
-- host, then by port, each byte a number. Keys tie in it exactly where they are one.
use Rattle.std.specs.Prelude.{◌≡◌, ◌==◌, ◌&&◌, Bool, true, false, length, bytes_eq, refl}
use Rattle.std.specs.declared.cmp.Ordering.{Ordering}
use Rattle.std.specs.Ordering.{nat_cmp, ordering_then, eq_by_cmp}
use Rattle.std.specs.Cmp.{IsEquivalence, IsTotalOrder, both_tied, and_equiv, on_equiv, then_total, on_total}
use Rattle.std.specs.Cmp.{nat_cmp_total, nat_eq_equiv, unsigned_ties}
use Rattle.std.specs.Cmp.Lexicographic.{slice_cmp, lists_ties, nat_list_cmp_total, nat_list_eq_equiv}
use Rattle.std.proofs.Common.{◌∙◌, ap, sym}
use Rattle.std.proofs.lemmas.Bool.{eq-eqb}
use Rattle.std.proofs.lemmas.Slice.Eq.{bytes_eq-Decides}
use Rattle.hx_target.specs.declared.keys.Key.{Key}
use Rattle.hx_target.specs.Keys.{same_key}

-- which of two keys comes first
abbrev pub key_cmp : Key → Key → Ordering
key_cmp a b =
    ordering_then
    (ordering_then (ordering_then (nat_cmp (length a.path_query) (length b.path_query))
    (slice_cmp nat_cmp a.path_query b.path_query)) (slice_cmp nat_cmp a.host b.host))
    (nat_cmp a.port b.port)

pub key_cmp_total : IsTotalOrder key_cmp
key_cmp_total =
    then_total
    (then_total (then_total (on_total (λ k. length k.path_query) nat_cmp_total)
    (on_total (λ k. k.path_query) nat_list_cmp_total)) (on_total (λ k. k.host) nat_list_cmp_total))
    (on_total (λ k. k.port) nat_cmp_total)

pub same_key_equiv : IsEquivalence same_key
same_key_equiv =
    and_equiv (and_equiv (on_equiv (λ k. k.host) nat_list_eq_equiv) (on_equiv (λ k. k.port) nat_eq_equiv))
    (on_equiv (λ k. k.path_query) nat_list_eq_equiv)

-- equal bytes are as many, so the tests can be made in either order
same_tests : (host port path size : Bool) → (path ≡ true → size ≡ true)
    → (host && port && path) ≡ (size && path && host && port)
same_tests true true true true as_many = refl
same_tests true true true false as_many = sym (as_many refl)
same_tests true true false true as_many = refl
same_tests true true false false as_many = refl
same_tests true false true true as_many = refl
same_tests true false true false as_many = refl
same_tests true false false true as_many = refl
same_tests true false false false as_many = refl
same_tests false port true true as_many = refl
same_tests false port true false as_many = refl
same_tests false port false true as_many = refl
same_tests false port false false as_many = refl

pub key_cmp_ties_are_same : (a b : Key) → same_key a b ≡ eq_by_cmp key_cmp a b
key_cmp_ties_are_same a b =
    same_tests (bytes_eq a.host b.host) (a.port == b.port) (bytes_eq a.path_query b.path_query)
    (length a.path_query == length b.path_query)
    (λ e. eq-eqb (length a.path_query) (length b.path_query)
    (ap length ((bytes_eq-Decides a.path_query b.path_query).0 e)))
    ∙ both_tied _ _ (ordering_then (ordering_then (nat_cmp (length a.path_query) (length b.path_query))
    (slice_cmp nat_cmp a.path_query b.path_query)) (slice_cmp nat_cmp a.host b.host)) _
    (both_tied _ _ (ordering_then (nat_cmp (length a.path_query) (length b.path_query))
    (slice_cmp nat_cmp a.path_query b.path_query)) _
    (both_tied _ _ (nat_cmp (length a.path_query) (length b.path_query)) _
    (unsigned_ties (length a.path_query) (length b.path_query))
    (lists_ties nat_cmp unsigned_ties a.path_query b.path_query))
    (lists_ties nat_cmp unsigned_ties a.host b.host))
    (unsigned_ties a.port b.port)
