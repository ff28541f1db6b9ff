-- Members of lists, and what the serials of a key are.
use Rattle.std.proofs.Common.{◌≡◌, ℕ, ◌⊎◌, inl, inr, Bool, true, false, cond, List, [], ◌∷◌, refl, sym, ◌∙◌, ap, arith, subst}
use Rattle.std.specs.Prelude.{nat_le, ◌||◌, ◌==◌}
use Rattle.std.proofs.lemmas.Bool.Decides.{nat_tests}
use Rattle.hx_fields.proofs.FirstThat.{IsMember}
use Rattle.hx_target.specs.Keys.{same_key}
use Rattle.hx_hop.specs.declared.request_view.Asked.{Asked}
use Rattle.hx_store.specs.Stored.{Stored}
use Rattle.hx_store.specs.Serials.{SerialsAreDistinct, serial_is_in, insert_ascending}
use Rattle.hx_store.specs.Shelf.{serials, serials_of_key}
use Rattle.hx_reuse.specs.Chosen.{entries_of_key}

-- each serial names one entry
abbrev pub HasDistinctSerials : List Stored → Type 0
HasDistinctSerials held = (e f : Stored) → IsMember e held → IsMember f held → e.serial ≡ f.serial → e ≡ f

-- these are the serials that are held for the request's key
pub record AreSerialsOf (held : List Stored) (asked : Asked) (serials : List ℕ) : Type 0 where
  pub each_held : (s : ℕ) → IsMember s serials → (e : Stored) × IsMember e (entries_of_key held asked) × (e.serial ≡ s)
  pub none_missing : (e : Stored) → IsMember e (entries_of_key held asked) → IsMember e.serial serials

-- ---- distinct serials

same_true : (m n : ℕ) → m ≡ n → (m == n) ≡ true
same_true m n e = grind (arith, nat_tests)

or_true : (a b : Bool) → a ≡ true → a || b ≡ true
or_true true b h = refl
or_true false b h = cc

or_rest : (a b : Bool) → b ≡ true → a || b ≡ true
or_rest true b h = refl
or_rest false b h = h

member_is_in : (xs : List Stored) (f : Stored) → IsMember f xs → serial_is_in f.serial (serials xs) ≡ true
member_is_in [] f m = absurd m
member_is_in (x ∷ xs) f (inl e) = or_true (x.serial == f.serial) (serial_is_in f.serial (serials xs)) (same_true x.serial f.serial (ap (λ (s : Stored). s.serial) e))
member_is_in (x ∷ xs) f (inr m) = or_rest (x.serial == f.serial) (serial_is_in f.serial (serials xs)) (member_is_in xs f m)

never_both : (b : Bool) → b ≡ true → b ≡ false → ⊥
never_both b h k = cc

pub distinct_entries : (held : List Stored) → SerialsAreDistinct (serials held) → HasDistinctSerials held
distinct_entries [] d e f m n same = absurd m
distinct_entries (x ∷ xs) d e f (inl h) (inl k) same = sym h ∙ k
distinct_entries (x ∷ xs) d e f (inl h) (inr n) same =
    absurd (never_both (serial_is_in x.serial (serials xs)) (subst (λ (s : ℕ). serial_is_in s (serials xs) ≡ true) (sym same ∙ ap (λ (s : Stored). s.serial) (sym h)) (member_is_in xs f n)) d.0)
distinct_entries (x ∷ xs) d e f (inr m) (inl k) same =
    absurd (never_both (serial_is_in x.serial (serials xs)) (subst (λ (s : ℕ). serial_is_in s (serials xs) ≡ true) (same ∙ ap (λ (s : Stored). s.serial) (sym k)) (member_is_in xs e m)) d.0)
distinct_entries (x ∷ xs) d e f (inr m) (inr n) same = distinct_entries xs d.1 e f m n same

-- ---- the serials of a key

inserted_by : (t x s : ℕ) (xs ys : List ℕ) (b : Bool) → IsMember s (cond b (t ∷ x ∷ xs) (x ∷ ys)) → (IsMember s ys → (t ≡ s) ⊎ IsMember s xs) → (t ≡ s) ⊎ IsMember s (x ∷ xs)
inserted_by t x s xs ys true m rest = m
inserted_by t x s xs ys false (inl e) rest = inr (inl e)
inserted_by t x s xs ys false (inr n) rest = further (rest n)
  where
    further : (t ≡ s) ⊎ IsMember s xs → (t ≡ s) ⊎ IsMember s (x ∷ xs)
    further (inl e) = inl e
    further (inr m) = inr (inr m)

inserted : (t : ℕ) (xs : List ℕ) (s : ℕ) → IsMember s (insert_ascending t xs) → (t ≡ s) ⊎ IsMember s xs
inserted t [] s m = m
inserted t (x ∷ xs) s m = inserted_by t x s xs (insert_ascending t xs) (nat_le t x) m (λ n. inserted t xs s n)

new_by : (t x : ℕ) (xs ys : List ℕ) (b : Bool) → IsMember t ys → IsMember t (cond b (t ∷ x ∷ xs) (x ∷ ys))
new_by t x xs ys true m = inl refl
new_by t x xs ys false m = inr m

insert_new : (t : ℕ) (xs : List ℕ) → IsMember t (insert_ascending t xs)
insert_new t [] = inl refl
insert_new t (x ∷ xs) = new_by t x xs (insert_ascending t xs) (nat_le t x) (insert_new t xs)

old_by : (t x s : ℕ) (xs ys : List ℕ) (b : Bool) → IsMember s (x ∷ xs) → (IsMember s xs → IsMember s ys) → IsMember s (cond b (t ∷ x ∷ xs) (x ∷ ys))
old_by t x s xs ys true m rest = inr m
old_by t x s xs ys false (inl e) rest = inl e
old_by t x s xs ys false (inr n) rest = inr (rest n)

insert_old : (t : ℕ) (xs : List ℕ) (s : ℕ) → IsMember s xs → IsMember s (insert_ascending t xs)
insert_old t [] s m = absurd m
insert_old t (x ∷ xs) s m = old_by t x s xs (insert_ascending t xs) (nat_le t x) m (λ n. insert_old t xs s n)

held_by : (asked : Asked) (x : Stored) (xs : List Stored) (s : ℕ) (b : Bool) → IsMember s (cond b (insert_ascending x.serial (serials_of_key asked.target.key xs)) (serials_of_key asked.target.key xs))
    → (IsMember s (serials_of_key asked.target.key xs) → (e : Stored) × IsMember e (entries_of_key xs asked) × (e.serial ≡ s))
    → (e : Stored) × IsMember e (cond b (x ∷ entries_of_key xs asked) (entries_of_key xs asked)) × (e.serial ≡ s)
held_by asked x xs s true m rest = first (inserted x.serial (serials_of_key asked.target.key xs) s m)
  where
    first : (x.serial ≡ s) ⊎ IsMember s (serials_of_key asked.target.key xs) → (e : Stored) × IsMember e (x ∷ entries_of_key xs asked) × (e.serial ≡ s)
    first (inl e) = (x, inl refl, e)
    first (inr n) = let r = rest n in (r.0, inr r.1, r.2)
held_by asked x xs s false m rest = rest m

each_of_key : (held : List Stored) (asked : Asked) (s : ℕ) → IsMember s (serials_of_key asked.target.key held) → (e : Stored) × IsMember e (entries_of_key held asked) × (e.serial ≡ s)
each_of_key [] asked s m = absurd m
each_of_key (x ∷ xs) asked s m = held_by asked x xs s (same_key x.key asked.target.key) m (λ n. each_of_key xs asked s n)

listed_by : (asked : Asked) (x e : Stored) (xs : List Stored) (b : Bool) → IsMember e (cond b (x ∷ entries_of_key xs asked) (entries_of_key xs asked)) → (IsMember e (entries_of_key xs asked) → IsMember e.serial (serials_of_key asked.target.key xs))
    → IsMember e.serial (cond b (insert_ascending x.serial (serials_of_key asked.target.key xs)) (serials_of_key asked.target.key xs))
listed_by asked x e xs true (inl h) rest =
    subst (λ (s : ℕ). IsMember s (insert_ascending x.serial (serials_of_key asked.target.key xs))) (ap (λ (s : Stored). s.serial) h) (insert_new x.serial (serials_of_key asked.target.key xs))
listed_by asked x e xs true (inr m) rest = insert_old x.serial (serials_of_key asked.target.key xs) e.serial (rest m)
listed_by asked x e xs false m rest = rest m

all_of_key : (held : List Stored) (asked : Asked) (e : Stored) → IsMember e (entries_of_key held asked) → IsMember e.serial (serials_of_key asked.target.key held)
all_of_key [] asked e m = absurd m
all_of_key (x ∷ xs) asked e m = listed_by asked x e xs (same_key x.key asked.target.key) m (λ n. all_of_key xs asked e n)

pub are_serials : (held : List Stored) (asked : Asked) (ss : List ℕ) → ss ≡ serials_of_key asked.target.key held → AreSerialsOf held asked ss
are_serials held asked ss is = record {
  each_held = λ s m. each_of_key held asked s (subst (λ (xs : List ℕ). IsMember s xs) is m);
  none_missing = λ e m. subst (λ (xs : List ℕ). IsMember e.serial xs) (sym is) (all_of_key held asked e m);
}
