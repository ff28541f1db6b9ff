-- The preferred entry is the same however the entries are listed.
use Rattle.std.proofs.Common.{◌≡◌, ℕ, ◌⊎◌, inl, inr, Bool, true, false, cond, not, ◌&&◌, List, [], ◌∷◌, refl, sym, ◌∙◌, ap, arith}
use Rattle.std.specs.Prelude.{nat_eq, filter, find, fold, Option, Some, None}
use Rattle.std.specs.List.{filter_map, cons_option}
use Rattle.std.proofs.lemmas.Bool.Decides.{nat_tests}
use Rattle.hx_vary.specs.Vary.{vary_matches}
use Rattle.hx_hop.specs.declared.request_view.Asked.{Asked}
use Rattle.hx_store.specs.Stored.{Stored}
use Rattle.hx_target.specs.Keys.{same_key}
use Rattle.hx_fields.specs.Line.{Field}
use Rattle.hx_store.specs.Serials.{SerialsAreDistinct}
use Rattle.hx_store.specs.Shelf.{find_entry_of_serial, entry_vary_matches_request, matching_serials, serials as serials_held, serials_of_key}
use Rattle.hx_reuse.specs.Chosen.{entries_of_key, nominates, is_more_recent, is_preferred_over, preferred_of_two, most_preferred_response, chosen_of}
use Rattle.hx_fields.proofs.FirstThat.{IsMember}
use Rattle.hx_reuse.proofs.Members.{HasDistinctSerials, AreSerialsOf, are_serials, distinct_entries}

-- an order on entries by two numbers each
not_more_recent_trans : (e f g : Stored) → is_more_recent e f ≡ false → is_more_recent f g ≡ false → is_more_recent e g ≡ false
not_more_recent_trans e f g h k = grind (arith, nat_tests)

more_recent_one_way : (e f : Stored) → is_more_recent e f ≡ true → is_more_recent f e ≡ false
more_recent_one_way e f h = grind (arith, nat_tests)

not_more_recent_itself : (e : Stored) → is_more_recent e e ≡ false
not_more_recent_itself e = grind (arith, nat_tests)

same_serial_if_none_is : (e f : Stored) → is_more_recent e f ≡ false → is_more_recent f e ≡ false → e.serial ≡ f.serial
same_serial_if_none_is e f h k = grind (arith, nat_tests)

-- and before that by a bit each, where p is the order by the numbers
abbrev above : Bool → Bool → Bool → Bool
above a b p = cond (a && not b) true (cond (b && not a) false p)

above_trans : (a b c p q r : Bool) → (p ≡ false → q ≡ false → r ≡ false) → above a b p ≡ false → above b c q ≡ false → above a c r ≡ false
above_trans true true true p q r by h k = by h k
above_trans true true false p q r by h k = absurd cc
above_trans true false c p q r by h k = absurd cc
above_trans false true true p q r by h k = refl
above_trans false true false p q r by h k = absurd cc
above_trans false false true p q r by h k = refl
above_trans false false false p q r by h k = by h k

above_one_way : (a b p q : Bool) → (p ≡ true → q ≡ false) → above a b p ≡ true → above b a q ≡ false
above_one_way true true p q by h = by h
above_one_way true false p q by h = refl
above_one_way false true p q by h = absurd cc
above_one_way false false p q by h = by h

above_itself : (a p : Bool) → p ≡ false → above a a p ≡ false
above_itself true p h = h
above_itself false p h = h

pub above_alike : (a b p : Bool) → a ≡ b → above a b p ≡ false → p ≡ false
above_alike true true p same h = h
above_alike true false p same h = absurd cc
above_alike false true p same h = absurd cc
above_alike false false p same h = h

pub above_keeps : (a b p : Bool) → above a b p ≡ false → a ≡ true → b ≡ true
above_keeps true true p h k = refl
above_keeps true false p h k = absurd cc
above_keeps false b p h k = absurd cc

same_bit : (a b p q : Bool) → above a b p ≡ false → above b a q ≡ false → (p ≡ false) × (q ≡ false)
same_bit true true p q h k = (h, k)
same_bit true false p q h k = absurd cc
same_bit false true p q h k = absurd cc
same_bit false false p q h k = (h, k)

not_preferred_trans : (e f g : Stored) → is_preferred_over e f ≡ false → is_preferred_over f g ≡ false → is_preferred_over e g ≡ false
not_preferred_trans e f g h k =
    above_trans (nominates e) (nominates f) (nominates g) (is_more_recent e f) (is_more_recent f g) (is_more_recent e g) (not_more_recent_trans e f g) h k

preferred_one_way : (e f : Stored) → is_preferred_over e f ≡ true → is_preferred_over f e ≡ false
preferred_one_way e f h = above_one_way (nominates e) (nominates f) (is_more_recent e f) (is_more_recent f e) (more_recent_one_way e f) h

not_preferred_itself : (e : Stored) → is_preferred_over e e ≡ false
not_preferred_itself e = above_itself (nominates e) (is_more_recent e e) (not_more_recent_itself e)

pub same_serial : (e f : Stored) → is_preferred_over e f ≡ false → is_preferred_over f e ≡ false → e.serial ≡ f.serial
same_serial e f h k =
    let neither = same_bit (nominates e) (nominates f) (is_more_recent e f) (is_more_recent f e) h k in
    same_serial_if_none_is e f neither.0 neither.1

-- what the preferred one of some entries after a best so far is
pub record IsPreferredAfter (best : Option Stored) (es : List Stored) (e : Stored) : Type 0 where
  pub taken : (best ≡ Some e) ⊎ IsMember e es
  pub above_best : (f : Stored) → best ≡ Some f → is_preferred_over f e ≡ false
  pub above : (f : Stored) → IsMember f es → is_preferred_over f e ≡ false

same_inside : (e f : Stored) → ◌≡◌ {A = Option Stored} (Some e) (Some f) → e ≡ f
same_inside e f h = cc

taken_first : (x e : Stored) (xs : List Stored) → (Some x ≡ Some e) ⊎ IsMember e xs → IsMember e (x ∷ xs)
taken_first x e xs (inl h) = inl (same_inside x e h)
taken_first x e xs (inr m) = inr m

not_preferred_at : (e f g : Stored) → f ≡ g → is_preferred_over f e ≡ false → is_preferred_over g e ≡ false
not_preferred_at e f g h k = rw (← h) k

over_member : (x e : Stored) (xs : List Stored) → is_preferred_over x e ≡ false → ((f : Stored) → IsMember f xs → is_preferred_over f e ≡ false)
    → (f : Stored) → IsMember f (x ∷ xs) → is_preferred_over f e ≡ false
over_member x e xs first rest f (inl h) = not_preferred_at e x f h first
over_member x e xs first rest f (inr m) = rest f m

after_some : (b x e : Stored) (xs : List Stored) (t : Bool) → is_preferred_over x b ≡ t → IsPreferredAfter (cond t (Some x) (Some b)) xs e → IsPreferredAfter (Some b) (x ∷ xs) e
after_some b x e xs true h r =
    let above_x : is_preferred_over x e ≡ false = r.above_best x refl in
    let above_b : is_preferred_over b e ≡ false = not_preferred_trans b x e (preferred_one_way x b h) above_x in
    record { taken = inr (taken_first x e xs r.taken); above_best = λ f k. not_preferred_at e b f (same_inside b f k) above_b; above = over_member x e xs above_x r.above }
after_some b x e xs false h r =
    let above_b : is_preferred_over b e ≡ false = r.above_best b refl in
    record { taken = taken_kept r.taken; above_best = r.above_best; above = over_member x e xs (not_preferred_trans x b e h above_b) r.above }
  where
    taken_kept : (Some b ≡ Some e) ⊎ IsMember e xs → (Some b ≡ Some e) ⊎ IsMember e (x ∷ xs)
    taken_kept (inl k) = inl k
    taken_kept (inr m) = inr (inr m)

after_one : (best : Option Stored) (x e : Stored) (xs : List Stored) → IsPreferredAfter (preferred_of_two best x) xs e → IsPreferredAfter best (x ∷ xs) e
after_one None x e xs r =
    record { taken = inr (taken_first x e xs r.taken); above_best = λ f k. absurd (none_is_some f k); above = over_member x e xs (r.above_best x refl) r.above }
  where
    none_is_some : (f : Stored) → ◌≡◌ {A = Option Stored} None (Some f) → ⊥
    none_is_some f k = cc
after_one (Some b) x e xs r = after_some b x e xs (is_preferred_over x b) refl r

pub fold_preferred : (es : List Stored) (best : Option Stored) (e : Stored) → fold preferred_of_two best es ≡ Some e → IsPreferredAfter best es e
fold_preferred [] best e h =
    record { taken = inl h; above_best = λ f k. not_preferred_at e e f (same_inside e f (sym h ∙ k)) (not_preferred_itself e); above = λ f m. absurd m }
fold_preferred (x ∷ xs) best e h = after_one best x e xs (fold_preferred xs (preferred_of_two best x) e h)

pub fold_some : (es : List Stored) (b : Stored) → (e : Stored) × (fold preferred_of_two (Some b) es ≡ Some e)
fold_some [] b = (b, refl)
fold_some (x ∷ xs) b =
    elim (is_preferred_over x b) as (λ t. (e : Stored) × (fold preferred_of_two (cond t (Some x) (Some b)) xs ≡ Some e)) [ true ↦ fold_some xs x | false ↦ fold_some xs b ]

module _ (held : List Stored) (distinct : HasDistinctSerials held) where
  same_preferred : (xs ys : List Stored) → ((e : Stored) → IsMember e xs → IsMember e held) → ((e : Stored) → IsMember e xs → IsMember e ys) → ((e : Stored) → IsMember e ys → IsMember e xs) → most_preferred_response xs ≡ most_preferred_response ys
  same_preferred [] [] inside there back = refl
  same_preferred [] (y ∷ ys) inside there back = absurd (back y (inl refl))
  same_preferred (x ∷ xs) [] inside there back = absurd (there x (inl refl))
  same_preferred (x ∷ xs) (y ∷ ys) inside there back =
      let a = fold_some xs x in
      let b = fold_some ys y in
      let la = fold_preferred (x ∷ xs) None a.0 a.1 in
      let lb = fold_preferred (y ∷ ys) None b.0 b.1 in
      let ina : IsMember a.0 (x ∷ xs) = member a.0 (x ∷ xs) la.taken in
      let inb : IsMember b.0 (y ∷ ys) = member b.0 (y ∷ ys) lb.taken in
      let same : a.0 ≡ b.0 = distinct a.0 b.0 (inside a.0 ina) (inside b.0 (back b.0 inb)) (same_serial a.0 b.0 (lb.above a.0 (there a.0 ina)) (la.above b.0 (back b.0 inb))) in
      a.1 ∙ ap Some same ∙ sym b.1
    where
      member : (e : Stored) (es : List Stored) → (None ≡ Some e) ⊎ IsMember e es → IsMember e es
      member e es (inl h) = absurd (never e h)
        where
          never : (f : Stored) → ◌≡◌ {A = Option Stored} None (Some f) → ⊥
          never f k = cc
      member e es (inr m) = m

-- a member of a list with an element that a test lets in
member_cond : {X : Type 0} (x e : X) (ys : List X) (t : Bool) → IsMember e (cond t (x ∷ ys) ys) → ((x ≡ e) × (t ≡ true)) ⊎ IsMember e ys
member_cond x e ys true (inl k) = inl (k, refl)
member_cond x e ys true (inr n) = inr n
member_cond x e ys false n = inr n

-- members of a filtered list
pub filter_member : {X : Type 0} (p : X → Bool) (xs : List X) (e : X) → IsMember e (filter p xs) → IsMember e xs × (p e ≡ true)
filter_member p [] e m = absurd m
filter_member {X} p (x ∷ xs) e m = joined (member_cond x e (filter p xs) (p x) m) (filter_member p xs e)
  where
    joined : ((x ≡ e) × (p x ≡ true)) ⊎ IsMember e (filter p xs) → (IsMember e (filter p xs) → IsMember e xs × (p e ≡ true)) → IsMember e (x ∷ xs) × (p e ≡ true)
    joined (inl h) rest = (inl h.0, rw (← h.0) h.1)
    joined (inr n) rest = (inr (rest n).0, (rest n).1)

cond_member_front : {X : Type 0} (x e : X) (ys : List X) (t : Bool) → t ≡ true → x ≡ e → IsMember e (cond t (x ∷ ys) ys)
cond_member_front x e ys true h k = inl k
cond_member_front x e ys false h k = absurd cc

cond_member_rest : {X : Type 0} (x e : X) (ys : List X) (t : Bool) → IsMember e ys → IsMember e (cond t (x ∷ ys) ys)
cond_member_rest x e ys true n = inr n
cond_member_rest x e ys false n = n

pub member_filter : {X : Type 0} (p : X → Bool) (xs : List X) (e : X) → p e ≡ true → IsMember e xs → IsMember e (filter p xs)
member_filter p [] e h m = absurd m
member_filter p (x ∷ xs) e h (inl k) = cond_member_front x e (filter p xs) (p x) (rw k h) k
member_filter p (x ∷ xs) e h (inr n) = cond_member_rest x e (filter p xs) (p x) (member_filter p xs e h n)

-- the first that passes is a member that passes, and there is one if a member passes
pub find_member : {X : Type 0} (p : X → Bool) (xs : List X) (e : X) → find p xs ≡ Some e → IsMember e xs × (p e ≡ true)
find_member p [] e h = absurd cc
find_member {X} p (x ∷ xs) e h = chosen_by (p x) refl h (find_member p xs e)
  where
    chosen_by : (t : Bool) → p x ≡ t → cond t (Some x) (find p xs) ≡ Some e → (find p xs ≡ Some e → IsMember e xs × (p e ≡ true)) → IsMember e (x ∷ xs) × (p e ≡ true)
    chosen_by true k h rest = let same : x ≡ e = cc in (inl same, rw (← same) k)
    chosen_by false k h rest = (inr (rest h).0, (rest h).1)

pub member_find : {X : Type 0} (p : X → Bool) (xs : List X) (e : X) → IsMember e xs → p e ≡ true → (f : X) × (find p xs ≡ Some f)
member_find p [] e m h = absurd m
member_find {X} p (x ∷ xs) e (inl k) h =
    let passes : p x ≡ true = rw k h in
    (x, rw passes refl)
member_find {X} p (x ∷ xs) e (inr n) h =
    let r = member_find p xs e n h in
    elim (p x) as (λ t. (f : X) × (cond t (Some x) (find p xs) ≡ Some f)) [ true ↦ (x, refl) | false ↦ r ]

-- members of what some look-ups find
found_member : (h : ℕ → Option Stored) (ss : List ℕ) (e : Stored) → IsMember e (filter_map h ss) → (s : ℕ) × IsMember s ss × (h s ≡ Some e)
found_member h [] e m = absurd m
found_member h (s ∷ ss) e m = at_head (h s) refl m (found_member h ss e)
  where
    at_head : (o : Option Stored) → h s ≡ o → IsMember e (cons_option o (filter_map h ss)) → (IsMember e (filter_map h ss) → (r : ℕ) × IsMember r ss × (h r ≡ Some e)) → (r : ℕ) × IsMember r (s ∷ ss) × (h r ≡ Some e)
    at_head None k n rest = let r = rest n in (r.0, inr r.1, r.2)
    at_head (Some x) k (inl same) rest = (s, inl refl, k ∙ ap Some same)
    at_head (Some x) k (inr n) rest = let r = rest n in (r.0, inr r.1, r.2)

member_found : (h : ℕ → Option Stored) (ss : List ℕ) (s : ℕ) (e : Stored) → IsMember s ss → h s ≡ Some e → IsMember e (filter_map h ss)
member_found h [] s e m k = absurd m
member_found h (r ∷ ss) s e (inl same) k = rw (same, k) (inl refl)
member_found h (r ∷ ss) s e (inr n) k = after (h r) (member_found h ss s e n k)
  where
    after : (o : Option Stored) → IsMember e (filter_map h ss) → IsMember e (cons_option o (filter_map h ss))
    after None m = m
    after (Some x) m = inr m

pub find_entry_of_serial-find : (s : ℕ) (held : List Stored) → find_entry_of_serial s held ≡ find (λ e. nat_eq e.serial s) held
find_entry_of_serial-find s [] = refl
find_entry_of_serial-find s (e ∷ es) = ap (λ o. cond (nat_eq e.serial s) (Some e) o) (find_entry_of_serial-find s es)

pub nat_eq_true : (m n : ℕ) → nat_eq m n ≡ true → m ≡ n
nat_eq_true m n h = grind (arith, nat_tests)

pub nat_eq_same : (m : ℕ) → nat_eq m m ≡ true
nat_eq_same m = grind (arith, nat_tests)

module _ (held : List Stored) (asked : Asked) (serials : List ℕ) (distinct : HasDistinctSerials held) (are : AreSerialsOf held asked serials) where
  -- what the serials look up is what is held for the key
  found_is : (e : Stored) → IsMember e (filter_map (λ s. find_entry_of_serial s held) serials) → IsMember e (entries_of_key held asked)
  found_is e m =
      let r = found_member (λ s. find_entry_of_serial s held) serials e m in
      let k = are.each_held r.0 r.1 in
      let in_held = find_member (λ x. nat_eq x.serial r.0) held e (sym (find_entry_of_serial-find r.0 held) ∙ r.2) in
      let other = filter_member (λ x. same_key x.key asked.target.key) held k.0 k.1 in
      let same : k.0 ≡ e = distinct k.0 e other.0 in_held.0 (k.2 ∙ sym (nat_eq_true e.serial r.0 in_held.1)) in
      rw (← same) k.1

  found_all : (e : Stored) → IsMember e (entries_of_key held asked) → IsMember e (filter_map (λ s. find_entry_of_serial s held) serials)
  found_all e m =
      let in_held : IsMember e held = (filter_member (λ x. same_key x.key asked.target.key) held e m).0 in
      let r = member_find (λ x. nat_eq x.serial e.serial) held e in_held (nat_eq_same e.serial) in
      let f = find_member (λ x. nat_eq x.serial e.serial) held r.0 r.1 in
      let same : r.0 ≡ e = distinct r.0 e f.0 in_held (nat_eq_true r.0.serial e.serial f.1) in
      member_found (λ s. find_entry_of_serial s held) serials e.serial e (are.none_missing e m) (find_entry_of_serial-find e.serial held ∙ (r.1 ∙ ap Some same))

  -- the preferred one of the entries with the key's serials is the chosen one
  preferred_is_chosen : most_preferred_response (filter (λ e. vary_matches e.nominated asked.fields) (filter_map (λ s. find_entry_of_serial s held) serials)) ≡ chosen_of held asked
  preferred_is_chosen =
      let here : Stored → Bool = λ e. vary_matches e.nominated asked.fields in
      let found : List Stored = filter_map (λ s. find_entry_of_serial s held) serials in
      same_preferred held distinct (filter here found) (filter here (entries_of_key held asked))
      (λ e m. (filter_member (λ x. same_key x.key asked.target.key) held e (found_is e (filter_member here found e m).0)).0)
      (λ e m. let r = filter_member here found e m in member_filter here (entries_of_key held asked) e r.1 (found_is e r.0))
      (λ e m. let r = filter_member here (entries_of_key held asked) e m in member_filter here found e r.1 (found_all e r.0))

abbrev cons_option_if : Bool → Option Stored → List Stored → List Stored
cons_option_if true o es = cons_option o es
cons_option_if false o es = es

-- the entries of the serials that match are those that match of the entries of the serials
matching_found : (held : List Stored) (request : List Field) (ss : List ℕ) →
    filter_map (λ s. find_entry_of_serial s held) (filter (λ s. entry_vary_matches_request request (find_entry_of_serial s held)) ss)
    ≡ filter (λ e. vary_matches e.nominated request) (filter_map (λ s. find_entry_of_serial s held) ss)
matching_found held request [] = refl
matching_found held request (s ∷ ss) =
    let found : List ℕ → List Stored = λ rs. filter_map (λ r. find_entry_of_serial r held) rs in
    let rest = filter (λ r. entry_vary_matches_request request (find_entry_of_serial r held)) ss in
    let here : Stored → Bool = λ e. vary_matches e.nominated request in
    let more : found rest ≡ filter here (found ss) = matching_found held request ss in
    let Same : Option Stored → Type 0 = λ o. cons_option_if (entry_vary_matches_request request o) o (found rest) ≡ filter here (cons_option o (found ss)) in
    kept s (entry_vary_matches_request request (find_entry_of_serial s held)) rest
    ∙ (elim (find_entry_of_serial s held) as Same [
      | None ↦ more
      | Some e ↦ elim (here e) as (λ b. cons_option_if b (Some e) (found rest) ≡ cond b (e ∷ filter here (found ss)) (filter here (found ss))) [
        | true ↦ ap (λ es. e ∷ es) more
        | false ↦ more
      ]
    ])
  where
    kept : (s : ℕ) (b : Bool) (rest : List ℕ) → filter_map (λ r. find_entry_of_serial r held) (cond b (s ∷ rest) rest) ≡ cons_option_if b (find_entry_of_serial s held) (filter_map (λ r. find_entry_of_serial r held) rest)
    kept s true rest = refl
    kept s false rest = refl

-- the preferred one of those that match by the shelf's word is the chosen one
pub preferred_match_is_chosen : (held : List Stored) (asked : Asked) → SerialsAreDistinct (serials_held held) →
    most_preferred_response (filter_map (λ s. find_entry_of_serial s held) (matching_serials asked.target.key asked.fields held)) ≡ chosen_of held asked
preferred_match_is_chosen held asked distinct =
    let serials = serials_of_key asked.target.key held in
    ap most_preferred_response (matching_found held asked.fields serials)
    ∙ preferred_is_chosen held asked serials (distinct_entries held distinct) (are_serials held asked serials refl)
