-- Serials beside the marks of their entries, as entries come and go.
use Rattle.std.proofs.Common.{◌≡◌, ℕ, Bool, true, false, not, cond, ◌||◌, eqb, Option, None, Some, List, [], ◌∷◌, length, slice_get, is_some, refl, sym, ◌∙◌, ap, subst, arith, inl, inr, ◌⊎◌}
use Rattle.std.specs.Prelude.{IfSome}
use Rattle.std.specs.List.{filter}
use Rattle.std.specs.Map.{keys_of, lookup, remove_entry, set_value}
use Rattle.std.specs.Ordering.{nat_cmp, match_ordering}
use Rattle.std.specs.declared.cmp.Ordering.{Ordering}
use Rattle.std.specs.declared.cmp.Ordering.TheVariants.{Less, Equal, Greater}
use Rattle.std.specs.BTreeMap.{BTreeMap, insert_entry, is_at}
use Rattle.std.proofs.lemmas.Bool.{cases_Bool, eq-eqb, eqb-true, false≢true, or_parts}
use Rattle.std.proofs.lemmas.Bool.Decides.{nat_tests}
use Rattle.hx_fields.specs.Line.{Field}
use Rattle.hx_vary.specs.declared.marks.VariantMark.{VariantMark}
use Rattle.hx_vary.specs.Marks.{mark_of_values, mark_may_match}
use Rattle.hx_vary.specs.Combined.{MapHasEachCombinedValue}
use Rattle.hx_vary.specs.Vary.{vary_matches}
use Rattle.hx_vary.specs.declared.nominated_values.NominatedValue.{NominatedValue}
use Rattle.hx_vary.proofs.ValueLemmas.{kept_alike}
use Rattle.hx_store.specs.Serials.{serial_is_in, insert_ascending}
use Rattle.hx_store.specs.Stored.{Stored}
use Rattle.hx_store.specs.Shelf.{find_entry_of_serial, entry_vary_matches_request, without_serials, holds_serial}
use Rattle.hx_store.specs.Index.{EachMarkIsOfItsEntry, serials_without_first_match, entry_matches_values, serials_that_may_match}
use Rattle.hx_store.proofs.EntryLists.{eqb_comm, not_only, find_none, find-serial, without_gone}

-- ---- the serials alone

put-step : (s : ℕ) (m : VariantMark) (p : ℕ × VariantMark) (ps : List (ℕ × VariantMark)) → keys_of (insert_entry nat_cmp ps s m) ≡ insert_ascending s (keys_of ps) → eqb p.0 s ≡ false →
    keys_of (insert_entry nat_cmp (p ∷ ps) s m) ≡ insert_ascending s (keys_of (p ∷ ps))
put-step s m p ps h n = grind (arith, nat_tests, h)

pub keys-put : (s : ℕ) (m : VariantMark) (ps : List (ℕ × VariantMark)) → serial_is_in s (keys_of ps) ≡ false →
    keys_of (insert_entry nat_cmp ps s m) ≡ insert_ascending s (keys_of ps)
keys-put s m [] h = refl
keys-put s m (p ∷ ps) h = let q = or_parts (eqb p.0 s) (serial_is_in s (keys_of ps)) h in put-step s m p ps (keys-put s m ps q.1) q.0

pub keys-marked : (test : ℕ → Bool) (m : VariantMark) (ps : List (ℕ × VariantMark)) → keys_of (set_value test ps m) ≡ keys_of ps
keys-marked test m [] = refl
keys-marked test m (p ∷ ps) =
    elim (test p.0) as (λ b. keys_of (cond b ((p.0, m) ∷ ps) (p ∷ set_value test ps m)) ≡ p.0 ∷ keys_of ps) [
      | true ↦ refl
      | false ↦ ap (λ xs. p.0 ∷ xs) (keys-marked test m ps)
    ]

pub at-eqb : (s t : ℕ) → is_at (nat_cmp s) t ≡ eqb t s
at-eqb s t = grind (arith, nat_tests)

pub keys-removed : (s : ℕ) (ps : List (ℕ × VariantMark)) → keys_of (remove_entry (is_at (nat_cmp s)) ps) ≡ serials_without_first_match s (keys_of ps)
keys-removed s [] = refl
keys-removed s (p ∷ ps) =
    ap (λ b. keys_of (cond b ps (p ∷ remove_entry (is_at (nat_cmp s)) ps))) (at-eqb s p.0)
    ∙ (elim (eqb p.0 s) as (λ b. keys_of (cond b ps (p ∷ remove_entry (is_at (nat_cmp s)) ps)) ≡ cond b (keys_of ps) (p.0 ∷ serials_without_first_match s (keys_of ps))) [
      | true ↦ refl
      | false ↦ ap (λ xs. p.0 ∷ xs) (keys-removed s ps)
    ])

pub has-first : (xs : List ℕ) → is_some (slice_get xs 0) ≡ not (eqb (length xs) 0)
has-first [] = refl
has-first (x ∷ xs) = grind (arith, nat_tests)

-- ---- a new mark

pub set_absent : (test : ℕ → Bool) (ps : List (ℕ × VariantMark)) (m : VariantMark) → lookup test ps ≡ None → set_value test ps m ≡ ps
set_absent test [] m h = refl
set_absent test (p ∷ ps) m h = elim (cases_Bool (test p.0)) [
  | inl t ↦ (
      let both : Some p.1 ≡ None = sym (ap (λ b. cond b (Some p.1) (lookup test ps)) t) ∙ h in
      absurd cc
      )
  | inr f ↦ ap (λ b. cond b ((p.0, m) ∷ ps) (p ∷ set_value test ps m)) f
      ∙ ap (λ qs. p ∷ qs) (set_absent test ps m (sym (ap (λ b. cond b (Some p.1) (lookup test ps)) f) ∙ h))
]

not_cleared : (b : Bool) (p q : ℕ × VariantMark) (ps qs : List (ℕ × VariantMark)) → cond b (p ∷ ps) (q ∷ qs) ≡ [] → ⊥
not_cleared true p q ps qs h = cc
not_cleared false p q ps qs h = cc

pub set_nothing : (test : ℕ → Bool) (ps : List (ℕ × VariantMark)) (m : VariantMark) → set_value test ps m ≡ [] → ps ≡ []
set_nothing test [] m h = refl
set_nothing test (p ∷ ps) m h = absurd (not_cleared (test p.0) (p.0, m) p ps (set_value test ps m) h)

-- ---- the marks

-- this mark is that of the entry that the serial finds, if it finds one
abbrev pub Fits : ℕ → List Stored → ℕ → VariantMark → Type 0
Fits seed es s m = IfSome (find_entry_of_serial s es) (λ e. m ≡ mark_of_values seed e.nominated)

put_by : (seed : ℕ) (es : List Stored) (s : ℕ) (m : VariantMark) (p : ℕ × VariantMark) (ps : List (ℕ × VariantMark)) (o : Ordering) → (o ≡ Equal → s ≡ p.0) → Fits seed es s m → EachMarkIsOfItsEntry seed es (p ∷ ps) →
    EachMarkIsOfItsEntry seed es (insert_entry nat_cmp ps s m) → EachMarkIsOfItsEntry seed es (match_ordering o ((s, m) ∷ p ∷ ps) ((p.0, m) ∷ ps) (p ∷ insert_entry nat_cmp ps s m))
put_by seed es s m p ps Less e f h more = (f, h)
put_by seed es s m p ps Equal e f h more = (subst (λ t. Fits seed es t m) (e refl) f, h.1)
put_by seed es s m p ps Greater e f h more = (h.0, more)

same_number : (s t : ℕ) → nat_cmp s t ≡ Equal → s ≡ t
same_number s t h = grind (arith, nat_tests)

pub marks-put : (seed : ℕ) (es : List Stored) (s : ℕ) (m : VariantMark) (ps : List (ℕ × VariantMark)) → Fits seed es s m → EachMarkIsOfItsEntry seed es ps → EachMarkIsOfItsEntry seed es (insert_entry nat_cmp ps s m)
marks-put seed es s m [] f h = (f, tt)
marks-put seed es s m (p ∷ ps) f h = put_by seed es s m p ps (nat_cmp s p.0) (same_number s p.0) f h (marks-put seed es s m ps f h.1)

pub marks-removed : (seed : ℕ) (test : ℕ → Bool) (es : List Stored) (ps : List (ℕ × VariantMark)) → EachMarkIsOfItsEntry seed es ps → EachMarkIsOfItsEntry seed es (remove_entry test ps)
marks-removed seed test es [] h = tt
marks-removed seed test es (p ∷ ps) h =
    elim (test p.0) as (λ b. EachMarkIsOfItsEntry seed es (cond b ps (p ∷ remove_entry test ps))) [ true ↦ h.1 | false ↦ (h.0, marks-removed seed test es ps h.1) ]

-- each serial finds in zs what it finds in es, or nothing
abbrev pub IsPart : List Stored → List Stored → Type 0
IsPart zs es = (s : ℕ) → (find_entry_of_serial s zs ≡ None) ⊎ (find_entry_of_serial s zs ≡ find_entry_of_serial s es)

pub marks-part : (seed : ℕ) (es zs : List Stored) (ps : List (ℕ × VariantMark)) → IsPart zs es → EachMarkIsOfItsEntry seed es ps → EachMarkIsOfItsEntry seed zs ps
marks-part seed es zs [] part h = tt
marks-part seed es zs (p ∷ ps) part h =
    let at : Fits seed zs p.0 p.1 = elim (part p.0) [
      | inl n ↦ rw n tt
      | inr e ↦ rw e h.0
    ] in
    (at, marks-part seed es zs ps part h.1)

-- an entry in front whose serial isn't there
pub marks-more : (seed : ℕ) (x : Stored) (es : List Stored) (ps : List (ℕ × VariantMark)) → serial_is_in x.serial (keys_of ps) ≡ false → EachMarkIsOfItsEntry seed es ps → EachMarkIsOfItsEntry seed (x ∷ es) ps
marks-more seed x es [] n h = tt
marks-more seed x es (p ∷ ps) n h =
    let q = or_parts (eqb p.0 x.serial) (serial_is_in x.serial (keys_of ps)) n in
    let apart : eqb x.serial p.0 ≡ false = eqb_comm x.serial p.0 ∙ q.0 in
    (rw apart h.0, marks-more seed x es ps q.1 h.1)

-- an entry in front whose serial stands there once, and is marked anew
pub marks-anew : (seed : ℕ) (s : ℕ) (x : Stored) (es : List Stored) (ps : List (ℕ × VariantMark)) → x.serial ≡ s → serial_is_in s (serials_without_first_match s (keys_of ps)) ≡ false → EachMarkIsOfItsEntry seed es ps →
    EachMarkIsOfItsEntry seed (x ∷ es) (set_value (is_at (nat_cmp s)) ps (mark_of_values seed x.nominated))
marks-anew seed s x es [] is n h = tt
marks-anew seed s x es (p ∷ ps) is n h =
    let m = mark_of_values seed x.nominated in
    let New : Bool → Type 0 = λ b. EachMarkIsOfItsEntry seed (x ∷ es) (cond b ((p.0, m) ∷ ps) (p ∷ set_value (is_at (nat_cmp s)) ps m)) in
    subst New (sym (at-eqb s p.0)) (elim (cases_Bool (eqb p.0 s)) [
      | inl t ↦ (
          let found : eqb x.serial p.0 ≡ true = eq-eqb _ _ (is ∙ sym (eqb-true p.0 s t)) in
          let others : serial_is_in x.serial (keys_of ps) ≡ false =
          ap (λ z. serial_is_in z (keys_of ps)) is ∙ sym (ap (λ b. serial_is_in s (cond b (keys_of ps) (p.0 ∷ serials_without_first_match s (keys_of ps)))) t) ∙ n in
          let here : Fits seed (x ∷ es) p.0 m = rw found refl in
          subst New (sym t) (here, marks-more seed x es ps others h.1)
          )
      | inr f ↦ (
          let apart : eqb x.serial p.0 ≡ false = ap (λ z. eqb z p.0) is ∙ eqb_comm s p.0 ∙ f in
          let rest = or_parts (eqb p.0 s) (serial_is_in s (serials_without_first_match s (keys_of ps))) (sym (ap (λ b. serial_is_in s (cond b (keys_of ps) (p.0 ∷ serials_without_first_match s (keys_of ps)))) f) ∙ n) in
          let here : Fits seed (x ∷ es) p.0 p.1 = rw apart h.0 in
          subst New (sym f) (here, marks-anew seed s x es ps is rest.1 h.1)
          )
    ])

-- ---- what serials find

find-without : (s t : ℕ) (es : List Stored) → eqb t s ≡ false → find_entry_of_serial t (without_serials (s ∷ []) es) ≡ find_entry_of_serial t es
find-without s t [] n = refl
find-without s t (e ∷ es) n = elim (cases_Bool (eqb e.serial s)) [
  | inl y ↦ (
      let gone : serial_is_in e.serial (s ∷ []) ≡ true = ap (λ z. serial_is_in z (s ∷ [])) (eqb-true e.serial s y) ∙ ap (λ b. b || false) (eq-eqb s s refl) in
      let apart : eqb e.serial t ≡ false = ap (λ z. eqb z t) (eqb-true e.serial s y) ∙ eqb_comm s t ∙ n in
      ap (λ b. find_entry_of_serial t (cond (not b) (e ∷ without_serials (s ∷ []) es) (without_serials (s ∷ []) es))) gone
      ∙ find-without s t es n
      ∙ sym (ap (λ b. cond b (Some e) (find_entry_of_serial t es)) apart)
      )
  | inr f ↦ ap (λ b. find_entry_of_serial t (cond (not b) (e ∷ without_serials (s ∷ []) es) (without_serials (s ∷ []) es))) (not_only e.serial s f)
      ∙ ap (λ o. cond (eqb e.serial t) (Some e) o) (find-without s t es n)
]

pub part-without : (s : ℕ) (es : List Stored) → IsPart (without_serials (s ∷ []) es) es
part-without s es t = elim (cases_Bool (eqb t s)) [
  | inl y ↦ inl (find_none t (without_serials (s ∷ []) es) (ap (λ z. holds_serial z (without_serials (s ∷ []) es)) (eqb-true t s y) ∙ without_gone s es))
  | inr n ↦ inr (find-without s t es n)
]

pub part-front : (s : ℕ) (es : List Stored) (x : Stored) → find_entry_of_serial s es ≡ Some x → IsPart (x ∷ without_serials (s ∷ []) es) es
part-front s es x h t =
    let is : x.serial ≡ s = find-serial s es x h in
    elim (cases_Bool (eqb x.serial t)) [
      | inl y ↦ inr (
          ap (λ b. cond b (Some x) (find_entry_of_serial t (without_serials (s ∷ []) es))) y
          ∙ sym h ∙ ap (λ z. find_entry_of_serial z es) (sym is ∙ eqb-true x.serial t y)
          )
      | inr n ↦ inr (
          ap (λ b. cond b (Some x) (find_entry_of_serial t (without_serials (s ∷ []) es))) n
          ∙ find-without s t es (eqb_comm t s ∙ ap (λ z. eqb z t) (sym is) ∙ n)
          )
    ]

-- ---- what a request may match

-- the tags of a request pass each mark of what it matches
abbrev pub PassesMatches : ℕ → List Field → (ℕ → Bool) → Type 0
PassesMatches seed request has = (kept : List NominatedValue) → vary_matches kept request ≡ true → mark_may_match has (mark_of_values seed kept) ≡ true

mark_passes : (seed : ℕ) (request : List Field) (has : ℕ → Bool) → PassesMatches seed request has → (es : List Stored) (s : ℕ) (m : VariantMark) → Fits seed es s m →
    entry_vary_matches_request request (find_entry_of_serial s es) ≡ true → mark_may_match has m ≡ true
mark_passes seed request has passes es s m f h = by (find_entry_of_serial s es) f h
  where
    by : (o : Option Stored) → IfSome o (λ (e : Stored). m ≡ mark_of_values seed e.nominated) → entry_vary_matches_request request o ≡ true → mark_may_match has m ≡ true
    by None f h = absurd (false≢true h)
    by (Some e) f h = ap (mark_may_match has) f ∙ passes e.nominated h

-- what isn't looked at doesn't match
pub looks_enough : (seed : ℕ) (request : List Field) (has : ℕ → Bool) → PassesMatches seed request has → (es : List Stored) (ps : List (ℕ × VariantMark)) → EachMarkIsOfItsEntry seed es ps →
    filter (λ s. entry_vary_matches_request request (find_entry_of_serial s es)) (serials_that_may_match has ps) ≡ filter (λ s. entry_vary_matches_request request (find_entry_of_serial s es)) (keys_of ps)
looks_enough seed request has passes es [] h = refl
looks_enough seed request has passes es (p ∷ ps) h =
    let is : ℕ → Bool = λ s. entry_vary_matches_request request (find_entry_of_serial s es) in
    let more = looks_enough seed request has passes es ps h.1 in
    elim (cases_Bool (mark_may_match has p.1)) [
      | inl y ↦ ap (λ b. filter is (keys_of (cond b (p ∷ filter (λ (q : ℕ × VariantMark). mark_may_match has q.1) ps) (filter (λ (q : ℕ × VariantMark). mark_may_match has q.1) ps)))) y
          ∙ ap (λ xs. cond (is p.0) (p.0 ∷ xs) xs) more
      | inr n ↦ (
          let no : is p.0 ≡ false = elim (cases_Bool (is p.0)) [
            | inl t ↦ absurd (false≢true (sym n ∙ mark_passes seed request has passes es p.0 p.1 h.0 t))
            | inr f ↦ f
          ] in
          ap (λ b. filter is (keys_of (cond b (p ∷ filter (λ (q : ℕ × VariantMark). mark_may_match has q.1) ps) (filter (λ (q : ℕ × VariantMark). mark_may_match has q.1) ps)))) n
          ∙ more ∙ sym (ap (λ b. cond b (p.0 ∷ filter is (keys_of ps)) (filter is (keys_of ps))) no)
          )
    ]

-- values that are the request's decide as it would
pub by_values : (request : List Field) (values : BTreeMap (List ℕ) (List ℕ)) → MapHasEachCombinedValue request values → (es : List Stored) (ss : List ℕ) →
    filter (λ s. entry_matches_values values (find_entry_of_serial s es)) ss ≡ filter (λ s. entry_vary_matches_request request (find_entry_of_serial s es)) ss
by_values request values h es [] = refl
by_values request values h es (s ∷ ss) =
    ap (λ b. cond b (s ∷ filter (λ (t : ℕ). entry_matches_values values (find_entry_of_serial t es)) ss) (filter (λ (t : ℕ). entry_matches_values values (find_entry_of_serial t es)) ss)) (same (find_entry_of_serial s es))
    ∙ ap (λ xs. cond (entry_vary_matches_request request (find_entry_of_serial s es)) (s ∷ xs) xs) (by_values request values h es ss)
  where
    same : (o : Option Stored) → entry_matches_values values o ≡ entry_vary_matches_request request o
    same None = refl
    same (Some e) = kept_alike request values h e.nominated
