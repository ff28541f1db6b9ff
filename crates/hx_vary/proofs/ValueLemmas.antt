-- The values of a request by its names, gathered line by line.
use Rattle.std.proofs.Common.{◌≡◌, ℕ, ◌++◌, Bool, true, false, cond, ◌&&◌, List, [], ◌∷◌, Option, None, Some, is_some, refl, sym, ◌∙◌, ap, inl, inr, BTreeMap, append_assoc, append-nil}
use Rattle.std.specs.Prelude.{map, filter, bytes_eq, codes}
use Rattle.std.specs.List.{concat, list_all}
use Rattle.std.specs.Map.{lookup, values_of}
use Rattle.std.specs.BTreeMap.{get, is_at}
use Rattle.std.proofs.lemmas.Bool.{cases_Bool, false≢true}
use Rattle.std.proofs.lemmas.Slice.Eq.{bytes_eq-Decides}
use Rattle.hx_fields.specs.Folded.{folded, folded_names_cmp, folded_cmp_ties_are_equal}
use Rattle.hx_fields.specs.FieldLines.{combined_of}
use Rattle.hx_fields.specs.Names.{joined}
use Rattle.hx_fields.specs.Line.{Field}
use Rattle.hx_vary.specs.declared.nominated_values.NominatedValue.{NominatedValue}
use Rattle.hx_vary.specs.Combined.{MapHasEachCombinedValue, values_match_all_nominated, value_combined_with_line}
use Rattle.hx_vary.specs.Vary.{is_same_value, vary_matches}

abbrev pub Values : Type 0
Values = BTreeMap (List ℕ) (List ℕ)

-- the combined value of the lines of a folded name
abbrev pub combined_at : List Field → List ℕ → Option (List ℕ)
combined_at lines q = joined (map (λ (f : Field). f.value) (filter (λ (f : Field). bytes_eq (folded f.name) q) lines))

one : (a b : List ℕ) → bytes_eq a b ≡ true → a ≡ b
one a b h = (bytes_eq-Decides a b).0 h

-- ---- a value more is joined

nothing_more : (v : List ℕ) → v ++ [] ≡ v
nothing_more v = append-nil v

abbrev listed : List (List ℕ) → List ℕ
listed vs = concat (map (λ v. codes ", " ++ v) vs)

listed_more : (vs : List (List ℕ)) (v : List ℕ) → listed (vs ++ v ∷ []) ≡ listed vs ++ (codes ", " ++ v)
listed_more [] v = nothing_more (codes ", " ++ v)
listed_more (w ∷ vs) v = ap (λ z. (codes ", " ++ w) ++ z) (listed_more vs v) ∙ sym (append_assoc (codes ", " ++ w) (listed vs) (codes ", " ++ v))

joined_more : (vs : List (List ℕ)) (v : List ℕ) → joined (vs ++ v ∷ []) ≡ Some (value_combined_with_line (joined vs) v)
joined_more [] v = ap Some (nothing_more v)
joined_more (w ∷ vs) v =
    ap (λ z. Some (w ++ z)) (listed_more vs v)
    ∙ ap Some (sym (append_assoc w (listed vs) (codes ", " ++ v)) ∙ sym (append_assoc (w ++ listed vs) (codes ", ") v))

values_more : (p : Field → Bool) (lines : List Field) (line : Field) →
    map (λ (f : Field). f.value) (filter p (lines ++ line ∷ [])) ≡ map (λ (f : Field). f.value) (filter p lines) ++ cond (p line) (line.value ∷ []) []
values_more p [] line =
    elim (p line) as (λ b. map (λ (f : Field). f.value) (cond b (line ∷ []) []) ≡ cond b (line.value ∷ []) []) [ true ↦ refl | false ↦ refl ]
values_more p (l ∷ lines) line =
    let more = values_more p lines line in
    let rest = filter p (lines ++ line ∷ []) in
    elim (p l) as (λ b. map (λ (f : Field). f.value) (cond b (l ∷ rest) rest)
    ≡ map (λ (f : Field). f.value) (cond b (l ∷ filter p lines) (filter p lines)) ++ cond (p line) (line.value ∷ []) []) [
      | true ↦ ap (λ zs. l.value ∷ zs) more
      | false ↦ more
    ]

-- a line more, of this name or of another
combined_more : (lines : List Field) (line : Field) (q : List ℕ) →
    combined_at (lines ++ line ∷ []) q ≡ cond (bytes_eq (folded line.name) q) (Some (value_combined_with_line (combined_at lines q) line.value)) (combined_at lines q)
combined_more lines line q =
    let p : Field → Bool = λ f. bytes_eq (folded f.name) q in
    let vs = map (λ (f : Field). f.value) (filter p lines) in
    ap joined (values_more p lines line)
    ∙ (elim (p line) as (λ b. joined (vs ++ cond b (line.value ∷ []) []) ≡ cond b (Some (value_combined_with_line (joined vs) line.value)) (joined vs)) [
      | true ↦ joined_more vs line.value
      | false ↦ ap joined (append-nil vs)
    ])

-- the values of these lines are gathered
abbrev pub Gathered : List Field → Values → Type 0
Gathered lines values = (q : List ℕ) → get folded_names_cmp values q ≡ combined_at lines q

-- a value taken out and put in again, with that of a line more
by_name : {X : Type 0} (t : Bool) (v none g : X) → cond t v (cond t none g) ≡ cond t v g
by_name true v none g = refl
by_name false v none g = refl

pub one_line_more : (lines : List Field) (line : Field) (v : List ℕ) (old without new : Values) → Gathered lines old →
    v ≡ value_combined_with_line (get folded_names_cmp old (folded line.name)) line.value →
    ((q : List ℕ) → get folded_names_cmp without q ≡ cond (is_at (folded_names_cmp (folded line.name)) q) None (get folded_names_cmp old q)) →
    ((q : List ℕ) → get folded_names_cmp new q ≡ cond (is_at (folded_names_cmp (folded line.name)) q) (Some v) (get folded_names_cmp without q)) →
    Gathered (lines ++ line ∷ []) new
one_line_more lines line v old without new h is out put q =
    let name = folded line.name in
    put q
    ∙ ap (λ g. cond (is_at (folded_names_cmp name) q) (Some v) g) (out q)
    ∙ by_name (is_at (folded_names_cmp name) q) (Some v) None (get folded_names_cmp old q)
    ∙ ap (λ b. cond b (Some v) (get folded_names_cmp old q)) (sym (folded_cmp_ties_are_equal name q))
    ∙ (elim (cases_Bool (bytes_eq name q)) [
      | inl t ↦ ap (λ b. cond b (Some v) (get folded_names_cmp old q)) t
          ∙ ap Some (is ∙ ap (λ o. value_combined_with_line o line.value) (h name ∙ ap (combined_at lines) (one name q t)))
          ∙ sym (ap (λ b. cond b (Some (value_combined_with_line (combined_at lines q) line.value)) (combined_at lines q)) t)
      | inr f ↦ ap (λ b. cond b (Some v) (get folded_names_cmp old q)) f
          ∙ h q
          ∙ sym (ap (λ b. cond b (Some (value_combined_with_line (combined_at lines q) line.value)) (combined_at lines q)) f)
    ])
    ∙ sym (combined_more lines line q)

-- ---- what is found stands among the values

some_is : (a b : List ℕ) → Some a ≡ Some b → a ≡ b
some_is a b e = cc

and_left : (a b : Bool) → (a && b) ≡ true → a ≡ true
and_left true b h = refl
and_left false b h = absurd (false≢true h)

and_right : (a b : Bool) → (a && b) ≡ true → b ≡ true
and_right true b h = h
and_right false b h = absurd (false≢true h)

first_or_later : (b : Bool) (P : List ℕ → Bool) (v first : List ℕ) (later : Option (List ℕ)) → P first ≡ true → (later ≡ Some v → P v ≡ true) →
    cond b (Some first) later ≡ Some v → P v ≡ true
first_or_later true P v first later it more e = ap P (sym (some_is first v e)) ∙ it
first_or_later false P v first later it more e = more e

pub found_stands : (q v : List ℕ) (entries : List (List ℕ × List ℕ)) (P : List ℕ → Bool) → list_all P (values_of entries) ≡ true →
    lookup (is_at (folded_names_cmp q)) entries ≡ Some v → P v ≡ true
found_stands q v [] P h e = absurd (false≢true (ap is_some e))
found_stands q v (entry ∷ entries) P h e =
    first_or_later (is_at (folded_names_cmp q) entry.0) P v entry.1 (lookup (is_at (folded_names_cmp q)) entries)
    (and_left (P entry.1) (list_all P (values_of entries)) h)
    (found_stands q v entries P (and_right (P entry.1) (list_all P (values_of entries)) h)) e

-- whatever passes more than what passes now, and all that is left, passes all
abbrev pub PassesOn : (List ℕ → Bool) → List (List ℕ) → List (List ℕ) → Type 0
PassesOn P left all = (R : List ℕ → Bool) → ((v : List ℕ) → P v ≡ true → R v ≡ true) → list_all R left ≡ true → list_all R all ≡ true

pub one_passes : (P more : List ℕ → Bool) (v : List ℕ) (left all : List (List ℕ)) → ((w : List ℕ) → P w ≡ true → more w ≡ true) → more v ≡ true →
    PassesOn P (v ∷ left) all → PassesOn more left all
one_passes P more v left all grows it h R above rest =
    h R (λ w p. above w (grows w p)) (ap (λ b. b && list_all R left) (above v it) ∙ rest)

pub all_passed : (P : List ℕ → Bool) (all : List (List ℕ)) → PassesOn P [] all → list_all P all ≡ true
all_passed P all h = h P (λ w p. p) refl

pub kept_alike : (request : List Field) (values : Values) → MapHasEachCombinedValue request values → (kept : List NominatedValue) →
    values_match_all_nominated values kept ≡ vary_matches kept request
kept_alike request values h [] = refl
kept_alike request values h (k ∷ kept) =
    ap (λ o. is_same_value k.value o && values_match_all_nominated values kept) (h k.name)
    ∙ ap (λ b. is_same_value k.value (combined_of request k.name) && b) (kept_alike request values h kept)
