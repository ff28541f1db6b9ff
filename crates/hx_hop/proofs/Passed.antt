-- Members that can't be what is looked for may be passed over.
use Rattle.std.proofs.Common.{◌≡◌, ℕ, ◌<◌, ◌++◌, Bool, true, false, cond, ◌||◌, List, [], ◌∷◌, length, get_or, set, Option, None, Some, not, refl, sym, ◌∙◌, ap, subst, codes, arith, inl, inr, ◌⊎◌, ◌≢◌}
use Rattle.std.specs.Prelude.{filter, bytes_eq, is_none, slice_set, ◌==◌, ◌%◌, ◌*◌, ◌/◌, ◌^◌, ◌&&◌}
use Rattle.std.specs.List.{list_any}
use Rattle.std.specs.BTreeMap.{get, is_at}
use Rattle.std.proofs.lemmas.Bool.{cases_Bool, false≢true}
use Rattle.std.proofs.lemmas.Grind.{common_steps}
use Rattle.std.proofs.lemmas.List.{get_or-set_same, get_or-set_other}
use Rattle.std.proofs.lemmas.List.Folds.{list_any-append}
use Rattle.std.proofs.lemmas.Slice.Eq.{bytes_eq-Decides}
use Rattle.hx_fields.specs.FirstBytes.{first_byte_is_one_of, first_byte, members_with_first_byte_in}
use Rattle.hx_fields.specs.Folded.{folded, folded_names_cmp, number_of}
use Rattle.hx_fields.specs.NameBuckets.{bucket_of_name, falls_in_marked_bucket}
use Rattle.hx_fields.specs.LongMembers.{members_of_at_least_length}
use Rattle.hx_fields.specs.Names.{is_same_name, members_of_value}
use Rattle.hx_fields.specs.Line.{Field}
use Rattle.hx_fields.proofs.LongNames.{long_ones_decide, shorter_differs}
use Rattle.hx_hop.specs.Stripping.{caching_field_names}
use Rattle.hx_hop.specs.NamedLines.{IsPrefilterOfNames, PlacesOfNamesAreTaken, AllSoughtNamesAreUnmarked, members_have_folded_name, is_line_name_or_close, is_present_and_unmarked, mark_after_naming, name_is_present, NamesThatPassAreMarked, PrefilterPassesUnmarkedNames}
use Rattle.hx_hop.specs.declared.named_lines.NamePrefilter.{NamePrefilter}
use Rattle.hx_hop.proofs.NamedLemmas.{all_marked, any_is_cache_name, at_name, Marked, MarksOn, member_passes, one_marks}

-- ---- shorter ones

no_cache_name : (member : List ℕ) → length member < 3 → list_any (is_same_name member) caching_field_names ≡ false
no_cache_name member h =
    rw (
      shorter_differs member (codes "Age") (omega arith),
      shorter_differs member (codes "Cache-Control") (omega arith),
      shorter_differs member (codes "Date") (omega arith),
      shorter_differs member (codes "ETag") (omega arith),
      shorter_differs member (codes "Expires") (omega arith),
      shorter_differs member (codes "Last-Modified") (omega arith),
      shorter_differs member (codes "Set-Cookie") (omega arith),
      shorter_differs member (codes "Vary") (omega arith),
    ) refl

pub listed_by_long : (value : List ℕ) → any_is_cache_name (members_of_at_least_length 3 value) ≡ any_is_cache_name (members_of_value value)
listed_by_long value = long_ones_decide 3 (λ m. list_any (is_same_name m) caching_field_names) no_cache_name (members_of_value value)

-- ---- those that begin otherwise

same_first : (a b : List ℕ) → folded a ≡ folded b → first_byte a ≡ first_byte b
same_first [] [] h = refl
same_first [] (y ∷ b) h = absurd cc
same_first (x ∷ a) [] h = absurd cc
same_first (x ∷ a) (y ∷ b) h = cc

module _ (firsts : List Bool) (q : List ℕ) (begin : (text : List ℕ) → folded text ≡ q → first_byte_is_one_of firsts text ≡ true) where
  begun_give : (members : List (List ℕ)) → members_have_folded_name (filter (first_byte_is_one_of firsts) members) q ≡ members_have_folded_name members q
  begun_give [] = refl
  begun_give (m ∷ members) =
      let more = begun_give members in
      elim (cases_Bool (first_byte_is_one_of firsts m)) [
        | inl t ↦ ap (λ b. members_have_folded_name (cond b (m ∷ filter (first_byte_is_one_of firsts) members) (filter (first_byte_is_one_of firsts) members)) q) t ∙ ap (λ b. bytes_eq (folded m) q || b) more
        | inr f ↦ ap (λ b. members_have_folded_name (cond b (m ∷ filter (first_byte_is_one_of firsts) members) (filter (first_byte_is_one_of firsts) members)) q) f ∙ more
            ∙ ap (λ b. b || members_have_folded_name members q) (sym (isnt m f))
      ]
    where
      isnt : (m : List ℕ) → first_byte_is_one_of firsts m ≡ false → bytes_eq (folded m) q ≡ false
      isnt m f = elim (cases_Bool (bytes_eq (folded m) q)) [
        | inl t ↦ absurd (false≢true (sym f ∙ begin m ((bytes_eq-Decides (folded m) q).0 t)))
        | inr g ↦ g
      ]

same_mark : (a b : Bool) (g : Option Bool) → (g ≡ Some false → a ≡ b) → mark_after_naming a g ≡ mark_after_naming b g
same_mark a b None h = refl
same_mark a b (Some true) h = refl
same_mark a b (Some false) h = ap (λ z. mark_after_naming z (Some false)) (h refl)

-- what is left out marks nothing that is here
pub begun_mark : (signs : NamePrefilter) (names : Marked) (members : List (List ℕ)) → PrefilterPassesUnmarkedNames signs names
    → MarksOn (members_have_folded_name (filter (first_byte_is_one_of signs.firsts.taken) members)) names (members_have_folded_name members) names
begun_mark signs names members show q =
    same_mark (members_have_folded_name (filter (first_byte_is_one_of signs.firsts.taken) members) q) (members_have_folded_name members q) (get folded_names_cmp names q)
    (λ here. begun_give signs.firsts.taken q (λ text is. show.firsts.shown text (ap (λ z. is_present_and_unmarked (get folded_names_cmp names z)) is ∙ ap is_present_and_unmarked here)) members)

with_one : (a b c : Bool) (g : Option Bool) → mark_after_naming b g ≡ mark_after_naming c g → mark_after_naming (a || b) g ≡ mark_after_naming (a || c) g
with_one true b c g h = refl
with_one false b c g h = h

module _ (signs : NamePrefilter) (names start : Marked) (all : List ℕ → Bool) (show : PrefilterPassesUnmarkedNames signs names) where
  -- the next member that begins so is the next that may mark
  pub next_marks : (value member behind : List ℕ)
      → members_with_first_byte_in signs.firsts.taken value ≡ member ∷ members_with_first_byte_in signs.firsts.taken behind
      → MarksOn (members_have_folded_name (members_of_value value)) names all start
      → MarksOn (members_have_folded_name (member ∷ members_of_value behind)) names all start
  next_marks value member behind is h q =
      let g = get folded_names_cmp names q in
      with_one (bytes_eq (folded member) q) (members_have_folded_name (members_of_value behind) q) (members_have_folded_name (members_with_first_byte_in signs.firsts.taken behind) q) g
      (sym (begun_mark signs names (members_of_value behind) show q))
      ∙ ap (λ ms. mark_after_naming (members_have_folded_name ms q) g) (sym is)
      ∙ begun_mark signs names (members_of_value value) show q
      ∙ h q

  pub none_marks : (value : List ℕ) → members_with_first_byte_in signs.firsts.taken value ≡ []
      → MarksOn (members_have_folded_name (members_of_value value)) names all start → NamesThatPassAreMarked all start names
  none_marks value is h = all_marked all start names (λ q.
      ap (λ ms. mark_after_naming (members_have_folded_name ms q) (get folded_names_cmp names q)) (sym is)
      ∙ begun_mark signs names (members_of_value value) show q
      ∙ h q)

  -- a member that falls into no bucket of these marks nothing
  pub fallen_passes : (member behind : List ℕ) → falls_in_marked_bucket signs.buckets.taken member ≡ false
      → MarksOn (members_have_folded_name (member ∷ members_of_value behind)) names all start → MarksOn (members_have_folded_name (members_of_value behind)) names all start
  fallen_passes member behind f h =
      one_marks member (members_of_value behind) all start names names (member_passes member names unmarked) h
    where
      unmarked : is_present_and_unmarked (get folded_names_cmp names (folded member)) ≡ false
      unmarked = elim (cases_Bool (is_present_and_unmarked (get folded_names_cmp names (folded member)))) [
        | inl t ↦ absurd (false≢true (sym f ∙ show.buckets.shown member t))
        | inr g ↦ g
      ]

-- ---- what names show

one_of : (a b : Bool) → a || b ≡ true → (a ≡ true) ⊎ (b ≡ true)
one_of true b e = inl refl
one_of false b e = inr e

set_or_before : (old : List Bool) (i j : ℕ) → i < length old → (get_or old j false ≡ true) ⊎ (j ≡ i) → get_or (set old i true) j false ≡ true
set_or_before old i j within (inr same) = ap (λ k. get_or (set old i true) k false) same ∙ get_or-set_same old i true false within
set_or_before old i j within (inl was) = elim (cases_Bool (j == i)) [
  | inl t ↦ ap (λ k. get_or (set old i true) k false) (equal j i t) ∙ get_or-set_same old i true false within
  | inr f ↦ get_or-set_other old i j true false (other j i f) ∙ was
]
  where
    equal : (a b : ℕ) → (a == b) ≡ true → a ≡ b
    equal a b h = grind (arith, common_steps)

    other : (a b : ℕ) → (a == b) ≡ false → a ≢ b
    other a b h = grind (arith, common_steps)

same_bucket : (a b : List ℕ) → folded a ≡ folded b → bucket_of_name a ≡ bucket_of_name b
same_bucket a b h = ap (λ q. number_of q * 11400714819323198485 % 2 ^ 64 / 2 ^ 52) h

module _ (place : List ℕ → ℕ) (same : (a b : List ℕ) → folded a ≡ folded b → place a ≡ place b) (name : List ℕ) (taken shared : List Bool) where
  is_it : (text : List ℕ) → bytes_eq (folded name) (folded text) ≡ true → folded name ≡ folded text
  is_it text h = (bytes_eq-Decides (folded name) (folded text)).0 h

  wasnt_shared : (t : Bool) (j : ℕ) → (t ≡ true → place name < length shared)
      → get_or (cond t (set shared (place name) true) shared) j false ≡ false → get_or shared j false ≡ false
  wasnt_shared false j within h = h
  wasnt_shared true j within h = elim (cases_Bool (get_or shared j false)) [
    | inl t ↦ absurd (false≢true (sym h ∙ set_or_before shared (place name) j (within refl) (inl t)))
    | inr f ↦ f
  ]

  is_shared : (t : Bool) → t ≡ true → (t ≡ true → place name < length shared) → get_or (cond t (set shared (place name) true) shared) (place name) false ≡ true
  is_shared true h within = set_or_before shared (place name) (place name) (within refl) (inr refl)
  is_shared false h within = absurd (false≢true h)

  module _ (names : List ℕ → Bool) (h : PlacesOfNamesAreTaken place names taken shared) where
    pub taken_for : place name < length taken → (get_or taken (place name) false ≡ true → place name < length shared)
        → PlacesOfNamesAreTaken place (λ q. names q || bytes_eq (folded name) q) (set taken (place name) true) (cond (get_or taken (place name) false) (set shared (place name) true) shared)
    taken_for in_taken in_shared = record {
      shown = λ text k. set_or_before taken (place name) (place text) in_taken (by text (one_of (names (folded text)) (bytes_eq (folded name) (folded text)) k));
      alone = λ a b k l at f. both a b (one_of (names (folded a)) (bytes_eq (folded name) (folded a)) k) (one_of (names (folded b)) (bytes_eq (folded name) (folded b)) l) at f;
    }
      where
        by : (text : List ℕ) → (names (folded text) ≡ true) ⊎ (bytes_eq (folded name) (folded text) ≡ true) → (get_or taken (place text) false ≡ true) ⊎ (place text ≡ place name)
        by text (inl was) = inl (h.shown text was)
        by text (inr it) = inr (sym (same name text (is_it text it)))

        never : (j : ℕ) → get_or taken j false ≡ true → j ≡ place name → get_or (cond (get_or taken (place name) false) (set shared (place name) true) shared) j false ≡ false → ⊥
        never j was at f =
            false≢true (sym f ∙ ap (λ z. get_or (cond (get_or taken (place name) false) (set shared (place name) true) shared) z false) at
            ∙ is_shared (get_or taken (place name) false) (sym (ap (λ z. get_or taken z false) at) ∙ was) in_shared)

        both : (a b : List ℕ) → (names (folded a) ≡ true) ⊎ (bytes_eq (folded name) (folded a) ≡ true) → (names (folded b) ≡ true) ⊎ (bytes_eq (folded name) (folded b) ≡ true)
            → place a ≡ place b → get_or (cond (get_or taken (place name) false) (set shared (place name) true) shared) (place a) false ≡ false → folded a ≡ folded b
        both a b (inl k) (inl l) at f = h.alone a b k l at (wasnt_shared (get_or taken (place name) false) (place a) in_shared f)
        both a b (inl k) (inr it) at f = absurd (never (place a) (h.shown a k) (at ∙ sym (same name b (is_it b it))) f)
        both a b (inr it) (inl l) at f = absurd (never (place a) (ap (λ z. get_or taken z false) at ∙ h.shown b l) (sym (same name a (is_it a it))) f)
        both a b (inr it) (inr too) at f = sym (is_it a it) ∙ is_it b too

    pub given_up : names (folded name) ≡ true
        → PlacesOfNamesAreTaken place (λ q. names q && not (bytes_eq (folded name) q)) (cond (get_or shared (place name) false) taken (set taken (place name) false)) shared
    given_up named = record {
      shown = λ text k. by text (names_it text k) (isnt_it text k) (get_or shared (place name) false) refl;
      alone = λ a b k l at f. h.alone a b (names_it a k) (names_it b l) at f;
    }
      where
        left : (a b : Bool) → a && b ≡ true → a ≡ true
        left true b e = refl
        left false b e = absurd (false≢true e)

        right : (a b : Bool) → a && not b ≡ true → b ≡ false
        right true false e = refl
        right true true e = absurd (false≢true e)
        right false b e = absurd (false≢true e)

        names_it : (text : List ℕ) → names (folded text) && not (bytes_eq (folded name) (folded text)) ≡ true → names (folded text) ≡ true
        names_it text k = left (names (folded text)) (not (bytes_eq (folded name) (folded text))) k

        isnt_it : (text : List ℕ) → names (folded text) && not (bytes_eq (folded name) (folded text)) ≡ true → bytes_eq (folded name) (folded text) ≡ false
        isnt_it text k = right (names (folded text)) (bytes_eq (folded name) (folded text)) k

        equal : (a b : ℕ) → (a == b) ≡ true → a ≡ b
        equal a b e = grind (arith, common_steps)

        other : (a b : ℕ) → (a == b) ≡ false → a ≢ b
        other a b e = grind (arith, common_steps)

        by : (text : List ℕ) → names (folded text) ≡ true → bytes_eq (folded name) (folded text) ≡ false → (s : Bool) → get_or shared (place name) false ≡ s
            → get_or (cond s taken (set taken (place name) false)) (place text) false ≡ true
        by text k n true e = h.shown text k
        by text k n false e = elim (cases_Bool (place text == place name)) [
          | inl t ↦ absurd (false≢true (sym n ∙ (bytes_eq-Decides (folded name) (folded text)).1
              (h.alone name text named k (sym (equal (place text) (place name) t)) e)))
          | inr f ↦ get_or-set_other taken (place name) (place text) false false (other (place text) (place name) f) ∙ h.shown text k
        ]

    pub for_fewer : (rest : List ℕ → Bool) → ((q : List ℕ) → rest q ≡ true → names q ≡ true) → PlacesOfNamesAreTaken place rest taken shared
    for_fewer rest of_these = record {
      shown = λ text k. h.shown text (of_these (folded text) k);
      alone = λ a b k l at f. h.alone a b (of_these (folded a) k) (of_these (folded b) l) at f;
    }

pub signs_for_fewer : (names rest : List ℕ → Bool) (signs : NamePrefilter) → ((q : List ℕ) → rest q ≡ true → names q ≡ true) → IsPrefilterOfNames names signs → IsPrefilterOfNames rest signs
signs_for_fewer names rest signs of_these h = record {
  firsts = for_fewer first_byte same_first [] signs.firsts.taken signs.firsts.shared names h.firsts rest of_these;
  buckets = for_fewer bucket_of_name same_bucket [] signs.buckets.taken signs.buckets.shared names h.buckets rest of_these;
}

module _ (name : List ℕ) (old new : NamePrefilter) where
  pub signs_added : new.firsts.taken ≡ slice_set old.firsts.taken (first_byte name) true → first_byte name < length old.firsts.taken
      → new.firsts.shared ≡ cond (first_byte_is_one_of old.firsts.taken name) (slice_set old.firsts.shared (first_byte name) true) old.firsts.shared
      → (first_byte_is_one_of old.firsts.taken name ≡ true → first_byte name < length old.firsts.shared)
      → new.buckets.taken ≡ slice_set old.buckets.taken (bucket_of_name name) true → bucket_of_name name < length old.buckets.taken
      → new.buckets.shared ≡ cond (falls_in_marked_bucket old.buckets.taken name) (slice_set old.buckets.shared (bucket_of_name name) true) old.buckets.shared
      → (falls_in_marked_bucket old.buckets.taken name ≡ true → bucket_of_name name < length old.buckets.shared)
      → (names : List ℕ → Bool) → IsPrefilterOfNames names old → IsPrefilterOfNames (λ q. names q || bytes_eq (folded name) q) new
  signs_added first within first_shared inside bucket fits bucket_shared holds names h =
      let all : List ℕ → Bool = λ q. names q || bytes_eq (folded name) q in
      record {
        firsts = subst (λ t. PlacesOfNamesAreTaken first_byte all t new.firsts.shared) (sym first)
            (subst (λ s. PlacesOfNamesAreTaken first_byte all (slice_set old.firsts.taken (first_byte name) true) s) (sym first_shared)
            (taken_for first_byte same_first name old.firsts.taken old.firsts.shared names h.firsts within inside));
        buckets = subst (λ t. PlacesOfNamesAreTaken bucket_of_name all t new.buckets.shared) (sym bucket)
            (subst (λ s. PlacesOfNamesAreTaken bucket_of_name all (slice_set old.buckets.taken (bucket_of_name name) true) s) (sym bucket_shared)
            (taken_for bucket_of_name same_bucket name old.buckets.taken old.buckets.shared names h.buckets fits holds));
      }

  pub signs_removed : new.firsts.taken ≡ cond (first_byte_is_one_of old.firsts.shared name) old.firsts.taken (slice_set old.firsts.taken (first_byte name) false)
      → new.firsts.shared ≡ old.firsts.shared
      → new.buckets.taken ≡ cond (falls_in_marked_bucket old.buckets.shared name) old.buckets.taken (slice_set old.buckets.taken (bucket_of_name name) false)
      → new.buckets.shared ≡ old.buckets.shared
      → (names : List ℕ → Bool) → names (folded name) ≡ true → IsPrefilterOfNames names old → IsPrefilterOfNames (λ q. names q && not (bytes_eq (folded name) q)) new
  signs_removed first first_shared bucket bucket_shared names named h =
      let left : List ℕ → Bool = λ q. names q && not (bytes_eq (folded name) q) in
      record {
        firsts = subst (λ t. PlacesOfNamesAreTaken first_byte left t new.firsts.shared) (sym first)
            (subst (λ s. PlacesOfNamesAreTaken first_byte left (cond (first_byte_is_one_of old.firsts.shared name) old.firsts.taken (slice_set old.firsts.taken (first_byte name) false)) s) (sym first_shared)
            (given_up first_byte same_first name old.firsts.taken old.firsts.shared names h.firsts named));
        buckets = subst (λ t. PlacesOfNamesAreTaken bucket_of_name left t new.buckets.shared) (sym bucket)
            (subst (λ s. PlacesOfNamesAreTaken bucket_of_name left (cond (falls_in_marked_bucket old.buckets.shared name) old.buckets.taken (slice_set old.buckets.taken (bucket_of_name name) false)) s) (sym bucket_shared)
            (given_up bucket_of_name same_bucket name old.buckets.taken old.buckets.shared names h.buckets named));
      }

-- ---- the signs of what is looked for, line by line

in_other_order : (a b c : Bool) → (a || (b || false)) || c ≡ true → (a || c) || b ≡ true
in_other_order true b c h = refl
in_other_order false true true h = refl
in_other_order false true false h = refl
in_other_order false false true h = refl
in_other_order false false false h = h

without_it : (a b c : Bool) → (b ≡ true → a || c ≡ true) → (a || (b || false)) || c ≡ true → a || c ≡ true
without_it true b c k h = refl
without_it false true c k h = k refl
without_it false false c k h = h

module _ (done : List Field) (line : Field) where
  lines_and_one : (q : List ℕ) → is_line_name_or_close (done ++ line ∷ []) q ≡ (name_is_present done q || (bytes_eq (folded line.name) q || false)) || bytes_eq (folded (codes "close")) q
  lines_and_one q = ap (λ b. b || bytes_eq (folded (codes "close")) q) (list_any-append (λ (l : Field). bytes_eq (folded l.name) q) done (line ∷ []))

  pub new_name_shows : (signs : NamePrefilter) → IsPrefilterOfNames (λ q. is_line_name_or_close done q || bytes_eq (folded line.name) q) signs → IsPrefilterOfNames (is_line_name_or_close (done ++ line ∷ [])) signs
  new_name_shows signs h = signs_for_fewer (λ q. is_line_name_or_close done q || bytes_eq (folded line.name) q) (is_line_name_or_close (done ++ line ∷ [])) signs
      (λ q k. in_other_order (name_is_present done q) (bytes_eq (folded line.name) q) (bytes_eq (folded (codes "close")) q) (sym (lines_and_one q) ∙ k)) h

  pub known_name_shows : (names : Marked) (signs : NamePrefilter) → AllSoughtNamesAreUnmarked done names → is_none (get folded_names_cmp names (folded line.name)) ≡ false
      → IsPrefilterOfNames (is_line_name_or_close done) signs → IsPrefilterOfNames (is_line_name_or_close (done ++ line ∷ [])) signs
  known_name_shows names signs are known h = signs_for_fewer (is_line_name_or_close done) (is_line_name_or_close (done ++ line ∷ [])) signs
      (λ q k. without_it (name_is_present done q) (bytes_eq (folded line.name) q) (bytes_eq (folded (codes "close")) q) (here q) (sym (lines_and_one q) ∙ k)) h
    where
      there : (b : Bool) → is_none (cond b (Some false) None) ≡ false → b ≡ true
      there true e = refl
      there false e = sym e

      here : (q : List ℕ) → bytes_eq (folded line.name) q ≡ true → is_line_name_or_close done q ≡ true
      here q e = ap (is_line_name_or_close done) (sym ((bytes_eq-Decides (folded line.name) q).0 e))
          ∙ there (is_line_name_or_close done (folded line.name)) (sym (ap is_none (are (folded line.name))) ∙ known)

pub close_shows : (signs : NamePrefilter) → IsPrefilterOfNames (λ q. false || bytes_eq (folded (codes "close")) q) signs → IsPrefilterOfNames (is_line_name_or_close []) signs
close_shows signs h = h

-- ---- the signs of what isn't marked

pub unmarked_show : (fields : List Field) (names : Marked) (signs : NamePrefilter) → AllSoughtNamesAreUnmarked fields names → IsPrefilterOfNames (is_line_name_or_close fields) signs → PrefilterPassesUnmarkedNames signs names
unmarked_show fields names signs are h = signs_for_fewer (is_line_name_or_close fields) (λ q. is_present_and_unmarked (get folded_names_cmp names q)) signs
    (λ q k. by (is_line_name_or_close fields q) (sym (ap is_present_and_unmarked (are q)) ∙ k)) h
  where
    by : (b : Bool) → is_present_and_unmarked (cond b (Some false) None) ≡ true → b ≡ true
    by true e = refl
    by false e = e

pub marked_shows_no_more : (member : List ℕ) (old new : Marked) (signs : NamePrefilter)
    → ((q : List ℕ) → get folded_names_cmp new q ≡ cond (is_at (folded_names_cmp (folded member)) q) (Some true) (get folded_names_cmp old q))
    → IsPrefilterOfNames (λ q. is_present_and_unmarked (get folded_names_cmp old q) && not (bytes_eq (folded member) q)) signs → PrefilterPassesUnmarkedNames signs new
marked_shows_no_more member old new signs u h = signs_for_fewer (λ q. is_present_and_unmarked (get folded_names_cmp old q) && not (bytes_eq (folded member) q))
    (λ q. is_present_and_unmarked (get folded_names_cmp new q)) signs
    (λ q k. by (bytes_eq (folded member) q) (get folded_names_cmp old q) (sym (ap is_present_and_unmarked (at_name (folded member) true old new u q)) ∙ k)) h
  where
    and_true : (p : Bool) → p ≡ true → p && true ≡ true
    and_true true e = refl
    and_true false e = e

    by : (n : Bool) (g : Option Bool) → is_present_and_unmarked (cond n (Some true) g) ≡ true → is_present_and_unmarked g && not n ≡ true
    by true g e = absurd (false≢true e)
    by false g e = and_true (is_present_and_unmarked g) e
