-- Laws of judgements: there is one at most, and what passes has no dot segment.
use Rattle.std.proofs.Common.{◌≡◌, inl, inr, List, ℕ, Bool, true, false, sym, ◌∙◌, ap, refl, cond, [], ◌∷◌}
use Rattle.std.specs.Prelude.{Result, Ok, Option, Some, None, find, not, ◌&&◌, ◌||◌, ◌==◌, is_some, slice_index}
use Rattle.http_uri.specs.declared.uri.Uri.{Uri}
use Rattle.http_uri.specs.Uri.{Spells, uri_scheme, uri_authority, uri_data, uri_path_and_query}
use Rattle.http_uri.specs.Grammar.{path_of, IsUriText}
use Rattle.http_uri.specs.ByteClasses.{slash}
use Rattle.std.proofs.lemmas.Bool.Decides.{Decides-eqb}
use Rattle.http_uri.proofs.UriLemmas.{IsAuthority_first}
use Rattle.http_uri.proofs.Theorems.{Spells_unique}
use Rattle.hx_target.specs.declared.target_fault.TargetFault.{TargetFault}
use Rattle.hx_target.specs.declared.target_fault.TargetFault.TheVariants.{Form, Scheme, Host, Port, Userinfo, Escape, DotSegment, TooLong}
use Rattle.hx_target.specs.declared.targets.Target.{Target}
use Rattle.hx_target.specs.Paths.{has_bad_escape, has_dot_segment, table_path_of, has_only_normal_escapes}
use Rattle.hx_target.proofs.NormalPaths.{table-normal}
use Rattle.hx_target.specs.Judgement.{TargetParts, TargetIsJudged, target_parts_of, judged_of, target_fault_applies, first_target_fault, fault_or_target, target_of_parts, table_path_of_target}

pub one_judgement : (target : List ℕ) (hosts : List (List ℕ)) (r s : Result Target TargetFault) → TargetIsJudged target hosts r → TargetIsJudged target hosts s → r ≡ s
one_judgement target hosts r s (inl h) (inl k) = h.1 ∙ sym k.1
one_judgement target hosts r s (inl h) (inr (inl k)) = h.1 ∙ sym k.1
one_judgement target hosts r s (inl h) (inr (inr k)) = let bad = h.0 in let good = k.0 in cc
one_judgement target hosts r s (inr (inl h)) (inl k) = h.1 ∙ sym k.1
one_judgement target hosts r s (inr (inl h)) (inr (inl k)) = h.1 ∙ sym k.1
one_judgement target hosts r s (inr (inl h)) (inr (inr (good, (v, cut, is)))) = absurd (h.0 (uri_scheme v) (uri_authority v) (uri_data v) cut)
one_judgement target hosts r s (inr (inr h)) (inl k) = let bad = k.0 in let good = h.0 in cc
one_judgement target hosts r s (inr (inr (good, (u, cut, is)))) (inr (inl k)) = absurd (k.0 (uri_scheme u) (uri_authority u) (uri_data u) cut)
one_judgement target hosts r s (inr (inr (good, (u, cut, is)))) (inr (inr (good₂, (v, cut₂, is₂)))) =
    let same = Spells_unique target u v cut cut₂ in
    let e : target_parts_of target u hosts ≡ target_parts_of target v hosts = cc in
    is ∙ (ap judged_of e ∙ sym is₂)

-- a fault that stands is not passed over
pub none_applies : {A : Type 0} (b : Bool) (o : Option A) (x : A) → cond b (Some x) o ≡ None → (b ≡ false) × (o ≡ None)
none_applies true o x e = cc
none_applies false o x e = (refl, e)

abbrev pub PassedPath : TargetParts → Type 0
PassedPath q = (has_bad_escape (path_of q.kept) ≡ false) × (has_dot_segment (table_path_of_target q) ≡ false)

-- what has no fault has neither a bad escape nor a dot segment
no_fault : (q : TargetParts) → first_target_fault q ≡ None → PassedPath q
no_fault q none =
    let form = none_applies (target_fault_applies Form q) (find (λ fault. target_fault_applies fault q) (Scheme ∷ Host ∷ Port ∷ Userinfo ∷ Escape ∷ DotSegment ∷ TooLong ∷ [])) Form none in
    let scheme = none_applies (target_fault_applies Scheme q) (find (λ fault. target_fault_applies fault q) (Host ∷ Port ∷ Userinfo ∷ Escape ∷ DotSegment ∷ TooLong ∷ [])) Scheme form.1 in
    let host = none_applies (target_fault_applies Host q) (find (λ fault. target_fault_applies fault q) (Port ∷ Userinfo ∷ Escape ∷ DotSegment ∷ TooLong ∷ [])) Host scheme.1 in
    let port = none_applies (target_fault_applies Port q) (find (λ fault. target_fault_applies fault q) (Userinfo ∷ Escape ∷ DotSegment ∷ TooLong ∷ [])) Port host.1 in
    let userinfo = none_applies (target_fault_applies Userinfo q) (find (λ fault. target_fault_applies fault q) (Escape ∷ DotSegment ∷ TooLong ∷ [])) Userinfo port.1 in
    let escape = none_applies (target_fault_applies Escape q) (find (λ fault. target_fault_applies fault q) (DotSegment ∷ TooLong ∷ [])) Escape userinfo.1 in
    let dots = none_applies (target_fault_applies DotSegment q) (find (λ fault. target_fault_applies fault q) (TooLong ∷ [])) DotSegment escape.1 in
    (escape.0, dots.0)

passes : (q : TargetParts) (o : Option TargetFault) (aim : Target) → first_target_fault q ≡ o → Ok aim ≡ fault_or_target o q → PassedPath q × (aim ≡ target_of_parts q)
passes q (Some fault) aim is e = cc
passes q None aim is e = (no_fault q is, cc)

-- what a target that is read has: a path without those two, and the table path of this path
pub read_path : (target : List ℕ) (hosts : List (List ℕ)) (aim : Target) → TargetIsJudged target hosts (Ok aim) →
    (path : List ℕ) × (has_bad_escape path ≡ false) × (has_dot_segment (table_path_of path) ≡ false) × (aim.table_path ≡ table_path_of path)
unfolding judged_of
read_path target hosts aim (inl h) = let e = h.1 in cc
read_path target hosts aim (inr (inl h)) = let e = h.1 in cc
read_path target hosts aim (inr (inr (good, (u, cut, is)))) =
    let q = target_parts_of target u hosts in
    let p = passes q (first_target_fault q) aim refl is in
    (path_of q.kept, p.0.0, p.0.1, ap (λ (t : Target). t.table_path) p.1)

pub no_dots_pass : (target : List ℕ) (hosts : List (List ℕ)) (aim : Target) → TargetIsJudged target hosts (Ok aim) → has_dot_segment aim.table_path ≡ false
no_dots_pass target hosts aim judged =
    let (path, escapes, dots, is) = read_path target hosts aim judged in
    ap has_dot_segment is ∙ dots

pub normal_pass : (target : List ℕ) (hosts : List (List ℕ)) (aim : Target) → TargetIsJudged target hosts (Ok aim) → has_only_normal_escapes aim.table_path ≡ true
normal_pass target hosts aim judged =
    let (path, escapes, dots, is) = read_path target hosts aim judged in
    ap has_only_normal_escapes is ∙ table-normal path escapes

-- an authority alone is no target
pub authority_alone : (target : List ℕ) (u : Uri) (hosts : List (List ℕ)) → Spells target u → None ≡ uri_path_and_query u → first_target_fault (target_parts_of target u hosts) ≡ Some Form
authority_alone target u hosts spelled none = rw (no_form (uri_scheme u) (uri_authority u) (uri_data u) spelled none) refl
  where
    no_form : (s a : Option (List ℕ)) (kept : List ℕ) → IsUriText target s a kept → None ≡ cond (is_some s || not (is_some a)) (Some kept) None → not ((slice_index target 0 == slash) || (is_some s && is_some a)) ≡ true
    no_form (Some s) a kept form e = cc
    no_form None None kept form e = cc
    no_form None (Some a) kept form e = first (slice_index target 0 == slash) refl
      where
        first : (t : Bool) → (slice_index target 0 == slash) ≡ t → not (t || false) ≡ true
        first true is = absurd (IsAuthority_first target form.1.0 ((Decides-eqb (slice_index target 0) 47).0 is))
        first false is = refl
