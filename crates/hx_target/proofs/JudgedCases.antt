-- What a target is judged to be doesn't depend on the case of scheme and host.
use Rattle.std.proofs.Common.{◌≡◌, ℕ, true, false, Bool, not, List, [], ◌∷◌, length, nat_lt, refl, sym, ◌∙◌, ap, cond, ◌||◌, ◌==◌}
use Rattle.std.specs.Prelude.{Result, Ok, Err, Option, Some, None, is_none, unwrap_or, codes, bytes_eq}
use Rattle.std.specs.List.{list_any}
use Rattle.std.specs.Option.{option_and_then}
use Rattle.http_uri.specs.Grammar.{path_of}
use Rattle.http_uri.specs.ByteClasses.{rsplit_once_back}
use Rattle.hx_target.specs.declared.target_fault.TargetFault.{TargetFault}
use Rattle.hx_target.specs.declared.target_fault.TargetFault.TheVariants.{Form, Scheme, Host, Port, Userinfo, Escape, DotSegment, TooLong}
use Rattle.hx_target.specs.declared.targets.Target.{Target}
use Rattle.hx_target.specs.Hosts.{lowercase, host_part, begins_with_valid_host, port_of_host_value}
use Rattle.hx_target.specs.Paths.{has_bad_escape, has_dot_segment, table_path_of}
use Rattle.hx_target.specs.Judgement.{TargetParts, judged_of, fault_or_target, first_target_fault, target_of_parts, has_origin_or_absolute_form, has_scheme_other_than_http, has_userinfo, valid_host_value, port_of_host_line, authority_or_host, host_and_port_text, path_query_of}
use Rattle.hx_target.proofs.Cases.{low_valid, low_port_part, low_named_host, low_after_userinfo, low_any_at_sign, same_but_for_case}

abbrev answer : Target → Option TargetFault → Result Target TargetFault
answer aim (Some fault) = Err fault
answer aim None = Ok aim

answer_is : (q : TargetParts) (o : Option TargetFault) → fault_or_target o q ≡ answer (target_of_parts q) o
answer_is q (Some fault) = refl
answer_is q None = refl

-- the judgement by what is asked of hosts
of_tests : (target kept : List ℕ) (form scheme none valid userinfo : Bool) (line_port port : Option ℕ) (host : List ℕ) → Result Target TargetFault
of_tests target kept form scheme none valid userinfo line_port port host =
    answer (record { key = record { host = host; port = unwrap_or port 80; path_query = path_query_of kept }; table_path = table_path_of (path_of kept) })
    (cond (not form) (Some Form) (cond scheme (Some Scheme) (cond (none || not valid) (Some Host) (cond (is_none line_port || is_none port) (Some Port)
    (cond userinfo (Some Userinfo) (cond (has_bad_escape (path_of kept)) (Some Escape) (cond (has_dot_segment (table_path_of (path_of kept))) (Some DotSegment)
    (cond (nat_lt 8192 (length target)) (Some TooLong) None))))))))

judged_by_tests : (q : TargetParts) →
    judged_of q ≡ of_tests q.target q.kept (has_origin_or_absolute_form q) (has_scheme_other_than_http q.scheme) (is_none (valid_host_value q.hosts)) (begins_with_valid_host (host_and_port_text q)) (has_userinfo q.authority)
    (port_of_host_line q.hosts) (port_of_host_value (host_and_port_text q)) (lowercase (host_part (host_and_port_text q)))
unfolding judged_of of_tests
judged_by_tests q = answer_is q (first_target_fault q)

of_tests_same : (target kept : List ℕ) (form scheme : Bool) {none none₂ valid valid₂ userinfo userinfo₂ : Bool} {line_port line_port₂ port port₂ : Option ℕ} {host host₂ : List ℕ} →
    none ≡ none₂ → valid ≡ valid₂ → userinfo ≡ userinfo₂ → line_port ≡ line_port₂ → port ≡ port₂ → host ≡ host₂ →
    of_tests target kept form scheme none valid userinfo line_port port host ≡ of_tests target kept form scheme none₂ valid₂ userinfo₂ line_port₂ port₂ host₂
of_tests_same target kept form scheme e₁ e₂ e₃ e₄ e₅ e₆ = cc

pub scheme_case : (q : TargetParts) (a b : List ℕ) → lowercase a ≡ lowercase b → judged_of (record q { scheme = Some a }) ≡ judged_of (record q { scheme = Some b })
scheme_case q a b e =
    let tests : has_scheme_other_than_http (Some a) ≡ has_scheme_other_than_http (Some b) = ap (λ low. not (bytes_eq low (codes "http"))) e in
    judged_by_tests (record q { scheme = Some a })
    ∙ (ap (λ t. of_tests q.target q.kept (has_origin_or_absolute_form (record q { scheme = Some a })) t (is_none (valid_host_value q.hosts)) (begins_with_valid_host (host_and_port_text q)) (has_userinfo q.authority)
    (port_of_host_line q.hosts) (port_of_host_value (host_and_port_text q)) (lowercase (host_part (host_and_port_text q)))) tests
    ∙ sym (judged_by_tests (record q { scheme = Some b })))

pub authority_case : (q : TargetParts) (a b : List ℕ) → lowercase a ≡ lowercase b → judged_of (record q { authority = Some a }) ≡ judged_of (record q { authority = Some b })
authority_case q a b e =
    let valid : begins_with_valid_host (rsplit_once_back 64 a) ≡ begins_with_valid_host (rsplit_once_back 64 b) =
    same_but_for_case (λ t. begins_with_valid_host (rsplit_once_back 64 t)) (λ t. ap begins_with_valid_host (low_after_userinfo t) ∙ low_valid (rsplit_once_back 64 t)) a b e in
    let port : port_of_host_value (rsplit_once_back 64 a) ≡ port_of_host_value (rsplit_once_back 64 b) =
    same_but_for_case (λ t. port_of_host_value (rsplit_once_back 64 t)) (λ t. ap port_of_host_value (low_after_userinfo t) ∙ low_port_part (rsplit_once_back 64 t)) a b e in
    let host : lowercase (host_part (rsplit_once_back 64 a)) ≡ lowercase (host_part (rsplit_once_back 64 b)) =
    same_but_for_case (λ t. lowercase (host_part (rsplit_once_back 64 t))) (λ t. ap (λ n. lowercase (host_part n)) (low_after_userinfo t) ∙ low_named_host (rsplit_once_back 64 t)) a b e in
    let userinfo : has_userinfo (Some a) ≡ has_userinfo (Some b) = same_but_for_case (list_any (λ c. c == 64)) low_any_at_sign a b e in
    judged_by_tests (record q { authority = Some a })
    ∙ (of_tests_same q.target q.kept (has_origin_or_absolute_form (record q { authority = Some a })) (has_scheme_other_than_http q.scheme) refl valid userinfo refl port host
    ∙ sym (judged_by_tests (record q { authority = Some b })))

-- the line's value where it is valid, in a function that doesn't tell the two apart
named_same : {A : Type 0} (f : List ℕ → A) (a b : List ℕ) → f a ≡ f b → (authority : Option (List ℕ)) (t u : Bool) → t ≡ u →
    f (authority_or_host authority (unwrap_or (cond t (Some a) None) [])) ≡ f (authority_or_host authority (unwrap_or (cond u (Some b) None) []))
named_same f a b same (Some c) t u e = refl
named_same f a b same None true true e = same
named_same f a b same None true false e = absurd (no_case e)
  where
    no_case : true ≡ false → ⊥
    no_case h = cc
named_same f a b same None false true e = absurd (no_case e)
  where
    no_case : false ≡ true → ⊥
    no_case h = cc
named_same f a b same None false false e = refl

none_same : (a b : List ℕ) (t u : Bool) → t ≡ u → is_none (cond t (Some a) None) ≡ is_none (cond u (Some b) None)
none_same a b t u e = none_of a t ∙ (ap not e ∙ sym (none_of b u))
  where
    none_of : (c : List ℕ) (t : Bool) → is_none (cond t (Some c) None) ≡ not t
    none_of c true = refl
    none_of c false = refl

port_same : (a b : List ℕ) → port_of_host_value a ≡ port_of_host_value b → (t u : Bool) → t ≡ u → option_and_then port_of_host_value (cond t (Some a) None) ≡ option_and_then port_of_host_value (cond u (Some b) None)
port_same a b same t u e = port_of_line a t ∙ (ap (λ v. cond v (port_of_host_value a) None) e ∙ (ap (λ p. cond u p None) same ∙ sym (port_of_line b u)))
  where
    port_of_line : (c : List ℕ) (t : Bool) → option_and_then port_of_host_value (cond t (Some c) None) ≡ cond t (port_of_host_value c) None
    port_of_line c true = refl
    port_of_line c false = refl

pub host_line_case : (q : TargetParts) (a b : List ℕ) → lowercase a ≡ lowercase b → judged_of (record q { hosts = a ∷ [] }) ≡ judged_of (record q { hosts = b ∷ [] })
host_line_case q a b e =
    let valid = same_but_for_case begins_with_valid_host low_valid a b e in
    let port = same_but_for_case port_of_host_value low_port_part a b e in
    let host = same_but_for_case (λ t. lowercase (host_part t)) low_named_host a b e in
    let va = begins_with_valid_host a in
    let vb = begins_with_valid_host b in
    judged_by_tests (record q { hosts = a ∷ [] })
    ∙ (of_tests_same q.target q.kept (has_origin_or_absolute_form q) (has_scheme_other_than_http q.scheme) (none_same a b va vb valid) (named_same begins_with_valid_host a b valid q.authority va vb valid) refl
    (port_same a b port va vb valid) (named_same port_of_host_value a b port q.authority va vb valid) (named_same (λ t. lowercase (host_part t)) a b host q.authority va vb valid)
    ∙ sym (judged_by_tests (record q { hosts = b ∷ [] })))
