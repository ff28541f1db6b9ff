-- One act is due first.
use Rattle.std.proofs.Common.{◌⊎◌, inl, inr, ◌≡◌, ℕ, ◌<◌, ◌≤◌, List, get_or, refl, sym, ap, ◌∙◌, subst, arith, Bool, true, false, Option, None, Some, ◌+◌}
use Rattle.std.proofs.lemmas.Bool.{cases_lt}
use Rattle.hx_framing.specs.declared.messages.Request.{Request}
use Rattle.hx_framing.specs.declared.messages.Next.{Next}
use Rattle.hx_framing.proofs.RequestOnce.{answered_once_lem as requests_once}
use Rattle.hx_framing.proofs.ResponseOnce.{answered_once_lem as responses_once}
use Rattle.proxy_engine.specs.EngineModel.{EngineModel, ConnectionModel, LinkModel, no_connection, no_link}
use Rattle.proxy_engine.specs.Due.{Act, Abandons, Finishes, Wakes, Serves, LinkResult, IsFirstAtWhich, IsFirstDueAct, IsGoneWhileBusy, IsDueLinkResult, LinkResultUnlessDropped, IsDueOnConnection, IsDueRequestActionUnlessBusy, due_request_action, link_result_of_next, accepts_no_request}

none_some : {B : Type 0} {b : B} {C : Type 0} → ◌≡◌ {A = Option B} None (Some b) → C
none_some h = cc

some_same : {B : Type 0} {a b : B} → ◌≡◌ {A = Option B} (Some a) (Some b) → a ≡ b
some_same h = cc

pub first_once : {A B : Type 0} (R : A → Option B → Type 0) (d : A) (xs : List A) (a b : Option (ℕ × B)) → ((x : A) (o p : Option B) → R x o → R x p → o ≡ p) → IsFirstAtWhich R d xs a → IsFirstAtWhich R d xs b → a ≡ b
first_once {A} {B} R d xs None None once h k = refl
first_once {A} {B} R d xs None (Some q) once h k = none_some (once (get_or xs q.0 d) None (Some q.1) (h q.0 k.0) k.1)
first_once {A} {B} R d xs (Some p) None once h k = none_some (once (get_or xs p.0 d) None (Some p.1) (k p.0 h.0) h.1)
first_once {A} {B} R d xs (Some p) (Some q) once h k = by_order (cases_lt p.0 q.0) (cases_lt q.0 p.0)
  where
    by_order : (p.0 < q.0) ⊎ (q.0 ≤ p.0) → (q.0 < p.0) ⊎ (p.0 ≤ q.0) → Some p ≡ Some q
    by_order (inl l) o = none_some (once (get_or xs p.0 d) None (Some p.1) (k.2 p.0 l) h.1)
    by_order (inr l) (inl m) = none_some (once (get_or xs q.0 d) None (Some q.1) (h.2 q.0 m) k.1)
    by_order (inr l) (inr m) =
        let place : p.0 ≡ q.0 = omega arith in
        let what : p.1 ≡ q.1 = some_same (once (get_or xs q.0 d) (Some p.1) (Some q.1) (subst (λ n. R (get_or xs n d) (Some p.1)) place h.1) k.1) in
        ap (λ n. Some (n, p.1)) place ∙ ap (λ b. Some (q.0, b)) what

lost_once : (x : ConnectionModel) (o p : Option (Option ℕ)) → IsGoneWhileBusy x o → IsGoneWhileBusy x p → o ≡ p
lost_once x o p h k = h ∙ sym k

finish_due_by : (b : Bool) (x : LinkModel) (o p : Option LinkResult) → LinkResultUnlessDropped b x o → LinkResultUnlessDropped b x p → o ≡ p
finish_due_by true x o p h k = h ∙ sym k
finish_due_by false x o p h k = h.2 ∙ (ap (λ a. link_result_of_next a x.failed) (responses_once x.progress h.0 k.0 h.1 k.1) ∙ sym k.2)

pub finish_due_once : (x : LinkModel) (o p : Option LinkResult) → IsDueLinkResult x o → IsDueLinkResult x p → o ≡ p
finish_due_once x o p h k = finish_due_by x.dropped x o p h k

wanted_by : (b : Bool) (x : ConnectionModel) (o p : Option (Next Request)) → IsDueRequestActionUnlessBusy b x o → IsDueRequestActionUnlessBusy b x p → o ≡ p
wanted_by true x o p h k = h ∙ sym k
wanted_by false x o p h k = h.2 ∙ (ap due_request_action (requests_once x.progress h.0 k.0 h.1 k.1) ∙ sym k.2)

wanted_once : (x : ConnectionModel) (o p : Option (Next Request)) → IsDueOnConnection x o → IsDueOnConnection x p → o ≡ p
wanted_once x o p h k = wanted_by (accepts_no_request x.gone x.closed x.activity) x o p h k

pub lost_same : (s : EngineModel) (a b : Option (ℕ × Option ℕ)) → IsFirstAtWhich IsGoneWhileBusy no_connection s.connections a → IsFirstAtWhich IsGoneWhileBusy no_connection s.connections b → a ≡ b
lost_same s a b h k = first_once IsGoneWhileBusy no_connection s.connections a b lost_once h k

pub finish_due_same : (s : EngineModel) (a b : Option (ℕ × LinkResult)) → IsFirstAtWhich IsDueLinkResult no_link s.links a → IsFirstAtWhich IsDueLinkResult no_link s.links b → a ≡ b
finish_due_same s a b h k = first_once IsDueLinkResult no_link s.links a b finish_due_once h k

wanted_same : (s : EngineModel) (a b : Option (ℕ × Next Request)) → IsFirstAtWhich IsDueOnConnection no_connection s.connections a → IsFirstAtWhich IsDueOnConnection no_connection s.connections b → a ≡ b
wanted_same s a b h k = first_once IsDueOnConnection no_connection s.connections a b wanted_once h k

pub due_first_once : (s : EngineModel) (a b : Option Act) → IsFirstDueAct s a → IsFirstDueAct s b → a ≡ b
due_first_once s None None h k = refl
due_first_once s None (Some (Abandons i l)) h k = none_some (lost_same s None (Some (i, l)) h.0 k)
due_first_once s None (Some (Finishes j f)) h k = none_some (finish_due_same s None (Some (j, f)) h.1 k.1)
due_first_once s None (Some (Wakes i)) h k = none_some (sym h.2 ∙ k.2)
due_first_once s None (Some (Serves i d)) h k = none_some (wanted_same s None (Some (i, d)) h.3 k.3)
due_first_once s (Some (Abandons i l)) None h k = none_some (lost_same s None (Some (i, l)) k.0 h)
due_first_once s (Some (Finishes j f)) None h k = none_some (finish_due_same s None (Some (j, f)) k.1 h.1)
due_first_once s (Some (Wakes i)) None h k = none_some (sym k.2 ∙ h.2)
due_first_once s (Some (Serves i d)) None h k = none_some (wanted_same s None (Some (i, d)) k.3 h.3)
due_first_once s (Some (Abandons i l)) (Some (Abandons j m)) h k = let e = some_same (lost_same s (Some (i, l)) (Some (j, m)) h k) in ap (λ (p : ℕ × Option ℕ). Some (Abandons p.0 p.1)) e
due_first_once s (Some (Abandons i l)) (Some (Finishes j f)) h k = none_some (lost_same s None (Some (i, l)) k.0 h)
due_first_once s (Some (Abandons i l)) (Some (Wakes j)) h k = none_some (lost_same s None (Some (i, l)) k.0 h)
due_first_once s (Some (Abandons i l)) (Some (Serves j d)) h k = none_some (lost_same s None (Some (i, l)) k.0 h)
due_first_once s (Some (Finishes j f)) (Some (Abandons i l)) h k = none_some (lost_same s None (Some (i, l)) h.0 k)
due_first_once s (Some (Finishes j f)) (Some (Finishes i g)) h k = let e = some_same (finish_due_same s (Some (j, f)) (Some (i, g)) h.1 k.1) in ap (λ (p : ℕ × LinkResult). Some (Finishes p.0 p.1)) e
due_first_once s (Some (Finishes j f)) (Some (Wakes i)) h k = none_some (finish_due_same s None (Some (j, f)) k.1 h.1)
due_first_once s (Some (Finishes j f)) (Some (Serves i d)) h k = none_some (finish_due_same s None (Some (j, f)) k.1 h.1)
due_first_once s (Some (Wakes i)) (Some (Abandons j l)) h k = none_some (lost_same s None (Some (j, l)) h.0 k)
due_first_once s (Some (Wakes i)) (Some (Finishes j f)) h k = none_some (finish_due_same s None (Some (j, f)) h.1 k.1)
due_first_once s (Some (Wakes i)) (Some (Wakes j)) h k =
    let more : i + 1 ≡ j + 1 = some_same (sym h.2 ∙ k.2) in
    let same : i ≡ j = omega (arith, more) in
    ap (λ n. Some (Wakes n)) same
due_first_once s (Some (Wakes i)) (Some (Serves j d)) h k = none_some (sym k.2 ∙ h.2)
due_first_once s (Some (Serves i d)) (Some (Abandons j l)) h k = none_some (lost_same s None (Some (j, l)) h.0 k)
due_first_once s (Some (Serves i d)) (Some (Finishes j f)) h k = none_some (finish_due_same s None (Some (j, f)) h.1 k.1)
due_first_once s (Some (Serves i d)) (Some (Wakes j)) h k = none_some (sym h.2 ∙ k.2)
due_first_once s (Some (Serves i d)) (Some (Serves j e)) h k = let q = some_same (wanted_same s (Some (i, d)) (Some (j, e)) h.3 k.3) in ap (λ (p : ℕ × Next Request). Some (Serves p.0 p.1)) q
