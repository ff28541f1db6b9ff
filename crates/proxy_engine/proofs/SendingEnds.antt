-- The ends from which bytes may come: which they are, and that one more connection is one more of them.
use Rattle.std.proofs.Common.{◌≡◌, ℕ, zero, suc, ◌+◌, ◌-◌, ◌<◌, ◌≤◌, nat_lt, nat_le, List, [], ◌∷◌, ◌++◌, length, map, get_or, refl, sym, ap, ◌∙◌, subst, arith, Bool, true, false, cond, ◌&&◌, Some, None, Contains}
use Rattle.std.specs.List.{AllByRecursion}
use Rattle.std.proofs.lemmas.List.{append_assoc, map-append}
use Rattle.std.proofs.lemmas.List.Elements.{Contains-append_left, Contains-append_right}
use Rattle.proxy_engine.specs.EngineModel.{EngineModel, no_connection, no_link, new_connection_model, link_accepts_input}
use Rattle.proxy_engine.specs.Reading.{places_with_flag, connection_may_send_request, client_end_at, link_end_at, end_may_send}
use Rattle.proxy_engine.specs.SendingEnds.{EndWhosePeerMaySendHasNumber, ReadableEndsMaySend, EndWhosePeerMaySendIsReadable, AcceptAddsReadableEnd, EndsMaySendAsBeforeAccept}
use Rattle.proxy_engine.specs.declared.work.End.{End}
use Rattle.proxy_engine.specs.declared.work.End.TheVariants as ends
use Rattle.proxy_engine.specs.declared.work.EngineFault.{EngineFault}
use Rattle.proxy_engine.specs.declared.work.EngineFault.TheVariants.{WrongNumber, NotAccepted}
use Rattle.proxy_engine.proofs.Readable.{below}

-- ---- the places at which something has a flag

module _ {A : Type 0} (flag : A → Bool) (d : A) where
  each_flagged : (P : ℕ → Type 0) (xs : List A) (i : ℕ) → ((k : ℕ) → flag (get_or xs k d) ≡ true → k < length xs → P (i + k)) → AllByRecursion P (places_with_flag flag i xs)
  each_flagged P [] i h = tt
  each_flagged P (x ∷ xs) i h = by_flag (flag x) refl (each_flagged P xs (i + 1) (λ k e l. subst P (omega arith) (h (suc k) e (omega (arith, l)))))
    where
      by_flag : (b : Bool) → flag x ≡ b → AllByRecursion P (places_with_flag flag (i + 1) xs) → AllByRecursion P (cond b (i ∷ places_with_flag flag (i + 1) xs) (places_with_flag flag (i + 1) xs))
      by_flag true e rest = (subst P (omega arith) (h 0 e (omega arith)), rest)
      by_flag false e rest = rest

  -- what has the flag is at one of them
  among_flagged : (xs : List A) (i k : ℕ) → k < length xs → flag (get_or xs k d) ≡ true → Contains (places_with_flag flag i xs) (i + k)
  among_flagged [] i k l e = absurd (omega (arith, l))
  among_flagged (x ∷ xs) i zero l e =
      subst (λ (b : Bool). Contains (cond b (i ∷ places_with_flag flag (i + 1) xs) (places_with_flag flag (i + 1) xs)) (i + 0)) (sym e) (0, omega arith, omega arith)
  among_flagged (x ∷ xs) i (suc k) l e = by_flag (flag x) (subst (λ (n : ℕ). Contains (places_with_flag flag (i + 1) xs) n) (omega arith) (among_flagged xs (i + 1) k (omega (arith, l)) e))
    where
      by_flag : (b : Bool) → Contains (places_with_flag flag (i + 1) xs) (i + suc k) → Contains (cond b (i ∷ places_with_flag flag (i + 1) xs) (places_with_flag flag (i + 1) xs)) (i + suc k)
      by_flag true c = Contains-append_right (i ∷ []) (places_with_flag flag (i + 1) xs) (i + suc k) c
      by_flag false c = c

  -- what has it is within, where the stand-in hasn't
  flagged_within : flag d ≡ false → (xs : List A) (k : ℕ) → flag (get_or xs k d) ≡ true → k < length xs
  flagged_within none [] k e = absurd (let both : true ≡ false = sym e ∙ none in absurd (cc))
  flagged_within none (x ∷ xs) zero e = omega arith
  flagged_within none (x ∷ xs) (suc k) e = let rest = flagged_within none xs k e in omega (arith, rest)

  flagged_more : (xs : List A) (i : ℕ) (x : A) → flag x ≡ true → places_with_flag flag i (xs ++ x ∷ []) ≡ places_with_flag flag i xs ++ (i + length xs) ∷ []
  flagged_more [] i x e = ap (λ (b : Bool). cond b (i ∷ []) []) e ∙ ap (λ (n : ℕ). n ∷ []) (omega arith)
  flagged_more (y ∷ xs) i x e = by_flag (flag y) (flagged_more xs (i + 1) x e ∙ ap (λ (n : ℕ). places_with_flag flag (i + 1) xs ++ n ∷ []) (omega arith))
    where
      by_flag : (b : Bool) → places_with_flag flag (i + 1) (xs ++ x ∷ []) ≡ places_with_flag flag (i + 1) xs ++ (i + suc (length xs)) ∷ []
          → cond b (i ∷ places_with_flag flag (i + 1) (xs ++ x ∷ [])) (places_with_flag flag (i + 1) (xs ++ x ∷ [])) ≡ cond b (i ∷ places_with_flag flag (i + 1) xs) (places_with_flag flag (i + 1) xs) ++ (i + suc (length xs)) ∷ []
      by_flag true rest = ap (λ (ns : List ℕ). i ∷ ns) rest
      by_flag false rest = rest

  flagged_kept : (xs : List A) (x : A) (k : ℕ) → k < length xs → flag (get_or xs k d) ≡ true → flag (get_or (xs ++ x ∷ []) k d) ≡ true
  flagged_kept [] x k l e = absurd (omega (arith, l))
  flagged_kept (y ∷ xs) x zero l e = e
  flagged_kept (y ∷ xs) x (suc k) l e = flagged_kept xs x k (omega (arith, l)) e

-- ---- their ends

each_mapped : (P : End → Type 0) (f : ℕ → End) (ns : List ℕ) → AllByRecursion (λ n. P (f n)) ns → AllByRecursion P (map f ns)
each_mapped P f [] h = tt
each_mapped P f (n ∷ ns) h = (h.0, each_mapped P f ns h.1)

each_joined : (P : End → Type 0) (first more : List End) → AllByRecursion P first → AllByRecursion P more → AllByRecursion P (first ++ more)
each_joined P [] more h k = k
each_joined P (a ∷ rest) more h k = (h.0, each_joined P rest more h.1 k)

among_mapped : (f : ℕ → End) (ns : List ℕ) (n : ℕ) → Contains ns n → Contains (map f ns) (f n)
among_mapped f [] n c = absurd (omega (arith, c.1))
among_mapped f (m ∷ ns) n (zero, l, e) = (0, omega arith, ap f e)
among_mapped f (m ∷ ns) n (suc k, l, e) = Contains-append_right (f m ∷ []) (map f ns) (f n) (among_mapped f ns n (k, omega (arith, l), e))

at_least : (a b : ℕ) → a ≤ b → nat_le a b ≡ true
at_least a b l = search (arith, l)

both_true : (a b : Bool) → a ≡ true → b ≡ true → (a && b) ≡ true
both_true true b e f = f
both_true false b e f = absurd cc

first_true : (a b : Bool) → (a && b) ≡ true → (a ≡ true) × (b ≡ true)
first_true true b e = (refl, e)
first_true false b e = absurd cc

above_first : (a b : ℕ) → nat_le a b ≡ true → a ≤ b
above_first a b e = search (arith, e)

above_zero : (n : ℕ) → nat_lt 0 n ≡ true → 0 < n
above_zero n e = search (arith, e)

client_at : (s : EngineModel) (k : ℕ) → connection_may_send_request (get_or s.connections k no_connection) ≡ true → end_may_send s (client_end_at k) ≡ true
client_at s k e =
    let here : k + 1 - 1 ≡ k = omega arith in
    both_true (nat_lt 0 (k + 1)) _ (below 0 (k + 1) (omega arith)) (subst (λ (n : ℕ). connection_may_send_request (get_or s.connections n no_connection) ≡ true) (sym here) e)

link_at_place : (s : EngineModel) (k : ℕ) → link_accepts_input (get_or s.links k no_link) ≡ true → end_may_send s (link_end_at s.first k) ≡ true
link_at_place s k e =
    let here : s.first + k - s.first ≡ k = omega arith in
    both_true (nat_le s.first (s.first + k)) _ (at_least s.first (s.first + k) (omega arith)) (subst (λ (n : ℕ). link_accepts_input (get_or s.links n no_link) ≡ true) (sym here) e)

pub readable_may_send : ReadableEndsMaySend
readable_may_send s =
    each_joined (λ end. end_may_send s end ≡ true) (map (link_end_at s.first) (places_with_flag link_accepts_input 0 s.links)) (map client_end_at (places_with_flag connection_may_send_request 0 s.connections))
    (each_mapped (λ end. end_may_send s end ≡ true) (link_end_at s.first) (places_with_flag link_accepts_input 0 s.links) (each_flagged link_accepts_input no_link (λ n. end_may_send s (link_end_at s.first n) ≡ true) s.links 0 (λ k e l. let same : k ≡ 0 + k = omega arith in subst (λ (n : ℕ). end_may_send s (link_end_at s.first n) ≡ true) same (link_at_place s k e))))
    (each_mapped (λ end. end_may_send s end ≡ true) client_end_at (places_with_flag connection_may_send_request 0 s.connections) (each_flagged connection_may_send_request no_connection (λ n. end_may_send s (client_end_at n) ≡ true) s.connections 0 (λ k e l. let same : k ≡ 0 + k = omega arith in subst (λ (n : ℕ). end_may_send s (client_end_at n) ≡ true) same (client_at s k e))))

pub sending_is_readable : EndWhosePeerMaySendIsReadable
sending_is_readable s ends.Listener e = absurd cc
sending_is_readable s (ends.Client n) e =
    let two = first_true (nat_lt 0 n) _ e in
    let positive = above_zero n two.0 in
    let within = flagged_within connection_may_send_request no_connection refl s.connections (n - 1) two.1 in
    let there = among_mapped client_end_at _ _ (among_flagged connection_may_send_request no_connection s.connections 0 (n - 1) within two.1) in
    let same : 0 + (n - 1) + 1 ≡ n = omega (arith, positive) in
    Contains-append_right (map (link_end_at s.first) (places_with_flag link_accepts_input 0 s.links)) (map client_end_at (places_with_flag connection_may_send_request 0 s.connections)) (ends.Client n)
    (subst (λ (m : ℕ). Contains (map client_end_at (places_with_flag connection_may_send_request 0 s.connections)) (ends.Client m)) same there)
sending_is_readable s (ends.Link l) e =
    let two = first_true (nat_le s.first l) _ e in
    let from = above_first s.first l two.0 in
    let within = flagged_within link_accepts_input no_link refl s.links (l - s.first) two.1 in
    let there = among_mapped (link_end_at s.first) _ _ (among_flagged link_accepts_input no_link s.links 0 (l - s.first) within two.1) in
    let same : s.first + (0 + (l - s.first)) ≡ l = omega (arith, from) in
    Contains-append_left (map (link_end_at s.first) (places_with_flag link_accepts_input 0 s.links)) (map client_end_at (places_with_flag connection_may_send_request 0 s.connections)) (ends.Link l)
    (subst (λ (m : ℕ). Contains (map (link_end_at s.first) (places_with_flag link_accepts_input 0 s.links)) (ends.Link m)) same there)

no_fault : (a b : Bool) (f : EngineFault) → a ≡ true → b ≡ true → cond (a && b) None (Some f) ≡ None
no_fault a b f e g = ap (λ (c : Bool). cond c None (Some f)) (both_true a b e g)

pub sending_has_number : EndWhosePeerMaySendHasNumber
sending_has_number s ends.Listener e = tt
sending_has_number s (ends.Client n) e =
    let two = first_true (nat_lt 0 n) _ e in
    let within = flagged_within connection_may_send_request no_connection refl s.connections (n - 1) two.1 in
    no_fault (nat_lt 0 n) (nat_le n (length s.connections)) NotAccepted two.0 (at_least n (length s.connections) (omega (arith, within)))
sending_has_number s (ends.Link l) e =
    let two = first_true (nat_le s.first l) _ e in
    let within = flagged_within link_accepts_input no_link refl s.links (l - s.first) two.1 in
    no_fault (nat_le s.first l) (nat_lt (l - s.first) (length s.links)) WrongNumber two.0 (below (l - s.first) (length s.links) within)

-- ---- one more connection

pub accept_adds : AcceptAddsReadableEnd
accept_adds s =
    let links = map (link_end_at s.first) (places_with_flag link_accepts_input 0 s.links) in
    let clients = places_with_flag connection_may_send_request 0 s.connections in
    ap (λ (ns : List ℕ). links ++ map client_end_at ns) (flagged_more connection_may_send_request no_connection s.connections 0 (new_connection_model s.core.table.max_body) refl)
    ∙ (ap (λ (es : List End). links ++ es) (map-append client_end_at clients ((0 + length s.connections) ∷ []))
    ∙ (ap (λ (n : ℕ). links ++ (map client_end_at clients ++ ends.Client (n + 1) ∷ [])) (omega arith)
    ∙ sym (append_assoc links (map client_end_at clients) (ends.Client (length s.connections + 1) ∷ []))))

pub accept_keeps : EndsMaySendAsBeforeAccept
accept_keeps s ends.Listener e = e
accept_keeps s (ends.Client n) e =
    let two = first_true (nat_lt 0 n) _ e in
    let within = flagged_within connection_may_send_request no_connection refl s.connections (n - 1) two.1 in
    both_true (nat_lt 0 n) _ two.0 (flagged_kept connection_may_send_request no_connection s.connections (new_connection_model s.core.table.max_body) (n - 1) within two.1)
accept_keeps s (ends.Link l) e = e
