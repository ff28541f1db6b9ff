-- Who came back waits for nobody, and who goes forward names the proxy once more.
use Rattle.std.proofs.Common.{◌≡◌, ℕ, ◌+◌, Bool, true, false, cond, ◌&&◌, ◌||◌, ◌==◌, List, [], ◌∷◌, ◌++◌, codes, None, refl, sym, ◌∙◌, ap, subst, arith, append-nil}
use Rattle.std.specs.Prelude.{nat_le, length, is_some}
use Rattle.std.specs.Char.{is_ascii_lowercase}
use Rattle.std.specs.List.{list_all}
use Rattle.std.specs.Str.{str_to_ascii_lowercase}
use Rattle.std.proofs.lemmas.Bool.{and_parts, le-leb}
use Rattle.std.proofs.lemmas.Bool.Decides.{nat_tests}
use Rattle.std.proofs.lemmas.List.Sums.{sum_by-cons}
use Rattle.hx_fields.specs.Names.{is_same_name, is_nonempty}
use Rattle.hx_policy.specs.declared.words.Policy.{Policy}
use Rattle.hx_validate.proofs.Lines.{bytes_eq-refl}
use Rattle.hx_hop.specs.declared.request_view.Asked.{Asked}
use Rattle.hx_hop.specs.Forwarding.{forwarded_client_lines, condition_lines, forwarded_of, host_text, line, via_text}
use Rattle.hx_allow.specs.Matching.{policy_of}
use Rattle.hx_allow.specs.Tables.{is_name, is_name_byte}
use Rattle.hx_allow.specs.Via.{times_in_via, times_in_via_line, is_via_byte, is_word_of_via_bytes, is_wellformed_via_member, ViaMember}
use Rattle.hx_allow.specs.declared.verdicts.Verdict.TheVariants as verdict
use Rattle.hx_allow.proofs.Loops.{times_together}
use Rattle.hx_allow.proofs.ViaWritten.{times_written}
use Rattle.proxy_core.specs.declared.open.awaited.Awaited.{Awaited}
use Rattle.proxy_core.specs.declared.open.exchange.Exchange.{Exchange}
use Rattle.proxy_core.specs.declared.event.Event.TheVariants.{Arrive}
use Rattle.proxy_core.specs.Allowing.{verdict_of_asked, is_refused_as_loop, exchanges_to_wait_for}
use Rattle.proxy_core.specs.Leading.{IsFirstLeader}
use Rattle.proxy_core.specs.Histories.{open_exchanges}
use Rattle.proxy_core.proofs.Waits.{waits_nowhere_else}
use Rattle.proxy_core_laws.specs.ComingBack.{LoopedRequestWaitsForNobody, EachForwardAddsOneVia}

-- ---- waiting

none_of_none : (before : List Exchange) (x : Exchange) (behind : List Exchange) → ◌≡◌ {A = List Exchange} [] (before ++ x ∷ behind) → ⊥
none_of_none [] x behind e = cc
none_of_none (y ∷ before) x behind e = cc

nobody_leads : (policy : Policy) (awaited : Awaited) (asked : Asked) (l : ℕ) → IsFirstLeader policy awaited asked [] l → ⊥
nobody_leads policy awaited asked l first = none_of_none first.before first.x first.behind first.open_exchanges_are

pub who_came_back_waits_for_nobody : LoopedRequestWaitsForNobody
who_came_back_waits_for_nobody table start first now id line l asked item past g arrives allowed back waits =
    let w = waits_nowhere_else table start first l item past g waits in
    let same : Arrive now id asked ≡ Arrive w.now w.id w.asked = sym arrives ∙ w.arrives in
    let asked_is : asked ≡ w.asked = cc in
    let one_line : verdict.Allowed line ≡ verdict.Allowed w.line = sym allowed ∙ ap (verdict_of_asked table) asked_is ∙ w.could.line_allows in
    let line_is : line ≡ w.line = cc in
    let again : is_refused_as_loop table w.line w.asked ≡ true = subst (λ n. is_refused_as_loop table n w.asked ≡ true) line_is (subst (λ (q : Asked). is_refused_as_loop table line q ≡ true) asked_is back) in
    let nobody : exchanges_to_wait_for table w.line w.asked (open_exchanges table start past) ≡ [] = ap (λ b. cond b [] (open_exchanges table start past)) again in
    nobody_leads (policy_of table.lines w.line) w.awaited w.asked l (subst (λ (xs : List Exchange). IsFirstLeader (policy_of table.lines w.line) w.awaited w.asked xs l) nobody w.first_leads)

-- ---- names

name_via_byte : (b : ℕ) → is_name_byte b ≡ true → is_via_byte b ≡ true
name_via_byte b h = grind (arith, nat_tests)

name_via_bytes : (text : List ℕ) → list_all is_name_byte text ≡ true → list_all is_via_byte text ≡ true
name_via_bytes [] h = refl
name_via_bytes (b ∷ text) h =
    let parts = and_parts (is_name_byte b) (list_all is_name_byte text) h in
    rw (name_via_byte b parts.0) (name_via_bytes text parts.1)

and_both : (a b : Bool) → a ≡ true → b ≡ true → (a && b) ≡ true
and_both true true h k = refl
and_both true false h k = k
and_both false b h k = h

name_is_word : (name : List ℕ) → is_name name ≡ true → is_word_of_via_bytes name ≡ true
unfolding is_name
name_is_word [] h = absurd (by_test (nat_le 0 32) h)
  where
    by_test : (t : Bool) → t && false && true ≡ true → ⊥
    by_test true e = cc
    by_test false e = cc
name_is_word (b ∷ name) h =
    and_both (is_nonempty (b ∷ name)) (list_all is_via_byte (b ∷ name)) (le-leb 1 (length (b ∷ name)) (omega arith))
    (name_via_bytes (b ∷ name) (last (nat_le (length (b ∷ name)) 32) (is_ascii_lowercase b) (list_all is_name_byte (b ∷ name)) h))
  where
    last : (s t u : Bool) → s && t && u ≡ true → u ≡ true
    last true true u e = e
    last true false u e = cc
    last false t u e = cc

and_two : (b : Bool) → b ≡ true → (b && true && true) ≡ true
and_two true e = refl
and_two false e = cc

module _ (name : List ℕ) (is : is_name name ≡ true) where
  own_member : List ℕ → ViaMember
  own_member protocol = record { before = []; protocol = protocol; between = codes " "; by = name; comment = None; after = [] }

  named_once : (protocol : List ℕ) → is_wellformed_via_member (own_member protocol) ≡ true → times_in_via_line name (protocol ++ (codes " " ++ name)) ≡ 1
  unfolding own_member
  named_once protocol valid =
      let same : is_same_name name name ≡ true = bytes_eq-refl (str_to_ascii_lowercase name) in
      ap (λ by. times_in_via_line name (protocol ++ (codes " " ++ by))) (sym (append-nil name))
      ∙ times_written name (own_member protocol) [] (ap (λ b. b && true) valid)
      ∙ sum_by-cons (λ (m : ViaMember). cond (is_same_name m.by name) 1 0) (own_member protocol) []
      ∙ ap (λ b. cond b 1 0 + 0) same

  own_via_names_it : (minor : ℕ) → times_in_via_line name (via_text minor name) ≡ 1
  unfolding own_member
  own_via_names_it minor = by_version (minor == 0)
    where
      by_version : (old : Bool) → times_in_via_line name (cond old (codes "1.0 ") (codes "1.1 ") ++ name) ≡ 1
      by_version true = named_once (codes "1.0") (and_two (is_word_of_via_bytes name) (name_is_word name is))
      by_version false = named_once (codes "1.1") (and_two (is_word_of_via_bytes name) (name_is_word name is))

pub each_pass_is_named : EachForwardAddsOneVia
unfolding forwarded_of
each_pass_is_named keeps asked name conditions is =
    let front = line (codes "Host") (host_text asked.target.key) ∷ (forwarded_client_lines (keeps || is_some conditions) asked.fields ++ condition_lines conditions) in (
      front,
      refl,
      times_together name front (line (codes "Via") (via_text asked.minor name) ∷ [])
          ∙ ap (λ n. times_in_via name front + (0 + n)) (own_via_names_it name is asked.minor),
    )
