-- Who is sent a stale response beside the exchange that leads, by the definitions and in the RFC's words.
use Rattle.std.proofs.Common.{◌≡◌, ℕ, true, false, cond, Option, None, Some, List, refl, sym, ◌∙◌, ap, subst}
use Rattle.hx_policy.specs.declared.words.Policy.{Policy}
use Rattle.hx_directives.specs.Occurrences.{occurrences_of}
use Rattle.hx_hop.specs.declared.request_view.Asked.{Asked}
use Rattle.hx_store.specs.Stored.{Stored}
use Rattle.hx_store.specs.Serials.{SerialsAreDistinct}
use Rattle.hx_store.specs.Shelf.{serials, find_entry_of_serial}
use Rattle.hx_reuse.specs.Rules.{is_some_and}
use Rattle.hx_reuse.specs.ChosenAndNamed.{ResponseIsChosen, IsLeastReuseRule}
use Rattle.hx_reuse.specs.WhileRevalidating.{may_be_sent_while_revalidating}
use Rattle.hx_reuse.specs.declared.rule.ReuseRule.{ReuseRule}
use Rattle.hx_reuse.proofs.Choice.{chosen_is_held, chosen_is_preferred, preferred_is_the_chosen, found_by_serial}
use Rattle.hx_reuse.proofs.WhileRevalidatingLemmas.{sent_may_be, may_be_sent}
use Rattle.proxy_core.specs.declared.open.awaited.Awaited.TheVariants.{Expired}
use Rattle.proxy_core.specs.declared.open.exchange.Exchange.{Exchange}
use Rattle.proxy_core.specs.Leading.{leader_id_if_awaited}
use Rattle.proxy_core.specs.Awaiting.{RequestMayAwaitAnother, response_awaited_by_request, leader_of_request}
use Rattle.proxy_core.specs.Revalidating.{stale_serial_may_be_sent, serial_sent_while_awaited, serial_sent_while_revalidating}
use Rattle.proxy_core.specs.Outcomes.{is_only_if_cached}
use Rattle.proxy_core.specs.Sending.{MayBeSentWhileLeaderRevalidates}
use Rattle.proxy_core.proofs.Awaits.{awaited_by_words, awaited_in_words}
use Rattle.proxy_core.proofs.Leads.{led_by, first_leads}
use Rattle.proxy_core.proofs.SentBeside.{sent_beside_is}

module _ (policy : Policy) (es : List Stored) (distinct : SerialsAreDistinct (serials es)) (xs : List Exchange) (asked : Asked) (now : ℕ) (rule : ReuseRule) (least : IsLeastReuseRule policy es asked now rule) where
  abbrev sent : Option ℕ
  sent = serial_sent_while_revalidating policy es asked now (response_awaited_by_request policy es asked rule) (leader_of_request policy es xs asked rule)

  pub beside_is : (s : ℕ) → is_only_if_cached asked ≡ false → sent ≡ Some s → MayBeSentWhileLeaderRevalidates policy es xs asked now s
  beside_is s others h =
      let is = sent_beside_is policy es asked now s (response_awaited_by_request policy es asked rule) (leader_of_request policy es xs asked rule) h in
      let awaits : RequestMayAwaitAnother policy es asked now (Expired s) = awaited_in_words policy es asked now distinct rule (Expired s) least is.awaits in
      let over = awaits.leaves.2 in
      let same : over.0 ≡ is.response =
      same_entry over.0 is.response (sym (ap (λ n. find_entry_of_serial n es) (sym over.3) ∙ found_by_serial es distinct over.0 (chosen_is_held es asked over.0 over.1)) ∙ is.found)
      in
      record {
        takes_origin_answer = others;
        awaits = awaits;
        leader = is.one;
        first_leads = led_by policy (Expired s) asked xs is.one (sym (ap (leader_id_if_awaited policy asked xs) is.awaits) ∙ is.leads);
        response = is.response;
        chosen_is = subst (λ (e : Stored). ResponseIsChosen es asked e) same (chosen_is_preferred es asked over.0 over.1);
        serial_is = ap (λ (e : Stored). e.serial) (sym same) ∙ over.3;
        may_be_sent = sent_may_be policy is.response (occurrences_of asked.fields) now is.may;
      }
    where
      same_entry : (a b : Stored) → Some a ≡ Some b → a ≡ b
      same_entry a b h = cc

  pub beside_for : (s : ℕ) → MayBeSentWhileLeaderRevalidates policy es xs asked now s → sent ≡ Some s
  beside_for s may =
      let awaited : response_awaited_by_request policy es asked rule ≡ Some (Expired s) = awaited_by_words policy es asked now distinct rule (Expired s) least may.awaits in
      let leads : leader_of_request policy es xs asked rule ≡ Some may.leader = ap (leader_id_if_awaited policy asked xs) awaited ∙ first_leads policy (Expired s) asked xs may.leader may.first_leads in
      let found : find_entry_of_serial s es ≡ Some may.response =
      ap (λ n. find_entry_of_serial n es) (sym may.serial_is) ∙ found_by_serial es distinct may.response (chosen_is_held es asked may.response (preferred_is_the_chosen es asked may.response distinct may.chosen_is))
      in
      let sends : stale_serial_may_be_sent policy es asked now s ≡ true =
      ap (is_some_and (λ (e : Stored). may_be_sent_while_revalidating policy e (occurrences_of asked.fields) now)) found ∙ may_be_sent policy may.response (occurrences_of asked.fields) now may.may_be_sent
      in
      ap (serial_sent_while_revalidating policy es asked now (response_awaited_by_request policy es asked rule)) leads
      ∙ ap (serial_sent_while_awaited policy es asked now) awaited
      ∙ ap (λ b. cond b (Some s) None) sends

  pub nothing_beside : ((s : ℕ) → MayBeSentWhileLeaderRevalidates policy es xs asked now s → ⊥) → is_only_if_cached asked ≡ false → sent ≡ None
  nothing_beside never others = by_value sent refl
    where
      by_value : (o : Option ℕ) → sent ≡ o → o ≡ None
      by_value None h = refl
      by_value (Some s) h = absurd (never s (beside_is s others h))
