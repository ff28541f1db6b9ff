use Rattle.std.proofs.Common.{rules, ◌≡◌, ℕ, Bool, List, cond, refl, false, true, sym, ◌∙◌, ap}
use Rattle.std.specs.Prelude.{◌==◌, not, length, find, Some, None}
use Rattle.std.specs.List.{filter_map}
use Rattle.std.specs.Option.{option_copied}
use Rattle.hx_hop.specs.declared.request_view.Asked.{Asked}
use Rattle.hx_store.specs.Stored.{Stored}
use Rattle.hx_policy.specs.declared.words.Policy.{Policy}
use Rattle.hx_store.specs.Shelf.{find_entry_of_serial, matching_serials, serials_of_key}
use Rattle.hx_reuse.specs.declared.decision.Decision.TheVariants.{Hit, Forward}
use Rattle.hx_reuse.specs.Chosen.{chosen_of, most_preferred_response}
use Rattle.hx_reuse.specs.declared.rule.ReuseRule.TheVariants.{UriMiss, VaryMiss}
use Rattle.hx_reuse.specs.Rules.{decision_of, request_bypass_rules, reuse_rule_applies}
use Rattle.hx_reuse.proofs.Preferred.{preferred_match_is_chosen}
use Rattle.hx_reuse.proofs.RuleLemmas.{by_none, by_request, by_rule, by_uri, by_vary, chosen_key, key_held, unheld}
use Rattle.hx_reuse.proofs.decision.decide_from_store.Goals as goal

pub returns-in-Some : goal.returns-in-Some
returns-in-Some g c =
    let es = g.S.Shelf.entries c.args.shelf.now in
    by_request c.args.policy c.requires.caches es c.args.asked.now c.args.now c.in-Some.rule (sym (c.in-Some.ensures es c.args.now))

-- by whether the key is held
missed : (policy : Policy) (caches : policy.caches ≡ true) (es : List Stored) (asked : Asked) (now : ℕ) (b : Bool) → (length (serials_of_key asked.target.key es) == 0) ≡ b →
    find (λ r. reuse_rule_applies r policy es asked now) request_bypass_rules ≡ None → chosen_of es asked ≡ None → Forward (cond b UriMiss VaryMiss) None ≡ decision_of policy es asked now
missed policy caches es asked now true h free chosen = by_uri policy caches es asked now free (unheld es asked (ap not h))
missed policy caches es asked now false h free chosen = by_vary policy caches es asked now free (key_held es asked (ap not h)) chosen

pub returns-in_default-preferred_of_serials : goal.returns-in_default-preferred_of_serials
returns-in_default-preferred_of_serials g c =
    let es = g.S.Shelf.entries c.args.shelf.now in
    let asked = c.args.asked.now in
    let free : find (λ r. reuse_rule_applies r c.args.policy es asked c.args.now) request_bypass_rules ≡ None =
    sym (c.least_rule_on_request.ensures es c.args.now) ∙ c.in_default.is in
    let matching : c.as_slice.result.now ≡ matching_serials asked.target.key asked.fields es = search rules in
    let chosen : chosen_of es asked ≡ None =
    sym (preferred_match_is_chosen es asked c.find_matching_serials.ensures.distinct)
    ∙ ap (λ ss. most_preferred_response (filter_map (λ s. find_entry_of_serial s es) ss)) (sym matching)
    ∙ sym c.preferred_of_serials.ensures ∙ ap option_copied c.in_default-preferred_of_serials.is in
    ap (λ r. Forward r None) c.miss_rule.ensures
    ∙ missed c.args.policy c.requires.caches es asked c.args.now _ refl free chosen

pub returns-in-Some-least_rule_on_chosen : goal.returns-in-Some-least_rule_on_chosen
returns-in-Some-least_rule_on_chosen g c =
    let es = g.S.Shelf.entries c.args.shelf.now in
    let asked = c.args.asked.now in
    let free : find (λ r. reuse_rule_applies r c.args.policy es asked c.args.now) request_bypass_rules ≡ None =
    sym (c.least_rule_on_request.ensures es c.args.now) ∙ c.in_default.is in
    let matching : c.as_slice.result.now ≡ matching_serials asked.target.key asked.fields es = search rules in
    let chosen : chosen_of es asked ≡ Some c.in-Some-preferred_of_serials.entry.now =
    sym (preferred_match_is_chosen es asked c.find_matching_serials.ensures.distinct)
    ∙ ap (λ ss. most_preferred_response (filter_map (λ s. find_entry_of_serial s es) ss)) (sym matching)
    ∙ sym c.preferred_of_serials.ensures ∙ ap option_copied c.in-Some-preferred_of_serials.is in
    ap (λ (e : Stored). Forward c.in-Some-least_rule_on_chosen.rule (Some e.serial)) c.entry.view_is
    ∙ by_rule c.args.policy c.requires.caches es asked c.args.now free (chosen_key es asked c.in-Some-preferred_of_serials.entry.now chosen) c.in-Some-preferred_of_serials.entry.now chosen c.in-Some-least_rule_on_chosen.rule (sym c.in-Some-least_rule_on_chosen.ensures)

pub returns : goal.returns
returns g c =
    let es = g.S.Shelf.entries c.args.shelf.now in
    let asked = c.args.asked.now in
    let free : find (λ r. reuse_rule_applies r c.args.policy es asked c.args.now) request_bypass_rules ≡ None =
    sym (c.least_rule_on_request.ensures es c.args.now) ∙ c.in_default.is in
    let matching : c.as_slice.result.now ≡ matching_serials asked.target.key asked.fields es = search rules in
    let chosen : chosen_of es asked ≡ Some c.in-Some-preferred_of_serials.entry.now =
    sym (preferred_match_is_chosen es asked c.find_matching_serials.ensures.distinct)
    ∙ ap (λ ss. most_preferred_response (filter_map (λ s. find_entry_of_serial s es) ss)) (sym matching)
    ∙ sym c.preferred_of_serials.ensures ∙ ap option_copied c.in-Some-preferred_of_serials.is in
    ap (λ (e : Stored). Hit e.serial) c.entry.view_is
    ∙ by_none c.args.policy c.requires.caches es asked c.args.now free (chosen_key es asked c.in-Some-preferred_of_serials.entry.now chosen) c.in-Some-preferred_of_serials.entry.now chosen (sym c.in-None.ensures)
