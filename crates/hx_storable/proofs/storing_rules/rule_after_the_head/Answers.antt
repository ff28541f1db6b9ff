use Rattle.std.proofs.Common.{◌∙◌, refl, sym}
use Rattle.hx_storable.specs.Rules.{storing_rule_applies, storing_rules_on_facts_alone, storage_rules_from_policy}
use Rattle.hx_storable.proofs.Joined.{find_front, find_rest}
use Rattle.hx_storable.proofs.storing_rules.rule_after_the_head.Goals as goal

pub returns-in-Some : goal.returns-in-Some
returns-in-Some c =
    sym (find_front (λ r. storing_rule_applies r c.args.asked.now c.args.answered.now c.args.facts) storing_rules_on_facts_alone storage_rules_from_policy c.in-Some.rule
    (sym (c.rule_on_facts.ensures c.args.asked.now c.args.answered.now) ∙ c.in-Some.is))

pub returns-in-None : goal.returns-in-None
returns-in-None c =
    c.rule_of_words.ensures c.args.facts refl
    ∙ sym (find_rest (λ r. storing_rule_applies r c.args.asked.now c.args.answered.now c.args.facts) storing_rules_on_facts_alone storage_rules_from_policy
    (sym (c.rule_on_facts.ensures c.args.asked.now c.args.answered.now) ∙ c.in-None.is))
