use Rattle.std.proofs.Common.{rules, ◌≡◌, true, false, ap, ◌∙◌, arith}
use Rattle.std.specs.List.{list_any}
use Rattle.std.proofs.lemmas.Bool.Decides.{nat_tests}
use Rattle.hx_vary.specs.Vary.{exceeds_most_vary_names, is_star_member, vary_names}
use Rattle.hx_vary.proofs.FewNames.{by_the_first, compared, first_names, told_many, told_names, told_star}
use Rattle.hx_vary.proofs.nominations.compared_vary_names.Goals as goal
use Rattle.hx_vary.proofs.nominations.compared_vary_names.Goals.{then-len-gt-MOST_VARY_NAMES-via-then-len-gt-MOST_VARY_NAMES, then-len-gt-MOST_VARY_NAMES-via-else-len-gt-MOST_VARY_NAMES+then-has_star}

pub returns-then-len-gt-MOST_VARY_NAMES : goal.returns-then-len-gt-MOST_VARY_NAMES
returns-then-len-gt-MOST_VARY_NAMES c =
    let names = c.in_ok-names.names in
    let first : names ≡ first_names (vary_names c.args.response.now) = c.in_ok-names.ensures in
    elim c.then-len-gt-MOST_VARY_NAMES.branch [
      | then-len-gt-MOST_VARY_NAMES-via-then-len-gt-MOST_VARY_NAMES w ↦ (
          let many : exceeds_most_vary_names names ≡ true = grind (arith, nat_tests) in
          told_many names many ∙ ap compared first ∙ by_the_first (vary_names c.args.response.now)
          )
      | then-len-gt-MOST_VARY_NAMES-via-else-len-gt-MOST_VARY_NAMES+then-has_star w ↦ (
          let few : exceeds_most_vary_names names ≡ false = grind (arith, nat_tests) in
          let star : list_any is_star_member names ≡ true = search rules in
          told_star names few star ∙ ap compared first ∙ by_the_first (vary_names c.args.response.now)
          )
    ]

pub returns : goal.returns
returns c =
    let names = c.in_ok-names.names in
    let first : names ≡ first_names (vary_names c.args.response.now) = c.in_ok-names.ensures in
    let few : exceeds_most_vary_names names ≡ false = grind (arith, nat_tests) in
    let none : list_any is_star_member names ≡ false = search rules in
    told_names names few none ∙ ap compared first ∙ by_the_first (vary_names c.args.response.now)
