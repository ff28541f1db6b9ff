use Rattle.std.proofs.Common.{rules, ◌≡◌, Some}
use Rattle.hx_directives.specs.Arguments.{seconds_of_argument}
use Rattle.hx_directives.specs.Occurrences.{directive_of, member_argument, member_name}
use Rattle.hx_directives.proofs.TokenNames.{spelled}
use Rattle.hx_directives.proofs.occurrences.occurrence_of_member.Goals as goal

pub returns-in_ok-seconds_of_argument-in-Some : goal.returns-in_ok-seconds_of_argument-in-Some
returns-in_ok-seconds_of_argument-in-Some c =
    let member = c.args.member.now in
    let found : directive_of (member_name member) ≡ Some c.in-Some.directive = search rules in
    let told : c.in_ok-seconds_of_argument-in-Some.field-0 ≡ seconds_of_argument (member_argument member) = search rules in
    spelled member c.in-Some.directive c.in_ok-seconds_of_argument-in-Some.field-0 found told
