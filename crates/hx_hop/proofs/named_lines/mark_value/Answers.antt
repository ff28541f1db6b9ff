use Rattle.std.proofs.Common.{rules, ◌≡◌, [], ◌∷◌, false}
use Rattle.hx_fields.specs.FirstBytes.{members_with_first_byte_in}
use Rattle.hx_fields.specs.NameBuckets.{falls_in_marked_bucket}
use Rattle.hx_fields.specs.Names.{members_of_value}
use Rattle.hx_hop.specs.NamedLines.{value_lists_folded_name}
use Rattle.hx_hop.proofs.NamedLemmas.{one_marks}
use Rattle.hx_hop.proofs.Passed.{fallen_passes, next_marks, none_marks}
use Rattle.hx_hop.proofs.named_lines.mark_value.Goals as goal

pub loop-member-preserved-in_ok-mark_member : goal.loop-member-preserved-in_ok-mark_member
loop-member-preserved-in_ok-mark_member c =
    let signs = c.loop-member.signs in
    let old = c.loop-member.names in
    let start = c.args.names.now in
    let all = value_lists_folded_name c.args.value.now in
    let member = c.in-Some.member.now in
    let behind = c.in-Some.behind.now in
    let is : members_with_first_byte_in signs.firsts.taken c.loop-member.rest.now ≡ member ∷ members_with_first_byte_in signs.firsts.taken behind = search rules in
    record {
      marks = one_marks member (members_of_value behind) all start old c.mark_member.new.names c.in_ok-mark_member.ensures.marked
          (next_marks signs old start all c.loop-member.invariant.show c.loop-member.rest.now member behind is c.loop-member.invariant.marks);
      show = c.in_ok-mark_member.ensures.signs;
    }

pub loop-member-preserved : goal.loop-member-preserved
loop-member-preserved c =
    let signs = c.loop-member.signs in
    let old = c.loop-member.names in
    let start = c.args.names.now in
    let all = value_lists_folded_name c.args.value.now in
    let member = c.in-Some.member.now in
    let behind = c.in-Some.behind.now in
    let is : members_with_first_byte_in signs.firsts.taken c.loop-member.rest.now ≡ member ∷ members_with_first_byte_in signs.firsts.taken behind = search rules in
    let fallen : falls_in_marked_bucket signs.buckets.taken member ≡ false = search rules in
    record {
      marks = fallen_passes signs old start all c.loop-member.invariant.show member behind fallen
          (next_marks signs old start all c.loop-member.invariant.show c.loop-member.rest.now member behind is c.loop-member.invariant.marks);
      show = c.loop-member.invariant.show;
    }

pub returns-clause-marked : goal.returns-clause-marked
returns-clause-marked c =
    let signs = c.loop-member.signs in
    let none : members_with_first_byte_in signs.firsts.taken c.loop-member.rest.now ≡ [] = search rules in
    none_marks signs c.loop-member.names c.args.names.now (value_lists_folded_name c.args.value.now) c.loop-member.invariant.show c.loop-member.rest.now none c.loop-member.invariant.marks
