use Rattle.std.proofs.Common.{rules, ◌∙◌, ap}
use Rattle.std.specs.BTreeMap.{get}
use Rattle.hx_fields.specs.Folded.{folded_names_cmp}
use Rattle.hx_hop.specs.NamedLines.{is_present_and_marked}
use Rattle.hx_hop.proofs.NamedLemmas.{keeps_stripped, tells_close}
use Rattle.hx_hop.proofs.Passed.{unmarked_show}
use Rattle.hx_hop.proofs.named_lines.strip_with_many_members.Goals as goal

pub mark_members-requires : goal.mark_members-requires
mark_members-requires c =
    unmarked_show c.args.fields.now c.in_ok-names.names c.names_looked_for.new.signs c.in_ok-names.ensures.names c.in_ok-names.ensures.signs

pub returns : goal.returns
returns c =
    let fields = c.args.fields.now in
    let start = c.in_ok-names.names in
    let names = c.mark_members.new.names in
    record {
      lines = c.in_ok-keep_unmarked.ensures ∙ keeps_stripped fields start names c.in_ok-names.ensures.names c.in_ok-mark_members.ensures;
      closes = c.is_present_and_marked-closes.ensures
          ∙ ap (λ q. is_present_and_marked (get folded_names_cmp names q)) (search rules)
          ∙ tells_close fields start names c.in_ok-names.ensures.names c.in_ok-mark_members.ensures;
    }
