use Rattle.std.proofs.Common.{◌≡◌, IfOk, ℕ, List, length, take, subst, sym, ap, ◌∙◌}
use Rattle.hx_target.specs.Hosts.{host_part, lowercase}
use Rattle.hx_target.proofs.Unchanged.{host_stays}
use Rattle.hx_target.proofs.origin_form.host_of_line.Goals as goal

pub returns-else-has_uppercase_letter : goal.returns-else-has_uppercase_letter
returns-else-has_uppercase_letter c =
    let host = c.host_part-host.result.now in
    let is : host ≡ host_part c.args.line.now.value =
    subst (λ (v : List ℕ). host ≡ host_part v) c.value.ensures c.host_part-host.ensures.host in
    let front : host ≡ take (length host) c.args.line.now.value =
    subst (λ (v : List ℕ). host ≡ take (length host) v) c.value.ensures c.host_part-host.ensures.front in
    let stays = host_stays host (sym c.has_uppercase_letter.ensures ∙ c.if-has_uppercase_letter.false) in
    subst (λ (text : List ℕ). IfOk c.first_bytes_of_value.result (λ lower. lower ≡ text)) (sym front ∙ sym stays ∙ ap lowercase is) c.first_bytes_of_value.ensures
