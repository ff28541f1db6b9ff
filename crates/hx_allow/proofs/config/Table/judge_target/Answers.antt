use Rattle.std.proofs.Common.{◌≡◌, List, true, false, ap, sym, ◌∙◌, subst}
use Rattle.hx_allow.specs.TableLines.{Line, Table}
use Rattle.hx_allow.specs.Matching.{VerdictNamesAnOrigin, method_is_never_allowed}
use Rattle.hx_allow.specs.Index.{line_can_match_host, verdict_of_lines_that_pass}
use Rattle.hx_allow.proofs.HostIndices.{decides, none_of_never, names_an_origin}
use Rattle.hx_allow.proofs.config.Table.judge_target.Goals as goal

pub returns-then-method_is_never_allowed-clause-verdict : goal.returns-then-method_is_never_allowed-clause-verdict
returns-then-method_is_never_allowed-clause-verdict c =
    let method_is : c.as_bytes-method.result.now ≡ c.args.method.now = c.as_bytes-method.ensures.value ∙ c.as_str.ensures.value in
    let never : method_is_never_allowed c.args.method.now ≡ true = sym (ap method_is_never_allowed method_is) ∙ sym c.method_is_never_allowed.ensures ∙ c.if-method_is_never_allowed.true in
    sym (none_of_never c.args.self.now.lines c.args.method.now c.args.target.now never)

pub returns-clause-verdict : goal.returns-clause-verdict
returns-clause-verdict c =
    let method_is : c.as_bytes-method.result.now ≡ c.args.method.now = c.as_bytes-method.ensures.value ∙ c.as_str.ensures.value in
    let allowed : method_is_never_allowed c.args.method.now ≡ false = sym (ap method_is_never_allowed method_is) ∙ sym c.method_is_never_allowed.ensures ∙ c.if-method_is_never_allowed.false in
    let lines_are : c.deref.result.now ≡ c.args.self.now.lines = c.deref.ensures.value ∙ ap (λ (t : Table). t.lines) c.self.view_is in
    decides c.args.self.now.lines c.deref.result.now c.as_bytes-method.result.now c.as_slice-path.result.now c.as_slice-host.result.now c.args.method.now c.args.target.now
    c.verdict_by_host_index.result lines_are c.as_slice-host.ensures c.as_slice-path.ensures method_is allowed c.verdict_by_host_index.ensures

pub returns-clause-allowing : goal.returns-clause-allowing
returns-clause-allowing c =
    let lines_are : c.deref.result.now ≡ c.args.self.now.lines = c.deref.ensures.value ∙ ap (λ (t : Table). t.lines) c.self.view_is in
    let host = c.as_slice-host.result.now in
    let is = c.verdict_by_host_index.ensures ∙ ap (λ (lines : List Line). verdict_of_lines_that_pass 1 (line_can_match_host host) lines c.as_bytes-method.result.now c.as_slice-path.result.now) lines_are in
    subst (VerdictNamesAnOrigin c.args.self.now.lines) (sym is) (names_an_origin c.args.self.now.lines (line_can_match_host host) c.as_bytes-method.result.now c.as_slice-path.result.now)
