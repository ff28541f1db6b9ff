use Rattle.std.proofs.Common.{ap, sym, ◌∙◌}
use Rattle.hx_vary.specs.Vary.{vary_matches}
use Rattle.hx_reuse.proofs.PromiseLemmas.{matches_the_kept}
use Rattle.hx_reuse.proofs.laws.no_other_requests_variant_is_sent.Goals as goal

pub returns : goal.returns
returns c = λ policy held asked now response fields earlier sent same.
    sym (c.nominated_values_decide_as_the_request_does.ensures fields earlier asked.fields) ∙ ap (λ kept. vary_matches kept asked.fields) (sym same) ∙ matches_the_kept policy held asked now response sent
