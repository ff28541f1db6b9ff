use Rattle.std.proofs.Common.{◌∙◌, ◌^◌, ◌-◌, min, ap}
use Rattle.hx_store.specs.Weights.{total_weight}
use Rattle.hx_store.proofs.CountedWeights.{counted_shows}
use Rattle.hx_store.proofs.indexed_entries.IndexedEntries.weight.Goals as goal

pub returns : goal.returns
returns c =
    let es = c.self.inside.entries in
    c.min.ensures
    ∙ ap (λ n. min n (2 ^ 64 - 1)) c.self.invariant.3
    ∙ counted_shows es
    ∙ ap (λ zs. min (total_weight zs) (2 ^ 64 - 1)) c.self.view_is
