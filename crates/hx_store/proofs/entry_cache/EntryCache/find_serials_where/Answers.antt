use Rattle.std.proofs.Common.{ap, ◌∙◌}
use Rattle.hx_store.specs.Serials.{ascending}
use Rattle.hx_store.proofs.PassingEntries.{ascending_passing}
use Rattle.hx_store.proofs.entry_cache.EntryCache.find_serials_where.Goals as goal

pub returns : goal.returns
returns g c = c.sort.ensures ∙ ap ascending c.in_ok-found.ensures ∙ ascending_passing (g.T.EntryTest.takes c.args.test.now) c.args.self.now
