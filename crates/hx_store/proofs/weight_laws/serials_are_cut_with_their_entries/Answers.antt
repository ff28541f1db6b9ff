use Rattle.hx_store.proofs.EntryWeights.{serials_are_cut, serials_stay}
use Rattle.hx_store.proofs.weight_laws.serials_are_cut_with_their_entries.Goals as goal

pub returns : goal.returns
returns c = record { cut = serials_are_cut; whole = serials_stay }
