use Rattle.std.proofs.Common.{◌∙◌, sym, false, None}
use Rattle.proxy_core.specs.declared.open.key_index.ArrivalKeyIndex.{ArrivalKeyIndex}
use Rattle.proxy_core.proofs.KeyIndices.{same, trim-removed, written}
use Rattle.proxy_core.proofs.open.key_index.ArrivalKeyIndex.remove.Goals as goal

pub returns-then-remove_from_index : goal.returns-then-remove_from_index
returns-then-remove_from_index c =
    let key = c.args.key.now in
    let mid = c.remove_from_index.new.self in
    let new : ArrivalKeyIndex = record { alloc = mid.alloc; arrivals = c.remove.new.self } in
    let gone = c.remove.ensures.updates.0 in
    record {
      taken = λ q m. same key mid new (λ n. false) (written key mid new None gone) (λ n. sym (c.if-remove_from_index.ensures.last n)) q m ∙ c.remove_from_index.ensures.taken q m;
      trim = λ o. trim-removed key mid new gone (c.remove_from_index.ensures.trim_beside o);
    }
