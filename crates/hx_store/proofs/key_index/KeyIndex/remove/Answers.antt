use Rattle.std.proofs.Common.{sym, ◌∙◌, [], None}
use Rattle.hx_store.specs.declared.key_index.KeyIndex.{KeyIndex}
use Rattle.hx_store.proofs.Indices.{trim-removed, unchanged, written}
use Rattle.hx_store.proofs.key_index.KeyIndex.remove.Goals as goal

pub returns-then-take_out : goal.returns-then-take_out
returns-then-take_out c =
    let mid = c.take_out.new.self in
    let new : KeyIndex = record { serials = c.remove.new.self } in
    let gone = c.remove.ensures.updates.0 in
    record {
      taken = λ q. unchanged c.args.key.now mid new [] (written c.args.key.now mid new None gone) (sym c.if-take_out.ensures.emptied) q
          ∙ c.take_out.ensures.taken q;
      trim = λ o. trim-removed c.args.key.now mid new gone (c.take_out.ensures.trim_beside o);
    }
