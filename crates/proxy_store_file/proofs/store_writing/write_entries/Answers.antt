use Rattle.std.proofs.Common.{◌≡◌, ◌+◌, ◌<◌, ◌^◌, length, sym, ◌∙◌, None, Some, arith}
use Rattle.hx_store.specs.Weights.{entry_evicted_by_weight}
use Rattle.proxy_store_file.proofs.Written.{nothing_written, took_none, one_went, one_more_written, one_not_written, rest_is_left, all_written, all_told, none_left, rest_is_all}
use Rattle.proxy_store_file.proofs.store_writing.write_entries.Goals as goal

pub loop-entry-init : goal.loop-entry-init
loop-entry-init g c = record {
  written = nothing_written c.args.next (g.S.Shelf.entries c.args.shelf.now) (g.W.Write.contents c.args.writer.now) c.args.hasher.now (took_none (g.W.Write.contents c.args.writer.now) c.args.hasher.now);
  fits = omega (arith, c.len-entries.ensures.value);
}

pub returns-in-Err-clause-err : goal.returns-in-Err-clause-err
returns-in-Err-clause-err g c =
    let es = g.S.Shelf.entries c.loop-entry.shelf in
    let evict_last_beyond_weight : entry_evicted_by_weight 0 es ≡ Some c.in-Some.entry = sym c.in-Some.ensures.value in
    one_not_written c.args.next c.loop-entry.number (g.S.Shelf.entries c.args.shelf.now) es (g.S.Shelf.entries c.evict_last_beyond_weight.new.self) c.in-Some.entry _ _ _ _ _ c.in-Err.fault c.loop-entry.invariant.written
    evict_last_beyond_weight c.evict_last_beyond_weight.ensures.entries c.in-Err.ensures.err

pub returns-in-Err-clause-left : goal.returns-in-Err-clause-left
returns-in-Err-clause-left g c =
    let es = g.S.Shelf.entries c.loop-entry.shelf in
    let evict_last_beyond_weight : entry_evicted_by_weight 0 es ≡ Some c.in-Some.entry = sym c.in-Some.ensures.value in
    rest_is_left c.args.next c.loop-entry.number (g.S.Shelf.entries c.args.shelf.now) es (g.S.Shelf.entries c.evict_last_beyond_weight.new.self) c.in-Some.entry _ _ _ _ c.loop-entry.invariant.written evict_last_beyond_weight c.evict_last_beyond_weight.ensures.entries

pub loop-entry-preserved : goal.loop-entry-preserved
loop-entry-preserved g c =
    let es = g.S.Shelf.entries c.loop-entry.shelf in
    let evict_last_beyond_weight : entry_evicted_by_weight 0 es ≡ Some c.in-Some.entry = sym c.in-Some.ensures.value in
    record {
      written = one_more_written c.args.next c.loop-entry.number (g.S.Shelf.entries c.args.shelf.now) es (g.S.Shelf.entries c.evict_last_beyond_weight.new.self) c.in-Some.entry _ _ _ _ _ _ c.loop-entry.invariant.written
          evict_last_beyond_weight c.evict_last_beyond_weight.ensures.entries c.in-Ok.ensures.ok c.in-Ok.ensures.told;
      fits = omega (arith, one_went es (g.S.Shelf.entries c.evict_last_beyond_weight.new.self) c.in-Some.entry evict_last_beyond_weight c.evict_last_beyond_weight.ensures.entries, c.loop-entry.invariant.fits);
    }

pub returns-clause-ok : goal.returns-clause-ok
returns-clause-ok g c =
    let es = g.S.Shelf.entries c.loop-entry.shelf in
    let none : entry_evicted_by_weight 0 es ≡ None = sym c.evict_last_beyond_weight.ensures.value ∙ c.in_default.is in
    all_written c.args.next c.loop-entry.number (g.S.Shelf.entries c.args.shelf.now) es _ _ _ _ c.loop-entry.invariant.written none

pub returns-clause-told : goal.returns-clause-told
returns-clause-told g c =
    let es = g.S.Shelf.entries c.loop-entry.shelf in
    let none : entry_evicted_by_weight 0 es ≡ None = sym c.evict_last_beyond_weight.ensures.value ∙ c.in_default.is in
    all_told c.args.next c.loop-entry.number (g.S.Shelf.entries c.args.shelf.now) es _ _ _ _ c.loop-entry.invariant.written none

pub returns-clause-emptied : goal.returns-clause-emptied
returns-clause-emptied g c =
    let es = g.S.Shelf.entries c.loop-entry.shelf in
    let none : entry_evicted_by_weight 0 es ≡ None = sym c.evict_last_beyond_weight.ensures.value ∙ c.in_default.is in
    none_left es (g.S.Shelf.entries c.evict_last_beyond_weight.new.self) none c.evict_last_beyond_weight.ensures.entries

pub returns-clause-left : goal.returns-clause-left
returns-clause-left g c =
    let es = g.S.Shelf.entries c.loop-entry.shelf in
    let none : entry_evicted_by_weight 0 es ≡ None = sym c.evict_last_beyond_weight.ensures.value ∙ c.in_default.is in
    rest_is_all c.args.next c.loop-entry.number (g.S.Shelf.entries c.args.shelf.now) es (g.S.Shelf.entries c.evict_last_beyond_weight.new.self) _ _ _ _ c.loop-entry.invariant.written none c.evict_last_beyond_weight.ensures.entries
