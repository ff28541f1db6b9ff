use Rattle.std.proofs.Common.{◌≡◌, length, ap, refl, subst, ◌∙◌}
use Rattle.proxy_store_file.specs.Stores.{opening_spelling}
use Rattle.proxy_store_file.specs.Writing.{WriterTookBytes, WriterTookAFront}
use Rattle.proxy_store_file.proofs.Written.{opening_ended, entries_ended, whole_written, digest_ended}
use Rattle.proxy_store_file.proofs.store_writing.write_and_empty_store.Goals as goal

pub returns-in-Err-put_and_hash-clause-err : goal.returns-in-Err-put_and_hash-clause-err
returns-in-Err-put_and_hash-clause-err g c =
    let es = g.S.Shelf.entries c.args.shelf.now in
    let text : c.as_slice.result.now ≡ opening_spelling c.args.next (length es) = c.as_slice.ensures.value ∙ (c.in-Ok.ensures ∙ ap (opening_spelling c.args.next) c.len.ensures.value) in
    opening_ended c.args.next es _ _ _ (subst (WriterTookAFront (g.W.Write.contents c.args.writer.now) (g.W.Write.contents c.put_and_hash.new.writer)) text c.in-Err-put_and_hash.ensures.err)

pub returns-in-Err-write_entries-clause-err : goal.returns-in-Err-write_entries-clause-err
returns-in-Err-write_entries-clause-err g c =
    let es = g.S.Shelf.entries c.args.shelf.now in
    let text : c.as_slice.result.now ≡ opening_spelling c.args.next (length es) = c.as_slice.ensures.value ∙ (c.in-Ok.ensures ∙ ap (opening_spelling c.args.next) c.len.ensures.value) in
    entries_ended c.args.next es _ _ _ _ _ _ c.in-Err-write_entries.fault
    (subst (WriterTookBytes (g.W.Write.contents c.args.writer.now) (g.W.Write.contents c.put_and_hash.new.writer) c.new-hasher.result c.put_and_hash.new.hasher) text c.in-Ok-put_and_hash.ensures.ok) c.in-Err-write_entries.ensures.err

pub returns-in-Ok-put-clause-ok : goal.returns-in-Ok-put-clause-ok
returns-in-Ok-put-clause-ok g c =
    let es = g.S.Shelf.entries c.args.shelf.now in
    let text : c.as_slice.result.now ≡ opening_spelling c.args.next (length es) = c.as_slice.ensures.value ∙ (c.in-Ok.ensures ∙ ap (opening_spelling c.args.next) c.len.ensures.value) in
    whole_written c.args.next es _ _ _ _ _ _ _ c.finish.result c.number_text.result
    (subst (WriterTookBytes (g.W.Write.contents c.args.writer.now) (g.W.Write.contents c.put_and_hash.new.writer) c.new-hasher.result c.put_and_hash.new.hasher) text c.in-Ok-put_and_hash.ensures.ok) c.in-Ok-write_entries.ensures.ok
    c.new-hasher.ensures c.finish.ensures c.number_text.ensures c.in-Ok-put.ensures.ok

pub returns-clause-err : goal.returns-clause-err
returns-clause-err g c =
    let es = g.S.Shelf.entries c.args.shelf.now in
    let text : c.as_slice.result.now ≡ opening_spelling c.args.next (length es) = c.as_slice.ensures.value ∙ (c.in-Ok.ensures ∙ ap (opening_spelling c.args.next) c.len.ensures.value) in
    digest_ended c.args.next es _ _ _ _ _ _ _ c.finish.result c.number_text.result _
    (subst (WriterTookBytes (g.W.Write.contents c.args.writer.now) (g.W.Write.contents c.put_and_hash.new.writer) c.new-hasher.result c.put_and_hash.new.hasher) text c.in-Ok-put_and_hash.ensures.ok) c.in-Ok-write_entries.ensures.ok
    c.new-hasher.ensures c.finish.ensures c.number_text.ensures c.in-Err-put.ensures.err
