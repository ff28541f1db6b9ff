use Rattle.std.proofs.Common.{length, subst, ◌∙◌}
use Rattle.proxy_store_file.specs.Texts.{number_spelling}
use Rattle.proxy_store_file.specs.Writing.{WriterTookBytes, WriterTookAFront}
use Rattle.proxy_store_file.proofs.Written.{took_more, front_before, front_behind_all, on_ok, on_err}
use Rattle.proxy_store_file.proofs.pieces_written.put_text.Goals as goal

pub returns-in-Ok-clause-ok : goal.returns-in-Ok-clause-ok
returns-in-Ok-clause-ok g c =
    let text = c.args.text.now in
    let number = subst (WriterTookBytes (g.W.Write.contents c.args.writer.now) (g.W.Write.contents c.put_and_hash.new.writer) c.args.hasher.now c.put_and_hash.new.hasher) c.number_text.ensures c.in-Ok.ensures.ok in
    on_ok c.put_and_hash-in-Ok.result _ _ (λ took. took_more _ _ _ _ _ _ (number_spelling (length text)) text number took) c.put_and_hash-in-Ok.ensures.ok

pub returns-in-Ok-clause-err : goal.returns-in-Ok-clause-err
returns-in-Ok-clause-err g c =
    let text = c.args.text.now in
    let number = subst (WriterTookBytes (g.W.Write.contents c.args.writer.now) (g.W.Write.contents c.put_and_hash.new.writer) c.args.hasher.now c.put_and_hash.new.hasher) c.number_text.ensures c.in-Ok.ensures.ok in
    on_err c.put_and_hash-in-Ok.result _ _ (λ took. front_behind_all _ _ _ (number_spelling (length text)) text number.appends took) c.put_and_hash-in-Ok.ensures.err

pub returns-in-Err-clause-err : goal.returns-in-Err-clause-err
returns-in-Err-clause-err g c =
    let text = c.args.text.now in
    front_before _ _ (number_spelling (length text)) text
    (subst (WriterTookAFront (g.W.Write.contents c.args.writer.now) (g.W.Write.contents c.put_and_hash.new.writer)) c.number_text.ensures c.in-Err.ensures.err)
