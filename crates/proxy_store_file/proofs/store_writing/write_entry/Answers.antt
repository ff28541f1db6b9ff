use Rattle.std.proofs.Common.{◌≡◌, ap, sym, subst, ◌∙◌, rules}
use Rattle.hx_store.specs.Stored.{Stored}
use Rattle.proxy_store_file.specs.Heads.{head_spelling, head_of_entry}
use Rattle.proxy_store_file.specs.Texts.{text_spelling}
use Rattle.proxy_store_file.specs.Writing.{WriterTookBytes, WriterTookAFront}
use Rattle.proxy_store_file.proofs.Written.{took_more, front_behind_all}
use Rattle.proxy_store_file.proofs.store_writing.write_entry.Goals as goal

pub returns-in-Ok-put_and_hash-clause-ok : goal.returns-in-Ok-put_and_hash-clause-ok
returns-in-Ok-put_and_hash-clause-ok g c =
    let head : c.as_slice-2.result.now ≡ head_spelling (head_of_entry c.args.entry.now) = c.as_slice-2.ensures.value ∙ c.in-Ok.ensures in
    let content : c.as_slice-3.result.now ≡ c.args.entry.now.content = first_of (cc, search rules) in
    took_more _ _ _ _ _ _ (text_spelling (head_spelling (head_of_entry c.args.entry.now))) c.args.entry.now.content
    (subst (λ text. WriterTookBytes (g.W.Write.contents c.args.writer.now) (g.W.Write.contents c.put_text.new.writer) c.args.hasher.now c.put_text.new.hasher (text_spelling text)) head c.in-Ok-put_text.ensures.ok)
    (subst (WriterTookBytes (g.W.Write.contents c.put_text.new.writer) (g.W.Write.contents c.put_and_hash.new.writer) c.put_text.new.hasher c.put_and_hash.new.hasher) content c.in-Ok-put_and_hash.ensures.ok)

pub returns-clause-err : goal.returns-clause-err
returns-clause-err g c =
    let head : c.as_slice-2.result.now ≡ head_spelling (head_of_entry c.args.entry.now) = c.as_slice-2.ensures.value ∙ c.in-Ok.ensures in
    let content : c.as_slice-3.result.now ≡ c.args.entry.now.content = first_of (cc, search rules) in
    let text = subst (λ text. WriterTookBytes (g.W.Write.contents c.args.writer.now) (g.W.Write.contents c.put_text.new.writer) c.args.hasher.now c.put_text.new.hasher (text_spelling text)) head c.in-Ok-put_text.ensures.ok in
    record {
      took = front_behind_all _ _ _ (text_spelling (head_spelling (head_of_entry c.args.entry.now))) c.args.entry.now.content text.appends
          (subst (WriterTookAFront (g.W.Write.contents c.put_text.new.writer) (g.W.Write.contents c.put_and_hash.new.writer)) content c.in-Err-put_and_hash.ensures.err);
      why = tt;
    }
