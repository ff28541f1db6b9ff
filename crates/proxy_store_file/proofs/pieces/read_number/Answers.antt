use Rattle.std.proofs.Common.{◌≡◌, true, ap, sym, subst, ◌∙◌, length}
use Rattle.proxy_store_file.specs.Texts.{is_number, number_of}
use Rattle.proxy_store_file.proofs.pieces.read_number.Goals as goal

pub returns-in-Ok-clause-ok : goal.returns-in-Ok-clause-ok
returns-in-Ok-clause-ok g c = record {
  bytes = c.in-Ok.bytes.items;
  gave = c.in-Ok.ensures.ok;
  are_eight = c.in-Ok.ensures.all;
  is_number = subst (λ b. is_number b ≡ true) c.as_slice.ensures.value c.number_of.ensures.spelled;
  number = c.number_of.ensures.value ∙ ap number_of c.as_slice.ensures.value;
}
