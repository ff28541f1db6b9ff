use Rattle.hx_storable.proofs.StorableLemmas.{parts_forbid, other_methods_forbid}
use Rattle.hx_storable.proofs.laws.only_whole_answers_to_get_are_stored.Goals as goal

pub returns : goal.returns
returns c = record {
  part = λ asked answered facts p h. parts_forbid asked answered facts p h;
  method = λ asked answered facts p h. other_methods_forbid asked answered facts p h;
}
