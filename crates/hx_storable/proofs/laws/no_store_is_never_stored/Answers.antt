use Rattle.hx_storable.proofs.StorableLemmas.{no_store_forbids, no_store_forbids_unless_understood, requests_no_store_forbids}
use Rattle.hx_storable.proofs.laws.no_store_is_never_stored.Goals as goal

pub returns : goal.returns
returns c = record {
  response = λ asked answered facts p h. no_store_forbids asked answered facts p h;
  not_understood = λ asked answered facts p h. no_store_forbids_unless_understood asked answered facts p h;
  request = λ asked answered facts p h. requests_no_store_forbids asked answered facts p h;
}
