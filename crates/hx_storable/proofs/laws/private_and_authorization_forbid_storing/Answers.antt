use Rattle.hx_storable.proofs.StorableLemmas.{private_forbids, authorization_forbids}
use Rattle.hx_storable.proofs.laws.private_and_authorization_forbid_storing.Goals as goal

pub returns : goal.returns
returns c = record {
  private = λ asked answered facts p h. private_forbids asked answered facts p h;
  authorized = λ asked answered facts p h. authorization_forbids asked answered facts p h;
}
