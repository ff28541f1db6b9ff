use Rattle.std.proofs.Common.{refl}
use Rattle.hx_validate.specs.Answering.{freshened_of}
use Rattle.hx_validate.proofs.laws.a_304_changes_only_fields_and_times.Goals as goal

pub returns : goal.returns
unfolding freshened_of
returns c = record {
  rest = λ further entry answered asked times. (refl, refl, refl, refl, refl);
  nominated = λ further entry answered asked times h. rw h refl;
  star = λ further entry answered asked times h. rw h refl;
}
