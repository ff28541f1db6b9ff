use Rattle.hx_status.proofs.TextLemmas.{frame_words_differ, target_words_differ, kind_words_differ}
use Rattle.hx_status.proofs.laws.words_tell_faults_apart.Goals as goal

pub returns : goal.returns
returns c = record {
  frame = λ x y h. frame_words_differ x y h;
  target = λ x y h. target_words_differ x y h;
  kind = λ x y h. kind_words_differ x y h;
}
