use Rattle.proxy_log.proofs.LineBytes.{word_is_word}
use Rattle.proxy_log.proofs.laws.a_log_word_has_no_space.Goals as goal

pub returns : goal.returns
returns c = word_is_word
