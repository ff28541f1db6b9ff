use Rattle.proxy_store_file.proofs.StoreLaws.{read_texts_are_spelled}
use Rattle.proxy_store_file.proofs.laws.read_texts_are_spellings.Goals as goal

pub returns : goal.returns
returns c = read_texts_are_spelled
