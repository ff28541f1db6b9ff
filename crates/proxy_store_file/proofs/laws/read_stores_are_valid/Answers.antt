use Rattle.proxy_store_file.proofs.SoundLaws.{read_stores_stand}
use Rattle.proxy_store_file.proofs.laws.read_stores_are_valid.Goals as goal

pub returns : goal.returns
returns c = read_stores_stand
