use Rattle.proxy_store_file.proofs.AgainLaws.{told_stores_are_read}
use Rattle.proxy_store_file.proofs.laws.written_stores_are_read_as_they_were.Goals as goal

pub returns : goal.returns
returns c = told_stores_are_read
