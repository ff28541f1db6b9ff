use Rattle.std.proofs.Common.{rules}
use Rattle.proxy_store_file.proofs.TextLaws.{eight_bytes_spell}
use Rattle.proxy_store_file.proofs.texts.number_of.Goals as goal

pub returns-clause-spelled : goal.returns-clause-spelled
returns-clause-spelled c = eight_bytes_spell c.args.bytes.now c.requires (search rules)
