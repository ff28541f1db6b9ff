use Rattle.std.proofs.Common.{refl}
use Rattle.proxy_engine.proofs.Readable.{number_shown}
use Rattle.proxy_engine.proofs.endpoints.numbers.number_of_next_connection.Goals as goal

pub returns : goal.returns
returns c = number_shown c.checked_add.result c.args.count c.args.count refl c.checked_add.ensures
