use Rattle.hx_allow.proofs.WordsRead.{each_takes_them}
use Rattle.hx_allow.proofs.laws.caching_keys_need_origin_and_cache.Goals as goal

pub returns : goal.returns
returns c = each_takes_them
