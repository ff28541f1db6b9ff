use Rattle.hx_storable.proofs.LineLemmas.{plain_asks_the_others}
use Rattle.hx_storable.proofs.laws.default_policy_follows_the_standard_alone.Goals as goal

pub returns-clause-others : goal.returns-clause-others
returns-clause-others c = λ caches asked answered facts. plain_asks_the_others asked answered facts caches
