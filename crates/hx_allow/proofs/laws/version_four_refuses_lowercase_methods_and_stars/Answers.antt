use Rattle.hx_allow.proofs.Versions.{spelled_for_four, small_method_is_told, star_is_told}
use Rattle.hx_allow.proofs.laws.version_four_refuses_lowercase_methods_and_stars.Goals as goal

pub returns-clause-refused : goal.returns-clause-refused
returns-clause-refused c = spelled_for_four

pub returns-clause-method : goal.returns-clause-method
returns-clause-method c = small_method_is_told

pub returns-clause-star : goal.returns-clause-star
returns-clause-star c = star_is_told
