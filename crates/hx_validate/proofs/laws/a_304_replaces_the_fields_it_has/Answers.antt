use Rattle.hx_validate.proofs.Replaced.{leaves_its_own, leaves_other_names, replaces_its_names}
use Rattle.hx_validate.proofs.laws.a_304_replaces_the_fields_it_has.Goals as goal

pub returns : goal.returns
returns c = record { replaced = replaces_its_names; others = leaves_other_names; own = leaves_its_own }
