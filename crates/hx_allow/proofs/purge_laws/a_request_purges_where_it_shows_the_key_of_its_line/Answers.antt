use Rattle.hx_allow.proofs.Purging.{purged_where_shown, purged_is_shown, denied_unless_shown}
use Rattle.hx_allow.proofs.purge_laws.a_request_purges_where_it_shows_the_key_of_its_line.Goals as goal

pub returns : goal.returns
returns c = record {
  purged = λ table method target fields line key is held shown more. purged_where_shown table method target fields line key is held shown more;
  nothing_else = λ table method target fields line is. purged_is_shown table method target fields line is;
  denied = λ table method target fields line key is held hidden. denied_unless_shown table method target fields line key is held hidden;
}
