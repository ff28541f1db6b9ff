use Rattle.hx_allow.proofs.Sessions.{by_its_cookies, over_the_same_line, as_before}
use Rattle.hx_allow.proofs.cookie_laws.a_request_goes_past_the_store_by_its_cookies.Goals as goal

pub returns : goal.returns
returns c = record {
  exactly = λ table method target fields route is. by_its_cookies table method target fields route is;
  line = λ table method target fields route is. over_the_same_line table method target fields route is;
  without = λ table method target fields route none is. as_before table method target fields route none is;
}
