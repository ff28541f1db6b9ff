use Rattle.proxy_core_laws.proofs.RemovedCookies.{asker_gets_them, leaves_no_cookie, sends_no_cookie}
use Rattle.proxy_core_laws.proofs.cookie_laws.a_cookie_is_sent_only_to_its_requester.Goals as goal

pub returns : goal.returns
returns c = record { sent = sends_no_cookie; left = leaves_no_cookie; asker = asker_gets_them }
