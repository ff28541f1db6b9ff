use Rattle.std.proofs.Common.{◌≡◌, ◌<◌, ◌+◌, ℕ, List, ◌++◌, length, subst, vec_capacity, OnErr, OnOk}
use Rattle.proxy_log.proofs.LineBytes.{uri_shown}
use Rattle.proxy_log.proofs.line.push_uri.Goals as goal

pub returns-clause-ok : goal.returns-clause-ok
returns-clause-ok c =
    subst (λ (text : List ℕ). OnOk c.push_uri_parts.result (c.push_uri_parts.new.text.items ≡ c.args.text.now.items ++ text)) (uri_shown c.args.key.now c.port_is_shown.ensures) c.push_uri_parts.ensures.ok

pub returns-clause-full : goal.returns-clause-full
returns-clause-full c =
    subst (λ (text : List ℕ). OnErr c.push_uri_parts.result (vec_capacity c.args.text.now < length c.args.text.now.items + length text)) (uri_shown c.args.key.now c.port_is_shown.ensures) c.push_uri_parts.ensures.full
