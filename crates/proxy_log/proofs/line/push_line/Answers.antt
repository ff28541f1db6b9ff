use Rattle.std.proofs.Common.{◌≡◌, ◌<◌, ◌+◌, ℕ, List, ◌++◌, length, subst, vec_capacity, OnErr, OnOk}
use Rattle.proxy_log.specs.Line.{words_of_log_line}
use Rattle.proxy_log.proofs.LineParts.{line_is}
use Rattle.proxy_log.proofs.line.push_line.Goals as goal

pub returns-clause-ok : goal.returns-clause-ok
returns-clause-ok c =
    subst (λ (text : List ℕ). OnOk c.push_parts.result (c.push_parts.new.text.items ≡ c.args.text.now.items ++ text)) (line_is (words_of_log_line c.args.line.now)) c.push_parts.ensures.ok

pub returns-clause-full : goal.returns-clause-full
returns-clause-full c =
    subst (λ (text : List ℕ). OnErr c.push_parts.result (vec_capacity c.args.text.now < length c.args.text.now.items + length text)) (line_is (words_of_log_line c.args.line.now)) c.push_parts.ensures.full
