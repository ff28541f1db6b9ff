use Rattle.std.proofs.Common.{codes}
use Rattle.proxy_log.specs.Line.{words_of_log_line, logged_word, log_line_front}
use Rattle.proxy_log.specs.Seconds.{seconds_text}
use Rattle.proxy_log.proofs.LineParts.{four_words, on_ok}
use Rattle.proxy_log.proofs.line.push_front.Goals as goal

pub returns-clause-ok : goal.returns-clause-ok
unfolding log_line_front
returns-clause-ok c =
    let line = words_of_log_line c.args.line.now in
    on_ok c.push_target.result
    (λ last. four_words c.args.text.now.items (seconds_text line.moment) (logged_word line.client) (logged_word line.method) (logged_word line.target) (codes " ")
    c.push_time.new.text.items c.push_word.new.text.items c.push_word-2.new.text.items c.push_target.new.text.items
    c.in_ok-push_time.ensures.ok c.in_ok-push_word.ensures.ok c.in_ok-push_word-2.ensures.ok last)
    c.push_target.ensures.ok
