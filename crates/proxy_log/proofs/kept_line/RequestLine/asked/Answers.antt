use Rattle.std.proofs.Common.{◌≡◌, [], sym, ap, ◌∙◌}
use Rattle.std.proofs.lemmas.List.{append-nil}
use Rattle.proxy_log.specs.Asked.{first_line, parsed_request_line, asked_words_of_head, words_of_request_line}
use Rattle.std.specs.Option.{option_and_then}
use Rattle.proxy_log.proofs.kept_line.RequestLine.asked.Goals as goal

pub returns-clause-kept : goal.returns-clause-kept
returns-clause-kept c head kept =
    let line = c.args.self.now.text.items in
    let same : first_line line ≡ first_line head = ap first_line (sym (append-nil line)) ∙ sym (kept.same []) ∙ ap first_line (append-nil head) in
    c.of_head.ensures ∙ ap asked_words_of_head (c.as_slice.ensures.value) ∙ ap (λ l. words_of_request_line (option_and_then parsed_request_line l)) same
