use Rattle.std.proofs.Common.{◌≡◌, sym, ◌∙◌, ap, true, [], List}
use Rattle.hx_allow.specs.Cookies.{has_cookie_among}
use Rattle.hx_allow.proofs.CookieLines.{without_names, none_are_empty}
use Rattle.hx_allow.proofs.cookies.has_cookie_among.Goals as goal

pub returns-then-is_empty : goal.returns-then-is_empty
returns-then-is_empty c = sym (ap (λ names. has_cookie_among names c.args.fields.now) (none_are_empty c.args.names.now (sym c.is_empty.ensures ∙ c.if-is_empty.true)) ∙ without_names c.args.fields.now)
