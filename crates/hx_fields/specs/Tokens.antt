-- Tokens (RFC 9110, section 5.6.2).
use Rattle.std.specs.Prelude.{ℕ, ◌==◌, Bool, ◌&&◌, ◌||◌, List, codes}
use Rattle.std.specs.List.{list_all, list_any}
use Rattle.std.specs.Char.{is_ascii_alphanumeric}
use Rattle.hx_fields.specs.Names.{is_nonempty}

-- tchar = "!" / "#" / "$" / "%" / "&" / "'" / "*" / "+" / "-" / "." / "^" / "_" / "`" / "|" / "~" / DIGIT / ALPHA
abbrev pub is_token_byte : ℕ → Bool
is_token_byte b = is_ascii_alphanumeric b || list_any (λ t. t == b) (codes "!#$%&'*+-.^_`|~")

-- token = 1*tchar
abbrev pub is_token : List ℕ → Bool
is_token text = is_nonempty text && list_all is_token_byte text
