use Rattle.std.proofs.Common.{◌≡◌, [], ◌∷◌, zero, suc, arith, refl, true}
use Rattle.std.specs.Prelude.{codes}
use Rattle.std.specs.List.{list_all}
use Rattle.std.specs.Str.{IsAscii}
use Rattle.std.proofs.lemmas.Str.{IsUtf8-from_ascii}
use Rattle.std.proofs.lemmas.List.Elements.{All-nil, All-cons}
use Rattle.http_header.proofs.TokenLemmas.{AllPass-from_test}
use Rattle.httparse.specs.Grammar.{is_token_byte, is_uri_byte, is_value_byte, trim_ows}
use Rattle.hx_fields.specs.Line.{Field}
use Rattle.hx_framing.specs.Examples.{line}
use Rattle.hx_framing.specs.Written.{FieldIsWritable}
use Rattle.hx_framing.proofs.laws.writing_laws.worked_request_is_writable.Goals as goal

abbrev host : Field
host = line (codes "Host") (codes "h")

abbrev via : Field
via = line (codes "Via") (codes "1.1 edge")

get_token : list_all is_token_byte (codes "GET") ≡ true
unfolding is_token_byte
get_token = refl

host_token : list_all is_token_byte (codes "Host") ≡ true
unfolding is_token_byte
host_token = refl

via_token : list_all is_token_byte (codes "Via") ≡ true
unfolding is_token_byte
via_token = refl

target_is_ascii : IsAscii (codes "/a")
target_is_ascii zero = omega arith
target_is_ascii (suc zero) = omega arith
target_is_ascii (suc (suc i)) = omega arith

host_line : FieldIsWritable host
unfolding trim_ows
host_line = record {
  name = (omega arith, AllPass-from_test is_token_byte (codes "Host") host_token);
  value = AllPass-from_test is_value_byte (codes "h") refl;
  trimmed = refl;
}

via_line : FieldIsWritable via
unfolding trim_ows
via_line = record {
  name = (omega arith, AllPass-from_test is_token_byte (codes "Via") via_token);
  value = AllPass-from_test is_value_byte (codes "1.1 edge") refl;
  trimmed = refl;
}

pub returns : goal.returns
returns c = record {
  method = (omega arith, AllPass-from_test is_token_byte (codes "GET") get_token);
  target = (omega arith, AllPass-from_test is_uri_byte (codes "/a") refl);
  target_text = IsUtf8-from_ascii (codes "/a") target_is_ascii;
  fields = All-cons FieldIsWritable host (via ∷ []) host_line (All-cons FieldIsWritable via [] via_line (All-nil FieldIsWritable));
  lengths = refl;
  codings = refl;
  expectations = refl;
  few = omega arith;
  short = omega arith;
  content = omega arith;
}
