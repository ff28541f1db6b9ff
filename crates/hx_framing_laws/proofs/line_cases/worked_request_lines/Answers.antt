use Rattle.std.proofs.Common.{arith, refl}
use Rattle.std.specs.Prelude.{codes}
use Rattle.hx_framing_laws.proofs.WorkedLines.{is_no_request_line, utf8}
use Rattle.hx_framing_laws.proofs.line_cases.worked_request_lines.Goals as goal

pub returns-clause-plain : goal.returns-clause-plain
returns-clause-plain c = record {
  parts = refl;
  method_is = refl;
  target_is = record { some = refl; characters = refl; text = utf8 (codes "/") refl };
  version_is = omega arith;
}

pub returns-clause-two_spaces : goal.returns-clause-two_spaces
returns-clause-two_spaces c = is_no_request_line (codes "GET  / HTTP/1.1") refl

pub returns-clause-space_behind : goal.returns-clause-space_behind
returns-clause-space_behind c = is_no_request_line (codes "GET / HTTP/1.1 ") refl

pub returns-clause-space_in_target : goal.returns-clause-space_in_target
returns-clause-space_in_target c = is_no_request_line (codes "GET /a b HTTP/1.1") refl

pub returns-clause-version_2 : goal.returns-clause-version_2
returns-clause-version_2 c = is_no_request_line (codes "GET / HTTP/2.0") refl

pub returns-clause-version_1_2 : goal.returns-clause-version_1_2
returns-clause-version_1_2 c = is_no_request_line (codes "GET / HTTP/1.2") refl

pub returns-clause-small_letters : goal.returns-clause-small_letters
returns-clause-small_letters c = is_no_request_line (codes "GET / http/1.1") refl

pub returns-clause-no_version : goal.returns-clause-no_version
returns-clause-no_version c = is_no_request_line (codes "GET /") refl

pub returns-clause-no_token : goal.returns-clause-no_token
returns-clause-no_token c = is_no_request_line (codes "G(T / HTTP/1.1") refl
