use Rattle.std.proofs.Common.{◌≡◌, ◌≤◌, ◌<◌, ◌^◌, drop, take}
use Rattle.std.specs.Char.{is_ascii_digit}
use Rattle.std.specs.List.{list_all}
use Rattle.std.specs.Str.Parse.{digits_value}
use Rattle.hx_directives.specs.declared.limits.TheConstants.{MOST_SECONDS}
use Rattle.hx_directives.proofs.numbers.capped_number.Given as goal

abbrev pub invariant-loop-b : goal.invariant-loop-b
invariant-loop-b l = record {
  fits : l.number < 2 ^ 36;
  small : l.number < MOST_SECONDS → l.number ≡ digits_value 10 (take l.b-index l.text);
  large : MOST_SECONDS ≤ l.number → MOST_SECONDS ≤ digits_value 10 (take l.b-index l.text);
  digits : list_all is_ascii_digit (drop l.b-index l.text) ≡ list_all is_ascii_digit l.text;
}
