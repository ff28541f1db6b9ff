use Rattle.std.proofs.Common.{◌≡◌, ◌≤◌, ◌<◌, ◌^◌, take}
use Rattle.std.specs.Str.Parse.{digits_value}
use Rattle.hx_fields.proofs.digits.digits_value_if_at_most.Given as goal

abbrev pub invariant-loop-b : goal.invariant-loop-b
invariant-loop-b l = record {
  fits : l.number < 2 ^ 70;
  small : l.number ≤ l.most → l.number ≡ digits_value l.radix (take l.b-index l.digits);
  large : l.most < l.number → l.most < digits_value l.radix (take l.b-index l.digits);
}
