use Rattle.std.proofs.Common.{arith}
use Rattle.std.proofs.lemmas.List.{length-append}
use Rattle.hx_store.specs.Weights.{weight_of_field_line, weight_of_nominated_value}
use Rattle.hx_store.proofs.EntryWeights.{sum_by-amid}
use Rattle.hx_store.proofs.weight_laws.an_entry_weighs_what_it_keeps.Goals as goal

pub returns : goal.returns
returns c = record {
  least = λ e. omega arith;
  content = λ e content more. omega (arith, length-append content more);
  longer = λ e short long h. omega arith;
  line = λ e before behind line. omega (arith, sum_by-amid weight_of_field_line before behind line);
  nominated = λ e before behind kept. omega (arith, sum_by-amid weight_of_nominated_value before behind kept);
  key = λ e key. omega arith;
}
