use Rattle.std.proofs.Common.{◌≡◌, ◌-◌}
use Rattle.proxy_store_file.specs.Heads.{leading_list_of_nominated_values, leading_nominated_values_after}
use Rattle.proxy_store_file.proofs.head_reading.leading_list_of_nominated_values.Given as goal

-- what is left to read gives the whole
abbrev pub invariant-loop-i : goal.invariant-loop-i
invariant-loop-i l = leading_list_of_nominated_values l.fn.bytes ≡ leading_nominated_values_after l.values.items (l.n - l._i) l.rest
