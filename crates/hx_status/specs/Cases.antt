-- What the laws of worked cases tell of an answer.
use Rattle.std.specs.Prelude.{ℕ, ℤ, Option, Some, None, true, false}
use Rattle.hx_reuse.specs.declared.rule.ReuseRule.{ReuseRule}
use Rattle.hx_storable.specs.declared.rule.StoreRule.{StoreRule}
use Rattle.hx_status.specs.declared.status.How.TheVariants.{Fwd}
use Rattle.hx_status.specs.declared.status.Detail.{Detail}
use Rattle.hx_status.specs.declared.status.Status.{Status}

-- an answer passed on
abbrev pub answer_passed_on : ReuseRule → Status
answer_passed_on rule = record {
  how = Fwd rule;
  fwd_status = None;
  ttl = None;
  stored = false;
  collapsed = false;
  detail = None;
  not_stored = None;
}

-- and stored, with so many seconds left
abbrev pub answer_passed_on_and_stored : ReuseRule → ℤ → Status
answer_passed_on_and_stored rule left = record {
  how = Fwd rule;
  fwd_status = None;
  ttl = Some left;
  stored = true;
  collapsed = false;
  detail = None;
  not_stored = None;
}

-- a stored response that is sent after all, though the request had gone forward by a rule
abbrev pub stored_sent_after_forward : ReuseRule → Option ℕ → Option ℤ → Option Detail → Status
stored_sent_after_forward rule fwd_status ttl detail =
    record {
      how = Fwd rule;
      fwd_status = fwd_status;
      ttl = ttl;
      stored = false;
      collapsed = false;
      detail = detail;
      not_stored = None;
    }

-- an answer that is passed on and tells why it isn't stored
abbrev pub passed_on_and_not_stored : ReuseRule → StoreRule → Status
passed_on_and_not_stored rule storing = record (answer_passed_on rule) { not_stored = Some storing }
