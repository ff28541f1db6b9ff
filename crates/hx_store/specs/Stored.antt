-- A stored response, without what is computed from its fields (RFC 9111, section 2).
use Rattle.std.specs.Prelude.{ℕ, List}
use Rattle.hx_fields.specs.Line.{Field}
use Rattle.hx_target.specs.declared.keys.Key.{Key}
use Rattle.hx_age.specs.declared.moments.Times.{Times}
use Rattle.hx_vary.specs.declared.nominated_values.NominatedValue.{NominatedValue}

pub record Stored : Type 0 where
  pub serial : ℕ
  pub key : Key
  pub nominated : List NominatedValue
  pub status : ℕ
  pub fields : List Field
  pub content : List ℕ
  pub times : Times
