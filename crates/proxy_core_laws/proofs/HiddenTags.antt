-- Tags may be taken out of what is sent.
use Rattle.std.proofs.Common.{◌≡◌, ℕ, Bool, true, false, not, List, refl}
use Rattle.std.specs.Prelude.{All, codes}
use Rattle.std.proofs.lemmas.List.Elements.{All-filter}
use Rattle.hx_fields.specs.Line.{Field}
use Rattle.hx_fields.specs.FieldLines.{has_field, is_named}
use Rattle.hx_framing.specs.Written.{FieldIsWritable}
use Rattle.hx_hop.proofs.Lines.{list_any_fewer}
use Rattle.proxy_core.specs.Replies.{fields_without_hidden_tags}

pub hidden_fit : (hides : Bool) (fields : List Field) → All FieldIsWritable fields → All FieldIsWritable (fields_without_hidden_tags hides fields)
hidden_fit true fields all = All-filter (λ f. not (is_named (codes "Cache-Tag") f)) FieldIsWritable fields all
hidden_fit false fields all = all

pub hidden_without : (hides : Bool) (fields : List Field) (name : List ℕ) → has_field fields name ≡ false → has_field (fields_without_hidden_tags hides fields) name ≡ false
hidden_without true fields name none = list_any_fewer (λ f. not (is_named (codes "Cache-Tag") f)) (is_named name) fields none
hidden_without false fields name none = none
