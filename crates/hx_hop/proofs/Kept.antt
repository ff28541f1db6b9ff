-- One test of each line keeps what three filters, one behind the other, keep.
use Rattle.std.proofs.Common.{◌≡◌, Bool, true, false, not, ◌||◌, List, [], ◌∷◌, cond, refl, ap, sym, ◌∙◌, codes}
use Rattle.std.specs.Prelude.{filter, ◌&&◌}
use Rattle.hx_fields.specs.Line.{Field}
use Rattle.hx_fields.specs.FieldLines.{is_named, members_of}
use Rattle.hx_hop.specs.Stripping.{connection_has_option, is_hop_by_hop_line, is_hop_by_hop_name}
use Rattle.hx_hop.specs.Asking.{fields_passed_on_of}
use Rattle.hx_hop.specs.LinesThatGoOn.{line_is_passed_on}

module _ {X : Type 0} (p q : X → Bool) where
  both_at : (t u : Bool) (x : X) (rest more : List X) → q x ≡ u → filter q rest ≡ more
      → filter q (cond t (x ∷ rest) rest) ≡ cond (t && u) (x ∷ more) more
  both_at true true x rest more e ih = rw e (ap (λ ys. x ∷ ys) ih)
  both_at true false x rest more e ih = rw e ih
  both_at false u x rest more e ih = ih

  pub filter_both : (xs : List X) → filter q (filter p xs) ≡ filter (λ x. p x && q x) xs
  filter_both [] = refl
  filter_both (x ∷ xs) = both_at (p x) (q x) x (filter p xs) (filter (λ y. p y && q y) xs) refl (filter_both xs)

order : (hop listed host expect : Bool)
    → ((not (hop || listed) && not host) && not expect) ≡ (not host && not expect && not hop && not listed)
order true true true true = refl
order true true true false = refl
order true true false true = refl
order true true false false = refl
order true false true true = refl
order true false true false = refl
order true false false true = refl
order true false false false = refl
order false true true true = refl
order false true true false = refl
order false true false true = refl
order false true false false = refl
order false false true true = refl
order false false true false = refl
order false false false true = refl
order false false false false = refl

pub kept_at_once : (fields : List Field) → filter (line_is_passed_on (members_of fields (codes "Connection"))) fields ≡ fields_passed_on_of fields
kept_at_once fields =
    let goes : Field → Bool = λ line. not (is_hop_by_hop_line fields line) in
    let host : Field → Bool = λ line. not (is_named (codes "Host") line) in
    let expect : Field → Bool = λ line. not (is_named (codes "Expect") line) in
    sym (
    ap (filter expect) (filter_both goes host fields)
    ∙ filter_both (λ line. goes line && host line) expect fields
    ∙ ap (λ p. filter p fields) (λ i line. order (is_hop_by_hop_name line.name) (connection_has_option fields line.name) (is_named (codes "Host") line) (is_named (codes "Expect") line) i)
    )
