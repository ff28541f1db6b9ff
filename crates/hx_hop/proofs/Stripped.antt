-- What stripping leaves.
use Rattle.std.proofs.Common.{◌≡◌, ℕ, Bool, true, false, not, ◌||◌, List, [], map, refl, ap, codes}
use Rattle.hx_fields.specs.Line.{Field}
use Rattle.hx_fields.specs.FieldLines.{is_named, members_of}
use Rattle.hx_fields.specs.Names.{joined_lists, members_of_value}
use Rattle.hx_hop.specs.Stripping.{connection_has_option, hop_by_hop_names, name_is_among, is_hop_by_hop_line, is_hop_by_hop_name, stripped}
use Rattle.hx_hop.specs.PassedOnFields.{HopByHopFieldsAreRemoved, EndToEndFieldsAreKept, StrippingIsIdempotent}
use Rattle.hx_hop.proofs.Lines.{filter_again, filter_keeps, filter_none, is_among-same, list_any_none_left}

-- lines of one name go the same way
hop_line-named : (fields : List Field) (name : List ℕ) (line : Field) → is_named name line ≡ true
    → is_hop_by_hop_line fields line ≡ (is_hop_by_hop_name name || connection_has_option fields name)
hop_line-named fields name line h =
    let hop = is_among-same hop_by_hop_names line.name name h in
    let listed = is_among-same (members_of fields (codes "Connection")) line.name name h in
    cc (hop, listed)

-- a line that goes on isn't of a name that doesn't
other_name : (fields : List Field) (name : List ℕ) → is_hop_by_hop_name name || connection_has_option fields name ≡ true
    → (line : Field) → not (is_hop_by_hop_line fields line) ≡ true → is_named name line ≡ false
other_name fields name gone line kept = by_name (is_named name line) refl
  where
    by_name : (t : Bool) → is_named name line ≡ t → t ≡ false
    by_name true e = let same = hop_line-named fields name line e in cc
    by_name false e = refl

pub takes_out_theirs : HopByHopFieldsAreRemoved
takes_out_theirs fields name h = list_any_none_left (λ line. not (is_hop_by_hop_line fields line)) (is_named name) (other_name fields name h) fields

pub keeps_the_others : EndToEndFieldsAreKept
keeps_the_others fields name h =
    ap (map (λ (f : Field). f.value)) (filter_keeps (λ line. not (is_hop_by_hop_line fields line)) (is_named name) (λ line e. let same = hop_line-named fields name line e in rw (same, h) refl) fields)

-- no Connection line is left
no_connection : (fields : List Field) → members_of (stripped fields) (codes "Connection") ≡ []
no_connection fields =
    ap (λ lines. joined_lists (map members_of_value (map (λ (f : Field). f.value) lines)))
    (filter_none (λ line. not (is_hop_by_hop_line fields line)) (is_named (codes "Connection")) (other_name fields (codes "Connection") refl) fields)

less : (a b c : Bool) → c ≡ false → not (a || b) ≡ true → not (a || c) ≡ true
less true b c e h = h
less false b c e h = rw e refl

-- so no more is taken out
stays : (fields : List Field) (line : Field) → not (is_hop_by_hop_line fields line) ≡ true → not (is_hop_by_hop_line (stripped fields) line) ≡ true
stays fields line h = less (is_hop_by_hop_name line.name) (connection_has_option fields line.name) _ (ap (λ members. name_is_among members line.name) (no_connection fields)) h

pub strips_at_once : StrippingIsIdempotent
strips_at_once fields = filter_again (λ line. not (is_hop_by_hop_line fields line)) (λ line. not (is_hop_by_hop_line (stripped fields) line)) (stays fields) fields
