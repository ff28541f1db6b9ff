-- A record is a script: text for text, up to the happening that had no room.
use Rattle.std.proofs.Common.{◌≡◌, ℕ, ◌+◌, ◌-◌, List, [], ◌∷◌, ◌++◌, length, Bool, true, false, refl, sym, ap, ◌∙◌, subst, inl, inr, Option, None, Some, append-nil, append_assoc, length-append, arith}
use Rattle.std.specs.Prelude.{not, if◌then◌else◌, ◌&&◌, ◌==◌, nat_le}
use Rattle.std.proofs.KnownBytes.{Appends-nil, Appends-trans}
use Rattle.std.proofs.lemmas.Bool.{cases_Bool, false≢true, true≢false}
use Rattle.std.specs.Io.KnownBytes.{Appends}
use Rattle.std.specs.List.{flat_map, AllByRecursion}
use Rattle.proxy_script.specs.Script.{ItemModel as Item, Table, Moment, Happens, item_spelling, ItemCanBeSpelled, ItemIsAllowedAtPosition, IsScript}
use Rattle.proxy_script.specs.Happenings.{HappeningModel as Happening}
use Rattle.proxy_script.specs.Happenings as happening
use Rattle.proxy_script.specs.declared.limits.TheConstants.{MOST_SCRIPT_BYTES}
use Rattle.proxy_record.specs.Records.{RecordSoFar, TextIsAddedOrRecordEnds, has_room, record_text_if_room, empty_record, items_of_happening, text_of_items, RecordBeginsWithTable, ended_record, RecordMayEnd, HappeningIsRecorded, RecordedHappening, HappeningsAreRecordedOrRecordEnds, items_of_recorded, script_of_recorded, RecordedHappeningHasSpelling, IsRecordOfHappenings}

-- what a text that had room, or had none, made of a record
abbrev HadRoom : Bool → RecordSoFar → List ℕ → ℕ → RecordSoFar → Type 0
HadRoom room r text moment new = Appends r.held new.held (if room then text else []) × (new.len ≡ r.len + length (if room then text else [])) × (new.moment ≡ (if room then moment else r.moment)) × (new.over ≡ not room)

had_room : (room : Bool) (r : RecordSoFar) (text : List ℕ) (moment : ℕ) (new : RecordSoFar) → has_room r text ≡ room → TextIsAddedOrRecordEnds r text moment new → HadRoom room r text moment new
had_room room r text moment new is adds = subst (λ (b : Bool). HadRoom b r text moment new) is (adds.written, adds.len, adds.moment_is, adds.ends)

none_where_over : (r : RecordSoFar) (text : List ℕ) → r.over ≡ true → has_room r text ≡ false
none_where_over r text over = ap (λ (b : Bool). not b && nat_le (length text) (MOST_SCRIPT_BYTES - r.len)) over

record Kept (r new : RecordSoFar) : Type 0 where
  held : Appends r.held new.held []
  len : new.len ≡ r.len
  over : new.over ≡ true

kept_as_it_is : (r new : RecordSoFar) → r.over ≡ true → RecordMayEnd r new → Kept r new
kept_as_it_is r new over (inl same) = subst (Kept r) (sym same) (record { held = Appends-nil r.held; len = refl; over = over })
kept_as_it_is r new over (inr ends) = subst (Kept r) (sym ends) (record { held = Appends-nil r.held; len = refl; over = refl })

-- nothing is added to a record that has ended
kept_over : (r : RecordSoFar) (all_noted : List RecordedHappening) (new : RecordSoFar) → r.over ≡ true → HappeningsAreRecordedOrRecordEnds r all_noted new → Kept r new
kept_over r [] new over same = kept_as_it_is r new over same
kept_over r (one ∷ more) new over (begun, may_end, mid, happens, noted) =
    let still = kept_as_it_is r begun over may_end in
    let first = had_room false begun (text_of_items (items_of_happening begun.moment one.moment one.happening)) one.moment mid (none_where_over begun _ still.over) happens in
    let first_len : mid.len ≡ begun.len + 0 = first.1 in
    let rest = kept_over mid more new first.3 noted in
    record {
      held = Appends-trans _ _ _ [] [] still.held (Appends-trans _ _ _ [] [] first.0 rest.held);
      len = omega (arith, rest.len, first_len, still.len);
      over = rest.over;
    }

-- the texts of more happenings behind what a record has
record Grew (r : RecordSoFar) (all_noted : List RecordedHappening) (new : RecordSoFar) : Type 0 where
  front : List RecordedHappening
  rest : List RecordedHappening
  split : all_noted ≡ front ++ rest
  all : new.over ≡ false → rest ≡ []
  held : Appends r.held new.held (text_of_items (items_of_recorded r.moment front))
  len : new.len ≡ r.len + length (text_of_items (items_of_recorded r.moment front))

texts : (xs ys : List Item) → text_of_items (xs ++ ys) ≡ text_of_items xs ++ text_of_items ys
texts [] ys = refl
texts (x ∷ xs) ys = ap (λ (t : List ℕ). item_spelling x ++ t) (texts xs ys) ∙ sym (append_assoc (item_spelling x) (text_of_items xs) (text_of_items ys))

nothing_more : (r new : RecordSoFar) → RecordMayEnd r new → Grew r [] new
nothing_more r new (inl same) = subst (Grew r []) (sym same) (record { front = []; rest = []; split = refl; all = λ is. refl; held = Appends-nil r.held; len = omega arith })
nothing_more r new (inr ends) = subst (Grew r []) (sym ends) (record { front = []; rest = []; split = refl; all = λ is. refl; held = Appends-nil r.held; len = omega arith })

-- what comes behind the end of a record isn't in it
grew_none : (r : RecordSoFar) (all_noted : List RecordedHappening) (new : RecordSoFar) → Kept r new → Grew r all_noted new
grew_none r all_noted new kept = record {
  front = [];
  rest = all_noted;
  split = refl;
  all = λ is. absurd (true≢false (sym kept.over ∙ is));
  held = kept.held;
  len = omega (arith, kept.len);
}

grew : (r : RecordSoFar) (all_noted : List RecordedHappening) (new : RecordSoFar) → r.over ≡ false → HappeningsAreRecordedOrRecordEnds r all_noted new → Grew r all_noted new
grew r [] new going same = nothing_more r new same
grew r (one ∷ more) new going (begun, inr ends, mid, happens, noted) =
    let over : begun.over ≡ true = ap (λ (b : RecordSoFar). b.over) ends in
    let kept = subst (λ (b : RecordSoFar). Kept b new) ends (kept_over begun (one ∷ more) new over (begun, inl refl, mid, happens, noted)) in
    grew_none r (one ∷ more) new (record { held = kept.held; len = kept.len; over = kept.over })
grew r (one ∷ more) new going (begun, inl same, mid, happened, noted) = elim (cases_Bool (has_room r (text_of_items (items_of_happening r.moment one.moment one.happening)))) [
  | inl room ↦
      let happens : HappeningIsRecorded r one.moment one.happening mid = subst (λ (b : RecordSoFar). HappeningIsRecorded b one.moment one.happening mid) same happened in
      let text = text_of_items (items_of_happening r.moment one.moment one.happening) in
      let first = had_room true r text one.moment mid room happens in
      let first_len : mid.len ≡ r.len + length text = first.1 in
      let rest = grew mid more new first.3 noted in
      let behind : text_of_items (items_of_recorded mid.moment rest.front) ≡ text_of_items (items_of_recorded one.moment rest.front) = ap (λ (m : ℕ). text_of_items (items_of_recorded m rest.front)) first.2 in
      let whole : text_of_items (items_of_recorded r.moment (one ∷ rest.front)) ≡ text ++ text_of_items (items_of_recorded mid.moment rest.front) =
      texts (items_of_happening r.moment one.moment one.happening) (items_of_recorded one.moment rest.front) ∙ ap (λ (t : List ℕ). text ++ t) (sym behind) in
      record {
        front = one ∷ rest.front;
        rest = rest.rest;
        split = ap (λ (ts : List RecordedHappening). one ∷ ts) rest.split;
        all = rest.all;
        held = subst (Appends r.held new.held) (sym whole) (Appends-trans _ _ _ text (text_of_items (items_of_recorded mid.moment rest.front)) first.0 rest.held);
        len = omega (arith, rest.len, first_len, ap length whole, length-append text (text_of_items (items_of_recorded mid.moment rest.front)));
      }
  | inr full ↦
      let happens : HappeningIsRecorded r one.moment one.happening mid = subst (λ (b : RecordSoFar). HappeningIsRecorded b one.moment one.happening mid) same happened in
      let first = had_room false r (text_of_items (items_of_happening r.moment one.moment one.happening)) one.moment mid full happens in
      let first_len : mid.len ≡ r.len + 0 = first.1 in
      let kept = kept_over mid more new first.3 noted in
      grew_none r (one ∷ more) new (record {
        held = Appends-trans _ _ _ [] [] first.0 kept.held;
        len = omega (arith, kept.len, first_len);
        over = kept.over;
      })
]

-- a record that has begun, and what was told since
pub is_record_of : (before : Option (List ℕ)) (table : List ℕ) (all_noted : List RecordedHappening) (begun new : RecordSoFar) → RecordBeginsWithTable before table begun → begun.over ≡ false → HappeningsAreRecordedOrRecordEnds begun all_noted new → IsRecordOfHappenings before table all_noted new
is_record_of before table all_noted begun new begins going noted = elim (cases_Bool (has_room (empty_record before) (item_spelling (Table table)))) [
  | inl room ↦
      let first = had_room true (empty_record before) (item_spelling (Table table)) 0 begun room begins in
      let first_len : begun.len ≡ 0 + length (item_spelling (Table table)) = first.1 in
      let rest = grew begun all_noted new going noted in
      let text = text_of_items (items_of_recorded begun.moment rest.front) in
      let whole : item_spelling (Table table) ++ text ≡ script_of_recorded table rest.front = ap (λ (m : ℕ). item_spelling (Table table) ++ text_of_items (items_of_recorded m rest.front)) first.2 in
      record {
        front = rest.front;
        rest = rest.rest;
        split = rest.split;
        all = rest.all;
        held = subst (Appends before new.held) whole (Appends-trans _ _ _ (item_spelling (Table table)) text first.0 rest.held);
        len = omega (arith, rest.len, first_len, ap length whole, length-append (item_spelling (Table table)) text);
      }
  | inr full ↦
      let first = had_room false (empty_record before) (item_spelling (Table table)) 0 begun full begins in
      absurd (false≢true (sym going ∙ first.3))
]

all_both : (P : Item → Type 0) (xs ys : List Item) → AllByRecursion P xs → AllByRecursion P ys → AllByRecursion P (xs ++ ys)
all_both P [] ys one two = two
all_both P (x ∷ xs) ys one two = (one.0, all_both P xs ys one.1 two)

fits_one : (same : Bool) (one : RecordedHappening) → RecordedHappeningHasSpelling one → AllByRecursion ItemCanBeSpelled (if same then Happens one.happening ∷ [] else Moment one.moment ∷ Happens one.happening ∷ [])
fits_one true one fits = (fits.1, tt)
fits_one false one fits = (fits.0, (fits.1, tt))

placed_happening : (h : Happening) → ItemIsAllowedAtPosition false (Happens h)
placed_happening (happening.Accepts n) = refl
placed_happening (happening.Sends n bytes) = refl
placed_happening (happening.Hears l bytes) = refl
placed_happening (happening.Ends n) = refl
placed_happening (happening.Leaves n) = refl
placed_happening (happening.Retires n) = refl
placed_happening (happening.Overdues n) = refl
placed_happening (happening.Shuts l) = refl
placed_happening (happening.Fails l kind) = refl

placed_one : (same : Bool) (one : RecordedHappening) → AllByRecursion (ItemIsAllowedAtPosition false) (if same then Happens one.happening ∷ [] else Moment one.moment ∷ Happens one.happening ∷ [])
placed_one true one = (placed_happening one.happening, tt)
placed_one false one = (refl, (placed_happening one.happening, tt))

fit : (last : ℕ) (all_noted : List RecordedHappening) → AllByRecursion RecordedHappeningHasSpelling all_noted → AllByRecursion ItemCanBeSpelled (items_of_recorded last all_noted)
fit last [] all = tt
fit last (one ∷ more) all = all_both ItemCanBeSpelled (items_of_happening last one.moment one.happening) (items_of_recorded one.moment more) (fits_one (one.moment == last) one all.0) (fit one.moment more all.1)

placed : (last : ℕ) (all_noted : List RecordedHappening) → AllByRecursion (ItemIsAllowedAtPosition false) (items_of_recorded last all_noted)
placed last [] = tt
placed last (one ∷ more) = all_both (ItemIsAllowedAtPosition false) (items_of_happening last one.moment one.happening) (items_of_recorded one.moment more) (placed_one (one.moment == last) one) (placed one.moment more)

pub is_spelled : (table : List ℕ) (all_noted : List RecordedHappening) → ItemCanBeSpelled (Table table) → AllByRecursion RecordedHappeningHasSpelling all_noted → IsScript (script_of_recorded table all_noted) table (items_of_recorded 0 all_noted)
is_spelled table all_noted fits all = record { script = refl; table_fits = fits; items_fit = fit 0 all_noted all; one_table = placed 0 all_noted }
