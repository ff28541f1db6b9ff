-- The text of a date is a field value.
use Rattle.std.proofs.Common.{◌≡◌, ℕ, zero, suc, ◌+◌, ◌/◌, ◌%◌, ◌<◌, ◌≤◌, ◌==◌, ◌||◌, Bool, true, false, cond, List, [], ◌∷◌, ◌++◌, length, append_assoc, refl, sym, ◌∙◌, subst, arith}
use Rattle.std.specs.Prelude.{All, codes}
use Rattle.std.specs.List.{list_all}
use Rattle.std.proofs.lemmas.List.Elements.{All-nil, All-cons, All-append}
use Rattle.http_header.proofs.TokenLemmas.{AllPass-from_test}
use Rattle.httparse.specs.Grammar.{AllPass, is_value_byte, trim_ows}
use Rattle.httpdate.specs.Calendar.{days_from_civil, days_in_month, is_leap_year}
use Rattle.httpdate.specs.Text.{day_name, four_digits, imf_fixdate, month_name, time_of_day, two_digits}
use Rattle.httpdate.specs.Valid.{IsValid}
use Rattle.httpdate.specs.declared.parts.Parts.{Parts}
use Rattle.hx_fields.specs.declared.limits.TheConstants.{START_OF_YEAR_10000}
use Rattle.hx_hop.specs.Moments.{date_parts_of, date_text_of}
use Rattle.hx_hop.proofs.Moments.{civil_of_is}
use Rattle.hx_hop_laws.specs.OneMessage.{IsFieldValue}
use Rattle.hx_hop_laws.proofs.ReadTargets.{IsVisible}
use Rattle.hx_hop_laws.proofs.SentRequests.{visible_seen, visible_value}
use Rattle.hx_hop_laws.proofs.Values.{IsSeen, trim_words}

two_visible : (n : ℕ) → n < 100 → All IsVisible (two_digits n)
two_visible n small =
    let tens : n / 10 < 10 = omega arith in
    let ones : n % 10 < 10 = omega arith in
    All-cons IsVisible (48 + n / 10) ((48 + n % 10) ∷ []) (record { above = omega arith; below = omega arith })
    (All-cons IsVisible (48 + n % 10) [] (record { above = omega arith; below = omega arith }) (All-nil IsVisible))

two_value : (n : ℕ) → n < 100 → AllPass is_value_byte (two_digits n)
two_value n small = visible_value (two_digits n) (two_visible n small)

four_value : (n : ℕ) → n < 10000 → AllPass is_value_byte (four_digits n)
four_value n small =
    let front : n / 100 < 100 = omega arith in
    let back : n % 100 < 100 = omega arith in
    All-append (λ b. is_value_byte b ≡ true) (two_digits (n / 100)) (two_digits (n % 100)) (two_value (n / 100) front) (two_value (n % 100) back)

-- a name of three letters
record IsName (text : List ℕ) : Type 0 where
  first : ℕ
  more : List ℕ
  is : text ≡ first ∷ more
  seen : IsSeen first
  value : AllPass is_value_byte text

name : (first : ℕ) (more : List ℕ) → IsSeen first → AllPass is_value_byte (first ∷ more) → IsName (first ∷ more)
name first more seen value = record { first = first; more = more; is = refl; seen = seen; value = value }

day_named : (k : ℕ) → k < 7 → IsName (day_name (suc k))
day_named zero h = name 77 (codes "on") refl (AllPass-from_test is_value_byte (codes "Mon") refl)
day_named (suc zero) h = name 84 (codes "ue") refl (AllPass-from_test is_value_byte (codes "Tue") refl)
day_named (suc (suc zero)) h = name 87 (codes "ed") refl (AllPass-from_test is_value_byte (codes "Wed") refl)
day_named (suc (suc (suc zero))) h = name 84 (codes "hu") refl (AllPass-from_test is_value_byte (codes "Thu") refl)
day_named (suc (suc (suc (suc zero)))) h = name 70 (codes "ri") refl (AllPass-from_test is_value_byte (codes "Fri") refl)
day_named (suc (suc (suc (suc (suc zero))))) h = name 83 (codes "at") refl (AllPass-from_test is_value_byte (codes "Sat") refl)
day_named (suc (suc (suc (suc (suc (suc zero)))))) h = name 83 (codes "un") refl (AllPass-from_test is_value_byte (codes "Sun") refl)
day_named (suc (suc (suc (suc (suc (suc (suc k))))))) h = absurd (omega arith)

month_value : (m : ℕ) → m ≤ 12 → AllPass is_value_byte (month_name m)
month_value zero h = AllPass-from_test is_value_byte (codes "Jan") refl
month_value (suc zero) h = AllPass-from_test is_value_byte (codes "Jan") refl
month_value (suc (suc zero)) h = AllPass-from_test is_value_byte (codes "Feb") refl
month_value (suc (suc (suc zero))) h = AllPass-from_test is_value_byte (codes "Mar") refl
month_value (suc (suc (suc (suc zero)))) h = AllPass-from_test is_value_byte (codes "Apr") refl
month_value (suc (suc (suc (suc (suc zero))))) h = AllPass-from_test is_value_byte (codes "May") refl
month_value (suc (suc (suc (suc (suc (suc zero)))))) h = AllPass-from_test is_value_byte (codes "Jun") refl
month_value (suc (suc (suc (suc (suc (suc (suc zero))))))) h = AllPass-from_test is_value_byte (codes "Jul") refl
month_value (suc (suc (suc (suc (suc (suc (suc (suc zero)))))))) h = AllPass-from_test is_value_byte (codes "Aug") refl
month_value (suc (suc (suc (suc (suc (suc (suc (suc (suc zero))))))))) h = AllPass-from_test is_value_byte (codes "Sep") refl
month_value (suc (suc (suc (suc (suc (suc (suc (suc (suc (suc zero)))))))))) h = AllPass-from_test is_value_byte (codes "Oct") refl
month_value (suc (suc (suc (suc (suc (suc (suc (suc (suc (suc (suc zero))))))))))) h = AllPass-from_test is_value_byte (codes "Nov") refl
month_value (suc (suc (suc (suc (suc (suc (suc (suc (suc (suc (suc (suc zero)))))))))))) h = AllPass-from_test is_value_byte (codes "Dec") refl
month_value (suc (suc (suc (suc (suc (suc (suc (suc (suc (suc (suc (suc (suc m))))))))))))) h = absurd (omega arith)

-- a day, what stands behind it, and a word
framed : (day middle word : List ℕ) → IsName day → AllPass is_value_byte middle → 0 < length word → All IsVisible word → IsFieldValue ((day ++ middle) ++ word)
framed day middle word named value some seen = (
  All-append (λ b. is_value_byte b ≡ true) (day ++ middle) word (All-append (λ b. is_value_byte b ≡ true) day middle named.value value) (visible_value word seen),
  subst (λ (d : List ℕ). trim_ows ((d ++ middle) ++ word) ≡ (d ++ middle) ++ word) (sym named.is)
      (trim_words named.first (named.more ++ middle) word named.seen some (visible_seen word seen)),
)

record AreValue (text : List ℕ) : Type 0 where
  pass : AllPass is_value_byte text

are : (text : List ℕ) → list_all is_value_byte text ≡ true → AreValue text
are text test = record { pass = AllPass-from_test is_value_byte text test }

joined : (a b : List ℕ) → AreValue a → AreValue b → AreValue (a ++ b)
joined a b x y = record { pass = All-append (λ c. is_value_byte c ≡ true) a b x.pass y.pass }

gmt : All IsVisible (codes "GMT")
gmt =
    All-cons IsVisible 71 (77 ∷ 84 ∷ []) (record { above = omega arith; below = omega arith })
    (All-cons IsVisible 77 (84 ∷ []) (record { above = omega arith; below = omega arith })
    (All-cons IsVisible 84 [] (record { above = omega arith; below = omega arith }) (All-nil IsVisible)))

text_value : (p : Parts) → IsValid p → (days : ℕ) → days ≤ 31 → p.day ≤ days → IsFieldValue (imf_fixdate p)
text_value p valid days few day =
    let at = (days_from_civil p.year p.mon p.day + 3) % 7 in
    let small : at < 7 = omega arith in
    let is : p.wday ≡ suc at = valid.2 ∙ omega arith in
    let blank : AreValue (codes " ") = are (codes " ") refl in
    let colon : AreValue (codes ":") = are (codes ":") refl in
    let comma : AreValue (codes ", ") = are (codes ", ") refl in
    let two_day : AreValue (two_digits p.day) = record { pass = two_value p.day (omega (arith, day, few)) } in
    let year : AreValue (four_digits p.year) = record { pass = four_value p.year (omega (arith, valid.0.0.1)) } in
    let hour : AreValue (two_digits p.hour) = record { pass = two_value p.hour (omega (arith, valid.1.0)) } in
    let min : AreValue (two_digits p.min) = record { pass = two_value p.min (omega (arith, valid.1.1)) } in
    let sec : AreValue (two_digits p.sec) = record { pass = two_value p.sec (omega (arith, valid.1.2)) } in
    let month : AreValue (month_name p.mon) = record { pass = month_value p.mon valid.0.1.1 } in
    let to_min : AreValue (two_digits p.hour ++ codes ":" ++ two_digits p.min) = joined (two_digits p.hour ++ codes ":") (two_digits p.min) (joined (two_digits p.hour) (codes ":") hour colon) min in
    let time : AreValue (time_of_day p) = joined (two_digits p.hour ++ codes ":" ++ two_digits p.min ++ codes ":") (two_digits p.sec) (joined (two_digits p.hour ++ codes ":" ++ two_digits p.min) (codes ":") to_min colon) sec in
    let with_time : List ℕ = time_of_day p ++ codes " " in
    let with_year : List ℕ = four_digits p.year ++ (codes " " ++ with_time) in
    let with_month : List ℕ = month_name p.mon ++ (codes " " ++ with_year) in
    let with_day : List ℕ = two_digits p.day ++ (codes " " ++ with_month) in
    let middle : List ℕ = codes ", " ++ with_day in
    let time_value : AreValue with_time = joined (time_of_day p) (codes " ") time blank in
    let year_value : AreValue with_year = joined (four_digits p.year) (codes " " ++ with_time) year (joined (codes " ") with_time blank time_value) in
    let month_is : AreValue with_month = joined (month_name p.mon) (codes " " ++ with_year) month (joined (codes " ") with_year blank year_value) in
    let day_value : AreValue with_day = joined (two_digits p.day) (codes " " ++ with_month) two_day (joined (codes " ") with_month blank month_is) in
    let value : AreValue middle = joined (codes ", ") with_day comma day_value in
    let some : 0 < length (codes "GMT") = omega arith in
    subst IsFieldValue (sym (regroup (day_name p.wday) (two_digits p.day) (month_name p.mon) (four_digits p.year) (time_of_day p)))
    (framed (day_name p.wday) middle (codes "GMT") (subst (λ (d : ℕ). IsName (day_name d)) (sym is) (day_named at small)) value.pass some gmt)
  where
    regroup : (a b c d e : List ℕ) → a ++ codes ", " ++ b ++ codes " " ++ c ++ codes " " ++ d ++ codes " " ++ e ++ codes " GMT"
        ≡ (a ++ (codes ", " ++ (b ++ (codes " " ++ (c ++ (codes " " ++ (d ++ (codes " " ++ (e ++ codes " "))))))))) ++ codes "GMT"
    regroup a b c d e = simp append_assoc refl

-- no month has more than 31 days
days_few : (y m : ℕ) → days_in_month y m ≤ 31
days_few y m = by_tests (m == 2) (is_leap_year y) ((m == 4) || (m == 6) || (m == 9) || (m == 11))
  where
    by_tests : (t u v : Bool) → cond t (cond u 29 28) (cond v 30 31) ≤ 31
    by_tests true true v = omega arith
    by_tests true false v = omega arith
    by_tests false u true = omega arith
    by_tests false u false = omega arith

pub date_value : (now : ℕ) → now < START_OF_YEAR_10000 → IsFieldValue (date_text_of now)
date_value now early =
    let civil = civil_of_is now early in
    text_value (date_parts_of now) civil.0 _ (days_few (date_parts_of now).year (date_parts_of now).mon) civil.0.0.2.1
