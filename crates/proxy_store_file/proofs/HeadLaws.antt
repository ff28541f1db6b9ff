-- A head that is spelled is read, and a head that is read is spelled so.
use Rattle.std.proofs.Common.{◌≡◌, ℕ, zero, suc, ◌+◌, ◌-◌, ◌<◌, ◌≤◌, ◌^◌, List, [], ◌∷◌, ◌++◌, length, take, drop, refl, ap, sym, ◌∙◌, subst, Bool, true, false, cond, ◌==◌, nat_lt, Option, None, Some, arith, append_assoc, add-one}
use Rattle.std.specs.List.{flat_map}
use Rattle.std.specs.Prelude.{option_map}
use Rattle.std.proofs.lemmas.List.{append-nil, length-append}
use Rattle.std.proofs.lemmas.Bool.{eqb-true, ltb-true}
use Rattle.hx_fields.specs.Line.{Field}
use Rattle.hx_target.specs.declared.keys.Key.{Key}
use Rattle.hx_age.specs.declared.moments.Times.{Times}
use Rattle.hx_vary.specs.declared.nominated_values.NominatedValue.{NominatedValue}
use Rattle.proxy_store_file.specs.declared.heads.Head.{Head}
use Rattle.proxy_store_file.specs.Texts.{number_spelling, text_spelling, leading_number, leading_text, cut, after}
use Rattle.proxy_store_file.specs.Heads.{times_spelling, key_spelling, nominated_text_spelling, nominated_value_spelling, nominated_spelling, line_spelling, lines_spelling, head_numbers_spelling, head_spelling, below, leading_number_below, times_with_response_and_rest, times_read_on_after_request, times_read_on_after_age, times_read_on_after_date, leading_times, times_with_purge_if_at_end, stored_times_with_purge_if_any, purge_spelling, key_with_path_and_rest, key_read_on_after_host, key_read_on_after_port, leading_key, some_value, value_after_length, leading_value, nominated_value_and_rest, nominated_value_read_on_after_name, leading_nominated_value, leading_nominated_values_after, leading_list_of_nominated_values, field_line_and_rest, line_read_on_after_name, leading_field_line, leading_field_lines_after, leading_field_lines, whole, unread_entry_head, head_read_on_after_lines, head_read_on_after_nominated, head_read_on_after_key, head_read_on_after_times, head_read_on_after_length, head_read_on_after_status, head_read_on_after_serial, head_spelled_in}
use Rattle.proxy_store_file.proofs.TextLaws.{same_pair, after_found, cut_found, number_found, text_found}

-- one part more was found
pub more_front : (bytes a r b s : List ℕ) → bytes ≡ a ++ r → r ≡ b ++ s → bytes ≡ (a ++ b) ++ s
more_front bytes a r b s first second = first ∙ (ap (λ x. a ++ x) second ∙ sym (append_assoc a b s))

below_found_by : (t : Bool) (n m : ℕ) (rest more : List ℕ) → cond {A = Option (ℕ × List ℕ)} t (Some (n, rest)) None ≡ Some (m, more) → (n ≡ m) × (rest ≡ more)
below_found_by false n m rest more e = absurd (cc)
below_found_by true n m rest more e = same_pair n m rest more e

pub below_found : (bound : ℕ) (bytes more : List ℕ) (n : ℕ) → leading_number_below bound bytes ≡ Some (n, more) → bytes ≡ number_spelling n ++ more
below_found bound bytes more n e =
    let p = after_found (leading_number bytes) (below bound) (n, more) e in
    let q = below_found_by (nat_lt p.read bound) p.read n p.rest more p.behind in
    number_found bytes p.rest p.read p.found ∙ (ap (λ k. number_spelling k ++ p.rest) q.0 ∙ ap (λ r. number_spelling n ++ r) q.1)

pub times_found : (bytes more : List ℕ) (times : Times) → leading_times bytes ≡ Some (times, more) → bytes ≡ times_spelling times ++ more
times_found bytes more times e =
    let p = after_found (leading_number bytes) times_read_on_after_date (times, more) e in
    let q = after_found (leading_number_below (2 ^ 32) p.rest) (times_read_on_after_age p.read) (times, more) p.behind in
    let r = after_found (leading_number q.rest) (times_read_on_after_request p.read q.read) (times, more) q.behind in
    let s = after_found (leading_number r.rest) (times_with_response_and_rest p.read q.read r.read) (times, more) r.behind in
    let t : Times = record { date = p.read; age_value = q.read; request_time = r.read; response_time = s.read; expired = None } in
    let same = same_pair t times s.rest more s.behind in
    let d = more_front _ _ _ _ _ (number_found bytes p.rest p.read p.found) (below_found (2 ^ 32) p.rest q.rest q.read q.found) in
    let f = more_front _ _ _ _ _ d (number_found q.rest r.rest r.read r.found) in
    let g = more_front _ _ _ _ _ f (number_found r.rest s.rest s.read s.found) in
    g ∙ (ap (λ x. times_spelling x ++ s.rest) same.0 ∙ ap (λ x. times_spelling times ++ x) same.1)

-- such times have no purge yet
times_without_purge : (bytes more : List ℕ) (times : Times) → leading_times bytes ≡ Some (times, more) → times.expired ≡ None
times_without_purge bytes more times e =
    let p = after_found (leading_number bytes) times_read_on_after_date (times, more) e in
    let q = after_found (leading_number_below (2 ^ 32) p.rest) (times_read_on_after_age p.read) (times, more) p.behind in
    let r = after_found (leading_number q.rest) (times_read_on_after_request p.read q.read) (times, more) q.behind in
    let s = after_found (leading_number r.rest) (times_with_response_and_rest p.read q.read r.read) (times, more) r.behind in
    let t : Times = record { date = p.read; age_value = q.read; request_time = r.read; response_time = s.read; expired = None } in
    sym (ap (λ (x : Times). x.expired) (same_pair t times s.rest more s.behind).0)

pub key_found : (bytes more : List ℕ) (key : Key) → leading_key bytes ≡ Some (key, more) → bytes ≡ key_spelling key ++ more
key_found bytes more key e =
    let p = after_found (leading_number_below (2 ^ 16) bytes) key_read_on_after_port (key, more) e in
    let q = after_found (leading_text p.rest) (key_read_on_after_host p.read) (key, more) p.behind in
    let r = after_found (leading_text q.rest) (key_with_path_and_rest p.read q.read) (key, more) q.behind in
    let k : Key = record { host = q.read; port = p.read; path_query = r.read } in
    let same = same_pair k key r.rest more r.behind in
    let d = more_front _ _ _ _ _ (below_found (2 ^ 16) bytes p.rest p.read p.found) (text_found p.rest q.rest q.read q.found) in
    let f = more_front _ _ _ _ _ d (text_found q.rest r.rest r.read r.found) in
    f ∙ (ap (λ x. key_spelling x ++ r.rest) same.0 ∙ ap (λ x. key_spelling key ++ x) same.1)

pub line_found : (bytes more : List ℕ) (line : Field) → leading_field_line bytes ≡ Some (line, more) → bytes ≡ line_spelling line ++ more
line_found bytes more line e =
    let p = after_found (leading_text bytes) line_read_on_after_name (line, more) e in
    let q = after_found (leading_text p.rest) (field_line_and_rest p.read) (line, more) p.behind in
    let l : Field = record { name = p.read; value = q.read } in
    let same = same_pair l line q.rest more q.behind in
    let d = more_front _ _ _ _ _ (text_found bytes p.rest p.read p.found) (text_found p.rest q.rest q.read q.found) in
    d ∙ (ap (λ x. line_spelling x ++ q.rest) same.0 ∙ ap (λ x. line_spelling line ++ x) same.1)

positive : (n : ℕ) → (n == 0) ≡ false → 0 < n
positive zero e = absurd (cc)
positive (suc n) e = omega arith

value_found_by : (t : Bool) (n : ℕ) (rest more : List ℕ) (value : Option (List ℕ)) → (t ≡ true → n ≡ 0) → (t ≡ false → 0 < n)
    → cond {A = Option (Option (List ℕ) × List ℕ)} t (Some (None, rest)) (after (cut (n - 1) rest) some_value) ≡ Some (value, more)
    → number_spelling n ++ rest ≡ nominated_text_spelling value ++ more
value_found_by true n rest more value is_zero above e =
    let none : Option (List ℕ) = None in
    let same = same_pair none value rest more e in
    ap (λ k. number_spelling k ++ rest) (is_zero refl) ∙ (ap (λ x. nominated_text_spelling x ++ rest) same.0 ∙ ap (λ r. nominated_text_spelling value ++ r) same.1)
value_found_by false n rest more value is_zero above e =
    let q = after_found (cut (n - 1) rest) some_value (value, more) e in
    let c = cut_found (n - 1) rest q.read q.rest q.found in
    let found : Option (List ℕ) = Some q.read in
    let same = same_pair found value q.rest more q.behind in
    let some : 0 < n = above refl in
    let long : n ≡ length q.read + 1 = omega (arith, c.1, some) in
    ap (λ r. number_spelling n ++ r) c.0
    ∙ (ap (λ k. number_spelling k ++ (q.read ++ q.rest)) long
    ∙ (sym (append_assoc (number_spelling (length q.read + 1)) q.read q.rest)
    ∙ (ap (λ x. nominated_text_spelling x ++ q.rest) same.0 ∙ ap (λ r. nominated_text_spelling value ++ r) same.1)))

pub value_found : (bytes more : List ℕ) (value : Option (List ℕ)) → leading_value bytes ≡ Some (value, more) → bytes ≡ nominated_text_spelling value ++ more
value_found bytes more value e =
    let p = after_found (leading_number bytes) value_after_length (value, more) e in
    number_found bytes p.rest p.read p.found
    ∙ value_found_by (p.read == 0) p.read p.rest more value (eqb-true p.read 0) (positive p.read) p.behind

pub kept_found : (bytes more : List ℕ) (kept : NominatedValue) → leading_nominated_value bytes ≡ Some (kept, more) → bytes ≡ nominated_value_spelling kept ++ more
kept_found bytes more kept e =
    let p = after_found (leading_text bytes) nominated_value_read_on_after_name (kept, more) e in
    let q = after_found (leading_value p.rest) (nominated_value_and_rest p.read) (kept, more) p.behind in
    let k : NominatedValue = record { name = p.read; value = q.read } in
    let same = same_pair k kept q.rest more q.behind in
    let d = more_front _ _ _ _ _ (text_found bytes p.rest p.read p.found) (value_found p.rest q.rest q.read q.found) in
    d ∙ (ap (λ x. nominated_value_spelling x ++ q.rest) same.0 ∙ ap (λ x. nominated_value_spelling kept ++ x) same.1)

-- so many were found, behind those that were read
record ListFound {A : Type 0} (spelled : A → List ℕ) (n : ℕ) (read all : List A) (bytes more : List ℕ) : Type 0 where
  added : List A
  list : all ≡ read ++ added
  spelling : bytes ≡ flat_map spelled added ++ more
  number : length added ≡ n

-- the same of any list whose members are found
one_more : {A : Type 0} (spelled : A → List ℕ) (n : ℕ) (read all : List A) (x : A) (bytes rest more : List ℕ)
    → bytes ≡ spelled x ++ rest → ListFound spelled n (read ++ x ∷ []) all rest more → ListFound spelled (suc n) read all bytes more
one_more spelled n read all x bytes rest more front found = record {
  added = x ∷ found.added;
  list = found.list ∙ append_assoc read (x ∷ []) found.added;
  spelling = front ∙ (ap (λ r. spelled x ++ r) found.spelling ∙ sym (append_assoc (spelled x) (flat_map spelled found.added) more));
  number = ap suc found.number;
}

none_more : {A : Type 0} (spelled : A → List ℕ) (read all : List A) (bytes more : List ℕ)
    → ◌≡◌ {A = Option (List A × List ℕ)} (Some (read, bytes)) (Some (all, more)) → ListFound spelled 0 read all bytes more
none_more spelled read all bytes more e =
    let same = same_pair read all bytes more e in
    record { added = []; list = sym same.0 ∙ sym (append-nil read); spelling = same.1; number = refl }

lines_behind_found : (n : ℕ) (read all : List Field) (bytes more : List ℕ) → leading_field_lines_after read n bytes ≡ Some (all, more)
    → ListFound line_spelling n read all bytes more
lines_behind_found zero read all bytes more e = none_more line_spelling read all bytes more e
lines_behind_found (suc n) read all bytes more e =
    let p = after_found (leading_field_line bytes) (λ line rest. leading_field_lines_after (read ++ line ∷ []) n rest) (all, more) e in
    one_more line_spelling n read all p.read bytes p.rest more (line_found bytes p.rest p.read p.found)
    (lines_behind_found n (read ++ p.read ∷ []) all p.rest more p.behind)

values_behind_found : (n : ℕ) (read all : List NominatedValue) (bytes more : List ℕ) → leading_nominated_values_after read n bytes ≡ Some (all, more)
    → ListFound nominated_value_spelling n read all bytes more
values_behind_found zero read all bytes more e = none_more nominated_value_spelling read all bytes more e
values_behind_found (suc n) read all bytes more e =
    let p = after_found (leading_nominated_value bytes) (λ kept rest. leading_nominated_values_after (read ++ kept ∷ []) n rest) (all, more) e in
    one_more nominated_value_spelling n read all p.read bytes p.rest more (kept_found bytes p.rest p.read p.found)
    (values_behind_found n (read ++ p.read ∷ []) all p.rest more p.behind)

list_spelled : {A : Type 0} (spelled : A → List ℕ) (n : ℕ) (all : List A) (bytes rest more : List ℕ)
    → bytes ≡ number_spelling n ++ rest → ListFound spelled n [] all rest more
    → bytes ≡ (number_spelling (length all) ++ flat_map spelled all) ++ more
list_spelled spelled n all bytes rest more front found =
    let added : found.added ≡ all = sym found.list in
    let long : n ≡ length all = sym found.number ∙ ap length added in
    front ∙ (ap (λ r. number_spelling n ++ r) found.spelling
    ∙ (sym (append_assoc (number_spelling n) (flat_map spelled found.added) more)
    ∙ (ap (λ k. (number_spelling k ++ flat_map spelled found.added) ++ more) long
    ∙ ap (λ xs. (number_spelling (length all) ++ flat_map spelled xs) ++ more) added)))

pub lines_found : (bytes more : List ℕ) (all : List Field) → leading_field_lines bytes ≡ Some (all, more) → bytes ≡ lines_spelling all ++ more
lines_found bytes more all e =
    let p = after_found (leading_number bytes) (leading_field_lines_after []) (all, more) e in
    list_spelled line_spelling p.read all bytes p.rest more (number_found bytes p.rest p.read p.found) (lines_behind_found p.read [] all p.rest more p.behind)

pub nominated_found : (bytes more : List ℕ) (all : List NominatedValue) → leading_list_of_nominated_values bytes ≡ Some (all, more) → bytes ≡ nominated_spelling all ++ more
nominated_found bytes more all e =
    let p = after_found (leading_number bytes) (leading_nominated_values_after []) (all, more) e in
    list_spelled nominated_value_spelling p.read all bytes p.rest more (number_found bytes p.rest p.read p.found) (values_behind_found p.read [] all p.rest more p.behind)

pub empty : (xs : List ℕ) → (length xs == 0) ≡ true → xs ≡ []
empty [] e = refl
empty (x ∷ xs) e = let none : suc (length xs) ≡ 0 = eqb-true (suc (length xs)) 0 e in absurd (omega arith)

whole_found_by : (t : Bool) (read times : Times) → cond {A = Option Times} t (Some read) None ≡ Some times → (t ≡ true) × (read ≡ times)
whole_found_by true read times e = (refl, cc)
whole_found_by false read times e = absurd (cc)

-- behind the lines stands the purge of the times that are read there, and nothing else
end_found_by : (t : Bool) (rest : List ℕ) (before times : Times) → (t ≡ true → rest ≡ []) → before.expired ≡ None
    → cond {A = Option Times} t (Some before) (after (leading_number rest) (times_with_purge_if_at_end before)) ≡ Some times
    → (rest ≡ purge_spelling times.expired) × (times_spelling before ≡ times_spelling times)
end_found_by true rest before times nothing none e =
    let same : before ≡ times = cc in
    (nothing refl ∙ ap purge_spelling (sym none ∙ ap (λ (x : Times). x.expired) same), ap times_spelling same)
end_found_by false rest before times nothing none e =
    let p = after_found (leading_number rest) (times_with_purge_if_at_end before) times e in
    let marked : Times = record before { expired = Some p.read } in
    let w = whole_found_by (length p.rest == 0) marked times p.behind in (
      number_found rest p.rest p.read p.found
          ∙ (ap (λ r. number_spelling p.read ++ r) (empty p.rest w.0)
          ∙ (append-nil (number_spelling p.read) ∙ ap (λ (x : Times). purge_spelling x.expired) w.1)),
      ap times_spelling w.1,
    )

mapped_found : (o : Option Times) (make : Times → Head) (head : Head) → option_map make o ≡ Some head → (times : Times) × (o ≡ Some times) × (make times ≡ head)
mapped_found None make head e = absurd (cc)
mapped_found (Some times) make head e = (times, refl, cc)

pub head_found : (bytes : List ℕ) (head : Head) → head_spelled_in bytes ≡ Some head → bytes ≡ head_spelling head
unfolding head_spelled_in
head_found bytes head e =
    let p1 = after_found (leading_number bytes) head_read_on_after_serial head e in
    let h1 : Head = record unread_entry_head { serial = p1.read } in
    let p2 = after_found (leading_number_below (2 ^ 16) p1.rest) (head_read_on_after_status h1) head p1.behind in
    let h2 : Head = record h1 { status = p2.read } in
    let p3 = after_found (leading_number p2.rest) (head_read_on_after_length h2) head p2.behind in
    let h3 : Head = record h2 { content_length = p3.read } in
    let p4 = after_found (leading_times p3.rest) (head_read_on_after_times h3) head p3.behind in
    let h4 : Head = record h3 { times = p4.read } in
    let p5 = after_found (leading_key p4.rest) (head_read_on_after_key h4) head p4.behind in
    let h5 : Head = record h4 { key = p5.read } in
    let p6 = after_found (leading_list_of_nominated_values p5.rest) (head_read_on_after_nominated h5) head p5.behind in
    let h6 : Head = record h5 { nominated = p6.read } in
    let p7 = after_found (leading_field_lines p6.rest) (head_read_on_after_lines h6) head p6.behind in
    let m = mapped_found (stored_times_with_purge_if_any p4.read p7.rest) (λ times. record h6 { times = times; fields = p7.read }) head p7.behind in
    let w = end_found_by (length p7.rest == 0) p7.rest p4.read m.0 (empty p7.rest) (times_without_purge p3.rest p4.rest p4.read p4.found) m.1 in
    let with_times : List ℕ → List ℕ = λ times.
    number_spelling p1.read ++ number_spelling p2.read ++ number_spelling p3.read ++ times ++ key_spelling p5.read ++ nominated_spelling p6.read
    ++ lines_spelling p7.read in
    let d2 = more_front _ _ _ _ _ (number_found bytes p1.rest p1.read p1.found) (below_found (2 ^ 16) p1.rest p2.rest p2.read p2.found) in
    let d3 = more_front _ _ _ _ _ d2 (number_found p2.rest p3.rest p3.read p3.found) in
    let d4 = more_front _ _ _ _ _ d3 (times_found p3.rest p4.rest p4.read p4.found) in
    let d5 = more_front _ _ _ _ _ d4 (key_found p4.rest p5.rest p5.read p5.found) in
    let d6 = more_front _ _ _ _ _ d5 (nominated_found p5.rest p6.rest p6.read p6.found) in
    let d7 = more_front _ _ _ _ _ d6 (lines_found p6.rest p7.rest p7.read p7.found) in
    d7 ∙ (ap (λ r. with_times (times_spelling p4.read) ++ r) w.0 ∙ (ap (λ t. with_times t ++ purge_spelling m.0.expired) w.1 ∙ ap head_spelling m.2))
