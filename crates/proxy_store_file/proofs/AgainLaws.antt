-- A store that is spelled is read as it was.
use Rattle.std.proofs.Common.{◌≡◌, ℕ, zero, suc, ◌+◌, ◌-◌, ◌<◌, ◌≤◌, ◌^◌, List, [], ◌∷◌, ◌++◌, length, take, refl, ap, sym, ◌∙◌, subst, Bool, true, false, cond, ◌==◌, ◌&&◌, ◌||◌, nat_le, nat_lt, Option, None, Some, Ok, Err, arith, append_assoc, add-one}
use Rattle.std.specs.Prelude.{bytes_eq, option_map}
use Rattle.std.specs.List.{flat_map, AllByRecursion}
use Rattle.std.proofs.Math.Dec.{eqb-suc-zero}
use Rattle.std.proofs.lemmas.Bool.{le-leb, lt-leb}
use Rattle.std.proofs.lemmas.List.{append-nil, length-append}
use Rattle.std.proofs.Math.Seq.{take-append_seam}
use Rattle.hx_fields.specs.Line.{Field}
use Rattle.hx_target.specs.declared.keys.Key.{Key}
use Rattle.hx_age.specs.declared.moments.Times.{Times}
use Rattle.hx_vary.specs.declared.nominated_values.NominatedValue.{NominatedValue}
use Rattle.hx_store.specs.Stored.{Stored}
use Rattle.hx_store.specs.Serials.{serial_is_in}
use Rattle.hx_store.specs.Shelf.{serials}
use Rattle.hx_store.specs.Weights.{StoreBounds, total_weight}
use Rattle.proxy_store_file.specs.declared.heads.Head.{Head}
use Rattle.proxy_store_file.specs.declared.store_faults.EntryPart.{EntryPart}
use Rattle.proxy_store_file.specs.declared.store_faults.StoreReadFault.{StoreReadFault}
use Rattle.proxy_store_file.specs.Texts.{number_spelling, text_spelling, number_of, is_number, leading_number, leading_text, cut, after}
use Rattle.proxy_store_file.specs.Heads.{times_spelling, key_spelling, nominated_text_spelling, nominated_value_spelling, nominated_spelling, line_spelling, lines_spelling, head_numbers_spelling, head_spelling, below, leading_number_below, times_with_response_and_rest, times_read_on_after_request, times_read_on_after_age, times_read_on_after_date, leading_times, times_with_purge_if_at_end, stored_times_with_purge_if_any, purge_spelling, key_with_path_and_rest, key_read_on_after_host, key_read_on_after_port, leading_key, some_value, value_after_length, leading_value, nominated_value_and_rest, nominated_value_read_on_after_name, leading_nominated_value, leading_nominated_values_after, leading_list_of_nominated_values, field_line_and_rest, line_read_on_after_name, leading_field_line, leading_field_lines_after, leading_field_lines, whole, unread_entry_head, head_read_on_after_lines, head_read_on_after_nominated, head_read_on_after_key, head_read_on_after_times, head_read_on_after_length, head_read_on_after_status, head_read_on_after_serial, head_spelled_in, head_of_entry}
use Rattle.proxy_store_file.specs.Parts.{most_entry_head_bytes, first_invalid_part}
use Rattle.proxy_store_file.specs.Fits.{TextLengthIs64Bit, ValueLengthIs64Bit, MomentIs64Bit, NominatedValueLengthsAre64Bit, FieldLineLengthsAre64Bit, EntryNumbersAre64Bit, EntryCanBeWritten, EntriesCanBeWritten, StoreCanBeWritten}
use Rattle.proxy_store_file.specs.Stores.{StoreContents, entry_spelling, entries_spelling, first_line, opening_spelling, body_spelling, digest_spelling, store_spelling, LeadingEntryReading, Found, leading_entry, entry_fault, fault_of_part, entry_fault_against_held, store_weight_exceeds_bound, StoreReading, reading_or_short_file_fault, reading_of_digest, reading_of_end, reading_unless_entry_fault, reading_after_entry, reading_of_entries, reading_by_opening_numbers, reading_by_first_line, read_store}
use Rattle.proxy_store_file.proofs.TextLaws.{same_bytes, cut_again, length-number_spelling, number_of_spelled, is_number_spelled, number_again, text_again}
use Rattle.proxy_store_file.proofs.EntryLaws.{entry_found}

below_again : (bound n : ℕ) (more : List ℕ) → n < bound → n < 2 ^ 64 → leading_number_below bound (number_spelling n ++ more) ≡ Some (n, more)
below_again bound n more less fits =
    let t : nat_lt n bound ≡ true = le-leb (suc n) bound less in
    ap (λ (o : Option (ℕ × List ℕ)). after o (below bound)) (number_again n more fits) ∙ rw t refl

times_regroup : (a b c d more : List ℕ) → (((a ++ b) ++ c) ++ d) ++ more ≡ a ++ (b ++ (c ++ (d ++ more)))
times_regroup a b c d more = simp append_assoc

times_again : (t : Times) (more : List ℕ) → t.date < 2 ^ 64 → t.age_value < 2 ^ 32 → t.request_time < 2 ^ 64 → t.response_time < 2 ^ 64
    → leading_times (times_spelling t ++ more) ≡ Some (record t { expired = None }, more)
times_again t more f1 f2 f3 f4 =
    let d = number_spelling t.date in let a = number_spelling t.age_value in
    let r = number_spelling t.request_time in let s = number_spelling t.response_time in
    let wide : t.age_value < 2 ^ 64 = omega (arith, f2) in
    ap leading_times (times_regroup d a r s more)
    ∙ (ap (λ (o : Option (ℕ × List ℕ)). after o times_read_on_after_date) (number_again t.date (a ++ (r ++ (s ++ more))) f1)
    ∙ (ap (λ (o : Option (ℕ × List ℕ)). after o (times_read_on_after_age t.date)) (below_again (2 ^ 32) t.age_value (r ++ (s ++ more)) f2 wide)
    ∙ (ap (λ (o : Option (ℕ × List ℕ)). after o (times_read_on_after_request t.date t.age_value)) (number_again t.request_time (s ++ more) f3)
    ∙ ap (λ (o : Option (ℕ × List ℕ)). after o (times_with_response_and_rest t.date t.age_value t.request_time)) (number_again t.response_time more f4))))

three_regroup : (a b c more : List ℕ) → ((a ++ b) ++ c) ++ more ≡ a ++ (b ++ (c ++ more))
three_regroup a b c more = simp append_assoc

key_again : (k : Key) (more : List ℕ) → k.port < 2 ^ 16 → TextLengthIs64Bit k.host → TextLengthIs64Bit k.path_query → leading_key (key_spelling k ++ more) ≡ Some (k, more)
key_again k more f1 f2 f3 =
    let p = number_spelling k.port in let h = text_spelling k.host in let q = text_spelling k.path_query in
    let wide : k.port < 2 ^ 64 = omega (arith, f1) in
    ap leading_key (three_regroup p h q more)
    ∙ (ap (λ (o : Option (ℕ × List ℕ)). after o key_read_on_after_port) (below_again (2 ^ 16) k.port (h ++ (q ++ more)) f1 wide)
    ∙ (ap (λ (o : Option (List ℕ × List ℕ)). after o (key_read_on_after_host k.port)) (text_again k.host (q ++ more) f2)
    ∙ ap (λ (o : Option (List ℕ × List ℕ)). after o (key_with_path_and_rest k.port k.host)) (text_again k.path_query more f3)))

line_again : (l : Field) (more : List ℕ) → FieldLineLengthsAre64Bit l → leading_field_line (line_spelling l ++ more) ≡ Some (l, more)
line_again l more fits =
    ap leading_field_line (append_assoc (text_spelling l.name) (text_spelling l.value) more)
    ∙ (ap (λ (o : Option (List ℕ × List ℕ)). after o line_read_on_after_name) (text_again l.name (text_spelling l.value ++ more) fits.0)
    ∙ ap (λ (o : Option (List ℕ × List ℕ)). after o (field_line_and_rest l.name)) (text_again l.value more fits.1))

value_behind_again : (n : ℕ) (value more : List ℕ) → n ≡ length value + 1 → value_after_length n (value ++ more) ≡ Some (Some value, more)
value_behind_again n value more e =
    let some : (n == 0) ≡ false = ap (λ k. k == 0) (e ∙ add-one (length value)) ∙ eqb-suc-zero (length value) in
    let one : length value ≡ n - 1 = omega (arith, e) in
    rw some (ap (λ (o : Option (List ℕ × List ℕ)). after o some_value) (cut_again value more (n - 1) one))

value_again : (v : Option (List ℕ)) (more : List ℕ) → ValueLengthIs64Bit v → leading_value (nominated_text_spelling v ++ more) ≡ Some (v, more)
value_again None more fits = ap (λ (o : Option (ℕ × List ℕ)). after o value_after_length) (number_again 0 more (omega arith))
value_again (Some v) more fits =
    ap leading_value (append_assoc (number_spelling (length v + 1)) v more)
    ∙ (ap (λ (o : Option (ℕ × List ℕ)). after o value_after_length) (number_again (length v + 1) (v ++ more) fits)
    ∙ value_behind_again (length v + 1) v more refl)

kept_again : (k : NominatedValue) (more : List ℕ) → NominatedValueLengthsAre64Bit k → leading_nominated_value (nominated_value_spelling k ++ more) ≡ Some (k, more)
kept_again k more fits =
    ap leading_nominated_value (append_assoc (text_spelling k.name) (nominated_text_spelling k.value) more)
    ∙ (ap (λ (o : Option (List ℕ × List ℕ)). after o nominated_value_read_on_after_name) (text_again k.name (nominated_text_spelling k.value ++ more) fits.0)
    ∙ ap (λ (o : Option (Option (List ℕ) × List ℕ)). after o (nominated_value_and_rest k.name)) (value_again k.value more fits.1))

lines_behind_again : (read ls : List Field) (more : List ℕ) → AllByRecursion FieldLineLengthsAre64Bit ls
    → leading_field_lines_after read (length ls) (flat_map line_spelling ls ++ more) ≡ Some (read ++ ls, more)
lines_behind_again read [] more fits = ap (λ (xs : List Field). Some (xs, more)) (sym (append-nil read))
lines_behind_again read (l ∷ ls) more fits =
    ap (λ b. leading_field_lines_after read (suc (length ls)) b) (append_assoc (line_spelling l) (flat_map line_spelling ls) more)
    ∙ (ap (λ (o : Option (Field × List ℕ)). after o (λ line rest. leading_field_lines_after (read ++ line ∷ []) (length ls) rest)) (line_again l (flat_map line_spelling ls ++ more) fits.0)
    ∙ (lines_behind_again (read ++ l ∷ []) ls more fits.1
    ∙ ap (λ (xs : List Field). Some (xs, more)) (append_assoc read (l ∷ []) ls)))

values_behind_again : (read ks : List NominatedValue) (more : List ℕ) → AllByRecursion NominatedValueLengthsAre64Bit ks
    → leading_nominated_values_after read (length ks) (flat_map nominated_value_spelling ks ++ more) ≡ Some (read ++ ks, more)
values_behind_again read [] more fits = ap (λ (xs : List NominatedValue). Some (xs, more)) (sym (append-nil read))
values_behind_again read (k ∷ ks) more fits =
    ap (λ b. leading_nominated_values_after read (suc (length ks)) b) (append_assoc (nominated_value_spelling k) (flat_map nominated_value_spelling ks) more)
    ∙ (ap (λ (o : Option (NominatedValue × List ℕ)). after o (λ kept rest. leading_nominated_values_after (read ++ kept ∷ []) (length ks) rest)) (kept_again k (flat_map nominated_value_spelling ks ++ more) fits.0)
    ∙ (values_behind_again (read ++ k ∷ []) ks more fits.1
    ∙ ap (λ (xs : List NominatedValue). Some (xs, more)) (append_assoc read (k ∷ []) ks)))

lines_again : (ls : List Field) (more : List ℕ) → length ls < 2 ^ 64 → AllByRecursion FieldLineLengthsAre64Bit ls → leading_field_lines (lines_spelling ls ++ more) ≡ Some (ls, more)
lines_again ls more few fits =
    ap leading_field_lines (append_assoc (number_spelling (length ls)) (flat_map line_spelling ls) more)
    ∙ (ap (λ (o : Option (ℕ × List ℕ)). after o (leading_field_lines_after [])) (number_again (length ls) (flat_map line_spelling ls ++ more) few)
    ∙ lines_behind_again [] ls more fits)

nominated_again : (ks : List NominatedValue) (more : List ℕ) → length ks < 2 ^ 64 → AllByRecursion NominatedValueLengthsAre64Bit ks → leading_list_of_nominated_values (nominated_spelling ks ++ more) ≡ Some (ks, more)
nominated_again ks more few fits =
    ap leading_list_of_nominated_values (append_assoc (number_spelling (length ks)) (flat_map nominated_value_spelling ks) more)
    ∙ (ap (λ (o : Option (ℕ × List ℕ)). after o (leading_nominated_values_after [])) (number_again (length ks) (flat_map nominated_value_spelling ks ++ more) few)
    ∙ values_behind_again [] ks more fits)

purge_again : (purge : Option ℕ) (t : Times) → MomentIs64Bit purge → stored_times_with_purge_if_any (record t { expired = None }) (purge_spelling purge) ≡ Some (record t { expired = purge })
purge_again None t fits = refl
purge_again (Some moment) t fits =
    let some : (length (number_spelling moment) == 0) ≡ false = ap (λ n. n == 0) (length-number_spelling moment) in
    rw some (
    ap (λ (bytes : List ℕ). after (leading_number bytes) (times_with_purge_if_at_end (record t { expired = None }))) (sym (append-nil (number_spelling moment)))
    ∙ ap (λ (o : Option (ℕ × List ℕ)). after o (times_with_purge_if_at_end (record t { expired = None }))) (number_again moment [] fits)
    )

head_regroup : (a b c t k n l p : List ℕ) → ((((((a ++ b) ++ c) ++ t) ++ k) ++ n) ++ l) ++ p ≡ a ++ (b ++ (c ++ (t ++ (k ++ (n ++ (l ++ p))))))
head_regroup a b c t k n l p = simp append_assoc

head_again : (e : Stored) → EntryNumbersAre64Bit e → head_spelled_in (head_spelling (head_of_entry e)) ≡ Some (head_of_entry e)
unfolding head_spelled_in
head_again e fits =
    let a = number_spelling e.serial in let b = number_spelling e.status in let c = number_spelling (length e.content) in
    let t = times_spelling e.times in let k = key_spelling e.key in let n = nominated_spelling e.nominated in let l = lines_spelling e.fields in
    let p = purge_spelling e.times.expired in
    let h1 : Head = record unread_entry_head { serial = e.serial } in
    let h2 : Head = record h1 { status = e.status } in
    let h3 : Head = record h2 { content_length = length e.content } in
    let h4 : Head = record h3 { times = record e.times { expired = None } } in
    let h5 : Head = record h4 { key = e.key } in
    let h6 : Head = record h5 { nominated = e.nominated } in
    let wide : e.status < 2 ^ 64 = omega (arith, fits.status) in
    ap (λ bytes. after (leading_number bytes) head_read_on_after_serial) (head_regroup a b c t k n l p)
    ∙ (ap (λ (o : Option (ℕ × List ℕ)). after o head_read_on_after_serial) (number_again e.serial (b ++ (c ++ (t ++ (k ++ (n ++ (l ++ p)))))) fits.serial)
    ∙ (ap (λ (o : Option (ℕ × List ℕ)). after o (head_read_on_after_status h1)) (below_again (2 ^ 16) e.status (c ++ (t ++ (k ++ (n ++ (l ++ p))))) fits.status wide)
    ∙ (ap (λ (o : Option (ℕ × List ℕ)). after o (head_read_on_after_length h2)) (number_again (length e.content) (t ++ (k ++ (n ++ (l ++ p)))) fits.content)
    ∙ (ap (λ (o : Option (Times × List ℕ)). after o (head_read_on_after_times h3)) (times_again e.times (k ++ (n ++ (l ++ p))) fits.date fits.age fits.request fits.response)
    ∙ (ap (λ (o : Option (Key × List ℕ)). after o (head_read_on_after_key h4)) (key_again e.key (n ++ (l ++ p)) fits.port fits.host fits.path_query)
    ∙ (ap (λ (o : Option (List NominatedValue × List ℕ)). after o (head_read_on_after_nominated h5)) (nominated_again e.nominated (l ++ p) fits.values fits.nominated)
    ∙ (ap (λ (o : Option (List Field × List ℕ)). after o (head_read_on_after_lines h6)) (lines_again e.fields p fits.lines fits.fields)
    ∙ ap (λ (o : Option Times). option_map (λ times. record h6 { times = times; fields = e.fields }) o) (purge_again e.times.expired e.times fits.purge))))))))

entry_again : (e : Stored) (more : List ℕ) → EntryNumbersAre64Bit e → length (head_spelling (head_of_entry e)) ≤ most_entry_head_bytes → leading_entry (entry_spelling e ++ more) ≡ Found e more
entry_again e more fits short =
    let head = head_spelling (head_of_entry e) in
    let wide : length head < 2 ^ 64 = omega (arith, short) in
    let number = number_of_spelled (length head) wide in
    entry_found (number_spelling (length head)) head e.content more (head_of_entry e) (length-number_spelling (length head)) (is_number_spelled (length head) wide)
    (subst (λ n. n ≤ most_entry_head_bytes) (sym number) short) (sym number) (head_again e fits) refl

no_fault_by : (o : Option EntryPart) (a b c : Bool) (n : ℕ) (f g : Option StoreReadFault) → o ≡ None → a ≡ false → b ≡ false → c ≡ false
    → fault_of_part n o (cond {A = Option StoreReadFault} (a || b) f (cond {A = Option StoreReadFault} c g None)) ≡ None
no_fault_by o a b c n f g e1 e2 e3 e4 = rw (e1, e2, e3, e4) refl

no_fault : (n : ℕ) (most : Option ℕ) (next : ℕ) (held : List Stored) (e : Stored) → EntryCanBeWritten most next held e → entry_fault n most next held e ≡ None
no_fault n most next held e stands =
    no_fault_by (first_invalid_part e) (serial_is_in e.serial (serials held)) (nat_le next e.serial) (store_weight_exceeds_bound most (total_weight (e ∷ held))) n _ _
    stands.parts stands.is_new (lt-leb next e.serial stands.below_next) stands.weighs

entries_again : (es : List Stored) (n left : ℕ) (text : List ℕ) (most : Option ℕ) (next : ℕ) (rest : List ℕ) → n ≡ length es + left → EntriesCanBeWritten most next es
    → reading_of_entries text most next n [] (entries_spelling es ++ rest) ≡ reading_of_entries text most next left es rest
entries_again [] n left text most next rest e stand =
    let same : n ≡ left = omega (arith, e) in ap (λ k. reading_of_entries text most next k [] rest) same
entries_again (x ∷ xs) n left text most next rest e stand =
    let later : n ≡ length xs + suc left = omega (arith, e) in
    ap (λ b. reading_of_entries text most next n [] b) (append_assoc (entries_spelling xs) (entry_spelling x) rest)
    ∙ (entries_again xs n (suc left) text most next (entry_spelling x ++ rest) later stand.1
    ∙ (ap (reading_after_entry most next xs (λ y more. reading_of_entries text most next left (y ∷ xs) more)) (entry_again x rest stand.0.fits stand.0.short)
    ∙ ap (λ (f : Option StoreReadFault). reading_unless_entry_fault f (reading_of_entries text most next left (x ∷ xs) rest)) (no_fault (length xs + 1) most next xs x stand.0)))

length-digest_spelling : (body : List ℕ) → length (digest_spelling body) ≡ 8
unfolding digest_spelling
length-digest_spelling body = length-number_spelling _

digest_again : (body digest : List ℕ) (store : StoreContents) → digest ≡ digest_spelling body → reading_of_digest body store digest [] ≡ Ok store
digest_again body digest store e = rw (same_bytes digest (digest_spelling body) e) refl

end_again : (text body : List ℕ) (store : StoreContents) → text ≡ body ++ digest_spelling body → reading_of_end text store (digest_spelling body) ≡ Ok store
end_again text body store split =
    let digest = digest_spelling body in
    let n = length-digest_spelling body in
    let long : length text - length digest ≡ length body = omega (arith, ap length split ∙ length-append body digest) in
    let front : take (length text - length digest) text ≡ body =
    ap (λ k. take k text) long ∙ (ap (λ x. take (length body) x) split ∙ take-append_seam body digest) in
    let all : cut 8 digest ≡ Some (digest, []) = ap (cut 8) (sym (append-nil digest)) ∙ cut_again digest [] 8 n in
    ap (λ (o : Option (List ℕ × List ℕ)). reading_or_short_file_fault (length store.entries) o (reading_of_digest (take (length text - length digest) text) store)) all
    ∙ digest_again (take (length text - length digest) text) digest store (ap digest_spelling (sym front))

counted_again : (bounds : StoreBounds) (text a b rest : List ℕ) (n m : ℕ) → is_number a ≡ true → is_number b ≡ true → number_of a ≡ n → number_of b ≡ m
    → m ≤ bounds.entries → reading_by_opening_numbers bounds text a b rest ≡ reading_of_entries text bounds.bytes n m [] rest
counted_again bounds text a b rest n m sa sb na nb few =
    let within : nat_le m bounds.entries ≡ true = le-leb m bounds.entries few in
    rw (sa, sb, na, nb, within) refl

store_regroup : (a b c es d : List ℕ) → (((a ++ b) ++ c) ++ es) ++ d ≡ a ++ (b ++ (c ++ (es ++ d)))
store_regroup a b c es d = simp append_assoc

pub told_stores_are_read : (bounds : StoreBounds) (store : StoreContents) → StoreCanBeWritten bounds store → read_store bounds (store_spelling store) ≡ Ok store
unfolding read_store
told_stores_are_read bounds store told =
    let text = store_spelling store in
    let next = number_spelling store.next_serial in let number = number_spelling (length store.entries) in
    let es = entries_spelling store.entries in let digest = digest_spelling (body_spelling store) in
    ap (λ (o : Option (List ℕ × List ℕ)). reading_or_short_file_fault 0 o (reading_by_first_line bounds text)) (ap (cut 17) (store_regroup first_line next number es digest) ∙ cut_again first_line (next ++ (number ++ (es ++ digest))) 17 refl)
    ∙ (ap (λ (o : Option (List ℕ × List ℕ)). reading_or_short_file_fault 0 o (λ a more. reading_or_short_file_fault 0 (cut 8 more) (reading_by_opening_numbers bounds text a))) (cut_again next (number ++ (es ++ digest)) 8 (length-number_spelling store.next_serial))
    ∙ (ap (λ (o : Option (List ℕ × List ℕ)). reading_or_short_file_fault 0 o (reading_by_opening_numbers bounds text next)) (cut_again number (es ++ digest) 8 (length-number_spelling (length store.entries)))
    ∙ (counted_again bounds text next number (es ++ digest) store.next_serial (length store.entries) (is_number_spelled store.next_serial told.next_serial)
    (is_number_spelled (length store.entries) told.number) (number_of_spelled store.next_serial told.next_serial) (number_of_spelled (length store.entries) told.number) told.few
    ∙ (entries_again store.entries (length store.entries) 0 text bounds.bytes store.next_serial digest (omega arith) told.entries
    ∙ end_again text (body_spelling store) store refl))))
