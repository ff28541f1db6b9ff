-- A text that is read is the spelling of what was read.
use Rattle.std.proofs.Common.{◌≡◌, ℕ, zero, suc, ◌+◌, ◌-◌, ◌<◌, ◌≤◌, List, [], ◌∷◌, ◌++◌, length, take, refl, ap, sym, ◌∙◌, subst, Bool, true, false, cond, ◌==◌, ◌&&◌, nat_le, Option, None, Some, Ok, Err, arith, append_assoc}
use Rattle.std.specs.Prelude.{bytes_eq}
use Rattle.std.specs.Cmp.Lexicographic.{bytes_decides}
use Rattle.std.proofs.lemmas.List.{append-nil, length-append}
use Rattle.std.proofs.Math.Seq.{take-append_seam}
use Rattle.hx_store.specs.Stored.{Stored}
use Rattle.hx_store.specs.Weights.{StoreBounds}
use Rattle.proxy_store_file.specs.declared.heads.Head.{Head}
use Rattle.proxy_store_file.specs.declared.store_faults.StoreReadFault.{StoreReadFault}
use Rattle.proxy_store_file.specs.declared.store_faults.StoreReadFault.TheVariants as fault
use Rattle.proxy_store_file.specs.Texts.{number_spelling, text_spelling, number_of, is_number, cut}
use Rattle.proxy_store_file.specs.Heads.{head_spelling, head_spelled_in, head_of_entry, stored_with_content}
use Rattle.proxy_store_file.specs.Parts.{most_entry_head_bytes}
use Rattle.proxy_store_file.specs.Stores.{StoreContents, entry_spelling, entries_spelling, first_line_words, first_line, opening_spelling, body_spelling, digest_spelling, store_spelling, LeadingEntryReading, Cut, Shapeless, Found, entry_reading_or_cut, found_entry_with_content, entry_read_on_after_head, entry_behind_length, leading_entry, entry_fault, StoreReading, reading_or_short_file_fault, reading_of_digest, reading_of_end, reading_unless_entry_fault, reading_after_entry, reading_of_entries, reading_by_opening_numbers, reading_by_first_line, read_store}
use Rattle.proxy_store_file.proofs.TextLaws.{both, cut_found, number_is_spelled}
use Rattle.proxy_store_file.proofs.HeadLaws.{more_front, head_found, empty}

-- something was cut off, and an entry read behind it
record EntryBehind (o : Option (List ℕ × List ℕ)) (k : List ℕ → List ℕ → LeadingEntryReading) (e : Stored) (more : List ℕ) : Type 0 where
  read : List ℕ
  rest : List ℕ
  found : ◌≡◌ {A = Option (List ℕ × List ℕ)} o (Some (read, rest))
  behind : k read rest ≡ Found e more

entry_behind_found : (o : Option (List ℕ × List ℕ)) (k : List ℕ → List ℕ → LeadingEntryReading) (e : Stored) (more : List ℕ) → entry_reading_or_cut o k ≡ Found e more → EntryBehind o k e more
entry_behind_found None k e more is = absurd (cc)
entry_behind_found (Some p) k e more is = record { read = p.0; rest = p.1; found = refl; behind = is }

abbrev head_behind : List ℕ → List ℕ → LeadingEntryReading
head_behind head more = entry_read_on_after_head (head_spelled_in head) more

length_found_by : (t : Bool) (number rest more : List ℕ) (e : Stored)
    → cond {A = LeadingEntryReading} t (entry_reading_or_cut (cut (number_of number) rest) head_behind) Shapeless ≡ Found e more
    → (t ≡ true) × (entry_reading_or_cut (cut (number_of number) rest) head_behind ≡ Found e more)
length_found_by true number rest more e is = (refl, is)
length_found_by false number rest more e is = absurd (cc)

-- a head and a content are those of the entry
head_of_stored : (h : Head) (content : List ℕ) → length content ≡ h.content_length → head_of_entry (stored_with_content h content) ≡ h
head_of_stored h content e = ap (λ n. record h { content_length = n }) e

content_found : (o : Option Head) (number head bytes more : List ℕ) (e : Stored) → o ≡ head_spelled_in head → number ≡ number_spelling (length head)
    → entry_read_on_after_head o bytes ≡ Found e more → (number ++ head) ++ bytes ≡ entry_spelling e ++ more
content_found None number head bytes more e is spelled found = absurd (cc)
content_found (Some h) number head bytes more e is spelled found =
    let q = entry_behind_found (cut h.content_length bytes) (found_entry_with_content h) e more found in
    let c = cut_found h.content_length bytes q.read q.rest q.found in
    let entry : stored_with_content h q.read ≡ e = cc in
    let rest : q.rest ≡ more = cc in
    let same : head ≡ head_spelling (head_of_entry (stored_with_content h q.read)) = head_found head h (sym is) ∙ ap head_spelling (sym (head_of_stored h q.read c.1)) in
    let front : number ++ head ≡ text_spelling (head_spelling (head_of_entry (stored_with_content h q.read))) =
    ap (λ x. x ++ head) spelled ∙ ap (λ x. number_spelling (length x) ++ x) same in
    ap (λ r. (number ++ head) ++ r) c.0
    ∙ (sym (append_assoc (number ++ head) q.read q.rest)
    ∙ (ap (λ x. (x ++ q.read) ++ q.rest) front
    ∙ (ap (λ x. entry_spelling x ++ q.rest) entry ∙ ap (λ r. entry_spelling e ++ r) rest)))

pub entry_is_spelled : (bytes more : List ℕ) (e : Stored) → leading_entry bytes ≡ Found e more → bytes ≡ entry_spelling e ++ more
unfolding leading_entry
entry_is_spelled bytes more e found =
    let p = entry_behind_found (cut 8 bytes) entry_behind_length e more found in
    let c = cut_found 8 bytes p.read p.rest p.found in
    let l = length_found_by (is_number p.read && nat_le (number_of p.read) most_entry_head_bytes) p.read p.rest more e p.behind in
    let t = both (is_number p.read) (nat_le (number_of p.read) most_entry_head_bytes) l.0 in
    let n = number_is_spelled p.read t.0 in
    let q = entry_behind_found (cut (number_of p.read) p.rest) head_behind e more l.1 in
    let d = cut_found (number_of p.read) p.rest q.read q.rest q.found in
    let spelled : p.read ≡ number_spelling (length q.read) = n.1 ∙ ap number_spelling (sym d.1) in
    more_front bytes p.read p.rest q.read q.rest c.0 d.0
    ∙ content_found (head_spelled_in q.read) p.read q.read q.rest more e refl spelled q.behind

-- what was read behind the entries that stand in front, and the digest at the end
record RestIsSpelled (text : List ℕ) (next left : ℕ) (held : List Stored) (rest : List ℕ) (store : StoreContents) : Type 0 where
  added : List Stored
  entries : store.entries ≡ added ++ held
  next_serial : store.next_serial ≡ next
  number : length added ≡ left
  digest : List ℕ
  spelling : rest ≡ entries_spelling added ++ digest
  is_digest : digest ≡ digest_spelling (take (length text - length digest) text)

-- something was cut off, and a store read behind it
record StoreBehind (o : Option (List ℕ × List ℕ)) (k : List ℕ → List ℕ → StoreReading) (store : StoreContents) : Type 0 where
  read : List ℕ
  rest : List ℕ
  found : ◌≡◌ {A = Option (List ℕ × List ℕ)} o (Some (read, rest))
  behind : k read rest ≡ Ok store

store_behind_found : (n : ℕ) (o : Option (List ℕ × List ℕ)) (k : List ℕ → List ℕ → StoreReading) (store : StoreContents) → reading_or_short_file_fault n o k ≡ Ok store → StoreBehind o k store
store_behind_found n None k store is = absurd (cc)
store_behind_found n (Some p) k store is = record { read = p.0; rest = p.1; found = refl; behind = is }

digest_found_by : (t u : Bool) (store other : StoreContents)
    → cond {A = StoreReading} t (cond {A = StoreReading} u (Ok store) (Err fault.Long)) (Err fault.Digest) ≡ Ok other → (t ≡ true) × ((u ≡ true) × (store ≡ other))
digest_found_by true true store other e = (refl, (refl, cc))
digest_found_by true false store other e = absurd (cc)
digest_found_by false true store other e = absurd (cc)
digest_found_by false false store other e = absurd (cc)

end_found : (text : List ℕ) (next : ℕ) (held : List Stored) (rest : List ℕ) (store : StoreContents)
    → reading_of_end text (record { entries = held; next_serial = next }) rest ≡ Ok store → RestIsSpelled text next 0 held rest store
end_found text next held rest store e =
    let own : StoreContents = record { entries = held; next_serial = next } in
    let body = take (length text - length rest) text in
    let p = store_behind_found (length held) (cut 8 rest) (reading_of_digest body own) store e in
    let c = cut_found 8 rest p.read p.rest p.found in
    let d = digest_found_by (bytes_eq p.read (digest_spelling body)) (length p.rest == 0) own store p.behind in
    let same : p.read ≡ digest_spelling body = (bytes_decides p.read (digest_spelling body)).0 d.0 in
    let alone : rest ≡ p.read = c.0 ∙ (ap (λ r. p.read ++ r) (empty p.rest d.1.0) ∙ append-nil p.read) in
    record {
      added = [];
      entries = ap (λ (s : StoreContents). s.entries) (sym d.1.1);
      next_serial = ap (λ (s : StoreContents). s.next_serial) (sym d.1.1);
      number = refl;
      digest = rest;
      spelling = refl;
      is_digest = alone ∙ same;
    }

pub entries_spelling-snoc : (es : List Stored) (e : Stored) → entries_spelling (es ++ e ∷ []) ≡ entry_spelling e ++ entries_spelling es
entries_spelling-snoc [] e = sym (append-nil (entry_spelling e))
entries_spelling-snoc (x ∷ xs) e =
    ap (λ r. r ++ entry_spelling x) (entries_spelling-snoc xs e) ∙ append_assoc (entry_spelling e) (entries_spelling xs) (entry_spelling x)

entry_taken_found : (o : Option StoreReadFault) (reading : StoreReading) (store : StoreContents) → reading_unless_entry_fault o reading ≡ Ok store → reading ≡ Ok store
entry_taken_found None reading store e = e
entry_taken_found (Some f) reading store e = absurd (cc)

one_more_entry : (text : List ℕ) (next left : ℕ) (held : List Stored) (e : Stored) (rest more : List ℕ) (store : StoreContents)
    → rest ≡ entry_spelling e ++ more → RestIsSpelled text next left (e ∷ held) more store → RestIsSpelled text next (suc left) held rest store
one_more_entry text next left held e rest more store front found = record {
  added = found.added ++ e ∷ [];
  entries = found.entries ∙ sym (append_assoc found.added (e ∷ []) held);
  next_serial = found.next_serial;
  number = length-append found.added (e ∷ []) ∙ omega (arith, found.number);
  digest = found.digest;
  spelling = front ∙ (ap (λ r. entry_spelling e ++ r) found.spelling
      ∙ (sym (append_assoc (entry_spelling e) (entries_spelling found.added) found.digest)
      ∙ ap (λ x. x ++ found.digest) (sym (entries_spelling-snoc found.added e))));
  is_digest = found.is_digest;
}

entry_step : (r : LeadingEntryReading) (text : List ℕ) (most : Option ℕ) (next left : ℕ) (held : List Stored) (rest : List ℕ) (store : StoreContents)
    → leading_entry rest ≡ r
    → ((e : Stored) (more : List ℕ) → reading_of_entries text most next left (e ∷ held) more ≡ Ok store → RestIsSpelled text next left (e ∷ held) more store)
    → reading_after_entry most next held (λ e more. reading_of_entries text most next left (e ∷ held) more) r ≡ Ok store → RestIsSpelled text next (suc left) held rest store
entry_step Cut text most next left held rest store is later e = absurd (cc)
entry_step Shapeless text most next left held rest store is later e = absurd (cc)
entry_step (Found x more) text most next left held rest store is later e =
    one_more_entry text next left held x rest more store (entry_is_spelled rest more x is)
    (later x more (entry_taken_found (entry_fault (length held + 1) most next held x) (reading_of_entries text most next left (x ∷ held) more) store e))

entries_found : (left : ℕ) (text : List ℕ) (most : Option ℕ) (next : ℕ) (held : List Stored) (rest : List ℕ) (store : StoreContents)
    → reading_of_entries text most next left held rest ≡ Ok store → RestIsSpelled text next left held rest store
entries_found zero text most next held rest store e = end_found text next held rest store e
entries_found (suc left) text most next held rest store e =
    entry_step (leading_entry rest) text most next left held rest store refl (λ x more. entries_found left text most next (x ∷ held) more store) e

counted_found_by : (t u : Bool) (reading : StoreReading) (store : StoreContents)
    → cond {A = StoreReading} t (cond {A = StoreReading} u reading (Err fault.Entries)) (Err fault.NotAStore) ≡ Ok store → (t ≡ true) × (reading ≡ Ok store)
counted_found_by true true reading store e = (refl, e)
counted_found_by true false reading store e = absurd (cc)
counted_found_by false true reading store e = absurd (cc)
counted_found_by false false reading store e = absurd (cc)

line_found_by : (t u : Bool) (reading : StoreReading) (store : StoreContents)
    → cond {A = StoreReading} t reading (cond {A = StoreReading} u (Err fault.Version) (Err fault.NotAStore)) ≡ Ok store → (t ≡ true) × (reading ≡ Ok store)
line_found_by true u reading store e = (refl, e)
line_found_by false true reading store e = absurd (cc)
line_found_by false false reading store e = absurd (cc)

-- a body and a digest, whose body is all in front of it
text_is_spelled : (text body digest : List ℕ) → text ≡ body ++ digest → digest ≡ digest_spelling (take (length text - length digest) text)
    → text ≡ body ++ digest_spelling body
text_is_spelled text body digest split is =
    let long : length text - length digest ≡ length body = omega (arith, ap length split ∙ length-append body digest) in
    let front : take (length text - length digest) text ≡ body =
    ap (λ n. take n text) long ∙ (ap (λ x. take (length body) x) split ∙ take-append_seam body digest) in
    split ∙ ap (λ x. body ++ x) (is ∙ ap digest_spelling front)

pub read_texts_are_spelled : (bounds : StoreBounds) (text : List ℕ) (store : StoreContents) → read_store bounds text ≡ Ok store → text ≡ store_spelling store
unfolding read_store
read_texts_are_spelled bounds text store e =
    let p = store_behind_found 0 (cut 17 text) (reading_by_first_line bounds text) store e in
    let a = cut_found 17 text p.read p.rest p.found in
    let l = line_found_by (bytes_eq p.read first_line) (bytes_eq (take 15 p.read) first_line_words)
    (reading_or_short_file_fault 0 (cut 8 p.rest) (λ next more. reading_or_short_file_fault 0 (cut 8 more) (reading_by_opening_numbers bounds text next))) store p.behind in
    let q = store_behind_found 0 (cut 8 p.rest) (λ next more. reading_or_short_file_fault 0 (cut 8 more) (reading_by_opening_numbers bounds text next)) store l.1 in
    let b = cut_found 8 p.rest q.read q.rest q.found in
    let r = store_behind_found 0 (cut 8 q.rest) (reading_by_opening_numbers bounds text q.read) store q.behind in
    let d = cut_found 8 q.rest r.read r.rest r.found in
    let n = counted_found_by (is_number q.read && is_number r.read) (nat_le (number_of r.read) bounds.entries)
    (reading_of_entries text bounds.bytes (number_of q.read) (number_of r.read) [] r.rest) store r.behind in
    let t = both (is_number q.read) (is_number r.read) n.0 in
    let s = entries_found (number_of r.read) text bounds.bytes (number_of q.read) [] r.rest store n.1 in
    let line : p.read ≡ first_line = (bytes_decides p.read first_line).0 l.0 in
    let held : s.added ≡ store.entries = sym (s.entries ∙ append-nil s.added) in
    let next : q.read ≡ number_spelling store.next_serial = (number_is_spelled q.read t.0).1 ∙ ap number_spelling (sym s.next_serial) in
    let number : r.read ≡ number_spelling (length store.entries) =
    (number_is_spelled r.read t.1).1 ∙ ap number_spelling (sym s.number ∙ ap length held) in
    let front = more_front text (p.read ++ q.read) q.rest r.read r.rest (more_front text p.read p.rest q.read q.rest a.0 b.0) d.0 in
    let opening : (p.read ++ q.read) ++ r.read ≡ opening_spelling store.next_serial (length store.entries) =
    ap (λ x. (x ++ q.read) ++ r.read) line ∙ (ap (λ x. (first_line ++ x) ++ r.read) next
    ∙ ap (λ x. (first_line ++ number_spelling store.next_serial) ++ x) number) in
    let split : text ≡ body_spelling store ++ s.digest =
    more_front text ((p.read ++ q.read) ++ r.read) r.rest (entries_spelling s.added) s.digest front s.spelling
    ∙ (ap (λ x. (x ++ entries_spelling s.added) ++ s.digest) opening
    ∙ ap (λ x. (opening_spelling store.next_serial (length store.entries) ++ entries_spelling x) ++ s.digest) held) in
    text_is_spelled text (body_spelling store) s.digest split s.is_digest
