-- The opening, an entry and the end of a file, read from a reader.
use Rattle.std.proofs.Common.{◌≡◌, ◌≢◌, ℕ, suc, ◌+◌, ◌-◌, ◌<◌, ◌≤◌, ◌^◌, List, [], ◌∷◌, ◌++◌, length, take, refl, ap, sym, ◌∙◌, subst, Bool, true, false, cond, ◌==◌, ◌&&◌, ◌||◌, nat_le, nat_lt, Option, None, Some, Ok, Err, arith, inl, inr, append-nil, if◌then◌else◌}
use Rattle.std.specs.Prelude.{bytes_eq}
use Rattle.std.specs.Hash.DefaultHasher.{initial, write, finish}
use Rattle.std.specs.Cmp.Lexicographic.{bytes_decides}
use Rattle.std.specs.declared.hash.DefaultHasher.{DefaultHasher}
use Rattle.std.proofs.lemmas.Bool.{lt-leb, le-leb, cases_Bool, ne_eqb}
use Rattle.std.proofs.lemmas.List.{length-append, take_all}
use Rattle.std.proofs.Math.Seq.{take-append_seam}
use Rattle.hx_store.specs.Stored.{Stored}
use Rattle.hx_store.specs.Serials.{serial_is_in}
use Rattle.hx_store.specs.Shelf.{serials, without_serials}
use Rattle.hx_store.specs.Weights.{StoreBounds, total_weight}
use Rattle.proxy_store_file.specs.declared.store_faults.EntryPart.{EntryPart}
use Rattle.proxy_store_file.specs.declared.store_faults.EntryPart.TheVariants as part
use Rattle.proxy_store_file.specs.declared.store_faults.StoreReadFault.{StoreReadFault}
use Rattle.proxy_store_file.specs.declared.store_faults.StoreReadFault.TheVariants as fault
use Rattle.proxy_store_file.specs.declared.pieces.ReadStop.{ReadStop}
use Rattle.proxy_store_file.specs.declared.pieces.ReadStop.TheVariants as stop
use Rattle.proxy_store_file.specs.Parts.{first_invalid_part}
use Rattle.proxy_store_file.specs.Texts.{cut, number_of, is_number, number_spelling}
use Rattle.proxy_store_file.specs.Stores.{StoreContents, StoreReading, LeadingEntryReading, store_weight_exceeds_bound, leading_entry, entry_fault, reading_unless_entry_fault, reading_after_entry, fault_of_part, entry_fault_against_held, reading_of_entries, reading_by_opening_numbers, reading_by_first_line, reading_or_short_file_fault, first_line, first_line_words, digest_spelling, reading_of_digest, reading_of_end, read_store}
use Rattle.proxy_store_file.specs.Streams.{ReaderGaveBytes, EightBytesGaveNumber, ReaderStoppedShort, EntryIsRead, IsLessThanAnEntry, reading_of_entry, ReaderGaveReading, ReaderIsRefusedFor, ReadingIsWholeOrTooShort, FileFrontIsRead, NextEntryIsRead, EntryIsRefused, FileEndIsRead, FileEndIsRefused, bounds_of, store_contents_of, fault_of_stop, first_line_fault}
use Rattle.proxy_store_file.proofs.TextLaws.{cut_again, same_bytes, number_is_spelled, number_of_spelled}
use Rattle.proxy_store_file.proofs.EntryLaws.{cut_short}
use Rattle.proxy_store_file.proofs.HeadLaws.{empty}
use Rattle.proxy_store_file.proofs.Fronts.{Bytes, read_behind, refused_behind, front_behind, front_same, front_decides, front_for_memory, refused_by_reading, stopped, front_cut, front_stops}

-- ---- the opening

pub store_short : (bounds : StoreBounds) (bytes : List ℕ) → length bytes < 17 → read_store bounds bytes ≡ Err (fault.Short 0)
unfolding read_store
store_short bounds bytes few = ap (λ (o : Option (List ℕ × List ℕ)). reading_or_short_file_fault 0 o (reading_by_first_line bounds bytes)) (cut_short 17 bytes few)

store_line : (bounds : StoreBounds) (line more : List ℕ) → length line ≡ 17 → read_store bounds (line ++ more) ≡ reading_by_first_line bounds (line ++ more) line more
unfolding read_store
store_line bounds line more long = ap (λ (o : Option (List ℕ × List ℕ)). reading_or_short_file_fault 0 o (reading_by_first_line bounds (line ++ more))) (cut_again line more 17 long)

pub line_is_read : (bounds : StoreBounds) (a b : Bytes) (h0 h1 : DefaultHasher) (line : List ℕ) → ReaderGaveBytes a b h0 h1 line → length line ≡ 17
    → FileFrontIsRead (read_store bounds) (λ text rest. reading_by_first_line bounds text line rest) a b h0 h1
line_is_read bounds a b h0 h1 line given long = record { bytes = line; gave = given; reads = λ more. store_line bounds line more long }

abbrev pub next_read : StoreBounds → List ℕ → List ℕ → List ℕ → StoreReading
next_read bounds text next more = reading_or_short_file_fault 0 (cut 8 more) (reading_by_opening_numbers bounds text next)

line_good_by : (t u : Bool) → cond {A = Option StoreReadFault} t None (cond u (Some fault.Version) (Some fault.NotAStore)) ≡ None → t ≡ true
line_good_by true u e = refl
line_good_by false true e = absurd (cc)
line_good_by false false e = absurd (cc)

pub line_is_good : (bounds : StoreBounds) (a b : Bytes) (h0 h1 : DefaultHasher) (line : List ℕ) → ReaderGaveBytes a b h0 h1 line → length line ≡ 17 → first_line_fault line ≡ None
    → FileFrontIsRead (read_store bounds) (λ text rest. reading_or_short_file_fault 0 (cut 8 rest) (next_read bounds text)) a b h0 h1
line_is_good bounds a b h0 h1 line given long none =
    let good : bytes_eq line first_line ≡ true = line_good_by (bytes_eq line first_line) (bytes_eq (take 15 line) first_line_words) none in
    front_same (read_store bounds) (λ text rest. reading_by_first_line bounds text line rest) (λ text rest. reading_or_short_file_fault 0 (cut 8 rest) (next_read bounds text)) a b h0 h1
    (line_is_read bounds a b h0 h1 line given long)
    (λ text rest. ap (λ t. cond {A = StoreReading} t (reading_or_short_file_fault 0 (cut 8 rest) (next_read bounds text)) (cond (bytes_eq (take 15 line) first_line_words) (Err fault.Version) (Err fault.NotAStore))) good)

-- what a bad line is read as, and that it is no fault of the reader
line_bad_by : (t u : Bool) (good : StoreReading) (f : StoreReadFault) → cond {A = Option StoreReadFault} t None (cond u (Some fault.Version) (Some fault.NotAStore)) ≡ Some f
    → cond {A = StoreReading} t good (cond u (Err fault.Version) (Err fault.NotAStore)) ≡ Err f
line_bad_by true u good f e = absurd (cc)
line_bad_by false true good f e = cc
line_bad_by false false good f e = cc

line_not_by : (t u : Bool) (f x : StoreReadFault) → cond {A = Option StoreReadFault} t None (cond u (Some fault.Version) (Some fault.NotAStore)) ≡ Some f
    → fault.Version ≢ x → fault.NotAStore ≢ x → f ≢ x
line_not_by true u f x e p q = λ is. absurd (cc)
line_not_by false true f x e p q = λ is. p (cc)
line_not_by false false f x e p q = λ is. q (cc)

pub line_is_refused : (bounds : StoreBounds) (a b : Bytes) (h0 h1 : DefaultHasher) (line : List ℕ) (f : StoreReadFault) → ReaderGaveBytes a b h0 h1 line → length line ≡ 17 → first_line_fault line ≡ Some f
    → ReaderIsRefusedFor (read_store bounds) a b f
line_is_refused bounds a b h0 h1 line f given long is =
    let t = bytes_eq line first_line in
    let u = bytes_eq (take 15 line) first_line_words in
    refused_by_reading (read_store bounds) a b f (line_not_by t u f fault.Read is (λ e. absurd (cc)) (λ e. absurd (cc))) (line_not_by t u f fault.OutOfMemory is (λ e. absurd (cc)) (λ e. absurd (cc)))
    (front_decides (read_store bounds) (λ text rest. reading_by_first_line bounds text line rest) a b h0 h1 (Err f) (line_is_read bounds a b h0 h1 line given long)
    (λ text rest. line_bad_by t u (reading_or_short_file_fault 0 (cut 8 rest) (next_read bounds text)) f is))

-- the number behind the first line, and the one behind that
pub next_is_read : (bounds : StoreBounds) (a b c : Bytes) (h0 h1 h2 : DefaultHasher) (line : List ℕ) (next : ℕ) → ReaderGaveBytes a b h0 h1 line → length line ≡ 17 → first_line_fault line ≡ None
    → (g : EightBytesGaveNumber b c h1 h2 next) → FileFrontIsRead (read_store bounds) (λ text rest. reading_or_short_file_fault 0 (cut 8 rest) (reading_by_opening_numbers bounds text g.bytes)) a c h0 h2
next_is_read bounds a b c h0 h1 h2 line next given long none g =
    front_cut (read_store bounds) (next_read bounds) 0 a b c h0 h1 h2 g.bytes (line_is_good bounds a b h0 h1 line given long none) g.gave g.are_eight

counted_good : (bounds : StoreBounds) (text A B rest : List ℕ) (next number : ℕ) → is_number A ≡ true → is_number B ≡ true → next ≡ number_of A → number ≡ number_of B
    → number ≤ bounds.entries → reading_by_opening_numbers bounds text A B rest ≡ reading_of_entries text bounds.bytes next number [] rest
counted_good bounds text A B rest next number p q m n few =
    let within : nat_le (number_of B) bounds.entries ≡ true = le-leb (number_of B) bounds.entries (subst (λ k. k ≤ bounds.entries) n few) in
    ap (λ t. cond {A = StoreReading} (t && is_number B) (cond (nat_le (number_of B) bounds.entries) (reading_of_entries text bounds.bytes (number_of A) (number_of B) [] rest) (Err fault.Entries)) (Err fault.NotAStore)) p
    ∙ (ap (λ t. cond {A = StoreReading} t (cond (nat_le (number_of B) bounds.entries) (reading_of_entries text bounds.bytes (number_of A) (number_of B) [] rest) (Err fault.Entries)) (Err fault.NotAStore)) q
    ∙ (ap (λ t. cond {A = StoreReading} t (reading_of_entries text bounds.bytes (number_of A) (number_of B) [] rest) (Err fault.Entries)) within
    ∙ (ap (λ k. reading_of_entries text bounds.bytes k (number_of B) [] rest) (sym m) ∙ ap (λ k. reading_of_entries text bounds.bytes next k [] rest) (sym n))))

counted_bad : (bounds : StoreBounds) (text A B rest : List ℕ) (number : ℕ) → is_number A ≡ true → is_number B ≡ true → number ≡ number_of B
    → bounds.entries < number → reading_by_opening_numbers bounds text A B rest ≡ Err fault.Entries
counted_bad bounds text A B rest number p q n many =
    let beyond : nat_le (number_of B) bounds.entries ≡ false = lt-leb (number_of B) bounds.entries (subst (λ k. bounds.entries < k) n many) in
    ap (λ t. cond {A = StoreReading} (t && is_number B) (cond (nat_le (number_of B) bounds.entries) (reading_of_entries text bounds.bytes (number_of A) (number_of B) [] rest) (Err fault.Entries)) (Err fault.NotAStore)) p
    ∙ (ap (λ t. cond {A = StoreReading} t (cond (nat_le (number_of B) bounds.entries) (reading_of_entries text bounds.bytes (number_of A) (number_of B) [] rest) (Err fault.Entries)) (Err fault.NotAStore)) q
    ∙ ap (λ t. cond {A = StoreReading} t (reading_of_entries text bounds.bytes (number_of A) (number_of B) [] rest) (Err fault.Entries)) beyond)

abbrev pub after_opening : StoreBounds → ℕ → ℕ → List ℕ → List ℕ → StoreReading
after_opening bounds next number text rest = reading_of_entries text bounds.bytes next number [] rest

numbers_are_read : (bounds : StoreBounds) (a b c d : Bytes) (h0 h1 h2 h3 : DefaultHasher) (line : List ℕ) (next number : ℕ) → ReaderGaveBytes a b h0 h1 line → length line ≡ 17 → first_line_fault line ≡ None
    → (g : EightBytesGaveNumber b c h1 h2 next) → (k : EightBytesGaveNumber c d h2 h3 number) → FileFrontIsRead (read_store bounds) (λ text rest. reading_by_opening_numbers bounds text g.bytes k.bytes rest) a d h0 h3
numbers_are_read bounds a b c d h0 h1 h2 h3 line next number given long none g k =
    front_cut (read_store bounds) (λ text eight rest. reading_by_opening_numbers bounds text g.bytes eight rest) 0 a c d h0 h2 h3 k.bytes
    (next_is_read bounds a b c h0 h1 h2 line next given long none g) k.gave k.are_eight

pub opening_is_read : (bounds : StoreBounds) (a b c d : Bytes) (h0 h1 h2 h3 : DefaultHasher) (line : List ℕ) (next number : ℕ) → ReaderGaveBytes a b h0 h1 line → length line ≡ 17 → first_line_fault line ≡ None
    → EightBytesGaveNumber b c h1 h2 next → EightBytesGaveNumber c d h2 h3 number → number ≤ bounds.entries → FileFrontIsRead (read_store bounds) (after_opening bounds next number) a d h0 h3
opening_is_read bounds a b c d h0 h1 h2 h3 line next number given long none g k few =
    front_same (read_store bounds) (λ text rest. reading_by_opening_numbers bounds text g.bytes k.bytes rest) (after_opening bounds next number) a d h0 h3
    (numbers_are_read bounds a b c d h0 h1 h2 h3 line next number given long none g k)
    (λ text rest. counted_good bounds text g.bytes k.bytes rest next number g.is_number k.is_number g.number k.number few)

pub too_many_entries : (bounds : StoreBounds) (a b c d : Bytes) (h0 h1 h2 h3 : DefaultHasher) (line : List ℕ) (next number : ℕ) → ReaderGaveBytes a b h0 h1 line → length line ≡ 17 → first_line_fault line ≡ None
    → EightBytesGaveNumber b c h1 h2 next → EightBytesGaveNumber c d h2 h3 number → bounds.entries < number → ReaderIsRefusedFor (read_store bounds) a d fault.Entries
too_many_entries bounds a b c d h0 h1 h2 h3 line next number given long none g k many =
    front_decides (read_store bounds) (λ text rest. reading_by_opening_numbers bounds text g.bytes k.bytes rest) a d h0 h3 (Err fault.Entries)
    (numbers_are_read bounds a b c d h0 h1 h2 h3 line next number given long none g k)
    (λ text rest. counted_bad bounds text g.bytes k.bytes rest number g.is_number k.is_number k.number many)

pub stops_in_line : (bounds : StoreBounds) (a b : Bytes) (why : ReadStop) → ReaderStoppedShort (λ bytes. length bytes < 17) a b why → ReaderIsRefusedFor (read_store bounds) a b (fault_of_stop 0 why)
stops_in_line bounds a b why s = stopped (read_store bounds) (λ bytes. length bytes < 17) a b 0 why s (store_short bounds)

pub stops_in_next : (bounds : StoreBounds) (a b c : Bytes) (h0 h1 : DefaultHasher) (line : List ℕ) (why : ReadStop) → ReaderGaveBytes a b h0 h1 line → length line ≡ 17 → first_line_fault line ≡ None
    → ReaderStoppedShort (λ bytes. length bytes < 8) b c why → ReaderIsRefusedFor (read_store bounds) a c (fault_of_stop 0 why)
stops_in_next bounds a b c h0 h1 line why given long none s =
    front_stops (read_store bounds) (next_read bounds) 0 a b c h0 h1 why (line_is_good bounds a b h0 h1 line given long none) s

pub stops_in_count : (bounds : StoreBounds) (a b c d : Bytes) (h0 h1 h2 : DefaultHasher) (line : List ℕ) (next : ℕ) (why : ReadStop) → ReaderGaveBytes a b h0 h1 line → length line ≡ 17 → first_line_fault line ≡ None
    → EightBytesGaveNumber b c h1 h2 next → ReaderStoppedShort (λ bytes. length bytes < 8) c d why → ReaderIsRefusedFor (read_store bounds) a d (fault_of_stop 0 why)
stops_in_count bounds a b c d h0 h1 h2 line next why given long none g s =
    front_stops (read_store bounds) (λ text eight rest. reading_by_opening_numbers bounds text g.bytes eight rest) 0 a c d h0 h2 why (next_is_read bounds a b c h0 h1 h2 line next given long none g) s

-- ---- an entry

abbrev pub more_entries : Option ℕ → ℕ → ℕ → List Stored → List ℕ → Stored → List ℕ → StoreReading
more_entries most next left held text e more = reading_of_entries text most next left (e ∷ held) more

pub entry_is_taken : (most : Option ℕ) (next : ℕ) (held : List Stored) (e : Stored) (a b : Bytes) (h0 h1 : DefaultHasher)
    → EntryIsRead a b h0 h1 (reading_of_entry (Some e)) → entry_fault (length held + 1) most next held e ≡ None → NextEntryIsRead most next held (e ∷ held) a b h0 h1
entry_is_taken most next held e a b h0 h1 r none = λ front left. record {
  bytes = r.bytes;
  gave = r.gave;
  reads = λ more. ap (reading_after_entry most next held (more_entries most next left held (front ++ (r.bytes ++ more)))) (r.reads more)
      ∙ ap (λ o. reading_unless_entry_fault o (reading_of_entries (front ++ (r.bytes ++ more)) most next left (e ∷ held) more)) none;
}

-- a fault of an entry isn't one of the reader, nor of memory
standing_by : (t u : Bool) (n : ℕ) (f x : StoreReadFault) → cond {A = Option StoreReadFault} t (Some (fault.Serial n)) (cond u (Some (fault.Weight n)) None) ≡ Some f
    → fault.Serial n ≢ x → fault.Weight n ≢ x → f ≢ x
standing_by true u n f x e p q = λ is. p (cc)
standing_by false true n f x e p q = λ is. q (cc)
standing_by false false n f x e p q = λ is. absurd (cc)

part_by : (o : Option EntryPart) (t u : Bool) (n : ℕ) (f x : StoreReadFault)
    → fault_of_part n o (cond {A = Option StoreReadFault} t (Some (fault.Serial n)) (cond u (Some (fault.Weight n)) None)) ≡ Some f
    → ((p : EntryPart) → fault.Entry n p ≢ x) → fault.Serial n ≢ x → fault.Weight n ≢ x → f ≢ x
part_by None t u n f x e r p q = standing_by t u n f x e p q
part_by (Some y) t u n f x e r p q = λ is. r y (cc)

pub entry_is_refused : (most : Option ℕ) (next : ℕ) (held : List Stored) (e : Stored) (f : StoreReadFault) (a b : Bytes) (h0 h1 : DefaultHasher)
    → EntryIsRead a b h0 h1 (reading_of_entry (Some e)) → entry_fault (length held + 1) most next held e ≡ Some f → EntryIsRefused most next held a b f
entry_is_refused most next held e f a b h0 h1 r is = λ front left.
    let n = length held + 1 in
    let t = serial_is_in e.serial (serials held) || nat_le next e.serial in
    let u = store_weight_exceeds_bound most (total_weight (e ∷ held)) in
    refused_by_reading (λ rest. reading_of_entries (front ++ rest) most next (suc left) held rest) a b f
    (part_by (first_invalid_part e) t u n f fault.Read is (λ p d. absurd (cc)) (λ d. absurd (cc)) (λ d. absurd (cc)))
    (part_by (first_invalid_part e) t u n f fault.OutOfMemory is (λ p d. absurd (cc)) (λ d. absurd (cc)) (λ d. absurd (cc)))
    (record {
      bytes = r.bytes;
      consumes = r.gave.consumes;
      ended = false;
      whole = λ d. absurd (cc);
      reads = λ more none. ap (reading_after_entry most next held (more_entries most next left held (front ++ (r.bytes ++ more)))) (r.reads more)
          ∙ ap (λ o. reading_unless_entry_fault o (reading_of_entries (front ++ (r.bytes ++ more)) most next left (e ∷ held) more)) is;
    })

pub entry_has_no_shape : (most : Option ℕ) (next : ℕ) (held : List Stored) (a b : Bytes) (h0 h1 : DefaultHasher)
    → EntryIsRead a b h0 h1 (reading_of_entry None) → EntryIsRefused most next held a b (fault.Entry (length held + 1) part.Head)
entry_has_no_shape most next held a b h0 h1 r = λ front left. record {
  bytes = r.bytes;
  consumes = r.gave.consumes;
  ended = false;
  whole = λ d. absurd (cc);
  reads = λ more none. ap (reading_after_entry most next held (more_entries most next left held (front ++ (r.bytes ++ more)))) (r.reads more);
}

pub entry_stops : (most : Option ℕ) (next : ℕ) (held : List Stored) (a b : Bytes) (why : ReadStop) → ReaderStoppedShort IsLessThanAnEntry a b why → EntryIsRefused most next held a b (fault_of_stop (length held) why)
entry_stops most next held a b why s = λ front left.
    stopped (λ rest. reading_of_entries (front ++ rest) most next (suc left) held rest) IsLessThanAnEntry a b (length held) why s
    (λ bytes cut. ap (reading_after_entry most next held (more_entries most next left held (front ++ bytes))) cut)

pub entry_for_memory : (most : Option ℕ) (next : ℕ) (held : List Stored) (e : Stored) (a b : Bytes) (h0 h1 : DefaultHasher)
    → EntryIsRead a b h0 h1 (reading_of_entry (Some e)) → EntryIsRefused most next held a b fault.OutOfMemory
entry_for_memory most next held e a b h0 h1 r = λ front left. record { bytes = r.bytes; consumes = r.gave.consumes; reads = tt }

-- an entry that is put in front of fewer than there is room for stands there with the others
without_no_serials : (es : List Stored) → without_serials [] es ≡ es
without_no_serials [] = refl
without_no_serials (e ∷ es) = ap (λ xs. e ∷ xs) (without_no_serials es)

pub put_in_front : (limit n : ℕ) (e : Stored) (es new : List Stored) → new ≡ take limit (e ∷ without_serials [] es) → n ≡ length es + 1 → n ≤ limit → new ≡ e ∷ es
put_in_front limit n e es new is long room =
    is ∙ (ap (λ xs. take limit (e ∷ xs)) (without_no_serials es) ∙ take_all limit (e ∷ es) (omega (arith, long, room)))

-- ---- the end

abbrev pub nothing_more : StoreContents → List ℕ → List ℕ → StoreReading
nothing_more store text rest = if length rest == 0 then Ok store else Err fault.Long

body_in_front : (front rest : List ℕ) → take (length (front ++ rest) - length rest) (front ++ rest) ≡ front
body_in_front front rest =
    let long : length (front ++ rest) - length rest ≡ length front = omega (arith, length-append front rest) in
    ap (λ n. take n (front ++ rest)) long ∙ take-append_seam front rest

digest_behind : (front digest more : List ℕ) (store : StoreContents) → length digest ≡ 8
    → reading_of_end (front ++ (digest ++ more)) store (digest ++ more) ≡ reading_of_digest front store digest more
digest_behind front digest more store long =
    ap (λ (o : Option (List ℕ × List ℕ)). reading_or_short_file_fault (length store.entries) o (reading_of_digest (take (length (front ++ (digest ++ more)) - length (digest ++ more)) (front ++ (digest ++ more))) store)) (cut_again digest more 8 long)
    ∙ ap (λ body. reading_of_digest body store digest more) (body_in_front front (digest ++ more))

digest_is_so : (front digest : List ℕ) (w d : ℕ) → is_number digest ≡ true → w ≡ number_of digest → d ≡ finish (write initial front) → w ≡ d
    → bytes_eq digest (digest_spelling front) ≡ true
unfolding digest_spelling
digest_is_so front digest w d spelled is of same =
    same_bytes digest (number_spelling (finish (write initial front)))
    ((number_is_spelled digest spelled).1 ∙ ap number_spelling (sym is ∙ (same ∙ of)))

digest_isnt_so : (front digest : List ℕ) (w d : ℕ) → w ≡ number_of digest → d ≡ finish (write initial front) → d < 2 ^ 64 → w ≢ d
    → bytes_eq digest (digest_spelling front) ≡ false
unfolding digest_spelling
digest_isnt_so front digest w d is of fits other = elim (cases_Bool (bytes_eq digest (number_spelling (finish (write initial front))))) [
  | inl t ↦ absurd (other (is ∙ (ap number_of ((bytes_decides digest (number_spelling (finish (write initial front)))).0 t)
      ∙ (ap (λ n. number_of (number_spelling n)) (sym of) ∙ number_of_spelled d fits))))
  | inr f ↦ f
]

pub end_stops : (held : List Stored) (a b : Bytes) (h0 : DefaultHasher) (n : ℕ) (why : ReadStop) → length held ≡ n → ReaderStoppedShort (λ bytes. length bytes < 8) a b why
    → FileEndIsRefused held a b h0 (fault_of_stop n why)
end_stops held a b h0 n why long s = λ front next is.
    stopped (λ rest. reading_of_end (front ++ rest) (store_contents_of held next) rest) (λ bytes. length bytes < 8) a b n why s
    (λ bytes few. ap (λ (o : Option (List ℕ × List ℕ)). reading_or_short_file_fault (length held) o (reading_of_digest (take (length (front ++ bytes) - length bytes) (front ++ bytes)) (store_contents_of held next))) (cut_short 8 bytes few)
    ∙ ap (λ k. Err (fault.Short k)) long)

abbrev pub reads_end : List Stored → List ℕ → ℕ → List ℕ → StoreReading
reads_end held front next rest = reading_of_end (front ++ rest) (store_contents_of held next) rest

-- the digest is that of the front
pub digest_is_read : (held : List Stored) (a b : Bytes) (h0 h1 : DefaultHasher) (w d : ℕ) → EightBytesGaveNumber a b h0 h1 w → d ≡ finish h0 → w ≡ d
    → (front : List ℕ) (next : ℕ) → h0 ≡ write initial front → FileFrontIsRead (reads_end held front next) (nothing_more (store_contents_of held next)) a b h0 h1
digest_is_read held a b h0 h1 w d g of same front next is =
    let good : bytes_eq g.bytes (digest_spelling front) ≡ true = digest_is_so front g.bytes w d g.is_number g.number (of ∙ ap finish is) same in
    record {
      bytes = g.bytes;
      gave = g.gave;
      reads = λ more. digest_behind front g.bytes more (store_contents_of held next) g.are_eight
          ∙ ap (λ t. cond {A = StoreReading} t (nothing_more (store_contents_of held next) more more) (Err fault.Digest)) good;
    }

pub digest_is_refused : (held : List Stored) (a b : Bytes) (h0 h1 : DefaultHasher) (w d : ℕ) → EightBytesGaveNumber a b h0 h1 w → d ≡ finish h0 → d < 2 ^ 64 → w ≢ d
    → FileEndIsRefused held a b h0 fault.Digest
digest_is_refused held a b h0 h1 w d g of fits other = λ front next is.
    let bad : bytes_eq g.bytes (digest_spelling front) ≡ false = digest_isnt_so front g.bytes w d g.number (of ∙ ap finish is) fits other in
    record {
      bytes = g.bytes;
      consumes = g.gave.consumes;
      ended = false;
      whole = λ e. absurd (cc);
      reads = λ more none. digest_behind front g.bytes more (store_contents_of held next) g.are_eight
          ∙ ap (λ t. cond {A = StoreReading} t (nothing_more (store_contents_of held next) more more) (Err fault.Digest)) bad;
    }

one_is_not_none : (one more : List ℕ) → length one ≡ 1 → (length (one ++ more) == 0) ≡ false
one_is_not_none [] more e = absurd (omega (arith, e))
one_is_not_none (x ∷ xs) more e = ne_eqb (length (x ∷ (xs ++ more))) 0 (λ none. absurd (omega arith))

pub more_follows : (held : List Stored) (a b c : Bytes) (h0 h1 h2 : DefaultHasher) (w d : ℕ) (one : List ℕ) → EightBytesGaveNumber a b h0 h1 w → d ≡ finish h0 → w ≡ d
    → ReaderGaveBytes b c h1 h2 one → length one ≡ 1 → FileEndIsRefused held a c h0 fault.Long
more_follows held a b c h0 h1 h2 w d one g of same given long = λ front next is.
    refused_behind (reads_end held front next) (nothing_more (store_contents_of held next)) a b c h0 h1 fault.Long (digest_is_read held a b h0 h1 w d g of same front next is)
    (record {
      bytes = one;
      consumes = given.consumes;
      ended = false;
      whole = λ e. absurd (cc);
      reads = λ more none. ap (λ t. cond {A = StoreReading} t (Ok (store_contents_of held next)) (Err fault.Long)) (one_is_not_none one more long);
    })

none_left : (xs : List ℕ) → length xs < 1 → xs ≡ []
none_left [] few = refl
none_left (x ∷ xs) few = absurd (omega arith)

end_by : (held : List Stored) (next : ℕ) (bytes : List ℕ) → length bytes < 1 → nothing_more (store_contents_of held next) bytes bytes ≡ Ok (store_contents_of held next)
end_by held next bytes few = ap (λ (xs : List ℕ). nothing_more (store_contents_of held next) xs xs) (none_left bytes few)

pub end_is_read : (held : List Stored) (a b c : Bytes) (h0 h1 : DefaultHasher) (w d : ℕ) → EightBytesGaveNumber a b h0 h1 w → d ≡ finish h0 → w ≡ d
    → ReaderStoppedShort (λ bytes. length bytes < 1) b c stop.Ended → FileEndIsRead held a c h0
end_is_read held a b c h0 h1 w d g of same s = λ front next is.
    let few : length s.bytes < 1 = s.few (λ e. absurd (cc)) in
    read_behind (reads_end held front next) (nothing_more (store_contents_of held next)) a b c h0 h1 (Ok (store_contents_of held next)) (digest_is_read held a b h0 h1 w d g of same front next is)
    (record {
      bytes = s.bytes;
      consumes = s.consumes;
      ended = true;
      whole = λ e. s.ended refl;
      reads = λ more none. ap (λ m. nothing_more (store_contents_of held next) (s.bytes ++ m) (s.bytes ++ m)) (none refl)
          ∙ (ap (λ m. nothing_more (store_contents_of held next) m m) (append-nil s.bytes) ∙ end_by held next s.bytes few);
    })

pub end_isnt_seen : (held : List Stored) (a b c : Bytes) (h0 h1 : DefaultHasher) (w d : ℕ) → EightBytesGaveNumber a b h0 h1 w → d ≡ finish h0 → w ≡ d
    → ReaderStoppedShort (λ bytes. length bytes < 1) b c stop.Failed → FileEndIsRefused held a c h0 fault.Read
end_isnt_seen held a b c h0 h1 w d g of same s = λ front next is.
    let few : length s.bytes < 1 = s.few (λ e. absurd (cc)) in
    refused_behind (reads_end held front next) (nothing_more (store_contents_of held next)) a b c h0 h1 fault.Read (digest_is_read held a b h0 h1 w d g of same front next is)
    (record { bytes = s.bytes; consumes = s.consumes; reads = subst ReadingIsWholeOrTooShort (sym (end_by held next s.bytes few)) tt })

pub memory_at_the_end : (held : List Stored) (a b c : Bytes) (h0 h1 : DefaultHasher) (w d : ℕ) → EightBytesGaveNumber a b h0 h1 w → d ≡ finish h0 → w ≡ d
    → ReaderStoppedShort (λ bytes. length bytes < 1) b c stop.OutOfMemory → FileEndIsRefused held a c h0 fault.OutOfMemory
memory_at_the_end held a b c h0 h1 w d g of same s = λ front next is.
    refused_behind (reads_end held front next) (nothing_more (store_contents_of held next)) a b c h0 h1 fault.OutOfMemory (digest_is_read held a b h0 h1 w d g of same front next is)
    (record { bytes = s.bytes; consumes = s.consumes; reads = tt })

-- ---- the whole

-- the entries that are left, behind those that are held
abbrev pub EntriesAreRead : StoreBounds → ℕ → ℕ → List Stored → Bytes → Bytes → DefaultHasher → DefaultHasher → Type 0
EntriesAreRead bounds next left held a b h0 h1 = FileFrontIsRead (read_store bounds) (λ text more. reading_of_entries text bounds.bytes next left held more) a b h0 h1

pub one_more_is_read : (bounds : StoreBounds) (next number i : ℕ) (held more : List Stored) (a b c : Bytes) (h0 h1 h2 : DefaultHasher) → i < number
    → EntriesAreRead bounds next (number - i) held a b h0 h1 → NextEntryIsRead bounds.bytes next held more b c h1 h2
    → EntriesAreRead bounds next (number - (i + 1)) more a c h0 h2
one_more_is_read bounds next number i held more a b c h0 h1 h2 within f taken =
    let e : number - i ≡ suc (number - (i + 1)) = omega arith in
    let g = subst (λ left. EntriesAreRead bounds next left held a b h0 h1) e f in
    front_behind (read_store bounds) (λ text rest. reading_of_entries text bounds.bytes next (suc (number - (i + 1))) held rest) (λ text rest. reading_of_entries text bounds.bytes next (number - (i + 1)) more rest)
    a b c h0 h1 h2 g (taken g.bytes (number - (i + 1)))

pub one_more_is_refused : (bounds : StoreBounds) (next number i : ℕ) (held : List Stored) (a b c : Bytes) (h0 h1 : DefaultHasher) (f : StoreReadFault) → i < number
    → EntriesAreRead bounds next (number - i) held a b h0 h1 → EntryIsRefused bounds.bytes next held b c f → ReaderIsRefusedFor (read_store bounds) a c f
one_more_is_refused bounds next number i held a b c h0 h1 f within before refused =
    let e : number - i ≡ suc (number - (i + 1)) = omega arith in
    let g = subst (λ left. EntriesAreRead bounds next left held a b h0 h1) e before in
    refused_behind (read_store bounds) (λ text rest. reading_of_entries text bounds.bytes next (suc (number - (i + 1))) held rest) a b c h0 h1 f g (refused g.bytes (number - (i + 1)))

-- no entry is left: the end is read
abbrev EndIsNext : StoreBounds → ℕ → List Stored → Bytes → Bytes → DefaultHasher → DefaultHasher → Type 0
EndIsNext bounds next held a b h0 h1 = FileFrontIsRead (read_store bounds) (λ text rest. reading_of_end text (store_contents_of held next) rest) a b h0 h1

all_are_read : (bounds : StoreBounds) (next left : ℕ) (held : List Stored) (a b : Bytes) (h0 h1 : DefaultHasher) → left ≡ 0 → EntriesAreRead bounds next left held a b h0 h1
    → EndIsNext bounds next held a b h0 h1
all_are_read bounds next left held a b h0 h1 none f = subst (λ n. EntriesAreRead bounds next n held a b h0 h1) none f

pub store_is_read : (bounds : StoreBounds) (next left : ℕ) (held : List Stored) (a b c : Bytes) (h0 h1 : DefaultHasher) → left ≡ 0 → h0 ≡ initial → EntriesAreRead bounds next left held a b h0 h1
    → FileEndIsRead held b c h1 → ReaderGaveReading (read_store bounds) a c (Ok (store_contents_of held next))
store_is_read bounds next left held a b c h0 h1 none new f end =
    let g = all_are_read bounds next left held a b h0 h1 none f in
    read_behind (read_store bounds) (λ text rest. reading_of_end text (store_contents_of held next) rest) a b c h0 h1 (Ok (store_contents_of held next)) g
    (end g.bytes next (g.gave.hashed ∙ ap (λ h. write h g.bytes) new))

pub store_is_refused : (bounds : StoreBounds) (next left : ℕ) (held : List Stored) (a b c : Bytes) (h0 h1 : DefaultHasher) (f : StoreReadFault) → left ≡ 0 → h0 ≡ initial
    → EntriesAreRead bounds next left held a b h0 h1 → FileEndIsRefused held b c h1 f → ReaderIsRefusedFor (read_store bounds) a c f
store_is_refused bounds next left held a b c h0 h1 f none new before end =
    let g = all_are_read bounds next left held a b h0 h1 none before in
    refused_behind (read_store bounds) (λ text rest. reading_of_end text (store_contents_of held next) rest) a b c h0 h1 f g
    (end g.bytes next (g.gave.hashed ∙ ap (λ h. write h g.bytes) new))
