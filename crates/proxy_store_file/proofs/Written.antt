-- What a writer took, one call further, and what of the entries is told by it.
use Rattle.std.proofs.Common.{take-add, ◌≡◌, ℕ, ◌+◌, ◌-◌, ◌<◌, List, [], ◌∷◌, ◌++◌, length, take, drop, refl, ap, sym, subst, ◌∙◌, Option, None, Some, Result, Ok, Err, OnOk, OnErr, arith, append_assoc, append-nil}
use Rattle.std.specs.Hash.DefaultHasher.{initial, write, finish}
use Rattle.std.specs.Io.KnownBytes.{Appends}
use Rattle.std.specs.declared.hash.DefaultHasher.{DefaultHasher}
use Rattle.std.proofs.KnownBytes.{Appends-trans, Appends-nil}
use Rattle.std.proofs.lemmas.List.{take-append-drop, take_rest, length-append}
use Rattle.hx_store.specs.Stored.{Stored}
use Rattle.hx_store.specs.Weights.{entry_evicted_by_weight, entries_after_one_weight_eviction}
use Rattle.hx_store.proofs.ShedEntries.{shed_is_last, nothing_shed_stays}
use Rattle.proxy_store_file.specs.declared.store_faults.WriteFault.{WriteFault}
use Rattle.proxy_store_file.specs.declared.store_faults.WriteFault.TheVariants as fault
use Rattle.proxy_store_file.specs.Stores.{entry_spelling, entries_spelling, opening_spelling, digest_spelling, store_spelling}
use Rattle.proxy_store_file.specs.Streams.{store_contents_of}
use Rattle.proxy_store_file.specs.Texts.{number_spelling}
use Rattle.proxy_store_file.specs.Writing.{WriterTookBytes, WriterTookAFront, StoreWasNotWritten, IsFirstFaultUnlessWriteOrMemory, entry_write_fault, store_write_fault, first_fault_of_two}
use Rattle.proxy_store_file.proofs.Emptied.{nothing_is_shed}
use Rattle.proxy_store_file.proofs.Given.{write-nil, write-append}

abbrev Bytes : Type 0
Bytes = Option (List ℕ)

pub more_written : (a b c : Bytes) (bytes : List ℕ) (at n k : ℕ) → k ≡ at + n → Appends a b (take at bytes) → Appends b c (take n (take (length bytes - at) (drop at bytes))) → Appends a c (take k bytes)
more_written a b c bytes at n k e before now =
    subst (Appends a c) (sym (ap (λ j. take j bytes) e ∙ take-add at n bytes))
    (Appends-trans a b c (take at bytes) (take n (drop at bytes)) before (subst (λ xs. Appends b c (take n xs)) (take_rest bytes at) now))

pub front_taken : (a b : Bytes) (bytes : List ℕ) (k : ℕ) → Appends a b (take k bytes) → WriterTookAFront a b bytes
front_taken a b bytes k taken = record { front = take k bytes; rest = drop k bytes; is_front = take-append-drop k bytes; appends = taken }

pub on_ok : {A E : Type 0} (r : Result A E) (P Q : Type 0) → (P → Q) → OnOk r P → OnOk r Q
on_ok (Ok a) P Q f h = f h
on_ok (Err e) P Q f h = tt

pub on_err : {A E : Type 0} (r : Result A E) (P Q : Type 0) → (P → Q) → OnErr r P → OnErr r Q
on_err (Ok a) P Q f h = tt
on_err (Err e) P Q f h = f h

pub took_more : (a b c : Bytes) (h0 h1 h2 : DefaultHasher) (xs ys : List ℕ) → WriterTookBytes a b h0 h1 xs → WriterTookBytes b c h1 h2 ys → WriterTookBytes a c h0 h2 (xs ++ ys)
took_more a b c h0 h1 h2 xs ys p q = record {
  appends = Appends-trans a b c xs ys p.appends q.appends;
  hashed = q.hashed ∙ (ap (λ h. write h ys) p.hashed ∙ sym (write-append h0 xs ys));
}

pub front_before : (a b : Bytes) (xs ys : List ℕ) → WriterTookAFront a b xs → WriterTookAFront a b (xs ++ ys)
front_before a b xs ys f = record {
  front = f.front;
  rest = f.rest ++ ys;
  is_front = sym (append_assoc f.front f.rest ys) ∙ ap (λ zs. zs ++ ys) f.is_front;
  appends = f.appends;
}

pub front_behind_all : (a b c : Bytes) (xs ys : List ℕ) → Appends a b xs → WriterTookAFront b c ys → WriterTookAFront a c (xs ++ ys)
front_behind_all a b c xs ys p f = record {
  front = xs ++ f.front;
  rest = f.rest;
  is_front = append_assoc xs f.front f.rest ∙ ap (λ zs. xs ++ zs) f.is_front;
  appends = Appends-trans a b c xs f.front p f.appends;
}

-- ---- the entries

pub entries_spelling-append : (xs ys : List Stored) → entries_spelling (xs ++ ys) ≡ entries_spelling ys ++ entries_spelling xs
entries_spelling-append [] ys = sym (append-nil (entries_spelling ys))
entries_spelling-append (x ∷ xs) ys =
    ap (λ t. t ++ entry_spelling x) (entries_spelling-append xs ys) ∙ append_assoc (entries_spelling ys) (entries_spelling xs) (entry_spelling x)

fault_stays : (next : ℕ) (xs ys : List Stored) (f : WriteFault) → store_write_fault next ys ≡ Some f → store_write_fault next (xs ++ ys) ≡ Some f
fault_stays next [] ys f is = is
fault_stays next (x ∷ xs) ys f is = ap (λ o. first_fault_of_two o (entry_write_fault (length (xs ++ ys) + 1) next x)) (fault_stays next xs ys f is)

told_by : (next : ℕ) (xs ys : List Stored) (first : Option WriteFault) (f : WriteFault) → (first ≡ Some f → store_write_fault next (xs ++ ys) ≡ Some f) → IsFirstFaultUnlessWriteOrMemory first f
    → IsFirstFaultUnlessWriteOrMemory (store_write_fault next (xs ++ ys)) f
told_by next xs ys first fault.Write stays is = tt
told_by next xs ys first fault.OutOfMemory stays is = tt
told_by next xs ys first f stays is = stays is

-- what was written when some entries are gone
pub record SoFarWritten (next : ℕ) (all held : List Stored) (a b : Bytes) (h0 h1 : DefaultHasher) (number : ℕ) : Type 0 where
  pub gone : List Stored
  pub whole : held ++ gone ≡ all
  pub took : WriterTookBytes a b h0 h1 (entries_spelling gone)
  pub told : store_write_fault next gone ≡ None
  pub counted : number ≡ length gone

pub nothing_written : (next : ℕ) (all : List Stored) (a : Bytes) (h : DefaultHasher) → WriterTookBytes a a h h [] → SoFarWritten next all all a a h h 0
nothing_written next all a h none = record { gone = []; whole = append-nil all; took = none; told = refl; counted = refl }

pub took_none : (a : Bytes) (h : DefaultHasher) → WriterTookBytes a a h h []
took_none a h = record { appends = Appends-nil a; hashed = sym (write-nil h) }

pub one_went : (es held : List Stored) (e : Stored) → entry_evicted_by_weight 0 es ≡ Some e → held ≡ entries_after_one_weight_eviction 0 es → length held + 1 ≡ length es
one_went es held e evict_last_beyond_weight is =
    let long : length (entries_after_one_weight_eviction 0 es) + length (e ∷ []) ≡ length es = sym (length-append (entries_after_one_weight_eviction 0 es) (e ∷ [])) ∙ ap length (shed_is_last 0 es e evict_last_beyond_weight) in
    omega (arith, ap length is, long)

-- the last one went
went : (es all gone held : List Stored) (e : Stored) → entry_evicted_by_weight 0 es ≡ Some e → held ≡ entries_after_one_weight_eviction 0 es → es ++ gone ≡ all → held ++ e ∷ gone ≡ all
went es all gone held e evict_last_beyond_weight is whole =
    ap (λ xs. xs ++ e ∷ gone) is
    ∙ (sym (append_assoc (entries_after_one_weight_eviction 0 es) (e ∷ []) gone) ∙ (ap (λ xs. xs ++ gone) (shed_is_last 0 es e evict_last_beyond_weight) ∙ whole))

pub one_more_written : (next number : ℕ) (all es held : List Stored) (e : Stored) (a b c : Bytes) (h0 h1 h2 : DefaultHasher) → SoFarWritten next all es a b h0 h1 number
    → entry_evicted_by_weight 0 es ≡ Some e → held ≡ entries_after_one_weight_eviction 0 es → WriterTookBytes b c h1 h2 (entry_spelling e) → entry_write_fault (number + 1) next e ≡ None
    → SoFarWritten next all held a c h0 h2 (number + 1)
one_more_written next number all es held e a b c h0 h1 h2 s evict_last_beyond_weight is took told = record {
  gone = e ∷ s.gone;
  whole = went es all s.gone held e evict_last_beyond_weight is s.whole;
  took = took_more a b c h0 h1 h2 (entries_spelling s.gone) (entry_spelling e) s.took took;
  told = ap (λ o. first_fault_of_two o (entry_write_fault (length s.gone + 1) next e)) s.told ∙ (ap (λ n. entry_write_fault (n + 1) next e) (sym s.counted) ∙ told);
  counted = omega (arith, s.counted);
}

pub one_not_written : (next number : ℕ) (all es held : List Stored) (e : Stored) (a b c : Bytes) (h0 h1 : DefaultHasher) (f : WriteFault) → SoFarWritten next all es a b h0 h1 number
    → entry_evicted_by_weight 0 es ≡ Some e → held ≡ entries_after_one_weight_eviction 0 es → StoreWasNotWritten b c (entry_spelling e) (entry_write_fault (number + 1) next e) f
    → StoreWasNotWritten a c (entries_spelling all) (store_write_fault next all) f
one_not_written next number all es held e a b c h0 h1 f s evict_last_beyond_weight is n =
    let whole = went es all s.gone held e evict_last_beyond_weight is s.whole in
    let first : store_write_fault next (e ∷ s.gone) ≡ entry_write_fault (number + 1) next e =
    ap (λ o. first_fault_of_two o (entry_write_fault (length s.gone + 1) next e)) s.told ∙ ap (λ n. entry_write_fault (n + 1) next e) (sym s.counted) in
    record {
      took = subst (WriterTookAFront a c) (sym (entries_spelling-append held (e ∷ s.gone)) ∙ ap entries_spelling whole)
          (front_before a c (entries_spelling s.gone ++ entry_spelling e) (entries_spelling held)
          (front_behind_all a b c (entries_spelling s.gone) (entry_spelling e) s.took.appends n.took));
      why = subst (λ xs. IsFirstFaultUnlessWriteOrMemory (store_write_fault next xs) f) whole
          (told_by next held (e ∷ s.gone) (entry_write_fault (number + 1) next e) f (λ so. fault_stays next held (e ∷ s.gone) f (first ∙ so)) n.why);
    }

pub rest_is_left : (next number : ℕ) (all es held : List Stored) (e : Stored) (a b : Bytes) (h0 h1 : DefaultHasher) → SoFarWritten next all es a b h0 h1 number
    → entry_evicted_by_weight 0 es ≡ Some e → held ≡ entries_after_one_weight_eviction 0 es → (gone : List Stored) × (held ++ gone ≡ all)
rest_is_left next number all es held e a b h0 h1 s evict_last_beyond_weight is = (e ∷ s.gone, went es all s.gone held e evict_last_beyond_weight is s.whole)

all_gone : (next number : ℕ) (all es : List Stored) (a b : Bytes) (h0 h1 : DefaultHasher) (s : SoFarWritten next all es a b h0 h1 number) → entry_evicted_by_weight 0 es ≡ None → s.gone ≡ all
all_gone next number all es a b h0 h1 s none = ap (λ xs. xs ++ s.gone) (sym (nothing_is_shed es none)) ∙ s.whole

pub all_written : (next number : ℕ) (all es : List Stored) (a b : Bytes) (h0 h1 : DefaultHasher) → SoFarWritten next all es a b h0 h1 number → entry_evicted_by_weight 0 es ≡ None
    → WriterTookBytes a b h0 h1 (entries_spelling all)
all_written next number all es a b h0 h1 s none = subst (λ xs. WriterTookBytes a b h0 h1 (entries_spelling xs)) (all_gone next number all es a b h0 h1 s none) s.took

pub all_told : (next number : ℕ) (all es : List Stored) (a b : Bytes) (h0 h1 : DefaultHasher) → SoFarWritten next all es a b h0 h1 number → entry_evicted_by_weight 0 es ≡ None
    → store_write_fault next all ≡ None
all_told next number all es a b h0 h1 s none = subst (λ xs. store_write_fault next xs ≡ None) (all_gone next number all es a b h0 h1 s none) s.told

pub none_left : (es held : List Stored) → entry_evicted_by_weight 0 es ≡ None → held ≡ entries_after_one_weight_eviction 0 es → held ≡ []
none_left es held none is = is ∙ (nothing_shed_stays 0 es none ∙ nothing_is_shed es none)

pub rest_is_all : (next number : ℕ) (all es held : List Stored) (a b : Bytes) (h0 h1 : DefaultHasher) → SoFarWritten next all es a b h0 h1 number → entry_evicted_by_weight 0 es ≡ None
    → held ≡ entries_after_one_weight_eviction 0 es → (gone : List Stored) × (held ++ gone ≡ all)
rest_is_all next number all es held a b h0 h1 s none is = (s.gone, ap (λ xs. xs ++ s.gone) (is ∙ nothing_shed_stays 0 es none) ∙ s.whole)

-- ---- the whole

abbrev opening_of : ℕ → List Stored → List ℕ
opening_of next es = opening_spelling next (length es)

abbrev body_of : ℕ → List Stored → List ℕ
body_of next es = opening_of next es ++ entries_spelling es

digest_is_written : (body : List ℕ) (d : ℕ) (h : DefaultHasher) → h ≡ write initial body → d ≡ finish h → number_spelling d ≡ digest_spelling body
unfolding digest_spelling
digest_is_written body d h is of = ap number_spelling (of ∙ ap finish is)

pub opening_ended : (next : ℕ) (es : List Stored) (a b : Bytes) (first : Option WriteFault) → WriterTookAFront a b (opening_of next es)
    → StoreWasNotWritten a b (store_spelling (store_contents_of es next)) first fault.Write
opening_ended next es a b first f = record {
  took = front_before a b (body_of next es) (digest_spelling (body_of next es)) (front_before a b (opening_of next es) (entries_spelling es) f);
  why = tt;
}

pub entries_ended : (next : ℕ) (es : List Stored) (a b c : Bytes) (h0 h1 : DefaultHasher) (first : Option WriteFault) (f : WriteFault) → WriterTookBytes a b h0 h1 (opening_of next es)
    → StoreWasNotWritten b c (entries_spelling es) first f → StoreWasNotWritten a c (store_spelling (store_contents_of es next)) first f
entries_ended next es a b c h0 h1 first f p n = record {
  took = front_before a c (body_of next es) (digest_spelling (body_of next es)) (front_behind_all a b c (opening_of next es) (entries_spelling es) p.appends n.took);
  why = n.why;
}

digest_of_all : (next : ℕ) (es : List Stored) (a b c : Bytes) (h0 h1 h2 : DefaultHasher) (d : ℕ) (digest : List ℕ) → WriterTookBytes a b h0 h1 (opening_of next es) → WriterTookBytes b c h1 h2 (entries_spelling es)
    → h0 ≡ initial → d ≡ finish h2 → digest ≡ number_spelling d → digest ≡ digest_spelling (body_of next es)
digest_of_all next es a b c h0 h1 h2 d digest p q new of is =
    let all = took_more a b c h0 h1 h2 (opening_of next es) (entries_spelling es) p q in
    is ∙ digest_is_written (body_of next es) d h2 (all.hashed ∙ ap (λ h. write h (body_of next es)) new) of

pub whole_written : (next : ℕ) (es : List Stored) (a b c e : Bytes) (h0 h1 h2 : DefaultHasher) (d : ℕ) (digest : List ℕ) → WriterTookBytes a b h0 h1 (opening_of next es) → WriterTookBytes b c h1 h2 (entries_spelling es)
    → h0 ≡ initial → d ≡ finish h2 → digest ≡ number_spelling d → Appends c e digest → Appends a e (store_spelling (store_contents_of es next))
whole_written next es a b c e h0 h1 h2 d digest p q new of is last =
    let all = took_more a b c h0 h1 h2 (opening_of next es) (entries_spelling es) p q in
    Appends-trans a c e (body_of next es) (digest_spelling (body_of next es)) all.appends
    (subst (Appends c e) (digest_of_all next es a b c h0 h1 h2 d digest p q new of is) last)

pub digest_ended : (next : ℕ) (es : List Stored) (a b c e : Bytes) (h0 h1 h2 : DefaultHasher) (d : ℕ) (digest : List ℕ) (first : Option WriteFault) → WriterTookBytes a b h0 h1 (opening_of next es)
    → WriterTookBytes b c h1 h2 (entries_spelling es) → h0 ≡ initial → d ≡ finish h2 → digest ≡ number_spelling d → (k : ℕ) × Appends c e (take k digest)
    → StoreWasNotWritten a e (store_spelling (store_contents_of es next)) first fault.Write
digest_ended next es a b c e h0 h1 h2 d digest first p q new of is last =
    let all = took_more a b c h0 h1 h2 (opening_of next es) (entries_spelling es) p q in
    record {
      took = front_behind_all a c e (body_of next es) (digest_spelling (body_of next es)) all.appends
          (subst (WriterTookAFront c e) (digest_of_all next es a b c h0 h1 h2 d digest p q new of is) (front_taken c e digest last.0 last.1));
      why = tt;
    }
