-- What a reader gave, one call further.
use Rattle.std.proofs.Common.{◌≡◌, ◌≢◌, ℕ, ◌+◌, ◌-◌, ◌<◌, ◌≤◌, List, [], ◌++◌, length, take, refl, ap, sym, ◌∙◌, subst, Option, arith}
use Rattle.std.specs.Hash.DefaultHasher.{write, write_byte}
use Rattle.std.specs.Io.KnownBytes.{Consumes, Keeps, IsAtEnd}
use Rattle.std.specs.declared.hash.DefaultHasher.{DefaultHasher}
use Rattle.std.proofs.KnownBytes.{Consumes-nil, Consumes-trans, Consumes-kept}
use Rattle.std.proofs.lemmas.List.{length-append, length-take-le}
use Rattle.std.proofs.lemmas.List.Sums.{fold-append}
use Rattle.proxy_store_file.specs.Streams.{ReaderGaveBytes, ReaderStoppedShort}
use Rattle.proxy_store_file.specs.declared.pieces.ReadStop.{ReadStop}
use Rattle.proxy_store_file.specs.declared.pieces.ReadStop.TheVariants as stop

pub write-nil : (h : DefaultHasher) → write h [] ≡ h
unfolding write
write-nil h = refl

pub write-append : (h : DefaultHasher) (xs ys : List ℕ) → write h (xs ++ ys) ≡ write (write h xs) ys
unfolding write
write-append h xs ys = fold-append write_byte h xs ys

pub gave_nothing : (a : Option (List ℕ)) (h : DefaultHasher) (xs : List ℕ) → xs ≡ [] → ReaderGaveBytes a a h h xs
gave_nothing a h xs e = subst (ReaderGaveBytes a a h h) (sym e) (record { consumes = Consumes-nil a; hashed = sym (write-nil h) })

pub gave_more : (a b c : Option (List ℕ)) (h0 h1 h2 : DefaultHasher) (xs ys zs : List ℕ)
    → ReaderGaveBytes a b h0 h1 xs → Consumes b c ys → h2 ≡ write h1 ys → zs ≡ xs ++ ys → ReaderGaveBytes a c h0 h2 zs
gave_more a b c h0 h1 h2 xs ys zs before now fed grown = subst (ReaderGaveBytes a c h0 h2) (sym grown) (record {
  consumes = Consumes-trans a b c xs ys before.consumes now;
  hashed = fed ∙ (ap (λ h. write h ys) before.hashed ∙ sym (write-append h0 xs ys));
})

pub gave_kept : (a b c : Option (List ℕ)) (h0 h1 h2 : DefaultHasher) (xs zs : List ℕ)
    → ReaderGaveBytes a b h0 h1 xs → Keeps b c → h2 ≡ h1 → zs ≡ xs → ReaderGaveBytes a c h0 h2 zs
gave_kept a b c h0 h1 h2 xs zs before now fed grown = subst (ReaderGaveBytes a c h0 h2) (sym grown) (record {
  consumes = Consumes-kept a b c xs before.consumes now;
  hashed = fed ∙ before.hashed;
})

pub gave_taken : (a b c : Option (List ℕ)) (h0 h1 h2 : DefaultHasher) (xs zs buf : List ℕ) (k j : ℕ)
    → h2 ≡ write h1 (take j buf) → zs ≡ xs ++ take j buf → j ≡ k → ReaderGaveBytes a b h0 h1 xs → Consumes b c (take k buf) → ReaderGaveBytes a c h0 h2 zs
gave_taken a b c h0 h1 h2 xs zs buf k j fed grown e before now =
    gave_more a b c h0 h1 h2 xs (take j buf) zs before (subst (λ i. Consumes b c (take i buf)) (sym e) now) fed grown

pub taken_more : (xs zs buf : List ℕ) (k j left less n : ℕ) → zs ≡ xs ++ take j buf → j ≡ k → k ≤ length buf → length buf ≤ left
    → less ≡ left - k → length xs + left ≡ n → length zs + less ≡ n
taken_more xs zs buf k j left less n grown e within room rest whole =
    let long : length zs ≡ length xs + length (take j buf) = ap length grown ∙ length-append xs (take j buf) in
    let taken : length (take j buf) ≡ j = length-take-le j buf (omega arith) in
    omega (arith, long, taken)

pub stops_for_memory : (few : List ℕ → Type 0) (a b : Option (List ℕ)) (bytes : List ℕ) → Consumes a b bytes → ReaderStoppedShort few a b stop.OutOfMemory
stops_for_memory few a b bytes given = record {
  bytes = bytes;
  consumes = given;
  few = λ other. absurd (other refl);
  ended = λ e. absurd (cc);
}
