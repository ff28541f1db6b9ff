-- An entry is read from a reader, step by step.
use Rattle.std.proofs.Common.{◌≡◌, ℕ, ◌<◌, ◌≤◌, List, ◌++◌, length, refl, sym, ◌∙◌, subst, Option, None, Some, true}
use Rattle.proxy_store_file.specs.Texts.{is_number, number_of}
use Rattle.std.specs.declared.hash.DefaultHasher.{DefaultHasher}
use Rattle.std.proofs.KnownBytes.{Consumes-trans}
use Rattle.proxy_store_file.specs.declared.heads.Head.{Head}
use Rattle.proxy_store_file.specs.declared.pieces.ReadStop.{ReadStop}
use Rattle.proxy_store_file.specs.declared.pieces.ReadStop.TheVariants as stop
use Rattle.proxy_store_file.specs.Heads.{head_spelled_in, stored_with_content}
use Rattle.proxy_store_file.specs.Parts.{most_entry_head_bytes}
use Rattle.proxy_store_file.specs.Streams.{ReaderGaveBytes, EightBytesGaveNumber, ReaderStoppedShort, EntryIsRead, IsLessThanAnEntry, reading_of_entry}
use Rattle.proxy_store_file.proofs.EntryLaws.{entry_cut, entry_too_long, head_cut, entry_shapeless, content_cut, entry_found}
use Rattle.proxy_store_file.proofs.Given.{gave_more, stops_for_memory}

gave_on : (a b c : Option (List ℕ)) (h0 h1 h2 : DefaultHasher) (xs ys : List ℕ) → ReaderGaveBytes a b h0 h1 xs → ReaderGaveBytes b c h1 h2 ys → ReaderGaveBytes a c h0 h2 (xs ++ ys)
gave_on a b c h0 h1 h2 xs ys first second = gave_more a b c h0 h1 h2 xs ys (xs ++ ys) first second.consumes second.hashed refl

pub stops_in_number : (a b : Option (List ℕ)) (why : ReadStop) → ReaderStoppedShort (λ bytes. length bytes < 8) a b why → ReaderStoppedShort IsLessThanAnEntry a b why
stops_in_number a b why s = record { bytes = s.bytes; consumes = s.consumes; few = λ w. entry_cut s.bytes (s.few w); ended = s.ended }

pub reads_too_long : (a b : Option (List ℕ)) (h0 h1 : DefaultHasher) (n : ℕ) → EightBytesGaveNumber a b h0 h1 n → 524288 < n → EntryIsRead a b h0 h1 (reading_of_entry None)
reads_too_long a b h0 h1 n g long = record {
  bytes = g.bytes;
  gave = g.gave;
  reads = λ more. entry_too_long g.bytes more g.are_eight g.is_number (subst (λ k. 524288 < k) g.number long);
}

-- the head's bytes behind their length
pub record HeadGiven (a c : Option (List ℕ)) (h0 h2 : DefaultHasher) (text : List ℕ) : Type 0 where
  pub eight : List ℕ
  pub gave : ReaderGaveBytes a c h0 h2 (eight ++ text)
  pub long : length eight ≡ 8
  pub spelled : is_number eight ≡ true
  pub fits : number_of eight ≤ most_entry_head_bytes
  pub whole : length text ≡ number_of eight

pub stops_in_head : (a b c : Option (List ℕ)) (h0 h1 : DefaultHasher) (n : ℕ) (why : ReadStop) → EightBytesGaveNumber a b h0 h1 n → n ≤ 524288
    → ReaderStoppedShort (λ bytes. length bytes < n) b c why → ReaderStoppedShort IsLessThanAnEntry a c why
stops_in_head a b c h0 h1 n why g fits s = record {
  bytes = g.bytes ++ s.bytes;
  consumes = Consumes-trans a b c g.bytes s.bytes g.gave.consumes s.consumes;
  few = λ w. head_cut g.bytes s.bytes g.are_eight g.is_number (subst (λ k. k ≤ 524288) g.number fits) (subst (λ k. length s.bytes < k) g.number (s.few w));
  ended = s.ended;
}

pub head_given : (a b c : Option (List ℕ)) (h0 h1 h2 : DefaultHasher) (n : ℕ) (text : List ℕ) → EightBytesGaveNumber a b h0 h1 n → n ≤ 524288
    → ReaderGaveBytes b c h1 h2 text → length text ≡ n → HeadGiven a c h0 h2 text
head_given a b c h0 h1 h2 n text g fits given all = record {
  eight = g.bytes;
  gave = gave_on a b c h0 h1 h2 g.bytes text g.gave given;
  long = g.are_eight;
  spelled = g.is_number;
  fits = subst (λ k. k ≤ 524288) g.number fits;
  whole = all ∙ g.number;
}

pub reads_shapeless : (a c : Option (List ℕ)) (h0 h2 : DefaultHasher) (text : List ℕ) → HeadGiven a c h0 h2 text → head_spelled_in text ≡ None
    → EntryIsRead a c h0 h2 (reading_of_entry None)
reads_shapeless a c h0 h2 text g none = record {
  bytes = g.eight ++ text;
  gave = g.gave;
  reads = λ more. entry_shapeless g.eight text more g.long g.spelled g.fits g.whole none;
}

pub memory_in_head : (a c : Option (List ℕ)) (h0 h2 : DefaultHasher) (text : List ℕ) → HeadGiven a c h0 h2 text → ReaderStoppedShort IsLessThanAnEntry a c stop.OutOfMemory
memory_in_head a c h0 h2 text g = stops_for_memory IsLessThanAnEntry a c (g.eight ++ text) g.gave.consumes

pub stops_in_content : (a c d : Option (List ℕ)) (h0 h2 : DefaultHasher) (text : List ℕ) (h : Head) (why : ReadStop) → HeadGiven a c h0 h2 text
    → head_spelled_in text ≡ Some h → ReaderStoppedShort (λ bytes. length bytes < h.content_length) c d why → ReaderStoppedShort IsLessThanAnEntry a d why
stops_in_content a c d h0 h2 text h why g found s = record {
  bytes = (g.eight ++ text) ++ s.bytes;
  consumes = Consumes-trans a c d (g.eight ++ text) s.bytes g.gave.consumes s.consumes;
  few = λ w. content_cut g.eight text s.bytes h g.long g.spelled g.fits g.whole found (s.few w);
  ended = s.ended;
}

pub memory_in_content : (a c d : Option (List ℕ)) (h0 h2 h3 : DefaultHasher) (text content : List ℕ) → HeadGiven a c h0 h2 text → ReaderGaveBytes c d h2 h3 content
    → ReaderStoppedShort IsLessThanAnEntry a d stop.OutOfMemory
memory_in_content a c d h0 h2 h3 text content g given =
    stops_for_memory IsLessThanAnEntry a d ((g.eight ++ text) ++ content) (Consumes-trans a c d (g.eight ++ text) content g.gave.consumes given.consumes)

pub reads_entry : (a c d : Option (List ℕ)) (h0 h2 h3 : DefaultHasher) (text content : List ℕ) (h : Head) → HeadGiven a c h0 h2 text
    → head_spelled_in text ≡ Some h → ReaderGaveBytes c d h2 h3 content → length content ≡ h.content_length → EntryIsRead a d h0 h3 (reading_of_entry (Some (stored_with_content h content)))
reads_entry a c d h0 h2 h3 text content h g found given all = record {
  bytes = (g.eight ++ text) ++ content;
  gave = gave_on a c d h0 h2 h3 (g.eight ++ text) content g.gave given;
  reads = λ more. entry_found g.eight text content more h g.long g.spelled g.fits g.whole found all;
}
