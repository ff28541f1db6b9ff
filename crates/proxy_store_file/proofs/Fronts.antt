-- A file is read front by front: what was read of it, and what is read behind that.
use Rattle.std.proofs.Common.{◌≡◌, ◌≢◌, ℕ, ◌<◌, List, [], ◌++◌, length, refl, ap, sym, ◌∙◌, subst, true, false, Option, Ok, Err, append_assoc, append-nil}
use Rattle.std.specs.declared.hash.DefaultHasher.{DefaultHasher}
use Rattle.std.proofs.KnownBytes.{Consumes-trans}
use Rattle.proxy_store_file.specs.declared.store_faults.StoreReadFault.{StoreReadFault}
use Rattle.proxy_store_file.specs.declared.store_faults.StoreReadFault.TheVariants as fault
use Rattle.proxy_store_file.specs.declared.pieces.ReadStop.{ReadStop}
use Rattle.proxy_store_file.specs.declared.pieces.ReadStop.TheVariants as stop
use Rattle.proxy_store_file.specs.Texts.{cut}
use Rattle.proxy_store_file.specs.Stores.{StoreReading, reading_or_short_file_fault}
use Rattle.proxy_store_file.specs.Streams.{ReaderGaveBytes, ReaderStoppedShort, ReaderGaveReading, ReadingStopsEarly, ReadingIsWholeOrTooShort, ReaderIsRefusedFor, FileFrontIsRead, fault_of_stop}
use Rattle.proxy_store_file.proofs.TextLaws.{cut_again}
use Rattle.proxy_store_file.proofs.EntryLaws.{cut_short}
use Rattle.proxy_store_file.proofs.Given.{gave_more}

abbrev pub Bytes : Type 0
Bytes = Option (List ℕ)

pub read_behind : (read : List ℕ → StoreReading) (K : List ℕ → List ℕ → StoreReading) (a b c : Bytes) (h0 h1 : DefaultHasher) (reading : StoreReading)
    (f : FileFrontIsRead read K a b h0 h1) → ReaderGaveReading (λ rest. K (f.bytes ++ rest) rest) b c reading → ReaderGaveReading read a c reading
read_behind read K a b c h0 h1 reading f r = record {
  bytes = f.bytes ++ r.bytes;
  consumes = Consumes-trans a b c f.bytes r.bytes f.gave.consumes r.consumes;
  ended = r.ended;
  whole = r.whole;
  reads = λ more none. ap read (append_assoc f.bytes r.bytes more) ∙ (f.reads (r.bytes ++ more) ∙ r.reads more none);
}

pub stops_behind : (read : List ℕ → StoreReading) (K : List ℕ → List ℕ → StoreReading) (a b c : Bytes) (h0 h1 : DefaultHasher) (P : StoreReading → Type 0)
    (f : FileFrontIsRead read K a b h0 h1) → ReadingStopsEarly (λ rest. K (f.bytes ++ rest) rest) b c P → ReadingStopsEarly read a c P
stops_behind read K a b c h0 h1 P f r = record {
  bytes = f.bytes ++ r.bytes;
  consumes = Consumes-trans a b c f.bytes r.bytes f.gave.consumes r.consumes;
  reads = subst P (sym (f.reads r.bytes)) r.reads;
}

pub refused_behind : (read : List ℕ → StoreReading) (K : List ℕ → List ℕ → StoreReading) (a b c : Bytes) (h0 h1 : DefaultHasher) (x : StoreReadFault)
    (f : FileFrontIsRead read K a b h0 h1) → ReaderIsRefusedFor (λ rest. K (f.bytes ++ rest) rest) b c x → ReaderIsRefusedFor read a c x
refused_behind read K a b c h0 h1 fault.Read f r = stops_behind read K a b c h0 h1 ReadingIsWholeOrTooShort f r
refused_behind read K a b c h0 h1 fault.OutOfMemory f r = stops_behind read K a b c h0 h1 (λ reading. Unit {0}) f r
refused_behind read K a b c h0 h1 x f r = read_behind read K a b c h0 h1 (Err x) f r

pub front_behind : (read : List ℕ → StoreReading) (K L : List ℕ → List ℕ → StoreReading) (a b c : Bytes) (h0 h1 h2 : DefaultHasher)
    (f : FileFrontIsRead read K a b h0 h1) → FileFrontIsRead (λ rest. K (f.bytes ++ rest) rest) (λ text more. L (f.bytes ++ text) more) b c h1 h2 → FileFrontIsRead read L a c h0 h2
front_behind read K L a b c h0 h1 h2 f g = record {
  bytes = f.bytes ++ g.bytes;
  gave = gave_more a b c h0 h1 h2 f.bytes g.bytes (f.bytes ++ g.bytes) f.gave g.gave.consumes g.gave.hashed refl;
  reads = λ more. ap read (append_assoc f.bytes g.bytes more) ∙ (f.reads (g.bytes ++ more) ∙ (g.reads more ∙ ap (λ text. L text more) (sym (append_assoc f.bytes g.bytes more))));
}

-- the same is read behind it in other words
pub front_same : (read : List ℕ → StoreReading) (K L : List ℕ → List ℕ → StoreReading) (a b : Bytes) (h0 h1 : DefaultHasher)
    → FileFrontIsRead read K a b h0 h1 → ((text rest : List ℕ) → K text rest ≡ L text rest) → FileFrontIsRead read L a b h0 h1
front_same read K L a b h0 h1 f same = record {
  bytes = f.bytes;
  gave = f.gave;
  reads = λ more. f.reads more ∙ same (f.bytes ++ more) more;
}

-- whatever follows, it is read so
pub front_decides : (read : List ℕ → StoreReading) (K : List ℕ → List ℕ → StoreReading) (a b : Bytes) (h0 h1 : DefaultHasher) (reading : StoreReading)
    → FileFrontIsRead read K a b h0 h1 → ((text rest : List ℕ) → K text rest ≡ reading) → ReaderGaveReading read a b reading
front_decides read K a b h0 h1 reading f same = record {
  bytes = f.bytes;
  consumes = f.gave.consumes;
  ended = false;
  whole = λ e. absurd (cc);
  reads = λ more none. f.reads more ∙ same (f.bytes ++ more) more;
}

pub front_for_memory : (read : List ℕ → StoreReading) (K : List ℕ → List ℕ → StoreReading) (a b : Bytes) (h0 h1 : DefaultHasher)
    → FileFrontIsRead read K a b h0 h1 → ReaderIsRefusedFor read a b fault.OutOfMemory
front_for_memory read K a b h0 h1 f = record { bytes = f.bytes; consumes = f.gave.consumes; reads = tt }

-- a fault that isn't the reader's own
pub refused_by_reading : (read : List ℕ → StoreReading) (a b : Bytes) (f : StoreReadFault) → f ≢ fault.Read → f ≢ fault.OutOfMemory → ReaderGaveReading read a b (Err f) → ReaderIsRefusedFor read a b f
refused_by_reading read a b fault.Read p q r = absurd (p refl)
refused_by_reading read a b fault.OutOfMemory p q r = absurd (q refl)
refused_by_reading read a b f p q r = r

-- the reader gave too few bytes, which are short
pub stopped : (read : List ℕ → StoreReading) (few : List ℕ → Type 0) (a b : Bytes) (n : ℕ) (why : ReadStop)
    → ReaderStoppedShort few a b why → ((bytes : List ℕ) → few bytes → read bytes ≡ Err (fault.Short n)) → ReaderIsRefusedFor read a b (fault_of_stop n why)
stopped read few a b n stop.Ended s short = record {
  bytes = s.bytes;
  consumes = s.consumes;
  ended = true;
  whole = λ e. s.ended refl;
  reads = λ more none. ap read (ap (λ m. s.bytes ++ m) (none refl) ∙ append-nil s.bytes) ∙ short s.bytes (s.few (λ e. absurd (cc)));
}
stopped read few a b n stop.Failed s short = record {
  bytes = s.bytes;
  consumes = s.consumes;
  reads = subst ReadingIsWholeOrTooShort (sym (short s.bytes (s.few (λ e. absurd (cc))))) (n, refl);
}
stopped read few a b n stop.OutOfMemory s short = record { bytes = s.bytes; consumes = s.consumes; reads = tt }

-- eight more bytes
pub front_cut : (read : List ℕ → StoreReading) (K : List ℕ → List ℕ → List ℕ → StoreReading) (n : ℕ) (a b c : Bytes) (h0 h1 h2 : DefaultHasher) (eight : List ℕ)
    → FileFrontIsRead read (λ text rest. reading_or_short_file_fault n (cut 8 rest) (K text)) a b h0 h1 → ReaderGaveBytes b c h1 h2 eight → length eight ≡ 8
    → FileFrontIsRead read (λ text rest. K text eight rest) a c h0 h2
front_cut read K n a b c h0 h1 h2 eight f given long =
    front_behind read (λ text rest. reading_or_short_file_fault n (cut 8 rest) (K text)) (λ text rest. K text eight rest) a b c h0 h1 h2 f (record {
      bytes = eight;
      gave = given;
      reads = λ more. ap (λ (o : Option (List ℕ × List ℕ)). reading_or_short_file_fault n o (K (f.bytes ++ (eight ++ more)))) (cut_again eight more 8 long);
    })

pub front_stops : (read : List ℕ → StoreReading) (K : List ℕ → List ℕ → List ℕ → StoreReading) (n : ℕ) (a b c : Bytes) (h0 h1 : DefaultHasher) (why : ReadStop)
    → FileFrontIsRead read (λ text rest. reading_or_short_file_fault n (cut 8 rest) (K text)) a b h0 h1 → ReaderStoppedShort (λ bytes. length bytes < 8) b c why
    → ReaderIsRefusedFor read a c (fault_of_stop n why)
front_stops read K n a b c h0 h1 why f s =
    refused_behind read (λ text rest. reading_or_short_file_fault n (cut 8 rest) (K text)) a b c h0 h1 (fault_of_stop n why) f
    (stopped (λ rest. reading_or_short_file_fault n (cut 8 rest) (K (f.bytes ++ rest))) (λ bytes. length bytes < 8) b c n why s
    (λ bytes few. ap (λ (o : Option (List ℕ × List ℕ)). reading_or_short_file_fault n o (K (f.bytes ++ bytes))) (cut_short 8 bytes few)))
