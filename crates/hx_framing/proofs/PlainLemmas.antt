-- A content in no coding goes on with the bytes that come.
use Rattle.std.proofs.Common.{◌≡◌, ℕ, ◌+◌, ◌-◌, ◌<◌, ◌≤◌, Bool, true, false, cond, List, [], ◌++◌, length, drop, take, min, nat_lt, refl, sym, ap, ◌∙◌, arith, Some, length-append, length-take, append_assoc}
use Rattle.std.proofs.Math.Seq.{take-append-add, drop-append-add}
use Rattle.std.proofs.lemmas.Bool.{lt-ltb, le-ltb, ltb-true, ltb-false}
use Rattle.std.proofs.lemmas.List.{drop_all, take_all}
use Rattle.hx_framing.specs.declared.contents.content.Content.TheVariants as content
use Rattle.hx_framing.specs.declared.frame_fault.FrameFault.TheVariants as fault
use Rattle.hx_framing.specs.declared.contents.content.ContentProgress.TheVariants as content_progress
use Rattle.hx_framing.specs.Body.{ContentParseResult, Short, Bad, Whole}
use Rattle.hx_framing.specs.Contents.{ContentAdvances, announced_content_resumed, content_until_close_resumed}
use Rattle.hx_framing.specs.PlainContent.{PlainContent, plain_content_after_bytes}

-- behind some bytes the test is that of the others
lt_behind : (bytes more : List ℕ) (left : ℕ) → length bytes ≤ left → nat_lt (length (bytes ++ more)) left ≡ nat_lt (length more) (left - length bytes)
lt_behind bytes more left within = by_test (nat_lt (length more) (left - length bytes)) refl
  where
    by_test : (t : Bool) → nat_lt (length more) (left - length bytes) ≡ t → nat_lt (length (bytes ++ more)) left ≡ t
    by_test true p = lt-ltb _ _ (omega (arith, ltb-true (length more) (left - length bytes) p, length-append bytes more))
    by_test false p = le-ltb _ _ (omega (arith, ltb-false (length more) (left - length bytes) p, length-append bytes more))

above_behind : (bytes more : List ℕ) (left : ℕ) → length bytes ≤ left → nat_lt left (length (bytes ++ more)) ≡ nat_lt (left - length bytes) (length more)
above_behind bytes more left within = by_test (nat_lt (left - length bytes) (length more)) refl
  where
    by_test : (t : Bool) → nat_lt (left - length bytes) (length more) ≡ t → nat_lt left (length (bytes ++ more)) ≡ t
    by_test true p = lt-ltb _ _ (omega (arith, ltb-true (left - length bytes) (length more) p, length-append bytes more))
    by_test false p = le-ltb _ _ (omega (arith, ltb-false (left - length bytes) (length more) p, length-append bytes more))

announced_behind : (s : PlainContent) (bytes more : List ℕ) → length bytes ≤ s.left → announced_content_resumed s (bytes ++ more) ≡ announced_content_resumed (plain_content_after_bytes s bytes) more
announced_behind s bytes more within =
    let k = s.left - length bytes in
    let all : s.left ≡ length bytes + k = omega arith in
    let taken : take s.left (bytes ++ more) ≡ bytes ++ take k more = ap (λ (n : ℕ). take n (bytes ++ more)) all ∙ take-append-add bytes more k in
    let dropped : drop s.left (bytes ++ more) ≡ drop k more = ap (λ (n : ℕ). drop n (bytes ++ more)) all ∙ drop-append-add bytes more k in
    ap (λ (t : Bool). cond {A = ContentParseResult} t Short (Whole (Some (s.content ++ take s.left (bytes ++ more))) (drop s.left (bytes ++ more)))) (lt_behind bytes more s.left within)
    ∙ ap (λ (c : List ℕ). cond {A = ContentParseResult} (nat_lt (length more) k) Short (Whole (Some c) (drop s.left (bytes ++ more))))
    (ap (λ (c : List ℕ). s.content ++ c) taken ∙ sym (append_assoc s.content bytes (take k more)))
    ∙ ap (λ (r : List ℕ). cond {A = ContentParseResult} (nat_lt (length more) k) Short (Whole (Some ((s.content ++ bytes) ++ take k more)) r)) dropped

closed_behind : (s : PlainContent) (e : Bool) (bytes more : List ℕ) → length bytes ≤ s.left → content_until_close_resumed s e (bytes ++ more) ≡ content_until_close_resumed (plain_content_after_bytes s bytes) e more
closed_behind s e bytes more within =
    ap (λ (t : Bool). cond {A = ContentParseResult} t (Bad fault.TooLarge) (cond {A = ContentParseResult} e (Whole (Some (s.content ++ (bytes ++ more))) []) Short)) (above_behind bytes more s.left within)
    ∙ ap (λ (c : List ℕ). cond {A = ContentParseResult} (nat_lt (s.left - length bytes) (length more)) (Bad fault.TooLarge) (cond {A = ContentParseResult} e (Whole (Some c) []) Short))
    (sym (append_assoc s.content bytes more))

-- ---- as the functions have it

all_taken : (bytes run : List ℕ) (n : ℕ) → run ≡ take n bytes → length bytes ≤ n → run ≡ bytes
all_taken bytes run n is long = is ∙ take_all n bytes long

pub announced_more : (e : Bool) (s new : PlainContent) (bytes run : List ℕ) (n : ℕ) → new ≡ plain_content_after_bytes s run → run ≡ take n bytes → n ≡ length bytes → n < s.left
    → ContentAdvances e bytes (content.Announced s) (content_progress.Incomplete n) (content.Announced new)
announced_more e s new bytes run n is ran all less =
    let whole : run ≡ bytes = all_taken bytes run n ran (omega arith) in
    let none : drop n bytes ≡ [] = drop_all n bytes (omega arith) in (
      omega arith,
      ap (λ (t : Bool). cond {A = ContentParseResult} t Short (Whole (Some (s.content ++ take s.left bytes)) (drop s.left bytes))) (lt-ltb _ _ (omega arith)),
      λ more d. announced_behind s bytes more (omega arith) ∙ ap (λ (b : List ℕ). announced_content_resumed (plain_content_after_bytes s b) more) (sym whole) ∙ ap (λ (p : PlainContent). announced_content_resumed p more) (sym is)
          ∙ ap (λ (u : List ℕ). announced_content_resumed new (u ++ more)) (sym none),
      none,
    )

pub announced_whole : (e : Bool) (s mid new : PlainContent) (bytes run c : List ℕ) (n : ℕ) → mid ≡ plain_content_after_bytes s run → run ≡ take n bytes → n ≡ s.left → n ≤ length bytes
    → c ≡ mid.content → ContentAdvances e bytes (content.Announced s) (content_progress.Whole (Some c) n) (content.Announced new)
announced_whole e s mid new bytes run c n is ran all within same =
    let given : c ≡ s.content ++ take s.left bytes = same ∙ ap (λ (p : PlainContent). p.content) is ∙ ap (λ (r : List ℕ). s.content ++ r) (ran ∙ ap (λ (k : ℕ). take k bytes) all) in (
      within,
      ap (λ (t : Bool). cond {A = ContentParseResult} t Short (Whole (Some (s.content ++ take s.left bytes)) (drop s.left bytes))) (le-ltb _ _ (omega arith))
          ∙ ap (λ (c : List ℕ). Whole (Some c) (drop s.left bytes)) (sym given)
          ∙ ap (λ (k : ℕ). Whole (Some c) (drop k bytes)) (sym all),
    )

pub closed_bad : (e : Bool) (s new : PlainContent) (bytes : List ℕ) → s.left < length bytes → ContentAdvances e bytes (content.UntilClose s) (content_progress.Faulty fault.TooLarge) (content.UntilClose new)
closed_bad e s new bytes over =
    ap (λ (t : Bool). cond {A = ContentParseResult} t (Bad fault.TooLarge) (cond {A = ContentParseResult} e (Whole (Some (s.content ++ bytes)) []) Short)) (lt-ltb _ _ over)

pub closed_more : (e : Bool) (s new : PlainContent) (bytes : List ℕ) → e ≡ false → new ≡ plain_content_after_bytes s bytes → length bytes ≤ s.left
    → ContentAdvances e bytes (content.UntilClose s) (content_progress.Incomplete (length bytes)) (content.UntilClose new)
closed_more e s new bytes open_still is within =
    let none : drop (length bytes) bytes ≡ [] = drop_all (length bytes) bytes (omega arith) in (
      omega arith,
      ap (λ (t : Bool). cond {A = ContentParseResult} t (Bad fault.TooLarge) (cond {A = ContentParseResult} e (Whole (Some (s.content ++ bytes)) []) Short)) (le-ltb _ _ within)
          ∙ ap (λ (t : Bool). cond {A = ContentParseResult} t (Whole (Some (s.content ++ bytes)) []) Short) open_still,
      λ more d. closed_behind s d bytes more within ∙ ap (λ (p : PlainContent). content_until_close_resumed p d more) (sym is)
          ∙ ap (λ (u : List ℕ). content_until_close_resumed new d (u ++ more)) (sym none),
      none,
    )

pub closed_whole : (e : Bool) (s mid new : PlainContent) (bytes c : List ℕ) → e ≡ true → mid ≡ plain_content_after_bytes s bytes → length bytes ≤ s.left → c ≡ mid.content
    → ContentAdvances e bytes (content.UntilClose s) (content_progress.Whole (Some c) (length bytes)) (content.UntilClose new)
closed_whole e s mid new bytes c ends is within same =
    let none : drop (length bytes) bytes ≡ [] = drop_all (length bytes) bytes (omega arith) in
    let given : c ≡ s.content ++ bytes = same ∙ ap (λ (p : PlainContent). p.content) is in (
      omega arith,
      ap (λ (t : Bool). cond {A = ContentParseResult} t (Bad fault.TooLarge) (cond {A = ContentParseResult} e (Whole (Some (s.content ++ bytes)) []) Short)) (le-ltb _ _ within)
          ∙ ap (λ (t : Bool). cond {A = ContentParseResult} t (Whole (Some (s.content ++ bytes)) []) Short) ends
          ∙ ap (λ (c : List ℕ). Whole (Some c) []) (sym given)
          ∙ ap (λ (r : List ℕ). Whole (Some c) r) (sym none),
    )

-- some are still to come
pub announced_short : (s new : PlainContent) (bytes run : List ℕ) (n : ℕ) → new ≡ plain_content_after_bytes s run → run ≡ take n bytes → n ≡ min s.left (length bytes) → 0 < new.left
    → (e : Bool) → ContentAdvances e bytes (content.Announced s) (content_progress.Incomplete n) (content.Announced new)
announced_short s new bytes run n is ran least some e =
    let left : new.left ≡ s.left - length run = ap (λ (p : PlainContent). p.left) is in
    let long : length run ≡ n = ap length ran ∙ omega (arith, length-take n bytes, least) in
    announced_more e s new bytes run n is ran (omega (arith, least, left, long, some)) (omega (arith, left, long, some))
