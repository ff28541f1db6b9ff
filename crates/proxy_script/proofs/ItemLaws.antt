-- An item that is spelled is found, and one that is found is spelled so.
use Rattle.std.proofs.Common.{◌≡◌, ℕ, suc, ◌+◌, ◌<◌, ◌≤◌, List, [], ◌∷◌, ◌++◌, add-one, length, get_or, take, drop, refl, ap, sym, ◌∙◌, subst, Bool, true, false, cond, ◌==◌, nat_le, Option, None, Some, arith, append_assoc}
use Rattle.std.proofs.lemmas.List.{length-append, get_or_at, take_at, length-take-le, drop_more, take-append-drop}
use Rattle.std.proofs.lemmas.Bool.{eqb-true, leb-false, lt-leb}
use Rattle.hx_fields.specs.Names.{split_at_first_byte}
use Rattle.proxy_script.specs.ScriptLines.{line_text, LineCanBeSpelled, is_config, line_of_text_if_allowed}
use Rattle.proxy_script.specs.Happenings as happening
use Rattle.proxy_script.specs.Script.{ItemModel, Table, Moment, Happens, line_of_item, block_of_item, item_spelling, ItemCanBeSpelled, ItemIsAllowedAtPosition, Found, Whole, Short, Bad, leading_block, item_reading_with_block, item_of_line, item_of_line_if_any, item_after_line_end, leading_item}
use Rattle.proxy_script.specs.declared.line_parser.ItemLine.{ItemLine}
use Rattle.proxy_script.specs.declared.line_parser.ItemLine.TheVariants.{Config, At, Accept, Client, Link, End, Gone, Retire, Overdue, Shut, Fail}
use Rattle.proxy_script.proofs.NumberLaws.{cut_found, cut_again}
use Rattle.proxy_script.proofs.LineLaws.{line_one_line, placed_again, placed_found}

drop_past : (xs : List ℕ) (y : ℕ) (ys : List ℕ) → drop (suc (length xs)) (xs ++ (y ∷ ys)) ≡ ys
drop_past [] y ys = refl
drop_past (x ∷ xs) y ys = drop_past xs y ys

block_again : (bytes rest : List ℕ) → leading_block (length bytes) ((bytes ++ 10 ∷ []) ++ rest) ≡ Whole bytes rest
block_again bytes rest =
    let after = append_assoc bytes (10 ∷ []) rest in
    let short : nat_le (length ((bytes ++ 10 ∷ []) ++ rest)) (length bytes) ≡ false = lt-leb (length ((bytes ++ 10 ∷ []) ++ rest)) (length bytes) (omega (arith, length-append (bytes ++ 10 ∷ []) rest, length-append bytes (10 ∷ []))) in
    let feed : get_or (bytes ++ (10 ∷ rest)) (length bytes) 0 ≡ 10 = get_or_at bytes 10 rest 0 (length bytes) refl in
    rw (short, after, feed, take_at bytes (10 ∷ rest) (length bytes) refl)
    (ap (λ r. Whole bytes r) (ap (λ k. drop k (bytes ++ (10 ∷ rest))) (add-one (length bytes)) ∙ drop_past bytes 10 rest))

said_again : (h : ItemModel) (rest : List ℕ) → item_of_line (line_of_item h) (block_of_item h ++ rest) ≡ Found h rest
said_again (Table bytes) rest = ap (item_reading_with_block Table) (block_again bytes rest)
said_again (Moment m) rest = refl
said_again (Happens (happening.Accepts n)) rest = refl
said_again (Happens (happening.Sends n bytes)) rest = ap (item_reading_with_block (λ b. Happens (happening.Sends n b))) (block_again bytes rest)
said_again (Happens (happening.Hears l bytes)) rest = ap (item_reading_with_block (λ b. Happens (happening.Hears l b))) (block_again bytes rest)
said_again (Happens (happening.Ends n)) rest = refl
said_again (Happens (happening.Leaves n)) rest = refl
said_again (Happens (happening.Retires n)) rest = refl
said_again (Happens (happening.Overdues n)) rest = refl
said_again (Happens (happening.Shuts l)) rest = refl
said_again (Happens (happening.Fails l kind)) rest = refl

pub item_again : (first : Bool) (h : ItemModel) (rest : List ℕ) → ItemCanBeSpelled h → ItemIsAllowedAtPosition first h → leading_item first (item_spelling h ++ rest) ≡ Found h rest
unfolding leading_item
item_again first h rest fits here =
    let line = line_text (line_of_item h) in
    ap (λ bytes. item_after_line_end first (split_at_first_byte 10 bytes)) (append_assoc line (10 ∷ block_of_item h) rest)
    ∙ (ap (item_after_line_end first) (cut_again 10 line (block_of_item h ++ rest) (line_one_line (line_of_item h) fits))
    ∙ (ap (item_of_line_if_any (block_of_item h ++ rest)) (placed_again first (line_of_item h) fits here)
    ∙ said_again h rest))

-- the item is that of the line, and its block stands behind it
abbrev IsBehind : ItemLine → List ℕ → ItemModel → List ℕ → Type 0
IsBehind line bytes h rest = (line ≡ line_of_item h) × (bytes ≡ block_of_item h ++ rest)

plain_found : (g h : ItemModel) (bytes rest : List ℕ) → block_of_item g ≡ [] → Found g bytes ≡ Found h rest → IsBehind (line_of_item g) bytes h rest
plain_found g h bytes rest none e =
    let this : g ≡ h = cc in let left : bytes ≡ rest = cc in
    subst (λ x. IsBehind (line_of_item g) bytes x rest) this (refl, rw none left)

block_found_by : (a b : Bool) (says : List ℕ → ItemModel) (head : ℕ → ItemLine) (len : ℕ) (bytes rest : List ℕ) (h : ItemModel)
    → ((block : List ℕ) → line_of_item (says block) ≡ head (length block)) → ((block : List ℕ) → block_of_item (says block) ≡ block ++ 10 ∷ [])
    → (a ≡ false → len < length bytes) → (b ≡ true → get_or bytes len 0 ≡ 10)
    → item_reading_with_block says (cond a Short (cond b (Whole (take len bytes) (drop (len + 1) bytes)) Bad)) ≡ Found h rest → IsBehind (head len) bytes h rest
block_found_by true b says head len bytes rest h line block long feed e = cc
block_found_by false false says head len bytes rest h line block long feed e = cc
block_found_by false true says head len bytes rest h line block long feed e =
    let this : says (take len bytes) ≡ h = cc in let left : drop (len + 1) bytes ≡ rest = cc in
    let enough : len ≤ length bytes = let more = long refl in omega (arith, more) in
    let taken = length-take-le len bytes enough in
    let heads : head len ≡ line_of_item (says (take len bytes)) = ap head (sym taken) ∙ sym (line (take len bytes)) in
    let whole : bytes ≡ (take len bytes ++ 10 ∷ []) ++ drop (len + 1) bytes =
    sym (append_assoc (take len bytes) (10 ∷ []) (drop (len + 1) bytes)
    ∙ (ap (λ c. take len bytes ++ (c ∷ drop (len + 1) bytes)) (sym (feed refl))
    ∙ (ap (λ r. take len bytes ++ r) (sym (drop_more bytes len 0 (long refl))) ∙ take-append-drop len bytes))) in
    subst (λ x. IsBehind (head len) bytes x rest) this
    (heads, whole ∙ (ap (λ r. (take len bytes ++ 10 ∷ []) ++ r) left ∙ ap (λ b. b ++ rest) (sym (block (take len bytes)))))

block_found : (says : List ℕ → ItemModel) (head : ℕ → ItemLine) (len : ℕ) (bytes rest : List ℕ) (h : ItemModel)
    → ((block : List ℕ) → line_of_item (says block) ≡ head (length block)) → ((block : List ℕ) → block_of_item (says block) ≡ block ++ 10 ∷ [])
    → item_reading_with_block says (leading_block len bytes) ≡ Found h rest → IsBehind (head len) bytes h rest
block_found says head len bytes rest h line block e =
    block_found_by (nat_le (length bytes) len) (get_or bytes len 0 == 10) says head len bytes rest h line block (leb-false (length bytes) len) (eqb-true (get_or bytes len 0) 10) e

behind_found : (line : ItemLine) (bytes rest : List ℕ) (h : ItemModel) → item_of_line line bytes ≡ Found h rest → IsBehind line bytes h rest
behind_found (Config len) bytes rest h e = block_found Table Config len bytes rest h (λ b. refl) (λ b. refl) e
behind_found (At m) bytes rest h e = plain_found (Moment m) h bytes rest refl e
behind_found (Accept n) bytes rest h e = plain_found (Happens (happening.Accepts n)) h bytes rest refl e
behind_found (Client n len) bytes rest h e = block_found (λ b. Happens (happening.Sends n b)) (Client n) len bytes rest h (λ b. refl) (λ b. refl) e
behind_found (Link l len) bytes rest h e = block_found (λ b. Happens (happening.Hears l b)) (Link l) len bytes rest h (λ b. refl) (λ b. refl) e
behind_found (End n) bytes rest h e = plain_found (Happens (happening.Ends n)) h bytes rest refl e
behind_found (Gone n) bytes rest h e = plain_found (Happens (happening.Leaves n)) h bytes rest refl e
behind_found (Retire n) bytes rest h e = plain_found (Happens (happening.Retires n)) h bytes rest refl e
behind_found (Overdue n) bytes rest h e = plain_found (Happens (happening.Overdues n)) h bytes rest refl e
behind_found (Shut l) bytes rest h e = plain_found (Happens (happening.Shuts l)) h bytes rest refl e
behind_found (Fail l kind) bytes rest h e = plain_found (Happens (happening.Fails l kind)) h bytes rest refl e

under_found : (first : Bool) (o : Option ItemLine) (line bytes rest : List ℕ) (h : ItemModel) → line_of_text_if_allowed first line ≡ o → item_of_line_if_any bytes o ≡ Found h rest → (line ++ 10 ∷ bytes ≡ item_spelling h ++ rest) × ItemCanBeSpelled h × ItemIsAllowedAtPosition first h
under_found first None line bytes rest h is e = cc
under_found first (Some header) line bytes rest h is e =
    let spells = placed_found first line header is in
    let block = behind_found header bytes rest h e in (
      ap (λ l. l ++ 10 ∷ bytes) (spells.0 ∙ ap line_text block.0)
          ∙ (ap (λ b. line_text (line_of_item h) ++ 10 ∷ b) block.1 ∙ sym (append_assoc (line_text (line_of_item h)) (10 ∷ block_of_item h) rest)),
      subst LineCanBeSpelled block.0 spells.1,
      ap is_config (sym block.0) ∙ spells.2,
    )

on_found : (first : Bool) (o : Option (List ℕ × List ℕ)) (bytes rest : List ℕ) (h : ItemModel) → split_at_first_byte 10 bytes ≡ o → item_after_line_end first o ≡ Found h rest → (bytes ≡ item_spelling h ++ rest) × ItemCanBeSpelled h × ItemIsAllowedAtPosition first h
on_found first None bytes rest h is e = cc
on_found first (Some p) bytes rest h is e =
    let found = under_found first (line_of_text_if_allowed first p.0) p.0 p.1 rest h refl e in
    (cut_found 10 bytes p.0 p.1 is ∙ found.0, found.1, found.2)

pub item_found : (first : Bool) (bytes rest : List ℕ) (h : ItemModel) → leading_item first bytes ≡ Found h rest → (bytes ≡ item_spelling h ++ rest) × ItemCanBeSpelled h × ItemIsAllowedAtPosition first h
unfolding leading_item
item_found first bytes rest h e = on_found first (split_at_first_byte 10 bytes) bytes rest h refl e
