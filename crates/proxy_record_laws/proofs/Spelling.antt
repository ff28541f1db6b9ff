-- A script is the spelling of one table and of one list of items.
use Rattle.std.proofs.Common.{◌≡◌, ℕ, List, [], ◌∷◌, ◌++◌, refl, sym, ap, ◌∙◌, Bool, true, false}
use Rattle.std.specs.List.{flat_map, AllByRecursion}
use Rattle.proxy_script.specs.Script.{ItemModel as Item, item_spelling, ItemCanBeSpelled, ItemIsAllowedAtPosition, IsScript, ItemReading, Found, Cut, leading_item}
use Rattle.proxy_script.specs.Script as item

item_nil : (first : Bool) → leading_item first [] ≡ Cut
unfolding leading_item
item_nil first = refl

table_of : Item → List ℕ
table_of (item.Table bytes) = bytes
table_of other = []

pub record SameScript (t u : List ℕ) (items others : List Item) : Type 0 where
  pub table_is : t ≡ u
  pub items_are : items ≡ others

module _ (again : (first : Bool) (h : Item) (rest : List ℕ) → ItemCanBeSpelled h → ItemIsAllowedAtPosition first h → leading_item first (item_spelling h ++ rest) ≡ Found h rest) where
  record SameFront (h k : Item) (xs ys : List ℕ) : Type 0 where
    item_is : h ≡ k
    rest_is : xs ≡ ys

  front_once : (first : Bool) (h k : Item) (xs ys : List ℕ) → ItemCanBeSpelled h → ItemIsAllowedAtPosition first h → ItemCanBeSpelled k → ItemIsAllowedAtPosition first k → (item_spelling h ++ xs) ≡ (item_spelling k ++ ys) → SameFront h k xs ys
  front_once first h k xs ys f p g q e =
      let found : Found h xs ≡ Found k ys = sym (again first h xs f p) ∙ (ap (leading_item first) e ∙ again first k ys g q) in
      record { item_is = cc; rest_is = cc }

  never_empty : {P : Type 0} (h : Item) (xs : List ℕ) → ItemCanBeSpelled h → ItemIsAllowedAtPosition false h → (item_spelling h ++ xs) ≡ [] → P
  never_empty {P} h xs f p e = let found : Found h xs ≡ Cut = sym (again false h xs f p) ∙ (ap (leading_item false) e ∙ item_nil false) in absurd (cc)

  items_once : (items others : List Item) → AllByRecursion ItemCanBeSpelled items → AllByRecursion (ItemIsAllowedAtPosition false) items → AllByRecursion ItemCanBeSpelled others → AllByRecursion (ItemIsAllowedAtPosition false) others
      → flat_map item_spelling items ≡ flat_map item_spelling others → items ≡ others
  items_once [] [] f p g q e = refl
  items_once [] (k ∷ others) f p g q e = never_empty k (flat_map item_spelling others) g.0 q.0 (sym e)
  items_once (h ∷ items) [] f p g q e = never_empty h (flat_map item_spelling items) f.0 p.0 e
  items_once (h ∷ items) (k ∷ others) f p g q e =
      let front = front_once false h k (flat_map item_spelling items) (flat_map item_spelling others) f.0 p.0 g.0 q.0 e in
      ap (λ (i : Item). i ∷ items) front.item_is ∙ ap (λ (is : List Item). k ∷ is) (items_once items others f.1 p.1 g.1 q.1 front.rest_is)

  pub one_script : (script t u : List ℕ) (items others : List Item) → IsScript script t items → IsScript script u others → SameScript t u items others
  unfolding table_of
  one_script script t u items others h k =
      let front = front_once true (item.Table t) (item.Table u) (flat_map item_spelling items) (flat_map item_spelling others) h.table_fits refl k.table_fits refl (sym h.script ∙ k.script) in
      record {
        table_is = ap table_of front.item_is;
        items_are = items_once items others h.items_fit h.one_table k.items_fit k.one_table front.rest_is;
      }
