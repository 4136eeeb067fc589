-- What a catalog holds: its code, the content of a holding, what is shown of it, and how it is
-- filled.
use Rattle.std.specs.Prelude.{◌≡◌, ℕ, ℤ, pos, List, ◌⊎◌, refl, map, ◌<◌, ◌≤◌, length}
use Rattle.std.specs.Prelude.{[], ◌∷◌, ◌++◌}
use Rattle.std.proofs.Common.{inl, inr}
use Rattle.std.specs.Coded.{Coded, code_by, coded×, coded⊎, coded_ℕ, coded_ℤ, coded_list}
use Rattle.std.specs.FinSet as sets
use Rattle.std.specs.FinMap as maps
use Rattle.calls.specs.Sets.{NumberSet}
use Rattle.calls.specs.Maps.{Table}
use Rattle.calls.specs.Bags.{Bag}
use Rattle.calls.specs.Contents.{Content, InSet, InMap, InQueue, InCounter, InPool, InStock}
use Rattle.calls.specs.Contents.{InQuotas, IsPositive}
use Rattle.calls.specs.Contents.{Collection, IsItemOf, items_of, kind_of_content}
use Rattle.std.specs.List.{AllByRecursion}
use Rattle.calls.specs.Names.{IsName}
use Rattle.catalog.specs.declared.holding.Holding.{Holding}
use Rattle.std.specs.FinSet.{from_list}
use Rattle.std.specs.List.Sorted.{IsStrictlySortedBy}
use Rattle.std.specs.Ordering.{nat_cmp}
use Rattle.calls.specs.declared.item.Item.{Item}
use Rattle.calls.specs.declared.refusal.Refusal.{Refusal}
use Rattle.catalog.specs.declared.shown.Shown.{Shown}
use Rattle.catalog.specs.declared.measured.Measured.{Measured}
use Rattle.collections.specs.Items.{IsSizeOf}
use Rattle.calls.specs.declared.kind.Kind.{Kind}
use Rattle.calls.specs.Bags as bags
use Rattle.calls.specs.Quotas as quotas
use Rattle.catalog.specs.Making.{IsNew, NewRefused}

abbrev Shape : Type 0
Shape = NumberSet ⊎ (Table ⊎ (Bag ⊎ (ℤ ⊎ (NumberSet ⊎ (ℕ ⊎ quotas.Quotas)))))

abbrev shape_of : Content → Shape
shape_of (InSet s) = inl s
shape_of (InMap m) = inr (inl m)
shape_of (InQueue q) = inr (inr (inl q))
shape_of (InCounter n) = inr (inr (inr (inl n)))
shape_of (InPool s) = inr (inr (inr (inr (inl s))))
shape_of (InStock n) = inr (inr (inr (inr (inr (inl n)))))
shape_of (InQuotas q) = inr (inr (inr (inr (inr (inr q)))))

abbrev content_from : Shape → Content
content_from (inl s) = InSet s
content_from (inr (inl m)) = InMap m
content_from (inr (inr (inl q))) = InQueue q
content_from (inr (inr (inr (inl n)))) = InCounter n
content_from (inr (inr (inr (inr (inl s))))) = InPool s
content_from (inr (inr (inr (inr (inr (inl n)))))) = InStock n
content_from (inr (inr (inr (inr (inr (inr q)))))) = InQuotas q

abbrev shape_gives : (c : Content) → content_from (shape_of c) ≡ c
shape_gives (InSet s) = refl
shape_gives (InMap m) = refl
shape_gives (InQueue q) = refl
shape_gives (InCounter n) = refl
shape_gives (InPool s) = refl
shape_gives (InStock n) = refl
shape_gives (InQuotas q) = refl

-- the code of a content
abbrev pub content_code : Coded Content
content_code =
    code_by Shape (coded⊎ (sets.code coded_ℕ)
    (coded⊎ (maps.code coded_ℕ (coded_list coded_ℕ))
    (coded⊎ (maps.code (coded× coded_ℕ coded_ℕ) coded_ℕ)
    (coded⊎ coded_ℤ (coded⊎ (sets.code coded_ℕ)
    (coded⊎ coded_ℕ (maps.code coded_ℕ coded_ℕ)))))))
    shape_of content_from shape_gives

-- the code of a collection
abbrev pub collection_code : Coded Collection
collection_code = code_by (List ℕ × Content) (coded× (coded_list coded_ℕ) content_code)
    (λ c. (c.name, c.content)) (λ p. record { name = p.0; content = p.1 }) (λ c. refl)

-- the code of a list of collections
abbrev pub catalog_code : Coded (List Collection)
catalog_code = coded_list collection_code

-- The content that a holding has.
abbrev pub content_of : Holding → Content
content_of (Holding.Set s) = InSet s
content_of (Holding.Map m) = InMap m
content_of (Holding.Queue q) = InQueue q
content_of (Holding.Counter n) = InCounter n
content_of (Holding.Pool s) = InPool s
content_of (Holding.Stock n) = InStock n
content_of (Holding.Quotas q) = InQuotas q

-- Each collection has a good name.
abbrev pub AreNamed : List Collection → Type 0
AreNamed s = AllByRecursion (λ x. IsName x.name) s

-- A pair of a queue as an item.
abbrev pub pair_item : ℕ × ℕ → Item
pair_item p = Item.Pair p.0 p.1

-- The items are the numbers of the set, each once, in order.
pub record ListsSet (items : List Item) (s : NumberSet) : Type 0 where
  pub numbers : List ℕ
  pub rising : IsStrictlySortedBy nat_cmp numbers
  pub members : from_list numbers ≡ s
  pub are : items ≡ map Item.Element numbers

-- The items are those of the content, in their order.
abbrev pub ListsContent : List Item → Content → Type 0
ListsContent items (InSet s) = ListsSet items s
ListsContent items (InPool s) = ListsSet items s
ListsContent items c = items ≡ items_of c

-- The name, which is a good one, the kind and the items of the collection are shown.
pub record Shows (x : Collection) (shown : Shown) : Type 0 where
  pub good : IsName shown.name
  pub named : shown.name ≡ x.name
  pub of_kind : shown.kind ≡ kind_of_content x.content
  pub holds : ListsContent shown.items.items x.content

-- The content has so many items.
abbrev pub HasItems : ℕ → Content → Type 0
HasItems n (InSet s) = n ≡ sets.len s
HasItems n (InMap m) = n ≡ maps.len m
HasItems n (InQueue q) = IsSizeOf n q
HasItems n (InPool s) = n ≡ sets.len s
HasItems n (InQuotas q) = n ≡ maps.len q
HasItems n c = n ≡ 1

-- The name, the kind and the number of items of the collection are told.
pub record Measures (x : Collection) (measured : Measured) : Type 0 where
  pub named : measured.name ≡ x.name
  pub of_kind : measured.kind ≡ kind_of_content x.content
  pub counts : HasItems measured.items x.content

-- A showing is refused so.
abbrev pub ShowRefused : List Collection → ℕ → Refusal → Type 0
ShowRefused s at Refusal.NoSuchCollection = length s ≤ at
ShowRefused s at Refusal.NoMemory = at < length s
ShowRefused s at e = ⊥

-- A content of the kind has these items, in this order.
abbrev pub AreItems : Kind → List Item → Type 0
AreItems kind items = (k : Content) × (kind_of_content k ≡ kind) × ListsContent items k

-- A collection of the name and the kind, which has these items, comes to the end.
pub record Loads (s : List Collection) (name : List ℕ) (kind : Kind) (items : List Item)
    (t : List Collection) : Type 0 where
  pub content : Content
  pub of_kind : kind_of_content content ≡ kind
  pub lists : ListsContent items content
  pub is : t ≡ s ++ record { name = name; content = content } ∷ []

-- A loading is refused so.
abbrev pub LoadRefused : List (List ℕ) → List ℕ → Kind → List Item → Refusal → Type 0
LoadRefused names name kind items Refusal.NoMemory = IsNew names name × AreItems kind items
LoadRefused names name kind items e = NewRefused names name e

-- ---- items in order, and what they fill

-- In a collection of the kind the first item may stand right before the other.
abbrev pub Precedes : Kind → Item → Item → Type 0
Precedes Kind.Set (Item.Element x) (Item.Element y) = x < y
Precedes Kind.Map (Item.Entry k v) (Item.Entry j w) = k < j
Precedes Kind.Queue (Item.Pair p g) (Item.Pair q h) = (p < q) ⊎ ((p ≡ q) × (g ≤ h))
Precedes Kind.Pool (Item.Element x) (Item.Element y) = x < y
Precedes Kind.Quotas (Item.Amount x m) (Item.Amount y n) = (x < y) × IsPositive m × IsPositive n
Precedes kind x y = ⊥

-- The items, behind a first one, are in order.
abbrev pub Rise : Kind → Item → List Item → Type 0
Rise kind x [] = IsItemOf kind x
Rise kind x (y ∷ ys) = Precedes kind x y × Rise kind y ys

-- The items are in the order of a collection of the kind; a counter and a stock have one.
abbrev pub AreInOrder : Kind → List Item → Type 0
AreInOrder Kind.Counter [] = ⊥
AreInOrder Kind.Stock [] = ⊥
AreInOrder kind [] = Unit {0}
AreInOrder kind (x ∷ xs) = Rise kind x xs

-- The item may come behind these: with it they are in order.
abbrev pub Follows : Kind → List Item → Item → Type 0
Follows kind items i = AreInOrder kind (items ++ i ∷ [])

-- The content with the item put into it, if it is one of its kind.
abbrev pub with_item : Content → Item → Content
with_item (InSet s) (Item.Element x) = InSet (sets.insert s x)
with_item (InMap m) (Item.Entry k v) = InMap (maps.insert m k v)
with_item (InQueue q) (Item.Pair p g) = InQueue (bags.add q (p, g))
with_item (InCounter n) (Item.Number m) = InCounter m
with_item (InPool s) (Item.Element x) = InPool (sets.insert s x)
with_item (InStock n) (Item.Number (pos m)) = InStock m
with_item (InQuotas q) (Item.Amount k (pos n)) = InQuotas (quotas.with_level q k n)
with_item k i = k

-- The content with all of the items put into it, the last one first.
abbrev pub filled : Content → List Item → Content
filled k [] = k
filled k (x ∷ xs) = with_item (filled k xs) x
