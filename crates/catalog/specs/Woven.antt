-- A catalog in four shelves, each with every fourth collection, without its name, and the names.
use Rattle.std.specs.Prelude.{◌≡◌, ℕ, zero, suc, ◌≤◌, List, [], ◌∷◌, Some, None, length, map, refl}
use Rattle.std.specs.Prelude.{slice_get, string_bytes}
use Rattle.std.proofs.Common.{ap}
use Rattle.std.specs.List.{AllByRecursion}
use Rattle.std.specs.Coded.{Coded, code_by, coded×, coded_ℕ, coded_list}
use Rattle.std.specs.declared.string.String.{String}
use Rattle.std.specs.declared.alloc.Global.{Global}
use Rattle.calls.specs.declared.kind.Kind.{Kind}
use Rattle.calls.specs.declared.call.Call.{Call}
use Rattle.calls.specs.declared.refusal.Refusal.{Refusal}
use Rattle.calls.specs.Names.{IsName}
use Rattle.calls.specs.Contents.{Content, Collection, Answers, after, kind_of_content}
use Rattle.boosted.specs.Kinds.{IsOf}
use Rattle.boosted.specs.Meaning.{Meaning}
use Rattle.catalog.specs.declared.four.Four.{Four}
use Rattle.catalog.specs.Fours.{Which, First, Second, Third, Fourth, rank, which_of, quarter, pick}
use Rattle.catalog.specs.Holdings.{content_code}
use Rattle.catalog.specs.Places.{At, Reaches}

-- ---- names

-- what is known of a collection without what it holds
pub record Label : Type 0 where
  pub name : List ℕ
  pub kind : Kind

abbrev pub names_in : List Label → List (List ℕ)
names_in labels = map (λ x. x.name) labels

-- the labels that the entries stand for, in their order
abbrev pub labels_of : List (String Global × Kind) → List Label
labels_of = map (λ e. record { name = string_bytes e.0; kind = e.1 })

-- Each name is a good one.
abbrev pub AreGood : List Label → Type 0
AreGood labels = AllByRecursion (λ x. IsName x.name) labels

-- ---- one shelf

-- which of the four it is, and what its collections hold, in the order of their numbers
pub record ShelfContent : Type 0 where
  pub index : Which
  pub held : List Content

abbrev which_back : (w : Which) → which_of (rank w) ≡ w
which_back First = refl
which_back Second = refl
which_back Third = refl
which_back Fourth = refl

abbrev shelf : Which → List Content → ShelfContent
shelf w held = record { index = w; held = held }

-- the code of a shelf's content
abbrev pub shelf_code : Coded ShelfContent
shelf_code = code_by (ℕ × List Content) (coded× coded_ℕ (coded_list content_code))
    (λ s. (rank s.index, s.held)) (λ p. record { index = which_of p.0; held = p.1 })
    (λ s. ap (λ (w : Which). shelf w s.held) (which_back s.index))

-- The member at the place becomes what f makes of it.
abbrev pub with_at : {X : Type 0} → (X → X) → List X → ℕ → List X
with_at f [] p = []
with_at f (x ∷ xs) zero = f x ∷ xs
with_at f (x ∷ xs) (suc p) = x ∷ with_at f xs p

-- The collection of the number is on the shelf, and P holds of what it holds.
abbrev pub On : (Content → Type 0) → ShelfContent → ℕ → Type 0
On P s at = (which_of at ≡ s.index) × At P s.held (quarter at)

-- A call is refused so where no collection of the number is on the shelf, or one of another kind.
abbrev pub MisplacedOn : ShelfContent → ℕ → Call → Refusal → Type 0
MisplacedOn s at c Refusal.NoSuchCollection =
    which_of at ≡ s.index → length s.held ≤ quarter at
MisplacedOn s at c Refusal.WrongKind = On (λ x. IsOf (kind_of_content x) c → ⊥) s at
MisplacedOn s at c r = ⊥

-- What calls mean on a shelf, by the numbers of its collections.
abbrev pub shelf_meaning : Meaning ShelfContent ℕ
shelf_meaning = record {
  answers = λ s at c r. On (λ x. Answers x c r) s at;
  leaves = λ s at c r. record s { held = with_at (λ x. after x c r) s.held (quarter at) };
  belongs = λ s at c. On (λ x. IsOf (kind_of_content x) c) s at;
  misplaced = λ s at c r. MisplacedOn s at c r;
  empty = record { index = First; held = [] };
  within = λ s n. AllByRecursion (λ x. Reaches x n) s.held;
}

-- The collection of the number is on the shelf and holds the content.
abbrev pub IsHeld : ShelfContent → ℕ → Content → Type 0
IsHeld s at k = (which_of at ≡ s.index) × (slice_get s.held (quarter at) ≡ Some k)

-- No collection of the number is on the shelf.
abbrev pub IsAbsent : ShelfContent → ℕ → Type 0
IsAbsent s at = which_of at ≡ s.index → slice_get s.held (quarter at) ≡ None

-- ---- the whole

-- The labels with what the four lists hold in turn.
abbrev pub weave : List Label → (k l m n : List Content) → List Collection
weave [] k l m n = []
weave (x ∷ xs) [] l m n = []
weave (x ∷ xs) (h ∷ t) l m n = record { name = x.name; content = h } ∷ weave xs l m n t

abbrev pub woven : List Label → Four ShelfContent → List Collection
woven labels f = weave labels f.first.held f.second.held f.third.held f.fourth.held

-- Each label has a content, which is of its kind, and no other content is there.
abbrev pub AreWoven : List Label → (k l m n : List Content) → Type 0
AreWoven [] k l m n = (k ≡ []) × (l ≡ []) × (m ≡ []) × (n ≡ [])
AreWoven (x ∷ xs) [] l m n = ⊥
AreWoven (x ∷ xs) (h ∷ t) l m n = (kind_of_content h ≡ x.kind) × AreWoven xs l m n t

-- Each label below the count has its content in its shelf, and each shelf is in its place.
pub record Fits (labels : List Label) (f : Four ShelfContent) : Type 0 where
  pub are : AreWoven labels f.first.held f.second.held f.third.held f.fourth.held
  pub placed : (w : Which) → (pick f w).index ≡ w
