-- What a content in four shelves has to do with the whole.
use Rattle.std.specs.Prelude.{◌≡◌, ℕ, ◌↔◌, List, Some, length, map, slice_get}
use Rattle.calls.specs.declared.kind.Kind.{Kind}
use Rattle.calls.specs.declared.call.Call.{Call}
use Rattle.calls.specs.declared.reply.Reply.{Reply}
use Rattle.calls.specs.declared.refusal.Refusal.{Refusal}
use Rattle.calls.specs.Contents.{Content, Collection, kind_of_content}
use Rattle.boosted.specs.Meaning.{Meaning}
use Rattle.catalog.specs.declared.four.Four.{Four}
use Rattle.catalog.specs.Fours.{Which, pick, put, which_of}
use Rattle.catalog.specs.Making.{Making}
use Rattle.catalog.specs.Woven.{Label, names_in}

-- A copy of a collection, of which Holds says what it holds, is refused so.
abbrev pub CopyRefused : (Content → Type 0) → Refusal → Type 0
CopyRefused Holds Refusal.NoSuchCollection = (k : Content) → Holds k → ⊥
CopyRefused Holds Refusal.NoMemory = (k : Content) × Holds k
CopyRefused Holds e = ⊥

-- S: whole contents. T: contents of a shelf. N: names with kinds.
-- whole: the five together. fits: they belong together.
module _ {S T N : Type 0} (labels : N → List Label) (whole : N → Four T → S)
    (fits : N → Four T → Type 0) where
  -- A making over names and the shelf of the next number is one of the whole, whatever the other
  -- shelves are.
  abbrev pub MakesOn : Making S → N → T → List ℕ → Kind → N → T → Type 0
  MakesOn making m s name kind n t = (rest : Four T) →
      fits m (put rest (which_of (length (labels m))) s) →
      making.makes (whole m (put rest (which_of (length (labels m))) s)) name kind
      (whole n (put rest (which_of (length (labels m))) t)) ×
      fits n (put rest (which_of (length (labels m))) t)

  pub record ShelfLaws (meaning : Meaning S ℕ) (making : Making S)
      (collections : S → List Collection) (shelf : Meaning T ℕ) (index : T → Which)
      (holds : T → ℕ → Content → Type 0) : Type 0 where
    -- Each shelf is in its place.
    pub placed : (n : N) (f : Four T) (w : Which) → fits n f → index (pick f w) ≡ w
    -- The names and the kinds are those of the whole,
    pub names : (n : N) (f : Four T) → fits n f → making.names (whole n f) ≡ names_in (labels n)
    pub named : (n : N) (f : Four T) → fits n f →
        map (λ x. record { name = x.name; kind = kind_of_content x.content })
        (collections (whole n f)) ≡ labels n
    -- and what a shelf holds at a number, the whole has there, and the other way round.
    pub holds_there : (n : N) (f : Four T) (at : ℕ) (x : Label) (k : Content) → fits n f →
        slice_get (labels n) at ≡ Some x → holds (pick f (which_of at)) at k →
        slice_get (collections (whole n f)) at ≡ Some (record { name = x.name; content = k })
    pub holds_here : (n : N) (f : Four T) (at : ℕ) (x : Collection) → fits n f →
        slice_get (collections (whole n f)) at ≡ Some x → holds (pick f (which_of at)) at x.content
    -- A call has in its shelf the replies that it has in the whole,
    pub answers : (n : N) (f : Four T) (at : ℕ) (c : Call) (r : Reply) → fits n f →
        meaning.answers (whole n f) at c r ↔ shelf.answers (pick f (which_of at)) at c r
    -- and leaves all else as it is.
    pub leaves : (n : N) (f : Four T) (at : ℕ) (c : Call) (r : Reply) → fits n f →
        shelf.answers (pick f (which_of at)) at c r →
        meaning.leaves (whole n f) at c r ≡
        whole n (put f (which_of at) (shelf.leaves (pick f (which_of at)) at c r))
    pub stays : (n : N) (f : Four T) (at : ℕ) (c : Call) (r : Reply) → fits n f →
        shelf.answers (pick f (which_of at)) at c r →
        fits n (put f (which_of at) (shelf.leaves (pick f (which_of at)) at c r))
    -- It is in its shelf of the kind of which it is in the whole, or is refused there as in the
    -- whole.
    pub belongs : (n : N) (f : Four T) (at : ℕ) (c : Call) → fits n f →
        meaning.belongs (whole n f) at c ↔ shelf.belongs (pick f (which_of at)) at c
    pub misplaced : (n : N) (f : Four T) (at : ℕ) (c : Call) (e : Refusal) → fits n f →
        shelf.misplaced (pick f (which_of at)) at c e → meaning.misplaced (whole n f) at c e
    -- So many runs can reach the whole where they can reach each shelf.
    pub within : (n : N) (f : Four T) (k : ℕ) → fits n f →
        meaning.within (whole n f) k ↔ ((w : Which) → shelf.within (pick f w) k)
