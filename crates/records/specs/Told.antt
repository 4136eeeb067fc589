-- What is told of named collections and of their calls: the laws that tie contents of any form to
-- them.
use Rattle.std.specs.Prelude.{◌≡◌, ◌↔◌, ℕ, List, [], refl}
use Rattle.calls.specs.declared.kind.Kind.{Kind}
use Rattle.calls.specs.declared.call.Call.{Call}
use Rattle.calls.specs.declared.reply.Reply.{Reply}
use Rattle.calls.specs.declared.refusal.Refusal.{Refusal}
use Rattle.calls.specs.Contents.{Collection, AnswersAt, after_at}
use Rattle.calls.specs.Transactions.{Makes}
use Rattle.boosted.specs.Meaning.{Meaning}
use Rattle.catalog.specs.Making.{Making, names_of}
use Rattle.catalog.specs.Meaning.{catalog_meaning, catalog_making}
use Rattle.catalog.specs.Places.{Belongs, Misplaced, IsWithin}

-- S: contents; collections s: the named collections of a content.
pub record Tells {S : Type 0} (meaning : Meaning S ℕ) (making : Making S)
    (collections : S → List Collection) : Type 0 where
  -- The empty content has no collection, and the names are those of the collections.
  pub begins_empty : collections meaning.empty ≡ []
  pub names : (s : S) → making.names s ≡ names_of (collections s)
  -- A call is one of what is at its place where it is one of the collection there, and is refused as
  -- that refuses it where it is misplaced.
  pub belongs : (s : S) (at : ℕ) (c : Call) →
      meaning.belongs s at c ↔ Belongs (collections s) at c
  pub misplaced : (s : S) (at : ℕ) (c : Call) (e : Refusal) →
      meaning.misplaced s at c e ↔ Misplaced (collections s) at c e
  -- A call is answered exactly as its collection answers it, and leaves what it leaves there.
  pub answers : (s : S) (at : ℕ) (c : Call) (r : Reply) →
      meaning.answers s at c r ↔ AnswersAt (collections s) at c r
  pub leaves : (s : S) (at : ℕ) (c : Call) (r : Reply) → meaning.answers s at c r →
      collections (meaning.leaves s at c r) ≡ after_at (collections s) at c r
  -- A making puts an empty collection at the end.
  pub makes : (s t : S) (name : List ℕ) (kind : Kind) → making.makes s name kind t →
      Makes (collections s) name kind (collections t)
  -- So many runs can reach the content exactly where they can reach its collections.
  pub within : (s : S) (n : ℕ) → meaning.within s n ↔ IsWithin (collections s) n
  -- Contents that tell of the same collections are the same.
  pub told_apart : (s t : S) → collections s ≡ collections t → s ≡ t

-- Named collections tell of themselves.
pub tells_itself : Tells catalog_meaning catalog_making (λ s. s)
tells_itself = record {
  begins_empty = refl;
  names = λ s. refl;
  belongs = λ s at c. (λ h. h, λ h. h);
  misplaced = λ s at c e. (λ h. h, λ h. h);
  answers = λ s at c r. (λ h. h, λ h. h);
  leaves = λ s at c r h. refl;
  makes = λ s t name kind m. m;
  within = λ s n. (λ w. w, λ w. w);
  told_apart = λ s t e. e;
}
