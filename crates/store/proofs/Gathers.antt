-- What is gathered of the book of a store is of the book, from one copy to the next.
use Rattle.std.proofs.Common.{◌≡◌, ◌≢◌, inl, inr, Bool, None, Result, Ok, Err, List, sym, ap}
use Rattle.std.proofs.Common.{◌∙◌, ⊎_elim, subst, Option, Some}
use Rattle.std.specs.Prelude.{OnOk, IsSome}
use Rattle.calls.specs.Contents.{Collection}
use Rattle.calls.specs.declared.refusal.Refusal.{Refusal}
use Rattle.images.specs.Gathers.{GatherState, Repeats}
use Rattle.images.proofs.Repeats.{repeated_both}
use Rattle.images.specs.Gatherings.{GoesAlong}
use Rattle.txn.specs.Books.{BookState, lsn}
use Rattle.txn.specs.Freezing.{IsGatheredOf, BookGathers}
use Rattle.engine.specs.Gatherings.{IsOfBook, unless_outrun}
use Rattle.engine.proofs.Packed.{outrun_or, outrun_unfrozen}
use Rattle.engine.proofs.OfBook.{of_repeated, of_gathered, of_ungathered}
use Rattle.group_commit.specs.Accords.{AccordState}
use Rattle.desks.specs.declared.naming.Naming.{Ghosts}
use Rattle.desks.proofs.Gathered.{gathered_none}
use Rattle.store.specs.Gatherers.{GathererState, IsKnown, IsGatherer}

abbrev Book : Type 0
Book = BookState (List Collection)

abbrev Of : Book → GatherState → Type 0
Of b g = IsGatheredOf (λ v. v) b g

-- what is not frozen, as worlds speak of it
in_world : (b : Book) (g : GatherState) → g.frozen ≡ None → Of b g → IsOfBook b g
in_world b g none of = record { gathered = of; over = λ some. absurd (some none) }

-- What is known of the book's is of the book.
pub known_of_book : (b : Book) (side : AccordState) (g : GatherState) → Of b side.gather →
    IsKnown side g → g.frozen ≡ None → Of b g
known_of_book b side g of (inl new) none = subst (Of b) (sym new) (gathered_none (λ v. v) b)
known_of_book b side g of (inr repeats) none =
    (of_repeated b side.gather g repeats
    (in_world b side.gather (sym repeats.frozen ∙ none) of)).gathered

-- The next collection is copied, or that is refused.
pub copied_of_book : (b c : Book) (g h : GatherState) (r : Result Bool Refusal) →
    BookGathers (λ v. v) b g r c h →
    OnOk r (GoesAlong (λ v. v) c.gathering c.state.now (lsn c) h) → g.frozen ≡ None →
    Of b g → Of c h × (h.frozen ≡ None)
copied_of_book b c g h (Ok more) gathers along none of = (
  (of_gathered b c g h more gathers along (in_world b g none of)).gathered,
  ap (λ (v : GatherState). v.frozen) gathers.0.2 ∙ none,
)
copied_of_book b c g h (Err e) gathers along none of =
    let same = of_ungathered b c g h e gathers in (
      subst (λ x. Of x h) (sym same.0) (subst (Of b) (sym same.1) of),
      ap (λ (v : GatherState). v.frozen) same.1 ∙ none,
    )

-- ---- the gatherer

-- what is there is not nothing
pub some_is : {X : Type 0} (o : Option X) → IsSome o → o ≢ None
some_is None is none = absurd cc
some_is (Some x) is none = absurd cc

-- what is repeated twice
pub repeats_both : (f g h : GatherState) → Repeats f g → Repeats g h → Repeats f h
repeats_both f g h first last = record {
  repeated = repeated_both f.parts g.parts h.parts f.effects g.effects h.effects first.repeated
      last.repeated;
  mark = last.mark ∙ first.mark;
  frozen = last.frozen ∙ first.frozen;
}

module _ {J : Type 0} (j : Ghosts J) where
  -- It has what is frozen, and the keeper's side knows that.
  pub holds_frozen : (of_book of_keeper : AccordState) (g : GatherState) →
      of_book.table ≡ j.gathering → of_keeper.table ≡ j.awaited → g.frozen ≢ None →
      Repeats of_keeper.gather g →
      IsGatherer j (record { gather = g; of_book = of_book; of_keeper = of_keeper })
  holds_frozen of_book of_keeper g book keeper some repeats = record {
    gathering = book;
    awaited = keeper;
    unfrozen = λ none. absurd (some none);
    frozen = λ same. repeats;
  }

-- What is given up where it is outrun leaves the gatherer as it may be.
pub given_up : {J : Type 0} (j : Ghosts J) (s : GathererState) (e : Refusal) (h : GatherState) →
    IsGatherer j s → s.gather.frozen ≡ None → h ≡ unless_outrun s.gather.frozen e s.gather →
    IsGatherer j (record s { gather = h })
given_up j s e h is none left = record {
  gathering = is.gathering;
  awaited = is.awaited;
  unfrozen = λ unfrozen.
      ⊎_elim (λ same. subst (IsKnown s.of_book) (sym (left ∙ same)) (is.unfrozen none))
      (λ gone. inl (left ∙ gone)) (outrun_or s.gather.frozen e s.gather);
  frozen = λ some. absurd (some (ap (λ (v : GatherState). v.frozen) left ∙
      outrun_unfrozen s.gather.frozen e s.gather none));
}
