-- Collections of any form, as the named collections that they tell of.
use Rattle.std.specs.Prelude.{List}
use Rattle.calls.specs.Contents.{Collection}
use Rattle.steps.specs.Machine.{State}
use Rattle.txn.specs.Books.{BookState}

-- S: contents of the collections. collections: what they tell.
module _ {S : Type 0} (collections : S → List Collection) where
  -- The state as its named collections tell of it, and the book.
  abbrev pub told_state : State S → State (List Collection)
  told_state s = record {
    now = collections s.now;
    live = s.live;
    entries = s.entries;
    holds = s.holds;
    wear = s.wear;
    format = s.format;
  }

  abbrev pub told_book : BookState S → BookState (List Collection)
  told_book b = record {
    state = told_state b.state;
    pending = b.pending;
    freezes = b.freezes;
    end = b.end;
    place = b.place;
    places = b.places;
    next = b.next;
    gathering = b.gathering;
  }
