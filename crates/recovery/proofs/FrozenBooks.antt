-- The image of a book that is frozen stands for all of its records.
use Rattle.calls.specs.declared.format.Format.{Format}
use Rattle.std.proofs.Common.{◌≡◌, ℕ, ◌≤◌, List, ◌++◌, length, sym}
use Rattle.std.proofs.Common.{◌∙◌, ap, subst, arith, append_assoc, length-append}
use mathlib.Core.List.{IsPrefix}
use Rattle.calls.specs.Contents.{Collection}
use Rattle.calls.specs.Transactions.{Leads}
use Rattle.catalog.specs.Holdings.{AreNamed}
use Rattle.catalog.specs.Making.{names_of, AreDistinct}
use Rattle.disk_model.specs.declared.disk.Disk.{Ghosts}
use Rattle.records.specs.declared.record.Record.{Record}
use Rattle.records.specs.Short.{AreShort}
use Rattle.records.specs.Acts.{places}
use Rattle.records.specs.declared.block.Block.{Block}
use Rattle.records.specs.declared.block.Image.{Image}
use Rattle.records.specs.Carried.{Carries}
use Rattle.records.specs.Packings.{joined}
use Rattle.records.proofs.Places.{places_append}
use Rattle.steps.specs.Machine.{journalled}
use Rattle.steps.specs.Sound.{IsSound}
use Rattle.txn.specs.declared.actions.BookStep.{BookStep}
use Rattle.txn.specs.Books.{IsKept, lsn}
use Rattle.txn.specs.Freezing.{IsImageOf}
use Rattle.txn.specs.Histories.{records_by}
use Rattle.txn.specs.Handing.{HasHanded}
use Rattle.checkpoint.specs.Keepers.{KeeperState}
use Rattle.checkpoint.specs.Stored.{StandIn}
use Rattle.checkpoint.specs.Keeping.{BegunImage, IsImageFor, HasReceived}
use Rattle.checkpoint.proofs.StandLemmas.{stands_whole}
use Rattle.checkpoint.proofs.YieldLemmas.{all_lead}
use Rattle.records.proofs.Carrying.{joined-append, carries_parts}
use Rattle.replay.specs.Journals.{records_in}
use Rattle.replay.specs.Steps.{State}
use Rattle.replay.specs.Reading.{Unread, InJournal, Reads}
use Rattle.replay.specs.Lagging.{Lags}
use Rattle.txn.specs.Books.{NamedBook}
use Rattle.replay.proofs.ImageNames.{accepted_named, repeats_named}
use Rattle.recovery.proofs.ImageReading.{frozen_reads}
use Rattle.catalog.specs.Meaning.{catalog_meaning, catalog_making}

-- A book that is frozen and a keeper that has received blocks of it: the image stands for all
-- records, and the keeper may hold its end.
module _ {D : Type 0} (g : Ghosts D) (format : Format) (start : List Collection) (wear : ℕ)
    (steps : List BookStep)
    (book : NamedBook) (received waits : List Block) (groups : List (List Record))
    (between freezes : List ℕ) (images : List Image) (begun : List BegunImage) (k : KeeperState D)
    (handed : HasHanded catalog_meaning catalog_making (λ v. v) format start wear steps book
    (received ++ waits) groups between images)
    (keeps : HasReceived g.seen g.may_leave format start wear (records_by steps)
    (journalled book.state)
    freezes begun received k)
    (kept : IsKept catalog_meaning catalog_making AreShort (IsSound catalog_meaning catalog_making)
    book) where
  -- the names of what the book holds are good
  names_good : AreNamed book.state.now × AreDistinct (names_of book.state.now)
  names_good =
      let stands = keeps.stands in
      let first = accepted_named stands.are_read.version (records_in keeps.old) stands.are_read.next
      stands.base
      stands.are_read.count stands.are_read.accepted in
      let last = repeats_named stands.since stands.base stands.state stands.repeats first in
      subst (λ (v : List Collection). AreNamed v × AreDistinct (names_of v)) stands.lags.now last

  -- so many records came before
  pub counted : lsn book ≡ length (records_by steps)
  counted = omega (
    arith,
    handed.end,
    ap length handed.records,
    length-append (records_in groups) book.pending,
  )

  module _ (image : Image) (is : IsImageOf (λ v. v) book image) where
    abbrev packed : List (List Record)
    packed = is.packed.groups

    -- it is read up to a state that lags behind the book's
    is_read : (s : State) × Leads Reads (joined packed) (Unread Format.One)
        (InJournal book.next s 0) ×
        Lags s (journalled book.state)
    is_read = frozen_reads book kept names_good.0 names_good.1 image.blocks.items is.packed

    abbrev pub begins : BegunImage
    begins = record { covered = records_by steps; blocks = packed }

    -- and stands for all records
    pub stands : StandIn format start wear (records_by steps) (journalled book.state) packed
        (records_by steps)
    stands =
        let old = keeps.stands in
        (stands_whole format start wear (records_by steps) (journalled book.state) packed old.trail
        (all_lead format start wear (records_by steps) (journalled book.state) keeps.old
        keeps.covered old)
        old.trails old.of_book
        is_read.0
        (record {
          version = Format.One;
          next = book.next;
          count = 0;
          good = is.packed.good;
          accepted = is_read.1;
        }) is_read.2).0

    pub is_for : IsImageFor image begins
    is_for = record {
      whole = is.packed.whole;
      end = is.end ∙ counted;
      place = omega (
        arith,
        is.place,
        kept.placed,
        handed.place,
        ap places handed.records,
        places_append (records_in groups) book.pending,
      );
    }

  -- what was received carries a beginning of the records
  pub received_begins : (first : List (List Record)) × Carries 0 0 received first ×
      IsPrefix (records_in first) (records_by steps)
  received_begins =
      let parts = carries_parts 0 0 received waits groups handed.carried in
      let both = ap records_in parts.2 ∙ joined-append parts.0 parts.1 in (
        parts.0,
        parts.3,
        (
          records_in parts.1 ++ book.pending,
          sym (append_assoc (records_in parts.0) (records_in parts.1) book.pending) ∙
              ap (λ l. l ++ book.pending) (sym both) ∙ sym handed.records,
        ),
      )

  -- and none of it, nor of what is in use, is past where the book stands
  pub covers_received : length (records_in received_begins.0) ≤ lsn book
  covers_received = omega (
    arith,
    ap length received_begins.2.1,
    length-append (records_in received_begins.0) received_begins.2.0,
    counted,
  )

  pub covers_use : k.covered ≤ lsn book
  covers_use = omega (
    arith,
    keeps.covers,
    ap length keeps.stands.split,
    length-append keeps.covered keeps.stands.since,
    counted,
  )
