-- What is told of a book, and of the area in use.
use Rattle.std.specs.Prelude.{◌≡◌, ◌↔◌, ◌+◌, List, length, IsTrue}
use Rattle.std.specs.FinMap as maps
use Rattle.std.specs.List.{AllZip}
use Rattle.calls.specs.Contents.{Collection}
use Rattle.catalog.specs.Holdings.{Measures}
use Rattle.gate_block.specs.declared.area.Area.{Area}
use Rattle.gate_block.specs.Area.{base_of, size_of, offset_of}
use Rattle.gate_block.specs.Layout.{areas_at}
use Rattle.txn.specs.Books.{BookState}
use Rattle.desks.specs.declared.budget.Fill.{Fill}
use Rattle.desks.specs.declared.counts.Counts.{Counts}
use Rattle.desks.specs.declared.extent.Extent.{Extent}
use Rattle.desks.specs.declared.status.Status.{Status}

-- The area is filled so far, with the gate behind its blocks.
pub record IsExtentOf (area : Area) (extent : Extent) : Type 0 where
  pub size : extent.area ≡ size_of area
  pub first : IsTrue extent.first ↔ base_of area ≡ areas_at
  pub used : extent.used ≡ offset_of area + 1

-- So the book stands, whose area in use is filled so far, of a store so full, in which so much was
-- done.
pub record IsStatusOf (book : BookState (List Collection)) (extent : Extent) (fill : Fill)
    (counts : Counts) (status : Status) : Type 0 where
  pub format : status.format ≡ book.state.format
  pub filled : status.extent ≡ extent
  pub full : status.fill ≡ fill
  pub live : status.live ≡ maps.len book.state.live
  pub waiting : status.waiting ≡ length book.pending
  pub next : status.next ≡ book.next
  pub wear : status.wear ≡ book.state.wear
  pub done : status.counts ≡ counts
  pub collections : AllZip Measures book.state.now status.collections.items
