-- The laws of named collections, as a book needs them.
use Rattle.catalog.specs.Meaning.{catalog_meaning, catalog_making}
use Rattle.catalog.specs.Laws.Catalogs.{catalog_laws, making_laws}
use Rattle.records.specs.Short.{AreShort}
use Rattle.records.specs.Told.{tells_itself}
use Rattle.steps.proofs.BookLaws.{BookLaws, book_laws}

pub laws : BookLaws catalog_meaning catalog_making AreShort
laws = book_laws catalog_laws making_laws tells_itself
