-- What is gathered of a book for an image, as the two ends of an accord know it.
use Rattle.atomic_table.specs.Seated.{TableId}
use Rattle.images.specs.Gathers.{GatherState}

-- what an end knows to be gathered
pub record AccordState : Type 0 where
  pub table : TableId
  pub gather : GatherState
