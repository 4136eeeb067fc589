-- The machine over records, on named collections.
use Rattle.std.specs.Prelude.{List, []}
use Rattle.calls.specs.declared.format.Format.{Format}
use Rattle.calls.specs.Contents.{Collection}
use Rattle.calls.specs.Transactions.{Leads}
use Rattle.records.specs.declared.record.Record.{Record}
use Rattle.steps.specs.Machine as machine
use Rattle.steps.specs.Machines.{resting}
use Rattle.catalog.specs.Meaning.{catalog_meaning, catalog_making}

-- the collections with the live transactions on them
abbrev pub State : Type 0
State = machine.State (List Collection)

-- The record leads from s to t.
abbrev pub Steps : State → Record → State → Type 0
Steps s r t = machine.Steps catalog_meaning catalog_making s r t

-- The records lead from s to t, one after another.
abbrev pub Repeats : List Record → State → State → Type 0
Repeats rs s t = Leads Steps rs s t

-- the state of an empty store of the format
abbrev pub empty_state : Format → State
empty_state format = resting format [] 0
