use Rattle.calls.specs.Formats.{widest}
use Rattle.records.specs.Records.{IsNumber}
use Rattle.images.specs.LiveRecords.{live_record}
use Rattle.steps.specs.Machines.{IsAskedEntry}
use Rattle.images.proofs.ImageRecords.{AreLogged}
use Rattle.images.proofs.telling.tell_entries.Given as goal

abbrev pub invariant-loop-owned : goal.invariant-loop-owned
invariant-loop-owned l = AreLogged (live_record l.live.live)
    (λ e. IsNumber e.0 × IsAskedEntry widest e.1)
    l.initial.told.items l.told.items l.owned-items l.owned-index
