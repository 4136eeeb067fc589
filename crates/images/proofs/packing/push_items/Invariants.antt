use Rattle.std.proofs.Common.{◌≡◌, ◌++◌, map}
use Rattle.std.specs.List.{AllByRecursion}
use Rattle.records.specs.declared.record.Record.{Record}
use Rattle.records.specs.Records.{FitsItem}
use Rattle.records.specs.Packings.{joined}
use Rattle.images.proofs.packing.push_items.Given as goal

-- the items so far are written
abbrev pub invariant-loop-item : goal.invariant-loop-item
invariant-loop-item l = (joined l.packer ≡ joined l.initial.packer ++ map Record.Item l.yielded) ×
    AllByRecursion FitsItem l.yielded
