use Rattle.calls.specs.Formats.{widest}
use Rattle.std.proofs.Common.{◌≡◌, ℕ, map, sym, ◌∙◌, ap, subst}
use Rattle.std.specs.List.{AllByRecursion, flat_map}
use Rattle.calls.specs.Transactions.{Entry}
use Rattle.records.specs.Records.{IsNumber}
use Rattle.undo_log.specs.Entries.{owned_entry}
use Rattle.records.specs.Packings.{Writes}
use Rattle.images.specs.LiveRecords.{live_record}
use Rattle.steps.specs.Machines.{IsAskedEntry}
use Rattle.images.proofs.ImageRecords.{logged_none, logged_this, logged_one, logged_all}
use Rattle.images.proofs.telling.tell_entries.Goals as goal

abbrev IsGood : ℕ × Entry → Type 0
IsGood e = IsNumber e.0 × IsAskedEntry widest e.1

pub loop-owned-init : goal.loop-owned-init
loop-owned-init c = logged_none (live_record c.args.live.now.live) IsGood c.args.told.now.items _
    (subst (AllByRecursion IsGood) (sym
    (ap (map owned_entry) c.deref-owned-items.ensures.value ∙ c.in_ok-entries.ensures.ok))
    c.requires)

pub tell_entry-requires : goal.tell_entry-requires
tell_entry-requires c = logged_this (live_record c.args.live.now.live) IsGood c.args.told.now.items
    _
    c.loop-owned.told.items c.loop-owned.owned-index c.loop-owned.invariant c.owned-item.result
    c.loop-owned-test.true c.owned-item.is

pub loop-owned-preserved : goal.loop-owned-preserved
loop-owned-preserved c =
    logged_one (live_record c.args.live.now.live) IsGood c.args.told.now.items _
    c.loop-owned.told.items
    c.loop-owned.owned-index c.loop-owned.invariant c.owned-item.result c.loop-owned-test.true
    c.owned-item.is
    c.tell_entry.new.told.items c.in_ok-tell_entry.ensures.told

pub returns-clause-told : goal.returns-clause-told
returns-clause-told c =
    let one = live_record c.args.live.now.live in
    subst (λ es. Writes c.args.told.now.items c.loop-owned.told.items (λ rs. rs ≡ flat_map one es))
    (ap (map owned_entry) c.deref-owned-items.ensures.value ∙ c.in_ok-entries.ensures.ok)
    (logged_all one IsGood c.args.told.now.items _ c.loop-owned.told.items c.loop-owned.owned-index
    c.loop-owned.invariant c.loop-owned-test.false)
