-- A store that was worked on and left at rest is worked on again: from what the first run kept.
use Rattle.std.specs.Prelude.{ℕ, List}
use Rattle.calls.specs.Contents.{Collection}
use Rattle.disk_model.specs.Disk.{IsAtRest}
use Rattle.disk_model.specs.declared.disk.Disk.{Ghosts}
use Rattle.group_commit.specs.declared.mark.Raised.{Raised}
use Rattle.replay.specs.Journals.{StandsFor}
use Rattle.desks.specs.Origins.{Origin}
use Rattle.txn.specs.declared.actions.BookStep.{BookStep}
use Rattle.fizgaloms.specs.Works.{IsWorkedOn, WasOpened}

module _ {D : Type 0} (g : Ghosts D) (old mid new : D)
    (told then : Origin → List BookStep → (Raised → Type 0) → Type 0) (kept more : ℕ) where
  -- The first run kept so much of what it committed, which the bytes stand for that it left; and
  -- the second goes on from the content that they stand for.
  pub second_run : (first : WasOpened g told old mid kept) →
      (second : WasOpened g then mid new more) →
      g.is_honest first.opened → g.is_honest second.opened → IsAtRest g.seen g.may_leave old →
      IsAtRest g.seen g.may_leave mid → (content : List Collection) →
      StandsFor (g.seen old) content →
      (work : IsWorkedOn g told content (g.moment old) mid kept) ×
      IsWorkedOn g then work.stands.content (g.moment mid) new more
  second_run first second read again rest still content stands =
      let work = first.worked read content rest stands in
      (work, second.worked again work.stands.content still work.stands.stands)
