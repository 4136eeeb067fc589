-- One step of a world, with its answer: what is known of it.
use Rattle.std.specs.Prelude.{◌≤◌, List, [], ◌∷◌, ◌++◌, take}
use Rattle.calls.specs.Contents.{Collection}
use Rattle.disk_model.specs.Disk.{LeavesOnly}
use Rattle.disk_model.specs.declared.disk.Disk.{Ghosts}
use Rattle.world.specs.declared.step.Step.{Step}
use Rattle.world.specs.declared.step.Answer.{Answer}
use Rattle.world.specs.Pasts.{Past, committed_in, IsAnswerOf, Draws}
use Rattle.checkpoint.specs.Crash.{Yields}
use Rattle.world.specs.Worlds.{Parts, HasPast, parts_of}
use Rattle.world.specs.Moves.{Whole, Moves}

-- the parts of a world that its past speaks of
abbrev pub parts : {D : Type 0} → Whole D → Parts D
parts w = parts_of w.book w.gather w.keeper w.transit w.mark

-- The step is taken, with this answer, and leads from one world to another.
pub record TakesStep {D : Type 0} (g : Ghosts D) (old : Whole D) (x : Step × Answer)
    (new : Whole D) : Type 0 where
  -- each past of the world goes on with it
  pub past : (start : List Collection) (past : Past) →
      HasPast g.seen g.may_leave start past (parts old) →
      HasPast g.seen g.may_leave start (past ++ x ∷ []) (parts new)
  -- whatever a stop at any moment of it might have left is what that past yields, and holds all
  -- that the mark tells
  pub any_moment : (start : List Collection) (past : Past) →
      HasPast g.seen g.may_leave start past (parts old) →
      LeavesOnly g.moment g.left_since old.keeper.disk new.keeper.disk
      (Yields start (committed_in (past ++ x ∷ [])) (take old.mark (committed_in past)))
  pub mark : old.mark ≤ new.mark
  -- it is answered in its own way, as the book, the keeper or the mark answers it, and draws the
  -- next number or none
  pub own : IsAnswerOf x.0 x.1
  pub drawn : Draws old.next x new.next
  pub moves : Moves g.fault_count old x new
  -- where the disk read true up to now, it did so before
  pub honest : g.is_honest new.keeper.disk → g.is_honest old.keeper.disk
