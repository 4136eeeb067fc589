use Rattle.std.proofs.Common.{◌≡◌, ◌<◌, ◌+◌, sym, ◌∙◌, refl, subst, Bool, true, false, true≢false}
use Rattle.std.proofs.Common.{Option, None, Err, List, ℕ, length, rules}
use Rattle.calls.specs.declared.refusal.Refusal.{Refusal}
use Rattle.disk_model.specs.Disk.{Rises}
use Rattle.gate_block.specs.declared.area.Area.{Area}
use Rattle.gate_block.specs.Area.{has_failed, size_of, offset_of}
use Rattle.gate_block.specs.Answers.{IsAppendAnswer}
use Rattle.records.specs.declared.block.Block.{Block}
use Rattle.checkpoint.specs.Keepers.{KeeperState, AppendAnswers}
use Rattle.checkpoint.proofs.keeper.Keeper.append.Goals as goal

pub returns-in-Ok-clause-any_moment : goal.returns-in-Ok-clause-any_moment
returns-in-Ok-clause-any_moment g c =
    rw (← c.self.view_is) (λ bodies body is ready. c.append.ensures.any_moment bodies body
    (rw c.as_slice.ensures.value is) ready)

pub returns-in-Full-clause-any_moment : goal.returns-in-Full-clause-any_moment
returns-in-Full-clause-any_moment g c =
    rw (← c.self.view_is) (λ bodies body is ready. c.append.ensures.any_moment bodies body
    (rw c.as_slice.ensures.value is) ready)

pub returns-in_default-clause-any_moment : goal.returns-in_default-clause-any_moment
returns-in_default-clause-any_moment g c =
    rw (← c.self.view_is) (λ bodies body is ready. c.append.ensures.any_moment bodies body
    (rw c.as_slice.ensures.value is) ready)

-- a refusal that is not Full is a Fault
faulted : (e : Refusal) (failed fails : Bool) (is_full is_risen same : Type 0) (block : Block)
    (mark next : ℕ) (held : Option Block) → IsAppendAnswer failed fails is_full is_risen (Err e) →
    failed ≡ false → (e ≡ Refusal.Full → ⊥) → held ≡ None → next ≡ mark →
    AppendAnswers block mark is_full same is_risen (Err e) held next true
faulted Refusal.Full failed fails is_full is_risen same block mark next held a not_failed not_full
    none stays = absurd (not_full refl)
faulted Refusal.Failed failed fails is_full is_risen same block mark next held a not_failed not_full
    none stays = absurd (true≢false (sym a.0 ∙ not_failed))
faulted Refusal.Fault failed fails is_full is_risen same block mark next held a not_failed not_full
    none stays = (a.3, none, stays, refl, a.2)
faulted e failed fails is_full is_risen same block mark next held a not_failed not_full none stays =
    absurd a

module _ {D : Type 0} (count : D → ℕ) (k : KeeperState D) (e : Refusal) (area : Area) (disk : D)
    (block : Block) where
  abbrev Faulted : KeeperState D → Type 0
  Faulted now =
      now.failed ≡ false → now.held ≡ None →
      AppendAnswers block now.mark (size_of now.area < offset_of now.area + length
      block.bytes.items) ((area ≡ now.area) × (disk ≡ now.disk))
      (Rises (count now.disk) (count disk)) (Err e) k.held k.mark true

  -- the same of a keeper, which a clause sees as now
  keeper_faulted : (now : KeeperState D) → k ≡ now →
      (k.failed ≡ false → has_failed k.area ≡ false) → (e ≡ Refusal.Full → ⊥) → (bytes : List ℕ) →
      bytes ≡ block.bytes.items →
      IsAppendAnswer (has_failed k.area) (has_failed area)
      (size_of k.area < offset_of k.area + length bytes) (Rises (count k.disk) (count disk))
      (Err e) → Faulted now
  keeper_faulted now is same not_full bytes bytes_are answer =
      let here = subst (λ (l : List ℕ). IsAppendAnswer (has_failed k.area) (has_failed area)
      (size_of k.area < offset_of k.area + length l) (Rises (count k.disk) (count disk))
      (Err e)) bytes_are answer in
      subst Faulted is (λ fine none. faulted e (has_failed k.area) (has_failed area)
      (size_of k.area < offset_of k.area + length block.bytes.items) _ _ block k.mark k.mark
      k.held here (same fine) not_full none refl)

pub returns-in_default-clause-answer : goal.returns-in_default-clause-answer
returns-in_default-clause-answer g c =
    keeper_faulted g.D.Disk.fault_count _ c.in-Err.refusal c.append.new.self c.append.new.disk
    c.args.block _ c.self.view_is c.self.invariant.fine c.in_default.not-Full _
    c.as_slice.ensures.value c.in-Err.ensures.answer c.requires.failed c.requires.held

pub returns-in-Ok-clause-answer : goal.returns-in-Ok-clause-answer
returns-in-Ok-clause-answer g c = search rules

pub returns-in-Ok-clause-elsewhere : goal.returns-in-Ok-clause-elsewhere
returns-in-Ok-clause-elsewhere g c =
    rw (← c.self.view_is) c.append.ensures.elsewhere

pub returns-in-Full-clause-elsewhere : goal.returns-in-Full-clause-elsewhere
returns-in-Full-clause-elsewhere g c =
    rw (← c.self.view_is) c.append.ensures.elsewhere

pub returns-in_default-clause-elsewhere : goal.returns-in_default-clause-elsewhere
returns-in_default-clause-elsewhere g c =
    rw (← c.self.view_is) c.append.ensures.elsewhere

pub returns-in-Ok-clause-kept : goal.returns-in-Ok-clause-kept
returns-in-Ok-clause-kept g c =
    rw (← c.self.view_is) (λ bodies body is ready. c.in-Ok.ensures.kept bodies body
    (rw c.as_slice.ensures.value is) ready)
