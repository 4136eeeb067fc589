-- What is said at the exits of calls of an area: faults over several calls of its disk, errors that
-- are handed on, and a disk of which nothing was asked.
use Rattle.std.proofs.Common.{ℕ, ◌<◌, ◌≤◌, ◌-◌, ◌^◌, Bool, List, Err, inl, ⊎_elim}
use Rattle.std.proofs.Common.{refl, sym, subst, arith}
use Rattle.std.proofs.lemmas.Bool.{cases_lt}
use Rattle.calls.specs.declared.refusal.Refusal.{Refusal}
use Rattle.disk_model.specs.Disk.{LeavesOnly, ReadsOnly, Rises}
use Rattle.disk_model.proofs.Walk.{started}
use Rattle.gate_block.specs.declared.area.Area.{Area}
use Rattle.gate_block.specs.declared.read_error.ReadError.{ReadError}
use Rattle.gate_block.specs.Answers.{IsPlaceAnswer, IsAppendAnswer, IsReadError}
use Rattle.gate_block.specs.Area.{IsReady, LeavesBlocks, LeavesElsewhere}
use Rattle.gate_block.specs.Row.{IsRow}

-- what rose at the later call has risen since before the one ahead of it
pub rises_on : (before mid now : ℕ) → before ≤ mid → mid ≤ now → Rises mid now → Rises before now
rises_on before mid now first second risen = λ (below : before < 2 ^ 64 - 1).
    ⊎_elim (λ (under : mid < 2 ^ 64 - 1). let r = risen under in omega arith)
    (λ (full : 2 ^ 64 - 1 ≤ mid). omega arith) (cases_lt mid (2 ^ 64 - 1))

-- an error of a reading inside a larger one
pub error_on : (risen rises : Type 0) (is_damaged : ℕ → Type 0) → (risen → rises) →
    (e : ReadError) → IsReadError risen (λ _. ⊥) e → IsReadError rises is_damaged e
error_on risen rises is_damaged on ReadError.NoMemory was = was
error_on risen rises is_damaged on (ReadError.Damaged place) was = absurd was
error_on risen rises is_damaged on ReadError.Fault was = on was

-- a block that has no place is not appended
pub place_on : (failed : Bool) (is_full rises : Type 0) (e : Refusal) →
    IsPlaceAnswer failed is_full (Err e) → IsAppendAnswer failed failed is_full rises (Err e)
place_on failed is_full rises Refusal.Full was = (was.0, was.0, was.1)
place_on failed is_full rises Refusal.Failed was = (was, was)
place_on failed is_full rises e was = absurd was

-- nothing was asked of the disk
module _ {D : Type 0} (seen : D → List ℕ) (may_leave : D → List ℕ → Type 0) (moment : D → ℕ)
    (left_since : D → ℕ → List ℕ → Type 0) (disk : D)
    (only_now : (c : List ℕ) → left_since disk (moment disk) c → may_leave disk c) where
  pub reads_none : ReadsOnly seen may_leave moment left_since disk disk
  reads_none = record {
    same = refl;
    stop = λ c left. left;
    any_moment = started moment left_since disk (may_leave disk) only_now;
  }

  elsewhere : (area : Area) (c : List ℕ) → may_leave disk c →
      LeavesElsewhere (may_leave disk) area c
  elsewhere area c left = (c, left, record { before = refl; after = refl; same_size = refl })

  pub leaves_elsewhere_none : (area : Area) →
      LeavesOnly moment left_since disk disk (LeavesElsewhere (may_leave disk) area)
  leaves_elsewhere_none area = started moment left_since disk
      (LeavesElsewhere (may_leave disk) area)
      (λ c left. elsewhere area c (only_now c left))

  pub leaves_blocks_none : (area : Area) (bodies : List (List ℕ)) (body : List ℕ) →
      IsReady seen may_leave area disk bodies →
      LeavesOnly moment left_since disk disk (LeavesBlocks (may_leave disk) area bodies body)
  leaves_blocks_none area bodies body ready = started moment left_since disk
      (LeavesBlocks (may_leave disk) area bodies body) (λ c left. record {
        blocks = inl (subst (λ l. IsRow bodies l) (sym (ready.at_rest c (only_now c left)))
            ready.holds);
        elsewhere = elsewhere area c (only_now c left);
      })
