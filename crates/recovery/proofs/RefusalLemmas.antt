-- What a refusal leaves of a disk, from why it came.
use Rattle.std.proofs.Common.{◌≡◌, ◌⊎◌, inl, inr, ℕ, List, refl, sym, subst, Result, Ok, Err, IfErr}
use Rattle.calls.specs.Contents.{Collection}
use Rattle.calls.specs.declared.refusal.Refusal.{Refusal}
use Rattle.disk_model.specs.Disk.{ReadsOnly, Rises, IsAtRest}
use Rattle.disk_model.specs.declared.disk.Disk.{Ghosts}
use Rattle.gate_block.specs.declared.area.Area.{Area}
use Rattle.txn.specs.Books.{BookState}
use Rattle.recovery.specs.Openings.{IsOpened, IsOpenRefusal, IsReadyStore}
use Rattle.recovery.specs.Refusals.{IsOnlyOpened, IsOpenedAtMost, RefusalLeaves}
use Rattle.recovery.specs.Upgrades.{IsUpgradeRefusal}

abbrev pub IsFault : Refusal → Type 0
IsFault Refusal.Fault = Unit {0}
IsFault e = ⊥

abbrev pub IsStarved : Refusal → Type 0
IsStarved Refusal.NoMemory = Unit {0}
IsStarved e = ⊥

-- where a fault is the only refusal
pub fault_alone : {T : Type 0} (r : Result T Refusal) (risen P : Type 0) →
    IfErr r (λ e. (e ≡ Refusal.Fault) × risen) → IfErr r (λ e. (e ≡ Refusal.Fault → ⊥) → P)
fault_alone (Ok done) risen P why = tt
fault_alone (Err e) risen P why = λ no_fault. absurd (no_fault why.0)

module _ {D : Type 0} (g : Ghosts D) (old new : D) where
  -- ---- an opening

  pub refused_opening : (no_head : Type 0) (is_damaged : ℕ → Type 0) (no_room : Type 0)
      (e : Refusal) →
      IsOpenRefusal (Rises (g.fault_count old) (g.fault_count new)) no_head is_damaged no_room e →
      ((e ≡ Refusal.Fault → ⊥) → ReadsOnly g.seen g.may_leave g.moment g.left_since old new) →
      IsOpenedAtMost g old new ⊎ Rises (g.fault_count old) (g.fault_count new)
  refused_opening no_head is_damaged no_room Refusal.Fault why reads = inr why
  refused_opening no_head is_damaged no_room e why reads =
      inl (inl (reads (λ is. subst IsFault (sym is) tt)))

  -- one that may be refused for want of memory once the store is open
  pub starved_opening : (no_head : Type 0) (is_damaged : ℕ → Type 0) (no_room : Type 0)
      (e : Refusal) →
      IsOpenRefusal (Rises (g.fault_count old) (g.fault_count new)) no_head is_damaged no_room e →
      ((e ≡ Refusal.Fault → ⊥) → (e ≡ Refusal.NoMemory → ⊥) →
      ReadsOnly g.seen g.may_leave g.moment g.left_since old new) →
      (e ≡ Refusal.NoMemory → IsOpenedAtMost g old new) →
      IsOpenedAtMost g old new ⊎ Rises (g.fault_count old) (g.fault_count new)
  starved_opening no_head is_damaged no_room Refusal.Fault why reads most = inr why
  starved_opening no_head is_damaged no_room Refusal.NoMemory why reads most = inl (most refl)
  starved_opening no_head is_damaged no_room e why reads most =
      inl (inl (reads (λ is. subst IsFault (sym is) tt) (λ is. subst IsStarved (sym is) tt)))

  pub only_opened : (book : BookState (List Collection)) (area : Area) →
      (g.is_honest new → IsOpened (g.seen old) book area (g.seen new)) →
      (g.is_honest new → IsAtRest g.seen g.may_leave old →
      IsReadyStore g.seen g.may_leave (g.seen old) book area new) → g.is_honest new →
      IsOnlyOpened g old new
  only_opened book area opened ready honest = record {
    book = book;
    area = area;
    opened = opened honest;
    at_rest = λ rest. (ready honest rest).at_rest;
  }

  -- ---- an upgrade

  -- its opening was refused
  pub unopened_leaves : (e : Refusal) → ((e ≡ Refusal.Fault → ⊥) →
      ReadsOnly g.seen g.may_leave g.moment g.left_since old new) → RefusalLeaves g old new e
  unopened_leaves Refusal.NoMemory reads = inl (reads (λ is. subst IsFault (sym is) tt))
  unopened_leaves Refusal.Full reads = inl (reads (λ is. subst IsFault (sym is) tt))
  unopened_leaves Refusal.Fault reads = tt
  unopened_leaves e reads = reads (λ is. subst IsFault (sym is) tt)

  -- what came behind its opening was
  pub opened_leaves : (mid : D) (risen is_long : Type 0) (e : Refusal) →
      IsUpgradeRefusal risen is_long e → ((e ≡ Refusal.Fault → ⊥) → new ≡ mid) →
      (g.is_honest mid → IsOnlyOpened g old mid) → RefusalLeaves g old new e
  opened_leaves mid risen is_long Refusal.NoMemory why same was =
      inr (subst (λ d. g.is_honest d → IsOnlyOpened g old d)
      (sym (same (λ is. subst IsFault (sym is) tt))) was)
  opened_leaves mid risen is_long Refusal.Full why same was =
      inr (subst (λ d. g.is_honest d → IsOnlyOpened g old d)
      (sym (same (λ is. subst IsFault (sym is) tt))) was)
  opened_leaves mid risen is_long Refusal.Fault why same was = tt
  opened_leaves mid risen is_long e why same was = absurd why
