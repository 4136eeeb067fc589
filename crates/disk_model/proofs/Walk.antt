-- How a run of device calls goes on.
use Rattle.std.proofs.Common.{◌≤◌, inl, inr, ⊎_elim, ℕ, List, arith, refl, sym, ◌∙◌}
use Rattle.disk_model.specs.Disk.{Elapses, LeavesOnly, ReadsOnly, IsAtRest, WasTorn}

module _ {D : Type 0} (moment : D → ℕ) (left_since : D → ℕ → List ℕ → Type 0) where
  -- before the first call
  pub started : (old : D) (P : List ℕ → Type 0) →
      ((c : List ℕ) → left_since old (moment old) c → P c) → LeavesOnly moment left_since old old P
  started old P here = record { later = omega arith; each = here; before = λ t c le left. inl left }

  -- one device call more, after which a stop leaves what has P
  pub goes_on : (old mid new : D) (P may_leave : List ℕ → Type 0) →
      LeavesOnly moment left_since old mid P →
      Elapses (moment mid) (moment new) (left_since mid) (left_since new) may_leave
      → ((c : List ℕ) → may_leave c → P c) → LeavesOnly moment left_since old new P
  goes_on old mid new P may_leave so_far time here = record {
    later = omega (arith, so_far.later, time.later);
    each = λ c left. ⊎_elim (so_far.each c) (here c)
        (time.nothing_else (moment old) c so_far.later left);
    before = λ t c le left. ⊎_elim (so_far.before t c le) (λ now. inr (here c now))
        (time.nothing_else t c (omega (arith, le, so_far.later)) left);
  }

  -- one run of calls after another
  pub and_then : (old mid new : D) (P Q : List ℕ → Type 0) →
      LeavesOnly moment left_since old mid P → LeavesOnly moment left_since mid new Q →
      ((c : List ℕ) → Q c → P c) → LeavesOnly moment left_since old new P
  and_then old mid new P Q first second here = record {
    later = omega (arith, first.later, second.later);
    each = λ c left. ⊎_elim (first.each c) (here c) (second.before (moment old) c first.later left);
    before = λ t c le left. ⊎_elim (first.before t c le) (λ now. inr (here c now))
        (second.before t c (omega (arith, le, first.later)) left);
  }

  pub weaker : (old new : D) (P Q : List ℕ → Type 0) → LeavesOnly moment left_since old new P →
      ((c : List ℕ) → P c → Q c) → LeavesOnly moment left_since old new Q
  weaker old new P Q run here = record {
    later = run.later;
    each = λ c left. here c (run.each c left);
    before = λ t c le left. ⊎_elim (λ was. inl was) (λ now. inr (here c now))
        (run.before t c le left);
  }

  -- a stop now is a stop at one of those moments; counts_now is the disk's law of that name
  pub leaves_now : (old new : D) (P may_leave : List ℕ → Type 0) →
      LeavesOnly moment left_since old new P
      → ((t : ℕ) (c : List ℕ) → t ≤ moment new → may_leave c → left_since new t c) → (c : List ℕ) →
      may_leave c → P c
  leaves_now old new P may_leave run counts_now c left =
      run.each c (counts_now (moment old) c run.later left)

-- what was an outcome before the write is one after
pub not_torn : (at n : ℕ) (before : List ℕ → Type 0) (c : List ℕ) → before c → WasTorn at n before c
not_torn at n before c was = (c, was, record { before = refl; after = refl; size = refl })

-- one read after another
pub reads_on : {D : Type 0} (seen : D → List ℕ) (may_leave : D → List ℕ → Type 0) (moment : D → ℕ)
    (left_since : D → ℕ → List ℕ → Type 0) (old mid new : D) →
    ReadsOnly seen may_leave moment left_since old mid →
    ReadsOnly seen may_leave moment left_since mid new →
    ReadsOnly seen may_leave moment left_since old new
reads_on seen may_leave moment left_since old mid new first second = record {
  same = second.same ∙ first.same;
  stop = λ c left. first.stop c (second.stop c left);
  any_moment = and_then moment left_since old mid new (may_leave old) (may_leave mid)
      first.any_moment second.any_moment first.stop;
}

-- reads leave a disk at rest
pub reads_rest : {D : Type 0} (seen : D → List ℕ) (may_leave : D → List ℕ → Type 0) (moment : D → ℕ)
    (left_since : D → ℕ → List ℕ → Type 0) (old new : D) →
    ReadsOnly seen may_leave moment left_since old new → IsAtRest seen may_leave old →
    IsAtRest seen may_leave new
reads_rest seen may_leave moment left_since old new reads rest c left =
    rest c (reads.stop c left) ∙ sym reads.same
