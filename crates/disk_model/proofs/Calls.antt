-- What a stop may leave after a call that was noted.
use Rattle.std.proofs.Common.{◌≡◌, ℕ, ◌+◌, ◌≤◌, Bool, true, false, List, ◌∷◌, length, replicate}
use Rattle.std.proofs.Common.{◌++◌, take, drop, refl, sym, ◌∙◌, ap, subst, arith}
use Rattle.std.proofs.Common.{length-append, length-drop}
use Rattle.std.proofs.lemmas.List.{length-take-le, length-replicate}
use Rattle.disk_model.specs.Disk.{Torn, Only}
use Rattle.disk_model.specs.Marks.{Leaves, marked}
use Rattle.disk_model.specs.Events.{Event, Wrote, Synced, seen_of, marks_of}
use Rattle.disk_model.proofs.Stops.{written_back, overwritten_torn, untouched, leaves_only}
use Rattle.disk_model.proofs.Stops.{unmarked_stays}

length-marked : (at n : ℕ) (marks : List Bool) → at + n ≤ length marks →
    length (marked at n marks) ≡ length marks
length-marked at n marks inside =
    omega (
      arith,
      length-append (take at marks ++ replicate n true) (drop (at + n) marks),
      length-append (take at marks) (replicate n true),
      length-take-le at marks (omega arith),
      length-replicate n true,
      length-drop (at + n) marks,
    )

module _ (start : List ℕ) (n : ℕ) (es now : List Event) (sized : length (seen_of start es) ≡ n)
    (marks_sized : length (marks_of n es) ≡ n) where
  same_length : length (marks_of n es) ≡ length (seen_of start es)
  same_length = marks_sized ∙ sym sized

  -- after a write, whether or not it failed
  pub after_write : (at : ℕ) (bytes : List ℕ) (ok : Bool) → now ≡ Wrote at bytes ok ∷ es →
      at + length bytes ≤ length (seen_of start es) → (c : List ℕ) →
      Leaves (seen_of start now) (marks_of n now) c →
      (d : List ℕ) × Leaves (seen_of start es) (marks_of n es) d × Torn at (length bytes) d c
  after_write at bytes ok is inside c left =
      by_answer ok (subst (λ (l : List Event). Leaves (seen_of start l) (marks_of n l) c) is left)
    where
      by_answer : (ok : Bool) → Leaves (seen_of start (Wrote at bytes ok ∷ es))
          (marked at (length bytes) (marks_of n es)) c →
          (d : List ℕ) × Leaves (seen_of start es) (marks_of n es) d × Torn at (length bytes) d c
      by_answer true left = written_back at (length bytes) (seen_of start es)
          (seen_of start (Wrote at bytes true ∷ es)) (marks_of n es) c same_length inside
          (overwritten_torn at bytes (seen_of start es) _ inside refl) left
      by_answer false left = written_back at (length bytes) (seen_of start es) (seen_of start es)
          (marks_of n es) c same_length inside (untouched at (length bytes) (seen_of start es)) left

  after_sync : (ok : Bool) → now ≡ Synced ok ∷ es → ok ≡ true → (c : List ℕ) →
      Leaves (seen_of start now) (marks_of n now) c → c ≡ seen_of start es
  after_sync ok is done c left =
      let now_is : now ≡ Synced true ∷ es = is ∙ ap (λ (b : Bool). Synced b ∷ es) done in
      leaves_only (seen_of start es) c (replicate n false) n refl (sym sized)
      (subst (λ (l : List Event). Leaves (seen_of start l) (marks_of n l) c) now_is left)

  -- after a sync that succeeded
  pub at_rest : (ok : Bool) → now ≡ Synced ok ∷ es → ok ≡ true →
      Only (seen_of start now) (Leaves (seen_of start now) (marks_of n now))
  at_rest ok is done c left = after_sync ok is done c left ∙
      sym (ap (λ (l : List Event). seen_of start l) is)

  pub sync_adds_nothing : (ok : Bool) → now ≡ Synced ok ∷ es → ok ≡ true → (c : List ℕ) →
      Leaves (seen_of start now) (marks_of n now) c → Leaves (seen_of start es) (marks_of n es) c
  sync_adds_nothing ok is done c left =
      unmarked_stays (seen_of start es) c (marks_of n es) same_length (after_sync ok is done c left)

  -- what a read gives after a write, whether or not it failed
  pub torn_by_write : (at : ℕ) (bytes : List ℕ) (ok : Bool) → now ≡ Wrote at bytes ok ∷ es →
      at + length bytes ≤ length (seen_of start es) →
      Torn at (length bytes) (seen_of start es) (seen_of start now)
  torn_by_write at bytes ok is inside =
      subst (λ (l : List Event). Torn at (length bytes) (seen_of start es) (seen_of start l))
      (sym is) (by_answer ok)
    where
      by_answer : (ok : Bool) →
          Torn at (length bytes) (seen_of start es) (seen_of start (Wrote at bytes ok ∷ es))
      by_answer true = overwritten_torn at bytes (seen_of start es) _ inside refl
      by_answer false = untouched at (length bytes) (seen_of start es)

  -- no call changes the size
  pub sizes_after_write : (at : ℕ) (bytes : List ℕ) (ok : Bool) → now ≡ Wrote at bytes ok ∷ es →
      at + length bytes ≤ length (seen_of start es) →
      (length (seen_of start now) ≡ n) × (length (marks_of n now) ≡ n)
  sizes_after_write at bytes ok is inside =
      let torn = torn_by_write at bytes ok is inside in (
        torn.size ∙ sized,
        ap (λ (l : List Event). length (marks_of n l)) is ∙
            length-marked at (length bytes) (marks_of n es) (omega arith) ∙ marks_sized,
      )

  pub sizes_after_sync : (ok : Bool) → now ≡ Synced ok ∷ es →
      (length (seen_of start now) ≡ n) × (length (marks_of n now) ≡ n)
  sizes_after_sync ok is = (
    ap (λ (l : List Event). length (seen_of start l)) is ∙ sized,
    ap (λ (l : List Event). length (marks_of n l)) is ∙ by_answer ok,
  )
    where
      by_answer : (ok : Bool) → length (marks_of n (Synced ok ∷ es)) ≡ n
      by_answer true = length-replicate n false
      by_answer false = marks_sized
