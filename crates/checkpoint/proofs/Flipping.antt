-- What a stop leaves while an image becomes the store, and what that is then.
use Rattle.std.proofs.Common.{◌≡◌, ◌≢◌, ◌⊎◌, inl, inr, ⊎_elim, ℕ, ◌+◌, ◌*◌, ◌%◌, ◌≤◌, List, [], ◌∷◌}
use Rattle.std.proofs.Common.{◌++◌, false, length, take, drop, get_or, sym, ◌∙◌, ap, subst, arith}
use Rattle.std.proofs.Common.{Result, Ok, Err, OnOk}
use Rattle.std.proofs.lemmas.Bool.{cases_eq}
use Rattle.std.proofs.lemmas.List.{append-nil, get_or-drop, get_or-take}
use Rattle.calls.specs.declared.refusal.Refusal.{Refusal}
use Rattle.disk_model.specs.Disk.{Torn, Overwritten, IsAtRest, LeavesOnly}
use Rattle.disk_model.proofs.Walk.{weaker}
use Rattle.gate_block.specs.declared.area.Area.{Area}
use Rattle.gate_block.specs.Row.{row, IsRow}
use Rattle.gate_block.specs.Area.{base_of, size_of, offset_of, bytes_of, IsReady}
use Rattle.gate_block.proofs.Facts.{ready}
use Rattle.gate_block.proofs.Parts.{written_there}
use Rattle.checkpoint.specs.declared.laying.Laying.{Laying}
use Rattle.checkpoint.specs.declared.stage.Stage.{Stage}
use Rattle.checkpoint.specs.Imaging.{HasPlainRoot, IsBeingLaid, IsRooted, LeavesRoot, PicksWhole}
use Rattle.checkpoint.specs.Imaging.{bodies_of, left_of}
use Rattle.gate_block.specs.Layout.{base_in_use}
use Rattle.checkpoint.specs.Keepers.{KeeperState, IsKeeper}
use Rattle.checkpoint.specs.ImageAnswers.{PickAnswers, FlipAnswers}
use Rattle.checkpoint.proofs.Apart.{back, inside, behind_root, picks_one}
use Rattle.checkpoint.proofs.Turning.{beside_is}

-- the root byte that is written is the one that is read
root_is : (root : ℕ) (s new : List ℕ) → 513 ≤ length s → Overwritten 512 (root ∷ []) s new →
    get_or new 512 0 ≡ root
root_is root s new long written =
    let stands : take 1 (drop 512 new) ≡ root ∷ [] =
    written_there 512 (root ∷ []) s new (omega (arith, long)) written in
    sym (get_or-drop 512 new 0 0) ∙ sym (get_or-take 1 (drop 512 new) 0 0 (omega arith)) ∙
    ap (λ (l : List ℕ). get_or l 0 0) stands

-- the root byte that is written is 0 or 1, by where the area begins
pub root_plain : (base root : ℕ) (s new : List ℕ) → 513 ≤ length s →
    Overwritten 512 (root ∷ []) s new → (base ≡ 4096 → root ≡ 0) → ((base ≡ 4096 → ⊥) → root ≡ 1) →
    HasPlainRoot base new
root_plain base root s new long written first second =
    let there : get_or new 512 0 ≡ root = root_is root s new long written in
    record { first = λ here. there ∙ first here; second = λ not_here. there ∙ second not_here }

-- the root byte that is written picks the area that begins there
pub root_picks : (base root size : ℕ) (s new : List ℕ) → 513 ≤ length s →
    Overwritten 512 (root ∷ []) s new → (base ≡ 4096 → root ≡ 0) → ((base ≡ 4096 → ⊥) → root ≡ 1) →
    (base ≡ 4096) ⊎ (base ≡ 4096 + size) → base_in_use size new ≡ base
root_picks base root size s new long written first second place =
    let there : get_or new 512 0 ≡ root = root_is root s new long written in
    elim (cases_eq base 4096) [
      | inl here ↦ ap (λ (b : ℕ). 4096 + size * (b % 2)) (there ∙ first here) ∙ omega (arith, here)
      | inr not_here ↦ ⊎_elim (λ here. absurd (not_here here))
          (λ above. ap (λ (b : ℕ). 4096 + size * (b % 2)) (there ∙ second not_here) ∙
          omega (arith, above)) place
    ]

-- what a flip answers, from what it base_in_use
pub flipped : {D : Type 0} (k l : KeeperState D) (w : Laying) (i : Stage)
    (is_risen : Type 0) (r : Result ℕ Refusal) → k.failed ≡ false → k.stage ≡ Stage.Laid w →
    left_of w ≡ [] → PickAnswers (record k { stage = i }) w is_risen l r →
    FlipAnswers k is_risen l r
flipped k l w i is_risen (Ok mark) fine is none a = (fine, (w, is, none, a))
flipped k l w i is_risen (Err Refusal.Failed) fine is none a = absurd a
flipped k l w i is_risen (Err Refusal.Unfinished) fine is none a = absurd a
flipped k l w i is_risen (Err e) fine is none a = (fine, (w, is, none, a))

pub laid_same : (w v : Laying) → Stage.Laid w ≡ Stage.Laid v → w ≡ v
laid_same w v e = cc

-- all blocks of an image that is written were laid
pub all_laid : (w : Laying) (s : List ℕ) (bodies : List (List ℕ)) → left_of w ≡ [] → bodies ≢ [] →
    IsBeingLaid w s bodies → (offset_of w.area ≡ length (row bodies)) ×
    IsRow bodies (bytes_of w.area s)
all_laid w s bodies none some was =
    let is : was.laid ≡ bodies = sym (append-nil was.laid) ∙
    sym (ap (λ l. was.laid ++ bodies_of l) none) ∙ was.all in (
      was.stands.offset ∙ ap (λ (l : List (List ℕ)). length (row l)) is,
      subst (λ (l : List (List ℕ)). IsRow l (bytes_of w.area s)) is
          (was.stands.holds (λ e. some (sym is ∙ e))),
    )

module _ {D : Type 0} (seen : D → List ℕ) (may_leave : D → List ℕ → Type 0) (k : KeeperState D)
    (w : Laying) (bodies : List (List ℕ)) (held : IsKeeper seen k) (is : k.stage ≡ Stage.Laid w)
    (some : bodies ≢ []) (was : IsBeingLaid w (seen k.disk) bodies) where
  far : 513 ≤ base_of w.area
  far = let b = beside_is seen k w held is in
      (inside w.area (length (seen k.disk))
      (back k.area w.area (length (seen k.disk)) held.one b.other).0).1

  -- the area of the image, with any root byte
  whole : (c : List ℕ) → left_of w ≡ [] → Torn 512 1 (seen k.disk) c →
      IsRow bodies (bytes_of w.area c)
  whole c none torn = subst (λ (l : List ℕ). IsRow bodies l)
      (sym (behind_root w.area (seen k.disk) c far torn))
      (all_laid w (seen k.disk) bodies none some was).1

  -- it is ready to go on with
  pub flip_ready : (l : KeeperState D) (is_risen : Type 0) (r : Result ℕ Refusal) →
      FlipAnswers k is_risen l r → Torn 512 1 (seen k.disk) (seen l.disk) →
      OnOk r (IsAtRest seen may_leave l.disk) → OnOk r (IsReady seen may_leave l.area l.disk bodies)
  flip_ready l is_risen (Ok mark) a torn rest =
      let same : a.1.0 ≡ w = laid_same a.1.0 w (sym a.1.1 ∙ is) in
      let none : left_of w ≡ [] = subst (λ (v : Laying). left_of v ≡ []) same a.1.2 in
      let area_is : w.area ≡ l.area =
      sym (ap (λ (x : KeeperState D). x.area) a.1.3.1 ∙ ap (λ (v : Laying). v.area) same) in
      subst (λ (x : Area). IsReady seen may_leave x l.disk bodies) area_is
      (ready seen may_leave w.area l.disk bodies (whole (seen l.disk) none torn)
      (all_laid w (seen k.disk) bodies none some was).0 rest)
  flip_ready l is_risen (Err e) a torn rest = tt

  -- at each moment the root byte picks one of two whole areas
  pub flip_moments : (moment : D → ℕ) (left_since : D → ℕ → List ℕ → Type 0) (new : D) →
      left_of w ≡ [] → IsRooted seen may_leave k.area k.disk →
      LeavesOnly moment left_since k.disk new (LeavesRoot (may_leave k.disk) (seen k.disk)) →
      LeavesOnly moment left_since k.disk new (PicksWhole k.area (seen k.disk) w.area bodies)
  flip_moments moment left_since new none rooted run =
      let before = inside k.area (length (seen k.disk)) held.one in
      weaker moment left_since k.disk new (LeavesRoot (may_leave k.disk) (seen k.disk))
      (PicksWhole k.area (seen k.disk) w.area bodies) run
      (λ c left. ⊎_elim
      (λ old. inl (
        ap (λ (b : ℕ). 4096 + size_of k.area * (b % 2)) (rooted.root_at_rest c old) ∙
            rooted.picks,
        rooted.area_at_rest c old,
      ))
      (λ torn. ⊎_elim (λ here. inl (here, behind_root k.area (seen k.disk) c before.1 torn))
      (λ there. inr (there, whole c none torn))
      (picks_one k.area w.area (length (seen k.disk)) c held.one
      (beside_is seen k w held is).other))
      left)
