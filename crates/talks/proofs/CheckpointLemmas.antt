-- A checkpoint, by the ends of its parts.
use Rattle.std.proofs.Common.{◌≡◌, inl, inr, ℕ, zero, suc, ◌+◌, ◌<◌, Bool, true, false, []}
use Rattle.std.proofs.Common.{◌∷◌, ◌++◌, length, None, Some, Result, Ok, Err, refl, sym, ap, subst}
use Rattle.std.proofs.Common.{length-append}
use Rattle.std.specs.Prelude.{unwrap_or}
use Rattle.std.specs.List.{AllByRecursion}
use Rattle.std.proofs.lemmas.List.{append-nil}
use Rattle.calls.specs.declared.refusal.Refusal.{Refusal}
use Rattle.disk_model.specs.declared.disk.Disk.{Ghosts}
use Rattle.boosted.proofs.Each.{each_append}
use Rattle.world.specs.declared.step.Step.{Step}
use Rattle.world.specs.declared.step.Answer.{Answer}
use Rattle.world.specs.Moves.{Whole}
use Rattle.world.specs.Pasts.{Past, alone, outcome}
use Rattle.world.specs.OneStep.{TakesStep}
use Rattle.talks.specs.Plays.{Plays, Runs}
use Rattle.talks.specs.Checkpoints.{left_in, is_frozen, copied, Gathers, Freezes, BeginsNow}
use Rattle.talks.specs.Checkpoints.{Begins, IsPieceLaid, Lays, Finishes, Checkpoints}
use Rattle.talks.proofs.Stepping.{asked, plays_append}

module _ {D : Type 0} (g : Ghosts D) where
  -- ---- copies of the collections

  copied-push : (k : ℕ) →
      copied k ++ (Step.Gather, Answer.Gathered true) ∷ [] ≡ copied (suc k)
  copied-push zero = refl
  copied-push (suc k) = ap (λ l. (Step.Gather, Answer.Gathered true) ∷ l) (copied-push k)

  module _ (old mid : Whole D) (k : ℕ) (so_far : Plays g old (copied k) mid) where
    one_more : (r : Result Bool Refusal) (new : Whole D) →
        TakesStep g mid (Step.Gather, outcome Answer.Gathered r) new →
        Plays g old (copied k ++ (Step.Gather, outcome Answer.Gathered r) ∷ []) new
    one_more r new taken = let ran = asked g mid new Step.Gather Answer.Gathered r taken in
        plays_append g old mid new (copied k) ran.0 so_far ran.2

    pub gathers_more : (new : Whole D) →
        TakesStep g mid (Step.Gather, outcome Answer.Gathered (Ok true)) new →
        Plays g old (copied (suc k)) new
    gathers_more new taken =
        subst (λ s. Plays g old s new) (copied-push k) (one_more (Ok true) new taken)

    pub gathers_end : (new : Whole D) → k < 256 →
        TakesStep g mid (Step.Gather, outcome Answer.Gathered (Ok false)) new →
        Runs g old (Gathers (Ok tt)) new
    gathers_end new few taken = (
      _,
      (k, (Step.Gather, Answer.Gathered false) ∷ [], inl (few, refl), refl),
      one_more (Ok false) new taken,
    )

    pub gathers_refused : (new : Whole D) (e : Refusal) → k < 256 →
        TakesStep g mid (Step.Gather, outcome Answer.Gathered (Err e)) new →
        Runs g old (Gathers (Err e)) new
    gathers_refused new e few taken = (
      _,
      (k, (Step.Gather, Answer.Refused e) ∷ [], few, refl, refl),
      one_more (Err e) new taken,
    )

    pub gathers_most : k ≡ 256 → Runs g old (Gathers (Ok tt)) mid
    gathers_most all = (
      copied k,
      (k, [], inr (all, refl), sym (append-nil (copied k))),
      so_far,
    )

  module _ (old mid : Whole D) where
    -- ---- a freeze, where nothing is frozen

    pub freeze_not_gathered : (e : Refusal) → Runs g old (Gathers (Err e)) mid →
        Runs g old (Freezes false (Err e)) mid
    freeze_not_gathered e run = (
      run.0,
      (Err e, run.0, [], run.1, (refl, refl), sym (append-nil run.0)),
      run.2,
    )

    pub freezes_now : (r : Result (Unit {0}) Refusal) (new : Whole D) →
        Runs g old (Gathers (Ok tt)) mid →
        TakesStep g mid (Step.Freeze, outcome (alone Answer.Frozen) r) new →
        Runs g old (Freezes false r) new
    freezes_now r new run taken =
        let ran = asked g mid new Step.Freeze (alone Answer.Frozen) r taken in (
          run.0 ++ ran.0,
          (Ok tt, run.0, ran.0, run.1, ran.1, refl),
          plays_append g old mid new run.0 ran.0 run.2 ran.2,
        )

    -- ---- the image is begun

    pub begin_not_frozen : (f : Bool) (e : Refusal) → Runs g old (Freezes f (Err e)) mid →
        Runs g old (BeginsNow f (Err e)) mid
    begin_not_frozen f e run = (
      run.0,
      (Err e, run.0, [], run.1, (refl, refl), sym (append-nil run.0)),
      run.2,
    )

    pub begins_now : (f : Bool) (r : Result (Unit {0}) Refusal) (new : Whole D) →
        Runs g old (Freezes f (Ok tt)) mid →
        TakesStep g mid (Step.Pack, outcome (alone Answer.Packed) r) new →
        Runs g old (BeginsNow f r) new
    begins_now f r new run taken =
        let ran = asked g mid new Step.Pack (alone Answer.Packed) r taken in (
          run.0 ++ ran.0,
          (Ok tt, run.0, ran.0, run.1, ran.1, refl),
          plays_append g old mid new run.0 ran.0 run.2 ran.2,
        )

  pub begun_before : (w : Whole D) (n : ℕ) → left_in w ≡ Some n →
      Runs g w (Begins (left_in w) (is_frozen w) (Ok tt)) w
  begun_before w n is =
      ([], subst (λ o. Begins o (is_frozen w) (Ok tt) []) (sym is) (refl, refl), refl)

  pub begun_now : (old new : Whole D) (r : Result (Unit {0}) Refusal) → left_in old ≡ None →
      Runs g old (BeginsNow (is_frozen old) r) new →
      Runs g old (Begins (left_in old) (is_frozen old) r) new
  begun_now old new r none ran =
      (ran.0, subst (λ o. Begins o (is_frozen old) r ran.0) (sym none) ran.1, ran.2)

  -- ---- the pieces

  -- so many were written
  abbrev pub HasLaid : Whole D → ℕ → Whole D → Type 0
  HasLaid old k mid = (done : Past) × AllByRecursion IsPieceLaid done × (length done ≡ k) ×
      Plays g old done mid

  module _ (old mid : Whole D) (k : ℕ) (so_far : HasLaid old k mid) where
    pub lays_more : (new : Whole D) (more : Bool) →
        TakesStep g mid (Step.Piece, outcome Answer.Laid (Ok more)) new → HasLaid old (k + 1) new
    lays_more new more taken =
        let ran = asked g mid new Step.Piece Answer.Laid (Ok more) taken in
        let piece : Past = (Step.Piece, Answer.Laid more) ∷ [] in (
          so_far.0 ++ piece,
          each_append IsPieceLaid so_far.0 piece so_far.1 ((more, refl), tt),
          subst (λ n. length (so_far.0 ++ piece) ≡ n + 1) so_far.2 (length-append so_far.0 piece),
          plays_append g old mid new so_far.0 ran.0 so_far.3 ran.2,
        )

    pub lays_refused : (n : ℕ) (e : Refusal) (new : Whole D) → k < n →
        TakesStep g mid (Step.Piece, outcome Answer.Laid (Err e)) new →
        Runs g old (Lays n (Err e)) new
    lays_refused n e new few taken =
        let ran = asked g {T = Bool} mid new Step.Piece Answer.Laid (Err e) taken in (
          so_far.0 ++ ran.0,
          (
            so_far.0,
            ran.0,
            so_far.1,
            subst (λ m. m < n) (sym so_far.2) few,
            ran.1,
            refl,
          ),
          plays_append g old mid new so_far.0 ran.0 so_far.3 ran.2,
        )

    pub lays_all : (n : ℕ) → k ≡ n → Runs g old (Lays n (Ok tt)) mid
    lays_all n all = (so_far.0, (so_far.1, subst (λ m. length so_far.0 ≡ m) all so_far.2), so_far.3)

  module _ (old mid : Whole D) where
    -- ---- the flip

    pub finish_not_laid : (n : ℕ) (e : Refusal) → Runs g old (Lays n (Err e)) mid →
        Runs g old (Finishes n (Err e)) mid
    finish_not_laid n e run = (
      run.0,
      (Err e, run.0, [], run.1, (refl, refl), sym (append-nil run.0)),
      run.2,
    )

    pub finish_flips : (n : ℕ) (r : Result ℕ Refusal) (new : Whole D) →
        Runs g old (Lays n (Ok tt)) mid →
        TakesStep g mid (Step.Flip, outcome Answer.Flipped r) new → Runs g old (Finishes n r) new
    finish_flips n r new run taken = let ran = asked g mid new Step.Flip Answer.Flipped r taken in (
      run.0 ++ ran.0,
      (Ok tt, run.0, ran.0, run.1, ran.1, refl),
      plays_append g old mid new run.0 ran.0 run.2 ran.2,
    )

    -- ---- the whole

    pub checkpoint_not_begun : (e : Refusal) →
        Runs g old (Begins (left_in old) (is_frozen old) (Err e)) mid →
        Checkpoints g old (Err e) mid
    checkpoint_not_begun e run = record {
      begun = Err e;
      first = run.0;
      last = [];
      mid = mid;
      begins = run.1;
      before = run.2;
      finishes = (refl, refl);
      behind = refl;
      whole = subst (λ s. Plays g old s mid) (sym (append-nil run.0)) run.2;
    }

    pub checkpoint_finishes : (r : Result ℕ Refusal) (new : Whole D) →
        Runs g old (Begins (left_in old) (is_frozen old) (Ok tt)) mid →
        Runs g mid (Finishes (unwrap_or (left_in mid) 0) r) new → Checkpoints g old r new
    checkpoint_finishes r new run ran = record {
      begun = Ok tt;
      first = run.0;
      last = ran.0;
      mid = mid;
      begins = run.1;
      before = run.2;
      finishes = ran.1;
      behind = ran.2;
      whole = plays_append g old mid new run.0 ran.0 run.2 ran.2;
    }
