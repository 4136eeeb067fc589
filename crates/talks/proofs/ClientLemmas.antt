-- What a client does, by the ends of its requests.
use Rattle.std.proofs.Common.{◌≡◌, ℕ, suc, zero, ◌<◌, inl, inr, Bool, true, false, List, [], ◌∷◌}
use Rattle.std.proofs.Common.{◌++◌, Option, None, Some, Result, Ok, Err, refl, sym, ap, subst}
use Rattle.std.proofs.Common.{true≢false}
use Rattle.std.specs.Option.{is_some}
use Rattle.std.specs.Result.{result_err}
use Rattle.std.proofs.lemmas.List.{append-nil}
use Rattle.calls.specs.declared.refusal.Refusal.{Refusal}
use Rattle.calls.specs.declared.reply.Reply.{Reply}
use Rattle.calls.specs.declared.when.When.{When}
use Rattle.calls.specs.Names.{IsName}
use Rattle.catalog.specs.Making.{names_of, IsPlaceOf, FindRefused}
use Rattle.checkpoint.specs.declared.turn.Turn.{Turn}
use Rattle.engine.specs.Rooms.{told}
use Rattle.world.specs.declared.step.Step.{Step}
use Rattle.world.specs.declared.step.Answer.{Answer}
use Rattle.disk_model.specs.declared.disk.Disk.{Ghosts}
use Rattle.world.specs.Moves.{Whole}
use Rattle.world.specs.Pasts.{Past, alone, outcome}
use Rattle.world.specs.OneStep.{TakesStep}
use Rattle.talks.specs.Plays.{Plays, Runs, Tries}
use Rattle.talks.specs.Turns.{Turns}
use Rattle.talks.specs.Clients.{closing, EntersAs, EntersOpen, Enters, AsksAt, Asks, committed}
use Rattle.talks.specs.Clients.{Commits, undone, UndoesAll, Ends, AbortsAs, AbortsOpen, Aborts}
use Rattle.talks.specs.declared.client.Client.{Client}
use Rattle.talks.specs.declared.client.Begun.{Begun}
use Rattle.script.specs.declared.action.Operation.{Operation}
use Rattle.talks.proofs.Stepping.{asked, plays_append}

-- ---- the open transaction

pub none_is : {X : Type 0} (o : Option X) → is_some o ≡ false → o ≡ None
none_is None e = refl
none_is (Some x) e = absurd (true≢false e)

module _ (k : Client) (x : Begun) (is : k.begun ≡ Some x) where
  pub entered_as : (f : Bool) (r : Result ℕ Refusal) (steps : Past) (l : Client) →
      x.is_entered ≡ f → EntersAs k x.number f r steps l → Enters k r steps l
  entered_as f r steps l entered case =
      subst (λ o. EntersOpen o k r steps l) (sym is)
      (subst (λ g. EntersAs k x.number g r steps l) (sym entered) case)

  pub aborted_as : (f : Bool) (r : Result (Unit {0}) Refusal) (steps : Past) (l : Client) →
      x.is_entered ≡ f → AbortsAs k x.number f r steps l → Aborts k r steps l
  aborted_as f r steps l entered case =
      subst (λ o. AbortsOpen o k r steps l) (sym is)
      (subst (λ g. AbortsAs k x.number g r steps l) (sym entered) case)

-- one undoing more
undone-push : (n k : ℕ) → undone n k ++ (Step.Back n, Answer.Backed true) ∷ [] ≡ undone n (suc k)
undone-push n zero = refl
undone-push n (suc k) = ap (λ (l : Past). (Step.Back n, Answer.Backed true) ∷ l) (undone-push n k)

module _ {D : Type 0} (g : Ghosts D) where
  -- ---- an operation

  module _ (k : Client) (old : Whole D) (name : List ℕ) (operation : Operation) (when : When)
      (l : Client) (mid : Whole D) where
    pub not_entered : (e : Refusal) → Runs g old (λ steps. Enters k (Err e) steps l) mid →
        Asks g k old name operation when (Err e) l mid
    not_entered e run = record {
      entered = Err e;
      first = run.0;
      mid = mid;
      last = [];
      enters = run.1;
      before = run.2;
      asks = (refl, refl);
      behind = refl;
      whole = subst (λ s. Plays g old s mid) (sym (append-nil run.0)) run.2;
    }

    pub not_found : (n : ℕ) (e : Refusal) → Runs g old (λ steps. Enters k (Ok n) steps l) mid →
        FindRefused (names_of mid.book.state.now) name e →
        Asks g k old name operation when (Err e) l mid
    not_found n e run refused = record {
      entered = Ok n;
      first = run.0;
      mid = mid;
      last = [];
      enters = run.1;
      before = run.2;
      asks = (Err e, refused, (refl, refl));
      behind = refl;
      whole = subst (λ s. Plays g old s mid) (sym (append-nil run.0)) run.2;
    }

    pub asked_at : (n at : ℕ) (r : Result Reply Refusal) (new : Whole D) →
        Runs g old (λ steps. Enters k (Ok n) steps l) mid →
        IsName name × IsPlaceOf (names_of mid.book.state.now) name at →
        Runs g mid (AsksAt mid.book.state.now n at operation when r) new →
        Asks g k old name operation when r l new
    asked_at n at r new run found ran = record {
      entered = Ok n;
      first = run.0;
      mid = mid;
      last = ran.0;
      enters = run.1;
      before = run.2;
      asks = (Ok at, found, ran.1);
      behind = ran.2;
      whole = plays_append g old mid new run.0 ran.0 run.2 ran.2;
    }

  -- ---- a commit

  module _ (k : Client) (old : Whole D) (m : Client) (mid : Whole D) where
    pub commit_not_entered : (e : Refusal) → Runs g old (λ steps. Enters k (Err e) steps m) mid →
        Runs g old (λ steps. Commits k (Err e) steps m) mid
    commit_not_entered e run = (
      run.0,
      (Err e, m, run.0, [], run.1, (refl, refl, refl), sym (append-nil run.0)),
      run.2,
    )

    pub commit_asked : (n : ℕ) (r : Result ℕ Refusal) (new : Whole D) →
        Runs g old (λ steps. Enters k (Ok n) steps m) mid →
        TakesStep g mid (Step.Commit n, outcome Answer.Placed r) new →
        Runs g old (λ steps. Commits k r steps (committed m r)) new
    commit_asked n r new run taken =
        let ran = asked g mid new (Step.Commit n) Answer.Placed r taken in (
          run.0 ++ ran.0,
          (Ok n, m, run.0, ran.0, run.1, (ran.1, refl), refl),
          plays_append g old mid new run.0 ran.0 run.2 ran.2,
        )

  -- ---- an abort

  module _ (n : ℕ) (old mid : Whole D) where
    module _ (k : ℕ) (so_far : Plays g old (undone n k) mid) where
      one_more : {T : Type 0} (done : T → Answer) (r : Result T Refusal) (s : Step)
          (new : Whole D) → TakesStep g mid (s, outcome done r) new →
          Plays g old (undone n k ++ (s, outcome done r) ∷ []) new
      one_more done r s new taken = let ran = asked g mid new s done r taken in
          plays_append g old mid new (undone n k) ran.0 so_far ran.2

      pub undoes_more : (new : Whole D) →
          TakesStep g mid (Step.Back n, outcome Answer.Backed (Ok true)) new →
          Plays g old (undone n (suc k)) new
      undoes_more new taken = subst (λ s. Plays g old s new) (undone-push n k)
          (one_more Answer.Backed (Ok true) (Step.Back n) new taken)

      pub undoes_end : (new : Whole D) → k < 1025 →
          TakesStep g mid (Step.Back n, outcome Answer.Backed (Ok false)) new →
          Runs g old (UndoesAll n (Ok tt)) new
      undoes_end new few taken = (
        _,
        (
          k,
          (Step.Back n, Answer.Backed false) ∷ [],
          inl (few, refl),
          refl,
        ),
        one_more Answer.Backed (Ok false) (Step.Back n) new taken,
      )

      pub undoes_refused : (new : Whole D) (e : Refusal) → k < 1025 →
          TakesStep g mid (Step.Back n, outcome Answer.Backed (Err e)) new →
          Runs g old (UndoesAll n (Err e)) new
      undoes_refused new e few taken = (
        _,
        (k, (Step.Back n, Answer.Refused e) ∷ [], few, refl, refl),
        one_more Answer.Backed (Err e) (Step.Back n) new taken,
      )

      pub undoes_most : k ≡ 1025 → Runs g old (UndoesAll n (Ok tt)) mid
      undoes_most all = (
        undone n k,
        (k, [], inr (all, refl), sym (append-nil (undone n k))),
        so_far,
      )

    pub end_not_undone : (e : Refusal) → Runs g old (UndoesAll n (Err e)) mid →
        Runs g old (Ends n (Err e)) mid
    end_not_undone e run = (
      run.0,
      (Err e, run.0, [], run.1, (refl, refl), sym (append-nil run.0)),
      run.2,
    )

    pub end_asked : (r : Result (Unit {0}) Refusal) (new : Whole D) →
        Runs g old (UndoesAll n (Ok tt)) mid →
        TakesStep g mid (Step.Ended n, outcome (alone Answer.Ended) r) new →
        Runs g old (Ends n r) new
    end_asked r new run taken = let ran = asked g mid new (Step.Ended n) (alone Answer.Ended) r
        taken in (
          run.0 ++ ran.0,
          (Ok tt, run.0, ran.0, run.1, ran.1, refl),
          plays_append g old mid new run.0 ran.0 run.2 ran.2,
        )

  module _ (k : Client) (x : Begun) (is : k.begun ≡ Some x) (old : Whole D) where
    pub abort_refused : (e : Refusal) (new : Whole D) → x.is_entered ≡ true →
        Runs g old (Ends x.number (Err e)) new → Runs g old (λ steps. Aborts k (Err e) steps k) new
    abort_refused e new entered run =
        (run.0, aborted_as k x is true (Err e) run.0 k entered (run.1, refl), run.2)

    pub abort_taken_back : (new : Whole D) → x.is_entered ≡ true →
        Runs g old (Ends x.number (Ok tt)) new →
        Runs g old (λ steps. Aborts k (Ok tt) steps (closing k)) new
    abort_taken_back new entered run =
        (run.0, aborted_as k x is true (Ok tt) run.0 (closing k) entered (run.1, refl), run.2)

    pub abort_unknown : (new : Whole D) → x.is_entered ≡ false → new ≡ old →
        Runs g old (λ steps. Aborts k (Ok tt) steps (closing k)) new
    abort_unknown new entered same =
        subst (λ w. Runs g old (λ steps. Aborts k (Ok tt) steps (closing k)) w) (sym same)
        ([], aborted_as k x is false (Ok tt) [] (closing k) entered (refl, refl, refl), refl)

  -- ---- a turn

  module _ (old mid : Whole D) (cut : Result Bool Refusal)
      (handed : TakesStep g old (Step.Cut, outcome Answer.Cut cut) mid) where
    abbrev first : Runs g old (Tries Step.Cut Answer.Cut cut) mid
    first = asked g old mid Step.Cut Answer.Cut cut handed

    pub turn_brings : (turned r : Result Turn Refusal) (new : Whole D) →
        TakesStep g mid (Step.Turn, outcome Answer.Turned turned) new →
        r ≡ told (result_err cut) turned → Runs g old (Turns r) new
    turn_brings turned r new taken is =
        let ran = asked g mid new Step.Turn Answer.Turned turned taken in (
          first.0 ++ ran.0,
          (cut, turned, first.0, ran.0, first.1, ran.1, is, refl),
          plays_append g old mid new first.0 ran.0 first.2 ran.2,
        )
