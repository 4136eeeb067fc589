-- What a client knows behind a visit under the locks, for which its number was entered.
use Rattle.std.proofs.Common.{◌≡◌, ℕ, [], ◌∷◌, ◌++◌, Result, Ok, Err, Option, None, Some, IfErr}
use Rattle.std.proofs.Common.{OnOk, IfSome}
use Rattle.std.proofs.Common.{IsNone, refl, sym, ap, ◌∙◌, subst, List, false, ⊎_elim}
use Rattle.std.specs.Prelude.{Contains}
use Rattle.std.proofs.lemmas.List.Elements.{Contains-push}
use Rattle.calls.specs.declared.refusal.Refusal.{Refusal}
use Rattle.txn.specs.declared.actions.Action.{Action}
use Rattle.group_commit.specs.Lines.{ClientState, mine_of, steps_of}
use Rattle.group_commit.specs.Marks.{WatcherState}
use Rattle.group_commit.specs.Numbers.{DrawerState, with_number}
use Rattle.desks.specs.declared.naming.Naming.{Ghosts}
use Rattle.clients.specs.declared.phase.Phase.{Phase}
use Rattle.desks.specs.Seen.{step_of, Steps, StepsBehind}
use Rattle.desks.specs.TakenBack.{back, backs, TakesBack}
use Rattle.desks.proofs.Stepping.{entered_behind}
use Rattle.clients.specs.Known.{Known, known_of}
use Rattle.desks.specs.Owners.{entering, HasEntered}
use Rattle.clients.specs.Calls.{Acts, Does, Enters, IsClient, HasOwn, number_in}
use Rattle.clients.proofs.Seeing.{acts_one, client_meets, does_next, enters_phase}

module _ {J : Type 0} (j : Ghosts J) (old mid : Known) (n : ℕ)
    (enters : Enters j.origin old.phase old (Ok n) mid) (line : ClientState) (w : WatcherState)
    (d : DrawerState) (p : Phase) (view : known_of line w d p ≡ mid) (line' : ClientState) where
  took : (own : ℕ → Action → Type 0) (refused : Refusal → Type 0) (after : ℕ → Phase) (q : Phase)
      (action : Action) → own n action → Steps j.origin line action line' →
      (p ≡ Phase.Entered n → q ≡ after n) →
      Does j.origin old.phase old own refused after (known_of line' w d q)
  took own refused after q action its steps behind =
      does_next j old.phase old mid (known_of line' w d q) n own refused after action refl enters
      its (subst (λ m. Acts j.origin m [] action (known_of line' w d q)) view
      (acts_one j line line' w d p q action steps))
      (λ entered. behind (ap (λ (k : Known). k.phase) view ∙ entered))

  -- A step was taken, and the transaction goes on.
  pub took_on : (own : ℕ → Action → Type 0) (refused : Refusal → Type 0) (action : Action) →
      own n action → Steps j.origin line action line' →
      Does j.origin old.phase old own refused Phase.Entered (known_of line' w d p)
  took_on own refused action its steps =
      took own refused (λ m. Phase.Entered m) p action its steps (λ entered. entered)

  -- A step was taken, and it is closed.
  pub took_last : (own : ℕ → Action → Type 0) (refused : Refusal → Type 0) (action : Action) →
      own n action → Steps j.origin line action line' →
      Does j.origin old.phase old own refused (λ m. Phase.Closed) (known_of line' w d Phase.Closed)
  took_last own refused action its steps =
      took own refused (λ m. Phase.Closed) Phase.Closed action its steps (λ entered. refl)

-- What holds anyway holds of what was accepted.
pub always : {X E P : Type 0} → P → (r : Result X E) → OnOk r P
always p (Ok x) = p
always p (Err e) = tt

-- ---- whose its transaction is

-- A number that a client has entered is its own.
pub own_held : (line : ClientState) (w : WatcherState) (d : DrawerState) (p : Phase) (k : Known)
    (n : ℕ) → known_of line w d p ≡ k → k.phase ≡ Phase.Entered n → HasOwn p line d →
    HasEntered line n
own_held line w d p k n view entered own =
    subst (λ q. HasOwn q line d) (ap (λ (x : Known). x.phase) view ∙ entered) own

-- also one that it entered right before
pub entered_own : {J : Type 0} (j : Ghosts J) (old mid : Known) (n : ℕ) →
    Enters j.origin old.phase old (Ok n) mid →
    (line : ClientState) (w : WatcherState) (d : DrawerState)
    (p : Phase) → known_of line w d p ≡ mid → HasOwn p line d → HasEntered line n
entered_own j old mid n enters line w d p view own =
    own_held line w d p mid n view (enters_phase j old.phase old mid n refl enters) own

-- Behind the entering its transaction is entered.
pub is_entered : {J : Type 0} (j : Ghosts J) (old mid : Known) (n : ℕ) →
    Enters j.origin old.phase old (Ok n) mid → mid.phase ≡ Phase.Entered (number_in mid.phase)
is_entered j old mid n enters =
    let entered = enters_phase j old.phase old mid n refl enters in
    entered ∙ ap (λ p. Phase.Entered (number_in p)) (sym entered)

-- what a client has seen of itself says the same where it meets another one
pub own_meets : (p : Phase) (old new : ClientState) (d e : DrawerState) →
    new.number ≡ old.number → mine_of new ≡ mine_of old → e ≡ d → HasOwn p old d → HasOwn p new e
own_meets Phase.Closed old new d e number mine same own = tt
own_meets (Phase.Drawn n) old new d e number mine same own =
    subst (λ (x : DrawerState). Contains x.drawn n) (sym same) own
own_meets (Phase.Entered n) old new d e number mine same own =
    subst (λ k. Contains (mine_of new) (entering k n)) (sym number)
    (subst (λ l. Contains l (entering old.number n)) (sym mine) own)

module _ {J : Type 0} (j : Ghosts J) (old new : ClientState) (action : Action)
    (steps : Steps j.origin old action new) where
  same_number : new.number ≡ old.number
  same_number = ap (λ (c : ClientState). c.number) steps.0

  -- what a client has seen of itself behind a step
  mine_then : mine_of new ≡ mine_of old ++ step_of old.number action ∷ []
  mine_then = ap (λ n. steps_of n new.seen) same_number ∙ steps.1.grows.mine

  own_on : (p : Phase) (d : DrawerState) → HasOwn p old d → HasOwn p new d
  own_on Phase.Closed d own = tt
  own_on (Phase.Drawn n) d own = own
  own_on (Phase.Entered n) d own = entered_behind j old new [] action n steps own

  own_entered : (n : ℕ) → action ≡ Action.Enter n (Ok tt) → HasEntered new n
  own_entered n is =
      subst (λ k. Contains (mine_of new) (entering k n)) (sym same_number)
      (subst (λ l. Contains l (entering old.number n)) (sym mine_then)
      (subst (λ a. Contains (mine_of old ++ step_of old.number a ∷ []) (entering old.number n))
      (sym is) (Contains-push (mine_of old) (entering old.number n))))

-- ---- it is a client of the store still

module _ {J : Type 0} (j : Ghosts J) (old new : ClientState) (w : WatcherState) (d : DrawerState)
    (p : Phase) (is : IsClient j old w d p) where
  pub stays : new ≡ old → IsClient j new w d p
  stays same = subst (λ l. IsClient j l w d p) (sym same) is

  -- where it is in a phase then
  steps_into : (q : Phase) (action : Action) → Steps j.origin old action new → HasOwn q new d →
      IsClient j new w d q
  steps_into q action steps own =
      client_meets j old new w d d p q new.seen is steps.1.grows.legal steps.0 refl own

  -- where it is entered
  pub enters_on : (n : ℕ) → Steps j.origin old (Action.Enter n (Ok tt)) new →
      IsClient j new w d (Phase.Entered n)
  enters_on n steps = steps_into (Phase.Entered n) (Action.Enter n (Ok tt)) steps
      (own_entered j old new (Action.Enter n (Ok tt)) steps n refl)

  -- where it has drawn a number
  pub draws_on : (e : DrawerState) (n : ℕ) → e ≡ with_number d n →
      IsClient j old w e (Phase.Drawn n)
  draws_on e n e_is = rw e_is (record {
    line_is = is.line_is;
    mark_is = is.mark_is;
    numbers_is = is.numbers_is;
    from = is.from;
    number = is.number;
    legal = is.legal;
    own = Contains-push d.drawn n;
  })

  -- where it goes on
  pub steps_on : (action : Action) → Steps j.origin old action new → IsClient j new w d p
  steps_on action steps = steps_into p action steps (own_on j old new action steps p d is.own)

  own_behind : (firsts : List Action) (last : Action) → StepsBehind j.origin old firsts last new →
      (q : Phase) → HasOwn q old d → HasOwn q new d
  own_behind firsts last steps Phase.Closed own = tt
  own_behind firsts last steps (Phase.Drawn n) own = own
  own_behind firsts last steps (Phase.Entered n) own =
      entered_behind j old new firsts last n steps own

  goes_on : (q : Phase) → HasOwn q old d → (firsts : List Action) (last : Action) →
      StepsBehind j.origin old firsts last new → IsClient j new w d q
  goes_on q own firsts last steps = client_meets j old new w d d p q new.seen is
      steps.1.grows.legal steps.0 refl (own_behind firsts last steps q own)

  -- Where its transaction was taken back, as far as that went, and it is in a phase then that was
  -- its own before,
  taken_to : (q : Phase) → HasOwn q old d → (n : ℕ) (r : Result (Unit {0}) Refusal) →
      TakesBack j.origin old n r new → IsClient j new w d q
  taken_to q own n r taken = ⊎_elim
      (λ done. goes_on q own (backs n taken.0 ++ back n (Ok false) ∷ []) (Action.Ended n r) done)
      (λ (refused : (e : Refusal) × (r ≡ Err e) ×
      StepsBehind j.origin old (backs n taken.0) (back n (Err e)) new).
      goes_on q own (backs n taken.0) (back n (Err refused.0)) refused.2) taken.1

  -- as where it is still open,
  pub taken_back : (n : ℕ) (r : Result (Unit {0}) Refusal) → TakesBack j.origin old n r new →
      IsClient j new w d p
  taken_back n r taken = taken_to p is.own n r taken

  -- or closed,
  pub taken_whole : (n : ℕ) (r : Result (Unit {0}) Refusal) → TakesBack j.origin old n r new →
      IsClient j new w d Phase.Closed
  taken_whole n r taken = taken_to Phase.Closed tt n r taken

  -- where something was looked for, and a refusal is a step,
  pub found_client : {X E : Type 0} (r : Result X E) (act : E → Action) →
      OnOk r (new ≡ old) → IfErr r (λ e. Steps j.origin old (act e) new) → IsClient j new w d p
  found_client (Ok x) act same steps = stays same
  found_client (Err e) act same steps = steps_on (act e) steps

  -- and where a step was tried.
  pub tried_client : {X : Type 0} (o : Option X) (P : X → Type 0) →
      ((x : X) → P x → (action : Action) × Steps j.origin old action new) →
      IfSome o P →
      (IsNone o → new ≡ old) → IsClient j new w d p
  tried_client None P step some none = stays (none refl)
  tried_client (Some x) P step some none = let so = step x some in steps_on so.0 so.1
