-- What a client has seen goes on with its steps.
use Rattle.std.proofs.Common.{◌≡◌, ◌⊎◌, ℕ, List, [], ◌∷◌, ◌++◌, sym, ap, ◌∙◌, subst}
use Rattle.std.proofs.Common.{append_assoc, ⊎_elim, inl, inr, Bool, true, false}
use Rattle.std.proofs.Common.{Result, Ok, Err}
use Rattle.calls.specs.declared.refusal.Refusal.{Refusal}
use Rattle.std.proofs.lemmas.List.{append-nil}
use Rattle.std.proofs.lemmas.List.Elements.{Contains-append_right}
use Rattle.txn.specs.declared.actions.Action.{Action}
use Rattle.txn.specs.declared.actions.BookStep.{BookStep}
use Rattle.group_commit.specs.Lines.{IsLonger, ClientState, seeing, steps_of}
use Rattle.group_commit.specs.Marks.{WatcherState}
use Rattle.group_commit.specs.Numbers.{DrawerState}
use Rattle.group_commit.specs.declared.mark.Raised.{Raised}
use Rattle.desks.specs.declared.naming.Naming.{Ghosts}
use Rattle.clients.specs.declared.phase.Phase.{Phase}
use Rattle.clients.specs.Calls.{IsClient, HasOwn, Moves, Acts, Does, Enters, IsEntering}
use Rattle.clients.specs.Calls.{number_in}
use Rattle.clients.specs.Calls.{back, backs, Hears, Decides, Waits}
use Rattle.desks.specs.Seen.{IsSeen, Grows, Took, StepsBehind, Steps}
use Rattle.desks.specs.TakenBack.{TakesBack}
pub use Rattle.desks.proofs.Stepping.{grows_then, took_next}
use Rattle.clients.specs.Known.{Known, known_of}

ok_same : (m n : ℕ) → ◌≡◌ {A = Result ℕ Refusal} (Ok m) (Ok n) → m ≡ n
ok_same m n e = cc

module _ {J : Type 0} (j : Ghosts J) where
  -- nothing was seen since
  pub grows_none : (n : ℕ) (seen : List BookStep) → IsSeen j.origin seen →
      Grows j.origin n seen [] seen
  grows_none n seen legal = record {
    begins = ([], append-nil seen);
    mine = sym (append-nil (steps_of n seen));
    legal = legal;
  }

  -- ---- what a client knows

  pub moves_then : (a b c : Known) → Moves a b → Moves b c → Moves a c
  moves_then a b c one two =
      two ∙ ap (λ (x : Known). record x { seen = c.seen; phase = c.phase }) one

  -- steps of the line are steps of the client
  acts_behind : (old new : ClientState) (w : WatcherState) (d : DrawerState) (p q : Phase)
      (firsts : List Action) (last : Action) → StepsBehind j.origin old firsts last new →
      Acts j.origin (known_of old w d p) firsts last (known_of new w d q)
  acts_behind old new w d p q firsts last steps = (
    ap (λ (c : ClientState). known_of c w d q) steps.0,
    steps.1,
  )

  -- and so is one
  pub acts_one : (old new : ClientState) (w : WatcherState) (d : DrawerState) (p q : Phase)
      (action : Action) → Steps j.origin old action new →
      Acts j.origin (known_of old w d p) [] action (known_of new w d q)
  acts_one old new w d p q action steps = acts_behind old new w d p q [] action steps

  -- and one more
  pub acts_next : (a b c : Known) (firsts : List Action) (mid last : Action) →
      Acts j.origin a firsts mid b → Acts j.origin b [] last c →
      Acts j.origin a (firsts ++ mid ∷ []) last c
  acts_next a b c firsts mid last one two =
      let same : b.number ≡ a.number = ap (λ (x : Known). x.number) one.0 in (
        moves_then a b c one.0 two.0,
        took_next j a.number a.seen b.seen c.seen (firsts ++ mid ∷ []) last one.1.grows
            (subst (λ n. Took j.origin n b.seen [] last c.seen) same two.1),
      )

  -- What takes the transaction back on the line takes that of the client back.
  pub acts_back : (old new : ClientState) (w : WatcherState) (d : DrawerState) (p q : Phase)
      (k : Known) (n : ℕ) (r : Result (Unit {0}) Refusal) → known_of old w d p ≡ k →
      TakesBack j.origin old n r new → (count : ℕ) ×
      (Acts j.origin k (backs n count ++ back n (Ok false) ∷ []) (Action.Ended n r)
      (known_of new w d q)
      ⊎ ((e : Refusal) × (r ≡ Err e) ×
      Acts j.origin k (backs n count) (back n (Err e)) (known_of new w d q)))
  acts_back old new w d p q k n r view back_to = (
    back_to.0,
    ⊎_elim
        (λ done. inl (subst (λ m. Acts j.origin m (backs n back_to.0 ++ back n (Ok false) ∷ [])
        (Action.Ended n r) (known_of new w d q)) view
        (acts_behind old new w d p q (backs n back_to.0 ++ back n (Ok false) ∷ [])
        (Action.Ended n r) done)))
        (λ (refused : (e : Refusal) × (r ≡ Err e) ×
        StepsBehind j.origin old (backs n back_to.0) (back n (Err e)) new). inr (
          refused.0,
          refused.1,
          subst (λ m. Acts j.origin m (backs n back_to.0) (back n (Err refused.0))
              (known_of new w d q)) view
              (acts_behind old new w d p q (backs n back_to.0) (back n (Err refused.0)) refused.2),
        )) back_to.1,
  )

  -- ---- clients that meet

  pub longer_legal : (one other longer : List BookStep) → IsLonger one other longer →
      IsSeen j.origin one → IsSeen j.origin other → IsSeen j.origin longer
  longer_legal one other longer is a b =
      ⊎_elim (λ e. subst (IsSeen j.origin) (sym e) a) (λ e. subst (IsSeen j.origin) (sym e) b)
      is.either

  pub client_meets : (old new : ClientState) (w : WatcherState) (d e : DrawerState)
      (p q : Phase) (seen : List BookStep) → IsClient j old w d p → IsSeen j.origin seen →
      new ≡ seeing old seen → e ≡ d → HasOwn q new e → IsClient j new w e q
  client_meets old new w d e p q seen is legal new_is same own = record {
    line_is = ap (λ (c : ClientState). c.table) new_is ∙ is.line_is;
    mark_is = is.mark_is;
    numbers_is = ap (λ (x : DrawerState). x.table) same ∙ is.numbers_is;
    from = ap (λ (x : DrawerState). x.from) same ∙ is.from;
    number = ap (λ (x : DrawerState). x.number) same ∙ is.number ∙
        sym (ap (λ (c : ClientState). c.number) new_is);
    legal = subst (IsSeen j.origin) (sym (ap (λ (c : ClientState). c.seen) new_is)) legal;
    own = own;
  }

  -- ---- the calls of a client

  -- the number is entered then
  pub enters_phase : (p : Phase) (old mid : Known) (n : ℕ) → old.phase ≡ p →
      Enters j.origin p old (Ok n) mid → mid.phase ≡ Phase.Entered n
  enters_phase Phase.Closed old mid n at enters = absurd enters
  enters_phase (Phase.Entered m) old mid n at enters =
      ap (λ (k : Known). k.phase) enters.1 ∙ at ∙ ap Phase.Entered (sym (ok_same n m enters.0))
  enters_phase (Phase.Drawn m) old mid n at enters = enters.2 ∙ ap Phase.Entered (sym enters.0)

  does_at : (p : Phase) (old mid new : Known) (n : ℕ) (own : ℕ → Action → Type 0)
      (refused : Refusal → Type 0) (after : ℕ → Phase) (action : Action) →
      Enters j.origin p old (Ok n) mid → own n action → Acts j.origin mid [] action new →
      new.phase ≡ after n →
      Does j.origin p old own refused after new
  does_at Phase.Closed old mid new n own refused after action enters its acts behind =
      absurd enters
  does_at (Phase.Entered m) old mid new n own refused after action enters its acts behind =
      let same = ok_same n m enters.0 in (
        action,
        subst (λ k. own k action) same its,
        subst (λ k. Acts j.origin k [] action new) enters.1 acts,
        behind ∙ ap after same,
      )
  does_at (Phase.Drawn m) old mid new n own refused after action enters its acts behind = inl (
    action,
    subst (λ k. own k action) enters.0 its,
    acts_next old mid new [] (Action.Enter m (Ok tt)) action enters.1 acts,
    behind ∙ ap after enters.0,
  )

  -- a step behind the entering
  pub does_next : (p : Phase) (old mid new : Known) (n : ℕ) (own : ℕ → Action → Type 0)
      (refused : Refusal → Type 0) (after : ℕ → Phase) (action : Action) → old.phase ≡ p →
      Enters j.origin p old (Ok n) mid → own n action → Acts j.origin mid [] action new →
      (mid.phase ≡ Phase.Entered n → new.phase ≡ after n) →
      Does j.origin p old own refused after new
  does_next p old mid new n own refused after action at enters its acts behind =
      does_at p old mid new n own refused after action enters its acts
      (behind (enters_phase p old mid n at enters))

  -- ---- the number is entered first

  -- what is done behind that is done
  pub does_entering : (p : Phase) (old mid new : Known) (own : ℕ → Action → Type 0)
      (refused : Refusal → Type 0) (after : ℕ → Phase) → old.phase ≡ p →
      IsEntering j.origin p old mid →
      Does j.origin mid.phase mid own refused after new → Does j.origin p old own refused after new
  does_entering p old mid new own refused after at entering does = ⊎_elim
      (λ same. subst (λ q. Does j.origin q old own refused after new) at
      (subst (λ (k : Known). Does j.origin k.phase k own refused after new) same does))
      (λ (entered : (n : ℕ) × Enters j.origin p old (Ok n) mid).
      let n = entered.0 in
      let so = subst (λ q. Does j.origin q mid own refused after new)
      (enters_phase p old mid n at entered.1) does in
      does_at p old mid new n own refused after so.0 entered.1 so.1 so.2 so.3) entering

  -- and what is entered again is entered
  pub entering_again : (p : Phase) (old mid new : Known) → old.phase ≡ p →
      IsEntering j.origin p old mid → IsEntering j.origin mid.phase mid new →
      IsEntering j.origin p old new
  entering_again p old mid new at entering again = ⊎_elim
      (λ same. subst (λ q. IsEntering j.origin q old new) at
      (subst (λ (k : Known). IsEntering j.origin k.phase k new) same again))
      (λ (entered : (n : ℕ) × Enters j.origin p old (Ok n) mid).
      let n = entered.0 in
      let stays = ⊎_elim (λ same. same)
      (λ (more : (m : ℕ) × Enters j.origin (Phase.Entered n) mid (Ok m) new).
      more.1.1) (subst (λ q. IsEntering j.origin q mid new) (enters_phase p old mid n at entered.1)
      again) in
      inr (n, subst (λ k. Enters j.origin p old (Ok n) k) (sym stays) entered.1)) entering

  -- One that is refused as another is.
  pub does_refused_so : (p : Phase) (old new : Known) (own : ℕ → Action → Type 0)
      (refused so : Refusal → Type 0) (after : ℕ → Phase) → ((e : Refusal) → refused e → so e) →
      Does j.origin p old own refused after new → Does j.origin p old own so after new
  does_refused_so Phase.Closed old new own refused so after gives does = absurd does
  does_refused_so (Phase.Entered n) old new own refused so after gives does = does
  does_refused_so (Phase.Drawn n) old new own refused so after gives does =
      ⊎_elim (λ done. inl done) (λ none. inr (none.0, gives none.0 none.1, none.2, none.3)) does

  -- The number that is entered is the transaction's.
  pub entered_number : (p : Phase) (old new : Known) (n : ℕ) → Enters j.origin p old (Ok n) new →
      number_in p ≡ n
  entered_number Phase.Closed old new n enters = absurd enters
  entered_number (Phase.Entered m) old new n enters = sym (ok_same n m enters.0)
  entered_number (Phase.Drawn m) old new n enters = sym enters.0

-- ---- waiting

pub hears_none : (a : Known) → Hears a [] [] a
hears_none a = sym ((λ i. record a {
  counts = append-nil a.counts i;
  flags = append-nil a.flags i;
}))

pub hears_then : (a b c : Known) (xs ys : List Raised) (us vs : List Bool) → Hears a xs us b →
    Hears b ys vs c → Hears a (xs ++ ys) (us ++ vs) c
hears_then a b c xs ys us vs one two =
    two ∙ ap (λ (k : Known). record k { counts = k.counts ++ ys; flags = k.flags ++ vs }) one ∙
    (λ i. record a {
      counts = append_assoc a.counts xs ys i;
      flags = append_assoc a.flags us vs i;
    })

decides_more : (place : ℕ) (xs ys : List Raised) (us vs : List Bool)
    (r : Result (Unit {0}) Refusal) →
    Decides place ys vs r → Decides place (xs ++ ys) (us ++ vs) r
decides_more place xs ys us vs (Ok done) d = (d.0, Contains-append_right xs ys d.0 d.1, d.2)
decides_more place xs ys us vs (Err Refusal.Lost) d = Contains-append_right us vs true d
decides_more place xs ys us vs (Err e) d = absurd d

pub waits_then : (a b c : Known) (place : ℕ) (r : Result (Unit {0}) Refusal) (xs : List Raised)
    (us : List Bool) → Hears a xs us b → Waits b place r c → Waits a place r c
waits_then a b c place r xs us hears waits = record {
  counts = xs ++ waits.counts;
  flags = us ++ waits.flags;
  hears = hears_then a b c xs waits.counts us waits.flags hears waits.hears;
  decides = decides_more place xs waits.counts us waits.flags r waits.decides;
}
