-- What was tried, and what went through.
use Rattle.std.proofs.Common.{◌≡◌, inl, inr, ℕ, zero, suc, ◌<◌, List, [], ◌∷◌, ◌++◌, length}
use Rattle.std.proofs.Common.{Bool, true, false, Result, Ok, Err, IfOk, IfErr, refl, sym, ap, ◌∙◌}
use Rattle.std.proofs.Common.{◌⊎◌, ◌+◌, ◌≤◌, subst, arith, add-one}
use Rattle.std.specs.Prelude.{Contains, slice_index_or}
use Rattle.std.specs.List.{AllByRecursion}
use Rattle.std.proofs.lemmas.List.{append-nil}
use Rattle.std.proofs.lemmas.List.Elements.{Contains-append_left, Contains-append_right}
use Rattle.std.proofs.lemmas.List.Elements.{Contains-append_cases}
use Rattle.calls.specs.declared.refusal.Refusal.{Refusal}
use Rattle.txn.specs.declared.actions.Action.{Action}
use Rattle.group_commit.specs.declared.mark.Raised.{Raised}
use Rattle.desks.specs.declared.naming.Naming.{Ghosts}
use Rattle.clients.specs.declared.phase.Phase.{Phase}
use Rattle.clients.specs.declared.ticket.Ticket.{Ticket}
use Rattle.clients.specs.Attempts.{Attempts, IsOfCalls, IsRefusedEntry, IsOpenUnder}
use Rattle.clients.specs.Attempts.{IsBegun, number_of}
use Rattle.clients.specs.Calls.{Acts, Does, Aborts, Hears, Draws, IsWorn, Waits, Decides}
use Rattle.clients.specs.Calls.{IsOpen, back, backs, ended_by, placed}
use Rattle.desks.specs.Seen.{IsSeen, Grows}
use Rattle.clients.specs.Known.{Known}
use Rattle.boosted.proofs.Each.{each_append, weaker}
use Rattle.clients.proofs.Seeing.{grows_none, grows_then}
use Rattle.fizgaloms.specs.Transactions.{CommitsNothing, WasLive, WasEnded, Commits, Tried, Ran}
use Rattle.fizgaloms.specs.Transactions.{IsPassing, IsWithin, TakesBack, Begins, AsksCommit, Stops}
use Rattle.fizgaloms.specs.Transactions.{IsRefused, PassesOften, GivesUp, GoesThrough, IsKept}
use Rattle.fizgaloms.specs.Works.{KnowsStill}
use Rattle.fizgaloms.proofs.Knowing.{knows_same, knows_through, knows_heard, knows_acted}

-- ---- elements

-- an element has what each has
each_at : {A : Type 0} (P : A → Type 0) (xs : List A) (a : A) (k : ℕ) → k < length xs →
    slice_index_or xs k a ≡ a → AllByRecursion P xs → P a
each_at P [] a k lt is all = let no : ⊥ = omega (arith, lt) in absurd no
each_at P (x ∷ xs) a zero lt is all = subst P is all.0
each_at P (x ∷ xs) a (suc k) lt is all = each_at P xs a k (omega (arith, lt)) is all.1

each_holds : {A : Type 0} (P : A → Type 0) (xs : List A) (a : A) → Contains xs a →
    AllByRecursion P xs → P a
each_holds P xs a some all = each_at P xs a some.0 some.1 some.2 all

has_last : {A : Type 0} (xs : List A) (a : A) → Contains (xs ++ a ∷ []) a
has_last xs a = Contains-append_right xs (a ∷ []) a (0, omega arith, refl)

entered_same : (m n : ℕ) → Phase.Entered m ≡ Phase.Entered n → m ≡ n
entered_same m n e = cc

-- what is not true
pub not_true : ◌≡◌ {A = Bool} false true → ⊥
not_true same = cc

-- a refusal of which this holds
pub refused_with : {T : Type 0} (P : Refusal → Type 0) (r : Result T Refusal) (e f : Refusal) →
    r ≡ Err e → e ≡ f → P f → IfErr r P
refused_with P r e f is same p = subst (λ x. IfErr x P) (sym is) (subst P (sym same) p)

-- ---- what was tried

module _ {J : Type 0} (j : Ghosts J) where
  -- nothing
  pub tried_none : (known : Known) → IsSeen j.origin known.seen → Tried j.origin known [] known
  tried_none known legal = record {
    knows = knows_same known;
    grows = grows_none j known.number known.seen legal;
    commits_nothing = tt;
    are_ended = λ n live. elim live [
      | inl was ↦ inr was
      | inr entered ↦ let no : ⊥ = omega (arith, entered.1) in absurd no
    ];
  }

  -- one thing behind another
  pub tried_then : (a b c : Known) (xs ys : List Action) → Tried j.origin a xs b →
      Tried j.origin b ys c →
      Tried j.origin a (xs ++ ys) c
  tried_then a b c xs ys one two = record {
    knows = knows_through a b c one.knows two.knows;
    grows = grows_then j a.number a.seen b.seen c.seen xs ys one.grows
        (subst (λ k. Grows j.origin k b.seen ys c.seen) one.knows.number two.grows);
    commits_nothing = each_append CommitsNothing xs ys one.commits_nothing two.commits_nothing;
    are_ended = ended;
  }
    where
      later : (n : ℕ) → WasLive b.phase ys n → WasEnded (xs ++ ys) c.phase n
      later n live = elim (two.are_ended n live) [
        | inl there ↦ inl (Contains-append_right xs ys (Action.Ended n (Ok tt)) there)
        | inr still ↦ inr still
      ]

      first : (n : ℕ) → WasLive a.phase xs n → WasEnded (xs ++ ys) c.phase n
      first n live = elim (one.are_ended n live) [
        | inl there ↦ inl (Contains-append_left xs ys (Action.Ended n (Ok tt)) there)
        | inr still ↦ later n (inl still)
      ]

      ended : (n : ℕ) → WasLive a.phase (xs ++ ys) n → WasEnded (xs ++ ys) c.phase n
      ended n live = elim live [
        | inl was ↦ first n (inl was)
        | inr entered ↦
            elim (Contains-append_cases xs ys (Action.Enter n (Ok tt)) entered) [
              | inl early ↦ first n (inr early)
              | inr late ↦ later n (inr late)
            ]
      ]

  -- the flag was loaded
  pub tried_heard : (a b c : Known) (xs : List Action) (flags : List Bool) → Tried j.origin a xs b →
      Hears b [] flags c → Tried j.origin a xs c
  tried_heard a b c xs flags is hears =
      let seen : c.seen ≡ b.seen = ap (λ (k : Known). k.seen) hears in
      let phase : c.phase ≡ b.phase = ap (λ (k : Known). k.phase) hears in record {
        knows = knows_through a b c is.knows (knows_heard b c [] flags hears);
        grows = subst (Grows j.origin a.number a.seen xs) (sym seen) is.grows;
        commits_nothing = is.commits_nothing;
        are_ended = λ n live. subst (λ p. WasEnded xs p n) (sym phase) (is.are_ended n live);
      }

  -- what it knows changed in nothing that counts here
  tried_same : (a b c : Known) (xs : List Action) → Tried j.origin a xs b → KnowsStill b c →
      c.seen ≡ b.seen → ((n : ℕ) → b.phase ≡ Phase.Entered n → c.phase ≡ Phase.Entered n) →
      Tried j.origin a xs c
  tried_same a b c xs is knows seen stays = record {
    knows = knows_through a b c is.knows knows;
    grows = subst (Grows j.origin a.number a.seen xs) (sym seen) is.grows;
    commits_nothing = is.commits_nothing;
    are_ended = λ n live. elim (is.are_ended n live) [
      | inl there ↦ inl there
      | inr still ↦ inr (stays n still)
    ];
  }

  knows_drawn : (b c : Known) (n next : ℕ) → Draws next b n c → KnowsStill b c
  knows_drawn b c n next draws = record {
    number = ap (λ (k : Known). k.number) draws.new_is;
    seen = ([], append-nil b.seen ∙ sym (ap (λ (k : Known). k.seen) draws.new_is));
    counts = λ count some. subst (λ l. Contains l count)
        (sym (ap (λ (k : Known). k.counts) draws.new_is)) some;
  }

  not_both : (n : ℕ) → Phase.Closed ≡ Phase.Entered n → ⊥
  not_both n e = cc

  drawn_not_entered : (m n : ℕ) → Phase.Drawn m ≡ Phase.Entered n → ⊥
  drawn_not_entered m n e = cc

  -- a number was drawn
  pub tried_drawn : (a b c : Known) (xs : List Action) (n next : ℕ) → Tried j.origin a xs b →
      b.phase ≡ Phase.Closed → Draws next b n c → Tried j.origin a xs c
  tried_drawn a b c xs n next is closed draws =
      tried_same a b c xs is (knows_drawn b c n next draws)
      (ap (λ (k : Known). k.seen) draws.new_is)
      (λ m entered. absurd (not_both m (sym closed ∙ entered)))

  -- no number was drawn that serves
  pub tried_worn : (a b c : Known) (xs : List Action) (next : ℕ) → Tried j.origin a xs b →
      IsWorn next b c → Tried j.origin a xs c
  tried_worn a b c xs next is worn = elim worn [
    | inl few ↦ subst (Tried j.origin a xs) (sym few.1) is
    | inr drawn ↦
        tried_same a b c xs is (knows_drawn b c drawn.0 next drawn.2)
        (ap (λ (k : Known). k.seen) drawn.2.new_is) (λ m entered. drawn.3 ∙ entered)
  ]

  -- ---- steps

  -- steps were taken
  tried_acts : (old new : Known) (firsts : List Action) (last : Action) →
      Acts j.origin old firsts last new → AllByRecursion CommitsNothing (firsts ++ last ∷ []) →
      ((n : ℕ) → WasLive old.phase (firsts ++ last ∷ []) n →
      WasEnded (firsts ++ last ∷ []) new.phase n) → Tried j.origin old (firsts ++ last ∷ []) new
  tried_acts old new firsts last acts nothing ended = record {
    knows = knows_acted j old new firsts last acts;
    grows = acts.1.grows;
    commits_nothing = nothing;
    are_ended = ended;
  }

-- no number is entered
abbrev IsNoEntry : Action → Type 0
IsNoEntry (Action.Enter n r) = ⊥
IsNoEntry action = Unit {0}

-- no other number is entered
abbrev IsNoOther : ℕ → Action → Type 0
IsNoOther n (Action.Enter m r) = m ≡ n
IsNoOther n action = Unit {0}

no_entry : (actions : List Action) (n : ℕ) → AllByRecursion IsNoEntry actions →
    Contains actions (Action.Enter n (Ok tt)) → ⊥
no_entry actions n none some = each_holds IsNoEntry actions (Action.Enter n (Ok tt)) some none

all_backs : (P : Action → Type 0) (n count : ℕ) → P (back n (Ok true)) →
    AllByRecursion P (backs n count)
all_backs P n zero p = tt
all_backs P n (suc count) p = (p, all_backs P n count p)

module _ {J : Type 0} (j : Ghosts J) where
  undone_acts : (n : ℕ) (old new : Known) (firsts : List Action) (last : Action) →
      old.phase ≡ Phase.Entered n → Acts j.origin old firsts last new →
      AllByRecursion IsNoEntry (firsts ++ last ∷ []) →
      AllByRecursion CommitsNothing (firsts ++ last ∷ []) →
      WasEnded (firsts ++ last ∷ []) new.phase n → Tried j.origin old (firsts ++ last ∷ []) new
  undone_acts n old new firsts last at acts no_entries nothing ended =
      tried_acts j old new firsts last acts nothing (λ m live. elim live [
        | inl was ↦
            subst (WasEnded (firsts ++ last ∷ []) new.phase) (entered_same n m (sym at ∙ was))
            ended
        | inr entered ↦ absurd (no_entry (firsts ++ last ∷ []) m no_entries entered)
      ])

  aborted : (n : ℕ) (old new : Known) (r : Result (Unit {0}) Refusal) →
      old.phase ≡ Phase.Entered n → Aborts j.origin (Phase.Entered n) old r new →
      (actions : List Action) × Tried j.origin old actions new
  aborted n old new (Ok done) at aborts = elim aborts.1.1 [
    | inl ended ↦
        let firsts = backs n aborts.1.0 ++ back n (Ok false) ∷ [] in
        let last = Action.Ended n (Ok tt) in (
          firsts ++ last ∷ [],
          undone_acts n old new firsts last at ended
              (each_append IsNoEntry firsts (last ∷ [])
              (each_append IsNoEntry (backs n aborts.1.0) (back n (Ok false) ∷ [])
              (all_backs IsNoEntry n aborts.1.0 tt) (tt, tt)) (tt, tt))
              (each_append CommitsNothing firsts (last ∷ [])
              (each_append CommitsNothing (backs n aborts.1.0) (back n (Ok false) ∷ [])
              (all_backs CommitsNothing n aborts.1.0 tt) (tt, tt)) (tt, tt))
              (inl (has_last firsts last)),
        )
    | inr undone ↦ absurd (no_ok undone.0 undone.1)
  ]
    where
      no_ok : (e : Refusal) → ◌≡◌ {A = Result (Unit {0}) Refusal} (Ok done) (Err e) → ⊥
      no_ok e same = cc
  aborted n old new (Err e) at aborts = elim aborts.1.1 [
    | inl ended ↦
        let firsts = backs n aborts.1.0 ++ back n (Ok false) ∷ [] in
        let last = Action.Ended n (Err e) in (
          firsts ++ last ∷ [],
          undone_acts n old new firsts last at ended
              (each_append IsNoEntry firsts (last ∷ [])
              (each_append IsNoEntry (backs n aborts.1.0) (back n (Ok false) ∷ [])
              (all_backs IsNoEntry n aborts.1.0 tt) (tt, tt)) (tt, tt))
              (each_append CommitsNothing firsts (last ∷ [])
              (each_append CommitsNothing (backs n aborts.1.0) (back n (Ok false) ∷ [])
              (all_backs CommitsNothing n aborts.1.0 tt) (tt, tt)) (tt, tt))
              (inr aborts.0),
        )
    | inr undone ↦
        let firsts = backs n aborts.1.0 in let last = back n (Err undone.0) in (
          firsts ++ last ∷ [],
          undone_acts n old new firsts last at undone.2
              (each_append IsNoEntry firsts (last ∷ []) (all_backs IsNoEntry n aborts.1.0 tt)
              (tt, tt))
              (each_append CommitsNothing firsts (last ∷ [])
              (all_backs CommitsNothing n aborts.1.0 tt) (tt, tt))
              (inr aborts.0),
        )
  ]

  abandoned : (n : ℕ) (old new : Known) → IsSeen j.origin old.seen → old.phase ≡ Phase.Drawn n →
      new ≡ record old { phase = Phase.Closed } → Tried j.origin old [] new
  abandoned n old new legal at is =
      tried_same j old old new [] (tried_none j old legal) (record {
        number = ap (λ (k : Known). k.number) is;
        seen = ([], append-nil old.seen ∙ sym (ap (λ (k : Known). k.seen) is));
        counts = λ count some. subst (λ l. Contains l count)
            (sym (ap (λ (k : Known). k.counts) is)) some;
      }) (ap (λ (k : Known). k.seen) is)
      (λ m entered. absurd (drawn_not_entered j n m (sym at ∙ entered)))

  -- a transaction was aborted, or that was refused
  pub tried_aborted : (p : Phase) (old new : Known) (r : Result (Unit {0}) Refusal) →
      old.phase ≡ p → IsSeen j.origin old.seen → Aborts j.origin p old r new →
      (actions : List Action) × Tried j.origin old actions new
  tried_aborted Phase.Closed old new r at legal aborts = absurd aborts
  tried_aborted (Phase.Drawn n) old new r at legal aborts =
      ([], abandoned n old new legal at aborts.1)
  tried_aborted (Phase.Entered n) old new r at legal aborts = aborted n old new r at aborts

  -- ---- an attempt

  calls_commit_nothing : (n : ℕ) (action : Action) → IsOfCalls n action → CommitsNothing action
  calls_commit_nothing n (Action.Make name kind r) is = absurd is
  calls_commit_nothing n (Action.Enter m r) is = tt
  calls_commit_nothing n (Action.Ask m target call when r) is = tt
  calls_commit_nothing n (Action.Commit m r) is = absurd is
  calls_commit_nothing n (Action.Back m r) is = absurd is
  calls_commit_nothing n (Action.Ended m r) is = absurd is
  calls_commit_nothing n (Action.Cut m r) is = absurd is
  calls_commit_nothing n (Action.Gather r) is = absurd is
  calls_commit_nothing n (Action.Freeze r) is = absurd is

  entered_still : (n m : ℕ) (made : List Action) (p : Phase) → IsOpenUnder n made p →
      AllByRecursion (IsOfCalls n) made → Contains made (Action.Enter m (Ok tt)) →
      p ≡ Phase.Entered m
  entered_still n m made Phase.Closed opened calls entered = absurd opened
  entered_still n m made (Phase.Drawn k) opened calls entered =
      absurd (each_holds IsRefusedEntry made (Action.Enter m (Ok tt)) entered opened.1)
  entered_still n m made (Phase.Entered k) opened calls entered =
      ap Phase.Entered
      (opened ∙ sym (each_holds (IsOfCalls n) made (Action.Enter m (Ok tt)) entered calls))

  knows_attempted : (n : ℕ) (old new : Known) (made : List Action) →
      Attempts j.origin n old made new →
      KnowsStill old new
  knows_attempted n old new made is = record {
    number = ap (λ (k : Known). k.number) is.moves;
    seen = is.grows.begins;
    counts = λ count some. subst (λ l. Contains l count)
        (sym (ap (λ (k : Known). k.counts) is.moves)) some;
  }

  pub tried_attempted : (n : ℕ) (old new : Known) (made : List Action) → IsBegun old.phase →
      Attempts j.origin n old made new → Tried j.origin old made new
  tried_attempted n old new made begun is = record {
    knows = knows_attempted n old new made is;
    grows = is.grows;
    commits_nothing =
        weaker (IsOfCalls n) CommitsNothing (calls_commit_nothing n) made is.are_calls;
    are_ended = λ m live. elim live [
      | inl was ↦ absurd (subst IsBegun was begun)
      | inr entered ↦ inr (entered_still n m made new.phase is.is_open is.are_calls entered)
    ];
  }

  -- ---- a commit

  -- one that was refused
  pub tried_commit : (p : Phase) (old new : Known) (e : Refusal) → old.phase ≡ p →
      Does j.origin p old
      (λ n a. a ≡ Action.Commit n (placed (Err e)))
      (λ f. ◌≡◌ {A = Result Ticket Refusal} (Err e) (Err f))
      (ended_by {T = Ticket} (Err e)) new → (actions : List Action) × Tried j.origin old actions new
  tried_commit Phase.Closed old new e at does = absurd does
  tried_commit (Phase.Entered n) old new e at does = (
    does.0 ∷ [],
    undone_acts n old new [] does.0 at does.2
        (subst IsNoEntry (sym does.1) tt, tt) (subst CommitsNothing (sym does.1) tt, tt)
        (inr does.3),
  )
  tried_commit (Phase.Drawn n) old new e at does = elim does [
    | inl done ↦ (
      Action.Enter n (Ok tt) ∷ done.0 ∷ [],
      tried_acts j old new (Action.Enter n (Ok tt) ∷ []) done.0 done.2
          (tt, (subst CommitsNothing (sym done.1) tt, tt)) (λ m live. elim live [
            | inl was ↦ absurd (drawn_not_entered j n m (sym at ∙ was))
            | inr entered ↦
                inr (done.3 ∙ ap Phase.Entered (sym (each_holds (IsNoOther n)
                (Action.Enter n (Ok tt) ∷ done.0 ∷ []) (Action.Enter m (Ok tt)) entered
                (refl, (subst (IsNoOther n) (sym done.1) tt, tt)))))
          ]),
    )
    | inr none ↦ (
      Action.Enter n (Err none.0) ∷ [],
      tried_acts j old new [] (Action.Enter n (Err none.0)) none.2 (tt, tt)
          (λ m live. elim live [
            | inl was ↦ absurd (drawn_not_entered j n m (sym at ∙ was))
            | inr entered ↦
                absurd (each_holds IsRefusedEntry (Action.Enter n (Err none.0) ∷ [])
                (Action.Enter m (Ok tt)) entered (tt, tt))
          ]),
    )
  ]

  -- one that was accepted
  commits_by : (n : ℕ) (made : List Action) (p : Phase) (mid new : Known) (t : Ticket) →
      IsOpenUnder n made p → Does j.origin p mid (λ m a. a ≡ Action.Commit m (placed (Ok t)))
      (λ e. ◌≡◌ {A = Result Ticket Refusal} (Ok t) (Err e)) (ended_by {T = Ticket} (Ok t)) new →
      (ends : List Action) × (Commits n t.place ends ×
      (Grows j.origin mid.number mid.seen ends new.seen ×
      KnowsStill mid new))
  commits_by n made Phase.Closed mid new t opened does = absurd opened
  commits_by n made (Phase.Entered m) mid new t opened does = (
    does.0 ∷ [],
    (
      inl (ap (λ a. a ∷ []) (does.1 ∙ ap (λ k. Action.Commit k (Ok t.place)) opened)),
      (does.2.1.grows, knows_acted j mid new [] does.0 does.2),
    ),
  )
  commits_by n made (Phase.Drawn m) mid new t opened does = elim does [
    | inl done ↦ (
      Action.Enter m (Ok tt) ∷ done.0 ∷ [],
      (
        inr (ap (λ a. Action.Enter m (Ok tt) ∷ a ∷ []) done.1 ∙
            ap (λ k. Action.Enter k (Ok tt) ∷ Action.Commit k (Ok t.place) ∷ []) opened.0),
        (
          done.2.1.grows,
          knows_acted j mid new (Action.Enter m (Ok tt) ∷ []) done.0 done.2,
        ),
      ),
    )
    | inr none ↦ absurd (no_refusal none.0 none.1)
  ]
    where
      no_refusal : (e : Refusal) → ◌≡◌ {A = Result Ticket Refusal} (Ok t) (Err e) → ⊥
      no_refusal e same = cc

  -- ---- what is taken back and begun

  pub none_open : (p : Phase) → (IsOpen p → ⊥) → p ≡ Phase.Closed
  none_open Phase.Closed none = refl
  none_open (Phase.Drawn n) none = absurd (none tt)
  none_open (Phase.Entered n) none = absurd (none tt)

  -- there was nothing to take back
  pub took_none : (known : Known) → (IsOpen known.phase → ⊥) →
      TakesBack j.origin known (Ok tt) known
  took_none known none = inl (none_open known.phase none, refl, refl)

  pub begun_is : (old begun : Known) → Begins j.origin old begun → IsBegun begun.phase
  begun_is old begun begins = subst IsBegun (sym begins.drawn) tt

  -- ---- an attempt that goes through

  module _ (refuses : Refusal → List Action → Type 0) where
    -- behind an attempt and its commit
    pub ran_through : (says : List Action → Type 0) (old begun mid new : Known)
        (tried made : List Action) (t : Ticket) → Tried j.origin old tried begun →
        Begins j.origin old begun →
        Attempts j.origin (number_of begun.phase) begun made mid → says made →
        AsksCommit j.origin mid (Ok t) new → new.phase ≡ Phase.Closed →
        Ran j.origin refuses 1 says old t.place new
    ran_through says old begun mid new tried made t tries begins is said does closed =
        let n = number_of begun.phase in
        let known = knows_attempted n begun mid made is in
        let commit = commits_by n made mid.phase mid new t is.is_open does in
        let grown : Grows j.origin begun.number begun.seen (made ++ commit.0) new.seen =
        grows_then j begun.number begun.seen mid.seen new.seen made commit.0 is.grows
        (subst (λ k. Grows j.origin k mid.seen commit.0 new.seen) known.number commit.1.1.0) in
        record {
          knows = knows_through old begun new tries.knows
              (knows_through begun mid new known commit.1.1.1);
          refused = 0;
          within = inl refl;
          before = old;
          passes = refl;
          begun = begun;
          begins = begins;
          tried = tried;
          tries = tries;
          made = made;
          said = said;
          are_calls = is.are_calls;
          ends = commit.0;
          commits = commit.1.0;
          grows = subst (λ k. Grows j.origin k begun.seen (made ++ commit.0) new.seen)
              tries.knows.number grown;
          closed = closed;
        }

    -- where one attempt alone may be made, none was made before
    first_is : (refused : ℕ) (old before : Known) → IsWithin 1 refused →
        PassesOften j.origin refuses refused old before → before ≡ old
    first_is zero old before within passes = passes
    first_is (suc n) old before within passes = elim within [
      | inl none ↦ let no : ⊥ = omega (arith, none) in absurd no
      | inr few ↦ let no : ⊥ = omega (arith, few) in absurd no
    ]

    -- and behind the loading of a mark
    pub ran_heard : (bound : ℕ) (says : List Action → Type 0) (a b c : Known) (place : ℕ)
        (counts : List Raised) (flags : List Bool) → Ran j.origin refuses bound says a place b →
        Hears b counts flags c → Ran j.origin refuses bound says a place c
    ran_heard bound says a b c place counts flags ran hears = record {
      knows = knows_through a b c ran.knows (knows_heard b c counts flags hears);
      refused = ran.refused;
      within = ran.within;
      before = ran.before;
      passes = ran.passes;
      begun = ran.begun;
      begins = ran.begins;
      tried = ran.tried;
      tries = ran.tries;
      made = ran.made;
      said = ran.said;
      are_calls = ran.are_calls;
      ends = ran.ends;
      commits = ran.commits;
      grows = subst (Grows j.origin a.number ran.begun.seen (ran.made ++ ran.ends))
          (sym (ap (λ (k : Known). k.seen) hears)) ran.grows;
      closed = ap (λ (k : Known). k.phase) hears ∙ ran.closed;
    }

    -- ---- attempts that were refused

    -- one that was taken back, or that was refused
    pub refused_as : (old left new : Known) (own e : Refusal) →
        Stops j.origin refuses old own left →
        ((e ≡ own) × TakesBack j.origin left (Ok tt) new) ⊎ TakesBack j.origin left (Err e) new →
        IsRefused j.origin refuses old e new
    refused_as old left new own e stops takes = record {
      own = own;
      left = left;
      stops = stops;
      taken_back = takes;
    }

    -- How far an attempt of this number has come, of no more than so many: those before it were
    -- refused.
    pub record Goes (bound : ℕ) (old : Known) (number : ℕ) (now : Known) : Type 0 where
      pub refused : ℕ
      pub is : number ≡ refused + 1
      pub within : IsWithin bound refused
      pub passes : PassesOften j.origin refuses refused old now
      pub tried : List Action
      pub tries : Tried j.origin old tried now

    -- the first one
    pub goes_first : (bound : ℕ) (known : Known) → IsSeen j.origin known.seen →
        Goes bound known 1 known
    goes_first bound known legal = record {
      refused = 0;
      is = omega arith;
      within = inl refl;
      passes = refl;
      tried = [];
      tries = tried_none j known legal;
    }

    -- the next one
    pub goes_on : (bound : ℕ) (old now left new : Known) (number : ℕ) (e : Refusal) →
        Goes bound old number now → number < bound → IsPassing e →
        IsRefused j.origin refuses now e left →
        (xs : List Action) × Tried j.origin now xs left → Hears left [] (false ∷ []) new →
        Goes bound old (number + 1) new
    goes_on bound old now left new number e goes few passing is tried hears = record {
      refused = goes.refused + 1;
      is = ap (λ k. k + 1) goes.is;
      within = inr (let same = goes.is in omega (arith, few, same));
      passes = subst (λ k. PassesOften j.origin refuses k old new) (sym (add-one goes.refused)) (
        now,
        goes.passes,
        record {
          refusal = e;
          is_passing = passing;
          left = left;
          is_refused = is;
          hears = hears;
        },
      );
      tried = goes.tried ++ tried.0;
      tries = tried_heard j old left new (goes.tried ++ tried.0) (false ∷ [])
          (tried_then j old now left goes.tried tried.0 goes.tries tried.1) hears;
    }

    -- as far, of more
    goes_wider : (bound more : ℕ) (old now : Known) (number : ℕ) → Goes bound old number now →
        bound ≤ more → Goes more old number now
    goes_wider bound more old now number goes few = record {
      refused = goes.refused;
      is = goes.is;
      within = elim goes.within [
        | inl none ↦ inl none
        | inr less ↦ inr (omega (arith, few, less))
      ];
      passes = goes.passes;
      tried = goes.tried;
      tries = goes.tries;
    }

    -- How far an attempt has come, of as many as it takes.
    abbrev pub Seeks : Known → Known → Type 0
    Seeks old now = (number : ℕ) × Goes number old number now

    -- the next one, which is one more of those that it takes
    pub seeks_on : (old now left new : Known) (e : Refusal) → Seeks old now → IsPassing e →
        IsRefused j.origin refuses now e left →
        (xs : List Action) × Tried j.origin now xs left → Hears left [] (false ∷ []) new →
        Seeks old new
    seeks_on old now left new e seeks passing is tried hears = (
      seeks.0 + 1,
      goes_on (seeks.0 + 1) old now left new seeks.0 e
          (goes_wider seeks.0 (seeks.0 + 1) old now seeks.0 seeks.1 (omega arith)) (omega arith)
          passing is tried hears,
    )

    -- an attempt behind which no other is made
    pub gives_up : (bound : ℕ) (old now new : Known) (number : ℕ) (e : Refusal) →
        Goes bound old number now → IsRefused j.origin refuses now e new →
        (xs : List Action) × Tried j.origin now xs new → (IsPassing e → bound ≤ number) →
        GivesUp j.origin refuses bound old e new
    gives_up bound old now new number e goes is tried ends = record {
      tried = goes.tried ++ tried.0;
      tries = tried_then j old now new goes.tried tried.0 goes.tries tried.1;
      refused = goes.refused;
      within = goes.within;
      before = now;
      passes = goes.passes;
      last = e;
      left = new;
      is_refused = is;
      ends = inl (
        refl,
        refl,
        λ passing. subst (λ k. bound ≤ k) goes.is (ends passing),
      );
    }

    -- one behind which keeping had failed
    pub gives_up_lost : (bound : ℕ) (old now left new : Known) (number : ℕ) (e : Refusal) →
        Goes bound old number now → IsPassing e → IsRefused j.origin refuses now e left →
        (xs : List Action) × Tried j.origin now xs left → Hears left [] (true ∷ []) new →
        GivesUp j.origin refuses bound old Refusal.Lost new
    gives_up_lost bound old now left new number e goes passing is tried hears = record {
      tried = goes.tried ++ tried.0;
      tries = tried_heard j old left new (goes.tried ++ tried.0) (true ∷ [])
          (tried_then j old now left goes.tried tried.0 goes.tries tried.1) hears;
      refused = goes.refused;
      within = goes.within;
      before = now;
      passes = goes.passes;
      last = e;
      left = left;
      is_refused = is;
      ends = inr (refl, passing, hears);
    }

    -- one that goes through
    pub goes_through : (bound : ℕ) (says : List Action → Type 0) (old now new : Known)
        (number place : ℕ) → Goes bound old number now → Ran j.origin refuses 1 says now place new →
        Ran j.origin refuses bound says old place new
    goes_through bound says old now new number place goes ran =
        let same = first_is ran.refused now ran.before ran.within ran.passes in record {
          knows = knows_through old now new goes.tries.knows ran.knows;
          refused = goes.refused;
          within = goes.within;
          before = now;
          passes = goes.passes;
          begun = ran.begun;
          begins = subst (λ k. Begins j.origin k ran.begun) same ran.begins;
          tried = goes.tried ++ ran.tried;
          tries = tried_then j old now ran.begun goes.tried ran.tried goes.tries ran.tries;
          made = ran.made;
          said = ran.said;
          are_calls = ran.are_calls;
          ends = ran.ends;
          commits = ran.commits;
          grows = subst (λ k. Grows j.origin k ran.begun.seen (ran.made ++ ran.ends) new.seen)
              goes.tries.knows.number ran.grows;
          closed = ran.closed;
        }

    module _ {A : Type 0} (says : A → List Action → Type 0) where
      -- an attempt that is the last one, however it ended
      pub transacts_last : (bound : ℕ) (old now new : Known) (number : ℕ)
          (r : Result (A × Ticket) Refusal) → Goes bound old number now →
          IfOk r (λ done. Ran j.origin refuses 1 (says done.0) now done.1.place new) →
          IfErr r (λ e. (xs : List Action) × Tried j.origin now xs new) →
          IfErr r (λ e. IsRefused j.origin refuses now e new) →
          ((e : Refusal) → r ≡ Err e → IsPassing e → bound ≤ number) →
          GoesThrough j.origin refuses says bound old r new
      transacts_last bound old now new number (Ok done) goes ran tried is ends =
          goes_through bound (says done.0) old now new number done.1.place goes ran
      transacts_last bound old now new number (Err e) goes ran tried is ends =
          gives_up bound old now new number e goes is tried (ends e refl)

      lost_is : (place : ℕ) (counts : List Raised) (flags : List Bool) (e : Refusal) →
          Decides place counts flags (Err e) → e ≡ Refusal.Lost
      lost_is place counts flags Refusal.BadName decides = absurd decides
      lost_is place counts flags Refusal.BadArg decides = absurd decides
      lost_is place counts flags Refusal.TooLong decides = absurd decides
      lost_is place counts flags Refusal.NoMemory decides = absurd decides
      lost_is place counts flags Refusal.NameTaken decides = absurd decides
      lost_is place counts flags Refusal.NoSuchCollection decides = absurd decides
      lost_is place counts flags Refusal.WrongKind decides = absurd decides
      lost_is place counts flags Refusal.TooManyCollections decides = absurd decides
      lost_is place counts flags (Refusal.Busy k) decides = absurd decides
      lost_is place counts flags Refusal.NoSuchTxn decides = absurd decides
      lost_is place counts flags Refusal.Falling decides = absurd decides
      lost_is place counts flags Refusal.TooManyLive decides = absurd decides
      lost_is place counts flags Refusal.TooManyCalls decides = absurd decides
      lost_is place counts flags Refusal.Backlog decides = absurd decides
      lost_is place counts flags Refusal.AlreadyGoing decides = absurd decides
      lost_is place counts flags Refusal.Worn decides = absurd decides
      lost_is place counts flags (Refusal.Damaged k) decides = absurd decides
      lost_is place counts flags Refusal.Full decides = absurd decides
      lost_is place counts flags Refusal.Fault decides = absurd decides
      lost_is place counts flags Refusal.Failed decides = absurd decides
      lost_is place counts flags Refusal.NotAStore decides = absurd decides
      lost_is place counts flags Refusal.NotNow decides = absurd decides
      lost_is place counts flags Refusal.Lost decides = refl
      lost_is place counts flags Refusal.Unfinished decides = absurd decides
      lost_is place counts flags Refusal.AlreadyLive decides = absurd decides
      lost_is place counts flags Refusal.Imaging decides = absurd decides
      lost_is place counts flags Refusal.Outrun decides = absurd decides

      -- a wait that was lost
      pub keeps_lost : (bound : ℕ) (a b c : Known) (done : A × Ticket)
          (r : Result (A × Ticket) Refusal) (e f : Refusal) → r ≡ Err e → e ≡ f →
          Ran j.origin refuses bound (says done.0) a done.1.place b →
          Waits b done.1.place (Err f) c →
          IsKept j.origin refuses says bound a r c
      keeps_lost bound a b c done r e f is same ran waits =
          let lost = lost_is done.1.place waits.counts waits.flags f waits.decides in
          subst (λ x. IsKept j.origin refuses says bound a x c) (sym is) (inr (
            same ∙ lost,
            (
              done.0,
              done.1.place,
              b,
              ran,
              subst (λ x. Waits b done.1.place (Err x) c) lost waits,
            ),
          ))
