-- An attempt goes on with each call.
use Rattle.std.proofs.Common.{◌≡◌, inl, inr, ℕ, List, [], ◌∷◌, ◌++◌, map, drop, length}
use Rattle.std.proofs.Common.{Result, Ok, Err, refl, sym, ap, ◌∙◌, subst, ⊎_elim}
use Rattle.std.proofs.lemmas.List.{append-nil}
use Rattle.std.specs.List.{AllByRecursion}
use Rattle.calls.specs.declared.refusal.Refusal.{Refusal}
use Rattle.group_commit.specs.Lines.{steps_of}
use Rattle.txn.specs.declared.actions.Action.{Action}
use Rattle.txn.specs.declared.actions.BookStep.{BookStep}
use Rattle.desks.specs.declared.naming.Naming.{Ghosts}
use Rattle.clients.specs.declared.phase.Phase.{Phase}
use Rattle.clients.specs.Attempts.{done_since, IsOfCalls, IsRefusedEntry, IsOpenUnder, Attempts}
use Rattle.clients.specs.Attempts.{IsAttempt, IsCalled, IsEntered, Adds}
use Rattle.clients.specs.Calls.{IsOpen, Acts, Does, DoesInRoom, Enters, IsEntering}
use Rattle.desks.specs.Seen.{Grows, step_of}
use Rattle.clients.specs.Known.{Known}
use Rattle.boosted.proofs.Each.{each_append}
use Rattle.clients.proofs.Seeing.{grows_then, moves_then}

-- ---- what was done since

drop_front : {A : Type 0} (xs ys : List A) → drop (length xs) (xs ++ ys) ≡ ys
drop_front [] ys = refl
drop_front (x ∷ xs) ys = drop_front xs ys

actions_same : (n : ℕ) (actions : List Action) →
    map (λ (x : BookStep). x.action) (map (step_of n) actions) ≡ actions
actions_same n [] = refl
actions_same n (a ∷ actions) = ap (λ l. a ∷ l) (actions_same n actions)

-- an action that is another one
pub fits_as : (n : ℕ) (a b : Action) → a ≡ b → IsOfCalls n b → IsOfCalls n a
fits_as n a b same fits = subst (IsOfCalls n) (sym same) fits

module _ {J : Type 0} (j : Ghosts J) where
  -- it is what the client did
  done_is : (old new : Known) (made : List Action) →
      Grows j.origin old.number old.seen made new.seen →
      done_since old new ≡ made
  done_is old new made grows =
      ap (λ l. map (λ (x : BookStep). x.action) (drop (length (steps_of old.number old.seen)) l))
      grows.mine ∙
      ap (λ l. map (λ (x : BookStep). x.action) l)
      (drop_front (steps_of old.number old.seen) (map (step_of old.number) made)) ∙
      actions_same old.number made

  -- ---- the beginning

  -- ---- a call

  -- steps of the client behind those of an attempt
  behind : (n : ℕ) (old now new : Known) (made firsts : List Action) (last : Action) →
      Attempts j.origin n old made now → Acts j.origin now firsts last new →
      AllByRecursion (IsOfCalls n) (firsts ++ last ∷ []) →
      IsOpenUnder n (made ++ (firsts ++ last ∷ [])) new.phase →
      Attempts j.origin n old (made ++ (firsts ++ last ∷ [])) new
  behind n old now new made firsts last is acts calls opened =
      let same : now.number ≡ old.number = ap (λ (k : Known). k.number) is.moves in record {
        moves = moves_then j old now new is.moves acts.0;
        grows = grows_then j old.number old.seen now.seen new.seen made (firsts ++ last ∷ [])
            is.grows
            (subst (λ k. Grows j.origin k now.seen (firsts ++ last ∷ []) new.seen) same
            acts.1.grows);
        are_calls = each_append (IsOfCalls n) made (firsts ++ last ∷ []) is.are_calls calls;
        is_open = opened;
      }

  module _ (own : ℕ → Action → Type 0) (refused : Refusal → Type 0)
      (fits : (n : ℕ) (a : Action) → own n a → IsOfCalls n a) where
    goes_on : (n : ℕ) (old now new : Known) (made : List Action) (p : Phase) →
        Attempts j.origin n old made now → IsOpenUnder n made p →
        Does j.origin p now own refused (λ m. Phase.Entered m) new →
        (more : List Action) × (Attempts j.origin n old (made ++ more) new ×
        IsCalled own refused n more)
    goes_on n old now new made Phase.Closed is opened does = absurd opened
    goes_on n old now new made (Phase.Entered m) is opened does =
        let mine : own n does.0 = subst (λ k. own k does.0) opened does.1 in (
          does.0 ∷ [],
          (
            behind n old now new made [] does.0 is does.2 (fits n does.0 mine, tt)
                (subst (IsOpenUnder n (made ++ does.0 ∷ [])) (sym does.3) opened),
            inl (does.0, mine, refl),
          ),
        )
    goes_on n old now new made (Phase.Drawn m) is opened does = elim does [
      | inl done ↦
          let mine : own n done.0 = subst (λ k. own k done.0) opened.0 done.1 in
          let enter = Action.Enter m (Ok tt) in (
            enter ∷ done.0 ∷ [],
            (
              behind n old now new made (enter ∷ []) done.0 is done.2
                  (opened.0, (fits n done.0 mine, tt))
                  (subst (IsOpenUnder n (made ++ enter ∷ done.0 ∷ [])) (sym done.3) opened.0),
              inr (inl (done.0, mine, ap (λ k. Action.Enter k (Ok tt) ∷ done.0 ∷ []) opened.0)),
            ),
          )
      | inr none ↦
          let enter = Action.Enter m (Err none.0) in (
            enter ∷ [],
            (
              behind n old now new made [] enter is none.2 (opened.0, tt)
                  (subst (IsOpenUnder n (made ++ enter ∷ [])) (sym none.3)
                  (opened.0, each_append IsRefusedEntry made (enter ∷ []) opened.1 (tt, tt))),
              inr (inr (inl (
                none.0,
                none.1,
                ap (λ k. Action.Enter k (Err none.0) ∷ []) opened.0,
              ))),
            ),
          )
    ]

    -- one call more
    pub going_on : (n : ℕ) (old now new : Known) →
        Attempts j.origin n old (done_since old now) now →
        Does j.origin now.phase now own refused (λ m. Phase.Entered m) new →
        Attempts j.origin n old (done_since old new) new ×
        Adds own refused (done_since old now) (done_since old new)
    going_on n old now new is does =
        let next = goes_on n old now new (done_since old now) now.phase is is.is_open does in
        let made = done_is old new (done_since old now ++ next.0) next.1.0.grows in (
          subst (λ l. Attempts j.origin n old l new) (sym made) next.1.0,
          (n, next.0, next.1.1, made),
        )

  -- nothing more was done
  stays_on : (n : ℕ) (old now new : Known) (made : List Action) →
      Attempts j.origin n old made now → new ≡ now →
      (more : List Action) × (Attempts j.origin n old (made ++ more) new × IsEntered n more)
  stays_on n old now new made is same = (
    [],
    (
      subst (λ k. Attempts j.origin n old (made ++ []) k) (sym same)
          (subst (λ l. Attempts j.origin n old l now) (sym (append-nil made)) is),
      inl refl,
    ),
  )

  -- the number was entered at most
  enters_on : (n : ℕ) (old now new : Known) (made : List Action) (p : Phase) →
      Attempts j.origin n old made now → IsOpenUnder n made p → IsEntering j.origin p now new →
      (more : List Action) × (Attempts j.origin n old (made ++ more) new × IsEntered n more)
  enters_on n old now new made Phase.Closed is opened entering = absurd opened
  enters_on n old now new made (Phase.Entered m) is opened entering =
      stays_on n old now new made is (⊎_elim (λ same. same)
      (λ (entered : (k : ℕ) × Enters j.origin (Phase.Entered m) now (Ok k) new). entered.1.1)
      entering)
  enters_on n old now new made (Phase.Drawn m) is opened entering = elim entering [
    | inl same ↦ stays_on n old now new made is same
    | inr entered ↦
        let enter = Action.Enter m (Ok tt) in (
          enter ∷ [],
          (
            behind n old now new made [] enter is entered.1.1 (opened.0, tt)
                (subst (IsOpenUnder n (made ++ enter ∷ [])) (sym entered.1.2) opened.0),
            inr (ap (λ k. Action.Enter k (Ok tt) ∷ []) opened.0),
          ),
        )
  ]

  -- one call more, or none, as it is refused Full
  pub going_in_room : {T : Type 0} (own : ℕ → Action → Type 0) (r : Result T Refusal)
      (fits : (n : ℕ) (a : Action) → own n a → IsOfCalls n a) (n : ℕ) (old now new : Known) →
      Attempts j.origin n old (done_since old now) now →
      DoesInRoom j.origin now.phase now own r new →
      Attempts j.origin n old (done_since old new) new ×
      Adds own (λ e. r ≡ Err e) (done_since old now) (done_since old new)
  going_in_room own r fits n old now new is does = ⊎_elim
      (λ done. going_on own (λ e. r ≡ Err e) fits n old now new is done)
      (λ (full : (r ≡ Err Refusal.Full) × IsEntering j.origin now.phase now new).
      let next = enters_on n old now new (done_since old now) now.phase is is.is_open full.1 in
      let made = done_is old new (done_since old now ++ next.0) next.1.0.grows in (
        subst (λ l. Attempts j.origin n old l new) (sym made) next.1.0,
        (n, next.0, inr (inr (inr (full.0, next.1.1))), made),
      )) does

  -- an attempt leaves it open
  open_under : (n : ℕ) (made : List Action) (p : Phase) → IsOpenUnder n made p → IsOpen p
  open_under n made Phase.Closed opened = absurd opened
  open_under n made (Phase.Drawn m) opened = tt
  open_under n made (Phase.Entered m) opened = tt

  pub attempt_open : {A : Type 0} (says : A → List Action → Type 0)
      (refuses : Refusal → List Action → Type 0) (n : ℕ) (old new : Known) (r : Result A Refusal) →
      IsAttempt j.origin says refuses n old r new → IsOpen new.phase
  attempt_open says refuses n old new r is = open_under n is.0 new.phase is.1.is_open
