-- A client's steps, one behind another.
use Rattle.std.proofs.Common.{◌≡◌, ℕ, ◌+◌, List, [], ◌∷◌, ◌++◌, map, refl, sym, ap, ◌∙◌, subst}
use Rattle.std.proofs.Common.{append_assoc, Bool, true, false, Result, Ok, Err, ◌⊎◌, ⊎_elim, inl}
use Rattle.std.proofs.Common.{inr}
use Rattle.std.proofs.lemmas.List.{map-append, replicate-append-replicate}
use Rattle.std.proofs.lemmas.List.Elements.{Contains-append_left}
use Rattle.std.specs.Prelude.{Contains}
use Rattle.calls.specs.declared.refusal.Refusal.{Refusal}
use Rattle.txn.specs.declared.actions.Action.{Action}
use Rattle.txn.specs.declared.actions.BookStep.{BookStep}
use Rattle.group_commit.specs.Lines.{ClientState, mine_of, seeing, steps_of}
use Rattle.desks.specs.declared.naming.Naming.{Ghosts}
use Rattle.desks.specs.Owners.{HasEntered, entering}
use Rattle.desks.specs.Seen.{step_of, Grows, Took, StepsBehind, Steps}
use Rattle.desks.specs.TakenBack.{back, backs}

module _ {J : Type 0} (j : Ghosts J) where
  pub grows_then : (n : ℕ) (xs ys zs : List BookStep) (us vs : List Action) →
      Grows j.origin n xs us ys → Grows j.origin n ys vs zs → Grows j.origin n xs (us ++ vs) zs
  grows_then n xs ys zs us vs one two = record {
    begins = (
      one.begins.0 ++ two.begins.0,
      sym (append_assoc xs one.begins.0 two.begins.0) ∙ ap (λ l. l ++ two.begins.0) one.begins.1 ∙
          two.begins.1,
    );
    mine = two.mine ∙ ap (λ l. l ++ map (step_of n) vs) one.mine ∙
        append_assoc (steps_of n xs) (map (step_of n) us) (map (step_of n) vs) ∙
        ap (λ l. steps_of n xs ++ l) (sym (map-append (step_of n) us vs));
    legal = two.legal;
  }

  -- one step more
  pub took_next : (n : ℕ) (xs ys zs : List BookStep) (firsts : List Action) (last : Action) →
      Grows j.origin n xs firsts ys → Took j.origin n ys [] last zs →
      Took j.origin n xs firsts last zs
  took_next n xs ys zs firsts last grows took = record {
    grows = grows_then n xs ys zs firsts (last ∷ []) grows took.grows;
    before = took.before;
    ends = took.ends;
  }

  -- and the same of what the client's seat has seen
  pub steps_next : (a b c : ClientState) (firsts : List Action) (mid last : Action) →
      StepsBehind j.origin a firsts mid b → Steps j.origin b last c →
      StepsBehind j.origin a (firsts ++ mid ∷ []) last c
  steps_next a b c firsts mid last one two =
      let same : b.number ≡ a.number = ap (λ (x : ClientState). x.number) one.0 in (
        two.0 ∙ ap (λ (x : ClientState). seeing x c.seen) one.0,
        took_next a.number a.seen b.seen c.seen (firsts ++ mid ∷ []) last one.1.grows
            (subst (λ n. Took j.origin n b.seen [] last c.seen) same two.1),
      )

  -- A number that a client has entered it has entered behind its steps too.
  pub entered_behind : (old new : ClientState) (firsts : List Action) (last : Action) (n : ℕ) →
      StepsBehind j.origin old firsts last new → HasEntered old n → HasEntered new n
  entered_behind old new firsts last n steps own =
      let same : new.number ≡ old.number = ap (λ (c : ClientState). c.number) steps.0 in
      let mine : mine_of new ≡ mine_of old ++ map (step_of old.number) (firsts ++ last ∷ []) =
      ap (λ k. steps_of k new.seen) same ∙ steps.1.grows.mine in
      subst (λ k. Contains (mine_of new) (entering k n)) (sym same)
      (subst (λ l. Contains l (entering old.number n)) (sym mine)
      (Contains-append_left (mine_of old) (map (step_of old.number) (firsts ++ last ∷ []))
      (entering old.number n) own))

  -- ---- taking back

  -- Nothing of the number was undone yet, or so many calls and one were.
  abbrev pub HaveUndone : ClientState → ℕ → ClientState → Type 0
  HaveUndone old n new = (new ≡ old) ⊎
      ((count : ℕ) × StepsBehind j.origin old (backs n count) (back n (Ok true)) new)

  -- so many calls are undone, and one more
  backs_more : (n count : ℕ) → backs n count ++ back n (Ok true) ∷ [] ≡ backs n (count + 1)
  backs_more n count = replicate-append-replicate count 1 (back n (Ok true))

  -- A step behind them.
  pub undone_then : (a b c : ClientState) (n : ℕ) (last : Action) → HaveUndone a n b →
      Steps j.origin b last c →
      (count : ℕ) × StepsBehind j.origin a (backs n count) last c
  undone_then a b c n last undone steps = ⊎_elim
      (λ same. (0, subst (λ x. Steps j.origin x last c) same steps))
      (λ (some : (count : ℕ) × StepsBehind j.origin a (backs n count) (back n (Ok true)) b). (
        some.0 + 1,
        subst (λ l. StepsBehind j.origin a l last c) (backs_more n some.0)
            (steps_next a b c (backs n some.0) (back n (Ok true)) last some.1 steps),
      )) undone
