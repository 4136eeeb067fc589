-- Each step of one number is of one client.
use Rattle.std.proofs.Common.{◌≡◌, ℕ, ⊎_elim, Bool, Option, Some, None, List, [], ◌∷◌}
use Rattle.std.proofs.Common.{◌++◌, Result, refl, sym, ap, ◌∙◌, subst, is_some, true≢false, arith}
use Rattle.std.proofs.Common.{inl, inr}
use Rattle.std.proofs.lemmas.List.Elements.{All-contains, All-contains_itself, All-filter}
use Rattle.std.proofs.lemmas.List.Elements.{Contains-append_left, Contains-push_cases}
use Rattle.std.specs.Prelude.{Contains, IsSome, filter}
use mathlib.Core.List.{IsPrefix}
use Rattle.calls.specs.declared.refusal.Refusal.{Refusal}
use Rattle.txn.specs.declared.actions.Action.{Action}
use Rattle.txn.specs.declared.actions.BookStep.{BookStep}
use Rattle.group_commit.specs.Lines as lines
use Rattle.group_commit.specs.Lines.{ClientState, concerns, stepped, with_client}
use Rattle.group_commit.specs.Numbers.{DrawerState, MakerState, IsReported, AreOfOne}
use Rattle.group_commit.specs.Numbers.{with_drawer, with_report}
use Rattle.desks.specs.Seen.{step_of}
use Rattle.desks.specs.Desks.{IsDrawn}
use Rattle.desks.specs.Owners.{transaction_of, MayTake, AreOwned, entering, HasEntered}

no_one : {X : Type 0} (n : ℕ) → ◌≡◌ {A = Option ℕ} None (Some n) → X
no_one n e = absurd (true≢false (sym (ap is_some e)))

some_same : (m n : ℕ) → ◌≡◌ {A = Option ℕ} (Some m) (Some n) → m ≡ n
some_same m n e = cc

some_of : (o : Option ℕ) → IsSome o → (n : ℕ) × (o ≡ Some n)
some_of None is = absurd (true≢false (sym is))
some_of (Some n) is = (n, refl)

in_none : {X : Type 0} (x : BookStep) → Contains [] x → X
in_none x at = let lt = at.1 in absurd (omega arith)

in_filter : (p : BookStep → Bool) (xs : List BookStep) (x : BookStep) → Contains (filter p xs) x →
    Contains xs x
in_filter p xs x at = All-contains (Contains xs) (filter p xs) x
    (All-filter p (Contains xs) xs (All-contains_itself xs)) at

-- ---- one step more

-- The step may stand behind these.
abbrev pub MayFollow : List BookStep → (client : Option ℕ) → Action → Type 0
MayFollow steps client action = MayTake client action × ((x : BookStep) → Contains steps x →
    (n : ℕ) → transaction_of x.action ≡ Some n → transaction_of action ≡ Some n → x.client ≡ client)

pub owned_none : AreOwned []
owned_none = record {
  taken = λ x at. in_none x at;
  of_one = λ x y at there n is so. in_none x at;
}

pub owned_then : (steps : List BookStep) (step : BookStep) → AreOwned steps →
    MayFollow steps step.client step.action → AreOwned (steps ++ step ∷ [])
owned_then steps step owned may = record {
  taken = λ x at. ⊎_elim (λ was. owned.taken x was)
      (λ (last : step ≡ x). subst (λ (s : BookStep). MayTake s.client s.action) last may.0)
      (Contains-push_cases steps step x at);
  of_one = λ x y at there n is so. ⊎_elim
      (λ was. ⊎_elim (λ too. owned.of_one x y was too n is so)
      (λ (last : step ≡ y). may.1 x was n is
      (ap (λ (s : BookStep). transaction_of s.action) last ∙ so) ∙
      ap (λ (s : BookStep). s.client) last)
      (Contains-push_cases steps step y there))
      (λ (last : step ≡ x). ⊎_elim
      (λ was. sym (may.1 y was n so (ap (λ (s : BookStep). transaction_of s.action) last ∙ is) ∙
      ap (λ (s : BookStep). s.client) last))
      (λ (too : step ≡ y). ap (λ (s : BookStep). s.client) (sym last ∙ too))
      (Contains-push_cases steps step y there))
      (Contains-push_cases steps step x at);
}

-- A step of no transaction.
pub nameless : (steps : List BookStep) (client : Option ℕ) (action : Action) →
    MayTake client action → transaction_of action ≡ None → MayFollow steps client action
nameless steps client action may none =
    (may, λ x at n is named. no_one n (sym none ∙ named))

-- One of no client.
pub owned_alone : (steps : List BookStep) (action : Action) → AreOwned steps →
    MayTake None action → transaction_of action ≡ None →
    AreOwned (steps ++ record { client = None; action = action } ∷ [])
owned_alone steps action owned may none =
    owned_then steps (record { client = None; action = action }) owned
    (nameless steps None action may none)

-- ---- a step of a number that the client has entered

entered_there : (steps : List BookStep) (me : ClientState) (n : ℕ) → IsPrefix me.seen steps →
    HasEntered me n → Contains steps (entering me.number n)
entered_there steps me n begins own = subst (λ l. Contains l (entering me.number n)) begins.1
    (Contains-append_left me.seen begins.0 (entering me.number n)
    (in_filter (concerns me.number) me.seen (entering me.number n) own))

pub named_follows : (steps : List BookStep) (me : ClientState) (n : ℕ) (action : Action) →
    AreOwned steps → IsPrefix me.seen steps → HasEntered me n → MayTake (Some me.number) action →
    transaction_of action ≡ Some n → MayFollow steps (Some me.number) action
named_follows steps me n action owned begins own may named = (
  may,
  λ x at m is so. owned.of_one x (entering me.number n) at
      (entered_there steps me n begins own) n
      (is ∙ ap (λ k. Some k) (some_same m n (sym so ∙ named))) refl,
)

-- ---- a number is entered

taken_by : (client : Option ℕ) (action : Action) (n : ℕ) → transaction_of action ≡ Some n →
    MayTake client action → IsSome client
taken_by client (Action.Make name kind a) n is may = may
taken_by client (Action.Enter m a) n is may = may
taken_by client (Action.Ask m target call when a) n is may = may
taken_by client (Action.Commit m a) n is may = may
taken_by client (Action.Back m a) n is may = may
taken_by client (Action.Ended m a) n is may = may
taken_by client (Action.Cut count a) n is may = no_one n is
taken_by client (Action.Gather a) n is may = no_one n is
taken_by client (Action.Freeze a) n is may = no_one n is

more_reported : (m : MakerState) (d : DrawerState) (who n : ℕ) → IsReported m.reports who n →
    IsReported (with_report m d).reports who n
more_reported m d who n is = (is.0, inr is.1, is.2, is.3)

now_reported : (m : MakerState) (d : DrawerState) (n : ℕ) → Contains d.drawn n →
    IsReported (with_report m d).reports d.number n
now_reported m d n drawn = (record { drawer = d.number; drawn = d.drawn }, inl refl, refl, drawn)

-- A client enters a number that its drawer drew.
pub entering_follows : (maker now : MakerState) (seat : lines.BookState) (d : DrawerState)
    (c n : ℕ) (r : Result (Unit {0}) Refusal) → AreOwned seat.all → IsDrawn maker seat →
    now ≡ with_report maker d → AreOfOne now.reports → d.number ≡ c → Contains d.drawn n →
    MayFollow seat.all (Some c) (Action.Enter n r)
entering_follows maker now seat d c n r owned is now_is one number drawn = (
  refl,
  λ x at m named so.
      let who = some_of x.client (taken_by x.client x.action m named (owned.taken x at)) in
      let reports = subst (λ (v : MakerState). AreOfOne v.reports) now_is one in
      who.1 ∙ ap (λ k. Some k)
      (reports who.0 d.number m (more_reported maker d who.0 m
      (is.reported x at m who.0 named who.1))
      (subst (λ k. IsReported (with_report maker d).reports d.number k) (some_same n m so)
      (now_reported maker d n drawn)) ∙ number),
)

-- ---- what was reported

pub drawn_new : (maker : MakerState) (seat : lines.BookState) → maker.made ≡ 0 →
    seat.clients ≡ 0 → seat.all ≡ [] → IsDrawn maker seat
drawn_new maker seat made clients none = record {
  made = made ∙ sym clients;
  reported = λ x at. in_none x (subst (λ l. Contains l x) none at);
}

pub drawn_client : (maker : MakerState) (seat : lines.BookState) → IsDrawn maker seat →
    IsDrawn (with_drawer maker) (with_client seat)
drawn_client maker seat is =
    record { made = let same = is.made in omega (arith, same); reported = is.reported }

module _ (maker : MakerState) (seat now : lines.BookState) (is : IsDrawn maker seat) where
  drawn_then : (more : MakerState) (step : BookStep) → more.made ≡ maker.made →
      ((who n : ℕ) → IsReported maker.reports who n → IsReported more.reports who n) →
      ((n c : ℕ) → transaction_of step.action ≡ Some n → step.client ≡ Some c →
      IsReported more.reports c n) → now ≡ stepped seat step → IsDrawn more now
  drawn_then more step made grows new now_is = rw now_is (record {
    made = made ∙ is.made;
    reported = λ x at n c named of. ⊎_elim
        (λ was. grows c n (is.reported x was n c named of))
        (λ (last : step ≡ x). new n c (ap (λ (s : BookStep). transaction_of s.action) last ∙ named)
        (ap (λ (s : BookStep). s.client) last ∙ of))
        (Contains-push_cases seat.all step x at);
  })

  -- behind a step of no transaction
  pub drawn_beside : (step : BookStep) → transaction_of step.action ≡ None →
      now ≡ stepped seat step → IsDrawn maker now
  drawn_beside step none now_is = drawn_then maker step refl (λ who n of. of)
      (λ n c named of. no_one n (sym none ∙ named)) now_is

  -- behind one of a number that the client has entered
  drawn_named : (me : ClientState) (n : ℕ) (action : Action) → IsPrefix me.seen seat.all →
      HasEntered me n → transaction_of action ≡ Some n →
      now ≡ stepped seat (step_of me.number action) → IsDrawn maker now
  drawn_named me n action begins own named now_is =
      drawn_then maker (step_of me.number action) refl (λ who m of. of)
      (λ m c so of. subst (λ k. IsReported maker.reports k m) (some_same me.number c of)
      (subst (λ k. IsReported maker.reports me.number k) (some_same n m (sym named ∙ so))
      (is.reported (entering me.number n) (entered_there seat.all me n begins own) n me.number refl
      refl))) now_is

  -- behind an entry of one that its drawer drew
  pub drawn_enters : (more : MakerState) (d : DrawerState) (c n : ℕ)
      (r : Result (Unit {0}) Refusal) → more ≡ with_report maker d → d.number ≡ c →
      Contains d.drawn n → now ≡ stepped seat (step_of c (Action.Enter n r)) → IsDrawn more now
  drawn_enters more d c n r more_is number drawn now_is = rw more_is
      (drawn_then (with_report maker d) (step_of c (Action.Enter n r)) refl
      (λ who m of. more_reported maker d who m of)
      (λ m k so of. subst (λ v. IsReported (with_report maker d).reports v m)
      (number ∙ some_same c k of)
      (subst (λ v. IsReported (with_report maker d).reports d.number v) (some_same n m so)
      (now_reported maker d n drawn))) now_is)

-- ---- beside the journal

-- The journal is told in A, and in B behind a step; what else lies under its lock stays.
module _ {A B P Q R : Type 0} (maker : MakerState) (seat now : lines.BookState)
    (was : A × P × Q × R × IsDrawn maker seat) (is : B) where
  pub kept_beside : (step : BookStep) → transaction_of step.action ≡ None →
      now ≡ stepped seat step → B × P × Q × R × IsDrawn maker now
  kept_beside step none now_is = (
    is,
    was.1,
    was.2,
    was.3,
    drawn_beside maker seat now was.4 step none now_is,
  )

  pub kept_named : (me : ClientState) (n : ℕ) (action : Action) → IsPrefix me.seen seat.all →
      HasEntered me n → transaction_of action ≡ Some n →
      now ≡ stepped seat (step_of me.number action) → B × P × Q × R × IsDrawn maker now
  kept_named me n action begins own named now_is = (
    is,
    was.1,
    was.2,
    was.3,
    drawn_named maker seat now was.4 me n action begins own named now_is,
  )
