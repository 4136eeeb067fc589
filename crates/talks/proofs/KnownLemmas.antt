-- What a client knew it knows still, whatever it is asked, and its ticket is that of a step of its
-- own.
use Rattle.std.proofs.Common.{◌≡◌, ◌⊎◌, inl, inr, ℕ, ◌≤◌, Bool, true, false, List, [], ◌∷◌, ◌++◌}
use Rattle.std.proofs.Common.{Option, None, Some, Result, Ok, Err, refl, sym, ap, ◌∙◌, subst}
use Rattle.std.proofs.Common.{append_assoc}
use Rattle.std.specs.Prelude.{Contains}
use Rattle.std.proofs.lemmas.List.{append-nil}
use Rattle.std.proofs.lemmas.List.Elements.{Contains-append_left, Contains-append_right}
use Rattle.std.proofs.lemmas.List.Elements.{Contains-push}
use mathlib.Core.List.{IsPrefix}
use Rattle.calls.specs.declared.kind.Kind.{Kind}
use Rattle.calls.specs.declared.reply.Reply.{Reply}
use Rattle.calls.specs.declared.refusal.Refusal.{Refusal}
use Rattle.calls.specs.declared.when.When.{When}
use Rattle.txn.specs.declared.actions.Action.{Action}
use Rattle.txn.specs.declared.actions.BookStep.{BookStep}
use Rattle.group_commit.specs.declared.mark.Raised.{Raised}
use Rattle.desks.specs.Origins.{Origin}
use Rattle.desks.specs.Seen.{step_of}
use Rattle.clients.specs.declared.phase.Phase.{Phase}
use Rattle.clients.specs.declared.ticket.Ticket.{Ticket}
use Rattle.clients.specs.Calls as calls
use Rattle.clients.specs.Known.{Known}
use Rattle.script.specs.declared.action.Operation.{Operation}
use Rattle.talks.specs.declared.speaking.End.{End}
use Rattle.talks.specs.Sessions as sessions
use Rattle.talks.specs.Dialogues.{KnowsStill, Places, HasPlaced, HasLoaded, HasKept}

-- ---- what is known still

prefix_on : (xs ys zs : List BookStep) → IsPrefix xs ys → IsPrefix ys zs → IsPrefix xs zs
prefix_on xs ys zs a b = (
  a.0 ++ b.0,
  sym (append_assoc xs a.0 b.0) ∙ (ap (λ l. l ++ b.0) a.1 ∙ b.1),
)

pub still_same : (known : Known) → KnowsStill known known
still_same known = record {
  number = refl;
  seen = ([], append-nil known.seen);
  counts = λ x some. some;
}

pub still_is : (old new : Known) → new ≡ old → KnowsStill old new
still_is old new is = subst (KnowsStill old) (sym is) (still_same old)

pub still_through : (old mid new : Known) → KnowsStill old mid → KnowsStill mid new →
    KnowsStill old new
still_through old mid new one two = record {
  number = two.number ∙ one.number;
  seen = prefix_on old.seen mid.seen new.seen one.seen two.seen;
  counts = λ x some. two.counts x (one.counts x some);
}

-- counts and flags were loaded
pub still_heard : (old new : Known) (counts : List Raised) (flags : List Bool) →
    calls.Hears old counts flags new → KnowsStill old new
still_heard old new counts flags hears = subst (KnowsStill old) (sym hears) (record {
  number = refl;
  seen = ([], append-nil old.seen);
  counts = λ x some. Contains-append_left old.counts counts x some;
})

pub placed_still : (old new : Known) (place : ℕ) → KnowsStill old new → HasPlaced old place →
    HasPlaced new place
placed_still old new place still is = record {
  action = is.action;
  places = is.places;
  seen = subst (λ l. Contains l (step_of new.number is.action)) still.seen.1
      (Contains-append_left old.seen still.seen.0 (step_of new.number is.action)
      (subst (λ n. Contains old.seen (step_of n is.action)) (sym still.number) is.seen));
}

pub loaded_still : (old new : Known) (place : ℕ) → KnowsStill old new → HasLoaded old place →
    HasLoaded new place
loaded_still old new place still is = record {
  count = is.count;
  loaded = still.counts is.count is.loaded;
  reaches = is.reaches;
}

pub kept_still : (old new : Known) → KnowsStill old new → HasKept old → HasKept new
kept_still old new still is = record {
  place = is.place;
  placed = placed_still old new is.place still is.placed;
  kept = loaded_still old new is.place still is.kept;
}

-- ---- the mark

-- a count was loaded that reaches the place
pub loads_reached : (old new : Known) (place count : ℕ) → calls.Loads old count new →
    place ≤ count → HasLoaded new place
loads_reached old new place count loads reaches =
    let x : Raised = record { count = count; moment = loads.moment } in record {
      count = x;
      loaded = subst (λ l. Contains l x) (sym (ap (λ (k : Known). k.counts) loads.hears))
          (Contains-push old.counts x);
      reaches = reaches;
    }

-- a wait was not lost
pub waits_reached : (old new : Known) (place : ℕ) → calls.Waits old place (Ok tt) new →
    HasLoaded new place
waits_reached old new place waits =
    let x = waits.decides.0 in record {
      count = x;
      loaded = subst (λ l. Contains l x) (sym (ap (λ (k : Known). k.counts) waits.hears))
          (Contains-append_right old.counts waits.counts x waits.decides.1);
      reaches = waits.decides.2;
    }

module _ (o : Origin) where
  -- ---- steps

  still_acted : (old new : Known) (firsts : List Action) (last : Action) →
      calls.Acts o old firsts last new → KnowsStill old new
  still_acted old new firsts last acts = record {
    number = ap (λ (k : Known). k.number) acts.0;
    seen = acts.1.grows.begins;
    counts = λ x some. subst (λ l. Contains l x)
        (sym (ap (λ (k : Known). k.counts) acts.0)) some;
  }

  still_drawn : (next : ℕ) (old new : Known) (n : ℕ) → calls.Draws next old n new →
      KnowsStill old new
  still_drawn next old new n draws = subst (KnowsStill old) (sym draws.new_is) (record {
    number = refl;
    seen = ([], append-nil old.seen);
    counts = λ x some. some;
  })

  still_worn : (next : ℕ) (old new : Known) → calls.IsWorn next old new → KnowsStill old new
  still_worn next old new (inl (few, is)) = still_is old new is
  still_worn next old new (inr (n, high, draws, phase)) = still_drawn next old new n draws

  pub still_does : (p : Phase) (old new : Known) (own : ℕ → Action → Type 0)
      (refused : Refusal → Type 0) (after : ℕ → Phase) → calls.Does o p old own refused after new →
      KnowsStill old new
  still_does Phase.Closed old new own refused after does = absurd does
  still_does (Phase.Entered n) old new own refused after (action, is, acts, phase) =
      still_acted old new [] action acts
  still_does (Phase.Drawn n) old new own refused after (inl (action, is, acts, phase)) =
      still_acted old new (Action.Enter n (Ok tt) ∷ []) action acts
  still_does (Phase.Drawn n) old new own refused after (inr (e, is, acts, phase)) =
      still_acted old new [] (Action.Enter n (Err e)) acts

  still_enters : (p : Phase) (old new : Known) (r : Result ℕ Refusal) → calls.Enters o p old r new →
      KnowsStill old new
  still_enters Phase.Closed old new r enters = absurd enters
  still_enters (Phase.Entered n) old new r (is, same) = still_is old new same
  still_enters (Phase.Drawn n) old new (Ok m) (is, acts, phase) =
      still_acted old new [] (Action.Enter n (Ok tt)) acts
  still_enters (Phase.Drawn n) old new (Err e) (acts, phase) =
      still_acted old new [] (Action.Enter n (Err e)) acts

  still_entering : (p : Phase) (old new : Known) → calls.IsEntering o p old new → KnowsStill old new
  still_entering p old new (inl same) = still_is old new same
  still_entering p old new (inr (n, enters)) = still_enters p old new (Ok n) enters

  pub still_in_room : {T : Type 0} (p : Phase) (old new : Known) (own : ℕ → Action → Type 0)
      (r : Result T Refusal) → calls.DoesInRoom o p old own r new → KnowsStill old new
  still_in_room p old new own r (inl does) =
      still_does p old new own (λ e. r ≡ Err e) (λ n. Phase.Entered n) does
  still_in_room p old new own r (inr (full, entering)) = still_entering p old new entering

  pub still_aborts : (p : Phase) (old new : Known) (r : Result (Unit {0}) Refusal) →
      calls.Aborts o p old r new → KnowsStill old new
  still_aborts Phase.Closed old new r aborts = absurd aborts
  still_aborts (Phase.Drawn n) old new r (is, same) = subst (KnowsStill old) (sym same) (record {
    number = refl;
    seen = ([], append-nil old.seen);
    counts = λ x some. some;
  })
  still_aborts (Phase.Entered n) old new r (phase, (count, inl acts)) =
      still_acted old new _ (Action.Ended n r) acts
  still_aborts (Phase.Entered n) old new r (phase, (count, inr (e, is, acts))) =
      still_acted old new _ (calls.back n (Err e)) acts

  -- ---- commits and makings

  -- the place of what was accepted is that of a step of the client's own
  abbrev pub IsPlacedBy : Known → Result Ticket Refusal → Type 0
  IsPlacedBy known (Ok t) = HasPlaced known t.place
  IsPlacedBy known (Err e) = Unit {0}

  acted_placed : (old new : Known) (firsts : List Action) (action : Action) (place : ℕ) →
      Places place action → calls.Acts o old firsts action new → HasPlaced new place
  acted_placed old new firsts action place places acts =
      let same : new.number ≡ old.number = ap (λ (k : Known). k.number) acts.0 in record {
        action = action;
        places = places;
        seen = subst (λ l. Contains l (step_of new.number action)) (sym acts.1.ends)
            (subst (λ n. Contains (acts.1.before ++ step_of old.number action ∷ [])
            (step_of n action)) (sym same)
            (Contains-push acts.1.before (step_of old.number action)));
      }

  committed_placed : (old new : Known) (firsts : List Action) (action : Action) (n place : ℕ) →
      action ≡ Action.Commit n (Ok place) → calls.Acts o old firsts action new →
      HasPlaced new place
  committed_placed old new firsts action n place is acts =
      acted_placed old new firsts (Action.Commit n (Ok place)) place refl
      (subst (λ a. calls.Acts o old firsts a new) is acts)

  no_refusal : (t : Ticket) (e : Refusal) → ◌≡◌ {A = Result Ticket Refusal} (Ok t) (Err e) → ⊥
  no_refusal t e same = cc

  pub commit_placed : (p : Phase) (old new : Known) (r : Result Ticket Refusal) →
      calls.Does o p old (λ n a. a ≡ Action.Commit n (calls.placed r)) (λ e. r ≡ Err e)
      (calls.ended_by r) new → IsPlacedBy new r
  commit_placed p old new (Err e) does = tt
  commit_placed Phase.Closed old new (Ok t) does = absurd does
  commit_placed (Phase.Entered n) old new (Ok t) (action, is, acts, phase) =
      committed_placed old new [] action n t.place is acts
  commit_placed (Phase.Drawn n) old new (Ok t) (inl (action, is, acts, phase)) =
      committed_placed old new (Action.Enter n (Ok tt) ∷ []) action n t.place is acts
  commit_placed (Phase.Drawn n) old new (Ok t) (inr (e, is, acts, phase)) =
      absurd (no_refusal t e is)

  pub make_placed : (old new : Known) (name : List ℕ) (kind : Kind) (r : Result Ticket Refusal) →
      calls.IsMade o old name kind r new → IsPlacedBy new r
  make_placed old new name kind (Err e) made = tt
  make_placed old new name kind (Ok t) (inl acts) =
      acted_placed old new [] (Action.Make name kind (Ok t.place)) t.place refl acts
  make_placed old new name kind (Ok t) (inr (full, same)) = absurd (no_refusal t Refusal.Full full)

  pub still_made : (old new : Known) (name : List ℕ) (kind : Kind) (r : Result Ticket Refusal) →
      calls.IsMade o old name kind r new → KnowsStill old new
  still_made old new name kind r (inl acts) =
      still_acted old new [] (Action.Make name kind (calls.placed r)) acts
  still_made old new name kind r (inr (full, same)) = still_is old new same

  -- ---- requests of a session

  pub still_begins : (old new : Known) (r : Result ℕ Refusal) → sessions.Begins o old r new →
      KnowsStill old new
  still_begins old new (Ok n) (closed, below, draws, phase) = still_drawn o.next old new n draws
  still_begins old new (Err e) (inl (opened, is, same)) = still_is old new same
  still_begins old new (Err e) (inr (closed, is, worn)) = still_worn o.next old new worn

  pub still_asks : (old new : Known) (name : List ℕ) (operation : Operation)
      (r : Result Reply Refusal) → sessions.AsksFor o name operation old r new → KnowsStill old new
  still_asks old new name (Operation.Call call) r asks = still_in_room old.phase old new _ r asks
  still_asks old new name (Operation.Remove key) r (first, mid, asks, inl (other, is, same)) =
      subst (KnowsStill old) (sym same) (still_in_room old.phase old mid _ first asks)
  still_asks old new name (Operation.Remove key) r (first, mid, asks, inr (wrong, again)) =
      still_through old mid new (still_in_room old.phase old mid _ first asks)
      (still_in_room mid.phase mid new _ r again)

-- nothing is done without an open transaction
pub still_in_open : {T : Type 0} (old new : Known) (r : Result T Refusal) (does : Type 0) →
    sessions.InOpen old r new does → (does → KnowsStill old new) → KnowsStill old new
still_in_open old new r does (inl (closed, is, same)) then = still_is old new same
still_in_open old new r does (inr (opened, done)) then = then done

-- what was accepted was done in an open transaction
pub open_placed : (o : Origin) (old new : Known) (r : Result Ticket Refusal) (does : Type 0) →
    sessions.InOpen old r new does → (does → IsPlacedBy o new r) → IsPlacedBy o new r
open_placed o old new (Err e) does is then = tt
open_placed o old new (Ok t) does (inl (closed, is, same)) then =
    absurd (no_refusal o t Refusal.NoSuchTxn is)
open_placed o old new (Ok t) does (inr (opened, done)) then = then done
