-- What a world has gathered is of its book, and stays so with each step.
use Rattle.std.proofs.Common.{◌≡◌, ℕ, Bool, List, [], ◌∷◌, ◌++◌, length, refl, sym, ◌∙◌, ap, subst}
use Rattle.std.proofs.Common.{arith}
use Rattle.std.proofs.Common.{◌≢◌, ◌+◌, ◌==◌, cond, ⊎_elim, ◌⊎◌, Result, Ok, Err}
use Rattle.std.proofs.Common.{length-append, true, false}
use Rattle.std.specs.Prelude.{OnOk, OnErr}
use Rattle.std.proofs.lemmas.Bool.{eqb-true}
use Rattle.calls.specs.declared.call.Call.{Call}
use Rattle.calls.specs.declared.when.When.{When}
use Rattle.calls.specs.declared.kind.Kind.{Kind}
use Rattle.calls.specs.declared.reply.Reply.{Reply}
use Rattle.calls.specs.declared.refusal.Refusal.{Refusal}
use Rattle.records.specs.declared.block.Block.{Block}
use Rattle.images.specs.Gathers.{GatherState, Repeats, caught_up}
use Rattle.images.proofs.Following.{follows_repeated, came_repeated}
use Rattle.images.specs.Gatherings.{GatheringState, GoesAlong, IsUnderWay, KeepsGoing, gone_on}
use Rattle.images.proofs.Going.{goes_past_others}
use Rattle.txn.specs.declared.actions.Action.{Action}
use Rattle.txn.specs.declared.actions.Target.{Target}
use Rattle.txn.specs.Books as books
use Rattle.txn.specs.Books.{GoesOn, lsn}
use Rattle.txn.specs.Freezing.{BookGathers, FreezeAnswers}
use Rattle.txn.specs.Books.{NamedBook}
use Rattle.engine.specs.Gatherings.{IsOfBook}
use Rattle.catalog.specs.Meaning.{catalog_meaning, catalog_making}

-- ---- steps of the book

on_kept : (b c : NamedBook) (g : GatherState) →
    KeepsGoing (λ v. v) b.gathering b.state.now (lsn b) c.gathering c.state.now (lsn c) →
    IsOfBook b g → IsOfBook c g
on_kept b c g keeps of = record {
  gathered = record {
    new = of.gathered.new;
    along = λ under. keeps.along under.1 g
        (of.gathered.along (under.0, keeps.going under.1, under.2 ∙ keeps.begun));
  };
  over = λ frozen. (
    (of.over frozen).0,
    λ under. (of.over frozen).1 (under.0, keeps.going under.1, under.2 ∙ keeps.begun),
  );
}

-- A step goes on, or is refused.
pub of_step : {T : Type 0} (b c : NamedBook) (g : GatherState) (r : Result T Refusal) →
    OnOk r (GoesOn catalog_meaning catalog_making (λ v. v) b c) → OnErr r (c ≡ b) →
    IsOfBook b g → IsOfBook c g
of_step b c g (Ok x) goes same of = on_kept b c g goes.keeps of
of_step b c g (Err e) goes same of = subst (λ v. IsOfBook v g) (sym same) of

-- a step of a book of named collections
abbrev Takes : NamedBook → Action → NamedBook → Type 0
Takes s action t = books.Takes catalog_meaning catalog_making s action t

-- a refused step leaves the book
pub make_same : (s t : NamedBook) (name : List ℕ) (kind : Kind) (r : Result ℕ Refusal) →
    Takes s (Action.Make name kind r) t → OnErr r (t ≡ s)
make_same s t name kind (Ok place) took = tt
make_same s t name kind (Err e) took = took.0

pub enter_same : (s t : NamedBook) (n : ℕ) (r : Result (Unit {0}) Refusal) →
    Takes s (Action.Enter n r) t → OnErr r (t ≡ s)
enter_same s t n (Ok done) took = tt
enter_same s t n (Err e) took = took.0

pub ask_same : (s t : NamedBook) (n at : ℕ) (call : Call) (when : When)
    (r : Result Reply Refusal) →
    Takes s (Action.Ask n (Target.Number at) call when r) t → OnErr r (t ≡ s)
ask_same s t n at call when (Ok reply) took = tt
ask_same s t n at call when (Err e) took = took.0

pub commit_same : (s t : NamedBook) (n : ℕ) (r : Result ℕ Refusal) →
    Takes s (Action.Commit n r) t → OnErr r (t ≡ s)
commit_same s t n (Ok place) took = tt
commit_same s t n (Err e) took = took.0

pub back_same : (s t : NamedBook) (n : ℕ) (r : Result Bool Refusal) →
    Takes s (Action.Back n r) t → OnErr r (t ≡ s)
back_same s t n (Ok undone) took = tt
back_same s t n (Err e) took = took.0

pub ended_same : (s t : NamedBook) (n : ℕ) (r : Result (Unit {0}) Refusal) →
    Takes s (Action.Ended n r) t → OnErr r (t ≡ s)
ended_same s t n (Ok done) took = tt
ended_same s t n (Err e) took = took.0

-- A block is handed over, or none.
cut_lsn : (b c : NamedBook) (sends : List Block → Type 0) (full : Type 0)
    (r : Result Bool Refusal) → books.CutAnswers b sends full r c → lsn c ≡ lsn b
cut_lsn b c sends full (Ok true) cut = omega (
  arith,
  cut.0.3,
  cut.0.2.ends,
  ap length cut.0.2.are,
  length-append cut.0.2.first c.pending,
)
cut_lsn b c sends full (Ok false) cut = omega (arith, ap length cut.0.2, cut.0.3)
cut_lsn b c sends full (Err Refusal.NotNow) cut = omega (arith, ap length cut.0.2, cut.0.3)
cut_lsn b c sends full (Err e) cut = absurd cut.0

pub of_cut : (b c : NamedBook) (g : GatherState) (sends : List Block → Type 0) (full : Type 0)
    (r : Result Bool Refusal) → books.CutAnswers b sends full r c → IsOfBook b g → IsOfBook c g
of_cut b c g sends full r cut =
    let same = cut_lsn b c sends full r cut in
    let keeps = goes_past_others (λ (v : List _). v) b.gathering (lsn b) (lsn c)
    b.state.now (omega (arith, same)) in
    on_kept b c g
    (subst (λ s. KeepsGoing (λ v. v) b.gathering b.state.now (lsn b) c.gathering s
    (lsn c))
    (sym (ap (λ (v : NamedBook). v.state.now) cut.1))
    (subst (λ n. KeepsGoing (λ v. v) b.gathering b.state.now (lsn b) n b.state.now
    (lsn c))
    (sym (ap (λ (v : NamedBook). v.gathering) cut.1)) keeps))

-- ---- what is gathered

before : (b : NamedBook) (g h : GatherState) → Repeats g h → IsUnderWay b.gathering h →
    IsUnderWay b.gathering g
before b g h repeats under =
    (λ none. under.0 (repeats.mark ∙ none), under.1, sym repeats.mark ∙ under.2)

-- where two lists make none, both are none
append_nothing : {A : Type 0} (xs ys : List A) → xs ++ ys ≡ [] → (xs ≡ []) × (ys ≡ [])
append_nothing [] ys none = (refl, none)
append_nothing (x ∷ xs) ys none = absurd cc

-- what has taken nothing has nothing to repeat
repeated_new : (g h : GatherState) → Repeats g h → (g.parts ≡ []) × (g.effects ≡ []) →
    (h.parts ≡ []) × (h.effects ≡ [])
repeated_new g h repeats new =
    let done = repeats.repeated.done in
    let none = append_nothing done h.effects (sym repeats.repeated.are ∙ new.1) in (
      repeats.repeated.is ∙ (λ i. caught_up (new.0 i) (none.0 i)),
      none.1,
    )

-- what is repeated stays of the book
pub of_repeated : (b : NamedBook) (g h : GatherState) → Repeats g h → IsOfBook b g → IsOfBook b h
of_repeated b g h repeats of = record {
  gathered = record {
    new = λ mark. repeated_new g h repeats (of.gathered.new (sym repeats.mark ∙ mark));
    along = λ under. let along = of.gathered.along (before b g h repeats under) in record {
      mark = repeats.mark ∙ along.mark;
      follows = follows_repeated g h b.gathering.effects b.state.now repeats along.follows;
      came = came_repeated g h b.gathering.effects (lsn b) repeats along.came;
    };
  };
  over = λ frozen. let over = of.over (λ none. frozen (repeats.frozen ∙ none)) in
      (λ none. over.0 (sym repeats.mark ∙ none), λ under. over.1 (before b g h repeats under));
}

-- ---- gathers and freezes

-- the gathering with which is gone on is not the one of what is new
gone_some : (b : NamedBook) (g : GatherState) → (g.mark ≡ 0) ⊎ IsUnderWay b.gathering g →
    (gone_on b.gathering g).begun ≢ 0
gone_some b g either none = ⊎_elim
    (λ (new : g.mark ≡ 0). let one : by g.mark ≡ b.gathering.begun + 1 = ap by new in
    absurd (omega (arith, none, one)))
    (λ (under : IsUnderWay b.gathering g).
    under.0 (under.2 ∙ sym (on g.mark (is_not g.mark under.0 (g.mark == 0) refl)) ∙ none))
    either
  where
    by : ℕ → ℕ
    by m = (cond (m == 0) (record { begun = b.gathering.begun + 1; going = true; effects = [] })
        b.gathering).begun

    is_not : (m : ℕ) → m ≢ 0 → (t : Bool) → (m == 0) ≡ t → (m == 0) ≡ false
    is_not m some true is = absurd (some (eqb-true m 0 is))
    is_not m some false is = is

    on : (m : ℕ) → (m == 0) ≡ false → by m ≡ b.gathering.begun
    on m is = ap (λ t. let n : GatheringState = cond t
        (record { begun = b.gathering.begun + 1; going = true; effects = [] }) b.gathering in
        n.begun) is

-- what went on is of the book
pub of_gathered : (b c : NamedBook) (g h : GatherState) (more : Bool) →
    BookGathers (λ v. v) b g (Ok more) c h →
    GoesAlong (λ v. v) c.gathering c.state.now (lsn c) h → IsOfBook b g → IsOfBook c h
of_gathered b c g h more gathers along of =
    let some : h.mark ≢ 0 =
    λ none. gone_some b g gathers.0.0
    (sym (ap (λ (v : _). v.begun) gathers.0.1) ∙ sym along.mark ∙ none) in
    record {
      gathered = record { new = λ none. absurd (some none); along = λ under. along };
      over = λ frozen.
          let over = of.over (λ none. frozen
          (ap (λ (v : GatherState). v.frozen) gathers.0.2 ∙ none))
          in
          absurd (⊎_elim over.0 over.1 gathers.0.0);
    }

-- where that is refused, all is as it was
pub of_ungathered : (b c : NamedBook) (g h : GatherState) (e : Refusal) →
    BookGathers (λ v. v) b g (Err e) c h → (c ≡ b) × (h ≡ g)
of_ungathered b c g h Refusal.Outrun gathers =
    (gathers.1 ∙ ap (λ n. record b { gathering = n }) gathers.0.0, gathers.0.1)
of_ungathered b c g h Refusal.Worn gathers =
    (gathers.1 ∙ ap (λ n. record b { gathering = n }) gathers.0.0, gathers.0.1)
of_ungathered b c g h Refusal.NoMemory gathers =
    (gathers.1 ∙ ap (λ n. record b { gathering = n }) gathers.0.0, gathers.0.1)
of_ungathered b c g h e gathers = absurd gathers.0

-- where a freeze is refused, all is as it was
pub of_unfrozen : (b c : NamedBook) (g h : GatherState) (e : Refusal) →
    FreezeAnswers (λ v. v) b g (Err e) c h → (c ≡ b) × (h ≡ g)
of_unfrozen b c g h Refusal.NoMemory froze = (froze.1, froze.2)
of_unfrozen b c g h Refusal.Unfinished froze = (froze.1, froze.2)
of_unfrozen b c g h Refusal.Outrun froze = (froze.1, froze.2)
of_unfrozen b c g h e froze = absurd froze.0
