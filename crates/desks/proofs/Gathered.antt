-- What is gathered of the book stays of it with each step.
use Rattle.std.proofs.Common.{◌≡◌, ℕ, Bool, true, false, Some, None, Result, Ok, Err}
use Rattle.std.proofs.Common.{List, length}
use Rattle.std.proofs.Common.{refl, sym, ap, ◌∙◌, subst, arith, length-append}
use Rattle.std.specs.Prelude.{OnOk}
use Rattle.calls.specs.Contents.{Collection}
use Rattle.calls.specs.declared.refusal.Refusal.{Refusal}
use Rattle.records.specs.declared.block.Block.{Block}
use Rattle.images.specs.Gathers.{GatherState}
use Rattle.images.specs.Gatherings.{KeepsGoing}
use Rattle.images.proofs.Going.{goes_past_others}
use Rattle.txn.specs.declared.actions.Action.{Action}
use Rattle.txn.specs.declared.actions.Target.{Target}
use Rattle.txn.specs.Books.{BookState, GoesOn, Takes, CutAnswers, lsn}
use Rattle.txn.specs.Freezing.{IsGatheredOf}
use Rattle.boosted.specs.Meaning.{Meaning}
use Rattle.catalog.specs.Making.{Making}
use Rattle.images.specs.Gathers.{nothing_gathered}

module _ {S : Type 0} (collections : S → List Collection) where
  -- what is gathered is of the book
  abbrev Of : BookState S → GatherState → Type 0
  Of b g = IsGatheredOf collections b g

  gathered_kept : (b c : BookState S) (g : GatherState) →
      KeepsGoing collections b.gathering b.state.now (lsn b) c.gathering c.state.now
      (lsn c) →
      Of b g → Of c g
  gathered_kept b c g keeps of = record {
    new = of.new;
    along = λ under. keeps.along under.1 g
        (of.along (under.0, keeps.going under.1, under.2 ∙ keeps.begun));
  }

  -- A block is handed over, or none.
  cut_lsn : (b c : BookState S) (sends : List Block → Type 0) (full : Type 0)
      (r : Result Bool Refusal) → CutAnswers b sends full r c → lsn c ≡ lsn b
  cut_lsn b c sends full (Ok true) cut = omega (
    arith,
    cut.0.3,
    cut.0.2.ends,
    ap length cut.0.2.are,
    length-append cut.0.2.first c.pending,
  )
  cut_lsn b c sends full (Ok false) cut = omega (arith, ap length cut.0.2, cut.0.3)
  cut_lsn b c sends full (Err Refusal.NotNow) cut = omega (arith, ap length cut.0.2, cut.0.3)
  cut_lsn b c sends full (Err e) cut = absurd cut.0

  pub gathered_cut : (b c : BookState S) (g : GatherState) (sends : List Block → Type 0)
      (full : Type 0)
      (r : Result Bool Refusal) → CutAnswers b sends full r c → Of b g → Of c g
  gathered_cut b c g sends full r cut =
      let same = cut_lsn b c sends full r cut in
      let keeps = goes_past_others collections b.gathering (lsn b) (lsn c)
      b.state.now (omega (arith, same)) in
      gathered_kept b c g
      (subst (λ s. KeepsGoing collections b.gathering b.state.now (lsn b) c.gathering s
      (lsn c))
      (sym (ap (λ (v : BookState S). v.state.now) cut.1))
      (subst (λ n. KeepsGoing collections b.gathering b.state.now (lsn b) n b.state.now
      (lsn c))
      (sym (ap (λ (v : BookState S). v.gathering) cut.1)) keeps))

  -- nothing is of every book
  pub gathered_none : (b : BookState S) → Of b nothing_gathered
  gathered_none b =
      record { new = λ mark. (refl, refl); along = λ under. absurd (under.0 refl) }

  stays : (b c : BookState S) (g : GatherState) → c ≡ b → Of b g → Of c g
  stays b c g same = subst (λ v. Of v g) (sym same)

module _ {S : Type 0} (meaning : Meaning S ℕ) (making : Making S)
    (collections : S → List Collection) where
  abbrev pub On : {T : Type 0} → BookState S → Result T Refusal → BookState S → Type 0
  On b r c = OnOk r (GoesOn meaning making collections b c)

  -- What a step that is accepted ran is noted, and what is gathered goes along.
  abbrev pub Goes : BookState S → Action → BookState S → Type 0
  Goes b (Action.Make name kind r) c = On b r c
  Goes b (Action.Enter n r) c = On b r c
  Goes b (Action.Ask n target call when r) c = On b r c
  Goes b (Action.Commit n r) c = On b r c
  Goes b (Action.Back n r) c = On b r c
  Goes b (Action.Ended n r) c = On b r c
  Goes b action c = ⊥

  pub gathered_takes : (b c : BookState S) (g : GatherState) (action : Action) →
      Takes meaning making b action c → Goes b action c → IsGatheredOf collections b g →
      IsGatheredOf collections c g
  gathered_takes b c g (Action.Make name kind (Ok place)) took goes =
      gathered_kept collections b c g goes.keeps
  gathered_takes b c g (Action.Make name kind (Err e)) took goes = stays collections b c g took.0
  gathered_takes b c g (Action.Enter n (Ok done)) took goes =
      gathered_kept collections b c g goes.keeps
  gathered_takes b c g (Action.Enter n (Err e)) took goes = stays collections b c g took.0
  gathered_takes b c g (Action.Ask n target call when (Ok reply)) took goes =
      gathered_kept collections b c g goes.keeps
  gathered_takes b c g (Action.Ask n (Target.Number p) call when (Err e)) took goes =
      stays collections b c g took.0
  gathered_takes b c g (Action.Ask n (Target.Named name (Some p)) call when (Err e)) took goes =
      stays collections b c g took.1.0
  gathered_takes b c g (Action.Ask n (Target.Named name None) call when (Err e)) took goes =
      stays collections b c g took.0
  gathered_takes b c g (Action.Commit n (Ok place)) took goes =
      gathered_kept collections b c g goes.keeps
  gathered_takes b c g (Action.Commit n (Err e)) took goes = stays collections b c g took.0
  gathered_takes b c g (Action.Back n (Ok undone)) took goes =
      gathered_kept collections b c g goes.keeps
  gathered_takes b c g (Action.Back n (Err e)) took goes = stays collections b c g took.0
  gathered_takes b c g (Action.Ended n (Ok done)) took goes =
      gathered_kept collections b c g goes.keeps
  gathered_takes b c g (Action.Ended n (Err e)) took goes = stays collections b c g took.0
  gathered_takes b c g (Action.Cut count r) took goes = absurd goes
  gathered_takes b c g (Action.Gather r) took goes = absurd goes
  gathered_takes b c g (Action.Freeze r) took goes = absurd goes
