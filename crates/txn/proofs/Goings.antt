-- What is gathered of a book goes along with its steps.
use Rattle.std.proofs.Common.{◌≡◌, ℕ, ◌+◌, ◌≤◌, ◌^◌, List, length, sym, ap}
use Rattle.std.proofs.Common.{subst, arith, inl, inr}
use Rattle.calls.specs.declared.kind.Kind.{Kind}
use Rattle.calls.specs.Contents.{Collection}
use Rattle.boosted.specs.Meaning.{Meaning}
use Rattle.boosted.specs.Laws.{BoostedLaws}
use Rattle.catalog.specs.Making.{Making}
use Rattle.records.specs.Told.{Tells}
use Rattle.records.specs.declared.record.Record.{Record}
use Rattle.steps.proofs.Sizes.{pushed_length}
use Rattle.images.specs.declared.effect.Effect.{Effect}
use Rattle.images.specs.Gatherings.{GatheringState, noted, AreRun, KeepsGoing}
use Rattle.images.proofs.Going.{goes_past_runs, goes_past_makings, goes_past_others}
use Rattle.txn.specs.Books.{BookState, lsn, Appends, GoesOn}

-- one record more waits
pub lsn_after : {S : Type 0} (b c : BookState S) (r : Record) → Appends b r c →
    lsn c ≡ lsn b + 1
lsn_after b c r appends = omega (
  arith,
  ap (λ v. v.end) appends.is,
  ap (λ v. length v.pending) appends.is,
  pushed_length b.pending r,
)

module _ {S : Type 0} {meaning : Meaning S ℕ} {making : Making S}
    {collections : S → List Collection} (laws : BoostedLaws meaning)
    (told : Tells meaning making collections) (b c : BookState S) where
  abbrev On : Type 0
  On = GoesOn meaning making collections b c

  abbrev Keeps : GatheringState → S → ℕ → Type 0
  Keeps m t next = KeepsGoing collections b.gathering b.state.now (lsn b) m t next

  -- Nothing is run.
  pub goes_still : c.state.now ≡ b.state.now → c.gathering ≡ b.gathering →
      lsn b ≤ lsn c → On
  goes_still now noted low = record {
    notes = inr (noted, inl now);
    keeps = subst (λ m. Keeps m c.state.now (lsn c)) (sym noted)
        (subst (λ t. Keeps b.gathering t (lsn c)) (sym now)
        (goes_past_others collections b.gathering (lsn b) (lsn c) b.state.now low));
  }

  -- A collection is made.
  pub goes_made : (name : List ℕ) (kind : Kind) → making.makes b.state.now name kind c.state.now →
      c.gathering ≡ b.gathering → lsn c ≡ lsn b + 1 → On
  goes_made name kind made noted next = record {
    notes = inr (noted, inr (name, kind, made));
    keeps = subst (λ m. Keeps m c.state.now (lsn c)) (sym noted)
        (subst (Keeps b.gathering c.state.now) (sym next)
        (goes_past_makings laws told b.gathering (lsn b) b.state.now c.state.now name kind
        made));
  }

  -- Calls are run, and noted.
  pub goes_ran : (es : List Effect) (wear : ℕ) → meaning.within b.state.now wear →
      wear + length es ≤ 2 ^ 61 + 65536 →
      AreRun meaning (lsn b + 1) es b.state.now c.state.now →
      c.gathering ≡ noted b.gathering es → lsn c ≡ lsn b + 1 → On
  goes_ran es wear within low run is_noted next = record {
    notes = inl (
      es,
      subst (λ p. AreRun meaning p es b.state.now c.state.now) (sym next) run,
      is_noted,
    );
    keeps = subst (λ m. Keeps m c.state.now (lsn c)) (sym is_noted)
        (subst (Keeps (noted b.gathering es) c.state.now) (sym next)
        (goes_past_runs laws told b.gathering es (lsn b) wear b.state.now c.state.now within
        low run));
  }
