-- Records that a book has made, and what is packed of it, go on with each of its steps.
use Rattle.calls.specs.declared.format.Format.{Format}
use Rattle.std.proofs.Common.{◌≡◌, ◌∙◌, ap, ℕ, List, [], ◌∷◌, ◌++◌, None, refl, sym, subst}
use Rattle.std.proofs.Common.{append_assoc}
use Rattle.std.specs.List.{AllByRecursion}
use Rattle.std.proofs.lemmas.List.{append-nil}
use Rattle.boosted.proofs.Each.{weaker, each_append}
use Rattle.calls.specs.Contents.{Collection}
use Rattle.records.specs.declared.record.Record.{Record}
use Rattle.records.specs.Records.{IsRecord}
use Rattle.images.specs.Gathers.{GatherState}
use Rattle.steps.specs.Machines.{resting}
use Rattle.steps.proofs.Journalled.{GoesUnheard}
use Rattle.replay.specs.Steps.{State, Steps, Repeats}
use Rattle.replay.proofs.LagLemmas.{lags_self, lags_step, lags_unheard}
use Rattle.replay.proofs.OneFormat.{step_format}
use Rattle.replay.proofs.Lists.{leads_push, leads_split}
use Rattle.checkpoint.specs.Stored.{StandIn, AreReadTo, GoAlong}
use Rattle.checkpoint.proofs.StandLemmas.{stands_push, stands_unheard}
use Rattle.desks.specs.Desks.{AreRecorded, PacksImages}

module _ (format : Format) (start : List Collection) (wear : ℕ) where
  -- an opened book has made none
  pub recorded_none : AreRecorded format start wear [] (resting format start wear) []
  recorded_none = record {
    good = tt;
    of_book = refl;
    trail = resting format start wear;
    leads = refl;
    trails = lags_self (resting format start wear);
    stand = tt;
  }

  -- What is packed stands for records that go on, where all that stood for the first ones does.
  pub still_packed : (records : List Record) (now : State) (more : List Record) (next : State) →
      ((blocks : List (List Record)) (covered : List Record) →
      StandIn format start wear records now blocks covered →
      StandIn format start wear more next blocks covered) →
      (noted : List GatherState) → AllByRecursion (PacksImages format start wear records now)
      noted →
      AllByRecursion (PacksImages format start wear more next) noted
  still_packed records now more next goes noted =
      weaker (PacksImages format start wear records now) (PacksImages format start wear more next)
      (λ g packs image packed. let is = packs image packed in record {
        begun = is.begun;
        is_for = is.is_for;
        stands = goes is.begun.blocks is.begun.covered is.stands;
      }) noted

  module _ (noted : List GatherState) where
    -- one record more
    recorded_push : (records : List Record) (now : State) (r : Record) (next : State) →
        IsRecord None r → Steps now r next → AreRecorded format start wear records now noted →
        AreRecorded format start wear (records ++ r ∷ []) next noted
    recorded_push records now r next good row is =
        let trail = lags_step is.trail now is.trails r next row in
        record {
          good = each_append (IsRecord None) records (r ∷ []) is.good (good, tt);
          of_book = step_format r now next row ∙ is.of_book;
          trail = trail.0;
          leads = leads_push Steps records r (resting format start wear) is.trail trail.0 is.leads
              trail.1;
          trails = trail.2;
          stand = still_packed records now (records ++ r ∷ []) next
              (λ blocks covered old.
              (stands_push format start wear records now blocks covered r next row old).0)
              noted is.stand;
        }

    pub recorded_leads : (records : List Record) (now : State) (rs : List Record) (next : State) →
        AllByRecursion (IsRecord None) rs → Repeats rs now next →
        AreRecorded format start wear records now noted →
        AreRecorded format start wear (records ++ rs) next noted
    recorded_leads records now [] next good leads is =
        subst (λ l. AreRecorded format start wear l next noted) (sym (append-nil records))
        (subst (λ s. AreRecorded format start wear records s noted) leads is)
    recorded_leads records now (r ∷ rs) next good leads is =
        subst (λ l. AreRecorded format start wear l next noted) (append_assoc records (r ∷ []) rs)
        (recorded_leads (records ++ r ∷ []) leads.0 rs next good.1 leads.2
        (recorded_push records now r leads.0 good.0 leads.1 is))

    -- a step of which no record tells
    pub recorded_unheard : (records : List Record) (now next : State) → GoesUnheard now next →
        AreRecorded format start wear records now noted →
        AreRecorded format start wear records next noted
    recorded_unheard records now next step is = record {
      good = is.good;
      of_book = ap (λ (v : State). v.format) step.is ∙ is.of_book;
      trail = is.trail;
      leads = is.leads;
      trails = lags_unheard is.trail now is.trails next step;
      stand = still_packed records now records next
          (λ blocks covered old.
          (stands_unheard format start wear records now blocks covered next step old).0)
          noted is.stand;
    }

    -- what a store held that was opened stands for the beginning of all records
    pub opened_stands : (blocks : List (List Record)) (records : List Record) (now : State) →
        AreReadTo blocks (resting format start wear) →
        AreRecorded format start wear records now noted →
        (stands : StandIn format start wear records now blocks []) × (stands.since ≡ records)
    opened_stands blocks records now are_read is = (
      record {
        of_book = is.of_book;
        since = records;
        split = refl;
        there = resting format start wear;
        led = refl;
        trail = is.trail;
        leads = is.leads;
        trails = is.trails;
        base = resting format start wear;
        are_read = are_read;
        state = is.trail;
        repeats = is.leads;
        lags = is.trails;
        along = along;
      },
      refl,
    )
      where
        along : GoAlong records (resting format start wear) (resting format start wear)
        along first rest split =
            let parts = leads_split Steps first rest (resting format start wear) is.trail
            (subst (λ l. Repeats l (resting format start wear) is.trail) split is.leads) in
            (parts.0, parts.0, parts.1, parts.1, record { now = refl; calls = refl })
