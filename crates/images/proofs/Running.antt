-- The calls of a step, as they are noted.
use Rattle.calls.specs.Formats.{widest}
use Rattle.std.proofs.Common.{◌≡◌, ℕ, ◌+◌, List, [], ◌∷◌, ◌++◌, map, length, refl, sym, ap, subst}
use Rattle.std.proofs.Common.{Bool, true, false, cond, nat_le}
use Rattle.std.specs.List.{AllByRecursion}
use Rattle.calls.specs.Rules.{IsShort, Disposable}
use Rattle.calls.specs.Transactions.{Event, Leads}
use Rattle.boosted.specs.Meaning.{Meaning}
use Rattle.boosted.proofs.Each.{weaker}
use Rattle.records.proofs.Items.{short_disposable}
use Rattle.steps.specs.Machine.{Does}
use Rattle.images.specs.declared.effect.Effect.{Effect}
use Rattle.images.specs.Gatherings.{GatheringState, event_in, effect_at, AreRun, noted, to_note}
use Rattle.images.specs.Gatherings.{max_effects, given_up}

events_in : (p : ℕ) (es : List Event) → map event_in (map (effect_at p) es) ≡ es
events_in p [] = refl
events_in p (e ∷ es) = ap (λ l. e ∷ l) (events_in p es)

each_there : (p : ℕ) (es : List Event) → AllByRecursion (λ e. e.lsn ≡ p) (map (effect_at p) es)
each_there p [] = tt
each_there p (e ∷ es) = (refl, each_there p es)

pub each_short : (p : ℕ) (es : List Event) → AllByRecursion (λ e. IsShort widest e.call) es →
    AllByRecursion (λ e. IsShort widest e.call) (map (effect_at p) es)
each_short p [] short = tt
each_short p (e ∷ es) short = (short.0, each_short p es short.1)

-- Events that lead from one content to another are run.
pub are_run : {S : Type 0} (meaning : Meaning S ℕ) (p : ℕ) (es : List Event) (s t : S) →
    Leads (Does meaning) es s t → AllByRecursion (λ e. IsShort widest e.call) es →
    AreRun meaning p (map (effect_at p) es) s t
are_run meaning p es s t leads short = record {
  leads = subst (λ l. Leads (Does meaning) l s t) (sym (events_in p es)) leads;
  short = each_short p es short;
  there = each_there p es;
}

-- what is deferred can be spelled
pub late_short : (es : List Event) → AllByRecursion (λ e. Disposable e.call) es →
    AllByRecursion (λ e. IsShort widest e.call) es
late_short es late = weaker (λ (e : Event). Disposable e.call)
    (λ (e : Event). IsShort widest e.call)
    (λ e l. short_disposable widest e.call l) es late

-- What was made ready to be noted is noted as it is.
pub note_kept : (n : GatheringState) (es : List Effect) → noted n (to_note n es) ≡ noted n es
note_kept n es = same n.going
  where
    both : Bool → GatheringState
    both b = cond b (cond (nat_le (length n.effects + length (cond b es [])) max_effects)
        (record n { effects = n.effects ++ cond b es [] }) (given_up n)) n

    as_is : Bool → GatheringState
    as_is b = cond b (cond (nat_le (length n.effects + length es) max_effects)
        (record n { effects = n.effects ++ es }) (given_up n)) n

    same : (b : Bool) → both b ≡ as_is b
    same true = refl
    same false = refl
