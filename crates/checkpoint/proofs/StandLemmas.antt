-- Blocks that stand for the first records of a past stand for them once more has happened.
use Rattle.std.proofs.Common.{◌≡◌, ℕ, ◌≤◌, List, [], ◌∷◌, ◌++◌, length, refl, sym, ◌∙◌, ap, subst}
use Rattle.std.proofs.Common.{arith, append_assoc, inl, inr, ◌⊎◌, ⊎_elim}
use Rattle.std.proofs.lemmas.List.{append-nil}
use Rattle.calls.specs.declared.format.Format.{Format}
use Rattle.calls.specs.Contents.{Collection}
use Rattle.steps.specs.Machines.{resting}
use Rattle.steps.proofs.Journalled.{GoesUnheard}
use Rattle.records.specs.declared.record.Record.{Record}
use Rattle.replay.specs.Steps.{State, Steps, Repeats}
use Rattle.replay.specs.Lagging.{Lags}
use Rattle.replay.proofs.Lists.{leads_push}
use Rattle.replay.proofs.OneFormat.{step_format}
use Rattle.checkpoint.specs.Stored.{IsLevel, GoAlong, AreReadTo, StandIn}
use Rattle.replay.proofs.LagLemmas.{lags_step, lags_unheard, lags_calls}

-- ---- beginnings of lists

same_head : (x y : Record) (us vs : List Record) → x ∷ us ≡ y ∷ vs → (x ≡ y) × (us ≡ vs)
same_head x y us vs e = (cc, cc)

-- two beginnings of one list of the same length are the same, and what is behind them too
pub same_beginning : (xs ys us vs : List Record) → xs ++ us ≡ ys ++ vs → length xs ≡ length ys →
    (xs ≡ ys) × (us ≡ vs)
same_beginning [] [] us vs e size = (refl, e)
same_beginning [] (y ∷ ys) us vs e size = absurd (omega (arith, size))
same_beginning (x ∷ xs) [] us vs e size = absurd (omega (arith, size))
same_beginning (x ∷ xs) (y ∷ ys) us vs e size =
    let both = same_head x y (xs ++ us) (ys ++ vs) e in
    let rest = same_beginning xs ys us vs both.1 (omega (arith, size)) in
    ((λ i. both.0 i ∷ rest.0 i), rest.1)

-- the shorter of two beginnings of one list is a beginning of the longer one
pub shorter_beginning : (xs ys us vs : List Record) → xs ++ us ≡ ys ++ vs → length xs ≤ length ys →
    (zs : List Record) × (ys ≡ xs ++ zs) × (us ≡ zs ++ vs)
shorter_beginning [] ys us vs e le = (ys, refl, e)
shorter_beginning (x ∷ xs) [] us vs e le = absurd (omega (arith, le))
shorter_beginning (x ∷ xs) (y ∷ ys) us vs e le =
    let both = same_head x y (xs ++ us) (ys ++ vs) e in
    let rest = shorter_beginning xs ys us vs both.1 (omega (arith, le)) in
    (rest.0, (λ i. sym both.0 i ∷ rest.1 i), rest.2)

-- a beginning of a list and one more is a beginning of the list, or all of it
begins_push : (rs : List Record) (r : Record) (first rest : List Record) →
    rs ++ r ∷ [] ≡ first ++ rest → ((more : List Record) × (rs ≡ first ++ more)) ⊎
    (first ≡ rs ++ r ∷ [])
begins_push [] r [] rest e = inl ([], refl)
begins_push [] r (f ∷ []) rest e = inr (λ i. sym (same_head r f [] rest e).0 i ∷ [])
begins_push [] r (f ∷ g ∷ first) rest e = absurd (omega (arith, ap length e))
begins_push (x ∷ rs) r [] rest e = inl (x ∷ rs, refl)
begins_push (x ∷ rs) r (f ∷ first) rest e =
    let both = same_head x f (rs ++ r ∷ []) (first ++ rest) e in
    ⊎_elim
    (λ (some : (more : List Record) × (rs ≡ first ++ more)). inl (some.0, λ i. both.0 i ∷ some.1 i))
    (λ (all : first ≡ rs ++ r ∷ []). inr (λ i. sym both.0 i ∷ all i))
    (begins_push rs r first rest both.1)

-- ---- one record more

-- two states that lag behind one are level
lag_level : (u v t : State) → Lags u t → Lags v t → IsLevel u v
lag_level u v t a b = record {
  now = a.now ∙ sym b.now;
  calls = lags_calls u t a ∙ sym (lags_calls v t b);
}

along_push : (rs : List Record) (r : Record) (s t u v : State) → GoAlong rs s t →
    Repeats (rs ++ r ∷ []) s u → Repeats (rs ++ r ∷ []) t v → IsLevel u v →
    GoAlong (rs ++ r ∷ []) s t
along_push rs r s t u v along left right level first rest is =
    ⊎_elim
    (λ (some : (more : List Record) × (rs ≡ first ++ more)). along first some.0 some.1)
    (λ (all : first ≡ rs ++ r ∷ []). (
      u,
      v,
      subst (λ l. Repeats l s u) (sym all) left,
      subst (λ l. Repeats l t v) (sym all) right,
      level,
    ))
    (begins_push rs r first rest is)

module _ (format : Format) (start : List Collection) (wear : ℕ) (rs : List Record) (now : State)
    (blocks : List (List Record)) (covered : List Record) where
  -- a past with the same records
  pub stands_as : (ss : List Record) → rs ≡ ss →
      (old : StandIn format start wear rs now blocks covered) →
      (new : StandIn format start wear ss now blocks covered) × (new.since ≡ old.since)
  stands_as ss same old = (
    record {
      of_book = old.of_book;
      since = old.since;
      split = sym same ∙ old.split;
      there = old.there;
      led = old.led;
      trail = old.trail;
      leads = old.leads;
      trails = old.trails;
      base = old.base;
      are_read = old.are_read;
      state = old.state;
      repeats = old.repeats;
      lags = old.lags;
      along = old.along;
    },
    refl,
  )

  -- a step of which no record tells
  pub stands_unheard : (next : State) → GoesUnheard now next →
      (old : StandIn format start wear rs now blocks covered) →
      (new : StandIn format start wear rs next blocks covered) × (new.since ≡ old.since)
  stands_unheard next step old = (
    record {
      of_book = ap (λ (v : State). v.format) step.is ∙ old.of_book;
      since = old.since;
      split = old.split;
      there = old.there;
      led = old.led;
      trail = old.trail;
      leads = old.leads;
      trails = lags_unheard old.trail now old.trails next step;
      base = old.base;
      are_read = old.are_read;
      state = old.state;
      repeats = old.repeats;
      lags = lags_unheard old.state now old.lags next step;
      along = old.along;
    },
    refl,
  )

  -- a record more
  pub stands_push : (r : Record) (next : State) → Steps now r next →
      (old : StandIn format start wear rs now blocks covered) →
      (new : StandIn format start wear (rs ++ r ∷ []) next blocks covered) ×
      (new.since ≡ old.since ++ r ∷ [])
  stands_push r next row old =
      let trail = lags_step old.trail now old.trails r next row in
      let state = lags_step old.state now old.lags r next row in
      let leads : Repeats (old.since ++ r ∷ []) old.there trail.0 =
      leads_push Steps old.since r old.there old.trail trail.0 old.leads trail.1 in
      let repeats : Repeats (old.since ++ r ∷ []) old.base state.0 =
      leads_push Steps old.since r old.base old.state state.0 old.repeats state.1 in (
        record {
          of_book = step_format r now next row ∙ old.of_book;
          since = old.since ++ r ∷ [];
          split = ap (λ l. l ++ r ∷ []) old.split ∙ append_assoc covered old.since (r ∷ []);
          there = old.there;
          led = old.led;
          trail = trail.0;
          leads = leads;
          trails = trail.2;
          base = old.base;
          are_read = old.are_read;
          state = state.0;
          repeats = repeats;
          lags = state.2;
          along = along_push old.since r old.there old.base trail.0 state.0 old.along leads repeats
              (lag_level trail.0 state.0 next trail.2 state.2);
        },
        refl,
      )

-- Blocks that are read up to a state that lags behind the book's stand for all records of its past.
pub stands_whole : (format : Format) (start : List Collection) (wear : ℕ) (rs : List Record)
    (now : State)
    (blocks : List (List Record)) (trail : State) → Repeats rs (resting format start wear) trail →
    Lags trail now → now.format ≡ format → (base : State) → AreReadTo blocks base → Lags base now →
    (stands : StandIn format start wear rs now blocks rs) × (stands.since ≡ [])
stands_whole format start wear rs now blocks trail leads trails of_book base are_read lags = (
  record {
    of_book = of_book;
    since = [];
    split = sym (append-nil rs);
    there = trail;
    led = leads;
    trail = trail;
    leads = refl;
    trails = trails;
    base = base;
    are_read = are_read;
    state = base;
    repeats = refl;
    lags = lags;
    along = none;
  },
  refl,
)
  where
    none : GoAlong [] trail base
    none [] rest is = (trail, base, refl, refl, lag_level trail base now trails lags)
    none (r ∷ first) rest is = absurd (omega (arith, ap length is))
