-- Each step keeps the rule of the mark.
use Rattle.std.proofs.Common.{◌≡◌, ◌≢◌, inl, inr, ℕ, ◌≤◌, ◌==◌, max, true, false, true≢false}
use Rattle.std.proofs.Common.{zero, suc, ◌+◌, ◌⊎◌, List, [], ◌∷◌, ◌++◌, length, set, refl, sym, ap}
use Rattle.std.proofs.Common.{◌∙◌, ⊎_elim, arith, subst}
use Rattle.std.specs.Prelude.{slice_index, slice_set}
use Rattle.std.proofs.lemmas.Bool.Decides.{nat_tests}
use Rattle.std.proofs.lemmas.List.Elements.{All-nil, All-push, All-append, All-weaker}
use Rattle.std.proofs.lemmas.List.Elements.{Contains-push_cases, Contains-append_cases}
use Rattle.std.proofs.lemmas.List.Elements.{Contains-append_right}
use mathlib.Core.Option.{some, some-ne-none, some-injective}
use lib.ListN.{get_elem?}
use Rattle.group_commit.specs.declared.mark.Raised.{Raised}
use Rattle.group_commit.specs.declared.mark.Tide.{Tide}
use Rattle.group_commit.specs.Marks.{AreReached, AreNoted, HasCome, HasFailed, top}
use Rattle.group_commit.specs.Rising.{keeper, shown, stopper, watcher, nobody, permitted, Fits}
use Rattle.group_commit.specs.Rising.{KnowsFailed, IsCause, HasCause, Marked, raised_to}
use Rattle.group_commit.proofs.Seats.{each_one, each_set, each_push, other_view}

off : {X : Type 0} → false ≡ true → X
off e = absurd (true≢false (sym e))

none_noted : (raised : List Raised) → AreNoted [] raised
none_noted raised = All-nil (HasCome raised)

none_failed : HasFailed [] ⊎ (1 ≤ 0) → ⊥
none_failed (inl h) = let lt = h.1 in absurd (omega arith)
none_failed (inr le) = absurd (omega (arith, le))

-- a seat that knows no loaded flag knows as much of it as how often it was set
failed_as : (n : ℕ) {X : Type 0} → (1 ≤ n → X) → HasFailed [] ⊎ (1 ≤ n) → X
failed_as n f (inl h) = let lt = h.1 in absurd (omega arith)
failed_as n f (inr le) = f le

-- ---- who set the flag

-- who set it is still there with one seat more
cause_push : (views : List Tide) (w : Tide) → HasCause views → HasCause (views ++ w ∷ [])
cause_push [] w h = absurd h
cause_push (v ∷ vs) w (inl is) = inl is
cause_push (v ∷ vs) w (inr h) = inr (cause_push vs w h)

-- and behind a step of a seat that is as much of a cause as it was
cause_set : (views : List Tide) (id : ℕ) (v w : Tide) → get_elem? views id ≡ some v →
    (IsCause v → IsCause w) → HasCause views → HasCause (set views id w)
cause_set [] id v w at on h = absurd h
cause_set (x ∷ xs) zero v w at on (inl is) =
    inl (on (subst IsCause (some-injective x v at) is))
cause_set (x ∷ xs) zero v w at on (inr h) = inr h
cause_set (x ∷ xs) (suc id) v w at on (inl is) = inl is
cause_set (x ∷ xs) (suc id) v w at on (inr h) = inr (cause_set xs id v w at on h)

-- a seat that becomes a cause is one
cause_made : (views : List Tide) (id : ℕ) (v w : Tide) → get_elem? views id ≡ some v →
    IsCause w → HasCause (set views id w)
cause_made [] id v w at is = absurd (some-ne-none v (sym at))
cause_made (x ∷ xs) zero v w at is = inl is
cause_made (x ∷ xs) (suc id) v w at is = inr (cause_made xs id v w at is)

-- a watcher is none
no_cause : (v : Tide) {X : Type 0} → v.sets ≡ false → IsCause v → X
no_cause v none is = absurd (true≢false (sym is.0 ∙ none))

-- ---- what is known

-- one of the two was told
some_set : (m n : ℕ) {X : Type 0} → 1 ≤ m + n → (1 ≤ m → X) → (1 ≤ n → X) → X
some_set zero n le f g = g (omega (arith, le))
some_set (suc m) n le f g = f (omega arith)

-- a mark has come to where it is
top_come : (raised : List Raised) → HasCome raised (top raised)
top_come [] = record { within = omega arith; noted = inl refl }
top_come (x ∷ xs) = record { within = omega arith; noted = inr (0, omega arith, refl) }

-- what was reached is reached of a mark that was raised once more
come_later : (raised : List Raised) (place moment : ℕ) (x : Raised) → HasCome raised x →
    HasCome (raised_to place moment raised) x
come_later raised place moment x come = record {
  within = omega (arith, come.within);
  noted = elim come.noted [
    | inl first ↦ inl first
    | inr there ↦ inr (Contains-append_right (record {
      count = max (top raised).count place;
      moment = moment;
    } ∷ []) raised x there)
  ];
}

noted_later : (counts raised : List Raised) (place moment : ℕ) → AreNoted counts raised →
    AreNoted counts (raised_to place moment raised)
noted_later counts raised place moment h =
    All-weaker (HasCome raised) (HasCome (raised_to place moment raised))
    (come_later raised place moment) counts h

-- each count that was noted was reached
pub noted_reached : (counts raised : List Raised) → AreNoted counts raised →
    AreReached counts (top raised).count
noted_reached counts raised h =
    All-weaker (HasCome raised) (λ (x : Raised). x.count ≤ (top raised).count)
    (λ x come. come.within) counts h

silent : (keeping : ℕ) (raised : List Raised) (flag seat : ℕ) → Fits keeping raised flag seat nobody
silent keeping raised flag seat =
    record {
      whole = λ k. off k;
      noted = none_noted raised;
      failed = λ h. absurd (none_failed h);
    }

pub begins : Marked (0 ∷ 0 ∷ []) (keeper [] 0 ∷ [])
begins = record {
  keeping = 0;
  raised = [];
  flag = 0;
  words_are = refl;
  fits = each_one (Fits 0 [] 0) (keeper [] 0)
      record {
        whole = λ k. (refl, refl);
        noted = none_noted [];
        failed = λ h. absurd (none_failed h);
      };
  caused = λ one. absurd (omega (arith, one));
}

module _ (words : List ℕ) (views : List Tide) (k : Marked words views) (id : ℕ) (v : Tide)
    (at : get_elem? views id ≡ some v) where
  -- a word is found as it was written
  pub count_found : slice_index words 0 ≡ (top k.raised).count
  count_found = ap (λ ws. slice_index ws 0) k.words_are

  pub flag_found : slice_index words 1 ≡ k.flag
  flag_found = ap (λ ws. slice_index ws 1) k.words_are

  -- a seat more, with a view that fits at each seat but the keeper's
  splits : (right : Tide) → ((seat : ℕ) → Fits k.keeping k.raised k.flag seat right) →
      Marked words (set views id v ++ right ∷ [])
  splits right fit = record {
    keeping = k.keeping;
    raised = k.raised;
    flag = k.flag;
    words_are = k.words_are;
    fits = each_push (Fits k.keeping k.raised k.flag) (set views id v) right
        (each_set (Fits k.keeping k.raised k.flag) views id v (λ j u _ e. k.fits j u e)
        (k.fits id v at))
        (fit (length (set views id v)));
    caused = λ one. cause_push (set views id v) right
        (cause_set views id v v at (λ is. is) (k.caused one));
  }

  pub watches : Marked words (set views id v ++ nobody ∷ [])
  watches = splits nobody (silent k.keeping k.raised k.flag)

  pub permits : Marked words (set views id v ++ permitted v ∷ [])
  permits = splits (permitted v)
      (λ seat. record {
        whole = λ q. off q;
        noted = none_noted k.raised;
        failed = λ h. absurd (none_failed h);
      })

  pub tells : Marked words (set views id v ++ watcher v.counts v.flags v.stops ∷ [])
  tells = let f = k.fits id v at in
      splits (watcher v.counts v.flags v.stops)
      (λ seat. record { whole = λ q. off q; noted = f.noted; failed = f.failed })

  -- a seat that has set the flag, or was told so, tells it
  pub warns : 1 ≤ v.stops → Marked words (set views id v ++ watcher [] [] 1 ∷ [])
  warns once = let f = k.fits id v at in
      splits (watcher [] [] 1)
      (λ seat. record {
        whole = λ q. off q;
        noted = none_noted k.raised;
        failed = λ _. f.failed (inr once);
      })

  pub reports : v ≡ keeper v.raised v.stops →
      Marked words (set views id v ++ watcher (top v.raised ∷ []) [] 0 ∷ [])
  reports is =
      let here = (k.fits id v at).whole (ap (λ (u : Tide). u.keeps) is) in
      splits (watcher (top v.raised ∷ []) [] 0)
      (λ seat. record {
        whole = λ q. off q;
        noted = All-push (HasCome k.raised) [] (top v.raised) (none_noted k.raised)
            (rw here.1 (top_come k.raised));
        failed = λ h. absurd (none_failed h);
      })

  -- another seat's view is taken in, and that seat, which may not set the flag, is spent
  takes : (w u : Tide) (other : ℕ) → Fits k.keeping k.raised k.flag id w →
      (IsCause v → IsCause w) → other ≢ id → u.sets ≡ false →
      get_elem? (set views id w) other ≡ some u →
      Marked words (set (set views id w) other nobody)
  takes w u other fit on apart none there = record {
    keeping = k.keeping;
    raised = k.raised;
    flag = k.flag;
    words_are = k.words_are;
    fits = each_set (Fits k.keeping k.raised k.flag) (set views id w) other nobody
        (λ j u _ e. each_set (Fits k.keeping k.raised k.flag) views id w (λ j u _ e. k.fits j u e)
        fit j u e)
        (silent k.keeping k.raised k.flag other);
    caused = λ one. cause_set (set views id w) other u nobody there (no_cause u none)
        (cause_set views id v w at on (k.caused one));
  }

  pub hears : v.sets ≡ false → (other : ℕ) (w : Tide) → w.sets ≡ false → other ≢ id →
      get_elem? (set views id
      (watcher (v.counts ++ w.counts) (v.flags ++ w.flags) (v.stops + w.stops))) other ≡ some w
      → Marked words (set (set views id
      (watcher (v.counts ++ w.counts) (v.flags ++ w.flags) (v.stops + w.stops))) other nobody)
  hears mine other w none apart there =
      let both = watcher (v.counts ++ w.counts) (v.flags ++ w.flags) (v.stops + w.stops) in
      let f = k.fits id v at in
      let g = k.fits other w (other_view views id other both w apart there) in
      takes both w other record {
        whole = λ q. off q;
        noted = All-append (HasCome k.raised) v.counts w.counts f.noted g.noted;
        failed = λ h. told f.failed g.failed h;
      } (no_cause v mine) apart none there
    where
      told : {X : Type 0} → (KnowsFailed v → X) → (KnowsFailed w → X) →
          HasFailed (v.flags ++ w.flags) ⊎ (1 ≤ v.stops + w.stops) → X
      told f g (inl h) = ⊎_elim (λ p. f (inl p)) (λ p. g (inl p))
          (Contains-append_cases v.flags w.flags true h)
      told f g (inr le) = some_set v.stops w.stops le (λ p. f (inr p)) (λ p. g (inr p))

  pub shows : v ≡ keeper v.raised v.stops → (other : ℕ) (w : Tide) → w.sets ≡ false →
      other ≢ id → get_elem? (set views id (shown v.raised w.counts v.stops)) other ≡ some w
      → Marked words (set (set views id (shown v.raised w.counts v.stops)) other nobody)
  shows is other w none apart there =
      let both = shown v.raised w.counts v.stops in
      let f = k.fits id v at in
      let g = k.fits other w (other_view views id other both w apart there) in
      takes both w other record {
        whole =
            λ q. f.whole (ap (λ (u : Tide). u.keeps) is);
        noted =
            g.noted;
        failed = failed_as v.stops (λ le. f.failed (inr le));
      } (λ cause. (refl, cause.1)) apart none there

  pub advances : (place moment : ℕ) → v ≡ keeper v.raised v.stops →
      Marked (slice_set words 0 (max (slice_index words 0) place))
      (set views id (keeper (raised_to place moment v.raised) v.stops))
  advances place moment is =
      let f = k.fits id v at in
      let here = f.whole (ap (λ (u : Tide). u.keeps) is) in
      let raised = raised_to place moment k.raised in
      record {
        keeping = k.keeping;
        raised = raised;
        flag = k.flag;
        words_are = ap (λ ws. slice_set ws 0 (max (slice_index ws 0) place)) k.words_are;
        fits = each_set (Fits k.keeping raised k.flag) views id
            (keeper (raised_to place moment v.raised) v.stops)
            (λ j u other e. let g = k.fits j u e in record {
              whole = λ h. absurd (other ((g.whole h).0 ∙ sym here.0));
              noted = noted_later u.counts k.raised place moment g.noted;
              failed = g.failed;
            })
            record {
              whole = λ h. (here.0, ap (raised_to place moment) here.1);
              noted = none_noted raised;
              failed = failed_as v.stops (λ le. f.failed (inr le));
            };
        caused = λ one. cause_set views id v (keeper (raised_to place moment v.raised) v.stops)
            at (λ cause. (refl, cause.1)) (k.caused one);
      }

  -- a seat that may set the flag sets it
  pub fails : v.sets ≡ true →
      Marked (slice_set words 1 1) (set views id (record v { stops = v.stops + 1 }))
  fails may =
      let f = k.fits id v at in
      let after : Tide = record v { stops = v.stops + 1 } in
      record {
        keeping = k.keeping;
        raised = k.raised;
        flag = 1;
        words_are = ap (λ ws. slice_set ws 1 1) k.words_are;
        fits = each_set (Fits k.keeping k.raised 1) views id after
            (λ j u _ e. let g = k.fits j u e in
            record { whole = g.whole; noted = g.noted; failed = λ h. refl })
            record { whole = f.whole; noted = f.noted; failed = λ h. refl };
        caused = λ _. cause_made views id v after at (may, omega arith);
      }

  -- the count that is found was brought there at this moment
  abbrev pub moment_found : ℕ
  moment_found = (top k.raised).moment

  pub loads : v.sets ≡ false → Marked (slice_set words 0 (slice_index words 0))
      (set views id
      (watcher (v.counts ++ record { count = slice_index words 0; moment = moment_found } ∷ [])
      v.flags v.stops))
      × AreReached v.counts (slice_index words 0)
  loads none =
      let f = k.fits id v at in
      let after = watcher (v.counts ++ record {
        count = slice_index words 0;
        moment = moment_found;
      } ∷ []) v.flags v.stops in (
        record {
          keeping = k.keeping;
          raised = k.raised;
          flag = k.flag;
          words_are = ap (λ ws. slice_set ws 0 (slice_index ws 0)) k.words_are;
          fits = each_set (Fits k.keeping k.raised k.flag) views id after
              (λ j u _ e. k.fits j u e)
              record {
                whole = λ h. off h;
                noted = All-push (HasCome k.raised) v.counts
                    (record { count = slice_index words 0; moment = moment_found }) f.noted
                    (rw count_found (top_come k.raised));
                failed = f.failed;
              };
          caused = λ one. cause_set views id v after at (no_cause v none) (k.caused one);
        },
        rw count_found (noted_reached v.counts k.raised f.noted),
      )

  pub loads_flag : v.sets ≡ false → Marked (slice_set words 1 (slice_index words 1))
      (set views id (watcher v.counts (v.flags ++ (slice_index words 1 == 1) ∷ []) v.stops))
      × (KnowsFailed v → (slice_index words 1 == 1) ≡ true)
  loads_flag none =
      let f = k.fits id v at in
      let found = flag_found in
      let is_set = slice_index words 1 == 1 in
      let after = watcher v.counts (v.flags ++ is_set ∷ []) v.stops in (
        record {
          keeping = k.keeping;
          raised = k.raised;
          flag = k.flag;
          words_are = ap (λ ws. slice_set ws 1 (slice_index ws 1)) k.words_are;
          fits = each_set (Fits k.keeping k.raised k.flag) views id after
              (λ j u _ e. k.fits j u e)
              record {
                whole = λ h. off h;
                noted = f.noted;
                failed = λ h. ⊎_elim
                    (λ (p : HasFailed (v.flags ++ is_set ∷ [])). ⊎_elim (λ q. f.failed (inl q))
                    (λ (e : is_set ≡ true). let one : slice_index words 1 ≡ 1 =
                    grind (arith, nat_tests, e) in sym found ∙ one)
                    (Contains-push_cases v.flags is_set true p))
                    (λ (le : 1 ≤ v.stops). f.failed (inr le)) h;
              };
          caused = λ one. cause_set views id v after at (no_cause v none) (k.caused one);
        },
        λ h. let one = f.failed h in grind (arith, nat_tests, found, one),
      )

  pub compares : v ≡ shown v.raised v.counts v.stops →
      Marked (slice_set words 0 (slice_index words 0)) (set views id (keeper v.raised v.stops)) ×
      AreNoted v.counts v.raised
  compares is =
      let f = k.fits id v at in
      let here = f.whole (ap (λ (u : Tide). u.keeps) is) in (
        record {
          keeping = k.keeping;
          raised = k.raised;
          flag = k.flag;
          words_are = ap (λ ws. slice_set ws 0 (slice_index ws 0)) k.words_are;
          fits = each_set (Fits k.keeping k.raised k.flag) views id (keeper v.raised v.stops)
              (λ j u _ e. k.fits j u e)
              record {
                whole = λ h. here;
                noted = none_noted k.raised;
                failed = failed_as v.stops (λ le. f.failed (inr le));
              };
          caused = λ one. cause_set views id v (keeper v.raised v.stops) at
              (λ cause. (refl, cause.1)) (k.caused one);
        },
        rw here.1 f.noted,
      )
