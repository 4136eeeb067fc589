-- The numbers that an image says were live are read.
use Rattle.std.proofs.Common.{◌≡◌, ℕ, ◌+◌, ◌<◌, ◌≤◌, ◌⊎◌, inl, inr, ⊎_elim, Bool, true, false}
use Rattle.std.proofs.Common.{Option, Some, None, is_some, List, [], ◌∷◌, length, map, refl, sym}
use Rattle.std.proofs.Common.{◌∙◌, ap, subst, arith}
use Rattle.std.specs.Prelude.{◌↔◌, Contains, max}
use Rattle.std.specs.List.{AllByRecursion}
use Rattle.std.specs.FinMap as maps
use Rattle.std.specs.Ordering.{nat_cmp}
use Rattle.std.specs.Cmp.{nat_cmp_total}
use Rattle.std.proofs.lemmas.Bool.{cases_eq}
use Rattle.std.proofs.lemmas.List.Elements.{Contains-push, Contains-push_cases}
use Rattle.std.proofs.lemmas.List.Elements.{Contains-append_left, Contains-append_right}
use Rattle.std.proofs.lemmas.List.Elements.{Contains-append_cases}
use Rattle.calls.proofs.Points.{get_insert, get_insert_other}
use Rattle.calls.specs.Transactions.{Leads}
use Rattle.undo_log.specs.Logs.{Statuses, Lives, Falls}
use Rattle.records.specs.declared.record.Record.{Record}
use Rattle.records.specs.Records.{IsNumber}
use Rattle.records.specs.Images.{Rise}
use Rattle.steps.proofs.LiveNumbers.{lives_more, lives_fewer}
use Rattle.steps.proofs.Sizes.{len_begun, len_left}
use Rattle.replay.specs.Steps.{State}
use Rattle.replay.specs.Reading.{Named, Progress, InCollections, InNumbers, Closes, Reads}
use Rattle.replay.specs.Reading.{ReadsLive}
use Rattle.replay.proofs.ReadLemmas.{IsBehind}

-- ---- so many are live

none_holds : (n : ℕ) → Contains [] n → ⊥
none_holds n h = let below = h.1 in absurd (omega arith)

first_holds : (k n : ℕ) (ns : List ℕ) → Contains (k ∷ ns) n ↔ ((k ≡ n) ⊎ Contains ns n)
first_holds k n ns = (
  λ h. ⊎_elim
      (λ (one : Contains (k ∷ []) n). inl
      (⊎_elim (λ none. let below = none.1 in absurd (omega arith)) (λ same. same)
      (Contains-push_cases [] k n one)))
      (λ (more : Contains ns n). inr more)
      (Contains-append_cases (k ∷ []) ns n h),
  λ h. ⊎_elim
      (λ (same : k ≡ n). subst (Contains (k ∷ ns)) same
      (Contains-append_left (k ∷ []) ns k (Contains-push [] k)))
      (λ (more : Contains ns n). Contains-append_right (k ∷ []) ns n more)
      h,
)

-- What holds of each that is contained holds of all.
each_held : (P : ℕ → Type 0) (ns : List ℕ) → AllByRecursion P ns → (n : ℕ) → Contains ns n → P n
each_held P [] all n h = absurd (none_holds n h)
each_held P (k ∷ ns) all n h = ⊎_elim (λ (same : k ≡ n). subst P same all.0)
    (λ (more : Contains ns n). each_held P ns all.1 n more) ((first_holds k n ns).0 h)

pub all_held : (P : ℕ → Type 0) (ns : List ℕ) → ((n : ℕ) → Contains ns n → P n) →
    AllByRecursion P ns
all_held P [] held = tt
all_held P (k ∷ ns) held = (
  held k ((first_holds k k ns).1 (inl refl)),
  all_held P ns (λ n h. held n ((first_holds k n ns).1 (inr h))),
)

none_of : (o : Option Bool) → (is_some o ≡ true → ⊥) → o ≡ None
none_of None none = refl
none_of (Some b) none = absurd (none refl)

nobody_lives : (live : Statuses) → ((n : ℕ) → Lives live n → ⊥) → maps.len live ≡ 0
nobody_lives live none =
    ap maps.len (maps.same_map nat_cmp_total maps.nat_cmp-IsAntisymmetric live maps.empty
    (λ n. none_of (maps.get live n) (none n) ∙ sym (maps.get-empty nat_cmp n))) ∙
    maps.len-empty nat_cmp Bool

-- Rising numbers that are those live are as many.
pub as_many : (ns : List ℕ) (live : Statuses) → Rise ns → ((n : ℕ) → Contains ns n ↔ Lives live n) →
    length ns ≡ maps.len live
as_many [] live rise are = sym (nobody_lives live (λ n lives. none_holds n ((are n).1 lives)))
as_many (k ∷ ns) live rise are =
    let fewer = len_left live k ((are k).0 ((first_holds k k ns).1 (inl refl))) in
    let rest = as_many ns (maps.remove live k) rise.1 (λ n. (
      λ h. let below = each_held (λ m. k < m) ns rise.0 n h in
          (lives_fewer live k n).0 (
            (are n).0 ((first_holds k n ns).1 (inr h)),
            λ same. absurd (omega (arith, below, same)),
          ),
      λ lives.
          let was = (lives_fewer live k n).1 lives in
          ⊎_elim (λ (same : k ≡ n). absurd (was.1 (sym same))) (λ (more : Contains ns n). more)
          ((first_holds k n ns).0 ((are n).1 was.0)),
    )) in
    omega (arith, fewer, rest)

-- ---- live numbers

-- These numbers are live too.
abbrev pub stood : Statuses → List ℕ → Statuses
stood live [] = live
stood live (n ∷ ns) = stood (maps.insert live n false) ns

pub stood_lives : (ns : List ℕ) (live : Statuses) (m : ℕ) →
    Lives (stood live ns) m ↔ (Lives live m ⊎ Contains ns m)
stood_lives [] live m = (
  λ h. inl h,
  λ h. ⊎_elim (λ (lives : Lives live m). lives)
      (λ (none : Contains [] m). absurd (none_holds m none)) h,
)
stood_lives (n ∷ ns) live m =
    let rest = stood_lives ns (maps.insert live n false) m in
    let one = lives_more live n false m in (
      λ h. ⊎_elim
          (λ (lives : Lives (maps.insert live n false) m). ⊎_elim
          (λ (same : n ≡ m). inr ((first_holds n m ns).1 (inl same)))
          (λ (old : Lives live m). inl old) (one.1 lives))
          (λ (more : Contains ns m). inr ((first_holds n m ns).1 (inr more)))
          (rest.0 h),
      λ h. rest.1 (⊎_elim
          (λ (old : Lives live m). inl (one.0 (inr old)))
          (λ (held : Contains (n ∷ ns) m). ⊎_elim (λ (same : n ≡ m). inl (one.0 (inl same)))
          (λ (more : Contains ns m). inr more) ((first_holds n m ns).0 held))
          h),
    )

not_both : Some false ≡ Some true → ⊥
not_both e = cc

-- None of them is falling.
pub stood_falls : (ns : List ℕ) (live : Statuses) → ((m : ℕ) → Falls live m → ⊥) → (m : ℕ) →
    Falls (stood live ns) m → ⊥
stood_falls [] live none m falls = none m falls
stood_falls (n ∷ ns) live none m falls =
    stood_falls ns (maps.insert live n false) (λ k h. ⊎_elim
    (λ (same : k ≡ n). not_both (sym (get_insert live n false k same) ∙ h))
    (λ (other : k ≡ n → ⊥). none k (sym (get_insert_other live n false k other) ∙ h))
    (cases_eq k n)) m falls

-- The numbers are above all that are live.
abbrev pub AreAbove : Statuses → List ℕ → Type 0
AreAbove live ns = AllByRecursion (λ n. (m : ℕ) → Lives live m → m < n) ns

still_above : (live : Statuses) (n : ℕ) (ns : List ℕ) → AllByRecursion (λ m. n < m) ns →
    AreAbove live ns → AreAbove (maps.insert live n false) ns
still_above live n [] more above = tt
still_above live n (k ∷ ns) more above = (
  λ m lives. ⊎_elim (λ (same : n ≡ m). subst (λ v. v < k) same more.0)
      (λ (old : Lives live m). above.0 m old) ((lives_more live n false m).1 lives),
  still_above live n ns more.1 above.1,
)

pub fresh_above : (live : Statuses) (n : ℕ) → ((m : ℕ) → Lives live m → m < n) → Lives live n → ⊥
fresh_above live n above lives = let below = above n lives in absurd (omega arith)

pub stood_len : (ns : List ℕ) (live : Statuses) → Rise ns → AreAbove live ns →
    maps.len (stood live ns) ≡ maps.len live + length ns
stood_len [] live rise above = omega arith
stood_len (n ∷ ns) live rise above =
    let one = len_begun live n (fresh_above live n above.0) in
    let rest = stood_len ns (maps.insert live n false) rise.1
    (still_above live n ns rise.0 above.1) in
    omega (arith, one, rest)

-- ---- their records

-- What may come once all collections are told leads on from there.
abbrev pub StandsAt : (next : ℕ) → State → Progress → Type 0
StandsAt next s p = (r : Record) (q : Progress) → IsBehind r → ReadsLive next s r q → Reads p r q

pub collections_stand : (next : ℕ) (s t : State) (last : Option Named) → Closes s last t →
    StandsAt next t (InCollections next s last)
collections_stand next s t last closes (Record.Name kind name) q behind live = absurd behind
collections_stand next s t last closes (Record.Item i) q behind live = absurd behind
collections_stand next s t last closes r q behind live = (t, closes, live)

max_same : (next n : ℕ) → n < next → max next (n + 1) ≡ next
max_same next n below = omega arith

-- Records lead from there to where the state is this.
pub record IsStanding (next : ℕ) (rs : List Record) (p : Progress) (goal : State) : Type 0 where
  pub there : Progress
  pub leads : Leads Reads rs p there
  pub stands : StandsAt next goal there

pub numbers_read : (ns : List ℕ) (next : ℕ) (s : State) (p : Progress) → StandsAt next s p →
    Rise ns → AllByRecursion IsNumber ns → AllByRecursion (λ n. n < next) ns → AreAbove s.live ns →
    maps.len s.live + length ns ≤ 64 →
    IsStanding next (map Record.Begin ns) p (record s { live = stood s.live ns })
numbers_read [] next s p stands rise numbers below above few =
    record { there = p; leads = refl; stands = stands }
numbers_read (n ∷ ns) next s p stands rise numbers below above few =
    let t : State = record s { live = maps.insert s.live n false } in
    let one = len_begun s.live n (fresh_above s.live n above.0) in
    let few_now : maps.len s.live < 64 = omega (arith, few) in
    let rest = numbers_read ns next t (InNumbers next t) (λ r q behind live. live) rise.1 numbers.1
    below.1 (still_above s.live n ns rise.0 above.1) (omega (arith, few, one)) in
    record {
      there = rest.there;
      leads = (
        InNumbers next t,
        stands (Record.Begin n) (InNumbers next t) tt (
          t,
          record { number = numbers.0; above = above.0; few = few_now; is = refl },
          ap (λ k. InNumbers k t) (sym (max_same next n below.0)),
        ),
        rest.leads,
      );
      stands = rest.stands;
    }
