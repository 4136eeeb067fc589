-- Which clients have lines, one number after another.
use Rattle.std.proofs.Common.{◌≡◌, ◌↔◌, ◌⊎◌, inl, inr, ℕ, ◌+◌, ◌<◌, ◌≤◌, List, [], ◌∷◌, ◌++◌, length}
use Rattle.std.proofs.Common.{Any, Contains, slice_index, sym, subst, arith, ⊎_elim}
use Rattle.std.proofs.lemmas.Bool.{cases_lt}
use Rattle.std.proofs.lemmas.Grind.{get_or_default_zero}
use Rattle.std.proofs.lemmas.List.{get_or_append_left, length-append}
use Rattle.std.proofs.lemmas.List.Elements.{Contains-push, Contains-push_cases, Contains-append_left}
use Rattle.std.proofs.Math.Seq.{get_or-append_seam}
use Rattle.std.specs.List.Sorted.{IsStrictlyIncreasing}
use Rattle.script.specs.declared.line.Line.{Line}
use Rattle.boost_main.specs.Serving.{HaveLines, IsOfClient}

-- the clients that have lines, rising, of those whose numbers are below n
pub record HaveLinesBelow (n : ℕ) (clients : List ℕ) (lines : List Line) : Type 0 where
  pub rises : IsStrictlyIncreasing clients
  pub each : (k : ℕ) → Contains clients k ↔ ((1 ≤ k) × (k < n) × Any (IsOfClient k) lines)

-- a number more, above those before
rises_by : (xs : List ℕ) (n k : ℕ) → IsStrictlyIncreasing xs →
    ((x : ℕ) → Contains xs x → x < n) → k + 1 < length (xs ++ n ∷ []) →
    (k + 1 < length xs) ⊎ (length xs ≤ k + 1) →
    slice_index (xs ++ n ∷ []) k < slice_index (xs ++ n ∷ []) (k + 1)
rises_by xs n k rises below within (inl front) =
    let before : k < length xs = omega arith in
    rw (get_or_append_left xs (n ∷ []) 0 k before, get_or_append_left xs (n ∷ []) 0 (k + 1) front)
    (rises k front)
rises_by xs n k rises below within (inr end) =
    let long = length-append xs (n ∷ []) in
    let is : k + 1 ≡ length xs = omega arith in
    let before : k < length xs = omega arith in
    rw (get_or_append_left xs (n ∷ []) 0 k before, is, get_or-append_seam xs n [] 0)
    (below (slice_index xs k) (k, before, get_or_default_zero xs k (slice_index xs k) before))

pub none_yet : (lines : List Line) → HaveLinesBelow 1 [] lines
none_yet lines = record {
  rises = λ k within. absurd (omega arith);
  each = λ k. (
    λ has.
        let within = has.1 in
        absurd (omega arith),
    λ is.
        let from = is.0 in
        let below = is.1 in
        absurd (omega arith),
  );
}

module _ (n : ℕ) (clients : List ℕ) (lines : List Line)
    (before : HaveLinesBelow n clients lines) where
  -- who had lines below n has them below n + 1
  stays : (k : ℕ) → Contains clients k → (1 ≤ k) × (k < n + 1) × Any (IsOfClient k) lines
  stays k there =
      let is = (before.each k).0 there in
      let below = is.1 in
      (is.0, omega arith, is.2)

  -- who has lines below n + 1 had them below n, or is n
  was : (k : ℕ) → 1 ≤ k → k < n + 1 → Any (IsOfClient k) lines → Contains clients k ⊎ (n ≡ k)
  was k from within has = ⊎_elim
      (λ below. inl ((before.each k).1 (from, below, has)))
      (λ above. inr (omega arith))
      (cases_lt k n)

  pub one_more : 1 ≤ n → Any (IsOfClient n) lines →
      HaveLinesBelow (n + 1) (clients ++ n ∷ []) lines
  one_more first has = record {
    rises = λ k within. rises_by clients n k before.rises
        (λ x there. ((before.each x).0 there).1) within (cases_lt (k + 1) (length clients));
    each = λ k. (
      λ there. ⊎_elim (stays k)
          (λ is. subst (λ m. (1 ≤ m) × (m < n + 1) × Any (IsOfClient m) lines) is
          (first, omega arith, has))
          (Contains-push_cases clients n k there),
      λ is. ⊎_elim (Contains-append_left clients (n ∷ []) k)
          (λ same. subst (Contains (clients ++ n ∷ [])) same (Contains-push clients n))
          (was k is.0 is.1 is.2),
    );
  }

  pub no_more : (Any (IsOfClient n) lines → ⊥) → HaveLinesBelow (n + 1) clients lines
  no_more none = record {
    rises = before.rises;
    each = λ k. (
      stays k,
      λ is. ⊎_elim (λ there. there)
          (λ same. absurd (none (subst (λ m. Any (IsOfClient m) lines) (sym same) is.2)))
          (was k is.0 is.1 is.2),
    );
  }

pub all_told : (clients : List ℕ) (lines : List Line) → HaveLinesBelow 65 clients lines →
    HaveLines clients lines
all_told clients lines before = record {
  rises = before.rises;
  each = λ k. (
    λ there.
        let is = (before.each k).0 there in
        let below = is.1 in
        (record { first = is.0; last = omega arith }, is.2),
    λ is.
        let last = is.0.last in
        (before.each k).1 (is.0.first, omega arith, is.1),
  );
}
