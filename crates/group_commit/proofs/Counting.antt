-- As many parties as numbers: all numbers are theirs.
use Rattle.std.proofs.Common.{◌≡◌, ◌⊎◌, ℕ, zero, suc, ◌+◌, ◌<◌, cond, eqb, eq-eqb, ne_eqb}
use Rattle.std.proofs.Common.{List, [], ◌∷◌, length, Bool, true, false, true≢false, refl, sym, ap}
use Rattle.std.proofs.Common.{◌∙◌, subst, ⊎_elim, inl, inr, arith}
use Rattle.std.specs.Prelude.{Contains, slice_index_or}
use Rattle.std.specs.List.{IsDistinct, AllByRecursion}
use Rattle.std.proofs.lemmas.Bool.{eqb-true}
use Rattle.std.proofs.lemmas.Bool.Decides.{eqb_tells}
use Rattle.std.proofs.lemmas.List.Elements.{All-from_recursion, All-contains}
use Rattle.std.proofs.lemmas.Map.Steps.{length-le_from_distinct_below}
use Rattle.std.proofs.lemmas.Map.Views.{Contains-from_any}
use Rattle.txn.specs.declared.actions.BookStep.{BookStep}
use Rattle.group_commit.specs.declared.view.Party.{Party}
use Rattle.group_commit.specs.Lines.{is_client, concerns, steps_of, numbers_of, AreDifferent, AreOf}
use Rattle.group_commit.specs.Parties.{Among, Has, Distinct}
use Rattle.group_commit.specs.Histories.{number_of, IsNumber}

-- ---- no two numbers are the same
has_at : (ps : List Party) (i d : ℕ) → i < length (numbers_of ps) →
    Has number_of (slice_index_or (numbers_of ps) i d) ps
has_at [] i d lt = absurd (omega arith)
has_at (p ∷ ps) zero d lt = inl refl
has_at (p ∷ ps) (suc i) d lt = inr (has_at ps i d (omega arith))

pub different : (ps : List Party) → Distinct number_of ps → AreDifferent (numbers_of ps)
different [] apart i j d before within = absurd (omega arith)
different (p ∷ ps) apart zero zero d before within = absurd (omega arith)
different (p ∷ ps) apart (suc i) zero d before within = absurd (omega arith)
different (p ∷ ps) apart zero (suc j) d before within = λ same. apart.0
    (subst (λ n. Has number_of n ps) (sym same) (has_at ps j d (omega arith)))
different (p ∷ ps) apart (suc i) (suc j) d before within =
    different ps apart.1 i j d (omega arith) (omega arith)

-- ---- all numbers are there
decide_has : (n : ℕ) (ps : List Party) → Has number_of n ps ⊎ (Has number_of n ps → ⊥)
decide_has n [] = inr (λ h. h)
decide_has n (p ∷ ps) = ⊎_elim (λ t. inl (inl t.1))
    (λ f. ⊎_elim (λ h. inl (inr h)) (λ none. inr (λ h. ⊎_elim f.1 none h)) (decide_has n ps))
    (eqb_tells p.number n)

contained : (n : ℕ) (ps : List Party) → Has number_of n ps → Contains (numbers_of ps) n
contained n [] h = absurd h
contained n (p ∷ ps) h = ⊎_elim (λ e. (0, omega arith, e))
    (λ t. let r = contained n ps t in (suc r.0, omega (arith, r.1), r.2)) h

none_same : (n : ℕ) (ps : List Party) → (Has number_of n ps → ⊥) →
    AllByRecursion (λ y. eqb n y ≡ false) (numbers_of ps)
none_same n [] none = tt
none_same n (p ∷ ps) none =
    (ne_eqb n p.number (λ e. none (inl (sym e))), none_same n ps (λ h. none (inr h)))

distinct : (ps : List Party) → Distinct number_of ps → IsDistinct eqb (numbers_of ps)
unfolding IsDistinct
distinct [] apart = tt
distinct (p ∷ ps) apart = (none_same p.number ps apart.0, distinct ps apart.1)

with_two : (n : ℕ) (ns : List ℕ) → 0 < n → AllByRecursion (λ y. eqb 0 y ≡ false) ns →
    AllByRecursion (λ y. eqb n y ≡ false) ns → IsDistinct eqb ns → IsDistinct eqb (0 ∷ n ∷ ns)
unfolding IsDistinct
with_two n ns above zeros news apart = ((ne_eqb 0 n (λ e. omega arith), zeros), (news, apart))

module _ (made : ℕ) where
  no_zero : (ps : List Party) → ((p : Party) → Among p ps → IsNumber made p.number) →
      Has number_of 0 ps → ⊥
  no_zero [] numbered h = h
  no_zero (p ∷ ps) numbered h = ⊎_elim
      (λ (e : p.number ≡ 0). let above = (numbered p (inl refl)).0 in omega arith)
      (λ t. no_zero ps (λ q i. numbered q (inr i)) t) h

  all_below : (ps : List Party) → ((p : Party) → Among p ps → IsNumber made p.number) →
      AllByRecursion (λ y. y < made + 1) (numbers_of ps)
  all_below [] numbered = tt
  all_below (p ∷ ps) numbered = (
    let le = (numbered p (inl refl)).1 in omega arith,
    all_below ps (λ q i. numbered q (inr i)),
  )

  length_numbers : (ps : List Party) → length (numbers_of ps) ≡ length ps
  length_numbers [] = refl
  length_numbers (p ∷ ps) = ap suc (length_numbers ps)

  -- where there are as many parties as numbers, each number is one of theirs
  all_there : (ps : List Party) → Distinct number_of ps →
      ((p : Party) → Among p ps → IsNumber made p.number) → length ps ≡ made → (n : ℕ) →
      IsNumber made n → (Has number_of n ps → ⊥) → ⊥
  all_there ps apart numbered whole n is none =
      let ns = 0 ∷ n ∷ numbers_of ps in
      let below : AllByRecursion (λ y. y < made + 1) ns =
      (omega arith, ((let le = is.1 in omega arith), all_below ps numbered)) in
      let few = length-le_from_distinct_below ns (made + 1)
      (with_two n (numbers_of ps) is.0 (none_same 0 ps (no_zero ps numbered)) (none_same n ps none)
      (distinct ps apart))
      (λ q h. All-contains (λ y. y < made + 1) ns q
      (All-from_recursion (λ y. y < made + 1) ns below)
      (Contains-from_any (λ x y e. eqb-true x y e) q ns h)) in
      omega (arith, few, length_numbers ps, whole)

-- a list of steps of nobody has no step of the party
has_none : (n : ℕ) (x : BookStep) (steps : List BookStep) (i : ℕ) → i < length steps →
    slice_index_or steps i x ≡ x → concerns n x ≡ true → steps_of n steps ≡ [] → ⊥
has_none n x [] i lt at its none = omega arith
has_none n x (s ∷ ss) zero lt at its none =
    let same : concerns n s ≡ true = ap (concerns n) at ∙ its in
    let Q : Bool → Type 0 = λ c. c ≡ true → cond c (s ∷ steps_of n ss) (steps_of n ss) ≡ [] → ⊥ in
    let by : (c : Bool) → Q c = λ c. elim c as Q
    [ true ↦ (λ yes e. absurd (cc e)) | false ↦ (λ e other. absurd (true≢false (sym e))) ] in
    by (concerns n s) same none
has_none n x (s ∷ ss) (suc i) lt at its none =
    let Q : Bool → Type 0 = λ c. cond c (s ∷ steps_of n ss) (steps_of n ss) ≡ [] →
    steps_of n ss ≡ [] in
    let by : (c : Bool) → Q c = λ c. elim c as Q
    [ true ↦ (λ e. absurd (cc e)) | false ↦ (λ e. e) ] in
    has_none n x ss i (omega arith) at its (by (concerns n s) none)

pub only_these : (made : ℕ) (log : List BookStep) (ps : List Party) → Distinct number_of ps →
    ((p : Party) → Among p ps → IsNumber made p.number) →
    ((n : ℕ) → (IsNumber made n → ⊥) → steps_of n log ≡ []) → length ps ≡ made →
    AreOf (numbers_of ps) log
only_these made log ps apart numbered fresh whole x there n is =
    let its : concerns n x ≡ true = ap (is_client n) is ∙ eq-eqb n n refl in
    ⊎_elim (λ h. contained n ps h)
    (λ none. absurd (has_none n x log there.0 there.1 there.2 its
    (fresh n (λ i. all_there made ps apart numbered whole n i none))))
    (decide_has n ps)
