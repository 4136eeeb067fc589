-- How many are live, and how many entries a number has, after each step.
use Rattle.std.proofs.Common.{◌≡◌, ℕ, ◌+◌, ◌-◌, ◌<◌, ◌≤◌, ◌==◌, Bool, true, false, cond, ⊎_elim}
use Rattle.std.proofs.Common.{List, [], ◌∷◌, ◌++◌, length, refl, sym, ◌∙◌, ap, subst, arith}
use Rattle.std.specs.FinMap as maps
use Rattle.std.specs.Cmp.{nat_cmp_total}
use Rattle.std.proofs.lemmas.Bool.{cases_eq, eq-eqb}
use Rattle.std.proofs.lemmas.List.{length-map}
use Rattle.std.proofs.lemmas.List.Elements.{filter-append}
use Rattle.calls.specs.Transactions.{Entry, own, others}
use Rattle.undo_log.specs.Logs.{Statuses, Lives, fallen}
use Rattle.boosted.specs.Runs as runs
use Rattle.steps.proofs.Theory.Lists.{not_same, own_others_same, own_others_other}
use Rattle.steps.proofs.Counting.{number}
use Rattle.steps.proofs.LiveNumbers.{nobody, fallen_is}

not_lives : (b : Bool) → (b ≡ true → ⊥) → b ≡ false
not_lives true no_more = absurd (no_more refl)
not_lives false no_more = refl

module _ (live : Statuses) (n : ℕ) where
  pub len_begun : (Lives live n → ⊥) → maps.len (maps.insert live n false) ≡ maps.len live + 1
  len_begun fresh = maps.len-insert nat_cmp_total live n false ∙
      ap (λ b. cond b (maps.len live) (maps.len live + 1))
      (not_lives (maps.contains_key live n) fresh)

  pub len_fallen : Lives live n → maps.len (fallen live n) ≡ maps.len live
  len_fallen lives = ap maps.len (fallen_is live n lives) ∙
      maps.len-insert nat_cmp_total live n true ∙
      ap (λ b. cond b (maps.len live) (maps.len live + 1)) lives

  some_live : Lives live n → maps.len live ≡ 0 → ⊥
  some_live lives none = nobody n (subst (λ m. Lives m n) (maps.empty_of_len live none) lives)

  pub len_left : Lives live n → maps.len (maps.remove live n) + 1 ≡ maps.len live
  len_left lives =
      let fewer : maps.len (maps.remove live n) ≡ maps.len live - 1 =
      maps.len-remove nat_cmp_total live n ∙
      ap (λ b. cond b (maps.len live - 1) (maps.len live)) lives in
      ⊎_elim (λ (none : maps.len live ≡ 0). absurd (some_live lives none))
      (λ (some : maps.len live ≡ 0 → ⊥). omega arith) (cases_eq (maps.len live) 0)

-- the entries of one number
own_length : (n : ℕ) (es : List (ℕ × Entry)) → length (own n es) ≡ length (runs.own number n es)
own_length n es = length-map (runs.own number n es) (λ e. e.1)

pub append_length : {X : Type 0} (xs ys : List X) → length (xs ++ ys) ≡ length xs + length ys
append_length [] ys = omega arith
append_length (x ∷ xs) ys = let more = append_length xs ys in omega arith

pub own_of_others : (n k : ℕ) (es : List (ℕ × Entry)) →
    length (own k (others n es)) ≤ length (own k es)
own_of_others n k es =
    let left = own_length k (others n es) in
    let all = own_length k es in
    ⊎_elim
    (λ (same : k ≡ n).
    let none : length (runs.own number k (others n es)) ≡ 0 =
    subst (λ j. length (runs.own number j (others n es)) ≡ 0) (sym same)
    (ap length (own_others_same number n es)) in
    omega arith)
    (λ (other : k ≡ n → ⊥). let still = ap length (own_others_other number n k es other) in
    omega arith)
    (cases_eq k n)

pub own_pushed : (n k : ℕ) (e : Entry) (es : List (ℕ × Entry)) → length (own n es) < 1024 →
    length (own k es) ≤ 1024 → length (own k (es ++ (n, e) ∷ [])) ≤ 1024
own_pushed n k e es room few =
    let all = own_length k (es ++ (n, e) ∷ []) in
    let before = own_length k es in
    let parts = ap length (filter-append (λ f. f.0 == k) es ((n, e) ∷ [])) ∙
    append_length (runs.own number k es) (runs.own number k ((n, e) ∷ [])) in
    ⊎_elim
    (λ (same : n ≡ k).
    let one : length (runs.own number k ((n, e) ∷ [])) ≡ 1 =
    ap (λ b. length {A = ℕ × Entry} (cond b ((n, e) ∷ []) [])) (eq-eqb n k same) in
    let mine : length (own k es) < 1024 = subst (λ j. length (own j es) < 1024) same room in
    omega arith)
    (λ (other : n ≡ k → ⊥).
    let none : length (runs.own number k ((n, e) ∷ [])) ≡ 0 =
    ap (λ b. length {A = ℕ × Entry} (cond b ((n, e) ∷ []) [])) (not_same n k other) in
    omega arith)
    (cases_eq n k)

module _ (k : ℕ) where
  own_parts : (before : List (ℕ × Entry)) (x : ℕ × Entry) (after : List (ℕ × Entry)) →
      length (own k (before ++ after)) ≤ length (own k (before ++ x ∷ after))
  own_parts before x after =
      let less = own_length k (before ++ after) in
      let all = own_length k (before ++ x ∷ after) in
      let less_parts = ap length (filter-append (λ f. f.0 == k) before after) ∙
      append_length (runs.own number k before) (runs.own number k after) in
      let all_parts = ap length (filter-append (λ f. f.0 == k) before (x ∷ after)) ∙
      append_length (runs.own number k before) (runs.own number k (x ∷ after)) in
      let more = one_more_or_none (x.0 == k) x (runs.own number k after) in
      omega arith
    where
      one_more_or_none : (b : Bool) (x : ℕ × Entry) (us : List (ℕ × Entry)) →
          length us ≤ length (cond b (x ∷ us) us)
      one_more_or_none true x us = omega arith
      one_more_or_none false x us = omega arith

-- an entry is taken out
pub own_of_rest : (k : ℕ) (es before : List (ℕ × Entry)) (x : ℕ × Entry)
    (after rest : List (ℕ × Entry)) → es ≡ before ++ x ∷ after → rest ≡ before ++ after →
    length (own k rest) ≤ length (own k es)
own_of_rest k es before x after rest is rest_is =
    subst (λ l. length (own k l) ≤ length (own k es)) (sym rest_is)
    (subst (λ l. length (own k (before ++ after)) ≤ length (own k l)) (sym is)
    (own_parts k before x after))

pub rest_length : (es before : List (ℕ × Entry)) (x : ℕ × Entry) (after rest : List (ℕ × Entry)) →
    es ≡ before ++ x ∷ after → rest ≡ before ++ after → length es ≡ length rest + 1
rest_length es before x after rest is rest_is =
    let all = ap length is ∙ append_length before (x ∷ after) in
    let less = ap length rest_is ∙ append_length before after in
    omega arith

pub pushed_length : {X : Type 0} (xs : List X) (x : X) → length (xs ++ x ∷ []) ≡ length xs + 1
pushed_length xs x = append_length xs (x ∷ [])
