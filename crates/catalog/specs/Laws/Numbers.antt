-- Which of the four a number is for, and what a change of one of them does.
use Rattle.std.proofs.Common.{◌≡◌, ℕ, zero, suc, ◌+◌, ◌*◌, ◌%◌, ◌/◌, ◌<◌, refl, sym, ap, ◌∙◌, arith}
use Rattle.catalog.specs.declared.four.Four.{Four}
use Rattle.catalog.specs.Fours.{Which, First, Second, Third, Fourth, rank, which_of, quarter, pick}
use Rattle.catalog.specs.Fours.{put}

-- the next one, with the quotient of the next number
abbrev pub next : Which → Which
next First = Second
next Second = Third
next Third = Fourth
next Fourth = First

abbrev pub carry : Which → ℕ → ℕ
carry First q = q
carry Second q = q
carry Third q = q
carry Fourth q = suc q

pub which_next : (n : ℕ) → which_of (suc n) ≡ next (which_of n)
which_next zero = refl
which_next (suc zero) = refl
which_next (suc (suc zero)) = refl
which_next (suc (suc (suc zero))) = refl
which_next (suc (suc (suc (suc n)))) = which_next n

pub quarter_next : (n : ℕ) → quarter (suc n) ≡ carry (which_of n) (quarter n)
quarter_next zero = refl
quarter_next (suc zero) = refl
quarter_next (suc (suc zero)) = refl
quarter_next (suc (suc (suc zero))) = refl
quarter_next (suc (suc (suc (suc n)))) = ap suc (quarter_next n) ∙ carried (which_of n) (quarter n)
  where
    carried : (w : Which) (q : ℕ) → suc (carry w q) ≡ carry w (suc q)
    carried First q = refl
    carried Second q = refl
    carried Third q = refl
    carried Fourth q = refl

-- A number is told by both.
made_of : (n : ℕ) → quarter n * 4 + rank (which_of n) ≡ n
made_of zero = refl
made_of (suc zero) = refl
made_of (suc (suc zero)) = refl
made_of (suc (suc (suc zero))) = refl
made_of (suc (suc (suc (suc n)))) =
    let rest : quarter n * 4 + rank (which_of n) ≡ n = made_of n in omega arith

pub same_number : (i j : ℕ) → which_of i ≡ which_of j → quarter i ≡ quarter j → i ≡ j
same_number i j w q =
    sym (made_of i) ∙ ap (λ k. k * 4 + rank (which_of i)) q ∙
    ap (λ v. quarter j * 4 + rank v) w ∙ made_of j

rank_low : (w : Which) → rank w < 4
rank_low First = omega arith
rank_low Second = omega arith
rank_low Third = omega arith
rank_low Fourth = omega arith

pub remainder_is : (n : ℕ) → n % 4 ≡ rank (which_of n)
remainder_is n = omega (arith, made_of n, rank_low (which_of n))

pub quotient_is : (n : ℕ) → n / 4 ≡ quarter n
quotient_is n = omega (arith, made_of n, rank_low (which_of n))

rank_back : (w : Which) → which_of (rank w) ≡ w
rank_back First = refl
rank_back Second = refl
rank_back Third = refl
rank_back Fourth = refl

-- The number is for the one whose place it leaves.
pub which_is : (n k : ℕ) → n % 4 ≡ k → which_of n ≡ which_of k
which_is n k is = sym (rank_back (which_of n)) ∙ ap which_of (sym (remainder_is n) ∙ is)

pub which_last : (n : ℕ) → (n % 4 ≡ 0 → ⊥) → (n % 4 ≡ 1 → ⊥) → (n % 4 ≡ 2 → ⊥) → which_of n ≡ Fourth
which_last n a b c =
    let last : n % 4 ≡ 3 = omega (arith, a, b, c, remainder_is n, rank_low (which_of n)) in
    which_is n 3 last

pub remainder_of : (n k : ℕ) → k < 4 → which_of n ≡ which_of k → n % 4 ≡ k
remainder_of n k low is =
    let there : k % 4 ≡ k = omega (arith, low) in
    remainder_is n ∙ ap rank is ∙ sym (remainder_is k) ∙ there

module _ {T : Type 0} (f : Four T) where
  pub pick_put : (w : Which) (x : T) → pick (put f w x) w ≡ x
  pick_put First x = refl
  pick_put Second x = refl
  pick_put Third x = refl
  pick_put Fourth x = refl

  pub put_pick : (w : Which) → put f w (pick f w) ≡ f
  put_pick First = refl
  put_pick Second = refl
  put_pick Third = refl
  put_pick Fourth = refl

  pub put_put : (w : Which) (x y : T) → put (put f w x) w y ≡ put f w y
  put_put First x y = refl
  put_put Second x y = refl
  put_put Third x y = refl
  put_put Fourth x y = refl
