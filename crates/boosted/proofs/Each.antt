-- What holds of each in a list, and numbers that differ.
use Rattle.std.proofs.Common.{◌≡◌, ℕ, ◌==◌, Bool, true, false, not, cond, List, [], ◌∷◌, ◌++◌, refl}
use Rattle.std.proofs.Common.{sym, rules, true≢false}
use Rattle.std.specs.List.{filter, AllByRecursion}

pub differ : (m n : ℕ) → (m == n) ≡ false → m ≡ n → ⊥
differ m n h e = search rules

pub not_true : (b : Bool) → not b ≡ true → b ≡ false
not_true true h = absurd (true≢false (sym h))
not_true false h = refl

module _ {E : Type 0} where
  pub weaker : (P Q : E → Type 0) → ((x : E) → P x → Q x) → (es : List E) → AllByRecursion P es →
      AllByRecursion Q es
  weaker P Q f [] a = tt
  weaker P Q f (x ∷ es) a = (f x a.0, weaker P Q f es a.1)

  pub both : (P Q : E → Type 0) (es : List E) → AllByRecursion P es → AllByRecursion Q es →
      AllByRecursion (λ x. P x × Q x) es
  both P Q [] a b = tt
  both P Q (x ∷ es) a b = ((a.0, b.0), both P Q es a.1 b.1)

  pub each_both : (P Q R : E → Type 0) (es : List E) → AllByRecursion P es → AllByRecursion Q es →
      ((x : E) → P x → Q x → R x) → AllByRecursion R es
  each_both P Q R [] a b f = tt
  each_both P Q R (x ∷ es) a b f = (f x a.0 b.0, each_both P Q R es a.1 b.1 f)

  pub each_append : (P : E → Type 0) (xs ys : List E) → AllByRecursion P xs → AllByRecursion P ys →
      AllByRecursion P (xs ++ ys)
  each_append P [] ys a b = b
  each_append P (x ∷ xs) ys a b = (a.0, each_append P xs ys a.1 b)

  pub each_front : (P : E → Type 0) (xs ys : List E) → AllByRecursion P (xs ++ ys) →
      AllByRecursion P xs
  each_front P [] ys a = tt
  each_front P (x ∷ xs) ys a = (a.0, each_front P xs ys a.1)

  pub each_back : (P : E → Type 0) (xs ys : List E) → AllByRecursion P (xs ++ ys) →
      AllByRecursion P ys
  each_back P [] ys a = a
  each_back P (x ∷ xs) ys a = each_back P xs ys a.1

  -- one is taken out
  pub each_rest : (P : E → Type 0) (xs : List E) (x : E) (ys : List E) →
      AllByRecursion P (xs ++ x ∷ ys) → AllByRecursion P (xs ++ ys)
  each_rest P xs x ys a = each_append P xs ys (each_front P xs (x ∷ ys) a)
      ((each_back P xs (x ∷ ys) a).1)

  cons_if : (P : E → Type 0) (b : Bool) (x : E) (es : List E) → P x → AllByRecursion P es →
      AllByRecursion P (cond b (x ∷ es) es)
  cons_if P true x es p a = (p, a)
  cons_if P false x es p a = a

  pub each_filter : (P : E → Type 0) (test : E → Bool) (es : List E) → AllByRecursion P es →
      AllByRecursion P (filter test es)
  each_filter P test [] a = tt
  each_filter P test (x ∷ es) a = cons_if P (test x) x _ a.0 (each_filter P test es a.1)

  cons_if_only : (P : E → Type 0) (b : Bool) (x : E) (es : List E) → (b ≡ true → P x) →
      AllByRecursion P es → AllByRecursion P (cond b (x ∷ es) es)
  cons_if_only P true x es p a = (p refl, a)
  cons_if_only P false x es p a = a

  -- what passes the test has the rest of P
  pub each_passing : (P : E → Type 0) (test : E → Bool) (es : List E) →
      AllByRecursion (λ x. test x ≡ true → P x) es → AllByRecursion P (filter test es)
  each_passing P test [] a = tt
  each_passing P test (x ∷ es) a = cons_if_only P (test x) x _ a.0 (each_passing P test es a.1)
