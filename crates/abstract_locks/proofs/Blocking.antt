-- The least other owner of a hold in the way, over one list and another.
use Rattle.std.proofs.Common.{◌≡◌, ℕ, ◌+◌, ◌≤◌, ◌<◌, min, List, [], ◌∷◌, ◌++◌, length, get_or, take}
use Rattle.std.proofs.Common.{Option, Some, None, ⊎_elim, arith, refl}
use Rattle.std.specs.List.{All}
use Rattle.std.proofs.lemmas.Bool.{cases_lt}
use Rattle.std.proofs.lemmas.List.{take_more}
use Rattle.std.proofs.lemmas.List.Elements.{All-nil, All-cons, All-append, All-weaker}
use Rattle.std.proofs.lemmas.List.Elements.{Contains-append_left, Contains-append_right}
use Rattle.calls.specs.declared.need.Need.{Need}
use Rattle.abstract_locks.specs.declared.table.Hold.{Hold}
use Rattle.abstract_locks.specs.Holds.{Blocks, IsClear, IsBusy}
use Rattle.abstract_locks.specs.Segments.{all_holds, IsLeast, lesser}
use Rattle.abstract_locks.proofs.Covering.{one_segment_more}

module _ (owner at : ℕ) (need : Need) where
  -- No hold that is in the way has an owner below n.
  abbrev AreAbove : (n : ℕ) → List Hold → Type 0
  AreAbove n = All (λ h. Blocks owner at need h → n ≤ h.owner)

  clear_above : (n : ℕ) (xs : List Hold) → IsClear xs owner at need → AreAbove n xs
  clear_above n xs = All-weaker (λ h. Blocks owner at need h → ⊥)
      (λ h. Blocks owner at need h → n ≤ h.owner) (λ h none b. absurd (none b)) xs

  busy_above : (n m : ℕ) (xs : List Hold) → n ≤ m → IsBusy xs owner at need m → AreAbove n xs
  busy_above n m xs le busy = All-weaker (λ h. Blocks owner at need h → m ≤ h.owner)
      (λ h. Blocks owner at need h → n ≤ h.owner)
      (λ h above b. let more = above b in omega arith) xs busy.least

  module _ (xs ys : List Hold) (n : ℕ) where
    in_left : IsBusy xs owner at need n → AreAbove n ys → IsBusy (xs ++ ys) owner at need n
    in_left busy above =
        let any = busy.blocked in
        let there = Contains-append_left xs ys any.1 (any.0, any.2, any.3) in
        record {
          blocked = (there.0, any.1, there.1, there.2, any.4);
          least = All-append (λ h. Blocks owner at need h → n ≤ h.owner) xs ys busy.least above;
        }

    in_right : AreAbove n xs → IsBusy ys owner at need n → IsBusy (xs ++ ys) owner at need n
    in_right above busy =
        let any = busy.blocked in
        let there = Contains-append_right xs ys any.1 (any.0, any.2, any.3) in
        record {
          blocked = (there.0, any.1, there.1, there.2, any.4);
          least = All-append (λ h. Blocks owner at need h → n ≤ h.owner) xs ys above busy.least;
        }

  -- the lesser of two is the least over both lists
  joined : (xs ys : List Hold) (a b : Option ℕ) → IsLeast xs owner at need a →
      IsLeast ys owner at need b → IsLeast (xs ++ ys) owner at need (lesser a b)
  joined xs ys None None one other =
      All-append (λ h. Blocks owner at need h → ⊥) xs ys one other
  joined xs ys None (Some n) one other = in_right xs ys n (clear_above n xs one) other
  joined xs ys (Some m) None one other = in_left xs ys m one (clear_above m ys other)
  joined xs ys (Some m) (Some n) one other =
      ⊎_elim
      (λ less. let is : min m n ≡ m = omega arith in
      rw is (in_left xs ys m one (busy_above m n ys (omega arith) other)))
      (λ more. let is : min m n ≡ n = omega arith in
      rw is (in_right xs ys n (busy_above n m xs more one) other))
      (cases_lt m n)

  one_blocks : (h : Hold) → Blocks owner at need h → IsBusy (h ∷ []) owner at need h.owner
  one_blocks h b = record {
    blocked = (0, h, omega arith, refl, (b, refl));
    least = All-cons (λ g. Blocks owner at need g → h.owner ≤ g.owner) h [] (λ same. omega arith)
        (All-nil (λ g. Blocks owner at need g → h.owner ≤ g.owner));
  }

  same_least : (a : Option ℕ) → lesser a None ≡ a
  same_least None = refl
  same_least (Some n) = refl

  module _ (holds : List Hold) (i : ℕ) (d : Hold) (lt : i < length holds) (a : Option ℕ)
      (seen : IsLeast (take i holds) owner at need a) where
    -- one hold more, which is in the way or is not
    pub next_blocks : Blocks owner at need (get_or holds i d) →
        IsLeast (take (i + 1) holds) owner at need (lesser a (Some (get_or holds i d).owner))
    next_blocks b = rw (take_more holds i d lt)
        (joined (take i holds) (get_or holds i d ∷ []) a (Some (get_or holds i d).owner) seen
        (one_blocks (get_or holds i d) b))

    pub next_free : (Blocks owner at need (get_or holds i d) → ⊥) →
        IsLeast (take (i + 1) holds) owner at need a
    next_free free = rw (take_more holds i d lt, ← same_least a)
        (joined (take i holds) (get_or holds i d ∷ []) a None seen
        (All-cons (λ g. Blocks owner at need g → ⊥) (get_or holds i d) [] free
        (All-nil (λ g. Blocks owner at need g → ⊥))))

  -- one segment more
  pub next_segment : (segments : List (List Hold)) (i : ℕ) (x : List Hold) → i < length segments →
      x ≡ get_or segments i x → (a b : Option ℕ) →
      IsLeast (all_holds (take i segments)) owner at need a → IsLeast x owner at need b →
      IsLeast (all_holds (take (i + 1) segments)) owner at need (lesser a b)
  next_segment segments i x lt is a b seen least =
      rw (one_segment_more segments i x lt, ← is)
      (joined (all_holds (take i segments)) x a b seen least)
