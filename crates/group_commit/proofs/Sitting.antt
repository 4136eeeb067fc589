-- Parties that come to a seat, leave it, and go from one to another: each keeps one seat.
use Rattle.std.proofs.Common.{◌≡◌, ◌≢◌, ◌⊎◌, ℕ, cond, eqb, eq-eqb, ne_eqb, List, [], ◌∷◌, ◌++◌}
use Rattle.std.proofs.Common.{length, set, refl, sym, ap, ◌∙◌, subst, ⊎_elim, inl, inr}
use mathlib.Core.Option.{some}
use lib.ListN.{get_elem?}
use Rattle.group_commit.specs.Parties.{Among, Has, Distinct, Sit, rest, first}
use Rattle.group_commit.proofs.Seats.{Each, each_set, each_push, other_view}

pub Among-append : {P : Type 0} (p : P) (xs ys : List P) → Among p (xs ++ ys) →
    Among p xs ⊎ Among p ys
Among-append p [] ys h = inr h
Among-append p (x ∷ xs) ys h = ⊎_elim (λ e. inl (inl e))
    (λ t. ⊎_elim (λ a. inl (inr a)) (λ b. inr b) (Among-append p xs ys t)) h

-- the seat of each number, once all that was at one seat is at another
moved_all : (ℕ → ℕ) → ℕ → ℕ → ℕ → ℕ
moved_all seat_of from to n = cond (eqb (seat_of n) from) to (seat_of n)

moved_all_here : (seat_of : ℕ → ℕ) (from to n : ℕ) → seat_of n ≡ from →
    moved_all seat_of from to n ≡ to
unfolding moved_all
moved_all_here seat_of from to n is = ap (λ b. cond b to (seat_of n)) (eq-eqb (seat_of n) from is)

moved_all_else : (seat_of : ℕ → ℕ) (from to n : ℕ) → seat_of n ≢ from →
    moved_all seat_of from to n ≡ seat_of n
unfolding moved_all
moved_all_else seat_of from to n ne = ap (λ b. cond b to (seat_of n)) (ne_eqb (seat_of n) from ne)

-- the seat of each number, once one of them is at another
moved_one : (ℕ → ℕ) → ℕ → ℕ → ℕ → ℕ
moved_one seat_of who to n = cond (eqb n who) to (seat_of n)

moved_one_here : (seat_of : ℕ → ℕ) (who to : ℕ) → moved_one seat_of who to who ≡ to
unfolding moved_one
moved_one_here seat_of who to = ap (λ b. cond b to (seat_of who)) (eq-eqb who who refl)

moved_one_else : (seat_of : ℕ → ℕ) (who to n : ℕ) → n ≢ who → moved_one seat_of who to n ≡ seat_of n
unfolding moved_one
moved_one_else seat_of who to n ne = ap (λ b. cond b to (seat_of n)) (ne_eqb n who ne)

module _ {P : Type 0} (number : P → ℕ) where
  Has-append : (n : ℕ) (xs ys : List P) → Has number n (xs ++ ys) →
      Has number n xs ⊎ Has number n ys
  Has-append n [] ys h = inr h
  Has-append n (x ∷ xs) ys h = ⊎_elim (λ e. inl (inl e))
      (λ t. ⊎_elim (λ a. inl (inr a)) (λ b. inr b) (Has-append n xs ys t)) h

  -- the party that has the number
  pub party_with : (n : ℕ) (ps : List P) → Has number n ps → (p : P) × Among p ps × (number p ≡ n)
  party_with n [] h = absurd h
  party_with n (q ∷ qs) h = ⊎_elim (λ e. (q, inl refl, e))
      (λ t. let r = party_with n qs t in (r.0, inr r.1, r.2)) h

  named : (p : P) (ps : List P) → Among p ps → Has number (number p) ps
  named p [] h = absurd h
  named p (q ∷ qs) h = ⊎_elim (λ e. inl (ap number (sym e))) (λ t. inr (named p qs t)) h

  Distinct-append : (xs ys : List P) → Distinct number xs → Distinct number ys →
      ((n : ℕ) → Has number n xs → Has number n ys → ⊥) → Distinct number (xs ++ ys)
  Distinct-append [] ys a b bar = b
  Distinct-append (x ∷ xs) ys a b bar = (
    (λ h. ⊎_elim (λ t. a.0 t) (λ t. bar (number x) (inl refl) t)
        (Has-append (number x) xs ys h)),
    Distinct-append xs ys a.1 b (λ n s t. bar n (inr s) t),
  )

  module _ (fact : P → Type 0) where
    -- nobody sits at any seat
    pub nobody_sits : (seat_of : ℕ → ℕ) (seat : ℕ) → Sit number fact seat_of seat []
    nobody_sits seat_of seat = record { apart = tt; each = λ p h. absurd h }

    pub one_sits : (seat_of : ℕ → ℕ) (seat : ℕ) (p : P) → seat_of (number p) ≡ seat → fact p →
        Sit number fact seat_of seat (p ∷ [])
    one_sits seat_of seat p here true_of = record {
      apart = ((λ h. h), tt);
      each = λ q h. ⊎_elim (λ e. subst (λ u. (seat_of (number u) ≡ seat) × fact u) (sym e)
          (here, true_of)) (λ h. absurd h) h;
    }

    -- the same parties, each with a seat by another account
    reseated : (seat_of other_of : ℕ → ℕ) (seat other : ℕ) (ps : List P) →
        Sit number fact seat_of seat ps
        → ((p : P) → Among p ps → seat_of (number p) ≡ seat → other_of (number p) ≡ other) →
        Sit number fact other_of other ps
    reseated seat_of other_of seat other ps s goes = record {
      apart = s.apart;
      each = λ p h. let e = s.each p h in (goes p h e.0, e.1);
    }

    -- those of a seat that stays
    stayed : (seat_of : ℕ → ℕ) (from to seat : ℕ) (ps : List P) → seat ≢ from →
        Sit number fact seat_of seat ps → Sit number fact (moved_all seat_of from to) seat ps
    stayed seat_of from to seat ps other s =
        reseated seat_of (moved_all seat_of from to) seat seat ps s
        (λ p h here. moved_all_else seat_of from to (number p) (λ same. other (sym here ∙ same)) ∙
        here)

    -- those of the seat that is left
    went : (seat_of : ℕ → ℕ) (from to : ℕ) (ps : List P) → Sit number fact seat_of from ps →
        Sit number fact (moved_all seat_of from to) to ps
    went seat_of from to ps s =
        reseated seat_of (moved_all seat_of from to) from to ps s
        (λ p h here. moved_all_here seat_of from to (number p) here)

    module _ {V : Type 0} (parties : V → List P) (own : ℕ → V → Type 0) where
      -- what is known of a view at a seat: a fact of its own, and its parties'
      abbrev pub Rides : (ℕ → ℕ) → ℕ → V → Type 0
      Rides seat_of seat v = own seat v × Sit number fact seat_of seat (parties v)

      -- all parties of a seat go to a new one
      pub leaves : (seat_of : ℕ → ℕ) (views : List V) (id : ℕ) (v left : V) →
          get_elem? views id ≡ some v → Each (Rides seat_of) views
          → parties left ≡ [] → own id left → ((seat : ℕ) → own seat v) →
          (other_of : ℕ → ℕ) × Each (Rides other_of) (set views id left ++ v ∷ [])
      leaves seat_of views id v left at each none own_left own_v =
          let to = length (set views id left) in
          let other_of = moved_all seat_of id to in (
            other_of,
            each_push (Rides other_of) (set views id left) v
                (each_set (Rides other_of) views id left
                (λ j u other e. let r = each j u e in
                (r.0, stayed seat_of id to j (parties u) other r.1)) (
                  own_left,
                  subst (λ l. Sit number fact other_of id l) (sym none)
                      (nobody_sits other_of id),
                ))
                (own_v to, went seat_of id to (parties v) (each id v at).1),
          )

      -- all parties of one seat go to another, before those that are there
      pub boards : (seat_of : ℕ → ℕ) (views : List V) (id other : ℕ) (v w both spent : V) →
          get_elem? views id ≡ some v → other ≢ id → get_elem? (set views id both) other ≡ some w
          → Each (Rides seat_of) views → parties both ≡ parties w ++ parties v →
          parties spent ≡ [] → own id both → own other spent
          → (other_of : ℕ → ℕ) × Each (Rides other_of) (set (set views id both) other spent)
      boards seat_of views id other v w both spent at apart there each joined none own_both
          own_spent =
          let other_of = moved_all seat_of other id in
          let mine = (each id v at).1 in
          let theirs = (each other w (other_view views id other both w apart there)).1 in
          let together : Sit number fact other_of id (parties w ++ parties v) = record {
            apart = Distinct-append (parties w) (parties v) theirs.apart mine.apart
                (λ n s t. let a = party_with n (parties w) s in
                let b = party_with n (parties v) t in
                apart (sym (theirs.each a.0 a.1).0 ∙
                (ap seat_of (a.2 ∙ sym b.2) ∙ (mine.each b.0 b.1).0)));
            each = λ p h. ⊎_elim
                (λ s. (went seat_of other id (parties w) theirs).each p s)
                (λ t. (stayed seat_of other id id (parties v) (λ same. apart (sym same)) mine).each
                p t)
                (Among-append p (parties w) (parties v) h);
          } in (
            other_of,
            each_set (Rides other_of) (set views id both) other spent
                (λ j u out e. each_set (λ j u. j ≢ other → Rides other_of j u) views id both
                (λ j u _ e out. let r = each j u e in
                (r.0, stayed seat_of other id j (parties u) out r.1))
                (λ _. (own_both, subst (λ l. Sit number fact other_of id l) (sym joined) together))
                j u e out) (
                  own_spent,
                  subst (λ l. Sit number fact other_of other l) (sym none)
                      (nobody_sits other_of other),
                ),
          )

      -- the first party of a list goes to a new seat
      alights_from : (seat_of : ℕ → ℕ) (views : List V) (id : ℕ) (v left right : V) (ps : List P) →
          Each (Rides seat_of) views → Sit number fact seat_of id ps
          → parties left ≡ rest ps → parties right ≡ first ps → own id left →
          ((seat : ℕ) → own seat right)
          → (other_of : ℕ → ℕ) × Each (Rides other_of) (set views id left ++ right ∷ [])
      alights_from seat_of views id v left right [] each mine is_rest is_one own_rest own_one = (
        seat_of,
        each_push (Rides seat_of) (set views id left) right
            (each_set (Rides seat_of) views id left (λ j u _ e. each j u e) (
              own_rest,
              subst (λ l. Sit number fact seat_of id l) (sym is_rest)
                  (nobody_sits seat_of id),
            )) (
              own_one (length (set views id left)),
              subst (λ l. Sit number fact seat_of (length (set views id left)) l) (sym is_one)
                  (nobody_sits seat_of (length (set views id left))),
            ),
      )
      alights_from seat_of views id v left right (p ∷ ps) each mine is_rest is_one own_rest
          own_one =
          let to = length (set views id left) in
          let other_of = moved_one seat_of (number p) to in
          let me = mine.each p (inl refl) in
          let others : Sit number fact other_of id ps = record {
            apart = mine.apart.1;
            each = λ q h. let e = mine.each q (inr h) in (
              moved_one_else seat_of (number p) to (number q)
                  (λ same. mine.apart.0 (subst (λ n. Has number n ps) same (named q ps h))) ∙ e.0,
              e.1,
            );
          } in (
            other_of,
            each_push (Rides other_of) (set views id left) right
                (each_set (Rides other_of) views id left
                (λ j u other e. let r = each j u e in (
                  r.0,
                  reseated seat_of other_of j j (parties u) r.1
                      (λ q h here. moved_one_else seat_of (number p) to (number q)
                      (λ same. other (sym here ∙ (ap seat_of same ∙ me.0))) ∙ here),
                ))
                (own_rest, subst (λ l. Sit number fact other_of id l) (sym is_rest) others)) (
                  own_one to,
                  subst (λ l. Sit number fact other_of to l) (sym is_one)
                      (one_sits other_of to p (moved_one_here seat_of (number p) to) me.1),
                ),
          )

      -- the first party of a seat goes to a new one
      pub alights : (seat_of : ℕ → ℕ) (views : List V) (id : ℕ) (v left right : V) →
          get_elem? views id ≡ some v → Each (Rides seat_of) views
          → parties left ≡ rest (parties v) → parties right ≡ first (parties v) → own id left →
          ((seat : ℕ) → own seat right)
          → (other_of : ℕ → ℕ) × Each (Rides other_of) (set views id left ++ right ∷ [])
      alights seat_of views id v left right at each is_left is_right own_left own_right =
          alights_from seat_of views id v left right (parties v) each (each id v at).1 is_left
          is_right own_left own_right

  -- another fact, which each party of a seat has that had the first
  pub sits_on : (fact more : P → Type 0) (seat_of : ℕ → ℕ) (seat : ℕ) (ps : List P)
      → ((p : P) → Among p ps → seat_of (number p) ≡ seat → fact p → more p) →
      Sit number fact seat_of seat ps → Sit number more seat_of seat ps
  sits_on fact more seat_of seat ps goes s =
      record { apart = s.apart; each = λ p h. let e = s.each p h in (e.0, goes p h e.0 e.1) }

  -- a new party, with a number that nobody has, comes with a new seat
  pub admits : {V : Type 0} (parties : V → List P) (fact more : P → Type 0) (own : ℕ → V → Type 0)
      (seat_of : ℕ → ℕ) (views : List V) (id : ℕ) (v left right : V) (p : P)
      → get_elem? views id ≡ some v →
      Each (λ seat u. Sit number fact seat_of seat (parties u)) views →
      ((j : ℕ) (u : V) → j ≢ id → get_elem? views j ≡ some u → own j u)
      → ((q : P) → fact q → number q ≡ number p → ⊥) → ((q : P) → fact q → more q) → more p →
      parties left ≡ parties v → parties right ≡ p ∷ [] → own id left →
      ((seat : ℕ) → own seat right)
      → (other_of : ℕ → ℕ) × Each (Rides more parties own other_of)
      (set views id left ++ right ∷ [])
  admits parties fact more own seat_of views id v left right p at each others new weaker true_of
      is_left is_right own_left own_right =
      let to = length (set views id left) in
      let other_of = moved_one seat_of (number p) to in
      let same : (j : ℕ) (ps : List P) → Sit number fact seat_of j ps →
      Sit number more other_of j ps = λ j ps s. record {
        apart = s.apart;
        each = λ q h. let e = s.each q h in (
          moved_one_else seat_of (number p) to (number q) (λ is. new q e.1 is) ∙ e.0,
          weaker q e.1,
        );
      } in (
        other_of,
        each_push (Rides more parties own other_of) (set views id left) right
            (each_set (Rides more parties own other_of) views id left
            (λ j u other e. (others j u other e, same j (parties u) (each j u e))) (
              own_left,
              subst (λ l. Sit number more other_of id l) (sym is_left)
                  (same id (parties v) (each id v at)),
            )) (
              own_right to,
              subst (λ l. Sit number more other_of to l) (sym is_right)
                  (one_sits more other_of to p (moved_one_here seat_of (number p) to) true_of),
            ),
      )
