-- Each step keeps the rule of the numbers.
use Rattle.std.proofs.Common.{◌≡◌, ◌≢◌, ℕ, zero, suc, ◌+◌, ◌%◌, ◌^◌, ◌<◌, ◌≤◌, cond, eqb, eq-eqb}
use Rattle.std.proofs.Common.{ne_eqb, get_or, List, [], ◌∷◌, ◌++◌, length, map, set, true, false}
use Rattle.std.proofs.Common.{true≢false, refl, sym, ap, ◌∙◌, subst, ⊎_elim, inl, inr, arith}
use Rattle.std.specs.Prelude.{slice_index, slice_set, sum_by, Contains}
use Rattle.std.proofs.lemmas.List.Elements.{Contains-push_cases}
use Rattle.std.proofs.lemmas.List.Sums.{sum_by-set, sum_by-append, sum_by_push}
use mathlib.Core.Option.{some, some-ne-none, some-injective}
use lib.ListN.{get_elem?}
use Rattle.group_commit.specs.declared.numbers.Hand.{Hand}
use Rattle.group_commit.specs.declared.numbers.Draw.{Draw}
use Rattle.group_commit.specs.declared.numbers.Report.{Report}
use Rattle.group_commit.specs.Numbers.{AreApart, AreOfOne}
use Rattle.group_commit.specs.Parties.{Among, rest, first}
use Rattle.group_commit.specs.Drawing.{hand, number_of, maker, holding, nobody, drawer, making}
use Rattle.group_commit.specs.Drawing.{made_one, boarded, without_first, first_alone, Drew}
use Rattle.group_commit.specs.Drawing.{Fits, Knows, AreTrue, left_of, Drawn, with_drawn, AllApart}
use Rattle.group_commit.specs.Drawing.{report_of, reporting}
use Rattle.group_commit.proofs.Seats.{Each, each_one, each_set, each_push, other_view}
use Rattle.group_commit.proofs.Sitting as sitting
use Rattle.group_commit.proofs.Sitting.{Among-append}

off : {X : Type 0} → false ≡ true → X
off e = absurd (true≢false (sym e))

none_drawn : (n : ℕ) → Contains [] n → ⊥
none_drawn n h = let lt = h.1 in absurd (omega arith)

-- ---- how many numbers all seats may still draw
at_within : {X : Type 0} (l : List X) (i : ℕ) (x : X) → get_elem? l i ≡ some x → i < length l
at_within [] i x e = absurd (some-ne-none x (sym e))
at_within (y ∷ l) zero x e = omega arith
at_within (y ∷ l) (suc i) x e = let h = at_within l i x e in omega arith

at_read : {X : Type 0} (l : List X) (i : ℕ) (x : X) → get_elem? l i ≡ some x → get_or l i x ≡ x
at_read [] i x e = absurd (some-ne-none x (sym e))
at_read (y ∷ l) zero x e = some-injective y x e
at_read (y ∷ l) (suc i) x e = at_read l i x e

left_set : (views : List Draw) (id : ℕ) (v w : Draw) → get_elem? views id ≡ some v →
    sum_by left_of (set views id w) + left_of v ≡ sum_by left_of views + left_of w
left_set views id v w at = ap (λ (u : Draw). sum_by left_of (set views id w) + left_of u)
    (sym (at_read views id v at)) ∙ sum_by-set left_of views id w v (at_within views id v at)

left_parts : (hands : List Hand) →
    sum_by (λ (h : Hand). h.left) (rest hands) + sum_by (λ (h : Hand). h.left) (first hands) ≡
    sum_by (λ (h : Hand). h.left) hands
left_parts [] = refl
left_parts (h ∷ hands) = let a = sum_by-append (λ (h : Hand). h.left) (h ∷ []) hands in omega arith

-- ---- what is reported
no_reports : (next : ℕ) (drawer_of : ℕ → ℕ) → AreTrue next drawer_of []
no_reports next drawer_of r among = absurd among

both_reports : (next : ℕ) (drawer_of : ℕ → ℕ) (xs ys : List Report) → AreTrue next drawer_of xs →
    AreTrue next drawer_of ys → AreTrue next drawer_of (xs ++ ys)
both_reports next drawer_of xs ys a b r among =
    ⊎_elim (λ h. a r h) (λ h. b r h) (Among-append r xs ys among)

-- what drawers drew, they report
own_reports : (made next : ℕ) (drawer_of : ℕ → ℕ) (hands : List Hand) →
    ((h : Hand) → Among h hands → Drew made next drawer_of h) →
    AreTrue next drawer_of (map report_of hands)
own_reports made next drawer_of [] drew r among = absurd among
own_reports made next drawer_of (h ∷ hands) drew r among =
    ⊎_elim
    (λ (is : r ≡ report_of h). subst (λ (x : Report). (n : ℕ) → Contains x.drawn n →
    (n < next) × (drawer_of n ≡ x.drawer)) (sym is)
    (λ n has. let d = (drew h (inl refl)).drew n has in (d.1, d.2)))
    (λ t. own_reports made next drawer_of hands (λ g among. drew g (inr among)) r t)
    among

-- what is true of one number is one drawer's
reports_of_one : (next : ℕ) (drawer_of : ℕ → ℕ) (reports : List Report) →
    AreTrue next drawer_of reports → AreOfOne reports
reports_of_one next drawer_of reports are_true one other n a b =
    sym a.2 ∙ sym (are_true a.0 a.1 n a.3).1 ∙ (are_true b.0 b.1 n b.3).1 ∙ b.2

-- ---- the moves
pub begins : (from : ℕ) → from ≤ 2305843009213693952 →
    Drawn (from ∷ []) (maker from 0 72057594037927936 [] ∷ [])
begins from few = record {
  next = from;
  making = 0;
  made = 0;
  drawer_of = λ n. 0;
  seat_of = λ n. 0;
  words_are = refl;
  room = omega (arith, few);
  fits = each_one (Fits 0 0 from (λ n. 0) (λ n. 0)) (maker from 0 72057594037927936 []) (
    ((λ is. (refl, refl, omega arith)), no_reports from (λ n. 0)),
    sitting.nobody_sits number_of (Drew 0 from (λ n. 0)) (λ n. 0) 0,
  );
}

module _ (words : List ℕ) (views : List Draw) (k : Drawn words views) (id : ℕ) (v : Draw)
    (at : get_elem? views id ≡ some v) where
  -- the drawers have other seats
  reseat : (after : List Draw) → sum_by left_of after ≤ sum_by left_of views →
      (seat_of : ℕ → ℕ) × Each (Fits k.making k.made k.next k.drawer_of seat_of) after →
      Drawn words after
  reseat after less r = record {
    next = k.next;
    making = k.making;
    made = k.made;
    drawer_of = k.drawer_of;
    seat_of = r.0;
    words_are = k.words_are;
    room = let a = k.room in omega arith;
    fits = r.1;
  }

  pub makes : v.makes ≡ true → 1099511627776 ≤ v.left → v.hands ≡ [] →
      Drawn words (set views id (making v) ++ made_one v ∷ [])
  makes is_maker room none =
      let here = (k.fits id v at).0.0 is_maker in
      let made = k.made + 1 in
      let r = sitting.admits number_of (λ (u : Draw). u.hands) (Drew k.made k.next k.drawer_of)
      (Drew made k.next k.drawer_of) (Knows k.making made k.next k.drawer_of) k.seat_of views id v
      (making v) (made_one v)
      (hand (v.made + 1) v.from [] 1099511627776) at
      (λ j u e. (k.fits j u e).1)
      (λ j u other e. (
        (λ is. absurd (other (((k.fits j u e).0.0 is).0 ∙ sym here.0))),
        (k.fits j u e).0.1,
      ))
      (λ h d same. let le = d.numbered in let m = here.1 in
      let n : h.number ≡ v.made + 1 = same in absurd (omega arith))
      (λ h d. record {
        numbered = let le = d.numbered in
            omega arith;
        from = d.from;
        drew = d.drew;
      })
      record {
        numbered = let m = here.1 in
            omega arith;
        from = here.2;
        drew = λ n h. absurd (none_drawn n h);
      }
      (sym none) refl
      ((λ is. (here.0, (let m = here.1 in omega arith), here.2)), (k.fits id v at).0.1)
      (λ seat. ((λ is. off is), no_reports k.next k.drawer_of)) in
      record {
        next = k.next;
        making = k.making;
        made = made;
        drawer_of = k.drawer_of;
        seat_of = r.0;
        words_are = k.words_are;
        room =
            let a = left_set views id v (making v) at in
            let b = sum_by_push left_of (set views id (making v)) (made_one v) in
            let c = k.room in
            let d : sum_by (λ (h : Hand). h.left) v.hands ≡ 0 =
            ap (λ (hs : List Hand). sum_by (λ (h : Hand). h.left) hs) none in
            omega arith;
        fits = r.1;
      }

  pub leaves : v.makes ≡ false → Drawn words (set views id nobody ++ v ∷ [])
  leaves plain = reseat (set views id nobody ++ v ∷ [])
      (let a = left_set views id v nobody at in
      let b = sum_by_push left_of (set views id nobody) v in omega arith)
      (sitting.leaves number_of (Drew k.made k.next k.drawer_of) (λ (u : Draw). u.hands)
      (Knows k.making k.made k.next k.drawer_of) k.seat_of views id v nobody at k.fits refl
      ((λ is. off is), no_reports k.next k.drawer_of)
      (λ seat. ((λ is. off (sym plain ∙ is)), (k.fits id v at).0.1)))

  -- what the seat's drawers drew is reported to a new one
  pub tells : Drawn words (set views id v ++ reporting v.hands ∷ [])
  tells =
      let f = k.fits id v at in
      reseat (set views id v ++ reporting v.hands ∷ [])
      (let a = left_set views id v v at in
      let b = sum_by_push left_of (set views id v) (reporting v.hands) in omega arith) (
        k.seat_of,
        each_push (Fits k.making k.made k.next k.drawer_of k.seat_of) (set views id v)
            (reporting v.hands)
            (each_set (Fits k.making k.made k.next k.drawer_of k.seat_of) views id v
            (λ j u _ e. k.fits j u e) f) (
              (
                (λ is. off is),
                own_reports k.made k.next k.drawer_of v.hands (λ h among. (f.1.each h among).1),
              ),
              sitting.nobody_sits number_of (Drew k.made k.next k.drawer_of) k.seat_of
                  (length (set views id v)),
            ),
      )

  pub boards : (other : ℕ) (w : Draw) → other ≢ id →
      get_elem? (set views id (boarded v w)) other ≡ some w →
      Drawn words (set (set views id (boarded v w)) other nobody)
  boards other w apart there = reseat (set (set views id (boarded v w)) other nobody)
      (let a = left_set views id v (boarded v w) at in
      let b = left_set (set views id (boarded v w)) other w nobody there in
      let c = sum_by-append (λ (h : Hand). h.left) w.hands v.hands in
      omega arith)
      (sitting.boards number_of (Drew k.made k.next k.drawer_of) (λ (u : Draw). u.hands)
      (Knows k.making k.made k.next k.drawer_of) k.seat_of views id other v w (boarded v w) nobody
      at apart there k.fits refl refl (
        (k.fits id v at).0.0,
        both_reports k.next k.drawer_of w.reports v.reports
            (k.fits other w (other_view views id other (boarded v w) w apart there)).0.1
            (k.fits id v at).0.1,
      ) ((λ is. off is), no_reports k.next k.drawer_of))

  pub alights : Drawn words (set views id (without_first v) ++ first_alone v ∷ [])
  alights = reseat (set views id (without_first v) ++ first_alone v ∷ [])
      (let a = left_set views id v (without_first v) at in
      let b = sum_by_push left_of (set views id (without_first v)) (first_alone v) in
      let c = left_parts v.hands in
      omega arith)
      (sitting.alights number_of (Drew k.made k.next k.drawer_of) (λ (u : Draw). u.hands)
      (Knows k.making k.made k.next k.drawer_of) k.seat_of views id v (without_first v)
      (first_alone v) at k.fits refl refl
      (k.fits id v at).0 (λ seat. ((λ is. off is), no_reports k.next k.drawer_of)))

  found : slice_index words 0 ≡ k.next
  found = ap (λ ws. slice_index ws 0) k.words_are

  pub compares : Drawn (slice_set words 0 (slice_index words 0)) (set views id v) ×
      AllApart v.hands × AreOfOne v.reports
  compares =
      let f = k.fits id v at in (
        record {
          next = k.next;
          making = k.making;
          made = k.made;
          drawer_of = k.drawer_of;
          seat_of = k.seat_of;
          words_are = ap (λ ws. slice_set ws 0 (slice_index ws 0)) k.words_are;
          room = let a = left_set views id v v at in let c = k.room in omega arith;
          fits = each_set (Fits k.making k.made k.next k.drawer_of k.seat_of) views id v
              (λ j u _ e. k.fits j u e) f;
        },
        record {
          distinct = f.1.apart;
          apart = λ h g among_h among_g ne n a b.
              ne (sym ((f.1.each h among_h).1.drew n a).2 ∙ ((f.1.each g among_g).1.drew n b).2);
        },
        reports_of_one k.next k.drawer_of v.reports f.0.1,
      )

-- the drawer of each number, once one more was drawn
named : (ℕ → ℕ) → ℕ → ℕ → ℕ → ℕ
named drawer_of n who m = cond (eqb m n) who (drawer_of m)

named_here : (drawer_of : ℕ → ℕ) (n who : ℕ) → named drawer_of n who n ≡ who
unfolding named
named_here drawer_of n who = ap (λ b. cond b who (drawer_of n)) (eq-eqb n n refl)

named_else : (drawer_of : ℕ → ℕ) (n who m : ℕ) → m ≢ n → named drawer_of n who m ≡ drawer_of m
unfolding named
named_else drawer_of n who m ne = ap (λ b. cond b who (drawer_of m)) (ne_eqb m n ne)

-- what was drawn before stays so
drew_before : (made next who : ℕ) (drawer_of : ℕ → ℕ) (h : Hand) → Drew made next drawer_of h →
    Drew made (next + 1) (named drawer_of next who) h
drew_before made next who drawer_of h d = record {
  numbered = d.numbered;
  from = let a = d.from in omega arith;
  drew = λ n is. let b = d.drew n is in let lt = b.1 in
      (b.0, omega arith, named_else drawer_of next who n (λ same. omega arith) ∙ b.2);
}

drew_now : (made next : ℕ) (drawer_of : ℕ → ℕ) (h : Hand) → Drew made next drawer_of h →
    Drew made (next + 1) (named drawer_of next h.number) (with_drawn h next)
drew_now made next drawer_of h d = record {
  numbered = d.numbered;
  from = let a = d.from in omega arith;
  drew = λ n is. ⊎_elim ((drew_before made next h.number drawer_of h d).drew n)
      (λ (same : next ≡ n).
      let a = d.from in (
        omega (arith, same),
        omega (arith, same),
        ap (named drawer_of next h.number) (sym same) ∙ named_here drawer_of next h.number,
      ))
      (Contains-push_cases h.drawn next n is);
}

true_before : (next who : ℕ) (drawer_of : ℕ → ℕ) (reports : List Report) →
    AreTrue next drawer_of reports → AreTrue (next + 1) (named drawer_of next who) reports
true_before next who drawer_of reports are_true r among n has =
    let was = are_true r among n has in let lt = was.0 in
    (omega arith, named_else drawer_of next who n (λ same. omega arith) ∙ was.1)

pub draws : (words : List ℕ) (views : List Draw) (k : Drawn words views) (id : ℕ) (v : Draw) →
    get_elem? views id ≡ some v → (h : Hand) → v ≡ drawer h → 0 < h.left
    → Drawn (slice_set words 0 ((slice_index words 0 + 1) % 2 ^ 64))
    (set views id (drawer (with_drawn h (slice_index words 0)))) ×
    (h.from ≤ slice_index words 0) × (Contains h.drawn (slice_index words 0) → ⊥)
draws words views k id v at h is some_left =
    let n = slice_index words 0 in
    let found : n ≡ k.next = ap (λ ws. slice_index ws 0) k.words_are in
    let w = drawer (with_drawn h n) in
    let f = subst (λ (u : Draw). Fits k.making k.made k.next k.drawer_of k.seat_of id u) is
    (k.fits id v at) in
    let mine = f.1.each h (inl refl) in
    let mine_left : left_of v ≡ 0 + (0 + h.left) = ap left_of is in
    let less = left_set views id v w at in
    let r = k.room in
    let next : (n + 1) % 2 ^ 64 ≡ k.next + 1 = omega (arith, found) in
    let drawer_of = named k.drawer_of k.next h.number in
    let now : Drew k.made (k.next + 1) drawer_of (with_drawn h n) =
    subst (λ (m : ℕ). Drew k.made (k.next + 1) drawer_of (with_drawn h m)) (sym found)
    (drew_now k.made k.next k.drawer_of h mine.1) in (
      record {
        next = k.next + 1;
        making = k.making;
        made = k.made;
        drawer_of = drawer_of;
        seat_of = k.seat_of;
        words_are = ap (λ ws. slice_set ws 0 ((n + 1) % 2 ^ 64)) k.words_are ∙
            ap (λ (m : ℕ). m ∷ []) next;
        room = omega arith;
        fits = each_set (Fits k.making k.made (k.next + 1) drawer_of k.seat_of) views id w
            (λ j u other e. let g = k.fits j u e in (
              (
                (λ is. let m = g.0.0 is in let le = m.2 in (m.0, m.1, omega arith)),
                true_before k.next h.number k.drawer_of u.reports g.0.1,
              ),
              sitting.sits_on number_of (Drew k.made k.next k.drawer_of)
                  (Drew k.made (k.next + 1) drawer_of) k.seat_of j u.hands
                  (λ p _ _ d. drew_before k.made k.next h.number k.drawer_of p d) g.1,
            )) (
              ((λ is. off is), no_reports (k.next + 1) drawer_of),
              sitting.one_sits number_of (Drew k.made (k.next + 1) drawer_of)
                  k.seat_of id (with_drawn h n) mine.0 now,
            );
      },
      (let a = mine.1.from in omega (arith, found)),
      (λ is. let b = (mine.1.drew n is).1 in absurd (omega (arith, found))),
    )

-- ---- a guest with a host
pub with_other : (m a b : Draw) (h g : Hand) → m ≡ boarded a b → a ≡ drawer h → b ≡ drawer g →
    m ≡ holding (g ∷ h ∷ [])
with_other m a b h g is is_one is_other =
    is ∙ (ap (λ u. boarded u b) is_one ∙ ap (λ u. boarded (drawer h) u) is_other)

-- of two drawers
pub two_apart : (h g : Hand) → AllApart (g ∷ h ∷ []) →
    (h.number ≢ g.number) × AreApart h.drawn g.drawn
two_apart h g all =
    let ne : h.number ≢ g.number = λ same. all.distinct.0 (inl same) in
    (ne, all.apart h g (inr (inl refl)) (inl refl) ne)
