-- Each step keeps the rule of the line.
use Rattle.std.proofs.Common.{◌≡◌, ◌≢◌, ◌⊎◌, ℕ, ◌+◌, ◌≤◌, ◌==◌, cond, eq-eqb, Some, None, List, []}
use Rattle.std.proofs.Common.{◌∷◌, ◌++◌, length, set, Bool, true, false, true≢false, refl, sym, ap}
use Rattle.std.proofs.Common.{◌∙◌, subst, ⊎_elim, inl, inr, arith, append_assoc}
use Rattle.std.proofs.lemmas.List.{append-nil}
use Rattle.std.proofs.lemmas.List.Elements.{filter-append}
use Rattle.std.proofs.lemmas.Bool.Decides.{nat_tests}
use mathlib.Core.Option.{some}
use mathlib.Core.List.{IsPrefix}
use mathlib.Core.Logic.{dite}
use native.Mathlib.Decide.{dec_le}
use lib.ListN.{get_elem?}
use Rattle.txn.specs.declared.actions.BookStep.{BookStep}
use Rattle.group_commit.specs.declared.view.Party.{Party}
use Rattle.group_commit.specs.declared.view.View.{View}
use Rattle.group_commit.specs.EndLaws.{same_end}
use Rattle.group_commit.specs.Lines.{is_client, concerns, steps_of, numbers_of, IsLonger, AreOf}
use Rattle.group_commit.specs.Lines.{HaveSeenOne}
use Rattle.group_commit.specs.Parties.{Among, Has, Distinct, Sit}
use Rattle.group_commit.specs.Histories.{party, number_of, hosting, alone, book, client, nobody}
use Rattle.group_commit.specs.Histories.{admitting, admitted, boarded, without_first, first_alone}
use Rattle.group_commit.specs.Histories.{Began, Agrees, Keeps, Fits, Kept, all_seeing, tallied}
use Rattle.group_commit.specs.Histories.{informed, IsTold, AllBegan, Met, IsNumber, AreCounted}
use Rattle.group_commit.proofs.Seats.{Each, each_one, each_set}
use Rattle.group_commit.proofs.Sitting as sitting
use Rattle.group_commit.proofs.Counting.{different, only_these}

off : {X : Type 0} → false ≡ true → X
off e = absurd (true≢false (sym e))

-- ---- beginnings of one list
none_left : {X : Type 0} (xs ys : List X) → xs ++ ys ≡ [] → xs ≡ []
none_left [] ys e = refl
none_left (x ∷ xs) ys e = absurd (cc e)

none_right : {X : Type 0} (xs ys : List X) → xs ++ ys ≡ [] → ys ≡ []
none_right [] ys e = e
none_right (x ∷ xs) ys e = absurd (cc e)

prefix_self : {X : Type 0} (xs : List X) → IsPrefix xs xs
prefix_self xs = ([], append-nil xs)

prefix_trans : {X : Type 0} (xs ys zs : List X) → IsPrefix xs ys → IsPrefix ys zs → IsPrefix xs zs
prefix_trans xs ys zs p q = (
  p.0 ++ q.0,
  sym (append_assoc xs p.0 q.0) ∙ (ap (λ w. w ++ q.0) p.1 ∙ q.1),
)

-- of two beginnings of one list the shorter begins the longer
prefix_shorter : {X : Type 0} (xs ys zs : List X) → IsPrefix xs zs → IsPrefix ys zs →
    length xs ≤ length ys → IsPrefix xs ys
prefix_shorter [] ys zs p q le = (ys, refl)
prefix_shorter (x ∷ xs) [] zs p q le = absurd (omega arith)
prefix_shorter (x ∷ xs) (y ∷ ys) [] p q le = absurd (cc (p.1))
prefix_shorter (x ∷ xs) (y ∷ ys) (z ∷ zs) p q le =
    let heads : x ≡ y = cc (p.1, q.1) in
    let rest = prefix_shorter xs ys zs (p.0, cc (p.1)) (q.0, cc (q.1)) (omega arith) in
    (rest.0, cc (heads, rest.1))

prefix_either : {X : Type 0} (xs ys zs : List X) → IsPrefix xs zs → IsPrefix ys zs →
    IsPrefix xs ys ⊎ IsPrefix ys xs
prefix_either xs ys zs p q = dite (dec_le (length xs) (length ys))
    (λ le. inl (prefix_shorter xs ys zs p q le))
    (λ nle. inr (prefix_shorter ys xs zs q p (omega arith)))

-- ---- what a party has seen
began_whole : (n : ℕ) (whole : List BookStep) → Began whole (party n whole)
began_whole n whole = record { later = []; begun = append-nil whole; none = refl }

began_nothing : (n : ℕ) (whole : List BookStep) → steps_of n whole ≡ [] → Began whole (party n [])
began_nothing n whole none = record { later = whole; begun = refl; none = none }

none_more : (n : ℕ) (log : List BookStep) (step : BookStep) → (concerns n step ≡ true → ⊥) →
    steps_of n log ≡ [] → steps_of n (log ++ step ∷ []) ≡ []
none_more n log step not_its none =
    let Q : Bool → Type 0 = λ c. (c ≡ true → ⊥) → cond c (step ∷ []) [] ≡ [] in
    let by : (c : Bool) → Q c = λ c. elim c as Q
    [ true ↦ (λ no_one. absurd (no_one refl)) | false ↦ (λ no_one. refl) ] in
    filter-append (concerns n) log (step ∷ []) ∙
    (ap (λ l. l ++ cond (concerns n step) (step ∷ []) []) none ∙ by (concerns n step) not_its)

began_more : (log : List BookStep) (step : BookStep) (p : Party) →
    (concerns p.number step ≡ true → ⊥) → Began log p → Began (log ++ step ∷ []) p
began_more log step p not_its b = record {
  later = b.later ++ step ∷ [];
  begun = sym (append_assoc p.seen b.later (step ∷ [])) ∙ ap (λ l. l ++ step ∷ []) b.begun;
  none = none_more p.number b.later step not_its b.none;
}

-- a party has its own steps from what it has seen
pub began_same : (whole : List BookStep) (p : Party) → Began whole p →
    steps_of p.number whole ≡ steps_of p.number p.seen
began_same whole p b =
    ap (steps_of p.number) (sym b.begun) ∙
    (filter-append (concerns p.number) p.seen b.later ∙
    (ap (λ l. steps_of p.number p.seen ++ l) b.none ∙ append-nil (steps_of p.number p.seen)))

pub began_prefix : (whole : List BookStep) (p : Party) → Began whole p → IsPrefix p.seen whole
began_prefix whole p b = (b.later, b.begun)

-- the same of each list between what it has seen and the whole
began_between : (log m : List BookStep) (p : Party) → Began log p → IsPrefix p.seen m →
    IsPrefix m log → Began m p × Began log (party p.number m)
began_between log m p b q r =
    let both : q.0 ++ r.0 ≡ b.later =
    same_end p.seen (q.0 ++ r.0) b.later
    (sym (append_assoc p.seen q.0 r.0) ∙ (ap (λ l. l ++ r.0) q.1 ∙ (r.1 ∙ sym b.begun))) in
    let none : steps_of p.number q.0 ++ steps_of p.number r.0 ≡ [] =
    sym (filter-append (concerns p.number) q.0 r.0) ∙ (ap (steps_of p.number) both ∙ b.none) in (
      record {
        later = q.0;
        begun = q.1;
        none = none_left (steps_of p.number q.0) (steps_of p.number r.0) none;
      },
      record {
        later = r.0;
        begun = r.1;
        none = none_right (steps_of p.number q.0) (steps_of p.number r.0) none;
      },
    )

-- the longest of what some parties have seen
record Longest (log : List BookStep) (ps : List Party) : Type 0 where
  m : List BookStep
  within : IsPrefix m log
  after : (q : Party) → Among q ps → IsPrefix q.seen m
  whose : (q : Party) × Among q ps × (m ≡ q.seen)

longest : (log : List BookStep) (p : Party) (ps : List Party) →
    ((q : Party) → Among q (p ∷ ps) → IsPrefix q.seen log) → Longest log (p ∷ ps)
longest log p [] all = record {
  m = p.seen;
  within = all p (inl refl);
  after = λ q h. ⊎_elim (λ e. subst (λ (u : Party). IsPrefix u.seen p.seen) (sym e)
      (prefix_self p.seen)) (λ h. absurd h) h;
  whose = (p, inl refl, refl);
}
longest log p (q ∷ ps) all =
    let l = longest log q ps (λ u h. all u (inr h)) in
    ⊎_elim
    (λ (less : IsPrefix p.seen l.m). record {
      m = l.m;
      within = l.within;
      after = λ u h. ⊎_elim (λ e. subst (λ (u : Party). IsPrefix u.seen l.m) (sym e) less)
          (λ h. l.after u h) h;
      whose = (l.whose.0, inr l.whose.1, l.whose.2);
    })
    (λ (more : IsPrefix l.m p.seen). record {
      m = p.seen;
      within = all p (inl refl);
      after = λ u h. ⊎_elim (λ e. subst (λ (u : Party). IsPrefix u.seen p.seen) (sym e)
          (prefix_self p.seen)) (λ h. prefix_trans u.seen l.m p.seen (l.after u h) more) h;
      whose = (p, inl refl, refl);
    })
    (prefix_either p.seen l.m log (all p (inl refl)) l.within)

-- ---- parties that have all seen one list
Has-seeing : (n : ℕ) (steps : List BookStep) (ps : List Party) →
    Has number_of n (all_seeing steps ps) → Has number_of n ps
Has-seeing n steps [] h = h
Has-seeing n steps (p ∷ ps) h = ⊎_elim (λ e. inl e) (λ t. inr (Has-seeing n steps ps t)) h

Distinct-seeing : (steps : List BookStep) (ps : List Party) → Distinct number_of ps →
    Distinct number_of (all_seeing steps ps)
Distinct-seeing steps [] d = d
Distinct-seeing steps (p ∷ ps) d =
    ((λ h. d.0 (Has-seeing p.number steps ps h)), Distinct-seeing steps ps d.1)

before_seeing : (steps : List BookStep) (q : Party) (ps : List Party) →
    Among q (all_seeing steps ps) → (p : Party) × Among p ps × (q ≡ party p.number steps)
before_seeing steps q [] h = absurd h
before_seeing steps q (p ∷ ps) h =
    ⊎_elim (λ e. (p, inl refl, e)) (λ t. let r = before_seeing steps q ps t in (r.0, inr r.1, r.2))
    h

sits_seeing : (made : ℕ) (log whole steps : List BookStep) (seat_of : ℕ → ℕ) (seat : ℕ)
    (ps : List Party) → Sit number_of (Agrees made log) seat_of seat ps
    → ((p : Party) → Among p ps → Began whole (party p.number steps)) →
    Sit number_of (Agrees made whole) seat_of seat (all_seeing steps ps)
sits_seeing made log whole steps seat_of seat ps s began = record {
  apart = Distinct-seeing steps ps s.apart;
  each = λ q h.
      let r = before_seeing steps q ps h in
      let e = s.each r.0 r.1 in
      subst (λ (u : Party). (seat_of u.number ≡ seat) × Agrees made whole u) (sym r.2)
      (e.0, record { numbered = e.1.numbered; began = began r.0 r.1 });
}

-- ---- the moves
pub begins : Kept (book [] 0 ∷ [])
begins = record {
  book = 0;
  made = 0;
  seat_of = λ n. 0;
  log = [];
  fresh = λ n no. refl;
  fits = each_one (Fits 0 0 (λ n. 0) []) (book [] 0)
      ((λ is. (refl, refl, refl)), sitting.nobody_sits number_of (Agrees 0 []) (λ n. 0) 0);
}

module _ (views : List View) (k : Kept views) (id : ℕ) (v : View)
    (at : get_elem? views id ≡ some v) where
  -- the parties have other seats
  reseat : (next : List View) → (seat_of : ℕ → ℕ) × Each (Fits k.book k.made seat_of k.log) next →
      Kept next
  reseat next r = record {
    book = k.book;
    made = k.made;
    seat_of = r.0;
    log = k.log;
    fresh = k.fresh;
    fits = r.1;
  }

  -- one view becomes another that fits
  refit : (w : View) → Fits k.book k.made k.seat_of k.log id w → Kept (set views id w)
  refit w fit = reseat (set views id w) (
    k.seat_of,
    each_set (Fits k.book k.made k.seat_of k.log) views id w (λ j u _ e. k.fits j u e)
        fit,
  )

  pub admits : v.keeps ≡ true → Kept (set views id (admitting v) ++ admitted v ∷ [])
  admits keeps =
      let here = (k.fits id v at).0 keeps in
      let made = k.made + 1 in
      let r = sitting.admits number_of (λ (u : View). u.parties) (Agrees k.made k.log)
      (Agrees made k.log) (Keeps k.book made k.log) k.seat_of views id v (admitting v)
      (admitted v)
      (party (v.made + 1) []) at
      (λ j u e. (k.fits j u e).1)
      (λ j u other e is. absurd (other (((k.fits j u e).0 is).0 ∙ sym here.0)))
      (λ q a same. let le = a.numbered.1 in let m = here.2 in
      let n : q.number ≡ v.made + 1 = same in absurd (omega arith))
      (λ q a. record {
        numbered = (a.numbered.0, let le = a.numbered.1 in omega arith);
        began = a.began;
      })
      record {
        numbered = (omega arith, let m = here.2 in omega arith);
        began = began_nothing (v.made + 1) k.log
            (k.fresh (v.made + 1) (λ is. let le = is.1 in let m = here.2 in omega arith));
      }
      refl refl
      (λ is. (here.0, here.1, let m = here.2 in omega arith))
      (λ seat is. off is) in
      record {
        book = k.book;
        made = made;
        seat_of = r.0;
        log = k.log;
        fresh = λ n no. k.fresh n (λ is. no (is.0, let le = is.1 in omega arith));
        fits = r.1;
      }

  pub leaves : v.keeps ≡ false → Kept (set views id nobody ++ v ∷ [])
  leaves plain = reseat (set views id nobody ++ v ∷ [])
      (sitting.leaves number_of (Agrees k.made k.log) (λ (u : View). u.parties)
      (Keeps k.book k.made k.log) k.seat_of views id v nobody at k.fits refl (λ is. off is)
      (λ seat is. off (sym plain ∙ is)))

  pub boards : (other : ℕ) (w : View) → other ≢ id →
      get_elem? (set views id (boarded v w)) other ≡ some w →
      Kept (set (set views id (boarded v w)) other nobody)
  boards other w apart there = reseat (set (set views id (boarded v w)) other nobody)
      (sitting.boards number_of (Agrees k.made k.log) (λ (u : View). u.parties)
      (Keeps k.book k.made k.log) k.seat_of views id other v w (boarded v w) nobody at apart
      there k.fits refl refl
      (k.fits id v at).0 (λ is. off is))

  pub alights : Kept (set views id (without_first v) ++ first_alone v ∷ [])
  alights = reseat (set views id (without_first v) ++ first_alone v ∷ [])
      (sitting.alights number_of (Agrees k.made k.log) (λ (u : View). u.parties)
      (Keeps k.book k.made k.log) k.seat_of views id v (without_first v) (first_alone v)
      at k.fits refl refl
      (k.fits id v at).0 (λ seat is. off is))

  all_began : AllBegan k.log v.parties
  all_began p h = ((k.fits id v at).1.each p h).1.began

  pub counts : v.keeps ≡ true → Kept (set views id v) × AreCounted v.parties v.made v.all
  counts keeps =
      let f = k.fits id v at in
      let here = f.0 keeps in (
        refit v f,
        record {
          began = λ p h. subst (λ l. Began l p) (sym here.1) (all_began p h);
          apart = different v.parties f.1.apart;
          only = λ whole. subst (AreOf (numbers_of v.parties)) (sym here.1)
              (only_these k.made k.log v.parties f.1.apart
              (λ p h. (f.1.each p h).1.numbered) k.fresh (whole ∙ here.2));
        },
      )

  pub compares : Kept (set views id v) × HaveSeenOne v.parties
  compares = (
    refit v (k.fits id v at),
    λ p q h i. prefix_either p.seen q.seen k.log (began_prefix k.log p (all_began p h))
        (began_prefix k.log q (all_began q i)),
  )

  pub informs : v.keeps ≡ true → Kept (set views id (informed v)) × AllBegan v.all v.parties
  informs keeps =
      let f = k.fits id v at in
      let here = f.0 keeps in (
        refit (informed v) (
          f.0,
          sits_seeing k.made k.log k.log v.all k.seat_of id v.parties f.1
              (λ p h. subst (λ l. Began k.log (party p.number l)) (sym here.1)
              (began_whole p.number k.log)),
        ),
        λ p h. subst (λ l. Began l p) (sym here.1) (all_began p h),
      )

  pub meets : (p : Party) (ps : List Party) → v.parties ≡ p ∷ ps →
      (w : View) × Kept (set views id w) × Met v w
  meets p ps is =
      let f = k.fits id v at in
      let l = longest k.log p ps (λ q h. began_prefix k.log q
      (all_began q (subst (λ l. Among q l) (sym is) h))) in
      let between : (q : Party) → Among q v.parties →
      Began l.m q × Began k.log (party q.number l.m) =
      λ q h. began_between k.log l.m q (all_began q h) (l.after q (subst (λ l. Among q l) is h))
      l.within in
      let w : View = record {
        keeps = v.keeps;
        all = v.all;
        made = v.made;
        parties = all_seeing l.m v.parties;
      } in (
        w,
        refit w (
          f.0,
          sits_seeing k.made k.log k.log l.m k.seat_of id v.parties f.1
              (λ q h. (between q h).1),
        ),
        record {
          longest = l.m;
          seen = refl;
          began = λ q h. (between q h).0;
          whose = (l.whose.0, subst (λ qs. Among l.whose.0 qs) (sym is) l.whose.1, l.whose.2);
          apart = f.1.apart;
        },
      )

  pub tallies : v.keeps ≡ true → (step : BookStep) → IsTold step v.parties →
      Kept (set views id (tallied step v)) × AllBegan v.all v.parties
  tallies keeps step told =
      let f = k.fits id v at in
      let here = f.0 keeps in
      let log = k.log ++ step ∷ [] in
      let same : v.all ++ step ∷ [] ≡ log = ap (λ l. l ++ step ∷ []) here.1 in
      let whose : (n : ℕ) → concerns n step ≡ true → k.seat_of n ≡ id =
      λ n is. let r = sitting.party_with number_of n v.parties (told n is) in
      ap k.seat_of (sym r.2) ∙ (f.1.each r.0 r.1).0 in (
        record {
          book = k.book;
          made = k.made;
          seat_of = k.seat_of;
          log = log;
          fresh = λ n no. none_more n k.log step
              (λ is. let r = sitting.party_with number_of n v.parties (told n is) in
              no (subst (IsNumber k.made) r.2 (f.1.each r.0 r.1).1.numbered))
              (k.fresh n no);
          fits = each_set (Fits k.book k.made k.seat_of log) views id (tallied step v)
              (λ j u other e. let g = k.fits j u e in (
                (λ is. absurd (other ((g.0 is).0 ∙ sym here.0))),
                sitting.sits_on number_of (Agrees k.made k.log) (Agrees k.made log) k.seat_of j
                    u.parties
                    (λ p h at_j a. record {
                      numbered =
                          a.numbered;
                      began = began_more k.log step p
                          (λ is. other (sym at_j ∙ whose p.number is)) a.began;
                    }) g.1,
              )) (
                (λ is. (here.0, same, here.2)),
                sits_seeing k.made k.log log (v.all ++ step ∷ []) k.seat_of id v.parties f.1
                    (λ p h. subst (λ l. Began log (party p.number l)) (sym same)
                    (began_whole p.number log)),
              );
        },
        λ p h. subst (λ l. Began l p) (sym here.1) (all_began p h),
      )

-- ---- a guest with a host
-- whose step it is, where a client took it
pub told_one : (step : BookStep) (n : ℕ) (seen : List BookStep) → step.client ≡ Some n →
    IsTold step (party n seen ∷ [])
told_one step n seen is m its =
    let same : (n == m) ≡ true = sym (ap (is_client m) is) ∙ its in
    inl (grind (arith, nat_tests, same))

-- where nobody did
pub told_none : (step : BookStep) → step.client ≡ None → IsTold step []
told_none step is m its = off (sym (ap (is_client m) is) ∙ its)

pub with_book : (m b g : View) (n : ℕ) (seen : List BookStep) → m ≡ boarded b g →
    b ≡ book b.all b.made → g ≡ client n seen → m ≡ hosting b.all b.made (party n seen ∷ [])
with_book m b g n seen is is_book is_client =
    is ∙ (ap (λ u. boarded u g) is_book ∙ ap (λ u. boarded (book b.all b.made) u) is_client)

-- a crowd that stands with the book's seat
pub with_crowd : (m b g : View) (all : List BookStep) (made : ℕ) (ps : List Party) →
    m ≡ boarded b g → b ≡ book all made → g ≡ alone ps → m ≡ hosting all made ps
with_crowd m b g all made ps is is_book is_alone =
    is ∙ (ap (λ u. boarded u g) is_book ∙ (ap (λ u. boarded (book all made) u) is_alone ∙
    ap (hosting all made) (append-nil ps)))

pub with_other : (m a b : View) (n k : ℕ) (seen heard : List BookStep) → m ≡ boarded a b →
    a ≡ client n seen → b ≡ client k heard → m ≡ alone (party k heard ∷ party n seen ∷ [])
with_other m a b n k seen heard is is_one is_other =
    is ∙ (ap (λ u. boarded u b) is_one ∙ ap (λ u. boarded (client n seen) u) is_other)

-- a client's own steps, once a step of its own was added to the history
pub mine_tallied : (all : List BookStep) (step : BookStep) (n : ℕ) (seen : List BookStep) →
    step.client ≡ Some n → Began all (party n seen) →
    steps_of n (all ++ step ∷ []) ≡ steps_of n seen ++ step ∷ []
mine_tallied all step n seen is b =
    let its : concerns n step ≡ true = ap (is_client n) is ∙ eq-eqb n n refl in
    filter-append (concerns n) all (step ∷ []) ∙
    (ap (λ l. l ++ cond (concerns n step) (step ∷ []) []) (began_same all (party n seen) b) ∙
    ap (λ c. steps_of n seen ++ cond c (step ∷ []) []) its)

-- of two lists, and of one that one of them is and both begin
pub longer_of : (one other longest : List BookStep) (n k : ℕ) →
    AllBegan longest (party k other ∷ party n one ∷ []) →
    (p : Party) × Among p (party k other ∷ party n one ∷ []) × (longest ≡ p.seen) →
    IsLonger one other longest
longer_of one other longest n k began whose = record {
  begins_one = began_prefix longest (party n one) (began (party n one) (inr (inl refl)));
  begins_other = began_prefix longest (party k other) (began (party k other) (inl refl));
  either = ⊎_elim (λ (e : whose.0 ≡ party k other). inr (whose.2 ∙ ap (λ (u : Party). u.seen) e))
      (λ h. ⊎_elim (λ (e : whose.0 ≡ party n one). inl (whose.2 ∙ ap (λ (u : Party). u.seen) e))
      (λ h. absurd h) h) whose.1;
}

-- what two clients know once they have met
pub record HaveMet (l : View) (n k : ℕ) (seen heard longest : List BookStep) : Type 0 where
  pub one : without_first l ≡ client n longest
  pub other : first_alone l ≡ client k longest
  pub longer : IsLonger seen heard longest
  pub mine : steps_of n longest ≡ steps_of n seen
  pub others : steps_of k longest ≡ steps_of k heard
  pub apart : n ≢ k

pub have_met : (m l : View) (n k : ℕ) (seen heard : List BookStep) →
    m ≡ alone (party k heard ∷ party n seen ∷ []) → (t : Met m l) →
    HaveMet l n k seen heard t.longest
have_met m l n k seen heard is t =
    let after : l ≡ alone (party k t.longest ∷ party n t.longest ∷ []) =
    t.seen ∙ ap (λ (u : View). record {
      keeps =
          u.keeps;
      all = u.all;
      made = u.made;
      parties = all_seeing t.longest u.parties;
    }) is in
    let began = subst (λ (u : View). AllBegan t.longest u.parties) is t.began in
    let whose = subst (λ (u : View). (p : Party) × Among p u.parties × (t.longest ≡ p.seen)) is
    t.whose in
    let apart = subst (λ (u : View). Distinct number_of u.parties) is t.apart in
    record {
      one = ap without_first after;
      other = ap first_alone after;
      longer = longer_of seen heard t.longest n k began whose;
      mine = began_same t.longest (party n seen) (began (party n seen) (inr (inl refl)));
      others = began_same t.longest (party k heard) (began (party k heard) (inl refl));
      apart = λ same. apart.0 (inl same);
    }
