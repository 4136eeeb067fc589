-- Calls on four shelves, and on the whole.
use Rattle.std.proofs.Common.{◌≡◌, ℕ, ◌+◌, ◌%◌, ◌==◌, cond, eq-eqb, ne_eqb, Bool, true, false}
use Rattle.std.proofs.Common.{Option}
use Rattle.std.proofs.Common.{Some, None, MatchOption, List, [], ◌∷◌, length, refl, sym, ◌∙◌, ap}
use Rattle.std.proofs.Common.{subst, arith}
use mathlib.Core.Logic.{dite}
use native.Mathlib.Decide.{ℕ_discrete}
use Rattle.calls.specs.declared.call.Call.{Call}
use Rattle.calls.specs.declared.reply.Reply.{Reply}
use Rattle.calls.specs.Contents.{Content, Collection}
use Rattle.calls.specs.Rules.{inverse_of}
use Rattle.calls.specs.Transactions.{Event, Leads}
use Rattle.boosted.specs.Meaning as shape
use Rattle.boosted.specs.Meaning.{Meaning, Undoes}
use Rattle.steps.specs.Shelves.{Does, on_quarter}
use Rattle.catalog.specs.declared.four.Four.{Four}
use Rattle.catalog.specs.Fours.{Which, First, Second, Third, Fourth, rank, which_of, pick, put}
use Rattle.catalog.specs.Laws.Numbers.{remainder_is, pick_put, put_pick}
use Rattle.catalog.specs.Making.{Making}
use Rattle.catalog.specs.Shelving.{ShelfLaws}
use Rattle.catalog.specs.Woven.{Label}
use Rattle.steps.proofs.FourShelves.{rank_is, pick_other, four_same, by_shelf}

-- ---- the first call is one of its shelf's, and of no other

abbrev first_if : Bool → ℕ → Event → List Event → List Event
first_if b q e es = cond b (e ∷ on_quarter q es) (on_quarter q es)

first_on : (e : Event) (es : List Event) →
    on_quarter (rank (which_of e.at)) (e ∷ es) ≡ e ∷ on_quarter (rank (which_of e.at)) es
first_on e es = ap (λ b. first_if b (rank (which_of e.at)) e es)
    (eq-eqb (e.at % 4) (rank (which_of e.at)) (remainder_is e.at))

first_off : (e : Event) (es : List Event) (v : Which) → (v ≡ which_of e.at → ⊥) →
    on_quarter (rank v) (e ∷ es) ≡ on_quarter (rank v) es
first_off e es v other = ap (λ b. first_if b (rank v) e es) (ne_eqb (e.at % 4) (rank v)
    (λ same. other (sym (rank_is (which_of e.at) v (sym (remainder_is e.at) ∙ same)))))

-- ---- how many calls there are

abbrev one_if : ℕ → ℕ → ℕ
one_if m q = cond (m == q) 1 0

counted : (b : Bool) (q : ℕ) (e : Event) (es : List Event) →
    length (first_if b q e es) ≡ cond b 1 0 + length (on_quarter q es)
counted true q e es = omega arith
counted false q e es = omega arith

one_in_all : (w : Which) →
    one_if (rank w) 0 + one_if (rank w) 1 + one_if (rank w) 2 + one_if (rank w) 3 ≡ 1
one_in_all First = refl
one_in_all Second = refl
one_in_all Third = refl
one_in_all Fourth = refl

-- The shelves run all.
pub count_all : (es : List Event) →
    length (on_quarter 0 es) + length (on_quarter 1 es) + length (on_quarter 2 es) +
    length (on_quarter 3 es) ≡ length es
count_all [] = refl
count_all (e ∷ es) =
    let rest = count_all es in
    let one : one_if (e.at % 4) 0 + one_if (e.at % 4) 1 + one_if (e.at % 4) 2 +
    one_if (e.at % 4) 3 ≡ 1 =
    subst (λ m. one_if m 0 + one_if m 1 + one_if m 2 + one_if m 3 ≡ 1) (sym (remainder_is e.at))
    (one_in_all (which_of e.at)) in
    let a : length (on_quarter 0 (e ∷ es)) ≡ one_if (e.at % 4) 0 + length (on_quarter 0 es) =
    counted (e.at % 4 == 0) 0 e es in
    let b : length (on_quarter 1 (e ∷ es)) ≡ one_if (e.at % 4) 1 + length (on_quarter 1 es) =
    counted (e.at % 4 == 1) 1 e es in
    let c : length (on_quarter 2 (e ∷ es)) ≡ one_if (e.at % 4) 2 + length (on_quarter 2 es) =
    counted (e.at % 4 == 2) 2 e es in
    let d : length (on_quarter 3 (e ∷ es)) ≡ one_if (e.at % 4) 3 + length (on_quarter 3 es) =
    counted (e.at % 4 == 3) 3 e es in
    omega arith

module _ {S T N : Type 0} {meaning : Meaning S ℕ} {making : Making S}
    {collections : S → List Collection} {shelf : Meaning T ℕ} {index : T → Which}
    {holds : T → ℕ → Content → Type 0} {labels : N → List Label} {whole : N → Four T → S}
    {fits : N → Four T → Type 0}
    (shelves : ShelfLaws labels whole fits meaning making collections shelf index holds)
    (n : N) where
  -- Each shelf runs its own calls in their order: so all run in their order.
  pub runs_join : (es : List Event) (f g : Four T) → fits n f →
      ((w : Which) → Leads (Does shelf) (on_quarter (rank w) es) (pick f w) (pick g w)) →
      Leads (Does meaning) es (whole n f) (whole n g) × fits n g
  runs_join [] f g fit each =
      let same = four_same f g each in
      (ap (whole n) same, subst (fits n) same fit)
  runs_join (e ∷ es) f g fit each =
      let w = which_of e.at in
      let here = subst (λ l. Leads (Does shelf) l (pick f w) (pick g w)) (first_on e es) (each w) in
      let m = here.0 in
      let is : m ≡ shelf.leaves (pick f w) e.at e.call e.reply = here.1.1 in
      let fit' : fits n (put f w m) = subst (λ x. fits n (put f w x)) (sym is)
      (shelves.stays n f e.at e.call e.reply fit here.1.0) in
      let rest = runs_join es (put f w m) g fit'
      (by_shelf f w m (λ v x. Leads (Does shelf) (on_quarter (rank v) es) x (pick g v)) here.2
      (λ v other. subst (λ l. Leads (Does shelf) l (pick f v) (pick g v))
      (first_off e es v other) (each v))) in (
        (
          whole n (put f w m),
          (
            (shelves.answers n f e.at e.call e.reply fit).1 here.1.0,
            ap (λ x. whole n (put f w x)) is ∙
                sym (shelves.leaves n f e.at e.call e.reply fit here.1.0),
          ),
          rest.0,
        ),
        rest.1,
      )

  -- Where all can run, each shelf can run its own.
  pub runs_apart : (es : List Event) (f : Four T) (next : S) → fits n f →
      Leads (Does meaning) es (whole n f) next →
      (g : Four T) × ((w : Which) →
      Leads (Does shelf) (on_quarter (rank w) es) (pick f w) (pick g w))
  runs_apart [] f next fit runs = (f, λ w. refl)
  runs_apart (e ∷ es) f next fit runs =
      let w = which_of e.at in
      let here = (shelves.answers n f e.at e.call e.reply fit).0 runs.1.0 in
      let m = shelf.leaves (pick f w) e.at e.call e.reply in
      let rest = runs_apart es (put f w m) next
      (shelves.stays n f e.at e.call e.reply fit here)
      (subst (λ v. Leads (Does meaning) es v next)
      (runs.1.1 ∙ shelves.leaves n f e.at e.call e.reply fit here) runs.2) in (
        rest.0,
        λ v. dite (ℕ_discrete (rank v) (rank w))
            (λ same. subst
            (λ u. Leads (Does shelf) (on_quarter (rank u) (e ∷ es)) (pick f u) (pick rest.0 u))
            (sym (rank_is v w same))
            (subst (λ l. Leads (Does shelf) l (pick f w) (pick rest.0 w)) (sym (first_on e es)) (
              m,
              (here, refl),
              subst (λ x. Leads (Does shelf) (on_quarter (rank w) es) x (pick rest.0 w))
                  (pick_put f w m) (rest.1 w),
            )))
            (λ other. subst (λ l. Leads (Does shelf) l (pick f v) (pick rest.0 v))
            (sym (first_off e es v (λ is. other (ap rank is))))
            (subst (λ x. Leads (Does shelf) (on_quarter (rank v) es) x (pick rest.0 v))
            (pick_other f w v m other) (rest.1 v))),
      )

  module _ (f : Four T) (fit : fits n f) (at : ℕ) where
    abbrev here : T
    here = pick f (which_of at)

    abbrev By : {X : Type 0} → Meaning X ℕ → Option Call → X → X → Type 0
    By m o t s = MatchOption o (s ≡ t) (λ back. (reply : Reply) × shape.Does m t at back reply s)

    there_by : (o : Option Call) (t : T) → By shelf o here t →
        By meaning o (whole n f) (whole n (put f (which_of at) t)) ×
        fits n (put f (which_of at) t)
    there_by None t is =
        let same = ap (put f (which_of at)) is ∙ put_pick f (which_of at) in
        (ap (whole n) same, subst (fits n) (sym same) fit)
    there_by (Some back) t d = (
      (
        d.0,
        (
          (shelves.answers n f at back d.0 fit).1 d.1.0,
          ap (λ v. whole n (put f (which_of at) v)) d.1.1 ∙
              sym (shelves.leaves n f at back d.0 fit d.1.0),
        ),
      ),
      subst (λ v. fits n (put f (which_of at) v)) (sym d.1.1)
          (shelves.stays n f at back d.0 fit d.1.0),
    )

    here_by : (o : Option Call) (s : S) → By meaning o (whole n f) s → (t : T) × By shelf o here t
    here_by None s is = (here, refl)
    here_by (Some back) s d = (
      shelf.leaves here at back d.0,
      (d.0, ((shelves.answers n f at back d.0 fit).0 d.1.0, refl)),
    )

    -- What is undone on a shelf is undone in the whole,
    pub undoes_join : (c : Call) (r : Reply) (t : T) → Undoes shelf here at c r t →
        Undoes meaning (whole n f) at c r (whole n (put f (which_of at) t)) ×
        fits n (put f (which_of at) t)
    undoes_join c r t = there_by (inverse_of c r) t

    -- and what can be undone in the whole can be there.
    pub undoes_here : (c : Call) (r : Reply) (s : S) → Undoes meaning (whole n f) at c r s →
        (t : T) × Undoes shelf here at c r t
    undoes_here c r s = here_by (inverse_of c r) s
