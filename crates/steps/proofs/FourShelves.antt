-- Four shelves: what one of them holds, what all hold, and what a change of one does.
use Rattle.std.proofs.Common.{◌≡◌, ◌≢◌, ℕ, ◌≤◌, ◌⊎◌, inl, inr, ⊎_elim, List, ◌++◌, Contains, refl}
use Rattle.std.proofs.Common.{sym}
use Rattle.std.proofs.Common.{◌∙◌, ap, subst}
use Rattle.std.specs.List.{AllByRecursion}
use Rattle.std.proofs.lemmas.List.Elements.{Contains-append_left, Contains-append_right}
use Rattle.std.proofs.lemmas.List.Elements.{Contains-append_cases, All-contains}
use Rattle.std.proofs.lemmas.List.Elements.{All-contains_itself, All-weaker, recursion_from_All}
use Rattle.std.proofs.lemmas.List.Elements.{All-from_recursion}
use mathlib.Core.Logic.{dite}
use native.Mathlib.Decide.{ℕ_discrete}
use Rattle.calls.specs.declared.need.Need.{Need}
use Rattle.calls.specs.declared.refusal.Refusal.{Refusal}
use Rattle.abstract_locks.specs.declared.table.Hold.{Hold}
use Rattle.abstract_locks.specs.Holds.{Blocks, IsClear, IsBusy, IsBusyRefusal, IsAdded, IsGivenUp}
use Rattle.steps.specs.Shelves.{ShelfState}
use Rattle.catalog.specs.declared.four.Four.{Four}
use Rattle.catalog.specs.Fours.{Which, First, Second, Third, Fourth, rank, which_of, pick, put}
use Rattle.catalog.specs.Laws.Numbers.{pick_put}
use Rattle.steps.specs.Wholes.{contents, all_holds, AreShelved}

pub rank_is : (v w : Which) → rank v ≡ rank w → v ≡ w
rank_is v w same = back v ∙ ap which_of same ∙ sym (back w)
  where
    back : (v : Which) → v ≡ which_of (rank v)
    back First = refl
    back Second = refl
    back Third = refl
    back Fourth = refl

pub pick_other : {T : Type 0} (f : Four T) (w v : Which) (x : T) → (rank v ≡ rank w → ⊥) →
    pick (put f w x) v ≡ pick f v
pick_other f First First x other = absurd (other refl)
pick_other f First Second x other = refl
pick_other f First Third x other = refl
pick_other f First Fourth x other = refl
pick_other f Second First x other = refl
pick_other f Second Second x other = absurd (other refl)
pick_other f Second Third x other = refl
pick_other f Second Fourth x other = refl
pick_other f Third First x other = refl
pick_other f Third Second x other = refl
pick_other f Third Third x other = absurd (other refl)
pick_other f Third Fourth x other = refl
pick_other f Fourth First x other = refl
pick_other f Fourth Second x other = refl
pick_other f Fourth Third x other = refl
pick_other f Fourth Fourth x other = absurd (other refl)

-- What holds of the one that changed and of each other one, holds of each.
pub by_shelf : {T : Type 0} (f : Four T) (w : Which) (x : T) (P : Which → T → Type 0) → P w x →
    ((v : Which) → (v ≡ w → ⊥) → P v (pick f v)) → (v : Which) → P v (pick (put f w x) v)
by_shelf f w x P here there v = dite (ℕ_discrete (rank v) (rank w))
    (λ same. subst (λ u. P u (pick (put f w x) u)) (sym (rank_is v w same))
    (subst (P w) (sym (pick_put f w x)) here))
    (λ other. subst (P v) (sym (pick_other f w v x other)) (there v (λ is. other (ap rank is))))

-- Four that are each the same are the same.
pub four_same : {T : Type 0} (f g : Four T) → ((w : Which) → pick f w ≡ pick g w) → f ≡ g
four_same f g same = λ i. record {
  first = same First i;
  second = same Second i;
  third = same Third i;
  fourth = same Fourth i;
}

-- What holds of each element holds of all.
pub each_held : {X : Type 0} (P : X → Type 0) (xs : List X) →
    ((x : X) → Contains xs x → P x) → AllByRecursion P xs
each_held P xs held = recursion_from_All P xs
    (All-weaker (Contains xs) P held xs (All-contains_itself xs))

pub held_each : {X : Type 0} (P : X → Type 0) (xs : List X) → AllByRecursion P xs → (x : X) →
    Contains xs x → P x
held_each P xs all x there = All-contains P xs x (All-from_recursion P xs all) there

module _ {T : Type 0} where
  pub contents_put : (f : Four (ShelfState T)) (w : Which) (t : ShelfState T) →
      contents (put f w t) ≡ put (contents f) w t.now
  contents_put f First t = refl
  contents_put f Second t = refl
  contents_put f Third t = refl
  contents_put f Fourth t = refl

  pub contents_pick : (f : Four (ShelfState T)) (w : Which) → pick (contents f) w ≡ (pick f w).now
  contents_pick f First = refl
  contents_pick f Second = refl
  contents_pick f Third = refl
  contents_pick f Fourth = refl

  -- What is held on a shelf is held, and what is held is held on one.
  pub held_in : (f : Four (ShelfState T)) (w : Which) (h : Hold) → Contains (pick f w).holds h →
      Contains (all_holds f) h
  held_in f First h there = Contains-append_left f.first.holds _ h there
  held_in f Second h there = Contains-append_right f.first.holds _ h
      (Contains-append_left f.second.holds _ h there)
  held_in f Third h there = Contains-append_right f.first.holds _ h
      (Contains-append_right f.second.holds _ h (Contains-append_left f.third.holds _ h there))
  held_in f Fourth h there = Contains-append_right f.first.holds _ h
      (Contains-append_right f.second.holds _ h
      (Contains-append_right f.third.holds f.fourth.holds h there))

  pub held_on : (f : Four (ShelfState T)) (h : Hold) → Contains (all_holds f) h →
      (w : Which) × Contains (pick f w).holds h
  held_on f h there = ⊎_elim (λ a. (First, a)) (λ rest. ⊎_elim (λ b. (Second, b))
      (λ more. ⊎_elim (λ c. (Third, c)) (λ d. (Fourth, d))
      (Contains-append_cases f.third.holds f.fourth.holds h more))
      (Contains-append_cases f.second.holds _ h rest))
      (Contains-append_cases f.first.holds _ h there)

  -- ---- one more hold on a shelf, and holds given up on each

  module _ (f : Four (ShelfState T)) (w : Which) (t : ShelfState T) where
    pub added_join : (x : Hold) → IsAdded (pick f w).holds t.holds x →
        IsAdded (all_holds f) (all_holds (put f w t)) x
    added_join x added h = (
      λ there. let on = held_on (put f w t) h there in
          by_shelf f w t
          (λ v s. Contains s.holds h → Contains (all_holds f) h ⊎ (h ≡ x))
          (λ here. ⊎_elim (λ old. inl (held_in f w h old)) (λ is. inr is) ((added h).0 here))
          (λ v other old. inl (held_in f v h old)) on.0 on.1,
      λ or. ⊎_elim
          (λ there. let on = held_on f h there in
          held_in (put f w t) on.0 h
          (by_shelf f w t (λ v s. Contains (pick f v).holds h → Contains s.holds h)
          (λ here. (added h).1 (inl here)) (λ v other old. old) on.0 on.1))
          (λ is. held_in (put f w t) w h (subst (λ (s : ShelfState T). Contains s.holds h)
          (sym (pick_put f w t)) ((added h).1 (inr is)))) or,
    )

    -- The holds stay on their own collections.
    pub added_own : AreShelved f → (x : Hold) → which_of x.at ≡ w →
        IsAdded (pick f w).holds t.holds x → AreShelved (put f w t)
    added_own own x on added = by_shelf f w t
        (λ v s. AllByRecursion (λ h. which_of h.at ≡ v) s.holds)
        (each_held (λ h. which_of h.at ≡ w) t.holds (λ h there.
        ⊎_elim (λ old. held_each (λ h. which_of h.at ≡ w) (pick f w).holds (own w) h old)
        (λ (is : h ≡ x). ap (λ (h : Hold). which_of h.at) is ∙ on) ((added h).0 there)))
        (λ v other. own v)

    -- Nothing changes of holds.
    pub same_holds : t.holds ≡ (pick f w).holds → all_holds (put f w t) ≡ all_holds f
    same_holds same = by w same
      where
        by : (w : Which) → t.holds ≡ (pick f w).holds → all_holds (put f w t) ≡ all_holds f
        by First is = ap (λ l. l ++ (f.second.holds ++ (f.third.holds ++ f.fourth.holds))) is
        by Second is = ap (λ l. f.first.holds ++ (l ++ (f.third.holds ++ f.fourth.holds))) is
        by Third is = ap (λ l. f.first.holds ++ (f.second.holds ++ (l ++ f.fourth.holds))) is
        by Fourth is = ap (λ l. f.first.holds ++ (f.second.holds ++ (f.third.holds ++ l))) is

    pub same_own : AreShelved f → t.holds ≡ (pick f w).holds → AreShelved (put f w t)
    same_own own same = by_shelf f w t (λ v s. AllByRecursion (λ h. which_of h.at ≡ v) s.holds)
        (subst (AllByRecursion (λ h. which_of h.at ≡ w)) (sym same) (own w)) (λ v other. own v)

  module _ (f g : Four (ShelfState T)) (n : ℕ)
      (given : (w : Which) → IsGivenUp (pick f w).holds (pick g w).holds n) where
    pub given_join : IsGivenUp (all_holds f) (all_holds g) n
    given_join h = (
      λ there. let on = held_on g h there in
          let old = (given on.0 h).0 on.1 in
          (held_in f on.0 h old.0, old.1),
      λ (old : Contains (all_holds f) h × (h.owner ≢ n)). let on = held_on f h old.0 in
          held_in g on.0 h ((given on.0 h).1 (on.1, old.1)),
    )

    pub given_own : AreShelved f → AreShelved g
    given_own own w = each_held (λ h. which_of h.at ≡ w) (pick g w).holds (λ h there.
        held_each (λ h. which_of h.at ≡ w) (pick f w).holds (own w) h ((given w h).0 there).0)

  -- ---- what is in the way

  module _ (f : Four (ShelfState T)) (own : AreShelved f) (n at : ℕ) (need : Need)
      (s : ShelfState T) (is : pick f (which_of at) ≡ s) where
    -- What is in the way of a need is held on the shelf of its collection.
    blocks_here : (h : Hold) → Contains (all_holds f) h → Blocks n at need h → Contains s.holds h
    blocks_here h there blocks =
        let on = held_on f h there in
        let here : on.0 ≡ which_of at =
        sym (held_each (λ h. which_of h.at ≡ on.0) (pick f on.0).holds (own on.0) h on.1) ∙
        ap which_of blocks.1 in
        subst (λ (s : ShelfState T). Contains s.holds h) (ap (pick f) here ∙ is) on.1

    pub clear_in : IsClear s.holds n at need → IsClear (all_holds f) n at need
    clear_in clear = All-weaker (Contains (all_holds f)) (λ h. Blocks n at need h → ⊥)
        (λ h there blocks. All-contains (λ h. Blocks n at need h → ⊥) s.holds h clear
        (blocks_here h there blocks) blocks) (all_holds f) (All-contains_itself (all_holds f))

    busy_one : (m : ℕ) → IsBusy s.holds n at need m → IsBusy (all_holds f) n at need m
    busy_one m busy =
        let at' = busy.blocked in
        let h = at'.1 in
        let there = held_in f (which_of at) h (subst (λ (s : ShelfState T). Contains s.holds h)
        (sym is) (at'.0, at'.2, at'.3)) in
        record {
          blocked = (there.0, h, there.1, there.2, at'.4);
          least = All-weaker (Contains (all_holds f)) (λ h. Blocks n at need h → m ≤ h.owner)
              (λ h there blocks. All-contains (λ h. Blocks n at need h → m ≤ h.owner) s.holds h
              busy.least (blocks_here h there blocks) blocks) (all_holds f)
              (All-contains_itself (all_holds f));
        }

    pub busy_in : (e : Refusal) → IsBusyRefusal s.holds n at need e →
        IsBusyRefusal (all_holds f) n at need e
    busy_in (Refusal.Busy m) busy = busy_one m busy
    busy_in e busy = absurd busy
