-- A catalog in four shelves keeps the laws of shelves.
use Rattle.std.proofs.Common.{◌≡◌, ℕ, zero, suc, ◌≤◌, ◌↔◌, List, [], ◌∷◌, ◌++◌, length, refl, sym}
use Rattle.std.proofs.Common.{◌∙◌, Some, slice_get}
use Rattle.std.proofs.Common.{ap, subst}
use Rattle.calls.specs.declared.call.Call.{Call}
use Rattle.calls.specs.declared.reply.Reply.{Reply}
use Rattle.calls.specs.declared.refusal.Refusal.{Refusal}
use Rattle.calls.specs.Contents.{Content, Collection, Answers, after, kind_of_content}
use Rattle.calls.specs.Contents.{AnswersAt, after_at}
use Rattle.boosted.specs.Kinds.{IsOf}
use Rattle.catalog.specs.declared.four.Four.{Four}
use Rattle.catalog.specs.Fours.{Which, First, Second, Third, Fourth, which_of, quarter, pick, put}
use Rattle.catalog.specs.Meaning.{catalog_meaning, catalog_making}
use Rattle.catalog.specs.Places.{At, Misplaced}
use Rattle.catalog.specs.Woven.{Label, ShelfContent, On, MisplacedOn, IsHeld, shelf_meaning, woven}
use Rattle.catalog.specs.Woven.{Fits, AreWoven, with_at, weave}
use Rattle.catalog.specs.Shelving.{ShelfLaws}
use Rattle.catalog.specs.Laws.Weaving.{Lists, four, left, there_join, there_only, to_answers}
use Rattle.catalog.specs.Laws.Weaving.{from_answers, leaves_join, names_join, labels_join}
use Rattle.catalog.specs.Laws.Weaving.{gets_join}
use Rattle.catalog.specs.Laws.Weaving.{short_join, within_each, within_all, more, grows_join}

-- what the four shelves hold
abbrev pub lists : Four ShelfContent → Lists
lists f = four f.first.held f.second.held f.third.held f.fourth.held

abbrev woven_of : List Label → Lists → List Collection
woven_of xs l = weave xs l.first l.second l.third l.fourth

held_in : (f : Four ShelfContent) (w : Which) → pick (lists f) w ≡ (pick f w).held
held_in f First = refl
held_in f Second = refl
held_in f Third = refl
held_in f Fourth = refl

abbrev shelf : ShelfContent → List Content → ShelfContent
shelf s held = record s { held = held }

lists_put : (f : Four ShelfContent) (w : Which) (held : List Content) →
    lists (put f w (shelf (pick f w) held)) ≡ put (lists f) w held
lists_put f First held = refl
lists_put f Second held = refl
lists_put f Third held = refl
lists_put f Fourth held = refl

index_put : (f : Four ShelfContent) (w : Which) (held : List Content) (v : Which) →
    (pick (put f w (shelf (pick f w) held)) v).index ≡ (pick f v).index
index_put f First held First = refl
index_put f First held v = refl
index_put f Second held Second = refl
index_put f Second held v = refl
index_put f Third held Third = refl
index_put f Third held v = refl
index_put f Fourth held Fourth = refl
index_put f Fourth held v = refl

module _ (xs : List Label) (f : Four ShelfContent) (fits : Fits xs f) (at : ℕ) where
  abbrev here : Which
  here = which_of at

  module _ (P : Content → Type 0) where
    on_join : On P (pick f here) at → At (λ x. P x.content) (woven xs f) at
    on_join h = there_join P xs f.first.held f.second.held f.third.held f.fourth.held at fits.are
        (subst (λ l. At P l (quarter at)) (sym (held_in f here)) h.1)

    on_only : At (λ x. P x.content) (woven xs f) at → On P (pick f here) at
    on_only h = (
      sym (fits.placed here),
      subst (λ l. At P l (quarter at)) (held_in f here)
          (there_only P xs f.first.held f.second.held f.third.held f.fourth.held at h),
    )

  abbrev Has : Content → Content → Type 0
  Has k c = c ≡ k

  -- what is at a place, as the member there
  has_at : (k : Content) (s : List Collection) (p : ℕ) (x : Collection) → x.content ≡ k →
      slice_get s p ≡ Some x → At (λ y. Has k y.content) s p
  has_at k [] p x same is = absurd (cc)
  has_at k (y ∷ s) zero x same is = let found : y ≡ x = cc in ap (λ (z : Collection). z.content) found ∙ same
  has_at k (y ∷ s) (suc p) x same is = has_at k s p x same is

  at_has : (k : Content) (l : List Content) (p : ℕ) → At (Has k) l p → slice_get l p ≡ Some k
  at_has k [] p has = absurd has
  at_has k (c ∷ l) zero has = ap Some has
  at_has k (c ∷ l) (suc p) has = at_has k l p has

  held_here : (x : Collection) → slice_get (woven xs f) at ≡ Some x →
      IsHeld (pick f here) at x.content
  held_here x is =
      let on = on_only (Has x.content) (has_at x.content (woven xs f) at x refl is) in
      (on.0, at_has x.content (pick f here).held (quarter at) on.1)

  answers_join : (c : Call) (r : Reply) →
      AnswersAt (woven xs f) at c r ↔ On (λ x. Answers x c r) (pick f here) at
  answers_join c r = (
    λ h. on_only (λ x. Answers x c r) (from_answers c r (woven xs f) at h),
    λ h. to_answers c r (woven xs f) at (on_join (λ x. Answers x c r) h),
  )

  abbrev after_there : Call → Reply → Four ShelfContent
  after_there c r = put f here (shelf_meaning.leaves (pick f here) at c r)

  left_lists : (c : Call) (r : Reply) →
      lists (after_there c r) ≡ left c r (lists f) here (quarter at)
  left_lists c r = lists_put f here (with_at (λ x. after x c r) (pick f here).held (quarter at)) ∙
      ap (λ l. put (lists f) here (with_at (λ x. after x c r) l (quarter at)))
      (sym (held_in f here))

  leave : (c : Call) (r : Reply) → after_at (woven xs f) at c r ≡ woven xs (after_there c r)
  leave c r = (leaves_join c r xs f.first.held f.second.held f.third.held f.fourth.held at
      fits.are).is ∙ ap (woven_of xs) (sym (left_lists c r))

  stay : (c : Call) (r : Reply) → Fits xs (after_there c r)
  stay c r = record {
    are = subst (λ (l : Lists). AreWoven xs l.first l.second l.third l.fourth)
        (sym (left_lists c r))
        (leaves_join c r xs f.first.held f.second.held f.third.held f.fourth.held at fits.are).fits;
    placed = λ w.
        index_put f here (with_at (λ x. after x c r) (pick f here).held (quarter at)) w ∙
        fits.placed w;
  }

  misplace : (c : Call) (e : Refusal) → MisplacedOn (pick f here) at c e →
      Misplaced (woven xs f) at c e
  misplace c Refusal.NoSuchCollection h =
      short_join xs f.first.held f.second.held f.third.held f.fourth.held at fits.are
      (subst (λ (l : List Content). length l ≤ quarter at) (sym (held_in f here))
      (h (sym (fits.placed here))))
  misplace c Refusal.WrongKind h = on_join (λ x. IsOf (kind_of_content x) c → ⊥) h
  misplace c e h = absurd h

module _ (xs : List Label) (f : Four ShelfContent) (fits : Fits xs f) (n : ℕ) where
  reach_each : (w : Which) → catalog_meaning.within (woven xs f) n →
      shelf_meaning.within (pick f w) n
  reach_each First h = (within_each n xs f.first.held f.second.held f.third.held f.fourth.held
      fits.are h).0
  reach_each Second h = (within_each n xs f.first.held f.second.held f.third.held f.fourth.held
      fits.are h).1
  reach_each Third h = (within_each n xs f.first.held f.second.held f.third.held f.fourth.held
      fits.are h).2
  reach_each Fourth h = (within_each n xs f.first.held f.second.held f.third.held f.fourth.held
      fits.are h).3

  reach : catalog_meaning.within (woven xs f) n ↔ ((w : Which) → shelf_meaning.within (pick f w) n)
  reach = (
    λ h w. reach_each w h,
    λ h. within_all n xs f.first.held f.second.held f.third.held f.fourth.held
        (h First, h Second, h Third, h Fourth),
  )

-- One collection more, at the end of the shelf whose turn it is.
module _ (y : Label) (k : Content) (same : kind_of_content k ≡ y.kind) (xs : List Label)
    (f : Four ShelfContent) (fits : Fits xs f) where
  abbrev turn : Which
  turn = which_of (length xs)

  abbrev pub with_more : Four ShelfContent
  with_more = put f turn (shelf (pick f turn) ((pick f turn).held ++ k ∷ []))

  more_lists : lists with_more ≡ more y k same (lists f) turn
  more_lists = lists_put f turn ((pick f turn).held ++ k ∷ []) ∙
      ap (λ l. put (lists f) turn (l ++ k ∷ [])) (sym (held_in f turn))

  pub more_is : woven (xs ++ y ∷ []) with_more ≡
      woven xs f ++ record { name = y.name; content = k } ∷ []
  more_is = ap (woven_of (xs ++ y ∷ [])) more_lists ∙
      (grows_join y k same xs f.first.held f.second.held f.third.held f.fourth.held fits.are).is

  pub more_fits : Fits (xs ++ y ∷ []) with_more
  more_fits = record {
    are = subst (λ (l : Lists). AreWoven (xs ++ y ∷ []) l.first l.second l.third l.fourth)
        (sym more_lists)
        (grows_join y k same xs f.first.held f.second.held f.third.held f.fourth.held
        fits.are).fits;
    placed = λ w. index_put f turn ((pick f turn).held ++ k ∷ []) w ∙ fits.placed w;
  }

pub catalog_shelves : ShelfLaws (λ labels. labels) woven Fits catalog_meaning catalog_making
    (λ s. s) shelf_meaning (λ s. s.index) IsHeld
catalog_shelves = record {
  placed = λ n f w fits. fits.placed w;
  names = λ n f fits. names_join n f.first.held f.second.held f.third.held f.fourth.held fits.are;
  named = λ n f fits. labels_join n f.first.held f.second.held f.third.held f.fourth.held fits.are;
  holds_there = λ n f at x k fits is holds.
      gets_join x k n f.first.held f.second.held f.third.held f.fourth.held at fits.are is
      (subst (λ (l : List Content).
      slice_get l (quarter at) ≡ Some k)
      (sym (held_in f (which_of at))) holds.1);
  holds_here = λ n f at x fits is. held_here n f fits at x is;
  answers = λ n f at c r fits. answers_join n f fits at c r;
  leaves = λ n f at c r fits h. leave n f fits at c r;
  stays = λ n f at c r fits h. stay n f fits at c r;
  belongs = λ n f at c fits. (
    on_only n f fits at (λ x. IsOf (kind_of_content x) c),
    on_join n f fits at (λ x. IsOf (kind_of_content x) c),
  );
  misplaced = λ n f at c e fits. misplace n f fits at c e;
  within = λ n f k fits. reach n f fits k;
}
