-- The laws of a shelf, from those of the list of its collections, at the quarters of their numbers.
use Rattle.std.proofs.Common.{◌≡◌, ℕ, zero, suc, ◌+◌, Option, Some, None}
use Rattle.std.proofs.Common.{List}
use Rattle.std.proofs.Common.{[], ◌∷◌, map, refl, sym, ◌∙◌, ap, subst, MatchOption}
use Rattle.std.specs.List.{AllByRecursion}
use Rattle.calls.specs.declared.call.Call.{Call}
use Rattle.calls.specs.declared.reply.Reply.{Reply}
use Rattle.calls.specs.Rules.{left_by, inverse_of, Askable}
use Rattle.calls.specs.Rules.{Disposable}
use Rattle.calls.specs.Contents.{Content, Answers, after, Collection, AnswersAt, after_at}
use Rattle.calls.specs.Contents.{kind_of_content}
use Rattle.boosted.specs.Kinds.{IsOf}
use Rattle.boosted.specs.Meaning.{Apart, Does}
use Rattle.boosted.specs.Laws.{ContentLaws, BoostedLaws, ChangePlaces}
use Rattle.catalog.specs.Fours.{which_of, quarter}
use Rattle.catalog.specs.Meaning.{catalog_meaning}
use Rattle.catalog.specs.Places.{At, Belongs, Reaches, IsWithin}
use Rattle.catalog.specs.Woven.{ShelfContent, with_at, shelf_meaning}
use Rattle.catalog.specs.Laws.Numbers.{same_number}
use Rattle.catalog.specs.Laws.Catalogs.{catalog_laws}

-- the collections of a shelf, all of one name
abbrev unnamed : List Content → List Collection
unnamed = map (λ x. record { name = []; content = x })

abbrev listed : ShelfContent → List Collection
listed s = unnamed s.held

back : (xs : List Content) → map (λ (x : Collection). x.content) (unnamed xs) ≡ xs
back [] = refl
back (x ∷ xs) = ap (λ l. x ∷ l) (back xs)

abbrev shelf : ShelfContent → List Content → ShelfContent
shelf s held = record s { held = held }

-- Shelves of one place with the same collections are the same.
same_shelf : (s t : ShelfContent) → s.index ≡ t.index → listed s ≡ listed t → s ≡ t
same_shelf s t index e =
    ap (λ w. shelf (record s { index = w }) s.held) index ∙
    ap (λ l. shelf t l)
    (sym (back s.held) ∙ ap (map (λ (x : Collection). x.content)) e ∙ back t.held)

module _ (c : Call) (r : Reply) where
  to_list : (xs : List Content) (p : ℕ) → At (λ x. Answers x c r) xs p →
      AnswersAt (unnamed xs) p c r
  to_list [] p h = h
  to_list (x ∷ xs) zero h = h
  to_list (x ∷ xs) (suc p) h = to_list xs p h

  from_list : (xs : List Content) (p : ℕ) → AnswersAt (unnamed xs) p c r →
      At (λ x. Answers x c r) xs p
  from_list [] p h = h
  from_list (x ∷ xs) zero h = h
  from_list (x ∷ xs) (suc p) h = from_list xs p h

  left_list : (xs : List Content) (p : ℕ) →
      unnamed (with_at (λ x. after x c r) xs p) ≡ after_at (unnamed xs) p c r
  left_list [] p = refl
  left_list (x ∷ xs) zero = refl
  left_list (x ∷ xs) (suc p) = ap (λ l. record { name = []; content = x } ∷ l) (left_list xs p)

to_belongs : (xs : List Content) (p : ℕ) (c : Call) → At (λ x. IsOf (kind_of_content x) c) xs p →
    Belongs (unnamed xs) p c
to_belongs [] p c h = h
to_belongs (x ∷ xs) zero c h = h
to_belongs (x ∷ xs) (suc p) c h = to_belongs xs p c h

from_belongs : (xs : List Content) (p : ℕ) (c : Call) → Belongs (unnamed xs) p c →
    At (λ x. IsOf (kind_of_content x) c) xs p
from_belongs [] p c h = h
from_belongs (x ∷ xs) zero c h = h
from_belongs (x ∷ xs) (suc p) c h = from_belongs xs p c h

to_within : (xs : List Content) (n : ℕ) → AllByRecursion (λ x. Reaches x n) xs →
    IsWithin (unnamed xs) n
to_within [] n w = tt
to_within (x ∷ xs) n w = (w.0, to_within xs n w.1)

from_within : (xs : List Content) (n : ℕ) → IsWithin (unnamed xs) n →
    AllByRecursion (λ x. Reaches x n) xs
from_within [] n w = tt
from_within (x ∷ xs) n w = (w.0, from_within xs n w.1)

abbrev Shows : ShelfContent → ℕ → Call → Reply → Type 0
Shows s at c r = shelf_meaning.answers s at c r

abbrev left : ShelfContent → ℕ → Call → Reply → ShelfContent
left s at c r = shelf_meaning.leaves s at c r

abbrev OnList : List Collection → ℕ → Call → Reply → Type 0
OnList l at c r = AnswersAt l (quarter at) c r

-- A call on the shelf is one on the list, and leads to the same.
answered : (s : ShelfContent) (at : ℕ) (c : Call) (r : Reply) → Shows s at c r →
    OnList (listed s) at c r
answered s at c r h = to_list c r s.held (quarter at) h.1

left_is : (s : ShelfContent) (at : ℕ) (c : Call) (r : Reply) →
    listed (left s at c r) ≡ after_at (listed s) (quarter at) c r
left_is s at c r = left_list c r s.held (quarter at)

-- What is answered on a list that stands for the shelf is answered there.
shown : (s : ShelfContent) (l : List Collection) (at : ℕ) (c : Call) (r : Reply) →
    which_of at ≡ s.index → listed s ≡ l → OnList l at c r → Shows s at c r
shown s l at c r here is h =
    (here, from_list c r s.held (quarter at) (subst (λ v. OnList v at c r) (sym is) h))

done : (s t : ShelfContent) (at : ℕ) (c : Call) (r : Reply) → Does shelf_meaning s at c r t →
    Does catalog_meaning (listed s) (quarter at) c r (listed t)
done s t at c r d = (answered s at c r d.0, ap listed d.1 ∙ left_is s at c r)

-- A way of the list from a shelf is one of the shelf.
module _ (s : ShelfContent) (l m : List Collection) (at : ℕ) (c : Call) (r : Reply)
    (here : which_of at ≡ s.index) (is : listed s ≡ l)
    (d : Does catalog_meaning l (quarter at) c r m) where
  leads : listed (left s at c r) ≡ m
  leads = left_is s at c r ∙ ap (λ v. after_at v (quarter at) c r) is ∙ sym d.1

  does_so : Does shelf_meaning s at c r (left s at c r)
  does_so = (shown s l at c r here is d.0, refl)

-- Numbers of one shelf are the same where their quarters are.
same_quarter : (s : ShelfContent) (at bt : ℕ) → which_of at ≡ s.index → which_of bt ≡ s.index →
    quarter at ≡ quarter bt → at ≡ bt
same_quarter s at bt a b = same_number at bt (a ∙ sym b)

-- Two calls of the shelf that are apart are apart on the list.
apart_there : (s : ShelfContent) (at bt : ℕ) (a : Call) (ra : Reply) (b : Call) (rb : Reply) →
    which_of at ≡ s.index → which_of bt ≡ s.index → Apart at a ra bt b rb →
    Apart (quarter at) a ra (quarter bt) b rb
apart_there s at bt a ra b rb here there apart q = apart (same_quarter s at bt here there q)

-- They change places on the shelf where they do on the list.
changed : (s : ShelfContent) (at bt : ℕ) (a : Call) (ra : Reply) (b : Call) (rb : Reply) →
    ((Apart (quarter at) a ra (quarter bt) b rb) →
    ChangePlaces catalog_meaning (listed s) (quarter at) a ra (quarter bt) b rb) →
    Apart at a ra bt b rb → ChangePlaces shelf_meaning s at a ra bt b rb
changed s at bt a ra b rb law apart m t da db =
    let here = da.0.0 in
    let there : which_of bt ≡ s.index = db.0.0 ∙ ap (λ v. v.index) da.1 in
    let w = law (apart_there s at bt a ra b rb here there apart) (listed m) (listed t)
    (done s m at a ra da) (done m t bt b rb db) in
    let u = left s bt b rb in
    let is : listed u ≡ w.0 = leads s (listed s) w.0 bt b rb there refl w.1 in
    let end : listed (left u at a ra) ≡ listed t = leads u w.0 (listed t) at a ra here is w.2 in (
      u,
      does_so s (listed s) w.0 bt b rb there refl w.1,
      (
        shown u w.0 at a ra here is w.2.0,
        sym (same_shelf (left u at a ra) t
            (sym (ap (λ v. v.index) db.1 ∙ ap (λ v. v.index) da.1)) end),
      ),
    )

-- What is taken back on the shelf is taken back on the list, and the other way round.
abbrev Back : Option Call → ShelfContent → ℕ → ShelfContent → Type 0
Back o t at s = MatchOption o (s ≡ t)
    (λ back. (reply : Reply) × Does shelf_meaning t at back reply s)

abbrev BackOnList : Option Call → List Collection → ℕ → List Collection → Type 0
BackOnList o t at s = MatchOption o (s ≡ t)
    (λ back. (reply : Reply) × Does catalog_meaning t (quarter at) back reply s)

back_there : (o : Option Call) (t s : ShelfContent) (at : ℕ) → Back o t at s →
    BackOnList o (listed t) at (listed s)
back_there None t s at h = ap listed h
back_there (Some c) t s at h = (h.0, done t s at c h.0 h.1)

back_here : (o : Option Call) (t s : ShelfContent) (at : ℕ) → which_of at ≡ t.index →
    s.index ≡ t.index → BackOnList o (listed t) at (listed s) → Back o t at s
back_here None t s at here index h = same_shelf s t index h
back_here (Some c) t s at here index h = (
  h.0,
  (
    shown t (listed t) at c h.0 here refl h.1.0,
    same_shelf s (left t at c h.0) index
        (sym (leads t (listed t) (listed s) at c h.0 here refl h.1)),
  ),
)

index_back : (o : Option Call) (t s : ShelfContent) (at : ℕ) → Back o t at s → s.index ≡ t.index
index_back None t s at h = ap (λ v. v.index) h
index_back (Some c) t s at h = ap (λ v. v.index) h.1.1

-- What is Done on the list that stands for a shelf is Done there.
module _ (s : ShelfContent) (l : List Collection) (at : ℕ) (here : which_of at ≡ s.index)
    (is : listed s ≡ l) where
  all_shown : (ds : List Call) → AllByRecursion (λ d. OnList l at d Reply.Done) ds →
      AllByRecursion (λ d. Shows s at d Reply.Done) ds
  all_shown [] h = tt
  all_shown (d ∷ ds) h = (shown s l at d Reply.Done here is h.0, all_shown ds h.1)

-- A later that is Done stays so past the undoing of a call that is apart from it.
module _ (s u : ShelfContent) (at bt : ℕ) (c : Call) (r : Reply) (d : Call) (ask : Askable c)
    (late : Disposable d) (apart : Apart at c r bt d Reply.Done) (k : Shows s bt d Reply.Done) where
  by_inverse : (o : Option Call) → inverse_of c r ≡ o → Back o s at u → Shows u bt d Reply.Done
  by_inverse None e h = subst (λ v. Shows v bt d Reply.Done) (sym h) k
  by_inverse (Some b) e h =
      shown u (listed u) bt d Reply.Done (k.0 ∙ sym (index_back (Some b) s u at h)) refl
      ((catalog_laws.holds (listed s)).stays_past_undoing (listed u) (quarter at) (quarter bt) c r d
      ask late (apart_there s at bt c r d Reply.Done h.1.0.0 k.0 apart)
      (subst (λ o. BackOnList o (listed s) at (listed u)) (sym e) (back_there (Some b) s u at h))
      (answered s bt d Reply.Done k))

shelf_content : (s : ShelfContent) → ContentLaws shelf_meaning s
shelf_content s = let laws = catalog_laws.holds (listed s) in record {
  goes_back = λ t at c r ask d.
      let here : which_of at ≡ t.index = d.0.0 ∙ sym (ap (λ v. v.index) d.1) in
      let way = laws.goes_back (listed t) (quarter at) c r ask (done s t at c r d) in (
        back_here (inverse_of c r) t s at here (sym (ap (λ v. v.index) d.1)) way.0,
        λ u h. same_shelf u s (index_back (inverse_of c r) t u at h ∙ ap (λ v. v.index) d.1)
            (way.1 (listed u) (back_there (inverse_of c r) t u at h)),
      );
  commutes = λ at bt a ra b rb ask also. changed s at bt a ra b rb
      (laws.commutes (quarter at) (quarter bt) a ra b rb ask also);
  moves_left = λ at bt a ra b rb ask late. changed s at bt a ra b rb
      (laws.moves_left (quarter at) (quarter bt) a ra b rb ask late);
  reads_leave = λ at c r reads h. same_shelf (left s at c r) s refl
      (left_is s at c r ∙ laws.reads_leave (quarter at) c r reads (answered s at c r h));
  answered_belongs = λ at c r h. (
    h.0,
    from_belongs s.held (quarter at) c
        (laws.answered_belongs (quarter at) c r (answered s at c r h)),
  );
  wears = λ n at c r w h. from_within (left s at c r).held (n + 1)
      (subst (λ l. IsWithin l (n + 1)) (sym (left_is s at c r))
      (laws.wears n (quarter at) c r (to_within s.held n w) (answered s at c r h)));
  deferred_is_ready = λ at d b l. shown s (listed s) at d Reply.Done b.0 refl
      (laws.deferred_is_ready (quarter at) d (to_belongs s.held (quarter at) d b.1) l);
  deferred_stays_ready = λ at bt c r d l h k.
      shown (left s at c r) (after_at (listed s) (quarter at) c r) bt d Reply.Done k.0
      (left_is s at c r)
      (laws.deferred_stays_ready (quarter at) (quarter bt) c r d l (answered s at c r h)
      (answered s bt d Reply.Done k));
  leaves_ready = λ at c r h.
      all_shown (left s at c r) (after_at (listed s) (quarter at) c r) at h.0 (left_is s at c r)
      (left_by c r) (laws.leaves_ready (quarter at) c r (answered s at c r h));
  stays_past_calls = λ at bt c r d ask l h k.
      shown (left s at c r) (after_at (listed s) (quarter at) c r) bt d Reply.Done k.0
      (left_is s at c r)
      (laws.stays_past_calls (quarter at) (quarter bt) c r d ask l (answered s at c r h)
      (answered s bt d Reply.Done k));
  stays_past_laters = λ at bt b d m l other h k.
      shown (left s at b Reply.Done) (after_at (listed s) (quarter at) b Reply.Done) bt d
      Reply.Done k.0 (left_is s at b Reply.Done)
      (laws.stays_past_laters (quarter at) (quarter bt) b d m l
      (λ q. other (same_quarter s at bt h.0 k.0 q)) (answered s at b Reply.Done h)
      (answered s bt d Reply.Done k));
  stays_past_undoing = λ u at bt c r d ask l apart h k.
      by_inverse s u at bt c r d ask l apart k (inverse_of c r) refl h;
}

pub shelf_laws : BoostedLaws shelf_meaning
shelf_laws = record { starts_within = tt; holds = shelf_content }
