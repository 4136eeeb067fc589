-- The laws of a list of collections, from those of each: what commutes, and how a call is undone.
use Rattle.std.proofs.Common.{◌≡◌, ℕ, zero, suc, ℤ, List, [], ◌∷◌, refl, ◌∙◌, ap, subst, ◌+ℤ◌}
use Rattle.std.proofs.Common.{neg_ℤ, ◌<◌, Some, MatchOption, sym, arith}
use Rattle.calls.specs.declared.call.Call.{Call}
use Rattle.calls.specs.declared.reply.Reply.{Reply}
use Rattle.calls.specs.Rules.{Apart, Askable, inverse_of, undone_by}
use Rattle.calls.specs.Counters as counters
use Rattle.calls.specs.Stocks as stocks
use Rattle.calls.specs.Contents.{Content, InSet, InMap, InQueue, InCounter, InPool, InStock}
use Rattle.calls.specs.Contents.{InQuotas}
use Rattle.calls.specs.Contents.{Answers, after, Collection, AnswersAt, after_at, does}
use Rattle.calls.proofs.Local.{Swapped}
use Rattle.calls.proofs.SetLaws.{set_swapped, add_remove, remove_add}
use Rattle.calls.proofs.MapLaws.{map_swapped, put_back, put_remove, remove_put}
use Rattle.calls.proofs.QueueLaws.{queue_swapped, add_take_out, take_out_add}
use Rattle.calls.proofs.PoolLaws.{pool_swapped}
use Rattle.calls.proofs.CounterLaws.{counter_commutes, back_again, neg_step}
use Rattle.calls.proofs.StockLaws.{stock_commutes, spent_back, filled_back}
use Rattle.calls.proofs.QuotaLaws as quota_laws
use Rattle.std.proofs.lemmas.Int.{ints}
use Rattle.calls.specs.Bags.{Bag, copies, add}
use Rattle.calls.proofs.Points.{in_insert, in_remove, get_insert, get_remove}
use Rattle.calls.proofs.BagPoints.{copies-add}

-- Where b and then a lead to where a and then b did, both may change places.
module _ {C : Type 0} (Answered : C → Call → Reply → Type 0) (left : C → Call → Reply → C) where
  turned : (s t u : C) (a : Call) (ra : Reply) (b : Call) (rb : Reply) →
      Answered s b rb × (u ≡ left s b rb) → Answered u a ra × (t ≡ left u a ra) →
      left (left s a ra) b rb ≡ t → Swapped Answered left s a ra b rb
  turned s t u a ra b rb db da is = (
    db.0,
    subst (λ v. Answered v a ra) db.1 da.0,
    is ∙ da.1 ∙ ap (λ v. left v a ra) db.1,
  )

part_swapped : (s : Content) (a : Call) (ra : Reply) (b : Call) (rb : Reply) → Askable a →
    Apart a ra b rb → Answers s a ra → Answers (after s a ra) b rb →
    Swapped Answers after s a ra b rb
part_swapped (InSet s) a ra b rb ask apart ha hb =
    let w = set_swapped s a ra b rb ask apart ha hb in
    (w.0, w.1, ap InSet w.2)
part_swapped (InMap s) a ra b rb ask apart ha hb =
    let w = map_swapped s a ra b rb ask apart ha hb in
    (w.0, w.1, ap InMap w.2)
part_swapped (InQueue s) a ra b rb ask apart ha hb =
    let w = queue_swapped s a ra b rb ask apart ha hb in (w.0, w.1, ap InQueue w.2)
part_swapped (InCounter s) a ra b rb ask apart ha hb =
    let w = counter_commutes s _ _ a ra b rb apart (ha, refl) (hb, refl) in
    let v = turned counters.Answers counters.after s _ w.0 a ra b rb w.1 w.2 refl in
    (v.0, v.1, ap InCounter v.2)
part_swapped (InPool s) a ra b rb ask apart ha hb =
    let w = pool_swapped s a ra b rb ask apart ha hb in
    (w.0, w.1, ap InPool w.2)
part_swapped (InStock s) a ra b rb ask apart ha hb =
    let w = stock_commutes s _ _ a ra b rb ask apart (ha, refl) (hb, refl) in
    let v = turned stocks.Answers stocks.after s _ w.0 a ra b rb w.1 w.2 refl in
    (v.0, v.1, ap InStock v.2)
part_swapped (InQuotas s) a ra b rb ask apart ha hb =
    let w = quota_laws.quota_swapped s a ra b rb ask apart ha hb in (w.0, w.1, ap InQuotas w.2)

swapped_at : (s : List Collection) (i j : ℕ) (a : Call) (ra : Reply) (b : Call) (rb : Reply) →
    Askable a → (i ≡ j → Apart a ra b rb) → AnswersAt s i a ra →
    AnswersAt (after_at s i a ra) j b rb →
    AnswersAt s j b rb × AnswersAt (after_at s j b rb) i a ra ×
    (after_at (after_at s i a ra) j b rb ≡ after_at (after_at s j b rb) i a ra)
swapped_at [] i j a ra b rb ask apart ha hb = absurd ha
swapped_at (x ∷ xs) zero zero a ra b rb ask apart ha hb =
    let w = part_swapped x.content a ra b rb ask (apart refl) ha hb in
    (w.0, w.1, ap (λ v. record { name = x.name; content = v } ∷ xs) w.2)
swapped_at (x ∷ xs) zero (suc j) a ra b rb ask apart ha hb = (hb, ha, refl)
swapped_at (x ∷ xs) (suc i) zero a ra b rb ask apart ha hb = (hb, ha, refl)
swapped_at (x ∷ xs) (suc i) (suc j) a ra b rb ask apart ha hb =
    let w = swapped_at xs i j a ra b rb ask (λ e. apart (ap suc e)) ha hb in
    (w.0, w.1, ap (λ v. x ∷ v) w.2)

-- A call that a client can ask, and one at another place, or whose need does not conflict, commute.
pub catalog_commutes : (s m t : List Collection) (i j : ℕ) (a : Call) (ra : Reply) (b : Call)
    (rb : Reply) → Askable a → (i ≡ j → Apart a ra b rb) → does s i a ra m → does m j b rb t →
    (u : List Collection) × does s j b rb u × does u i a ra t
catalog_commutes s m t i j a ra b rb ask apart da db =
    let w = swapped_at s i j a ra b rb ask apart da.0 (subst (λ v. AnswersAt v j b rb) da.1 db.0) in
    (after_at s j b rb, (w.0, refl), (w.1, db.1 ∙ ap (λ v. after_at v j b rb) da.1 ∙ w.2))

on_again : (s n : ℤ) → s ≡ (s +ℤ neg_ℤ n) +ℤ n
on_again s n = omega (arith, ints)

added_there : (q : Bag) (p g : ℕ) → 0 < copies (add q (p, g)) (p, g)
added_there q p g = let more = copies-add q (p, g) (p, g) refl in omega arith

-- Behind the call that takes another back, this one leads on to where it was; and behind this one,
-- that call leads back.
abbrev Undone : Content → Call → Reply → Call → Type 0
Undone s c r back =
    (Answers s back (undone_by c r) → after (after s back (undone_by c r)) c r ≡ s) ×
    (Answers s c r → Answers (after s c r) back (undone_by c r) ×
    (after (after s c r) back (undone_by c r) ≡ s))

part_undone : (s : Content) (c : Call) (r : Reply) →
    MatchOption (inverse_of c r) (Unit {0}) (λ back. Undone s c r back)
part_undone (InSet s) (Call.SetAdd x) Reply.Yes = (
  λ h. ap InSet (sym (remove_add s x h.1)),
  λ h. ((h.0, in_insert s x x refl), ap InSet (sym (add_remove s x h.1))),
)
part_undone (InSet s) (Call.SetRemove x) Reply.Yes = (
  λ h. ap InSet (sym (add_remove s x h.1)),
  λ h. ((h.0, in_remove s x x refl), ap InSet (sym (remove_add s x h.1))),
)
part_undone (InSet s) Call.Pick (Reply.Id x) = (
  λ h. ap InSet (sym (add_remove s x h.1)),
  λ h. (((h.0.1, tt), in_remove s x x refl), ap InSet (sym (remove_add s x h.1))),
)
part_undone (InMap m) (Call.Put k v) Reply.Nothing = (
  λ h. ap InMap (sym (remove_put m k v h.1)),
  λ h. ((h.0, get_insert m k v k refl), ap InMap (sym (put_remove m k v h.1))),
)
part_undone (InMap m) (Call.Put k v) (Reply.Value o) = (
  λ h. ap InMap (sym (put_back m k o v h.1)),
  λ h. ((h.0, get_insert m k v k refl), ap InMap (sym (put_back m k v o h.1))),
)
part_undone (InMap m) (Call.MapRemove k) (Reply.Value o) = (
  λ h. ap InMap (sym (put_remove m k o h.1)),
  λ h. ((h.0, get_remove m k k refl), ap InMap (sym (remove_put m k o h.1))),
)
part_undone (InQueue q) (Call.QueueAdd p g) Reply.Done = (
  λ h. ap InQueue (sym (take_out_add q (p, g) h.1)),
  λ h. ((h.0, added_there q p g), ap InQueue (sym (add_take_out q (p, g)))),
)
part_undone (InQueue q) Call.Take (Reply.Item p g) = (
  λ h. ap InQueue (sym (add_take_out q (p, g))),
  λ h. (((h.0.1, tt), tt), ap InQueue (sym (take_out_add q (p, g) h.1.there))),
)
part_undone (InCounter s) (Call.Bump n) Reply.Done = (
  λ h. ap InCounter (sym (on_again s n)),
  λ h. (((neg_step n h.0.0, tt), tt), ap InCounter (sym (back_again s n))),
)
part_undone (InPool s) Call.Draw (Reply.Id x) = (
  λ h. ap InPool (sym (remove_add s x h.1)),
  λ h. (((h.0.1, tt), in_insert s x x refl), ap InPool (sym (add_remove s x h.1))),
)
part_undone (InStock s) (Call.Spend n) Reply.Yes = (
  λ h. ap InStock (sym (filled_back s n)),
  λ h. (((h.0.0, tt), tt), ap InStock (sym (spent_back s n h.1))),
)
part_undone (InQuotas q) (Call.QuotaSpend k n) Reply.Yes = (
  λ h. ap InQuotas (sym (quota_laws.spent_back q k n)),
  λ h. ((h.0, tt), ap InQuotas (sym (quota_laws.given_back q k n h.1))),
)
part_undone (InQuotas q) (Call.QuotaFill k n) Reply.Done = (
  λ h. ap InQuotas (sym (quota_laws.given_back q k n h.1)),
  λ h. ((h.0, quota_laws.filled_there q k n), ap InQuotas (sym (quota_laws.spent_back q k n))),
)
part_undone s (Call.SetAdd x) Reply.Yes = (λ h. absurd h.1, λ h. absurd h.1)
part_undone s (Call.SetRemove x) Reply.Yes = (λ h. absurd h.1, λ h. absurd h.1)
part_undone s Call.Pick (Reply.Id x) = (λ h. absurd h.1, λ h. absurd h.1)
part_undone s (Call.Put k v) Reply.Nothing = (λ h. absurd h.1, λ h. absurd h.1)
part_undone s (Call.Put k v) (Reply.Value o) = (λ h. absurd h.1, λ h. absurd h.1)
part_undone s (Call.MapRemove k) (Reply.Value o) = (λ h. absurd h.1, λ h. absurd h.1)
part_undone s (Call.QueueAdd p g) Reply.Done = (λ h. absurd h.1, λ h. absurd h.1)
part_undone s Call.Take (Reply.Item p g) = (λ h. absurd h.1, λ h. absurd h.1)
part_undone s (Call.Bump n) Reply.Done = (λ h. absurd h.1, λ h. absurd h.1)
part_undone s Call.Draw (Reply.Id x) = (λ h. absurd h.1, λ h. absurd h.1)
part_undone s (Call.Spend n) Reply.Yes = (λ h. absurd h.1, λ h. absurd h.1)
part_undone s (Call.QuotaSpend k n) Reply.Yes = (λ h. absurd h.1, λ h. absurd h.1)
part_undone s (Call.QuotaFill k n) Reply.Done = (λ h. absurd h.1, λ h. absurd h.1)
part_undone s c r = tt

-- the same of the collection at a place
abbrev UndoneAt : List Collection → ℕ → Call → Reply → Call → Type 0
UndoneAt s at c r back =
    (AnswersAt s at back (undone_by c r) →
    after_at (after_at s at back (undone_by c r)) at c r ≡ s) ×
    (AnswersAt s at c r → AnswersAt (after_at s at c r) at back (undone_by c r) ×
    (after_at (after_at s at c r) at back (undone_by c r) ≡ s))

undone_at : (s : List Collection) (at : ℕ) (c : Call) (r : Reply) (back : Call) →
    inverse_of c r ≡ Some back → UndoneAt s at c r back
undone_at [] at c r back is = (λ h. absurd h, λ h. absurd h)
undone_at (x ∷ xs) zero c r back is =
    let here = subst (λ o. MatchOption o (Unit {0}) (λ b. Undone x.content c r b)) is
    (part_undone x.content c r) in (
      λ h. ap (λ v. record { name = x.name; content = v } ∷ xs) (here.0 h),
      λ h. let there = here.1 h in (
        there.0,
        ap (λ v. record { name = x.name; content = v } ∷ xs) there.1,
      ),
    )
undone_at (x ∷ xs) (suc at) c r back is =
    let behind = undone_at xs at c r back is in (
      λ h. ap (λ v. x ∷ v) (behind.0 h),
      λ h. let there = behind.1 h in
          (there.0, ap (λ v. x ∷ v) there.1),
    )

module _ (s t : List Collection) (at : ℕ) (c : Call) (r : Reply) (back : Call)
    (is : inverse_of c r ≡ Some back) where
  -- Where the inverse leads back, answered as the call is undone, and the call gets its reply
  -- there, the call leads on.
  pub undone_leads_on : does s at back (undone_by c r) t → AnswersAt t at c r → does t at c r s
  undone_leads_on undoes answered = (
    answered,
    sym (ap (λ v. after_at v at c r) undoes.1 ∙
        (undone_at s at c r back is).0 undoes.0),
  )

  -- Where the call led on, the inverse leads back, and is answered so.
  pub done_leads_back : does t at c r s → does s at back (undone_by c r) t
  done_leads_back led = subst (λ v. does v at back (undone_by c r) t) (sym led.1)
      (let there = (undone_at t at c r back is).1 led.0 in (there.0, sym there.1))
