-- The laws of a queue's calls.
use Rattle.std.proofs.Common.{◌≡◌, ℕ, ◌+◌, ◌-◌, ◌<◌, ◌⊎◌, refl, sym, ◌∙◌, ap, subst, inr, ⊎_elim}
use Rattle.std.proofs.Common.{arith}
use Rattle.calls.specs.declared.call.Call.{Call}
use Rattle.calls.specs.declared.reply.Reply.{Reply}
use Rattle.calls.specs.declared.need.Mode.{Mode}
use Rattle.calls.specs.Rules.{need_of, Apart, inverse_of, Undoes, Askable}
use Rattle.calls.specs.Bags.{Bag, copies, add, take_out}
use Rattle.calls.specs.Queues.{IsLeast, IsEmpty, Row, Answers, after, does}
use Rattle.calls.proofs.Local.{IsLocal, Agree, Swapped, Joins, ranged, commutes, swapped}
use Rattle.calls.proofs.BagPoints.{pair_cases, copies-add, copies-add_other, copies-take_out}
use Rattle.calls.proofs.BagPoints.{copies-take_out_other, same_bag}

-- how often each tag is there at a priority
abbrev cell : Bag → ℕ → ℕ → ℕ
cell q p = λ g. copies q (p, g)

same : (s t : Bag) → ((p : ℕ) → cell s p ≡ cell t p) → s ≡ t
same s t e = same_bag s t (λ x. ap (λ f. f x.1) (e x.0))

-- two changes of a bag, from what they leave at each pair
one_pair : (s t : Bag) (x : ℕ × ℕ) → ((z : ℕ × ℕ) → z ≡ x → copies s z ≡ copies t z) →
    ((z : ℕ × ℕ) → (z ≡ x → ⊥) → copies s z ≡ copies t z) → s ≡ t
one_pair s t x at off = same_bag s t (λ z. ⊎_elim (at z) (off z) (pair_cases z x))

pub add_take_out : (s : Bag) (x : ℕ × ℕ) → s ≡ take_out (add s x) x
add_take_out s x = one_pair s _ x
    (λ z e. let a = copies-add s x z e in let b = copies-take_out (add s x) x z e in omega arith)
    (λ z e. sym (copies-take_out_other (add s x) x z e ∙ copies-add_other s x z e))

pub take_out_add : (s : Bag) (x : ℕ × ℕ) → 0 < copies s x → s ≡ add (take_out s x) x
take_out_add s x h = one_pair s _ x
    (λ z e. let a = copies-take_out s x z e in let b = copies-add (take_out s x) x z e in
    let k : 0 < copies s z = subst (λ y. 0 < copies s y) (sym e) h in omega arith)
    (λ z e. sym (copies-add_other (take_out s x) x z e ∙ copies-take_out_other s x z e))

pub add_add : (s : Bag) (x y : ℕ × ℕ) → add (add s x) y ≡ add (add s y) x
add_add s x y = same_bag _ _ (λ z. ⊎_elim
    (λ (ex : z ≡ x). ⊎_elim
    (λ (ey : z ≡ y). copies-add (add s x) y z ey ∙
    ap (λ n. n + 1) (copies-add s x z ex ∙ sym (copies-add s y z ey)) ∙
    sym (copies-add (add s y) x z ex))
    (λ (ey : z ≡ y → ⊥). copies-add_other (add s x) y z ey ∙ copies-add s x z ex ∙
    ap (λ n. n + 1) (sym (copies-add_other s y z ey)) ∙ sym (copies-add (add s y) x z ex))
    (pair_cases z y))
    (λ (ex : z ≡ x → ⊥). ⊎_elim
    (λ (ey : z ≡ y). copies-add (add s x) y z ey ∙ ap (λ n. n + 1) (copies-add_other s x z ex) ∙
    sym (copies-add s y z ey) ∙ sym (copies-add_other (add s y) x z ex))
    (λ (ey : z ≡ y → ⊥). copies-add_other (add s x) y z ey ∙ copies-add_other s x z ex ∙
    sym (copies-add_other s y z ey) ∙ sym (copies-add_other (add s y) x z ex))
    (pair_cases z y))
    (pair_cases z x))

off_key : (k p g h : ℕ) → (k < p) ⊎ (p < k) → ◌≡◌ {A = ℕ × ℕ} (k, h) (p, g) → ⊥
off_key k p g h d e = let n : k ≡ p = ap (λ x. x.0) e in
    ⊎_elim (λ l. omega arith) (λ l. omega arith) d

off : (s : Bag) (c : Call) (r : Reply) (k : ℕ) →
    (k < (need_of c r).low) ⊎ ((need_of c r).high < k) → Row s c r → cell (after s c r) k ≡ cell s k
off s (Call.QueueAdd p g) Reply.Done k d a =
    λ i h. copies-add_other s (p, g) (k, h) (off_key k p g h d) i
off s Call.Take (Reply.Item p g) k d a =
    λ i h. copies-take_out_other s (p, g) (k, h)
    (off_key k p g h (⊎_elim (λ l. absurd (omega arith)) inr d)) i
off s (Call.Pluck p g) Reply.Done k d a =
    λ i h. copies-take_out_other s (p, g) (k, h) (off_key k p g h d) i
off s Call.Take Reply.Nothing k d a = refl
off s Call.Least r k d a = refl
off s c r k d a = absurd a

still_least : (s t : Bag) (p g : ℕ) → Agree cell (need_of Call.Take (Reply.Item p g)) s t →
    IsLeast s p g → IsLeast t p g
still_least s t p g e a = record {
  there = subst (λ n. 0 < n) (ap (λ f. f g) (e p (omega arith) (omega arith))) a.there;
  no_lower = λ k h l. sym (ap (λ f. f h) (e k (omega arith) (omega arith))) ∙ a.no_lower k h l;
  no_earlier = λ h l. sym (ap (λ f. f h) (e p (omega arith) (omega arith))) ∙ a.no_earlier h l;
}

still_empty : (s t : Bag) → Agree cell (need_of Call.Take Reply.Nothing) s t → IsEmpty s → IsEmpty t
still_empty s t e a p g l k = sym (ap (λ f. f g) (e p (omega arith) l)) ∙ a p g l k

answers : (s t : Bag) (c : Call) (r : Reply) → Agree cell (need_of c r) s t → Row s c r → Row t c r
answers s t (Call.QueueAdd p g) Reply.Done e a = tt
answers s t Call.Take (Reply.Item p g) e a = still_least s t p g e a
answers s t Call.Least (Reply.Item p g) e a = still_least s t p g e a
answers s t Call.Take Reply.Nothing e a = still_empty s t e a
answers s t Call.Least Reply.Nothing e a = still_empty s t e a
answers s t (Call.Pluck p g) Reply.Done e a =
    subst (λ n. 0 < n) (ap (λ f. f g) (e p (omega arith) (omega arith))) a
answers s t c r e a = absurd a

add_alike : (s t : Bag) (x : ℕ × ℕ) (k : ℕ) → cell s k ≡ cell t k →
    cell (add s x) k ≡ cell (add t x) k
add_alike s t x k e = λ i h. (⊎_elim
    (λ (z : (k, h) ≡ x). copies-add s x (k, h) z ∙ ap (λ f. f h + 1) e ∙
    sym (copies-add t x (k, h) z))
    (λ (z : (k, h) ≡ x → ⊥). copies-add_other s x (k, h) z ∙ ap (λ f. f h) e ∙
    sym (copies-add_other t x (k, h) z))
    (pair_cases (k, h) x)) i

take_out_alike : (s t : Bag) (x : ℕ × ℕ) (k : ℕ) → cell s k ≡ cell t k →
    cell (take_out s x) k ≡ cell (take_out t x) k
take_out_alike s t x k e = λ i h. (⊎_elim
    (λ (z : (k, h) ≡ x). copies-take_out s x (k, h) z ∙ ap (λ f. f h - 1) e ∙
    sym (copies-take_out t x (k, h) z))
    (λ (z : (k, h) ≡ x → ⊥). copies-take_out_other s x (k, h) z ∙ ap (λ f. f h) e ∙
    sym (copies-take_out_other t x (k, h) z))
    (pair_cases (k, h) x)) i

on : (s t : Bag) (c : Call) (r : Reply) → Agree cell (need_of c r) s t → Row s c r →
    Agree cell (need_of c r) (after s c r) (after t c r)
on s t (Call.QueueAdd p g) Reply.Done e a k l u = add_alike s t (p, g) k (e k l u)
on s t Call.Take (Reply.Item p g) e a k l u = take_out_alike s t (p, g) k (e k l u)
on s t (Call.Pluck p g) Reply.Done e a k l u = take_out_alike s t (p, g) k (e k l u)
on s t Call.Take Reply.Nothing e a k l u = e k l u
on s t Call.Least r e a k l u = e k l u
on s t c r e a k l u = absurd a

reads : (s : Bag) (c : Call) (r : Reply) → (need_of c r).mode ≡ Mode.Read → Row s c r →
    after s c r ≡ s
reads s (Call.QueueAdd p g) Reply.Done m a = cc
reads s Call.Take (Reply.Item p g) m a = cc
reads s (Call.Pluck p g) Reply.Done m a = cc
reads s Call.Take Reply.Nothing m a = refl
reads s Call.Least r m a = refl
reads s c r m a = absurd a

-- A call that only reads changes nothing.
pub queue_reads : (s : Bag) (c : Call) (r : Reply) → (need_of c r).mode ≡ Mode.Read →
    Answers s c r → after s c r ≡ s
queue_reads s c r m h = reads s c r m h.1

-- only those that add join
joins_next : (s : Bag) (p g : ℕ) (b : Call) (rb : Reply) → Joins (need_of b rb).mode →
    Row (add s (p, g)) b rb → Swapped Row after s (Call.QueueAdd p g) Reply.Done b rb
joins_next s p g (Call.QueueAdd k h) Reply.Done m a = (tt, tt, add_add s (p, g) (k, h))
joins_next s p g Call.Take (Reply.Item k h) m a = absurd m
joins_next s p g (Call.Pluck k h) Reply.Done m a = absurd m
joins_next s p g Call.Take Reply.Nothing m a = absurd m
joins_next s p g Call.Least (Reply.Item k h) m a = absurd m
joins_next s p g Call.Least Reply.Nothing m a = absurd m
joins_next s p g b rb m a = absurd a

joins : (s : Bag) (a : Call) (ra : Reply) (b : Call) (rb : Reply) → Askable a →
    Joins (need_of a ra).mode → Joins (need_of b rb).mode → Row s a ra → Row (after s a ra) b rb →
    Swapped Row after s a ra b rb
joins s (Call.QueueAdd p g) Reply.Done b rb ask ma mb ha hb = joins_next s p g b rb mb hb
joins s Call.Take (Reply.Item k h) b rb ask ma mb ha hb = absurd ma
joins s (Call.Pluck k h) Reply.Done b rb ask ma mb ha hb = absurd ma
joins s Call.Take Reply.Nothing b rb ask ma mb ha hb = absurd ma
joins s Call.Least (Reply.Item k h) b rb ask ma mb ha hb = absurd ma
joins s Call.Least Reply.Nothing b rb ask ma mb ha hb = absurd ma
joins s a ra b rb ask ma mb ha hb = absurd ha

local : IsLocal Row after cell
local = record { same = same; off = off; answers = answers; on = on; reads = reads; joins = joins }

-- Calls of a queue whose needs do not conflict commute.
pub queue_commutes : (s m t : Bag) (a : Call) (ra : Reply) (b : Call) (rb : Reply) →
    Askable a → Apart a ra b rb → does s a ra m → does m b rb t →
    (u : Bag) × does s b rb u × does u a ra t
queue_commutes = commutes (ranged local)

-- The inverse leads back.
pub queue_back : (s t : Bag) (c : Call) (r : Reply) → Askable c → does s c r t →
    Undoes does inverse_of t c r s
queue_back s t (Call.QueueAdd p g) Reply.Done k d = (
  Reply.Done,
  (
    (d.0.0, rw d.1 (let a = copies-add s (p, g) (p, g) refl in omega arith)),
    add_take_out s (p, g) ∙ ap (λ v. take_out v (p, g)) (sym d.1),
  ),
)
queue_back s t Call.Take (Reply.Item p g) k d = (
  Reply.Done,
  (
    ((d.0.0.1, tt), tt),
    take_out_add s (p, g) d.0.1.there ∙ ap (λ v. add v (p, g)) (sym d.1),
  ),
)
queue_back s t Call.Take Reply.Nothing k d = sym d.1
queue_back s t Call.Least (Reply.Item p g) k d = sym d.1
queue_back s t Call.Least Reply.Nothing k d = sym d.1
queue_back s t (Call.Pluck p g) r k d = absurd k
queue_back s t c r k d = absurd d.0.1

-- What undoes a call has one reply.
add_end : (t u v : Bag) (p g : ℕ) (q r : Reply) → does t (Call.QueueAdd p g) q u →
    does t (Call.QueueAdd p g) r v → u ≡ v
add_end t u v p g q r d e = d.1 ∙ sym e.1

pluck_end : (t u v : Bag) (p g : ℕ) (q r : Reply) → does t (Call.Pluck p g) q u →
    does t (Call.Pluck p g) r v → u ≡ v
pluck_end t u v p g q r d e = d.1 ∙ sym e.1

-- It leads nowhere else.
pub queue_back_only : (s t u : Bag) (c : Call) (r : Reply) → Askable c → does s c r t →
    Undoes does inverse_of t c r u → u ≡ s
queue_back_only s t u (Call.QueueAdd p g) Reply.Done k d back =
    let b = queue_back s t (Call.QueueAdd p g) Reply.Done k d in
    pluck_end t u s p g back.0 b.0 back.1 b.1
queue_back_only s t u Call.Take (Reply.Item p g) k d back =
    let b = queue_back s t Call.Take (Reply.Item p g) k d in add_end t u s p g back.0 b.0 back.1 b.1
queue_back_only s t u Call.Take Reply.Nothing k d back = back ∙ d.1
queue_back_only s t u Call.Least (Reply.Item p g) k d back = back ∙ d.1
queue_back_only s t u Call.Least Reply.Nothing k d back = back ∙ d.1
queue_back_only s t u (Call.Pluck p g) r k d back = absurd k
queue_back_only s t u c r k d back = absurd d.0.1

pub queue_swapped : (s : Bag) (a : Call) (ra : Reply) (b : Call) (rb : Reply) → Askable a →
    Apart a ra b rb → Answers s a ra → Answers (after s a ra) b rb →
    Swapped Answers after s a ra b rb
queue_swapped = swapped (ranged local)
