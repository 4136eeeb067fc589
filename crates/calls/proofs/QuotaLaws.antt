-- The laws of the calls of quotas.
use Rattle.std.proofs.Common.{◌≡◌, ℕ, pos, ◌+◌, ◌-◌, ◌*◌, ◌^◌, ◌<◌, ◌≤◌, ◌⊎◌, refl, sym, ◌∙◌, ap}
use Rattle.std.proofs.Common.{subst}
use Rattle.std.proofs.Common.{⊎_elim, arith}
use Rattle.std.proofs.lemmas.Bool.{cases_eq}
use Rattle.std.specs.Ordering.{nat_cmp}
use Rattle.std.specs.FinMap.{empty, get-empty}
use Rattle.calls.specs.declared.call.Call.{Call}
use Rattle.calls.specs.declared.reply.Reply.{Reply}
use Rattle.calls.specs.declared.need.Mode.{Mode}
use Rattle.calls.specs.Bags.{copies_of}
use Rattle.calls.specs.Rules.{IsAmount, Askable, need_of, Apart, inverse_of, Undoes}
use Rattle.calls.specs.Quotas.{Quotas, level, with_level, IsWithin, Row, Answers, after, does}
use Rattle.calls.proofs.Local.{IsLocal, Agree, Swapped, Joins, ranged, commutes, swapped}
use Rattle.calls.proofs.QuotaPoints.{level_at, level_off, same_quotas, with_same, changed_twice}
use Rattle.calls.proofs.QuotaPoints.{changed_turned}

-- ---- one call

off_key : (p k : ℕ) → (p < k) ⊎ (k < p) → p ≡ k → ⊥
off_key p k d e = ⊎_elim (λ l. omega arith) (λ l. omega arith) d

off : (s : Quotas) (c : Call) (r : Reply) (p : ℕ) →
    (p < (need_of c r).low) ⊎ ((need_of c r).high < p) → Row s c r →
    level (after s c r) p ≡ level s p
off s (Call.QuotaSpend k n) Reply.Yes p d h = level_off s k (level s k - n) p (off_key p k d)
off s (Call.QuotaSpend k n) Reply.No p d h = refl
off s (Call.QuotaLevel k) r p d h = refl
off s (Call.QuotaFill k n) Reply.Done p d h = level_off s k (level s k + n) p (off_key p k d)
off s (Call.Refund k n) Reply.Done p d h = level_off s k (level s k + n) p (off_key p k d)
off s c r p d h = absurd h

answers : (s t : Quotas) (c : Call) (r : Reply) → Agree level (need_of c r) s t → Row s c r →
    Row t c r
answers s t (Call.QuotaSpend k n) Reply.Yes a h =
    subst (λ l. n ≤ l) (a k (omega arith) (omega arith)) h
answers s t (Call.QuotaSpend k n) Reply.No a h =
    subst (λ l. l < n) (a k (omega arith) (omega arith)) h
answers s t (Call.QuotaLevel k) (Reply.Total v) a h =
    h ∙ ap pos (a k (omega arith) (omega arith))
answers s t (Call.QuotaFill k n) Reply.Done a h = tt
answers s t (Call.Refund k n) Reply.Done a h = tt
answers s t c r a h = absurd h

-- what is left at a key depends on its amount alone
left_alike : (s t : Quotas) (k m n p : ℕ) → p ≡ k → m ≡ n →
    level (with_level s k m) p ≡ level (with_level t k n) p
left_alike s t k m n p e same = level_at s k m p e ∙ same ∙ sym (level_at t k n p e)

on : (s t : Quotas) (c : Call) (r : Reply) → Agree level (need_of c r) s t → Row s c r →
    Agree level (need_of c r) (after s c r) (after t c r)
on s t (Call.QuotaSpend k n) Reply.Yes a h p l u =
    left_alike s t k (level s k - n) (level t k - n) p (omega arith)
    (ap (λ v. v - n) (a k (omega arith) (omega arith)))
on s t (Call.QuotaSpend k n) Reply.No a h p l u = a p l u
on s t (Call.QuotaLevel k) r a h p l u = a p l u
on s t (Call.QuotaFill k n) Reply.Done a h p l u =
    left_alike s t k (level s k + n) (level t k + n) p (omega arith)
    (ap (λ v. v + n) (a k (omega arith) (omega arith)))
on s t (Call.Refund k n) Reply.Done a h p l u =
    left_alike s t k (level s k + n) (level t k + n) p (omega arith)
    (ap (λ v. v + n) (a k (omega arith) (omega arith)))
on s t c r a h p l u = absurd h

reads : (s : Quotas) (c : Call) (r : Reply) → (need_of c r).mode ≡ Mode.Read → Row s c r →
    after s c r ≡ s
reads s (Call.QuotaSpend k n) Reply.Yes m h = cc
reads s (Call.QuotaSpend k n) Reply.No m h = refl
reads s (Call.QuotaLevel k) r m h = refl
reads s (Call.QuotaFill k n) Reply.Done m h = cc
reads s (Call.Refund k n) Reply.Done m h = cc
reads s c r m h = absurd h

-- A call that only reads changes nothing.
pub quota_reads : (s : Quotas) (c : Call) (r : Reply) → (need_of c r).mode ≡ Mode.Read →
    Answers s c r → after s c r ≡ s
quota_reads s c r m h = reads s c r m h.1

-- ---- two calls

-- what is spent, and what is spent or given back behind it, can be done the other way round
spent_twice : (s : Quotas) (k n j m : ℕ) → n ≤ level s k →
    m ≤ level (with_level s k (level s k - n)) j →
    Swapped Row after s (Call.QuotaSpend k n) Reply.Yes (Call.QuotaSpend j m) Reply.Yes
spent_twice s k n j m first then =
    let turns : (level s k - n) - m ≡ (level s k - m) - n = omega arith in
    let turned = changed_turned s k j (λ v. v - n) (λ v. v - m) (λ e. turns) in
    ⊎_elim
    (λ (e : j ≡ k).
    let same = ap (level s) e in
    let there = level_at s k (level s k - n) j e in
    let here = level_at s j (level s j - m) k (sym e) in
    (omega arith, omega arith, turned))
    (λ (e : j ≡ k → ⊥).
    let there = level_off s k (level s k - n) j e in
    let here = level_off s j (level s j - m) k (λ d. e (sym d)) in
    (omega arith, omega arith, turned))
    (cases_eq j k)

spent_given : (s : Quotas) (k n j m : ℕ) → n ≤ level s k →
    Swapped Row after s (Call.QuotaSpend k n) Reply.Yes (Call.Refund j m) Reply.Done
spent_given s k n j m first = (
  tt,
  ⊎_elim
      (λ (e : k ≡ j). let same = ap (level s) e in
      let here = level_at s j (level s j + m) k e in omega arith)
      (λ (e : k ≡ j → ⊥). let here = level_off s j (level s j + m) k e in omega arith)
      (cases_eq k j),
  changed_turned s k j (λ v. v - n) (λ v. v + m) (λ e. omega arith),
)

joins_next : (s : Quotas) (k n : ℕ) (b : Call) (rb : Reply) → n ≤ level s k →
    Joins (need_of b rb).mode → Row (with_level s k (level s k - n)) b rb →
    Swapped Row after s (Call.QuotaSpend k n) Reply.Yes b rb
joins_next s k n (Call.QuotaSpend j m) Reply.Yes first joins h = spent_twice s k n j m first h
joins_next s k n (Call.QuotaSpend j m) Reply.No first joins h = absurd joins
joins_next s k n (Call.QuotaLevel j) r first joins h = absurd joins
joins_next s k n (Call.QuotaFill j m) r first joins h = absurd joins
joins_next s k n (Call.Refund j m) Reply.Done first joins h = spent_given s k n j m first
joins_next s k n b rb first joins h = absurd h

-- Of the calls that join, a client can ask only for a spending. One behind a refund need not move
-- before it: what it takes may be what was given back.
joins : (s : Quotas) (a : Call) (ra : Reply) (b : Call) (rb : Reply) → Askable a →
    Joins (need_of a ra).mode → Joins (need_of b rb).mode → Row s a ra → Row (after s a ra) b rb →
    Swapped Row after s a ra b rb
joins s (Call.QuotaSpend k n) Reply.Yes b rb ask ma mb ha hb = joins_next s k n b rb ha mb hb
joins s (Call.QuotaSpend k n) Reply.No b rb ask ma mb ha hb = absurd ma
joins s (Call.QuotaLevel k) ra b rb ask ma mb ha hb = absurd ma
joins s (Call.QuotaFill k n) ra b rb ask ma mb ha hb = absurd ma
joins s (Call.Refund k n) ra b rb ask ma mb ha hb = absurd ask
joins s a ra b rb ask ma mb ha hb = absurd ha

local : IsLocal Row after level
local = record {
  same = same_quotas;
  off = off;
  answers = answers;
  on = on;
  reads = reads;
  joins = joins;
}

-- Calls of quotas whose needs do not conflict commute, where a client can ask for the first.
pub quota_commutes : (s m t : Quotas) (a : Call) (ra : Reply) (b : Call) (rb : Reply) →
    Askable a → Apart a ra b rb → does s a ra m → does m b rb t →
    (u : Quotas) × does s b rb u × does u a ra t
quota_commutes = commutes (ranged local)

pub quota_swapped : (s : Quotas) (a : Call) (ra : Reply) (b : Call) (rb : Reply) → Askable a →
    Apart a ra b rb → Answers s a ra → Answers (after s a ra) b rb →
    Swapped Answers after s a ra b rb
quota_swapped = swapped (ranged local)

-- ---- what so many calls reach

pub none_within : (n : ℕ) → IsWithin empty n
none_within n k = let none = ap copies_of (get-empty nat_cmp k) in omega arith

changed_within : (s : Quotas) (k v n : ℕ) → IsWithin s n → v ≤ (n + 1) * 2 ^ 63 →
    IsWithin (with_level s k v) (n + 1)
changed_within s k v n w few = λ p. ⊎_elim
    (λ (e : p ≡ k). let here = level_at s k v p e in omega arith)
    (λ (e : p ≡ k → ⊥). let there = level_off s k v p e in let old = w p in omega arith)
    (cases_eq p k)

pub quota_within : (s : Quotas) (n : ℕ) (c : Call) (r : Reply) → IsWithin s n → Answers s c r →
    IsWithin (after s c r) (n + 1)
quota_within s n (Call.QuotaSpend k m) Reply.Yes w a =
    changed_within s k (level s k - m) n w (let old = w k in omega arith)
quota_within s n (Call.QuotaSpend k m) Reply.No w a = λ p. let old = w p in omega arith
quota_within s n (Call.QuotaLevel k) (Reply.Total v) w a = λ p. let old = w p in omega arith
quota_within s n (Call.QuotaFill k m) Reply.Done w a =
    let few : IsAmount m = a.0.0.1 in
    changed_within s k (level s k + m) n w (let old = w k in omega arith)
quota_within s n (Call.Refund k m) Reply.Done w a =
    let few : IsAmount m = a.0.0.1 in
    changed_within s k (level s k + m) n w (let old = w k in omega arith)
quota_within s n c r w a = absurd a.1

-- ---- the way back

-- what is spent and given back, and what is filled in and spent again
pub given_back : (s : Quotas) (k n : ℕ) → n ≤ level s k →
    s ≡ after (after s (Call.QuotaSpend k n) Reply.Yes) (Call.Refund k n) Reply.Done
given_back s k n first =
    let back : level s k ≡ (level s k - n) + n = omega arith in
    sym (changed_twice s k (λ v. v - n) (λ v. v + n) ∙ ap (with_level s k) (sym back) ∙
    with_same s k)

pub spent_back : (s : Quotas) (k n : ℕ) →
    s ≡ after (after s (Call.QuotaFill k n) Reply.Done) (Call.QuotaSpend k n) Reply.Yes
spent_back s k n =
    let back : level s k ≡ (level s k + n) - n = omega arith in
    sym (changed_twice s k (λ v. v + n) (λ v. v - n) ∙ ap (with_level s k) (sym back) ∙
    with_same s k)

pub filled_there : (s : Quotas) (k n : ℕ) → n ≤ level (with_level s k (level s k + n)) k
filled_there s k n = let here = level_at s k (level s k + n) k refl in omega arith

fill_back : (s t : Quotas) (k n : ℕ) → does s (Call.QuotaFill k n) Reply.Done t →
    does t (Call.QuotaSpend k n) Reply.Yes s
fill_back s t k n d = (
  (d.0.0, subst (λ v. n ≤ level v k) (sym d.1) (filled_there s k n)),
  spent_back s k n ∙ ap (λ v. after v (Call.QuotaSpend k n) Reply.Yes) (sym d.1),
)

-- The inverse leads back.
pub quota_back : (s t : Quotas) (c : Call) (r : Reply) → Askable c → does s c r t →
    Undoes does inverse_of t c r s
quota_back s t (Call.QuotaSpend k n) Reply.Yes ask d = (
  Reply.Done,
  (
    (d.0.0, tt),
    given_back s k n d.0.1 ∙ ap (λ v. after v (Call.Refund k n) Reply.Done) (sym d.1),
  ),
)
quota_back s t (Call.QuotaFill k n) Reply.Done ask d = (Reply.Yes, fill_back s t k n d)
quota_back s t (Call.QuotaSpend k n) Reply.No ask d = sym d.1
quota_back s t (Call.QuotaLevel k) (Reply.Total v) ask d = sym d.1
quota_back s t (Call.Refund k n) r ask d = absurd ask
quota_back s t c r ask d = absurd d.0.1

-- What spends, and is answered Yes, leads to one end.
spent_end : (t u v : Quotas) (k n : ℕ) (q : Reply) → does t (Call.QuotaSpend k n) q u →
    does t (Call.QuotaSpend k n) Reply.Yes v → u ≡ v
spent_end t u v k n Reply.Yes d e = d.1 ∙ sym e.1
spent_end t u v k n Reply.No d e = absurd (let a = d.0.1 in let b = e.0.1 in omega arith)
spent_end t u v k n q d e = absurd d.0.1

-- It leads nowhere else.
pub quota_back_only : (s t u : Quotas) (c : Call) (r : Reply) → Askable c → does s c r t →
    Undoes does inverse_of t c r u → u ≡ s
quota_back_only s t u (Call.QuotaSpend k n) Reply.Yes ask d back =
    let b = quota_back s t (Call.QuotaSpend k n) Reply.Yes ask d in back.1.1 ∙ sym b.1.1
quota_back_only s t u (Call.QuotaFill k n) Reply.Done ask d back =
    spent_end t u s k n back.0 back.1 (fill_back s t k n d)
quota_back_only s t u (Call.QuotaSpend k n) Reply.No ask d back = back ∙ d.1
quota_back_only s t u (Call.QuotaLevel k) (Reply.Total v) ask d back = back ∙ d.1
quota_back_only s t u (Call.Refund k n) r ask d back = absurd ask
quota_back_only s t u c r ask d back = absurd d.0.1
