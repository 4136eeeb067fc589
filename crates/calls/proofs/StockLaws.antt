-- The laws of a stock's calls.
use Rattle.std.proofs.Common.{◌≡◌, ℕ, ◌+◌, ◌-◌, ◌≤◌, refl, sym, ◌∙◌, arith}
use Rattle.calls.specs.declared.call.Call.{Call}
use Rattle.calls.specs.declared.reply.Reply.{Reply}
use Rattle.calls.specs.declared.need.Mode.{Mode}
use Rattle.calls.specs.Rules.{IsAmount, Askable, need_of, Apart, inverse_of, Undoes}
use Rattle.calls.specs.Stocks.{IsWithin, Answers, after, does}

pub stock_starts : IsWithin 0 0
stock_starts = omega arith

pub stock_within : (s : ℕ) (n : ℕ) (c : Call) (r : Reply) → IsWithin s n → Answers s c r →
    IsWithin (after s c r) (n + 1)
stock_within s n (Call.Spend k) Reply.Yes w a = omega arith
stock_within s n (Call.Spend k) Reply.No w a = omega arith
stock_within s n Call.Level (Reply.Total v) w a = omega arith
stock_within s n (Call.Fill k) Reply.Done w a = let few : IsAmount k = a.0.0 in omega arith
stock_within s n c r w a = absurd a.1

-- A call that only reads changes nothing.
pub stock_reads : (s : ℕ) (c : Call) (r : Reply) → (need_of c r).mode ≡ Mode.Read →
    Answers s c r → after s c r ≡ s
stock_reads s (Call.Spend n) Reply.Yes m a = cc
stock_reads s (Call.Spend n) Reply.No m a = refl
stock_reads s Call.Level (Reply.Total v) m a = refl
stock_reads s (Call.Fill n) Reply.Done m a = cc
stock_reads s c r m a = absurd a.1

-- what is spent, and what is filled in behind, can be done the other way round
spent_twice : (s n k : ℕ) → n ≤ s → k ≤ s - n →
    (k ≤ s) × (n ≤ s - k) × ((s - n) - k ≡ (s - k) - n)
spent_twice s n k first then = (omega arith, omega arith, omega arith)

spent_filled : (s n k : ℕ) → n ≤ s → (n ≤ s + k) × ((s - n) + k ≡ (s + k) - n)
spent_filled s n k first = (omega arith, omega arith)

pub spent_back : (s n : ℕ) → n ≤ s → s ≡ (s - n) + n
spent_back s n first = omega arith

pub filled_back : (s n : ℕ) → s ≡ (s + n) - n
filled_back s n = omega arith

-- Calls of a stock whose needs do not conflict commute, where a client can ask for the first. A
-- spending behind a filling need not: what it takes may be what was filled in.
pub stock_commutes : (s m t : ℕ) (a : Call) (ra : Reply) (b : Call) (rb : Reply) → Askable a →
    Apart a ra b rb → does s a ra m → does m b rb t → (u : ℕ) × does s b rb u × does u a ra t
stock_commutes s m t (Call.Spend n) Reply.Yes (Call.Spend k) Reply.Yes ask apart da db =
    let w = spent_twice s n k da.0.1 (rw (sym da.1) db.0.1) in
    (s - k, ((db.0.0, w.0), refl), ((da.0.0, w.1), rw (db.1, da.1) w.2))
stock_commutes s m t (Call.Spend n) Reply.Yes (Call.Fill k) Reply.Done ask apart da db =
    let w = spent_filled s n k da.0.1 in
    (s + k, ((db.0.0, tt), refl), ((da.0.0, w.0), rw (db.1, da.1) w.1))
stock_commutes s m t (Call.Spend n) Reply.No (Call.Spend k) Reply.No ask apart da db =
    (s, ((db.0.0, rw (sym da.1) db.0.1), refl), (da.0, db.1 ∙ da.1))
stock_commutes s m t (Call.Spend n) Reply.No Call.Level (Reply.Total v) ask apart da db =
    (s, ((db.0.0, rw (sym da.1) db.0.1), refl), (da.0, db.1 ∙ da.1))
stock_commutes s m t Call.Level (Reply.Total v) (Call.Spend k) Reply.No ask apart da db =
    (s, ((db.0.0, rw (sym da.1) db.0.1), refl), (da.0, db.1 ∙ da.1))
stock_commutes s m t Call.Level (Reply.Total v) Call.Level (Reply.Total w) ask apart da db =
    (s, ((db.0.0, rw (sym da.1) db.0.1), refl), (da.0, db.1 ∙ da.1))
stock_commutes s m t (Call.Spend n) Reply.Yes (Call.Spend k) Reply.No ask apart da db =
    absurd (apart ((omega arith, omega arith), λ x. x))
stock_commutes s m t (Call.Spend n) Reply.Yes Call.Level (Reply.Total v) ask apart da db =
    absurd (apart ((omega arith, omega arith), λ x. x))
stock_commutes s m t (Call.Spend n) Reply.No (Call.Spend k) Reply.Yes ask apart da db =
    absurd (apart ((omega arith, omega arith), λ x. x))
stock_commutes s m t (Call.Spend n) Reply.No (Call.Fill k) Reply.Done ask apart da db =
    absurd (apart ((omega arith, omega arith), λ x. x))
stock_commutes s m t Call.Level (Reply.Total v) (Call.Spend k) Reply.Yes ask apart da db =
    absurd (apart ((omega arith, omega arith), λ x. x))
stock_commutes s m t Call.Level (Reply.Total v) (Call.Fill k) Reply.Done ask apart da db =
    absurd (apart ((omega arith, omega arith), λ x. x))
stock_commutes s m t (Call.Fill n) ra b rb ask apart da db = absurd ask
stock_commutes s m t (Call.Spend n) Reply.Yes b rb ask apart da db = absurd db.0.1
stock_commutes s m t (Call.Spend n) Reply.No b rb ask apart da db = absurd db.0.1
stock_commutes s m t Call.Level (Reply.Total v) b rb ask apart da db = absurd db.0.1
stock_commutes s m t a ra b rb ask apart da db = absurd da.0.1

pub stock_back : (s t : ℕ) (c : Call) (r : Reply) → Askable c → does s c r t →
    Undoes does inverse_of t c r s
stock_back s t (Call.Spend n) Reply.Yes ask d =
    (Reply.Done, (((ask, tt), tt), rw d.1 (spent_back s n d.0.1)))
stock_back s t (Call.Spend n) Reply.No ask d = sym d.1
stock_back s t Call.Level (Reply.Total v) ask d = sym d.1
stock_back s t (Call.Fill n) r ask d = absurd ask
stock_back s t c r ask d = absurd d.0.1

pub stock_back_only : (s t u : ℕ) (c : Call) (r : Reply) → Askable c → does s c r t →
    Undoes does inverse_of t c r u → u ≡ s
stock_back_only s t u (Call.Spend n) Reply.Yes ask d back =
    back.1.1 ∙ sym (rw d.1 (spent_back s n d.0.1))
stock_back_only s t u (Call.Spend n) Reply.No ask d back = back ∙ d.1
stock_back_only s t u Call.Level (Reply.Total v) ask d back = back ∙ d.1
stock_back_only s t u (Call.Fill n) r ask d back = absurd ask
stock_back_only s t u c r ask d back = absurd d.0.1
