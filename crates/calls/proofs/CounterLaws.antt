-- The laws of a counter's calls.
use Rattle.std.proofs.Common.{◌≡◌, ℕ, ℤ, pos, ◌+◌, ◌+ℤ◌, neg_ℤ, refl, sym, ◌∙◌, ap, arith}
use Rattle.std.proofs.lemmas.Int.{ints}
use Rattle.calls.specs.declared.call.Call.{Call}
use Rattle.calls.specs.declared.reply.Reply.{Reply}
use Rattle.calls.specs.declared.need.Mode.{Mode}
use Rattle.calls.specs.Rules.{IsStep, need_of, Apart, inverse_of, Undoes}
use Rattle.calls.specs.Counters.{IsWithin, Answers, after, does}

same_end : (s m n : ℤ) → (s +ℤ m) +ℤ n ≡ (s +ℤ n) +ℤ m
same_end s m n = omega (arith, ints)

pub back_again : (s n : ℤ) → s ≡ (s +ℤ n) +ℤ neg_ℤ n
back_again s n = omega (arith, ints)

pub neg_step : (n : ℤ) → IsStep n → IsStep (neg_ℤ n)
neg_step n h = record { above = omega (arith, ints); below = omega (arith, ints) }

pub counter_starts : IsWithin (pos 0) 0
counter_starts = record { low = omega (arith, ints); high = omega (arith, ints) }

pub counter_within : (s : ℤ) (n : ℕ) (c : Call) (r : Reply) → IsWithin s n → Answers s c r →
    IsWithin (after s c r) (n + 1)
counter_within s n (Call.Bump k) Reply.Done w a =
    record { low = omega (arith, ints); high = omega (arith, ints) }
counter_within s n Call.Read (Reply.Total v) w a =
    record { low = omega (arith, ints); high = omega (arith, ints) }
counter_within s n c r w a = absurd a.1

-- A call that only reads changes nothing.
pub counter_reads : (s : ℤ) (c : Call) (r : Reply) → (need_of c r).mode ≡ Mode.Read →
    Answers s c r → after s c r ≡ s
counter_reads s (Call.Bump n) Reply.Done m a = cc
counter_reads s Call.Read (Reply.Total v) m a = refl
counter_reads s c r m a = absurd a.1

-- Calls of a counter whose needs do not conflict commute.
pub counter_commutes : (s m t : ℤ) (a : Call) (ra : Reply) (b : Call) (rb : Reply) →
    Apart a ra b rb → does s a ra m → does m b rb t → (u : ℤ) × does s b rb u × does u a ra t
counter_commutes s m t (Call.Bump n) Reply.Done (Call.Bump k) Reply.Done apart da db =
    (s +ℤ k, (db.0, refl), (da.0, db.1 ∙ ap (λ v. v +ℤ k) da.1 ∙ same_end s n k))
counter_commutes s m t Call.Read (Reply.Total v) Call.Read (Reply.Total w) apart da db =
    (s, ((db.0.0, db.0.1 ∙ da.1), refl), (da.0, db.1 ∙ da.1))
counter_commutes s m t (Call.Bump n) Reply.Done Call.Read (Reply.Total w) apart da db =
    absurd (apart ((omega arith, omega arith), λ x. x))
counter_commutes s m t Call.Read (Reply.Total w) (Call.Bump n) Reply.Done apart da db =
    absurd (apart ((omega arith, omega arith), λ x. x))
counter_commutes s m t (Call.Bump n) Reply.Done b rb apart da db = absurd db.0.1
counter_commutes s m t Call.Read (Reply.Total v) b rb apart da db = absurd db.0.1
counter_commutes s m t a ra b rb apart da db = absurd da.0.1

pub counter_back : (s t : ℤ) (c : Call) (r : Reply) → does s c r t → Undoes does inverse_of t c r s
counter_back s t (Call.Bump n) Reply.Done d = (
  Reply.Done,
  (
    ((neg_step n d.0.0.0, tt), tt),
    back_again s n ∙ ap (λ v. v +ℤ neg_ℤ n) (sym d.1),
  ),
)
counter_back s t Call.Read (Reply.Total v) d = sym d.1
counter_back s t c r d = absurd d.0.1

pub counter_back_only : (s t u : ℤ) (c : Call) (r : Reply) → does s c r t →
    Undoes does inverse_of t c r u → u ≡ s
counter_back_only s t u (Call.Bump n) Reply.Done d back =
    back.1.1 ∙ sym (back_again s n ∙ ap (λ v. v +ℤ neg_ℤ n) (sym d.1))
counter_back_only s t u Call.Read (Reply.Total v) d back = back ∙ d.1
counter_back_only s t u c r d back = absurd d.0.1
