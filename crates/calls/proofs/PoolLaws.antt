-- The laws of a pool's calls.
use Rattle.std.proofs.Common.{◌≡◌, ℕ, ◌<◌, ◌⊎◌, refl, sym, ◌∙◌, ap, ⊎_elim, arith, true, true≢false}
use Rattle.std.specs.FinSet.{contains, remove}
use Rattle.calls.specs.declared.call.Call.{Call}
use Rattle.calls.specs.declared.reply.Reply.{Reply}
use Rattle.calls.specs.declared.need.Mode.{Mode}
use Rattle.calls.specs.Rules.{need_of, Apart, inverse_of, Undoes, Askable}
use Rattle.calls.specs.Sets.{NumberSet}
use Rattle.calls.specs.Pools.{Row, Answers, after, does}
use Rattle.calls.proofs.Local.{IsLocal, Agree, Swapped, Joins, ranged, commutes, swapped}
use Rattle.calls.proofs.Points.{in_insert, in_insert_other, in_remove, in_remove_other}
use Rattle.calls.proofs.SetLaws.{same, add_remove}

off_key : (p k : ℕ) → (p < k) ⊎ (k < p) → p ≡ k → ⊥
off_key p k d e = ⊎_elim (λ l. omega arith) (λ l. omega arith) d

off : (s : NumberSet) (c : Call) (r : Reply) (p : ℕ) →
    (p < (need_of c r).low) ⊎ ((need_of c r).high < p) → Row s c r →
    contains (after s c r) p ≡ contains s p
off s Call.Draw (Reply.Id x) p d h = in_insert_other s x p (off_key p x d)
off s (Call.Free x) Reply.Done p d h = in_remove_other s x p (off_key p x d)
off s (Call.Release x) r p d h = refl
off s c r p d h = absurd h

answers : (s t : NumberSet) (c : Call) (r : Reply) → Agree contains (need_of c r) s t → Row s c r →
    Row t c r
answers s t Call.Draw (Reply.Id x) a h = sym (a x (omega arith) (omega arith)) ∙ h
answers s t (Call.Free x) Reply.Done a h = sym (a x (omega arith) (omega arith)) ∙ h
answers s t (Call.Release x) Reply.Queued a h = sym (a x (omega arith) (omega arith)) ∙ h
answers s t (Call.Release x) Reply.Absent a h = sym (a x (omega arith) (omega arith)) ∙ h
answers s t c r a h = absurd h

on : (s t : NumberSet) (c : Call) (r : Reply) → Agree contains (need_of c r) s t → Row s c r →
    Agree contains (need_of c r) (after s c r) (after t c r)
on s t Call.Draw (Reply.Id x) a h p l u =
    in_insert s x p (omega arith) ∙ sym (in_insert t x p (omega arith))
on s t (Call.Free x) Reply.Done a h p l u =
    in_remove s x p (omega arith) ∙ sym (in_remove t x p (omega arith))
on s t (Call.Release x) r a h p l u = a p l u
on s t c r a h p l u = absurd h

reads : (s : NumberSet) (c : Call) (r : Reply) → (need_of c r).mode ≡ Mode.Read → Row s c r →
    after s c r ≡ s
reads s Call.Draw (Reply.Id x) m h = cc
reads s (Call.Free x) Reply.Done m h = cc
reads s (Call.Release x) r m h = refl
reads s c r m h = absurd h

-- A call that only reads changes nothing.
pub pool_reads : (s : NumberSet) (c : Call) (r : Reply) → (need_of c r).mode ≡ Mode.Read →
    Answers s c r → after s c r ≡ s
pool_reads s c r m h = reads s c r m h.1

no_join : (s : NumberSet) (c : Call) (r : Reply) → Joins (need_of c r).mode → Row s c r → ⊥
no_join s Call.Draw (Reply.Id x) m h = m
no_join s (Call.Free x) Reply.Done m h = m
no_join s (Call.Release x) Reply.Queued m h = m
no_join s (Call.Release x) Reply.Absent m h = m
no_join s c r m h = absurd h

local : IsLocal Row after contains
local = record {
  same = same;
  off = off;
  answers = answers;
  on = on;
  reads = reads;
  joins = λ s a ra b rb ask ma mb ha hb. absurd (no_join s a ra ma ha);
}

pub pool_commutes : (s m t : NumberSet) (a : Call) (ra : Reply) (b : Call) (rb : Reply) →
    Askable a → Apart a ra b rb → does s a ra m → does m b rb t →
    (u : NumberSet) × does s b rb u × does u a ra t
pool_commutes = commutes (ranged local)

pub pool_back : (s t : NumberSet) (c : Call) (r : Reply) → Askable c → does s c r t →
    Undoes does inverse_of t c r s
pool_back s t Call.Draw (Reply.Id x) k d = (
  Reply.Done,
  (
    ((d.0.0.1, tt), rw d.1 (in_insert s x x refl)),
    add_remove s x d.0.1 ∙ ap (λ v. remove v x) (sym d.1),
  ),
)
pool_back s t (Call.Release x) Reply.Queued k d = sym d.1
pool_back s t (Call.Release x) Reply.Absent k d = sym d.1
pool_back s t (Call.Free x) r k d = absurd k
pool_back s t c r k d = absurd d.0.1

pub pool_back_only : (s t u : NumberSet) (c : Call) (r : Reply) → Askable c → does s c r t →
    Undoes does inverse_of t c r u → u ≡ s
pool_back_only s t u Call.Draw (Reply.Id x) k d back =
    let b = pool_back s t Call.Draw (Reply.Id x) k d in back.1.1 ∙ sym b.1.1
pool_back_only s t u (Call.Release x) Reply.Queued k d back = back ∙ d.1
pool_back_only s t u (Call.Release x) Reply.Absent k d back = back ∙ d.1
pool_back_only s t u (Call.Free x) r k d back = absurd k
pool_back_only s t u c r k d back = absurd d.0.1

-- An identifier that is there to be freed
still_taken : (s : NumberSet) (x : ℕ) (c : Call) (r : Reply) → Askable c → Answers s c r →
    contains s x ≡ true → contains (after s c r) x ≡ true
still_taken s x Call.Draw (Reply.Id y) k h t =
    in_insert_other s y x (λ e. true≢false (sym t ∙ ap (contains s) e ∙ h.1)) ∙ t
still_taken s x (Call.Release y) r k h t = t
still_taken s x (Call.Free y) r k h t = absurd k
still_taken s x c r k h t = absurd h.1

-- A release that is queued leaves an identifier that can be freed, and it stays so past every call
-- that a client can ask for.
pub free_kept : (s : NumberSet) (x : ℕ) (c : Call) (r : Reply) → Askable c → Answers s c r →
    Answers s (Call.Free x) Reply.Done → Answers (after s c r) (Call.Free x) Reply.Done
free_kept s x c r k h t = (t.0, still_taken s x c r k h t.1)

-- past the freeing of another identifier
pub free_kept_past_free : (s : NumberSet) (x y : ℕ) → (x ≡ y → ⊥) →
    Answers s (Call.Free x) Reply.Done →
    Answers (after s (Call.Free y) Reply.Done) (Call.Free x) Reply.Done
free_kept_past_free s x y e t = (t.0, in_remove_other s y x e ∙ t.1)

pub pool_swapped : (s : NumberSet) (a : Call) (ra : Reply) (b : Call) (rb : Reply) → Askable a →
    Apart a ra b rb → Answers s a ra → Answers (after s a ra) b rb →
    Swapped Answers after s a ra b rb
pool_swapped = swapped (ranged local)
