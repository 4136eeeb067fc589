-- The laws of a map's calls.
use Rattle.std.proofs.Common.{◌≡◌, ℕ, ◌<◌, ◌⊎◌, List, Some, None, refl, sym, ◌∙◌, ap, ⊎_elim, arith}
use Rattle.std.proofs.lemmas.Bool.{cases_eq}
use Rattle.std.proofs.lemmas.Option.{none-some}
use Rattle.std.specs.Cmp.{nat_cmp_total}
use Rattle.std.specs.FinMap.{get, insert, remove, same_map, nat_cmp-IsAntisymmetric}
use Rattle.calls.specs.declared.call.Call.{Call}
use Rattle.calls.specs.declared.reply.Reply.{Reply}
use Rattle.calls.specs.declared.need.Mode.{Mode}
use Rattle.calls.specs.Rules.{need_of, Apart, inverse_of, Undoes, Askable}
use Rattle.calls.specs.Maps.{Table, Row, Answers, after, does}
use Rattle.calls.proofs.Local.{IsLocal, Agree, Swapped, Joins, ranged, commutes, swapped}
use Rattle.calls.proofs.Points.{get_insert, get_insert_other, get_remove, get_remove_other}

same : (s t : Table) → ((p : ℕ) → get s p ≡ get t p) → s ≡ t
same s t = same_map nat_cmp_total nat_cmp-IsAntisymmetric s t

off_key : (p k : ℕ) → (p < k) ⊎ (k < p) → p ≡ k → ⊥
off_key p k d e = ⊎_elim (λ l. omega arith) (λ l. omega arith) d

-- a value put, and what was there put back
pub put_back : (s : Table) (k : ℕ) (v o : List ℕ) → get s k ≡ Some o → s ≡ insert (insert s k v) k o
put_back s k v o h = same s _ (λ p. ⊎_elim
    (λ (e : p ≡ k). ap (get s) e ∙ h ∙ sym (get_insert (insert s k v) k o p e))
    (λ (e : p ≡ k → ⊥). sym (get_insert_other (insert s k v) k o p e ∙ get_insert_other s k v p e))
    (cases_eq p k))

pub put_remove : (s : Table) (k : ℕ) (v : List ℕ) → get s k ≡ None → s ≡ remove (insert s k v) k
put_remove s k v h = same s _ (λ p. ⊎_elim
    (λ (e : p ≡ k). ap (get s) e ∙ h ∙ sym (get_remove (insert s k v) k p e))
    (λ (e : p ≡ k → ⊥). sym (get_remove_other (insert s k v) k p e ∙ get_insert_other s k v p e))
    (cases_eq p k))

pub remove_put : (s : Table) (k : ℕ) (o : List ℕ) → get s k ≡ Some o → s ≡ insert (remove s k) k o
remove_put s k o h = same s _ (λ p. ⊎_elim
    (λ (e : p ≡ k). ap (get s) e ∙ h ∙ sym (get_insert (remove s k) k o p e))
    (λ (e : p ≡ k → ⊥). sym (get_insert_other (remove s k) k o p e ∙ get_remove_other s k p e))
    (cases_eq p k))

off : (s : Table) (c : Call) (r : Reply) (p : ℕ) →
    (p < (need_of c r).low) ⊎ ((need_of c r).high < p) → Row s c r → get (after s c r) p ≡ get s p
off s (Call.Put k v) r p d a = get_insert_other s k v p (off_key p k d)
off s (Call.MapRemove k) (Reply.Value o) p d a = get_remove_other s k p (off_key p k d)
off s (Call.MapRemove k) Reply.Nothing p d a = refl
off s (Call.Get k) r p d a = refl
off s (Call.Ceiling k) r p d a = refl
off s c r p d a = absurd a

answers : (s t : Table) (c : Call) (r : Reply) → Agree get (need_of c r) s t → Row s c r → Row t c r
answers s t (Call.Get k) (Reply.Value v) e a = sym (e k (omega arith) (omega arith)) ∙ a
answers s t (Call.Get k) Reply.Nothing e a = sym (e k (omega arith) (omega arith)) ∙ a
answers s t (Call.Put k v) (Reply.Value o) e a = sym (e k (omega arith) (omega arith)) ∙ a
answers s t (Call.Put k v) Reply.Nothing e a = sym (e k (omega arith) (omega arith)) ∙ a
answers s t (Call.MapRemove k) (Reply.Value o) e a = sym (e k (omega arith) (omega arith)) ∙ a
answers s t (Call.MapRemove k) Reply.Nothing e a = sym (e k (omega arith) (omega arith)) ∙ a
answers s t (Call.Ceiling k) (Reply.Entry j v) e a = record {
  there = sym (e j a.upto (omega arith)) ∙ a.there;
  upto = a.upto;
  none_between = λ i l u. sym (e i l (omega arith)) ∙ a.none_between i l u;
}
answers s t (Call.Ceiling k) Reply.Nothing e a = λ i l u. sym (e i l u) ∙ a i l u
answers s t c r e a = absurd a

on : (s t : Table) (c : Call) (r : Reply) → Agree get (need_of c r) s t → Row s c r →
    Agree get (need_of c r) (after s c r) (after t c r)
on s t (Call.Put k v) r e a p l u =
    get_insert s k v p (omega arith) ∙ sym (get_insert t k v p (omega arith))
on s t (Call.MapRemove k) (Reply.Value o) e a p l u =
    get_remove s k p (omega arith) ∙ sym (get_remove t k p (omega arith))
on s t (Call.MapRemove k) Reply.Nothing e a p l u = e p l u
on s t (Call.Get k) r e a p l u = e p l u
on s t (Call.Ceiling k) r e a p l u = e p l u
on s t c r e a p l u = absurd a

reads : (s : Table) (c : Call) (r : Reply) → (need_of c r).mode ≡ Mode.Read → Row s c r →
    after s c r ≡ s
reads s (Call.Put k v) r m a = cc
reads s (Call.MapRemove k) (Reply.Value o) m a = cc
reads s (Call.MapRemove k) Reply.Nothing m a = refl
reads s (Call.Get k) r m a = refl
reads s (Call.Ceiling k) r m a = refl
reads s c r m a = absurd a

-- A call that only reads changes nothing.
pub map_reads : (s : Table) (c : Call) (r : Reply) → (need_of c r).mode ≡ Mode.Read →
    Answers s c r → after s c r ≡ s
map_reads s c r m h = reads s c r m h.1

no_join : (s : Table) (c : Call) (r : Reply) → Joins (need_of c r).mode → Row s c r → ⊥
no_join s (Call.Put k v) r m a = m
no_join s (Call.MapRemove k) (Reply.Value o) m a = m
no_join s (Call.MapRemove k) Reply.Nothing m a = m
no_join s (Call.Get k) r m a = m
no_join s (Call.Ceiling k) (Reply.Entry j v) m a = m
no_join s (Call.Ceiling k) Reply.Nothing m a = m
no_join s c r m a = absurd a

local : IsLocal Row after get
local = record {
  same = same;
  off = off;
  answers = answers;
  on = on;
  reads = reads;
  joins = λ s a ra b rb ask ma mb ha hb. absurd (no_join s a ra ma ha);
}

pub map_commutes : (s m t : Table) (a : Call) (ra : Reply) (b : Call) (rb : Reply) →
    Askable a → Apart a ra b rb → does s a ra m → does m b rb t →
    (u : Table) × does s b rb u × does u a ra t
map_commutes = commutes (ranged local)

-- The inverse leads back.
pub map_back : (s t : Table) (c : Call) (r : Reply) → does s c r t → Undoes does inverse_of t c r s
map_back s t (Call.Put k v) Reply.Nothing d = (
  Reply.Value v,
  (
    (d.0.0, rw d.1 (get_insert s k v k refl)),
    put_remove s k v d.0.1 ∙ ap (λ m. remove m k) (sym d.1),
  ),
)
map_back s t (Call.Put k v) (Reply.Value o) d = (
  Reply.Value v,
  (
    (d.0.0, rw d.1 (get_insert s k v k refl)),
    put_back s k v o d.0.1 ∙ ap (λ m. insert m k o) (sym d.1),
  ),
)
map_back s t (Call.MapRemove k) (Reply.Value o) d = (
  Reply.Nothing,
  (
    (d.0.0, rw d.1 (get_remove s k k refl)),
    remove_put s k o d.0.1 ∙ ap (λ m. insert m k o) (sym d.1),
  ),
)
map_back s t (Call.MapRemove k) Reply.Nothing d = sym d.1
map_back s t (Call.Get k) (Reply.Value v) d = sym d.1
map_back s t (Call.Get k) Reply.Nothing d = sym d.1
map_back s t (Call.Ceiling k) (Reply.Entry j v) d = sym d.1
map_back s t (Call.Ceiling k) Reply.Nothing d = sym d.1
map_back s t c r d = absurd d.0.1

put_end : (s t u : Table) (k : ℕ) (v : List ℕ) (q r : Reply) → does s (Call.Put k v) q t →
    does s (Call.Put k v) r u → t ≡ u
put_end s t u k v q r d e = d.1 ∙ sym e.1

remove_end : (s t u : Table) (k : ℕ) (q r : Reply) → does s (Call.MapRemove k) q t →
    does s (Call.MapRemove k) r u → t ≡ u
remove_end s t u k (Reply.Value v) (Reply.Value w) d e = d.1 ∙ sym e.1
remove_end s t u k Reply.Nothing Reply.Nothing d e = d.1 ∙ sym e.1
remove_end s t u k (Reply.Value v) Reply.Nothing d e = absurd (none-some v (sym e.0.1 ∙ d.0.1))
remove_end s t u k Reply.Nothing (Reply.Value w) d e = absurd (none-some w (sym d.0.1 ∙ e.0.1))
remove_end s t u k (Reply.Value v) r d e = absurd e.0.1
remove_end s t u k Reply.Nothing r d e = absurd e.0.1
remove_end s t u k q r d e = absurd d.0.1

-- It leads nowhere else.
pub map_back_only : (s t u : Table) (c : Call) (r : Reply) → does s c r t →
    Undoes does inverse_of t c r u → u ≡ s
map_back_only s t u (Call.Put k v) Reply.Nothing d back =
    let b = map_back s t (Call.Put k v) Reply.Nothing d in remove_end t u s k back.0 b.0 back.1 b.1
map_back_only s t u (Call.Put k v) (Reply.Value o) d back =
    let b = map_back s t (Call.Put k v) (Reply.Value o) d in put_end t u s k o back.0 b.0 back.1 b.1
map_back_only s t u (Call.MapRemove k) (Reply.Value o) d back =
    let b = map_back s t (Call.MapRemove k) (Reply.Value o) d in
    put_end t u s k o back.0 b.0 back.1 b.1
map_back_only s t u (Call.MapRemove k) Reply.Nothing d back = back ∙ d.1
map_back_only s t u (Call.Get k) (Reply.Value v) d back = back ∙ d.1
map_back_only s t u (Call.Get k) Reply.Nothing d back = back ∙ d.1
map_back_only s t u (Call.Ceiling k) (Reply.Entry j v) d back = back ∙ d.1
map_back_only s t u (Call.Ceiling k) Reply.Nothing d back = back ∙ d.1
map_back_only s t u c r d back = absurd d.0.1

pub map_swapped : (s : Table) (a : Call) (ra : Reply) (b : Call) (rb : Reply) → Askable a →
    Apart a ra b rb → Answers s a ra → Answers (after s a ra) b rb →
    Swapped Answers after s a ra b rb
map_swapped = swapped (ranged local)
