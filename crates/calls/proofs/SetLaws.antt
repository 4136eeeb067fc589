-- The laws of a set's calls.
use Rattle.std.proofs.Common.{◌≡◌, ℕ, ◌<◌, ◌⊎◌, refl, sym, ◌∙◌, ap, ⊎_elim, arith, true, false}
use Rattle.std.proofs.Common.{true≢false}
use Rattle.std.proofs.lemmas.Bool.{cases_eq}
use Rattle.std.specs.Cmp.{nat_cmp_total}
use Rattle.std.specs.FinSet.{contains, insert, remove, same_set, nat_cmp-IsAntisymmetric}
use Rattle.calls.specs.declared.call.Call.{Call}
use Rattle.calls.specs.declared.reply.Reply.{Reply}
use Rattle.calls.specs.declared.need.Mode.{Mode}
use Rattle.calls.specs.Rules.{need_of, Apart, inverse_of, Undoes, Askable}
use Rattle.calls.specs.Sets.{NumberSet, Row, Answers, after, does}
use Rattle.calls.proofs.Local.{IsLocal, Agree, Swapped, Joins, ranged, commutes, swapped}
use Rattle.calls.proofs.Points.{in_insert, in_insert_other, in_remove, in_remove_other}

pub same : (s t : NumberSet) → ((p : ℕ) → contains s p ≡ contains t p) → s ≡ t
same s t = same_set nat_cmp_total nat_cmp-IsAntisymmetric s t

pub add_remove : (s : NumberSet) (x : ℕ) → contains s x ≡ false → s ≡ remove (insert s x) x
add_remove s x h = same s _ (λ p. ⊎_elim
    (λ (e : p ≡ x). ap (contains s) e ∙ h ∙ sym (in_remove (insert s x) x p e))
    (λ (e : p ≡ x → ⊥). sym (in_remove_other (insert s x) x p e ∙ in_insert_other s x p e))
    (cases_eq p x))

pub remove_add : (s : NumberSet) (x : ℕ) → contains s x ≡ true → s ≡ insert (remove s x) x
remove_add s x h = same s _ (λ p. ⊎_elim
    (λ (e : p ≡ x). ap (contains s) e ∙ h ∙ sym (in_insert (remove s x) x p e))
    (λ (e : p ≡ x → ⊥). sym (in_insert_other (remove s x) x p e ∙ in_remove_other s x p e))
    (cases_eq p x))

off : (s : NumberSet) (c : Call) (r : Reply) (p : ℕ) →
    (p < (need_of c r).low) ⊎ ((need_of c r).high < p) → Row s c r →
    contains (after s c r) p ≡ contains s p
off s (Call.SetAdd x) Reply.Yes p d h =
    in_insert_other s x p (λ e. ⊎_elim (λ k. omega arith) (λ k. omega arith) d)
off s (Call.SetRemove x) Reply.Yes p d h =
    in_remove_other s x p (λ e. ⊎_elim (λ k. omega arith) (λ k. omega arith) d)
off s Call.Pick (Reply.Id x) p d h =
    in_remove_other s x p (λ e. ⊎_elim (λ k. omega arith) (λ k. omega arith) d)
off s Call.Pick Reply.Nothing p d h = refl
off s (Call.SetAdd x) Reply.No p d h = refl
off s (Call.SetRemove x) Reply.No p d h = refl
off s (Call.Contains x) r p d h = refl
off s c r p d h = absurd h

answers : (s t : NumberSet) (c : Call) (r : Reply) → Agree contains (need_of c r) s t → Row s c r →
    Row t c r
answers s t (Call.Contains x) Reply.Yes a h = sym (a x (omega arith) (omega arith)) ∙ h
answers s t (Call.Contains x) Reply.No a h = sym (a x (omega arith) (omega arith)) ∙ h
answers s t (Call.SetAdd x) Reply.Yes a h = sym (a x (omega arith) (omega arith)) ∙ h
answers s t (Call.SetAdd x) Reply.No a h = sym (a x (omega arith) (omega arith)) ∙ h
answers s t (Call.SetRemove x) Reply.Yes a h = sym (a x (omega arith) (omega arith)) ∙ h
answers s t (Call.SetRemove x) Reply.No a h = sym (a x (omega arith) (omega arith)) ∙ h
answers s t Call.Pick (Reply.Id x) a h = sym (a x (omega arith) (omega arith)) ∙ h
answers s t Call.Pick Reply.Nothing a h = λ x l. sym (a x (omega arith) l) ∙ h x l
answers s t c r a h = absurd h

on : (s t : NumberSet) (c : Call) (r : Reply) → Agree contains (need_of c r) s t → Row s c r →
    Agree contains (need_of c r) (after s c r) (after t c r)
on s t (Call.SetAdd x) Reply.Yes a h p l u =
    in_insert s x p (omega arith) ∙ sym (in_insert t x p (omega arith))
on s t (Call.SetRemove x) Reply.Yes a h p l u =
    in_remove s x p (omega arith) ∙ sym (in_remove t x p (omega arith))
on s t Call.Pick (Reply.Id x) a h p l u =
    in_remove s x p (omega arith) ∙ sym (in_remove t x p (omega arith))
on s t Call.Pick Reply.Nothing a h p l u = a p l u
on s t (Call.SetAdd x) Reply.No a h p l u = a p l u
on s t (Call.SetRemove x) Reply.No a h p l u = a p l u
on s t (Call.Contains x) r a h p l u = a p l u
on s t c r a h p l u = absurd h

reads : (s : NumberSet) (c : Call) (r : Reply) → (need_of c r).mode ≡ Mode.Read → Row s c r →
    after s c r ≡ s
reads s (Call.SetAdd x) Reply.Yes m h = cc
reads s (Call.SetRemove x) Reply.Yes m h = cc
reads s Call.Pick (Reply.Id x) m h = cc
reads s Call.Pick Reply.Nothing m h = refl
reads s (Call.SetAdd x) Reply.No m h = refl
reads s (Call.SetRemove x) Reply.No m h = refl
reads s (Call.Contains x) r m h = refl
reads s c r m h = absurd h

-- A call that only reads changes nothing.
pub set_reads : (s : NumberSet) (c : Call) (r : Reply) → (need_of c r).mode ≡ Mode.Read →
    Answers s c r → after s c r ≡ s
set_reads s c r m h = reads s c r m h.1

no_join : (s : NumberSet) (c : Call) (r : Reply) → Joins (need_of c r).mode → Row s c r → ⊥
no_join s (Call.SetAdd x) Reply.Yes m h = m
no_join s (Call.SetRemove x) Reply.Yes m h = m
no_join s (Call.SetAdd x) Reply.No m h = m
no_join s (Call.SetRemove x) Reply.No m h = m
no_join s Call.Pick (Reply.Id x) m h = m
no_join s Call.Pick Reply.Nothing m h = m
no_join s (Call.Contains x) r m h = m
no_join s c r m h = absurd h

local : IsLocal Row after contains
local = record {
  same = same;
  off = off;
  answers = answers;
  on = on;
  reads = reads;
  joins = λ s a ra b rb ask ma mb ha hb. absurd (no_join s a ra ma ha);
}

-- Calls of a set whose needs do not conflict commute.
pub set_commutes : (s m t : NumberSet) (a : Call) (ra : Reply) (b : Call) (rb : Reply) →
    Askable a → Apart a ra b rb → does s a ra m → does m b rb t →
    (u : NumberSet) × does s b rb u × does u a ra t
set_commutes = commutes (ranged local)

-- The inverse leads back.
pub set_back : (s t : NumberSet) (c : Call) (r : Reply) → does s c r t →
    Undoes does inverse_of t c r s
set_back s t (Call.SetAdd x) Reply.Yes d = (
  Reply.Yes,
  (
    (d.0.0, rw d.1 (in_insert s x x refl)),
    add_remove s x d.0.1 ∙ ap (λ v. remove v x) (sym d.1),
  ),
)
set_back s t (Call.SetRemove x) Reply.Yes d = (
  Reply.Yes,
  (
    (d.0.0, rw d.1 (in_remove s x x refl)),
    remove_add s x d.0.1 ∙ ap (λ v. insert v x) (sym d.1),
  ),
)
set_back s t Call.Pick (Reply.Id x) d = (
  Reply.Yes,
  (
    ((d.0.0.1, tt), rw d.1 (in_remove s x x refl)),
    remove_add s x d.0.1 ∙ ap (λ v. insert v x) (sym d.1),
  ),
)
set_back s t Call.Pick Reply.Nothing d = sym d.1
set_back s t (Call.SetAdd x) Reply.No d = sym d.1
set_back s t (Call.SetRemove x) Reply.No d = sym d.1
set_back s t (Call.Contains x) Reply.Yes d = sym d.1
set_back s t (Call.Contains x) Reply.No d = sym d.1
set_back s t c r d = absurd d.0.1

-- A call but a pick has one reply, and so leads to one set.
one_end : (s t u : NumberSet) (c : Call) (q r : Reply) → (c ≡ Call.Pick → ⊥) → does s c q t →
    does s c r u → t ≡ u
one_end s t u Call.Pick q r k d e = absurd (k refl)
one_end s t u (Call.SetAdd x) Reply.Yes Reply.Yes k d e = d.1 ∙ sym e.1
one_end s t u (Call.SetAdd x) Reply.No Reply.No k d e = d.1 ∙ sym e.1
one_end s t u (Call.SetAdd x) Reply.Yes Reply.No k d e = absurd (true≢false (sym e.0.1 ∙ d.0.1))
one_end s t u (Call.SetAdd x) Reply.No Reply.Yes k d e = absurd (true≢false (sym d.0.1 ∙ e.0.1))
one_end s t u (Call.SetRemove x) Reply.Yes Reply.Yes k d e = d.1 ∙ sym e.1
one_end s t u (Call.SetRemove x) Reply.No Reply.No k d e = d.1 ∙ sym e.1
one_end s t u (Call.SetRemove x) Reply.Yes Reply.No k d e = absurd (true≢false (sym d.0.1 ∙ e.0.1))
one_end s t u (Call.SetRemove x) Reply.No Reply.Yes k d e = absurd (true≢false (sym e.0.1 ∙ d.0.1))
one_end s t u (Call.Contains x) q r k d e = d.1 ∙ sym e.1
one_end s t u (Call.SetAdd x) Reply.Yes r k d e = absurd e.0.1
one_end s t u (Call.SetAdd x) Reply.No r k d e = absurd e.0.1
one_end s t u (Call.SetRemove x) Reply.Yes r k d e = absurd e.0.1
one_end s t u (Call.SetRemove x) Reply.No r k d e = absurd e.0.1
one_end s t u c q r k d e = absurd d.0.1

-- The inverse leads nowhere else.
pub set_back_only : (s t u : NumberSet) (c : Call) (r : Reply) → does s c r t →
    Undoes does inverse_of t c r u → u ≡ s
set_back_only s t u (Call.SetAdd x) Reply.Yes d back =
    let b = set_back s t (Call.SetAdd x) Reply.Yes d in
    one_end t u s (Call.SetRemove x) back.0 b.0 (λ e. cc) back.1 b.1
set_back_only s t u (Call.SetRemove x) Reply.Yes d back =
    let b = set_back s t (Call.SetRemove x) Reply.Yes d in
    one_end t u s (Call.SetAdd x) back.0 b.0 (λ e. cc) back.1 b.1
set_back_only s t u Call.Pick (Reply.Id x) d back =
    let b = set_back s t Call.Pick (Reply.Id x) d in
    one_end t u s (Call.SetAdd x) back.0 b.0 (λ e. cc) back.1 b.1
set_back_only s t u Call.Pick Reply.Nothing d back = back ∙ d.1
set_back_only s t u (Call.SetAdd x) Reply.No d back = back ∙ d.1
set_back_only s t u (Call.SetRemove x) Reply.No d back = back ∙ d.1
set_back_only s t u (Call.Contains x) Reply.Yes d back = back ∙ d.1
set_back_only s t u (Call.Contains x) Reply.No d back = back ∙ d.1
set_back_only s t u c r d back = absurd d.0.1

pub set_swapped : (s : NumberSet) (a : Call) (ra : Reply) (b : Call) (rb : Reply) → Askable a →
    Apart a ra b rb → Answers s a ra → Answers (after s a ra) b rb →
    Swapped Answers after s a ra b rb
set_swapped = swapped (ranged local)
