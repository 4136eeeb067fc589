-- Calls that look at and change only the keys of their needs commute where their needs do not
-- conflict.
use Rattle.std.proofs.Common.{◌≡◌, ℕ, ◌<◌, ◌≤◌, ◌⊎◌, refl, sym, ◌∙◌, ap, subst, inl, inr, ⊎_elim}
use Rattle.std.proofs.Common.{arith}
use Rattle.std.proofs.lemmas.Bool.{cases_lt}
use Rattle.calls.specs.declared.need.Mode.{Mode}
use Rattle.calls.specs.declared.need.Need.{Need}
use Rattle.calls.specs.declared.call.Call.{Call}
use Rattle.calls.specs.declared.reply.Reply.{Reply}
use Rattle.calls.specs.Rules.{InRange, Conflict, Compatible, need_of, Apart, Askable}

-- A key is off a need.
abbrev pub Off : ℕ → Need → Type 0
Off p n = (p < n.low) ⊎ (n.high < p)

-- Two contents agree at the keys of a need.
abbrev pub Agree : {C X : Type 0} → (C → ℕ → X) → Need → C → C → Type 0
Agree cell n s t = (p : ℕ) → n.low ≤ p → p ≤ n.high → cell s p ≡ cell t p

-- Both calls may change places.
abbrev pub Swapped : {C : Type 0} → (C → Call → Reply → Type 0) → (C → Call → Reply → C) → C →
    Call → Reply → Call → Reply → Type 0
Swapped Answers after s a ra b rb =
    Answers s b rb × Answers (after s b rb) a ra ×
    (after (after s a ra) b rb ≡ after (after s b rb) a ra)

-- Calls in such a mode change the same keys side by side.
abbrev pub Joins : Mode → Type 0
Joins Mode.Read = ⊥
Joins Mode.Write = ⊥
Joins m = Unit {0}

-- A content is seen as a cell at each key.
pub record IsLocal {C X : Type 0} (Answers : C → Call → Reply → Type 0)
    (after : C → Call → Reply → C) (cell : C → ℕ → X) : Type 0 where
  -- cells that are alike make contents alike
  pub same : (s t : C) → ((p : ℕ) → cell s p ≡ cell t p) → s ≡ t
  -- a call leaves what is off its need
  pub off : (s : C) (c : Call) (r : Reply) (p : ℕ) → Off p (need_of c r) → Answers s c r →
      cell (after s c r) p ≡ cell s p
  -- its reply, and what it leaves, are those of the keys of its need
  pub answers : (s t : C) (c : Call) (r : Reply) → Agree cell (need_of c r) s t → Answers s c r →
      Answers t c r
  pub on : (s t : C) (c : Call) (r : Reply) → Agree cell (need_of c r) s t → Answers s c r →
      Agree cell (need_of c r) (after s c r) (after t c r)
  -- a call that reads changes nothing
  pub reads : (s : C) (c : Call) (r : Reply) → (need_of c r).mode ≡ Mode.Read → Answers s c r →
      after s c r ≡ s
  -- two that change the same keys side by side may change places, if a client can ask for the first
  pub joins : (s : C) (a : Call) (ra : Reply) (b : Call) (rb : Reply) → Askable a →
      Joins (need_of a ra).mode → Joins (need_of b rb).mode → Answers s a ra →
      Answers (after s a ra) b rb →
      Swapped Answers after s a ra b rb

-- What is local stays so where only numbers in range are answered.
pub ranged : {C X : Type 0} {Row : C → Call → Reply → Type 0} {after : C → Call → Reply → C}
    {cell : C → ℕ → X} → IsLocal Row after cell →
    IsLocal (λ s c r. InRange c r × Row s c r) after cell
ranged l = record {
  same = l.same;
  off = λ s c r p d h. l.off s c r p d h.1;
  answers = λ s t c r e h. (h.0, l.answers s t c r e h.1);
  on = λ s t c r e h. l.on s t c r e h.1;
  reads = λ s c r m h. l.reads s c r m h.1;
  joins = λ s a ra b rb ask ma mb ha hb. let w = l.joins s a ra b rb ask ma mb ha.1 hb.1 in
      ((hb.0, w.0), (ha.0, w.1), w.2);
}

where_is : (p : ℕ) (n : Need) → ((n.low ≤ p) × (p ≤ n.high)) ⊎ Off p n
where_is p n =
    ⊎_elim
    (λ (below : p < n.low). inr (inl below))
    (λ (from : n.low ≤ p). ⊎_elim (λ (above : n.high < p). inr (inr above))
    (λ (upto : p ≤ n.high). inl (from, upto)) (cases_lt n.high p))
    (cases_lt p n.low)

abbrev Beside : Need → Need → Type 0
Beside a b = (a.high < b.low) ⊎ (b.high < a.low)

turn : (a b : Need) → Beside a b → Beside b a
turn a b d = ⊎_elim inr inl d

off_other : (a b : Need) (p : ℕ) → Beside a b → a.low ≤ p → p ≤ a.high → Off p b
off_other a b p d l h = ⊎_elim (λ k. inl (omega arith)) (λ k. inr (omega arith)) d

compatible : (m n : Mode) → ((Compatible m n → ⊥) → ⊥) →
    ((m ≡ Mode.Read) × (n ≡ Mode.Read)) ⊎ (Joins m × Joins n)
compatible Mode.Read Mode.Read h = inl (refl, refl)
compatible Mode.Add Mode.Add h = inr (tt, tt)
compatible Mode.Take Mode.Take h = inr (tt, tt)
compatible Mode.Take Mode.Give h = inr (tt, tt)
compatible Mode.Give Mode.Take h = inr (tt, tt)
compatible Mode.Give Mode.Give h = inr (tt, tt)
compatible m n h = absurd (h (λ x. x))

-- Without a conflict the keys are beside each other, or both read, or both change side by side.
cases_apart : (a b : Need) → (Conflict a b → ⊥) →
    Beside a b ⊎ (((a.mode ≡ Mode.Read) × (b.mode ≡ Mode.Read)) ⊎ (Joins a.mode × Joins b.mode))
cases_apart a b h =
    ⊎_elim
    (λ (k : b.high < a.low). inl (inr k))
    (λ (k : a.low ≤ b.high). ⊎_elim
    (λ (l : a.high < b.low). inl (inl l))
    (λ (l : b.low ≤ a.high). inr (compatible a.mode b.mode (λ not. h ((k, l), not))))
    (cases_lt a.high b.low))
    (cases_lt b.high a.low)

module _ {C X : Type 0} {Answers : C → Call → Reply → Type 0} {after : C → Call → Reply → C}
    {cell : C → ℕ → X} (local : IsLocal Answers after cell) where
  beside : (s : C) (a : Call) (ra : Reply) (b : Call) (rb : Reply) →
      Beside (need_of a ra) (need_of b rb) → Answers s a ra → Answers (after s a ra) b rb →
      Swapped Answers after s a ra b rb
  beside s a ra b rb d ha hb =
      let na : Need = need_of a ra in
      let nb : Need = need_of b rb in
      let agree_b : Agree cell nb (after s a ra) s =
      λ p l h. local.off s a ra p (off_other nb na p (turn na nb d) l h) ha in
      let hb' : Answers s b rb = local.answers (after s a ra) s b rb agree_b hb in
      let agree_a : Agree cell na s (after s b rb) =
      λ p l h. sym (local.off s b rb p (off_other na nb p d l h) hb') in
      let ha' : Answers (after s b rb) a ra = local.answers s (after s b rb) a ra agree_a ha in
      let at : (p : ℕ) → cell (after (after s a ra) b rb) p ≡ cell (after (after s b rb) a ra) p =
      λ p. ⊎_elim
      (λ (w : (na.low ≤ p) × (p ≤ na.high)). local.off (after s a ra) b rb p
      (off_other na nb p d w.0 w.1) hb ∙ local.on s (after s b rb) a ra agree_a ha p w.0 w.1)
      (λ (off_a : Off p na). ⊎_elim
      (λ (w : (nb.low ≤ p) × (p ≤ nb.high)). local.on (after s a ra) s b rb agree_b hb p w.0 w.1 ∙
      sym (local.off (after s b rb) a ra p off_a ha'))
      (λ (off_b : Off p nb). local.off (after s a ra) b rb p off_b hb ∙
      local.off s a ra p off_a ha ∙ sym (local.off s b rb p off_b hb') ∙
      sym (local.off (after s b rb) a ra p off_a ha'))
      (where_is p nb))
      (where_is p na) in
      (hb', ha', local.same _ _ at)

  both_read : (s : C) (a : Call) (ra : Reply) (b : Call) (rb : Reply) →
      (need_of a ra).mode ≡ Mode.Read → (need_of b rb).mode ≡ Mode.Read → Answers s a ra →
      Answers (after s a ra) b rb → Swapped Answers after s a ra b rb
  both_read s a ra b rb ma mb ha hb =
      let ea : after s a ra ≡ s = local.reads s a ra ma ha in
      let hb' : Answers s b rb = subst (λ v. Answers v b rb) ea hb in
      let eb : after s b rb ≡ s = local.reads s b rb mb hb' in (
        hb',
        subst (λ v. Answers v a ra) (sym eb) ha,
        ap (λ v. after v b rb) ea ∙ eb ∙ sym ea ∙ ap (λ v. after v a ra) (sym eb),
      )

  pub swapped : (s : C) (a : Call) (ra : Reply) (b : Call) (rb : Reply) → Askable a →
      Apart a ra b rb → Answers s a ra → Answers (after s a ra) b rb →
      Swapped Answers after s a ra b rb
  swapped s a ra b rb ask apart ha hb =
      ⊎_elim
      (λ d. beside s a ra b rb d ha hb)
      (λ (modes : (((need_of a ra).mode ≡ Mode.Read) × ((need_of b rb).mode ≡ Mode.Read)) ⊎
      (Joins (need_of a ra).mode × Joins (need_of b rb).mode)). ⊎_elim
      (λ (w : ((need_of a ra).mode ≡ Mode.Read) × ((need_of b rb).mode ≡ Mode.Read)). both_read
      s a ra b rb w.0 w.1 ha hb) (λ (w : Joins (need_of a ra).mode × Joins (need_of b rb).mode).
      local.joins s a ra b rb ask w.0 w.1 ha hb) modes)
      (cases_apart (need_of a ra) (need_of b rb) apart)

  -- The law: calls whose needs do not conflict commute, where a client can ask for the first.
  pub commutes : (s m t : C) (a : Call) (ra : Reply) (b : Call) (rb : Reply) → Askable a →
      Apart a ra b rb → Answers s a ra × (m ≡ after s a ra) → Answers m b rb × (t ≡ after m b rb) →
      (u : C) × (Answers s b rb × (u ≡ after s b rb)) × (Answers u a ra × (t ≡ after u a ra))
  commutes s m t a ra b rb ask apart da db =
      let w = swapped s a ra b rb ask apart da.0 (subst (λ v. Answers v b rb) da.1 db.0) in
      (after s b rb, (w.0, refl), (w.1, db.1 ∙ ap (λ v. after v b rb) da.1 ∙ w.2))
