-- Calls that are repeated on copies.
use Rattle.calls.specs.Formats.{widest}
use Rattle.std.proofs.Common.{◌≡◌, ℕ, zero, suc, ◌<◌, ◌≤◌, Bool, true, false, cond, nat_lt, List}
use Rattle.std.proofs.Common.{[]}
use Rattle.std.proofs.Common.{◌∷◌, ◌++◌, length, map, refl, sym, ◌∙◌, ap, subst, arith}
use Rattle.std.proofs.Common.{append_assoc}
use Rattle.std.proofs.Common.{slice_set, get_or, Option}
use Rattle.std.proofs.lemmas.Bool.{le-ltb}
use Rattle.std.specs.List.{AllByRecursion}
use Rattle.calls.specs.Contents.{after}
use Rattle.calls.specs.Rules.{IsShort}
use Rattle.records.specs.Short.{HoldsShort, AreShort}
use Rattle.records.proofs.Items.{content_after}
use Rattle.images.specs.declared.effect.Effect.{Effect}
use Rattle.images.specs.Gathers.{CopyState, gathered, with_effect, with_effect_at, caught_up}
use Rattle.images.specs.Gathers.{CanRepeat, CanRepeatAt, CanCatchUp, HaveRepeated, FrozenState}
use Rattle.boosted.proofs.Each.{each_append}
use Rattle.images.specs.Gathers.{IsGathered}

-- ---- one call

-- A copy at its place, with the call run on it.
module _ {A : Type 0} (copy : A → CopyState) (e : Effect) (d new : A) where
  pub changed_at : (os : List A) (at : ℕ) → at < length os →
      copy new ≡ with_effect (copy (get_or os at d)) e →
      map copy (slice_set os at new) ≡ with_effect_at (map copy os) at e
  changed_at [] at below one = absurd (omega (arith, below))
  changed_at (o ∷ os) zero below one = ap (λ v. v ∷ map copy os) one
  changed_at (o ∷ os) (suc at) below one =
      ap (λ l. copy o ∷ l) (changed_at os at (omega (arith, below)) one)

  pub same_at : (os : List A) (at : ℕ) → at < length os → copy new ≡ copy (get_or os at d) →
      map copy (slice_set os at new) ≡ map copy os
  same_at [] at below one = absurd (omega (arith, below))
  same_at (o ∷ os) zero below one = ap (λ v. v ∷ map copy os) one
  same_at (o ∷ os) (suc at) below one =
      ap (λ l. copy o ∷ l) (same_at os at (omega (arith, below)) one)

pub can_at : {A : Type 0} (copy : A → CopyState) (e : Effect) (d : A) (os : List A) (at : ℕ) →
    at < length os → CanRepeatAt (map copy os) at e → CanRepeat (copy (get_or os at d)) e
can_at copy e d [] at below can = absurd (omega (arith, below))
can_at copy e d (x ∷ os) zero below can = can
can_at copy e d (x ∷ os) (suc at) below can = can_at copy e d os at (omega (arith, below)) can

-- Where no copy is, none is changed.
pub none_at : (ps : List CopyState) (at : ℕ) (e : Effect) → length ps ≤ at →
    with_effect_at ps at e ≡ ps
none_at [] at e few = refl
none_at (p ∷ ps) zero e few = absurd (omega (arith, few))
none_at (p ∷ ps) (suc at) e few = ap (λ l. p ∷ l) (none_at ps at e (omega (arith, few)))

-- ---- one after another

pub caught_up-append : (ps : List CopyState) (es fs : List Effect) →
    caught_up ps (es ++ fs) ≡ caught_up (caught_up ps es) fs
caught_up-append ps [] fs = refl
caught_up-append ps (e ∷ es) fs = caught_up-append (with_effect_at ps e.collection e) es fs

-- what can be repeated can be, once the first are
pub can_rest : (ps : List CopyState) (es fs : List Effect) → CanCatchUp ps (es ++ fs) →
    CanCatchUp (caught_up ps es) fs
can_rest ps [] fs can = can
can_rest ps (e ∷ es) fs can = can_rest (with_effect_at ps e.collection e) es fs can.1

pub can_both : (ps : List CopyState) (es fs : List Effect) → CanCatchUp ps es →
    CanCatchUp (caught_up ps es) fs → CanCatchUp ps (es ++ fs)
can_both ps [] fs none can = can
can_both ps (e ∷ es) fs first can =
    (first.0, can_both (with_effect_at ps e.collection e) es fs first.1 can)

pub repeated_none : (ps : List CopyState) (es : List Effect) → HaveRepeated ps es ps es
repeated_none ps es = record { done = []; are = refl; is = refl }

pub repeated_one : (ps qs rs : List CopyState) (es left : List Effect) (e : Effect) →
    HaveRepeated ps es qs (e ∷ left) → rs ≡ with_effect_at qs e.collection e →
    HaveRepeated ps es rs left
repeated_one ps qs rs es left e so_far one = record {
  done = so_far.done ++ e ∷ [];
  are = so_far.are ∙ sym (append_assoc so_far.done (e ∷ []) left);
  is = one ∙ ap (λ l. with_effect_at l e.collection e) so_far.is ∙
      sym (caught_up-append ps so_far.done (e ∷ []));
}

-- The copies come to what they came to before.
pub repeated_same : (ps qs : List CopyState) (es left : List Effect) → HaveRepeated ps es qs left →
    caught_up qs left ≡ caught_up ps es
repeated_same ps qs es left repeated = ap (λ l. caught_up l left) repeated.is ∙
    sym (caught_up-append ps repeated.done left) ∙ ap (caught_up ps) (sym repeated.are)

pub repeated_can : (ps qs : List CopyState) (es left : List Effect) → HaveRepeated ps es qs left →
    CanCatchUp ps es → CanCatchUp qs left
repeated_can ps qs es left repeated can = subst (λ l. CanCatchUp l left) (sym repeated.is)
    (can_rest ps repeated.done left (subst (CanCatchUp ps) repeated.are can))

pub repeated_both : (ps qs rs : List CopyState) (es mid left : List Effect) →
    HaveRepeated ps es qs mid → HaveRepeated qs mid rs left → HaveRepeated ps es rs left
repeated_both ps qs rs es mid left first more = record {
  done = first.done ++ more.done;
  are = first.are ∙ ap (λ l. first.done ++ l) more.are ∙
      sym (append_assoc first.done more.done left);
  is = more.is ∙ ap (λ l. caught_up l more.done) first.is ∙
      sym (caught_up-append ps first.done more.done);
}

-- ---- short values

short_one : (b : Bool) (p q : CopyState) → HoldsShort widest p.collection.content →
    HoldsShort widest q.collection.content → HoldsShort widest (cond b q p).collection.content
short_one true p q old new = new
short_one false p q old new = old

short_at : (ps : List CopyState) (at : ℕ) (e : Effect) → AreShort widest (gathered ps) →
    IsShort widest e.call →
    AreShort widest (gathered (with_effect_at ps at e))
short_at [] at e short call = tt
short_at (p ∷ ps) zero e short call = (
  short_one (nat_lt p.stamp e.lsn) p (record p {
    collection = record p.collection { content = after p.collection.content e.call e.reply };
  }) short.0 (content_after widest p.collection.content e.call e.reply short.0 call),
  short.1,
)
short_at (p ∷ ps) (suc at) e short call = (short.0, short_at ps at e short.1 call)

short_done : (ps : List CopyState) (es left : List Effect) → AreShort widest (gathered ps) →
    AllByRecursion (λ e. IsShort widest e.call) (es ++ left) →
    AreShort widest (gathered (caught_up ps es))
short_done ps [] left short calls = short
short_done ps (e ∷ es) left short calls =
    short_done (with_effect_at ps e.collection e) es left
    (short_at ps e.collection e short calls.0) calls.1

pub repeated_short : (ps qs : List CopyState) (es left : List Effect) → HaveRepeated ps es qs left →
    AreShort widest (gathered ps) → AllByRecursion (λ e. IsShort widest e.call) es →
    AreShort widest (gathered qs)
repeated_short ps qs es left repeated short calls =
    subst (λ l. AreShort widest (gathered l)) (sym repeated.is)
    (short_done ps repeated.done left short
    (subst (AllByRecursion (λ e. IsShort widest e.call)) repeated.are calls))

pub short_left : (es left : List Effect) →
    AllByRecursion (λ e. IsShort widest e.call) (es ++ left) →
    AllByRecursion (λ e. IsShort widest e.call) left
short_left [] left calls = calls
short_left (e ∷ es) left calls = short_left es left calls.1

pub short_calls-left : (ps qs : List CopyState) (es left : List Effect) →
    HaveRepeated ps es qs left → AllByRecursion (λ e. IsShort widest e.call) es →
    AllByRecursion (λ e. IsShort widest e.call) left
short_calls-left ps qs es left repeated calls = short_left repeated.done left
    (subst (AllByRecursion (λ e. IsShort widest e.call)) repeated.are calls)

-- ---- a copy more

not_past : (stamp lsn : ℕ) → lsn ≤ stamp → nat_lt stamp lsn ≡ false
not_past stamp lsn low = le-ltb stamp lsn low

-- Calls that came before a copy leave it.
pub past_at : (ps : List CopyState) (p : CopyState) (at : ℕ) (e : Effect) → e.lsn ≤ p.stamp →
    with_effect_at (ps ++ p ∷ []) at e ≡ with_effect_at ps at e ++ p ∷ []
past_at [] p zero e low = ap (λ b. cond b (record p {
  collection = record p.collection { content = after p.collection.content e.call e.reply };
}) p ∷ []) (not_past p.stamp e.lsn low)
past_at [] p (suc at) e low = refl
past_at (q ∷ ps) p zero e low = refl
past_at (q ∷ ps) p (suc at) e low = ap (λ l. q ∷ l) (past_at ps p at e low)

can_past : (ps : List CopyState) (p : CopyState) (at : ℕ) (e : Effect) → e.lsn ≤ p.stamp →
    CanRepeatAt ps at e → CanRepeatAt (ps ++ p ∷ []) at e
can_past [] p zero e low can = λ past. absurd (omega (arith, low, past))
can_past [] p (suc at) e low can = tt
can_past (q ∷ ps) p zero e low can = can
can_past (q ∷ ps) p (suc at) e low can = can_past ps p at e low can

pub can_more : (ps : List CopyState) (p : CopyState) (es : List Effect) →
    AllByRecursion (λ e. e.lsn ≤ p.stamp) es → CanCatchUp ps es →
    CanCatchUp (ps ++ p ∷ []) es
can_more ps p [] low can = tt
can_more ps p (e ∷ es) low can = (
  can_past ps p e.collection e low.0 can.0,
  subst (λ l. CanCatchUp l es) (sym (past_at ps p e.collection e low.0))
      (can_more (with_effect_at ps e.collection e) p es low.1 can.1),
)

-- What can be repeated on copies can be on one more.
pub short_more : (ps : List CopyState) (p : CopyState) → HoldsShort widest p.collection.content →
    AreShort widest (gathered ps) → AreShort widest (gathered (ps ++ p ∷ []))
short_more [] p one short = (one, tt)
short_more (q ∷ ps) p one short = (short.0, short_more ps p one short.1)

-- ---- all that is gathered

module _ (mark : ℕ) (parts : List CopyState) (effects : List Effect) (frozen : Option FrozenState)
    (is : IsGathered (record {
      mark = mark;
      parts = parts;
      effects = effects;
      frozen = frozen;
    })) where
  -- calls more
  pub gathered_taken : (now : ℕ) (more : List Effect) → CanCatchUp parts (effects ++ more) →
      AllByRecursion (λ e. IsShort widest e.call) more →
      IsGathered (record {
        mark = now;
        parts = parts;
        effects = effects ++ more;
        frozen = frozen;
      })
  gathered_taken now more can short = record {
    can = can;
    short = is.short;
    short_calls = each_append (λ e. IsShort widest e.call) effects more is.short_calls short;
    frozen = is.frozen;
  }

  -- and a copy more
  pub gathered_more : (now : ℕ) (more : List Effect) (p : CopyState) →
      CanCatchUp parts (effects ++ more) → AllByRecursion (λ e. IsShort widest e.call) more →
      HoldsShort widest p.collection.content →
      AllByRecursion (λ e. e.lsn ≤ p.stamp) (effects ++ more) →
      IsGathered (record {
        mark = now;
        parts = parts ++ p ∷ [];
        effects = effects ++ more;
        frozen = frozen;
      })
  gathered_more now more p can calls short low = record {
    can = can_more parts p (effects ++ more) low can;
    short = short_more parts p short is.short;
    short_calls = each_append (λ e. IsShort widest e.call) effects more is.short_calls calls;
    frozen = is.frozen;
  }

  pub gathered_repeated : (now : List CopyState) (left : List Effect) →
      HaveRepeated parts effects now left →
      IsGathered (record { mark = mark; parts = now; effects = left; frozen = frozen })
  gathered_repeated now left repeated = record {
    can = repeated_can parts now effects left repeated is.can;
    short = repeated_short parts now effects left repeated is.short is.short_calls;
    short_calls = short_calls-left parts now effects left repeated is.short_calls;
    frozen = is.frozen;
  }
