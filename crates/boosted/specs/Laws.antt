-- The laws of a boosted collection.
use Rattle.std.specs.Prelude.{◌≡◌, ℕ, ◌+◌, ◌⊎◌}
use Rattle.std.specs.List.{AllByRecursion}
use Rattle.calls.specs.declared.call.Call.{Call}
use Rattle.calls.specs.declared.reply.Reply.{Reply}
use Rattle.calls.specs.declared.need.Mode.{Mode}
use Rattle.calls.specs.Rules.{left_by, need_of, Conflict, Askable, Deferrable, Disposable}
use Rattle.boosted.specs.Meaning.{Meaning, Apart, Does, Undoes}

module _ {S A : Type 0} (meaning : Meaning S A) where
  -- Two calls, one after another from s, may change places.
  abbrev pub ChangePlaces : S → A → Call → Reply → A → Call → Reply → Type 0
  ChangePlaces s at a ra bt b rb =
      (m t : S) → Does meaning s at a ra m → Does meaning m bt b rb t →
      (u : S) × Does meaning s bt b rb u × Does meaning u at a ra t

  -- What holds of a content s.
  pub record ContentLaws (s : S) : Type 0 where
    -- What a call did is taken back by its inverse, which leads nowhere else.
    pub goes_back : (t : S) (at : A) (c : Call) (r : Reply) → Askable c → Does meaning s at c r t →
        Undoes meaning t at c r s × ((u : S) → Undoes meaning t at c r u → u ≡ s)
    -- Calls that are apart commute,
    pub commutes : (at bt : A) (a : Call) (ra : Reply) (b : Call) (rb : Reply) → Askable a →
        Askable b →
        Apart at a ra bt b rb → ChangePlaces s at a ra bt b rb
    -- and a later moves left past a call that is apart from it.
    pub moves_left : (at bt : A) (a : Call) (ra : Reply) (b : Call) (rb : Reply) →
        Askable a → Disposable b → Apart at a ra bt b rb → ChangePlaces s at a ra bt b rb
    -- A call that only reads, as its need says, changes nothing.
    pub reads_leave : (at : A) (c : Call) (r : Reply) → (need_of c r).mode ≡ Mode.Read →
        meaning.answers s at c r → meaning.leaves s at c r ≡ s
    -- What has been answered is a call of the place.
    pub answered_belongs : (at : A) (c : Call) (r : Reply) →
        meaning.answers s at c r → meaning.belongs s at c
    -- A run wears by one.
    pub wears : (n : ℕ) (at : A) (c : Call) (r : Reply) →
        meaning.within s n → meaning.answers s at c r →
        meaning.within (meaning.leaves s at c r) (n + 1)
    -- What can be deferred is Done at once, and stays so past any run.
    pub deferred_is_ready : (at : A) (d : Call) →
        meaning.belongs s at d → Deferrable d → meaning.answers s at d Reply.Done
    pub deferred_stays_ready : (at bt : A) (c : Call) (r : Reply) (d : Call) → Deferrable d →
        meaning.answers s at c r → meaning.answers s bt d Reply.Done →
        meaning.answers (meaning.leaves s at c r) bt d Reply.Done
    -- What a call leaves is Done right after it.
    pub leaves_ready : (at : A) (c : Call) (r : Reply) → meaning.answers s at c r →
        AllByRecursion (λ d. meaning.answers (meaning.leaves s at c r) at d Reply.Done)
        (left_by c r)
    -- A later that is Done stays so past every call that a client can ask,
    pub stays_past_calls : (at bt : A) (c : Call) (r : Reply) (d : Call) → Askable c →
        Disposable d →
        meaning.answers s at c r → meaning.answers s bt d Reply.Done →
        meaning.answers (meaning.leaves s at c r) bt d Reply.Done
    -- past every later that is another one, or apart from it,
    pub stays_past_laters : (at bt : A) (b d : Call) → Disposable b → Disposable d →
        (at ≡ bt → (b ≡ d → ⊥) ⊎ (Conflict (need_of b Reply.Done) (need_of d Reply.Done) → ⊥)) →
        meaning.answers s at b Reply.Done → meaning.answers s bt d Reply.Done →
        meaning.answers (meaning.leaves s at b Reply.Done) bt d Reply.Done
    -- and past the undoing of every call that is apart from it.
    pub stays_past_undoing : (u : S) (at bt : A) (c : Call) (r : Reply) (d : Call) →
        Askable c → Disposable d → Apart at c r bt d Reply.Done → Undoes meaning s at c r u →
        meaning.answers s bt d Reply.Done → meaning.answers u bt d Reply.Done

  pub record BoostedLaws : Type 0 where
    pub starts_within : meaning.within meaning.empty 0
    pub holds : (s : S) → ContentLaws s
