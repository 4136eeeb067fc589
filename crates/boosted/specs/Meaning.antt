-- What the calls of a boosted collection mean.
use Rattle.std.specs.Prelude.{◌≡◌, ℕ, ◌≤◌, ◌⊎◌, MatchOption}
use Rattle.calls.specs.declared.call.Call.{Call}
use Rattle.calls.specs.declared.reply.Reply.{Reply}
use Rattle.calls.specs.declared.refusal.Refusal.{Refusal}
use Rattle.calls.specs.Rules.{need_of, Conflict, inverse_of, Askable, IsShort, Deferrable}
use Rattle.calls.specs.declared.format.Format.{Format}
use Rattle.calls.specs.Limits.{max_wear}

-- S: contents. A: places in a content.
pub record Meaning (S A : Type 0) : Type 1 where
  -- in a content the call at a place gets the reply
  pub answers : S → A → Call → Reply → Type 0
  -- what a call, answered so, leaves
  pub leaves : S → A → Call → Reply → S
  -- the call is one of what is at the place
  pub belongs : S → A → Call → Type 0
  -- the call is not one of what is at the place, and is refused so
  pub misplaced : S → A → Call → Refusal → Type 0
  -- the content with which a collection begins
  pub empty : S
  -- what so many runs can reach from the empty content
  pub within : S → ℕ → Type 0

-- The calls are at two places, or their needs do not conflict.
abbrev pub Apart : {A : Type 0} → A → Call → Reply → A → Call → Reply → Type 0
Apart at a ra bt b rb = at ≡ bt → Conflict (need_of a ra) (need_of b rb) → ⊥

-- A client's call is refused so: where it is misplaced, else where it cannot be asked, else where a
-- value is too long for the format.
abbrev pub AskRefusal : Format → (belongs : Type 0) → (misplaced : Refusal → Type 0) → Call →
    Refusal →
    Type 0
AskRefusal f belongs misplaced c Refusal.BadArg = belongs × (Askable c → ⊥)
AskRefusal f belongs misplaced c Refusal.TooLong = belongs × Askable c × (IsShort f c → ⊥)
AskRefusal f belongs misplaced c r = misplaced r

-- A call to be deferred is refused so: where it is misplaced, else where it cannot be deferred.
abbrev pub DeferRefusal : (belongs : Type 0) → (misplaced : Refusal → Type 0) → Call → Refusal →
    Type 0
DeferRefusal belongs misplaced c Refusal.BadArg = belongs × (Deferrable c → ⊥)
DeferRefusal belongs misplaced c r = misplaced r

-- A content that so many runs can reach is reached by some number of them from which one more is no
-- harm.
abbrev pub IsRoomy : (ℕ → Type 0) → Type 0
IsRoomy within = (n : ℕ) × within n × (n ≤ max_wear)

module _ {S A : Type 0} (meaning : Meaning S A) where
  -- The content is within a number to which no run leaves its range.
  abbrev pub HasRoom : S → Type 0
  HasRoom s = IsRoomy (meaning.within s)

  -- The call, answered so, leads from s to t.
  abbrev pub Does : S → A → Call → Reply → S → Type 0
  Does s at c r t = meaning.answers s at c r × (t ≡ meaning.leaves s at c r)

  -- What a call did, answered so, is taken back from t to s. Where there is no inverse, nothing
  -- changed.
  abbrev pub Undoes : S → A → Call → Reply → S → Type 0
  Undoes t at c r s =
      MatchOption (inverse_of c r) (s ≡ t) (λ back. (reply : Reply) × Does t at back reply s)

  -- The call has a reply: each that a client can ask has, and of the others those that are answered
  -- now.
  abbrev pub HasReply : S → A → Call → Type 0
  HasReply s at c = Askable c ⊎ ((r : Reply) × meaning.answers s at c r)

  -- A client can ask for the call, in a store of the format.
  abbrev pub CanAsk : Format → S → A → Call → Type 0
  CanAsk f s at c = meaning.belongs s at c × Askable c × IsShort f c

  -- A client can put the call off.
  abbrev pub CanDefer : S → A → Call → Type 0
  CanDefer s at c = meaning.belongs s at c × Deferrable c

  -- A client's call is refused so,
  abbrev pub AskRefused : Format → S → A → Call → Refusal → Type 0
  AskRefused f s at c = AskRefusal f (meaning.belongs s at c) (meaning.misplaced s at c) c

  -- and a call to be deferred so.
  abbrev pub DeferRefused : S → A → Call → Refusal → Type 0
  DeferRefused s at c = DeferRefusal (meaning.belongs s at c) (meaning.misplaced s at c) c
