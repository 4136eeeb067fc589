-- What a shelf shows of a call that a transaction asks for, at once or deferred.
use Rattle.std.specs.Prelude.{◌≡◌, ℕ, Option, Some, None, Result, OnOk, IfErr}
use Rattle.calls.specs.declared.format.Format.{Format}
use Rattle.calls.specs.declared.call.Call.{Call}
use Rattle.calls.specs.declared.reply.Reply.{Reply}
use Rattle.calls.specs.declared.when.When.{When}
use Rattle.calls.specs.declared.need.Need.{Need}
use Rattle.calls.specs.declared.refusal.Refusal.{Refusal}
use Rattle.calls.specs.Rules.{need_of, AsksForValue}
use Rattle.abstract_locks.specs.Holds.{IsClear, IsBusyRefusal}
use Rattle.boosted.specs.Meaning.{Meaning, CanAsk, AskRefused, CanDefer, DeferRefused}
use Rattle.steps.specs.Shelves.{ShelfState}
use Rattle.steps.specs.declared.looked.Looked.{Looked}
use Rattle.steps.specs.declared.looked.Looked.TheVariants.{Refused, Starved, Answered}

module _ {C : Type 0} (meaning : Meaning C ℕ) where
  -- The call with the reply has the need, which is free or in another transaction's way.
  pub record IsFree (s : ShelfState C) (number at : ℕ) (call : Call) (reply : Reply)
      (need : Need) (clear : Result (Unit {0}) Refusal) : Type 0 where
    pub needed : need ≡ need_of call reply
    pub free : OnOk clear (IsClear s.holds number at need)
    pub busy : IfErr clear (IsBusyRefusal s.holds number at need)

  -- A client can ask for the call in a store of the format: at once, or deferred.
  abbrev pub CanTake : When → Format → C → (at : ℕ) → Call → Type 0
  CanTake When.Now f s at call = CanAsk meaning f s at call
  CanTake When.AtCommit f s at call = CanDefer meaning s at call

  -- A client cannot, and is refused so.
  abbrev pub TakeRefused : When → Format → C → (at : ℕ) → Call → Refusal → Type 0
  TakeRefused When.Now f s at call e = AskRefused meaning f s at call e
  TakeRefused When.AtCommit f s at call e = DeferRefused meaning s at call e

  -- The call can get the reply: of a deferred one it is Done.
  abbrev pub CanTell : When → C → (at : ℕ) → Call → Reply → Type 0
  CanTell When.Now s at call reply = meaning.answers s at call reply
  CanTell When.AtCommit s at call reply =
      (reply ≡ Reply.Done) × meaning.answers s at call Reply.Done

  -- There may be no memory for the reply.
  abbrev pub MayStarve : When → Call → Type 0
  MayStarve When.Now call = AsksForValue call
  MayStarve When.AtCommit call = ⊥

  -- The reply to a call that a client can ask for, if there is memory for it.
  abbrev pub IsTold : When → Format → C → (at : ℕ) → Call → Option Reply → Type 0
  IsTold when f s at call (Some reply) = CanTake when f s at call × CanTell when s at call reply
  IsTold when f s at call None = CanTake when f s at call × MayStarve when call

  -- A look at a call in a store of the format shows this.
  abbrev pub IsLooked : When → Format → ShelfState C → (number at : ℕ) → Call → Looked → Type 0
  IsLooked when f s number at call (Refused e) = TakeRefused when f s.now at call e
  IsLooked when f s number at call Starved = CanTake when f s.now at call × MayStarve when call
  IsLooked when f s number at call (Answered reply need clear) =
      CanTake when f s.now at call × CanTell when s.now at call reply ×
      IsFree s number at call reply need clear
