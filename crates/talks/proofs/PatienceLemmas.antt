-- Transactions that wait.
use Rattle.std.proofs.Common.{inr, ℕ, suc, List, [], true, Option}
use Rattle.script.specs.declared.action.Request.{Request}
use Rattle.talks.specs.declared.patience.Tried.{Tried}
use Rattle.talks.specs.declared.speaking.Speaker.{Ghosts}
use Rattle.talks.specs.declared.told.Told.{Told}
use Rattle.talks.specs.declared.transacting.Outcome.{Outcome}
use Rattle.talks.specs.Hearing.{Hears}
use Rattle.talks.specs.Talks.{Stops, Tries, TriesInVain, IsTried}
use Rattle.talks.specs.Talks.{GivesUp, EndsTries, TransactsWithin}
use Rattle.talks.proofs.TalkLemmas.{hears_more}

-- nothing is heard, and nothing more
pub still_heard : {A : Type 0} (h k l : Option (List (Told A))) → Hears h k [] → Hears k l [] →
    Hears h l []
still_heard h k l heard more = hears_more h k l [] [] heard more

module _ {S A : Type 0} (s : Ghosts S A) where
  -- a try of which a call was refused
  pub tried_stopped : (old opened mid new : S) (rs : List Request) (begun : A) (told : Told A)
      (t : Tried A) → s.says old Request.Begin begun opened → (s.refuses begun → ⊥) →
      Stops s opened rs told mid → GivesUp s mid told t new → IsTried s old rs t new
  tried_stopped old opened mid new rs begun told (Tried.Transacted outcome) begins is_open stops
      done =
      inr (begun, opened, begins, is_open, inr (told, done.0, mid, done.1, stops, done.2))
  tried_stopped old opened mid new rs begun told (Tried.TakenBack back) begins is_open stops done =
      (begun, opened, mid, begins, is_open, inr (told, stops), done)

  -- tries so far
  abbrev pub AreInVain : S → List Request → S → Type 0
  AreInVain old rs new = (n : ℕ) × TriesInVain s n old rs new

  -- one more
  pub one_more : (old mid new : S) (rs : List Request) → AreInVain old rs mid →
      Tries s mid rs true new → AreInVain old rs new
  one_more old mid new rs were try = (suc were.0, (mid, were.1, try))

  -- what they end with
  pub ended : (old mid new : S) (rs : List Request) (outcome : Outcome A) → AreInVain old rs mid →
      EndsTries s mid rs outcome new → TransactsWithin s old rs outcome new
  ended old mid new rs outcome were ends = (were.0, mid, were.1, ends)
