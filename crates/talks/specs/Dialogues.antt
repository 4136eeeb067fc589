-- What a client of a store was told in its talks, and what that says of the history and the mark.
use Rattle.std.specs.Prelude.{◌≡◌, ℕ, zero, suc, ◌≤◌, Bool, List, [], ◌∷◌, ◌++◌, Option, None, Some}
use Rattle.std.specs.Prelude.{Ok, Contains}
use Rattle.std.specs.List.{AllByRecursion}
use mathlib.Core.List.{IsPrefix}
use Rattle.txn.specs.declared.actions.Action.{Action}
use Rattle.group_commit.specs.declared.mark.Raised.{Raised}
use Rattle.desks.specs.Origins.{Origin}
use Rattle.desks.specs.Seen.{step_of}
use Rattle.clients.specs.Calls as calls
use Rattle.clients.specs.Known.{Known}
use Rattle.talks.specs.declared.speaking.End.{End}
use Rattle.talks.specs.declared.speaking.Speaker.{Ghosts}
use Rattle.talks.specs.declared.texts.Response.{Response}
use Rattle.talks.specs.declared.told.Told.{Told}
use Rattle.talks.specs.declared.why.Why.{Why}
use Rattle.talks.specs.Sessions.{SessionState, session, Says, Ends, response_place, IsRefusal}
use Rattle.talks.specs.Talks.{TalksOn, IsTakenBack}

-- ---- talks

-- who speaks for a client of a store
abbrev pub session_speaker : Origin → Ghosts SessionState Response
session_speaker o = record {
  says = Says o;
  ends = λ old end new. Ends old.known old.ticket end new.known × (new.ticket ≡ old.ticket);
  hears = λ old failed new. calls.Hears old.known [] (failed ∷ []) new.known ×
      (new.ticket ≡ old.ticket);
  is_open = λ s. calls.IsOpen s.known.phase;
  placed = response_place;
  refuses = IsRefusal;
}

-- A client that had no ticket held a talk, in which it was told this, and was left so.
pub record Holds (o : Origin) (known : Known) (told : List (Told Response)) (behind : Known) :
    Type 0 where
  pub before : Option (List ℕ)
  pub after : Option (List ℕ)
  pub why : Why
  pub ended : SessionState
  pub is_taken_back : Bool
  pub left : SessionState
  pub talked : TalksOn (session_speaker o) before after (Some []) (Some told) (session known None)
      why ended
  pub taken_back : IsTakenBack (session_speaker o) ended is_taken_back left
  pub behind_is : left.known ≡ behind

-- It held so many talks, one after another, each of which began with no transaction open, and was
-- told this in all of them.
abbrev pub HoldsSoMany : Origin → ℕ → Known → List (Told Response) → Known → Type 0
HoldsSoMany o zero known told behind = (told ≡ []) × (behind ≡ known)
HoldsSoMany o (suc n) known told behind =
    (first last : List (Told Response)) × (mid : Known) × HoldsSoMany o n known first mid ×
    (calls.IsOpen mid.phase → ⊥) × Holds o mid last behind × (told ≡ first ++ last)

-- It held talks, one after another, and was told this in all of them.
abbrev pub HoldsAll : Origin → Known → List (Told Response) → Known → Type 0
HoldsAll o known told behind = (n : ℕ) × HoldsSoMany o n known told behind

-- What it was told before goes on with more talks, if nothing was open before them.
abbrev pub LeadsOn : Origin → (old : Known) → (before : List (Told Response)) → (new : Known) →
    (after : List (Told Response)) → Type 0
LeadsOn o old before new after = (calls.IsOpen old.phase → ⊥) → (first : Known) →
    HoldsAll o first before old → HoldsAll o first after new

-- ---- what a client was told, against what it knows

-- the action commits a transaction or makes a collection, and has this place
abbrev pub Places : ℕ → Action → Type 0
Places place (Action.Commit n (Ok given)) = given ≡ place
Places place (Action.Make name kind (Ok given)) = given ≡ place
Places place action = ⊥

-- one of the steps that the client has seen is its own commit or making of this place
pub record HasPlaced (known : Known) (place : ℕ) : Type 0 where
  pub action : Action
  pub places : Places place action
  pub seen : Contains known.seen (step_of known.number action)

-- the client has loaded a count of the mark that reaches the place: all commits and makings up to
-- it are kept
pub record HasLoaded (known : Known) (place : ℕ) : Type 0 where
  pub count : Raised
  pub loaded : Contains known.counts count
  pub reaches : place ≤ count.count

-- a commit or making of the client's own is kept
pub record HasKept (known : Known) : Type 0 where
  pub place : ℕ
  pub placed : HasPlaced known place
  pub kept : HasLoaded known place

-- An answer that tells a place tells that of a step of the client's own, and one that tells that
-- something is kept tells what the mark has said.
abbrev pub IsAnswerBorneOut : Known → Response → Type 0
IsAnswerBorneOut known (Response.Placed place) = HasPlaced known place
IsAnswerBorneOut known Response.Kept = HasKept known
IsAnswerBorneOut known response = Unit {0}

-- So is it with what the client was told.
abbrev pub IsBorneOut : Known → Told Response → Type 0
IsBorneOut known (Told.Response response) = IsAnswerBorneOut known response
IsBorneOut known (Told.Waited End.Kept) = HasKept known
IsBorneOut known (Told.Kept place) = HasPlaced known place × HasLoaded known place
IsBorneOut known (Told.Done responses place) =
    AllByRecursion (IsAnswerBorneOut known) responses.items × HasPlaced known place
IsBorneOut known (Told.DoneAndKept responses place) =
    AllByRecursion (IsAnswerBorneOut known) responses.items × HasPlaced known place ×
    HasLoaded known place
IsBorneOut known told = Unit {0}

-- What the client knew it knows still: it is the same one, it has seen as much and more, and no
-- count that it had loaded is gone.
pub record KnowsStill (old new : Known) : Type 0 where
  pub number : new.number ≡ old.number
  pub seen : IsPrefix old.seen new.seen
  pub counts : (x : Raised) → Contains old.counts x → Contains new.counts x

-- What clients were told in talks is borne out by what they know at the end.
pub record AreBorneOut (old : Known) (told : List (Told Response)) (new : Known) : Type 0 where
  pub still : KnowsStill old new
  pub each : AllByRecursion (IsBorneOut new) told
