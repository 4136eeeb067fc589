-- What a talk with a client does: the lines that come, and what the client is told of each.
use Rattle.std.specs.Prelude.{◌≡◌, ◌≢◌, ◌⊎◌, ℕ, zero, suc, ◌≤◌, Bool, true, false, List, [], ◌∷◌}
use Rattle.std.specs.Prelude.{◌++◌, All}
use Rattle.std.specs.Prelude.{Option, None, Some, IsSome, IfSome, length, ◌||◌, string_bytes}
use Rattle.std.specs.Io.BufRead.{strip_last}
use Rattle.std.specs.Io.KnownBytes.{Consumes}
use Rattle.calls.specs.declared.refusal.Refusal.{Refusal}
use Rattle.talks.specs.declared.lines.Found.{Found}
use Rattle.talks.specs.Lines.{Begins, Brings}
use Rattle.script.specs.declared.action.Request.{Request}
use Rattle.script.specs.declared.wishes.Wish.{Wish}
use Rattle.script.specs.Wishes.{IsWishOf}
use Rattle.talks.specs.declared.speaking.End.{End}
use Rattle.talks.specs.declared.speaking.Speaker.{Ghosts}
use Rattle.talks.specs.declared.told.Told.{Told}
use Rattle.talks.specs.declared.transacting.Outcome.{Outcome}
use Rattle.talks.specs.declared.patience.Tried.{Tried}
use Rattle.talks.specs.declared.why.Why.{Why}
use Rattle.talks.specs.Hearing.{Hears, tolds_of}

-- ---- what is told

-- of a wait
abbrev pub told_end : {A : Type 0} → End → Told A
told_end End.Kept = Told.Waited End.Kept
told_end End.NoTicket = Told.Waited End.NoTicket
told_end End.Lost = Told.Refused Refusal.Lost

-- of a commit that was waited for
abbrev pub told_kept : {A : Type 0} → Told A → End → Told A
told_kept told End.Kept = told
told_kept told end = Told.Refused Refusal.Lost

-- Why the talk ends behind this, if it does.
abbrev pub next_behind : {A : Type 0} → Told A → Option Why
next_behind (Told.Refused Refusal.Lost) = Some Why.Lost
next_behind Told.Bye = Some Why.Bye
next_behind told = None

abbrev pub telling : {A : Type 0} → Told A → Option (Told A) × Option Why
telling told = (Some told, next_behind told)

-- Of a transaction that a line ends: the talk ends where it could not be taken back.
abbrev pub told_outcome : {A : Type 0} → Outcome A → Option (Told A) × Option Why
told_outcome (Outcome.Committed responses place) = (Some (Told.Done responses place), None)
told_outcome (Outcome.Refused told true) = (Some told, None)
told_outcome (Outcome.Refused told false) = (Some told, Some Why.Broken)

-- the line, whose carriage return at the end is no part of it, asks for this
abbrev pub IsWished : List ℕ → Wish → Type 0
IsWished line wish = IsWishOf wish (strip_last 13 line)

-- the text stands in one line, of a thousand bytes at most
abbrev pub IsReason : List ℕ → Type 0
IsReason text = (length text ≤ 1000) × All (λ b. b ≢ 10) text

-- What is told of a line that asks for nothing, and perhaps why it does not; or that its wish takes
-- more memory than there is.
abbrev pub IsUnwished : {A : Type 0} → List ℕ → Told A → Type 0
IsUnwished line (Told.NotUnderstood why) =
    ((wish : Wish) → IsWished line wish → ⊥) × IfSome why (λ text. IsReason (string_bytes text))
IsUnwished line (Told.Refused Refusal.NoMemory) = Unit {0}
IsUnwished line told = ⊥

-- what is told of how the store stands, and whether keeping has failed; or that this takes more
-- memory than there is
abbrev pub IsStatus : {A : Type 0} → Bool → Told A → Type 0
IsStatus failed (Told.Status text told) = told ≡ failed
IsStatus failed (Told.Refused Refusal.NoMemory) = Unit {0}
IsStatus failed told = ⊥

-- the wish commits or makes something, or asks whether something is kept
abbrev pub WantsKeeping : Wish → Type 0
WantsKeeping (Wish.Ask (Request.Make kind name)) = Unit {0}
WantsKeeping (Wish.Ask Request.Commit) = Unit {0}
WantsKeeping (Wish.Ask Request.Kept) = Unit {0}
WantsKeeping Wish.Keep = Unit {0}
WantsKeeping (Wish.Do calls) = Unit {0}
WantsKeeping (Wish.DoAndKeep calls) = Unit {0}
WantsKeeping (Wish.DoWithin limit calls) = Unit {0}
WantsKeeping (Wish.KeepWithin limit calls) = Unit {0}
WantsKeeping wish = ⊥

-- What a client is told at a line behind a silence in which its transaction was taken back: nothing
-- at one that asks for nothing, and then the next one is to be told so still.
abbrev pub IsTurnedAway : {A : Type 0} → Found → List ℕ → Option (Told A) → Bool → Type 0
IsTurnedAway Found.Line line told undone =
    (IsWished line Wish.Nothing × (told ≡ None) × (undone ≡ true))
    ⊎ ((IsWished line Wish.Nothing → ⊥) × (told ≡ Some Told.Idle) × (undone ≡ false))
IsTurnedAway found line told undone = (told ≡ Some Told.Idle) × (undone ≡ false)

module _ {S A : Type 0} (s : Ghosts S A) where
  -- ---- one line with a transaction

  -- Requests to take the open transaction back were made.
  abbrev pub AreTried : S → List A → S → Type 0
  AreTried old [] new = new ≡ old
  AreTried old (response ∷ responses) new =
      (mid : S) × s.says old Request.Abort response mid × AreTried mid responses new

  -- Whether none is open behind so many of them.
  abbrev pub IsSettled : ℕ → Bool → S → Type 0
  IsSettled tries true new = s.is_open new → ⊥
  IsSettled tries false new = s.is_open new × (tries ≡ 100000)

  -- whether it is taken back: it is not where it was tried that often
  abbrev pub IsTakenBack : S → Bool → S → Type 0
  IsTakenBack old back new =
      (responses : List A) × AreTried old responses new × IsSettled (length responses) back new

  -- What was open is taken back, and whether something was, and is no more.
  abbrev pub IsUndone : S → Bool → S → Type 0
  IsUndone old undone new =
      ((s.is_open old → ⊥) × (undone ≡ false) × (new ≡ old))
      ⊎ (s.is_open old × IsTakenBack old undone new)

  -- Calls were made one after another, none of which was refused.
  abbrev pub RunsCalls : S → List Request → List A → S → Type 0
  RunsCalls old [] responses new = (responses ≡ []) × (new ≡ old)
  RunsCalls old (r ∷ rs) responses new =
      (response : A) × (rest : List A) × (mid : S) × (responses ≡ response ∷ rest) ×
      s.says old r response mid ×
      (s.refuses response → ⊥) × RunsCalls mid rs rest new

  -- what is told of a call that ends a transaction: that it is refused, or that its answer takes
  -- more memory than there is
  abbrev pub IsStop : A → Told A → Type 0
  IsStop response (Told.Response told) = (told ≡ response) × s.refuses response
  IsStop response (Told.Refused Refusal.NoMemory) = Unit {0}
  IsStop response told = ⊥

  -- Calls were made up to one that ends the transaction.
  abbrev pub Stops : S → List Request → Told A → S → Type 0
  Stops old rs told new =
      (front : List Request) × (r : Request) × (back : List Request) × (responses : List A) ×
      (mid : S) × (response : A) × (rs ≡ front ++ r ∷ back) × RunsCalls old front responses mid ×
      s.says mid r response new × IsStop response told

  -- The open transaction, whose calls were answered so, is committed; or it is taken back, as far
  -- as that can be.
  abbrev pub Commits : S → List A → Outcome A → S → Type 0
  Commits old responses (Outcome.Committed told place) new =
      (response : A) × s.says old Request.Commit response new × (s.placed response ≡ Some place) ×
      (told.items ≡ responses)
  Commits old responses (Outcome.Refused (Told.Response response) back) new =
      (mid : S) × s.says old Request.Commit response mid × (s.placed response ≡ None) ×
      IsTakenBack mid back new
  Commits old responses outcome new = ⊥

  -- These calls are made in the open transaction, and all of it is committed as one; or all of it
  -- is taken back at the first refusal, as far as that can be.
  abbrev pub Finishes : S → List Request → Outcome A → S → Type 0
  Finishes old rs outcome new =
      ((responses : List A) × (mid : S) × RunsCalls old rs responses mid ×
      Commits mid responses outcome new)
      ⊎ ((told : Told A) × (back : Bool) × (mid : S) × (outcome ≡ Outcome.Refused told back) ×
      Stops old rs told mid × IsTakenBack mid back new)

  -- A transaction of these calls alone: it is not begun, or it is begun and finished.
  abbrev pub Transacts : S → List Request → Outcome A → S → Type 0
  Transacts old rs outcome new =
      ((response : A) × s.says old Request.Begin response new × s.refuses response ×
      (outcome ≡ Outcome.Refused (Told.Response response) true))
      ⊎ ((begun : A) × (opened : S) × s.says old Request.Begin begun opened ×
      (s.refuses begun → ⊥) × Finishes opened rs outcome new)

  -- What the calls of one line do: where a transaction is open they finish it, and else they are a
  -- transaction of their own.
  abbrev pub Does : S → List Request → Outcome A → S → Type 0
  Does old rs outcome new = (s.is_open old × Finishes old rs outcome new)
      ⊎ ((s.is_open old → ⊥) × Transacts old rs outcome new)

  -- ---- one line with a transaction that waits

  -- A transaction of these calls, as far as they are not refused, that is taken back, as far as
  -- that can be.
  abbrev pub Tries : S → List Request → Bool → S → Type 0
  Tries old rs back new = (begun : A) × (opened mid : S) × s.says old Request.Begin begun opened ×
      (s.refuses begun → ⊥) × (((responses : List A) × RunsCalls opened rs responses mid)
      ⊎ ((told : Told A) × Stops opened rs told mid)) × IsTakenBack mid back new

  -- So many of them, each of which is taken back whole.
  abbrev pub TriesInVain : ℕ → S → List Request → S → Type 0
  TriesInVain zero old rs new = new ≡ old
  TriesInVain (suc n) old rs new =
      (mid : S) × TriesInVain n old rs mid × Tries mid rs true new

  -- what becomes of a try whose calls were answered so, and of one of which a call was refused
  abbrev pub Settles : S → List A → Tried A → S → Type 0
  Settles old responses (Tried.Transacted outcome) new = Commits old responses outcome new
  Settles old responses (Tried.TakenBack back) new = IsTakenBack old back new

  abbrev pub GivesUp : S → Told A → Tried A → S → Type 0
  GivesUp old told (Tried.Transacted outcome) new =
      (back : Bool) × (outcome ≡ Outcome.Refused told back) × IsTakenBack old back new
  GivesUp old told (Tried.TakenBack back) new = IsTakenBack old back new

  -- what becomes of a try
  abbrev pub IsTried : S → List Request → Tried A → S → Type 0
  IsTried old rs (Tried.Transacted outcome) new = Transacts old rs outcome new
  IsTried old rs (Tried.TakenBack back) new = Tries old rs back new

  -- What tries end with: a transaction of its own; or nothing is done as the client has gone; or
  -- one more try cannot be taken back.
  abbrev pub EndsTries : S → List Request → Outcome A → S → Type 0
  EndsTries old rs outcome new = Transacts old rs outcome new
      ⊎ ((outcome ≡ Outcome.Refused Told.Idle true) × (new ≡ old))
      ⊎ ((outcome ≡ Outcome.Refused Told.Idle false) × Tries old rs false new)

  -- A transaction of these calls alone that waits: of its tries each before the last is taken back
  -- whole, and the last one is a transaction that does not wait.
  abbrev pub TransactsWithin : S → List Request → Outcome A → S → Type 0
  TransactsWithin old rs outcome new =
      (n : ℕ) × (mid : S) × TriesInVain n old rs mid × EndsTries mid rs outcome new

  -- ---- lines

  -- A commit of the open transaction, and a wait until it is kept.
  abbrev pub KeepsOpen : S → Told A → S → Type 0
  KeepsOpen old told new = (response : A) × (mid : S) × s.says old Request.Commit response mid ×
      (((s.placed response ≡ None) × (told ≡ Told.Response response) × (new ≡ mid))
      ⊎ ((place : ℕ) × (end : End) × (s.placed response ≡ Some place) × s.ends mid end new ×
      (told ≡ told_kept (Told.Kept place) end)))

  -- A wait for the transaction that a line ends, where it is committed.
  abbrev pub KeepsOutcome : S → Outcome A → Option (Told A) → Option Why → S → Type 0
  KeepsOutcome old (Outcome.Committed responses place) told next new =
      (end : End) × s.ends old end new ×
      ((told, next) ≡ telling (told_kept (Told.DoneAndKept responses place) end))
  KeepsOutcome old (Outcome.Refused refused back) told next new =
      ((told, next) ≡ told_outcome (Outcome.Refused refused back)) × (new ≡ old)

  -- What a wish does that is carried out, what is to be told, and whether the talk ends.
  abbrev pub CarriesOut : S → Wish → Option (Told A) → Option Why → S → Type 0
  CarriesOut old Wish.Nothing told next new = (told ≡ None) × (next ≡ None) × (new ≡ old)
  CarriesOut old (Wish.Ask r) told next new =
      (response : A) × s.says old r response new × (told ≡ Some (Told.Response response)) ×
      (next ≡ None)
  CarriesOut old Wish.Wait told next new =
      (end : End) × s.ends old end new × ((told, next) ≡ telling (told_end end))
  CarriesOut old Wish.Keep told next new =
      (kept : Told A) × KeepsOpen old kept new × ((told, next) ≡ telling kept)
  CarriesOut old (Wish.Do calls) told next new =
      (outcome : Outcome A) × Does old calls.items outcome new ×
      ((told, next) ≡ told_outcome outcome)
  CarriesOut old (Wish.DoAndKeep calls) told next new =
      (outcome : Outcome A) × (mid : S) × Does old calls.items outcome mid ×
      KeepsOutcome mid outcome told next new
  CarriesOut old (Wish.DoWithin limit calls) told next new =
      (outcome : Outcome A) × TransactsWithin old calls.items outcome new ×
      ((told, next) ≡ told_outcome outcome)
  CarriesOut old (Wish.KeepWithin limit calls) told next new =
      (outcome : Outcome A) × (mid : S) × TransactsWithin old calls.items outcome mid ×
      KeepsOutcome mid outcome told next new
  CarriesOut old Wish.Status told next new =
      (failed : Bool) × (status : Told A) × s.hears old failed new × IsStatus failed status ×
      (told ≡ Some status) × (next ≡ None)
  CarriesOut old Wish.Bye told next new =
      ((told, next) ≡ telling Told.Bye) × (new ≡ old)

  -- the place of something that is perhaps not kept is told
  abbrev pub TellsPlace : Option (Told A) → Type 0
  TellsPlace (Some (Told.Response response)) = IsSome (s.placed response)
  TellsPlace (Some (Told.Done responses place)) = Unit {0}
  TellsPlace told = ⊥

  -- The client is told that keeping has failed, which was heard, and the talk ends.
  abbrev pub IsLost : S → Option (Told A) → Option Why → S → Type 0
  IsLost old told next new = s.hears old true new ×
      ((told, next) ≡ telling (Told.Refused Refusal.Lost))

  -- What was to be told is told: a place only where keeping was heard not to have failed; else
  -- Lost.
  abbrev pub IsUnlessFailed : S → Option (Told A) → Option Why → Option (Told A) → Option Why → S →
      Type 0
  IsUnlessFailed old done ends told next new =
      ((TellsPlace done → ⊥) × (told ≡ done) × (next ≡ ends) × (new ≡ old))
      ⊎ (TellsPlace done × s.hears old false new × (told ≡ done) × (next ≡ ends))
      ⊎ (TellsPlace done × IsLost old told next new)

  -- a wish is begun: one that wants keeping once that was heard not to have failed
  abbrev pub IsBegun : S → Wish → S → Type 0
  IsBegun old wish new =
      ((WantsKeeping wish → ⊥) × (new ≡ old)) ⊎ (WantsKeeping wish × s.hears old false new)

  -- What a wish does, what the client is told, and whether the talk ends. Where keeping was heard
  -- to have failed, one that wants it is told Lost and not carried out.
  abbrev pub Exchanges : S → Wish → Option (Told A) → Option Why → S → Type 0
  Exchanges old wish told next new =
      (WantsKeeping wish × IsLost old told next new)
      ⊎ ((begun : S) × (mid : S) × (done : Option (Told A)) × (ends : Option Why) ×
      IsBegun old wish begun × CarriesOut begun wish done ends mid ×
      IsUnlessFailed mid done ends told next new)

  -- A line is answered.
  abbrev pub IsLineAnswered : S → List ℕ → Option (Told A) → Option Why → S → Type 0
  IsLineAnswered old line told next new =
      ((wish : Wish) × IsWished line wish × Exchanges old wish told next new)
      ⊎ ((unwished : Told A) × IsUnwished line unwished × (told ≡ Some unwished) ×
      (next ≡ None) × (new ≡ old))

  -- In a silence what is open is taken back, and the next line is to be told so.
  abbrev pub FallsSilent : S → Bool → S → Bool → Type 0
  FallsSilent old undone new after =
      (more : Bool) × IsUndone old more new × (after ≡ (undone || more))

  -- What was found is answered. Where a transaction was taken back in a silence and the client was
  -- not told yet, a line is answered that alone.
  abbrev pub IsAnswered : Found → S → Bool → List ℕ → Option (Told A) → Option Why → S → Bool →
      Type 0
  IsAnswered Found.Line old false line told next new after =
      IsLineAnswered old line told next new × (after ≡ false)
  IsAnswered Found.TooLong old false line told next new after =
      (told ≡ Some Told.TooLong) × (next ≡ None) × (new ≡ old) × (after ≡ false)
  IsAnswered Found.Line old true line told next new after =
      IsTurnedAway Found.Line line told after × (next ≡ None) × (new ≡ old)
  IsAnswered Found.TooLong old true line told next new after =
      IsTurnedAway Found.TooLong line told after × (next ≡ None) × (new ≡ old)
  IsAnswered Found.Cut old undone line told next new after =
      (told ≡ None) × (next ≡ Some Why.Gone) × (new ≡ old) × (after ≡ undone)
  IsAnswered Found.End old undone line told next new after =
      (told ≡ None) × (next ≡ Some Why.Gone) × (new ≡ old) × (after ≡ undone)
  IsAnswered Found.Silence old undone line told next new after =
      (told ≡ None) × (next ≡ None) × FallsSilent old undone new after

  -- ---- talks

  -- These bytes were taken, and answered so. A silence takes none.
  abbrev pub IsRound : S → Bool → List ℕ → Option (Told A) → Option Why → S → Bool → Type 0
  IsRound old undone bs told next new after =
      (found : Found) × (line : List ℕ) × Brings 4095 bs found line ×
      IsAnswered found old undone line told next new after

  -- Bytes were taken line by line, each of which was answered, and what was told of them was heard;
  -- no line but perhaps the last one ended the talk. Silences stand between.
  abbrev pub AreRounds : S → Bool → List (List ℕ × Option (Told A)) → S → Bool → Type 0
  AreRounds old undone [] new after = (new ≡ old) × (after ≡ undone)
  AreRounds old undone ((bs, told) ∷ rounds) new after =
      (mid : S) × (between : Bool) × IsRound old undone bs told None mid between ×
      AreRounds mid between rounds new after

  abbrev pub bytes_of : List (List ℕ × Option (Told A)) → List ℕ
  bytes_of [] = []
  bytes_of ((bs, told) ∷ rounds) = bs ++ bytes_of rounds

  abbrev pub told_of : List (List ℕ × Option (Told A)) → List (Told A)
  told_of [] = []
  told_of ((bs, told) ∷ rounds) = tolds_of told ++ told_of rounds

  -- A talk was broken off: before a line was read, or behind one, whose answer was given to hear.
  abbrev pub BreaksOff : (h k : Option (List (Told A))) → S → Bool → S → Type 0
  BreaksOff h k old undone new = ((new ≡ old) × Hears h k [])
      ⊎ ((bs : List ℕ) × (told : Option (Told A)) × (next : Option Why) × (after : Bool) ×
      IsRound old undone bs told next new after × Hears h k (tolds_of told))

  -- How a talk ended where a line had begun with these bytes: by a line that says so, or by the end
  -- of the lines; or it was broken off.
  abbrev pub IsLast : (r t : Option (List ℕ)) → (h k : Option (List (Told A))) → List ℕ → S → Bool →
      Why → S → Type 0
  IsLast r t h k begun old undone Why.Broken new = BreaksOff h k old undone new
  IsLast r t h k begun old undone Why.NoMemory new = BreaksOff h k old undone new
  IsLast r t h k begun old undone why new =
      (bs : List ℕ) × (told : Option (Told A)) × (after : Bool) ×
      IsRound old undone (begun ++ bs) told (Some why) new after × Consumes r t bs ×
      Hears h k (tolds_of told)

  -- One turn where a line had begun with these bytes: it is read to its end and answered, or
  -- nothing more of it comes for too long, and this is kept of it; or the talk ends.
  abbrev pub Turns : (r t : Option (List ℕ)) → (h k : Option (List (Told A))) → List ℕ → S → Bool →
      Option Why → S → Bool → List ℕ → Type 0
  Turns r t h k begun old undone None new after kept =
      (bs : List ℕ) × (told : Option (Told A)) × Consumes r t bs × Hears h k (tolds_of told) ×
      ((IsRound old undone (begun ++ bs) told None new after × (kept ≡ []))
      ⊎ (IsRound old undone [] told None new after × Begins 4095 (begun ++ bs) kept))
  Turns r t h k begun old undone (Some why) new after kept = IsLast r t h k begun old undone why new

  -- A talk: turns one after another, up to the last.
  abbrev pub TalksOn : (r t : Option (List ℕ)) → (h k : Option (List (Told A))) → S → Why → S →
      Type 0
  TalksOn r t h k old why new =
      (rounds : List (List ℕ × Option (Told A))) × (begun : List ℕ) × (q : Option (List ℕ)) ×
      (i : Option (List (Told A))) × (mid : S) × (undone : Bool) ×
      AreRounds old false rounds mid undone × Consumes r q (bytes_of rounds ++ begun) ×
      Hears h i (told_of rounds) × IsLast q t i k begun mid undone why new
