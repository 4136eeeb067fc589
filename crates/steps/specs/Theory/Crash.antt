-- The whole: a book, an image that was taken of it, a beginning of the records behind the image,
-- and what opening yields.
use Rattle.std.specs.Prelude.{◌≡◌, ℕ, List, [], ◌++◌}
use Rattle.steps.specs.Theory.Rules.{Rules, Has, AllDiffer}
use Rattle.steps.specs.Theory.Journal.{Record, Transaction, Serial, committed}
use Rattle.steps.specs.Theory.Machine.{State, IsSound, Repeats}
use Rattle.steps.specs.Theory.Theorems.{StandsFor, undo_records, idle}
use Rattle.steps.specs.Theory.Images.{Move, Plays, records, image_of}
use Rattle.steps.specs.Theory.Loads.{Loads, loaded}

-- What opening yields of the image of t and the records rs behind it, where the book played before
-- and then after, from the content c.
pub record Recovers {S E M N : Type 0} (rules : Rules S E M N) (before after : List (Move E M))
    (rs : List (Record E M)) (t : State S E N) (c : S) : Type 0 where
  -- the content that a beginning of the committed transactions gives, each run whole
  pub content : S
  pub serial : Serial rules (committed rules.owner [] (records before ++ rs)) c content
  pub rest : List (Transaction E M)
  pub begins : committed rules.owner [] (records before ++ records after) ≡
      committed rules.owner [] (records before ++ rs) ++ rest
  -- the image is read, and its records repeated, without a fault
  pub loads : Loads rules (image_of rules t).entries (loaded rules t.now t.live [])
      (image_of rules t)
  pub state : State S E N
  pub repeats : Repeats rules rs (image_of rules t) state
  -- the losers are undone in any order, and then that content is there and no transaction is live
  pub undone : (ns : List ℕ) → AllDiffer ns → ((n : ℕ) → Has ns n → Has state.live n) →
      ((n : ℕ) → Has state.live n → Has ns n) →
      Repeats rules (rs ++ undo_records rules.owner ns state.entries) (image_of rules t)
      (idle content) ×
      ((us more : List (Record E M)) → undo_records rules.owner ns state.entries ≡ us ++ more →
      StandsFor rules (image_of rules t).now (image_of rules t).entries (rs ++ us) content)

abbrev pub CrashYields : {S E M N : Type 0} → Rules S E M N → Type 0
CrashYields {S} {E} {M} {N} rules =
    (before after : List (Move E M)) (rs more : List (Record E M)) (t u : State S E N) (c : S) →
    Plays rules before (idle c) t → Plays rules after t u → records after ≡ rs ++ more →
    Recovers rules before after rs t c

-- A book that goes on from what was opened, over the old image and its journal: what a beginning of
-- its records leaves stands for what the committed transactions among them give.
abbrev pub GoesOn : {S E M N : Type 0} → Rules S E M N → Type 0
GoesOn {S} {E} {M} {N} rules = (s u : State S E N) (old rs more : List (Record E M))
    (after : List (Move E M)) (c : S) →
    IsSound rules s → StandsFor rules s.now s.entries old c → Repeats rules old s (idle c) →
    Plays rules after (idle c) u → records after ≡ rs ++ more →
    (d : S) × Serial rules (committed rules.owner [] rs) c d ×
    StandsFor rules s.now s.entries (old ++ rs) d ×
    ((v : State S E N) × Repeats rules (old ++ rs) s v)
