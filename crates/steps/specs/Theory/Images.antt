-- What an image keeps of a book, and what it stands for with the records behind it.
use Rattle.std.specs.Prelude.{◌≡◌, ℕ, ◌==◌, Bool, true, false, not, ◌&&◌, List, [], ◌∷◌, ◌++◌, map}
use Rattle.std.specs.List.{filter, list_any}
use Rattle.calls.specs.Transactions.{Leads}
use Rattle.steps.specs.Theory.Rules.{Rules, Has}
use Rattle.steps.specs.Theory.Journal.{Entry, Asked, Deferred, event, asker, calls, Record, Serial}
use Rattle.steps.specs.Theory.Journal.{committed}
use Rattle.steps.specs.Theory.Machine.{State, Steps, Repeats, IsSettled, IsSound}
use Rattle.steps.specs.Theory.Machine.{Tells}
use Rattle.steps.specs.Theory.Theorems.{StandsFor}

-- A step of a book, as its journal tells of the book: one that appends a record; or one without, by
-- which a transaction falls, or the need of a call more is held.
pub data Move (E M : Type 0) : Type 0 where
  Kept : Record E M → Move E M
  Falls : ℕ → Move E M
  Holds : E → Move E M

abbrev pub records : {E M : Type 0} → List (Move E M) → List (Record E M)
records [] = []
records (Kept r ∷ ms) = r ∷ records ms
records (Falls n ∷ ms) = records ms
records (Holds x ∷ ms) = records ms

pub record FallsRow {S E M N : Type 0} (rules : Rules S E M N) (s : State S E N) (n : ℕ)
    (t : State S E N) : Type 0 where
  pub live : Has s.live n
  pub is : t ≡ record {
    now = s.now;
    entries = s.entries;
    live = s.live;
    falling = n ∷ s.falling;
    needs = s.needs;
  }

pub record HoldsRow {S E M N : Type 0} (rules : Rules S E M N) (s : State S E N) (x : E)
    (t : State S E N) : Type 0 where
  pub live : Has s.live (rules.owner x)
  pub is : t ≡ record {
    now = s.now;
    entries = s.entries;
    live = s.live;
    falling = s.falling;
    needs = s.needs ++ rules.need x ∷ [];
  }

abbrev pub Moves : {S E M N : Type 0} → Rules S E M N → State S E N → Move E M → State S E N →
    Type 0
Moves rules s (Kept r) t = Steps rules s r t
Moves rules s (Falls n) t = FallsRow rules s n t
Moves rules s (Holds x) t = HoldsRow rules s x t

abbrev pub Plays : {S E M N : Type 0} → Rules S E M N → List (Move E M) → State S E N →
    State S E N → Type 0
Plays rules ms s t = Leads (Moves rules) ms s t

abbrev pub is_put : {E : Type 0} → Entry E → Bool
is_put (Asked a) = false
is_put (Deferred d) = true

abbrev pub member : List ℕ → ℕ → Bool
member ms n = list_any (λ m. m == n) ms

-- The entries without what the hidden numbers deferred by a client's wish.
abbrev pub shown : {E : Type 0} → (E → ℕ) → List ℕ → List (Entry E) → List (Entry E)
shown owner hidden es = filter (λ e. not (is_put e && member hidden (asker owner e))) es

-- What an image keeps: no laters of transactions that are being undone, nothing of who is, and only
-- the needs of what it keeps.
abbrev pub image_of : {S E M N : Type 0} → Rules S E M N → State S E N → State S E N
image_of rules s = record {
  now = s.now;
  entries = shown rules.owner s.falling s.entries;
  live = s.live;
  falling = [];
  needs = map (λ e. rules.need (event e)) (shown rules.owner s.falling s.entries);
}

-- What a book plays from a state, the machine repeats from the image of that state, and comes to
-- the same.
abbrev pub ImageRepeats : {S E M N : Type 0} → Rules S E M N → Type 0
ImageRepeats {S} {E} {M} {N} rules =
    (ms : List (Move E M)) (s t : State S E N) → IsSound rules s → Plays rules ms s t →
    IsSound rules (image_of rules s) ×
    ((u : State S E N) × Repeats rules (records ms) (image_of rules s) u × (u.now ≡ t.now) ×
    (calls u.entries ≡ calls t.entries) × (u.live ≡ t.live))

-- An image that was taken after some of a book's steps, with a beginning of the records of those
-- that followed, stands for a content.
-- The transactions that all these steps committed up to there lead to that content, each run whole.
abbrev pub ImageStands : {S E M N : Type 0} → Rules S E M N → Type 0
ImageStands {S} {E} {M} {N} rules =
    (before after : List (Move E M)) (rs more : List (Record E M)) (es : List (Entry E))
    (s t u : State S E N) (c : S) →
    IsSound rules s → Tells rules.owner es s → IsSettled rules s c → Plays rules before s t →
    Plays rules after t u → records after ≡ rs ++ more →
    (d : S) × StandsFor rules (image_of rules t).now (image_of rules t).entries rs d ×
    Serial rules (committed rules.owner es (records before ++ rs)) c d

-- The same where no image was taken, over all of a book's steps.
abbrev pub BookIsSerial : {S E M N : Type 0} → Rules S E M N → Type 0
BookIsSerial {S} {E} {M} {N} rules =
    (ms : List (Move E M)) (es : List (Entry E)) (s t : State S E N) (c : S) → IsSound rules s →
    Tells rules.owner es s → IsSettled rules s c → Plays rules ms s t →
    IsSound rules t × ((d : S) × Serial rules (committed rules.owner es (records ms)) c d ×
    IsSettled rules t d)
