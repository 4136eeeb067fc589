-- A machine in four shelves: the names, what transactions asked for, and on each shelf a quarter of
-- the collections with the needs that are held on them.
use Rattle.std.specs.Prelude.{◌≡◌, ℕ, ◌⊎◌, List, [], ◌∷◌, ◌++◌, Contains}
use Rattle.std.specs.List.{AllByRecursion}
use Rattle.calls.specs.declared.format.Format.{Format}
use Rattle.calls.specs.Contents.{Collection}
use Rattle.calls.specs.Transactions.{Entry}
use Rattle.abstract_locks.specs.declared.table.Hold.{Hold}
use Rattle.undo_log.specs.Entries.{place_of}
use Rattle.undo_log.specs.Logs.{Statuses, Lives, Falls}
use Rattle.boosted.specs.Meaning.{Meaning}
use Rattle.steps.specs.Shelves.{ShelfState}
use Rattle.catalog.specs.declared.four.Four.{Four}
use Rattle.catalog.specs.Fours.{Which, which_of, pick, put}
use Rattle.catalog.specs.Making.{Making}
use Rattle.records.specs.Short.{AreShort}
use Rattle.steps.specs.Machine.{State}
use Rattle.steps.specs.Machines.{IsUpheld}
use Rattle.steps.specs.Sound.{IsSound}

-- What a machine keeps beside its collections and the needs on them.
pub record TransactionsState : Type 0 where
  -- the live transactions, by number: whether each is falling
  pub live : Statuses
  -- what they asked for and did not undo, in the order asked
  pub entries : List (ℕ × Entry)
  pub wear : ℕ
  -- the format of the store
  pub format : Format

-- A machine whose collections all lie on one shelf.
abbrev pub state_on : {C : Type 0} → TransactionsState → ShelfState C → State C
state_on a s = record {
  now = s.now;
  live = a.live;
  entries = a.entries;
  holds = s.holds;
  wear = a.wear;
  format = a.format;
}

-- what four shelves hold
abbrev pub contents : {T : Type 0} → Four (ShelfState T) → Four T
contents f = record {
  first = f.first.now;
  second = f.second.now;
  third = f.third.now;
  fourth = f.fourth.now;
}

-- the needs on all of them
abbrev pub all_holds : {T : Type 0} → Four (ShelfState T) → List Hold
all_holds f = f.first.holds ++ (f.second.holds ++ (f.third.holds ++ f.fourth.holds))

-- A machine in four shelves. whole: the collections that names and four shelves are.
abbrev pub whole_state : {S T N : Type 0} → (N → Four T → S) → N → TransactionsState →
    Four (ShelfState T) → State S
whole_state whole names a f = record {
  now = whole names (contents f);
  live = a.live;
  entries = a.entries;
  holds = all_holds f;
  wear = a.wear;
  format = a.format;
}

-- Each shelf has needs on its own collections alone.
abbrev pub AreShelved : {T : Type 0} → Four (ShelfState T) → Type 0
AreShelved f = (w : Which) → AllByRecursion (λ h. which_of h.at ≡ w) (pick f w).holds

-- ---- whose needs come from where

-- The number has an entry on the collection.
abbrev pub HasEntry : (n at : ℕ) → List (ℕ × Entry) → Type 0
HasEntry n at [] = ⊥
HasEntry n at (e ∷ es) = ((e.0 ≡ n) × (place_of e.1 ≡ at)) ⊎ HasEntry n at es

-- What is held is held by a live number, and by one that is not falling for an entry of its own. So
-- a commit can leave the shelves alone on which its transaction has no entry.
pub record IsOwed {S : Type 0} (s : State S) : Type 0 where
  pub live : (h : Hold) → Contains s.holds h → Lives s.live h.owner
  pub owed : (h : Hold) → Contains s.holds h → (Falls s.live h.owner → ⊥) →
      HasEntry h.owner h.at s.entries

-- ---- the parts that belong together

-- S: whole contents. T: contents of a shelf. N: names with kinds.
-- whole: the collections that names and four shelves are. fits: these belong together.
module _ {S T N : Type 0} (meaning : Meaning S ℕ) (making : Making S)
    (collections : S → List Collection) (whole : N → Four T → S) (fits : N → Four T → Type 0) where
  -- The parts are a machine.
  pub record IsJoined (names : N) (a : TransactionsState) (f : Four (ShelfState T)) : Type 0 where
    pub fit : fits names (contents f)
    pub own : AreShelved f
    pub upheld : IsUpheld meaning making (λ form s. AreShort form (collections s))
        (IsSound meaning making) (whole_state whole names a f)
    pub owed : IsOwed (whole_state whole names a f)

  -- A step on one shelf leads from a machine to a machine by this row, whatever the other shelves
  -- are.
  pub record StepsOn (Row : State S → State S → Type 0) (w : Which) (names : N)
      (a : TransactionsState) (s : ShelfState T) (b : TransactionsState) (t : ShelfState T) : Type
      0 where
    pub row : (rest : Four (ShelfState T)) → IsJoined names a (put rest w s) →
        Row (whole_state whole names a (put rest w s)) (whole_state whole names b (put rest w t))
    pub joined : (rest : Four (ShelfState T)) → IsJoined names a (put rest w s) →
        IsJoined names b (put rest w t)

  -- A step that touches no shelf does, whatever the shelves are.
  pub record StepsBeside (Row : State S → State S → Type 0) (names : N) (a b : TransactionsState) :
      Type 0 where
    pub row : (f : Four (ShelfState T)) → IsJoined names a f →
        Row (whole_state whole names a f) (whole_state whole names b f)
    pub joined : (f : Four (ShelfState T)) → IsJoined names a f → IsJoined names b f
