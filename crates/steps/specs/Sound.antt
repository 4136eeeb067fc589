-- What holds of every state that the machine reaches, in the words of the theory.
use Rattle.std.specs.Prelude.{◌≡◌, ℕ, ◌↔◌, List, map, Contains}
use Rattle.calls.specs.declared.reply.Reply.{Reply}
use Rattle.calls.specs.Transactions.{Event, Entry, Asked, Deferred}
use Rattle.abstract_locks.specs.declared.table.Hold.{Hold}
use Rattle.undo_log.specs.Logs.{Lives, Falls}
use Rattle.steps.specs.Machine.{State, IsSettled}
use Rattle.steps.specs.Theory.Rules.{Has}
use Rattle.steps.specs.Theory.Journal as journal
use Rattle.steps.specs.Theory.Machine as theory
use Rattle.steps.specs.Theory.Collections.{collection_rules}
use Rattle.boosted.specs.Meaning.{Meaning}
use Rattle.catalog.specs.Making.{Making}

-- What a number asked for, as the theory has it.
abbrev pub owned : ℕ → Entry → journal.Entry (ℕ × Event)
owned n (Asked e) = journal.Asked (n, e)
owned n (Deferred at c) = journal.Deferred (n, record { at = at; call = c; reply = Reply.Done })

abbrev pub all_owned : List (ℕ × Entry) → List (journal.Entry (ℕ × Event))
all_owned es = map (λ e. owned e.0 e.1) es

-- The state of the theory's machine is this one. It keeps lists where this one keeps a map and a
-- set.
pub record Shows {S : Type 0} (s : State S) (m : theory.State S (ℕ × Event) Hold) : Type 0 where
  pub now : m.now ≡ s.now
  pub entries : m.entries ≡ all_owned s.entries
  pub live : (n : ℕ) → Has m.live n ↔ Lives s.live n
  pub falling : (n : ℕ) → Has m.falling n ↔ Falls s.live n
  pub needs : (h : Hold) → Has m.needs h ↔ Contains s.holds h

module _ {S : Type 0} (meaning : Meaning S ℕ) (making : Making S) where
  -- The state is sound as the theory's machine has it, and there is a content without the live
  -- transactions.
  pub record IsSound (s : State S) : Type 0 where
    pub machine : theory.State S (ℕ × Event) Hold
    pub shows : Shows s machine
    pub sound : theory.IsSound (collection_rules meaning making) machine
    pub content : S
    pub settled : IsSettled meaning s content

  -- The state is sound as the theory's machine has it. Nothing is said of a content without the
  -- live transactions.
  pub record IsLoaded (s : State S) : Type 0 where
    pub machine : theory.State S (ℕ × Event) Hold
    pub shows : Shows s machine
    pub sound : theory.IsSound (collection_rules meaning making) machine
