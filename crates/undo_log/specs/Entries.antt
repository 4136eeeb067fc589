-- What live transactions asked for.
use Rattle.std.specs.Prelude.{◌≡◌, ℕ, List, [], ◌∷◌, ◌++◌, map, drop}
use Rattle.calls.specs.Transactions as transactions
use Rattle.calls.specs.Transactions.{Event, own, calls_of}
use Rattle.calls.specs.declared.need.Need.{Need}
use Rattle.calls.specs.declared.reply.Reply.{Reply}
use Rattle.calls.specs.Rules.{need_of}
use Rattle.undo_log.specs.declared.logged.Logged.{Logged}
use Rattle.undo_log.specs.declared.logged.Entry.{Entry}
use Rattle.undo_log.specs.declared.logged.Entry.TheVariants.{Asked, Deferred}
use Rattle.undo_log.specs.declared.logged.Stamped.{Stamped}
use Rattle.undo_log.specs.declared.logged.Owned.{Owned}

-- A call with its reply, as transactions are told.
abbrev pub event_of : Logged → Event
event_of l = record { at = l.at; call = l.call; reply = l.reply }

-- What was asked for, as transactions are told.
abbrev pub entry_of : Entry → transactions.Entry
entry_of (Asked l) = transactions.Asked (event_of l)
entry_of (Deferred l) = transactions.Deferred l.at l.call

-- The same of one with a stamp.
abbrev pub stamped_entry : Stamped → transactions.Entry
stamped_entry s = entry_of s.entry

-- The same with the number of its transaction.
abbrev pub owned_entry : Owned → ℕ × transactions.Entry
owned_entry o = (o.owner, entry_of o.entry.now)

-- The collection that it was asked of.
abbrev pub place_of : transactions.Entry → ℕ
place_of (transactions.Asked e) = e.at
place_of (transactions.Deferred at c) = at

-- The need that it has: a call by its reply, one that is deferred by the reply Done.
abbrev pub need_to_take : transactions.Entry → Need
need_to_take (transactions.Asked e) = need_of e.call e.reply
need_to_take (transactions.Deferred at c) = need_of c Reply.Done

-- It is a call that was asked for, and not one that was deferred.
abbrev pub IsCall : Stamped → Type 0
IsCall s = (l : Logged) × (s.entry ≡ Asked l)

-- No call of the transaction is among the entries.
abbrev pub HasNoCall : ℕ → List (ℕ × transactions.Entry) → Type 0
HasNoCall n es = calls_of (own n es) ≡ []

-- The event is the newest call of the transaction, and rest is what is there without it.
pub record IsNewestCall (n : ℕ) (es : List (ℕ × transactions.Entry)) (x : Event)
    (rest : List (ℕ × transactions.Entry)) : Type 0 where
  pub before : List (ℕ × transactions.Entry)
  pub after : List (ℕ × transactions.Entry)
  pub is : es ≡ before ++ (n, transactions.Asked x) ∷ after
  pub rest_is : rest ≡ before ++ after
  pub none_newer : HasNoCall n after

-- The event is the newest call of the transaction.
abbrev pub HasNewestCall : ℕ → List (ℕ × transactions.Entry) → Event → Type 0
HasNewestCall n es x = (rest : List (ℕ × transactions.Entry)) × IsNewestCall n es x rest

-- The newest call of one transaction's entries stands at the place: no call comes behind.
abbrev pub IsNewestPlace : List Stamped → ℕ → Type 0
IsNewestPlace ss i = (s : Stamped) × (rest : List Stamped) × (drop i ss ≡ s ∷ rest) × IsCall s ×
    (calls_of (map stamped_entry rest) ≡ [])
