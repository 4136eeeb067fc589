-- The rules of collections at their places.
use Rattle.std.specs.Prelude.{◌≡◌, ℕ, List, map}
use Rattle.calls.specs.declared.kind.Kind.{Kind}
use Rattle.calls.specs.declared.call.Call.{Call}
use Rattle.calls.specs.declared.reply.Reply.{Reply}
use Rattle.calls.specs.declared.need.Mode.{Mode}
use Rattle.calls.specs.Rules.{left_by, Conflict, Askable, Deferrable, Disposable, need_of}
use Rattle.calls.specs.Transactions.{Event}
use Rattle.abstract_locks.specs.declared.table.Hold.{Hold}
use Rattle.abstract_locks.specs.Holds.{hold}
use Rattle.boosted.specs.Meaning.{Does, Undoes, Meaning}
use Rattle.steps.specs.Theory.Rules.{Rules}
use Rattle.catalog.specs.Making.{Making}

-- A later of a call: its owner's, at its place, and Done.
abbrev pub later_of : ℕ × Event → Call → ℕ × Event
later_of e c = (e.0, record { at = e.1.at; call = c; reply = Reply.Done })

-- An event is a call with its reply and its owner's number; what is made, an empty collection of a
-- name and a kind.
module _ {S : Type 0} (meaning : Meaning S ℕ) (making : Making S) where
  abbrev pub collection_rules : Rules S (ℕ × Event) (List ℕ × Kind) Hold
  collection_rules = record {
    does = λ s e t. Does meaning s e.1.at e.1.call e.1.reply t;
    undoes = λ e s t. Undoes meaning s e.1.at e.1.call e.1.reply t;
    makes = λ s k t. making.makes s k.0 k.1 t;
    leaves = λ e. map (later_of e) (left_by e.1.call e.1.reply);
    asked = λ e. Askable e.1.call;
    deferred = λ e. Deferrable e.1.call × (e.1.reply ≡ Reply.Done);
    late = λ e. Disposable e.1.call × (e.1.reply ≡ Reply.Done);
    reads = λ e. (need_of e.1.call e.1.reply).mode ≡ Mode.Read;
    owner = λ e. e.0;
    need = λ e. hold e.0 e.1.at (need_of e.1.call e.1.reply);
    holder = λ h. h.owner;
    clear = λ h k. h.at ≡ k.at → Conflict h.need k.need → ⊥;
  }
