-- No step leaves a value that is too long to be spelled, or an entry that nobody can ask for.
use Rattle.std.proofs.Common.{◌≡◌, ℕ, ◌==◌, not, Option, Some, None, MatchOption, List, ◌∷◌, refl}
use Rattle.std.proofs.Common.{sym, subst}
use Rattle.std.specs.List.{AllByRecursion}
use Rattle.calls.specs.declared.format.Format.{Format}
use Rattle.calls.specs.declared.call.Call.{Call}
use Rattle.calls.specs.declared.reply.Reply.{Reply}
use Rattle.calls.specs.Rules.{IsShort, inverse_of}
use Rattle.calls.specs.Formats.{widest}
use Rattle.calls.specs.Transactions.{Event, Entry, Asked, Deferred, others}
use Rattle.undo_log.specs.Entries.{IsNewestCall}
use Rattle.boosted.specs.Meaning.{Does, Undoes, Meaning}
use Rattle.boosted.proofs.Each.{each_back, each_filter, each_rest}
use Rattle.records.specs.Short.{IsShortReply}
use Rattle.records.proofs.Items.{widest_call, widest_reply}
use Rattle.steps.specs.Machines.{IsAskedEntry}

abbrev AreAsked : Format → List (ℕ × Entry) → Type 0
AreAsked f es = AllByRecursion (λ e. IsAskedEntry f e.1) es

module _ (f : Format) (es : List (ℕ × Entry))
    (are : AllByRecursion (λ e. IsAskedEntry f e.1) es) where
  pub asked_left : (n : ℕ) → AllByRecursion (λ e. IsAskedEntry f e.1) (others n es)
  asked_left n = each_filter (λ e. IsAskedEntry f e.1) (λ e. not (e.0 == n)) es are

  pub asked_rest : (n : ℕ) (x : Event) (rest : List (ℕ × Entry)) → IsNewestCall n es x rest →
      AllByRecursion (λ e. IsAskedEntry f e.1) rest
  asked_rest n x rest new = subst (AreAsked f) (sym new.rest_is)
      (each_rest (λ e. IsAskedEntry f e.1) new.before (n, Asked x) new.after
      (subst (AreAsked f) new.is are))

  pub short_newest : (n : ℕ) (x : Event) (rest : List (ℕ × Entry)) → IsNewestCall n es x rest →
      IsShortReply f x.reply
  short_newest n x rest new = let newest = each_back (λ e. IsAskedEntry f e.1) new.before
      ((n, Asked x) ∷ new.after) (subst (AreAsked f) new.is are) in newest.0.3

module _ {S : Type 0} (meaning : Meaning S ℕ) (f : Format) (short : S → Type 0)
    (short_runs : (s : S) (at : ℕ) (c : Call) (r : Reply) → short s → meaning.answers s at c r →
    IsShort f c → short (meaning.leaves s at c r))
    (short_inverse : (c : Call) (r : Reply) (back : Call) → IsShortReply f r →
    inverse_of c r ≡ Some back → IsShort f back) where
  undone : (o : Option Call) (at : ℕ) (s u : S) → ((back : Call) → o ≡ Some back → IsShort f back) →
      short s → MatchOption o (u ≡ s) (λ back. (reply : Reply) × Does meaning s at back reply u) →
      short u
  undone None at s u backs is undo = subst short (sym undo) is
  undone (Some back) at s u backs is undo =
      subst short (sym undo.1.1) (short_runs s at back undo.0 is undo.1.0 (backs back refl))

  -- what the undoing of a call with a short reply leaves
  pub undone_short : (x : Event) (s u : S) → IsShortReply f x.reply → short s →
      Undoes meaning s x.at x.call x.reply u → short u
  undone_short x s u is spells undo =
      undone (inverse_of x.call x.reply) x.at s u
      (λ back same. short_inverse x.call x.reply back is same) spells undo

-- What may stand among what was asked for may so in every format that has longer values.
pub widest_entry : (f : Format) (e : Entry) → IsAskedEntry f e → IsAskedEntry widest e
widest_entry f (Asked e) asked = (
  asked.0,
  widest_call f e.call asked.1,
  asked.2,
  widest_reply f e.reply asked.3,
)
widest_entry f (Deferred at c) asked = asked
