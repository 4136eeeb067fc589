-- The laws of what is sent and received, as a book and a keeper rest on them.
use Rattle.std.proofs.Common.{◌≡◌, List, [], ◌∷◌, ◌++◌, refl, sym, ◌∙◌}
use Rattle.std.proofs.lemmas.List.{append-nil}
use Rattle.std.specs.Borrow.{MutBor}
use Rattle.records.specs.declared.block.Block.{Block}
use Rattle.group_commit.specs.Orders.{SenderState, ReceiverState}
use Rattle.group_commit.specs.Ends.{Sends, Receives}

pub sends_none : (t : MutBor SenderState) → Sends t [] t
sends_none t =
    record { same = refl; table = refl; sent = sym (append-nil t.now.sent); noted = refl }

pub receives_none : (t : MutBor ReceiverState) → Receives t [] t
receives_none t =
    record { same = refl; table = refl; received = sym (append-nil t.now.received); noted = refl }

-- what comes behind one list is one list
pub same_end : {X : Type 0} (front xs ys : List X) → front ++ xs ≡ front ++ ys → xs ≡ ys
same_end [] xs ys e = e
same_end (x ∷ front) xs ys e = same_end front xs ys (cc e)

pub receives_one_list : (t : MutBor ReceiverState) (xs ys : List Block) (u : MutBor ReceiverState)
    → Receives t xs u → Receives t ys u → xs ≡ ys
receives_one_list t xs ys u p q = same_end t.now.received xs ys (sym p.received ∙ q.received)
