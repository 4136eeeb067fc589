-- What the receiving end of a hand-off knows once a borrow of it is given back.
use Rattle.std.proofs.Common.{◌≡◌, List, ap, ◌∙◌, sym}
use Rattle.std.specs.Borrow.{MutBor}
use Rattle.records.specs.declared.block.Block.{Block}
use Rattle.group_commit.specs.Ends.{Receives}
use Rattle.group_commit.specs.Orders.{ReceiverState}
use Rattle.store.specs.Turns.{IsReceived}

pub received_back : (before after : MutBor ReceiverState) (bs : List Block)
    (left : ReceiverState) → (before.ghost_name ≡ after.ghost_name → left ≡ after.now) →
    Receives before bs after → IsReceived before.now bs left
received_back before after bs left back receives =
    let is = back (sym receives.same) in record {
      table = ap (λ (s : ReceiverState). s.table) is ∙ receives.table;
      received = ap (λ (s : ReceiverState). s.received) is ∙ receives.received;
      noted = ap (λ (s : ReceiverState). s.noted) is ∙ receives.noted;
    }

-- and the other way round
pub received_there : (before after : MutBor ReceiverState) (bs : List Block)
    (left : ReceiverState) → before.ghost_name ≡ after.ghost_name → left ≡ after.now →
    IsReceived before.now bs left → Receives before bs after
received_there before after bs left same is received = record {
  same = sym same;
  table = ap (λ (s : ReceiverState). s.table) (sym is) ∙ received.table;
  received = ap (λ (s : ReceiverState). s.received) (sym is) ∙ received.received;
  noted = ap (λ (s : ReceiverState). s.noted) (sym is) ∙ received.noted;
}
