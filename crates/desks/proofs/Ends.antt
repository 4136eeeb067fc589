-- What the sending end of a hand-off knows once a borrow of it is given back.
use Rattle.std.proofs.Common.{◌≡◌, List, ap, ◌∙◌, sym}
use Rattle.std.specs.Borrow.{MutBor}
use Rattle.records.specs.declared.block.Block.{Block}
use Rattle.group_commit.specs.Ends.{Sends}
use Rattle.group_commit.specs.Orders.{SenderState}
use Rattle.desks.specs.Notes.{IsSent}

pub sent_back : (before after : MutBor SenderState) (bs : List Block) (left : SenderState) →
    (before.ghost_name ≡ after.ghost_name → left ≡ after.now) → Sends before bs after →
    IsSent before.now bs left
sent_back before after bs left back sends =
    let is = back (sym sends.same) in record {
      table = ap (λ (s : SenderState). s.table) is ∙ sends.table;
      sent = ap (λ (s : SenderState). s.sent) is ∙ sends.sent;
      noted = ap (λ (s : SenderState). s.noted) is ∙ sends.noted;
    }
