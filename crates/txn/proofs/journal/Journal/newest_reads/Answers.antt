use Rattle.std.proofs.Common.{◌↔◌, ℕ, List, Some, None, false, true, refl, subst, ◌≡◌, ◌∙◌, ap}
use Rattle.calls.specs.Transactions.{Event, Entry}
use Rattle.undo_log.specs.Entries.{event_of}
use Rattle.steps.specs.Machine.{HasNewestRead}
use Rattle.steps.proofs.UndoneCall.{newest_read_there}
use Rattle.txn.specs.Shelved.{JournalState}
use Rattle.txn.proofs.journal.Journal.newest_reads.Goals as goal

pub returns-in-Some : goal.returns-in-Some
returns-in-Some g c =
    subst (λ (es : List (ℕ × Entry)). (c.reads.result ≡ true) ↔
    HasNewestRead c.args.handle.number es)
    (c.live.ensures.entries ∙ ap (λ (j : JournalState _). j.transactions.entries) c.self.view_is)
    (newest_read_there c.args.handle.number c.live.result.now.entries (λ l. event_of l.now)
    (Some c.in-Some.newest) c.in-Some.ensures.found tt c.reads.result c.reads.ensures)

pub returns-in-None : goal.returns-in-None
returns-in-None g c =
    subst (λ (es : List (ℕ × Entry)). (false ≡ true) ↔ HasNewestRead c.args.handle.number es)
    (c.live.ensures.entries ∙ ap (λ (j : JournalState _). j.transactions.entries) c.self.view_is)
    (newest_read_there c.args.handle.number c.live.result.now.entries (λ (x : Event). x) None tt
    c.in-None.ensures.none false refl)
