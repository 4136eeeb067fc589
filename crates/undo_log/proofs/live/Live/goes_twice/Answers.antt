use Rattle.std.proofs.Common.{sym, subst}
use Rattle.undo_log.specs.LeftCalls.{IsLeftAmong}
use Rattle.undo_log.proofs.LeftLemmas.{twice_same}
use Rattle.undo_log.proofs.live.Live.goes_twice.Goals as goal

pub returns-in-Some : goal.returns-in-Some
returns-in-Some c =
    let noted = c.entries_of.ensures in
    let same = twice_same c.args.call.now c.args.reply.now c.args.self.now.entries
    c.args.handle.number
    c.args.at c.in-Some.left c.in-Some.ensures in (
      λ yes. same.1 (subst (λ l. IsLeftAmong l c.args.at c.in-Some.left) noted
          (c.is_going.ensures.0 yes)),
      λ twice. c.is_going.ensures.1 (subst (λ l. IsLeftAmong l c.args.at c.in-Some.left)
          (sym noted) (same.0 twice)),
    )
