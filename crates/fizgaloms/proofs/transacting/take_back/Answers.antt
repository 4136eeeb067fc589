use Rattle.std.proofs.Common.{[], inr, refl}
use Rattle.fizgaloms.proofs.Trying.{tried_aborted, tried_none, took_none, not_true}
use Rattle.fizgaloms.proofs.transacting.take_back.Goals as goal

pub returns-then-is_open-clause-taken_back : goal.returns-then-is_open-clause-taken_back
returns-then-is_open-clause-taken_back g c = inr c.abort.ensures.step

pub returns-then-is_open-clause-tried : goal.returns-then-is_open-clause-tried
returns-then-is_open-clause-tried g c =
    tried_aborted g.J.Naming c.args.client.now.phase c.args.client.now c.abort.new.self
    c.abort.result refl c.upheld.ensures c.abort.ensures.step

pub returns-else-is_open-clause-taken_back : goal.returns-else-is_open-clause-taken_back
returns-else-is_open-clause-taken_back g c =
    took_none g.J.Naming c.args.client.now (λ opened. not_true (c.if-is_open.ensures.1 opened))

pub returns-else-is_open-clause-tried : goal.returns-else-is_open-clause-tried
returns-else-is_open-clause-tried g c =
    ([], tried_none g.J.Naming c.args.client.now c.upheld.ensures)
