use Rattle.std.proofs.Common.{take}
use Rattle.talks.specs.Sessions.{CarriesOut, session}
use Rattle.talks.proofs.scripted.carry_out.Given as goal

-- the lines so far are carried out
abbrev pub invariant-loop-line : goal.invariant-loop-line
invariant-loop-line g l = CarriesOut g.J.Naming.origin l.number
    (session l.fn.client l.fn.ticket)
    (take l.line-index l.lines)
    l.answers.items
    (session l.client l.ticket)
