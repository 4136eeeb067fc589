use Rattle.std.proofs.Common.{rules, refl, sym, subst, arith}
use Rattle.atomic_table.specs.Table.{keeps}
use Rattle.group_commit.specs.declared.view.View.{View}
use Rattle.group_commit.specs.Lines.{HaveSeenOne}
use Rattle.group_commit.proofs.Moves.{compares}
use Rattle.group_commit.proofs.line.Line.gather.Goals as goal

pub load-requires : goal.load-requires
load-requires c =
    let v = c.board.new.host.me.0 in (
      search rules,
      omega (arith, c.self.invariant),
      λ s k len at lt.
          let next = compares s.views k c.board.new.host.id v at in
          (v, keeps, tt, next.0, (refl, next.1, refl)),
    )

pub returns-clause-one_history : goal.returns-clause-one_history
returns-clause-one_history c =
    subst (λ (u : View). HaveSeenOne u.parties) (sym c.load.ensures.2.0) c.load.ensures.2.1
