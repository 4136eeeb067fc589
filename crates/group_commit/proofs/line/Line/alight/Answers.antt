use Rattle.std.proofs.Common.{rules, arith}
use Rattle.group_commit.proofs.Moves.{alights}
use Rattle.group_commit.proofs.line.Line.alight.Goals as goal

pub split_seat-requires : goal.split_seat-requires
split_seat-requires c = (
  search rules,
  omega (arith, c.self.invariant),
  λ s k at. alights s.views k c.args.host.now.id c.args.host.now.me.0 at,
)
