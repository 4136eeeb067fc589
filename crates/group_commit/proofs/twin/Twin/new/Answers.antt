use Rattle.std.proofs.Common.{rules, ap}
use Rattle.group_commit.specs.Twins.{SeatView}
use Rattle.group_commit.proofs.Twinned.{begins, parts}
use Rattle.group_commit.proofs.twin.Twin.new.Goals as goal

pub of_words-requires : goal.of_words-requires
of_words-requires g c = begins

pub split_seat-other-requires : goal.split_seat-other-requires
split_seat-other-requires g c =
    let first = c.in_ok-table.ensures.4 in (
      search rules,
      search rules,
      λ s k at. parts s.views k c.in_ok-table.seat.id c.in_ok-table.seat.me.0 at (λ g. g)
          (ap (λ (m : SeatView _). m.0.near) first) (ap (λ (m : SeatView _). m.0.far) first),
    )
