use Rattle.std.proofs.Common.{rules}
use Rattle.group_commit.proofs.Marking.{begins, permits, watches}
use Rattle.group_commit.proofs.mark.Mark.new.Goals as goal

pub of_words-requires : goal.of_words-requires
of_words-requires c = begins

pub split_seat-first-requires : goal.split_seat-first-requires
split_seat-first-requires c =
    let made = c.in_ok-table.ensures in (
      search rules,
      search rules,
      λ s k at. permits s.words s.views k c.in_ok-table.seat.id c.in_ok-table.seat.me.0 at,
    )

pub split_seat-other-requires : goal.split_seat-other-requires
split_seat-other-requires c =
    let made = c.in_ok-table.ensures in (
      search rules,
      search rules,
      λ s k at. watches s.words s.views k c.split_seat-first.new.seat.id
          c.split_seat-first.new.seat.me.0 at,
    )
