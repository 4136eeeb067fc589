use Rattle.std.proofs.Common.{rules, ◌==◌, [], ◌∷◌, ◌++◌, ap, refl, arith}
use Rattle.std.specs.Prelude.{slice_index}
use Rattle.atomic_table.specs.Table.{keeps}
use Rattle.group_commit.specs.Rising.{Seat, watcher}
use Rattle.group_commit.proofs.Marking.{loads_flag}
use Rattle.group_commit.proofs.mark.Mark.failed.Goals as goal

pub load-requires : goal.load-requires
load-requires c =
    let v = c.watcher.inside.seat.me.0 in (
      search rules,
      omega (arith, c.self.invariant),
      λ s k len at lt.
          let told = loads_flag s.words s.views k c.watcher.inside.seat.id v at
          (ap (λ (m : Seat). m.0.sets) c.watcher.invariant) in (
            watcher v.counts (v.flags ++ (slice_index s.words 1 == 1) ∷ []) v.stops,
            keeps,
            tt,
            told.0,
            (refl, told.1, refl),
          ),
    )

pub returns-clause-loaded : goal.returns-clause-loaded
returns-clause-loaded c = search rules
