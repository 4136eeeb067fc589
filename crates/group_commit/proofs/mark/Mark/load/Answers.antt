use Rattle.std.proofs.Common.{rules, [], ◌∷◌, ◌++◌, ap, refl, arith}
use Rattle.std.specs.Prelude.{slice_index}
use Rattle.atomic_table.specs.Table.{keeps}
use Rattle.group_commit.specs.Rising.{Seat, watcher}
use Rattle.group_commit.proofs.Marking.{loads, moment_found}
use Rattle.group_commit.proofs.mark.Mark.load.Goals as goal

pub load-requires : goal.load-requires
load-requires c =
    let v = c.watcher.inside.seat.me.0 in (
      search rules,
      omega (arith, c.self.invariant),
      λ s k len at lt.
          let told = loads s.words s.views k c.watcher.inside.seat.id v at
          (ap (λ (m : Seat). m.0.sets) c.watcher.invariant) in
          let moment = moment_found s.words s.views k c.watcher.inside.seat.id v at in (
            watcher (v.counts ++ record {
              count = slice_index s.words 0;
              moment = moment;
            } ∷ []) v.flags v.stops,
            keeps,
            tt,
            told.0,
            record { moment = moment; loaded = refl; rises = told.1; rest = refl },
          ),
    )
