use Rattle.calls.specs.Formats.{widest}
use Rattle.std.proofs.Common.{◌≤◌, ◌++◌, ◌∷◌, [], IfSome, subst, sym}
use Rattle.std.specs.List.{AllByRecursion}
use Rattle.std.proofs.lemmas.List.{map-append}
use Rattle.records.specs.Short.{HoldsShort}
use Rattle.images.specs.declared.stamped.Stamped.{Stamped}
use Rattle.images.specs.Gathers.{GatherState, CanCatchUp}
use Rattle.images.specs.Views.{copy_of, gather_of}
use Rattle.images.proofs.Repeats.{gathered_more, gathered_taken}
use Rattle.images.proofs.gather.Gather.gather.Goals.{in-Some, in_default}
use Rattle.images.proofs.gather.Gather.gather.Goals as goal

-- with the copy that was taken, or with none
pub invariant_of-self-2 : goal.invariant_of-self-2
invariant_of-self-2 g c =
    let copy = copy_of g.P.Part.collection in
    let i = c.self.inside in
    let more = c.args.effects.now.items in
    let old = gather_of g.P.Part.collection i.mark i.copies.items i.effects.items i.frozen in
    let can = subst (λ (v : GatherState). CanCatchUp v.parts (v.effects ++ more))
    (sym c.self.view_is) c.requires.can in
    let low = subst (λ (v : GatherState). AllByRecursion (λ e. e.lsn ≤ c.args.stamp)
    (v.effects ++ more)) (sym c.self.view_is) c.requires.behind in
    elim c.match-part-3.branch [
      | in-Some w ↦
          let added : Stamped g.row.P.Denot =
          record { part = w.in-Some.part; stamp = c.args.stamp } in
          let short = subst (λ o. IfSome o (λ p. HoldsShort widest (g.P.Part.collection p).content))
          w.in-Some.is c.requires.short in
          rw (
            w.self-inside-is,
            w.push_reserved.ensures.items,
            c.in_ok-reserve.ensures.items,
            c.in_ok-append.ensures.items,
            map-append copy i.copies.items (added ∷ []),
          )
          (gathered_more old.mark old.parts old.effects old.frozen c.self.invariant c.args.mark more
          (copy added) can c.requires.short_calls short low)
      | in_default w ↦
          rw (w.self-inside-is, c.in_ok-reserve.ensures.items, c.in_ok-append.ensures.items)
          (gathered_taken old.mark old.parts old.effects old.frozen c.self.invariant c.args.mark
          more can c.requires.short_calls)
    ]
