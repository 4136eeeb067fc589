use Rattle.std.proofs.Common.{refl, ◌∙◌}
use Rattle.std.proofs.lemmas.Option.{slice_get-map}
use Rattle.catalog.specs.Woven.{Label}
use Rattle.desks.proofs.Owning.{drawn_beside}
use Rattle.store.proofs.Copied.{given_none, holds_known}
use Rattle.store.proofs.gatherer.Gatherer.find_next.Goals as goal

-- nothing is given
pub gather_part-requires-clause-given : goal.gather_part-requires-clause-given
gather_part-requires-clause-given g c =
    let i = c.desk.inside in (
      i.nears,
      i.sender,
      given_none g.J.Naming g.B.Part.Part.collection g.met.B.Parts.shelf_laws i.journal i.nears
          i.seat i.sender i.near c.self.inside.gather c.desk.invariant.0 c.in-Err.part
          c.in-Err.ensures.copied c.in-Err.ensures.refused,
    )

pub invariant_of-desk : goal.invariant_of-desk
invariant_of-desk g c =
    let i = c.desk.inside in (
      c.gather_part.ensures.desk i.nears i.sender (given_none g.J.Naming g.B.Part.Part.collection
          g.met.B.Parts.shelf_laws i.journal i.nears i.seat i.sender i.near c.self.inside.gather
          c.desk.invariant.0 c.in-Err.part c.in-Err.ensures.copied c.in-Err.ensures.refused),
      c.desk.invariant.1,
      c.desk.invariant.2,
      c.desk.invariant.3,
      drawn_beside i.maker i.seat c.gather_part.new.seat c.desk.invariant.4 _ refl
          c.gather_part.ensures.seat,
    )

pub invariant_of-self : goal.invariant_of-self
invariant_of-self g c = holds_known g.J.Naming c.gather_part.new.far c.self.inside.of_keeper
    c.gather_part.new.gather c.gather_part.ensures.far c.self.invariant.awaited
    c.gather_part.ensures.unfrozen

-- the name stands at the number
pub returns-in-Ok-clause-found : goal.returns-in-Ok-clause-found
returns-in-Ok-clause-found g c =
    let at = c.in-Ok.next.at in
    let labels = g.B.Names.Named.labels c.desk.inside.journal.names in
    rw (← c.desk.view_is)
    (slice_get-map (λ (x : Label). x.name) labels at ∙ c.in-Ok.ensures.found)
