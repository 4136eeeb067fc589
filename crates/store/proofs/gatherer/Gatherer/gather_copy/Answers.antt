use Rattle.std.proofs.Common.{◌≡◌, ◌∙◌, Some, length, refl, sym, ap, subst}
use Rattle.catalog.specs.declared.four.Four.{Four}
use Rattle.catalog.specs.Fours.{which_of, pick}
use Rattle.group_commit.specs.Twins.{EndState}
use Rattle.desks.specs.Touches.{Leads, IsJournalDesk}
use Rattle.desks.proofs.Owning.{drawn_beside}
use Rattle.store.specs.Gatherers.{GathererState, IsGivenTo}
use Rattle.store.proofs.Copied.{given_copy, put_back, holds_known}
use Rattle.store.proofs.gatherer.Gatherer.gather_copy.Goals as goal

-- the twin is the shelf's
pub compare-requires-clause-twin : goal.compare-requires-clause-twin
compare-requires-clause-twin g c = c.of-twin.ensures ∙
    ap (λ (f : Four _). pick f (which_of c.args.next.now.at)) c.args.shelves.now.twins_are ∙
    ap (pick g.J.Naming.shelves) c.requires.place

pub compare-requires-clause-near : goal.compare-requires-clause-near
compare-requires-clause-near g c =
    let w = which_of c.args.next.now.at in
    ap (λ (e : EndState _). e.table) c.of_mut-near.ensures.value ∙
    c.desk.invariant.0.known.tables w ∙
    sym (c.of-twin.ensures ∙ ap (λ (f : Four _). pick f w) c.args.shelves.now.twins_are)

-- a copy of what the shelf holds is given
pub gather_part-requires-clause-given : goal.gather_part-requires-clause-given
gather_part-requires-clause-given g c =
    let i = c.desk.inside in
    let at = c.args.next.now.at in
    let m = c.self.inside.gather in
    let next = subst (λ (s : GathererState). at ≡ length s.gather.parts) (sym c.self.view_is)
    c.requires.number in
    let known = subst (λ e. Leads e c.args.held.now) c.of_mut-near.ensures.value
    c.compare.ensures.known in (
      i.nears,
      i.sender,
      subst (IsGivenTo g.J.Naming g.B.Names.Named.labels g.B.Shelf.Shelved.holds
          g.B.Part.Part.collection g.B.Boosted.meaning g.B.Parts.making g.B.Parts.collections
          g.B.Parts.whole g.B.Parts.fits i.journal i.nears i.seat i.sender i.near m)
          (sym c.as_next.ensures)
          (given_copy g.J.Naming g.B.Part.Part.collection g.met.B.Parts.shelf_laws i.journal i.nears
          i.seat i.sender i.near m c.desk.invariant.0 at _ c.args.held.now known
          (c.is_at.ensures.there.0 c.if-not-is_at.false ∙ ap (λ n. Some n) c.deref.ensures) next c.args.part c.requires.copied
          c.requires.name c.requires.refused),
    )

-- and the journal is still of the store
pub invariant_of-desk : goal.invariant_of-desk
invariant_of-desk g c =
    let i = c.desk.inside in
    let at = c.args.next.now.at in
    let m = c.self.inside.gather in
    let next = subst (λ (s : GathererState). at ≡ length s.gather.parts) (sym c.self.view_is)
    c.requires.number in
    let known = subst (λ e. Leads e c.args.held.now) c.of_mut-near.ensures.value
    c.compare.ensures.known in
    let given = subst (IsGivenTo g.J.Naming g.B.Names.Named.labels g.B.Shelf.Shelved.holds
    g.B.Part.Part.collection g.B.Boosted.meaning g.B.Parts.making g.B.Parts.collections
    g.B.Parts.whole g.B.Parts.fits i.journal i.nears i.seat i.sender i.near m)
    (sym c.as_next.ensures)
    (given_copy g.J.Naming g.B.Part.Part.collection g.met.B.Parts.shelf_laws i.journal i.nears
    i.seat i.sender i.near m c.desk.invariant.0 at _ c.args.held.now known
    (c.is_at.ensures.there.0 c.if-not-is_at.false ∙ ap (λ n. Some n) c.deref.ensures) next c.args.part c.requires.copied
    c.requires.name c.requires.refused) in (
      subst (λ ends. IsJournalDesk g.J.Naming g.B.Boosted.meaning g.B.Parts.making
          g.B.Parts.collections g.B.Parts.whole g.B.Parts.fits c.gather_part.new.journal ends
          c.gather_part.new.seat i.sender c.gather_part.new.near)
          (sym (put_back i.nears (which_of at) c.compare.new.near
          (c.compare.ensures.near ∙ c.of_mut-near.ensures.value)))
          (c.gather_part.ensures.desk i.nears i.sender given),
      c.desk.invariant.1,
      c.desk.invariant.2,
      c.desk.invariant.3,
      drawn_beside i.maker i.seat c.gather_part.new.seat c.desk.invariant.4 _ refl
          c.gather_part.ensures.seat,
    )

pub invariant_of-self : goal.invariant_of-self
invariant_of-self g c = holds_known g.J.Naming c.gather_part.new.far c.self.inside.of_keeper
    c.gather_part.new.gather c.gather_part.ensures.far c.self.invariant.awaited
    c.gather_part.ensures.unfrozen
