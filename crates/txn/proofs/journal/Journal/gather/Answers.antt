use Rattle.std.proofs.Common.{sym, subst}
use Rattle.std.proofs.lemmas.Result.{on_ok_weaker}
use Rattle.steps.specs.Wholes.{contents}
use Rattle.images.specs.Gatherings.{IsNextOf, part_of, GatherAnswers, GoesAlong}
use Rattle.txn.specs.Parts.{IsGivenNext}
use Rattle.txn.specs.Shelved.{JournalState}
use Rattle.txn.specs.Views.{journal_of}
use Rattle.txn.proofs.Copying.{next_of, short_part, gathers_on}
use Rattle.txn.proofs.journal.Journal.gather.Goals as goal

pub gather-requires-clause-next : goal.gather-requires-clause-next
gather-requires-clause-next g c =
    let i = c.self.inside in
    let j = journal_of i.names i.transactions i.pending i.places i.next i.gathering in
    let f = c.requires.next.0 in
    let given = subst (λ (j : JournalState _). IsGivenNext g.B.Names.Named.labels
    g.B.Shelf.Shelved.holds g.B.Part.Part.collection g.B.Boosted.meaning g.B.Parts.making
    g.B.Parts.collections g.B.Parts.whole g.B.Parts.fits j f c.args.gather.now c.args.part)
    (sym c.self.view_is) c.requires.next.1 in (
      g.B.Parts.whole i.names (contents f),
      rw (c.lsn-lsn.ensures)
          (next_of g.B.Part.Part.collection g.met.B.Parts.shelf_laws j f
          c.args.gather.now c.args.part given c.count-count.result c.count-count.ensures.len),
    )

pub gather-requires-clause-short : goal.gather-requires-clause-short
gather-requires-clause-short g c can =
    let i = c.self.inside in
    let f = c.requires.next.0 in
    let given = subst (λ (j : JournalState _). IsGivenNext g.B.Names.Named.labels
    g.B.Shelf.Shelved.holds g.B.Part.Part.collection g.B.Boosted.meaning g.B.Parts.making
    g.B.Parts.collections g.B.Parts.whole g.B.Parts.fits j f c.args.gather.now c.args.part)
    (sym c.self.view_is) c.requires.next.1 in
    short_part g.B.Part.Part.collection g.met.B.Parts.shelf_laws _ f c.args.gather.now c.args.part
    given can

pub returns : goal.returns
returns g c =
    let i = c.self.inside in
    rw (← c.self.view_is) (λ f given.
    let j = journal_of i.names i.transactions i.pending i.places i.next i.gathering in
    let now = g.B.Parts.whole i.names (contents f) in
    let next = subst (λ p. IsNextOf g.B.Parts.collections i.gathering now p c.args.gather.now
    c.count-count.result (part_of g.B.Part.Part.collection c.args.part))
    (sym c.lsn-lsn.ensures) (next_of g.B.Part.Part.collection g.met.B.Parts.shelf_laws j f
    c.args.gather.now c.args.part given c.count-count.result c.count-count.ensures.len) in
    gathers_on j f c.args.gather.now c.gather.new.gather c.gather.new.self c.gather.result
    given.book
    (subst (λ p. GatherAnswers (g.B.Parts.collections now) p i.gathering c.args.gather.now
    c.gather.result c.gather.new.self c.gather.new.gather) c.lsn-lsn.ensures
    (c.gather.ensures.answer now next))
    (on_ok_weaker c.gather.result
    (λ along. subst (λ p. GoesAlong g.B.Parts.collections c.gather.new.self now p
    c.gather.new.gather) c.lsn-lsn.ensures (along now next))
    c.gather.ensures.along))
