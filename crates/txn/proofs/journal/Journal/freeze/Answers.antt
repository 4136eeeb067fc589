use Rattle.std.proofs.Common.{ℕ, ◌+◌, length, refl, sym, ◌∙◌, ap, subst}
use Rattle.std.specs.List.{AllByRecursion}
use Rattle.calls.specs.Formats.{widest}
use Rattle.calls.specs.Transactions.{Entry}
use Rattle.undo_log.specs.Logs.{Lives}
use Rattle.boosted.proofs.Each.{each_both}
use Rattle.records.specs.Records.{IsNumber}
use Rattle.records.specs.Short.{AreShort}
use Rattle.records.specs.declared.draft.Handed.{Handed}
use Rattle.records.specs.Waits.{waiting}
use Rattle.steps.specs.Machines.{IsAskedEntry}
use Rattle.steps.specs.Wholes.{contents, whole_state}
use Rattle.steps.proofs.BookLaws.{BookLaws, book_laws}
use Rattle.steps.proofs.ShortValues.{widest_entry}
use Rattle.steps.proofs.Steps as steps
use Rattle.images.specs.Gatherings.{HoldsAll, GoesAlong}
use Rattle.txn.specs.Shelved.{book_state, IsJournal}
use Rattle.txn.specs.Views.{journal_of}
use Rattle.txn.proofs.BookLemmas.{seals_reserved}
use Rattle.txn.proofs.JournalLemmas.{sealed_seen}
use Rattle.txn.proofs.BookInvariant.{freeze_keeps}
use Rattle.txn.proofs.Copying.{as_many}
use Rattle.txn.proofs.journal.Journal.freeze.Given.{Over}
use Rattle.txn.proofs.journal.Journal.freeze.Goals as goal

-- the laws of the collections
laws : (g : Over) → BookLaws g.B.Boosted.meaning g.B.Parts.making
    (λ f s. AreShort f (g.B.Parts.collections s))
laws g = book_laws g.met.B.Boosted.laws g.met.B.Parts.laws g.met.B.Coded.told

abbrev IsGood : ℕ × Entry → Type 0
IsGood e = IsNumber e.0 × IsAskedEntry widest e.1

pub freeze-requires-clause-asked : goal.freeze-requires-clause-asked
freeze-requires-clause-asked g c =
    let i = c.self.inside in
    let gathered = c.requires.gathered in
    let book = subst (IsJournal g.B.Boosted.meaning g.B.Parts.making g.B.Parts.collections
    g.B.Parts.whole g.B.Parts.fits) (sym c.self.view_is) (gathered.0, gathered.1) in
    let s = whole_state g.B.Parts.whole i.names i.transactions book.0 in
    let up = book.1.joined.upheld in
    subst (AllByRecursion IsGood) (sym c.live.ensures.entries)
    (each_both (λ e. Lives s.live e.0) (λ e. IsAskedEntry s.format e.1) IsGood s.entries
    (steps.alive g.B.Boosted.meaning g.B.Parts.making (laws g).rules s up.holds) up.asked
    (λ e lives asked. (up.numbers e.0 lives, widest_entry s.format e.1 asked)))

pub returns-clause-answer : goal.returns-clause-answer
returns-clause-answer g c =
    let i = c.self.inside in
    let made = c.in_ok-reserve_seal.ensures in
    let there = c.lsn.ensures ∙
    ap (λ (h : Handed). h.end + length (waiting c.reserve_seal.new.self)) made.handed ∙
    ap (λ l. i.pending.handed.end + length l) made.records in
    rw (← c.self.view_is) (λ f book gathered.
    let s = whole_state g.B.Parts.whole i.names i.transactions f in
    let many = c.count.ensures.len ∙ as_many g.B.Part.Part.collection g.met.B.Parts.shelf_laws
    i.names (contents f) book.joined.fit in
    let whole = c.in_ok-check_freeze.ensures.ok (g.B.Parts.collections s.now) many in (
      whole,
      subst (λ p. HoldsAll g.B.Parts.collections i.next i.places p s c.freeze.new.gather) there
          (c.in_ok-freeze.ensures.holds s (record {
            live = c.live.ensures.live;
            entries = c.live.ensures.entries;
            format = c.format.ensures;
            wear = c.wear.ensures;
          }) whole.1
          (subst (λ p. GoesAlong g.B.Parts.collections i.gathering s.now p c.args.gather.now)
          (sym there) (gathered.along whole.0))),
      ap (λ j. book_state g.B.Parts.whole j f) (sealed_seen i.pending i.gathering
          c.seal.new.self (c.seal.ensures.records ∙ made.records)
          (c.seal.ensures.handed ∙ made.handed) c.in_ok-freeze.ensures.ended),
      seals_reserved i.pending c.reserve_seal.new.self c.seal.new.self made.records made.freezes
          made.handed c.in-Ok.ensures.sealed,
      c.in_ok-freeze.ensures.mark,
    ))

pub returns-clause-kept : goal.returns-clause-kept
returns-clause-kept g c =
    let i = c.self.inside in
    let made = c.in_ok-reserve_seal.ensures in
    rw (← c.self.view_is) (λ f book. record {
      joined = book.joined;
      kept = freeze_keeps g.B.Boosted.meaning g.B.Parts.making
          (λ f s. AreShort f (g.B.Parts.collections s))
          (laws g) _ book.kept
          (book_state g.B.Parts.whole (journal_of i.names i.transactions c.seal.new.self i.places
          i.next
          c.freeze.new.self) f)
          (ap (λ j. book_state g.B.Parts.whole j f) (sealed_seen i.pending i.gathering
          c.seal.new.self (c.seal.ensures.records ∙ made.records)
          (c.seal.ensures.handed ∙ made.handed) refl))
          (seals_reserved i.pending c.reserve_seal.new.self c.seal.new.self made.records
          made.freezes
          made.handed c.in-Ok.ensures.sealed);
    })
