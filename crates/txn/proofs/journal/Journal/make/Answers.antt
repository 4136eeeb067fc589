use Rattle.std.proofs.Common.{◌≡◌, ◌<◌, ◌++◌, ◌∷◌, [], length, refl, sym, ◌∙◌, ap, subst}
use Rattle.std.proofs.Common.{arith}
use Rattle.std.proofs.lemmas.List.{length-map}
use Rattle.std.proofs.lemmas.Result.{err_from_is_err_and}
use Rattle.calls.specs.Limits.{max_collections}
use Rattle.catalog.specs.Fours.{which_of}
use Rattle.catalog.specs.Making as naming
use Rattle.catalog.specs.Shelving.{MakesOn}
use Rattle.catalog.specs.Woven.{names_in}
use Rattle.records.specs.declared.record.Record.{Record}
use Rattle.records.specs.Waits.{waiting}
use Rattle.steps.specs.Shelves.{ShelfState}
use Rattle.txn.specs.Shelved.{JournalState}
use Rattle.txn.specs.Views.{journal_of}
use Rattle.txn.proofs.JournalLemmas.{written, seen}
use Rattle.txn.proofs.Making.{placed, make_refused_on, made_on}
use Rattle.txn.proofs.journal.Journal.make.Goals as goal

pub make_on-requires : goal.make_on-requires
make_on-requires g c =
    ap g.B.Shelf.Shelved.index c.collections_mut.ensures.now ∙
    placed g.met.B.Boosted.laws g.met.B.Parts.laws g.met.B.Coded.told g.met.B.Parts.shelf_laws
    c.args.self.now c.args.shelf.now c.args.name.now c.args.kind c.requires.kept.0
    c.requires.kept.1 ∙
    ap (λ (j : JournalState _). which_of (length (g.B.Names.Named.labels j.names)))
    (sym c.self.view_is)

pub returns-in_err-at : goal.returns-in_err-at
returns-in_err-at g c =
    let i = c.self.inside in
    let r = c.from_residual-in_err-at in
    let p = err_from_is_err_and r.result r.ensures.1 in
    let kept = c.in_ok-reserve.ensures in
    let journal = ap (λ n. journal_of n i.transactions c.reserve.new.self i.places i.next
    i.gathering)
    c.in_err-at.ensures.names_as_before ∙
    seen i.pending c.reserve.new.self c.self.view_is refl refl kept.records kept.freezes
    kept.handed in
    let now = c.in_err-at.ensures.as_before ∙ c.collections_mut.ensures.now in
    let shelf = ap (λ n. let s : ShelfState _ =
    record { now = n; holds = c.args.shelf.now.holds } in s)
    now in
    let why = subst (λ (j : JournalState _).
    naming.MakeRefused (names_in (g.B.Names.Named.labels j.names)) c.args.name.now
    c.in_err-at.field-0.0) c.self.view_is c.in_err-at.ensures.err in
    rw (p.1, p.2, journal, shelf) (make_refused_on g.met.B.Boosted.laws g.met.B.Parts.laws
    g.met.B.Coded.told g.met.B.Parts.shelf_laws c.args.self.now c.args.shelf.now c.args.name.now
    c.args.kind c.in_err-at.field-0.0 c.in_ok-check_backlog.ensures.ok why)

pub returns : goal.returns
returns g c =
    let i = c.self.inside in
    let kept = c.in_ok-reserve.ensures in
    let new = c.in_ok-check_new.ensures.ok in
    let few : length (g.B.Names.Named.labels i.names) < max_collections = omega (
      arith,
      new.few,
      length-map (g.B.Names.Named.labels i.names) (λ x. x.name),
    ) in
    let same = c.new-spelled.ensures ∙ c.in_ok-to_string.ensures.ok in
    let put : waiting c.push.new.self ≡ waiting c.reserve.new.self ++
    Record.Make c.args.kind c.args.name.now ∷ [] =
    subst (λ v. waiting c.push.new.self ≡ waiting c.reserve.new.self ++
    Record.Make c.args.kind v ∷ []) same c.push.ensures.records in
    let room = subst (λ (j : JournalState _). length j.pending < 16384) (sym c.self.view_is)
    c.in_ok-check_backlog.ensures.ok in
    let made = subst (λ s. MakesOn g.B.Names.Named.labels g.B.Parts.whole g.B.Parts.fits
    g.B.Parts.making i.names s c.args.name.now c.args.kind c.make_on.new.names c.make_on.new.shelf)
    c.collections_mut.ensures.now c.in_ok-at.ensures.makes in
    rw (← c.self.view_is) (made_on g.met.B.Boosted.laws g.met.B.Parts.laws g.met.B.Coded.told
    g.met.B.Parts.shelf_laws _ c.args.shelf.now c.args.name.now c.args.kind _ _ _ new.good few made
    refl refl
    (written i.pending c.reserve.new.self c.push.new.self room kept.records kept.freezes kept.handed
    put c.push.ensures.freezes c.push.ensures.handed (omega arith) refl) refl refl)
