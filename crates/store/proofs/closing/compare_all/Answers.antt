use Rattle.std.proofs.Common.{◌∙◌, sym, ap}
use Rattle.catalog.specs.declared.four.Four.{Four}
use Rattle.catalog.specs.Fours.{First, Second, Third, Fourth}
use Rattle.store.proofs.closing.compare_all.Goals as goal

pub compare-requires-clause-twin : goal.compare-requires-clause-twin
compare-requires-clause-twin g c = ap (λ (f : Four _). f.first) c.args.shelves.twins_are

pub compare-requires-clause-near : goal.compare-requires-clause-near
compare-requires-clause-near g c =
    c.requires First ∙ sym (ap (λ (f : Four _). f.first) c.args.shelves.twins_are)

pub compare-requires-2-clause-twin : goal.compare-requires-2-clause-twin
compare-requires-2-clause-twin g c = ap (λ (f : Four _). f.second) c.args.shelves.twins_are

pub compare-requires-2-clause-near : goal.compare-requires-2-clause-near
compare-requires-2-clause-near g c =
    c.requires Second ∙ sym (ap (λ (f : Four _). f.second) c.args.shelves.twins_are)

pub compare-requires-3-clause-twin : goal.compare-requires-3-clause-twin
compare-requires-3-clause-twin g c = ap (λ (f : Four _). f.third) c.args.shelves.twins_are

pub compare-requires-3-clause-near : goal.compare-requires-3-clause-near
compare-requires-3-clause-near g c =
    c.requires Third ∙ sym (ap (λ (f : Four _). f.third) c.args.shelves.twins_are)

pub compare-requires-4-clause-twin : goal.compare-requires-4-clause-twin
compare-requires-4-clause-twin g c = ap (λ (f : Four _). f.fourth) c.args.shelves.twins_are

pub compare-requires-4-clause-near : goal.compare-requires-4-clause-near
compare-requires-4-clause-near g c =
    c.requires Fourth ∙ sym (ap (λ (f : Four _). f.fourth) c.args.shelves.twins_are)

pub returns : goal.returns
returns g c First = c.compare.ensures
returns g c Second = c.compare-2.ensures
returns g c Third = c.compare-3.ensures
returns g c Fourth = c.compare-4.ensures
