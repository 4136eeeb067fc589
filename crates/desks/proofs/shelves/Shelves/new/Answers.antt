use Rattle.std.proofs.Common.{ap}
use Rattle.catalog.specs.declared.four.Four.{Four}
use Rattle.catalog.specs.Fours.{First, Second, Third, Fourth}
use Rattle.desks.proofs.Touching.{leads_each}
use Rattle.desks.proofs.shelves.Shelves.new.Goals as goal

pub new-first-requires-clause-twin : goal.new-first-requires-clause-twin
new-first-requires-clause-twin g c = ap (λ (f : Four _). f.first) c.requires.twins

pub new-first-requires-clause-near : goal.new-first-requires-clause-near
new-first-requires-clause-near g c = c.requires.nears First

pub new-first-requires-clause-far : goal.new-first-requires-clause-far
new-first-requires-clause-far g c = c.requires.fars First

pub new-second-requires-clause-twin : goal.new-second-requires-clause-twin
new-second-requires-clause-twin g c = ap (λ (f : Four _). f.second) c.requires.twins

pub new-second-requires-clause-near : goal.new-second-requires-clause-near
new-second-requires-clause-near g c = c.requires.nears Second

pub new-second-requires-clause-far : goal.new-second-requires-clause-far
new-second-requires-clause-far g c = c.requires.fars Second

pub new-third-requires-clause-twin : goal.new-third-requires-clause-twin
new-third-requires-clause-twin g c = ap (λ (f : Four _). f.third) c.requires.twins

pub new-third-requires-clause-near : goal.new-third-requires-clause-near
new-third-requires-clause-near g c = c.requires.nears Third

pub new-third-requires-clause-far : goal.new-third-requires-clause-far
new-third-requires-clause-far g c = c.requires.fars Third

pub new-fourth-requires-clause-twin : goal.new-fourth-requires-clause-twin
new-fourth-requires-clause-twin g c = ap (λ (f : Four _). f.fourth) c.requires.twins

pub new-fourth-requires-clause-near : goal.new-fourth-requires-clause-near
new-fourth-requires-clause-near g c = c.requires.nears Fourth

pub new-fourth-requires-clause-far : goal.new-fourth-requires-clause-far
new-fourth-requires-clause-far g c = c.requires.fars Fourth

pub returns-clause-known : goal.returns-clause-known
returns-clause-known g c =
    leads_each record {
      first = c.new-first.new.near;
      second = c.new-second.new.near;
      third = c.new-third.new.near;
      fourth = c.new-fourth.new.near;
    } c.args.shelves c.new-first.ensures.known c.new-second.ensures.known
    c.new-third.ensures.known c.new-fourth.ensures.known
