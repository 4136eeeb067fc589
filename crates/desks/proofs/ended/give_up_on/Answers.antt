use Rattle.std.proofs.Common.{◌≡◌, [], sym, ap, ◌∙◌, subst}
use Rattle.catalog.specs.Fours.{Which, which_of, pick, put}
use Rattle.catalog.specs.Laws.Numbers.{pick_put}
use Rattle.steps.specs.Shelves.{ShelfState, Settles}
use Rattle.steps.proofs.FourShelves.{by_shelf, pick_other, rank_is}
use Rattle.group_commit.specs.Twins.{EndState}
use Rattle.desks.specs.Touches.{Leads}
use Rattle.desks.proofs.ended.give_up_on.Goals as goal

pub returns-clause-tables : goal.returns-clause-tables
returns-clause-tables g c =
    let w = which_of c.place-place.result in
    by_shelf c.args.nears.now w c.give_up.new.near (λ v x. x.table ≡ pick g.J.Naming.shelves v)
    (c.give_up.ensures.table ∙ ap (λ (e : EndState _). e.table) c.of_mut-near.ensures.value ∙
    c.requires.tables w) (λ v other. c.requires.tables v)

pub returns-clause-settled : goal.returns-clause-settled
returns-clause-settled g c f leads =
    let w = which_of c.place-place.result in
    let e = c.give_up.new.near in
    let done = c.give_up.ensures.settled (pick f w)
    (subst (λ x. Leads x (pick f w)) (sym c.of_mut-near.ensures.value) (leads w)) in
    subst (λ u. (s : ShelfState g.row.B-Shelf.Denot) ×
    ((v : Which) → Leads (pick (put c.args.nears.now w e) v) (pick (put f u s) v)) ×
    Settles g.B.Shelf.Boosted.meaning (pick f u) c.args.number [] s) c.place-place.ensures.which (
      done.0,
      by_shelf c.args.nears.now w e (λ v x. Leads x (pick (put f w done.0) v))
          (subst (Leads e) (sym (pick_put f w done.0)) done.1)
          (λ v other. subst (Leads (pick c.args.nears.now v))
          (sym (pick_other f w v done.0 (λ r. other (rank_is v w r)))) (leads v)),
      done.2,
    )
