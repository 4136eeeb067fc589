use Rattle.std.proofs.Common.{◌∙◌, ap, map}
use Rattle.std.proofs.lemmas.Result.{IfOk-weaker}
use Rattle.catalog.specs.Holdings.{pair_item}
use Rattle.catalog.proofs.Listings.{pair_items}
use Rattle.catalog.proofs.holding.pairs_of.Goals as goal

pub returns : goal.returns
returns c = IfOk-weaker c.items_of_pairs.result _ _
    (λ items e. e ∙ ap (map pair_item) c.deref.ensures.value ∙
    pair_items c.args.queue.now c.in_ok-pairs.pairs.items c.in_ok-pairs.ensures)
    c.items_of_pairs.ensures
