use Rattle.std.proofs.Common.{◌≡◌, ◌∙◌, ap, map, rules}
use Rattle.std.specs.Map.Iter.{deref_pair}
use Rattle.std.proofs.lemmas.Map.Iter.{iter_end}
use Rattle.catalog.proofs.Listings.{entry_item, entry_items}
use Rattle.catalog.proofs.holding.entries_of.Goals as goal

pub returns : goal.returns
returns c =
    let all : map deref_pair c.loop-key.yielded ≡ c.iter-key-items.result =
    search (rules, iter_end) in
    c.loop-key.invariant ∙ ap (map entry_item) all ∙
    entry_items c.args.map.now c.iter-key-items.result c.iter-key-items.ensures.rising
    c.iter-key-items.ensures.entries
