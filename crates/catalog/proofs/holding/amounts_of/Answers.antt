use Rattle.std.proofs.Common.{◌≡◌, ◌∙◌, ap, map, rules}
use Rattle.std.specs.Map.Iter.{deref_pair}
use Rattle.std.proofs.lemmas.Map.Iter.{iter_end}
use Rattle.catalog.proofs.Listings.{quota_item, quota_items}
use Rattle.catalog.proofs.holding.amounts_of.Goals as goal

pub returns : goal.returns
returns c =
    let all : map deref_pair c.loop-key.yielded ≡ c.iter-key-items.result =
    search (rules, iter_end) in
    c.loop-key.invariant.so_far ∙ ap (map quota_item) all ∙
    quota_items c.args.quotas.now c.iter-key-items.result c.iter-key-items.ensures.rising
    c.iter-key-items.ensures.entries
