use Rattle.std.proofs.Common.{rules}
use Rattle.std.proofs.lemmas.List.Sorted.{answers_always}
use Rattle.abstract_locks.specs.Owners.{Listed}
use Rattle.abstract_locks.proofs.Listing.{searched}
use Rattle.abstract_locks.proofs.owners.place_of.Goals as goal

pub returns : goal.returns
returns c =
    let facts = c.binary_search_by_key.ensures in
    let by_key = facts.position (λ (l : Listed). l.owner)
    (answers_always _ _ _ (λ f a r g called. search rules)) in
    searched c.args.lists.now c.requires c.args.owner c.binary_search_by_key.result facts.bound
    by_key
