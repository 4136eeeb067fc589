use Rattle.std.proofs.Common.{rules}
use Rattle.std.proofs.lemmas.List.Sorted.{answers_always}
use Rattle.undo_log.proofs.Index.{searched}
use Rattle.undo_log.proofs.live.place_of.Goals as goal

pub returns-in_default-clause-found : goal.returns-in_default-clause-found
returns-in_default-clause-found c =
    let facts = c.binary_search_by_key.ensures in
    let by_key = facts.position (λ handle. handle.number)
    (answers_always _ _ _ (λ f a r g called. search rules)) in
    (searched c.args.index.now c.requires c.args.number c.binary_search_by_key.result facts.bound
    by_key).found

pub returns-in_default-clause-absent : goal.returns-in_default-clause-absent
returns-in_default-clause-absent c =
    let facts = c.binary_search_by_key.ensures in
    let by_key = facts.position (λ handle. handle.number)
    (answers_always _ _ _ (λ f a r g called. search rules)) in
    (searched c.args.index.now c.requires c.args.number c.binary_search_by_key.result facts.bound
    by_key).absent
