use Rattle.std.proofs.Common.{◌≡◌, ◌<◌, [], length, refl, arith}
use Rattle.records.proofs.PendingLemmas.{first_next, last_next, some_told}
use Rattle.records.proofs.Next.{front_first, none_first, is_next}
use Rattle.records.proofs.pending.Pending.next_block.Goals as goal

pub returns-in-Some-clause-next : goal.returns-in-Some-clause-next
returns-in-Some-clause-next c =
    let first = c.in-Some.first.now in
    let found = c.in-Some.ensures in
    rw (← c.self.view_is) (is_next _ _ _ c.size.result
    (first_next _ first _ c.self.inside.count c.self.invariant
    (front_first c.self.inside.full.items first
    (omega (arith, found.variant.0 refl, c.self.inside.full.ok.0)) found.lookup))
    c.size.ensures.records c.size.ensures.body)

pub returns-clause-next : goal.returns-clause-next
returns-clause-next c =
    let last = c.self.inside.last in
    let none : c.self.inside.full.items ≡ [] = none_first c.self.inside.full.items
    (λ some. let wrong = c.in_default.ensures.variant.1
    (omega (arith, some, c.self.inside.full.ok.0)) in cc) in
    let some : 0 < length last.records =
    some_told last.records c.is_empty.result c.is_empty.ensures c.if-is_empty.false in
    rw (← c.self.view_is) (is_next _ _ _ c.size-2.result
    (last_next _ c.self.inside.count c.self.invariant none some)
    c.size-2.ensures.records c.size-2.ensures.body)
