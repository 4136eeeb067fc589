use Rattle.std.proofs.Common.{◌≡◌, ◌∙◌, ◌<◌, ◌≤◌, length, get_or, sym, ap, subst, ltb-false}
use Rattle.std.proofs.Common.{IfErr}
use Rattle.std.proofs.lemmas.Result.{on_ok_weaker}
use Rattle.abstract_locks.specs.Claimed.{Claimed}
use Rattle.abstract_locks.specs.Collections.{held_on}
use Rattle.abstract_locks.specs.Holds.{IsClear, IsBusyRefusal}
use Rattle.abstract_locks.proofs.Collections.{clear_of_all, test_of_all, clear_past, found_at}
use Rattle.abstract_locks.proofs.table.NeedTable.test.Goals as goal
use Rattle.abstract_locks.proofs.table.NeedTable.test.Goals.{After-test}

-- the needs that were found are those of the collection
found : (c : After-test) →
    c.in-Some.needs.now ≡ held_on c.self.inside.collections.items c.args.collection
found c =
    let cs = c.self.inside.collections.items in
    let i = c.from.result in
    let x = c.in-Some.needs.now in
    let seen = c.in-Some.ensures.lookup in
    let lt : i < length cs = rw (← c.deref.ensures.value) seen.3.0 in
    let is : x ≡ get_or cs i x = rw (← c.deref.ensures.value) seen.1 in
    found_at cs i x lt is ∙ ap (held_on cs) c.from.ensures

pub returns-in-Some-clause-clear : goal.returns-in-Some-clause-clear
returns-in-Some-clause-clear c =
    let a = c.args in
    rw (← c.self.view_is)
    (on_ok_weaker c.test.result
    (λ free. clear_of_all c.self.inside.collections.items c.self.invariant.own a.owner a.collection
    a.need.now
    (subst (λ (x : Claimed). IsClear x.holds a.owner a.collection a.need.now) (found c) free))
    c.test.ensures.clear)

pub returns-in-Some-clause-busy : goal.returns-in-Some-clause-busy
returns-in-Some-clause-busy c =
    let a = c.args in
    rw (← c.self.view_is)
    (test_of_all c.self.inside.collections.items c.self.invariant.own a.owner a.collection
    a.need.now
    c.test.result
    (subst
    (λ (x : Claimed). IfErr c.test.result (IsBusyRefusal x.holds a.owner a.collection a.need.now))
    (found c) c.test.ensures.busy))

pub returns-in-None-clause-clear : goal.returns-in-None-clause-clear
returns-in-None-clause-clear c =
    let cs = c.self.inside.collections.items in
    let none = c.in-None.ensures.lookup.0 in
    let past : length cs ≤ c.args.collection = rw (← c.deref.ensures.value, ← c.from.ensures)
    (ltb-false c.from.result (length c.deref.result.now) (sym none)) in
    rw (← c.self.view_is)
    (clear_past cs c.self.invariant.own c.args.owner c.args.collection c.args.need.now past)
