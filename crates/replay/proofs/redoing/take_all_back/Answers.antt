use Rattle.std.proofs.Common.{◌-◌, true, false, get_or, sym, subst, arith}
use Rattle.replay.specs.Loading.{HasRoomBack, TakenBack}
use Rattle.replay.proofs.TakenBack.{TakeLaws, take_laws, call_in, taking_room, taking_next}
use Rattle.replay.proofs.TakenBack.{taking_stuck}
use Rattle.replay.proofs.redoing.take_all_back.Given.{Over}
use Rattle.replay.proofs.redoing.take_all_back.Goals as goal

-- the laws of the collections
laws : (g : Over) → TakeLaws g.B.Boosted.meaning
laws g = take_laws g.met.B.Boosted.laws g.met.B.Coded.told

pub take_entry_back-requires : goal.take_entry_back-requires
take_entry_back-requires g c =
    let place = c.loop-place.place in
    let is = c.index-entries-place.is in
    subst (λ v. HasRoomBack g.B.Boosted.meaning (call_in v) c.loop-place.parts) is
    (taking_room g.B.Boosted.meaning (laws g) c.args.entries.now c.args.parts.now place (place - 1)
    c.index-entries-place.result (omega (arith, c.loop-place-test.true))
    c.loop-place.invariant.0 is c.requires c.loop-place.parts c.loop-place.invariant.1)

pub returns-then-not-branch-clause-ok : goal.returns-then-not-branch-clause-ok
returns-then-not-branch-clause-ok g c =
    let place = c.loop-place.place in
    let is = c.index-entries-place.is in
    taking_stuck g.B.Boosted.meaning (laws g) c.args.entries.now c.args.parts.now place (place - 1)
    c.index-entries-place.result (omega (arith, c.loop-place-test.true))
    c.loop-place.invariant.0 is c.requires c.loop-place.parts c.loop-place.invariant.1
    c.take_entry_back.new.parts c.take_entry_back.new.parts
    (subst (λ v. TakenBack g.B.Boosted.meaning (call_in v) false c.loop-place.parts
    c.take_entry_back.new.parts) (sym is)
    (subst (λ b. TakenBack g.B.Boosted.meaning
    (call_in (get_or c.args.entries.now (place - 1) c.index-entries-place.result)) b
    c.loop-place.parts c.take_entry_back.new.parts) c.if-not-branch.true
    c.in_ok-take_entry_back.ensures.ok))

pub loop-place-preserved : goal.loop-place-preserved
loop-place-preserved g c =
    let place = c.loop-place.place in
    let is = c.index-entries-place.is in
    let before = c.loop-place.invariant.0 in (
      omega arith,
      taking_next g.B.Boosted.meaning (laws g) c.args.entries.now c.args.parts.now place (place - 1)
          c.index-entries-place.result (omega (arith, c.loop-place-test.true))
          c.loop-place.invariant.0 is c.requires c.loop-place.parts c.loop-place.invariant.1
          c.take_entry_back.new.parts
          (subst (λ v. TakenBack g.B.Boosted.meaning (call_in v) true c.loop-place.parts
          c.take_entry_back.new.parts) (sym is)
          (subst (λ b. TakenBack g.B.Boosted.meaning
          (call_in (get_or c.args.entries.now (place - 1) c.index-entries-place.result)) b
          c.loop-place.parts c.take_entry_back.new.parts) c.if-not-branch.false
          c.in_ok-take_entry_back.ensures.ok)),
    )
