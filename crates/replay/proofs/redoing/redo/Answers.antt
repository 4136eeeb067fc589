use Rattle.std.proofs.Common.{◌≡◌, ℕ, List, true, false, map, sym, ◌∙◌, ap, subst}
use Rattle.calls.specs.Transactions.{Event, Entry, Leads, calls_of}
use Rattle.undo_log.specs.declared.logged.Owned.{Owned}
use Rattle.undo_log.specs.Entries.{owned_entry}
use Rattle.steps.specs.Machine.{Does}
use Rattle.replay.specs.Loading.{calls_in, HasRoomBack, HasLed, TakenBack}
use Rattle.replay.proofs.TakenBack.{TakeLaws, take_laws, made_again}
use Rattle.replay.proofs.redoing.redo.Given.{Over}
use Rattle.replay.proofs.redoing.redo.Goals as goal

-- the laws of the collections
laws : (g : Over) → TakeLaws g.B.Boosted.meaning
laws g = take_laws g.met.B.Boosted.laws g.met.B.Coded.told

-- The calls of a log.
abbrev calls_told : List (ℕ × Entry) → List Event
calls_told es = calls_of (map (λ e. e.1) es)

-- the calls in a slice of what was listed
in_slice : (slice os : List Owned) (es : List (ℕ × Entry)) → slice ≡ os → map owned_entry os ≡ es →
    calls_in slice ≡ calls_told es
in_slice slice os es same told = ap calls_in same ∙ ap calls_told told

pub take_all_back-requires : goal.take_all_back-requires
take_all_back-requires g c =
    let all = in_slice c.deref.result.now c.in_ok-entries.entries.items c.args.live.now.entries
    c.deref.ensures.value c.in_ok-entries.ensures.ok in
    subst (λ es. HasRoomBack g.B.Boosted.meaning es c.args.parts.now) (sym all) c.requires

pub returns-then-not-branch-clause-ok : goal.returns-then-not-branch-clause-ok
returns-then-not-branch-clause-ok g c =
    let all = in_slice c.deref.result.now c.in_ok-entries.entries.items c.args.live.now.entries
    c.deref.ensures.value c.in_ok-entries.ensures.ok in
    subst (λ es. TakenBack g.B.Boosted.meaning es false c.args.parts.now c.take_all_back.new.parts)
    all (subst (λ b. TakenBack g.B.Boosted.meaning (calls_in c.deref.result.now) b
    c.args.parts.now c.take_all_back.new.parts) c.if-not-branch.true
    c.in_ok-take_all_back.ensures.ok)

pub make_all_again-requires : goal.make_all_again-requires
make_all_again-requires g c =
    let all = in_slice c.deref.result.now c.in_ok-entries.entries.items c.args.live.now.entries
    c.deref.ensures.value c.in_ok-entries.ensures.ok in
    let again = in_slice c.deref-2.result.now c.in_ok-entries.entries.items
    c.args.live.now.entries c.deref-2.ensures.value c.in_ok-entries.ensures.ok in
    subst (λ es. HasLed g.B.Boosted.meaning es c.take_all_back.new.parts) (sym again)
    (record {
      next = c.args.parts.now;
      runs = subst (λ es. TakenBack g.B.Boosted.meaning es true c.args.parts.now
          c.take_all_back.new.parts) all (subst (λ b. TakenBack g.B.Boosted.meaning
          (calls_in c.deref.result.now) b c.args.parts.now c.take_all_back.new.parts)
          c.if-not-branch.false c.in_ok-take_all_back.ensures.ok);
      room = c.requires;
    })

pub returns-clause-ok : goal.returns-clause-ok
returns-clause-ok g c =
    let all = in_slice c.deref.result.now c.in_ok-entries.entries.items c.args.live.now.entries
    c.deref.ensures.value c.in_ok-entries.ensures.ok in
    let again = in_slice c.deref-2.result.now c.in_ok-entries.entries.items
    c.args.live.now.entries c.deref-2.ensures.value c.in_ok-entries.ensures.ok in
    made_again g.B.Boosted.meaning (laws g) (calls_told c.args.live.now.entries) c.args.parts.now
    c.take_all_back.new.parts c.make_all_again.new.parts
    (subst (λ es. TakenBack g.B.Boosted.meaning es true c.args.parts.now
    c.take_all_back.new.parts) all (subst (λ b. TakenBack g.B.Boosted.meaning
    (calls_in c.deref.result.now) b c.args.parts.now c.take_all_back.new.parts)
    c.if-not-branch.false c.in_ok-take_all_back.ensures.ok))
    (subst (λ es. Leads (Does g.B.Boosted.meaning) es c.take_all_back.new.parts
    c.make_all_again.new.parts) again c.in_ok-make_all_again.ensures.ok)
