use Rattle.std.proofs.Common.{length, sym, ◌∙◌, ap, subst, arith}
use Rattle.calls.specs.Transactions.{Leads, laters_of, own}
use Rattle.steps.specs.Machine.{State, Does, IsRunning, CommitRow}
use Rattle.steps.specs.Shelves.{CanRun}
use Rattle.steps.specs.Wholes.{state_on}
use Rattle.steps.specs.TransactionTables.{finished}
use Rattle.steps.proofs.AloneRows.{commit_on}
use Rattle.steps.proofs.InvariantRows.{commit_ready, commit_fits, commit_upheld}
use Rattle.records.specs.Short.{AreShort}
use Rattle.steps.proofs.BookLaws.{BookLaws, book_laws}
use Rattle.replay.proofs.machine.Machine.commit.Given.{Over}
use Rattle.replay.proofs.machine.Machine.commit.Goals as goal

-- the laws of the collections
laws : (g : Over) → BookLaws g.B.Boosted.meaning g.B.Parts.making
    (λ f s. AreShort f (g.B.Parts.collections s))
laws g = book_laws g.met.B.Boosted.laws g.met.B.Parts.laws g.met.B.Coded.told

pub settle-ran-requires : goal.settle-ran-requires
settle-ran-requires g c =
    let noted = c.entries_of-entries.ensures ∙ ap (own c.args.number) c.live-live.ensures.entries in
    subst (λ es. CanRun g.B.Boosted.meaning (laters_of es) c.self.inside.shelf.now) (sym noted)
    (commit_ready g.B.Boosted.meaning g.B.Parts.making (λ f s. AreShort f (g.B.Parts.collections s))
    (laws g) _ c.self.invariant c.args.number
    (subst (λ (s : State _). IsRunning s c.args.number) (sym c.self.view_is) c.requires))

pub finish-requires : goal.finish-requires
finish-requires g c =
    let noted = c.entries_of-entries.ensures ∙ ap (own c.args.number) c.live-live.ensures.entries in
    let fits = commit_fits g.B.Boosted.meaning g.B.Parts.making
    (λ f s. AreShort f (g.B.Parts.collections s))
    (laws g) _ c.self.invariant c.args.number in
    let ran = c.settle-ran.ensures.count ∙ ap (λ es. length (laters_of es)) noted in
    omega arith

-- the transaction is committed
step : (g : Over) (c : goal.After-finish g) → let i = c.self.inside in
    CommitRow g.B.Boosted.meaning (state_on i.transactions i.shelf) c.args.number
    (state_on c.finish.new.self c.settle-ran.new.self)
step g c =
    let i = c.self.inside in
    let n = c.args.number in
    let shelf = c.settle-ran.new.self in
    let noted = c.entries_of-entries.ensures ∙ ap (own n) c.live-live.ensures.entries in
    let ran = c.settle-ran.ensures.count ∙ ap (λ es. length (laters_of es)) noted in
    let running = subst (λ (s : State _). IsRunning s n) (sym c.self.view_is) c.requires in
    subst (λ a. CommitRow g.B.Boosted.meaning (state_on i.transactions i.shelf) n
    (state_on a shelf))
    (sym (c.finish.ensures ∙ ap (λ k. finished n k i.transactions) ran))
    (commit_on g.B.Boosted.meaning i.transactions i.shelf n shelf running.live
    c.settle-ran.ensures.holds running.standing
    (subst (λ es. Leads (Does g.B.Boosted.meaning) (laters_of es) i.shelf.now shelf.now) noted
    c.settle-ran.ensures.runs))

pub invariant_of-self : goal.invariant_of-self
invariant_of-self g c = commit_upheld g.B.Boosted.meaning g.B.Parts.making
    (λ f s. AreShort f (g.B.Parts.collections s))
    (laws g) _ c.self.invariant c.args.number _ (step g c)

pub returns : goal.returns
returns g c = rw (← c.self.view_is) (step g c)
