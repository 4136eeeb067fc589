use Rattle.std.proofs.Common.{sym, subst, true≢false}
use Rattle.std.specs.Prelude.{IfErr}
use Rattle.std.proofs.lemmas.Result.{IfErr-weaker}
use Rattle.calls.specs.Contents.{kind_of_content}
use Rattle.calls.specs.Formats.{widest}
use Rattle.boosted.specs.Kinds.{IsOf, IsWrong}
use Rattle.boosted.specs.Meaning.{AskRefusal}
use Rattle.catalog.specs.Holdings.{content_of}
use Rattle.catalog.proofs.Places.{of_it, on_it, asked_there, nothing_on, absent_past}
use Rattle.catalog.proofs.shelf.CatalogShelfBoosted.askable.Goals as goal

pub returns-in-Some-clause-ok : goal.returns-in-Some-clause-ok
returns-in-Some-clause-ok c =
    let k = content_of c.in-Some.holding.now in
    let call = c.args.call.now in (
      λ is. let mine = c.check_asked.ensures.ok.0 is in (
        on_it c.args.self.now c.args.at k c.in-Some.ensures (λ x. IsOf (kind_of_content x) call)
            (subst (λ j. IsOf j call) c.kind.ensures mine.0),
        mine.1,
        mine.2,
      ),
      λ b. c.check_asked.ensures.ok.1 (
        subst (λ j. IsOf j call) (sym c.kind.ensures)
            (of_it c.args.self.now c.args.at k c.in-Some.ensures
            (λ x. IsOf (kind_of_content x) call) b.0),
        b.1,
        b.2,
      ),
    )

pub returns-in-Some-clause-err : goal.returns-in-Some-clause-err
returns-in-Some-clause-err c =
    let k = content_of c.in-Some.holding.now in
    let call = c.args.call.now in
    IfErr-weaker c.check_asked.result _ _
    (asked_there c.args.self.now c.args.at k c.in-Some.ensures call)
    (subst (λ j. IfErr c.check_asked.result (AskRefusal widest (IsOf j call) (IsWrong j call) call))
    c.kind.ensures c.check_asked.ensures.err)

pub returns-in-None-clause-ok : goal.returns-in-None-clause-ok
returns-in-None-clause-ok c = (
  λ is. absurd (true≢false (sym is)),
  λ b. absurd (nothing_on (λ x. IsOf (kind_of_content x) c.args.call.now) c.args.self.now
      c.args.at c.in-None.ensures b.0),
)

pub returns-in-None-clause-err : goal.returns-in-None-clause-err
returns-in-None-clause-err c = absent_past c.args.self.now c.args.at c.args.call.now
    c.in-None.ensures
