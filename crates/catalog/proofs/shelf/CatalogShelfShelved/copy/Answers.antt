use Rattle.std.proofs.Common.{sym, ap, subst}
use Rattle.std.proofs.lemmas.Result.{IfOk-weaker}
use Rattle.calls.specs.Contents.{Collection}
use Rattle.catalog.specs.Holdings.{content_of}
use Rattle.catalog.specs.Woven.{IsHeld}
use Rattle.catalog.proofs.Places.{not_held, copied_or_not}
use Rattle.catalog.proofs.shelf.CatalogShelfShelved.copy.Goals as goal

pub returns-in-Some-clause-ok : goal.returns-in-Some-clause-ok
returns-in-Some-clause-ok c = IfOk-weaker c.copy_of.result _ _
    (λ part is. subst (λ v. IsHeld c.args.self.now c.args.at v)
    (sym (ap (λ (x : Collection). x.content) is)) c.in-Some.ensures) c.copy_of.ensures.ok

pub returns-in-Some-clause-name : goal.returns-in-Some-clause-name
returns-in-Some-clause-name c = IfOk-weaker c.copy_of.result _ _
    (λ part is. ap (λ (x : Collection). x.name) is) c.copy_of.ensures.ok

pub returns-in-Some-clause-err : goal.returns-in-Some-clause-err
returns-in-Some-clause-err c = copied_or_not c.args.self.now c.args.at
    (content_of c.in-Some.holding.now) c.in-Some.ensures c.copy_of.result c.copy_of.ensures.refusal

pub returns-in-None-clause-err : goal.returns-in-None-clause-err
returns-in-None-clause-err c = not_held c.args.self.now c.args.at c.in-None.ensures
