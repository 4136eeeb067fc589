use Rattle.std.proofs.Common.{rules, refl}
use Rattle.checkpoint.proofs.Turning.{appended, kept_of, unmoved}
use Rattle.checkpoint.proofs.keeper.Keeper.bring.Goals as goal

pub returns-clause-answer : goal.returns-clause-answer
returns-clause-answer g c = appended _ _ _ _ _ _ _ _ c.append.result _ _ (search rules)
    (search rules) c.append.ensures.answer

pub returns-clause-kept : goal.returns-clause-kept
returns-clause-kept g c = λ bodies body is past ready. kept_of _ c.append.result
    (c.append.ensures.kept bodies body is ready)

pub returns-clause-any_moment : goal.returns-clause-any_moment
returns-clause-any_moment g c =
    c.append.ensures.any_moment

pub returns-clause-elsewhere : goal.returns-clause-elsewhere
returns-clause-elsewhere g c =
    c.append.ensures.elsewhere

pub returns-then-block-self-clause-any_moment : goal.returns-then-block-self-clause-any_moment
returns-then-block-self-clause-any_moment g c =
    rw (← c.self.view_is) (λ bodies body is ready. unmoved g.D.Disk.seen g.D.Disk.may_leave
    g.D.Disk.moment g.D.Disk.left_since c.self.inside.disk
    (g.met.D.Disk.only_now c.self.inside.disk) c.self.inside.area bodies body ready)

pub returns-then-is_past-clause-any_moment : goal.returns-then-is_past-clause-any_moment
returns-then-is_past-clause-any_moment g c =
    rw (← c.self.view_is) (λ bodies body is ready. unmoved g.D.Disk.seen g.D.Disk.may_leave
    g.D.Disk.moment g.D.Disk.left_since c.self.inside.disk
    (g.met.D.Disk.only_now c.self.inside.disk) c.self.inside.area bodies body ready)

pub returns-then-block-self-clause-elsewhere : goal.returns-then-block-self-clause-elsewhere
returns-then-block-self-clause-elsewhere g c =
    rw (← c.self.view_is) (record { before = refl; after = refl; same_size = refl })

pub returns-then-is_past-clause-elsewhere : goal.returns-then-is_past-clause-elsewhere
returns-then-is_past-clause-elsewhere g c =
    rw (← c.self.view_is) (record { before = refl; after = refl; same_size = refl })
