use Rattle.fizgaloms.proofs.running.work_all.Goals as goal

pub returns-clause-said : goal.returns-clause-said
returns-clause-said g c = λ thread d within.
    (c.in_ok-map_indices.ensures.each thread d within).1.met
