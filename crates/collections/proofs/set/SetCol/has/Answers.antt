use Rattle.std.proofs.Common.{sym, ◌∙◌, ap}
use Rattle.std.specs.FinSet as set
use Rattle.collections.proofs.Trees.{contains-set_of}
use Rattle.collections.proofs.set.SetCol.has.Goals as goal

pub returns : goal.returns
returns c =
    c.contains.ensures
    ∙ sym (contains-set_of c.self.inside.elements c.args.element)
    ∙ ap (λ s. set.contains s c.args.element) c.self.view_is
