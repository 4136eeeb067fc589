use Rattle.std.proofs.Common.{◌≤◌, rules, arith}
use Rattle.calls.specs.Formats.{max_area, widest}
use Rattle.calls.specs.declared.format.Format.{Format}
use Rattle.boost_main.proofs.files.check_area.Goals as goal

pub returns-clause-ok : goal.returns-clause-ok
returns-clause-ok c = search rules

-- no format has larger areas than the widest
largest : (f : Format) → max_area f ≤ max_area widest
largest Format.One = omega arith
largest Format.Two = omega arith

pub returns-clause-small : goal.returns-clause-small
returns-clause-small c = λ is.
    let bound = ((returns-clause-ok c).0 is).1 in
    let most = largest c.args.format in omega (arith, bound, most)
