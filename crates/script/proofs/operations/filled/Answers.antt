use Rattle.script.proofs.ScriptOperations.{key_no_pair}
use Rattle.script.proofs.operations.filled.Goals as goal

pub returns-in-Some-One : goal.returns-in-Some-One
returns-in-Some-One c = λ has.
    let key = rw (c.in-Some-One.is, c.in-Some-One.field-0-is) at c.one_or_two.ensures in
    key_no_pair c.args.text.now c.in-Some-One.field-0-0 key.0 key.1 has
