use Rattle.script.proofs.seconds.thousandths.Goals as goal

pub returns-in_default : goal.returns-in_default
returns-in_default c = λ m are.
    let none = rw c.in_default.is at c.digit.ensures in none are.0 are.3

pub returns-in_default-digit : goal.returns-in_default-digit
returns-in_default-digit c = λ m are.
    let none = rw c.in_default-digit.is at c.digit-2.ensures in none are.1 are.4

pub returns-in-None : goal.returns-in-None
returns-in-None c = λ m are.
    let none = rw c.in-None.is at c.digit-3.ensures in none are.2 are.5
