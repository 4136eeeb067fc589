use Rattle.script.proofs.WishLemmas.{no_part}
use Rattle.script.proofs.wishes.part.Goals as goal

pub returns-in-None : goal.returns-in-None
returns-in-None c = no_part c.called.result c.args.text.now
    (rw c.in-None.is at c.in_ok-request.ensures) c.called.ensures
