use Rattle.catalog.specs.Laws.Numbers.{which_is, which_last}
use Rattle.clients.proofs.client.Client.ask_at.Goals as goal

pub ask_on-requires : goal.ask_on-requires
ask_on-requires g c =
    record { going = c.requires; place = which_is c.args.at 0 c.if-at-eq0.true }

pub ask_on-requires-then-at-eq1 : goal.ask_on-requires-then-at-eq1
ask_on-requires-then-at-eq1 g c =
    record { going = c.requires; place = which_is c.args.at 1 c.if-at-eq1.true }

pub ask_on-requires-then-at-eq2 : goal.ask_on-requires-then-at-eq2
ask_on-requires-then-at-eq2 g c =
    record { going = c.requires; place = which_is c.args.at 2 c.if-at-eq2.true }

pub ask_on-requires-2 : goal.ask_on-requires-2
ask_on-requires-2 g c = record {
  going = c.requires;
  place = which_last c.args.at c.if-at-eq0.false c.if-at-eq1.false c.if-at-eq2.false;
}
