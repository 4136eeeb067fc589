use Rattle.std.proofs.Common.{inl, inr}
use Rattle.std.proofs.lemmas.Result.{err_from_is_err_and}
use Rattle.fizgaloms.specs.Transactions.{IsNotBegun}
use Rattle.fizgaloms.proofs.Trying.{tried_drawn, tried_worn, refused_with}
use Rattle.fizgaloms.proofs.transacting.begin.Goals as goal

pub returns-in_err-_number-clause-tried : goal.returns-in_err-_number-clause-tried
returns-in_err-_number-clause-tried g c =
    let tried = c.in_ok-take_back.ensures.tried in (
      tried.0,
      tried_worn g.J.Naming c.args.client.now c.take_back.new.client c.begin.new.self
          tried.0
          g.J.Naming.origin.next tried.1 c.in_err-_number.ensures.worn.1,
    )

pub returns-clause-tried : goal.returns-clause-tried
returns-clause-tried g c =
    let tried = c.in_ok-take_back.ensures.tried in (
      tried.0,
      tried_drawn g.J.Naming c.args.client.now c.take_back.new.client c.begin.new.self
          tried.0 c.in_ok-_number._number g.J.Naming.origin.next tried.1
          c.in_ok-take_back.ensures.closed
          c.in_ok-_number.ensures.drawn.1,
    )

pub returns-in_err-take_back-clause-refused : goal.returns-in_err-take_back-clause-refused
returns-in_err-take_back-clause-refused g c =
    let p = err_from_is_err_and c.from_residual.result
    c.from_residual.ensures.1 in
    refused_with (λ e. IsNotBegun g.J.Naming.origin c.args.client.now e c.take_back.new.client)
    c.from_residual.result p.0 c.in_err-take_back.field-0.0 p.1 p.2
    (inl c.in_err-take_back.ensures.taken_back)

pub returns-in_err-_number-clause-refused : goal.returns-in_err-_number-clause-refused
returns-in_err-_number-clause-refused g c =
    let p = err_from_is_err_and c.from_residual-in_err-_number.result
    c.from_residual-in_err-_number.ensures.1 in
    let worn = c.in_err-_number.ensures.worn in
    refused_with (λ e. IsNotBegun g.J.Naming.origin c.args.client.now e c.begin.new.self)
    c.from_residual-in_err-_number.result p.0 c.in_err-_number.field-0.0 p.1 p.2
    (inr (worn.0, (c.take_back.new.client, c.in_ok-take_back.ensures.taken_back, worn.1)))

pub returns-clause-begun : goal.returns-clause-begun
returns-clause-begun g c = record {
  closed = c.take_back.new.client;
  taken_back = c.in_ok-take_back.ensures.taken_back;
  number = c.in_ok-_number._number;
  draws = c.in_ok-_number.ensures.drawn.1;
  drawn = c.in_ok-_number.ensures.drawn.2;
}
