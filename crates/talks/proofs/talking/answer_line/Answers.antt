use Rattle.std.proofs.Common.{inl, inr, None, Some, refl}
use Rattle.talks.proofs.TalkLemmas.{heard_behind}
use Rattle.talks.proofs.talking.answer_line.Goals as goal

pub returns-in-Ok : goal.returns-in-Ok
returns-in-Ok g c =
    let done = c.exchange-told in (
      done.result.0,
      done.result.1,
      inl (c.in-Ok.wish, rw c.in-Ok.is at c.wish_in.ensures, done.ensures.done),
      heard_behind _ _ _ done.result.0 done.result.1 c.tell.result done.ensures.still
          c.tell.ensures,
    )

pub returns-in-Err : goal.returns-in-Err
returns-in-Err g c = (
  Some c.in-Err.told,
  None,
  inr (c.in-Err.told, rw c.in-Err.is at c.wish_in.ensures, refl, refl, refl),
  c.tell-in-Err.ensures,
)
