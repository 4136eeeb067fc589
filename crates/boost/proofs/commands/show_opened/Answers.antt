use Rattle.std.proofs.Common.{inl, inr}
use Rattle.boost.proofs.EffectLemmas.{done_of}
use Rattle.recovery.proofs.RefusalLemmas.{refused_opening, only_opened}
use Rattle.boost.proofs.commands.show_opened.Goals as goal

pub returns-in-Ok-clause-done : goal.returns-in-Ok-clause-done
returns-in-Ok-clause-done g c =
    rw c.into_disk.ensures
    (done_of c.show_collections-done.result
    (λ true_read. record {
      book = c.in-Ok.book;
      area = c.in-Ok.keeper.area;
      opened = c.in-Ok.ensures.opened true_read;
    }))

pub returns-in-Ok-clause-shown : goal.returns-in-Ok-clause-shown
returns-in-Ok-clause-shown g c =
    rw c.into_disk.ensures (record {
      ends = inl (inr (only_opened g.D.Disk c.args.disk c.in-Ok.keeper.disk c.in-Ok.book
          c.in-Ok.keeper.area c.in-Ok.ensures.opened c.in-Ok.ensures.ready));
      any_moment = c.in-Ok.ensures.kept;
    })

pub returns-in-Err-clause-shown : goal.returns-in-Err-clause-shown
returns-in-Err-clause-shown g c = record {
  ends = refused_opening g.D.Disk c.args.disk c.in-Err.disk _ _ _ c.in-Err.refusal
      c.in-Err.ensures.refused c.in-Err.ensures.unchanged;
  any_moment = c.in-Err.ensures.kept_in_refusal;
}
