use Rattle.boost.specs.declared.commands.failure.Failure.{Failure}
use Rattle.std.proofs.Common.{inl, inr}
use Rattle.boost.proofs.EffectLemmas.{lines_played, lines_in_part}
use Rattle.boost.proofs.commands.play_lines.Goals as goal

pub returns-in-Ok-clause-left : goal.returns-in-Ok-clause-left
returns-in-Ok-clause-left g c =
    let done = c.play_lines-done in
    rw c.into_disk.ensures
    (λ script is honest. inr (
      c.args.lines.items,
      is,
      lines_in_part g.D.Disk c.args.disk g.met.D.Disk.only_now g.met.D.Disk.counts_now
          c.in-Ok.player.world done.new.self.world c.in-Ok.player.clients done.new.self.clients
          c.in-Ok.ensures.clients c.in-Ok.ensures.kept c.in-Ok.ensures.past done.ensures.plays
          c.args.lines.items done.result done.ensures.lines honest,
    ))

pub returns-in-Ok-clause-lines : goal.returns-in-Ok-clause-lines
returns-in-Ok-clause-lines g c =
    let done = c.play_lines-done in
    rw c.into_disk.ensures
    (lines_played g.D.Disk c.args.disk g.met.D.Disk.only_now g.met.D.Disk.counts_now
    c.in-Ok.player.world done.new.self.world c.in-Ok.player.clients done.new.self.clients
    c.in-Ok.ensures.clients c.in-Ok.ensures.kept c.in-Ok.ensures.past done.ensures.plays
    c.args.lines.items done.result c.written.result Failure.Unwritten done.ensures.lines
    c.written.ensures.done)

pub returns-in-Err-clause-left : goal.returns-in-Err-clause-left
returns-in-Err-clause-left g c = λ script is honest. inl c.in-Err.ensures.left_in_refusal
