use Rattle.std.proofs.Common.{◌∙◌, arith, subst, sym}
use Rattle.std.specs.Prelude.{◌≤◌}
use Rattle.disk_model.specs.Disk.{Rises}
use Rattle.group_commit.specs.Marks.{KeeperMark}
use Rattle.engine.proofs.KeeperLemmas.{piece_mark, flip_mark_is, flip_mark_rises}
use Rattle.store.specs.Turns.{stops_behind}
use Rattle.store.specs.Vaults.{IsVault}
use Rattle.store.proofs.Causes.{piece_caused, flip_caused}
use Rattle.store.proofs.Awaiting.{awaits_here}
use Rattle.store.proofs.VaultSteps.{vault_images, vault_flips}
use Rattle.store.proofs.vault.Vault.lay.Goals as goal

pub invariant_of-self : goal.invariant_of-self
invariant_of-self g c =
    let k = c.self.inside.keeper in
    let l = c.image_piece-laid.new.self in
    let same = piece_mark k l _ c.image_piece-laid.result c.image_piece-laid.ensures.answer in (
      subst (λ (m : KeeperMark). IsVault g.J.Naming g.D.Disk l c.self.inside.receiver m
          c.self.inside.near) (sym c.piece_told.ensures.seat)
          (vault_images g.D.Disk g.J.Naming k c.self.inside.receiver c.self.inside.mark
          c.self.inside.near c.self.invariant.0 l c.image_piece-laid.ensures.crash
          (omega (arith, same))
          (stops_behind c.image_piece-laid.result c.self.inside.mark.stops)
          (piece_caused k l _ c.image_piece-laid.result c.image_piece-laid.ensures.answer
          c.self.inside.mark.stops c.self.invariant.0.caused)),
      awaits_here k.stage l.stage c.in_ok-left.left c.self.inside.near.gather
          (sym c.left.ensures ∙ c.in_ok-left.was) c.self.invariant.1,
    )

pub invariant_of-self-2 : goal.invariant_of-self-2
invariant_of-self-2 g c =
    let k = c.self.inside.keeper in
    let l = c.flip-flipped.new.self in
    let r = c.flip-flipped.result in
    let is = flip_mark_is k l (Rises (g.D.Disk.fault_count k.disk) (g.D.Disk.fault_count l.disk)) r
    c.flip-flipped.ensures.answer in
    let rises = flip_mark_rises k l
    (Rises (g.D.Disk.fault_count k.disk) (g.D.Disk.fault_count l.disk)) r
    c.flip-flipped.ensures.answer in (
      vault_flips g.D.Disk g.J.Naming k c.self.inside.receiver c.self.inside.mark
          c.self.inside.near c.self.invariant.0 r l c.flip_told.new.seat
          c.flip-flipped.ensures.crash (subst (λ n. k.mark ≤ n) is rises) is
          (g.met.D.Disk.only_now l.disk) (flip_caused k l
          (Rises (g.D.Disk.fault_count k.disk) (g.D.Disk.fault_count l.disk)) r
          c.flip-flipped.ensures.answer) c.flip_told.ensures.seat,
      awaits_here k.stage l.stage c.in_ok-left.left c.self.inside.near.gather
          (sym c.left.ensures ∙ c.in_ok-left.was) c.self.invariant.1,
    )
