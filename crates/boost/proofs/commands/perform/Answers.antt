use Rattle.std.proofs.Common.{◌≡◌}
use Rattle.boost.specs.declared.arguments.Task.{Task}
use Rattle.boost.proofs.EffectLemmas.{other_undone, play_undone}
use Rattle.boost.proofs.commands.perform.Goals as goal

pub returns-in-Format-clause-done : goal.returns-in-Format-clause-done
returns-in-Format-clause-done g c = rw c.in-Format.is c.format_disk.ensures.done

pub returns-in-Format-clause-any_moment : goal.returns-in-Format-clause-any_moment
returns-in-Format-clause-any_moment g c = rw c.in-Format.is c.format_disk.ensures.formatting

pub returns-in-Format-clause-why : goal.returns-in-Format-clause-why
returns-in-Format-clause-why g c =
    rw c.in-Format.is (other_undone
    (Task.Format c.in-Format.disk c.in-Format.area c.in-Format.version c.in-Format.reserve
    c.in-Format.group c.in-Format.force)
    c.args.script.now (c.format_disk.result.1 ≡ c.args.disk)
    c.format_disk.result.0 (λ is. is) c.format_disk.ensures.why)

pub returns-in-Play-clause-why : goal.returns-in-Play-clause-why
returns-in-Play-clause-why g c =
    rw c.in-Play.is (play_undone (Task.Play c.in-Play.disk c.in-Play.script) c.args.script.now
    (c.play_script.result.1 ≡ c.args.disk)
    c.play_script.result.0 (tt {0}) c.play_script.ensures.why)

pub returns-in-Show-clause-why : goal.returns-in-Show-clause-why
returns-in-Show-clause-why g c =
    rw c.in-Show.is (other_undone (Task.Show c.in-Show.disk c.in-Show.read_only) c.args.script.now
    (c.show.result.1 ≡ c.args.disk)
    c.show.result.0 (λ is. is) c.show.ensures.why)

pub returns-in-Check-clause-why : goal.returns-in-Check-clause-why
returns-in-Check-clause-why g c =
    rw c.in-Check.is (other_undone (Task.Check c.in-Check.disk) c.args.script.now
    (c.check.result.1 ≡ c.args.disk)
    c.check.result.0 (λ is. is) c.check.ensures.why)

pub returns-in-Stat-clause-why : goal.returns-in-Stat-clause-why
returns-in-Stat-clause-why g c =
    rw c.in-Stat.is (other_undone (Task.Stat c.in-Stat.disk c.in-Stat.json) c.args.script.now
    (c.stat.result.1 ≡ c.args.disk)
    c.stat.result.0 (λ is. is) c.stat.ensures.why)

pub returns-in-Upgrade-clause-done : goal.returns-in-Upgrade-clause-done
returns-in-Upgrade-clause-done g c = rw c.in-Upgrade.is c.upgrade_store.ensures.done

pub returns-in-Upgrade-clause-any_moment : goal.returns-in-Upgrade-clause-any_moment
returns-in-Upgrade-clause-any_moment g c = rw c.in-Upgrade.is c.upgrade_store.ensures.left

pub returns-in-Upgrade-clause-why : goal.returns-in-Upgrade-clause-why
returns-in-Upgrade-clause-why g c =
    rw c.in-Upgrade.is (other_undone (Task.Upgrade c.in-Upgrade.disk) c.args.script.now
    (c.upgrade_store.result.1 ≡ c.args.disk)
    c.upgrade_store.result.0 (λ is. is) c.upgrade_store.ensures.why)

pub returns-in-Demo-clause-why : goal.returns-in-Demo-clause-why
returns-in-Demo-clause-why g c =
    rw c.in-Demo.is (other_undone Task.Demo c.args.script.now (c.args.disk ≡ c.args.disk)
    c.demo.result (λ is. is) c.demo.ensures.why)
