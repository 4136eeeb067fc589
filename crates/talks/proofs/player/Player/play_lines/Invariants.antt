use Rattle.std.proofs.Common.{◌≡◌, length, take}
use Rattle.talks.specs.Plays.{IsPlayed}
use Rattle.talks.specs.Requests.{CarriesOut}
use Rattle.talks.proofs.player.Player.play_lines.Given as goal

abbrev pub invariant-loop-number : goal.invariant-loop-number
invariant-loop-number g l =
    IsPlayed g.D.Disk l.fn.self.world l.self.world
    × (l.yielded ≡ take (length l.yielded) l.fn.lines.items)
    × CarriesOut g.D.Disk l.fn.self.clients l.fn.self.world l.yielded l.self.clients l.self.world
