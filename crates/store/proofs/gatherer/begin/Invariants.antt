use Rattle.images.specs.Gathers.{nothing_gathered}
use Rattle.store.proofs.gatherer.begin.Given as goal

-- nothing is frozen then
abbrev pub ghosts-agree : goal.ghosts-agree
ghosts-agree g a = record { gather = nothing_gathered }
