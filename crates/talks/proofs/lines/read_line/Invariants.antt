use Rattle.std.proofs.Common.{◌≡◌, ◌≢◌, ℕ, List, ◌++◌, All, take}
use Rattle.std.specs.Io.KnownBytes.{Consumes}
use Rattle.talks.proofs.lines.read_line.Given as goal

-- bytes of a line were taken behind those that it held, and kept as far as a line may be long
abbrev pub invariant-loop : goal.invariant-loop
invariant-loop g l = (done : List ℕ) × All (λ b. b ≢ 10) done
    × (l.line.items ≡ take 4096 (l.fn.line.items ++ done))
    × Consumes (g.B.Read.remaining l.initial.reader) (g.B.Read.remaining l.reader) done
