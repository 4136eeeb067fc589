use Rattle.std.proofs.Common.{ℕ, ◌≤◌, ◌<◌, List, length, get_or, rules, arith}
use Rattle.std.proofs.lemmas.List.Elements.{All-from_get_or}
use Rattle.calls.specs.Formats.{max_value, widest}
use Rattle.records.specs.Records.{IsValue}
use Rattle.records.proofs.fitting.are_few.Goals as goal

short_value : (v : List ℕ) → length v ≤ max_value widest → ((i : ℕ) → get_or v i 0 < 256) →
    IsValue v
short_value v l h = record { short = l; bytes = All-from_get_or (λ b. b < 256) v 0 (λ i lt. h i) }

pub returns-clause-fits : goal.returns-clause-fits
returns-clause-fits c = (
  λ t. let l : length c.args.bytes.now ≤ max_value widest = search rules in
      short_value c.args.bytes.now l (λ i. omega (arith, c.type_inv.bytes i)),
  λ v. let l = v.short in search rules,
)
