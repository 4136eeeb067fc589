use Rattle.std.proofs.Common.{◌≡◌, ℕ, ◌<◌, get_or}
use Rattle.calls.specs.declared.kind.Kind.{Kind}
use Rattle.calls.specs.Contents.{kind_text}
use Rattle.calls.proofs.KindNames.{kinds}
use Rattle.calls.proofs.kind.Kind.named.Given as goal

abbrev pub invariant-loop-kind : goal.invariant-loop-kind
invariant-loop-kind l = record {
  table : l.kind-items ≡ kinds;
  others : (k : ℕ) → k < l.kind-index → kind_text (get_or kinds k Kind.Set) ≡ l.text → ⊥;
}
