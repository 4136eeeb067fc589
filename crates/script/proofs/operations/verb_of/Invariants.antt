use Rattle.std.proofs.Common.{◌≡◌, ℕ, ◌<◌, get_or}
use Rattle.script.specs.declared.operations.Verb.{Verb}
use Rattle.script.specs.ScriptTexts.{verb_text}
use Rattle.script.proofs.ScriptOperations.{verbs}
use Rattle.script.proofs.operations.verb_of.Given as goal

abbrev pub invariant-loop-verb : goal.invariant-loop-verb
invariant-loop-verb l = record {
  table : l.verb-items ≡ verbs;
  others : (k : ℕ) → k < l.verb-index → l.text ≡ verb_text (get_or verbs k Verb.Add) → ⊥;
}
