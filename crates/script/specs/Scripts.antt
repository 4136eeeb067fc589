-- Scripts: the lines of a text, and what they say one after another.
use Rattle.std.specs.Prelude.{◌≡◌, ℕ, ◌+◌, ◌==◌, ◌⊎◌, List, [], ◌∷◌, ◌++◌, if◌then◌else◌}
use Rattle.std.specs.Str.{IsUtf8}
use Rattle.script.specs.declared.action.Action.{Action}
use Rattle.script.specs.declared.line.Line.{Line}
use Rattle.script.specs.declared.line.ScriptError.{ScriptError}
use Rattle.script.specs.ScriptTexts.{IsLineOf, IsPassedOver}

-- the byte at the front of the first line
abbrev pub at_front : ℕ → List (List ℕ) → List (List ℕ)
at_front b [] = (b ∷ []) ∷ []
at_front b (line ∷ lines) = (b ∷ line) ∷ lines

-- The lines of a text, which line feeds part. Behind the last line feed stands one line more,
-- perhaps empty.
abbrev pub lines_of : List ℕ → List (List ℕ)
lines_of [] = [] ∷ []
lines_of (b ∷ text) = if b == 10 then [] ∷ lines_of text else at_front b (lines_of text)

-- A line says nothing and is passed over, or it says one thing.
abbrev pub LineSays : ℕ → List ℕ → List Line → Type 0
LineSays n line said = (IsPassedOver line × (said ≡ [])) ⊎
    ((a : Action) × IsLineOf a line × (said ≡ record { number = n; what = a } ∷ []))

-- what stands behind what was said before is what the line says
abbrev pub SaysMore : ℕ → List ℕ → List Line → List Line → Type 0
SaysMore n line before after = (said : List Line) × (after ≡ before ++ said) × LineSays n line said

-- what the lines say, the first of them with the number n
abbrev pub Says : ℕ → List (List ℕ) → List Line → Type 0
Says n [] said = said ≡ []
Says n (line ∷ lines) said = (first others : List Line) × (said ≡ first ++ others) ×
    LineSays n line first × Says (n + 1) lines others

-- A line that is neither passed over nor says anything.
pub record IsNonsense (line : List ℕ) : Type 0 where
  pub read : IsPassedOver line → ⊥
  pub nothing : (a : Action) → IsLineOf a line → ⊥

-- The first line that is not understood has the number k.
abbrev pub Stops : ℕ → List (List ℕ) → ℕ → Type 0
Stops n [] k = ⊥
Stops n (line ∷ lines) k = ((k ≡ n) × IsNonsense line) ⊎
    ((said : List Line) × LineSays n line said × Stops (n + 1) lines k)

-- why a line was refused, and why lines were
abbrev pub IsWhyLine : ℕ → List ℕ → ScriptError → Type 0
IsWhyLine n line ScriptError.NoMemory = Unit {0}
IsWhyLine n line (ScriptError.NotUnderstood k) = (k ≡ n) × IsNonsense line

abbrev pub IsWhyLines : List (List ℕ) → ScriptError → Type 0
IsWhyLines lines ScriptError.NoMemory = Unit {0}
IsWhyLines lines (ScriptError.NotUnderstood k) = Stops 1 lines k

-- what a script says
pub record IsScriptOf (said : List Line) (script : List ℕ) : Type 0 where
  pub text : IsUtf8 script
  pub lines : Says 1 (lines_of script) said

-- Why a script was refused: bytes that are no text count as a first line that is not understood.
abbrev pub IsWhy : List ℕ → ScriptError → Type 0
IsWhy script ScriptError.NoMemory = Unit {0}
IsWhy script (ScriptError.NotUnderstood k) =
    ((IsUtf8 script → ⊥) × (k ≡ 1)) ⊎ (IsUtf8 script × Stops 1 (lines_of script) k)
