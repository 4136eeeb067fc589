-- What is found in the lines of a script.
use Rattle.std.specs.Prelude.{◌≡◌, ◌⊎◌, ℕ, ◌+◌, List, [], ◌∷◌, ◌++◌, map}
use Rattle.std.specs.Str.{IsUtf8}
use Rattle.script.specs.declared.action.Action.{Action}
use Rattle.script.specs.ScriptTexts.{IsLineOf, IsPassedOver}
use Rattle.script.specs.Scripts.{lines_of, IsNonsense}
use Rattle.script.specs.declared.reviewing.Finding.{Finding}

abbrev pub numbers_of : List Finding → List ℕ
numbers_of = map (λ u. u.number)

-- The line is no text, or neither passed over nor understood.
abbrev pub IsUnclear : List ℕ → Type 0
IsUnclear line = (IsUtf8 line → ⊥) ⊎ IsNonsense line

-- One line more, of the number n: it is listed where it is not understood, and counted where it asks
-- for something.
abbrev pub ReviewsLine : ℕ → List ℕ → (count : ℕ) (numbers : List ℕ) (count' : ℕ)
    (numbers' : List ℕ) → Type 0
ReviewsLine n line count numbers count' numbers' =
    (IsUnclear line × (count' ≡ count) × (numbers' ≡ numbers ++ n ∷ [])) ⊎
    ((IsPassedOver line × (count' ≡ count) × (numbers' ≡ numbers)) ⊎
    ((a : Action) × IsLineOf a line × (count' ≡ count + 1) × (numbers' ≡ numbers)))

-- Lines, the first of them with the number n: from what was found before them to what was found with
-- them.
abbrev pub Reviews : ℕ → List (List ℕ) → (count : ℕ) (numbers : List ℕ) (count' : ℕ)
    (numbers' : List ℕ) → Type 0
Reviews n [] count numbers count' numbers' = (count' ≡ count) × (numbers' ≡ numbers)
Reviews n (line ∷ lines) count numbers count' numbers' = (c : ℕ) × (ns : List ℕ) ×
    ReviewsLine n line count numbers c ns × Reviews (n + 1) lines c ns count' numbers'

-- So many lines of the script ask for something, and those of the numbers are not understood.
abbrev pub IsReviewOf : (count : ℕ) → (numbers : List ℕ) → (script : List ℕ) → Type 0
IsReviewOf count numbers script = Reviews 1 (lines_of script) 0 [] count numbers
