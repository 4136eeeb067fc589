-- Whose a line is, among those of many clients.
use Rattle.std.specs.Prelude.{◌≡◌, ℕ, List, ◌∷◌, ◌++◌, codes}
use Rattle.std.specs.Fmt.{decimal}
use Rattle.script.specs.ScriptTexts.{IsClient}

-- The line is the client's, and says the rest: `c`, the client's number, a space, and the rest.
pub record IsOfClient (n : ℕ) (rest line : List ℕ) : Type 0 where
  pub client : IsClient n
  pub is : line ≡ codes "c" ++ decimal n ++ 32 ∷ rest
