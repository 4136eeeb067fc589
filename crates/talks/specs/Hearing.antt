-- What is heard of what a client is told.
use Rattle.std.specs.Prelude.{◌≡◌, ◌⊎◌, List, [], ◌∷◌, ◌++◌, ⊤, Option, None, Some, IsSomeAnd}
use Rattle.talks.specs.declared.told.Told.{Told}
use Rattle.talks.specs.declared.why.Why.{Why}

-- what was given to hear, where it is known, goes on with these and no more
abbrev pub Hears : {S : Type 0} → Option (List (Told S)) → Option (List (Told S)) →
    List (Told S) → Type 0
Hears None new more = ⊤
Hears (Some xs) None more = ⊥
Hears (Some xs) (Some ys) more = ys ≡ xs ++ more

-- what is told, if something is
abbrev pub tolds_of : {S : Type 0} → Option (Told S) → List (Told S)
tolds_of None = []
tolds_of (Some told) = told ∷ []

-- The talk is broken off, in the middle of an exchange perhaps.
abbrev pub IsBreak : Why → Type 0
IsBreak Why.Broken = ⊤
IsBreak Why.NoMemory = ⊤
IsBreak why = ⊥

-- What is told is given to hear, and the talk goes on or ends as it was to; or it is broken off.
abbrev pub IsHeard : {S : Type 0} → Option (List (Told S)) → Option (List (Told S)) →
    Option (Told S) → Option Why → Option Why → Type 0
IsHeard old new told next result =
    Hears old new (tolds_of told) × ((result ≡ next) ⊎ IsSomeAnd result IsBreak)
