-- How long a line may wait, in thousandths of a second.
use Rattle.std.specs.Prelude.{◌≡◌, ◌⊎◌, ℕ, ◌+◌, ◌*◌, ◌<◌, ◌≤◌, List, [], ◌∷◌, ◌++◌}
use Rattle.std.specs.Fmt.{decimal}

-- the byte is the digit of this number
abbrev pub IsDigit : ℕ → ℕ → Type 0
IsDigit d byte = (d < 10) × (byte ≡ 48 + d)

-- the bytes are three digits, of so many thousandths
abbrev pub AreThousandths : ℕ → ℕ → ℕ → ℕ → Type 0
AreThousandths m a b c = (x y z : ℕ) × IsDigit x a × IsDigit y b × IsDigit z c ×
    (m ≡ 100 * x + 10 * y + z)

-- the text is one to three places behind a point, of so many thousandths
abbrev pub ArePlaces : ℕ → List ℕ → Type 0
ArePlaces m (a ∷ []) = AreThousandths m a 48 48
ArePlaces m (a ∷ b ∷ []) = AreThousandths m a b 48
ArePlaces m (a ∷ b ∷ c ∷ []) = AreThousandths m a b c
ArePlaces m text = ⊥

-- the text is a whole number of seconds, of so many thousandths
abbrev pub AreWholeSeconds : ℕ → List ℕ → Type 0
AreWholeSeconds ms text = (whole : ℕ) × (text ≡ decimal whole) × (ms ≡ 1000 * whole)

-- the two texts are what stands before the point of a number of seconds and behind it
abbrev pub AreWithPlaces : ℕ → List ℕ → List ℕ → Type 0
AreWithPlaces ms front back = (whole more : ℕ) × (front ≡ decimal whole) × ArePlaces more back ×
    (ms ≡ 1000 * whole + more)

-- the text is so many thousandths of a second, as a number of seconds: a day at most
abbrev pub IsSeconds : ℕ → List ℕ → Type 0
IsSeconds ms text = (ms ≤ 86400000) × (AreWholeSeconds ms text
    ⊎ ((front back : List ℕ) × (text ≡ front ++ 46 ∷ back) × AreWithPlaces ms front back))
