-- What a reader of known bytes gives as a line.
use Rattle.std.specs.Prelude.{◌≡◌, ◌≢◌, ℕ, ◌≤◌, ◌<◌, List, [], ◌∷◌, ◌++◌, All, length, OnSome}
use Rattle.std.specs.Prelude.{Option, None, Some, take, ◌+◌, ⊤}
use Rattle.std.specs.declared.io.ErrorKind.{ErrorKind}
use Rattle.std.specs.Io.KnownBytes.{Consumes, IsAtEnd}
use Rattle.talks.specs.declared.lines.Found.{Found}
use Rattle.talks.specs.declared.lines.Piece.{Piece}

-- known bytes, of which none is left
abbrev pub HasEnded : Option (List ℕ) → Option (List ℕ) → Type 0
HasEnded old new = OnSome old (IsAtEnd new)

-- A line begins with these bytes, and this is kept of them: one more than a line may have.
abbrev pub Begins : ℕ → List ℕ → List ℕ → Type 0
Begins most begun kept = All (λ b. b ≢ 10) begun × (kept ≡ take (most + 1) begun)

-- What was found where these bytes were taken, and which line is given. A line has at most so many
-- bytes, and no line feed. Of one that is too long so many and one more are given. Behind a silence
-- it is a beginning of one.
abbrev pub Brings : ℕ → List ℕ → Found → List ℕ → Type 0
Brings most bs Found.Line line =
    (bs ≡ line ++ 10 ∷ []) × All (λ b. b ≢ 10) line × (length line ≤ most)
Brings most bs Found.TooLong line = (long : List ℕ) × (line ≡ take (most + 1) long) ×
    (bs ≡ long ++ 10 ∷ []) × All (λ b. b ≢ 10) long × (most < length long)
Brings most bs Found.Cut line = (line ≡ []) × All (λ b. b ≢ 10) bs × (0 < length bs)
Brings most bs Found.End line = (line ≡ []) × (bs ≡ [])
Brings most bs Found.Silence line = Begins most bs line

-- whether the input ended there
abbrev pub IsWhere : Found → Option (List ℕ) → Option (List ℕ) → Type 0
IsWhere Found.Line old new = Unit {0}
IsWhere Found.TooLong old new = Unit {0}
IsWhere Found.Cut old new = HasEnded old new
IsWhere Found.End old new = HasEnded old new
IsWhere Found.Silence old new = Unit {0}

-- From the bytes that a reader has left it takes those that bring this behind the bytes with which
-- the line began, and no more.
abbrev pub Finds : ℕ → List ℕ → Option (List ℕ) → Option (List ℕ) → Found → List ℕ → Type 0
Finds most begun old new found line =
    (bs : List ℕ) × Consumes old new bs × Brings most (begun ++ bs) found line ×
    IsWhere found old new

-- ---- pieces

-- the piece of so many bytes before a line feed, or before the end of the bytes at hand
abbrev pub IsPiece : ℕ → ℕ → Piece → Type 0
IsPiece front seen Piece.Part = (seen ≤ front) × (0 < seen)
IsPiece front seen Piece.Whole = front < seen
IsPiece front seen Piece.Last = seen ≡ 0
IsPiece front seen Piece.Silence = ⊥

-- the piece where a reader failed so, if it may be read on
abbrev pub piece_without : ErrorKind → Option Piece
piece_without ErrorKind.Interrupted = Some Piece.Part
piece_without ErrorKind.TimedOut = Some Piece.Silence
piece_without kind = None

-- a piece of no bytes, behind which more may come
abbrev pub IsEmpty : Piece → Type 0
IsEmpty Piece.Part = ⊤
IsEmpty Piece.Silence = ⊤
IsEmpty piece = ⊥

-- what is taken behind the bytes of a line
abbrev pub feed_of : Piece → List ℕ
feed_of Piece.Part = []
feed_of Piece.Whole = 10 ∷ []
feed_of Piece.Last = []
feed_of Piece.Silence = []

abbrev pub IsLast : Piece → List ℕ → Option (List ℕ) → Option (List ℕ) → Type 0
IsLast Piece.Part bs old new = Unit {0}
IsLast Piece.Whole bs old new = Unit {0}
IsLast Piece.Last bs old new = (bs ≡ []) × HasEnded old new
IsLast Piece.Silence bs old new = bs ≡ []

-- a piece with these bytes of a line was taken
abbrev pub Takes : Option (List ℕ) → Option (List ℕ) → List ℕ → Piece → Type 0
Takes old new bs piece = Consumes old new (bs ++ feed_of piece) × IsLast piece bs old new

-- What is found behind the last piece, where these bytes of a line were kept, and which line is
-- left.
abbrev pub Ends : ℕ → Piece → List ℕ → Found → List ℕ → Type 0
Ends most Piece.Part kept found line = ⊥
Ends most Piece.Whole kept Found.Line line = (line ≡ kept) × (length kept ≤ most)
Ends most Piece.Whole kept Found.TooLong line = (line ≡ kept) × (most < length kept)
Ends most Piece.Whole kept found line = ⊥
Ends most Piece.Last kept Found.End line = (line ≡ []) × (kept ≡ [])
Ends most Piece.Last kept Found.Cut line = (line ≡ []) × (0 < length kept)
Ends most Piece.Last kept found line = ⊥
Ends most Piece.Silence kept Found.Silence line = line ≡ kept
Ends most Piece.Silence kept found line = ⊥
