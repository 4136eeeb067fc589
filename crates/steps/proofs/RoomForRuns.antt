-- What so many runs can reach, more can: of contents that tell of named collections.
use Rattle.std.proofs.Common.{ℕ, ◌+◌, List}
use Rattle.calls.specs.Contents.{Collection}
use Rattle.boosted.specs.Meaning.{Meaning}
use Rattle.catalog.specs.Making.{Making}
use Rattle.catalog.specs.Laws.ByPlace.{rests}
use Rattle.records.specs.Told.{Tells}

pub wears_more : {S : Type 0} {meaning : Meaning S ℕ} {making : Making S}
    {collections : S → List Collection} →
    Tells meaning making collections → (s : S) (n : ℕ) → meaning.within s n →
    meaning.within s (n + 1)
wears_more {S} {meaning} {making} {collections} told s n reached =
    (told.within s (n + 1)).1 (rests (collections s) n ((told.within s n).0 reached))
