-- What the calls of a list of collections mean, and the making of a collection there.
use Rattle.std.specs.Prelude.{ℕ, List, []}
use Rattle.calls.specs.Contents.{Collection, AnswersAt, after_at}
use Rattle.calls.specs.Transactions.{Makes}
use Rattle.boosted.specs.Meaning.{Meaning}
use Rattle.catalog.specs.Making.{Making, names_of}
use Rattle.catalog.specs.Places.{Belongs, Misplaced, IsWithin}

abbrev pub catalog_meaning : Meaning (List Collection) ℕ
catalog_meaning = record {
  answers = λ s at c r. AnswersAt s at c r;
  leaves = λ s at c r. after_at s at c r;
  belongs = λ s at c. Belongs s at c;
  misplaced = λ s at c r. Misplaced s at c r;
  empty = [];
  within = λ s n. IsWithin s n;
}

abbrev pub catalog_making : Making (List Collection)
catalog_making = record { names = λ s. names_of s; makes = λ s name kind t. Makes s name kind t }
