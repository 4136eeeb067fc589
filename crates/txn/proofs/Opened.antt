-- Collections that were taken apart are a book with no live transaction.
use Rattle.std.proofs.Common.{◌≡◌, ℕ, ◌≤◌, length, refl}
use Rattle.calls.specs.declared.format.Format.{Format}
use Rattle.calls.specs.Contents.{Content, Collection}
use Rattle.calls.specs.Limits.{max_collections, max_wear, number_end}
use Rattle.boosted.specs.Meaning.{Meaning}
use Rattle.boosted.specs.Laws.{BoostedLaws}
use Rattle.catalog.specs.declared.four.Four.{Four}
use Rattle.catalog.specs.Fours.{Which, First, Second, Third, Fourth, pick}
use Rattle.catalog.specs.Making.{Making, MakingLaws}
use Rattle.catalog.specs.Shelving.{ShelfLaws}
use Rattle.catalog.specs.Woven.{Label}
use Rattle.std.proofs.Common.{List, []}
use Rattle.records.specs.Short.{AreShort}
use Rattle.records.specs.Told.{Tells}
use Rattle.steps.proofs.BookLaws.{BookLaws, book_laws}
use Rattle.steps.proofs.Joining.{opened_joins}
use Rattle.txn.specs.Parts.{at_rest}
use Rattle.txn.specs.Shelved.{opened_journal, IsBook}
use Rattle.txn.proofs.BookInvariant.{opened_kept}

unheld : {T : Type 0} (f : Four T) (w : Which) → (pick (at_rest f) w).holds ≡ []
unheld f First = refl
unheld f Second = refl
unheld f Third = refl
unheld f Fourth = refl

pub opened_book : {S T N : Type 0} {meaning : Meaning S ℕ} {making : Making S}
    {collections : S → List Collection} {shelf : Meaning T ℕ} {index : T → Which}
    {holds : T → ℕ → Content → Type 0} {labels : N → List Label} {whole : N → Four T → S}
    {fits : N → Four T → Type 0} → BoostedLaws meaning → MakingLaws meaning making →
    Tells meaning making collections →
    ShelfLaws labels whole fits meaning making collections shelf index holds →
    (format : Format) (names : N) (f : Four T) (next wear : ℕ) → fits names f →
    meaning.within (whole names f) wear → wear ≤ max_wear → (1 ≤ next) × (next ≤ number_end) →
    AreShort format (collections (whole names f)) →
    length (making.names (whole names f)) ≤ max_collections →
    IsBook meaning making collections whole fits (opened_journal format names next wear) (at_rest f)
opened_book {meaning} {making} {collections} {whole} calls makings told shelves format names f next
    wear fit
    reached worn above spells few =
    let laws : BookLaws meaning making (λ form s. AreShort form (collections s)) =
    book_laws calls makings told in
    record {
      joined = opened_joins shelves laws names (at_rest f) format wear fit (unheld f) reached worn
          spells few;
      kept = opened_kept meaning making (λ form s. AreShort form (collections s)) laws format
          (whole names f) next wear reached worn above few spells;
    }
