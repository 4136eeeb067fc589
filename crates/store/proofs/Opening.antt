-- The book of a store that gets its name.
use Rattle.std.proofs.Common.{◌≡◌, ◌∙◌, ℕ, List, sym, ap}
use Rattle.calls.specs.Contents.{Collection}
use Rattle.calls.specs.declared.format.Format.{Format}
use Rattle.txn.specs.Books.{BookState, opened}
use Rattle.desks.specs.Told.{told_book}

-- A book that was just opened, in parts, is the one that the name tells.
pub named_book : {S : Type 0} (collections : S → List Collection) (b c : BookState S) → b ≡ c →
    (format : Format) (start : List Collection) (next wear : ℕ) →
    b ≡ opened b.state.format b.state.now b.next b.state.wear → b.state.format ≡ format →
    collections b.state.now ≡ start → b.next ≡ next → b.state.wear ≡ wear →
    told_book collections c ≡ opened format start next wear
named_book collections b c same format start next wear is format_is start_is next_is wear_is =
    ap (told_book collections) (sym same ∙ is) ∙
    ap (λ f. opened f (collections b.state.now) b.next b.state.wear) format_is ∙
    ap (λ s. opened format s b.next b.state.wear) start_is ∙
    ap (λ n. opened format start n b.state.wear) next_is ∙
    ap (λ w. opened format start next w) wear_is
