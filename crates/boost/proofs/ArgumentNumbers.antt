-- A number of bytes that clap found, and what the program makes of its text.
use Rattle.std.proofs.Common.{◌≡◌, ℕ, Option, Some, None, subst, sym}
use Rattle.std.specs.Prelude.{IfSome, IsSomeAnd}
use Rattle.clap.specs.Words.{Text}
use Rattle.boost.specs.Sizes.{IsSizeOf}

pub size_of_found : (r : Option ℕ) (text : Text) (found : Option Text) →
    IfSome r (λ n. IsSizeOf n text) → found ≡ Some text →
    IfSome r (λ n. IsSomeAnd found (IsSizeOf n))
size_of_found (Some n) text found is e =
    subst (λ (o : Option Text). IsSomeAnd o (IsSizeOf n)) (sym e) is
size_of_found None text found is e = tt
