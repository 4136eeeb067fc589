-- The measures of collections, one after another.
use Rattle.std.proofs.Common.{ℕ, zero, suc, List, [], ◌∷◌, ◌++◌, take}
use Rattle.std.specs.List.{AllZip}
use Rattle.calls.specs.Contents.{Collection}
use Rattle.catalog.specs.declared.measured.Measured.{Measured}
use Rattle.catalog.specs.Holdings.{Measures}
use Rattle.catalog.specs.Places.{At}

-- Of a collection more there is a measure more.
pub one_more : (s : List Collection) (all : List Measured) (k : ℕ) (m : Measured) →
    AllZip Measures (take k s) all → At (λ x. Measures x m) s k →
    AllZip Measures (take (suc k) s) (all ++ m ∷ [])
one_more [] all k m are at = absurd at
one_more (x ∷ s) [] zero m are at = (at, tt)
one_more (x ∷ s) (y ∷ all) zero m are at = absurd are
one_more (x ∷ s) [] (suc k) m are at = absurd are
one_more (x ∷ s) (y ∷ all) (suc k) m are at = (are.0, one_more s all k m are.1 at)
