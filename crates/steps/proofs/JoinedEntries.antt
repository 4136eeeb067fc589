-- The entries of one number, and the calls, of two lists behind one another.
use Rattle.std.proofs.Common.{◌≡◌, ℕ, ◌==◌, List, [], ◌∷◌, ◌++◌, map, refl, ◌∙◌, ap}
use Rattle.std.proofs.lemmas.List.{map-append}
use Rattle.std.proofs.lemmas.List.Elements.{filter-append}
use Rattle.calls.specs.Transactions.{Entry, Asked, Deferred, own, calls_of}

pub own_append : (k : ℕ) (es fs : List (ℕ × Entry)) → own k (es ++ fs) ≡ own k es ++ own k fs
own_append k es fs = ap (map (λ e. e.1)) (filter-append (λ e. e.0 == k) es fs) ∙
    map-append (λ e. e.1) _ _

pub calls_append : (xs ys : List Entry) → calls_of (xs ++ ys) ≡ calls_of xs ++ calls_of ys
calls_append [] ys = refl
calls_append (Asked e ∷ xs) ys = ap (λ l. e ∷ l) (calls_append xs ys)
calls_append (Deferred at c ∷ xs) ys = calls_append xs ys
