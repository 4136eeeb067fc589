-- The table of the kinds holds each of them.
use Rattle.std.proofs.Common.{◌≡◌, ℕ, ◌<◌, List, [], ◌∷◌, get_or, arith, sym}
use Rattle.calls.specs.declared.kind.Kind.{Kind}
use Rattle.calls.specs.Contents.{kind_text}

-- each kind, in the order of the program's table
abbrev pub kinds : List Kind
kinds = Kind.Set ∷ Kind.Map ∷ Kind.Queue ∷ Kind.Counter ∷ Kind.Pool ∷ Kind.Stock ∷
    Kind.Quotas ∷ []

-- a text that is none of the table's names is no kind's
pub no_kind : (text : List ℕ) →
    ((k : ℕ) → k < 7 → kind_text (get_or kinds k Kind.Set) ≡ text → ⊥) → (k : Kind) →
    text ≡ kind_text k → ⊥
no_kind text none Kind.Set = λ is. none 0 (omega arith) (sym is)
no_kind text none Kind.Map = λ is. none 1 (omega arith) (sym is)
no_kind text none Kind.Queue = λ is. none 2 (omega arith) (sym is)
no_kind text none Kind.Counter = λ is. none 3 (omega arith) (sym is)
no_kind text none Kind.Pool = λ is. none 4 (omega arith) (sym is)
no_kind text none Kind.Stock = λ is. none 5 (omega arith) (sym is)
no_kind text none Kind.Quotas = λ is. none 6 (omega arith) (sym is)
