-- Modes are told apart by where they stand.
use Rattle.std.proofs.Common.{◌≡◌, ◌≢◌, ◌⊎◌, inl, inr, ⊎_elim, refl, ap, arith}
use Rattle.std.proofs.lemmas.Bool.{cases_eq}
use Rattle.calls.specs.declared.need.Mode.{Mode}
use Rattle.calls.specs.Modes.{rank}

pub same_mode : (m n : Mode) → rank m ≡ rank n → m ≡ n
same_mode Mode.Read Mode.Read e = refl
same_mode Mode.Write Mode.Write e = refl
same_mode Mode.Add Mode.Add e = refl
same_mode Mode.Take Mode.Take e = refl
same_mode Mode.Give Mode.Give e = refl
same_mode m n e = absurd (omega (arith, e))

pub same_or_other : (m n : Mode) → (m ≡ n) ⊎ (m ≢ n)
same_or_other m n = ⊎_elim (λ same. inl (same_mode m n same))
    (λ other. inr (λ e. other (ap rank e))) (cases_eq (rank m) (rank n))
