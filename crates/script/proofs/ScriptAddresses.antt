-- Whose a line is, is told by its first word.
use Rattle.std.proofs.Common.{◌≡◌, ◌≢◌, ℕ, List, ◌∷◌, ◌++◌, All, sym, ◌∙◌, arith, codes}
use Rattle.std.specs.Fmt.{decimal}
use Rattle.std.proofs.lemmas.List.{append_cancel_left}
use Rattle.script.specs.ScriptTexts.{IsClient}
use Rattle.script.specs.Addresses.{IsOfClient}
use Rattle.script.proofs.ScriptWords.{not_whole, decimal_whole, same_split}

-- what a line of a client is behind its letter
behind_letter : (line text rest : List ℕ) (n : ℕ) → line ≡ codes "c" ++ text →
    IsOfClient n rest line → decimal n ++ 32 ∷ rest ≡ text
behind_letter line text rest n e is =
    append_cancel_left (codes "c") (decimal n ++ 32 ∷ rest) text (sym is.is ∙ e)

pub no_client_behind : (line text : List ℕ) (n : ℕ) (rest : List ℕ) → line ≡ codes "c" ++ text →
    All (λ b. b ≢ 32) text → IsOfClient n rest line → ⊥
no_client_behind line text n rest e whole is =
    not_whole 32 text (decimal n) rest (sym (behind_letter line text rest n e is)) whole

pub client_is_first : (line text front back : List ℕ) (n : ℕ) (rest : List ℕ) →
    line ≡ codes "c" ++ text → text ≡ front ++ 32 ∷ back → All (λ b. b ≢ 32) front →
    ((m : ℕ) → IsClient m → front ≡ decimal m → ⊥) → IsOfClient n rest line → ⊥
client_is_first line text front back n rest e split first none is =
    let last = is.client.last in
    let parts = same_split 32 (decimal n) rest front back (behind_letter line text rest n e is ∙ split)
    (decimal_whole n (omega arith)) first in
    none n is.client (sym parts.0)
