-- Bytes stand for one row at most, and the block at the next gate is the row's next.
use Rattle.std.proofs.Common.{◌≡◌, ◌≢◌, ℕ, List, [], ◌∷◌, ◌++◌, length, take, drop, get_or, refl}
use Rattle.std.proofs.Common.{sym, ◌∙◌, ap, arith, append_assoc}
use Rattle.std.proofs.lemmas.List.{take_at, drop_at}
use Rattle.std.proofs.lemmas.Nat.{from_be_bytes-to_be_bytes_4}
use Rattle.std.specs.Int.{w32, to_be_bytes, from_be_bytes}
use Rattle.std.specs.List.{AllByRecursion}
use Rattle.gate_block.specs.Row.{block, row, IsBody, IsRow}

-- a row that begins with a block has it from any of its spellings
pub first_block : (b c x y : List ℕ) → IsBody b → IsBody c → block b ++ x ≡ block c ++ y →
    (b ≡ c) × (x ≡ y)
first_block b c x y fits_b fits_c e =
    let bytes_b = to_be_bytes w32 (length b) in
    let bytes_c = to_be_bytes w32 (length c) in
    let tail : bytes_b ++ (b ++ x) ≡ bytes_c ++ (c ++ y) =
    sym (append_assoc bytes_b b x) ∙ ap (λ (l : List ℕ). drop 1 l) e ∙
    append_assoc bytes_c c y in
    let counts : bytes_b ≡ bytes_c = ap (λ (l : List ℕ). take 4 l) tail in
    let long : length b ≡ length c =
    sym (from_be_bytes-to_be_bytes_4 (length b) (omega (arith, fits_b.short))) ∙
    ap (λ (l : List ℕ). from_be_bytes w32 l) counts ∙
    from_be_bytes-to_be_bytes_4 (length c) (omega (arith, fits_c.short)) in
    let rest : b ++ x ≡ c ++ y = ap (λ (l : List ℕ). drop 4 l) tail in (
      sym (take_at b x (length c) long) ∙ ap (λ (l : List ℕ). take (length c) l) rest ∙
          take_at c y (length c) refl,
      sym (drop_at b x (length c) long) ∙ ap (λ (l : List ℕ). drop (length c) l) rest ∙
          drop_at c y (length c) refl,
    )

pub one_row : (bs cs : List (List ℕ)) (g h : ℕ) (x y : List ℕ) → AllByRecursion IsBody bs →
    AllByRecursion IsBody cs → g ≢ 167 → h ≢ 167 → row bs ++ g ∷ x ≡ row cs ++ h ∷ y → bs ≡ cs
one_row [] [] g h x y all_b all_c shut_g shut_h e = refl
one_row [] (c ∷ cs) g h x y all_b all_c shut_g shut_h e =
    absurd (shut_g (ap (λ (l : List ℕ). get_or l 0 0) e))
one_row (b ∷ bs) [] g h x y all_b all_c shut_g shut_h e =
    absurd (shut_h (sym (ap (λ (l : List ℕ). get_or l 0 0) e)))
one_row (b ∷ bs) (c ∷ cs) g h x y all_b all_c shut_g shut_h e =
    let both = first_block b c (row bs ++ g ∷ x) (row cs ++ h ∷ y) all_b.0 all_c.0
    (sym (append_assoc (block b) (row bs) (g ∷ x)) ∙ e ∙
    append_assoc (block c) (row cs) (h ∷ y)) in
    λ i. both.0 i ∷ one_row bs cs g h x y all_b.1 all_c.1 shut_g shut_h both.1 i

-- bytes stand for one row at most
pub row_unique : (bs cs : List (List ℕ)) (bytes : List ℕ) → IsRow bs bytes → IsRow cs bytes →
    bs ≡ cs
row_unique bs cs bytes is_b is_c =
    one_row bs cs is_b.gate is_c.gate is_b.rest is_c.rest is_b.all_fit is_c.all_fit is_b.closed
    is_c.closed (sym is_b.is ∙ is_c.is)
