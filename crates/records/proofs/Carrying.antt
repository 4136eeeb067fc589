-- Blocks and the records that they carry: put together, and taken apart.
use Rattle.std.proofs.Common.{◌≡◌, ℕ, ◌+◌, ◌≤◌, List, [], ◌∷◌, ◌++◌, length, refl, ◌∙◌, ap, subst}
use Rattle.std.proofs.Common.{arith, length-append}
use Rattle.std.proofs.lemmas.List.{append-nil}
use Rattle.std.proofs.lemmas.Grind.{flat_map-append}
use Rattle.records.specs.declared.record.Record.{Record}
use Rattle.records.specs.Acts.{places}
use Rattle.records.specs.declared.block.Block.{Block}
use Rattle.records.specs.Carried.{IsCarried, Carries}
use Rattle.records.specs.Packings.{joined}
use Rattle.records.proofs.Places.{places_append}

pub joined-append : (gs hs : List (List Record)) →
    joined (gs ++ hs) ≡ joined gs ++ joined hs
joined-append gs hs = flat_map-append (λ x. x) gs hs

pub joined-push : (gs : List (List Record)) (rs : List Record) →
    joined (gs ++ rs ∷ []) ≡ joined gs ++ rs
joined-push gs rs = joined-append gs (rs ∷ []) ∙
    ap (λ l. joined gs ++ l) (append-nil rs)

-- ---- blocks and the records that they carry

-- a block carries a record
pub some_record : (end place : ℕ) (b : Block) (rs : List Record) → IsCarried end place b rs →
    1 ≤ length rs
some_record end place b [] is = absurd (omega (arith, is.block.fits.not_empty))
some_record end place b (r ∷ rs) is = omega arith

-- blocks behind others
pub carries_append : (end place : ℕ) (bs cs : List Block) (gs hs : List (List Record)) →
    Carries end place bs gs →
    Carries (end + length (joined gs)) (place + places (joined gs)) cs hs →
    Carries end place (bs ++ cs) (gs ++ hs)
carries_append end place [] cs [] hs first more =
    subst (λ n. Carries n place cs hs) (omega arith)
    (subst (λ n. Carries (end + 0) n cs hs) (omega arith) more)
carries_append end place [] cs (g ∷ gs) hs first more = absurd first
carries_append end place (b ∷ bs) cs [] hs first more = absurd first
carries_append end place (b ∷ bs) cs (g ∷ gs) hs first more =
    let size = length-append g (joined gs) in
    let count = places_append g (joined gs) in (
      first.0,
      carries_append (end + length g) (place + places g) bs cs gs hs first.1
          (subst (λ n. Carries n (place + places g + places (joined gs)) cs hs)
          (omega (arith, size))
          (subst (λ n. Carries (end + length (joined (g ∷ gs))) n cs hs)
          (omega (arith, count)) more)),
    )

-- one block and its records
pub carries_one : (end place : ℕ) (b : Block) (rs : List Record) → IsCarried end place b rs →
    Carries end place (b ∷ []) (rs ∷ [])
carries_one end place b rs is = (is, tt)

pub one_carried : (end place : ℕ) (b : Block) (gs : List (List Record)) →
    Carries end place (b ∷ []) gs →
    (rs : List Record) × (gs ≡ rs ∷ []) × IsCarried end place b rs
one_carried end place b [] is = absurd is
one_carried end place b (rs ∷ []) is = (rs, refl, is.0)
one_carried end place b (rs ∷ ss ∷ gs) is = absurd is.1

-- the groups of the first blocks, and those of the others
pub carries_parts : (end place : ℕ) (bs cs : List Block) (gs : List (List Record)) →
    Carries end place (bs ++ cs) gs →
    (first more : List (List Record)) × (gs ≡ first ++ more) × Carries end place bs first ×
    Carries (end + length (joined first)) (place + places (joined first)) cs more
carries_parts end place [] cs gs is = (
  [],
  gs,
  refl,
  tt,
  subst (λ n. Carries n (place + 0) cs gs) (omega arith)
      (subst (λ n. Carries end n cs gs) (omega arith) is),
)
carries_parts end place (b ∷ bs) cs [] is = absurd is
carries_parts end place (b ∷ bs) cs (g ∷ gs) is =
    let rest = carries_parts (end + length g) (place + places g) bs cs gs is.1 in
    let size = length-append g (joined rest.0) in
    let count = places_append g (joined rest.0) in (
      g ∷ rest.0,
      rest.1,
      ap (λ l. g ∷ l) rest.2,
      (is.0, rest.3),
      subst (λ n. Carries n (place + places (joined (g ∷ rest.0))) cs rest.1)
          (omega (arith, size))
          (subst (λ n. Carries (end + length g + length (joined rest.0)) n cs rest.1)
          (omega (arith, count)) rest.4),
    )
