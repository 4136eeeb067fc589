-- The block that is handed over next, of which there is one only.
use Rattle.std.proofs.Common.{◌≡◌, ℕ, ◌+◌, ◌≤◌, ◌<◌, ◌⊎◌, inl, inr, Contains, List, [], ◌∷◌, ◌++◌}
use Rattle.std.proofs.Common.{length, refl, sym, ◌∙◌, ap, subst, arith, length-append}
use Rattle.std.proofs.Common.{drop, slice_index_or}
use Rattle.std.specs.Int.{w32, to_be_bytes}
use Rattle.records.specs.declared.record.Record.{Record}
use Rattle.records.specs.Records.{spelled, spelling}
use Rattle.gate_block.specs.Row.{IsBlockOf}
use Rattle.records.specs.declared.block.Block.{Block}
use Rattle.records.specs.declared.draft.NextBlock.{NextBlock}
use Rattle.records.specs.declared.pending.Filled.{Filled}
use Rattle.records.specs.Waits.{Waiting, waiting, freezes}
use Rattle.records.specs.Cuts.{HandsOver, IsNextBlock}
use Rattle.records.proofs.DraftLemmas.{flat_map-append}
use Rattle.records.proofs.PendingLemmas.{ComeNext}

-- The second beginning goes on behind the first one, with what stands there.
abbrev GoesOn : {A : Type 0} → (a b rest : List A) → Type 0
GoesOn {A} a b rest = (r : A) × (more behind : List A) × (b ≡ a ++ r ∷ more) × (rest ≡ r ∷ behind)

-- Two beginnings of one list are the same, or one goes on behind the other.
parted : {A : Type 0} (a b x y : List A) → a ++ x ≡ b ++ y →
    (a ≡ b) ⊎ (GoesOn a b x ⊎ GoesOn b a y)
parted [] [] x y is = inl refl
parted [] (r ∷ b) x y is = inr (inl (r, b, b ++ y, refl, is))
parted (r ∷ a) [] x y is = inr (inr (r, a, a ++ x, refl, sym is))
parted (q ∷ a) (r ∷ b) x y is =
    let first : q ≡ r = cc in
    let rest : a ++ x ≡ b ++ y = cc in
    elim (parted a b x y rest) [
      | inl same ↦ inl cc
      | inr further ↦ elim further [
        | inl on ↦ inr (inl (on.0, on.1, on.2, cc, on.4))
        | inr on ↦ inr (inr (on.0, on.1, on.2, cc, on.4))
      ]
    ]

-- What goes on is longer.
longer : (a : List Record) (r : Record) (more : List Record) →
    length (spelling a) + length (spelled r) ≤ length (spelling (a ++ r ∷ more))
longer a r more = omega (
  arith,
  ap length (flat_map-append spelled a (r ∷ more)),
  length-append (spelling a) (spelling (r ∷ more)),
  length-append (spelled r) (spelling more),
)

-- Where as many go as fit and as come before the next freeze, none goes further.
no_further : (freezes : List ℕ) (end : ℕ) (a b rest : List Record) →
    length (spelling b) ≤ 65535 →
    ((r : Record) (behind : List Record) → rest ≡ r ∷ behind →
    (65535 < length (spelling a) + length (spelled r)) ⊎ Contains freezes (end + length a)) →
    ((f : ℕ) → Contains freezes f → end + length b ≤ f) → GoesOn a b rest → ⊥
no_further freezes end a b rest short most apart on =
    elim (most on.0 on.2 on.4) [
      | inl long ↦ omega (
        arith,
        long,
        short,
        ap (λ rs. length (spelling rs)) on.3,
        longer a on.0 on.1,
      )
      | inr there ↦ omega (
        arith,
        apart (end + length a) there,
        ap length on.3,
        length-append a (on.0 ∷ on.1),
      )
    ]

-- How many bytes a block has.
block_long : (body bytes : List ℕ) → IsBlockOf body bytes → length bytes ≡ length body + 6
block_long body bytes block = omega (
  arith,
  ap length block.is,
  length-append (to_be_bytes w32 (length body) ++ body) (0 ∷ []),
  length-append (to_be_bytes w32 (length body)) body,
)

-- Whichever block is handed over next has these records.
handed_next : (w : Waiting) (first rest : List Record) → ComeNext w first rest → (place : ℕ)
    (block : Block) (behind : List Record) →
    HandsOver (waiting w) (freezes w) w.handed.end place block behind →
    (block.end ≡ w.handed.end + length first)
    × (length block.bytes.items ≡ length (spelling first) + 6)
handed_next w first rest next place block behind over =
    let most = subst (λ (e : ℕ). (r : Record) (more : List Record) → behind ≡ r ∷ more →
    (65535 < length (spelling over.first) + length (spelled r)) ⊎ Contains (freezes w) e)
    over.ends over.most in
    let apart : (f : ℕ) → Contains (freezes w) f → w.handed.end + length over.first ≤ f =
    λ f there. omega (arith, over.ends, over.apart f there) in
    let long = block_long (spelling over.first) block.bytes.items over.bytes in
    elim (parted first over.first rest behind (sym next.are ∙ over.are)) [
      | inl same ↦ (
        omega (arith, over.ends, ap length same),
        omega (arith, long, ap (λ rs. length (spelling rs)) same),
      )
      | inr further ↦ absurd (elim further [
        | inl on ↦ no_further (freezes w) w.handed.end first over.first rest
            over.bytes.fits.short next.most apart on
        | inr on ↦ no_further (freezes w) w.handed.end over.first first behind next.short most
            next.apart on
      ])
    ]

-- So that is the next block.
pub is_next : (w : Waiting) (first rest : List Record) (next : NextBlock) →
    ComeNext w first rest → next.records ≡ length first → next.body ≡ length (spelling first) →
    IsNextBlock (waiting w) (freezes w) w.handed.end next
is_next w first rest next come records body =
    subst (λ (n : NextBlock). IsNextBlock (waiting w) (freezes w) w.handed.end n) told
    (record {
      first = first;
      rest = rest;
      are = come.are;
      records = refl;
      some = come.some;
      body = refl;
      short = come.short;
      most = come.most;
      apart = come.apart;
      handed = handed_next w first rest come;
    })
  where
    told : record { records = length first; body = length (spelling first) } ≡ next
    told = λ i. record { records = sym records i; body = sym body i }

-- The first of a list.
pub front_first : (l : List Filled) (x : Filled) → 0 < length l → x ≡ slice_index_or l 0 x →
    l ≡ x ∷ drop 1 l
front_first [] x some is = absurd (omega (arith, some))
front_first (y ∷ l) x some is = ap (λ z. z ∷ l) (sym is)

-- What has no first is empty.
pub none_first : (l : List Filled) → (0 < length l → ⊥) → l ≡ []
none_first [] none = refl
none_first (x ∷ l) none = absurd (none (omega arith))
