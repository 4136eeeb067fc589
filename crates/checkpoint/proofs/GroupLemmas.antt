-- Blocks that carry groups of records, and LSNs between them.
use Rattle.std.proofs.Common.{◌≡◌, ◌≢◌, inl, inr, ℕ, ◌+◌, ◌-◌, ◌≤◌, List, []}
use Rattle.std.proofs.Common.{◌∷◌, ◌++◌, length, map, take, drop, Vec, Contains, refl, sym}
use Rattle.std.proofs.Common.{◌∙◌}
use Rattle.std.proofs.Common.{ap, subst, arith, append_assoc, length-append}
use Rattle.std.specs.Int.{w32, to_be_bytes}
use Rattle.std.specs.declared.alloc.Global.{Global}
use Rattle.std.proofs.lemmas.List.{take_at}
use Rattle.std.proofs.lemmas.List.Elements.{All-contains, All-weaker}
use Rattle.gate_block.specs.Row.{IsBlockOf}
use Rattle.records.specs.declared.record.Record.{Record}
use Rattle.records.specs.Records.{spelling}
use Rattle.records.specs.Acts.{places}
use Rattle.records.specs.declared.block.Block.{Block}
use Rattle.records.specs.Packings.{AreWhole}
use Rattle.records.specs.Wholes.{body_of}
use Rattle.replay.specs.Journals.{records_in}
use Rattle.checkpoint.specs.Imaging.{bodies_of}
use Rattle.records.specs.Carried.{Carries}
use Rattle.checkpoint.specs.Keeping.{IsApart, Uncrossed}
use Rattle.checkpoint.proofs.StandLemmas.{same_beginning}

-- the same blocks carry the same groups, where both begin one list
pub same_groups : (end place : ℕ) (bs : List Block) (gs hs : List (List Record))
    (us vs : List Record) → Carries end place bs gs → Carries end place bs hs →
    records_in gs ++ us ≡ records_in hs ++ vs → (gs ≡ hs) × (us ≡ vs)
same_groups end place [] [] [] us vs a b e = (refl, e)
same_groups end place [] [] (h ∷ hs) us vs a b e = absurd b
same_groups end place [] (g ∷ gs) hs us vs a b e = absurd a
same_groups end place (c ∷ bs) [] hs us vs a b e = absurd a
same_groups end place (c ∷ bs) (g ∷ gs) [] us vs a b e = absurd b
same_groups end place (c ∷ bs) (g ∷ gs) (h ∷ hs) us vs a b e =
    let apart : g ++ (records_in gs ++ us) ≡ h ++ (records_in hs ++ vs) =
    sym (append_assoc g (records_in gs) us) ∙ e ∙ append_assoc h (records_in hs) vs in
    let first = same_beginning g h (records_in gs ++ us) (records_in hs ++ vs) apart
    (omega (arith, a.0.end_is, b.0.end_is)) in
    let there : Carries (end + length g) (place + places g) bs hs =
    subst (λ l. Carries (end + length l) (place + places l) bs hs) (sym first.0) b.1 in
    let rest = same_groups (end + length g) (place + places g) bs gs hs us vs a.1 there first.1 in
    ((λ i. first.0 i ∷ rest.0 i), rest.1)

-- ---- LSNs between blocks

pub apart_append : (front : ℕ) (gs hs : List (List Record)) (lsn : ℕ) →
    IsApart front gs lsn → IsApart (front + length (records_in gs)) hs lsn →
    IsApart front (gs ++ hs) lsn
apart_append front [] hs lsn first more =
    subst (λ n. IsApart n hs lsn) (omega arith) more
apart_append front (g ∷ gs) hs lsn first more =
    let size = length-append g (records_in gs) in (
      first.0,
      apart_append (front + length g) gs hs lsn first.1
          (subst (λ n. IsApart n hs lsn) (omega (arith, size)) more),
    )

-- of more blocks, those behind are apart too
pub apart_back : (front : ℕ) (gs hs : List (List Record)) (lsn : ℕ) →
    IsApart front (gs ++ hs) lsn → IsApart (front + length (records_in gs)) hs lsn
apart_back front [] hs lsn all = subst (λ n. IsApart n hs lsn) (omega arith) all
apart_back front (g ∷ gs) hs lsn all =
    let size = length-append g (records_in gs) in
    subst (λ n. IsApart n hs lsn) (omega (arith, size))
    (apart_back (front + length g) gs hs lsn all.1)

-- and those before
pub apart_front : (front : ℕ) (gs hs : List (List Record)) (lsn : ℕ) →
    IsApart front (gs ++ hs) lsn → IsApart front gs lsn
apart_front front [] hs lsn all = tt
apart_front front (g ∷ gs) hs lsn all =
    (all.0, apart_front (front + length g) gs hs lsn all.1)

pub uncrossed_front : (freezes : List ℕ) (gs hs : List (List Record)) →
    Uncrossed freezes (gs ++ hs) → Uncrossed freezes gs
uncrossed_front freezes gs hs all =
    All-weaker (λ p. IsApart 0 (gs ++ hs) p) (λ p. IsApart 0 gs p)
    (λ p apart. apart_front 0 gs hs p apart) freezes all

-- a LSN that no block reaches, and one behind them
pub apart_before : (front : ℕ) (gs : List (List Record)) (lsn : ℕ) → lsn ≤ front →
    IsApart front gs lsn
apart_before front [] lsn le = tt
apart_before front (g ∷ gs) lsn le =
    (inl le, apart_before (front + length g) gs lsn (omega (arith, le)))

pub apart_behind : (front : ℕ) (gs : List (List Record)) (lsn : ℕ) →
    front + length (records_in gs) ≤ lsn → IsApart front gs lsn
apart_behind front [] lsn le = tt
apart_behind front (g ∷ gs) lsn le =
    let size = length-append g (records_in gs) in (
      inr (omega (arith, le, size)),
      apart_behind (front + length g) gs lsn (omega (arith, le, size)),
    )

-- a LSN at which the book was frozen
pub apart_frozen : (freezes : List ℕ) (groups : List (List Record)) (lsn : ℕ) →
    Uncrossed freezes groups → Contains freezes lsn → IsApart 0 groups lsn
apart_frozen freezes groups lsn all one =
    All-contains (λ p. IsApart 0 groups p) freezes lsn all one

-- ---- bodies of whole blocks

body_is : (body bytes : List ℕ) → IsBlockOf body bytes → body_of bytes ≡ body
body_is body bytes block =
    let front : List ℕ = (167 ∷ to_be_bytes w32 (length body)) ++ body in
    let size : length bytes ≡ length front + 1 =
    ap length block.is ∙ length-append front (0 ∷ []) in
    let is : take (length bytes - 1) bytes ≡ front =
    ap (λ l. take (length bytes - 1) l) block.is ∙
    take_at front (0 ∷ []) (length bytes - 1) (omega (arith, size)) in
    ap (drop 5) is

pub whole_bodies : (bs : List (Vec ℕ Global)) (gs : List (List Record)) → AreWhole bs gs →
    bodies_of bs ≡ map spelling gs
whole_bodies [] [] whole = refl
whole_bodies [] (g ∷ gs) whole = absurd whole
whole_bodies (b ∷ bs) [] whole = absurd whole
whole_bodies (b ∷ bs) (g ∷ gs) whole =
    λ i. body_is (spelling g) b.items whole.0 i ∷ whole_bodies bs gs whole.1 i

-- an image of some blocks has some groups
pub some_groups : (bs : List (Vec ℕ Global)) (gs : List (List Record)) → AreWhole bs gs → bs ≢ [] →
    gs ≢ []
some_groups [] gs whole some none = some refl
some_groups (b ∷ bs) [] whole some none = absurd whole
some_groups (b ∷ bs) (g ∷ gs) whole some none = absurd (omega (arith, ap length none))
