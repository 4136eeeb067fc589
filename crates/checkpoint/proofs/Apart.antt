-- A write in one area, seen from the other one and from the root byte.
use Rattle.std.proofs.Common.{◌≡◌, ◌⊎◌, inl, inr, ⊎_elim, ℕ, zero, suc, ◌+◌, ◌-◌, ◌*◌, ◌%◌, ◌<◌}
use Rattle.std.proofs.Common.{◌≤◌, List, take, drop, get_or, refl, sym, ◌∙◌, ap, subst, arith}
use Rattle.std.proofs.lemmas.List.{take-take, drop-take, drop-drop}
use Rattle.disk_model.specs.Disk.{Torn}
use Rattle.gate_block.specs.declared.area.Area.{Area}
use Rattle.gate_block.specs.Row.{part, IsRow, SameOutside}
use Rattle.gate_block.specs.Area.{base_of, size_of, bytes_of, IsReady, LeavesElsewhere}
use Rattle.checkpoint.specs.declared.laying.Laying.{Laying}
use Rattle.checkpoint.specs.Imaging.{IsOther, IsBeingLaid}
use Rattle.gate_block.specs.Layout.{base_in_use}
use Rattle.checkpoint.specs.Keepers.{IsOneOfTwo}

-- what stands outside of a part stays
beside : (base size other : ℕ) (d c : List ℕ) → (other + size ≤ base) ⊎ (base + size ≤ other) →
    SameOutside base size d c → part other size c ≡ part other size d
beside base size other d c (inl below) same =
    let m : ℕ = base - other in
    let there : (l : List ℕ) → part other size l ≡ take size (drop other (take base l)) = λ l.
    sym (take-take size m (drop other l) (omega (arith, below))) ∙
    ap (λ (x : List ℕ). take size x) (sym (drop-take other m l)) ∙
    ap (λ (n : ℕ). take size (drop other (take n l))) (omega (arith, below)) in
    there c ∙ ap (λ (l : List ℕ). take size (drop other l)) same.before ∙ sym (there d)
beside base size other d c (inr above) same =
    let t : ℕ = other - (base + size) in
    let there : (l : List ℕ) → part other size l ≡ take size (drop t (drop (base + size) l)) = λ l.
    ap (λ (n : ℕ). take size (drop n l)) (omega (arith, above)) ∙
    ap (λ (x : List ℕ). take size x) (sym (drop-drop t (base + size) l)) in
    there c ∙ ap (λ (l : List ℕ). take size (drop t l)) same.after ∙ sym (there d)

-- of the two areas one stands before the other
order : (area other : Area) (n : ℕ) → IsOneOfTwo area n → IsOther area other →
    (base_of other + size_of area ≤ base_of area) ⊎ (base_of area + size_of area ≤ base_of other)
order area other n one is = ⊎_elim (λ first. inr (omega (arith, first, is.base)))
    (λ second. inl (omega (arith, second, is.base))) one.base

-- what changes in one area alone leaves the other
pub apart : (area other : Area) (n : ℕ) (d c : List ℕ) → IsOneOfTwo area n → IsOther area other →
    SameOutside (base_of area) (size_of area) d c → bytes_of other c ≡ bytes_of other d
apart area other n d c one is same =
    subst (λ (k : ℕ). part (base_of other) k c ≡ part (base_of other) k d) (sym is.size)
    (beside (base_of area) (size_of area) (base_of other) d c (order area other n one is) same)

-- each of the two is the other one's other
pub back : (area other : Area) (n : ℕ) → IsOneOfTwo area n → IsOther area other →
    IsOneOfTwo other n × IsOther other area
back area other n one is = (
  record {
    whole = one.whole ∙ ap (λ (k : ℕ). 4096 + 2 * k) (sym is.size);
    base = ⊎_elim (λ first. inr (omega (arith, first, is.base, is.size)))
        (λ second. inl (omega (arith, second, is.base))) one.base;
  },
  record { size = sym is.size; base = omega (arith, is.base, is.size) },
)

-- an area ends inside the disk, and stands behind the root byte
pub inside : (area : Area) (n : ℕ) → IsOneOfTwo area n →
    (base_of area + size_of area ≤ n) × (513 ≤ base_of area)
inside area n one = ⊎_elim (λ first. (omega (arith, first, one.whole), omega (arith, first)))
    (λ second. (omega (arith, second, one.whole), omega (arith, second))) one.base

-- what was laid of an image stays while the area in use alone changes
pub still_laid : (area : Area) (n : ℕ) (w : Laying) (d c : List ℕ) (bodies : List (List ℕ)) →
    IsOneOfTwo area n → IsOther area w.area → SameOutside (base_of area) (size_of area) d c →
    IsBeingLaid w d bodies → IsBeingLaid w c bodies
still_laid area n w d c bodies one is same was = record {
  laid = was.laid;
  stands = record {
    offset = was.stands.offset;
    holds = λ some. subst (IsRow was.laid) (sym (apart area w.area n d c one is same))
        (was.stands.holds some);
  };
  all = was.all;
}

-- the root byte stands before both
pub behind_root : (area : Area) (d c : List ℕ) → 513 ≤ base_of area → Torn 512 1 d c →
    bytes_of area c ≡ bytes_of area d
behind_root area d c far torn =
    let t : ℕ = base_of area - 513 in
    let there : (l : List ℕ) → bytes_of area l ≡ take (size_of area) (drop t (drop (512 + 1) l)) =
    λ l.
    ap (λ (n : ℕ). take (size_of area) (drop n l)) (omega (arith, far)) ∙
    ap (λ (x : List ℕ). take (size_of area) x) (sym (drop-drop t (512 + 1) l)) in
    there c ∙ ap (λ (l : List ℕ). take (size_of area) (drop t l)) torn.after ∙ sym (there d)

two : (m : ℕ) → m < 2 → (m ≡ 0) ⊎ (m ≡ 1)
two zero l = inl refl
two (suc zero) l = inr refl
two (suc (suc m)) l = absurd (omega (arith, l))

-- any root byte picks one of the two
pub picks_one : (area other : Area) (n : ℕ) (c : List ℕ) → IsOneOfTwo area n → IsOther area other →
    (base_in_use (size_of area) c ≡ base_of area) ⊎ (base_in_use (size_of area) c ≡ base_of other)
picks_one area other n c one is =
    let size : ℕ = size_of area in
    let first : get_or c 512 0 % 2 ≡ 0 → base_in_use size c ≡ 4096 =
    λ e. ap (λ (b : ℕ). 4096 + size * b) e ∙ omega arith in
    let second : get_or c 512 0 % 2 ≡ 1 → base_in_use size c ≡ 4096 + size =
    λ e. ap (λ (b : ℕ). 4096 + size * b) e ∙ omega arith in
    ⊎_elim
    (λ e. ⊎_elim (λ here. inl (first e ∙ sym here))
    (λ there. inr (omega (arith, first e, there, is.base))) one.base)
    (λ e. ⊎_elim (λ here. inr (omega (arith, second e, here, is.base)))
    (λ there. inl (second e ∙ sym there)) one.base)
    (two (get_or c 512 0 % 2) (omega arith))

-- the blocks of an area stay while the other one alone changes
pub still_ready : {D : Type 0} (seen : D → List ℕ) (may_leave : D → List ℕ → Type 0)
    (area other : Area) (n : ℕ) (old new : D) (bodies : List (List ℕ)) → IsOneOfTwo area n →
    IsOther area other → SameOutside (base_of other) (size_of other) (seen old) (seen new)
    → ((c : List ℕ) → may_leave new c → LeavesElsewhere (may_leave old) other c) →
    IsReady seen may_leave area old bodies → IsReady seen may_leave area new bodies
still_ready seen may_leave area other n old new bodies one is same left was =
    let b = back area other n one is in
    let stays : bytes_of area (seen new) ≡ bytes_of area (seen old) =
    apart other area n (seen old) (seen new) b.0 b.1 same in
    record {
      holds = subst (λ (l : List ℕ). IsRow bodies l) (sym stays) was.holds;
      offset = was.offset;
      at_rest = λ c now. let e = left c now in
          apart other area n e.0 c b.0 b.1 e.2 ∙ was.at_rest e.0 e.1 ∙ sym stays;
    }
