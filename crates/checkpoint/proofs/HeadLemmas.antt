-- The head of a disk: what stands before both areas.
use Rattle.std.proofs.Common.{◌≡◌, ℕ, ◌+◌, ◌*◌, ◌%◌, ◌≤◌, ◌<◌, List, length, take, drop, get_or}
use Rattle.std.proofs.Common.{sym, ◌∙◌, ap, arith}
use Rattle.std.proofs.lemmas.List.{take-take, drop-take, get_or-take}
use Rattle.calls.specs.declared.format.Format.{Format}
use Rattle.gate_block.specs.declared.area.Area.{Area}
use Rattle.gate_block.specs.Row.{SameOutside}
use Rattle.gate_block.specs.Area.{base_of, size_of}
use Rattle.replay.specs.Journals.{IsHeader}
use Rattle.checkpoint.specs.DiskHeads.{IsHeaded}

-- where the bytes before a place are the same, so are fewer of them, and each of them
pub same_front : (n base : ℕ) (c d : List ℕ) → n ≤ base → take base c ≡ take base d →
    take n c ≡ take n d
same_front n base c d le e = sym (take-take n base c le) ∙ ap (λ l. take n l) e ∙
    take-take n base d le

pub same_at : (base n : ℕ) (c d : List ℕ) → n < base → take base c ≡ take base d →
    get_or c n 0 ≡ get_or d n 0
same_at base n c d lt e = sym (get_or-take base c n 0 lt) ∙ ap (λ l. get_or l n 0) e ∙
    get_or-take base d n 0 lt

-- the header stays where the first bytes do
pub head_header : (version : Format) (size base : ℕ) (d c : List ℕ) → 17 ≤ base →
    take base c ≡ take base d →
    length c ≡ length d → IsHeader version size d → IsHeader version size c
head_header version size base d c far same long header = record {
  letters = same_front 8 base c d (omega (arith, far)) same ∙ header.letters;
  gate = same_at base 8 c d (omega (arith, far)) same ∙ header.gate;
  area = sym (drop-take 9 8 c) ∙ ap (λ l. drop 9 l) (same_front 17 base c d far same) ∙
      drop-take 9 8 d ∙ header.area;
  not_small = header.not_small;
  not_large = header.not_large;
  whole = long ∙ header.whole;
}

-- and with the root byte the head
part_headed : (base : ℕ) (f : Format) (area : Area) (d c : List ℕ) → 4096 ≤ base →
    take base c ≡ take base d →
    length c ≡ length d → IsHeaded f area d → IsHeaded f area c
part_headed base f area d c far same long headed = record {
  version = headed.version;
  allowed = headed.allowed;
  header = head_header headed.version (size_of area) base d c (omega (arith, far)) same long
      headed.header;
  picks = ap (λ r. 4096 + size_of area * (r % 2)) (same_at base 512 c d (omega (arith, far)) same) ∙
      headed.picks;
}

pub head_headed : (f : Format) (area : Area) (d c : List ℕ) → take 4096 c ≡ take 4096 d →
    length c ≡ length d →
    IsHeaded f area d → IsHeaded f area c
head_headed f area d c same long headed = part_headed 4096 f area d c (omega arith) same long headed

-- an area that a head picks lies behind it
pub lies_behind : (f : Format) (area : Area) (d : List ℕ) → IsHeaded f area d → 4096 ≤ base_of area
lies_behind f area d headed = omega (arith, headed.picks)

-- where nothing changed outside the area, the head is the same
pub outside_head : (area : Area) (d c : List ℕ) → 4096 ≤ base_of area →
    SameOutside (base_of area) (size_of area) d c → take 4096 c ≡ take 4096 d
outside_head area d c far same = same_front 4096 (base_of area) c d far same.before
