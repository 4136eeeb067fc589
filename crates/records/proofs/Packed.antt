-- Records that are packed into blocks, and the whole blocks that they become.
use Rattle.std.proofs.Common.{◌≡◌, ℕ, ◌+◌, ◌≤◌, ◌<◌, List, [], ◌∷◌, ◌++◌, length, map, refl, sym}
use Rattle.std.proofs.Common.{◌∙◌, ap, subst, arith, append_assoc, length-append}
use Rattle.std.proofs.lemmas.List.{append-nil, map-append}
use Rattle.std.proofs.lemmas.List.Elements.{All-from_recursion}
use Rattle.std.specs.List.{AllByRecursion, All}
use Rattle.std.specs.declared.vec.Vec.{Vec}
use Rattle.std.specs.declared.alloc.Global.{Global}
use Rattle.gate_block.specs.Row.{IsBlockOf}
use Rattle.records.specs.declared.record.Record.{Record}
use Rattle.records.specs.Records.{spelled, spelling}
use Rattle.records.proofs.RecordLengths.{spelled-positive}
use Rattle.records.specs.Drafts.{Drafted, Fills, ArePacked}
use Rattle.records.specs.Packings.{AreWhole, joined}
use Rattle.records.specs.Wholes.{IsWhole}
use Rattle.records.proofs.DraftLemmas.{flat_map-append, block_whole}
use Rattle.records.proofs.PendingLemmas.{packed_more, packed_next}

-- There are no more records than bytes.
pub few_records : (rs : List Record) → length rs ≤ length (spelling rs)
few_records [] = omega arith
few_records (r ∷ rs) = omega (
  arith,
  spelled-positive r,
  few_records rs,
  length-append (spelled r) (spelling rs),
)

-- the records of each block
abbrev pub parts_of : List Drafted → List (List Record)
parts_of ds = map (λ d. d.records) ds

-- One record more in the last block,
pub joined_more : (gs : List (List Record)) (b : List Record) (r : Record) →
    joined (gs ++ (b ++ r ∷ []) ∷ []) ≡ joined (gs ++ b ∷ []) ++ r ∷ []
joined_more [] b r = append-nil (b ++ r ∷ []) ∙ ap (λ l. l ++ r ∷ []) (sym (append-nil b))
joined_more (g ∷ gs) b r = ap (λ l. g ++ l) (joined_more gs b r) ∙
    sym (append_assoc g (joined (gs ++ b ∷ [])) (r ∷ []))

-- or in a new one.
pub joined_next : (gs : List (List Record)) (r : Record) →
    joined (gs ++ (r ∷ []) ∷ []) ≡ joined gs ++ r ∷ []
joined_next gs r = flat_map-append (λ g. g) gs ((r ∷ []) ∷ [])

-- A record more in the last block, or in a new one, leaves them packed.
pub packs_more : (full : List Drafted) (b c d : List Record) (r : Record) →
    ArePacked (parts_of full ++ b ∷ []) → c ≡ b → d ≡ c ++ r ∷ [] →
    length (spelling b) + length (spelled r) ≤ 65535 → ArePacked (parts_of full ++ d ∷ [])
packs_more full b c d r packed same pushed fits =
    subst (λ l. ArePacked (parts_of full ++ l ∷ [])) (sym (pushed ∙ ap (λ l. l ++ r ∷ []) same))
    (packed_more (parts_of full) b r packed fits)

pub packs_next : (full all : List Drafted) (last : Drafted) (d : List Record) (r : Record) →
    ArePacked (parts_of full ++ last.records ∷ []) → all ≡ full ++ last ∷ [] → d ≡ r ∷ [] →
    length (spelled r) ≤ 65535 →
    (length (spelling last.records) + length (spelled r) ≤ 65535 → ⊥) →
    ArePacked (parts_of all ++ d ∷ [])
packs_next full all last d r packed closed one short not_fits =
    subst (λ l. ArePacked (parts_of all ++ l ∷ [])) (sym one)
    (subst (λ l. ArePacked (l ++ (r ∷ []) ∷ []))
    (sym (ap parts_of closed ∙ map-append (λ (d : Drafted). d.records) full (last ∷ [])))
    (packed_next (parts_of full) last.records r packed short not_fits))

-- The records are those before, and the new one.
pub writes_more : (full : List Drafted) (b c d : List Record) (r : Record) → c ≡ b →
    d ≡ c ++ r ∷ [] → joined (parts_of full ++ d ∷ []) ≡ joined (parts_of full ++ b ∷ []) ++ r ∷ []
writes_more full b c d r same pushed =
    ap (λ l. joined (parts_of full ++ l ∷ [])) (pushed ∙ ap (λ l. l ++ r ∷ []) same) ∙
    joined_more (parts_of full) b r

pub writes_next : (full all : List Drafted) (last : Drafted) (d : List Record) (r : Record) →
    all ≡ full ++ last ∷ [] → d ≡ r ∷ [] →
    joined (parts_of all ++ d ∷ []) ≡ joined (parts_of full ++ last.records ∷ []) ++ r ∷ []
writes_next full all last d r closed one =
    ap (λ l. joined (parts_of all ++ l ∷ [])) one ∙ joined_next (parts_of all) r ∙
    ap (λ l. joined l ++ r ∷ []) (ap parts_of closed ∙
    map-append (λ (d : Drafted). d.records) full (last ∷ []))

-- ---- whole blocks

-- A draft that becomes a whole block.
abbrev pub IsReady : Drafted → Type 0
IsReady d = (0 < length d.records) × (length (spelling d.records) ≤ 65535)

-- The first of the drafts are whole blocks, and the others are left, which may become some.
pub record AreMade (all : List Drafted) (blocks : List (Vec ℕ Global)) (left : List Drafted) : Type
    0 where
  pub made : List Drafted
  pub are : all ≡ made ++ left
  pub whole : AreWhole blocks (parts_of made)
  pub ready : AllByRecursion IsReady left

whole_push : (bs : List (Vec ℕ Global)) (gs : List (List Record)) (b : Vec ℕ Global)
    (g : List Record) → AreWhole bs gs → IsBlockOf (spelling g) b.items →
    AreWhole (bs ++ b ∷ []) (gs ++ g ∷ [])
whole_push [] [] b g are is = (is, tt)
whole_push [] (h ∷ gs) b g are is = absurd are
whole_push (a ∷ bs) [] b g are is = absurd are
whole_push (a ∷ bs) (h ∷ gs) b g are is = (are.0, whole_push bs gs b g are.1 is)

pub made_none : (all : List Drafted) → AllByRecursion IsReady all → AreMade all [] all
made_none all ready = record { made = []; are = refl; whole = tt; ready = ready }

pub made_one : (all left rest : List Drafted) (blocks blocks' : List (Vec ℕ Global)) (d : Drafted)
    (b : Vec ℕ Global) → AreMade all blocks left → left ≡ d ∷ rest → blocks' ≡ blocks ++ b ∷ [] →
    IsBlockOf (spelling d.records) b.items → AreMade all blocks' rest
made_one all left rest blocks blocks' d b are same pushed is = record {
  made = are.made ++ d ∷ [];
  are = are.are ∙ ap (λ l. are.made ++ l) same ∙ sym (append_assoc are.made (d ∷ []) rest);
  whole = subst (λ l. AreWhole blocks' l)
      (sym (map-append (λ (d : Drafted). d.records) are.made (d ∷ [])))
      (subst (λ l. AreWhole l (parts_of are.made ++ d.records ∷ [])) (sym pushed)
      (whole_push blocks (parts_of are.made) b d.records are.whole is));
  ready = (subst (AllByRecursion IsReady) same are.ready).1;
}

pub made_ready : (all left rest : List Drafted) (blocks : List (Vec ℕ Global)) (d : Drafted) →
    AreMade all blocks left → left ≡ d ∷ rest → IsReady d
made_ready all left rest blocks d are same = (subst (AllByRecursion IsReady) same are.ready).0

pub made_all : (all : List Drafted) (blocks : List (Vec ℕ Global)) (left : List Drafted) →
    AreMade all blocks left → left ≡ [] → AreWhole blocks (parts_of all)
made_all all blocks left are none =
    subst (λ l. AreWhole blocks (parts_of l))
    (sym (are.are ∙ ap (λ l. are.made ++ l) none ∙ append-nil are.made)) are.whole

-- Where there is a record, no block is empty.
none_empty : (gs : List (List Record)) (b : List Record) → ArePacked (gs ++ b ∷ []) →
    0 < length (joined (gs ++ b ∷ [])) → AllByRecursion (λ g. 0 < length g) (gs ++ b ∷ [])
none_empty [] b packed some = (omega (arith, some, ap length (append-nil b)), tt)
none_empty (g ∷ []) b packed some = (packed.0, (some_next b packed.2, tt))
  where
    some_next : (c : List Record) → Fills g c → 0 < length c
    some_next [] fills = absurd fills
    some_next (r ∷ c) fills = omega arith
none_empty (g ∷ h ∷ gs) b packed some =
    (packed.0, none_empty (h ∷ gs) b packed.3 (some_next h (joined (gs ++ b ∷ [])) packed.2))
  where
    some_next : (c more : List Record) → Fills g c → 0 < length (c ++ more)
    some_next [] more fills = absurd fills
    some_next (r ∷ c) more fills = omega arith

all_short : (gs : List (List Record)) → ArePacked gs →
    AllByRecursion (λ g. length (spelling g) ≤ 65535) gs
all_short [] packed = tt
all_short (g ∷ []) packed = (packed, tt)
all_short (g ∷ h ∷ gs) packed = (packed.1, all_short (h ∷ gs) packed.3)

are_ready : (ds : List Drafted) → AllByRecursion (λ g. 0 < length g) (parts_of ds) →
    AllByRecursion (λ g. length (spelling g) ≤ 65535) (parts_of ds) → AllByRecursion IsReady ds
are_ready [] some short = tt
are_ready (d ∷ ds) some short = ((some.0, short.0), are_ready ds some.1 short.1)

-- What is packed can become whole blocks.
module _ (full : List Drafted) (last : Drafted)
    (packed : ArePacked (parts_of full ++ last.records ∷ []))
    (any : 0 < length (joined (parts_of full ++ last.records ∷ []))) where
  pub packed_some : AllByRecursion (λ g. 0 < length g) (parts_of full ++ last.records ∷ [])
  packed_some = none_empty (parts_of full) last.records packed any

  pub parts_all : parts_of (full ++ last ∷ []) ≡ parts_of full ++ last.records ∷ []
  parts_all = map-append (λ (d : Drafted). d.records) full (last ∷ [])

  pub packed_ready : AllByRecursion IsReady (full ++ last ∷ [])
  packed_ready = are_ready (full ++ last ∷ [])
      (subst (AllByRecursion (λ g. 0 < length g)) (sym parts_all) packed_some)
      (subst (AllByRecursion (λ g. length (spelling g) ≤ 65535)) (sym parts_all)
      (all_short (parts_of full ++ last.records ∷ []) packed))

  -- The drafts are ready,
  pub begins_made : (all : List Drafted) (blocks : List (Vec ℕ Global)) → all ≡ full ++ last ∷ [] →
      blocks ≡ [] → AreMade all blocks all
  begins_made all blocks same none =
      subst (λ l. AreMade l blocks l) (sym same)
      (subst (λ l. AreMade (full ++ last ∷ []) l (full ++ last ∷ [])) (sym none)
      (made_none (full ++ last ∷ []) packed_ready))

  -- and become the whole blocks.
  pub ends_made : (all left : List Drafted) (blocks : List (Vec ℕ Global)) →
      all ≡ full ++ last ∷ [] → AreMade all blocks left → left ≡ [] →
      AreWhole blocks (parts_of full ++ last.records ∷ [])
  ends_made all left blocks same made none =
      subst (AreWhole blocks) (ap parts_of same ∙ parts_all) (made_all all blocks left made none)

-- Each block is a whole one.
pub each_whole : (bs : List (Vec ℕ Global)) (gs : List (List Record)) → AreWhole bs gs →
    AllByRecursion (λ b. IsWhole b.items) bs
each_whole [] [] are = tt
each_whole [] (g ∷ gs) are = absurd are
each_whole (b ∷ bs) [] are = absurd are
each_whole (b ∷ bs) (g ∷ gs) are = (block_whole (spelling g) b.items are.0, each_whole bs gs are.1)

pub all_whole : (bs : List (Vec ℕ Global)) (gs : List (List Record)) → AreWhole bs gs →
    All (λ b. IsWhole b.items) bs
all_whole bs gs are = All-from_recursion (λ (b : Vec ℕ Global). IsWhole b.items) bs
    (each_whole bs gs are)
