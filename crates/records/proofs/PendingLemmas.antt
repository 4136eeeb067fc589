-- Records that wait for a block, in blocks that are each as full as they can be.
use Rattle.std.proofs.Common.{◌≡◌, ℕ, ◌+◌, ◌≤◌, ◌<◌, ◌⊎◌, inl, inr, ◌↔◌, Bool, true, false, IsTrue}
use Rattle.std.proofs.Common.{Contains, List, [], ◌∷◌, ◌++◌, length, refl, sym, ◌∙◌, ap}
use Rattle.std.proofs.Common.{subst, arith, append_assoc, length-append}
use Rattle.std.proofs.lemmas.List.{append-nil}
use Rattle.std.proofs.lemmas.List.Elements.{Contains-push, Contains-push_cases}
use Rattle.std.proofs.lemmas.List.Elements.{Contains-append_left, Contains-append_right}
use Rattle.std.proofs.lemmas.List.Elements.{Contains-append_cases}
use Rattle.std.specs.List.{flat_map}
use Rattle.records.specs.declared.record.Record.{Record}
use Rattle.records.specs.Acts.{places}
use Rattle.records.specs.Records.{spelled, spelling}
use Rattle.records.specs.declared.block.Block.{Block}
use Rattle.records.specs.declared.draft.Handed.{Handed}
use Rattle.records.specs.declared.pending.Filled.{Filled}
use Rattle.records.specs.Drafts.{Drafted, Fills, ArePacked}
use Rattle.records.specs.Offers.{IsOffered}
use Rattle.records.specs.Waits.{Waiting, waiting, sealed_end, sealed_ends, freezes, next_of}
use Rattle.records.specs.Waits.{AreFilled, IsCounted, Suits}
use Rattle.records.specs.Cuts.{HandsOver}
use Rattle.records.proofs.DraftLemmas.{flat_map-append, spelling-push}
use Rattle.records.proofs.Places.{places_append}

pub last_short : (bs : List (List Record)) (b : List Record) → ArePacked (bs ++ b ∷ []) →
    length (spelling b) ≤ 65535
last_short [] b packed = packed
last_short (x ∷ []) b packed = packed.3
last_short (x ∷ y ∷ bs) b packed = last_short (y ∷ bs) b packed.3

fills_more : (x b : List Record) (r : Record) → Fills x b → Fills x (b ++ r ∷ [])
fills_more x [] r fills = absurd fills
fills_more x (s ∷ b) r fills = fills

-- One record more in the last block,
pub packed_more : (bs : List (List Record)) (b : List Record) (r : Record) →
    ArePacked (bs ++ b ∷ []) → length (spelling b) + length (spelled r) ≤ 65535 →
    ArePacked (bs ++ (b ++ r ∷ []) ∷ [])
packed_more [] b r packed fits =
    omega (arith, fits, ap length (spelling-push b r), length-append (spelling b) (spelled r))
packed_more (x ∷ []) b r packed fits =
    (packed.0, packed.1, fills_more x b r packed.2, packed_more [] b r packed.3 fits)
packed_more (x ∷ y ∷ bs) b r packed fits =
    (packed.0, packed.1, packed.2, packed_more (y ∷ bs) b r packed.3 fits)

some_there : (b : List Record) (r : Record) → length (spelled r) ≤ 65535 →
    (length (spelling b) + length (spelled r) ≤ 65535 → ⊥) → 0 < length b
some_there [] r short full = absurd (full (omega (arith, short)))
some_there (x ∷ b) r short full = omega arith

-- or in a new one, where it does not fit there.
pub packed_next : (bs : List (List Record)) (b : List Record) (r : Record) →
    ArePacked (bs ++ b ∷ []) → length (spelled r) ≤ 65535 →
    (length (spelling b) + length (spelled r) ≤ 65535 → ⊥) →
    ArePacked ((bs ++ b ∷ []) ++ (r ∷ []) ∷ [])
packed_next [] b r packed short full = (
  some_there b r short full,
  packed,
  omega (arith, not_fits (length (spelling b) + length (spelled r)) full),
  omega (arith, short, ap length (append-nil (spelled r))),
)
  where
    not_fits : (n : ℕ) → (n ≤ 65535 → ⊥) → 65535 < n
    not_fits n none = omega (arith, none)
packed_next (x ∷ []) b r packed short full =
    (packed.0, packed.1, packed.2, packed_next [] b r packed.3 short full)
packed_next (x ∷ y ∷ bs) b r packed short full =
    (packed.0, packed.1, packed.2, packed_next (y ∷ bs) b r packed.3 short full)

-- ---- blocks that were filled or sealed, and the last one

-- the records of the blocks
abbrev in_full : List Filled → List Record
in_full bs = flat_map (λ b. b.draft.records) bs

pub last_fits : (bs : List Filled) (last : List Record) → AreFilled bs last →
    length (spelling last) ≤ 65535
last_fits [] last packed = packed
last_fits (b ∷ bs) last packed = last_fits bs last packed.3

next_more : (bs : List Filled) (b : List Record) (r : Record) (x : List Record) →
    Fills x (next_of bs b) → Fills x (next_of bs (b ++ r ∷ []))
next_more [] b r x fills = fills_more x b r fills
next_more (c ∷ bs) b r x fills = fills

filled_more : (bs : List Filled) (b : List Record) (r : Record) → AreFilled bs b →
    length (spelling b) + length (spelled r) ≤ 65535 → AreFilled bs (b ++ r ∷ [])
filled_more [] b r packed fits =
    omega (arith, fits, ap length (spelling-push b r), length-append (spelling b) (spelled r))
filled_more (x ∷ bs) b r packed fits = (
  packed.0,
  packed.1,
  elim packed.2
      [ inl fills ↦ inl (next_more bs b r x.draft.records fills) | inr sealed ↦ inr sealed ],
  filled_more bs b r packed.3 fits,
)

next_closed : (bs : List Filled) (f : Filled) (last : List Record) →
    next_of bs f.draft.records ≡ next_of (bs ++ f ∷ []) last
next_closed [] f last = refl
next_closed (b ∷ bs) f last = refl

filled_closed : (bs : List Filled) (f : Filled) (last : List Record) →
    AreFilled bs f.draft.records → 0 < length f.draft.records →
    (Fills f.draft.records last ⊎ IsTrue f.sealed) → length (spelling last) ≤ 65535 →
    AreFilled (bs ++ f ∷ []) last
filled_closed [] f last packed some ends short = (some, packed, ends, short)
filled_closed (x ∷ bs) f last packed some ends short = (
  packed.0,
  packed.1,
  elim packed.2 [
    | inl fills ↦ inl
        (subst (Fills x.draft.records) (next_closed bs f last) fills)
    | inr sealed ↦ inr sealed
  ],
  filled_closed bs f last packed.3 some ends short,
)

-- The records stay counted with one more in the last block,
pub counted_more : (w : Waiting) (last : Drafted) (r : Record) (count : ℕ) → IsCounted w count →
    last.records ≡ w.last.records ++ r ∷ [] →
    length (spelling w.last.records) + length (spelled r) ≤ 65535 →
    IsCounted (record w { last = last }) (count + 1)
counted_more w last r count is more fits = record {
  packed = subst (AreFilled w.full) (sym more) (filled_more w.full w.last.records r is.packed fits);
  counted = omega (
    arith,
    is.counted,
    length-append (in_full w.full) last.records,
    ap length more,
    length-append w.last.records (r ∷ []),
    length-append (in_full w.full) w.last.records,
  );
  unused = is.unused;
}

-- and where the last block is closed, with a new one behind it.
module _ (w : Waiting) (full : List Filled) (f : Filled) (last spare : Drafted) (most : ℕ)
    (behind : full ≡ w.full ++ f ∷ []) (draft : f.draft.records ≡ w.last.records) where
  abbrev closed : Waiting
  closed = record { full = full; last = last; spare = spare; most = most; handed = w.handed }

  pub closed_waits : waiting closed ≡ waiting w ++ last.records
  closed_waits =
      ap (λ l. in_full l ++ last.records) behind
      ∙ ap (λ l. l ++ last.records) (flat_map-append (λ (b : Filled). b.draft.records) w.full
      (f ∷ []) ∙ ap (λ l. in_full w.full ++ l) (append-nil f.draft.records ∙ draft))

  pub counted_closed : (count count' : ℕ) → IsCounted w count → 0 < length w.last.records →
      (Fills w.last.records last.records ⊎ IsTrue f.sealed) →
      length (spelling last.records) ≤ 65535 → spare.records ≡ [] →
      count' ≡ count + length last.records → IsCounted closed count'
  counted_closed count count' is some ends short unused counted = record {
    packed = subst (λ l. AreFilled l last.records) (sym behind)
        (filled_closed w.full f last.records (subst (AreFilled w.full) (sym draft) is.packed)
        (subst (λ l. 0 < length l) (sym draft) some)
        (subst (λ l. Fills l last.records ⊎ IsTrue f.sealed) (sym draft) ends) short);
    counted = omega (
      arith,
      counted,
      is.counted,
      ap length closed_waits,
      length-append (waiting w) last.records,
    );
    unused = unused;
  }

  pub counted_next : (r : Record) (count : ℕ) → IsCounted w count → last.records ≡ r ∷ [] →
      spare.records ≡ [] → length (spelled r) ≤ 65535 → (Suits w (length (spelled r)) → ⊥) →
      IsCounted closed (count + 1)
  counted_next r count is one unused short not_fits =
      counted_closed count (count + 1) is (some_there w.last.records r short not_fits)
      (inl (subst (Fills w.last.records) (sym one)
      (too_long (length (spelling w.last.records) + length (spelled r)) not_fits)))
      (omega (arith, short, ap (λ l. length (spelling l)) one, ap length (append-nil (spelled r))))
      unused (omega (arith, ap length one))
    where
      too_long : (n : ℕ) → (n ≤ 65535 → ⊥) → 65535 < n
      too_long n none = omega (arith, none)

  ends_push : (from : ℕ) (bs : List Filled) →
      sealed_ends from (bs ++ f ∷ []) ≡ sealed_ends from bs ++
      sealed_end f.sealed (from + length (in_full bs ++ f.draft.records))
  ends_push from [] = append-nil (sealed_end f.sealed (from + length f.draft.records))
  ends_push from (b ∷ bs) =
      let end = from + length b.draft.records in
      let all : end + length (in_full bs ++ f.draft.records) ≡
      from + length ((b.draft.records ++ in_full bs) ++ f.draft.records) =
      omega (
        arith,
        length-append (b.draft.records ++ in_full bs) f.draft.records,
        length-append b.draft.records (in_full bs),
        length-append (in_full bs) f.draft.records,
      ) in
      ap (λ l. sealed_end b.sealed end ++ l)
      (ends_push end bs ∙ ap (λ n. sealed_ends end bs ++ sealed_end f.sealed n) all)
      ∙ sym (append_assoc (sealed_end b.sealed end) (sealed_ends end bs)
      (sealed_end f.sealed (from + length
      ((b.draft.records ++ in_full bs) ++ f.draft.records))))

  closed_ends : freezes closed ≡ freezes w ++
      sealed_end f.sealed (w.handed.end + length (waiting w))
  closed_ends =
      ap (sealed_ends w.handed.end) behind ∙ ends_push w.handed.end w.full
      ∙ ap (λ l. freezes w ++ sealed_end f.sealed (w.handed.end + length (in_full w.full ++ l)))
      draft

  -- one that was filled is no freeze
  pub filled_ends : (before : Waiting) → w ≡ before → f.sealed ≡ false →
      freezes closed ≡ freezes before
  filled_ends before same is =
      closed_ends ∙ ap (λ s. freezes w ++ sealed_end s (w.handed.end + length (waiting w))) is ∙
      append-nil (freezes w) ∙ ap freezes same

  -- one that was sealed is
  pub sealed_there : f.sealed ≡ true → 0 < length w.last.records → (n : ℕ) →
      Contains (freezes closed) n ↔ (Contains (freezes w) n ⊎
      ((n ≡ w.handed.end + length (waiting w)) × (0 < length (waiting w))))
  sealed_there is some n =
      let end = w.handed.end + length (waiting w) in
      let ends : freezes closed ≡ freezes w ++ end ∷ [] =
      closed_ends ∙ ap (λ s. freezes w ++ sealed_end s end) is in
      let any : 0 < length (waiting w) =
      omega (arith, some, length-append (in_full w.full) w.last.records) in (
        λ there. elim (Contains-push_cases (freezes w) end n (subst (λ l. Contains l n) ends there))
            [ inl before ↦ inl before | inr same ↦ inr (sym same, any) ],
        λ there. subst (λ l. Contains l n) (sym ends) (elim there [
          | inl before ↦ Contains-append_left (freezes w) (end ∷ []) n before
          | inr same ↦ subst (Contains (freezes w ++ end ∷ [])) (sym same.0)
              (Contains-push (freezes w) end)
        ]),
      )

-- A sealed block's end is a freeze.
end_there : (s : Bool) (end : ℕ) → IsTrue s → Contains (sealed_end s end) end
end_there true end is = Contains-push [] end
end_there false end is = cc

end_only : (s : Bool) (end n : ℕ) → Contains (sealed_end s end) n → n ≡ end
end_only true end n there = elim (Contains-push_cases [] end n there)
    [ inl none ↦ let below = none.1 in absurd (omega arith) | inr same ↦ sym same ]
end_only false end n there = let below = there.1 in absurd (omega arith)

-- Where the last block is empty, the one before it was sealed.
ends_last : (from : ℕ) (b : Filled) (bs : List Filled) → AreFilled (b ∷ bs) [] →
    Contains (sealed_ends from (b ∷ bs)) (from + length (in_full (b ∷ bs)))
ends_last from b [] packed =
    let end = from + length b.draft.records in
    elim packed.2 [
      | inl fills ↦ absurd fills
      | inr sealed ↦ Contains-append_left (sealed_end b.sealed end) []
          (from + length (in_full (b ∷ [])))
          (subst (Contains (sealed_end b.sealed end))
          (ap (λ l. from + length l) (sym (append-nil b.draft.records)))
          (end_there b.sealed end sealed))
    ]
ends_last from b (c ∷ bs) packed =
    let end = from + length b.draft.records in
    Contains-append_right (sealed_end b.sealed end) (sealed_ends end (c ∷ bs))
    (from + length (in_full (b ∷ c ∷ bs)))
    (subst (Contains (sealed_ends end (c ∷ bs)))
    (omega (arith, length-append b.draft.records (in_full (c ∷ bs))))
    (ends_last end c bs packed.3))

-- Where the last block is empty, a freeze stands behind all records.
pub sealed_before : (w : Waiting) (count : ℕ) → IsCounted w count → w.last.records ≡ [] → (n : ℕ) →
    Contains (freezes w) n ↔ (Contains (freezes w) n ⊎
    ((n ≡ w.handed.end + length (waiting w)) × (0 < length (waiting w))))
sealed_before w count is none n = (
  λ there. inl there,
  λ there. elim there [
    | inl before ↦ before
    | inr at ↦ subst (Contains (freezes w)) (ap (λ l. w.handed.end + length l) (sym all) ∙ sym at.0)
        (stands w.full (subst (AreFilled w.full) none is.packed)
        (subst (λ l. 0 < length l) all at.1))
  ],
)
  where
    all : waiting w ≡ in_full w.full
    all = ap (λ l. in_full w.full ++ l) none ∙ append-nil (in_full w.full)

    stands : (bs : List Filled) → AreFilled bs [] → 0 < length (in_full bs) →
        Contains (sealed_ends w.handed.end bs) (w.handed.end + length (in_full bs))
    stands [] packed some = absurd (omega (arith, some))
    stands (b ∷ bs) packed some = ends_last w.handed.end b bs packed

-- ---- handing the first block over

-- Freezes stand behind the beginning.
ends_above : (from : ℕ) (bs : List Filled) (last : List Record) (n : ℕ) → AreFilled bs last →
    Contains (sealed_ends from bs) n → from < n
ends_above from [] last n packed there = let below = there.1 in absurd (omega arith)
ends_above from (b ∷ bs) last n packed there =
    let end = from + length b.draft.records in
    elim (Contains-append_cases (sealed_end b.sealed end) (sealed_ends end bs) n there) [
      | inl here ↦ omega (arith, packed.0, end_only b.sealed end n here)
      | inr later ↦ omega (arith, ends_above end bs last n packed.3 later)
    ]

-- The first of the next block would not have fitted in this one.
next_too_long : (b : List Record) (fs : List Filled) (last : List Record) (r : Record)
    (behind : List Record) → Fills b (next_of fs last) → in_full fs ++ last ≡ r ∷ behind →
    65535 < length (spelling b) + length (spelled r)
next_too_long b [] last r behind fills is = subst (Fills b) is fills
next_too_long b (f ∷ fs) last r behind fills is = first f.draft.records (in_full fs) fills is
  where
    first : (c more : List Record) → Fills b c → (c ++ more) ++ last ≡ r ∷ behind →
        65535 < length (spelling b) + length (spelled r)
    first [] more fills same = absurd fills
    first (s ∷ c) more fills same = subst (λ (l : List Record). Fills b l) same fills

-- These of the records are the next block's: as many as fit and as come before the next freeze.
pub record ComeNext (w : Waiting) (first rest : List Record) : Type 0 where
  pub are : waiting w ≡ first ++ rest
  pub some : 0 < length first
  pub short : length (spelling first) ≤ 65535
  pub most : (r : Record) (behind : List Record) → rest ≡ r ∷ behind →
      (65535 < length (spelling first) + length (spelled r))
      ⊎ Contains (freezes w) (w.handed.end + length first)
  pub apart : (f : ℕ) → Contains (freezes w) f → w.handed.end + length first ≤ f

-- Those of the first full block are.
pub first_next : (w : Waiting) (first : Filled) (full : List Filled) (count : ℕ) →
    IsCounted w count → w.full ≡ first ∷ full →
    ComeNext w first.draft.records (in_full full ++ w.last.records)
first_next w first full count is same =
    let all : AreFilled (first ∷ full) w.last.records =
    subst (λ (l : List Filled). AreFilled l w.last.records) same is.packed in
    let end = w.handed.end + length first.draft.records in
    let ends : freezes w ≡ sealed_end first.sealed end ++ sealed_ends end full =
    ap (sealed_ends w.handed.end) same in
    record {
      are = ap (λ (l : List Filled). in_full l ++ w.last.records) same ∙
          append_assoc first.draft.records (in_full full) w.last.records;
      some = all.0;
      short = all.1;
      most = λ r behind next. elim all.2 [
        | inl fills ↦ inl (next_too_long first.draft.records full w.last.records r behind fills
            next)
        | inr sealed ↦ inr (subst (λ l. Contains l end) (sym ends)
            (Contains-append_left (sealed_end first.sealed end) (sealed_ends end full) end
            (end_there first.sealed end sealed)))
      ];
      apart = λ n there. elim (Contains-append_cases (sealed_end first.sealed end)
          (sealed_ends end full) n (subst (λ l. Contains l n) ends there)) [
            | inl here ↦ omega (arith, end_only first.sealed end n here)
            | inr later ↦ omega (arith, ends_above end full w.last.records n all.3 later)
          ];
    }

no_freeze : {A : Type 0} (from : ℕ) (bs : List Filled) (n : ℕ) → bs ≡ [] →
    Contains (sealed_ends from bs) n → A
no_freeze from bs n is there = let below =
    (subst (λ l. Contains (sealed_ends from l) n) is there).1 in absurd (omega arith)

-- Where no block is full, those of the last one are.
pub last_next : (w : Waiting) (count : ℕ) → IsCounted w count → w.full ≡ [] →
    0 < length w.last.records → ComeNext w w.last.records []
last_next w count is none some = record {
  are = ap (λ (l : List Filled). in_full l ++ w.last.records) none ∙
      sym (append-nil w.last.records);
  some = some;
  short = last_fits w.full w.last.records is.packed;
  most = λ r behind next. cc;
  apart = λ n there. no_freeze w.handed.end w.full n none there;
}

-- The first full block is handed over: it holds as many of the records as fit and come before the
-- next freeze.
pub first_over : (w : Waiting) (first : Filled) (full : List Filled) (count : ℕ) (after : Handed)
    (sends : List Block → Type 0) → IsCounted w count → w.full ≡ first ∷ full →
    IsOffered first.draft.records w.handed after sends →
    (block : Block) × sends (block ∷ []) ×
    HandsOver (waiting w) (freezes w) w.handed.end w.handed.place block
    (in_full full ++ w.last.records) × (after.end ≡ block.end) × (after.place ≡ block.place) ×
    ((n : ℕ) → Contains (sealed_ends after.end full) n ↔ (Contains (freezes w) n × (block.end < n)))
first_over w first full count after sends is same offered =
    let all : AreFilled (first ∷ full) w.last.records =
    subst (λ (l : List Filled). AreFilled l w.last.records) same is.packed in
    let end = w.handed.end + length first.draft.records in
    let ends : freezes w ≡ sealed_end first.sealed end ++ sealed_ends end full =
    ap (sealed_ends w.handed.end) same in
    let block_end : offered.block.end ≡ end = offered.end in
    let next = first_next w first full count is same in
    let after_end : after.end ≡ end = ap (λ (h : Handed). h.end) offered.counted ∙ block_end in (
      offered.block,
      offered.sent,
      record {
        first = first.draft.records;
        are = next.are;
        some = next.some;
        bytes = offered.bytes;
        most = subst (λ (e : ℕ). (r : Record) (behind : List Record) →
            in_full full ++ w.last.records ≡ r ∷ behind →
            (65535 < length (spelling first.draft.records) + length (spelled r))
            ⊎ Contains (freezes w) e) (sym block_end) next.most;
        apart = λ n there. omega (arith, block_end, next.apart n there);
        ends = offered.end;
        commits = offered.place;
      },
      ap (λ (h : Handed). h.end) offered.counted,
      ap (λ (h : Handed). h.place) offered.counted,
      λ n. (
        λ there. let later : Contains (sealed_ends end full) n =
            subst (λ e. Contains (sealed_ends e full) n) after_end there in (
              subst (λ l. Contains l n) (sym ends)
                  (Contains-append_right (sealed_end first.sealed end) (sealed_ends end full) n
                  later),
              omega (arith, block_end, ends_above end full w.last.records n all.3 later),
            ),
        λ there. subst (λ e. Contains (sealed_ends e full) n) (sym after_end)
            (elim (Contains-append_cases (sealed_end first.sealed end) (sealed_ends end full) n
            (subst (λ l. Contains l n) ends there.0)) [
              | inl here ↦ absurd (omega (
                arith,
                there.1,
                block_end,
                end_only first.sealed end n here,
              ))
              | inr later ↦ later
            ]),
      ),
    )

-- Where no block is full, the last one is handed over.
pub last_over : (w : Waiting) (after : Handed) (sends : List Block → Type 0) (full : List Filled)
    (last : Drafted) → w.full ≡ [] → 0 < length w.last.records → full ≡ [] → last.records ≡ [] →
    IsOffered w.last.records w.handed after sends →
    (block : Block) × sends (block ∷ []) ×
    HandsOver (waiting w) (freezes w) w.handed.end w.handed.place block
    (in_full full ++ last.records) × (after.end ≡ block.end) × (after.place ≡ block.place) ×
    ((n : ℕ) → Contains (sealed_ends after.end full) n ↔ (Contains (freezes w) n × (block.end < n)))
last_over w after sends full last none some left empty offered =
    let over : in_full full ++ last.records ≡ [] =
    ap (λ l. in_full l ++ last.records) left ∙ empty in (
      offered.block,
      offered.sent,
      record {
        first = w.last.records;
        are = ap (λ (l : List Filled). in_full l ++ w.last.records) none ∙
            sym (append-nil w.last.records) ∙ ap (λ l. w.last.records ++ l) (sym over);
        some = some;
        bytes = offered.bytes;
        most = λ r behind is. cons_none (in_full full ++ last.records) r behind over is;
        apart = λ n there. no_freeze w.handed.end w.full n none there;
        ends = offered.end;
        commits = offered.place;
      },
      ap (λ (h : Handed). h.end) offered.counted,
      ap (λ (h : Handed). h.place) offered.counted,
      λ n. (
        λ there. no_freeze after.end full n left there,
        λ there. no_freeze w.handed.end w.full n none there.0,
      ),
    )
  where
    cons_none : {A : Type 0} (l : List Record) (r : Record) (behind : List Record) → l ≡ [] →
        l ≡ r ∷ behind → A
    cons_none [] r behind a b = cc
    cons_none (x ∷ l) r behind a b = cc

-- The first block commits no more than all of them.
pub first_places : (all full : List Filled) (first : Filled) (last : List Record) →
    all ≡ first ∷ full → places first.draft.records ≤ places (in_full all ++ last)
first_places all full first last same =
    omega (
      arith,
      ap (λ (l : List Filled). places (in_full l ++ last)) same,
      ap places (append_assoc first.draft.records (in_full full) last),
      places_append first.draft.records (in_full full ++ last),
    )

pub none_long : {A : Type 0} (l : List A) → length l ≡ 0 → l ≡ []
none_long [] is = refl
none_long (x ∷ l) is = absurd (omega (arith, is))

pub some_told : {A : Type 0} (l : List A) (told : Bool) → IsTrue told ↔ (l ≡ []) →
    told ≡ false → 0 < length l
some_told [] told is no' = let yes = is.1 refl in cc
some_told (x ∷ l) told is no' = omega arith

pub first_long : (all full : List Filled) (first : Filled) (last : List Record) →
    all ≡ first ∷ full → length first.draft.records ≤ length (in_full all ++ last)
first_long all full first last same =
    omega (
      arith,
      ap (λ (l : List Filled). length (in_full l ++ last)) same,
      ap length (append_assoc first.draft.records (in_full full) last),
      length-append first.draft.records (in_full full ++ last),
    )

-- What was put back waits as before.
pub waits_again : (full before : List Filled) (last had : List Record) (handed was : Handed) →
    before ≡ full → last ≡ had → handed ≡ was → 0 < length had →
    (in_full full ++ last ≡ in_full before ++ had) × (handed.end ≡ was.end) ×
    (handed.place ≡ was.place) × (sealed_ends handed.end full ≡ sealed_ends was.end before) ×
    (0 < length (in_full before ++ had))
waits_again full before last had handed was full_is last_is handed_is some =
    let back : full ≡ before = sym full_is in (
      λ i. in_full (back i) ++ last_is i,
      ap (λ (h : Handed). h.end) handed_is,
      ap (λ (h : Handed). h.place) handed_is,
      λ i. sealed_ends (handed_is i).end (back i),
      omega (arith, some, length-append (in_full before) had),
    )
