-- What the writes of a format leave.
use Rattle.std.proofs.Common.{◌≡◌, ◌≢◌, ◌⊎◌, inl, inr, ℕ, ◌+◌, ◌-◌, ◌*◌, ◌%◌, ◌≤◌, List, [], ◌∷◌}
use Rattle.std.proofs.Common.{◌++◌, length, take, drop, get_or, refl, sym, ◌∙◌, ap, subst}
use Rattle.std.proofs.Common.{arith, append_assoc}
use Rattle.std.specs.Prelude.{Result, Ok, Err, IsErr, OnOk, None}
use Rattle.std.specs.Int.{w64, to_be_bytes}
use Rattle.std.proofs.lemmas.List.{take-append-drop, take-take, drop-take, drop-drop, get_or-drop}
use Rattle.std.proofs.lemmas.List.{get_or-take}
use Rattle.std.proofs.lemmas.Bool.{cases_eq}
use Rattle.calls.specs.declared.format.Format.{Format}
use Rattle.calls.specs.declared.refusal.Refusal.{Refusal}
use Rattle.calls.specs.Formats.{number_of}
use Rattle.disk_model.specs.Disk.{Overwritten, Torn, IsAtRest, LeavesOnly, WasTorn, Follows}
use Rattle.disk_model.specs.Disk.{Elapses, HasCause}
use Rattle.disk_model.specs.declared.disk.Fault.{Fault}
use Rattle.replay.proofs.Walks.{rises_before}
use Rattle.disk_model.proofs.Stops.{overwritten_torn}
use Rattle.disk_model.proofs.Walk.{started, goes_on, and_then, weaker}
use Rattle.gate_block.specs.Row.{IsRow, part, row}
use Rattle.gate_block.proofs.Parts.{written_there}
use Rattle.records.specs.declared.record.Record.{Record}
use Rattle.records.specs.Records.{spelling, number, AreRecords}
use Rattle.records.specs.Records.{marks_tag}
use Rattle.replay.specs.Journals.{letters_of, Holds, IsHeader}
use Rattle.replay.proofs.Formats.{allows_self}
use Rattle.gate_block.specs.Layout.{base_in_use, area_in_use}
use Rattle.replay.specs.Steps.{empty_state}
use Rattle.replay.specs.Reading.{InCollections, InJournal, AreAccepted}
use Rattle.recovery.specs.Heads.{HasNoHeader}
use Rattle.recovery.specs.Formatting.{empty_area, IsHeadOf, IsFilled, IsEmptyStore, IsRoomFor}
use Rattle.recovery.specs.Formatting.{IsMaking, IsShut, IsFormatAnswer}

-- ---- parts that a write leaves

-- m bytes from n on, which the k bytes at `at` do not meet
kept_part : (n m at k : ℕ) (old new : List ℕ) → (n + m ≤ at) ⊎ (at + k ≤ n) → Torn at k old new →
    take m (drop n new) ≡ take m (drop n old)
kept_part n m at k old new apart torn =
    elim apart [
      | inl before ↦
          let front : (l : List ℕ) → take m (drop n l) ≡ drop n (take (n + m) (take at l)) =
          λ l. sym (drop-take n m l) ∙ ap (drop n) (sym (take-take (n + m) at l before)) in
          front new ∙ ap (λ l. drop n (take (n + m) l)) torn.before ∙ sym (front old)
      | inr behind ↦
          let far : (at + k) + (n - (at + k)) ≡ n = omega (arith, behind) in
          let back : (l : List ℕ) → drop n l ≡ drop (n - (at + k)) (drop (at + k) l) =
          λ l. ap (λ x. drop x l) (sym far) ∙ sym (drop-drop (n - (at + k)) (at + k) l) in
          ap (take m) (back new ∙ ap (drop (n - (at + k))) torn.after ∙ sym (back old))
    ]

one_byte : (n : ℕ) (l : List ℕ) → get_or (take 1 (drop n l)) 0 0 ≡ get_or l n 0
one_byte n l = get_or-take 1 (drop n l) 0 0 (omega arith) ∙ get_or-drop n l 0 0 ∙
    ap (λ k. get_or l k 0) (omega arith)

-- one byte
byte_at : (n b : ℕ) (bytes : List ℕ) → take 1 (drop n bytes) ≡ b ∷ [] → get_or bytes n 0 ≡ b
byte_at n b bytes is = sym (one_byte n bytes) ∙ ap (λ l. get_or l 0 0) is

-- a write of one byte there
pub byte_written : (n b : ℕ) (old new : List ℕ) → n + 1 ≤ length old →
    Overwritten n (b ∷ []) old new → get_or new n 0 ≡ b
byte_written n b old new inside is =
    byte_at n b new (written_there n (b ∷ []) old new (omega (arith, inside)) is)

-- a byte that a write does not meet
pub byte_kept : (n at k : ℕ) (old new : List ℕ) → (n + 1 ≤ at) ⊎ (at + k ≤ n) → Torn at k old new →
    get_or new n 0 ≡ get_or old n 0
byte_kept n at k old new apart torn =
    sym (one_byte n new) ∙ ap (λ l. get_or l 0 0) (kept_part n 1 at k old new apart torn) ∙
    one_byte n old

-- the image of nothing as a block, byte by byte
pub empty_image : (f : Format) →
    167 ∷ 0 ∷ 0 ∷ 0 ∷ 18 ∷ marks_tag f ∷ 0 ∷ 0 ∷ 0 ∷ 0 ∷ 0 ∷ 0 ∷ 0 ∷ 1 ∷ 0 ∷ 0 ∷ 0 ∷ 0 ∷ 0 ∷
    0 ∷ 0 ∷ 0 ∷ 12 ∷ 0 ∷ [] ≡ empty_area f
unfolding number
empty_image Format.One = refl
empty_image Format.Two = refl

pub area_length : (f : Format) → length (empty_area f) ≡ 24
unfolding number
area_length Format.One = refl
area_length Format.Two = refl

image_length : (f : Format) →
    length (spelling (Record.Marks f 1 0 ∷ (Record.ImageEnd ∷ []))) ≡ 18
unfolding number
image_length Format.One = refl
image_length Format.Two = refl

-- what a write does not meet stays
pub rest_kept : (n at k : ℕ) (old new : List ℕ) → at + k ≤ n → Torn at k old new →
    drop n new ≡ drop n old
rest_kept n at k old new behind torn =
    let far : (at + k) + (n - (at + k)) ≡ n = omega (arith, behind) in
    let back : (l : List ℕ) → drop n l ≡ drop (n - (at + k)) (drop (at + k) l) =
    λ l. ap (λ x. drop x l) (sym far) ∙ sym (drop-drop (n - (at + k)) (at + k) l) in
    back new ∙ ap (drop (n - (at + k))) torn.after ∙ sym (back old)

there : (at n : ℕ) (bytes old new : List ℕ) → length bytes ≡ n → at ≤ length old →
    Overwritten at bytes old new → take n (drop at new) ≡ bytes
there at n bytes old new long inside is =
    ap (λ k. take k (drop at new)) (sym long) ∙ written_there at bytes old new inside is

-- ---- the three writes of the head

pub letters_long : (f : Format) (letters : List ℕ) → letters ≡ letters_of f → length letters ≡ 8
letters_long Format.One letters is = ap length is
letters_long Format.Two letters is = ap length is

pub letters_short : (f : Format) (letters : List ℕ) → letters ≡ letters_of f → length letters ≤ 8
letters_short f letters is = omega (arith, letters_long f letters is)

module _ (version : Format) (area : ℕ) (letters said root : List ℕ) (b c d e : List ℕ)
    (room : 4096 ≤ length b)
    (letters_long : length letters ≡ 8) (said_long : length said ≡ 8) (root_is : root ≡ 0 ∷ [])
    (second : Overwritten 512 root b c) (third : Overwritten 0 letters c d)
    (fourth : Overwritten 9 said d e) where
  root_long : length root ≡ 1
  root_long = ap length root_is

  torn_second : Torn 512 1 b c
  torn_second = subst (λ n. Torn 512 n b c) root_long
      (overwritten_torn 512 root b c (omega (arith, room, root_long)) second)

  torn_third : Torn 0 8 c d
  torn_third = subst (λ n. Torn 0 n c d) letters_long
      (overwritten_torn 0 letters c d (omega (arith, room, letters_long, torn_second.size)) third)

  torn_fourth : Torn 9 8 d e
  torn_fourth = subst (λ n. Torn 9 n d e) said_long
      (overwritten_torn 9 said d e
      (omega (arith, room, said_long, torn_second.size, torn_third.size)) fourth)

  pub head_written : letters ≡ letters_of version → said ≡ to_be_bytes w64 area →
      IsHeadOf version area e
  head_written letters_are said_is = record {
    letters = kept_part 0 8 9 8 d e (inl (omega arith)) torn_fourth ∙
        there 0 8 letters c d letters_long (omega arith) third ∙ letters_are;
    area_is = there 9 8 said d e said_long
        (omega (arith, room, torn_second.size, torn_third.size)) fourth ∙ said_is;
    root =
        kept_part 512 1 9 8 d e (inr (omega arith)) torn_fourth ∙
        kept_part 512 1 0 8 c d (inr (omega arith)) torn_third
        ∙ there 512 1 root b c root_long (omega (arith, room)) second ∙ root_is;
  }

  pub behind_kept : drop 4096 e ≡ drop 4096 b
  behind_kept = rest_kept 4096 9 8 d e (omega arith) torn_fourth ∙
      rest_kept 4096 0 8 c d (omega arith) torn_third ∙
      rest_kept 4096 512 1 b c (omega arith) torn_second

-- the head and the image of nothing
pub filled : (version : Format) (area : ℕ) (image a b e : List ℕ) → 4120 ≤ length a →
    length image ≡ 24 →
    Overwritten 4096 image a b → image ≡ empty_area version → IsHeadOf version area e →
    drop 4096 e ≡ drop 4096 b → IsFilled version area e
filled version area image a b e room long first image_is head behind = record {
  head = head;
  image = ap (take 24) behind ∙ there 4096 24 image a b long (omega (arith, room)) first ∙ image_is;
}

-- ---- the gate of the head

-- behind its open gate, what was filled is an empty store
module _ (version : Format) (area : ℕ) (old new : List ℕ)
    (room : IsRoomFor version area (length old))
    (head : IsHeadOf version area old) (torn : Torn 8 1 old new) where
  head_kept : IsHeadOf version area new
  head_kept = record {
    letters = kept_part 0 8 8 1 old new (inl (omega arith)) torn ∙ head.letters;
    area_is = kept_part 9 8 8 1 old new (inr (omega arith)) torn ∙ head.area_is;
    root = kept_part 512 1 8 1 old new (inr (omega arith)) torn ∙ head.root;
  }

  pub header_there : get_or new 8 0 ≡ 167 → IsHeader version area new
  header_there opened = record {
    letters = head_kept.letters;
    gate = opened;
    area = head_kept.area_is;
    not_small = room.not_small;
    not_large = room.not_large;
    whole = torn.size ∙ room.whole;
  }

  pub root_there : get_or new 512 0 ≡ 0
  root_there = byte_at 512 0 new head_kept.root

-- a root byte of 0 picks the first area
pub picks_first : (area : ℕ) (bytes : List ℕ) → get_or bytes 512 0 ≡ 0 →
    base_in_use area bytes ≡ 4096
picks_first area bytes root = ap (λ r. 4096 + area * (r % 2)) root ∙ omega arith

module _ (version : Format) (area : ℕ) (old new : List ℕ)
    (room : IsRoomFor version area (length old))
    (filled : IsFilled version area old) (torn : Torn 8 1 old new)
    (opened : get_or new 8 0 ≡ 167) where
  header : IsHeader version area new
  header = header_there version area old new room filled.head torn opened

  in_use : base_in_use area new ≡ 4096
  in_use = picks_first area new (root_there version area old new room filled.head torn)

  image_there : take 24 (part 4096 area new) ≡ empty_area version
  image_there = take-take 24 area (drop 4096 new) (omega (arith, room.not_small)) ∙
      kept_part 4096 24 8 1 old new (inr (omega arith)) torn ∙ filled.image

  row_there : IsRow (spelling (Record.Marks version 1 0 ∷ (Record.ImageEnd ∷ [])) ∷ [])
      (area_in_use area new)
  row_there =
      let bodies : List (List ℕ) = spelling (Record.Marks version 1 0 ∷ (Record.ImageEnd ∷ [])) ∷
      [] in
      let at : area_in_use area new ≡ part 4096 area new = ap (λ b. part b area new) in_use in
      record {
        gate = 0;
        rest = drop 24 (part 4096 area new);
        is = at ∙ sym (take-append-drop 24 (part 4096 area new)) ∙
            ap (λ l. l ++ drop 24 (part 4096 area new)) image_there ∙
            append_assoc (row bodies) (0 ∷ []) (drop 24 (part 4096 area new));
        closed = omega arith;
        all_fit = (
          record {
            not_empty = omega (arith, image_length version);
            short = omega (arith, image_length version);
          },
          tt,
        );
      }

  good : AreRecords None (Record.Marks version 1 0 ∷ (Record.ImageEnd ∷ []))
  good = (
    record {
      fits = (omega arith, omega arith);
      suits = tt;
      sound = (omega arith, omega arith);
    },
    (record { fits = tt; suits = tt; sound = tt }, tt),
  )

  empty_accepted : AreAccepted version (Record.Marks version 1 0 ∷ (Record.ImageEnd ∷ [])) 1
      (empty_state version) 0
  empty_accepted = (
    InCollections 1 (empty_state version) None,
    (allows_self version, omega arith, refl),
    (InJournal 1 (empty_state version) 0, (empty_state version, refl, (([], refl), refl)), refl),
  )

  abbrev holds : Holds new ((Record.Marks version 1 0 ∷ (Record.ImageEnd ∷ [])) ∷ [])
  holds = record {
    version = version;
    size = area;
    header = header;
    format = version;
    allowed = allows_self version;
    row = row_there;
    spelt = ((good.0.fits, good.0.suits), ((good.1.0.fits, good.1.0.suits), tt));
    of_format = (refl, (tt, tt));
  }

  pub empty_store : IsEmptyStore version new
  empty_store =
      let blocks : List (List Record) = (Record.Marks version 1 0 ∷ (Record.ImageEnd ∷ [])) ∷ [] in
      record {
        area = area;
        header = header;
        filled = record {
          head = head_kept version area old new room filled.head torn;
          image = kept_part 4096 24 8 1 old new (inr (omega arith)) torn ∙ filled.image;
        };
        sound = record {
          blocks = blocks;
          holds = holds;
          good = good;
          next = 1;
          end = empty_state version;
          count = 0;
          accepted = empty_accepted;
        };
        stands = record {
          blocks = blocks;
          holds = holds;
          image = Record.Marks version 1 0 ∷ (Record.ImageEnd ∷ []);
          journal = [];
          split = refl;
          all_journal = tt;
          next = 1;
          wear = 0;
          shown = [];
          numbers = [];
          live = [];
          is_image = record { told = []; tells = refl; rise = tt; all_live = tt; is = refl };
          start = [];
          leads = refl;
          serial = refl;
        };
      }

-- a disk at rest whose gate is closed leaves a closed gate
pub shut_at_rest : {D : Type 0} (seen : D → List ℕ) (may_leave : D → List ℕ → Type 0) (disk : D) →
    IsAtRest seen may_leave disk → get_or (seen disk) 8 0 ≡ 0 → (c : List ℕ) → may_leave disk c →
    get_or c 8 0 ≡ 0
shut_at_rest seen may_leave disk rest closed c left = ap (λ l. get_or l 8 0) (rest c left) ∙ closed

pub still_room : (version : Format) (area a b c : ℕ) → IsRoomFor version area a → b ≡ a → c ≡ b →
    IsRoomFor version area c
still_room version area a b c room first second =
    record {
      not_small = room.not_small;
      not_large = room.not_large;
      whole = second ∙ first ∙ room.whole;
    }

-- a closed gate leaves no store
pub shut : (bytes : List ℕ) → get_or bytes 8 0 ≢ 167 → HasNoHeader bytes
shut bytes closed version size header = closed header.gate

-- with any value for its gate, what was filled is an empty store or none
pub store_or_none : (version : Format) (area : ℕ) (old new : List ℕ) →
    IsRoomFor version area (length old) → IsFilled version area old →
    Torn 8 1 old new → HasNoHeader new ⊎ IsEmptyStore version new
store_or_none version area old new room filled torn =
    elim (cases_eq (get_or new 8 0) 167) [
      | inl opened ↦ inr (empty_store version area old new room filled torn opened)
      | inr closed ↦ inl (shut new closed)
    ]

-- ---- the gate stays closed while the rest is written

module _ {D : Type 0} (may_leave : D → List ℕ → Type 0) (moment : D → ℕ)
    (left_since : D → ℕ → List ℕ → Type 0) where
  -- a stop at any moment since old leaves a closed gate, and so does a stop now
  pub record StaysShut (old new : D) : Type 0 where
    pub since : LeavesOnly moment left_since old new IsShut
    pub now : (c : List ℕ) → may_leave new c → IsShut c

  stays_shut : (old : D) → ((c : List ℕ) → left_since old (moment old) c → may_leave old c) →
      ((c : List ℕ) → may_leave old c → IsShut c) → StaysShut old old
  stays_shut old only_now now = record {
    since = started moment left_since old IsShut
        (λ c left. now c (only_now c left));
    now = now;
  }

  -- a write that does not meet the gate
  shut_past_write : (old mid new : D) (at k : ℕ) → StaysShut old mid → (9 ≤ at) ⊎ (at + k ≤ 8) →
      Follows (Torn at k) (may_leave mid) (may_leave new)
      → Elapses (moment mid) (moment new) (left_since mid) (left_since new) (may_leave new) →
      StaysShut old new
  shut_past_write old mid new at k so_far apart follows time =
      let now : (c : List ℕ) → may_leave new c → IsShut c = λ c left. let was = follows c left in
      byte_kept 8 at k was.0 c apart was.2 ∙ so_far.now was.0 was.1 in
      record {
        since = goes_on moment left_since old mid new IsShut (may_leave new) so_far.since
            time now;
        now = now;
      }

  pub shut_past_sync : (old mid new : D) → StaysShut old mid →
      ((c : List ℕ) → may_leave new c → may_leave mid c) →
      Elapses (moment mid) (moment new) (left_since mid) (left_since new) (may_leave new) →
      StaysShut old new
  shut_past_sync old mid new so_far stop time =
      let now : (c : List ℕ) → may_leave new c → IsShut c = λ c left. so_far.now c (stop c left) in
      record {
        since = goes_on moment left_since old mid new IsShut (may_leave new) so_far.since
            time now;
        now = now;
      }

-- Writes behind a closed gate leave it closed, one after another.
module _ {D : Type 0} (may_leave : D → List ℕ → Type 0) (moment : D → ℕ)
    (left_since : D → ℕ → List ℕ → Type 0) (old : D)
    (only_now : (c : List ℕ) → left_since old (moment old) c → may_leave old c)
    (now : (c : List ℕ) → may_leave old c → IsShut c) where
  -- What a write did to the disk.
  abbrev Wrote : (at k : ℕ) → D → D → Type 0
  Wrote at k mid new = Follows (Torn at k) (may_leave mid) (may_leave new) ×
      Elapses (moment mid) (moment new) (left_since mid) (left_since new) (may_leave new)

  past : (mid new : D) (at k : ℕ) → StaysShut may_leave moment left_since old mid →
      (9 ≤ at) ⊎ (at + k ≤ 8) → Wrote at k mid new → StaysShut may_leave moment left_since old new
  past mid new at k so_far apart wrote =
      shut_past_write may_leave moment left_since old mid new at k so_far apart wrote.0 wrote.1

  pub past_image : (one : D) (n : ℕ) → Wrote 4096 n old one →
      StaysShut may_leave moment left_since old one
  past_image one n image = past old one 4096 n
      (stays_shut may_leave moment left_since old only_now now) (inl (omega arith)) image

  module _ (two : D) (root : Wrote 512 1 old two) where
    pub past_root : StaysShut may_leave moment left_since old two
    past_root = past old two 512 1 (stays_shut may_leave moment left_since old only_now now)
        (inl (omega arith)) root

    module _ (three : D) (n : ℕ) (short : n ≤ 8) (letters : Wrote 0 n two three) where
      pub past_letters : StaysShut may_leave moment left_since old three
      past_letters = past two three 0 n past_root (inr (omega (arith, short))) letters

      pub past_area : (four : D) (k : ℕ) → Wrote 9 k three four →
          StaysShut may_leave moment left_since old four
      past_area four k area = past three four 9 k past_letters (inl (omega arith)) area

-- More is written behind a gate that stays closed.
pub shut_then : {D : Type 0} (may_leave : D → List ℕ → Type 0) (moment : D → ℕ)
    (left_since : D → ℕ → List ℕ → Type 0) (old mid new : D) →
    StaysShut may_leave moment left_since old mid →
    (((c : List ℕ) → may_leave mid c → IsShut c) →
    LeavesOnly moment left_since mid new IsShut) → LeavesOnly moment left_since old new IsShut
shut_then may_leave moment left_since old mid new so_far more =
    and_then moment left_since old mid new IsShut IsShut so_far.since (more so_far.now)
    (λ c closed. closed)

pub both_ok : {T E A B C : Type 0} (r : Result T E) → OnOk r A → OnOk r B → (A → B → C) → OnOk r C
both_ok (Ok x) a b f = f a b
both_ok (Err e) a b f = tt

pub on_any : {T E P : Type 0} (r : Result T E) → P → OnOk r P
on_any (Ok x) p = p
on_any (Err e) p = tt

-- ---- the whole making of a store

module _ {D : Type 0} (seen : D → List ℕ) (may_leave : D → List ℕ → Type 0) (moment : D → ℕ)
    (left_since : D → ℕ → List ℕ → Type 0) (old shut_now filled_now : D)
    (is_made : List ℕ → Type 0) (rest : IsAtRest seen may_leave old)
    (closes : LeavesOnly moment left_since old shut_now (WasTorn 8 1 (may_leave old))) where
  abbrev Making : List ℕ → Type 0
  Making = IsMaking is_made (seen old)

  pub closing : LeavesOnly moment left_since old shut_now Making
  closing = weaker moment left_since old shut_now (WasTorn 8 1 (may_leave old)) Making closes
      (λ c was. inl (subst (λ b. Torn 8 1 b c) (rest was.0 was.1) was.2))

  pub filling : LeavesOnly moment left_since shut_now filled_now IsShut →
      LeavesOnly moment left_since old filled_now Making
  filling fills = and_then moment left_since old shut_now filled_now Making IsShut closing fills
      (λ c closed. inr (inl (shut c (λ opened. absurd (omega (arith, closed, opened))))))

  pub opening : (new : D) → LeavesOnly moment left_since shut_now filled_now IsShut →
      IsAtRest seen may_leave filled_now →
      ((c : List ℕ) → Torn 8 1 (seen filled_now) c → HasNoHeader c ⊎ is_made c)
      → LeavesOnly moment left_since filled_now new (WasTorn 8 1 (may_leave filled_now)) →
      LeavesOnly moment left_since old new Making
  opening new fills rested ends opens =
      and_then moment left_since old filled_now new Making (WasTorn 8 1 (may_leave filled_now))
      (filling fills) opens
      (λ c was. inr (ends c (subst (λ b. Torn 8 1 b c) (rested was.0 was.1) was.2)))

pub ok_then : {T E A B : Type 0} (r : Result T E) → OnOk r A → (A → B) → OnOk r B
ok_then (Ok x) a f = f a
ok_then (Err e) a f = tt

-- a fault has its cause since an earlier time too
pub caused : {T : Type 0} (first before now : ℕ) (r told : Result T Fault) →
    first ≤ before → (IsErr told → IsErr r) → HasCause before now r → HasCause first now told
caused first before now r told early same cause = record {
  later = omega (arith, early, cause.later);
  risen = λ err. rises_before first before now early cause.later (cause.risen (same err));
}

-- ---- a version by its number

pub one_number : (f g : Format) → number_of f ≡ number_of g → f ≡ g
one_number Format.One Format.One e = refl
one_number Format.Two Format.Two e = refl
one_number Format.One Format.Two e = absurd (omega (arith, e))
one_number Format.Two Format.One e = absurd (omega (arith, e))

pub answer_as : (P Q risen : Type 0) (r : Result (Unit {0}) Refusal) → (P → Q) → (Q → P) →
    IsFormatAnswer P risen r → IsFormatAnswer Q risen r
answer_as P Q risen (Ok done) f h a = f a
answer_as P Q risen (Err Refusal.BadArg) f h a = λ q. a (h q)
answer_as P Q risen (Err Refusal.Fault) f h a = (f a.0, a.1)
answer_as P Q risen (Err e) f h a = absurd a
