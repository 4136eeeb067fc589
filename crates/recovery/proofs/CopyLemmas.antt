-- A copy: the image of a settled content is read, so the bytes that hold it alone are sound and
-- stand for that content.
use Rattle.std.proofs.Common.{◌≡◌, ◌≢◌, ◌⊎◌, inl, inr, ℕ, ◌+◌, ◌<◌, ◌≤◌, ◌^◌, Option, Some, None}
use Rattle.std.proofs.Common.{List, [], ◌∷◌, ◌++◌, length, map, take, drop, get_or, refl, sym, ◌∙◌}
use Rattle.std.proofs.Common.{ap, subst, arith, Bool, false, true≢false, Vec, Result, Ok, Err}
use Rattle.std.proofs.Common.{IfOk, OnOk, min, ◌-◌, All, length-append, drop_of_length-le}
use Rattle.std.proofs.Common.{add-one, cond, nat_lt, true}
use Rattle.std.specs.Result.{is_err}
use Rattle.std.specs.Prelude.{Contains}
use Rattle.std.specs.declared.alloc.Global.{Global}
use Rattle.std.specs.FinMap as maps
use Rattle.std.specs.List.{AllByRecursion}
use Rattle.std.proofs.lemmas.Bool.{cases_eq, ltb-false}
use Rattle.std.proofs.lemmas.List.{append-nil}
use Rattle.std.proofs.lemmas.List.Elements.{All-get_or}
use Rattle.std.proofs.Math.Seq.{drop-cons}
use Rattle.calls.specs.declared.format.Format.{Format}
use Rattle.calls.specs.declared.refusal.Refusal.{Refusal}
use Rattle.calls.specs.Formats.{max_area, Allows}
use Rattle.calls.specs.Contents.{Content, InMap, Collection}
use Rattle.calls.specs.Transactions.{Leads}
use Rattle.disk_model.specs.Disk.{Torn, IsAtRest, LeavesOnly, ReadsOnly}
use Rattle.disk_model.proofs.Walk.{started, and_then, weaker, leaves_now}
use Rattle.undo_log.specs.Logs.{Lives}
use Rattle.gate_block.specs.declared.area.Area.{Area}
use Rattle.gate_block.specs.Row.{block, row, IsRow, part}
use Rattle.gate_block.specs.Area.{base_of, size_of, offset_of, has_failed, LeavesElsewhere}
use Rattle.catalog.specs.Holdings.{AreNamed}
use Rattle.catalog.specs.Making.{names_of, AreDistinct}
use Rattle.catalog.specs.Places.{IsWithin, Reaches}
use Rattle.catalog.specs.Meaning.{catalog_meaning, catalog_making}
use Rattle.records.specs.declared.record.Record.{Record}
use Rattle.records.specs.Records.{spelling}
use Rattle.records.specs.Short.{HoldsShort, AreShort}
use Rattle.records.specs.Images.{IsImage}
use Rattle.steps.specs.Machines.{resting, IsUpheld}
use Rattle.steps.specs.Sound.{IsSound as IsSoundState}
use Rattle.steps.proofs.LiveNumbers.{nobody}
use Rattle.records.specs.Packings.{joined, AreWhole}
use Rattle.records.specs.Wholes.{IsWhole, body_of}
use Rattle.records.specs.declared.block.Image.{Image}
use Rattle.images.specs.Images.{TellsState, IsPacked, IsPackedImage}
use Rattle.images.specs.LiveRecords.{live_records}
use Rattle.checkpoint.specs.declared.laying.Laying.{Laying}
use Rattle.checkpoint.specs.Imaging.{IsTooLong, IsBeingLaid, bodies_of, left_of}
use Rattle.checkpoint.specs.ImageAnswers.{IsOneFewer}
use Rattle.checkpoint.proofs.Blocks.{bytes_in, length-whole}
use Rattle.checkpoint.proofs.GroupLemmas.{whole_bodies}
use Rattle.replay.specs.Journals.{IsHeader, Holds, StandsFor, records_in}
use Rattle.gate_block.specs.Layout.{area_in_use}
use Rattle.replay.specs.Steps.{State}
use Rattle.replay.specs.Reading.{Named, Progress, Unread, InCollections, InJournal, Closes}
use Rattle.replay.specs.Reading.{Reads, AreAccepted, IsSound, Settles}
use Rattle.replay.proofs.Lists.{leads_append}
use Rattle.replay.proofs.Formats.{allows_self, value_later}
use Rattle.replay.proofs.OneFormat.{accepted_on, accepted_holds, repeats_format}
use Rattle.replay.proofs.Contents.{content_behind}
use Rattle.replay.specs.Undoing.{Undo, IsUndoRecord}
use Rattle.replay.proofs.UndoRecords.{undo_acts}
use Rattle.recovery.specs.Heads.{HasNoHeader}
use Rattle.recovery.specs.Formatting.{IsRoomFor, IsHeadOf, IsMaking, IsShut}
use Rattle.recovery.specs.Openings.{IsRead, IsFindRefusal}
use Rattle.recovery.specs.Copies.{IsFilledWith, IsStoreOf, IsImageOf, SpellsImageOf, IsCopyOf}
use Rattle.recovery.specs.Copies.{IsTooLarge, IsCopyAnswer, IsSettleRefusal, SpellsCopyOf}
use Rattle.recovery.specs.Copies.{copied_as}
use Rattle.recovery.specs.declared.editing.Edit.{Edit}
use Rattle.recovery.specs.Edits.{edited, CanBeEdited, RefusesEdit, RefusesEdits, IsUneditable}
use Rattle.recovery.specs.Kept.{Refuses, OrStarved}
use Rattle.recovery.proofs.EditLemmas.{edited_each, edited_few}
use Rattle.recovery.specs.Finding.{IsStored}
use Rattle.recovery.specs.Surveys.{image_len}
use Rattle.replay.proofs.ImageItems.{told_reads}
use Rattle.recovery.proofs.FormatLemmas.{header_there, root_there, picks_first, shut, rest_kept}
use Rattle.recovery.proofs.OpenLemmas.{byte_same}
use Rattle.recovery.proofs.Stores.{one_held, stands_for_one}

-- ---- the image of a state with no live transaction

none_in : {X : Type 0} (xs : List X) → ((x : X) → Contains xs x → ⊥) → xs ≡ []
none_in [] none = refl
none_in (x ∷ xs) none = absurd (none x (0, omega arith, refl))

-- it shows no number and no call
pub rested_image : (next : ℕ) (s : State) (rs : List Record) → TellsState (λ v. v) next s rs →
    s.entries ≡ [] → s.live ≡ maps.empty →
    IsImage s.format next s.wear s.now [] [] rs
rested_image next s rs tells none idle =
    let quiet : live_records s ≡ [] =
    ap (λ es. live_records (record s { entries = es })) none in
    let nobody_there : tells.numbers ≡ [] =
    none_in tells.numbers (λ n held.
    nobody n (subst (λ m. Lives m n) idle ((tells.are_live n).0 held))) in
    subst (λ l. IsImage s.format next s.wear s.now [] l rs) quiet
    (subst (λ ns. IsImage s.format next s.wear s.now ns (live_records s) rs) nobody_there
    tells.is_image)

-- its end leads to the journal
ends : (next : ℕ) (s t : State) (last : Option Named) → Closes s last t → Settles t →
    Reads (InCollections next s last) Record.ImageEnd (InJournal next t 0)
ends next s t None closes settles = (t, closes, (settles, refl))
ends next s t (Some x) closes settles = (t, closes, (settles, refl))

-- it is read, and leads to the state
pub image_accepted : (f : Format) (next wear : ℕ) (xs : List Collection) (rs : List Record) →
    IsImage f next wear xs [] [] rs → AreShort f xs → AreNamed xs → AreDistinct (names_of xs) →
    length (names_of xs) ≤ 256 → IsWithin xs wear → wear ≤ 2 ^ 61 + 65536 →
    AreAccepted f rs next (resting f xs wear) 0
image_accepted f next wear xs rs image short good distinct few within worn =
    let telling = told_reads f next wear xs image.told image.tells short good distinct few within in
    let p : Progress = InCollections next (resting f [] wear) None in
    let there : Progress = InCollections next telling.state telling.last in
    let goal : Progress = InJournal next (resting f xs wear) 0 in
    subst (λ l. Leads Reads l (Unread f) goal) (sym image.is) (
      p,
      (allows_self f, worn, refl),
      leads_append Reads image.told (Record.ImageEnd ∷ []) p there goal telling.leads (
        goal,
        ends next telling.state (resting f xs wear) telling.last telling.closes (xs, refl),
        refl,
      ),
    )

-- ---- what an opening finds, as an image

-- what is short in a format is so in a later one
content_later : (f g : Format) → Allows f g → (k : Content) → HoldsShort f k → HoldsShort g k
content_later f g later (InMap m) short = λ k v there. value_later f g (length v) later
    (short k v there)
content_later f g later k short = tt

pub all_later : (f g : Format) → Allows f g → (s : List Collection) → AreShort f s → AreShort g s
all_later f g later [] short = tt
all_later f g later (x ∷ s) short =
    (content_later f g later x.content short.0, all_later f g later s short.1)

-- the state that was found, with the edits made, in a later format, with the blocks that are its
-- image
abbrev pub spells : (f : Format) (bytes : List ℕ) (area : Area) (edits : List Edit)
    (state undone : State) (next count : ℕ)
    (undoing : List Record) (blocks : List (Vec ℕ Global)) →
    IsStored bytes area state next count → Undo state undoing undone →
    AllByRecursion IsUndoRecord undoing →
    IsUpheld catalog_meaning catalog_making AreShort
    (IsSoundState catalog_meaning catalog_making) undone →
    (later : Allows undone.format f) → CanBeEdited edits undone.now →
    AreNamed (edited edits undone.now) → AreDistinct (names_of (edited edits undone.now)) →
    IsPacked (IsImage f next undone.wear (edited edits undone.now) [] []) blocks →
    SpellsImageOf f bytes edits blocks
spells f bytes area edits state undone next count undoing blocks stored undo marks upheld later can
    named distinct packed =
    let read = stored.loaded.is_read in
    let rs : List Record = records_in packed.groups in
    let worn = upheld.unworn in
    let low : undone.wear ≤ 2 ^ 61 + 65536 = omega (arith, worn) in
    let few = edited_few edits undone.now in
    let few_names : length (names_of undone.now) ≤ 256 = upheld.few_names in
    record {
      image = packed.groups;
      is_image_of = record {
        version = stored.version;
        size = size_of area;
        header = stored.header;
        blocks = stored.loaded.blocks;
        next = next;
        state = state;
        count = count;
        is_read = subst (λ k. IsRead stored.version k (size_of area) bytes stored.loaded.blocks next
            state count)
            stored.picks read;
        undoing = undoing;
        undone = undone;
        marks = marks;
        undo = undo;
        can = can;
        later = subst (λ g. Allows g f) (repeats_format undoing state undone undo.leads) later;
        is_image = packed.tells;
        good = packed.good;
        accepted = image_accepted f next undone.wear (edited edits undone.now) rs packed.tells
            (edited_each (HoldsShort f) edits undone.now
            (all_later undone.format f later undone.now upheld.spells))
            named distinct
            (omega (arith, few, few_names))
            (edited_each (λ k. Reaches k undone.wear) edits undone.now upheld.reached) low;
        packed = packed.packed.0;
        not_empty = packed.packed.1;
      };
      whole = packed.whole;
    }

no_groups : (bs : List (Vec ℕ Global)) (gs : List (List Record)) → AreWhole bs gs → bs ≡ [] →
    gs ≡ []
no_groups bs [] whole none = refl
no_groups [] (g ∷ gs) whole none = absurd whole
no_groups (b ∷ bs) (g ∷ gs) whole none = absurd (omega (arith, ap length none))

-- an image has a block
pub some_blocks : (next : ℕ) (s : State) (blocks : List (Vec ℕ Global)) →
    IsPackedImage (λ v. v) next s blocks → blocks ≢ []
some_blocks next s blocks packed none =
    let groups : packed.groups ≡ [] = no_groups blocks packed.groups packed.whole none in
    let is = packed.tells.is_image.is in
    absurd (omega (arith, ap length (sym (ap joined groups) ∙ is)))

pub some_settled : (f : Format) (next wear : ℕ) (xs : List Collection)
    (blocks : List (Vec ℕ Global)) → IsPacked (IsImage f next wear xs [] []) blocks → blocks ≢ []
some_settled f next wear xs blocks packed none =
    let groups : packed.groups ≡ [] = no_groups blocks packed.groups packed.whole none in
    let is = packed.tells.is in
    absurd (omega (arith, ap length (sym (ap joined groups) ∙ is)))

-- ---- the format of a copy

pub copied_later : (f : Format) (area : ℕ) → Allows f (copied_as f area)
copied_later Format.One area = tt
copied_later Format.Two area = tt

fits_as : (b : Bool) (area : ℕ) → (b ≡ false → area ≤ max_area Format.One) → area ≤ 2 ^ 36 →
    area ≤ max_area (cond b Format.Two Format.One)
fits_as true area small large = large
fits_as false area small large = small refl

pub copied_fits : (f : Format) (area : ℕ) → area ≤ 2 ^ 36 → area ≤ max_area (copied_as f area)
copied_fits Format.Two area large = large
copied_fits Format.One area large =
    fits_as (nat_lt (max_area Format.One) area) area
    (λ small. ltb-false (max_area Format.One) area small) large

-- ---- the store that holds it

-- what a store stands for is what its records lead to, once all that was live is undone
old_content : (f : Format) (old : List ℕ) (edits : List Edit) (image : List (List Record))
    (of : IsImageOf f old edits image)
    (content : List Collection) → StandsFor old content → of.undone.now ≡ content
old_content f old edits image of content stood =
    let holds : Holds old of.blocks =
    accepted_holds of.version of.size old of.blocks of.next of.state of.count of.header
    of.is_read.row_is of.is_read.good of.is_read.accepted in
    content_behind of.version (records_in of.blocks) of.next of.state of.count of.is_read.accepted
    of.undoing
    of.undone of.undo.leads of.undo.over (undo_acts of.undoing of.marks) old content stood
    (ap records_in (one_held old of.blocks stood.blocks holds stood.holds))

module _ (f : Format) (old : List ℕ) (edits : List Edit) (image : List (List Record))
    (of : IsImageOf f old edits image) (version : Format) (allowed : Allows version f) (size : ℕ)
    (bytes : List ℕ) (header : IsHeader version size bytes)
    (row_is : IsRow (map spelling image) (area_in_use size bytes)) where
  abbrev rested : State
  rested = resting f (edited edits of.undone.now) of.undone.wear

  pub there : AreAccepted version (records_in image) of.next rested 0
  there = accepted_on f version (records_in image) of.next rested 0 of.accepted of.good allowed

  abbrev holds : Holds bytes image
  holds = accepted_holds version size bytes image of.next rested 0 header row_is of.good there

  abbrev pub sound : IsSound bytes
  sound = record {
    blocks = image;
    holds = holds;
    good = of.good;
    next = of.next;
    end = rested;
    count = 0;
    accepted = there;
  }

  -- so does the one that holds the image alone
  is_there : (other : List Collection) → StandsFor bytes other →
      edited edits of.undone.now ≡ other
  is_there other stands =
      content_behind version (records_in image) of.next rested 0 there [] rested refl refl refl
      bytes
      other stands (ap records_in (one_held bytes image stands.blocks holds stands.holds))

  pub stands : (content : List Collection) → StandsFor old content →
      StandsFor bytes (edited edits content)
  stands content stood =
      let one = stands_for_one bytes sound in
      subst (StandsFor bytes) (sym (is_there one.0 one.1) ∙
      ap (edited edits) (old_content f old edits image of content stood))
      one.1

-- the blocks that spell it are written
pub copied : (f : Format) (old : List ℕ) (edits : List Edit) (area : ℕ)
    (blocks : List (Vec ℕ Global)) (bytes : List ℕ) → SpellsCopyOf f old edits area blocks →
    IsStoreOf f area (bodies_of blocks) bytes → IsCopyOf old edits area bytes
copied f old edits area blocks bytes spelt store =
    let image = spelt.spells.image in
    let is : IsStoreOf f area (map spelling image) bytes =
    subst (λ b. IsStoreOf f area b bytes) (whole_bodies blocks image spelt.spells.whole) store in
    let row : IsRow (map spelling image) (area_in_use area bytes) =
    subst (λ b. IsRow (map spelling image) (part b area bytes))
    (sym (picks_first area bytes is.root)) is.row_is in
    record {
      format = f;
      image = image;
      is_image_of = spelt.spells.is_image_of;
      format_is = spelt.format_is;
      is_store = is;
      sound = sound f old edits image spelt.spells.is_image_of f (allows_self f) area bytes
          is.header row;
      stands = stands f old edits image spelt.spells.is_image_of f (allows_self f) area bytes
          is.header row;
    }

-- they need more room than there is
pub too_large : (f : Format) (old : List ℕ) (edits : List Edit) (area : ℕ)
    (blocks : List (Vec ℕ Global)) → SpellsImageOf f old edits blocks → IsTooLong area blocks →
    IsTooLarge old edits area
too_large f old edits area blocks spelt long = record {
  format = f;
  image = spelt.image;
  is_image_of = spelt.is_image_of;
  over = subst (λ b. area < length (row b) + 1) (whole_bodies blocks spelt.image spelt.whole) long;
}

-- ---- the gate of the head

-- behind its open gate, what was filled is a store
pub store_there : (version : Format) (area : ℕ) (bodies : List (List ℕ)) (old new : List ℕ) →
    IsRoomFor version area (length old) → IsFilledWith version area bodies old → Torn 8 1 old new →
    get_or new 8 0 ≡ 167 → IsStoreOf version area bodies new
store_there version area bodies old new room filled torn opened = record {
  header = header_there version area old new room filled.head torn opened;
  root = root_there version area old new room filled.head torn;
  row_is = subst (λ l. IsRow bodies (take area l))
      (sym (rest_kept 4096 8 1 old new (omega arith) torn)) filled.row_is;
}

pub store_or_no_store : (version : Format) (area : ℕ) (bodies : List (List ℕ)) (old new : List ℕ) →
    IsRoomFor version area (length old) → IsFilledWith version area bodies old → Torn 8 1 old new →
    HasNoHeader new ⊎ IsStoreOf version area bodies new
store_or_no_store version area bodies old new room filled torn =
    elim (cases_eq (get_or new 8 0) 167) [
      | inl opened ↦ inr (store_there version area bodies old new room filled torn opened)
      | inr closed ↦ inl (shut new closed)
    ]

-- ---- laying one block after another

module _ {D : Type 0} (seen : D → List ℕ) (may_leave : D → List ℕ → Type 0) (moment : D → ℕ)
    (left_since : D → ℕ → List ℕ → Type 0) (fault_count : D → ℕ) where
  -- From old to new the first blocks of w were laid, and those of v are left.
  pub record LaidOn (w v : Laying) (old new : D) : Type 0 where
    pub fine : has_failed v.area ≡ false
    pub room : offset_of v.area + length (row (bodies_of (left_of v))) < size_of v.area
    pub base : base_of v.area ≡ base_of w.area
    pub size : size_of v.area ≡ size_of w.area
    pub long : length (seen new) ≡ length (seen old)
    pub being : (bodies : List (List ℕ)) → IsBeingLaid w (seen old) bodies →
        IsBeingLaid v (seen new) bodies
    pub stop : ((c : List ℕ) → may_leave old c → IsShut c) →
        LeavesOnly moment left_since old new IsShut
    pub faults : fault_count old ≤ fault_count new

  pub none_laid : (w : Laying) (old : D) →
      ((c : List ℕ) → left_since old (moment old) c → may_leave old c) →
      has_failed w.area ≡ false →
      offset_of w.area + length (row (bodies_of (left_of w))) < size_of w.area →
      LaidOn w w old old
  none_laid w old only_now fine room = record {
    fine = fine;
    room = room;
    base = refl;
    size = refl;
    long = refl;
    being = λ bodies is. is;
    stop = λ now. started moment left_since old IsShut (λ c left. now c (only_now c left));
    faults = omega arith;
  }

  -- what a stop leaves once another is laid, or was to be
  pub stop_on : (w v : Laying) (old mid new : D) → 4096 ≤ base_of w.area → LaidOn w v old mid →
      ((t : ℕ) (c : List ℕ) → t ≤ moment mid → may_leave mid c → left_since mid t c) →
      LeavesOnly moment left_since mid new (LeavesElsewhere (may_leave mid) v.area) →
      ((c : List ℕ) → may_leave old c → IsShut c) → LeavesOnly moment left_since old new IsShut
  stop_on w v old mid new behind so_far counts_now step now =
      let run = so_far.stop now in
      and_then moment left_since old mid new IsShut (LeavesElsewhere (may_leave mid) v.area) run
      step
      (λ c left. byte_same (base_of v.area) (size_of v.area) 8 left.0 c
      (omega (arith, behind, so_far.base)) left.2
      ∙ leaves_now moment left_since old mid IsShut (may_leave mid) run counts_now left.0 left.1)

  pub laid_more : (w v u : Laying) (old mid new : D) (more : Bool) → 4096 ≤ base_of w.area →
      LaidOn w v old mid →
      ((t : ℕ) (c : List ℕ) → t ≤ moment mid → may_leave mid c → left_since mid t c) →
      LeavesOnly moment left_since mid new (LeavesElsewhere (may_leave mid) v.area) →
      IsOneFewer v u more → has_failed u.area ≡ false →
      offset_of u.area + length (row (bodies_of (left_of u))) < size_of u.area →
      length (seen new) ≡ length (seen mid) →
      ((bodies : List (List ℕ)) → IsBeingLaid v (seen mid) bodies →
      IsBeingLaid u (seen new) bodies) → fault_count mid ≤ fault_count new → LaidOn w u old new
  laid_more w v u old mid new more behind so_far counts_now step fewer fine room long being faults =
      record {
        fine = fine;
        room = room;
        base = fewer.same.base ∙ so_far.base;
        size = fewer.same.size ∙ so_far.size;
        long = long ∙ so_far.long;
        being = λ bodies is. being bodies (so_far.being bodies is);
        stop = stop_on w v old mid new behind so_far counts_now step;
        faults = omega (arith, so_far.faults, faults);
      }

-- all are laid
pub all_laid : (v : Laying) (bytes : List ℕ) (bodies : List (List ℕ)) →
    (1 ≤ length (left_of v) → ⊥) → bodies ≢ [] → IsBeingLaid v bytes bodies →
    IsRow bodies (part (base_of v.area) (size_of v.area) bytes)
all_laid v bytes bodies none some being =
    let left : left_of v ≡ [] = no_more (left_of v) none in
    let all : being.laid ≡ bodies =
    sym (append-nil being.laid) ∙ ap (λ l. being.laid ++ bodies_of l) (sym left) ∙ being.all in
    subst (λ b. IsRow b (part (base_of v.area) (size_of v.area) bytes)) all
    (being.stands.holds (λ nothing. some (sym all ∙ nothing)))
  where
    no_more : (xs : List (Vec ℕ Global)) → (1 ≤ length xs → ⊥) → xs ≡ []
    no_more [] none = refl
    no_more (x ∷ xs) none = absurd (none (omega arith))

-- one more was laid, where none was refused
pub laid_one : {D : Type 0} (seen : D → List ℕ) (may_leave : D → List ℕ → Type 0) (moment : D → ℕ)
    (left_since : D → ℕ → List ℕ → Type 0) (fault_count : D → ℕ) (w v u : Laying) (old mid new : D)
    (r : Result Bool Refusal) → is_err r ≡ false → 4096 ≤ base_of w.area →
    LaidOn seen may_leave moment left_since fault_count w v old mid →
    ((t : ℕ) (c : List ℕ) → t ≤ moment mid → may_leave mid c → left_since mid t c) →
    LeavesOnly moment left_since mid new (LeavesElsewhere (may_leave mid) v.area) →
    IfOk r (λ more. IsOneFewer v u more) → OnOk r (has_failed u.area ≡ false) →
    offset_of u.area + length (row (bodies_of (left_of u))) < size_of u.area →
    length (seen new) ≡ length (seen mid) →
    ((bodies : List (List ℕ)) → IsBeingLaid v (seen mid) bodies →
    OnOk r (IsBeingLaid u (seen new) bodies)) → fault_count mid ≤ fault_count new →
    LaidOn seen may_leave moment left_since fault_count w u old new
laid_one seen may_leave moment left_since fault_count w v u old mid new (Ok more) well behind so_far
    counts_now step fewer fine room long being faults =
    laid_more seen may_leave moment left_since fault_count w v u old mid new more behind so_far
    counts_now step fewer fine room long being faults
laid_one seen may_leave moment left_since fault_count w v u old mid new (Err e) well behind so_far
    counts_now step fewer fine room long being faults = absurd (true≢false well)

-- so the row stands where the laying began
pub row_laid : {D : Type 0} (seen : D → List ℕ) (may_leave : D → List ℕ → Type 0) (moment : D → ℕ)
    (left_since : D → ℕ → List ℕ → Type 0) (fault_count : D → ℕ) (w v : Laying) (old new : D) →
    LaidOn seen may_leave moment left_since fault_count w v old new →
    (1 ≤ length (left_of v) → ⊥) → (bodies : List (List ℕ)) → bodies ≢ [] →
    IsBeingLaid w (seen old) bodies →
    IsRow bodies (part (base_of w.area) (size_of w.area) (seen new))
row_laid seen may_leave moment left_since fault_count w v old new so_far none bodies some being =
    subst (λ b. IsRow bodies (part b (size_of w.area) (seen new))) so_far.base
    (subst (λ n. IsRow bodies (part (base_of v.area) n (seen new))) so_far.size
    (all_laid v (seen new) bodies none some (so_far.being bodies being)))

-- nothing is laid yet
pub none_yet : (area : Area) (image : Image) (bytes : List ℕ) → offset_of area ≡ 0 →
    IsBeingLaid (record { area = area; image = image }) bytes (bodies_of image.blocks.items)
none_yet area image bytes offset = record {
  laid = [];
  stands = record { offset = offset; holds = λ some. absurd (some refl) };
  all = refl;
}

pub some_bodies : (bs : List (Vec ℕ Global)) → bs ≢ [] → bodies_of bs ≢ []
some_bodies [] some none = some refl
some_bodies (b ∷ bs) some none = absurd (omega (arith, ap length none))

-- all are laid, and the head is written
pub filled_with : (version : Format) (area : Area) (size : ℕ) (image : Image) (mid new : List ℕ) →
    base_of area ≡ 4096 → size_of area ≡ size → offset_of area ≡ 0 →
    image.blocks.items ≢ [] → (bytes : List ℕ) →
    ((bodies : List (List ℕ)) → bodies ≢ [] →
    IsBeingLaid (record { area = area; image = image }) bytes bodies →
    IsRow bodies (part (base_of area) (size_of area) mid)) → IsHeadOf version size new →
    drop 4096 new ≡ drop 4096 mid → IsFilledWith version size (bodies_of image.blocks.items) new
filled_with version area size image mid new base size_is offset some bytes laid head behind =
    let bodies : List (List ℕ) = bodies_of image.blocks.items in
    let row : IsRow bodies (part (base_of area) (size_of area) mid) =
    laid bodies (some_bodies image.blocks.items some) (none_yet area image bytes offset) in
    let there : IsRow bodies (part 4096 size mid) =
    subst (λ b. IsRow bodies (part b size mid)) base
    (subst (λ n. IsRow bodies (part (base_of area) n mid)) size_is row) in
    record { head = head; row_is = subst (λ l. IsRow bodies (take size l)) (sym behind) there }

-- ---- what a copy answers

pub still_making : {D : Type 0} (seen : D → List ℕ) (may_leave : D → List ℕ → Type 0)
    (moment : D → ℕ) (left_since : D → ℕ → List ℕ → Type 0) (is_made : List ℕ → Type 0) (disk : D) →
    ((c : List ℕ) → left_since disk (moment disk) c → may_leave disk c) →
    IsAtRest seen may_leave disk →
    LeavesOnly moment left_since disk disk (IsMaking is_made (seen disk))
still_making seen may_leave moment left_since is_made disk only_now rest =
    started moment left_since disk (IsMaking is_made (seen disk))
    (λ c left. subst (IsMaking is_made (seen disk)) (sym (rest c (only_now c left)))
    (inl (record { before = refl; after = refl; size = refl })))

pub making_weaker : (P Q : List ℕ → Type 0) (old c : List ℕ) → ((b : List ℕ) → P b → Q b) →
    IsMaking P old c → IsMaking Q old c
making_weaker P Q old c f (inl torn) = inl torn
making_weaker P Q old c f (inr (inl none)) = inr (inl none)
making_weaker P Q old c f (inr (inr made)) = inr (inr (f c made))

-- what is made of the image is a copy, where the old disk read true
pub making_copy : {D : Type 0} (seen : D → List ℕ) (moment : D → ℕ)
    (left_since : D → ℕ → List ℕ → Type 0) (is_honest : Type 0) (f : Format) (old : List ℕ)
    (edits : List Edit) (area : ℕ)
    (blocks : List (Vec ℕ Global)) (before after : D) →
    (is_honest → SpellsCopyOf f old edits area blocks) →
    LeavesOnly moment left_since before after
    (IsMaking (IsStoreOf f area (bodies_of blocks)) (seen before)) →
    LeavesOnly moment left_since before after
    (IsMaking (λ bytes. is_honest → IsCopyOf old edits area bytes) (seen before))
making_copy seen moment left_since is_honest f old edits area blocks before after spelt run =
    weaker moment left_since before after
    (IsMaking (IsStoreOf f area (bodies_of blocks)) (seen before))
    (IsMaking (λ bytes. is_honest → IsCopyOf old edits area bytes) (seen before)) run
    (λ c made. making_weaker (IsStoreOf f area (bodies_of blocks))
    (λ bytes. is_honest → IsCopyOf old edits area bytes) (seen before) c
    (λ bytes store true_read. copied f old edits area blocks bytes (spelt true_read) store) made)

-- a disk that nobody touched
pub unread : {D : Type 0} (seen : D → List ℕ) (may_leave : D → List ℕ → Type 0) (moment : D → ℕ)
    (left_since : D → ℕ → List ℕ → Type 0) (disk : D) →
    ((c : List ℕ) → left_since disk (moment disk) c → may_leave disk c) →
    ReadsOnly seen may_leave moment left_since disk disk
unread seen may_leave moment left_since disk only_now = record {
  same = refl;
  stop = λ c left. left;
  any_moment = started moment left_since disk (may_leave disk) only_now;
}

pub copy_refusal : (is_room risen rises no_head : Type 0) (is_damaged : ℕ → Type 0)
    (is_uneditable : Refusal → Type 0) (is_too_large : Type 0) (e : Refusal) → is_room →
    (risen → rises) → IsSettleRefusal risen no_head is_damaged is_uneditable e →
    IsCopyAnswer is_room rises no_head is_damaged is_uneditable is_too_large (Err e)
copy_refusal is_room risen rises no_head is_damaged is_uneditable is_too_large Refusal.NoMemory room
    f why = (room, tt)
copy_refusal is_room risen rises no_head is_damaged is_uneditable is_too_large Refusal.Fault room f
    why = (room, f why)
copy_refusal is_room risen rises no_head is_damaged is_uneditable is_too_large Refusal.NotAStore
    room f why = (room, why)
copy_refusal is_room risen rises no_head is_damaged is_uneditable is_too_large
    (Refusal.Damaged place) room f why = (room, why)
copy_refusal is_room risen rises no_head is_damaged is_uneditable is_too_large
    Refusal.NoSuchCollection room f why = (room, why)
copy_refusal is_room risen rises no_head is_damaged is_uneditable is_too_large Refusal.BadName room
    f why = (room, why)
copy_refusal is_room risen rises no_head is_damaged is_uneditable is_too_large Refusal.TooLong room
    f why = (room, why)
copy_refusal is_room risen rises no_head is_damaged is_uneditable is_too_large Refusal.NameTaken
    room f why = (room, why)
copy_refusal is_room risen rises no_head is_damaged is_uneditable is_too_large e room f why =
    absurd why

-- why a store could not be read, it could not be settled either
pub find_refusal : (risen no_head : Type 0) (is_damaged : ℕ → Type 0)
    (is_uneditable : Refusal → Type 0) (e : Refusal) → IsFindRefusal risen no_head is_damaged e →
    IsSettleRefusal risen no_head is_damaged is_uneditable e
find_refusal risen no_head is_damaged is_uneditable Refusal.NoSuchCollection why = absurd why
find_refusal risen no_head is_damaged is_uneditable Refusal.BadName why = absurd why
find_refusal risen no_head is_damaged is_uneditable Refusal.TooLong why = absurd why
find_refusal risen no_head is_damaged is_uneditable Refusal.NameTaken why = absurd why
find_refusal risen no_head is_damaged is_uneditable e why = why

-- the content of what was found, and that edits of it are refused
module _ (bytes : List ℕ) (area : Area) (state undone : State) (next count : ℕ)
    (undoing : List Record) (stored : IsStored bytes area state next count)
    (undo : Undo state undoing undone) (marks : AllByRecursion IsUndoRecord undoing) where
  found_row : IsRow (map spelling stored.loaded.blocks) (area_in_use (size_of area) bytes)
  found_row = subst (λ b. IsRow (map spelling stored.loaded.blocks) (part b (size_of area) bytes))
      stored.picks stored.loaded.is_read.row_is

  abbrev found_holds : Holds bytes stored.loaded.blocks
  found_holds = accepted_holds stored.version (size_of area) bytes stored.loaded.blocks next state
      count stored.header found_row stored.loaded.is_read.good stored.loaded.is_read.accepted

  found_sound : IsSound bytes
  found_sound = record {
    blocks = stored.loaded.blocks;
    holds = found_holds;
    good = stored.loaded.is_read.good;
    next = next;
    end = state;
    count = count;
    accepted = stored.loaded.is_read.accepted;
  }

  found_content : (content : List Collection) → StandsFor bytes content → undone.now ≡ content
  found_content content stood = content_behind stored.version (records_in stored.loaded.blocks) next
      state count stored.loaded.is_read.accepted undoing undone undo.leads undo.over
      (undo_acts undoing marks) bytes content stood
      (ap records_in (one_held bytes stored.loaded.blocks stood.blocks found_holds stood.holds))

  uneditable : (edits : List Edit) (e : Refusal) → RefusesEdits edits undone.now e →
      IsUneditable bytes edits e
  uneditable edits e why = record {
    sound = found_sound;
    refused = λ content stood. subst (λ c. RefusesEdits edits c e) (found_content content stood)
        why;
  }

module _ (risen no_head : Type 0) (is_damaged : ℕ → Type 0) (is_uneditable : Refusal → Type 0) where
  one_edit : (edit : Edit) (names : List (List ℕ)) (e : Refusal) → RefusesEdit edit names e →
      is_uneditable e → IsSettleRefusal risen no_head is_damaged is_uneditable e
  one_edit (Edit.Without name) names Refusal.NoSuchCollection why is = is
  one_edit (Edit.Without name) names e why is = absurd why
  one_edit (Edit.Rename from to) names Refusal.NoSuchCollection why is = is
  one_edit (Edit.Rename from to) names Refusal.BadName why is = is
  one_edit (Edit.Rename from to) names Refusal.TooLong why is = is
  one_edit (Edit.Rename from to) names Refusal.NameTaken why is = is
  one_edit (Edit.Rename from to) names e why is = absurd why.1

  edits_settle : (P : Refusal → Type 0) (e : Refusal) → OrStarved P e →
      (P e → IsSettleRefusal risen no_head is_damaged is_uneditable e) →
      IsSettleRefusal risen no_head is_damaged is_uneditable e
  edits_settle P Refusal.NoMemory why f = tt
  edits_settle P e why f = f why

pub edit_refusal : (is_honest risen no_head : Type 0) (is_damaged : ℕ → Type 0)
    (bytes : List ℕ) (area : Area) (state undone : State) (next count : ℕ) (undoing : List Record) →
    (is_honest → IsStored bytes area state next count) → Undo state undoing undone →
    AllByRecursion IsUndoRecord undoing → (edits : List Edit) (names : List (List ℕ)) →
    names_of undone.now ≡ names → (e : Refusal) → OrStarved (Refuses edits names) e →
    IsSettleRefusal risen no_head is_damaged (λ r. is_honest → IsUneditable bytes edits r) e
edit_refusal is_honest risen no_head is_damaged bytes area state undone next count undoing stored
    undo marks edits names are e why =
    edits_settle risen no_head is_damaged (λ r. is_honest → IsUneditable bytes edits r)
    (Refuses edits names) e why
    (λ refuses. let here = refuses undone.now are in
    one_edit risen no_head is_damaged (λ r. is_honest → IsUneditable bytes edits r) here.edit
    (names_of (edited here.before undone.now)) e here.refused
    (λ true_read. uneditable bytes area state undone next count undoing (stored true_read) undo
    marks edits e here))

-- ---- how long an image is

-- so much is counted of the first so many blocks, up to what a word holds
abbrev pub Counted : List (Vec ℕ Global) → ℕ → ℕ → Type 0
Counted blocks len i = (len ≤ 2 ^ 64 - 1) ×
    (min (len + bytes_in (drop i blocks)) (2 ^ 64 - 1) ≡ image_len blocks)

pub counted_none : (blocks : List (Vec ℕ Global)) → Counted blocks 1 0
counted_none blocks = (omega arith, ap (λ n. min n (2 ^ 64 - 1)) (omega arith))

pub counted_one : (blocks : List (Vec ℕ Global)) (len more i : ℕ) (b : Vec ℕ Global) →
    i < length blocks → b ≡ get_or blocks i b → All (λ x. IsWhole x.items) blocks →
    more ≡ min (len + (length b.items - 1)) (2 ^ 64 - 1) → Counted blocks len i →
    Counted blocks more (i + 1)
counted_one blocks len more i b inside at whole is so_far =
    let here : bytes_in (drop i blocks) ≡ bytes_in (get_or blocks i b ∷ drop (i + 1) blocks) =
    ap bytes_in (drop-cons blocks i b inside) ∙
    ap (λ k. bytes_in (get_or blocks i b ∷ drop k blocks)) (sym (add-one i)) in
    let one = All-get_or (λ x. IsWhole x.items) blocks i b inside whole in (
      omega (arith, is),
      omega (
        arith,
        is,
        here,
        so_far.0,
        ap (λ x. length x.items) at,
        ap length one.is,
        length-append (block (body_of (get_or blocks i b).items)) (0 ∷ []),
        length-whole (get_or blocks i b) (drop (i + 1) blocks) one,
      ) ∙ so_far.1,
    )

pub counted_all : (blocks : List (Vec ℕ Global)) (len i : ℕ) → length blocks ≤ i →
    Counted blocks len i → len ≡ image_len blocks
counted_all blocks len i all so_far =
    omega (arith, so_far.0, ap bytes_in (drop_of_length-le blocks all)) ∙ so_far.1
