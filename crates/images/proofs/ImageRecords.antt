-- The records of an image, written part by part.
use Rattle.calls.specs.declared.format.Format.{Format}
use Rattle.calls.specs.Formats.{widest}
use Rattle.std.proofs.Common.{◌≡◌, ℕ, zero, suc, ◌+◌, ◌≤◌, ◌<◌}
use Rattle.std.proofs.Common.{◌⊎◌, inl, inr, ◌↔◌, Bool, true, false, Option, Some}
use Rattle.std.proofs.Common.{None, List, [], ◌∷◌, ◌++◌, length, map, drop, get_or, Contains, refl}
use Rattle.std.proofs.Common.{sym, ◌∙◌, ap, subst, arith, append_assoc, length-append}
use Rattle.std.specs.List.{flat_map, AllByRecursion}
use Rattle.std.proofs.lemmas.Bool.{cases_eq}
use Rattle.std.proofs.lemmas.List.{append-nil, drop_more, drop_all}
use Rattle.std.proofs.lemmas.List.Elements.{Contains-push, Contains-push_cases}
use Rattle.std.proofs.lemmas.List.Elements.{Contains-append_left}
use Rattle.std.specs.FinMap as maps
use Rattle.std.specs.declared.vec.Vec.{Vec}
use Rattle.std.specs.declared.alloc.Global.{Global}
use Rattle.calls.specs.declared.kind.Kind.{Kind}
use Rattle.calls.specs.declared.item.Item.{Item}
use Rattle.calls.specs.declared.call.Call.{Call}
use Rattle.calls.specs.declared.reply.Reply.{Reply}
use Rattle.calls.specs.Contents.{Collection}
use Rattle.calls.specs.Contents.{kind_of_content, IsItemOf}
use Rattle.calls.specs.Names.{IsName}
use Rattle.calls.specs.Rules.{Deferrable, inverse_of}
use Rattle.calls.specs.Reads.{reads}
use Rattle.calls.specs.Transactions.{Entry, Asked, Deferred}
use Rattle.catalog.specs.declared.shown.Shown.{Shown}
use Rattle.catalog.specs.Places.{At}
use Rattle.catalog.specs.Holdings.{Shows}
use Rattle.undo_log.specs.declared.logged.Owned.{Owned}
use Rattle.undo_log.specs.Entries.{owned_entry}
use Rattle.undo_log.specs.Logs.{Statuses, Lives, IsNextLive}
use Rattle.boosted.proofs.Each.{each_append}
use Rattle.records.specs.declared.record.Record.{Record}
use Rattle.records.specs.declared.record.CallRecord.{CallRecord}
use Rattle.records.specs.declared.record.LaterRecord.{LaterRecord}
use Rattle.records.specs.Records.{call_record, FitsCall, FitsReply, FitsItem, Fits}
use Rattle.records.specs.Records.{IsNumber, IsRecord, AreRecords, named_by}
use Rattle.records.proofs.Items.{AreItems, content_items}
use Rattle.records.specs.Images.{TellsOf, TellOf, Rise, IsLiveRecord}
use Rattle.records.proofs.CallRecords.{inverse_fits, later_is_record}
use Rattle.records.specs.Short.{IsShortItem, HoldsShort, AreShort}
use Rattle.steps.specs.Machine.{State}
use Rattle.records.specs.Packings.{joined, Writes, AreWhole}
use Rattle.images.specs.Images.{AreOf, TellsLive, TellsState, IsPacked}
use Rattle.images.specs.Images.{TellsTransactions}
use Rattle.images.specs.Gathers.{CopyState, gathered}
use Rattle.images.specs.Images.{CanStand, TellsGathered}
use Rattle.images.specs.LiveRecords.{live_record, live_records, unless_falling, unless_read}
use Rattle.records.specs.Drafts.{ArePacked}
use Rattle.steps.specs.Machines.{IsAskedEntry}

-- ---- records behind records

-- Records that may stand anywhere stay such behind others.
good_append : (rs ss : List Record) → ((last : Option Kind) → AreRecords last rs) →
    ((last : Option Kind) → AreRecords last ss) → (last : Option Kind) → AreRecords last (rs ++ ss)
good_append rs ss first then_ last = go rs last (first last)
  where
    go : (rs : List Record) (last : Option Kind) → AreRecords last rs → AreRecords last (rs ++ ss)
    go [] last are = then_ last
    go (r ∷ rs) last are = (are.0, go rs (named_by last r) are.1)

pub writes_none : (P : List Record → Type 0) (before : List Record) → P [] →
    Writes before before P
writes_none P before is = record {
  written = [];
  are = sym (append-nil before);
  good = λ last. tt;
  is = is;
}

pub writes_one : (P : List Record → Type 0) (before after : List Record) (r : Record) →
    after ≡ before ++ r ∷ [] → ((last : Option Kind) → IsRecord last r) → P (r ∷ []) →
    Writes before after P
writes_one P before after r are good is =
    record { written = r ∷ []; are = are; good = λ last. (good last, tt); is = is }

pub writes_both : (P Q R : List Record → Type 0) (a b c : List Record) → Writes a b P →
    Writes b c Q → ((rs ss : List Record) → P rs → Q ss → R (rs ++ ss)) → Writes a c R
writes_both P Q R a b c first more is = record {
  written = first.written ++ more.written;
  are = more.are ∙ ap (λ l. l ++ more.written) first.are ∙
      append_assoc a first.written more.written;
  good = good_append first.written more.written first.good more.good;
  is = is first.written more.written first.is more.is;
}

pub writes_as : (P Q : List Record → Type 0) (a b : List Record) → Writes a b P →
    ((rs : List Record) → P rs → Q rs) → Writes a b Q
writes_as P Q a b writes is = record {
  written = writes.written;
  are = writes.are;
  good = writes.good;
  is = is writes.written writes.is;
}

-- ---- items

pub each_at : {X : Type 0} (P : X → Type 0) (xs : List X) (i : ℕ) (x : X) → AllByRecursion P xs →
    i < length xs → x ≡ get_or xs i x → P x
each_at P [] i x all below is = absurd (omega (arith, below))
each_at P (y ∷ ys) zero x all below is = subst P (sym is) all.0
each_at P (y ∷ ys) (suc i) x all below is = each_at P ys i x all.1 (omega (arith, below)) is

pub all_yielded : {X : Type 0} (xs all : List X) → map (λ x. x) xs ≡ all → xs ≡ all
all_yielded xs all is = sym (same xs) ∙ is
  where
    same : {X : Type 0} (ys : List X) → map (λ x. x) ys ≡ ys
    same [] = refl
    same (y ∷ ys) = ap (λ l. y ∷ l) (same ys)

pub items_more : (before mid after : List Record) (items : List Item) (i : Item) →
    mid ≡ before ++ map Record.Item items → after ≡ mid ++ Record.Item i ∷ [] →
    after ≡ before ++ map Record.Item (items ++ i ∷ [])
items_more before mid after items i so_far one =
    one ∙ ap (λ l. l ++ Record.Item i ∷ []) so_far ∙
    append_assoc before (map Record.Item items) (Record.Item i ∷ []) ∙
    ap (λ l. before ++ l) (sym (map_push items))
  where
    map_push : (is : List Item) → map Record.Item (is ++ i ∷ []) ≡ map Record.Item is ++
        Record.Item i ∷ []
    map_push [] = refl
    map_push (x ∷ is) = ap (λ l. Record.Item x ∷ l) (map_push is)

pub fits_more : (items : List Item) (i : Item) → AllByRecursion FitsItem items → FitsItem i →
    AllByRecursion FitsItem (items ++ i ∷ [])
fits_more items i all fits = each_append FitsItem items (i ∷ []) all (fits, tt)

item_records : (kind : Kind) (items : List Item) → AllByRecursion FitsItem items →
    AllByRecursion (λ i. IsShortItem widest i × IsItemOf kind i) items →
    AreRecords (Some kind) (map Record.Item items)
item_records kind [] fits are = tt
item_records kind (i ∷ items) fits are =
    (record { fits = fits.0; suits = are.0.1; sound = tt }, item_records kind items fits.1 are.1)

-- A collection is written.
pub shown_writes : (shown : Shown) (before mid after : List Record) → IsName shown.name →
    AllByRecursion (λ i. IsShortItem widest i × IsItemOf shown.kind i) shown.items.items →
    AllByRecursion FitsItem shown.items.items →
    mid ≡ before ++ Record.Name shown.kind shown.name ∷ [] →
    after ≡ mid ++ map Record.Item shown.items.items →
    Writes before after (AreOf shown)
shown_writes shown before mid after name items fits first more = record {
  written = Record.Name shown.kind shown.name ∷ map Record.Item shown.items.items;
  are = more ∙ ap (λ l. l ++ map Record.Item shown.items.items) first ∙
      append_assoc before (Record.Name shown.kind shown.name ∷ [])
      (map Record.Item shown.items.items);
  good = λ last. (
    record { fits = name; suits = tt; sound = tt },
    item_records shown.kind shown.items.items fits items,
  );
  is = refl;
}

pub each_short : (kind : Kind) (items : List Item) →
    AllByRecursion (λ i. IsShortItem widest i × IsItemOf kind i) items →
    AllByRecursion (IsShortItem widest) items
each_short kind [] are = tt
each_short kind (i ∷ items) are = (are.0.0, each_short kind items are.1)

-- What is shown of a collection can be written,
pub can_show : (x : Collection) (shown : Shown) → Shows x shown → HoldsShort widest x.content →
    IsName shown.name × AllByRecursion (λ i. IsShortItem widest i × IsItemOf shown.kind i)
    shown.items.items
can_show x shown shows short = (
  shows.good,
  subst (λ k. AreItems widest k shown.items.items) (sym shows.of_kind)
      (content_items widest x.content shown.items.items short shows.holds),
)

-- and then tells of it.
pub tells_of : (x : Collection) (shown : Shown) (rs : List Record) → Shows x shown →
    AreOf shown rs → TellsOf x rs
tells_of x shown rs shows is = record {
  items = shown.items.items;
  lists = shows.holds;
  is = is ∙ ap (λ k. Record.Name k shown.name ∷ map Record.Item shown.items.items) shows.of_kind ∙
      ap (λ n. Record.Name (kind_of_content x.content) n ∷ map Record.Item shown.items.items)
      shows.named;
}

-- The same of a collection at its place.
pub at_shown : (s : List Collection) (at : ℕ) (shown : Shown) → At (λ x. Shows x shown) s at →
    AreShort widest s → IsName shown.name ×
    AllByRecursion (λ i. IsShortItem widest i × IsItemOf shown.kind i) shown.items.items
at_shown [] at shown there short = absurd there
at_shown (x ∷ xs) zero shown there short = can_show x shown there short.0
at_shown (x ∷ xs) (suc at) shown there short = at_shown xs at shown there short.1

pub at_writes : (s : List Collection) (at : ℕ) (shown : Shown) (before after : List Record) →
    At (λ x. Shows x shown) s at → Writes before after (AreOf shown) →
    At (λ x. Writes before after (TellsOf x)) s at
at_writes [] at shown before after there writes = absurd there
at_writes (x ∷ xs) zero shown before after there writes =
    writes_as (AreOf shown) (TellsOf x) before after writes
    (λ rs is. tells_of x shown rs there is)
at_writes (x ∷ xs) (suc at) shown before after there writes =
    at_writes xs at shown before after there writes

-- ---- the collections, one after another

-- The first of them are told of.
pub record AreTold (before now : List Record) (s : List Collection) (at : ℕ) : Type 0 where
  pub done : List Collection
  pub rest : List Collection
  pub are : s ≡ done ++ rest
  pub count : length done ≡ at
  pub told : Writes before now (TellOf done)

pub told_none : (before : List Record) (s : List Collection) → AreTold before before s 0
told_none before s = record {
  done = [];
  rest = s;
  are = refl;
  count = refl;
  told = writes_none (TellOf []) before refl;
}

tell_more : (xs : List Collection) (x : Collection) (rs first : List Record) → TellOf xs rs →
    TellsOf x first → TellOf (xs ++ x ∷ []) (rs ++ first)
tell_more [] x rs first none tells =
    (first, [], ap (λ l. l ++ first) none ∙ sym (append-nil first), tells, refl)
tell_more (y ∷ xs) x rs first told tells = (
  told.0,
  told.1 ++ first,
  ap (λ l. l ++ first) told.2 ∙ append_assoc told.0 told.1 first,
  told.3,
  tell_more xs x told.1 first told.4 tells,
)

at_split : (P : Collection → Type 0) (done rest : List Collection) →
    At P (done ++ rest) (length done) →
    (x : Collection) × (more : List Collection) × (rest ≡ x ∷ more) × P x
at_split P [] [] there = absurd there
at_split P [] (x ∷ rest) there = (x, rest, refl, there)
at_split P (y ∷ done) rest there = at_split P done rest there

pub told_one : (before now after : List Record) (s : List Collection) (at : ℕ) →
    AreTold before now s at → At (λ x. Writes now after (TellsOf x)) s at →
    AreTold before after s (at + 1)
told_one before now after s at told there =
    let split = at_split (λ x. Writes now after (TellsOf x)) told.done told.rest
    (subst (At (λ x. Writes now after (TellsOf x)) (told.done ++ told.rest)) (sym told.count)
    (subst (λ l. At (λ x. Writes now after (TellsOf x)) l at) told.are there)) in
    record {
      done = told.done ++ split.0 ∷ [];
      rest = split.1;
      are = told.are ∙ ap (λ l. told.done ++ l) split.2 ∙
          sym (append_assoc told.done (split.0 ∷ []) split.1);
      count = length-append told.done (split.0 ∷ []) ∙ ap (λ n. n + 1) told.count;
      told = writes_both (TellOf told.done) (TellsOf split.0) (TellOf (told.done ++ split.0 ∷ []))
          before now after told.told split.3
          (λ rs ss first more. tell_more told.done split.0 rs ss first more);
    }

none_left : (done rest : List Collection) → length (done ++ rest) ≤ length done → rest ≡ []
none_left done [] few = refl
none_left done (x ∷ rest) few = absurd (omega (arith, few, length-append done (x ∷ rest)))

pub told_all : (before now : List Record) (s : List Collection) (at : ℕ) →
    AreTold before now s at → length s ≤ at → Writes before now (TellOf s)
told_all before now s at told few =
    let none : told.rest ≡ [] = none_left told.done told.rest
    (omega (arith, few, ap length told.are, told.count)) in
    subst (λ l. Writes before now (TellOf l))
    (sym (told.are ∙ ap (λ l. told.done ++ l) none ∙ append-nil told.done)) told.told

-- A copy at its place.
module _ {A : Type 0} (copy : A → CopyState) (o : A) where
  pub at_copy : (P : Collection → Type 0) (os : List A) (i : ℕ) → i < length os →
      o ≡ get_or os i o → P (copy o).collection → At P (gathered (map copy os)) i
  at_copy P [] i below is h = absurd (omega (arith, below))
  at_copy P (x ∷ os) zero below is h = subst (λ v. P (copy v).collection) is h
  at_copy P (x ∷ os) (suc i) below is h = at_copy P os i (omega (arith, below)) is h

  pub short_copy : (os : List A) (i : ℕ) → i < length os → o ≡ get_or os i o →
      AreShort widest (gathered (map copy os)) → HoldsShort widest (copy o).collection.content
  short_copy [] i below is short = absurd (omega (arith, below))
  short_copy (x ∷ os) zero below is short =
      subst (λ v. HoldsShort widest (copy v).collection.content) (sym is) short.0
  short_copy (x ∷ os) (suc i) below is short =
      short_copy os i (omega (arith, below)) is short.1

pub count_copies : {A : Type 0} (copy : A → CopyState) (os : List A) →
    length (gathered (map copy os)) ≡ length os
count_copies copy [] = refl
count_copies copy (o ∷ os) = ap suc (count_copies copy os)

-- ---- records as they are

-- Those before a place are written, and those from it on are left.
pub record AreWritten (before now rs : List Record) (i : ℕ) : Type 0 where
  pub told : now ++ drop i rs ≡ before ++ rs
  pub left : AllByRecursion Fits (drop i rs)

module _ (before rs : List Record) where
  module _ (now : List Record) (i : ℕ) (so_far : AreWritten before now rs i) where
    pub written_all : length rs ≤ i → now ≡ before ++ rs
    written_all done = sym (append-nil now) ∙ ap (λ l. now ++ l) (sym (drop_all i rs done)) ∙
        so_far.told

    module _ (r : Record) (below : i < length rs) (is : r ≡ get_or rs i r) where
      behind : drop i rs ≡ r ∷ drop (i + 1) rs
      behind = drop_more rs i r below ∙ ap (λ v. v ∷ drop (i + 1) rs) (sym is)

      pub written_this : Fits r
      written_this = (subst (AllByRecursion Fits) behind so_far.left).0

      pub written_one : (after : List Record) → after ≡ now ++ r ∷ [] →
          AreWritten before after rs (i + 1)
      written_one after one = record {
        told = ap (λ l. l ++ drop (i + 1) rs) one ∙
            append_assoc now (r ∷ []) (drop (i + 1) rs) ∙
            ap (λ l. now ++ l) (sym behind) ∙ so_far.told;
        left = (subst (AllByRecursion Fits) behind so_far.left).1;
      }

-- Records that may stand anywhere fit.
pub each_fits : (last : Option Kind) (rs : List Record) → AreRecords last rs →
    AllByRecursion Fits rs
each_fits last [] are = tt
each_fits last (r ∷ rs) are = (are.0.fits, each_fits (named_by last r) rs are.1)

-- ---- the live transactions

-- Those up to a number are told of.
pub record HaveBegun (before now : List Record) (live : Statuses) (last : ℕ) : Type 0 where
  pub numbers : List ℕ
  pub rise : Rise numbers
  pub below : AllByRecursion (λ n. n ≤ last) numbers
  pub are_live : (n : ℕ) → Contains numbers n ↔ (Lives live n × (n ≤ last))
  pub told : Writes before now (λ rs. rs ≡ map Record.Begin numbers)

pub begun_none : (before : List Record) (live : Statuses) →
    ((n : ℕ) → Lives live n → IsNumber n) → HaveBegun before before live 0
begun_none before live numbers = record {
  numbers = [];
  rise = tt;
  below = tt;
  are_live = λ n. (
    λ there. let none = there.1 in
        absurd (omega arith),
    λ lives. let positive = (numbers n lives.0).positive in
        let low = lives.1 in absurd (omega arith),
  );
  told = writes_none (λ rs. rs ≡ map Record.Begin []) before refl;
}

rise_more : (ns : List ℕ) (n : ℕ) → Rise ns → AllByRecursion (λ m. m < n) ns → Rise (ns ++ n ∷ [])
rise_more [] n rise below = (tt, tt)
rise_more (m ∷ ns) n rise below =
    (each_append (λ k. m < k) ns (n ∷ []) rise.0 (below.0, tt), rise_more ns n rise.1 below.1)

each_below : (ns : List ℕ) (m n : ℕ) → m < n → AllByRecursion (λ k. k ≤ m) ns →
    AllByRecursion (λ k. k < n) ns
each_below [] m n less all = tt
each_below (k ∷ ns) m n less all = (omega (arith, less, all.0), each_below ns m n less all.1)

each_up_to : (ns : List ℕ) (n : ℕ) → AllByRecursion (λ k. k < n) ns → AllByRecursion (λ k. k ≤ n) ns
each_up_to [] n all = tt
each_up_to (k ∷ ns) n all = (omega (arith, all.0), each_up_to ns n all.1)

begin_push : (ns : List ℕ) (n : ℕ) →
    map Record.Begin (ns ++ n ∷ []) ≡ map Record.Begin ns ++ Record.Begin n ∷ []
begin_push [] n = refl
begin_push (m ∷ ns) n = ap (λ l. Record.Begin m ∷ l) (begin_push ns n)

pub begin_good : (n : ℕ) (last : Option Kind) → IsNumber n → IsRecord last (Record.Begin n)
begin_good n last number = let below = number.below in
    record { fits = omega arith; suits = tt; sound = number }

pub begun_one : (before now after : List Record) (live : Statuses) (last n : ℕ) →
    HaveBegun before now live last → IsNextLive live last n → IsNumber n →
    after ≡ now ++ Record.Begin n ∷ [] → HaveBegun before after live n
begun_one before now after live last n begun next number more =
    let ns = begun.numbers in
    let above = each_below ns last n next.above begun.below in
    record {
      numbers = ns ++ n ∷ [];
      rise = rise_more ns n begun.rise above;
      below = each_append (λ k. k ≤ n) ns (n ∷ []) (each_up_to ns n above) (omega arith, tt);
      are_live = λ m. (
        λ there. elim (Contains-push_cases ns n m there) [
          | inl before ↦ let was = (begun.are_live m).0 before in let low = was.1 in
              let less = next.above in (was.0, omega arith)
          | inr same ↦ (subst (Lives live) same next.lives, omega (arith, same))
        ],
        λ lives. up_to m lives.0 lives.1 (cases_eq m n),
      );
      told = writes_both (λ rs. rs ≡ map Record.Begin ns) (λ rs. rs ≡ Record.Begin n ∷ [])
          (λ rs. rs ≡ map Record.Begin (ns ++ n ∷ [])) before now after begun.told
          (writes_one (λ rs. rs ≡ Record.Begin n ∷ []) now after (Record.Begin n) more
          (λ kind. begin_good n kind number) refl)
          (λ rs ss first then_. ap (λ l. l ++ ss) first ∙ ap (λ l. map Record.Begin ns ++ l) then_ ∙
          sym (begin_push ns n));
    }
  where
    up_to : (m : ℕ) → Lives live m → m ≤ n → (m ≡ n) ⊎ (m ≡ n → ⊥) →
        Contains (begun.numbers ++ n ∷ []) m
    up_to m lives low (inl same) = subst (Contains (begun.numbers ++ n ∷ [])) (sym same)
        (Contains-push begun.numbers n)
    up_to m lives low (inr other) =
        Contains-append_left begun.numbers (n ∷ []) m
        ((begun.are_live m).1 (lives, not_above m lives low other))
      where
        not_above : (m : ℕ) → Lives live m → m ≤ n → (m ≡ n → ⊥) → m ≤ last
        not_above m lives low other = by (le_cases m last)
          where
            le_cases : (a b : ℕ) → (a ≤ b) ⊎ (b < a)
            le_cases zero b = inl (omega arith)
            le_cases (suc a) zero = inr (omega arith)
            le_cases (suc a) (suc b) = elim (le_cases a b)
                [ inl le ↦ inl (omega (arith, le)) | inr lt ↦ inr (omega (arith, lt)) ]

            by : (m ≤ last) ⊎ (last < m) → m ≤ last
            by (inl le) = le
            by (inr lt) = absurd (other (omega (arith, low, next.least m lives lt)))

-- ---- what they asked for

-- The entries before a place are written, and those from it on are left.
pub record AreLogged (one : ℕ × Entry → List Record) (P : ℕ × Entry → Type 0)
    (before now : List Record) (os : List Owned) (i : ℕ) : Type 0 where
  pub told : Writes before now (λ rs. rs ++ flat_map one (map owned_entry (drop i os)) ≡
      flat_map one (map owned_entry os))
  pub left : AllByRecursion P (map owned_entry (drop i os))

module _ (one : ℕ × Entry → List Record) (P : ℕ × Entry → Type 0) (before : List Record)
    (os : List Owned) where
  pub logged_none : AllByRecursion P (map owned_entry os) → AreLogged one P before before os 0
  logged_none all = record {
    told = writes_none
        (λ rs. rs ++ flat_map one (map owned_entry os) ≡ flat_map one (map owned_entry os)) before
        refl;
    left = all;
  }

  module _ (now : List Record) (i : ℕ) (so_far : AreLogged one P before now os i) where
    pub logged_all : length os ≤ i →
        Writes before now (λ rs. rs ≡ flat_map one (map owned_entry os))
    logged_all done =
        writes_as (λ rs. rs ++ flat_map one (map owned_entry (drop i os)) ≡
        flat_map one (map owned_entry os)) (λ rs. rs ≡ flat_map one (map owned_entry os)) before
        now so_far.told
        (λ rs is. sym (append-nil rs) ∙
        ap (λ l. rs ++ flat_map one (map owned_entry l)) (sym (drop_all i os done)) ∙ is)

    module _ (o : Owned) (below : i < length os) (is : o ≡ get_or os i o) where
      next : drop i os ≡ o ∷ drop (i + 1) os
      next = drop_more os i o below ∙ ap (λ v. v ∷ drop (i + 1) os) (sym is)

      pub logged_this : P (owned_entry o)
      logged_this = (subst (λ l. AllByRecursion P (map owned_entry l)) next so_far.left).0

      pub logged_one : (after : List Record) →
          Writes now after (λ rs. rs ≡ one (owned_entry o)) →
          AreLogged one P before after os (i + 1)
      logged_one after this = record {
        told = writes_both (λ rs. rs ++ flat_map one (map owned_entry (drop i os)) ≡
            flat_map one (map owned_entry os)) (λ rs. rs ≡ one (owned_entry o))
            (λ rs. rs ++ flat_map one (map owned_entry (drop (i + 1) os)) ≡
            flat_map one (map owned_entry os)) before now after so_far.told this
            (λ rs ss first then_. append_assoc rs ss
            (flat_map one (map owned_entry (drop (i + 1) os))) ∙
            ap (λ l. rs ++ (l ++ flat_map one (map owned_entry (drop (i + 1) os)))) then_
            ∙ ap (λ l. rs ++ flat_map one (map owned_entry l)) (sym next) ∙ first);
        left = (subst (λ l. AllByRecursion P (map owned_entry l)) next so_far.left).1;
      }

pub live_call_good : (n at : ℕ) (c : Call) (r : Reply) (last : Option Kind) → IsNumber n →
    at < 256 → IsAskedEntry widest (Asked (record { at = at; call = c; reply = r })) → FitsCall c →
    FitsReply r →
    IsRecord last (Record.LiveCall (call_record n at c r (inverse_of c r)))
live_call_good n at c r last number few asked fits_call fits_reply = record {
  fits = record {
    number = let h = number.below in
        omega arith;
    collection = few;
    call = fits_call;
    reply = fits_reply;
    inverse = inverse_fits c r asked.0 fits_call fits_reply;
  };
  suits = tt;
  sound = record { number = number; asked = asked.0; answered = asked.2; undone = refl };
}

-- A copy of its parts has the same record.
pub live_call_same : (n at : ℕ) (c d : Call) (r q : Reply) (o p : Option Call) → d ≡ c → q ≡ r →
    p ≡ o → Record.LiveCall (call_record n at d q p) ≡ Record.LiveCall (call_record n at c r o)
live_call_same n at c d r q o p call reply back =
    ap (λ v. Record.LiveCall (call_record n at v q p)) call ∙
    ap (λ v. Record.LiveCall (call_record n at c v p)) reply ∙
    ap (λ v. Record.LiveCall (call_record n at c r v)) back

pub live_later_good : (n at : ℕ) (c : Call) (last : Option Kind) → IsNumber n → at < 256 →
    Deferrable c → IsRecord last (Record.LiveLater
    (record { number = n; collection = at; call = c }))
live_later_good n at c last number few deferred =
    let later = later_is_record last n at c number few deferred in
    record { fits = later.fits; suits = tt; sound = later.sound }

-- ---- what an image tells of live transactions

later_are : (o : Option Bool) (l : LaterRecord) (rs : List Record) →
    AllByRecursion IsLiveRecord rs →
    AllByRecursion IsLiveRecord (unless_falling o (Record.LiveLater l) ++ rs)
later_are (Some true) l rs are = are
later_are (Some false) l rs are = (tt, are)
later_are None l rs are = (tt, are)

call_are : (b : Bool) (c : CallRecord) (rs : List Record) → AllByRecursion IsLiveRecord rs →
    AllByRecursion IsLiveRecord (unless_read b (Record.LiveCall c) ++ rs)
call_are true c rs are = are
call_are false c rs are = (tt, are)

pub live_are : (live : Statuses) (es : List (ℕ × Entry)) →
    AllByRecursion IsLiveRecord (flat_map (live_record live) es)
live_are live [] = tt
live_are live ((n, Asked e) ∷ es) =
    call_are (reads e.call e.reply) (call_record n e.at e.call e.reply (inverse_of e.call e.reply))
    (flat_map (live_record live) es) (live_are live es)
live_are live ((n, Deferred at c) ∷ es) =
    later_are (maps.get live n) (record { number = n; collection = at; call = c })
    (flat_map (live_record live) es) (live_are live es)

-- The records that tell of live transactions, written behind none.
module _ (live : Statuses) (es : List (ℕ × Entry)) (mid all : List Record)
    (begun : Writes [] mid (TellsLive live))
    (asked : Writes mid all (λ rs. rs ≡ flat_map (live_record live) es)) where
  live_all : all ≡ begun.written ++ asked.written
  live_all = asked.are ∙ ap (λ l. l ++ asked.written) begun.are

  pub live_told : TellsTransactions live es all
  live_told = record {
    numbers = begun.is.numbers;
    rise = begun.is.rise;
    are_live = begun.is.are_live;
    are = live_all ∙ ap (λ l. l ++ asked.written) begun.is.are ∙
        ap (λ l. map Record.Begin begun.is.numbers ++ l) asked.is;
  }

  pub live_good : (last : Option Kind) → AreRecords last all
  live_good = subst (λ rs. (last : Option Kind) → AreRecords last rs) (sym live_all)
      (good_append begun.written asked.written begun.good asked.good)

-- ---- the whole image

module _ (format : Format) (next wear : ℕ) (xs : List Collection) (live : List Record) where
  marks_good : CanStand next wear live → (last : Option Kind) →
      IsRecord last (Record.Marks format next wear)
  marks_good can last = record {
    fits = (
      let high = can.high in
          omega arith,
      can.worn,
    );
    suits = tt;
    sound = (can.low, can.high);
  }

  end_good : (last : Option Kind) → IsRecord last Record.ImageEnd
  end_good last = record { fits = tt; suits = tt; sound = tt }

  pub whole_writes : (a b c d e : List Record) → CanStand next wear live →
      b ≡ a ++ Record.Marks format next wear ∷ [] → Writes b c (TellOf xs) → d ≡ c ++ live →
      e ≡ d ++ Record.ImageEnd ∷ [] → Writes a e (TellsGathered format next wear xs live)
  whole_writes a b c d e can image_head told lived end = record {
    written = Record.Marks format next wear ∷ (told.written ++ (live ++ tail));
    are = end ∙ ap (λ l. l ++ tail) lived ∙ append_assoc c live tail ∙
        ap (λ l. l ++ (live ++ tail)) told.are ∙ append_assoc b told.written (live ++ tail) ∙
        ap (λ l. l ++ (told.written ++ (live ++ tail))) image_head ∙
        append_assoc a (Record.Marks format next wear ∷ []) (told.written ++ (live ++ tail));
    good = λ last. (
      marks_good can last,
      good_append told.written (live ++ tail) told.good
          (good_append live tail can.good (λ kind. (end_good kind, tt))) last,
    );
    is = record { told = told.written; tells = told.is; is = refl };
  }
    where
      tail : List Record
      tail = Record.ImageEnd ∷ []

-- The records that were written behind none are those of the blocks.
module _ (P : List Record → Type 0) (some : (rs : List Record) → P rs → 0 < length rs)
    (groups before : List (List Record))
    (writes : Writes (joined before) (joined groups) P) where
  pub packed_of : (blocks : List (Vec ℕ Global)) → joined before ≡ [] →
      AreWhole blocks groups → ArePacked groups → AllByRecursion (λ g. 0 < length g) groups →
      IsPacked P blocks
  packed_of blocks none whole packed full =
      let all : joined groups ≡ writes.written = writes.are ∙ ap (λ l. l ++ writes.written) none in
      record {
        groups = groups;
        tells = subst P (sym all) writes.is;
        good = subst (AreRecords None) (sym all) (writes.good None);
        packed = (packed, full);
        whole = whole;
      }

-- What was gathered of a state tells of it.
pub tells_state : {S : Type 0} (collections : S → List Collection) (next : ℕ) (s : State S)
    (live : List Record) → TellsTransactions s.live s.entries live → (rs : List Record) →
    TellsGathered s.format next s.wear (collections s.now) live rs →
    TellsState collections next s rs
tells_state collections next s live told rs tells = record {
  numbers = told.numbers;
  are_live = told.are_live;
  is_image = record {
    told = tells.told;
    tells = tells.tells;
    rise = told.rise;
    all_live = live_are s.live s.entries;
    is = tells.is ∙
        ap (λ l. Record.Marks s.format next s.wear ∷ (tells.told ++ (l ++ Record.ImageEnd ∷ [])))
        told.are ∙
        ap (λ l. Record.Marks s.format next s.wear ∷ (tells.told ++ l))
        (append_assoc (map Record.Begin told.numbers) (live_records s) (Record.ImageEnd ∷ []));
  };
}

pub state_some : {S : Type 0} (collections : S → List Collection) (next : ℕ) (s : State S)
    (rs : List Record) → TellsState collections next s rs → 0 < length rs
state_some collections next s rs tells = omega (arith, ap length tells.is_image.is)
