-- A copy of a collection and a freeze keep what lies under the journal's lock.
use Rattle.std.proofs.Common.{◌⊎◌, ⊎_elim}
use Rattle.std.proofs.Common.{◌≡◌, ◌∙◌, inl, inr, ℕ, List, [], ◌∷◌, ◌++◌, Bool, Option, Some, None}
use Rattle.std.proofs.Common.{Result, Ok, Err}
use Rattle.std.proofs.Common.{OnOk, IfOk, IfErr, length, slice_get, refl, sym, ap, subst}
use Rattle.std.specs.Option.{option_map, unwrap_or}
use Rattle.std.proofs.lemmas.Option.{slice_get-map}
use Rattle.calls.specs.declared.refusal.Refusal.{Refusal}
use Rattle.calls.specs.Contents.{Content, Collection}
use Rattle.disk_model.specs.declared.disk.Disk as disks
use Rattle.boosted.specs.Meaning.{Meaning}
use Rattle.catalog.specs.declared.four.Four.{Four}
use Rattle.catalog.specs.Fours.{Which, which_of, pick, put}
use Rattle.catalog.specs.Laws.Numbers.{put_pick}
use Rattle.catalog.specs.Making.{Making}
use Rattle.catalog.specs.Shelving.{ShelfLaws, CopyRefused}
use Rattle.catalog.specs.Woven.{Label, names_in}
use Rattle.steps.specs.Shelves.{ShelfState}
use Rattle.images.specs.Gathers.{GatherState, Repeats, caught_up}
use Rattle.images.specs.Gatherings.{CanGoOn, GoesAlong}
use Rattle.txn.specs.declared.actions.Action.{Action}
use Rattle.txn.specs.Books.{BookState, lsn}
use Rattle.txn.specs.Freezing.{IsGatheredOf, BookGathers, FreezeAnswers}
use Rattle.txn.specs.Parts.{IsCopy, IsGivenNext, GathersOn}
use Rattle.txn.specs.Shelved.{JournalState, book_state, IsBook}
use Rattle.txn.proofs.Copying.{only_memory, below_named}
use Rattle.txn.proofs.Handings.{frozen_not}
use Rattle.checkpoint.specs.Keepers.{KeeperState}
use Rattle.engine.proofs.Packed.{repeats_none}
use Rattle.group_commit.specs.Accords.{AccordState}
use Rattle.images.specs.Gathers.{nothing_gathered}
use Rattle.group_commit.specs.Lines as lines
use Rattle.group_commit.specs.Lines.{stepped}
use Rattle.group_commit.specs.Orders.{SenderState}
use Rattle.group_commit.specs.Twins.{EndState}
use Rattle.desks.specs.declared.naming.Naming.{Ghosts}
use Rattle.desks.specs.declared.touch.Touch.{Touch}
use Rattle.desks.specs.Desks.{IsDesk}
use Rattle.desks.specs.Notes.{alone}
use Rattle.desks.specs.Told.{told_book}
use Rattle.desks.specs.Touches.{Leads, IsJournalDesk}
use Rattle.desks.proofs.Telling.{along_told, gathered_back}
use Rattle.desks.proofs.Touching.{known_is}
use Rattle.store.specs.Gatherers.{GathererState, IsKnown, IsGatherer, IsGivenTo}
use Rattle.store.specs.Gatherers.{as_next, Froze, left_gathered}
use Rattle.engine.specs.Gatherings.{unless_outrun}
use Rattle.engine.proofs.Packed.{outrun_or, outrun_unfrozen}
use Rattle.store.specs.Turns.{IsCopyRefusal, IsFreezeRefusal}
use Rattle.store.proofs.Freezes.{desk_gathers}
use Rattle.store.proofs.Gathers.{known_of_book, copied_of_book, repeats_both}

-- ---- a copy

module _ {J S T N P : Type 0} (j : Ghosts J) {labels : N → List Label}
    {holds : T → ℕ → Content → Type 0} {collection : P → Collection} {meaning : Meaning S ℕ}
    {making : Making S} {collections : S → List Collection} {whole : N → Four T → S}
    {fits : N → Four T → Type 0} (k : JournalState N)
    (nears : Four (EndState (Touch (ShelfState T)))) (seat : lines.BookState)
    (sender : SenderState) (near far : AccordState) (g : GatherState)
    (part : Result (Option P) Refusal)
    (given : IsGivenTo j labels holds collection meaning making collections whole fits k nears seat
    sender near g part) (same : near.gather ≡ far.gather) (known : IsKnown far g)
    (unfrozen : g.frozen ≡ None) where
  -- the book, as its named collections tell of it
  abbrev told : JournalState N → BookState (List Collection)
  told l = told_book collections (book_state whole l given.desk.shelves)

  of_told : IsGatheredOf (λ v. v) (told k) g
  of_told = known_of_book (told k) far g
      (subst (IsGatheredOf (λ v. v) (told k)) same given.desk.desk.gathered) known unfrozen

  -- What is gone on with is of the book,
  pub given_next : IsGivenNext labels holds collection meaning making collections whole fits k
      given.desk.shelves g part
  given_next = record {
    book = given.desk.known.book;
    gathered = gathered_back collections (book_state whole k given.desk.shelves) g of_told;
    copied = given.copied;
    refused = given.refused;
  }

  module _ (r : Result Bool Refusal) (l : JournalState N) (h : GatherState)
      (on : GathersOn labels holds collection meaning making collections whole fits k
      given.desk.shelves g r l h) where
    along : (r : Result Bool Refusal) → OnOk r (GoesAlong collections l.gathering
        (book_state whole l given.desk.shelves).state.now
        (lsn (book_state whole l given.desk.shelves)) h) →
        OnOk r (GoesAlong (λ v. v) l.gathering (told l).state.now (lsn (told l)) h)
    along (Ok more) goes = along_told collections _ _ _ _ goes
    along (Err e) goes = tt

    -- is so still,
    pub still : IsGatheredOf (λ v. v) (told l) h × (h.frozen ≡ None)
    still = copied_of_book (told k) (told l) g h r
        (on.answer.0, ap (told_book collections) on.answer.1) (along r on.along) unfrozen of_told

    -- and the journal is of the store.
    pub gathered_on : (now : lines.BookState) (after : AccordState) →
        now ≡ stepped seat (alone (Action.Gather r)) →
        after ≡ record { table = near.table; gather = h } →
        IsJournalDesk j meaning making collections whole fits l nears now sender after
    gathered_on now after now_is after_is = record {
      shelves = given.desk.shelves;
      known = record {
        tables = given.desk.known.tables;
        leads = given.desk.known.leads;
        book = on.kept;
      };
      format = ap (λ (b : BookState S). b.state.format) on.answer.1 ∙ given.desk.format;
      desk = desk_gathers j (told k) seat sender near given.desk.desk r (told l) now after
          (ap (told_book collections) on.answer.1) now_is
          (ap (λ (a : AccordState). a.table) after_is)
          (subst (IsGatheredOf (λ v. v) (told l))
          (sym (ap (λ (a : AccordState). a.gather) after_is)) still.0);
    }

-- Why a copy is refused.
pub gather_refused : {S : Type 0} (collections : S → List Collection) (b c : BookState S)
    (g h : GatherState) (r : Result Bool Refusal) → BookGathers collections b g r c h →
    IfErr r IsCopyRefusal
gather_refused collections b c g h (Ok more) answers = tt
gather_refused collections b c g h (Err Refusal.Outrun) answers = tt
gather_refused collections b c g h (Err Refusal.Worn) answers = tt
gather_refused collections b c g h (Err Refusal.NoMemory) answers = tt
gather_refused collections b c g h (Err e) answers = absurd answers.0

-- What is gathered is known, where it is not frozen.
pub holds_known : {J : Type 0} (j : Ghosts J) (far of_keeper : AccordState) (g : GatherState) →
    far ≡ record { table = j.gathering; gather = g } → of_keeper.table ≡ j.awaited →
    g.frozen ≡ None → IsGatherer j (record { gather = g; of_book = far; of_keeper = of_keeper })
holds_known j far of_keeper g is awaited unfrozen = record {
  gathering = ap (λ (a : AccordState). a.table) is;
  awaited = awaited;
  unfrozen = λ none. inr (subst (λ v. Repeats v g) (sym (ap (λ (a : AccordState). a.gather) is))
      (repeats_none g));
  frozen = λ some. absurd (some unfrozen);
}

empty_both : {X : Type 0} (xs ys : List X) → [] ≡ xs ++ ys → (xs ≡ []) × (ys ≡ [])
empty_both [] [] none = (refl, refl)
empty_both [] (y ∷ ys) none = absurd cc
empty_both (x ∷ xs) ys none = absurd cc

-- Nothing comes of nothing.
nothing_repeated : (h : GatherState) → Repeats nothing_gathered h → h ≡ nothing_gathered
nothing_repeated h repeats =
    let none = empty_both repeats.repeated.done h.effects repeats.repeated.are in
    λ i. record {
      mark = repeats.mark i;
      parts = (repeats.repeated.is ∙ ap (λ es. caught_up [] es) none.0) i;
      effects = none.1 i;
      frozen = repeats.frozen i;
    }

-- What is known is known still where calls of it are repeated.
pub repeated_known : {J : Type 0} (j : Ghosts J) (s : GathererState) (h : GatherState) →
    IsGatherer j s → s.gather.frozen ≡ None → Repeats s.gather h →
    IsGatherer j (record { gather = h; of_book = s.of_book; of_keeper = s.of_keeper })
repeated_known j s h is unfrozen repeats = record {
  gathering = is.gathering;
  awaited = is.awaited;
  unfrozen = λ none. known (is.unfrozen unfrozen);
  frozen = λ some. absurd (some (repeats.frozen ∙ unfrozen));
}
  where
    known : IsKnown s.of_book s.gather → IsKnown s.of_book h
    known (inl new) = inl (nothing_repeated h (subst (λ v. Repeats v h) new repeats))
    known (inr before) = inr (repeats_both s.of_book.gather s.gather h before repeats)

-- ---- what is given to the journal

named : (o : Option Label) (n : List ℕ) → option_map (λ x. x.name) o ≡ Some n →
    (x : Label) × (o ≡ Some x) × (x.name ≡ n)
named None n is = absurd cc
named (Some x) n is = (x, refl, ap (λ o. unwrap_or o n) is)

module _ {J S T N P : Type 0} (j : Ghosts J) {labels : N → List Label}
    {meaning : Meaning S ℕ} {making : Making S} {collections : S → List Collection}
    {whole : N → Four T → S} {fits : N → Four T → Type 0} {shelf : Meaning T ℕ} {index : T → Which}
    {holds : T → ℕ → Content → Type 0} (collection : P → Collection)
    (laws : ShelfLaws labels whole fits meaning making collections shelf index holds)
    (k : JournalState N) (nears : Four (EndState (Touch (ShelfState T)))) (seat : lines.BookState)
    (sender : SenderState) (near : AccordState) (g : GatherState)
    (desk : IsJournalDesk j meaning making collections whole fits k nears seat sender near) where
  -- Nothing is given, or there was no memory for a name.
  pub given_none : (part : Result (Option P) Refusal) →
      ((f : Four (ShelfState T)) → CanGoOn k.gathering g →
      IfOk part (IsCopy labels holds collection k.names f (length g.parts))) →
      IfErr part (λ e. e ≡ Refusal.NoMemory) →
      IsGivenTo j labels holds collection meaning making collections whole fits k nears seat sender
      near g part
  given_none part copied refused =
      record { desk = desk; copied = copied desk.shelves; refused = refused }

  module _ (at : ℕ) (n : List ℕ) (s : ShelfState T) (known : Leads (pick nears (which_of at)) s)
      (there : slice_get (names_in (labels k.names)) at ≡ Some n) (next : at ≡ length g.parts) where
    -- what the shelf holds is what the journal's side knows
    here : s ≡ pick desk.shelves (which_of at)
    here = known_is (pick nears (which_of at)) s (pick desk.shelves (which_of at)) known
        (desk.known.leads (which_of at))

    name_at : option_map (λ x. x.name) (slice_get (labels k.names) at) ≡ Some n
    name_at = sym (slice_get-map (λ x. x.name) (labels k.names) at) ∙ there

    one_copied : (p : P) → holds s.now at (collection p).content → (collection p).name ≡ n →
        IsCopy labels holds collection k.names desk.shelves at (Some p)
    one_copied p held name = let x = named (slice_get (labels k.names) at) n name_at in (
      x.0,
      x.1,
      name ∙ sym x.2,
      subst (λ (t : ShelfState T). holds t.now at (collection p).content) here held,
    )

    copies : (part : Result P Refusal) →
        IfOk part (λ p. holds s.now at (collection p).content) →
        IfOk part (λ p. (collection p).name ≡ n) →
        IfOk (as_next part) (IsCopy labels holds collection k.names desk.shelves (length g.parts))
    copies (Ok p) held name =
        subst (λ i. IsCopy labels holds collection k.names desk.shelves i (Some p)) next
        (one_copied p held name)
    copies (Err e) held name = tt

    hungry : (part : Result P Refusal) → IfErr part (CopyRefused (holds s.now at)) →
        IfErr (as_next part) (λ e. e ≡ Refusal.NoMemory)
    hungry (Ok p) why = tt
    hungry (Err e) why = only_memory collection laws k.names desk.shelves at e
        desk.known.book.joined.fit
        (below_named (labels k.names) at n name_at)
        (subst (λ (t : ShelfState T). CopyRefused (holds t.now at) e) here why)

    -- A copy is given of the collection that has the number, made of what its shelf holds.
    pub given_copy : (part : Result P Refusal) →
        IfOk part (λ p. holds s.now at (collection p).content) →
        IfOk part (λ p. (collection p).name ≡ n) →
        IfErr part (CopyRefused (holds s.now at)) →
        IsGivenTo j labels holds collection meaning making collections whole fits k nears seat
        sender near g (as_next part)
    given_copy part held name why = record {
      desk = desk;
      copied = λ can. copies part held name;
      refused = hungry part why;
    }

-- ---- the near ends

-- An end that was compared is as before, and so are the four.
pub put_back : {T : Type 0} (f : Four T) (w : Which) (x : T) → x ≡ pick f w → put f w x ≡ f
put_back f w x here = ap (put f w) here ∙ put_pick f w

-- ---- a freeze

none_some : {X : Type 0} (x : X) → ◌≡◌ {A = Option X} None (Some x) → ⊥
none_some x both = cc

same_refusal : (d e : Refusal) → ◌≡◌ {A = Result (Unit {0}) Refusal} (Err d) (Err e) → d ≡ e
same_refusal d e both = cc

refused_same : (b c : BookState (List Collection)) (m n : GatherState) (d : Refusal) →
    FreezeAnswers (λ v. v) b m (Err d) c n → n ≡ m
refused_same b c m n Refusal.NoMemory froze = froze.2
refused_same b c m n Refusal.Unfinished froze = froze.2
refused_same b c m n Refusal.Outrun froze = froze.2
refused_same b c m n d froze = absurd froze.0

refused_so : (b c : BookState (List Collection)) (m n : GatherState) (d : Refusal) →
    FreezeAnswers (λ v. v) b m (Err d) c n → IsFreezeRefusal d
refused_so b c m n Refusal.NoMemory froze = tt
refused_so b c m n Refusal.Unfinished froze = tt
refused_so b c m n Refusal.Outrun froze = tt
refused_so b c m n d froze = absurd froze.0

-- What is refused leaves what was gathered, or nothing.
pub froze_left : {D : Type 0} (g : disks.Ghosts D) (b c : BookState (List Collection))
    (k l : KeeperState D) (m n h : GatherState) (frozen : Result (Unit {0}) Refusal)
    (e : Refusal) → Froze g b k m frozen (Err e) c l n → m.frozen ≡ None →
    h ≡ left_gathered frozen (Err e) n →
    (h.frozen ≡ None) × ((h ≡ m) ⊎ (h ≡ nothing_gathered))
froze_left g b c k l m n h (Ok done) e froze none left =
    (ap (λ (v : GatherState). v.frozen) left, inr left)
froze_left g b c k l m n h (Err d) e froze none left =
    let is : h ≡ unless_outrun m.frozen d m =
    left ∙ ap (λ (v : GatherState). unless_outrun v.frozen d v) (refused_same b c m n d froze.0) in (
      ap (λ (v : GatherState). v.frozen) is ∙ outrun_unfrozen m.frozen d m none,
      ⊎_elim (λ same. inl (is ∙ same)) (λ gone. inr (is ∙ gone)) (outrun_or m.frozen d m),
    )

-- What is not refused stays.
pub froze_held : {D : Type 0} (g : disks.Ghosts D) (b c : BookState (List Collection))
    (k l : KeeperState D) (m n h : GatherState) (frozen : Result (Unit {0}) Refusal) →
    Froze g b k m frozen (Ok tt) c l n → h ≡ left_gathered frozen (Ok tt) n → h ≡ n
froze_held g b c k l m n h (Ok done) froze left = left
froze_held g b c k l m n h (Err d) froze left = absurd (no_ok d froze.1)
  where
    no_ok : (d : Refusal) → ◌≡◌ {A = Result (Unit {0}) Refusal} (Ok tt) (Err d) → ⊥
    no_ok d both = absurd cc

-- Why a freeze is refused.
pub froze_refused : {D : Type 0} (g : disks.Ghosts D) (b c : BookState (List Collection))
    (k l : KeeperState D) (m n : GatherState) (frozen : Result (Unit {0}) Refusal) (e : Refusal) →
    Froze g b k m frozen (Err e) c l n → IsFreezeRefusal e
froze_refused g b c k l m n (Ok done) Refusal.Failed froze = tt
froze_refused g b c k l m n (Ok done) Refusal.Imaging froze = tt
froze_refused g b c k l m n (Ok done) e froze = absurd froze.1
froze_refused g b c k l m n (Err d) e froze =
    subst IsFreezeRefusal (sym (same_refusal e d froze.1)) (refused_so b c m n d froze.0)

-- What is not refused is frozen.
pub froze_some : {D : Type 0} (g : disks.Ghosts D) (b c : BookState (List Collection))
    (k l : KeeperState D) (m n : GatherState) (frozen : Result (Unit {0}) Refusal) →
    Froze g b k m frozen (Ok tt) c l n → n.frozen ≡ None → ⊥
froze_some g b c k l m n (Ok done) froze none =
    let holds = froze.0.1 in none_some holds.frozen (sym none ∙ holds.is_frozen)
froze_some g b c k l m n (Err d) froze none = no_ok d froze.1
  where
    no_ok : (d : Refusal) → ◌≡◌ {A = Result (Unit {0}) Refusal} (Ok tt) (Err d) → ⊥
    no_ok d both = absurd cc

-- The format stays.
pub froze_format : {D : Type 0} (g : disks.Ghosts D) (b c : BookState (List Collection))
    (k l : KeeperState D) (m n : GatherState) (frozen r : Result (Unit {0}) Refusal) →
    Froze g b k m frozen r c l n → c.state.format ≡ b.state.format
froze_format g b c k l m n (Ok done) r froze =
    ap (λ (v : BookState (List Collection)). v.state.format) froze.0.2
froze_format g b c k l m n (Err e) r froze =
    ap (λ (v : BookState (List Collection)). v.state.format)
    (frozen_not (λ v. v) b c m n e froze.0)

module _ {J S T N : Type 0} (j : Ghosts J) {meaning : Meaning S ℕ} {making : Making S}
    {collections : S → List Collection} {whole : N → Four T → S} {fits : N → Four T → Type 0}
    (k : JournalState N) (nears : Four (EndState (Touch (ShelfState T)))) (seat : lines.BookState)
    (sender : SenderState) (near : AccordState)
    (desk : IsJournalDesk j meaning making collections whole fits k nears seat sender near) where
  abbrev told_of : JournalState N → BookState (List Collection)
  told_of l = told_book collections (book_state whole l desk.shelves)

  -- What is gathered is of the book,
  pub gathered_there : (far : AccordState) (g : GatherState) → near.gather ≡ far.gather →
      IsKnown far g → g.frozen ≡ None →
      IsGatheredOf collections (book_state whole k desk.shelves) g
  gathered_there far g same known unfrozen =
      gathered_back collections (book_state whole k desk.shelves) g
      (known_of_book (told_of k) far g
      (subst (IsGatheredOf (λ v. v) (told_of k)) same desk.desk.gathered) known unfrozen)

  -- and the journal is of the store behind a freeze.
  pub frozen_on : {D : Type 0} (g : disks.Ghosts D) (keeper after : KeeperState D)
      (m n : GatherState) (frozen r : Result (Unit {0}) Refusal) (l : JournalState N)
      (now : lines.BookState) (sent : SenderState) (there : AccordState) →
      Froze g (told_of k) keeper m frozen r (told_of l) after n →
      IsBook meaning making collections whole fits l desk.shelves →
      IsDesk j (told_of l) now sent there →
      IsJournalDesk j meaning making collections whole fits l nears now sent there
  frozen_on g keeper after m n frozen r l now sent there froze book is = record {
    shelves = desk.shelves;
    known = record { tables = desk.known.tables; leads = desk.known.leads; book = book };
    format = froze_format g (told_of k) (told_of l) keeper after m n frozen r froze ∙ desk.format;
    desk = is;
  }
