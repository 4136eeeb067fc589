-- A copy of a collection and a freeze keep what lies under the locks; what a closed store leaves.
use Rattle.std.proofs.Common.{◌≡◌, inl, inr, ℕ, ◌+◌, ◌≤◌, Bool, true, false, None, Result, Ok}
use Rattle.std.proofs.Common.{Err, List}
use Rattle.std.proofs.Common.{[], ◌∷◌, ◌++◌, length, refl, sym, ap, ◌∙◌, subst, arith}
use Rattle.std.proofs.Common.{length-append, append_assoc}
use Rattle.std.proofs.Common.{◌⊎◌, ◌<◌}
use Rattle.std.specs.Prelude.{All, Contains}
use Rattle.std.specs.Option.{option_map}
use mathlib.Core.List.{IsPrefix}
use Rattle.std.proofs.lemmas.List.{append-nil}
use Rattle.std.proofs.lemmas.List.Elements.{All-tail, All-contains}
use Rattle.calls.specs.Contents.{Collection}
use Rattle.calls.specs.declared.refusal.Refusal.{Refusal}
use Rattle.disk_model.specs.declared.disk.Disk as disks
use Rattle.records.specs.declared.record.Record.{Record}
use Rattle.records.specs.Acts.{places}
use Rattle.records.specs.Short.{AreShort}
use Rattle.records.specs.declared.block.Block.{Block}
use Rattle.records.specs.declared.block.Image.{Image}
use Rattle.records.specs.Carried.{Carries}
use Rattle.records.specs.Packings.{joined}
use Rattle.records.proofs.Carrying.{joined-append, carries_parts}
use Rattle.images.specs.declared.gather.ImageHead.{ImageHead}
use Rattle.images.specs.Gathers.{GatherState, FrozenState, Packs}
use Rattle.images.specs.Gatherings.{HoldsAll, IsUnderWay}
use Rattle.images.proofs.Going.{holds_image}
use Rattle.steps.specs.Machine as machine
use Rattle.steps.specs.Machine.{journalled}
use Rattle.steps.specs.Sound.{IsSound}
use Rattle.replay.specs.Journals.{records_in}
use Rattle.txn.specs.declared.actions.Action.{Action}
use Rattle.txn.specs.declared.actions.BookStep.{BookStep}
use Rattle.txn.specs.Books.{BookState, standing, lsn, IsKept}
use Rattle.txn.specs.Freezing.{IsGatheredOf, IsImageOf, FreezeAnswers}
use Rattle.txn.specs.Handing.{HasHanded}
use Rattle.txn.specs.Histories.{records_by, committed_by}
use Rattle.txn.proofs.Handings.{records_by-push, gathers_on, frozen_not, freezes_gathered}
use Rattle.txn.proofs.Handings.{freezes_nothing}
use Rattle.boosted.specs.Meaning.{Meaning}
use Rattle.catalog.specs.Making.{Making}
use Rattle.catalog.specs.Meaning.{catalog_meaning, catalog_making}
use Rattle.records.specs.Told.{Tells}
use Rattle.checkpoint.specs.Crash.{Yields, YieldsUpTo, committed_of}
use Rattle.checkpoint.specs.ImageAnswers.{HoldAnswers}
use Rattle.checkpoint.specs.Keepers.{KeeperState}
use Rattle.checkpoint.specs.Keeping.{BegunImage, IsApart, Uncrossed, HasReceived, HoldKeeps}
use Rattle.checkpoint.proofs.GroupLemmas.{uncrossed_front}
use Rattle.checkpoint.proofs.ReceivedLemmas.{mark_few}
use Rattle.recovery.proofs.FrozenBooks as freezes
use Rattle.engine.proofs.KeeperLemmas.{held_same}
use Rattle.engine.specs.Gatherings.{IsHeadOf, IsHeld, HoldsOn}
use Rattle.engine.proofs.Packed.{repeats_none, one_head}
use Rattle.engine.proofs.KeeperLemmas.{none_crossed}
use Rattle.recovery.proofs.CommittedReads.{comes_to, history_yields}
use Rattle.group_commit.specs.Accords.{AccordState}
use Rattle.group_commit.specs.Lines as lines
use Rattle.group_commit.specs.Lines.{stepped}
use Rattle.group_commit.specs.Histories.{AreCounted}
use Rattle.clients.specs.Known.{SeenState}
use Rattle.group_commit.specs.declared.mark.Raised.{Raised}
use Rattle.group_commit.specs.Marks.{KeeperMark, AreReached, AreNoted, HasCome, top, unraised}
use Rattle.group_commit.proofs.Marking.{noted_reached}
use Rattle.group_commit.specs.Orders.{SenderState, ReceiverState, AreInTransit, noting, noting_too}
use Rattle.desks.specs.declared.naming.Naming.{Ghosts}
use Rattle.desks.specs.Desks.{AreRecorded, IsDesk, PacksImages, frozen_end, frozen_ends}
use Rattle.desks.specs.Notes.{alone}
use Rattle.desks.specs.Told.{told_book}
use Rattle.desks.proofs.Telling.{kept_told}
use Rattle.desks.proofs.Owning.{owned_alone}
use Rattle.store.specs.Closing.{Closes}
use Rattle.store.specs.Gatherers.{Froze, left_gathered}
use Rattle.store.specs.Vaults.{LeavesSince, IsVault, IsKeptSince}
use Rattle.store.proofs.Causes.{hold_caused}
use Rattle.store.proofs.VaultSteps.{leaves_on, kept_on}

abbrev Book : Type 0
Book = BookState (List Collection)

-- two lists of groups that one list of blocks carries have as many records
carried_length : (end place : ℕ) (bs : List Block) (gs hs : List (List Record)) →
    Carries end place bs gs → Carries end place bs hs → length (joined gs) ≡ length (joined hs)
carried_length end place [] [] [] a b = refl
carried_length end place [] (g ∷ gs) hs a b = absurd a
carried_length end place [] [] (h ∷ hs) a b = absurd b
carried_length end place (x ∷ bs) [] hs a b = absurd a
carried_length end place (x ∷ bs) (g ∷ gs) [] a b = absurd b
carried_length end place (x ∷ bs) (g ∷ gs) (h ∷ hs) a b =
    let size : length g ≡ length h = omega (arith, a.0.end_is, b.0.end_is) in
    let same : places g ≡ places h = omega (arith, a.0.place_is, b.0.place_is) in
    omega (
      arith,
      size,
      length-append g (joined gs),
      length-append h (joined hs),
      carried_length (end + length g) (place + places g) bs gs hs a.1
          (subst (λ n. Carries n (place + places g) bs hs) (ap (λ n. end + n) (sym size))
          (subst (λ n. Carries (end + length h) n bs hs) (ap (λ n. place + n) (sym same)) b.1)),
    )

reached_more : (counts : List Raised) (m n : ℕ) → m ≤ n → AreReached counts m → AreReached counts n
reached_more counts m n less all k x at = let one = all k x at in omega (arith, less, one)

-- ---- the book

module _ {J : Type 0} (j : Ghosts J) where
  -- The next collection is copied, or that is refused.
  pub desk_gathers : (book : Book) (seat : lines.BookState) (sender : SenderState)
      (near : AccordState) → IsDesk j book seat sender near → (r : Result Bool Refusal)
      (c : Book) (now : lines.BookState) (after : AccordState) →
      c ≡ record book { gathering = c.gathering } →
      now ≡ stepped seat (alone (Action.Gather r)) → after.table ≡ near.table →
      IsGatheredOf (λ v. v) c after.gather → IsDesk j c now sender after
  desk_gathers book seat sender near is r c now after same now_is table of =
      let step = alone (Action.Gather r) in
      let all : records_by (seat.all ++ step ∷ []) ≡ records_by seat.all =
      records_by-push seat.all step ∙ append-nil (records_by seat.all) in
      let state : c.state ≡ book.state = ap (λ (v : Book). v.state) same in
      rw now_is (record {
        line = is.line;
        handoff = is.handoff;
        gathering = table ∙ is.gathering;
        gathered = of;
        groups = is.groups;
        handed = gathers_on catalog_meaning catalog_making (λ v. v) j.origin.format j.origin.start
            j.origin.wear seat.all
            book c
            sender.sent is.groups (frozen_ends sender.noted) [] is.handed None r same;
        owned = owned_alone seat.all step.action is.owned refl refl;
        recorded = λ s. rw (all, state) (is.recorded s);
      })

  -- where the book refuses a freeze, all is as it was
  desk_refused : (book : Book) (seat : lines.BookState) (sender : SenderState)
      (near : AccordState) → IsDesk j book seat sender near → (m n : GatherState) (c : Book)
      (e : Refusal) (r : Result (Unit {0}) Refusal) (now : lines.BookState) →
      FreezeAnswers (λ v. v) book m (Err e) c n → now ≡ stepped seat (alone (Action.Freeze r)) →
      IsDesk j c now sender near
  desk_refused book seat sender near is m n c e r now froze now_is =
      let step = alone (Action.Freeze r) in
      let all : records_by (seat.all ++ step ∷ []) ≡ records_by seat.all =
      records_by-push seat.all step ∙ append-nil (records_by seat.all) in
      let same : c ≡ book = frozen_not (λ v. v) book c m n e froze in
      rw now_is (record {
        line = is.line;
        handoff = is.handoff;
        gathering = is.gathering;
        gathered = subst (λ b. IsGatheredOf (λ v. v) b near.gather) (sym same) is.gathered;
        groups = is.groups;
        handed = freezes_nothing catalog_meaning catalog_making (λ v. v) j.origin.format
            j.origin.start j.origin.wear
            seat.all
            book c sender.sent is.groups (frozen_ends sender.noted) [] is.handed None m n e froze
            r;
        owned = owned_alone seat.all step.action is.owned refl refl;
        recorded = λ s. rw (all, ap (λ (v : Book). v.state) same) (is.recorded s);
      })

  -- What holds of every book holds of it as its named collections tell of it.
  pub desk_kept : {S : Type 0} {meaning : Meaning S ℕ} {making : Making S}
      {collections : S → List Collection} (told : Tells meaning making collections)
      (sound : machine.State S → Type 0) (b : BookState S) (seat : lines.BookState)
      (sender : SenderState) (near : AccordState) →
      IsDesk j (told_book collections b) seat sender near →
      IsKept meaning making (λ f s. AreShort f (collections s)) sound b →
      IsKept catalog_meaning catalog_making AreShort (IsSound catalog_meaning catalog_making)
      (told_book collections b)
  desk_kept {collections = collections} told sound b seat sender near is kept =
      kept_told told sound b kept
      (comes_to j.origin.format j.origin.start j.origin.wear seat.all
      (standing (told_book collections b))
      is.handed.legal).is_sound

-- ---- both locks

module _ {J D : Type 0} (j : Ghosts J) (g : disks.Ghosts D) where
  module _ (book : Book) (seat : lines.BookState) (sender : SenderState) (near : AccordState)
      (desk : IsDesk j book seat sender near) (k : KeeperState D) (receiver : ReceiverState)
      (mark : KeeperMark) (held : AccordState) (vault : IsVault j g k receiver mark held)
      (transit : List Block) (order : AreInTransit sender.sent receiver.received transit)
      (same : sender.noted ≡ receiver.noted) where
    -- where it was frozen
    abbrev ends : List ℕ
    ends = frozen_ends sender.noted

    -- what was sent
    handed : HasHanded catalog_meaning catalog_making (λ v. v) j.origin.format j.origin.start
        j.origin.wear seat.all book
        (receiver.received ++ transit) desk.groups ends []
    handed = subst (λ bs. HasHanded catalog_meaning catalog_making (λ v. v) j.origin.format
        j.origin.start j.origin.wear
        seat.all book bs desk.groups ends []) order.order desk.handed

    -- what was received of that carries the first records
    parts : (first more : List (List Record)) × (desk.groups ≡ first ++ more) ×
        Carries 0 0 receiver.received first
    parts =
        let p = carries_parts 0 0 receiver.received transit desk.groups handed.carried in
        (p.0, p.1, p.2, p.3)

    begins_all : IsPrefix (records_in parts.0) (records_by seat.all)
    begins_all = (
      records_in parts.1 ++ book.pending,
      sym (append_assoc (records_in parts.0) (records_in parts.1) book.pending) ∙
          ap (λ l. l ++ book.pending)
          (sym (ap records_in parts.2 ∙ joined-append parts.0 parts.1)) ∙ sym handed.records,
    )

    -- the keeper has received it, and begun some images
    module _ (s : j.sound) where
      received : ((begun : List BegunImage) ×
          HasReceived g.seen g.may_leave j.origin.format j.origin.start j.origin.wear
          (records_by seat.all) (journalled book.state) ends begun receiver.received k)
          × LeavesSince j g k.disk (YieldsUpTo j.origin.start (records_by seat.all) 0)
          × All (IsKeptSince j g k (YieldsUpTo j.origin.start (records_by seat.all))) mark.raised
      received =
          let had = vault.received s (records_by seat.all) (journalled book.state) parts.0
          (subst (AreRecorded j.origin.format j.origin.start j.origin.wear (records_by seat.all)
          (journalled book.state))
          same
          (desk.recorded s)) parts.3 begins_all
          (subst (λ gs. Uncrossed (frozen_ends gs) parts.0) same
          (uncrossed_front ends parts.0 parts.1
          (subst (Uncrossed ends) parts.2
          (none_crossed desk.groups book handed.end ends handed.between)))) in (
            subst (λ gs. (begun : List BegunImage) ×
                HasReceived g.seen g.may_leave j.origin.format j.origin.start j.origin.wear
                (records_by seat.all) (journalled book.state) (frozen_ends gs) begun
                receiver.received k) (sym same) had.0,
            had.1,
            had.2,
          )

      abbrev begun : List BegunImage
      begun = received.0.0

      keeps : HasReceived g.seen g.may_leave j.origin.format j.origin.start j.origin.wear
          (records_by seat.all)
          (journalled book.state) ends begun receiver.received k
      keeps = received.0.1

      -- what a stop since the opening left is what some beginning of the history gives
      yields : (bytes : List ℕ) → YieldsUpTo j.origin.start (records_by seat.all) 0 bytes →
          Yields j.origin.start (committed_by seat.all) [] bytes
      yields bytes y =
          history_yields j.origin.format j.origin.start j.origin.wear seat.all (standing book)
          handed.legal 0
          (omega arith) bytes
          y

    pub closes : (left : SeenState) (made : ℕ) → AreCounted left.clients made seat.all →
        AreNoted left.counts mark.raised → Closes j g left made book k
    closes left made counted noted = record {
      steps = seat.all;
      legal = record { legal = handed.legal; owned = desk.owned };
      counted = counted;
      reached = reached_more left.counts (top mark.raised).count k.mark vault.marked
          (noted_reached left.counts mark.raised noted);
      stop = λ s bytes left.
          history_yields j.origin.format j.origin.start j.origin.wear seat.all (standing book)
          handed.legal k.mark
          (mark_few g.seen g.may_leave j.origin.format j.origin.start j.origin.wear
          (records_by seat.all)
          (journalled book.state) ends (begun s) receiver.received k (keeps s)) bytes
          ((keeps s).stop bytes left);
      any_moment = λ s. let since = (received s).1 in record {
        later = since.later;
        each = λ bytes left. yields s bytes (since.each bytes left);
        before = λ t bytes early left. elim (since.before t bytes early left) [
          | inl was ↦ inl was
          | inr now ↦ inr (yields s bytes now)
        ];
      };
      since_told = λ s x some told.
          let come = All-contains (HasCome mark.raised) left.counts x noted some in
          let since = All-contains (IsKeptSince j g k
          (YieldsUpTo j.origin.start (records_by seat.all)))
          mark.raised x (received s).2 (raised_some x mark.raised told come.noted) in record {
            later = since.opened;
            past = since.past;
            each = λ bytes left.
                history_yields j.origin.format j.origin.start j.origin.wear seat.all (standing book)
                handed.legal x.count
                (few s x.count since.within) bytes (since.each bytes left);
          };
    }
      where
        -- no more than were committed
        few : (s : j.sound) (n : ℕ) → n ≤ k.mark → n ≤ length (committed_of (records_by seat.all))
        few s n le =
            let all = mark_few g.seen g.may_leave j.origin.format j.origin.start j.origin.wear
            (records_by seat.all)
            (journalled book.state) ends (begun s) receiver.received k (keeps s) in
            omega (arith, le, all)

        raised_some : (x : Raised) (raised : List Raised) → 0 < x.count →
            (x ≡ unraised) ⊎ Contains raised x → Contains raised x
        raised_some x raised told (inl first) =
            let none : x.count ≡ 0 = ap (λ (y : Raised). y.count) first in
            absurd (omega (arith, told, none))
        raised_some x raised told (inr there) = there

    -- The book is frozen.
    module _ (kept : IsKept catalog_meaning catalog_making AreShort
        (IsSound catalog_meaning catalog_making) book) (m n : GatherState) (c : Book)
        (froze : FreezeAnswers (λ v. v) book m (Ok tt) c n) where
      same_state : c.state ≡ book.state
      same_state = ap (λ (v : Book). v.state) froze.2

      image_of : (image : Image) → Packs n image → IsImageOf (λ v. v) book image
      image_of image packs =
          let is = holds_image (λ v. v) book.next book.places (lsn book) book.state n n image
          froze.1 (repeats_none n) packs in
          record { packed = is.0; end = is.1; place = is.2 }

      -- and whatever is packed of it stands for all records
      packs_images : j.sound → PacksImages j.origin.format j.origin.start j.origin.wear
          (records_by seat.all)
          (journalled book.state) n
      packs_images s image packs =
          let is = image_of image packs in record {
            begun = freezes.begins g j.origin.format j.origin.start j.origin.wear seat.all book
                receiver.received transit
                desk.groups ends ends [] (begun s) k handed (keeps s) kept image is;
            is_for = freezes.is_for g j.origin.format j.origin.start j.origin.wear seat.all book
                receiver.received
                transit
                desk.groups ends ends [] (begun s) k handed (keeps s) kept image is;
            stands = freezes.stands g j.origin.format j.origin.start j.origin.wear seat.all book
                receiver.received
                transit
                desk.groups ends ends [] (begun s) k handed (keeps s) kept image is;
          }

      -- the gathering that was under way is over
      over : IsGatheredOf (λ v. v) c near.gather
      over = record {
        new = desk.gathered.new;
        along = λ under. absurd (none under);
      }
        where
          none : IsUnderWay c.gathering near.gather → ⊥
          none under =
              let both : true ≡ false =
              sym under.1 ∙ ap (λ (v : Book). v.gathering.going) froze.2 in absurd cc

      module _ (r : Result (Unit {0}) Refusal) (now : lines.BookState)
          (now_is : now ≡ stepped seat (alone (Action.Freeze r))) where
        abbrev step : BookStep
        step = alone (Action.Freeze r)

        all_records : records_by (seat.all ++ step ∷ []) ≡ records_by seat.all
        all_records = records_by-push seat.all step ∙ append-nil (records_by seat.all)

        frozen_handed : HasHanded catalog_meaning catalog_making (λ v. v) j.origin.format
            j.origin.start j.origin.wear
            (seat.all ++ step ∷ []) c sender.sent desk.groups (lsn book ∷ ends) []
        frozen_handed = freezes_gathered catalog_meaning catalog_making (λ v. v) j.origin.format
            j.origin.start
            j.origin.wear
            seat.all book c sender.sent desk.groups ends [] desk.handed None m n r froze

        -- its end is not held
        desk_freezes : IsDesk j c now sender near
        desk_freezes =
            let on = frozen_handed in
            rw now_is (record {
              line = desk.line;
              handoff = desk.handoff;
              gathering = desk.gathering;
              gathered = over;
              groups = desk.groups;
              handed = record {
                legal = on.legal;
                good = on.good;
                carried = on.carried;
                records = on.records;
                end = on.end;
                place = on.place;
                are_images = on.are_images;
                between = on.between.1;
              };
              owned = owned_alone seat.all step.action desk.owned refl refl;
              recorded = λ s. rw (all_records, same_state) (desk.recorded s);
            })

        -- its end is held, and it is noted
        desk_notes : IsDesk j c now (noting sender n) near
        desk_notes = rw now_is (record {
          line = desk.line;
          handoff = desk.handoff;
          gathering = desk.gathering;
          gathered = over;
          groups = desk.groups;
          handed = subst (λ p. HasHanded catalog_meaning catalog_making (λ v. v) j.origin.format
              j.origin.start
              j.origin.wear
              (seat.all ++ step ∷ []) c sender.sent desk.groups (p ∷ ends) [])
              (sym (end_is n froze.1)) frozen_handed;
          owned = owned_alone seat.all step.action desk.owned refl refl;
          recorded = λ s.
              let old = desk.recorded s in
              rw (all_records, same_state) (record {
                good = old.good;
                of_book = old.of_book;
                trail = old.trail;
                leads = old.leads;
                trails = old.trails;
                stand = (packs_images s, old.stand);
              });
        })
          where
            end_is : (h : GatherState) → HoldsAll (λ v. v) book.next book.places (lsn book)
                book.state h → frozen_end h.frozen ≡ lsn book
            end_is h holds = ap frozen_end holds.is_frozen ∙
                ap (λ (v : ImageHead). v.end) holds.image_head

      -- What was received, and what is in use, ends before it.
      covers : j.sound → (groups : List (List Record)) → Carries 0 0 receiver.received groups →
          (length (records_in groups) ≤ lsn book) × (k.covered ≤ lsn book)
      covers s groups carried =
          let first = freezes.received_begins g j.origin.format j.origin.start j.origin.wear
          seat.all book
          receiver.received
          transit desk.groups ends ends [] (begun s) k handed (keeps s) kept in
          let size = carried_length 0 0 receiver.received groups first.0 carried first.1 in
          let within = freezes.covers_received g j.origin.format j.origin.start j.origin.wear
          seat.all book
          receiver.received
          transit desk.groups ends ends [] (begun s) k handed (keeps s) kept in (
            omega (arith, size, within),
            freezes.covers_use g j.origin.format j.origin.start j.origin.wear seat.all book
                receiver.received transit
                desk.groups ends ends [] (begun s) k handed (keeps s) kept,
          )

      -- the keeper holds the end
      vault_holds : (l : KeeperState D) → HoldAnswers k
          (record { end = lsn book; place = book.places }) l (Ok tt) →
          HoldKeeps g (lsn book) (Ok tt) k l →
          IsVault j g l (noting_too receiver n) mark (record { table = held.table; gather = n })
      vault_holds l answers holds = record {
        handoff = vault.handoff;
        mark = vault.mark;
        awaited = vault.awaited;
        marked = omega (arith, vault.marked, (held_same k _ l (Ok tt) answers).1);
        caused = hold_caused k _ l (Ok tt) answers mark.stops vault.caused;
        noted = λ some. inl refl;
        received = λ s records state groups recorded carried begin apart.
            let room = covers s groups carried in
            let others : AreRecorded j.origin.format j.origin.start j.origin.wear records state
            receiver.noted = record {
              good = recorded.good;
              of_book = recorded.of_book;
              trail = recorded.trail;
              leads = recorded.leads;
              trails = recorded.trails;
              stand = recorded.stand.1;
            } in
            let had = vault.received s records state groups others carried begin
            (All-tail (λ p. IsApart 0 groups p) (frozen_end n.frozen)
            (frozen_ends receiver.noted) apart) in
            let images = had.0.0 in
            let kept = holds j.origin.format j.origin.start j.origin.wear records state
            (frozen_ends receiver.noted)
            images
            receiver.received groups carried begin room.0 room.1 had.0.1 in (
              (
                images,
                subst (λ p. HasReceived g.seen g.may_leave j.origin.format j.origin.start
                    j.origin.wear records state
                    (p ∷ frozen_ends receiver.noted) images receiver.received l)
                    (sym (ap frozen_end froze.1.is_frozen ∙
                    ap (λ (v : ImageHead). v.end) froze.1.image_head)) kept.0,
              ),
              leaves_on g j records k l had.1 kept.1,
              kept_on g j records k l mark.raised had.2 kept.1
                  (omega (arith, (held_same k _ l (Ok tt) answers).1)),
            );
      }

    -- where the keeper does not hold the end, it stays
    hold_refused : (l : KeeperState D) (e : Refusal) → HoldAnswers k
        (record { end = lsn book; place = book.places }) l (Err e) → l ≡ k
    hold_refused l Refusal.Failed a = a.1
    hold_refused l Refusal.Imaging a = a.2
    hold_refused l e a = absurd a

    -- What a freeze leaves that is refused,
    pub freeze_refused : IsKept catalog_meaning catalog_making AreShort
        (IsSound catalog_meaning catalog_making) book → (m n : GatherState)
        (frozen : Result (Unit {0}) Refusal) (e : Refusal) (c : Book) (l : KeeperState D)
        (now : lines.BookState) → Froze g book k m frozen (Err e) c l n →
        now ≡ stepped seat (alone (Action.Freeze (Err e))) →
        IsDesk j c now sender near × IsVault j g l receiver mark held
    freeze_refused kept m n (Ok done) e c l now froze now_is = (
      desk_freezes kept m n c froze.0 (Err e) now now_is,
      subst (λ x. IsVault j g x receiver mark held) (sym (hold_refused l e froze.1)) vault,
    )
    freeze_refused kept m n (Err d) e c l now froze now_is = (
      desk_refused j book seat sender near desk m n c d (Err e) now froze.0 now_is,
      subst (λ x. IsVault j g x receiver mark held) (sym froze.2) vault,
    )

    -- and one that is not.
    pub freeze_held : IsKept catalog_meaning catalog_making AreShort
        (IsSound catalog_meaning catalog_making) book → (m n : GatherState)
        (frozen : Result (Unit {0}) Refusal) (c : Book) (l : KeeperState D)
        (now : lines.BookState) → Froze g book k m frozen (Ok tt) c l n →
        now ≡ stepped seat (alone (Action.Freeze (Ok tt))) →
        IsDesk j c now (noting sender n) near ×
        IsVault j g l (noting_too receiver n) mark (record { table = held.table; gather = n })
    freeze_held kept m n (Ok done) c l now froze now_is = (
      desk_notes kept m n c froze.0 (Ok tt) now now_is,
      vault_holds kept m n c froze.0 l froze.1 froze.2,
    )
    freeze_held kept m n (Err d) c l now froze now_is = absurd (no_ok d froze.1)
      where
        no_ok : (d : Refusal) → ◌≡◌ {A = Result (Unit {0}) Refusal} (Ok tt) (Err d) → ⊥
        no_ok d both = absurd cc

-- ---- where the end is

-- The keeper was asked to hold the end that what is frozen tells.
froze_and_asked : {D : Type 0} (g : disks.Ghosts D) (b : Book) (k : KeeperState D)
    (m n : GatherState) (c : Book) → FreezeAnswers (λ v. v) b m (Ok tt) c n →
    (image_head : ImageHead) →
    IsHeadOf n image_head → (l : KeeperState D)
    (r : Result (Unit {0}) Refusal) →
    HoldAnswers k (record { end = image_head.end; place = image_head.place }) l r →
    HoldKeeps g image_head.end r k l → Froze g b k m (Ok tt) r c l n
froze_and_asked g b k m n c froze image_head told l r answers keeps =
    let holds = froze.1 in
    let is = one_head n image_head holds.frozen.image_head told
    (sym (ap (option_map (λ (f : FrozenState). f.image_head)) holds.is_frozen)) ∙
    holds.image_head in (
      froze,
      subst (λ (v : ImageHead). HoldAnswers k (record { end = v.end; place = v.place }) l r) is
          answers,
      subst (λ (v : ImageHead). HoldKeeps g v.end r k l) is keeps,
    )

-- The book was frozen so, and then the keeper asked to hold the end.
pub froze_then : {D : Type 0} (g : disks.Ghosts D) (b : Book) (k : KeeperState D)
    (m n : GatherState) (c : Book) (frozen held : Result (Unit {0}) Refusal) (l : KeeperState D)
    (h : GatherState) → FreezeAnswers (λ v. v) b m frozen c n → IsHeld frozen k n held l h →
    HoldsOn g frozen k n held l →
    Froze g b k m frozen held c l n × (h ≡ left_gathered frozen held n)
froze_then g b k m n c (Ok done) held l h froze holds held_on = (
  froze_and_asked g b k m n c froze holds.0.0 holds.0.1 l held holds.0.2
      (subst (λ (v : ImageHead). HoldKeeps g v.end held k l)
      (one_head n held_on.0 holds.0.0 held_on.1 holds.0.1) held_on.2),
  holds.1,
)
froze_then g b k m n c (Err e) held l h froze holds held_on =
    ((froze, holds.0, holds.1), holds.2)
