-- Each step of the book keeps what lies under its lock.
use Rattle.std.proofs.Common.{◌≡◌, ⊎_elim, ℕ, Bool, true, false, Option, None}
use Rattle.std.proofs.Common.{Result, Ok, Err, List, [], ◌∷◌, ◌++◌, refl, sym, ap, ◌∙◌}
use Rattle.std.proofs.Common.{append_assoc, subst, arith}
use mathlib.Core.List.{IsPrefix}
use Rattle.std.specs.List.{AllByRecursion}
use Rattle.std.proofs.lemmas.List.{append-nil}
use Rattle.boosted.proofs.Each.{each_back}
use Rattle.calls.specs.Contents.{Collection}
use Rattle.calls.specs.declared.refusal.Refusal.{Refusal}
use Rattle.records.specs.declared.record.Record.{Record}
use Rattle.records.specs.Records.{IsRecord}
use Rattle.records.specs.declared.block.Block.{Block}
use Rattle.steps.specs.Machine.{journalled}
use Rattle.replay.specs.Steps as repeated
use Rattle.replay.specs.Steps.{Repeats}
use Rattle.replay.proofs.OneFormat.{repeats_format}
use Rattle.txn.specs.declared.actions.Action.{Action}
use Rattle.txn.specs.declared.actions.BookStep.{BookStep}
use Rattle.txn.specs.Books.{BookState, standing, opened, Takes, CutAnswers}
use Rattle.txn.specs.Rows.{Standing}
use Rattle.txn.specs.Histories.{records_by, CutRow}
use Rattle.txn.specs.Handing.{HasHanded}
use Rattle.txn.proofs.Handings.{records_by-push, records_then, opens, taken_left, takes_on}
use Rattle.txn.proofs.Handings.{cuts_on}
use Rattle.boosted.specs.Meaning.{Meaning}
use Rattle.catalog.specs.Making.{Making}
use Rattle.catalog.specs.Meaning.{catalog_meaning, catalog_making}
use Rattle.records.specs.Told.{Tells}
use Rattle.group_commit.specs.Accords.{AccordState}
use Rattle.images.specs.Gathers.{nothing_gathered}
use Rattle.group_commit.specs.Lines as lines
use Rattle.group_commit.specs.Lines.{ClientState, mine_of, stepped, seeing, steps_of, with_client}
use Rattle.group_commit.specs.Orders.{SenderState}
use Rattle.desks.specs.declared.naming.Naming.{Ghosts}
use Rattle.desks.specs.Desks.{AreRecorded, IsDesk, frozen_ends}
use Rattle.desks.specs.Notes.{IsSent, handed_count}
use Rattle.desks.specs.Seen.{step_of, IsHistory, Steps}
use Rattle.desks.specs.Told.{told_book}
use Rattle.desks.proofs.Owning.{MayFollow, owned_none, owned_then, owned_alone}
use Rattle.desks.proofs.Gathered.{Goes, gathered_takes, gathered_cut, gathered_none}
use Rattle.desks.proofs.Recording.{recorded_none, recorded_leads, recorded_unheard}
use Rattle.desks.proofs.Telling.{takes_told, gathered_told, gathered_back}

abbrev Book : Type 0
Book = BookState (List Collection)

module _ {J : Type 0} (j : Ghosts J) where
  -- a book that was just opened
  pub desk_opens : (book : Book) (seat : lines.BookState) (sender : SenderState)
      (near : AccordState) → book ≡ opened j.origin.format j.origin.start j.origin.next
      j.origin.wear →
      seat ≡ record { table = j.line; all = []; clients = 0 } →
      sender ≡ record { table = j.handoff; sent = []; noted = [] } →
      near ≡ record { table = j.gathering; gather = nothing_gathered } →
      IsDesk j book seat sender near
  desk_opens book seat sender near book_is seat_is sender_is near_is =
      rw (book_is, seat_is, sender_is, near_is) (record {
        line = refl;
        handoff = refl;
        gathering = refl;
        gathered = gathered_none (λ v. v)
            (opened j.origin.format j.origin.start j.origin.next j.origin.wear);
        groups = [];
        handed = opens catalog_meaning catalog_making (λ v. v) j.origin.format j.origin.start
            j.origin.wear j.origin.next;
        owned = owned_none;
        recorded = λ s. recorded_none j.origin.format j.origin.start j.origin.wear;
      })

  -- one client more was made
  pub desk_admits : (book : Book) (seat : lines.BookState) (sender : SenderState)
      (near : AccordState) → IsDesk j book seat sender near →
      IsDesk j book (with_client seat) sender near
  desk_admits book seat sender near is = record {
    line = is.line;
    handoff = is.handoff;
    gathering = is.gathering;
    gathered = is.gathered;
    groups = is.groups;
    handed = is.handed;
    owned = is.owned;
    recorded = is.recorded;
  }

  module _ {S : Type 0} {meaning : Meaning S ℕ} {making : Making S}
      {collections : S → List Collection} (told : Tells meaning making collections)
      (old : BookState S) (seat : lines.BookState)
      (sender : SenderState) (near : AccordState)
      (is : IsDesk j (told_book collections old) seat sender near) (client : Option ℕ) where
    abbrev book : Book
    book = told_book collections old

    abbrev step : Action → BookStep
    step action = record { client = client; action = action }

    -- a step that hands nothing over
    pub desk_takes : (action : Action) (new : BookState S) (now : lines.BookState) →
        MayFollow seat.all client action →
        Takes meaning making old action new →
        AllByRecursion (IsRecord None) new.pending →
        Goes meaning making collections old action new → now ≡ stepped seat (step action) →
        IsDesk j (told_book collections new) now sender near
    desk_takes action new now may takes good goes now_is =
        let after : Book = told_book collections new in
        let took = takes_told told old new action takes in
        let rs = records_then seat.all action in
        let left = taken_left catalog_meaning catalog_making (λ v. v) j.origin.format j.origin.start
        j.origin.wear
        seat.all book
        after sender.sent is.groups (frozen_ends sender.noted) [] is.handed client action took in
        let more : AllByRecursion (IsRecord None) rs = each_back (IsRecord None) book.pending rs
        (subst (AllByRecursion (IsRecord None)) left.pending good) in
        rw now_is (record {
          line = is.line;
          handoff = is.handoff;
          gathering = is.gathering;
          gathered = gathered_told collections new near.gather
              (gathered_takes meaning making collections old new near.gather action takes goes
              (gathered_back collections old near.gather is.gathered));
          groups = is.groups;
          handed = takes_on catalog_meaning catalog_making (λ v. v) j.origin.format j.origin.start
              j.origin.wear seat.all
              book
              after sender.sent is.groups (frozen_ends sender.noted) [] is.handed client action took
              good;
          owned = owned_then seat.all (step action) is.owned may;
          recorded = λ s.
              let had = is.recorded s in
              subst (λ l. AreRecorded j.origin.format j.origin.start j.origin.wear l
              (journalled after.state)
              sender.noted)
              (sym (records_by-push seat.all (step action)))
              (⊎_elim
              (λ (leads : Repeats rs (journalled book.state) (journalled after.state)).
              recorded_leads j.origin.format j.origin.start j.origin.wear sender.noted
              (records_by seat.all)
              (journalled book.state) rs (journalled after.state) more leads had)
              (λ unheard. subst
              (λ l. AreRecorded j.origin.format j.origin.start j.origin.wear l
              (journalled after.state) sender.noted)
              (sym (append-nil (records_by seat.all)) ∙
              ap (λ l. records_by seat.all ++ l) (sym unheard.0))
              (recorded_unheard j.origin.format j.origin.start j.origin.wear sender.noted
              (records_by seat.all)
              (journalled book.state) (journalled after.state) unheard.1 had))
              left.leads);
        })

    -- and leaves the format
    pub takes_format : (action : Action) (new : BookState S) → Takes meaning making old action new →
        new.state.format ≡ old.state.format
    takes_format action new takes =
        let left = taken_left catalog_meaning catalog_making (λ v. v) j.origin.format j.origin.start
        j.origin.wear
        seat.all book
        (told_book collections new) sender.sent is.groups (frozen_ends sender.noted) [] is.handed
        client action (takes_told told old new action takes) in
        ⊎_elim
        (λ leads. repeats_format (records_then seat.all action) (journalled book.state)
        (journalled (told_book collections new).state) leads)
        (λ unheard. ap (λ (v : repeated.State). v.format) unheard.1.is)
        left.leads

  abbrev Handed : List BookStep → Book → List Block → List (List Record) → List ℕ → Type 0
  Handed steps book sent groups freezes =
      HasHanded catalog_meaning catalog_making (λ v. v) j.origin.format j.origin.start j.origin.wear
      steps book sent
      groups
      freezes []

  -- how many records a cut has handed over
  pub cut_count : (s t : Book) (count : ℕ) (a : Result Bool Refusal) →
      CutRow (standing s) count a (standing t) → count ≡ handed_count s.pending t.pending
  cut_count s t count (Ok true) row = omega (arith, row.1)
  cut_count s t count (Ok false) row =
      omega (arith, row.0, ap (λ (x : Standing (List Collection)). x.pending) row.2)
  cut_count s t count (Err e) row =
      omega (arith, row.0, ap (λ (x : Standing (List Collection)). x.pending) row.1)

  -- a block is handed over, or none
  pub desk_cuts : (book : Book) (seat : lines.BookState) (sender : SenderState)
      (near : AccordState) → IsDesk j book seat sender near → (after : Book)
      (now : lines.BookState) (ends : SenderState) (full : Type 0) (a : Result Bool Refusal) →
      CutAnswers book (λ bs. IsSent sender bs ends) full a after →
      now ≡ stepped seat (record {
        client = None;
        action = Action.Cut (handed_count book.pending after.pending) a;
      }) → IsDesk j after now ends near
  desk_cuts book seat sender near is after now ends full a cut now_is =
      let on = cuts_on catalog_meaning catalog_making (λ v. v) j.origin.format j.origin.start
      j.origin.wear seat.all book
      after
      sender.sent is.groups (frozen_ends sender.noted) [] is.handed None
      (λ bs. IsSent sender bs ends) full a cut in
      let count = cut_count book after on.0 a on.5 in
      let step : BookStep = record {
        client = None;
        action = Action.Cut (handed_count book.pending after.pending) a;
      } in
      let same : records_by (seat.all ++ step ∷ []) ≡ records_by seat.all =
      records_by-push seat.all step ∙ append-nil (records_by seat.all) in
      rw now_is (record {
        line = is.line;
        handoff = on.3.table ∙ is.handoff;
        gathering = is.gathering;
        gathered = gathered_cut (λ v. v) book after near.gather (λ bs. IsSent sender bs ends) full a
            cut is.gathered;
        groups = is.groups ++ on.2;
        handed = subst (λ l. Handed (seat.all ++ step ∷ []) after ends.sent (is.groups ++ on.2)
            (frozen_ends l)) (sym on.3.noted)
            (subst (λ l. Handed (seat.all ++ step ∷ []) after l (is.groups ++ on.2)
            (frozen_ends sender.noted)) (sym on.3.sent)
            (subst (λ n. Handed (seat.all ++ record { client = None; action = Action.Cut n a } ∷ [])
            after (sender.sent ++ on.1) (is.groups ++ on.2) (frozen_ends sender.noted)) count
            on.4));
        owned = owned_alone seat.all step.action is.owned refl refl;
        recorded = λ s.
            subst (λ l. AreRecorded j.origin.format j.origin.start j.origin.wear
            (records_by (seat.all ++ step ∷ []))
            (journalled after.state) l) (sym on.3.noted)
            (subst (λ l. AreRecorded j.origin.format j.origin.start j.origin.wear l
            (journalled after.state)
            sender.noted)
            (sym same)
            (subst (λ v. AreRecorded j.origin.format j.origin.start j.origin.wear
            (records_by seat.all) v sender.noted)
            (sym (ap (λ (x : Book). journalled x.state) cut.1)) (is.recorded s)));
      })

  -- a step that stands on the line
  pub steps_one : (book : BookState (List Collection)) (seat now : lines.BookState)
      (sender : SenderState) (near : AccordState) (old new : ClientState) (action : Action) →
      IsDesk j book now sender near → now ≡ stepped seat (step_of old.number action) →
      new ≡ seeing old now.all → IsPrefix old.seen seat.all →
      mine_of new ≡ mine_of old ++ step_of old.number action ∷ [] → Steps j.origin old action new
  steps_one book seat now sender near old new action is now_is new_is begins mine =
      let step = step_of old.number action in
      let all : new.seen ≡ seat.all ++ step ∷ [] =
      ap (λ (c : ClientState). c.seen) new_is ∙ ap (λ (b : lines.BookState). b.all) now_is in (
        new_is ∙ ap (seeing old) (sym (ap (λ (c : ClientState). c.seen) new_is)),
        record {
          grows = record {
            begins = (
              begins.0 ++ step ∷ [],
              sym (append_assoc old.seen begins.0 (step ∷ [])) ∙
                  ap (λ l. l ++ step ∷ []) begins.1 ∙ sym all,
            );
            mine =
                ap (λ n. steps_of n new.seen)
                (sym (ap (λ (c : ClientState). c.number) new_is)) ∙ mine;
            legal = (
              standing book,
              subst (λ l. IsHistory j.origin l (standing book))
                  (sym (ap (λ (c : ClientState). c.seen) new_is))
                  (record { legal = is.handed.legal; owned = is.owned }),
            );
          };
          before = seat.all;
          ends = all;
        },
      )

-- what a cut answers of one way to send blocks it answers of a wider one
pub cut_weaker : {S : Type 0} (b : BookState S) (P Q : List Block → Type 0) →
    ((bs : List Block) → P bs → Q bs) → (full : Type 0) (a : Result Bool Refusal)
    (c : BookState S) → CutAnswers b P full a c →
    CutAnswers b Q full a c
cut_weaker b P Q f full (Ok true) c cut =
    ((cut.0.0, f _ cut.0.1, cut.0.2, cut.0.3, cut.0.4, cut.0.5), cut.1)
cut_weaker b P Q f full (Ok false) c cut =
    ((cut.0.0, f [] cut.0.1, cut.0.2, cut.0.3, cut.0.4, cut.0.5), cut.1)
cut_weaker b P Q f full (Err Refusal.NotNow) c cut =
    ((cut.0.0, f [] cut.0.1, cut.0.2, cut.0.3, cut.0.4, cut.0.5, cut.0.6), cut.1)
cut_weaker b P Q f full (Err e) c cut = absurd cut.0
