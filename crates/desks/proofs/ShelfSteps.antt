-- Each step on a shelf, on all, or beside them keeps what lies under the journal's lock.
use Rattle.std.proofs.Common.{◌≡◌, ℕ, List, ◌∷◌, [], ◌++◌, Option, Some, None, sym, ap, ◌∙◌}
use Rattle.std.proofs.Common.{subst}
use Rattle.std.proofs.Common.{Bool, Result}
use Rattle.calls.specs.declared.refusal.Refusal.{Refusal}
use mathlib.Core.List.{IsPrefix}
use Rattle.calls.specs.Contents.{Content, Collection}
use Rattle.calls.specs.Names.{IsName}
use Rattle.atomic_table.specs.Seated.{TableId}
use Rattle.boosted.specs.Meaning.{Meaning}
use Rattle.catalog.specs.declared.four.Four.{Four}
use Rattle.catalog.specs.Fours.{Which, pick, put}
use Rattle.catalog.specs.Laws.Numbers.{pick_put}
use Rattle.catalog.specs.Making.{Making, IsPlaceOf}
use Rattle.catalog.specs.Shelving.{ShelfLaws}
use Rattle.catalog.specs.Woven.{Label, names_in}
use Rattle.steps.specs.Shelves.{ShelfState}
use Rattle.steps.specs.Wholes.{contents}
use Rattle.steps.proofs.FourShelves.{by_shelf, pick_other, rank_is}
use Rattle.records.specs.Told.{Tells}
use Rattle.txn.specs.declared.actions.Action.{Action}
use Rattle.txn.specs.Books.{BookState, opened, Takes, CutAnswers}
use Rattle.txn.specs.Shelved.{JournalState, book_state, IsBook}
use Rattle.group_commit.specs.Accords.{AccordState}
use Rattle.images.specs.Gathers.{nothing_gathered}
use Rattle.group_commit.specs.Lines as lines
use Rattle.group_commit.specs.Lines.{ClientState, mine_of, stepped, seeing, with_client}
use Rattle.group_commit.specs.Orders.{SenderState}
use Rattle.group_commit.specs.Twins.{EndState}
use Rattle.desks.specs.declared.naming.Naming.{Ghosts}
use Rattle.desks.specs.declared.touch.Touch.{Touch}
use Rattle.desks.specs.Seen.{Steps, step_of}
use Rattle.desks.specs.Owners.{transaction_of, MayTake, HasEntered}
use Rattle.desks.proofs.Owning.{MayFollow, named_follows}
use Rattle.desks.specs.Notes.{IsSent, handed_count}
use Rattle.desks.specs.Told.{told_book}
use Rattle.desks.specs.Touches.{led, Leads, IsJournalDesk, IsKnown}
use Rattle.desks.proofs.DeskSteps.{desk_opens, desk_admits, desk_cuts, desk_takes}
use Rattle.desks.proofs.DeskSteps.{takes_format, steps_one}
use Rattle.desks.proofs.Gathered.{Goes}
use Rattle.desks.proofs.Touching.{known_is}

-- what an end knows of a shelf
abbrev End : Type 0 → Type 0
End T = EndState (Touch (ShelfState T))

-- An end of the twin of a shelf is of the twin that is picked for it.
pub twin_is : (tables twins : Four TableId) (w : Which) (table twin : TableId) → twins ≡ tables →
    twin ≡ pick twins w → table ≡ pick tables w → table ≡ twin
twin_is tables twins w table twin same picked of =
    of ∙ ap (λ t. pick t w) (sym same) ∙ sym picked

module _ {S T N J : Type 0} (j : Ghosts J) {meaning : Meaning S ℕ} {making : Making S}
    {collections : S → List Collection} {whole : N → Four T → S} {fits : N → Four T → Type 0} where
  -- A journal that was just opened, with ends that know what its shelves hold.
  pub journal_opens : (k : JournalState N) (nears : Four (End T)) (f : Four (ShelfState T))
      (seat : lines.BookState) (sender : SenderState) (near : AccordState) →
      ((w : Which) → (pick nears w).table ≡ pick j.shelves w) →
      ((w : Which) → Leads (pick nears w) (pick f w)) →
      IsBook meaning making collections whole fits k f →
      told_book collections (book_state whole k f) ≡
      opened j.origin.format j.origin.start j.origin.next j.origin.wear →
      seat ≡ record { table = j.line; all = []; clients = 0 } →
      sender ≡ record { table = j.handoff; sent = []; noted = [] } →
      near ≡ record { table = j.gathering; gather = nothing_gathered } →
      IsJournalDesk j meaning making collections whole fits k nears seat sender near
  journal_opens k nears f seat sender near tables known book opens seat_is sender_is near_is =
      record {
        shelves = f;
        known = record { tables = tables; leads = known; book = book };
        format = ap (λ (b : BookState (List Collection)). b.state.format) opens;
        desk = desk_opens j (told_book collections (book_state whole k f)) seat sender near opens
            seat_is sender_is near_is;
      }

  -- One client more was made.
  pub journal_admits : (k : JournalState N) (nears : Four (End T)) (seat : lines.BookState)
      (sender : SenderState) (near : AccordState) →
      IsJournalDesk j meaning making collections whole fits k nears seat sender near →
      IsJournalDesk j meaning making collections whole fits k nears (with_client seat) sender near
  journal_admits k nears seat sender near is = record {
    shelves = is.shelves;
    known = is.known;
    format = is.format;
    desk = desk_admits j (told_book collections (book_state whole k is.shelves)) seat sender near
        is.desk;
  }

  -- A block is handed over, or none.
  pub journal_cuts : (k l : JournalState N) (nears : Four (End T)) (seat now : lines.BookState)
      (sender ends : SenderState) (near : AccordState) (full : Type 0) (a : Result Bool Refusal) →
      (is : IsJournalDesk j meaning making collections whole fits k nears seat sender near) →
      CutAnswers (book_state whole k is.shelves) (λ bs. IsSent sender bs ends) full a
      (book_state whole l is.shelves) → IsBook meaning making collections whole fits l is.shelves →
      now ≡ stepped seat (record {
        client = None;
        action = Action.Cut (handed_count k.pending l.pending) a;
      }) → IsJournalDesk j meaning making collections whole fits l nears now ends near
  journal_cuts k l nears seat now sender ends near full a is cut book now_is =
      let told : BookState S → BookState (List Collection) = told_book collections in record {
        shelves = is.shelves;
        known = record { tables = is.known.tables; leads = is.known.leads; book = book };
        format = ap (λ (b : BookState S). b.state.format) cut.1 ∙ is.format;
        desk = desk_cuts j (told (book_state whole k is.shelves)) seat sender near is.desk
            (told (book_state whole l is.shelves)) now ends full a (cut.0, ap told cut.1) now_is;
      }

  -- A step that stands on the line.
  pub steps_journal : (k : JournalState N) (nears : Four (End T)) (seat now : lines.BookState)
      (sender : SenderState) (near : AccordState) (old new : ClientState) (action : Action) →
      IsJournalDesk j meaning making collections whole fits k nears now sender near →
      now ≡ stepped seat (step_of old.number action) →
      new ≡ seeing old now.all → IsPrefix old.seen seat.all →
      mine_of new ≡ mine_of old ++ step_of old.number action ∷ [] → Steps j.origin old action new
  steps_journal k nears seat now sender near old new action is now_is new_is begins mine =
      steps_one j (told_book collections (book_state whole k is.shelves)) seat now sender near old
      new action is.desk now_is new_is begins mine

  -- A client takes a step of a number that it has entered.
  pub owns_step : {k : JournalState N} {nears : Four (End T)} {seat : lines.BookState}
      {sender : SenderState} {near : AccordState} →
      (is : IsJournalDesk j meaning making collections whole fits k nears seat sender near) →
      (me : ClientState) (n : ℕ) (action : Action) → IsPrefix me.seen seat.all →
      HasEntered me n → MayTake (Some me.number) action → transaction_of action ≡ Some n →
      MayFollow seat.all (Some me.number) action
  owns_step {seat = seat} is me n action begins own may named =
      named_follows seat.all me n action is.desk.owned begins own may named

  -- ---- what the ends know

  module _ (k : JournalState N) (nears : Four (End T)) (f : Four (ShelfState T))
      (is : IsKnown j meaning making collections whole fits k nears f)
    where
      -- What a shelf holds is what the journal's end knows of it, where both ends know one list.
      pub here : (w : Which) (s : ShelfState T) (near far : End T) → near ≡ pick nears w →
          near.list ≡ far.list → Leads far s → s ≡ pick f w
      here w s near far lent same leads = known_is (pick nears w) s (pick f w)
          (ap (λ (e : End T). led None e.list) (sym lent) ∙ ap (led None) same ∙ leads) (is.leads w)

      -- The collection of the name is found where the names have it.
      pub found_there : {shelf : Meaning T ℕ} {index : T → Which}
          {holds : T → ℕ → Content → Type 0} {labels : N → List Label} →
          ShelfLaws labels whole fits meaning making collections shelf index holds →
          (name : List ℕ) (at : ℕ) → IsName name × IsPlaceOf (names_in (labels k.names)) name at →
          IsName name × IsPlaceOf (making.names (book_state whole k f).state.now) name at
      found_there laws name at there = (
        there.0,
        subst (λ ns. IsPlaceOf ns name at)
            (sym (laws.names k.names (contents f) is.book.joined.fit)) there.1,
      )

      -- A step on one shelf, whose ends know it then.
      pub known_on : (w : Which) (l : JournalState N) (t : ShelfState T) (e : End T) →
          e.table ≡ (pick nears w).table → Leads e t →
          IsBook meaning making collections whole fits l (put f w t) →
          IsKnown j meaning making collections whole fits l (put nears w e) (put f w t)
      known_on w l t e table leads book = record {
        tables = by_shelf nears w e (λ v x. x.table ≡ pick j.shelves v) (table ∙ is.tables w)
            (λ v other. is.tables v);
        leads = by_shelf nears w e (λ v x. Leads x (pick (put f w t) v))
            (subst (Leads e) (sym (pick_put f w t)) leads)
            (λ v other. subst (Leads (pick nears v))
            (sym (pick_other f w v t (λ r. other (rank_is v w r)))) (is.leads v));
        book = book;
      }

  -- ---- steps

  module _ (told : Tells meaning making collections) (client : Option ℕ) (k : JournalState N)
      (nears : Four (End T)) (seat : lines.BookState) (sender : SenderState) (near : AccordState)
      (is : IsJournalDesk j meaning making collections whole fits k nears seat sender near) where
    -- A step behind which the ends know what the shelves hold.
    pub steps_over : (l : JournalState N) (ends : Four (End T)) (f : Four (ShelfState T))
        (now : lines.BookState) (action : Action) →
        MayFollow seat.all client action →
        IsKnown j meaning making collections whole fits l ends f →
        Takes meaning making (book_state whole k is.shelves) action (book_state whole l f) →
        Goes meaning making collections (book_state whole k is.shelves) action
        (book_state whole l f) →
        now ≡ stepped seat (record { client = client; action = action }) →
        IsJournalDesk j meaning making collections whole fits l ends now sender near
    steps_over l ends f now action may known takes goes now_is = record {
      shelves = f;
      known = known;
      format = takes_format j told (book_state whole k is.shelves) seat sender near is.desk client
          action (book_state whole l f) takes ∙ is.format;
      desk = desk_takes j told (book_state whole k is.shelves) seat sender near is.desk client
          action (book_state whole l f) now may takes known.book.kept.records goes now_is;
    }

    -- A step beside the shelves.
    pub steps_beside : (l : JournalState N) (now : lines.BookState) (action : Action) →
        MayFollow seat.all client action →
        IsBook meaning making collections whole fits l is.shelves →
        Takes meaning making (book_state whole k is.shelves) action
        (book_state whole l is.shelves) →
        Goes meaning making collections (book_state whole k is.shelves) action
        (book_state whole l is.shelves) →
        now ≡ stepped seat (record { client = client; action = action }) →
        IsJournalDesk j meaning making collections whole fits l nears now sender near
    steps_beside l now action may book takes goes now_is =
        steps_over l nears is.shelves now action may
        (record { tables = is.known.tables; leads = is.known.leads; book = book }) takes goes now_is
