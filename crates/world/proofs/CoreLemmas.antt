-- Steps that call no keeper: one lemma for each, from what the book answers.
use Rattle.std.proofs.Common.{◌≡◌, ℕ, ◌≤◌, Bool, List, ◌++◌, length, refl, arith, None, Result}
use Rattle.std.proofs.Common.{Ok, Err}
use Rattle.std.specs.List.{AllByRecursion}
use Rattle.calls.specs.declared.call.Call.{Call}
use Rattle.calls.specs.declared.when.When.{When}
use Rattle.calls.specs.declared.kind.Kind.{Kind}
use Rattle.calls.specs.declared.reply.Reply.{Reply}
use Rattle.calls.specs.declared.refusal.Refusal.{Refusal}
use Rattle.disk_model.specs.declared.disk.Disk.{Ghosts}
use Rattle.records.specs.Records.{IsRecord}
use Rattle.records.specs.declared.block.Block.{Block}
use Rattle.txn.specs.declared.actions.Action.{Action}
use Rattle.txn.specs.declared.actions.Target.{Target}
use Rattle.txn.specs.Books as books
use Rattle.txn.specs.Undoings.{undo_count}
use Rattle.engine.specs.declared.room.Room.{Room}
use Rattle.engine.specs.Rooms.{MayHandOver}
use Rattle.world.specs.declared.step.Step.{Step}
use Rattle.world.specs.declared.step.Answer.{Answer}
use Rattle.world.specs.Pasts.{BookTakes, CoreStep, IsAnswerOf, IsDraw, Draws, alone}
use Rattle.txn.specs.Books.{NamedBook}
use Rattle.world.specs.Pasts.{action_of, outcome}
use Rattle.world.specs.Moves.{Whole, IsRoomPast, HandsOver, Moves, known_behind}
use Rattle.world.specs.OneStep.{parts, TakesStep}
use Rattle.world.proofs.AnswerLemmas.{core_answered}
use Rattle.world.proofs.StepLemmas.{AreGoodBehind, core_past, quiet}
use Rattle.catalog.specs.Meaning.{catalog_meaning, catalog_making}

-- a step of a book of named collections
abbrev Takes : NamedBook → Action → NamedBook → Type 0
Takes s action t = books.Takes catalog_meaning catalog_making s action t

-- ---- what the book answers is a step of its own

-- the book takes the step, and it is answered in its own way
abbrev Took : NamedBook → Step → Answer → NamedBook → Type 0
Took s step a t = IsAnswerOf step a × BookTakes s (action_of step a) t

make_row : (s t : NamedBook) (name : List ℕ) (kind : Kind) (r : Result ℕ Refusal) →
    Takes s (Action.Make name kind r) t → Took s (Step.Make name kind) (outcome Answer.Placed r) t
make_row s t name kind (Ok place) row = (tt, row)
make_row s t name kind (Err e) row = (tt, row)

enter_row : (s t : NamedBook) (n : ℕ) (r : Result (Unit {0}) Refusal) →
    Takes s (Action.Enter n r) t → Took s (Step.Enter n) (outcome (alone Answer.Entered) r) t
enter_row s t n (Ok done) row = (tt, row)
enter_row s t n (Err e) row = (tt, row)

ask_row : (s t : NamedBook) (n at : ℕ) (call : Call) (when : When) (r : Result Reply Refusal) →
    Takes s (Action.Ask n (Target.Number at) call when r) t →
    Took s (Step.Ask n at call when) (outcome Answer.Replied r) t
ask_row s t n at call when (Ok reply) row = (tt, row)
ask_row s t n at call when (Err e) row = (tt, row)

commit_row : (s t : NamedBook) (n : ℕ) (r : Result ℕ Refusal) → Takes s (Action.Commit n r) t →
    Took s (Step.Commit n) (outcome Answer.Placed r) t
commit_row s t n (Ok place) row = (tt, row)
commit_row s t n (Err e) row = (tt, row)

back_row : (s t : NamedBook) (n : ℕ) (r : Result Bool Refusal) → Takes s (Action.Back n r) t →
    Took s (Step.Back n) (outcome Answer.Backed r) t
back_row s t n (Ok undone) row = (tt, row)
back_row s t n (Err e) row = (tt, row)

ended_row : (s t : NamedBook) (n : ℕ) (r : Result (Unit {0}) Refusal) →
    Takes s (Action.Ended n r) t → Took s (Step.Ended n) (outcome (alone Answer.Ended) r) t
ended_row s t n (Ok done) row = (tt, row)
ended_row s t n (Err e) row = (tt, row)

cut_row : (s : NamedBook) (waiting : List Block) (mark : ℕ) (r : Result Bool Refusal)
    (t : NamedBook) (waits : List Block) →
    books.CutAnswers s (λ bs. waits ≡ waiting ++ bs) (4 ≤ length waiting) r t →
    CoreStep s waiting mark (Step.Cut, outcome Answer.Cut r) t waits
cut_row s waiting mark (Ok handed) t waits row = row
cut_row s waiting mark (Err Refusal.NotNow) t waits row = row
cut_row s waiting mark (Err e) t waits row = absurd row.0

-- where the next block may not go, nothing changes
barred_row : (s : NamedBook) (waiting : List Block) (mark : ℕ) (before counted : ℕ) (room : Room)
    (e : Refusal) → MayHandOver s.pending s.freezes s.end before counted room (Err e) →
    CoreStep s waiting mark (Step.Cut, Answer.Refused e) s waiting
barred_row s waiting mark before counted room Refusal.Imaging may = (refl, refl)
barred_row s waiting mark before counted room Refusal.Full may = (refl, refl)
barred_row s waiting mark before counted room e may = absurd may.0

draw_row : (s : NamedBook) (r : Result ℕ Refusal) →
    IsAnswerOf Step.Draw (outcome Answer.Drawn r)
draw_row s (Ok n) = tt
draw_row s (Err e) = tt

-- ---- and so the step is taken

module _ {D : Type 0} (g : Ghosts D) (w : Whole D)
    (only_now : (c : List ℕ) → g.left_since w.keeper.disk (g.moment w.keeper.disk) c →
    g.may_leave w.keeper.disk c) where
  -- a step that leaves the keeper and the mark
  core_taken : (x : Step × Answer) (t : NamedBook) (waits : List Block) (next undoing : ℕ) →
      AreGoodBehind x.0 t → CoreStep w.book w.transit w.mark x t waits → Draws w.next x next →
      Moves g.fault_count w x
      (record w { book = t; transit = waits; next = next; undoing = undoing }) →
      TakesStep g w x (record w { book = t; transit = waits; next = next; undoing = undoing })
  core_taken x t waits next undoing good core drawn moves = record {
    past = λ start past had.
        core_past g.seen g.may_leave start past (parts w) had x t waits good core;
    any_moment = λ start past had. quiet g.seen g.may_leave start past (parts w) had g.moment
        g.left_since only_now x;
    mark = omega arith;
    own = core_answered w.book w.transit w.mark x t waits core;
    drawn = drawn;
    moves = moves;
    honest = λ h. h;
  }

  pub draw_taken : (r : Result ℕ Refusal) (next : ℕ) → IsDraw w.next (outcome Answer.Drawn r) next →
      TakesStep g w (Step.Draw, outcome Answer.Drawn r) (record w { next = next })
  draw_taken r next drawn =
      let own = draw_row w.book r in
      core_taken (Step.Draw, outcome Answer.Drawn r) w.book w.transit next w.undoing tt
      (own, refl, refl) drawn ((own, refl, refl), drawn, refl, refl, refl, (refl, refl))

  pub look_taken : TakesStep g w (Step.Look, Answer.Marked w.mark) w
  look_taken = core_taken (Step.Look, Answer.Marked w.mark) w.book w.transit w.next w.undoing tt
      (refl, refl, refl) refl ((refl, refl, refl), refl, refl, refl, refl, (refl, refl))

  -- a cut, where the next block may go or may not
  cut_done : (room : Room) → IsRoomPast w room → (behind : Result ℕ Refusal) →
      MayHandOver w.book.pending w.book.freezes w.book.end w.undoing (undo_count w.book.state) room
      behind → (a : Answer) (t : NamedBook) (waits : List Block) (undoing : ℕ) →
      CoreStep w.book w.transit w.mark (Step.Cut, a) t waits →
      HandsOver behind w a (record w { book = t; transit = waits; undoing = undoing }) →
      TakesStep g w (Step.Cut, a) (record w { book = t; transit = waits; undoing = undoing })
  cut_done room is behind may a t waits undoing core hands =
      core_taken (Step.Cut, a) t waits w.next undoing tt core refl (record {
        room = room;
        is_room = is;
        behind = behind;
        may = may;
        hands = hands;
        gather = refl;
        keeper = refl;
        mark = refl;
        next = refl;
        frozen = refl;
      })

  -- a block is handed over, or none, or the book refuses
  pub cut_taken : (room : Room) → IsRoomPast w room → (behind : ℕ) →
      MayHandOver w.book.pending w.book.freezes w.book.end w.undoing (undo_count w.book.state) room
      (Ok behind) → (r : Result Bool Refusal) (t : NamedBook) (waits : List Block) →
      books.CutAnswers w.book (λ bs. waits ≡ w.transit ++ bs) (4 ≤ length w.transit) r t →
      TakesStep g w (Step.Cut, outcome Answer.Cut r)
      (record w { book = t; transit = waits; undoing = known_behind r behind w.undoing })
  cut_taken room is behind may r t waits row =
      cut_done room is (Ok behind) may (outcome Answer.Cut r) t waits
      (known_behind r behind w.undoing) (cut_row w.book w.transit w.mark r t waits row)
      (r, refl, row, refl)

  -- or the block may not go
  pub cut_barred : (room : Room) → IsRoomPast w room → (e : Refusal) →
      MayHandOver w.book.pending w.book.freezes w.book.end w.undoing (undo_count w.book.state) room
      (Err e) → TakesStep g w (Step.Cut, Answer.Refused e) w
  cut_barred room is e may =
      cut_done room is (Err e) may (Answer.Refused e) w.book w.transit w.undoing
      (barred_row w.book w.transit w.mark w.undoing (undo_count w.book.state) room e may)
      (refl, refl, refl, refl)

  module _ (t : NamedBook) (good : AllByRecursion (IsRecord None) t.pending) where
    pub make_taken : (name : List ℕ) (kind : Kind) (r : Result ℕ Refusal) →
        Takes w.book (Action.Make name kind r) t →
        TakesStep g w (Step.Make name kind, outcome Answer.Placed r) (record w { book = t })
    make_taken name kind r made =
        let row = make_row w.book t name kind r made in
        core_taken (Step.Make name kind, outcome Answer.Placed r) t w.transit w.next w.undoing good
        (row.0, row.1, refl) refl ((row.0, row.1, refl), refl, refl, refl, refl, (refl, refl))

    pub enter_taken : (n : ℕ) (r : Result (Unit {0}) Refusal) → Takes w.book (Action.Enter n r) t →
        TakesStep g w (Step.Enter n, outcome (alone Answer.Entered) r) (record w { book = t })
    enter_taken n r entered =
        let row = enter_row w.book t n r entered in
        core_taken (Step.Enter n, outcome (alone Answer.Entered) r) t w.transit w.next w.undoing
        good
        (row.0, row.1, refl) refl ((row.0, row.1, refl), refl, refl, refl, refl, (refl, refl))

    pub ask_taken : (n at : ℕ) (call : Call) (when : When) (r : Result Reply Refusal) →
        Takes w.book (Action.Ask n (Target.Number at) call when r) t →
        TakesStep g w (Step.Ask n at call when, outcome Answer.Replied r) (record w { book = t })
    ask_taken n at call when r asked =
        let row = ask_row w.book t n at call when r asked in
        core_taken (Step.Ask n at call when, outcome Answer.Replied r) t w.transit w.next w.undoing
        good (row.0, row.1, refl) refl
        ((row.0, row.1, refl), refl, refl, refl, refl, (refl, refl))

    pub commit_taken : (n : ℕ) (r : Result ℕ Refusal) →
        Takes w.book (Action.Commit n r) t →
        TakesStep g w (Step.Commit n, outcome Answer.Placed r) (record w { book = t })
    commit_taken n r committed =
        let row = commit_row w.book t n r committed in
        core_taken (Step.Commit n, outcome Answer.Placed r) t w.transit w.next w.undoing good
        (row.0, row.1, refl) refl
        ((row.0, row.1, refl), refl, refl, refl, refl, (refl, refl))

    pub back_taken : (n : ℕ) (r : Result Bool Refusal) →
        Takes w.book (Action.Back n r) t →
        TakesStep g w (Step.Back n, outcome Answer.Backed r) (record w { book = t })
    back_taken n r undone =
        let row = back_row w.book t n r undone in
        core_taken (Step.Back n, outcome Answer.Backed r) t w.transit w.next w.undoing good
        (row.0, row.1, refl) refl
        ((row.0, row.1, refl), refl, refl, refl, refl, (refl, refl))

    pub ended_taken : (n : ℕ) (r : Result (Unit {0}) Refusal) → Takes w.book (Action.Ended n r) t →
        TakesStep g w (Step.Ended n, outcome (alone Answer.Ended) r) (record w { book = t })
    ended_taken n r ended =
        let row = ended_row w.book t n r ended in
        core_taken (Step.Ended n, outcome (alone Answer.Ended) r) t w.transit w.next w.undoing good
        (row.0, row.1, refl) refl ((row.0, row.1, refl), refl, refl, refl, refl, (refl, refl))
