-- What a script's client does on a world: the steps that it takes, the result, and the client
-- behind them.
use Rattle.std.specs.Prelude.{◌≡◌, ◌⊎◌, ◌↔◌, ℕ, suc, zero, ◌<◌, ◌≤◌, Bool, true, false, IsTrue}
use Rattle.std.specs.Prelude.{List, [], ◌∷◌, ◌++◌, Option, None, Some, Result, Ok, Err, slice_get}
use Rattle.std.specs.Option.{option_map}
use Rattle.calls.specs.declared.call.Call.{Call}
use Rattle.calls.specs.declared.when.When.{When}
use Rattle.calls.specs.declared.kind.Kind.{Kind}
use Rattle.calls.specs.declared.reply.Reply.{Reply}
use Rattle.calls.specs.declared.refusal.Refusal.{Refusal}
use Rattle.calls.specs.Contents.{Collection, kind_of_content}
use Rattle.calls.specs.Formats.{widest}
use Rattle.calls.specs.Names.{IsName}
use Rattle.boosted.specs.Meaning.{CanAsk}
use Rattle.catalog.specs.Making.{names_of, IsPlaceOf, FindRefused}
use Rattle.world.specs.declared.step.Step.{Step}
use Rattle.world.specs.declared.step.Answer.{Answer}
use Rattle.disk_model.specs.declared.disk.Disk.{Ghosts}
use Rattle.world.specs.Moves.{Whole}
use Rattle.world.specs.Pasts.{Past, alone}
use Rattle.talks.specs.Plays.{Plays, Tries}
use Rattle.talks.specs.declared.client.Client.{Client}
use Rattle.talks.specs.declared.client.Begun.{Begun}
use Rattle.script.specs.declared.action.Operation.{Operation}
use Rattle.catalog.specs.Meaning.{catalog_meaning}

-- the client, with another transaction open
abbrev pub opening : Client → ℕ → Bool → Client
opening k n entered = record {
  begun = Some (record { number = n; is_entered = entered });
  ticket = k.ticket;
}

abbrev pub closing : Client → Client
closing k = record { begun = None; ticket = k.ticket }

-- the client behind a making
abbrev pub with_ticket : Client → Result ℕ Refusal → Client
with_ticket k (Ok place) = record { begun = k.begun; ticket = Some place }
with_ticket k (Err e) = k

-- A collection is made; its place is the ticket then.
abbrev pub Makes : Client → List ℕ → Kind → Result ℕ Refusal → Past → Client → Type 0
Makes k name kind r steps l = Tries (Step.Make name kind) Answer.Placed r steps ×
    (l ≡ with_ticket k r)

-- A transaction begins under a number that is drawn, unless one is open.
abbrev pub Begins : Client → Result ℕ Refusal → Past → Client → Type 0
Begins k (Ok n) steps l = (k.begun ≡ None) × (steps ≡ (Step.Draw, Answer.Drawn n) ∷ []) ×
    (l ≡ opening k n false)
Begins k (Err e) steps l =
    (((k.begun ≡ None → ⊥) × (e ≡ Refusal.AlreadyLive) × (steps ≡ [])) ⊎
    ((k.begun ≡ None) × Tries {T = ℕ} Step.Draw Answer.Drawn (Err e) steps)) × (l ≡ k)

-- The number n is one that the book knows, or it is entered.
abbrev pub EntersAs : Client → ℕ → Bool → Result ℕ Refusal → Past → Client → Type 0
EntersAs k n true (Ok m) steps l = (m ≡ n) × (steps ≡ []) × (l ≡ k)
EntersAs k n true (Err e) steps l = ⊥
EntersAs k n false (Ok m) steps l =
    (m ≡ n) × (steps ≡ (Step.Enter n, Answer.Entered) ∷ []) × (l ≡ opening k n true)
EntersAs k n false (Err e) steps l =
    Tries (Step.Enter n) (alone Answer.Entered) (Err e) steps × (l ≡ k)

-- the same of the client's open transaction
abbrev pub EntersOpen : Option Begun → Client → Result ℕ Refusal → Past → Client → Type 0
EntersOpen None k r steps l = (r ≡ Err Refusal.NoSuchTxn) × (steps ≡ []) × (l ≡ k)
EntersOpen (Some begun) k r steps l = EntersAs k begun.number begun.is_entered r steps l

abbrev pub Enters : Client → Result ℕ Refusal → Past → Client → Type 0
Enters k r steps l = EntersOpen k.begun k r steps l

-- the kind of the collection at a place, if there is one
abbrev pub kind_at : List Collection → ℕ → Option Kind
kind_at s at = option_map (λ x. kind_of_content x.content) (slice_get s at)

-- a removal is one of a map where a client can ask for that, and else one of a set
abbrev pub AskedFor : List Collection → ℕ → Operation → Call → Type 0
AskedFor s at (Operation.Call asked) call = call ≡ asked
AskedFor s at (Operation.Remove key) call =
    (CanAsk catalog_meaning widest s at (Call.MapRemove key) × (call ≡ Call.MapRemove key)) ⊎
    ((CanAsk catalog_meaning widest s at (Call.MapRemove key) → ⊥) × (call ≡ Call.SetRemove key))

abbrev pub FindAnswers : List (List ℕ) → List ℕ → Result ℕ Refusal → Type 0
FindAnswers names name (Ok at) = IsName name × IsPlaceOf names name at
FindAnswers names name (Err e) = FindRefused names name e

-- The transaction n asks for the operation on the collection at a place.
abbrev pub AsksAt : List Collection → (n at : ℕ) → Operation → When → Result Reply Refusal →
    Past → Type 0
AsksAt s n at operation when r steps =
    (call : Call) × AskedFor s at operation call ×
    Tries (Step.Ask n at call when) Answer.Replied r steps

-- It asks so of the collection that was found, if one was.
abbrev pub AsksOn : List Collection → ℕ → Result ℕ Refusal → Operation → When →
    Result Reply Refusal → Past → Type 0
AsksOn s n (Err e) operation when r steps = (r ≡ Err e) × (steps ≡ [])
AsksOn s n (Ok at) operation when r steps = AsksAt s n at operation when r steps

-- The transaction that was entered, if one was, asks for the operation.
abbrev pub AsksAs : List Collection → Result ℕ Refusal → List ℕ → Operation → When →
    Result Reply Refusal → Past → Type 0
AsksAs s (Err e) name operation when r steps = (r ≡ Err e) × (steps ≡ [])
AsksAs s (Ok n) name operation when r steps =
    (found : Result ℕ Refusal) × FindAnswers (names_of s) name found ×
    AsksOn s n found operation when r steps

-- The transaction is entered by the first steps; then the name is looked up, and by the last ones
-- the operation is asked for.
pub record Asks {D : Type 0} (g : Ghosts D) (k : Client) (old : Whole D) (name : List ℕ)
    (operation : Operation) (when : When) (r : Result Reply Refusal) (l : Client)
    (new : Whole D) : Type 0 where
  pub entered : Result ℕ Refusal
  pub first : Past
  pub mid : Whole D
  pub last : Past
  pub enters : Enters k entered first l
  pub before : Plays g old first mid
  pub asks : AsksAs mid.book.state.now entered name operation when r last
  pub behind : Plays g mid last new
  pub whole : Plays g old (first ++ last) new

-- the client behind a commit
abbrev pub committed : Client → Result ℕ Refusal → Client
committed k (Ok place) = record { begun = None; ticket = Some place }
committed k (Err e) = k

-- the transaction that was entered, if one was, is committed
abbrev pub CommitsAs : Result ℕ Refusal → Client → Result ℕ Refusal → Past → Client → Type 0
CommitsAs (Err e) k r steps l = (r ≡ Err e) × (steps ≡ []) × (l ≡ k)
CommitsAs (Ok n) k r steps l = Tries (Step.Commit n) Answer.Placed r steps × (l ≡ committed k r)

-- The transaction is entered by the first steps, and committed by the last ones.
abbrev pub Commits : Client → Result ℕ Refusal → Past → Client → Type 0
Commits k r steps l = (entered : Result ℕ Refusal) × (m : Client) × (first last : Past) ×
    Enters k entered first m × CommitsAs entered m r last l × (steps ≡ first ++ last)

-- so many calls of the transaction are undone
abbrev pub undone : ℕ → ℕ → Past
undone n zero = []
undone n (suc k) = (Step.Back n, Answer.Backed true) ∷ undone n k

-- None is left to undo; or so many were undone as no transaction has.
abbrev pub UndoesLast : ℕ → ℕ → Past → Type 0
UndoesLast n k steps = ((k < 1025) × (steps ≡ (Step.Back n, Answer.Backed false) ∷ [])) ⊎
    ((k ≡ 1025) × (steps ≡ []))

-- Calls of the transaction are undone until none is left, 1,025 at most; or an undoing is refused,
-- and what was undone stays so.
abbrev pub UndoesAll : ℕ → Result (Unit {0}) Refusal → Past → Type 0
UndoesAll n (Ok done) steps = (k : ℕ) × (last : Past) × UndoesLast n k last ×
    (steps ≡ undone n k ++ last)
UndoesAll n (Err e) steps = (k : ℕ) × (last : Past) × (k < 1025) ×
    Tries {T = Bool} (Step.Back n) Answer.Backed (Err e) last × (steps ≡ undone n k ++ last)

-- once its calls are undone, the transaction is ended
abbrev pub EndsAs : ℕ → Result (Unit {0}) Refusal → Result (Unit {0}) Refusal → Past → Type 0
EndsAs n (Err e) r steps = (r ≡ Err e) × (steps ≡ [])
EndsAs n (Ok done) r steps = Tries (Step.Ended n) (alone Answer.Ended) r steps

abbrev pub Ends : ℕ → Result (Unit {0}) Refusal → Past → Type 0
Ends n r steps = (undoing : Result (Unit {0}) Refusal) × (first last : Past) ×
    UndoesAll n undoing first × EndsAs n undoing r last × (steps ≡ first ++ last)

abbrev pub AbortsAs : Client → ℕ → Bool → Result (Unit {0}) Refusal → Past → Client → Type 0
AbortsAs k n false r steps l = (r ≡ Ok tt) × (steps ≡ []) × (l ≡ closing k)
AbortsAs k n true (Ok done) steps l = Ends n (Ok done) steps × (l ≡ closing k)
AbortsAs k n true (Err e) steps l = Ends n (Err e) steps × (l ≡ k)

abbrev pub AbortsOpen : Option Begun → Client → Result (Unit {0}) Refusal → Past → Client → Type 0
AbortsOpen None k r steps l = (r ≡ Err Refusal.NoSuchTxn) × (steps ≡ []) × (l ≡ k)
AbortsOpen (Some begun) k r steps l = AbortsAs k begun.number begun.is_entered r steps l

-- the open transaction is taken back, and is none then
abbrev pub Aborts : Client → Result (Unit {0}) Refusal → Past → Client → Type 0
Aborts k r steps l = AbortsOpen k.begun k r steps l

-- whether the mark has reached the ticket, if there is one
abbrev pub Looks : Option ℕ → Option Bool → Past → Type 0
Looks None r steps = (r ≡ None) × (steps ≡ [])
Looks (Some ticket) None steps = ⊥
Looks (Some ticket) (Some kept) steps =
    (mark : ℕ) × (steps ≡ (Step.Look, Answer.Marked mark) ∷ []) × (IsTrue kept ↔ (ticket ≤ mark))
