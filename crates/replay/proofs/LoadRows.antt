-- What an image's records are answered, from the parts of the state before and after.
use Rattle.std.proofs.Common.{◌≡◌, ℕ, ◌<◌, ◌≤◌, inl, ⊎_elim, Bool, true, false, Ok, List}
use Rattle.std.proofs.Common.{[], ◌∷◌, ◌++◌, length, refl, sym, ◌∙◌, ap, subst, arith}
use Rattle.std.specs.Prelude.{IsTrue}
use Rattle.std.specs.List.{AllByRecursion}
use Rattle.std.specs.FinMap as maps
use Rattle.std.proofs.lemmas.List.{map-append}
use Rattle.calls.specs.declared.format.Format.{Format}
use Rattle.calls.specs.declared.kind.Kind.{Kind}
use Rattle.calls.specs.declared.call.Call.{Call}
use Rattle.calls.specs.declared.item.Item.{Item}
use Rattle.calls.specs.declared.refusal.Refusal.{Refusal}
use Rattle.calls.specs.Contents.{Collection}
use Rattle.calls.specs.Transactions.{Entry, Asked, Deferred}
use Rattle.abstract_locks.specs.declared.table.Hold.{Hold}
use Rattle.abstract_locks.specs.Holds.{hold, IsAdded, IsClear}
use Rattle.undo_log.specs.Entries.{place_of, need_to_take}
use Rattle.undo_log.specs.Logs.{Statuses, Log, Lives}
use Rattle.boosted.proofs.Each.{each_back}
use Rattle.catalog.specs.Making.{IsNew, names_of, Making}
use Rattle.catalog.specs.Places.{Reaches, IsWithin}
use Rattle.catalog.specs.Holdings.{AreItems, Loads, LoadRefused}
use Rattle.records.specs.Records.{IsNumber}
use Rattle.records.specs.Reached.{IsReached}
use Rattle.records.proofs.Items.{items_reached, within_loaded}
use Rattle.steps.specs.Machine.{State}
use Rattle.steps.specs.Machines.{unmade}
use Rattle.replay.specs.Loading.{LoadRow, StandRow, HeldRow, CanHold, IsLast, LoadAnswers}
use Rattle.steps.specs.Views.{state_of}
use Rattle.steps.proofs.LiveNumbers.{nobody, lives_more}
use Rattle.steps.proofs.Rows.{same_parts}
use Rattle.steps.proofs.Sizes.{pushed_length}
use Rattle.boosted.specs.Meaning.{Meaning}
use Rattle.records.specs.Told.{Tells}

-- What the wear reaches has items that it reaches.
loaded_reached : (n : ℕ) (s t : List Collection) (name : List ℕ) (kind : Kind) (items : List Item) →
    Loads s name kind items t → IsWithin t n → AllByRecursion (IsReached n) items
loaded_reached n s t name kind items l w =
    let last = each_back (λ x. Reaches x.content n) s
    (record { name = name; content = l.content } ∷ []) (subst (λ v. IsWithin v n) l.is w) in
    items_reached n l.content items l.lists last.0

-- ---- reading a collection

module _ {S : Type 0} (collections : S → List Collection) (meaning : Meaning S ℕ)
    (making : Making S) (told : Tells meaning making collections)
    (format : Format) (now : S) (held : List Hold) (log : Log) (wear : ℕ) (name : List ℕ)
    (kind : Kind)
    (items : List Item) where
  abbrev Reads : State S → Type 0
  Reads v = LoadRow collections meaning making (state_of format now held log wear) name kind items
      v

  -- The wear does not reach an item.
  pub read_unreached : (AllByRecursion (IsReached wear) items → ⊥) → (v : State S) → Reads v → ⊥
  read_unreached not_reached v row =
      not_reached (loaded_reached wear (collections now) (collections row.next) name kind items
      row.loads ((told.within row.next wear).0 row.reached))

  -- The collections answer.
  pub read_answered : (next : S) (loaded : Bool) → AllByRecursion (IsReached wear) items →
      meaning.within now wear → IsNew (making.names now) name →
      (IsTrue loaded → Loads (collections now) name kind items (collections next)) →
      (loaded ≡ false → (next ≡ now) × (AreItems kind items → ⊥)) →
      LoadAnswers Reads (state_of format now held log wear) (Ok loaded)
      (state_of format next held log wear)
  read_answered next true reached before new loads not = record {
    new = new;
    next = next;
    loads = loads refl;
    reached = (told.within next wear).1
        (within_loaded wear (collections now) (collections next) name kind items (loads refl)
        reached ((told.within now wear).0 before));
    is = refl;
  }
  read_answered next false reached before new loads not = (
    ap (λ v. state_of format v held log wear) (not refl).0,
    λ v row. (not refl).1 (row.loads.content, row.loads.of_kind, row.loads.lists),
  )

  -- They refuse.
  pub read_refused : (next : S) (e : Refusal) → next ≡ now →
      LoadRefused (making.names now) name kind items e →
      LoadAnswers Reads (state_of format now held log wear) (unmade e)
      (state_of format next held log wear)
  read_refused next Refusal.NoMemory same is = ap (λ v. state_of format v held log wear) same
  read_refused next Refusal.NameTaken same is =
      (ap (λ v. state_of format v held log wear) same, λ v row. row.new.free is.1)
  read_refused next Refusal.TooManyCollections same is = (
    ap (λ v. state_of format v held log wear) same,
    λ v row. let few = row.new.few in
        let many = is.2 in absurd (omega arith),
  )
  read_refused next Refusal.BadName same is =
      (ap (λ v. state_of format v held log wear) same, λ v row. is row.new.good.spelt)
  read_refused next Refusal.TooLong same is = (
    ap (λ v. state_of format v held log wear) same,
    λ v row. let short = row.new.good.short in
        let long = is.1 in absurd (omega arith),
  )
  read_refused next e same is = absurd is

  -- What was read has one name more.
  pub read_names : (next : S) → IsNew (making.names now) name →
      Loads (collections now) name kind items (collections next) → length (making.names next) ≤ 256
  read_names next new loads =
      let named = ap length (told.names next ∙ ap names_of loads.is ∙
      map-append (λ x. x.name) (collections now)
      (record { name = name; content = loads.content } ∷ [])) in
      let before = ap length (told.names now) in
      let one = pushed_length (names_of (collections now)) name in
      let few = new.few in
      omega arith

-- ---- a transaction that was live

pub last_none : (live : Statuses) → live ≡ maps.empty → IsLast live 0
last_none live none = record {
  upto = λ n lives. absurd
      (nobody n (subst (λ l. Lives l n) none lives));
  there = λ more. absurd (omega arith);
}

pub last_begun : (live begun : Statuses) (n : ℕ) → ((k : ℕ) → Lives live k → k < n) →
    begun ≡ maps.insert live n false → IsLast begun n
last_begun live begun n above is = subst (λ l. IsLast l n) (sym is) (record {
  upto = λ k lives. ⊎_elim (λ (same : n ≡ k). omega arith)
      (λ (old : Lives live k). let below = above k old in omega arith)
      ((lives_more live n false k).1 lives);
  there = λ more. (lives_more live n false n).0 (inl refl);
})

pub above_last : (live : Statuses) (last n : ℕ) → IsLast live last → last < n → (k : ℕ) →
    Lives live k → k < n
above_last live last n is more k lives = let upto = is.upto k lives in omega arith

module _ {S : Type 0} (format : Format) (now : S) (held : List Hold) (log : Log) (wear n : ℕ)
  where
    abbrev before : State S
    before = state_of format now held log wear

    -- A transaction that was live begins.
    pub stand_row : (log' : Log) (wear' : ℕ) → IsNumber n →
        ((k : ℕ) → Lives log.live k → k < n) → maps.len log.live < 64 →
        log'.live ≡ maps.insert log.live n false → log'.entries ≡ log.entries → wear' ≡ wear →
        StandRow before n (state_of format now held log' wear')
    stand_row log' wear' number above few live entries worn = record {
      number = number;
      above = above;
      few = few;
      is = same_parts format refl live entries refl worn;
    }

    -- what the machine holds then
    module _ (now' : S) (held' : List Hold) (log' : Log) (wear' : ℕ) (meaning : Meaning S ℕ) where
      abbrev behind : State S
      behind = state_of format now' held' log' wear'

      -- What was asked for is noted.
      pub held_row : (e : Entry) → CanHold meaning before n e →
          IsAdded held held' (hold n (place_of e) (need_to_take e)) → now' ≡ now →
          log'.live ≡ log.live → log'.entries ≡ log.entries ++ (n, e) ∷ [] → wear' ≡ wear →
          HeldRow meaning before n e behind
      held_row (Asked e) can added there live entries worn = record {
        live = can.live;
        asked = can.asked;
        told = can.told;
        few = can.few;
        once = can.once;
        clear = can.clear;
        room = can.room;
        holds = added;
        is = same_parts format there live entries refl worn;
      }
      held_row (Deferred at c) can added there live entries worn = record {
        live = can.live;
        deferred = can.deferred;
        few = can.few;
        ready = can.ready;
        clear = can.clear;
        room = can.room;
        holds = added;
        is = same_parts format there live entries refl worn;
      }

-- The need of what can be held is free.
pub hold_clear : {S : Type 0} (meaning : Meaning S ℕ) (s : State S) (n : ℕ) (e : Entry) →
    CanHold meaning s n e → IsClear s.holds n (place_of e) (need_to_take e)
hold_clear meaning s n (Asked e) can = can.clear
hold_clear meaning s n (Deferred at c) can = can.clear
