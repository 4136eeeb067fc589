-- A shelf of which a transaction asked for nothing.
use Rattle.std.proofs.Common.{◌≡◌, ◌≢◌, ◌↔◌, ℕ, ◌%◌, ◌==◌, cond, Bool, true, false, eq-eqb, ne_eqb}
use Rattle.std.proofs.Common.{⊎_elim, List, [], ◌∷◌, ◌++◌, map, refl, sym, subst, ap, ◌∙◌}
use Rattle.std.specs.List.{AllByRecursion, filter}
use Rattle.calls.specs.declared.call.Call.{Call}
use Rattle.calls.specs.declared.reply.Reply.{Reply}
use Rattle.calls.specs.Contents.{Collection}
use Rattle.calls.specs.Rules.{left_by}
use Rattle.calls.specs.Transactions.{Event, Entry, Asked, Deferred, own, laters_of}
use Rattle.abstract_locks.specs.declared.table.Hold.{Hold}
use Rattle.undo_log.specs.Entries.{stamped_entry}
use Rattle.undo_log.specs.Logs.{Falls}
use Rattle.undo_log.specs.declared.logged.Stamped.{Stamped}
use Rattle.boosted.specs.Meaning.{Meaning}
use Rattle.catalog.specs.declared.four.Four.{Four}
use Rattle.catalog.specs.Fours.{Which, rank, which_of, pick}
use Rattle.catalog.specs.Laws.Numbers.{remainder_is}
use Rattle.catalog.specs.Making.{Making}
use Rattle.steps.specs.Shelves.{ShelfState, on_quarter}
use Rattle.steps.specs.Machine.{IsRunning}
use Rattle.undo_log.specs.Entries.{place_of}
use Rattle.steps.specs.Wholes.{HasEntry}
use Rattle.steps.specs.TransactionTables.{alone}
use Rattle.steps.proofs.FourShelves.{rank_is, held_in, held_each}
use Rattle.txn.specs.Shelved.{JournalState, IsBook, IsUntouched, IsIdle}

-- Nothing of these is of a collection on the shelf.
abbrev Elsewhere : Which → List Entry → Type 0
Elsewhere w es = AllByRecursion (λ e. which_of (place_of e) ≢ w) es

all_elsewhere : (w : Which) (ss : List Stamped) →
    AllByRecursion (λ s. place_of (stamped_entry s) % 4 ≢ rank w) ss ↔
    Elsewhere w (map stamped_entry ss)
all_elsewhere w [] = (λ none. tt, λ none. tt)
all_elsewhere w (s ∷ ss) =
    let at = place_of (stamped_entry s) in
    let rest = all_elsewhere w ss in (
      λ all. (λ is. all.0 (remainder_is at ∙ ap rank is), rest.0 all.1),
      λ all. (
        λ is. all.0 (rank_is (which_of at) w (sym (remainder_is at) ∙ is)),
        rest.1 all.1,
      ),
    )

-- Whether an entry is of its quarter tells whether something is.
pub untouched : (w : Which) (n : ℕ) (es : List (ℕ × Entry)) (ss : List Stamped) (some : Bool) →
    map stamped_entry ss ≡ own n es →
    ((some ≡ false) ↔ AllByRecursion (λ s. place_of (stamped_entry s) % 4 ≢ rank w) ss) →
    (some ≡ false) ↔ IsUntouched w n es
untouched w n es ss some is tells = subst (λ l. (some ≡ false) ↔ Elsewhere w l) is (
  λ no. (all_elsewhere w ss).0 (tells.0 no),
  λ all. tells.1 ((all_elsewhere w ss).1 all),
)

-- ---- what a commit has to settle there

-- a later, as transactions are told
abbrev later : (at : ℕ) → Call → Event
later at c = record { at = at; call = c; reply = Reply.Done }

none_first : (w : Which) (at : ℕ) → which_of at ≢ w → (cs : List Call) (es : List Event) →
    on_quarter (rank w) (map (later at) cs ++ es) ≡ on_quarter (rank w) es
none_first w at other [] es = refl
none_first w at other (c ∷ cs) es =
    let rest = on_quarter (rank w) (map (later at) cs ++ es) in
    ap (λ b. cond b (later at c ∷ rest) rest)
    (ne_eqb (at % 4) (rank w)
    (λ same. other (rank_is (which_of at) w (sym (remainder_is at) ∙ same)))) ∙
    none_first w at other cs es

no_laters : (w : Which) (es : List Entry) → Elsewhere w es →
    on_quarter (rank w) (laters_of es) ≡ []
no_laters w [] none = refl
no_laters w (Asked e ∷ es) none =
    none_first w e.at none.0 (left_by e.call e.reply) (laters_of es) ∙ no_laters w es none.1
no_laters w (Deferred at c ∷ es) none =
    none_first w at none.0 (c ∷ []) (laters_of es) ∙ no_laters w es none.1

abbrev ones : ℕ → List (ℕ × Entry) → List (ℕ × Entry)
ones n es = filter (λ e. e.0 == n) es

behind : (w : Which) (n : ℕ) (x : ℕ × Entry) (es : List (ℕ × Entry)) (b : Bool) →
    Elsewhere w (map (λ e. e.1) (cond b (x ∷ ones n es) (ones n es))) → IsUntouched w n es
behind w n x es true all = all.1
behind w n x es false all = all

no_entry : (w : Which) (n at : ℕ) (es : List (ℕ × Entry)) → which_of at ≡ w →
    IsUntouched w n es → HasEntry n at es → ⊥
no_entry w n at [] on none has = has
no_entry w n at (x ∷ es) on none has = ⊎_elim
    (λ (a : (x.0 ≡ n) × (place_of x.1 ≡ at)).
    (subst (λ b. Elsewhere w (map (λ e. e.1) (cond b (x ∷ ones n es) (ones n es))))
    (eq-eqb x.0 n a.0) none).0 (ap which_of a.1 ∙ on))
    (λ b. no_entry w n at es on (behind w n x es (x.0 == n) none) b) has

-- A running transaction has nothing to settle on a shelf of which it asked for nothing.
pub idle_there : {S T N : Type 0} {meaning : Meaning S ℕ} {making : Making S}
    {collections : S → List Collection} {whole : N → Four T → S} {fits : N → Four T → Type 0}
    (w : Which) (j : JournalState N) (f : Four (ShelfState T)) (n : ℕ) →
    IsBook meaning making collections whole fits j f → IsRunning (alone j.transactions) n →
    IsUntouched w n j.transactions.entries →
    IsIdle (pick f w) n (on_quarter (rank w) (laters_of (own n j.transactions.entries)))
idle_there w j f n book running none = (
  no_laters w (own n j.transactions.entries) none,
  λ h. (
    λ there. (
      there,
      λ (mine : h.owner ≡ n).
          let es = j.transactions.entries in
          let has = book.joined.owed.owed h (held_in f w h there)
          (λ falls. running.standing (subst (Falls j.transactions.live) mine falls)) in
          no_entry w n h.at es
          (held_each (λ (k : Hold). which_of k.at ≡ w) (pick f w).holds (book.joined.own w) h there)
          none (subst (λ m. HasEntry m h.at es) mine has),
    ),
    λ both. both.0,
  ),
)
