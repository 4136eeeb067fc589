-- A making over the journal and the shelf of the next number is one of the book.
use Rattle.std.proofs.Common.{◌≡◌, ℕ, ◌<◌, List, length, Result, Ok, Err, OnOk, refl, sym, ◌∙◌}
use Rattle.std.proofs.Common.{ap, subst}
use Rattle.calls.specs.declared.kind.Kind.{Kind}
use Rattle.calls.specs.declared.refusal.Refusal.{Refusal}
use Rattle.calls.specs.Contents.{Content, Collection}
use Rattle.calls.specs.Limits.{max_collections, max_pending}
use Rattle.calls.specs.Names.{IsName}
use Rattle.boosted.specs.Meaning.{Meaning}
use Rattle.boosted.specs.Laws.{BoostedLaws}
use Rattle.catalog.specs.declared.four.Four.{Four}
use Rattle.catalog.specs.Fours.{Which, First, Second, Third, Fourth, which_of, pick, put}
use Rattle.catalog.specs.Making as naming
use Rattle.catalog.specs.Making.{Making, MakingLaws}
use Rattle.catalog.specs.Shelving.{MakesOn, ShelfLaws}
use Rattle.catalog.specs.Woven.{Label, names_in}
use Rattle.steps.specs.Shelves.{ShelfState}
use Rattle.records.specs.declared.record.Record.{Record}
use Rattle.records.specs.Short.{AreShort}
use Rattle.records.specs.Told.{Tells}
use Rattle.steps.specs.Machine.{State, MakeRow}
use Rattle.steps.specs.Wholes.{contents, whole_state, IsJoined}
use Rattle.steps.proofs.BookLaws.{BookLaws, book_laws}
use Rattle.steps.proofs.Steps.{make_settles}
use Rattle.steps.proofs.Joining.{make_joins}
use Rattle.txn.specs.declared.actions.Action.{Action}
use Rattle.txn.specs.Books.{BookState, standing}
use Rattle.txn.specs.Shelved.{JournalState, book_state, Writes, IsBook, LeadsOn, IsServed}
use Rattle.txn.specs.Shelved.{SettlesMade}
use Rattle.txn.proofs.BookInvariant.{make_keeps}
use Rattle.txn.proofs.BookLemmas.{make_refused}
use Rattle.txn.proofs.Goings.{goes_made, lsn_after}
use Rattle.txn.proofs.JournalSteps.{appended}

pub pick_contents : {T : Type 0} (rest : Four (ShelfState T)) (w : Which) (s : ShelfState T) →
    pick (contents (put rest w s)) w ≡ s.now
pick_contents rest First s = refl
pick_contents rest Second s = refl
pick_contents rest Third s = refl
pick_contents rest Fourth s = refl

module _ {S T N : Type 0} {meaning : Meaning S ℕ} {making : Making S}
    {collections : S → List Collection} {shelf : Meaning T ℕ} {index : T → Which}
    {holds : T → ℕ → Content → Type 0} {labels : N → List Label} {whole : N → Four T → S}
    {fits : N → Four T → Type 0} (calls : BoostedLaws meaning) (makings : MakingLaws meaning making)
    (told : Tells meaning making collections)
    (shelves : ShelfLaws labels whole fits meaning making collections shelf index holds)
    (j : JournalState N) (s : ShelfState T) (name : List ℕ) (kind : Kind) where
  laws : BookLaws meaning making (λ f s. AreShort f (collections s))
  laws = book_laws calls makings told

  abbrev turn : Which
  turn = which_of (length (labels j.names))

  abbrev Book : JournalState N → Four (ShelfState T) → Type 0
  Book i f = IsBook meaning making collections whole fits i f

  abbrev Made : Result ℕ Refusal → BookState S → BookState S → Type 0
  Made result b c = IsServed meaning making collections (Action.Make name kind) result
      (OnOk result (SettlesMade meaning making name kind b c)) b c

  abbrev On : Result ℕ Refusal → JournalState N → ShelfState T → Type 0
  On result k t = LeadsOn meaning making collections whole fits (Made result) turn j s k t

  pub placed : (rest : Four (ShelfState T)) → Book j (put rest turn s) → index s.now ≡ turn
  placed rest is = ap index (sym (pick_contents rest turn s)) ∙
      shelves.placed j.names (contents (put rest turn s)) turn is.joined.fit

  -- It is refused as the whole would refuse it.
  pub make_refused_on : (e : Refusal) → length j.pending < max_pending →
      naming.MakeRefused (names_in (labels j.names)) name e → On (Err e) j s
  make_refused_on e room why = record {
    told = λ rest is. let b = book_state whole j (put rest turn s) in record {
      answer = (
        refl,
        make_refused (making.names b.state.now) (standing b) name e room
            (subst (λ names. naming.MakeRefused names name e)
            (sym (shelves.names j.names (contents (put rest turn s)) is.joined.fit)) why),
      );
      settles = tt;
      goes = tt;
      notes = tt;
    };
    kept = λ rest is. is;
  }

  pub made_on : (k : JournalState N) (t : ShelfState T) (place : ℕ) → IsName name →
      length (labels j.names) < max_collections →
      MakesOn labels whole fits making j.names s.now name kind k.names t.now →
      t.holds ≡ s.holds → k.transactions ≡ j.transactions → Writes j (Record.Make kind name) k →
      k.gathering ≡ j.gathering → place ≡ k.places → On (Ok place) k t
  made_on k t place good few made held same writes still count = record {
    told = λ rest is. (both rest is).1;
    kept = λ rest is. (both rest is).0;
  }
    where
      both : (rest : Four (ShelfState T)) → Book j (put rest turn s) →
          Book k (put rest turn t) ×
          Made (Ok place) (book_state whole j (put rest turn s))
          (book_state whole k (put rest turn t))
      both rest is =
          let b = book_state whole j (put rest turn s) in
          let c = book_state whole k (put rest turn t) in
          let joins = make_joins shelves laws j.names k.names j.transactions s t name kind good few
          made
          held rest is.joined in
          let row = subst (λ a. MakeRow making b.state name kind (whole_state whole k.names a
          (put rest turn t))) (sym same) joins.0 in
          let to = appended whole (put rest turn s) (put rest turn t) writes in
          let now = subst (making.makes b.state.now name kind) (sym (ap (λ (v : State S). v.now)
          row.is)) row.made in (
            record {
              joined = subst (λ a. IsJoined meaning making collections whole fits k.names a
                  (put rest turn t)) (sym same) joins.1;
              kept = make_keeps meaning making (λ f s. AreShort f (collections s)) laws b is.kept
                  name kind c row to;
            },
            record {
              answer = (row, to, count);
              settles = λ d v. make_settles meaning making laws.rules b.state is.kept.upheld.holds
                  name kind c.state d row v;
              goes = goes_made calls told b c name kind now still
                  (lsn_after b c (Record.Make kind name) to);
              notes = still;
            },
          )
