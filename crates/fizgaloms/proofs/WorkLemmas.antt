-- A store that was closed was worked on.
use Rattle.std.proofs.Common.{◌≡◌, ◌⊎◌, inl, inr, ℕ, zero, suc, ◌≤◌, ◌<◌, List, [], ◌∷◌, ◌++◌}
use Rattle.std.proofs.Common.{length, Some, None, Result, Ok, Err, refl, sym, ap, ◌∙◌, subst, take}
use Rattle.std.proofs.Common.{append_assoc}
use Rattle.std.proofs.Common.{arith, length-append}
use Rattle.std.specs.Prelude.{Contains, IfOk, slice_get, get_or}
use mathlib.Core.List.{IsPrefix}
use Rattle.std.proofs.lemmas.Option.{same_Some, none-some}
use Rattle.std.proofs.lemmas.List.Elements.{All-contains, All-contains_itself, All-weaker}
use Rattle.std.proofs.lemmas.List.Elements.{Contains-append_left, Contains-append_right}
use Rattle.calls.specs.Contents.{Collection}
use Rattle.calls.specs.Transactions.{Transaction}
use Rattle.calls.specs.declared.refusal.Refusal.{Refusal}
use Rattle.checkpoint.specs.Crash.{Yields}
use Rattle.disk_model.specs.Disk.{IsAtRest, Elapses}
use Rattle.disk_model.specs.declared.disk.Disk.{Ghosts}
use Rattle.group_commit.specs.declared.mark.Raised.{Raised}
use Rattle.group_commit.specs.declared.view.Party.{Party}
use Rattle.group_commit.specs.Histories.{AllBegan, AreCounted}
use Rattle.group_commit.specs.Lines.{numbers_of}
use Rattle.group_commit.specs.Marks.{AreReached}
use Rattle.recovery.specs.Openings.{KeepsContent}
use Rattle.recovery.specs.Refusals.{IsOnlyOpened}
use Rattle.replay.specs.Journals.{StandsFor}
use Rattle.replay.specs.Reading.{IsSound}
use Rattle.clients.specs.Known.{SeenState, all_left, both_left}
use Rattle.desks.specs.Origins.{Origin}
use Rattle.clients.specs.Known.{Known}
use Rattle.desks.specs.declared.naming.Naming as namings
use Rattle.txn.specs.Books.{standing}
use Rattle.txn.specs.declared.actions.BookStep.{BookStep}
use Rattle.txn.specs.Histories.{committed_by}
use Rattle.store.specs.Closing.{WasKept}
use Rattle.fizgaloms.specs.Works.{IsSaid, AreSaid, IsPart, AreParts, AreTold}
use Rattle.fizgaloms.specs.Works.{IsClosed, WasOpened, GoesToRest}

-- what holds of an answer, and what follows from it
pub ok_then : {X E : Type 0} (r : Result X E) (P Q : X → Type 0) → IfOk r P →
    ((x : X) → P x → Q x) → IfOk r Q
ok_then (Ok x) P Q p then = then x p
ok_then (Err e) P Q p then = tt

-- what holds of every answer
pub ok_always : {X E P : Type 0} (r : Result X E) → P → IfOk r (λ x. P)
ok_always (Ok x) p = p
ok_always (Err e) p = tt

-- ---- beginnings of a list

pub prefix_through : (xs ys zs : List BookStep) → IsPrefix xs ys → IsPrefix ys zs → IsPrefix xs zs
prefix_through xs ys zs a b = (
  a.0 ++ b.0,
  sym (append_assoc xs a.0 b.0) ∙ (ap (λ l. l ++ b.0) a.1 ∙ b.1),
)

-- two lists of one length, with one more each
pub snocs_same : {A B : Type 0} (xs : List A) (ys : List B) (x : A) (y : B) →
    length xs ≡ length ys → length (xs ++ x ∷ []) ≡ length (ys ++ y ∷ [])
snocs_same xs ys x y same =
    omega (arith, length-append xs (x ∷ []), length-append ys (y ∷ []), same)

-- an element of a list with one more is of the list, or the one more
snoc_at : {A : Type 0} (xs : List A) (x a : A) (i : ℕ) → slice_get (xs ++ x ∷ []) i ≡ Some a →
    (slice_get xs i ≡ Some a) ⊎ ((i ≡ length xs) × (x ≡ a))
snoc_at [] x a zero e = inr (refl, same_Some x a e)
snoc_at [] x a (suc i) e = absurd (none-some a e)
snoc_at (y ∷ ys) x a zero e = inl e
snoc_at (y ∷ ys) x a (suc i) e = elim (snoc_at ys x a i e) [
  | inl within ↦ inl within
  | inr last ↦ inr (ap suc last.0, last.1)
]

-- an element of a list is at its place still where others come behind it
get_front : {A : Type 0} (xs ys : List A) (i : ℕ) (a : A) → slice_get xs i ≡ Some a →
    slice_get (xs ++ ys) i ≡ Some a
get_front [] ys i a e = absurd (none-some a e)
get_front (x ∷ xs) ys zero a e = e
get_front (x ∷ xs) ys (suc i) a e = get_front xs ys i a e

get_end : {A : Type 0} (xs : List A) (a : A) → slice_get (xs ++ a ∷ []) (length xs) ≡ Some a
get_end [] a = refl
get_end (x ∷ xs) a = get_end xs a

-- ---- numbers of clients

length_numbers : (ps : List Party) → length (numbers_of ps) ≡ length ps
length_numbers [] = refl
length_numbers (p ∷ ps) = ap suc (length_numbers ps)

number_at : (ps : List Party) (i : ℕ) (p : Party) → slice_get ps i ≡ Some p →
    slice_get (numbers_of ps) i ≡ Some p.number
number_at [] i p e = absurd (none-some p e)
number_at (q ∷ ps) zero p e = ap (λ (u : Party). Some u.number) (same_Some q p e)
number_at (q ∷ ps) (suc i) p e = number_at ps i p e

began_at : (ps : List Party) (i : ℕ) (p : Party) → slice_get ps i ≡ Some p →
    (steps : List BookStep) → AllBegan steps ps → IsPrefix p.seen steps
began_at [] i p e steps began = absurd (none-some p e)
began_at (q ∷ ps) zero p e steps began =
    let b = began p (inl (sym (same_Some q p e))) in (b.later, b.begun)
began_at (q ∷ ps) (suc i) p e steps began =
    began_at ps i p e steps (λ r h. began r (inr h))

-- ---- what threads answered

module _ {A : Type 0} (says : ℕ → A → Known → Type 0) where
  pub parts_none : AreParts says [] (all_left None)
  parts_none = record { count = refl; each = λ thread answer at. absurd (none-some answer at) }

  -- what a thread answered that was given a client
  pub said_at : (ended : List (Result (A × SeenState) Refusal)) (n k : ℕ) →
      AreSaid says ended n → k < n → (x : Result (A × SeenState) Refusal) →
      x ≡ get_or ended k x → (e : A × SeenState) → x ≡ Ok e → IsSaid says k e.0 e.1
  said_at ended n k are within x at e ok =
      subst (λ (r : Result (A × SeenState) Refusal). IfOk r (λ e. IsSaid says k e.0 e.1))
      (sym at ∙ ok) (are k x within)

  -- what was part of some clients' leavings is of theirs and another one's
  part_goes : (left more : SeenState) (thread : ℕ) (answer : A) → IsPart says left thread answer →
      IsPart says (both_left left more) thread answer
  part_goes left more thread answer part = record {
    known = part.known;
    said = part.said;
    client = part.client;
    place = get_front left.clients more.clients thread part.client part.place;
    number = part.number;
    seen = part.seen;
    loaded = λ count some.
        Contains-append_left left.counts more.counts count (part.loaded count some);
  }

  part_comes : (left more : SeenState) (answer : A) →
      IsSaid says (length left.clients) answer more →
      IsPart says (both_left left more) (length left.clients) answer
  part_comes left more answer said = record {
    known = said.known;
    said = said.said;
    client = said.client;
    place = ap (λ l. slice_get (left.clients ++ l) (length left.clients)) said.alone
        ∙ get_end left.clients said.client;
    number = said.number;
    seen = said.seen;
    loaded = λ count some.
        Contains-append_right left.counts more.counts count (said.loaded count some);
  }

  -- the answer of one thread more
  pub parts_more : (answers : List A) (left : SeenState) (answer : A) (more : SeenState) →
      AreParts says answers left → IsSaid says (length answers) answer more →
      AreParts says (answers ++ answer ∷ []) (both_left left more)
  parts_more answers left answer more are said =
      let comes = part_comes left more answer
      (subst (λ n. IsSaid says n answer more) (sym are.count) said) in record {
        count = ap (λ l. length (left.clients ++ l)) said.alone
            ∙ snocs_same left.clients answers said.client answer are.count;
        each = λ thread a at. elim (snoc_at answers answer a thread at) [
          | inl within ↦ part_goes left more thread a (are.each thread a within)
          | inr last ↦ subst (λ (x : A). IsPart says (both_left left more) thread x) last.1
              (subst (λ n. IsPart says (both_left left more) n answer)
              (are.count ∙ sym last.0) comes)
        ];
      }

  -- The history begins with all of it, and has steps of no other client, and the mark has reached
  -- all of it.
  pub parts_told : (answers : List A) (left : SeenState) (made : ℕ) (steps : List BookStep)
      (kept : ℕ) → AreParts says answers left → made ≡ length answers →
      AreCounted left.clients made steps → AreReached left.counts kept →
      (was_kept : Raised → Type 0) →
      ((x : Raised) → Contains left.counts x → 0 < x.count → was_kept x) →
      AreTold says answers kept steps was_kept
  parts_told answers left made steps kept are whole counted reached was_kept all =
      let numbers = numbers_of left.clients in record {
        clients = numbers;
        count = length_numbers left.clients ∙ are.count;
        apart = counted.apart;
        only = counted.only (are.count ∙ sym whole);
        each = λ thread answer at.
            let part = are.each thread answer at in
            let loaded = part.known.counts in record {
              known = part.known;
              said = part.said;
              number = number_at left.clients thread part.client part.place
                  ∙ ap (λ n. Some n) part.number;
              begins = prefix_through part.known.seen part.client.seen steps part.seen
                  (began_at left.clients thread part.client part.place steps counted.began);
              reached = All-weaker (Contains loaded) (λ x. x.count ≤ kept)
                  (λ x there. All-contains (λ y. y.count ≤ kept) left.counts x reached
                  (part.loaded x there)) loaded (All-contains_itself loaded);
              since = λ x there told. all x (part.loaded x there) told;
            };
      }

-- ---- what is left

-- more is known of the parts
pub closed_with : {J D : Type 0} (j : namings.Ghosts J) (g : Ghosts D)
    (some more : SeenState → ℕ → Type 0) (new : D) (kept : ℕ) →
    IsClosed j g some new kept →
    ((left : SeenState) (made : ℕ) → some left made → more left made) →
    IsClosed j g more new kept
closed_with j g some more new kept closed then = record {
  left = closed.left;
  made = closed.made;
  book = closed.book;
  keeper = closed.keeper;
  closes = closed.closes;
  disk = closed.disk;
  mark = closed.mark;
  parts_of = then closed.left closed.made closed.parts_of;
}

-- of the transactions none
yields_none : (content : List Collection) (all : List Transaction) (bytes : List ℕ) →
    IsSound bytes × StandsFor bytes content → Yields content all [] bytes
yields_none content all bytes kept = record {
  sound = kept.0;
  content = content;
  stands = kept.1;
  kept = [];
  begins = (all, refl);
  holds = ([], refl);
  serial = refl;
}

module _ {D : Type 0} (g : Ghosts D) where
  -- A disk that was left as it was, or that was synced.
  pub goes_nowhere : (disk : D) → g.may_leave disk (g.seen disk) → GoesToRest g disk disk
  goes_nowhere disk stays = record {
    seen = refl;
    stays = stays;
    stop = λ bytes left. left;
    later = omega arith;
    since = λ from bytes before left. left;
  }

  pub goes_synced : (old new : D) →
      ((t : ℕ) (bytes : List ℕ) → t ≤ g.moment old → g.may_leave old bytes →
      g.left_since old t bytes) → g.may_leave new (g.seen new) →
      g.seen new ≡ g.seen old →
      ((bytes : List ℕ) → g.may_leave new bytes → g.may_leave old bytes) →
      Elapses (g.moment old) (g.moment new) (g.left_since old) (g.left_since new)
      (g.may_leave new) → GoesToRest g old new
  goes_synced old new counts stays same stop time = record {
    seen = same;
    stays = stays;
    stop = stop;
    later = time.later;
    since = λ from bytes before left. elim (time.nothing_else from bytes before left) [
      | inl past ↦ past
      | inr now ↦ counts from bytes before (stop bytes now)
    ];
  }

  -- A store that was opened under a name was worked on.
  pub was_opened : {J : Type 0} (j : namings.Ghosts J)
      (parts : SeenState → ℕ → Type 0)
      (told : Origin → List BookStep → (Raised → Type 0) → Type 0) (old opened new : D) (kept : ℕ) →
      (closed : IsClosed j g parts new kept) →
      ((was_kept : Raised → Type 0) →
      ((x : Raised) → Contains closed.left.counts x → 0 < x.count → was_kept x) →
      told j.origin closed.closes.steps was_kept) →
      (g.is_honest opened → IsOnlyOpened g old opened) →
      (g.is_honest opened → KeepsContent g.seen g.may_leave g.moment g.left_since old opened) →
      (g.is_honest opened → IsAtRest g.seen g.may_leave old → j.sound) →
      (g.is_honest opened → IsSound (g.seen old)) →
      ((content : List Collection) → StandsFor (g.seen old) content → g.is_honest opened →
      j.origin.start ≡ content) → (j.opened_at ≡ g.moment opened) →
      ((t : ℕ) (bytes : List ℕ) → j.left_since t bytes → g.left_since opened t bytes) →
      WasOpened g told old new kept
  was_opened j parts told old opened new kept closed told_of only keeps sound whole start at was =
      let steps = closed.closes.steps in
      let stop : g.is_honest opened → (content : List Collection) →
      IsAtRest g.seen g.may_leave old → StandsFor (g.seen old) content → (bytes : List ℕ) →
      g.may_leave new bytes →
      Yields content (committed_by steps) (take kept (committed_by steps)) bytes =
      λ honest content rest stands bytes left.
      subst (λ s. Yields s (committed_by steps) (take kept (committed_by steps)) bytes)
      (start content stands honest)
      (subst (λ n. Yields j.origin.start (committed_by steps) (take n (committed_by steps)) bytes)
      (sym closed.mark)
      (closed.closes.stop (sound honest rest) bytes (closed.disk.stop bytes left))) in record {
        opened = opened;
        only_opened = only;
        keeps = keeps;
        worked = λ honest content rest stands. record {
          origin = j.origin;
          start = start content stands honest;
          steps = steps;
          behind = standing closed.book;
          history = closed.closes.legal;
          told_of = told_of (WasKept g new content (committed_by steps) (g.moment old))
              (λ x there told.
              let opening = keeps honest content rest (whole honest) stands in
              let since = closed.closes.since_told (sound honest rest) x there told in record {
                later = omega (arith, since.later, at, opening.later);
                past = omega (arith, since.past, closed.disk.later);
                each = λ bytes left.
                    subst (λ s. Yields s (committed_by steps)
                    (take x.count (committed_by steps)) bytes) (start content stands honest)
                    (since.each bytes
                    (closed.disk.since x.moment bytes since.past left));
              });
          any_moment = λ bytes left.
              let opening = keeps honest content rest (whole honest) stands in
              let since = closed.closes.any_moment (sound honest rest) in
              elim (since.before (g.moment old) bytes (omega (arith, at, opening.later))
              (closed.disk.since (g.moment old) bytes
              (omega (arith, at, opening.later, since.later)) left)) [
                | inl before ↦ yields_none content (committed_by steps) bytes
                    (opening.each bytes (was (g.moment old) bytes before))
                | inr now ↦ subst (λ s. Yields s (committed_by steps) [] bytes)
                    (start content stands honest) now
              ];
          stop = stop honest content rest stands;
          stands = stop honest content rest stands (g.seen new) closed.disk.stays;
        };
      }
