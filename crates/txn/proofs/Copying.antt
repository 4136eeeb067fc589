-- A gathering of a book in parts is one of the book.
use Rattle.std.proofs.Common.{◌≡◌, ℕ, ◌≤◌, ◌<◌, zero, suc, List, [], ◌∷◌, length, Option, Some}
use Rattle.std.proofs.Common.{None}
use Rattle.std.proofs.Common.{Result, Ok, Err, Bool, IfOk, IfErr, IfSome, OnOk, slice_get, refl}
use Rattle.std.proofs.Common.{sym}
use Rattle.std.proofs.Common.{◌∙◌, ap, subst, arith}
use Rattle.std.specs.List.{AllByRecursion}
use Rattle.std.specs.Option.{option_map, unwrap_or}
use Rattle.std.proofs.lemmas.List.{length-map}
use Rattle.std.proofs.lemmas.Option.{slice_get_past}
use Rattle.std.proofs.lemmas.Result.{IfOk-weaker}
use Rattle.calls.specs.declared.refusal.Refusal.{Refusal}
use Rattle.calls.specs.Contents.{Content, Collection, kind_of_content}
use Rattle.calls.specs.Formats.{widest}
use Rattle.boosted.specs.Meaning.{Meaning}
use Rattle.catalog.specs.declared.four.Four.{Four}
use Rattle.catalog.specs.Fours.{Which, First, Second, Third, Fourth, which_of, pick}
use Rattle.catalog.specs.Making.{Making}
use Rattle.catalog.specs.Places.{At}
use Rattle.catalog.specs.Shelving.{ShelfLaws, CopyRefused}
use Rattle.catalog.specs.Woven.{Label}
use Rattle.steps.specs.Shelves.{ShelfState}
use Rattle.records.specs.Short.{AreShort, HoldsShort}
use Rattle.records.proofs.Items.{widest_all}
use Rattle.steps.specs.Sound.{IsSound}
use Rattle.steps.specs.Wholes.{contents}
use Rattle.images.specs.Gathers.{GatherState}
use Rattle.images.specs.Gatherings.{GatheringState, CanGoOn, IsNextOf, part_of, GatherAnswers}
use Rattle.images.specs.Gatherings.{GoesAlong}
use Rattle.txn.specs.Books.{BookState, IsKept}
use Rattle.txn.specs.Shelved.{JournalState, book_state, journal_lsn, IsBook}
use Rattle.txn.specs.Parts.{IsCopy, IsGivenNext, GathersOn}

pub pick_now : {T : Type 0} (f : Four (ShelfState T)) (w : Which) →
    pick (contents f) w ≡ (pick f w).now
pick_now f First = refl
pick_now f Second = refl
pick_now f Third = refl
pick_now f Fourth = refl

-- what is at a place of a list
pub found : {X : Type 0} (xs : List X) (i : ℕ) → i < length xs → (x : X) × (slice_get xs i ≡ Some x)
found [] i below = absurd (omega (arith, below))
found (x ∷ xs) zero below = (x, refl)
found (x ∷ xs) (suc i) below = found xs i (omega (arith, below))

at_found : {X : Type 0} (P : X → Type 0) (xs : List X) (i : ℕ) (x : X) → slice_get xs i ≡ Some x →
    P x → At P xs i
at_found P [] i x is here = absurd (cc)
at_found P (y ∷ xs) zero x is here = subst P (sym (ap (λ o. unwrap_or o y) is)) here
at_found P (y ∷ xs) (suc i) x is here = at_found P xs i x is here

named_is : (o : Option Label) (n : List ℕ) → option_map (λ x. x.name) o ≡ Some n →
    (x : Label) × (o ≡ Some x) × (x.name ≡ n)
named_is None n is = absurd (cc)
named_is (Some x) n is = (x, refl, ap (λ o. unwrap_or o n) is)

pub below_named : (xs : List Label) (i : ℕ) (n : List ℕ) →
    option_map (λ x. x.name) (slice_get xs i) ≡ Some n → i < length xs
below_named [] i n is = absurd (cc)
below_named (x ∷ xs) zero n is = omega arith
below_named (x ∷ xs) (suc i) n is = let low = below_named xs i n is in omega (arith, low)

-- what holds of each holds of the one at a place
at_place : {X : Type 0} (P : X → Type 0) (xs : List X) (i : ℕ) (x : X) → AllByRecursion P xs →
    slice_get xs i ≡ Some x → P x
at_place P [] i x each is = absurd (cc)
at_place P (y ∷ xs) zero x each is = subst P (ap (λ o. unwrap_or o y) is) each.0
at_place P (y ∷ xs) (suc i) x each is = at_place P xs i x each.1 is

-- A book stays one where only what is noted of it changes.
pub renoted : {S : Type 0} {meaning : Meaning S ℕ} {making : Making S}
    (collections : S → List Collection) (b : BookState S) (n : GatheringState) →
    IsKept meaning making (λ f s. AreShort f (collections s)) (IsSound meaning making) b →
    IsKept meaning making (λ f s. AreShort f (collections s)) (IsSound meaning making)
    (record b { gathering = n })
renoted collections b n kept = record {
  records = kept.records;
  few_pending = kept.few_pending;
  frozen = kept.frozen;
  upheld = kept.upheld;
  below = kept.below;
  next = kept.next;
  lsns = kept.lsns;
  placed = kept.placed;
  counted = kept.counted;
}

module _ {S T N P : Type 0} {meaning : Meaning S ℕ} {making : Making S}
    {collections : S → List Collection} {shelf : Meaning T ℕ} {index : T → Which}
    {holds : T → ℕ → Content → Type 0} {labels : N → List Label} {whole : N → Four T → S}
    {fits : N → Four T → Type 0} (collection : P → Collection)
    (shelves : ShelfLaws labels whole fits meaning making collections shelf index holds) where
  -- There are as many collections as names.
  pub as_many : (names : N) (f : Four T) → fits names f →
      length (labels names) ≡ length (collections (whole names f))
  as_many names f fit = ap length (sym (shelves.named names f fit)) ∙
      length-map (collections (whole names f))
      (λ x. record { name = x.name; kind = kind_of_content x.content })

  -- What the whole has at a number, its shelf holds.
  pub held_there : (names : N) (f : Four (ShelfState T)) (at : ℕ) → fits names (contents f) →
      at < length (labels names) → (k : Content) × holds (pick f (which_of at)).now at k
  held_there names f at fit below =
      let there = found (collections (whole names (contents f))) at
      (subst (λ n. at < n) (as_many names (contents f) fit) below) in (
        there.0.content,
        subst (λ s. holds s at there.0.content) (pick_now f (which_of at))
            (shelves.holds_here names (contents f) at there.0 fit there.1),
      )

  -- So a copy of it is refused for want of memory alone.
  pub only_memory : (names : N) (f : Four (ShelfState T)) (at : ℕ) (e : Refusal) →
      fits names (contents f) → at < length (labels names) →
      CopyRefused (holds (pick f (which_of at)).now at) e → e ≡ Refusal.NoMemory
  only_memory names f at Refusal.NoSuchCollection fit below none =
      let there = held_there names f at fit below in absurd (none there.0 there.1)
  only_memory names f at Refusal.NoMemory fit below is = refl
  only_memory names f at e fit below is = absurd is

  pub only_hungry : {X : Type 0} (names : N) (f : Four (ShelfState T)) (at : ℕ)
      (r : Result X Refusal) → fits names (contents f) → at < length (labels names) →
      IfErr r (CopyRefused (holds (pick f (which_of at)).now at)) →
      IfErr r (λ e. e ≡ Refusal.NoMemory)
  only_hungry names f at (Ok x) fit below why = tt
  only_hungry names f at (Err e) fit below why = only_memory names f at e fit below why

  -- What holds of a shelf's content under its name holds of the collection there.
  pub there_too : (P : Collection → Type 0) (names : N) (f : Four (ShelfState T)) (at : ℕ)
      (n : List ℕ) (k : Content) → fits names (contents f) →
      option_map (λ x. x.name) (slice_get (labels names) at) ≡ Some n →
      holds (pick f (which_of at)).now at k → P (record { name = n; content = k }) →
      At P (collections (whole names (contents f))) at
  there_too P names f at n k fit named held here =
      let x = named_is (slice_get (labels names) at) n named in
      let there = shelves.holds_there names (contents f) at x.0 k fit x.1
      (subst (λ s. holds s at k) (sym (pick_now f (which_of at))) held) in
      at_found P (collections (whole names (contents f))) at _ there
      (subst (λ m. P (record { name = m; content = k })) (sym x.2) here)

  -- A copy of what a shelf holds is one of what the whole has there.
  pub copy_is : (names : N) (f : Four (ShelfState T)) (at : ℕ) (part : Option P) →
      fits names (contents f) → IsCopy labels holds collection names f at part →
      option_map collection part ≡ slice_get (collections (whole names (contents f))) at
  copy_is names f at None fit past = sym (slice_get_past (collections (whole names (contents f))) at
      (subst (λ n. n ≤ at) (as_many names (contents f) fit) past))
  copy_is names f at (Some part) fit copy =
      let k = (collection part).content in
      let there = shelves.holds_there names (contents f) at copy.0 k fit copy.1
      (subst (λ s. holds s at k) (sym (pick_now f (which_of at))) copy.3) in
      ap (λ n. let x : Collection = record { name = n; content = k } in Some x) copy.2 ∙ sym there

  module _ (j : JournalState N) (f : Four (ShelfState T)) (g : GatherState)
      (part : Result (Option P) Refusal)
      (given : IsGivenNext labels holds collection meaning making collections whole fits j f g part)
    where
      abbrev now : S
      now = whole j.names (contents f)

      by_result : (r : Result (Option P) Refusal) →
          IfOk r (IsCopy labels holds collection j.names f (length g.parts)) →
          IfOk (part_of collection r) (λ p. p ≡ slice_get (collections now) (length g.parts))
      by_result (Ok o) copy = copy_is j.names f (length g.parts) o given.book.joined.fit copy
      by_result (Err e) copy = tt

      refused_so : (r : Result (Option P) Refusal) → IfErr r (λ e. e ≡ Refusal.NoMemory) →
          IfErr (part_of collection r) (λ e. e ≡ Refusal.NoMemory)
      refused_so (Ok o) why = tt
      refused_so (Err e) why = why

      pub next_of : (many : ℕ) → many ≡ length (labels j.names) →
          IsNextOf collections j.gathering now (journal_lsn j) g many (part_of collection part)
      next_of many is = record {
        of_this = given.gathered;
        count = is ∙ as_many j.names (contents f) given.book.joined.fit;
        copied = λ can. by_result part (given.copied can);
        refused = refused_so part given.refused;
      }

      short_of : (o : Option P) → IsCopy labels holds collection j.names f (length g.parts) o →
          IfSome o (λ p. HoldsShort widest (collection p).content)
      short_of None copy = tt
      short_of (Some p) copy = at_place (λ x. HoldsShort widest x.content) (collections now)
          (length g.parts) (collection p)
          (widest_all j.transactions.format (collections now) given.book.joined.upheld.spells)
          (sym (copy_is j.names f (length g.parts) (Some p) given.book.joined.fit copy))

      pub short_part : CanGoOn j.gathering g →
          IfOk part (λ o. IfSome o (λ p. HoldsShort widest (collection p).content))
      short_part can = IfOk-weaker part _ _ (λ o copy. short_of o copy) (given.copied can)

-- Gone on with, it is of the book.
pub gathers_on : {S T N P : Type 0} {meaning : Meaning S ℕ} {making : Making S}
    {collections : S → List Collection} {holds : T → ℕ → Content → Type 0}
    {labels : N → List Label} {whole : N → Four T → S} {fits : N → Four T → Type 0}
    {collection : P → Collection} (j : JournalState N) (f : Four (ShelfState T)) (g h : GatherState)
    (n : GatheringState) (result : Result Bool Refusal) →
    IsBook meaning making collections whole fits j f →
    GatherAnswers (collections (whole j.names (contents f))) (journal_lsn j) j.gathering g
    result n h →
    OnOk result (GoesAlong collections n (whole j.names (contents f)) (journal_lsn j) h) →
    GathersOn labels holds collection meaning making collections whole fits j f g result
    (record j { gathering = n }) h
gathers_on {collections} {whole} j f g h n result book answers along = record {
  answer = (answers, refl);
  along = along;
  kept = record {
    joined = book.joined;
    kept = renoted collections (book_state whole j f) n book.kept;
  };
}
