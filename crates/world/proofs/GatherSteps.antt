-- Steps of what is gathered: one lemma for each, from what the book, the keeper and the copies
-- answer.
use Rattle.std.proofs.Common.{◌≡◌, ◌≢◌, ℕ, Bool, List, [], refl, sym, ◌∙◌, ap, subst, arith, Some}
use Rattle.std.proofs.Common.{None}
use Rattle.std.proofs.Common.{◌⊎◌, inl, inr, ⊎_elim, Option, Result, Ok, Err, is_some, true, false}
use Rattle.std.specs.Option.{option_map}
use Rattle.calls.specs.declared.refusal.Refusal.{Refusal}
use Rattle.disk_model.specs.declared.disk.Disk.{Ghosts}
use Rattle.records.specs.Short.{AreShort}
use Rattle.records.specs.declared.block.Image.{Image}
use Rattle.steps.specs.Sound.{IsSound}
use Rattle.images.specs.declared.gather.ImageHead.{ImageHead}
use Rattle.images.specs.Gathers.{GatherState, FrozenState, Repeats, Packs}
use Rattle.txn.specs.Books.{IsKept, lsn}
use Rattle.txn.specs.Freezing.{BookGathers, FreezeAnswers}
use Rattle.checkpoint.specs.ImageAnswers.{HoldAnswers, BeginAnswers}
use Rattle.checkpoint.specs.Keepers.{KeeperState}
use Rattle.checkpoint.specs.Keeping.{HoldKeeps, BeginKeeps}
use Rattle.world.specs.declared.step.Step.{Step}
use Rattle.world.specs.declared.step.Answer.{Answer}
use Rattle.world.specs.Pasts.{outcome, alone}
use Rattle.txn.specs.Books.{NamedBook}
use Rattle.engine.specs.Gatherings.{IsOfBook, IsHeld, HoldsOn, if_held, unless_outrun}
use Rattle.images.specs.Gathers.{nothing_gathered}
use Rattle.txn.specs.Undoings.{undo_count}
use Rattle.world.specs.Moves.{Whole, undoing_len, frozen_behind}
use Rattle.world.specs.OneStep.{parts, TakesStep}
use Rattle.world.proofs.AnswerLemmas.{gather_answered, freeze_answered, pack_answered}
use Rattle.world.proofs.Begins.{none_packed}
use Rattle.world.proofs.StepLemmas.{passes, quiet}
use Rattle.world.proofs.GatherLemmas.{regathered, gather_past, unfrozen, freeze_past}
use Rattle.engine.proofs.OfBook.{of_unfrozen}
use Rattle.engine.proofs.Packed.{packed_before, one_head}
use Rattle.world.proofs.GatherLemmas.{pack_past}
use Rattle.engine.proofs.KeeperLemmas.{held_same, begun_same}
use Rattle.catalog.specs.Meaning.{catalog_meaning, catalog_making}

-- whether something is frozen
pub none_frozen : (frozen : Option FrozenState) → is_some frozen ≡ false → frozen ≡ None
none_frozen None is = refl
none_frozen (Some f) is = absurd cc

pub some_frozen : (frozen : Option FrozenState) → is_some frozen ≡ true → frozen ≢ None
some_frozen None is none = absurd cc
some_frozen (Some f) is none = absurd cc

-- What goes on is not frozen, so nothing is packed of it.
gathered_before : (b c : NamedBook) (g m h : GatherState) (more : Bool) →
    BookGathers (λ v. v) b g (Ok more) c m → Repeats m h → IsOfBook b g → (image : Image) →
    Packs h image → Packs g image
gathered_before b c g m h more gathers repeats of image packs =
    let is : g.frozen ≡ Some packs.frozen =
    sym (ap (λ (v : GatherState). v.frozen) gathers.0.2) ∙ sym repeats.frozen ∙ packs.is_frozen in
    let over = of.over (λ none. let e : None ≡ Some packs.frozen = sym none ∙ is in absurd cc) in
    absurd (⊎_elim over.0 over.1 gathers.0.0)

-- What is given up is packed no more.
unless_before : (frozen : Option FrozenState) (e : Refusal) (g : GatherState) (image : Image) →
    Packs (unless_outrun frozen e g) image → Packs g image
unless_before None Refusal.Outrun g image packs = none_packed nothing_gathered image _ refl packs
unless_before None e g image packs = packs
unless_before (Some frozen) e g image packs = packs

module _ {D : Type 0} (g : Ghosts D) (w : Whole D)
    (only_now : (c : List ℕ) → g.left_since w.keeper.disk (g.moment w.keeper.disk) c →
    g.may_leave w.keeper.disk c) where
  -- ---- a collection is copied

  -- and what was run is repeated, or there is no memory for that
  pub gather_taken : (more : Bool) (a : Answer) (r : Result Bool Refusal) (t : NamedBook)
      (m h : GatherState) → a ≡ outcome Answer.Gathered r → IsOfBook w.book w.gather →
      BookGathers (λ v. v) w.book w.gather (Ok more) t m → Repeats m h →
      ((a ≡ Answer.Gathered more) × (h.effects ≡ []))
      ⊎ (a ≡ Answer.Refused Refusal.NoMemory) →
      TakesStep g w (Step.Gather, outcome Answer.Gathered r) (record w { book = t; gather = h })
  gather_taken more a r t m h is of gathers repeats answered = record {
    past = λ start past had. gather_past g start past (parts w) had r t h gathers.1
        (gathered_before w.book t w.gather m h more gathers repeats of);
    any_moment = λ start past had. quiet g.seen g.may_leave start past (parts w) had g.moment
        g.left_since only_now (Step.Gather, outcome Answer.Gathered r);
    mark = omega arith;
    own = gather_answered r;
    drawn = refl;
    moves = record {
      gathered = Ok more;
      taken = m;
      gathers = gathers;
      repeats = (
        repeats,
        subst (λ v. ((v ≡ Answer.Gathered more) × (h.effects ≡ []))
            ⊎ (v ≡ Answer.Refused Refusal.NoMemory)) is answered,
      );
      keeper = refl;
      transit = refl;
      mark = refl;
      next = refl;
      alike = (refl, refl);
    };
    honest = λ h. h;
  }

  pub gather_refused : (e : Refusal) (t : NamedBook) (m h : GatherState) → m ≡ w.gather →
      BookGathers (λ v. v) w.book w.gather (Err e) t m → h ≡ unless_outrun m.frozen e m →
      TakesStep g w (Step.Gather, Answer.Refused e) (record w { book = t; gather = h })
  gather_refused e t m h same gathers given = record {
    past = λ start past had. gather_past g start past (parts w) had (Err e) t h gathers.1
        (λ image packs. subst (λ v. Packs v image) same
        (unless_before m.frozen e m image (subst (λ v. Packs v image) given packs)));
    any_moment = λ start past had. quiet g.seen g.may_leave start past (parts w) had g.moment
        g.left_since only_now (Step.Gather, Answer.Refused e);
    mark = omega arith;
    own = tt;
    drawn = refl;
    moves = record {
      gathered = Err e;
      taken = m;
      gathers = gathers;
      repeats = (refl, given);
      keeper = refl;
      transit = refl;
      mark = refl;
      next = refl;
      alike = (refl, refl);
    };
    honest = λ h. h;
  }

  -- ---- the book is frozen

  pub freeze_refused : (e : Refusal) (t : NamedBook) (m h : GatherState) → m ≡ w.gather →
      FreezeAnswers (λ v. v) w.book w.gather (Err e) t m → h ≡ unless_outrun m.frozen e m →
      TakesStep g w (Step.Freeze, Answer.Refused e) (record w { book = t; gather = h })
  freeze_refused e t m h same froze given = record {
    past = λ start past had. unfrozen g start past (parts w) had e t m h froze
        (λ image packs. subst (λ v. Packs v image) same
        (unless_before m.frozen e m image (subst (λ v. Packs v image) given packs)));
    any_moment = λ start past had. quiet g.seen g.may_leave start past (parts w) had g.moment
        g.left_since only_now (Step.Freeze, Answer.Refused e);
    mark = omega arith;
    own = tt;
    drawn = refl;
    moves = record {
      frozen = Err e;
      taken = m;
      froze = froze;
      held = Err e;
      holds = (refl, refl, given);
      answer = refl;
      transit = refl;
      mark = refl;
      next = refl;
      undoing = refl;
      counted = refl;
    };
    honest = λ h. h;
  }

  -- and the end held, or refused
  module _ (t : NamedBook) (m : GatherState)
      (froze : FreezeAnswers (λ v. v) w.book w.gather (Ok tt) t m)
      (kept : IsKept catalog_meaning catalog_making AreShort
      (IsSound catalog_meaning catalog_making) w.book) (image_head : ImageHead)
      (are : Some image_head ≡ option_map (λ (f : FrozenState). f.image_head) m.frozen) where
    head_is : image_head ≡ froze.1.frozen.image_head
    head_is =
        let same : Some image_head ≡ Some froze.1.frozen.image_head =
        are ∙ ap (option_map (λ (f : FrozenState). f.image_head)) froze.1.is_frozen in cc

    end_is : image_head.end ≡ lsn w.book
    end_is = ap (λ (v : ImageHead). v.end) (head_is ∙ froze.1.image_head)

    pub freeze_taken : (l : KeeperState D) (r : Result (Unit {0}) Refusal) →
        HoldAnswers w.keeper (record { end = image_head.end; place = image_head.place }) l r →
        HoldKeeps g image_head.end r w.keeper l →
        TakesStep g w (Step.Freeze, outcome (alone Answer.Frozen) r)
        (record w {
          book = t;
          gather = if_held r m;
          keeper = l;
          frozen = frozen_behind (outcome (alone Answer.Frozen) r) (undo_count t.state) w.frozen;
        })
    freeze_taken l r held keeps =
        let same = held_same w.keeper (record { end = image_head.end; place = image_head.place }) l
        r held in
        let there : HoldKeeps g (lsn w.book) r w.keeper l =
        subst (λ n. HoldKeeps g n r w.keeper l) end_is keeps in
        record {
          past = λ start past had.
              (freeze_past g start past (parts w) had t m froze kept l r there same.1).0;
          any_moment = λ start past had.
              (freeze_past g start past (parts w) had t m froze kept l r there same.1).1;
          mark = omega arith;
          own = freeze_answered r;
          drawn = refl;
          moves = record {
            frozen = Ok tt;
            taken = m;
            froze = froze;
            held = r;
            holds = ((image_head, are, held), refl);
            answer = refl;
            transit = refl;
            mark = refl;
            next = refl;
            undoing = refl;
            counted = refl;
          };
          honest = λ h. subst g.is_honest same.0 h;
        }

  -- The book was asked to freeze, and then the keeper to hold the end of the image.
  pub freeze_answers : (frozen held : Result (Unit {0}) Refusal) (t : NamedBook)
      (m h : GatherState) (l : KeeperState D) →
      FreezeAnswers (λ v. v) w.book w.gather frozen t m →
      IsKept catalog_meaning catalog_making AreShort (IsSound catalog_meaning catalog_making)
      w.book → IsHeld frozen w.keeper m held l h → HoldsOn g frozen w.keeper m held l →
      TakesStep g w (Step.Freeze, outcome (alone Answer.Frozen) held)
      (record w {
        book = t;
        gather = h;
        keeper = l;
        frozen = frozen_behind (outcome (alone Answer.Frozen) held) (undo_count t.state) w.frozen;
      })
  freeze_answers (Ok done) held t m h l froze kept holds keeps =
      rw holds.1
      (freeze_taken t m froze kept holds.0.0 holds.0.1 l held holds.0.2
      (subst (λ (v : ImageHead). HoldKeeps g v.end held w.keeper l)
      (one_head m keeps.0 holds.0.0 keeps.1 holds.0.1) keeps.2))
  freeze_answers (Err e) held t m h l froze kept holds keeps =
      rw (holds.0, holds.1)
      (freeze_refused e t m h (of_unfrozen w.book t w.gather m e froze).1 froze holds.2)

  -- ---- the image is packed

  pub pack_unfrozen : w.gather.frozen ≡ None →
      TakesStep g w (Step.Pack, Answer.Refused Refusal.Unfinished) w
  pack_unfrozen none = record {
    past = λ start past had. passes g.seen g.may_leave start past (parts w) had
        (Step.Pack, Answer.Refused Refusal.Unfinished) refl (omega arith);
    any_moment = λ start past had. quiet g.seen g.may_leave start past (parts w) had g.moment
        g.left_since only_now (Step.Pack, Answer.Refused Refusal.Unfinished);
    mark = omega arith;
    own = tt;
    drawn = refl;
    moves = record {
      packed = inl (none, refl, refl, refl);
      book = refl;
      transit = refl;
      mark = refl;
      next = refl;
      alike = (refl, refl);
    };
    honest = λ h. h;
  }

  pub pack_refused : (h : GatherState) → w.gather.frozen ≢ None → Repeats w.gather h →
      TakesStep g w (Step.Pack, Answer.Refused Refusal.NoMemory) (record w { gather = h })
  pack_refused h some repeats = record {
    past = λ start past had. passes g.seen g.may_leave start past (record (parts w) { gather = h })
        (regathered g start past (parts w) had h (λ image packs.
        packed_before w.gather h image repeats packs))
        (Step.Pack, Answer.Refused Refusal.NoMemory) refl (omega arith);
    any_moment = λ start past had. quiet g.seen g.may_leave start past (parts w) had g.moment
        g.left_since only_now (Step.Pack, Answer.Refused Refusal.NoMemory);
    mark = omega arith;
    own = tt;
    drawn = refl;
    moves = record {
      packed = inr (inl (some, refl, refl, repeats));
      book = refl;
      transit = refl;
      mark = refl;
      next = refl;
      alike = (refl, refl);
    };
    honest = λ h. h;
  }

  -- and begun, or refused
  pub pack_taken : (image : Image) (l : KeeperState D) (r : Result (Unit {0}) Refusal) →
      Packs w.gather image → BeginAnswers w.keeper image (undoing_len w.frozen) l r →
      BeginKeeps g image r w.keeper l →
      TakesStep g w (Step.Pack, outcome (alone Answer.Packed) r)
      (record w { gather = nothing_gathered; keeper = l })
  pack_taken image l r packs begun keeps =
      let same = begun_same w.keeper image (undoing_len w.frozen) l r begun in
      record {
        past = λ start past had.
            (pack_past g start past (parts w) had image packs l r keeps same.1).0;
        any_moment = λ start past had.
            (pack_past g start past (parts w) had image packs l r keeps same.1).1;
        mark = omega arith;
        own = pack_answered r;
        drawn = refl;
        moves = record {
          packed = inr (inr (image, packs, (r, begun, refl), refl));
          book = refl;
          transit = refl;
          mark = refl;
          next = refl;
          alike = (refl, refl);
        };
        honest = λ h. subst g.is_honest same.0 h;
      }
