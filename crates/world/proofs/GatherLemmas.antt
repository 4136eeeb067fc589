-- What is gathered of a book, its freeze and its image: the past of the world goes on.
use Rattle.std.proofs.Common.{◌≡◌, ℕ, Bool, List, [], ◌∷◌, ◌++◌, refl, sym, ◌∙◌, ap, subst}
use Rattle.std.proofs.Common.{arith, Some, None, Result, Ok, Err}
use Rattle.std.proofs.lemmas.List.{append-nil}
use Rattle.calls.specs.Contents.{Collection}
use Rattle.calls.specs.declared.refusal.Refusal.{Refusal}
use Rattle.disk_model.specs.declared.disk.Disk.{Ghosts}
use Rattle.records.specs.Short.{AreShort}
use Rattle.records.specs.declared.block.Image.{Image}
use Rattle.steps.specs.Machine.{journalled}
use Rattle.steps.specs.Sound.{IsSound}
use Rattle.images.specs.Gathers.{GatherState, Packs}
use Rattle.images.proofs.Going.{holds_image}
use Rattle.txn.specs.declared.actions.Action.{Action}
use Rattle.txn.specs.declared.actions.BookStep.{BookStep}
use Rattle.txn.specs.Books.{IsKept, lsn}
use Rattle.txn.specs.Freezing.{IsImageOf, FreezeAnswers}
use Rattle.txn.specs.Histories.{records_by, without_count}
use Rattle.txn.specs.Handing.{HasHanded}
use Rattle.txn.proofs.Handings.{records_by-push, gathers_on, frozen_not, freezes_gathered}
use Rattle.txn.proofs.Handings.{freezes_nothing, imaged_now, packs_image}
use Rattle.checkpoint.specs.Keepers.{KeeperState}
use Rattle.checkpoint.specs.Stored.{StandIn}
use Rattle.checkpoint.specs.Keeping.{BegunImage, AreImagesFor, HasReceived, HoldKeeps, held_with}
use Rattle.checkpoint.specs.Keeping.{BeginKeeps, begun_with}
use Rattle.world.specs.declared.step.Step.{Step}
use Rattle.world.specs.declared.step.Answer.{Answer}
use Rattle.world.specs.Pasts.{Past, action_of, of_no_client, outcome, alone, told}
use Rattle.txn.specs.Books.{NamedBook}
use Rattle.world.specs.Worlds.{Parts, HasPast, StandsForBook}
use Rattle.images.specs.Gathers.{nothing_gathered}
use Rattle.engine.specs.Gatherings.{if_held}
use Rattle.world.proofs.Begins.{none_packed}
use Rattle.world.proofs.PastLemmas.{are_push, are_still, greatest_told-push}
use Rattle.world.proofs.StepLemmas.{alone_step, moments_then, stands_still}
use Rattle.engine.proofs.Packed.{repeats_none}
use Rattle.world.proofs.KeeperSteps.{Yielded}
use Rattle.recovery.proofs.FrozenBooks as freezes
use Rattle.catalog.specs.Meaning.{catalog_meaning, catalog_making}

-- ---- what the steps are to the book

gather_action : (r : Result Bool Refusal) →
    action_of Step.Gather (outcome Answer.Gathered r) ≡ Some (Action.Gather r)
gather_action (Ok more) = refl
gather_action (Err e) = refl

gather_tells : (r : Result Bool Refusal) → told Step.Gather (outcome Answer.Gathered r) ≡ 0
gather_tells (Ok more) = refl
gather_tells (Err e) = refl

freeze_action : (r : Result (Unit {0}) Refusal) →
    action_of Step.Freeze (outcome (alone Answer.Frozen) r) ≡ Some (Action.Freeze r)
freeze_action (Ok done) = refl
freeze_action (Err e) = refl

pack_tells : (r : Result (Unit {0}) Refusal) →
    told Step.Pack (outcome (alone Answer.Packed) r) ≡ 0
pack_tells (Ok done) = refl
pack_tells (Err e) = refl

-- ---- and so the past goes on

module _ {D : Type 0} (g : Ghosts D) (start : List Collection) (past : Past) (w : Parts D)
    (had : HasPast g.seen g.may_leave start past w) where
  -- what is gathered may change, where no more images are packed of it
  pub regathered : (h : GatherState) → ((image : Image) → Packs h image → Packs w.gather image) →
      HasPast g.seen g.may_leave start past (record w { gather = h })
  regathered h before = record {
    format = had.format;
    wear = had.wear;
    steps = had.steps;
    are = had.are;
    received = had.received;
    groups = had.groups;
    freezes = had.freezes;
    images = had.images;
    handed = had.handed;
    begun = had.begun;
    are_begun = had.are_begun;
    keeps = had.keeps;
    packs = λ image packs. had.packs image (before image packs);
    marked = had.marked;
    told = had.told;
  }

  -- the steps with one more, which adds no record and leaves the state
  module _ (x : Step × Answer) (action : Action) (is : action_of x.0 x.1 ≡ Some action)
      (plain : without_count action ≡ action) (quiet : told x.0 x.1 ≡ 0)
      (all : records_by (had.steps ++ alone_step action ∷ []) ≡ records_by had.steps) where
    past_still : (t : NamedBook) (h : GatherState) (l : KeeperState D) (freezes : List ℕ) →
        t.state ≡ w.book.state →
        HasHanded catalog_meaning catalog_making (λ v. v) had.format start had.wear
        (had.steps ++ alone_step action ∷ []) t (had.received ++ w.transit) had.groups freezes
        had.images →
        HasReceived g.seen g.may_leave had.format start had.wear (records_by had.steps)
        (journalled w.book.state) freezes had.begun had.received l →
        ((image : Image) → Packs h image → StandsForBook had.format start had.wear
        (had.steps ++ alone_step action ∷ []) (journalled t.state) image) →
        w.keeper.mark ≡ l.mark →
        HasPast g.seen g.may_leave start (past ++ x ∷ [])
        (record w { book = t; gather = h; keeper = l })
    past_still t h l freezes same handed keeps packs mark = record {
      format = had.format;
      wear = had.wear;
      steps = had.steps ++ alone_step action ∷ [];
      are = are_push past x had.steps (alone_step action ∷ []) had.are
          (ap (λ v. alone_step v ∷ []) plain ∙ ap of_no_client (sym is));
      received = had.received;
      groups = had.groups;
      freezes = freezes;
      images = had.images;
      handed = handed;
      begun = had.begun;
      are_begun = had.are_begun;
      keeps = subst (λ rs. HasReceived g.seen g.may_leave had.format start had.wear rs
          (journalled t.state) freezes had.begun had.received l) (sym all)
          (subst (λ s. HasReceived g.seen g.may_leave had.format start had.wear
          (records_by had.steps)
          (journalled s) freezes had.begun had.received l) (sym same) keeps);
      packs = packs;
      marked = had.marked ∙ mark;
      told = greatest_told-push past x.0 x.1 w.mark had.told (omega (arith, quiet));
    }

  -- a collection is copied, or that is refused
  pub gather_past : (r : Result Bool Refusal) (t : NamedBook) (h : GatherState) →
      t ≡ record w.book { gathering = t.gathering } →
      ((image : Image) → Packs h image → Packs w.gather image) →
      HasPast g.seen g.may_leave start
      (past ++ (Step.Gather, outcome Answer.Gathered r) ∷ [])
      (record w { book = t; gather = h })
  gather_past r t h is before =
      let step = alone_step (Action.Gather r) in
      let all : records_by (had.steps ++ step ∷ []) ≡ records_by had.steps =
      records_by-push had.steps step ∙ append-nil (records_by had.steps) in
      let same = ap (λ (v : NamedBook). v.state) is in
      past_still (Step.Gather, outcome Answer.Gathered r) (Action.Gather r) (gather_action r) refl
      (gather_tells r) all t h w.keeper had.freezes same
      (gathers_on catalog_meaning catalog_making (λ v. v) had.format start had.wear had.steps w.book
      t
      (had.received ++ w.transit) had.groups had.freezes had.images had.handed None r is)
      had.keeps
      (λ image packs. stands_still had.format start had.wear had.steps step
      (journalled w.book.state)
      (journalled t.state) image all (ap journalled same) (had.packs image (before image packs)))
      refl

  -- where the book refuses a freeze, all is as it was
  pub unfrozen : (e : Refusal) (t : NamedBook) (m h : GatherState) →
      FreezeAnswers (λ v. v) w.book w.gather (Err e) t m →
      ((image : Image) → Packs h image → Packs w.gather image) →
      HasPast g.seen g.may_leave start (past ++ (Step.Freeze, Answer.Refused e) ∷ [])
      (record w { book = t; gather = h })
  unfrozen e t m h froze before =
      let step = alone_step (Action.Freeze (Err e)) in
      let all : records_by (had.steps ++ step ∷ []) ≡ records_by had.steps =
      records_by-push had.steps step ∙ append-nil (records_by had.steps) in
      let same = ap (λ (v : NamedBook). v.state)
      (frozen_not (λ v. v) w.book t w.gather m e froze) in
      past_still (Step.Freeze, Answer.Refused e) (Action.Freeze (Err e)) refl refl refl all t h
      w.keeper had.freezes same
      (freezes_nothing catalog_meaning catalog_making (λ v. v) had.format start had.wear had.steps
      w.book t
      (had.received ++ w.transit) had.groups had.freezes had.images had.handed None w.gather m e
      froze (Err e))
      had.keeps
      (λ image packs. stands_still had.format start had.wear had.steps step
      (journalled w.book.state)
      (journalled t.state) image all (ap journalled same) (had.packs image (before image packs)))
      refl

  -- Where it is frozen, each image that is packed stands for all records, and the end is held, or
  -- refused.
  module _ (t : NamedBook) (m : GatherState)
      (froze : FreezeAnswers (λ v. v) w.book w.gather (Ok tt) t m)
      (kept : IsKept catalog_meaning catalog_making AreShort
      (IsSound catalog_meaning catalog_making) w.book) where
    image_of : (image : Image) → Packs m image → IsImageOf (λ v. v) w.book image
    image_of image packs =
        let is = holds_image (λ v. v) w.book.next w.book.places (lsn w.book) w.book.state m m
        image froze.1 (repeats_none m) packs in
        record { packed = is.0; end = is.1; place = is.2 }

    same_state : t.state ≡ w.book.state
    same_state = ap (λ (v : NamedBook). v.state) froze.2

    module _ (r : Result (Unit {0}) Refusal) where
      abbrev step : BookStep
      step = alone_step (Action.Freeze r)

      all_records : records_by (had.steps ++ step ∷ []) ≡ records_by had.steps
      all_records = records_by-push had.steps step ∙ append-nil (records_by had.steps)

      frozen_stands : (image : Image) → Packs m image →
          StandsForBook had.format start had.wear (had.steps ++ step ∷ []) (journalled t.state)
          image
      frozen_stands image packs =
          let is = image_of image packs in
          let begun = freezes.begins g had.format start had.wear had.steps w.book had.received
          w.transit
          had.groups had.freezes had.freezes had.images had.begun w.keeper had.handed had.keeps kept
          image is in
          record {
            is_in = imaged_now catalog_meaning catalog_making (λ v. v) had.format start had.wear
                had.steps
                w.book t (had.received ++ w.transit) had.groups had.freezes had.images had.handed
                None (Action.Freeze r) image is;
            begun = begun;
            is_for = freezes.is_for g had.format start had.wear had.steps w.book had.received
                w.transit
                had.groups had.freezes had.freezes had.images had.begun w.keeper had.handed
                had.keeps kept image is;
            stands = subst (λ l. StandIn had.format start had.wear l (journalled t.state)
                begun.blocks
                begun.covered) (sym all_records)
                (subst (λ s. StandIn had.format start had.wear (records_by had.steps) (journalled s)
                begun.blocks begun.covered) (sym same_state)
                (freezes.stands g had.format start had.wear had.steps w.book had.received w.transit
                had.groups had.freezes had.freezes had.images had.begun w.keeper had.handed
                had.keeps kept image is));
          }

      frozen_handed : HasHanded catalog_meaning catalog_making (λ v. v) had.format start had.wear
          (had.steps ++ step ∷ []) t (had.received ++ w.transit) had.groups
          (lsn w.book ∷ had.freezes) had.images
      frozen_handed = freezes_gathered catalog_meaning catalog_making (λ v. v) had.format start
          had.wear
          had.steps w.book t (had.received ++ w.transit) had.groups had.freezes had.images
          had.handed None w.gather m r froze

    -- the end is held, or what was gathered is given up
    held_past : (l : KeeperState D) (r : Result (Unit {0}) Refusal) → w.keeper.mark ≡ l.mark →
        HasReceived g.seen g.may_leave had.format start had.wear (records_by had.steps)
        (journalled w.book.state) (held_with (lsn w.book) had.freezes r) had.begun had.received
        l →
        HasPast g.seen g.may_leave start
        (past ++ (Step.Freeze, outcome (alone Answer.Frozen) r) ∷ [])
        (record w { book = t; gather = if_held r m; keeper = l })
    held_past l (Ok done) mark has =
        past_still (Step.Freeze, Answer.Frozen) (Action.Freeze (Ok done)) (freeze_action (Ok done))
        refl refl (all_records (Ok done)) t m l (lsn w.book ∷ had.freezes) same_state
        (frozen_handed (Ok done)) has (frozen_stands (Ok done)) mark
    held_past l (Err e) mark has =
        let on = frozen_handed (Err e) in
        past_still (Step.Freeze, Answer.Refused e) (Action.Freeze (Err e)) refl refl refl
        (all_records (Err e)) t nothing_gathered l had.freezes same_state (record {
          legal = on.legal;
          good = on.good;
          carried = on.carried;
          records = on.records;
          end = on.end;
          place = on.place;
          are_images = on.are_images;
          between = on.between.1;
        }) has (λ image packs. none_packed nothing_gathered image _ refl packs) mark

    pub freeze_past : (l : KeeperState D) (r : Result (Unit {0}) Refusal) →
        HoldKeeps g (lsn w.book) r w.keeper l → w.keeper.mark ≡ l.mark →
        HasPast g.seen g.may_leave start
        (past ++ (Step.Freeze, outcome (alone Answer.Frozen) r) ∷ [])
        (record w { book = t; gather = if_held r m; keeper = l })
        × Yielded g start past w had (Step.Freeze, outcome (alone Answer.Frozen) r) l
    freeze_past l r keeps mark =
        let first = freezes.received_begins g had.format start had.wear had.steps w.book
        had.received
        w.transit had.groups had.freezes had.freezes had.images had.begun w.keeper had.handed
        had.keeps kept in
        let on = keeps had.format start had.wear (records_by had.steps) (journalled w.book.state)
        had.freezes
        had.begun had.received first.0 first.1 first.2
        (freezes.covers_received g had.format start had.wear had.steps w.book had.received w.transit
        had.groups had.freezes had.freezes had.images had.begun w.keeper had.handed had.keeps kept)
        (freezes.covers_use g had.format start had.wear had.steps w.book had.received w.transit
        had.groups
        had.freezes had.freezes had.images had.begun w.keeper had.handed had.keeps kept)
        had.keeps in (
          held_past l r mark on.0,
          moments_then g.seen g.may_leave start past w had g.moment g.left_since l.disk
              (Step.Freeze, outcome (alone Answer.Frozen) r) on.1,
        )

  -- An image that is packed is begun, or refused, and nothing is gathered then.
  module _ (image : Image) (packs : Packs w.gather image) where
    abbrev stands : StandsForBook had.format start had.wear had.steps (journalled w.book.state)
        image
    stands = had.packs image packs

    begun_past : (l : KeeperState D) (r : Result (Unit {0}) Refusal) (images : List Image)
        (begun : List BegunImage) → AreImagesFor images begun →
        HasHanded catalog_meaning catalog_making (λ v. v) had.format start had.wear had.steps w.book
        (had.received ++ w.transit) had.groups had.freezes images →
        HasReceived g.seen g.may_leave had.format start had.wear (records_by had.steps)
        (journalled w.book.state) had.freezes begun had.received l → w.keeper.mark ≡ l.mark →
        HasPast g.seen g.may_leave start
        (past ++ (Step.Pack, outcome (alone Answer.Packed) r) ∷ [])
        (record w { gather = nothing_gathered; keeper = l })
    begun_past l r images begun for handed keeps mark = record {
      format = had.format;
      wear = had.wear;
      steps = had.steps;
      are = are_still past (Step.Pack, outcome (alone Answer.Packed) r) had.steps had.are refl;
      received = had.received;
      groups = had.groups;
      freezes = had.freezes;
      images = images;
      handed = handed;
      begun = begun;
      are_begun = for;
      keeps = keeps;
      packs = λ other packed. none_packed nothing_gathered other _ refl packed;
      marked = had.marked ∙ mark;
      told = greatest_told-push past Step.Pack (outcome (alone Answer.Packed) r) w.mark had.told
          (omega (arith, pack_tells r));
    }

    any_begun : (l : KeeperState D) (r : Result (Unit {0}) Refusal) → w.keeper.mark ≡ l.mark →
        HasReceived g.seen g.may_leave had.format start had.wear (records_by had.steps)
        (journalled w.book.state) had.freezes (begun_with stands.begun had.begun r) had.received l →
        HasPast g.seen g.may_leave start
        (past ++ (Step.Pack, outcome (alone Answer.Packed) r) ∷ [])
        (record w { gather = nothing_gathered; keeper = l })
    any_begun l (Ok done) mark has =
        begun_past l (Ok done) (image ∷ had.images) (stands.begun ∷ had.begun)
        (stands.is_for, had.are_begun)
        (packs_image catalog_meaning catalog_making (λ v. v) had.format start had.wear had.steps
        w.book w.book
        (had.received ++ w.transit) had.groups had.freezes had.images had.handed None image
        stands.is_in) has mark
    any_begun l (Err e) mark has =
        begun_past l (Err e) had.images had.begun had.are_begun had.handed has mark

    pub pack_past : (l : KeeperState D) (r : Result (Unit {0}) Refusal) →
        BeginKeeps g image r w.keeper l → w.keeper.mark ≡ l.mark →
        HasPast g.seen g.may_leave start
        (past ++ (Step.Pack, outcome (alone Answer.Packed) r) ∷ [])
        (record w { gather = nothing_gathered; keeper = l })
        × Yielded g start past w had (Step.Pack, outcome (alone Answer.Packed) r) l
    pack_past l r keeps mark =
        let on = keeps had.format start had.wear (records_by had.steps) (journalled w.book.state)
        had.freezes
        had.begun had.received stands.begun stands.is_for stands.stands had.keeps in (
          any_begun l r mark on.0,
          moments_then g.seen g.may_leave start past w had g.moment g.left_since l.disk
              (Step.Pack, outcome (alone Answer.Packed) r) on.1,
        )
