-- What is gathered goes along past calls, makings and other steps.
use Rattle.std.proofs.Common.{◌≡◌, ℕ, ◌+◌, ◌<◌, ◌≤◌, ◌^◌, Bool, true, false, cond, nat_le, List, []}
use Rattle.std.proofs.Common.{◌∷◌, ◌++◌, length, map, take, slice_get, Option, Some, None, refl}
use Rattle.std.proofs.Common.{sym, ◌∙◌, ap, subst, arith}
use Rattle.std.proofs.Common.{append_assoc}
use Rattle.std.proofs.lemmas.List.{append-nil}
use Rattle.std.specs.List.{AllByRecursion}
use Rattle.calls.specs.Contents.{Collection, after_at}
use Rattle.calls.specs.Transactions.{Leads}
use Rattle.boosted.specs.Meaning.{Meaning}
use Rattle.boosted.specs.Laws.{BoostedLaws}
use Rattle.boosted.proofs.Each.{each_append, weaker}
use Rattle.catalog.specs.Making.{Making}
use Rattle.records.specs.Told.{Tells}
use Rattle.steps.specs.Machine.{Does}
use Rattle.images.specs.declared.effect.Effect.{Effect}
use Rattle.images.specs.Gathers.{CopyState, GatherState, FrozenState, gathered, caught_up}
use Rattle.images.specs.Gathers.{CanCatchUp, with_gathered}
use Rattle.images.specs.Images.{TellsGathered, TellsState}
use Rattle.images.specs.Following.{Follows, CameBy}
use Rattle.images.proofs.Following.{follows_run, follows_made, follows_taken, follows_copied}
use Rattle.images.proofs.Following.{came_taken, came_copied}
use Rattle.images.proofs.Following as following
use Rattle.images.proofs.Repeats.{repeated_same}
use Rattle.images.proofs.ImageRecords.{tells_state}
use Rattle.images.specs.Gatherings.{GatheringState, noted, given_up, event_in, GoesAlong}
use Rattle.images.specs.Laws.{GoesPastRuns, GoesPastMakings, GoesPastOthers, HoldsImage}

-- ---- what is noted

module _ (n : GatheringState) (es : List Effect) where
  abbrev noted_by : (going fits : Bool) → GatheringState
  noted_by going fits = cond going (cond fits (record n { effects = n.effects ++ es }) (given_up n))
      n

  begun_by : (going fits : Bool) → (noted_by going fits).begun ≡ n.begun
  begun_by true true = refl
  begun_by true false = refl
  begun_by false fits = refl

  pub noted_begun : (noted n es).begun ≡ n.begun
  noted_begun = begun_by n.going (nat_le (length n.effects + length es) 16384)

  going_by : (going fits : Bool) → n.going ≡ going → (noted_by going fits).going ≡ true →
      (n.going ≡ true) × ((noted_by going fits).effects ≡ n.effects ++ es)
  going_by true true is still = (is, refl)
  going_by true false is still = absurd (cc)
  going_by false fits is still = absurd (cc)

  pub noted_going : (noted n es).going ≡ true →
      (n.going ≡ true) × ((noted n es).effects ≡ n.effects ++ es)
  noted_going = going_by n.going (nat_le (length n.effects + length es) 16384) refl

-- ---- what holds of every gathering

-- ---- calls

came_more : (g : GatherState) (later es : List Effect) (lsn p : ℕ) → lsn ≤ p →
    CameBy g later lsn → AllByRecursion (λ e. e.lsn ≡ p) es → CameBy g (later ++ es) p
came_more g later es lsn p low came there = record {
  stamps = weaker (λ (c : CopyState). c.stamp ≤ lsn) (λ (c : CopyState). c.stamp ≤ p)
      (λ c s. omega (arith, s, low)) g.parts came.stamps;
  lsns = subst (AllByRecursion (λ x. x.lsn ≤ p)) (append_assoc g.effects later es)
      (each_append (λ (x : Effect). x.lsn ≤ p) (g.effects ++ later) es
      (weaker (λ (x : Effect). x.lsn ≤ lsn) (λ (x : Effect). x.lsn ≤ p)
      (λ x s. omega (arith, s, low)) (g.effects ++ later) came.lsns)
      (weaker (λ (x : Effect). x.lsn ≡ p) (λ (x : Effect). x.lsn ≤ p)
      (λ x s. omega (arith, s)) es there));
}

module _ {S : Type 0} {meaning : Meaning S ℕ} {making : Making S}
    {collections : S → List Collection} (laws : BoostedLaws meaning)
    (told : Tells meaning making collections) where
  follows_all : (es : List Effect) (g : GatherState) (later : List Effect) (w p : ℕ) (s t : S) →
      meaning.within s w → w + length es ≤ 2 ^ 61 + 65536 →
      Leads (Does meaning) (map event_in es) s t → AllByRecursion (λ e. e.lsn ≡ p) es →
      AllByRecursion (λ c. c.stamp < p) g.parts → Follows g later (collections s) →
      Follows g (later ++ es) (collections t)
  follows_all [] g later w p s t within low leads there past follows =
      subst (λ v. Follows g v (collections t)) (sym (append-nil later))
      (subst (λ v. Follows g later (collections v)) leads follows)
  follows_all (e ∷ es) g later w p s t within low leads there past follows =
      let m = leads.0 in
      let did = leads.1 in
      let before : AllByRecursion (λ (c : CopyState). c.stamp < e.lsn) g.parts =
      subst (λ q. AllByRecursion (λ (c : CopyState). c.stamp < q) g.parts) (sym there.0) past in
      let one = follows_run g later (collections s) e w (omega (arith, low))
      ((told.within s w).0 within) follows before
      ((told.answers s e.collection e.call e.reply).0 did.0) in
      let now : collections m ≡ after_at (collections s) e.collection e.call e.reply =
      ap collections did.1 ∙ told.leaves s e.collection e.call e.reply did.0 in
      let worn : meaning.within m (w + 1) = subst (λ v. meaning.within v (w + 1)) (sym did.1)
      ((laws.holds s).wears w e.collection e.call e.reply within did.0) in
      subst (λ l. Follows g l (collections t)) (append_assoc later (e ∷ []) es)
      (follows_all es g (later ++ e ∷ []) (w + 1) p m t worn (omega (arith, low)) leads.2 there.1
      past (subst (Follows g (later ++ e ∷ [])) (sym now) one))

  pub goes_past_runs : GoesPastRuns collections meaning
  goes_past_runs n es lsn wear s t within low run = record {
    begun = noted_begun n es;
    going = λ still. (noted_going n es still).0;
    along = λ still g along.
        let effects = (noted_going n es still).1 in
        record {
          mark = along.mark ∙ sym (noted_begun n es);
          follows = subst (λ l. Follows g l (collections t)) (sym effects)
              (follows_all es g n.effects wear (lsn + 1) s t within low run.leads run.there
              (weaker (λ (c : CopyState). c.stamp ≤ lsn)
              (λ (c : CopyState). c.stamp < lsn + 1) (λ c s. omega (arith, s)) g.parts
              along.came.stamps) along.follows);
          came = subst (λ l. CameBy g l (lsn + 1)) (sym effects)
              (came_more g n.effects es lsn (lsn + 1) (omega arith) along.came run.there);
        };
  }

  pub goes_past_makings : GoesPastMakings collections making
  goes_past_makings n lsn s t name kind made = record {
    begun = refl;
    going = λ still. still;
    along = λ still g along. record {
      mark = along.mark;
      follows = subst (Follows g n.effects) (sym (told.makes s t name kind made).is)
          (follows_made g n.effects (collections s) _ along.follows);
      came = later lsn (lsn + 1) (omega arith) g n.effects along.came;
    };
  }
    where
      later : (lsn p : ℕ) → lsn ≤ p → (g : GatherState) (l : List Effect) →
          CameBy g l lsn → CameBy g l p
      later lsn p low g l came = subst (λ v. CameBy g v p) (append-nil l)
          (came_more g l [] lsn p low came tt)

pub goes_past_others : {S : Type 0} (collections : S → List Collection) → GoesPastOthers collections
goes_past_others collections n lsn next s low = record {
  begun = refl;
  going = λ still. still;
  along = λ still g along. record {
    mark = along.mark;
    follows = along.follows;
    came = subst (λ v. CameBy g v next) (append-nil n.effects)
        (came_more g n.effects [] lsn next low along.came tt);
  };
}

-- ---- copies, and what is handed over

module _ {S : Type 0} (collections : S → List Collection) (now : S) (lsn : ℕ) where
  -- The next collection is copied, if one is left, and what was noted is handed over.
  pub gathered_along : (n : GatheringState) (g : GatherState) →
      GoesAlong collections n now lsn g → (next : Option Collection) →
      slice_get (collections now) (length g.parts) ≡ next →
      GoesAlong collections (record n { effects = [] }) now lsn
      (with_gathered g n.begun next lsn n.effects)
  gathered_along n g along None there =
      let all = append-nil g.parts in
      let taken = follows_taken g n.effects (collections now) along.follows in
      let came = came_taken g n.effects lsn along.came in
      record {
        mark = refl;
        follows = record {
          few = omega (arith, taken.few, ap length all);
          can = subst (λ ps. CanCatchUp ps ((g.effects ++ n.effects) ++ [])) (sym all) taken.can;
          leads = ap (λ ps. gathered (caught_up ps ((g.effects ++ n.effects) ++ []))) all ∙
              taken.leads ∙ sym (ap (λ ps. take (length ps) (collections now)) all);
        };
        came = record {
          stamps = subst (AllByRecursion (λ (p : CopyState). p.stamp ≤ lsn)) (sym all)
              came.stamps;
          lsns = came.lsns;
        };
      }
  gathered_along n g along (Some x) there =
      let h : GatherState = record g { effects = g.effects ++ n.effects } in
      let taken = follows_taken g n.effects (collections now) along.follows in
      let came = came_taken g n.effects lsn along.came in
      let copied = follows_copied h [] (collections now) x lsn taken there came.lsns in
      let also = came_copied h [] x lsn came in
      record {
        mark = refl;
        follows = record { few = copied.few; can = copied.can; leads = copied.leads };
        came = record { stamps = also.stamps; lsns = also.lsns };
      }

  -- Once all are copied and all is handed over, the copies come to what the collections hold.
  pub whole_along : (n : GatheringState) (g : GatherState) →
      GoesAlong collections n now lsn g → length (collections now) ≤ length g.parts →
      gathered (caught_up g.parts (g.effects ++ n.effects)) ≡ collections now
  whole_along n g along all = following.follows_all (record g { effects = g.effects ++ n.effects })
      (collections now) (follows_taken g n.effects (collections now) along.follows) all

-- ---- the image

pub holds_image : {S : Type 0} (collections : S → List Collection) → HoldsImage collections
holds_image collections next place lsn s g h image holds repeats packs =
    let f = holds.frozen in
    let same : packs.frozen ≡ f =
    let is : Some packs.frozen ≡ Some f =
    sym packs.is_frozen ∙ repeats.frozen ∙ holds.is_frozen in cc in
    let copies : gathered (caught_up h.parts h.effects) ≡ collections s.now =
    ap gathered (repeated_same g.parts h.parts g.effects h.effects repeats.repeated) ∙
    holds.copies in
    let image_head = ap (λ (v : FrozenState). v.image_head) same ∙ holds.image_head in
    let live = ap (λ (v : FrozenState). v.live) same in
    let told : (rs : List _) → TellsGathered packs.frozen.image_head.format
    packs.frozen.image_head.next
    packs.frozen.image_head.wear
    (gathered (caught_up h.parts h.effects)) packs.frozen.live rs →
    TellsState collections next s rs =
    λ rs tells. tells_state collections next s f.live holds.tells rs
    (subst (λ l. TellsGathered s.format next s.wear (collections s.now) l rs) live
    (subst (λ xs. TellsGathered s.format next s.wear xs packs.frozen.live rs) copies
    (subst (λ (v : _). TellsGathered v.format v.next v.wear (gathered (caught_up h.parts h.effects))
    packs.frozen.live rs) image_head tells))) in (
      record {
        groups = packs.packed.groups;
        tells = told _ packs.packed.tells;
        good = packs.packed.good;
        packed = packs.packed.packed;
        whole = packs.packed.whole;
      },
      packs.end ∙ ap (λ v. v.end) image_head,
      packs.place ∙ ap (λ v. v.place) image_head,
    )
