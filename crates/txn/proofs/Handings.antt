-- What a book has handed over goes on with each of its steps.
use Rattle.calls.specs.declared.format.Format.{Format}
use Rattle.std.proofs.Common.{◌≡◌, inl, inr, ⊎_elim, ℕ, ◌<◌, Bool, true, false, Option}
use Rattle.std.proofs.Common.{None, Result, Ok, Err, List, [], ◌∷◌, ◌++◌, length, refl, sym}
use Rattle.std.proofs.Common.{◌∙◌, ap}
use Rattle.std.proofs.Common.{subst, arith, append_assoc, length-append}
use Rattle.std.specs.Prelude.{Contains}
use Rattle.std.specs.List.{AllByRecursion}
use Rattle.std.proofs.lemmas.Bool.{cases_eq}
use Rattle.std.proofs.lemmas.List.{append-nil}
use Rattle.calls.specs.Contents.{Collection}
use Rattle.calls.specs.declared.refusal.Refusal.{Refusal}
use Rattle.boosted.specs.Meaning.{Meaning}
use Rattle.boosted.proofs.Each.{weaker, each_append, each_back}
use Rattle.boosted.proofs.Runs.{Leads-push}
use Rattle.catalog.specs.Making.{Making}
use Rattle.records.specs.declared.record.Record.{Record}
use Rattle.records.specs.Records.{IsRecord}
use Rattle.records.specs.Acts.{places}
use Rattle.records.specs.declared.block.Block.{Block}
use Rattle.records.specs.declared.block.Image.{Image}
use Rattle.records.specs.Cuts.{HandsOver}
use Rattle.records.specs.Packings.{joined}
use Rattle.records.proofs.Places.{places_append}
use Rattle.records.proofs.Carrying.{joined-push, carries_append}
use Rattle.txn.specs.declared.actions.Action.{Action}
use Rattle.txn.specs.declared.actions.BookStep.{BookStep}
use Rattle.txn.specs.Rows.{Standing, opening}
use Rattle.txn.specs.Books.{BookState, opened, lsn, standing, Takes, CutAnswers}
use Rattle.images.specs.Gathers.{GatherState}
use Rattle.txn.specs.Freezing.{IsImageOf, Seals, FreezeAnswers}
use Rattle.txn.specs.Histories.{LiveCalls, shows, shown_by, no_calls, records_of_action}
use Rattle.txn.specs.Histories.{records_after, records_by, CutRow, Row, IsLegal}
use Rattle.txn.specs.Handing.{IsBetween, IsImageIn, HasHanded}
use Rattle.txn.proofs.LiveCalls.{history_shown}
use Rattle.txn.proofs.Takings.{taken, cut_taken, IsTaken, leaves}

-- ---- records of steps

records_after-append : (live : LiveCalls) (steps more : List BookStep) →
    records_after live (steps ++ more) ≡
    records_after live steps ++ records_after (shown_by live steps) more
records_after-append live [] more = refl
records_after-append live (x ∷ steps) more =
    ap (λ l. records_of_action live x.action ++ l)
    (records_after-append (shows live x.action) steps more) ∙
    sym (append_assoc (records_of_action live x.action)
    (records_after (shows live x.action) steps)
    (records_after (shown_by (shows live x.action) steps) more))

-- what a step adds behind others
abbrev pub records_then : List BookStep → Action → List Record
records_then steps action = records_of_action (shown_by no_calls steps) action

pub records_by-push : (steps : List BookStep) (x : BookStep) →
    records_by (steps ++ x ∷ []) ≡ records_by steps ++ records_then steps x.action
records_by-push steps x = records_after-append no_calls steps (x ∷ []) ∙
    ap (λ l. records_by steps ++ l) (append-nil (records_then steps x.action))

-- ---- LSNs between blocks

module _ {S : Type 0} where
  -- where blocks may end stays where more records wait, or freezes are added
  between_more : (groups : List (List Record)) (b c : BookState S) (lsn : ℕ) →
      c.end ≡ b.end → ((f : ℕ) → Contains b.freezes f → Contains c.freezes f) →
      IsBetween groups b lsn → IsBetween groups c lsn
  between_more groups b c lsn same more (inl waits) = inl waits
  between_more groups b c lsn same more (inr pending) =
      inr (omega (arith, same, pending.0), more lsn pending.1)

  -- and where a block is cut
  between_cut : (groups : List (List Record)) (b c : BookState S) (block : Block)
      (lsn : ℕ) → b.end ≡ length (joined groups) →
      (cut : HandsOver b.pending b.freezes b.end b.place block c.pending) → c.end ≡ block.end →
      ((f : ℕ) → Contains b.freezes f → block.end < f → Contains c.freezes f) →
      IsBetween groups b lsn → IsBetween (groups ++ cut.first ∷ []) c lsn
  between_cut groups b c block lsn ends cut end_is left (inl waits) =
      inl (
        waits.0,
        waits.1 ++ cut.first ∷ [],
        ap (λ l. l ++ cut.first ∷ []) waits.2 ∙ append_assoc waits.0 waits.1 (cut.first ∷ []),
        waits.3,
      )
  between_cut groups b c block lsn ends cut end_is left (inr pending) =
      let upto = cut.apart lsn pending.1 in
      let now : joined (groups ++ cut.first ∷ []) ≡ joined groups ++ cut.first =
      joined-push groups cut.first in
      ⊎_elim
      (λ (here : block.end ≡ lsn). inl (
        groups ++ cut.first ∷ [],
        [],
        sym (append-nil (groups ++ cut.first ∷ [])),
        omega (
          arith,
          here,
          ends,
          cut.ends,
          ap length now,
          length-append (joined groups) cut.first,
        ),
      ))
      (λ (other : block.end ≡ lsn → ⊥). let less : block.end < lsn =
      omega (arith, upto, other) in
      inr (omega (arith, end_is, less), left lsn pending.1 less))
      (cases_eq block.end lsn)

-- A freeze that is refused leaves the book.
pub frozen_not : {S : Type 0} (collections : S → List Collection) (b c : BookState S)
    (g h : GatherState) (e : Refusal) → FreezeAnswers collections b g (Err e) c h → c ≡ b
frozen_not collections b c g h Refusal.NoMemory froze = froze.1
frozen_not collections b c g h Refusal.Unfinished froze = froze.1
frozen_not collections b c g h Refusal.Outrun froze = froze.1
frozen_not collections b c g h e froze = absurd froze.0

module _ {S : Type 0} (meaning : Meaning S ℕ) (making : Making S)
    (collections : S → List Collection) (format : Format) (start : S) (wear : ℕ) where
  abbrev Handed : List BookStep → BookState S → List Block → List (List Record) → List ℕ →
      List Image → Type 0
  Handed steps book handed groups freezes images =
      HasHanded meaning making collections format start wear steps book handed groups freezes images

  abbrev Imaged : List BookStep → Image → Type 0
  Imaged steps image = IsImageIn meaning making collections format start wear steps image

  -- A book that was opened has handed nothing over.
  pub opens : (next : ℕ) → Handed [] (opened format start next wear) [] [] [] []
  opens next = record {
    legal = refl;
    good = tt;
    carried = tt;
    records = refl;
    end = refl;
    place = refl;
    are_images = tt;
    between = tt;
  }

  -- an image stays one of a book whose steps go on
  pub images_more : (steps : List BookStep) (x : BookStep) (image : Image) → Imaged steps image →
      Imaged (steps ++ x ∷ []) image
  images_more steps x image is = record {
    first = is.first;
    rest = is.rest ++ x ∷ [];
    begins = ap (λ l. l ++ x ∷ []) is.begins ∙ append_assoc is.first is.rest (x ∷ []);
    there = is.there;
    legal = is.legal;
    next = is.next;
    packed = is.packed;
    end = is.end;
    place = is.place;
  }

  module _ (steps : List BookStep) (b c : BookState S) (handed : List Block)
      (groups : List (List Record)) (freezes : List ℕ) (images : List Image)
      (had : Handed steps b handed groups freezes images) (client : Option ℕ) where
    abbrev step : Action → BookStep
    step action = record { client = client; action = action }

    legal_on : (action : Action) → Row meaning making (standing b) action (standing c) →
        IsLegal meaning making (opening format start wear) (steps ++ step action ∷ []) (standing c)
    legal_on action row = Leads-push (λ (u : Standing S) (x : BookStep) (v : Standing S).
        Row meaning making u x.action v) steps (step action) (opening format start wear)
        (standing b)
        (standing c) had.legal row

    still_imaged : (action : Action) → AllByRecursion (Imaged (steps ++ step action ∷ [])) images
    still_imaged action = weaker (Imaged steps) (Imaged (steps ++ step action ∷ []))
        (λ image is. images_more steps (step action) image is) images had.are_images

    -- What one step more that hands nothing over adds to the journal.
    pub taken_left : (action : Action) → Takes meaning making b action c →
        IsTaken meaning making b (records_then steps action) c
    taken_left action takes = leaves meaning making b c (shown_by no_calls steps)
        (history_shown meaning making format start wear steps (standing b) had.legal) action takes

    -- One step more that hands nothing over.
    pub takes_on : (action : Action) → Takes meaning making b action c →
        AllByRecursion (IsRecord None) c.pending →
        Handed (steps ++ step action ∷ []) c handed groups freezes images
    takes_on action takes good =
        let rs = records_then steps action in
        let left = taken_left action takes in
        let all = records_by-push steps (step action) in
        record {
          legal = legal_on action (taken meaning making b c action takes);
          good = subst (AllByRecursion (IsRecord None)) (sym all)
              (each_append (IsRecord None) (records_by steps) rs had.good
              (each_back (IsRecord None) b.pending rs
              (subst (AllByRecursion (IsRecord None)) left.pending good)));
          carried = had.carried;
          records = all ∙ ap (λ l. l ++ rs) had.records ∙
              append_assoc (joined groups) b.pending rs ∙
              ap (λ l. joined groups ++ l) (sym left.pending);
          end = left.end ∙ had.end;
          place = left.place ∙ had.place;
          are_images = still_imaged action;
          between = weaker (IsBetween groups b) (IsBetween groups c)
              (λ p at. between_more groups b c p left.end
              (λ f there. subst (λ l. Contains l f) (sym left.freezes) there) at) freezes
              had.between;
        }

    -- A step that leaves the book's records, and adds none.
    stays_on : (action : Action) → Row meaning making (standing b) action (standing c) →
        records_then steps action ≡ [] → c.pending ≡ b.pending → c.end ≡ b.end →
        c.place ≡ b.place → ((f : ℕ) → Contains b.freezes f → Contains c.freezes f) →
        Handed (steps ++ step action ∷ []) c handed groups freezes images
    stays_on action row none pending end place keeps =
        let all : records_by (steps ++ step action ∷ []) ≡ records_by steps =
        records_by-push steps (step action) ∙ ap (λ l. records_by steps ++ l) none ∙
        append-nil (records_by steps) in
        record {
          legal = legal_on action row;
          good = subst (AllByRecursion (IsRecord None)) (sym all) had.good;
          carried = had.carried;
          records = all ∙ had.records ∙ ap (λ l. joined groups ++ l) (sym pending);
          end = end ∙ had.end;
          place = place ∙ had.place;
          are_images = still_imaged action;
          between = weaker (IsBetween groups b) (IsBetween groups c)
              (λ p at. between_more groups b c p end keeps at) freezes had.between;
        }

    -- nothing more is handed over
    none_more : (action : Action) →
        Handed (steps ++ step action ∷ []) c handed groups freezes images →
        Handed (steps ++ step action ∷ []) c (handed ++ []) (groups ++ []) freezes images
    none_more action on =
        subst (λ l. Handed (steps ++ step action ∷ []) c l (groups ++ []) freezes images)
        (sym (append-nil handed))
        (subst (λ l. Handed (steps ++ step action ∷ []) c handed l freezes images)
        (sym (append-nil groups)) on)

    -- A block is cut off.
    pub cuts_on : (sends : List Block → Type 0) (full : Type 0) (a : Result Bool Refusal) →
        CutAnswers b sends full a c →
        (count : ℕ) × (bs : List Block) × (gs : List (List Record)) × sends bs ×
        Handed (steps ++ step (Action.Cut count a) ∷ []) c (handed ++ bs) (groups ++ gs) freezes
        images ×
        CutRow (standing b) count a (standing c)
    cuts_on sends full (Ok true) cut =
        let row = cut_taken meaning making b c sends full (Ok true) cut in
        let hands = cut.0.2 in
        let more = hands.first in
        let all : records_by (steps ++ step (Action.Cut row.0 (Ok true)) ∷ []) ≡ records_by steps =
        records_by-push steps (step (Action.Cut row.0 (Ok true))) ∙ append-nil (records_by steps) in
        let now = joined-push groups more in (
          row.0,
          cut.0.0 ∷ [],
          more ∷ [],
          cut.0.1,
          record {
            legal = legal_on (Action.Cut row.0 (Ok true)) row.1;
            good = subst (AllByRecursion (IsRecord None)) (sym all) had.good;
            carried = carries_append 0 0 handed (cut.0.0 ∷ []) groups (more ∷ []) had.carried (
              record {
                block = hands.bytes;
                end_is = omega (arith, hands.ends, had.end);
                place_is = omega (arith, hands.commits, had.place);
              },
              tt,
            );
            records = all ∙ had.records ∙ ap (λ l. joined groups ++ l) hands.are ∙
                sym (append_assoc (joined groups) more c.pending) ∙
                ap (λ l. l ++ c.pending) (sym now);
            end = omega (
              arith,
              cut.0.3,
              hands.ends,
              had.end,
              ap length now,
              length-append (joined groups) more,
            );
            place = omega (
              arith,
              cut.0.4,
              hands.commits,
              had.place,
              ap places now,
              places_append (joined groups) more,
            );
            are_images = still_imaged (Action.Cut row.0 (Ok true));
            between = weaker (IsBetween groups b) (IsBetween (groups ++ more ∷ []) c)
                (λ p at. between_cut groups b c cut.0.0 p had.end hands cut.0.3
                (λ f there behind. (cut.0.5 f).1 (there, behind)) at) freezes had.between;
          },
          row.1,
        )
    cuts_on sends full (Ok false) cut =
        let row = cut_taken meaning making b c sends full (Ok false) cut in
        let on = stays_on (Action.Cut row.0 (Ok false)) row.1 refl cut.0.2 cut.0.3 cut.0.4
        (λ f there. subst (λ l. Contains l f) (sym cut.0.5) there) in
        (row.0, [], [], cut.0.1, none_more (Action.Cut row.0 (Ok false)) on, row.1)
    cuts_on sends full (Err Refusal.NotNow) cut =
        let row = cut_taken meaning making b c sends full (Err Refusal.NotNow) cut in
        let on = stays_on (Action.Cut row.0 (Err Refusal.NotNow)) row.1 refl cut.0.2 cut.0.3 cut.0.4
        (λ f there. subst (λ l. Contains l f) (sym cut.0.5) there) in
        (row.0, [], [], cut.0.1, none_more (Action.Cut row.0 (Err Refusal.NotNow)) on, row.1)
    cuts_on sends full (Err e) cut = absurd cut.0

    -- so many records came before
    counted : lsn b ≡ length (records_by steps)
    counted = omega (
      arith,
      had.end,
      ap length had.records,
      length-append (joined groups) b.pending,
    )

    -- No block crosses the LSN behind the last record, once it is marked.
    sealed_between : c.end ≡ b.end → Seals b c → IsBetween groups c (lsn b)
    sealed_between same seals = ⊎_elim
        (λ (none : length b.pending ≡ 0). inl (
          groups,
          [],
          sym (append-nil groups),
          omega (arith, had.end, none),
        ))
        (λ (some : length b.pending ≡ 0 → ⊥). inr (
          omega (arith, same, some),
          (seals (lsn b)).1 (inr (refl, omega (arith, some))),
        ))
        (cases_eq (length b.pending) 0)

    -- What shows the book now is an image of it.
    pub imaged_now : (action : Action) (image : Image) → IsImageOf collections b image →
        Imaged (steps ++ step action ∷ []) image
    imaged_now action image is = record {
      first = steps;
      rest = step action ∷ [];
      begins = refl;
      there = standing b;
      legal = had.legal;
      next = b.next;
      packed = is.packed;
      end = is.end ∙ counted;
      place = is.place;
    }

    -- The next collection is copied, or that is refused: nothing changes but what is noted.
    pub gathers_on : (a : Result Bool Refusal) → c ≡ record b { gathering = c.gathering } →
        Handed (steps ++ step (Action.Gather a) ∷ []) c handed groups freezes images
    gathers_on a is =
        stays_on (Action.Gather a) (ap standing is) refl (ap (λ v. v.pending) is)
        (ap (λ v. v.end) is) (ap (λ v. v.place) is)
        (λ f there. subst (λ l. Contains l f) (sym (ap (λ v. v.freezes) is)) there)

    -- A gathering ends: no block crosses the LSN behind the last record,
    pub freezes_gathered : (g h : GatherState) (a : Result (Unit {0}) Refusal) →
        FreezeAnswers collections b g (Ok tt) c h →
        Handed (steps ++ step (Action.Freeze a) ∷ []) c handed groups (lsn b ∷ freezes) images
    freezes_gathered g h a froze =
        let is = froze.2 in
        let on = stays_on (Action.Freeze a) (ap standing is) refl (ap (λ v. v.pending) is)
        (ap (λ v. v.end) is) (ap (λ v. v.place) is) (λ f there. (froze.3 f).1 (inl there)) in
        record {
          legal = on.legal;
          good = on.good;
          carried = on.carried;
          records = on.records;
          end = on.end;
          place = on.place;
          are_images = on.are_images;
          between = (sealed_between (ap (λ v. v.end) is) froze.3, on.between);
        }

    -- or it is refused.
    pub freezes_nothing : (g h : GatherState) (e : Refusal) →
        FreezeAnswers collections b g (Err e) c h → (a : Result (Unit {0}) Refusal) →
        Handed (steps ++ step (Action.Freeze a) ∷ []) c handed groups freezes images
    freezes_nothing g h e froze a =
        let is = frozen_not collections b c g h e froze in
        stays_on (Action.Freeze a) (ap standing is) refl (ap (λ v. v.pending) is)
        (ap (λ v. v.end) is) (ap (λ v. v.place) is)
        (λ f there. subst (λ l. Contains l f) (sym (ap (λ v. v.freezes) is)) there)

    -- An image that is packed later stands beside the others.
    pub packs_image : (image : Image) → Imaged steps image →
        Handed steps b handed groups freezes (image ∷ images)
    packs_image image is = record {
      legal = had.legal;
      good = had.good;
      carried = had.carried;
      records = had.records;
      end = had.end;
      place = had.place;
      are_images = (is, had.are_images);
      between = had.between;
    }
