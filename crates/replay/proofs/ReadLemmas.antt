-- What each record asks of a reading: the steps of images and journals, from a progress and from
-- all like it.
use Rattle.std.proofs.Common.{◌≡◌, ◌⊎◌, ⊎_elim, ℕ, List, [], ◌∷◌, ◌++◌, ◌+◌, Bool, true, false}
use Rattle.std.proofs.Common.{Ok, Option, None, Some, refl, sym, ◌∙◌, ap, subst}
use Rattle.calls.specs.declared.kind.Kind.{Kind}
use Rattle.calls.specs.declared.item.Item.{Item}
use Rattle.calls.specs.Contents.{Collection}
use Rattle.catalog.specs.Making.{names_of, IsNew}
use Rattle.catalog.specs.Places.{IsWithin}
use Rattle.catalog.specs.Holdings.{Loads}
use Rattle.catalog.proofs.Orders.{one_content_of}
use Rattle.records.specs.declared.record.Record.{Record}
use Rattle.records.specs.Images.{IsLiveRecord}
use Rattle.records.specs.declared.record.CallRecord.{CallRecord}
use Rattle.records.specs.declared.record.LaterRecord.{LaterRecord}
use Rattle.steps.specs.Machines.{Alike, RepeatAnswers}
use Rattle.replay.specs.declared.stage.Stage.{Stage}
use Rattle.replay.specs.Loading.{LoadAnswers}
use Rattle.replay.specs.Steps.{State, Steps}
use Rattle.replay.specs.Reading.{Named, Progress, InCollections, InCalls, InJournal}
use Rattle.replay.specs.Reading.{Closes, HoldsLive, Reads, ReadsLive, next_after}
use Rattle.replay.specs.Repetitions.{AlikeProgress, Takes, IsStuck, LiveLeads, IsNoLive}
use Rattle.replay.specs.Repetitions.{IsBegin, IsItem, progress_of, number_behind}

-- ---- a collection that is told whole

loads_one : (s t u v : List Collection) (name : List ℕ) (kind : Kind) (items : List Item) → u ≡ s →
    Loads s name kind items t → Loads u name kind items v → v ≡ t
loads_one s t u v name kind items same a b =
    let content = one_content_of b.content a.content items (b.of_kind ∙ sym a.of_kind) b.lists
    a.lists in
    b.is ∙ ap (λ l. l ++ record { name = name; content = b.content } ∷ []) same ∙
    ap (λ c. s ++ record { name = name; content = c } ∷ []) content ∙ sym a.is

-- From states that are alike it leads to ones that are alike,
pub closes_alike : (s t u v : State) (last : Option Named) → Alike u s → Closes s last t →
    Closes u last v → Alike v t
closes_alike s t u v None like a b = subst (λ w. Alike w t) (sym b) (subst (Alike u) (sym a) like)
closes_alike s t u v (Some x) like a b =
    let moved : Alike (record u { now = b.next }) (record s { now = a.next }) = record {
      now = loads_one s.now a.next u.now b.next x.name x.kind x.items like.now a.loads b.loads;
      live = like.live;
      entries = like.entries;
      holds = like.holds;
      wear = like.wear;
      format = like.format;
    } in
    subst (λ w. Alike w t) (sym b.is) (subst (Alike (record u { now = b.next })) (sym a.is) moved)

-- and it leads on from both or from none.
pub closes_too : (s u v : State) (last : Option Named) → Alike u s → Closes u last v →
    (t : State) × Closes s last t
closes_too s u v None like b = (s, refl)
closes_too s u v (Some x) like b = (
  record s { now = b.next },
  record {
    new = subst (λ l. IsNew (names_of l) x.name) like.now b.new;
    next = b.next;
    loads = subst (λ l. Loads l x.name x.kind x.items b.next) like.now b.loads;
    reached = subst (IsWithin b.next) like.wear b.reached;
    is = refl;
  },
)

-- ---- records behind those of collections

-- neither names a collection nor is an item
abbrev pub IsBehind : Record → Type 0
IsBehind (Record.Name kind name) = ⊥
IsBehind (Record.Item i) = ⊥
IsBehind r = Unit {0}

pub is_behind : (r : Record) → ((kind : Kind) (name : List ℕ) → r ≡ Record.Name kind name → ⊥) →
    ((i : Item) → r ≡ Record.Item i → ⊥) → IsBehind r
is_behind (Record.Name kind name) named item = named kind name refl
is_behind (Record.Item i) named item = item i refl
is_behind r named item = tt

reads_behind : (n : ℕ) (s : State) (last : Option Named) (r : Record) (p : Progress) → IsBehind r →
    (t : State) × Closes s last t × ReadsLive n t r p → Reads (InCollections n s last) r p
reads_behind n s last (Record.Name kind name) p behind live = absurd behind
reads_behind n s last (Record.Item i) p behind live = absurd behind
reads_behind n s last r p behind live = live

behind_reads : (n : ℕ) (s : State) (last : Option Named) (r : Record) (p : Progress) → IsBehind r →
    Reads (InCollections n s last) r p → (t : State) × Closes s last t × ReadsLive n t r p
behind_reads n s last (Record.Name kind name) p behind reads = absurd behind
behind_reads n s last (Record.Item i) p behind reads = absurd behind
behind_reads n s last r p behind reads = reads

module _ (n : ℕ) (s : State) (last : Option Named) where
  module _ (r : Record) (behind : IsBehind r) (t : State) (closes : Closes s last t) where
    live_alike : (b : Stage) → LiveLeads t r b n → (u v : Progress) →
        AlikeProgress u (InCollections n s last) → Reads u r v →
        AlikeProgress v (progress_of b (number_behind n r))
    live_alike b live (InCollections m w x) v like reads =
        let there = behind_reads m w x r v behind reads in
        let same : Alike there.0 t = closes_alike s t w there.0 last like.1 closes
        (subst (λ y. Closes w y there.0) like.2 there.1) in
        live.alike there.0 v same (subst (λ k. ReadsLive k there.0 r v) like.0 there.2)
    live_alike b live u v like reads = absurd like

    pub live_takes : (b : Stage) → LiveLeads t r b n →
        Takes (InCollections n s last) r (progress_of b (number_behind n r))
    live_takes b live = record {
      reads = reads_behind n s last r (progress_of b (number_behind n r))
          behind (t, closes, live.reads);
      alike = live_alike b live;
    }

    pub live_stuck : IsNoLive t r → IsStuck (InCollections n s last) r
    live_stuck none (InCollections m w x) v like reads =
        let there = behind_reads m w x r v behind reads in
        none m there.0 v (closes_alike s t w there.0 last like.1 closes
        (subst (λ y. Closes w y there.0) like.2 there.1)) there.2
    live_stuck none u v like reads = absurd like

  module _ (open_still : (t : State) → Closes s last t → ⊥) where
    -- no collection alike is told whole
    none_closes : (m : ℕ) (w t : State) (x : Option Named) →
        AlikeProgress (InCollections m w x) (InCollections n s last) → Closes w x t → ⊥
    none_closes m w t x like closes =
        let too = closes_too s w t last like.1 (subst (λ y. Closes w y t) like.2 closes) in
        open_still too.0 too.1

    pub unclosed_stuck : (r : Record) → IsBehind r → IsStuck (InCollections n s last) r
    unclosed_stuck r behind (InCollections m w x) v like reads =
        let there = behind_reads m w x r v behind reads in none_closes m w there.0 x like there.1
    unclosed_stuck r behind u v like reads = absurd like

    pub unclosed_name : (kind : Kind) (name : List ℕ) →
        IsStuck (InCollections n s last) (Record.Name kind name)
    unclosed_name kind name (InCollections m w x) v like reads =
        none_closes m w reads.0 x like reads.1
    unclosed_name kind name u v like reads = absurd like

  module _ (kind : Kind) (name : List ℕ) (t : State) (closes : Closes s last t) where
    abbrev named : Named
    named = record { name = name; kind = kind; items = [] }

    pub name_takes : IsNew (names_of t.now) name →
        Takes (InCollections n s last) (Record.Name kind name) (InCollections n t (Some named))
    name_takes new = record { reads = (t, closes, new, refl); alike = alike }
      where
        alike : (u v : Progress) → AlikeProgress u (InCollections n s last) →
            Reads u (Record.Name kind name) v → AlikeProgress v (InCollections n t (Some named))
        alike (InCollections m w x) v like reads =
            let same : Alike reads.0 t = closes_alike s t w reads.0 last like.1 closes
            (subst (λ y. Closes w y reads.0) like.2 reads.1) in
            subst (λ q. AlikeProgress q (InCollections n t (Some named))) (sym reads.3)
            (like.0, same, refl)
        alike u v like reads = absurd like

    pub name_stuck : (IsNew (names_of t.now) name → ⊥) →
        IsStuck (InCollections n s last) (Record.Name kind name)
    name_stuck old (InCollections m w x) v like reads =
        let same : Alike reads.0 t = closes_alike s t w reads.0 last like.1 closes
        (subst (λ y. Closes w y reads.0) like.2 reads.1) in
        old (subst (λ l. IsNew (names_of l) name) same.now reads.2)
    name_stuck old u v like reads = absurd like

-- ---- what was live

abbrev pub HoldsAlike : State → Record → State → Type 0
HoldsAlike s r t = (u v : State) → Alike u s → HoldsLive u r v → Alike v t

abbrev pub HoldsNone : State → Record → Type 0
HoldsNone s r = (u v : State) → Alike u s → HoldsLive u r v → ⊥

pub asked_either : (r : Record) →
    ((c : CallRecord) × (r ≡ Record.LiveCall c)) ⊎ ((l : LaterRecord) × (r ≡ Record.LiveLater l)) →
    IsLiveRecord r
asked_either r either = ⊎_elim (λ (x : (c : CallRecord) × (r ≡ Record.LiveCall c)). subst
    IsLiveRecord (sym x.1) tt) (λ (x : (l : LaterRecord) × (r ≡ Record.LiveLater l)). subst
    IsLiveRecord (sym x.1) tt) either

begin_leads : (s t : State) (k n : ℕ) → HoldsLive s (Record.Begin k) t →
    HoldsAlike s (Record.Begin k) t → LiveLeads s (Record.Begin k) (Stage.Numbers t) n
begin_leads s t k n holds alike = record {
  reads = (t, holds, refl);
  alike = λ u v like live. subst (λ q. AlikeProgress q
      (progress_of (Stage.Numbers t) (number_behind n (Record.Begin k)))) (sym live.2)
      (refl, alike u live.0 like live.1);
}

pub number_leads : (s t : State) (r : Record) (k : ℕ) → r ≡ Record.Begin k → HoldsLive s r t →
    HoldsAlike s r t → (n : ℕ) → LiveLeads s r (Stage.Numbers t) n
number_leads s t r k is holds alike n =
    subst (λ q. LiveLeads s q (Stage.Numbers t) n) (sym is)
    (begin_leads s t k n (subst (λ q. HoldsLive s q t) is holds)
    (subst (λ q. HoldsAlike s q t) is alike))

pub asked_leads : (s t : State) (r : Record) → IsLiveRecord r → HoldsLive s r t → HoldsAlike s r t →
    (n : ℕ) → LiveLeads s r (Stage.Calls t) n
asked_leads s t (Record.LiveCall c) is holds alike n = record {
  reads = (t, holds, refl);
  alike = λ u v like live. subst (λ q. AlikeProgress q (InCalls n t)) (sym live.2)
      (refl, alike u live.0 like live.1);
}
asked_leads s t (Record.LiveLater l) is holds alike n = record {
  reads = (t, holds, refl);
  alike = λ u v like live. subst (λ q. AlikeProgress q (InCalls n t)) (sym live.2)
      (refl, alike u live.0 like live.1);
}
asked_leads s t r is holds alike n = absurd is

pub begin_none : (s : State) (r : Record) (k : ℕ) → r ≡ Record.Begin k → HoldsNone s r →
    IsNoLive s r
begin_none s r k is none = subst (IsNoLive s) (sym is)
    (λ n u v like live. subst (HoldsNone s) is none u live.0 like live.1)

pub asked_none : (s : State) (r : Record) → IsLiveRecord r → HoldsNone s r → IsNoLive s r
asked_none s (Record.LiveCall c) is none n u v like live = none u live.0 like live.1
asked_none s (Record.LiveLater l) is none n u v like live = none u live.0 like live.1
asked_none s r is none n u v like live = absurd is

pub other_none : (s : State) (r : Record) → ((c : CallRecord) → r ≡ Record.LiveCall c → ⊥) →
    ((l : LaterRecord) → r ≡ Record.LiveLater l → ⊥) → (r ≡ Record.ImageEnd → ⊥) →
    ((k : ℕ) → r ≡ Record.Begin k → ⊥) → IsNoLive s r
other_none s (Record.LiveCall c) call later end begin n u v like live = call c refl
other_none s (Record.LiveLater l) call later end begin n u v like live = later l refl
other_none s Record.ImageEnd call later end begin n u v like live = end refl
other_none s (Record.Begin k) call later end begin n u v like live = begin k refl
other_none s r call later end begin n u v like live = live

-- from the numbers that were live

reads_asked : (n : ℕ) (s : State) (r : Record) (p : Progress) → (IsBegin r → ⊥) →
    ReadsLive n s r p → Reads (InCalls n s) r p
reads_asked n s (Record.Begin k) p other live = absurd (other tt)
reads_asked n s r p other live = live

asked_reads : (n : ℕ) (s : State) (r : Record) (p : Progress) → Reads (InCalls n s) r p →
    ReadsLive n s r p
asked_reads n s (Record.Begin k) p reads = absurd reads
asked_reads n s r p reads = reads

-- and from what was asked for
module _ (n : ℕ) (s : State) (r : Record) where
  calls_alike : (b : Stage) → LiveLeads s r b n → (u v : Progress) → AlikeProgress u (InCalls n s) →
      Reads u r v → AlikeProgress v (progress_of b (number_behind n r))
  calls_alike b live (InCalls m w) v like reads =
      live.alike w v like.1 (subst (λ k. ReadsLive k w r v) like.0 (asked_reads m w r v reads))
  calls_alike b live u v like reads = absurd like

  pub calls_take : (b : Stage) → (IsBegin r → ⊥) → LiveLeads s r b n →
      Takes (InCalls n s) r (progress_of b (number_behind n r))
  calls_take b other live = record {
    reads = reads_asked n s r (progress_of b (number_behind n r))
        other live.reads;
    alike = calls_alike b live;
  }

  pub calls_stuck : IsNoLive s r → IsStuck (InCalls n s) r
  calls_stuck none (InCalls m w) v like reads = none m w v like.1 (asked_reads m w r v reads)
  calls_stuck none u v like reads = absurd like

-- ---- the journal

same_number : (n : ℕ) (r : Record) (s t : State) → Steps s r t → number_behind n r ≡ next_after n r
same_number n (Record.Marks format k wear) s t step = absurd step
same_number n r s t step = refl

module _ (n : ℕ) (s : State) (count : ℕ) (r : Record) where
  pub step_takes : (t : State) → Steps s r t →
      ((u v : State) → Alike u s → Steps u r v → Alike v t) →
      Takes (InJournal n s count) r (InJournal (number_behind n r) t (count + 1))
  step_takes t step alike = subst (λ k. Takes (InJournal n s count) r (InJournal k t (count + 1)))
      (sym (same_number n r s t step)) (record { reads = (t, step, refl); alike = goes })
    where
      goes : (u v : Progress) → AlikeProgress u (InJournal n s count) → Reads u r v →
          AlikeProgress v (InJournal (next_after n r) t (count + 1))
      goes (InJournal m w j) v like reads =
          subst (λ q. AlikeProgress q (InJournal (next_after n r) t (count + 1))) (sym reads.2)
          (ap (λ k. next_after k r) like.0, alike w reads.0 like.1 reads.1, ap (λ k. k + 1) like.2)
      goes u v like reads = absurd like

  pub step_stuck : ((u v : State) → Alike u s → Steps u r v → ⊥) → IsStuck (InJournal n s count) r
  step_stuck none (InJournal m w j) v like reads = none w reads.0 like.1 reads.1
  step_stuck none u v like reads = absurd like

pub item_steps : (s t : State) (r : Record) → IsItem r → Steps s r t → ⊥
item_steps s t (Record.Item i) is step = step
item_steps s t r is step = absurd is

-- a step that was taken, or none
pub answer_true : (s t : State) (r : Record) (b : Bool) → b ≡ true →
    RepeatAnswers Steps s r (Ok b) t →
    Steps s r t × ((u v : State) → Alike u s → Steps u r v → Alike v t)
answer_true s t r b is answers = subst (λ x. RepeatAnswers Steps s r (Ok x) t) is answers

pub answer_false : (s t : State) (r : Record) (b : Bool) → b ≡ false →
    RepeatAnswers Steps s r (Ok b) t → (u v : State) → Alike u s → Steps u r v → ⊥
answer_false s t r b is answers = (subst (λ x. RepeatAnswers Steps s r (Ok x) t) is answers).1

-- a collection that was loaded, or that cannot be
pub load_true : (loads : State → Type 0) (s t : State) (b : Bool) → b ≡ true →
    LoadAnswers loads s (Ok b) t → loads t
load_true loads s t b is answers = subst (λ x. LoadAnswers loads s (Ok x) t) is answers

pub load_false : (loads : State → Type 0) (s t : State) (b : Bool) → b ≡ false →
    LoadAnswers loads s (Ok b) t → (v : State) → loads v → ⊥
load_false loads s t b is answers = (subst (λ x. LoadAnswers loads s (Ok x) t) is answers).1
