-- The names of what is read and repeated are good, and each stands at one place.
use Rattle.std.proofs.Common.{◌≡◌, ◌⊎◌, inl, inr, ⊎_elim, ℕ, zero, suc, Option, Some, None, List}
use Rattle.std.proofs.Common.{[], ◌∷◌, ◌++◌, length, slice_get, refl, sym, ◌∙◌, ap, subst}
use Rattle.std.specs.Prelude.{MatchOption}
use Rattle.std.specs.List.{AllByRecursion}
use Rattle.calls.specs.declared.format.Format.{Format}
use Rattle.calls.specs.declared.call.Call.{Call}
use Rattle.calls.specs.Names.{IsName}
use Rattle.calls.specs.Contents.{Content, Collection, after_at, does}
use Rattle.calls.specs.Rules.{inverse_of}
use Rattle.calls.specs.Transactions.{Event, Leads}
use Rattle.catalog.specs.Holdings.{AreNamed}
use Rattle.catalog.specs.Making.{names_of, AreDistinct, IsFree, IsNew}
use Rattle.catalog.specs.Laws.Makings.{names_kept, names_more}
use Rattle.catalog.proofs.Entries.{place_contains}
use Rattle.records.specs.declared.record.Record.{Record}
use Rattle.steps.specs.Machine.{Does}
use Rattle.replay.specs.Steps.{State, Steps, Repeats}
use Rattle.replay.specs.Reading.{Named, Progress, Unread, InCollections, InNumbers, InCalls}
use Rattle.replay.specs.Reading.{InJournal, Closes, HoldsLive, Reads, ReadsLive, AreAccepted}
use Rattle.boosted.proofs.Each.{each_append}
use Rattle.catalog.specs.Meaning.{catalog_meaning}

-- Each collection has a good name, and none has that of another.
abbrev pub AreWell : List Collection → Type 0
AreWell s = AreNamed s × AreDistinct (names_of s)

-- ---- one collection more

push_get : {X : Type 0} (xs : List X) (x : X) (at : ℕ) (v : X) →
    slice_get (xs ++ x ∷ []) at ≡ Some v → (slice_get xs at ≡ Some v) ⊎ ((at ≡ length xs) × (x ≡ v))
push_get [] x zero v e = inr (refl, cc)
push_get [] x (suc at) v e = absurd (cc)
push_get (y ∷ xs) x zero v e = inl e
push_get (y ∷ xs) x (suc at) v e =
    ⊎_elim (λ (before : slice_get xs at ≡ Some v). inl before)
    (λ (last : (at ≡ length xs) × (x ≡ v)). inr (ap suc last.0, last.1)) (push_get xs x at v e)

distinct_more : (names : List (List ℕ)) (name : List ℕ) → AreDistinct names → IsFree names name →
    AreDistinct (names ++ name ∷ [])
distinct_more names name distinct free v j k at_j at_k =
    let taken : (i : ℕ) → slice_get names i ≡ Some v → name ≡ v → ⊥ =
    λ i there same. free (place_contains name names i (there ∙ ap Some (sym same))) in
    ⊎_elim
    (λ (a : slice_get names j ≡ Some v). ⊎_elim
    (λ (b : slice_get names k ≡ Some v). distinct v j k a b)
    (λ (b : (k ≡ length names) × (name ≡ v)). absurd (taken j a b.1))
    (push_get names name k v at_k))
    (λ (a : (j ≡ length names) × (name ≡ v)). ⊎_elim
    (λ (b : slice_get names k ≡ Some v). absurd (taken k b a.1))
    (λ (b : (k ≡ length names) × (name ≡ v)). a.0 ∙ sym b.0) (push_get names name k v at_k))
    (push_get names name j v at_j)

one_more : (s t : List Collection) (name : List ℕ) (content : Content) → AreWell s →
    IsNew (names_of s) name → t ≡ s ++ record { name = name; content = content } ∷ [] → AreWell t
one_more s t name content well new is =
    let x : Collection = record { name = name; content = content } in
    subst AreWell (sym is) (
      each_append (λ x. IsName x.name) s (x ∷ []) well.0 (new.good, tt),
      subst AreDistinct (sym (names_more s x)) (distinct_more (names_of s) name well.1 new.free),
    )

-- ---- calls keep the names

named_from : (s : List Collection) → AreNamed s → AllByRecursion IsName (names_of s)
named_from [] all = tt
named_from (x ∷ s) all = (all.0, named_from s all.1)

named_to : (s : List Collection) → AllByRecursion IsName (names_of s) → AreNamed s
named_to [] all = tt
named_to (x ∷ s) all = (all.0, named_to s all.1)

same_names : (s t : List Collection) → names_of t ≡ names_of s → AreWell s → AreWell t
same_names s t same well = (
  named_to t
      (subst (AllByRecursion IsName) (sym same) (named_from s well.0)),
  subst AreDistinct (sym same) well.1,
)

does_names : (s : List Collection) (e : Event) (t : List Collection) → Does catalog_meaning s e t →
    names_of t ≡ names_of s
does_names s e t run = ap names_of run.1 ∙ names_kept s e.at e.call e.reply run.0

runs_names : (es : List Event) (s t : List Collection) → Leads (Does catalog_meaning) es s t →
    names_of t ≡ names_of s
runs_names [] s t run = ap names_of (sym run)
runs_names (e ∷ es) s t run = runs_names es run.0 t run.2 ∙ does_names s e run.0 run.1

undone_names : (o : Option Call) (s t : List Collection) (at : ℕ) →
    MatchOption o (t ≡ s) (λ back. (reply : _) × does s at back reply t) → names_of t ≡ names_of s
undone_names None s t at same = ap names_of same
undone_names (Some back) s t at run = ap names_of run.1.1 ∙ names_kept s at back run.0 run.1.0

-- ---- a step

pub step_well : (r : Record) (s t : State) → Steps s r t → AreWell s.now → AreWell t.now
step_well (Record.Make kind name) s t row well =
    subst (λ (v : State). AreWell v.now) (sym row.is)
    (one_more s.now row.next name _ well row.new row.made.is)
step_well (Record.Begin n) s t row well = subst (λ (v : State). AreWell v.now) (sym row.is) well
step_well (Record.Call c) s t row well =
    subst (λ (v : State). AreWell v.now) (sym row.is)
    (same_names s.now (after_at s.now c.collection c.call c.reply)
    (names_kept s.now c.collection c.call c.reply row.can.answered) well)
step_well (Record.Later l) s t row well = subst (λ (v : State). AreWell v.now) (sym row.is) well
step_well (Record.Commit n) s t row well =
    subst (λ (v : State). AreWell v.now) (sym row.left.is)
    (same_names s.now row.next (runs_names _ s.now row.next row.runs) well)
step_well (Record.Back n) s t row well =
    subst (λ (v : State). AreWell v.now) (sym row.is)
    (same_names s.now row.next (undone_names (inverse_of row.call.call row.call.reply) s.now
    row.next row.call.at row.undoes) well)
step_well (Record.Ended n) s t row well =
    subst (λ (v : State). AreWell v.now) (sym row.left.is) well
step_well r s t row well = absurd row

-- ---- what is read

closed_well : (s t : State) (last : Option Named) → Closes s last t → AreWell s.now → AreWell t.now
closed_well s t None closes well = subst (λ (v : State). AreWell v.now) (sym closes) well
closed_well s t (Some x) closes well =
    subst (λ (v : State). AreWell v.now) (sym closes.is)
    (one_more s.now closes.next x.name closes.loads.content well closes.new closes.loads.is)

holds_well : (r : Record) (s t : State) → HoldsLive s r t → AreWell s.now → AreWell t.now
holds_well (Record.Begin n) s t row well = subst (λ (v : State). AreWell v.now) (sym row.is) well
holds_well (Record.LiveCall c) s t row well = subst (λ (v : State). AreWell v.now) (sym row.is) well
holds_well (Record.LiveLater l) s t row well =
    subst (λ (v : State). AreWell v.now) (sym row.is) well
holds_well r s t row well = absurd row

-- So are those of what was read so far.
abbrev pub IsWell : Progress → Type 0
IsWell (Unread version) = Unit {0}
IsWell (InCollections next s last) = AreWell s.now
IsWell (InNumbers next s) = AreWell s.now
IsWell (InCalls next s) = AreWell s.now
IsWell (InJournal next s count) = AreWell s.now

live_well : (next : ℕ) (s : State) (r : Record) (p : Progress) → ReadsLive next s r p →
    AreWell s.now → IsWell p
live_well next s (Record.Begin n) p live well =
    subst IsWell (sym live.2) (holds_well (Record.Begin n) s live.0 live.1 well)
live_well next s (Record.LiveCall c) p live well =
    subst IsWell (sym live.2) (holds_well (Record.LiveCall c) s live.0 live.1 well)
live_well next s (Record.LiveLater l) p live well =
    subst IsWell (sym live.2) (holds_well (Record.LiveLater l) s live.0 live.1 well)
live_well next s Record.ImageEnd p live well = subst IsWell (sym live.1) well
live_well next s r p live well = absurd live

none_well : AreWell []
none_well = (tt, λ name j k a b. absurd (cc))

pub reads_well : (p : Progress) (r : Record) (q : Progress) → Reads p r q → IsWell p → IsWell q
reads_well (Unread version) (Record.Marks format next wear) q reads well =
    subst IsWell (sym reads.2) none_well
reads_well (InCollections next s last) (Record.Name kind name) q reads well =
    subst IsWell (sym reads.3) (closed_well s reads.0 last reads.1 well)
reads_well (InCollections next s (Some x)) (Record.Item i) q reads well =
    subst IsWell (sym reads.3) well
reads_well (InCollections next s last) r q reads well =
    live_well next reads.0 r q reads.2 (closed_well s reads.0 last reads.1 well)
reads_well (InNumbers next s) r q reads well = live_well next s r q reads well
reads_well (InCalls next s) (Record.Begin n) q reads well = absurd reads
reads_well (InCalls next s) r q reads well = live_well next s r q reads well
reads_well (InJournal next s count) r q reads well =
    subst IsWell (sym reads.2) (step_well r s reads.0 reads.1 well)
reads_well p r q reads well = absurd reads

-- ---- names behind records

run_well : (rs : List Record) (p q : Progress) → Leads Reads rs p q → IsWell p → IsWell q
run_well [] p q run well = subst IsWell run well
run_well (r ∷ rs) p q run well = run_well rs run.0 q run.2 (reads_well p r run.0 run.1 well)

-- Names are good and each at one place: in what an image and a journal lead to,
pub accepted_named : (version : Format) (rs : List Record) (n : ℕ) (s : State) (k : ℕ) →
    AreAccepted version rs n s k →
    AreNamed s.now × AreDistinct (names_of s.now)
accepted_named version rs n s k run = run_well rs (Unread version) (InJournal n s k) run tt

-- and behind records that the machine repeats, where they were before.
pub repeats_named : (rs : List Record) (s t : State) → Repeats rs s t →
    AreNamed s.now × AreDistinct (names_of s.now) → AreNamed t.now × AreDistinct (names_of t.now)
repeats_named [] s t run well =
    subst (λ (v : State). AreNamed v.now × AreDistinct (names_of v.now)) run well
repeats_named (r ∷ rs) s t run well =
    repeats_named rs run.0 t run.2 (step_well r s run.0 run.1 well)
