-- What is read is of one format, that of the marks: each record of it may stand in an area of that.
use Rattle.std.proofs.Common.{◌≡◌, ℕ, List, [], ◌∷◌, Option, Some, None, IfSome, refl, sym, ◌∙◌, ap}
use Rattle.std.proofs.Common.{subst, map}
use Rattle.std.specs.List.{AllByRecursion}
use Rattle.calls.specs.declared.format.Format.{Format}
use Rattle.calls.specs.declared.kind.Kind.{Kind}
use Rattle.calls.specs.Formats.{Allows}
use Rattle.calls.specs.Rules.{IsShort}
use Rattle.calls.specs.Transactions.{Leads}
use Rattle.records.specs.declared.record.Record.{Record}
use Rattle.records.specs.declared.record.CallRecord.{CallRecord}
use Rattle.gate_block.specs.Row.{IsRow}
use Rattle.gate_block.specs.Layout.{area_in_use}
use Rattle.records.specs.Records.{IsRecord, IsCalled, AreRecords, named_by, spelling}
use Rattle.records.specs.Short.{IsShortReply, IsShortCalled, IsOf}
use Rattle.records.proofs.Items.{short_deferrable, short_inverse}
use Rattle.replay.specs.Journals.{IsHeader, Holds, records_in}
use Rattle.replay.proofs.Grammar.{records_spelt}
use Rattle.replay.specs.Steps.{State, Steps, Repeats}
use Rattle.replay.specs.Reading.{Named, Progress, Unread, InCollections, InNumbers, InCalls}
use Rattle.replay.specs.Reading.{InJournal, Closes, HoldsLive, Reads, ReadsLive, AreAccepted}

-- ---- a call's record

if_some : {X : Type 0} (o : Option X) (P : X → Type 0) → ((x : X) → o ≡ Some x → P x) → IfSome o P
if_some None P f = tt
if_some (Some x) P f = f x refl

called_short : (f : Format) (c : CallRecord) → IsCalled c → IsShort f c.call →
    IsShortReply f c.reply → IsShortCalled f c
called_short f c is call reply = record {
  call = call;
  reply = reply;
  inverse = if_some c.inverse (IsShort f)
      (λ back there. short_inverse f c.call c.reply back reply (sym is.undone ∙ there));
}

-- ---- a step of the machine

pub step_format : (r : Record) (s t : State) → Steps s r t → t.format ≡ s.format
step_format (Record.Make kind name) s t row = ap (λ (v : State). v.format) row.is
step_format (Record.Begin n) s t row = ap (λ (v : State). v.format) row.is
step_format (Record.Call c) s t row = ap (λ (v : State). v.format) row.is
step_format (Record.Later l) s t row = ap (λ (v : State). v.format) row.is
step_format (Record.Commit n) s t row = ap (λ (v : State). v.format) row.left.is
step_format (Record.Back n) s t row = ap (λ (v : State). v.format) row.is
step_format (Record.Ended n) s t row = ap (λ (v : State). v.format) row.left.is
step_format r s t row = absurd row

step_of : (last : Option Kind) (r : Record) (s t : State) → IsRecord last r → Steps s r t →
    IsOf s.format r
step_of last (Record.Make kind name) s t is row = tt
step_of last (Record.Begin n) s t is row = tt
step_of last (Record.Call c) s t is row =
    called_short s.format c is.sound row.can.asked.2 row.can.told
step_of last (Record.Later l) s t is row = short_deferrable s.format l.call row.can.deferred.1
step_of last (Record.Commit n) s t is row = tt
step_of last (Record.Back n) s t is row = tt
step_of last (Record.Ended n) s t is row = tt
step_of last r s t is row = absurd row

-- Records that are repeated leave the format,
pub repeats_format : (rs : List Record) (s t : State) → Repeats rs s t → t.format ≡ s.format
repeats_format [] s t run = ap (λ (v : State). v.format) (sym run)
repeats_format (r ∷ rs) s t run =
    repeats_format rs run.0 t run.2 ∙ step_format r s run.0 run.1

-- ---- a record that is read

-- What was read so far is of the format, or nothing was, and the disk may have an area of that.
abbrev IsIn : Format → Progress → Type 0
IsIn f (Unread version) = Allows version f
IsIn f (InCollections next s last) = s.format ≡ f
IsIn f (InNumbers next s) = s.format ≡ f
IsIn f (InCalls next s) = s.format ≡ f
IsIn f (InJournal next s count) = s.format ≡ f

closed_format : (s t : State) (last : Option Named) → Closes s last t → t.format ≡ s.format
closed_format s t None closes = ap (λ (v : State). v.format) closes
closed_format s t (Some x) closes = ap (λ (v : State). v.format) closes.is

holds_format : (r : Record) (s t : State) → HoldsLive s r t → t.format ≡ s.format
holds_format (Record.Begin n) s t row = ap (λ (v : State). v.format) row.is
holds_format (Record.LiveCall c) s t row = ap (λ (v : State). v.format) row.is
holds_format (Record.LiveLater l) s t row = ap (λ (v : State). v.format) row.is
holds_format r s t row = absurd row

-- The format from before is that of what is behind it, and the record is of it.
module _ (f : Format) where
  live_of : (last : Option Kind) (next : ℕ) (s : State) (r : Record) (p : Progress) →
      IsRecord last r → ReadsLive next s r p → IsIn f p → (s.format ≡ f) × IsOf f r
  live_of last next s (Record.Begin n) p is live there = (
    sym (holds_format (Record.Begin n) s live.0 live.1) ∙ subst (IsIn f) live.2 there,
    tt,
  )
  live_of last next s (Record.LiveCall c) p is live there =
      let same : s.format ≡ f =
      sym (holds_format (Record.LiveCall c) s live.0 live.1) ∙ subst (IsIn f) live.2 there in (
        same,
        subst (λ g. IsShortCalled g c) same
            (called_short s.format c is.sound live.1.asked.2 live.1.told),
      )
  live_of last next s (Record.LiveLater l) p is live there = (
    sym (holds_format (Record.LiveLater l) s live.0 live.1) ∙ subst (IsIn f) live.2 there,
    short_deferrable f l.call live.1.deferred.1,
  )
  live_of last next s Record.ImageEnd p is live there = (subst (IsIn f) live.1 there, tt)
  live_of last next s r p is live there = absurd live

  behind_of : (kind : Option Kind) (next : ℕ) (s t : State) (last : Option Named) (r : Record)
      (p : Progress) → IsRecord kind r → Closes s last t → ReadsLive next t r p → IsIn f p →
      (s.format ≡ f) × IsOf f r
  behind_of kind next s t last r p is closes live there =
      let rest = live_of kind next t r p is live there in
      (sym (closed_format s t last closes) ∙ rest.0, rest.1)

  reads_of : (last : Option Kind) (p : Progress) (r : Record) (q : Progress) → IsRecord last r →
      Reads p r q → IsIn f q → IsIn f p × IsOf f r
  reads_of last (Unread version) (Record.Marks format next wear) q is reads there =
      let same : format ≡ f = subst (IsIn f) reads.2 there in
      (subst (Allows version) same reads.0, same)
  reads_of kind (InCollections next s last) (Record.Name k name) q is reads there = (
    sym (closed_format s reads.0 last reads.1) ∙ subst (IsIn f) reads.3 there,
    tt,
  )
  reads_of kind (InCollections next s (Some x)) (Record.Item i) q is reads there =
      let same : s.format ≡ f = subst (IsIn f) reads.3 there in
      (same, subst (λ g. IsOf g (Record.Item i)) same reads.1)
  reads_of kind (InCollections next s last) r q is reads there =
      behind_of kind next s reads.0 last r q is reads.1 reads.2 there
  reads_of last (InNumbers next s) r q is reads there = live_of last next s r q is reads there
  reads_of last (InCalls next s) (Record.Begin n) q is reads there = absurd reads
  reads_of last (InCalls next s) r q is reads there = live_of last next s r q is reads there
  reads_of last (InJournal next s count) r q is reads there =
      let same : s.format ≡ f =
      sym (step_format r s reads.0 reads.1) ∙ subst (IsIn f) reads.2 there in
      (same, subst (λ g. IsOf g r) same (step_of last r s reads.0 is reads.1))
  reads_of last p r q is reads there = absurd reads

  run_of : (last : Option Kind) (rs : List Record) (p q : Progress) → AreRecords last rs →
      Leads Reads rs p q → IsIn f q → IsIn f p × AllByRecursion (IsOf f) rs
  run_of last [] p q are run there = (subst (IsIn f) (sym run) there, tt)
  run_of last (r ∷ rs) p q are run there =
      let rest = run_of (named_by last r) rs run.0 q are.1 run.2 there in
      let one = reads_of last p r run.0 are.0 run.1 rest.0 in
      (one.0, (one.1, rest.1))

-- ---- an image and a journal

-- The disk may have an area of the format that they lead to, and each record is of that.
pub accepted_of : (version : Format) (rs : List Record) (n : ℕ) (s : State) (k : ℕ) →
    AreAccepted version rs n s k → AreRecords None rs →
    Allows version s.format × AllByRecursion (IsOf s.format) rs
accepted_of version rs n s k run are =
    run_of s.format None rs (Unread version) (InJournal n s k) are run refl

-- They are accepted on another disk too that may have an area of that format.
pub accepted_on : (version other : Format) (rs : List Record) (n : ℕ) (s : State) (k : ℕ) →
    AreAccepted version rs n s k → AreRecords None rs → Allows other s.format →
    AreAccepted other rs n s k
accepted_on version other [] n s k run are allowed = absurd (cc)
accepted_on version other (Record.Marks format first wear ∷ rs) n s k run are allowed =
    let there = run_of s.format None rs run.0 (InJournal n s k) are.1 run.2 refl in
    let same : format ≡ s.format = subst (IsIn s.format) run.1.2 there.0 in
    (run.0, (subst (Allows other) (sym same) allowed, run.1.1, run.1.2), run.2)
accepted_on version other (r ∷ rs) n s k run are allowed = absurd run.1

-- Bytes hold them whose head is that of the disk, and whose area in use is a row of them.
abbrev pub accepted_holds : (version : Format) (size : ℕ) (bytes : List ℕ)
    (blocks : List (List Record))
    (n : ℕ) (s : State) (k : ℕ) → IsHeader version size bytes →
    IsRow (map spelling blocks) (area_in_use size bytes) → AreRecords None (records_in blocks) →
    AreAccepted version (records_in blocks) n s k → Holds bytes blocks
accepted_holds version size bytes blocks n s k header row good run =
    let is = accepted_of version (records_in blocks) n s k run good in
    record {
      version = version;
      size = size;
      header = header;
      format = s.format;
      allowed = is.0;
      row = row;
      spelt = records_spelt None (records_in blocks) good;
      of_format = is.1;
    }
