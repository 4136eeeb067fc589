-- What a journal tells of transactions without their calls that only read stands for what these
-- transactions give, with all their calls.
use Rattle.calls.specs.declared.format.Format.{Format}
use Rattle.std.proofs.Common.{◌≡◌, ℕ, ◌≤◌, List, [], ◌∷◌, length, map, take, drop, refl}
use Rattle.std.proofs.Common.{sym, ◌∙◌, ap, subst, arith, length-append}
use Rattle.std.proofs.lemmas.List.{take-map, take-append-le, take-append-drop, length-map}
use Rattle.std.proofs.lemmas.List.{length-take-le, take_all}
use Rattle.boosted.proofs.Runs.{Leads-split}
use Rattle.calls.specs.Contents.{Collection}
use Rattle.calls.specs.Reads.{without_reads}
use Rattle.calls.specs.Transactions.{Leads, Does, Transaction, Whole, Made, RunsWhole, Serial}
use Rattle.calls.specs.Transactions.{calls_of, laters_of}
use Rattle.checkpoint.specs.Crash.{Yields, committed_of}
use Rattle.steps.specs.Machine.{IsSettled}
use Rattle.steps.specs.Sound.{IsSound}
use Rattle.steps.proofs.Journalled.{calls_journalled, laters_journalled}
use Rattle.steps.proofs.DeferredRuns.{leads_once}
use Rattle.steps.proofs.Readings.{leads_without}
use Rattle.steps.proofs.Steps.{opened_sound}
use Rattle.replay.proofs.CatalogLaws.{laws}
use Rattle.txn.specs.Rows.{Standing, opening}
use Rattle.txn.specs.Histories.{committed_by, records_by, IsLegal, ComesTo}
use Rattle.txn.specs.declared.actions.BookStep.{BookStep}
use Rattle.txn.proofs.BookHistory.{history}
use Rattle.txn.proofs.Readings.{committed_records}
use Rattle.checkpoint.proofs.YieldLemmas.{prefix_take}
use Rattle.catalog.specs.Meaning.{catalog_meaning, catalog_making}

-- ---- transactions without what only reads

run_without : (x : Transaction) (s t : List Collection) → RunsWhole s x t →
    RunsWhole s (without_reads x) t
run_without (Whole es) s t run = (
  run.0,
  subst (λ cs. Leads Does cs s run.0) (sym (calls_journalled es))
      (leads_without catalog_meaning catalog_making laws.rules (calls_of es) s run.0 run.1),
  subst (λ cs. Leads Does cs run.0 t) (sym (laters_journalled es)) run.2,
)
run_without (Made name kind) s t run = run

serial_without : (ts : List Transaction) (s t : List Collection) → Serial ts s t →
    Serial (map without_reads ts) s t
serial_without [] s t run = run
serial_without (x ∷ ts) s t run =
    (run.0, run_without x s run.0 run.1, serial_without ts run.0 t run.2)

-- a transaction leads to one content
run_once : (x : Transaction) (s t u : List Collection) → RunsWhole s x t → RunsWhole s x u → t ≡ u
run_once (Whole es) s t u a b =
    leads_once catalog_meaning (laters_of es) a.0 t u a.2
    (subst (λ m. Leads Does (laters_of es) m u)
    (leads_once catalog_meaning (calls_of es) s b.0 a.0 b.1 a.1) b.2)
run_once (Made name kind) s t u a b = a.is ∙ sym b.is

serial_once : (ts : List Transaction) (s t u : List Collection) → Serial ts s t → Serial ts s u →
    t ≡ u
serial_once [] s t u a b = sym a ∙ b
serial_once (x ∷ ts) s t u a b =
    serial_once ts a.0 t u a.2
    (subst (λ m. Serial ts m u) (run_once x s b.0 a.0 b.1 a.1) b.2)

-- ---- what is yielded

-- Where the transactions lead somewhere, with all their calls, what is yielded of them without
-- their reads is yielded of them.
with_reads : (start : List Collection) (ts : List Transaction) (end : List Collection) →
    Serial ts start end → (m : ℕ) → m ≤ length ts → (c : List ℕ) →
    Yields start (map without_reads ts) (take m (map without_reads ts)) c →
    Yields start ts (take m ts) c
with_reads start ts end run m few c y =
    let fewer : List Transaction = map without_reads ts in
    let same : length fewer ≡ length ts = length-map ts without_reads in
    let k : ℕ = length y.kept in
    let front : take k fewer ≡ y.kept =
    ap (take k) (sym y.begins.1) ∙ take-append-le k y.kept y.begins.0 (omega arith) ∙
    take_all k y.kept (omega arith) in
    let size = ap length y.holds.1 in
    let parts = length-append (take m fewer) y.holds.0 in
    let told = length-take-le m fewer (omega (arith, few, same)) in
    let split = Leads-split RunsWhole (take k ts) (drop k ts) start end
    (subst (λ l. Serial l start end) (sym (take-append-drop k ts)) run) in
    let here : Serial y.kept start split.0 =
    subst (λ l. Serial l start split.0) (sym (take-map without_reads k ts) ∙ front)
    (serial_without (take k ts) start split.0 split.1) in
    record {
      sound = y.sound;
      content = y.content;
      stands = y.stands;
      kept = take k ts;
      begins = (drop k ts, take-append-drop k ts);
      holds = prefix_take ts m k (omega (arith, size, parts, told));
      serial = subst (Serial (take k ts) start)
          (serial_once y.kept start split.0 y.content here y.serial) split.1;
    }

-- ---- histories of a book of named collections

module _ (format : Format) (start : List Collection) (wear : ℕ) (steps : List BookStep)
    (c : Standing (List Collection))
    (legal : IsLegal catalog_meaning catalog_making (opening format start wear) steps c) where
  -- What a history comes to.
  pub comes_to : ComesTo (IsSound catalog_meaning catalog_making) (λ v. v)
      (IsSettled catalog_meaning) (opening format start wear) steps c
  comes_to = history catalog_meaning catalog_making laws.rules (λ (s : List Collection). s)
      (λ s at call r h. h) (λ s at call r h. refl) (λ u v name kind m. m) steps
      (opening format start wear)
      c (opened_sound catalog_meaning catalog_making laws.rules format start wear) refl legal

  -- As many transactions are journalled as are committed.
  pub as_many_committed : length (committed_of (records_by steps)) ≡ length (committed_by steps)
  as_many_committed = ap length (committed_records steps) ∙
      length-map (committed_by steps) without_reads

  -- What is yielded of what the records commit is yielded of what the steps do.
  pub history_yields : (m : ℕ) → m ≤ length (committed_of (records_by steps)) → (bytes : List ℕ) →
      Yields start (committed_of (records_by steps)) (take m (committed_of (records_by steps)))
      bytes
      → Yields start (committed_by steps) (take m (committed_by steps)) bytes
  history_yields m few bytes y =
      with_reads start (committed_by steps) comes_to.content comes_to.serial m
      (omega (arith, few, as_many_committed)) bytes
      (subst (λ ts. Yields start ts (take m ts) bytes) (committed_records steps) y)
