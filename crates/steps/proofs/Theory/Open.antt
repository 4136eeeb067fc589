-- Opening: what it yields, and what a stop in it leaves.
use Rattle.std.proofs.Common.{◌≡◌, ℕ, List, [], ◌∷◌, ◌++◌, map, refl, sym, ◌∙◌, ap, subst}
use Rattle.std.proofs.Common.{append-nil}
use Rattle.std.specs.List.{AllByRecursion}
use Rattle.boosted.specs.Runs.{own, others}
use Rattle.boosted.proofs.Runs.{Leads-append}
use Rattle.boosted.proofs.Each.{each_append, each_front}
use Rattle.steps.specs.Theory.Rules.{Rules, RuleLaws}
use Rattle.steps.specs.Theory.Journal.{Entry, asker, calls, Record, Make, Begin, Call, Later}
use Rattle.steps.specs.Theory.Journal.{Commit, Back, Ended, Serial, committed, gathered}
use Rattle.steps.specs.Theory.Machine.{IsSettled, Steps}
use Rattle.steps.specs.Theory.Theorems.{undo_one, undo_records, idle, OpenYields}
use Rattle.steps.proofs.Theory.Serial.{stands_for_one, beginnings_commit, history_is_serial}
use Rattle.steps.proofs.Theory.Undo.{undo_settles}

abbrev IsUndo : {E M : Type 0} → Record E M → Type 0
IsUndo (Back n) = Unit {0}
IsUndo (Ended n) = Unit {0}
IsUndo r = ⊥

module _ (E M : Type 0) where
  backs : (n : ℕ) (xs : List E) → AllByRecursion (IsUndo {E = E} {M = M}) (map (λ x. Back n) xs)
  backs n [] = tt
  backs n (x ∷ xs) = (tt, backs n xs)

  undo_only : (owner : E → ℕ) (ns : List ℕ) (es : List (Entry E)) →
      AllByRecursion (IsUndo {E = E} {M = M}) (undo_records owner ns es)
  undo_only owner [] es = tt
  undo_only owner (n ∷ ns) es =
      each_append IsUndo (undo_one owner n es) (undo_records owner ns (others (asker owner) n es))
      (each_append IsUndo (map (λ a. Back n) (own owner n (calls es))) (Ended n ∷ [])
      (backs n (own owner n (calls es))) (tt, tt))
      (undo_only owner ns (others (asker owner) n es))

-- undoing commits nothing
undo_commits : {E M : Type 0} (owner : E → ℕ) (es : List (Entry E)) (rs : List (Record E M)) →
    AllByRecursion IsUndo rs → committed owner es rs ≡ []
undo_commits owner es [] a = refl
undo_commits owner es (Back n ∷ rs) a = undo_commits owner es rs a.1
undo_commits owner es (Ended n ∷ rs) a = undo_commits owner es rs a.1
undo_commits owner es (Make k ∷ rs) a = absurd a.0
undo_commits owner es (Begin n ∷ rs) a = absurd a.0
undo_commits owner es (Call x ∷ rs) a = absurd a.0
undo_commits owner es (Later d ∷ rs) a = absurd a.0
undo_commits owner es (Commit n ∷ rs) a = absurd a.0

module _ {S E M N : Type 0} {rules : Rules S E M N} (laws : RuleLaws rules) where
  pub open_yields : OpenYields rules
  open_yields s t rs c ns sound stands run differ in_live all =
      let one = stands_for_one laws s t rs sound (stands.0, stands.1) run in
      let same : c ≡ one.0 = one.3 c stands in
      let sound_t = (history_is_serial laws rs s.entries s t stands.0 sound (λ n live go. refl)
      stands.1 run).0 in
      let undo = undo_settles laws t c ns sound_t
      (subst (λ v. IsSettled rules t v) (sym same) one.2) differ in_live all in (
        Leads-append (Steps rules) rs (undo_records rules.owner ns t.entries) s t (idle c) run undo,
        (λ us more is. (
          stands.0,
          stands.1,
          subst (λ l. Serial rules l stands.0 c)
              (sym (beginnings_commit rules rs us s.entries
              ∙ ap (λ l. committed rules.owner s.entries rs ++ l)
              (undo_commits rules.owner (gathered rules.owner s.entries rs) us
              (each_front IsUndo us more (subst (AllByRecursion IsUndo) is
              (undo_only E M rules.owner ns t.entries))))
              ∙ append-nil (committed rules.owner s.entries rs)))
              stands.2,
        )),
      )
