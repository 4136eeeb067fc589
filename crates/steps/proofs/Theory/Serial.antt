-- One history: each step, and every list of records.
use Rattle.std.proofs.Common.{suc, ◌≡◌, ℕ, ◌==◌, not, inl, inr, ⊎_elim, List, [], ◌∷◌, ◌++◌, refl}
use Rattle.std.proofs.Common.{sym, ◌∙◌, ap, subst, append-nil, append_assoc}
use Rattle.std.specs.List.{AllByRecursion}
use Rattle.std.proofs.lemmas.Bool.{cases_eq}
use Rattle.std.proofs.lemmas.List.Elements.{filter-append}
use Rattle.calls.specs.Transactions.{Leads}
use Rattle.boosted.specs.Runs.{own, others, IsNewest}
use Rattle.boosted.proofs.Runs.{Leads-append, Leads-push}
use Rattle.boosted.proofs.Each.{weaker, each_back}
use Rattle.boosted.proofs.Settled.{settled_unique, settled_commit, settled_back}
use Rattle.steps.specs.Theory.Rules.{Rules, RuleLaws, Has, Lacks}
use Rattle.steps.specs.Theory.Journal.{Entry, Asked, Deferred, event, asker, calls, laters, Record}
use Rattle.steps.specs.Theory.Journal.{Make, Begin, Call, Later, Commit, Back, Ended, Transaction}
use Rattle.steps.specs.Theory.Journal.{Whole, Made, RunsWhole, Serial, gather, commits, committed}
use Rattle.steps.specs.Theory.Machine.{State, laters_of, IsSound, IsSettled, IsNewestCall}
use Rattle.steps.specs.Theory.Machine.{ended_at, Steps, Tells}
use Rattle.steps.specs.Theory.Theorems.{SettlesOnce, StepSettles, HistoryIsSerial, StandsFor}
use Rattle.steps.specs.Theory.Theorems.{StandsForOne, BeginningsCommit, CommitsRun, PlacesCount}
use Rattle.steps.proofs.Theory.Lists.{without_has, has_without, calls_append, calls_filter}
use Rattle.steps.proofs.Theory.Lists.{none_others, none_own, own_others_same, own_others_other}
use Rattle.steps.proofs.Theory.Lists.{own_without}
use Rattle.steps.proofs.Theory.Derived.{calls_apart, laters_away, laters_late, commit_runs}
use Rattle.steps.proofs.Theory.Sound.{step_sound}

-- the newest call, among the calls alone
pub newest_call : {E : Type 0} (owner : E → ℕ) (n : ℕ) (es : List (Entry E)) (x : E)
    (rest : List (Entry E)) → IsNewestCall owner n es x rest →
    IsNewest owner n (calls es) x (calls rest)
newest_call owner n es x rest new = record {
  before = calls new.before;
  after = calls new.after;
  is = ap calls new.is ∙ calls_append new.before (Asked x ∷ new.after);
  rest_is = ap calls new.rest_is ∙ calls_append new.before new.after;
  mine = new.mine;
  none_newer = new.none_newer;
}

module _ {S E M N : Type 0} {rules : Rules S E M N} (laws : RuleLaws rules) where
  -- what is made moves before all calls
  make_first : (xs : List E) (k : M) (s t u : S) → AllByRecursion rules.asked xs →
      Leads rules.does xs s t → rules.makes t k u →
      (v : S) × rules.makes s k v × Leads rules.does xs v u
  make_first [] k s t u ask w m = (u, subst (λ v. rules.makes v k u) (sym w) m, refl)
  make_first (x ∷ xs) k s t u ask w m =
      let r = make_first xs k w.0 t u ask.1 w.2 m in
      let q = laws.made_left x k s w.0 r.0 ask.0 w.1 r.1 in
      (q.0, q.1, (r.0, q.2, r.2))

  pub newest_asked : (s : State S E N) (n : ℕ) (x : E) (rest : List (Entry E)) → IsSound rules s →
      IsNewestCall rules.owner n s.entries x rest → rules.asked x
  newest_asked s n x rest sound new =
      (each_back rules.asked (calls new.before) (x ∷ calls new.after)
      (subst (AllByRecursion rules.asked)
      (ap calls new.is ∙ calls_append new.before (Asked x ∷ new.after)) sound.asked)).0

  step_goes : (r : Record E M) (s t : State S E N) (c : S) → IsSound rules s → IsSettled rules s c →
      Steps rules s r t → (d : S) × Serial rules (commits rules.owner s.entries r) c d ×
      IsSettled rules t d
  step_goes (Make k) s t c sound w row =
      let r = make_first (calls s.entries) k c s.now row.next sound.asked w row.makes in
      (r.0, (r.0, r.1, refl), subst (λ v. IsSettled rules v r.0) (sym row.is) r.2)
  step_goes (Begin n) s t c sound w row = (c, refl, subst (λ v. IsSettled rules v c) (sym row.is) w)
  step_goes (Call x) s t c sound w row = (
    c,
    refl,
    subst (λ v. IsSettled rules v c) (sym row.is)
        (subst (λ l. Leads rules.does l c row.next) (sym (calls_append s.entries (Asked x ∷ [])))
        (Leads-push rules.does (calls s.entries) x c s.now row.next w row.does)),
  )
  step_goes (Later d) s t c sound w row = (
    c,
    refl,
    subst (λ v. IsSettled rules v c) (sym row.is)
        (subst (λ l. Leads rules.does l c s.now)
        (sym (calls_append s.entries (Deferred d ∷ []) ∙ append-nil (calls s.entries))) w),
  )
  step_goes (Commit n) s t c sound w row =
      let r = settled_commit laws.calls rules.owner n (calls s.entries)
      (laters_of rules n s.entries) c s.now row.next sound.asked
      (calls_apart laws s.entries sound.apart) (laters_late laws s sound n)
      (laters_away laws n s.entries sound.apart) w row.does in (
        r.1,
        (
          r.1,
          (
            r.0,
            subst (λ l. Leads rules.does l c r.0)
                (sym (calls_filter (λ a. rules.owner a == n) s.entries)) r.2,
            r.3,
          ),
          refl,
        ),
        subst (λ v. IsSettled rules v r.1) (sym row.is)
            (subst (λ l. Leads rules.does l r.1 row.next)
            (sym (calls_filter (λ a. not (rules.owner a == n)) s.entries)) r.4),
      )
  step_goes (Back n) s t c sound w row = (
    c,
    refl,
    subst (λ v. IsSettled rules v c) (sym row.is)
        (settled_back laws.calls rules.owner n (calls s.entries) row.call (calls row.rest) c s.now
        row.next sound.asked (newest_asked s n row.call row.rest sound row.newest)
        (calls_apart laws s.entries sound.apart)
        (newest_call rules.owner n s.entries row.call row.rest row.newest) w row.undoes),
  )
  step_goes (Ended n) s t c sound w row = (
    c,
    refl,
    subst (λ v. IsSettled rules v c) (sym row.is)
        (subst (λ l. Leads rules.does l c s.now)
        (sym (calls_filter (λ a. not (rules.owner a == n)) s.entries ∙
        none_others rules.owner n (calls s.entries) row.undone)) w),
  )

  pub step_settles : StepSettles rules
  step_settles r s t c sound w row =
      (step_sound laws r s t sound row, step_goes r s t c sound w row)

  pub settles_once : SettlesOnce rules
  settles_once s c d sound w v = settled_unique laws.calls rules.owner (calls s.entries) c d s.now
      sound.asked w v

  -- what a number that is not live asked for
  not_alive : (s : State S E N) (n : ℕ) → IsSound rules s → Lacks s.live n →
      own (asker rules.owner) n s.entries ≡ []
  not_alive s n sound fresh = none_own (asker rules.owner) n s.entries
      (weaker (λ e. Has s.live (rules.owner (event e))) _
      (λ e h same. fresh (subst (Has s.live) same h)) s.entries sound.alive)

  push_tells : (es : List (Entry E)) (s : State S E N) (e : Entry E) (n : ℕ) →
      own (asker rules.owner) n es ≡ own (asker rules.owner) n s.entries →
      own (asker rules.owner) n (es ++ e ∷ []) ≡ own (asker rules.owner) n (s.entries ++ e ∷ [])
  push_tells es s e n h =
      filter-append (λ e. asker rules.owner e == n) es (e ∷ []) ∙
      ap (λ l. l ++ own (asker rules.owner) n (e ∷ [])) h ∙
      sym (filter-append (λ e. asker rules.owner e == n) s.entries (e ∷ []))

  ended_tells : (es : List (Entry E)) (s : State S E N) (n : ℕ) (now : S) → Tells rules.owner es s →
      Tells rules.owner es (ended_at rules now n s)
  ended_tells es s n now tells k live run =
      let l = without_has n s.live k live in
      tells k l.0 (λ f. run (has_without n s.falling k f l.1)) ∙
      sym (own_others_other (asker rules.owner) n k s.entries l.1)

  pub step_tells : (r : Record E M) (es : List (Entry E)) (s t : State S E N) → IsSound rules s →
      Tells rules.owner es s → Steps rules s r t → Tells rules.owner (gather rules.owner es r) t
  step_tells (Make k) es s t sound tells row = subst (Tells rules.owner es) (sym row.is) tells
  step_tells (Begin n) es s t sound tells row =
      subst (Tells rules.owner (others (asker rules.owner) n es)) (sym row.is)
      (λ k live run. ⊎_elim
      (λ (same : k ≡ n). subst (λ v. own (asker rules.owner) v (others (asker rules.owner) n es) ≡
      own (asker rules.owner) v s.entries) (sym same)
      (own_others_same (asker rules.owner) n es ∙ sym (not_alive s n sound row.fresh)))
      (λ (other : k ≡ n → ⊥). own_others_other (asker rules.owner) n k es other ∙
      tells k (⊎_elim (λ (e : n ≡ k). absurd (other (sym e))) (λ l. l) live) run)
      (cases_eq k n))
  step_tells (Call x) es s t sound tells row =
      subst (Tells rules.owner (es ++ Asked x ∷ [])) (sym row.is)
      (λ k live run. push_tells es s (Asked x) k (tells k live run))
  step_tells (Later d) es s t sound tells row =
      subst (Tells rules.owner (es ++ Deferred d ∷ [])) (sym row.is)
      (λ k live run. push_tells es s (Deferred d) k (tells k live run))
  step_tells (Commit n) es s t sound tells row =
      subst (Tells rules.owner es) (sym row.is) (ended_tells es s n row.next tells)
  step_tells (Back n) es s t sound tells row =
      subst (Tells rules.owner es) (sym row.is)
      (λ k live run.
      tells k live (λ f. run (inr f))
      ∙ ap (own (asker rules.owner) k) row.newest.is
      ∙ own_without (asker rules.owner) k row.newest.before (Asked row.call) row.newest.after
      (λ same. run (inl (sym row.newest.mine ∙ same)))
      ∙ ap (own (asker rules.owner) k) (sym row.newest.rest_is))
  step_tells (Ended n) es s t sound tells row =
      subst (Tells rules.owner es) (sym row.is) (ended_tells es s n s.now tells)

  -- a record commits what the gathered entries tell
  pub step_commits : (r : Record E M) (es : List (Entry E)) (s t : State S E N) →
      Tells rules.owner es s → Steps rules s r t →
      commits rules.owner s.entries r ≡ commits rules.owner es r
  step_commits (Make k) es s t tells row = refl
  step_commits (Begin n) es s t tells row = refl
  step_commits (Call x) es s t tells row = refl
  step_commits (Later d) es s t tells row = refl
  step_commits (Commit n) es s t tells row =
      ap (λ l. Whole l ∷ []) (sym (tells n row.live row.running))
  step_commits (Back n) es s t tells row = refl
  step_commits (Ended n) es s t tells row = refl

  pub history_is_serial : HistoryIsSerial rules
  history_is_serial [] es s t c sound tells w run = (
    subst (IsSound rules) run sound,
    subst (Tells rules.owner es) run tells,
    (c, refl, subst (λ v. IsSettled rules v c) run w),
  )
  history_is_serial (r ∷ rs) es s t c sound tells w run =
      let one = step_settles r s run.0 c sound w run.1 in
      let more = history_is_serial rs (gather rules.owner es r) run.0 t one.1.0 one.0
      (step_tells r es s run.0 sound tells run.1) one.1.2 run.2 in (
        more.0,
        more.1,
        (
          more.2.0,
          Leads-append (RunsWhole rules) (commits rules.owner es r)
              (committed rules.owner (gather rules.owner es r) rs) c one.1.0 more.2.0
              (subst (λ l. Serial rules l c one.1.0) (step_commits r es s run.0 tells run.1)
              one.1.1)
              more.2.1,
          more.2.2,
        ),
      )

  -- the end of a run is exact
  leads_exact : (xs : List E) (s t u : S) → Leads rules.does xs s t → Leads rules.does xs s u →
      t ≡ u
  leads_exact [] s t u w v = sym w ∙ v
  leads_exact (x ∷ xs) s t u w v =
      leads_exact xs w.0 t u w.2 (subst (λ m. Leads rules.does xs m u)
      (laws.exact x s v.0 w.0 v.1 w.1) v.2)

  whole_exact : (k : Transaction E M) (s t u : S) → RunsWhole rules s k t → RunsWhole rules s k u →
      t ≡ u
  whole_exact (Whole es) s t u w v =
      leads_exact (laters rules.leaves es) w.0 t u w.2
      (subst (λ m. Leads rules.does (laters rules.leaves es) m u)
      (leads_exact (calls es) s v.0 w.0 v.1 w.1) v.2)
  whole_exact (Made k) s t u w v = laws.made_exact k s t u w v

  serial_exact : (ks : List (Transaction E M)) (s t u : S) → Serial rules ks s t →
      Serial rules ks s u → t ≡ u
  serial_exact [] s t u w v = sym w ∙ v
  serial_exact (k ∷ ks) s t u w v =
      serial_exact ks w.0 t u w.2 (subst (λ m. Serial rules ks m u)
      (whole_exact k s v.0 w.0 v.1 w.1) v.2)

  pub stands_for_one : StandsForOne rules
  stands_for_one s t rs sound settled run =
      let h = history_is_serial rs s.entries s t settled.0 sound (λ n live go. refl) settled.1
      run in (
        h.2.0,
        (settled.0, settled.1, h.2.1),
        h.2.2,
        (λ d (stands : StandsFor rules s.now s.entries rs d).
            serial_exact (committed rules.owner s.entries rs) settled.0 d h.2.0
            (subst (λ v. Serial rules (committed rules.owner s.entries rs) v d)
            (settled_unique laws.calls rules.owner (calls s.entries) stands.0 settled.0 s.now
            sound.asked stands.1 settled.1) stands.2) h.2.1),
      )

  pub commits_run : CommitsRun rules
  commits_run s c n sound w live run =
      let r = commit_runs laws s sound n c w in (
        ended_at rules r.0 n s,
        record {
          live =
              live;
          running = run;
          next = r.0;
          does = r.1;
          is = refl;
        },
      )

pub beginnings_commit : {S E M N : Type 0} (rules : Rules S E M N) → BeginningsCommit rules
beginnings_commit rules [] more es = refl
beginnings_commit rules (r ∷ rs) more es =
    ap (λ l. commits rules.owner es r ++ l)
    (beginnings_commit rules rs more (gather rules.owner es r)) ∙
    sym (append_assoc (commits rules.owner es r) _ _)

pub places_count : {S E M N : Type 0} (rules : Rules S E M N) → PlacesCount rules
places_count rules [] es = refl
places_count rules (Make k ∷ rs) es = ap suc (places_count rules rs es)
places_count rules (Commit n ∷ rs) es = ap suc (places_count rules rs es)
places_count rules (Begin n ∷ rs) es = places_count rules rs (others (asker rules.owner) n es)
places_count rules (Call x ∷ rs) es = places_count rules rs (es ++ Asked x ∷ [])
places_count rules (Later d ∷ rs) es = places_count rules rs (es ++ Deferred d ∷ [])
places_count rules (Back n ∷ rs) es = places_count rules rs es
places_count rules (Ended n ∷ rs) es = places_count rules rs es
