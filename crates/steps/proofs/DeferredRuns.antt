-- What was deferred runs, one entry after another.
use Rattle.boosted.specs.Laws.{BoostedLaws}
use Rattle.std.proofs.Common.{◌≡◌, ℕ, ◌+◌, ◌<◌, ◌≤◌, ◌^◌, List, []}
use Rattle.std.proofs.Common.{◌∷◌, ◌++◌, length, map, get_or, drop, refl, sym, ◌∙◌, ap, subst}
use Rattle.std.proofs.Common.{arith, append-nil, ◌%◌, ◌==◌, cond, eq-eqb}
use Rattle.std.proofs.Common.{Option, Some, None}
use mathlib.Core.Logic.{dite}
use native.Mathlib.Decide.{ℕ_discrete}
use Rattle.std.proofs.lemmas.List.{drop_more, drop_all, length-append}
use Rattle.std.proofs.lemmas.List.Elements.{filter-append}
use Rattle.calls.specs.declared.call.Call.{Call}
use Rattle.calls.specs.declared.reply.Reply.{Reply}
use Rattle.calls.specs.Rules.{Disposable, left_by}
use Rattle.calls.specs.Transactions.{Event, Entry, Asked, Deferred, Leads, laters_of}
use Rattle.undo_log.specs.declared.logged.Stamped.{Stamped}
use Rattle.undo_log.specs.Entries.{stamped_entry}
use Rattle.boosted.proofs.Runs.{Leads-append, Leads-split}
use Rattle.boosted.proofs.Each.{each_front, each_back}
use Rattle.boosted.specs.Meaning.{Meaning}
use Rattle.steps.specs.Shelves.{Does, CanRun, on_quarter, of_quarter, IsOutside}

decided : (m n : ℕ) → ((m ≡ n → ⊥) → ⊥) → m ≡ n
decided m n twice = dite (ℕ_discrete m n) (λ same. same) (λ other. absurd (twice other))

-- a later, as transactions are told
abbrev pub later : (at : ℕ) → Call → Event
later at c = record { at = at; call = c; reply = Reply.Done }

first_laters : (e : Entry) (es : List Entry) →
    laters_of (e ∷ es) ≡ laters_of (e ∷ []) ++ laters_of es
first_laters (Asked e) es = ap (λ l. l ++ laters_of es)
    (sym (append-nil (map (later e.at) (left_by e.call e.reply))))
first_laters (Deferred at c) es = refl

quarter_append : (q : Option ℕ) (es fs : List Event) →
    of_quarter q (es ++ fs) ≡ of_quarter q es ++ of_quarter q fs
quarter_append None es fs = refl
quarter_append (Some q) es fs = filter-append (λ (e : Event). e.at % 4 == q) es fs

quarter_none : (q : Option ℕ) → of_quarter q [] ≡ []
quarter_none None = refl
quarter_none (Some q) = refl

-- ---- what one entry defers is of its quarter

inside_all : (at q : ℕ) → at % 4 ≡ q → (cs : List Call) →
    on_quarter q (map (later at) cs ++ []) ≡ map (later at) cs ++ []
inside_all at q same [] = refl
inside_all at q same (c ∷ cs) =
    ap (λ b. cond b (later at c ∷ on_quarter q (map (later at) cs ++ []))
    (on_quarter q (map (later at) cs ++ []))) (eq-eqb (at % 4) q same) ∙
    ap (λ l. later at c ∷ l) (inside_all at q same cs)

-- all of it, or nothing
pub deferred_inside : (q : Option ℕ) (e : Entry) → (IsOutside q e → ⊥) →
    of_quarter q (laters_of (e ∷ [])) ≡ laters_of (e ∷ [])
deferred_inside None e here = refl
deferred_inside (Some q) (Asked e) here = inside_all e.at q
    (decided (e.at % 4) q here) (left_by e.call e.reply)
deferred_inside (Some q) (Deferred at c) here = inside_all at q (decided (at % 4) q here) (c ∷ [])

-- what these entries deferred, of a quarter or all
abbrev pub deferred : Option ℕ → List Stamped → List Event
deferred q ss = of_quarter q (laters_of (map stamped_entry ss))

module _ (q : Option ℕ) (ss : List Stamped) (i : ℕ) (s : Stamped) (below : i < length ss)
    (is : s ≡ get_or ss i s) where
  abbrev pub ones : List Event
  ones = of_quarter q (laters_of (stamped_entry s ∷ []))

  pub next : deferred q (drop i ss) ≡ ones ++ deferred q (drop (i + 1) ss)
  next = ap (deferred q) (drop_more ss i s below ∙ ap (λ v. v ∷ drop (i + 1) ss) (sym is))
      ∙ ap (of_quarter q) (first_laters (stamped_entry s) (map stamped_entry (drop (i + 1) ss)))
      ∙ quarter_append q (laters_of (stamped_entry s ∷ []))
      (laters_of (map stamped_entry (drop (i + 1) ss)))

module _ {S : Type 0} (meaning : Meaning S ℕ) where
  -- Calls one after another have one end.
  pub leads_once : (es : List Event) (c s t : S) → Leads (Does meaning) es c s →
      Leads (Does meaning) es c t → s ≡ t
  leads_once [] c s t w v = sym w ∙ v
  leads_once (e ∷ es) c s t w v =
      leads_once es w.0 s t w.2 (subst (λ m. Leads (Does meaning) es m t) (v.1.1 ∙ sym w.1.1) v.2)

  -- So far the entries before the place ran: where the others lead, all lead from the start.
  pub record IsRunningSo (q : Option ℕ) (ss : List Stamped) (start : S) (i : ℕ) (now : S)
      (ran : ℕ) : Type 0 where
    pub can : CanRun meaning (deferred q (drop i ss)) now
    pub leads : (t : S) → Leads (Does meaning) (deferred q (drop i ss)) now t →
        Leads (Does meaning) (deferred q ss) start t
    pub count : ran + length (deferred q (drop i ss)) ≡ length (deferred q ss)
    pub few : length (deferred q ss) ≤ 2 ^ 61 + 65536

  module _ (laws : BoostedLaws meaning) where
    abbrev Can : List Event → S → Type 0
    Can es s = CanRun meaning es s

    pub run_within : (es : List Event) (s t : S) (n : ℕ) → Leads (Does meaning) es s t →
        meaning.within s n → meaning.within t (n + length es)
    run_within [] s t n runs reached =
        subst (meaning.within t) (omega arith) (subst (λ v. meaning.within v n) runs reached)
    run_within (e ∷ es) s t n runs reached =
        subst (meaning.within t) (omega arith)
        (run_within es runs.0 t (n + 1) runs.2
        (subst (λ v. meaning.within v (n + 1)) (sym runs.1.1)
        ((laws.holds s).wears n e.at e.call e.reply reached runs.1.0)))

    -- the first of them can run,
    can_first : (es fs : List Event) (s : S) → Can (es ++ fs) s → Can es s
    can_first es fs s can =
        let parts = Leads-split (Does meaning) es fs s can.next can.runs in
        let all = length-append es fs in
        let room = can.room in
        record {
          next = parts.0;
          runs = parts.1;
          late = each_front (λ e. Disposable e.call) es fs can.late;
          wear = can.wear;
          reached = can.reached;
          room = omega arith;
        }

    -- and the others behind them
    can_rest : (es fs : List Event) (s t : S) → Can (es ++ fs) s → Leads (Does meaning) es s t →
        Can fs t
    can_rest es fs s t can runs =
        let parts = Leads-split (Does meaning) es fs s can.next can.runs in
        let all = length-append es fs in
        let room = can.room in
        record {
          next = can.next;
          runs = subst (λ v. Leads (Does meaning) fs v can.next)
              (leads_once es s parts.0 t parts.1 runs) parts.2;
          late = each_back (λ e. Disposable e.call) es fs can.late;
          wear = can.wear + length es;
          reached = run_within es s t can.wear runs can.reached;
          room = omega arith;
        }

    module _ (q : Option ℕ) (ss : List Stamped) (start : S) where
      pub running_first : Can (deferred q ss) start → IsRunningSo q ss start 0 start 0
      running_first can = let room = can.room in
          record { can = can; leads = λ t w. w; count = omega arith; few = omega arith }

      module _ (i : ℕ) (s : Stamped) (below : i < length ss) (is : s ≡ get_or ss i s) (now : S)
          (ran : ℕ) (so : IsRunningSo q ss start i now ran) where
        abbrev these : List Event
        these = ones q ss i s below is

        split : Can (these ++ deferred q (drop (i + 1) ss)) now
        split = subst (λ l. Can l now) (next q ss i s below is) so.can

        -- what an entry deferred can run,
        pub running_can : Can these now
        running_can = can_first these (deferred q (drop (i + 1) ss)) now split

        -- can be counted,
        pub running_fits : ran + length these ≤ 2 ^ 61 + 65536
        running_fits =
            let size = ap length (next q ss i s below is) ∙
            length-append these (deferred q (drop (i + 1) ss)) in
            let count = so.count in
            let few = so.few in
            omega arith

        -- and ran
        pub running_more : (more : S) → Leads (Does meaning) these now more →
            IsRunningSo q ss start (i + 1) more (ran + length these)
        running_more more runs =
            let same = next q ss i s below is in
            let size = ap length same ∙ length-append these (deferred q (drop (i + 1) ss)) in
            let count = so.count in
            record {
              can = can_rest these (deferred q (drop (i + 1) ss)) now more split runs;
              leads = λ t w. so.leads t (subst (λ l. Leads (Does meaning) l now t) (sym same)
                  (Leads-append (Does meaning) these (deferred q (drop (i + 1) ss)) now more t runs
                  w));
              count = omega arith;
              few = so.few;
            }

      -- all ran
      pub running_end : (i : ℕ) (now : S) (ran : ℕ) → length ss ≤ i →
          IsRunningSo q ss start i now ran →
          Leads (Does meaning) (deferred q ss) start now × (ran ≡ length (deferred q ss))
      running_end i now ran past so =
          let none : deferred q (drop i ss) ≡ [] = ap (deferred q) (drop_all i ss past) ∙
          quarter_none q in
          let size = ap length none in
          let count = so.count in
          (so.leads now (subst (λ l. Leads (Does meaning) l now now) (sym none) refl), omega arith)
