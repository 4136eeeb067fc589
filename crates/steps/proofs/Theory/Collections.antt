-- Collections at their places keep the laws of the rules.
use Rattle.std.proofs.Common.{◌≡◌, ◌≤◌, ℕ, Option, Some, None, MatchOption, ◌⊎◌, inl, inr, ⊎_elim}
use Rattle.std.proofs.Common.{List, [], ◌∷◌, length, refl, sym, ◌∙◌, ap, subst, arith}
use Rattle.std.specs.List.{AllByRecursion}
use Rattle.std.proofs.lemmas.List.{length-map}
use Rattle.calls.specs.declared.kind.Kind.{Kind}
use Rattle.calls.specs.declared.call.Call.{Call}
use Rattle.calls.specs.declared.reply.Reply.{Reply}
use Rattle.calls.specs.Rules.{left_by, Conflict, Disposable, need_of, inverse_of}
use Rattle.calls.specs.Transactions.{Event}
use Rattle.calls.proofs.Conflicts.{conflict_turn}
use Rattle.calls.proofs.KindLaws.{deferrable_disposable, deferred_is_other, leaves_one}
use Rattle.calls.proofs.KindLaws.{leaves_disposable, leaves_need}
use Rattle.abstract_locks.specs.declared.table.Hold.{Hold}
use Rattle.abstract_locks.specs.Holds.{hold}
use Rattle.boosted.specs.Runs.{Ready, IsOther}
use Rattle.boosted.proofs.Each.{weaker}
use Rattle.boosted.specs.Meaning.{Does, Meaning}
use Rattle.steps.specs.Theory.Rules.{Rules, RuleLaws, Apart, AllDiffer}
use Rattle.steps.specs.Theory.Collections.{later_of, collection_rules}
use Rattle.steps.proofs.Theory.Lists.{each_map}
use Rattle.boosted.specs.Laws.{BoostedLaws}
use Rattle.catalog.specs.Making.{Making, MakingLaws}

same_event : (b d : ℕ × Event) → b.0 ≡ d.0 → b.1.at ≡ d.1.at → b.1.call ≡ d.1.call →
    b.1.reply ≡ d.1.reply → b ≡ d
same_event b d o i c r =
    ap (λ (v : ℕ). let e : ℕ × Event = (v, b.1) in e) o
    ∙ ap (λ (v : ℕ). let e : ℕ × Event =
    (d.0, record { at = v; call = b.1.call; reply = b.1.reply }) in e) i
    ∙ ap (λ (v : Call). let e : ℕ × Event =
    (d.0, record { at = d.1.at; call = v; reply = b.1.reply }) in e) c
    ∙ ap (λ (v : Reply). let e : ℕ × Event =
    (d.0, record { at = d.1.at; call = d.1.call; reply = v }) in e) r

one_differs : {X : Type 0} (xs : List X) → length xs ≤ 1 → AllDiffer xs
one_differs [] h = tt
one_differs (x ∷ []) h = (λ k. k, tt)
one_differs (x ∷ y ∷ xs) h = absurd (omega arith)

module _ {S : Type 0} {meaning : Meaning S ℕ} {making : Making S}
    (laws : BoostedLaws meaning) (makings : MakingLaws meaning making) where
  abbrev rules : Rules S (ℕ × Event) (List ℕ × Kind) Hold
  rules = collection_rules meaning making

  ready : (s : S) (e : ℕ × Event) → meaning.answers s e.1.at e.1.call e.1.reply →
      Ready rules.does s e
  ready s e h = (meaning.leaves s e.1.at e.1.call e.1.reply, (h, refl))

  -- what holds of the calls that a call leaves holds of its laters
  each_left : (P : Call → Type 0) (Q : ℕ × Event → Type 0) (a : ℕ × Event) →
      AllByRecursion P (left_by a.1.call a.1.reply) → ((c : Call) → P c → Q (later_of a c)) →
      AllByRecursion Q (rules.leaves a)
  each_left P Q a h f = each_map (later_of a) Q (left_by a.1.call a.1.reply)
      (weaker P (λ c. Q (later_of a c)) f (left_by a.1.call a.1.reply) h)

  left_ready : (a : ℕ × Event) (s t : S) → rules.does s a t →
      AllByRecursion (Ready rules.does t) (rules.leaves a)
  left_ready a s t step =
      each_left (λ d. meaning.answers (meaning.leaves s a.1.at a.1.call a.1.reply) a.1.at d
      Reply.Done) (Ready rules.does t) a
      ((laws.holds s).leaves_ready a.1.at a.1.call a.1.reply step.0)
      (λ c h. ready t (later_of a c) (subst (λ v. meaning.answers v a.1.at c Reply.Done)
      (sym step.1) h))

  past_call : (a d : ℕ × Event) (s t : S) → rules.asked a → rules.late d → rules.does s a t →
      Ready rules.does s d → Ready rules.does t d
  past_call a d s t ask late step r =
      let done : meaning.answers (meaning.leaves s a.1.at a.1.call a.1.reply) d.1.at d.1.call
      Reply.Done =
      (laws.holds s).stays_past_calls a.1.at d.1.at a.1.call a.1.reply d.1.call ask late.0 step.0
      (subst (meaning.answers s d.1.at d.1.call) late.1 r.1.0) in
      ready t d (subst (λ v. meaning.answers v d.1.at d.1.call d.1.reply) (sym step.1)
      (subst (meaning.answers (meaning.leaves s a.1.at a.1.call a.1.reply) d.1.at d.1.call)
      (sym late.1) done))

  -- two laters of one owner at one place: their calls differ, or their needs do not conflict
  other_calls : (b d : ℕ × Event) → b.0 ≡ d.0 → b.1.reply ≡ Reply.Done → d.1.reply ≡ Reply.Done →
      IsOther (Apart rules) b d → b.1.at ≡ d.1.at →
      (b.1.call ≡ d.1.call → ⊥) ⊎ (Conflict (need_of b.1.call Reply.Done)
      (need_of d.1.call Reply.Done) → ⊥)
  other_calls b d o p q other i =
      ⊎_elim
      (λ (k : b ≡ d → ⊥). inl (λ (c : b.1.call ≡ d.1.call). k (same_event b d o i c (p ∙ sym q))))
      (λ (k : Apart rules b d). inr (subst
      (λ r. Conflict (need_of b.1.call r) (need_of d.1.call Reply.Done) → ⊥) p
      (subst (λ r. Conflict (need_of b.1.call b.1.reply) (need_of d.1.call r) → ⊥) q (k i))))
      other

  past_later : (b d : ℕ × Event) (s t : S) → b.0 ≡ d.0 → rules.late b → rules.late d →
      IsOther (Apart rules) b d → rules.does s b t → Ready rules.does s d → Ready rules.does t d
  past_later b d s t o lb ld other step r =
      let done : meaning.answers (meaning.leaves s b.1.at b.1.call Reply.Done) d.1.at d.1.call
      Reply.Done =
      (laws.holds s).stays_past_laters b.1.at d.1.at b.1.call d.1.call lb.0 ld.0
      (other_calls b d o lb.1 ld.1 other)
      (subst (meaning.answers s b.1.at b.1.call) lb.1 step.0)
      (subst (meaning.answers s d.1.at d.1.call) ld.1 r.1.0) in
      let after_b : t ≡ meaning.leaves s b.1.at b.1.call Reply.Done =
      step.1 ∙ ap (meaning.leaves s b.1.at b.1.call) lb.1 in
      ready t d (subst (λ v. meaning.answers v d.1.at d.1.call d.1.reply) (sym after_b)
      (subst (meaning.answers (meaning.leaves s b.1.at b.1.call Reply.Done) d.1.at d.1.call)
      (sym ld.1) done))

  -- what a client deferred stays ready past every call
  deferred_kept : (s t : S) (at : ℕ) (c : Call) (r : Reply) (d : ℕ × Event) → rules.deferred d →
      Does meaning s at c r t → Ready rules.does s d → Ready rules.does t d
  deferred_kept s t at c r d put step k =
      let done : meaning.answers (meaning.leaves s at c r) d.1.at d.1.call Reply.Done =
      (laws.holds s).deferred_stays_ready at d.1.at c r d.1.call put.0 step.0
      (subst (meaning.answers s d.1.at d.1.call) put.1 k.1.0) in
      ready t d (subst (λ v. meaning.answers v d.1.at d.1.call d.1.reply) (sym step.1)
      (subst (meaning.answers (meaning.leaves s at c r) d.1.at d.1.call) (sym put.1) done))

  undone_kept : (back : Option Call) (at : ℕ) (d : ℕ × Event) (s t : S) → rules.deferred d →
      MatchOption back (t ≡ s) (λ c. (r : Reply) × Does meaning s at c r t) → Ready rules.does s d →
      Ready rules.does t d
  undone_kept None at d s t put h k = subst (λ v. Ready rules.does v d) (sym h) k
  undone_kept (Some c) at d s t put h k = deferred_kept s t at c h.0 d put h.1 k

  made_kept : (k : List ℕ × Kind) (d : ℕ × Event) (s t : S) → rules.deferred d →
      making.makes s k.0 k.1 t → Ready rules.does s d → Ready rules.does t d
  made_kept k d s t put made r =
      let done : meaning.answers t d.1.at d.1.call Reply.Done =
      makings.makes_keep_deferred s t k.0 k.1 d.1.at d.1.call made put.0
      (subst (meaning.answers s d.1.at d.1.call) put.1 r.1.0) in
      ready t d (subst (meaning.answers t d.1.at d.1.call) (sym put.1) done)

  put_other : (b d : ℕ × Event) → rules.late b → rules.deferred d →
      IsOther (Apart rules) b d × IsOther (Apart rules) d b
  put_other b d late put =
      let other : (b.1.call ≡ d.1.call → ⊥) ⊎
      (Conflict (need_of b.1.call b.1.reply) (need_of d.1.call d.1.reply) → ⊥) =
      subst (λ r. (b.1.call ≡ d.1.call → ⊥) ⊎
      (Conflict (need_of b.1.call r) (need_of d.1.call d.1.reply) → ⊥)) (sym late.1)
      (subst (λ r. (b.1.call ≡ d.1.call → ⊥) ⊎
      (Conflict (need_of b.1.call Reply.Done) (need_of d.1.call r) → ⊥)) (sym put.1)
      (deferred_is_other b.1.call d.1.call late.0 put.0)) in
      let there : IsOther (Apart rules) b d =
      ⊎_elim (λ (k : b.1.call ≡ d.1.call → ⊥). inl (λ e. k (ap (λ v. v.1.call) e)))
      (λ (k : Conflict (need_of b.1.call b.1.reply) (need_of d.1.call d.1.reply) → ⊥). inr
      (λ same. k)) other in
      let back : IsOther (Apart rules) d b =
      ⊎_elim (λ (k : b.1.call ≡ d.1.call → ⊥). inl (λ e. k (sym (ap (λ v. v.1.call) e))))
      (λ (k : Conflict (need_of b.1.call b.1.reply) (need_of d.1.call d.1.reply) → ⊥). inr
      (λ same c. k (conflict_turn (need_of d.1.call d.1.reply) (need_of b.1.call b.1.reply) c)))
      other in
      (there, back)

  pub collection_laws : RuleLaws rules
  collection_laws = record {
    calls = record {
      inverse = λ e s t ask step. ((laws.holds s).goes_back t e.1.at e.1.call e.1.reply ask step).0;
      inverse_only = λ e s t u ask step undo.
          ((laws.holds s).goes_back t e.1.at e.1.call e.1.reply ask step).1 u undo;
      commute = λ a b ask also apart s m t. (laws.holds s).commutes a.1.at b.1.at a.1.call a.1.reply
          b.1.call b.1.reply ask also apart m t;
      moves_left = λ a b ask late apart s m t. (laws.holds s).moves_left a.1.at b.1.at a.1.call
          a.1.reply b.1.call b.1.reply ask late.0 apart m t;
    };
    exact = λ e s t u d k. d.1 ∙ sym k.1;
    reads_same = λ e s t is step. sym
        (step.1 ∙ (laws.holds s).reads_leave e.1.at e.1.call e.1.reply is step.0);
    made_exact = λ k s t u d e. makings.makes_one s t u k.0 k.1 d e;
    made_left = λ a k s t u ask step made. makings.makes_before_calls s t u k.0 k.1 a.1.at a.1.call
        a.1.reply step made;
    turn = λ h k apart same conflict. apart (sym same) (conflict_turn k.need h.need conflict);
    held = λ e. refl;
    left_late = λ a ask. each_left Disposable rules.late a (leaves_disposable a.1.call a.1.reply)
        (λ c h. (h, refl));
    left_need = λ a. each_left (λ c. need_of c Reply.Done ≡ need_of a.1.call a.1.reply)
        (λ d. rules.need d ≡ rules.need a) a (leaves_need a.1.call a.1.reply)
        (λ c h. ap (hold a.0 a.1.at) h);
    left_differ = λ a. one_differs (rules.leaves a)
        (subst (λ n. n ≤ 1) (sym (length-map (left_by a.1.call a.1.reply) (later_of a)))
        (leaves_one a.1.call a.1.reply));
    left_ready = λ a s t ask step. left_ready a s t step;
    past_call = past_call;
    past_later = past_later;
    put_late = λ d put. (deferrable_disposable d.1.call put.0, put.1);
    put_other = put_other;
    put_past_later = λ b d s t late put step r. deferred_kept s t b.1.at b.1.call b.1.reply d put
        step r;
    put_past_undo = λ a d s t ask put undo r. undone_kept (inverse_of a.1.call a.1.reply) a.1.at d s
        t put undo r;
    put_past_made = λ k d s t put made r. made_kept k d s t put made r;
  }
