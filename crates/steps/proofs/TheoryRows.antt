-- Each row of the machine is a row of the theory's machine.
use Rattle.std.proofs.Common.{◌≡◌, ℕ, ◌==◌, not, ◌⊎◌, inl, inr, ⊎_elim, true, false, List}
use Rattle.std.proofs.Common.{[], ◌∷◌, ◌++◌, refl, sym, ◌∙◌, ap, subst}
use Rattle.std.specs.Prelude.{◌↔◌, Contains}
use Rattle.std.specs.List.{filter, AllByRecursion}
use Rattle.std.specs.FinMap as maps
use Rattle.std.proofs.lemmas.List.{map-append}
use Rattle.std.proofs.lemmas.List.Elements.{All-contains}
use Rattle.calls.specs.declared.kind.Kind.{Kind}
use Rattle.calls.specs.declared.call.Call.{Call}
use Rattle.calls.specs.declared.reply.Reply.{Reply}
use Rattle.calls.specs.declared.need.Need.{Need}
use Rattle.calls.specs.Rules.{Conflict, need_of}
use Rattle.calls.specs.Transactions.{Event, Asked, Deferred, Leads}
use Rattle.abstract_locks.specs.declared.table.Hold.{Hold}
use Rattle.abstract_locks.specs.Holds.{hold, Blocks, IsClear}
use Rattle.undo_log.specs.Logs.{Lives, Falls, fallen}
use Rattle.boosted.specs.Runs as runs
use Rattle.boosted.specs.Meaning as shape
use Rattle.boosted.proofs.Each.{differ, not_true}
use Rattle.steps.specs.Machine.{State, Does, IsLeft, BeginRow, CommitRow, EndedRow, FallRow}
use Rattle.steps.specs.Machine.{MakeRow, CallRow, LaterRow, BackRow}
use Rattle.steps.specs.Theory.Rules.{Rules, Has, Lacks}
use Rattle.steps.specs.Theory.Journal as journal
use Rattle.steps.specs.Theory.Machine as theory
use Rattle.steps.specs.Theory.Images.{FallsRow}
use Rattle.steps.specs.Theory.Collections.{collection_rules}
use Rattle.steps.specs.Sound.{owned, all_owned, Shows}
use Rattle.steps.proofs.Theory.Lists.{every, filter_has, has_filter, has_left, has_right}
use Rattle.steps.proofs.Theory.Lists.{append_has, without_has, has_without, kept_true}
use Rattle.steps.proofs.LiveNumbers.{fallen_is, lives_more, falls_more, falls_fresh, lives_fewer}
use Rattle.steps.proofs.LiveNumbers.{falls_fewer}
use Rattle.steps.proofs.OwnedEntries.{owner, left, leads_back, laters_are, own_laters}
use Rattle.steps.proofs.OwnedEntries.{others_owned}
use Rattle.steps.proofs.OwnedEntries.{no_call, newest_call}
use Rattle.steps.proofs.LeftCalls.{left_once}
use Rattle.boosted.specs.Meaning.{Meaning}
use Rattle.catalog.specs.Making.{Making}

module _ {S : Type 0} (s : State S) (m : theory.State S (ℕ × Event) Hold) (shows : Shows s m)
    (n : ℕ) where
  -- one number more falls
  live_fallen : Lives s.live n → (k : ℕ) → Has m.live k ↔ Lives (fallen s.live n) k
  live_fallen live k = (
    λ h. subst (λ v. Lives v k) (sym (fallen_is s.live n live))
        ((lives_more s.live n true k).0 (inr ((shows.live k).0 h))),
    λ h. ⊎_elim
        (λ (same : n ≡ k). (shows.live k).1 (subst (Lives s.live) same live))
        (λ (l : Lives s.live k). (shows.live k).1 l)
        ((lives_more s.live n true k).1 (subst (λ v. Lives v k) (fallen_is s.live n live) h)),
  )

  falling_fallen : Lives s.live n → (k : ℕ) → Has (n ∷ m.falling) k ↔ Falls (fallen s.live n) k
  falling_fallen live k = (
    λ h. subst (λ v. Falls v k) (sym (fallen_is s.live n live))
        ((falls_more s.live n k).0 (⊎_elim inl
        (λ (f : Has m.falling k). inr ((shows.falling k).0 f)) h)),
    λ h. ⊎_elim inl (λ (f : Falls s.live k). inr ((shows.falling k).1 f))
        ((falls_more s.live n k).1 (subst (λ v. Falls v k) (fallen_is s.live n live) h)),
  )

  pub live_begun : (k : ℕ) → Has (n ∷ m.live) k ↔ Lives (maps.insert s.live n false) k
  live_begun k = (
    λ h. (lives_more s.live n false k).0
        (⊎_elim inl (λ (l : Has m.live k). inr ((shows.live k).0 l)) h),
    λ h. ⊎_elim inl (λ (l : Lives s.live k). inr ((shows.live k).1 l))
        ((lives_more s.live n false k).1 h),
  )

  pub falling_begun : (Lives s.live n → ⊥) → (k : ℕ) →
      Has m.falling k ↔ Falls (maps.insert s.live n false) k
  falling_begun fresh k = (
    λ h. (falls_fresh s.live n fresh k).0 ((shows.falling k).0 h),
    λ h. (shows.falling k).1 ((falls_fresh s.live n fresh k).1 h),
  )

  live_left : (k : ℕ) → Has (theory.without n m.live) k ↔ Lives (maps.remove s.live n) k
  live_left k = (
    λ h. let l = without_has n m.live k h in (lives_fewer s.live n k).0 ((shows.live k).0 l.0, l.1),
    λ h. let l = (lives_fewer s.live n k).1 h in has_without n m.live k ((shows.live k).1 l.0) l.1,
  )

  falling_left : (k : ℕ) → Has (theory.without n m.falling) k ↔ Falls (maps.remove s.live n) k
  falling_left k = (
    λ h. let l = without_has n m.falling k h in
        (falls_fewer s.live n k).0 ((shows.falling k).0 l.0, l.1),
    λ h. let l = (falls_fewer s.live n k).1 h in
        has_without n m.falling k ((shows.falling k).1 l.0) l.1,
  )

module _ {S : Type 0} (meaning : Meaning S ℕ) (making : Making S) where
  abbrev rules : Rules S (ℕ × Event) (List ℕ × Kind) Hold
  rules = collection_rules meaning making

  -- The theory's machine makes the step, to a state that is t.
  abbrev pub Follows : theory.State S (ℕ × Event) Hold →
      journal.Record (ℕ × Event) (List ℕ × Kind) → State S → Type 0
  Follows m r t = (k : theory.State S (ℕ × Event) Hold) × Shows t k × theory.Steps rules m r k

  module _ (s : State S) (m : theory.State S (ℕ × Event) Hold) (shows : Shows s m) where
    pub make_follows : (name : List ℕ) (kind : Kind) (t : State S) → MakeRow making s name kind t →
        Follows m (journal.Make (name, kind)) t
    make_follows name kind t row = subst (Follows m (journal.Make (name, kind))) (sym row.is) (
      record {
        now = row.next;
        entries = m.entries;
        live = m.live;
        falling = m.falling;
        needs = m.needs;
      },
      record {
        now = refl;
        entries = shows.entries;
        live = shows.live;
        falling = shows.falling;
        needs = shows.needs;
      },
      record {
        next = row.next;
        makes = subst (λ v. making.makes v name kind row.next)
            (sym shows.now) row.made;
        is = refl;
      },
    )

    pub begin_follows : (n : ℕ) (t : State S) → BeginRow s n t → Follows m (journal.Begin n) t
    begin_follows n t row = subst (Follows m (journal.Begin n)) (sym row.is) (
      record {
        now = m.now;
        entries = m.entries;
        live = n ∷ m.live;
        falling = m.falling;
        needs = m.needs;
      },
      record {
        now = shows.now;
        entries = shows.entries;
        live = live_begun s m shows n;
        falling = falling_begun s m shows n row.can.fresh;
        needs = shows.needs;
      },
      record { fresh = λ h. row.can.fresh ((shows.live n).0 h); is = refl },
    )

    pub needs_more : (holds : List Hold) (added : Hold) →
        ((h : Hold) → Contains holds h ↔ (Contains s.holds h ⊎ (h ≡ added))) → (h : Hold) →
        Has (m.needs ++ added ∷ []) h ↔ Contains holds h
    needs_more holds added more h = (
      λ i. ⊎_elim
          (λ (k : Has m.needs h). (more h).1 (inl ((shows.needs h).0 k)))
          (λ (k : Has (added ∷ []) h). ⊎_elim (λ (same : added ≡ h). (more h).1 (inr (sym same)))
          (λ (none : ⊥). absurd none) k)
          (append_has m.needs (added ∷ []) h i),
      λ i. ⊎_elim
          (λ (k : Contains s.holds h). has_left m.needs (added ∷ []) h ((shows.needs h).1 k))
          (λ (same : h ≡ added). has_right m.needs (added ∷ []) h (inl (sym same)))
          ((more h).0 i),
    )

    -- no need that another number holds is in the way
    pub clear_here : (n at : ℕ) (want : Need) → IsClear s.holds n at want →
        AllByRecursion (λ k. (k.owner ≡ n → ⊥) → k.at ≡ at → Conflict k.need want → ⊥) m.needs
    clear_here n at want clear = every _ m.needs
        (λ k held other same conflict. All-contains (λ h. Blocks n at want h → ⊥) s.holds k clear
        ((shows.needs k).0 held) (other, same, conflict))

    pub call_follows : (n : ℕ) (e : Event) (t : State S) → CallRow meaning s n e t →
        Follows m (journal.Call (n, e)) t
    call_follows n e t row =
        let added = hold n e.at (need_of e.call e.reply) in
        subst (Follows m (journal.Call (n, e))) (sym row.is) (
          record {
            now = meaning.leaves s.now e.at e.call e.reply;
            entries = m.entries ++ journal.Asked (n, e) ∷ [];
            live = m.live;
            falling = m.falling;
            needs = m.needs ++ added ∷ [];
          },
          record {
            now = refl;
            entries = ap (λ l. l ++ journal.Asked (n, e) ∷ []) shows.entries ∙
                sym (map-append (λ e. owned e.0 e.1) s.entries ((n, Asked e) ∷ []));
            live = shows.live;
            falling = shows.falling;
            needs = needs_more t.holds added row.holds;
          },
          record {
            live = (shows.live n).1 row.can.running.live;
            running = λ h. row.can.running.standing ((shows.falling n).0 h);
            asked = row.can.asked.1;
            clear = clear_here n e.at (need_of e.call e.reply) row.can.clear;
            once = subst (λ l. AllByRecursion (Lacks (theory.left_of rules n l)) (left (n, e)))
                (sym shows.entries) (left_once s.entries n e row.can.once);
            next = meaning.leaves s.now e.at e.call e.reply;
            does = subst (λ v. shape.Does meaning v e.at e.call e.reply
                (meaning.leaves s.now e.at e.call e.reply)) (sym shows.now)
                (row.can.answered, refl);
            is = refl;
          },
        )

    pub later_follows : (n at : ℕ) (call : Call) (t : State S) → LaterRow meaning s n at call t →
        Follows m (journal.Later (n, record { at = at; call = call; reply = Reply.Done })) t
    later_follows n at call t row =
        let d : Event = record { at = at; call = call; reply = Reply.Done } in
        let added = hold n at (need_of call Reply.Done) in
        subst (Follows m (journal.Later (n, d))) (sym row.is) (
          record {
            now = m.now;
            entries = m.entries ++ journal.Deferred (n, d) ∷ [];
            live = m.live;
            falling = m.falling;
            needs = m.needs ++ added ∷ [];
          },
          record {
            now = shows.now;
            entries = ap (λ l. l ++ journal.Deferred (n, d) ∷ []) shows.entries ∙
                sym (map-append (λ e. owned e.0 e.1) s.entries ((n, Deferred at call) ∷ []));
            live = shows.live;
            falling = shows.falling;
            needs = needs_more t.holds added row.holds;
          },
          record {
            live = (shows.live n).1 row.can.running.live;
            running = λ h. row.can.running.standing ((shows.falling n).0 h);
            deferred = (row.can.deferred.1, refl);
            ready = (
              meaning.leaves s.now at call Reply.Done,
              subst (λ v. shape.Does meaning v at call Reply.Done
                  (meaning.leaves s.now at call Reply.Done)) (sym shows.now) (row.can.ready, refl),
            );
            clear = clear_here n at (need_of call Reply.Done) row.can.clear;
            is = refl;
          },
        )

    -- a transaction is taken out, and what is there now is another content
    left_shows : (n : ℕ) (next : S) (wear : ℕ) (t : State S) →
        IsLeft (record s { now = next; wear = wear }) n t → Shows t (theory.ended_at rules next n m)
    left_shows n next wear t left =
        subst (λ v. Shows v (theory.ended_at rules next n m)) (sym left.is) (record {
          now = refl;
          entries = ap (runs.others (journal.asker owner) n) shows.entries ∙
              others_owned n s.entries;
          live = live_left s m shows n;
          falling = falling_left s m shows n;
          needs = λ h. (
            λ i. let k = filter_has (λ k. not (k.owner == n)) m.needs h i in
                (left.holds h).1 (
                  (shows.needs h).0 k.0,
                  differ h.owner n (not_true (h.owner == n) k.1),
                ),
            λ i. let k = (left.holds h).0 i in
                has_filter (λ k. not (k.owner == n)) m.needs h ((shows.needs h).1 k.0)
                (kept_true h.owner n k.1),
          );
        })

    pub commit_follows : (n : ℕ) (t : State S) → CommitRow meaning s n t →
        Follows m (journal.Commit n) t
    commit_follows n t row = (
      theory.ended_at rules row.next n m,
      left_shows n row.next _ t row.left,
      record {
        live = (shows.live n).1 row.running.live;
        running = λ h. row.running.standing ((shows.falling n).0 h);
        next = row.next;
        does = subst (λ v. Leads rules.does (theory.laters_of rules n m.entries) v row.next)
            (sym shows.now) (subst (λ l. Leads rules.does l s.now row.next)
            (sym (own_laters n m.entries s.entries shows.entries))
            (leads_back (λ e. e.1) (Does meaning)
            (journal.laters left (all_owned (filter (λ e. e.0 == n) s.entries))) s.now row.next
            (subst (λ l. Leads (Does meaning) l s.now row.next)
            (sym (laters_are (filter (λ e. e.0 == n) s.entries))) row.runs)));
        is = refl;
      },
    )

    pub ended_follows : (n : ℕ) (t : State S) → EndedRow s n t → Follows m (journal.Ended n) t
    ended_follows n t row = (
      theory.ended_at rules m.now n m,
      subst (λ v. Shows t (theory.ended_at rules v n m)) (sym shows.now)
          (left_shows n s.now s.wear t row.left),
      record {
        live = (shows.live n).1 row.live;
        undone = subst (theory.HasNoCall owner n) (sym shows.entries)
            (no_call n s.entries row.undone);
        is = refl;
      },
    )

    pub back_follows : (n : ℕ) (t : State S) → BackRow meaning s n t → Follows m (journal.Back n) t
    back_follows n t row = subst (Follows m (journal.Back n)) (sym row.is) (
      record {
        now = row.next;
        entries = all_owned row.rest;
        live = m.live;
        falling = n ∷ m.falling;
        needs = m.needs;
      },
      record {
        now = refl;
        entries = refl;
        live = live_fallen s m shows n row.live;
        falling = falling_fallen s m shows n row.live;
        needs = shows.needs;
      },
      record {
        live = (shows.live n).1 row.live;
        call = (n, row.call);
        rest = all_owned row.rest;
        newest = subst (λ l. theory.IsNewestCall owner n l (n, row.call) (all_owned row.rest))
            (sym shows.entries) (newest_call n s.entries row.call row.rest row.newest);
        next = row.next;
        undoes = subst (λ v. shape.Undoes meaning v row.call.at row.call.call row.call.reply
            row.next) (sym shows.now) row.undoes;
        is = refl;
      },
    )

    -- Where nothing is left to undo, the theory's machine makes a move without a record.
    pub fall_follows : (n : ℕ) (t : State S) → FallRow s n t →
        (k : theory.State S (ℕ × Event) Hold) × Shows t k × FallsRow rules m n k
    fall_follows n t row = subst (λ v. (k : theory.State S (ℕ × Event) Hold) × Shows v k ×
        FallsRow rules m n k) (sym row.is) (
          record {
            now = m.now;
            entries = m.entries;
            live = m.live;
            falling = n ∷ m.falling;
            needs = m.needs;
          },
          record {
            now = shows.now;
            entries = shows.entries;
            live = live_fallen s m shows n row.live;
            falling = falling_fallen s m shows n row.live;
            needs = shows.needs;
          },
          record {
            live = (shows.live n).1 row.live;
            is = refl;
          },
        )
