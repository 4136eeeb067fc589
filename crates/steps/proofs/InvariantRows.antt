-- Every row of the machine leaves what holds of every state.
use Rattle.std.proofs.Common.{◌≡◌, ℕ, ◌+◌, ◌*◌, ◌<◌, ◌≤◌, ◌^◌, Bool, false, true, Option, Some}
use Rattle.std.proofs.Common.{None, MatchOption, ⊎_elim, List, [], ◌∷◌, ◌++◌, length, refl, sym}
use Rattle.std.proofs.Common.{◌∙◌, ap, subst, arith}
use Rattle.std.specs.List.{AllByRecursion}
use Rattle.std.specs.FinMap as maps
use Rattle.std.specs.Ordering.{nat_cmp}
use Rattle.calls.specs.declared.format.Format.{Format}
use Rattle.calls.specs.declared.kind.Kind.{Kind}
use Rattle.calls.specs.declared.call.Call.{Call}
use Rattle.calls.specs.declared.reply.Reply.{Reply}
use Rattle.calls.specs.Rules.{Disposable, inverse_of}
use Rattle.calls.specs.Transactions.{Event, Entry, Asked, Deferred, Leads, laters_of, own}
use Rattle.undo_log.specs.Logs.{Lives, fallen}
use Rattle.boosted.specs.Meaning as shape
use Rattle.boosted.specs.Meaning.{HasRoom, Meaning}
use Rattle.boosted.proofs.Each.{weaker, each_append}
use Rattle.records.specs.Records.{IsNumber}
use Rattle.records.proofs.Items.{short_disposable}
use Rattle.steps.specs.Machine.{State, Does, IsRunning, IsLeft, BeginRow, CommitRow, EndedRow}
use Rattle.steps.specs.Machine.{FallRow, MakeRow, CallRow, LaterRow, AcceptRow, BackRow}
use Rattle.steps.specs.Machines.{resting, IsAskedEntry, IsUpheld}
use Rattle.steps.specs.Shelves.{CanRun}
use Rattle.steps.specs.Sound.{IsSound}
use Rattle.steps.proofs.LiveNumbers.{nobody, lives_more, lives_fewer, fallen_is}
use Rattle.steps.proofs.BookLaws.{BookLaws}
use Rattle.steps.proofs.Steps as steps
use Rattle.steps.proofs.DeferredRuns.{run_within}
use Rattle.steps.proofs.ShortValues.{asked_left, asked_rest, short_newest, undone_short}
use Rattle.steps.proofs.Counting.{few_entries, own_and_others, few_laters}
use Rattle.steps.proofs.Sizes.{len_begun, len_fallen, len_left, own_of_others, own_pushed}
use Rattle.steps.proofs.Sizes.{own_of_rest, rest_length, pushed_length}
use Rattle.catalog.specs.Making.{Making}

module _ {S : Type 0} (meaning : Meaning S ℕ) (making : Making S)
    (short : Format → S → Type 0) (laws : BookLaws meaning making short) where
  abbrev Sound : State S → Type 0
  Sound s = IsSound meaning making s

  abbrev pub Upheld : State S → Type 0
  Upheld s = IsUpheld meaning making short Sound s

  -- ---- what laters leave

  laters_names : (es : List Event) (s t : S) → Leads (Does meaning) es s t →
      length (making.names t) ≡ length (making.names s)
  laters_names [] s t runs = ap (λ v. length (making.names v)) (sym runs)
  laters_names (e ∷ es) s t runs =
      laters_names es runs.0 t runs.2 ∙ ap (λ v. length (making.names v)) runs.1.1 ∙
      ap length (laws.makings.runs_keep_names s e.at e.call e.reply runs.1.0)

  laters_short : (f : Format) (es : List Event) (s t : S) →
      AllByRecursion (λ e. Disposable e.call × (e.reply ≡ Reply.Done)) es →
      Leads (Does meaning) es s t → short f s → short f t
  laters_short f [] s t late runs spells = subst (short f) runs spells
  laters_short f (e ∷ es) s t late runs spells =
      laters_short f es runs.0 t late.1 runs.2
      (subst (short f) (sym runs.1.1) (laws.short_runs f s e.at e.call e.reply spells runs.1.0
      (short_disposable f e.call late.0.0)))

  module _ (s : State S) (upheld : Upheld s) where
    -- No more entries than 1024 for each of the 64 that may be live.
    pub few_asked : length s.entries ≤ maps.len s.live * 1024
    few_asked = few_entries s.live s.entries (steps.alive meaning making laws.rules s upheld.holds)
        upheld.few_calls

    -- how many names there are then
    pub make_names : (name : List ℕ) (kind : Kind) (t : State S) → MakeRow making s name kind t →
        length (making.names t.now) ≡ length (making.names s.now) + 1
    make_names name kind t row =
        let named = ap length (laws.makings.makes_named s.now row.next name kind row.made).1 in
        let longer = pushed_length (making.names s.now) name in
        let is = ap (λ (v : State S). length (making.names v.now)) row.is in
        omega arith

    pub make_upheld : (name : List ℕ) (kind : Kind) (t : State S) → MakeRow making s name kind t →
        Upheld t
    make_upheld name kind t row =
        let few = row.new.few in
        let named = ap length (laws.makings.makes_named s.now row.next name kind row.made).1 in
        let longer = pushed_length (making.names s.now) name in
        subst Upheld (sym row.is) (record {
          few_live = upheld.few_live;
          few_calls = upheld.few_calls;
          few_names = omega arith;
          reached = laws.makings.makes_keep_within s.now row.next name kind s.wear row.made
              upheld.reached;
          unworn = upheld.unworn;
          numbers = upheld.numbers;
          spells = laws.short_makes s.format s.now row.next name kind row.made upheld.spells;
          asked = upheld.asked;
          holds = subst Sound row.is (steps.make_sound meaning making laws.rules s upheld.holds name
              kind t row);
        })

    begun_numbers : (n : ℕ) → IsNumber n → (k : ℕ) → Lives (maps.insert s.live n false) k →
        IsNumber k
    begun_numbers n number k lives =
        ⊎_elim
        (λ (same : n ≡ k). subst IsNumber same number)
        (λ (old : Lives s.live k). upheld.numbers k old)
        ((lives_more s.live n false k).1 lives)

    pub begin_upheld : (n : ℕ) (t : State S) → BeginRow s n t → Upheld t
    begin_upheld n t row =
        let more = len_begun s.live n row.can.fresh in
        let few = row.can.few in
        let room = row.room in
        subst Upheld (sym row.is) (record {
          few_live = omega arith;
          few_calls = upheld.few_calls;
          few_names = upheld.few_names;
          reached = laws.wears_more s.now s.wear upheld.reached;
          unworn = room;
          numbers = begun_numbers n row.can.number;
          spells = upheld.spells;
          asked = upheld.asked;
          holds = subst Sound row.is (steps.begin_sound meaning making laws.rules s upheld.holds n t
              row);
        })

    pub call_names : (n : ℕ) (e : Event) (t : State S) → CallRow meaning s n e t →
        length (making.names t.now) ≡ length (making.names s.now)
    call_names n e t row =
        let is = ap (λ (v : State S). length (making.names v.now)) row.is in
        let same = ap length (laws.makings.runs_keep_names s.now e.at e.call e.reply
        row.can.answered) in
        omega arith

    pub call_upheld : (n : ℕ) (e : Event) (t : State S) → CallRow meaning s n e t → Upheld t
    call_upheld n e t row =
        let same_names = ap length (laws.makings.runs_keep_names s.now e.at e.call e.reply
        row.can.answered) in
        let room = row.room in
        let few_names = upheld.few_names in
        let longer = pushed_length s.entries (n, Asked e) in
        subst Upheld (sym row.is) (record {
          few_live = upheld.few_live;
          few_calls = λ k. own_pushed n k (Asked e) s.entries row.can.few (upheld.few_calls k);
          few_names = omega arith;
          reached = (laws.calls.holds s.now).wears s.wear e.at e.call e.reply upheld.reached
              row.can.answered;
          unworn = omega arith;
          numbers = upheld.numbers;
          spells = laws.short_runs s.format s.now e.at e.call e.reply upheld.spells row.can.answered
              row.can.asked.2;
          asked = each_append (λ e. IsAskedEntry s.format e.1) s.entries ((n, Asked e) ∷ [])
              upheld.asked (
                (
                  row.can.asked.1,
                  row.can.asked.2,
                  laws.paired s.now e.at e.call e.reply row.can.asked.1 row.can.answered,
                  row.can.told,
                ),
                tt,
              );
          holds = subst Sound row.is (steps.call_sound meaning making laws.rules s upheld.holds n e
              t row);
        })

    pub later_names : (n at : ℕ) (call : Call) (t : State S) → LaterRow meaning s n at call t →
        length (making.names t.now) ≡ length (making.names s.now)
    later_names n at call t row = ap (λ (v : State S). length (making.names v.now)) row.is

    pub later_upheld : (n at : ℕ) (call : Call) (t : State S) → LaterRow meaning s n at call t →
        Upheld t
    later_upheld n at call t row =
        let room = row.room in
        let longer = pushed_length s.entries (n, Deferred at call) in
        subst Upheld (sym row.is) (record {
          few_live = upheld.few_live;
          few_calls = λ k. own_pushed n k (Deferred at call) s.entries row.can.few
              (upheld.few_calls k);
          few_names = upheld.few_names;
          reached = laws.wears_more s.now s.wear upheld.reached;
          unworn = omega arith;
          numbers = upheld.numbers;
          spells = upheld.spells;
          asked = each_append (λ e. IsAskedEntry s.format e.1) s.entries
              ((n, Deferred at call) ∷ [])
              upheld.asked (row.can.deferred.1, tt);
          holds = subst Sound row.is (steps.later_sound meaning making laws.rules s upheld.holds n
              at call t row);
        })

    pub take_upheld : (n : ℕ) (e : Entry) (t : State S) → AcceptRow meaning s n e t → Upheld t
    take_upheld n (Asked e) t row = call_upheld n e t row
    take_upheld n (Deferred at call) t row = later_upheld n at call t row

    -- A transaction is over. What it deferred wore by no more than its entries count, so each entry
    -- that is left may still be undone.
    left_upheld : (n : ℕ) (next : S) (more : ℕ) (t : State S) → Lives s.live n →
        meaning.within next (s.wear + more) → more ≤ length (own n s.entries) →
        length (making.names next) ≡ length (making.names s.now) → short s.format next →
        IsLeft (record s { now = next; wear = s.wear + more }) n t → Sound t → Upheld t
    left_upheld n next more t lives reached less same_names spells left sound =
        let fewer = len_left s.live n lives in
        let few_live = upheld.few_live in
        let few_names = upheld.few_names in
        let all = own_and_others n s.entries in
        let unworn = upheld.unworn in
        subst Upheld (sym left.is) (record {
          few_live = omega arith;
          few_calls = λ k. let less = own_of_others n k s.entries in let few = upheld.few_calls k in
              omega arith;
          few_names = omega arith;
          reached = reached;
          unworn = omega arith;
          numbers = λ k there. upheld.numbers k ((lives_fewer s.live n k).1 there).0;
          spells = spells;
          asked = asked_left s.format s.entries upheld.asked n;
          holds = subst Sound left.is sound;
        })

    -- what a transaction deferred leaves
    after_laters : (n : ℕ) (next : S) →
        Leads (Does meaning) (laters_of (own n s.entries)) s.now next →
        meaning.within next (s.wear + length (laters_of (own n s.entries))) ×
        (length (making.names next) ≡ length (making.names s.now)) × short s.format next
    after_laters n next runs =
        let late = steps.laters_disposable meaning making laws.rules s upheld.holds n in (
          run_within meaning laws.calls (laters_of (own n s.entries)) s.now next s.wear runs
              upheld.reached,
          laters_names (laters_of (own n s.entries)) s.now next runs,
          laters_short s.format (laters_of (own n s.entries)) s.now next late runs upheld.spells,
        )

    -- There is room in the wear for all that a transaction deferred.
    pub commit_fits : (n : ℕ) → s.wear + length (laters_of (own n s.entries)) ≤ 2 ^ 61 + 65536
    commit_fits n =
        let few = few_laters (own n s.entries) in
        let all = own_and_others n s.entries in
        let unworn = upheld.unworn in
        omega arith

    -- What a running transaction deferred can run.
    pub commit_ready : (n : ℕ) → IsRunning s n → CanRun meaning (laters_of (own n s.entries)) s.now
    commit_ready n running =
        let can = steps.commit_can meaning making laws.rules s upheld.holds n running in
        record {
          next = can.0;
          runs = can.1;
          late = weaker (λ e. Disposable e.call × (e.reply ≡ Reply.Done)) (λ e. Disposable e.call)
              (λ e late. late.0) (laters_of (own n s.entries))
              (steps.laters_disposable meaning making laws.rules s upheld.holds n);
          wear = s.wear;
          reached = upheld.reached;
          room = commit_fits n;
        }

    pub commit_names : (n : ℕ) (t : State S) → CommitRow meaning s n t →
        length (making.names t.now) ≡ length (making.names s.now)
    commit_names n t row = ap (λ (v : State S). length (making.names v.now)) row.left.is ∙
        (after_laters n row.next row.runs).1

    pub commit_upheld : (n : ℕ) (t : State S) → CommitRow meaning s n t → Upheld t
    commit_upheld n t row =
        let after = after_laters n row.next row.runs in
        left_upheld n row.next (length (laters_of (own n s.entries))) t row.running.live after.0
        (few_laters (own n s.entries)) after.1 after.2 row.left
        (steps.commit_sound meaning making laws.rules s upheld.holds n t row)

    pub ended_upheld : (n : ℕ) (t : State S) → EndedRow s n t → Upheld t
    ended_upheld n t row =
        left_upheld n s.now 0 t row.live (subst (meaning.within s.now) (omega arith) upheld.reached)
        (omega arith) refl upheld.spells
        (subst (λ w. IsLeft (record s { wear = w }) n t) (omega arith) row.left)
        (steps.ended_sound meaning making laws.rules s upheld.holds n t row)

    -- who lives once a number falls lived before
    pub fallen_lives : (n k : ℕ) → Lives s.live n → Lives (fallen s.live n) k → Lives s.live k
    fallen_lives n k lives there =
        ⊎_elim (λ (same : n ≡ k). subst (Lives s.live) same lives) (λ (old : Lives s.live k). old)
        ((lives_more s.live n true k).1
        (subst (λ m. Lives m k) (fallen_is s.live n lives) there))

    -- what undoing leaves of names and of wear
    undone_names : (back : Option Call) (at : ℕ) (c u : S) →
        MatchOption back (u ≡ c) (λ d. (r : Reply) × shape.Does meaning c at d r u) →
        length (making.names u) ≡ length (making.names c)
    undone_names None at c u undone = ap (λ v. length (making.names v)) undone
    undone_names (Some d) at c u undone =
        ap (λ v. length (making.names v)) undone.1.1 ∙
        ap length (laws.makings.runs_keep_names c at d undone.0 undone.1.0)

    undone_within : (back : Option Call) (at : ℕ) (c u : S) (n : ℕ) →
        MatchOption back (u ≡ c) (λ d. (r : Reply) × shape.Does meaning c at d r u) →
        meaning.within c n → meaning.within u (n + 1)
    undone_within None at c u n undone reached =
        subst (λ v. meaning.within v (n + 1)) (sym undone) (laws.wears_more c n reached)
    undone_within (Some d) at c u n undone reached =
        subst (λ v. meaning.within v (n + 1)) (sym undone.1.1)
        ((laws.calls.holds c).wears n at d undone.0 reached undone.1.0)

    pub back_names : (n : ℕ) (t : State S) → BackRow meaning s n t →
        length (making.names t.now) ≡ length (making.names s.now)
    back_names n t row =
        let x = row.call in
        let is = ap (λ (v : State S). length (making.names v.now)) row.is in
        let same = undone_names (inverse_of x.call x.reply) x.at s.now row.next row.undoes in
        omega arith

    pub back_upheld : (n : ℕ) (t : State S) → BackRow meaning s n t → Upheld t
    back_upheld n t row =
        let x = row.call in
        let new = row.newest in
        let same_names = undone_names (inverse_of x.call x.reply) x.at s.now row.next row.undoes in
        let same_live = len_fallen s.live n row.live in
        let fewer = rest_length s.entries new.before (n, Asked x) new.after row.rest new.is
        new.rest_is in
        let few_names = upheld.few_names in
        let few_live = upheld.few_live in
        let unworn = upheld.unworn in
        subst Upheld (sym row.is) (record {
          few_live = omega arith;
          few_calls = λ k. let less = own_of_rest k s.entries new.before (n, Asked x) new.after
              row.rest new.is new.rest_is in let few = upheld.few_calls k in omega arith;
          few_names = omega arith;
          reached = undone_within (inverse_of x.call x.reply) x.at s.now row.next s.wear row.undoes
              upheld.reached;
          unworn = omega arith;
          numbers = λ k there. upheld.numbers k (fallen_lives n k row.live there);
          spells = undone_short meaning s.format (short s.format) (laws.short_runs s.format)
              (laws.short_inverse s.format) x s.now row.next
              (short_newest s.format s.entries upheld.asked n x row.rest new) upheld.spells
              row.undoes;
          asked = asked_rest s.format s.entries upheld.asked n x row.rest new;
          holds = subst Sound row.is (steps.back_sound meaning making laws.rules s upheld.holds n t
              row);
        })

    pub fall_upheld : (n : ℕ) (t : State S) → FallRow s n t → Upheld t
    fall_upheld n t row =
        let same_live = len_fallen s.live n row.live in
        let few_live = upheld.few_live in
        subst Upheld (sym row.is) (record {
          few_live = omega arith;
          few_calls = upheld.few_calls;
          few_names = upheld.few_names;
          reached = upheld.reached;
          unworn = upheld.unworn;
          numbers = λ k there. upheld.numbers k (fallen_lives n k row.live there);
          spells = upheld.spells;
          asked = upheld.asked;
          holds = subst Sound row.is (steps.fall_sound meaning making laws.rules s upheld.holds n t
              row);
        })

    -- There is room in the wear for one entry more,
    pub enter_room : s.wear < 2 ^ 61 → s.wear + 1 + length s.entries ≤ 2 ^ 61 + 65536
    enter_room unworn = let few = few_asked in let live = upheld.few_live in omega arith

    -- for one call more, or for one that is deferred,
    pub call_room : (n at : ℕ) (call : Call) → IsRunning s n → length (own n s.entries) < 1024 →
        s.wear < 2 ^ 61 → (s.wear + 1 + (length s.entries + 1) ≤ 2 ^ 61 + 65536) ×
        HasRoom meaning s.now
    call_room n at call running few unworn =
        let e : Event = record { at = at; call = call; reply = Reply.Done } in
        let more = few_entries s.live (s.entries ++ (n, Asked e) ∷ [])
        (each_append (λ e. Lives s.live e.0) s.entries ((n, Asked e) ∷ [])
        (steps.alive meaning making laws.rules s upheld.holds) (running.live, tt))
        (λ k. own_pushed n k (Asked e) s.entries few (upheld.few_calls k)) in
        let longer = pushed_length s.entries (n, Asked e) in
        let live = upheld.few_live in
        (omega arith, (s.wear, upheld.reached, omega arith))

  -- A state with no live transaction.
  pub resting_upheld : (format : Format) (now : S) (wear : ℕ) → meaning.within now wear →
      wear ≤ 2 ^ 61 + 65536 →
      length (making.names now) ≤ 256 → short format now → Upheld (resting format now wear)
  resting_upheld format now wear reached unworn few spells =
      let none = maps.len-empty nat_cmp Bool in
      record {
        few_live = omega arith;
        few_calls = λ n. omega arith;
        few_names = few;
        reached = reached;
        unworn = omega arith;
        numbers = λ n lives. absurd (nobody n lives);
        spells = spells;
        asked = tt;
        holds = steps.opened_sound meaning making laws.rules format now wear;
      }
