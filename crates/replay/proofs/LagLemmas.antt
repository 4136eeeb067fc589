-- A state that lags behind another goes along with it: each record that leads on from the second
-- leads on from the first, which still lags behind.
use Rattle.std.proofs.Common.{◌≡◌, ℕ, ◌+◌, ◌<◌, ◌≤◌, ◌^◌, ◌==◌, inl, inr, ⊎_elim, Bool, true, false}
use Rattle.std.proofs.Common.{not, cond, List, [], ◌∷◌, ◌++◌, length, map, refl, sym, ◌∙◌, ap}
use Rattle.std.proofs.Common.{subst, arith}
use Rattle.std.specs.Prelude.{◌↔◌, ◌⊎◌, Contains}
use Rattle.std.specs.List.{filter}
use Rattle.std.specs.FinMap as maps
use Rattle.std.proofs.lemmas.List.Elements.{All-contains, Contains-get_or, Contains-push}
use Rattle.std.proofs.lemmas.List.Elements.{Contains-push_cases, Contains-append_left}
use Rattle.calls.specs.declared.format.Format.{Format}
use Rattle.calls.specs.declared.kind.Kind.{Kind}
use Rattle.calls.specs.Formats.{Allows}
use Rattle.calls.specs.declared.call.Call.{Call}
use Rattle.calls.specs.declared.reply.Reply.{Reply}
use Rattle.calls.specs.declared.need.Need.{Need}
use Rattle.calls.specs.Contents.{after_at}
use Rattle.calls.specs.Transactions.{Event, Entry, Asked, Deferred, Leads, own, others, calls_of}
use Rattle.calls.specs.Transactions.{laters_of}
use Rattle.calls.specs.Rules.{need_of}
use Rattle.abstract_locks.specs.declared.table.Hold.{Hold}
use Rattle.abstract_locks.specs.Holds.{hold, Blocks, IsClear, IsAdded, IsGivenUp}
use Rattle.abstract_locks.proofs.Members.{filtered_is_given_up}
use Rattle.undo_log.specs.Entries.{HasNoCall, IsNewestCall}
use Rattle.undo_log.specs.Logs.{Statuses, Lives, Falls, fallen}
use Rattle.steps.specs.Machine.{Does, IsRunning, IsLeft, BeginRow, MakeRow}
use Rattle.undo_log.specs.LeftCalls.{GoesTwice}
use Rattle.steps.specs.Machine.{CallRow, LaterRow, CommitRow, BackRow, EndedRow}
use Rattle.steps.proofs.Theory.Lists.{not_same}
use Rattle.steps.proofs.LiveNumbers.{fallen_is, lives_more, falls_more, falls_fresh, lives_fewer}
use Rattle.steps.proofs.LiveNumbers.{falls_fewer}
use Rattle.steps.proofs.Sizes.{len_begun, len_fallen, len_left}
use Rattle.steps.proofs.Journalled.{GoesUnheard}
use Rattle.records.specs.declared.record.Record.{Record}
use Rattle.records.specs.Acts.{event_of}
use Rattle.replay.specs.Steps.{State, Steps}
use Rattle.replay.proofs.Formats.{allows_self, short_later, reply_later}
use Rattle.replay.specs.Lagging.{IsInVain, IsThinned, Lags}
use Rattle.catalog.specs.Meaning.{catalog_meaning, catalog_making}

-- ---- lists without some of what is there in vain

module _ (live : Statuses) where
  thinned_self : (es : List (ℕ × Entry)) → IsThinned live es es
  thinned_self [] = refl
  thinned_self (e ∷ es) = inr (es, refl, thinned_self es)

  -- what is there in vain is no call
  thinned_calls : (few all : List (ℕ × Entry)) → IsThinned live few all →
      calls_of (map (λ e. e.1) few) ≡ calls_of (map (λ e. e.1) all)
  thinned_calls few [] thin = ap (λ l. calls_of (map (λ e. e.1) l)) thin
  thinned_calls few ((n, Asked x) ∷ all) (inl vain) = absurd vain.0
  thinned_calls few ((n, Asked x) ∷ all) (inr (rest, is, thin)) =
      ap (λ l. calls_of (map (λ e. e.1) l)) is ∙ ap (λ l. x ∷ l) (thinned_calls rest all thin)
  thinned_calls few ((n, Deferred at c) ∷ all) (inl vain) = thinned_calls few all vain.1
  thinned_calls few ((n, Deferred at c) ∷ all) (inr (rest, is, thin)) =
      ap (λ l. calls_of (map (λ e. e.1) l)) is ∙ thinned_calls rest all thin

  thinned_length : (few all : List (ℕ × Entry)) → IsThinned live few all → length few ≤ length all
  thinned_length few [] thin = let same = ap length thin in omega arith
  thinned_length few (e ∷ all) (inl vain) = let less = thinned_length few all vain.1 in omega arith
  thinned_length few (e ∷ all) (inr (rest, is, thin)) = let less = thinned_length rest all thin in
      let same = ap length is in omega arith

  -- behind one another
  thinned_append : (few all fs es : List (ℕ × Entry)) → IsThinned live few all →
      IsThinned live fs es → IsThinned live (few ++ fs) (all ++ es)
  thinned_append few [] fs es thin more = subst (λ l. IsThinned live (l ++ fs) es) (sym thin) more
  thinned_append few (e ∷ all) fs es (inl vain) more =
      inl (vain.0, thinned_append few all fs es vain.1 more)
  thinned_append few (e ∷ all) fs es (inr (rest, is, thin)) more =
      inr (rest ++ fs, ap (λ l. l ++ fs) is, thinned_append rest all fs es thin more)

  -- the parts
  thinned_split : (few before after : List (ℕ × Entry)) → IsThinned live few (before ++ after) →
      (f : List (ℕ × Entry)) × (g : List (ℕ × Entry)) × (few ≡ f ++ g) × IsThinned live f before ×
      IsThinned live g after
  thinned_split few [] after thin = ([], few, refl, refl, thin)
  thinned_split few (e ∷ before) after (inl vain) =
      let parts = thinned_split few before after vain.1 in
      (parts.0, parts.1, parts.2, inl (vain.0, parts.3), parts.4)
  thinned_split few (e ∷ before) after (inr (rest, is, thin)) =
      let parts = thinned_split rest before after thin in
      (e ∷ parts.0, parts.1, is ∙ ap (λ l. e ∷ l) parts.2, inr (parts.0, refl, parts.3), parts.4)

-- what is there in vain under some is so under others
in_vain_more : (live more : Statuses) → ((n : ℕ) → Falls live n → Falls more n) → (e : ℕ × Entry) →
    IsInVain live e → IsInVain more e
in_vain_more live more falls (n, Asked x) vain = vain
in_vain_more live more falls (n, Deferred at c) vain = falls n vain

-- its number falls
in_vain_falls : (live : Statuses) (e : ℕ × Entry) → IsInVain live e → Falls live e.0
in_vain_falls live (n, Asked x) vain = absurd vain
in_vain_falls live (n, Deferred at c) vain = vain

-- ---- the entries of some numbers

module _ (live other : Statuses) (test : ℕ × Entry → Bool)
    (vain_there : (e : ℕ × Entry) → IsInVain live e → test e ≡ true → IsInVain other e) where
  left_out : (b : Bool) (e : ℕ × Entry) (fs es : List (ℕ × Entry)) → (b ≡ true → IsInVain other e) →
      IsThinned other fs es → IsThinned other fs (cond b (e ∷ es) es)
  left_out true e fs es vain thin = inl (vain refl, thin)
  left_out false e fs es vain thin = thin

  kept : (b : Bool) (e : ℕ × Entry) (fs es : List (ℕ × Entry)) → IsThinned other fs es →
      IsThinned other (cond b (e ∷ fs) fs) (cond b (e ∷ es) es)
  kept true e fs es thin = inr (fs, refl, thin)
  kept false e fs es thin = thin

  -- those that pass a test, where what passes is still in vain
  thinned_filter : (few all : List (ℕ × Entry)) → IsThinned live few all →
      IsThinned other (filter test few) (filter test all)
  thinned_filter few [] thin = ap (filter test) thin
  thinned_filter few (e ∷ all) (inl vain) =
      left_out (test e) e (filter test few) (filter test all) (vain_there e vain.0)
      (thinned_filter few all vain.1)
  thinned_filter few (e ∷ all) (inr (rest, is, thin)) =
      subst (λ l. IsThinned other (filter test l)
      (cond (test e) (e ∷ filter test all) (filter test all))) (sym is)
      (kept (test e) e (filter test rest) (filter test all) (thinned_filter rest all thin))

-- where nothing that passes is in vain the same pass
filter_same : (live : Statuses) (test : ℕ × Entry → Bool) →
    ((e : ℕ × Entry) → IsInVain live e → test e ≡ false) → (few all : List (ℕ × Entry)) →
    IsThinned live few all → filter test few ≡ filter test all
filter_same live test fails few [] thin = ap (filter test) thin
filter_same live test fails few (e ∷ all) (inl vain) =
    filter_same live test fails few all vain.1 ∙
    ap (λ b. cond b (e ∷ filter test all) (filter test all)) (sym (fails e vain.0))
filter_same live test fails few (e ∷ all) (inr (rest, is, thin)) =
    ap (filter test) is ∙ ap (λ l. cond (test e) (e ∷ l) l)
    (filter_same live test fails rest all thin)

module _ (live : Statuses) (few all : List (ℕ × Entry)) (thin : IsThinned live few all) where
  -- where more fall
  thinned_more : (more : Statuses) → ((n : ℕ) → Falls live n → Falls more n) →
      IsThinned more few all
  thinned_more more falls = more_fall few all thin
    where
      more_fall : (fs es : List (ℕ × Entry)) → IsThinned live fs es → IsThinned more fs es
      more_fall fs [] thin = thin
      more_fall fs (e ∷ es) (inl vain) =
          inl (in_vain_more live more falls e vain.0, more_fall fs es vain.1)
      more_fall fs (e ∷ es) (inr (rest, is, thin)) = inr (rest, is, more_fall rest es thin)

  -- the entries of one that does not fall
  thinned_own : (n : ℕ) → (Falls live n → ⊥) → own n few ≡ own n all
  thinned_own n stands =
      ap (map (λ e. e.1)) (filter_same live (λ e. e.0 == n)
      (λ e vain. not_same e.0 n (λ same. stands
      (subst (Falls live) same (in_vain_falls live e vain)))) few all thin)

  -- the calls of one that may fall
  thinned_own_calls : (n : ℕ) → calls_of (own n few) ≡ calls_of (own n all)
  thinned_own_calls n = thinned_calls live (filter (λ e. e.0 == n) few) (filter (λ e. e.0 == n) all)
      (thinned_filter live live (λ e. e.0 == n) (λ e vain passes. vain) few all thin)

  -- one more at the end
  thinned_push : (e : ℕ × Entry) → IsThinned live (few ++ e ∷ []) (all ++ e ∷ [])
  thinned_push e = thinned_append live few all (e ∷ []) (e ∷ []) thin (thinned_self live (e ∷ []))

  -- without those of one number
  thinned_others : (n : ℕ) → IsThinned (maps.remove live n) (others n few) (others n all)
  thinned_others n = thinned_filter live (maps.remove live n) (λ e. not (e.0 == n)) still few all
      thin
    where
      differs : (m : ℕ) → not (m == n) ≡ true → m ≡ n → ⊥
      differs m passes same = grind arith

      still : (e : ℕ × Entry) → IsInVain live e → not (e.0 == n) ≡ true →
          IsInVain (maps.remove live n) e
      still (m, Asked x) vain passes = vain
      still (m, Deferred at c) vain passes = (falls_fewer live n m).0 (vain, differs m passes)

-- the newest call is the same
module _ (live : Statuses) (n : ℕ) (x : Event) (few before after : List (ℕ × Entry))
    (none : HasNoCall n after) where
  newest_of_parts : (f g : List (ℕ × Entry)) → few ≡ f ++ g → IsThinned live f before →
      IsThinned live g ((n, Asked x) ∷ after)
      → (left : List (ℕ × Entry)) × IsNewestCall n few x left ×
      IsThinned live left (before ++ after)
  newest_of_parts f g is front (inl vain) = absurd vain.0
  newest_of_parts f g is front (inr (behind, call, back)) = (
    f ++ behind,
    record {
      before = f;
      after = behind;
      is = is ∙ ap (λ l. f ++ l) call;
      rest_is = refl;
      none_newer = thinned_own_calls live behind after back n ∙ none;
    },
    thinned_append live f before behind after front back,
  )

thinned_newest : (live : Statuses) (few all : List (ℕ × Entry)) → IsThinned live few all →
    (n : ℕ) (x : Event) (rest : List (ℕ × Entry)) → IsNewestCall n all x rest
    → (left : List (ℕ × Entry)) × IsNewestCall n few x left × IsThinned live left rest
thinned_newest live few all thin n x rest newest =
    let parts = thinned_split live few newest.before ((n, Asked x) ∷ newest.after)
    (subst (IsThinned live few) newest.is thin) in
    let found = newest_of_parts live n x few newest.before newest.after newest.none_newer parts.0
    parts.1 parts.2 parts.3 parts.4 in
    (found.0, found.1, subst (IsThinned live found.0) (sym newest.rest_is) found.2)

-- ---- fewer needs

-- a hold that is put to the end
pushed_is_added : (holds : List Hold) (h : Hold) → IsAdded holds (holds ++ h ∷ []) h
pushed_is_added holds h x = (
  λ inside. ⊎_elim (λ old. inl old) (λ same. inr (sym same)) (Contains-push_cases holds h x inside),
  λ either. ⊎_elim (λ old. Contains-append_left holds (h ∷ []) x old)
      (λ same. subst (Contains (holds ++ h ∷ [])) (sym same) (Contains-push holds h)) either,
)

module _ (few all : List Hold) (fewer : (h : Hold) → Contains few h → Contains all h) where
  -- what stands in the way of nothing still does not
  clear_of_fewer : (n at : ℕ) (need : Need) → IsClear all n at need → IsClear few n at need
  clear_of_fewer n at need clear k d below =
      All-contains (λ h. Blocks n at need h → ⊥) all _ clear
      (fewer _ (Contains-get_or few k d below))

  -- one more
  fewer_added : (new : List Hold) (added : Hold) → IsAdded all new added → (h : Hold) →
      Contains (few ++ added ∷ []) h → Contains new h
  fewer_added new added more h inside =
      (more h).1 (⊎_elim (λ (old : Contains few h). inl (fewer h old))
      (λ (same : h ≡ added). inr same) ((pushed_is_added few added h).0 inside))

  -- without those of one owner
  abbrev without_owner : ℕ → List Hold
  without_owner n = filter (λ h. not (h.owner == n)) few

  fewer_given_up : (new : List Hold) (n : ℕ) → IsGivenUp all new n → (h : Hold) →
      Contains (without_owner n) h → Contains new h
  fewer_given_up new n given h inside =
      let left = (filtered_is_given_up n few (without_owner n) refl h).0 inside in
      (given h).1 (fewer h left.0, left.1)

-- ---- the same are live, and who falls in the first falls in the second

record Behind (l m : Statuses) : Type 0 where
  few : maps.len l ≡ maps.len m
  lives : (n : ℕ) → Lives l n ↔ Lives m n
  falls : (n : ℕ) → Falls l n → Falls m n

module _ (l m : Statuses) (behind : Behind l m) (n : ℕ) where
  -- one begins
  behind_begun : (Lives m n → ⊥) → Behind (maps.insert l n false) (maps.insert m n false)
  behind_begun fresh =
      let fresh_there : Lives l n → ⊥ = λ lives. fresh ((behind.lives n).0 lives) in
      record {
        few = len_begun l n fresh_there ∙ ap (λ k. k + 1) behind.few ∙ sym (len_begun m n fresh);
        lives = λ k. (
          λ h. (lives_more m n false k).0
              (⊎_elim (λ (e : n ≡ k). inl e) (λ (v : Lives l k). inr ((behind.lives k).0 v))
              ((lives_more l n false k).1 h)),
          λ h. (lives_more l n false k).0
              (⊎_elim (λ (e : n ≡ k). inl e) (λ (v : Lives m k). inr ((behind.lives k).1 v))
              ((lives_more m n false k).1 h)),
        );
        falls = λ k h. (falls_fresh m n fresh k).0
            (behind.falls k ((falls_fresh l n fresh_there k).1 h));
      }

  -- one goes
  behind_left : Lives m n → Behind (maps.remove l n) (maps.remove m n)
  behind_left lives =
      let fewer = len_left m n lives in
      let fewer_there = len_left l n ((behind.lives n).1 lives) in
      let same = behind.few in
      record {
        few = omega arith;
        lives = λ k. (
          λ h. let v = (lives_fewer l n k).1 h in
              (lives_fewer m n k).0 ((behind.lives k).0 v.0, v.1),
          λ h. let v = (lives_fewer m n k).1 h in
              (lives_fewer l n k).0 ((behind.lives k).1 v.0, v.1),
        );
        falls = λ k h. let v = (falls_fewer l n k).1 h in
            (falls_fewer m n k).0 (behind.falls k v.0, v.1);
      }

  -- one falls in both
  behind_felled : Lives m n → Behind (fallen l n) (fallen m n)
  behind_felled lives =
      let there = (behind.lives n).1 lives in
      subst (λ x. Behind x (fallen m n)) (sym (fallen_is l n there))
      (subst (Behind (maps.insert l n true)) (sym (fallen_is m n lives)) (record {
        few = ap maps.len (sym (fallen_is l n there)) ∙ len_fallen l n there ∙ behind.few ∙
            sym (len_fallen m n lives) ∙ ap maps.len (fallen_is m n lives);
        lives = λ k. (
          λ h. (lives_more m n true k).0 (⊎_elim (λ (e : n ≡ k). inl e)
              (λ (v : Lives l k). inr ((behind.lives k).0 v)) ((lives_more l n true k).1 h)),
          λ h. (lives_more l n true k).0 (⊎_elim (λ (e : n ≡ k). inl e)
              (λ (v : Lives m k). inr ((behind.lives k).1 v)) ((lives_more m n true k).1 h)),
        );
        falls = λ k h. (falls_more m n k).0
            (⊎_elim (λ (e : n ≡ k). inl e) (λ (v : Falls l k). inr (behind.falls k v))
            ((falls_more l n k).1 h));
      }))

  -- one falls in the second alone
  behind_fall : Lives m n → Behind l (fallen m n)
  behind_fall lives =
      subst (Behind l) (sym (fallen_is m n lives)) (record {
        few = behind.few ∙ sym (len_fallen m n lives) ∙ ap maps.len (fallen_is m n lives);
        lives = λ k. (
          λ h. (lives_more m n true k).0 (inr ((behind.lives k).0 h)),
          λ h. ⊎_elim (λ (e : n ≡ k). subst (Lives l) e ((behind.lives n).1 lives))
              (λ (v : Lives m k). (behind.lives k).1 v) ((lives_more m n true k).1 h),
        );
        falls = λ k h. (falls_more m n k).0 (inr (behind.falls k h));
      })

-- who fell falls still
falls_still : (m : Statuses) (n : ℕ) → Lives m n → (k : ℕ) → Falls m k → Falls (fallen m n) k
falls_still m n lives k falls =
    subst (λ x. Falls x k) (sym (fallen_is m n lives)) ((falls_more m n k).0 (inr falls))

-- ---- step by step, of a state beside the other: other transactions, entries and needs

abbrev beside : State → Format → Statuses → List (ℕ × Entry) → List Hold → State
beside t f l es hs = record {
  now = t.now;
  live = l;
  entries = es;
  holds = hs;
  wear = t.wear;
  format = f;
}

lags_beside : (t : State) (f : Format) → Allows t.format f →
    (l : Statuses) (es : List (ℕ × Entry)) (hs : List Hold) →
    Behind l t.live → IsThinned t.live es t.entries →
    ((h : Hold) → Contains hs h → Contains t.holds h) → Lags (beside t f l es hs) t
lags_beside t f later l es hs behind thin fewer =
    record {
      now = refl;
      wear = refl;
      format = later;
      few = behind.few;
      lives = behind.lives;
      falls = behind.falls;
      entries = thin;
      holds = fewer;
    }

-- fewer entries take less room
room_of_fewer : (wear more few all bound : ℕ) → few ≤ all → wear + 1 + (all + more) ≤ bound →
    wear + 1 + (few + more) ≤ bound
room_of_fewer wear more few all bound less room = omega arith

begin_room : (wear few all bound : ℕ) → few ≤ all → wear + 1 + all ≤ bound → wear + 1 + few ≤ bound
begin_room wear few all bound less room = omega arith

module _ (t : State) (f : Format) (later : Allows t.format f) (l : Statuses) (es : List (ℕ × Entry))
    (hs : List Hold)
    (behind : Behind l t.live) (thin : IsThinned t.live es t.entries)
    (fewer : (h : Hold) → Contains hs h → Contains t.holds h) where
  -- who runs in the second runs in the first, with the same entries
  runs : (n : ℕ) → IsRunning t n → IsRunning (beside t f l es hs) n
  runs n run = record {
    live = (behind.lives n).1 run.live;
    standing = λ falls. run.standing (behind.falls n falls);
  }

  make_lags : (name : List ℕ) (kind : Kind) (u : State) → MakeRow catalog_making t name kind u →
      (v : State) × MakeRow catalog_making (beside t f l es hs) name kind v × Lags v u
  make_lags name kind u row = (
    beside (record t { now = row.next }) f l es hs,
    record { new = row.new; next = row.next; made = row.made; is = refl },
    subst (Lags (beside (record t { now = row.next }) f l es hs)) (sym row.is)
        (lags_beside (record t { now = row.next }) f later l es hs behind thin fewer),
  )

  begin_lags : (n : ℕ) (u : State) → BeginRow t n u →
      (v : State) × BeginRow (beside t f l es hs) n v × Lags v u
  begin_lags n u row =
      let next : State = record t { live = maps.insert t.live n false; wear = t.wear + 1 } in
      let there : State = beside next f (maps.insert l n false) es hs in (
        there,
        record {
          can = record {
            number = row.can.number;
            fresh = λ lives. row.can.fresh ((behind.lives n).0 lives);
            few = subst (λ k. k < 64) (sym behind.few) row.can.few;
          };
          room = begin_room t.wear (length es) (length t.entries) (2 ^ 61 + 65536)
              (thinned_length t.live es t.entries thin) row.room;
          is = refl;
        },
        subst (Lags there) (sym row.is) (lags_beside next f later (maps.insert l n false) es hs
            (behind_begun l t.live behind n row.can.fresh)
            (thinned_more t.live es t.entries thin (maps.insert t.live n false)
            (λ k falls. (falls_fresh t.live n row.can.fresh k).0 falls))
            fewer),
      )

  -- the entries of one that runs
  same_own : (n : ℕ) → IsRunning t n → own n es ≡ own n t.entries
  same_own n run = thinned_own t.live es t.entries thin n run.standing

  -- nothing is left twice
  still_once : (n : ℕ) (e : Event) → IsRunning t n → (GoesTwice t.entries n e → ⊥) →
      GoesTwice es n e → ⊥
  still_once n e run once (c, left, (x, asked, at, leaves)) =
      once (c, left, (x, subst (λ xs. Contains xs (Asked x)) (same_own n run) asked, at, leaves))

  call_lags : (n : ℕ) (e : Event) (u : State) → CallRow catalog_meaning t n e u →
      (v : State) × CallRow catalog_meaning (beside t f l es hs) n e v × Lags v u
  call_lags n e u row =
      let added = hold n e.at (need_of e.call e.reply) in
      let can = row.can in
      let next : State = record t {
        now = after_at t.now e.at e.call e.reply;
        entries = t.entries ++ (n, Asked e) ∷ [];
        holds = u.holds;
        wear = t.wear + 1;
      } in
      let there : State = beside next f l (es ++ (n, Asked e) ∷ []) (hs ++ added ∷ []) in (
        there,
        record {
          can = record {
            running = runs n can.running;
            asked = (
              can.asked.0,
              can.asked.1,
              short_later t.format f later e.call can.asked.2,
            );
            told = reply_later t.format f later e.reply can.told;
            few = subst (λ xs. length xs < 1024) (sym (same_own n can.running)) can.few;
            answered = can.answered;
            once = still_once n e can.running can.once;
            clear = clear_of_fewer hs t.holds fewer n e.at (need_of e.call e.reply) can.clear;
          };
          room = room_of_fewer t.wear 1 (length es) (length t.entries) (2 ^ 61 + 65536)
              (thinned_length t.live es t.entries thin) row.room;
          holds = pushed_is_added hs added;
          is = refl;
        },
        subst (Lags there) (sym row.is)
            (lags_beside next f later l (es ++ (n, Asked e) ∷ []) (hs ++ added ∷ []) behind
            (thinned_push t.live es t.entries thin (n, Asked e))
            (fewer_added hs t.holds fewer u.holds added row.holds)),
      )

  later_lags : (n at : ℕ) (call : Call) (u : State) → LaterRow catalog_meaning t n at call u →
      (v : State) × LaterRow catalog_meaning (beside t f l es hs) n at call v × Lags v u
  later_lags n at call u row =
      let added = hold n at (need_of call Reply.Done) in
      let can = row.can in
      let next : State = record t {
        entries = t.entries ++ (n, Deferred at call) ∷ [];
        holds = u.holds;
        wear = t.wear + 1;
      } in
      let there : State = beside next f l (es ++ (n, Deferred at call) ∷ []) (hs ++ added ∷ []) in (
        there,
        record {
          can = record {
            running = runs n can.running;
            deferred = can.deferred;
            few = subst (λ xs. length xs < 1024) (sym (same_own n can.running)) can.few;
            ready = can.ready;
            clear = clear_of_fewer hs t.holds fewer n at (need_of call Reply.Done) can.clear;
          };
          room = room_of_fewer t.wear 1 (length es) (length t.entries) (2 ^ 61 + 65536)
              (thinned_length t.live es t.entries thin) row.room;
          holds = pushed_is_added hs added;
          is = refl;
        },
        subst (Lags there) (sym row.is)
            (lags_beside next f later l (es ++ (n, Deferred at call) ∷ []) (hs ++ added ∷ []) behind
            (thinned_push t.live es t.entries thin (n, Deferred at call))
            (fewer_added hs t.holds fewer u.holds added row.holds)),
      )

  -- a transaction goes
  left_lags : (n : ℕ) (u : State) → Lives t.live n → IsLeft t n u →
      (v : State) × IsLeft (beside t f l es hs) n v × Lags v u
  left_lags n u lives left =
      let next : State = record t {
        live = maps.remove t.live n;
        entries = others n t.entries;
        holds = u.holds;
      } in
      let still : List Hold = without_owner hs t.holds fewer n in
      let there : State = beside next f (maps.remove l n) (others n es) still in (
        there,
        record { holds = filtered_is_given_up n hs still refl; is = refl },
        subst (Lags there) (sym left.is)
            (lags_beside next f later (maps.remove l n) (others n es) still
            (behind_left l t.live behind n lives) (thinned_others t.live es t.entries thin n)
            (fewer_given_up hs t.holds fewer u.holds n left.holds)),
      )

  ended_lags : (n : ℕ) (u : State) → EndedRow t n u →
      (v : State) × EndedRow (beside t f l es hs) n v × Lags v u
  ended_lags n u row =
      let went = left_lags n u row.live row.left in (
        went.0,
        record {
          live = (behind.lives n).1 row.live;
          undone = thinned_own_calls t.live es t.entries thin n ∙ row.undone;
          left = went.1;
        },
        went.2,
      )

  back_lags : (n : ℕ) (u : State) → BackRow catalog_meaning t n u →
      (v : State) × BackRow catalog_meaning (beside t f l es hs) n v × Lags v u
  back_lags n u row =
      let newest = thinned_newest t.live es t.entries thin n row.call row.rest row.newest in
      let next : State = record t {
        now = row.next;
        live = fallen t.live n;
        entries = row.rest;
        wear = t.wear + 1;
      } in
      let there : State = beside next f (fallen l n) newest.0 hs in (
        there,
        record {
          live = (behind.lives n).1 row.live;
          call = row.call;
          rest = newest.0;
          newest = newest.1;
          next = row.next;
          undoes = row.undoes;
          is = refl;
        },
        subst (Lags there) (sym row.is)
            (lags_beside next f later (fallen l n) newest.0 hs
            (behind_felled l t.live behind n row.live)
            (thinned_more t.live newest.0 row.rest newest.2 (fallen t.live n)
            (falls_still t.live n row.live)) fewer),
      )

  -- who is live and falls behind a step of which no record tells
  still_behind : (m : Statuses) →
      (m ≡ t.live) ⊎ ((n : ℕ) × Lives t.live n × (m ≡ fallen t.live n)) →
      Behind l m × IsThinned m es t.entries
  still_behind m (inl same) = (
    subst (Behind l) (sym same) behind,
    subst (λ k. IsThinned k es t.entries) (sym same) thin,
  )
  still_behind m (inr (n, lives, falls)) = (
    subst (Behind l) (sym falls) (behind_fall l t.live behind n lives),
    subst (λ k. IsThinned k es t.entries) (sym falls)
        (thinned_more t.live es t.entries thin (fallen t.live n) (falls_still t.live n lives)),
  )

  -- a step of which no record tells
  unheard_lags : (u : State) → GoesUnheard t u → Lags (beside t f l es hs) u
  unheard_lags u step =
      let next : State = record t { live = u.live; holds = u.holds } in
      let still = still_behind u.live step.falls in
      subst (Lags (beside t f l es hs)) (sym step.is)
      (lags_beside next f later l es hs still.0 still.1 (λ h inside. step.more h (fewer h inside)))

module _ (t : State) (f : Format) (later : Allows t.format f) (l : Statuses) (es : List (ℕ × Entry))
    (hs : List Hold)
    (behind : Behind l t.live) (thin : IsThinned t.live es t.entries)
    (fewer : (h : Hold) → Contains hs h → Contains t.holds h) where
  -- what it deferred runs, and it goes
  commit_lags : (n : ℕ) (u : State) → CommitRow catalog_meaning t n u →
      (v : State) × CommitRow catalog_meaning (beside t f l es hs) n v × Lags v u
  commit_lags n u row =
      let same = sym (same_own t f later l es hs behind thin fewer n row.running) in
      let ran : State = record t {
        now = row.next;
        wear = t.wear + length (laters_of (own n t.entries));
      } in
      let went = left_lags ran f later l es hs behind thin fewer n u row.running.live row.left in (
        went.0,
        record {
          running = runs t f later l es hs behind thin fewer n row.running;
          next = row.next;
          runs = subst (λ xs. Leads (Does catalog_meaning) (laters_of xs) t.now row.next) same
              row.runs;
          left = subst (λ xs. IsLeft (record (beside t f l es hs)
              { now = row.next; wear = t.wear + length (laters_of xs) }) n went.0) same went.1;
        },
        went.2,
      )

  beside_step : (r : Record) (u : State) → Steps t r u →
      (v : State) × Steps (beside t f l es hs) r v × Lags v u
  beside_step (Record.Make kind name) u row =
      make_lags t f later l es hs behind thin fewer name kind u row
  beside_step (Record.Begin n) u row = begin_lags t f later l es hs behind thin fewer n u row
  beside_step (Record.Call c) u row =
      call_lags t f later l es hs behind thin fewer c.number (event_of c) u row
  beside_step (Record.Later c) u row =
      later_lags t f later l es hs behind thin fewer c.number c.collection c.call u row
  beside_step (Record.Commit n) u row = commit_lags n u row
  beside_step (Record.Back n) u row = back_lags t f later l es hs behind thin fewer n u row
  beside_step (Record.Ended n) u row = ended_lags t f later l es hs behind thin fewer n u row
  beside_step other u row = absurd row

-- ---- a state that lags goes along

-- a state that lags stands beside the other
is_beside : (s t : State) → Lags s t → s ≡ beside t s.format s.live s.entries s.holds
is_beside s t lag =
    ap (λ now. let v : State = record {
      now = now;
      live = s.live;
      entries = s.entries;
      holds = s.holds;
      wear = s.wear;
      format = s.format;
    } in v) lag.now
    ∙ ap (λ wear. let v : State = record {
      now = t.now;
      live = s.live;
      entries = s.entries;
      holds = s.holds;
      wear = wear;
      format = s.format;
    } in v) lag.wear

behind_of : (s t : State) → Lags s t → Behind s.live t.live
behind_of s t lag = record { few = lag.few; lives = lag.lives; falls = lag.falls }

pub lags_self : (s : State) → Lags s s
lags_self s = lags_beside s s.format (allows_self s.format) s.live s.entries s.holds
    (record { few = refl; lives = λ n. (λ h. h, λ h. h); falls = λ n h. h })
    (thinned_self s.live s.entries) (λ h inside. inside)

-- the same state in a later format
pub lags_format : (s : State) (f : Format) → Allows s.format f → Lags (record s { format = f }) s
lags_format s f later = lags_beside s f later s.live s.entries s.holds
    (record { few = refl; lives = λ n. (λ h. h, λ h. h); falls = λ n h. h })
    (thinned_self s.live s.entries) (λ h inside. inside)

pub lags_step : (s t : State) → Lags s t → (r : Record) (u : State) → Steps t r u →
    (v : State) × Steps s r v × Lags v u
lags_step s t lag r u row =
    subst (λ w. (v : State) × Steps w r v × Lags v u) (sym (is_beside s t lag))
    (beside_step t s.format lag.format s.live s.entries s.holds (behind_of s t lag) lag.entries
    lag.holds r u row)

pub lags_unheard : (s t : State) → Lags s t → (u : State) → GoesUnheard t u → Lags s u
lags_unheard s t lag u step =
    subst (λ w. Lags w u) (sym (is_beside s t lag))
    (unheard_lags t s.format lag.format s.live s.entries s.holds (behind_of s t lag) lag.entries
    lag.holds u step)

pub lags_calls : (s t : State) → Lags s t →
    calls_of (map (λ e. e.1) s.entries) ≡ calls_of (map (λ e. e.1) t.entries)
lags_calls s t lag = thinned_calls t.live s.entries t.entries lag.entries
