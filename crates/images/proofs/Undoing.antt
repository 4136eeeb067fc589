-- The call that takes another back, and that it leads where the machine's step does.
use Rattle.calls.specs.declared.format.Format.{Format}
use Rattle.calls.specs.Formats.{widest}
use Rattle.std.proofs.Common.{◌≡◌, ℕ, ◌+◌, Option, Some, None, MatchOption, List, [], ◌∷◌, map}
use Rattle.std.proofs.Common.{refl, sym, ◌∙◌, ap, subst, arith}
use Rattle.std.specs.List.{AllByRecursion}
use Rattle.std.specs.Option.{option_to_list}
use Rattle.calls.specs.declared.call.Call.{Call}
use Rattle.calls.specs.declared.reply.Reply.{Reply}
use Rattle.calls.specs.Rules.{inverse_of, IsShort}
use Rattle.calls.specs.Transactions.{Event, Entry, Asked, Leads, calls_of}
use Rattle.undo_log.specs.Entries.{IsNewestCall}
use Rattle.undo_log.specs.Logs.{fallen}
use Rattle.boosted.specs.Meaning.{Meaning, Undoes}
use Rattle.boosted.proofs.Each.{each_back}
use Rattle.catalog.specs.Making.{Making}
use Rattle.records.specs.Short.{IsShortReply}
use Rattle.records.proofs.Items.{widest_reply, short_inverse}
use Rattle.steps.specs.Machine.{State, Does, BackRow}
use Rattle.steps.specs.Machines.{IsUpheld, IsAskedEntry}
use Rattle.steps.specs.Sound.{IsSound}
use Rattle.steps.proofs.BookLaws.{BookLaws}
use Rattle.steps.proofs.DeferredRuns.{leads_once}
use Rattle.steps.proofs.Steps.{back_settles}
use Rattle.steps.proofs.UndoneCall.{newest_once}
use Rattle.images.specs.declared.effect.Effect.{Effect}
use Rattle.images.specs.Gatherings.{TakesBack}

-- the newest call got a reply that can be spelled
pub newest_short : (f : Format) (n : ℕ) (x : Event) (es rest : List (ℕ × Entry)) →
    IsNewestCall n es x rest →
    AllByRecursion (λ e. IsAskedEntry f e.1) es → IsShortReply widest x.reply
newest_short f n x es rest newest asked = widest_reply f x.reply
    ((each_back (λ (e : ℕ × Entry). IsAskedEntry f e.1) newest.before ((n, Asked x) ∷ newest.after)
    (subst (AllByRecursion (λ e. IsAskedEntry f e.1)) newest.is asked)).0.3)

module _ {S : Type 0} (meaning : Meaning S ℕ) (making : Making S) (short : Format → S → Type 0)
    (laws : BookLaws meaning making short) (s : State S)
    (upheld : IsUpheld meaning making short (IsSound meaning making) s) (n : ℕ) (x : Event)
    (rest : List (ℕ × Entry)) (newest : IsNewestCall n s.entries x rest) where
  -- What takes the call back leads to one content.
  pub back_once : (t : State S) → BackRow meaning s n t → (u : S) →
      Undoes meaning s.now x.at x.call x.reply u → t.now ≡ u
  back_once t row u undoes =
      let other : State S = record s {
        now = u;
        live = fallen s.live n;
        entries = rest;
        wear = s.wear + 1;
      } in
      let step : BackRow meaning s n other = record {
        live = row.live;
        call = x;
        rest = rest;
        newest = newest;
        next = u;
        undoes = undoes;
        is = refl;
      } in
      let same = (newest_once n s.entries row.call x row.rest rest row.newest newest).1 in
      let sound = upheld.holds in
      let here = back_settles meaning making laws.rules s sound n t sound.content row
      sound.settled in
      let there = back_settles meaning making laws.rules s sound n other sound.content step
      sound.settled in
      let entries : t.entries ≡ rest = ap (λ (v : State S). v.entries) row.is ∙ same in
      leads_once meaning (calls_of (map (λ e. e.1) rest)) sound.content t.now u
      (subst (λ l. Leads (Does meaning) (calls_of (map (λ e. e.1) l)) sound.content t.now) entries
      here) there

-- What takes a call back, made ready to be noted.
module _ {S : Type 0} (meaning : Meaning S ℕ) (lsn : ℕ) (x : Event) (s : S) where
  -- Where nothing takes it back, it had changed nothing.
  pub not_taken_back : inverse_of x.call x.reply ≡ None →
      (t : S) × TakesBack meaning lsn x [] s t
  not_taken_back none = (
    s,
    record {
      undoes = subst (λ o. MatchOption o (s ≡ s)
          (λ back. (reply : Reply) × (meaning.answers s x.at back reply ×
          (s ≡ meaning.leaves s x.at back reply)))) (sym none) refl;
      run = record { leads = refl; short = tt; there = tt };
      one = omega arith;
      inverse = (tt, ap option_to_list (sym none));
    },
  )

  pub taken_back_by : (back : Call) → inverse_of x.call x.reply ≡ Some back →
      IsShortReply widest x.reply → (e : Effect) → (e.lsn ≡ lsn) →
      (e.collection ≡ x.at) → (e.call ≡ back) → meaning.answers s x.at back e.reply →
      (t : S) × TakesBack meaning lsn x (e ∷ []) s t
  taken_back_by back is told e there at call answers =
      let t = meaning.leaves s x.at back e.reply in (
        t,
        record {
          undoes = subst (λ o. MatchOption o (t ≡ s)
              (λ b. (reply : Reply) × (meaning.answers s x.at b reply ×
              (t ≡ meaning.leaves s x.at b reply)))) (sym is) (e.reply, (answers, refl));
          run = record {
            leads = (
              t,
              subst (λ b. Does meaning s (record { at = e.collection; call = b; reply = e.reply })
                  t)
                  (sym call)
                  (subst (λ p. Does meaning s (record { at = p; call = back; reply = e.reply }) t)
                  (sym at) (answers, refl)),
              refl,
            );
            short = (
              subst (IsShort widest) (sym call) (short_inverse widest x.call x.reply back told is),
              tt,
            );
            there = (there, tt);
          };
          one = omega arith;
          inverse = ((at, tt), ap (λ c. c ∷ []) call ∙ ap option_to_list (sym is));
        },
      )

  pub can_take_back : IsShortReply widest x.reply →
      ((t : S) × Undoes meaning s x.at x.call x.reply t) →
      (t : S) × (es : List Effect) × TakesBack meaning lsn x es s t
  can_take_back told can = by (inverse_of x.call x.reply) refl
    where
      by : (o : Option Call) → inverse_of x.call x.reply ≡ o →
          (t : S) × (es : List Effect) × TakesBack meaning lsn x es s t
      by None is = let none = not_taken_back is in (none.0, [], none.1)
      by (Some back) is =
          let did : (reply : Reply) × (meaning.answers s x.at back reply ×
          (can.0 ≡ meaning.leaves s x.at back reply)) =
          subst (λ o. MatchOption o (can.0 ≡ s)
          (λ b. (reply : Reply) × (meaning.answers s x.at b reply ×
          (can.0 ≡ meaning.leaves s x.at b reply)))) is can.1 in
          let one : Effect = record {
            lsn = lsn;
            collection = x.at;
            call = back;
            reply = did.0;
          } in
          let taken = taken_back_by back is told one refl refl refl did.1.0 in
          (taken.0, one ∷ [], taken.1)
