-- Calls that are taken back exactly, newest first, and made again in their order.
use Rattle.std.proofs.Common.{◌≡◌, ℕ, ◌+◌, ◌<◌, ◌≤◌, Bool, true, false, Option, Some, None}
use Rattle.std.proofs.Common.{MatchOption, List, [], ◌∷◌, ◌++◌, length, map, get_or, drop, take}
use Rattle.std.proofs.Common.{refl, sym, ◌∙◌, ap, subst, arith}
use Rattle.std.specs.Prelude.{◌↔◌, IsTrue}
use Rattle.std.specs.List.{AllByRecursion}
use Rattle.std.proofs.lemmas.List.{drop_more, drop_all, length-append, map-append, take-append-drop}
use Rattle.calls.specs.declared.call.Call.{Call}
use Rattle.calls.specs.declared.reply.Reply.{Reply}
use Rattle.calls.specs.Contents.{Collection, does}
use Rattle.calls.specs.Rules.{Askable, undone_by, inverse_of}
use Rattle.calls.specs.Transactions.{Event, Entry, Asked, Deferred, Leads, calls_of}
use Rattle.calls.proofs.ContentLaws.{undone_leads_on, done_leads_back}
use Rattle.undo_log.specs.declared.logged.Owned.{Owned}
use Rattle.undo_log.specs.Entries.{entry_of, owned_entry}
use Rattle.boosted.specs.Meaning as shape
use Rattle.boosted.specs.Meaning.{HasRoom, Meaning}
use Rattle.boosted.proofs.Each.{weaker, each_front, each_back}
use Rattle.boosted.proofs.Runs.{Leads-append, Leads-split, Leads-unique}
use Rattle.steps.specs.Machine.{Does}
use Rattle.replay.specs.Loading.{calls_in, HasRoomBack, HasLed, TakenBack, DoneAgain}
use Rattle.steps.proofs.JoinedEntries.{calls_append}
use Rattle.steps.proofs.DeferredRuns.{leads_once}
use Rattle.steps.proofs.RoomForRuns.{wears_more}
use Rattle.boosted.specs.Laws.{BoostedLaws}
use Rattle.catalog.specs.Making.{Making}
use Rattle.records.specs.Told.{Tells}

-- What taking back needs of the collections.
pub record TakeLaws {S : Type 0} (meaning : Meaning S ℕ) : Type 0 where
  pub calls : BoostedLaws meaning
  pub wears_more : (s : S) (n : ℕ) → meaning.within s n → meaning.within s (n + 1)
  -- where the inverse leads back, answered as the call is undone, the call leads on, if it gets its
  -- reply
  pub leads_on : (s t : S) (at : ℕ) (c : Call) (r : Reply) (back : Call) →
      inverse_of c r ≡ Some back → shape.Does meaning s at back (undone_by c r) t →
      meaning.answers t at c r → shape.Does meaning t at c r s
  -- where the call led on, the inverse leads back, and is answered so
  pub leads_back : (s t : S) (at : ℕ) (c : Call) (r : Reply) (back : Call) →
      inverse_of c r ≡ Some back → shape.Does meaning t at c r s →
      shape.Does meaning s at back (undone_by c r) t

module _ {S : Type 0} {meaning : Meaning S ℕ} {making : Making S}
    {collections : S → List Collection}
    (laws : BoostedLaws meaning) (told : Tells meaning making collections) where
  module _ (s t : S) (at : ℕ) (c : Call) (r : Reply) (back : Call)
      (is : inverse_of c r ≡ Some back) where
    on_again : shape.Does meaning s at back (undone_by c r) t → meaning.answers t at c r →
        shape.Does meaning t at c r s
    on_again d answered =
        let undoes : does (collections s) at back (undone_by c r) (collections t) = (
          (told.answers s at back (undone_by c r)).0 d.0,
          ap collections d.1 ∙ told.leaves s at back (undone_by c r) d.0,
        ) in
        let led = undone_leads_on (collections s) (collections t) at c r back is undoes
        ((told.answers t at c r).0 answered) in (
          answered,
          told.told_apart s (meaning.leaves t at c r)
              (led.1 ∙ sym (told.leaves t at c r answered)),
        )

    back_again : shape.Does meaning t at c r s → shape.Does meaning s at back (undone_by c r) t
    back_again d =
        let led : does (collections t) at c r (collections s) =
        ((told.answers t at c r).0 d.0, ap collections d.1 ∙ told.leaves t at c r d.0) in
        let undoes = done_leads_back (collections s) (collections t) at c r back is led in
        let answered = (told.answers s at back (undone_by c r)).1 undoes.0 in (
          answered,
          told.told_apart t (meaning.leaves s at back (undone_by c r))
              (undoes.1 ∙ sym (told.leaves s at back (undone_by c r) answered)),
        )

  pub take_laws : TakeLaws meaning
  take_laws =
      record {
        calls = laws;
        wears_more = wears_more told;
        leads_on = on_again;
        leads_back = back_again;
      }

-- ---- the calls among what was asked for

first_calls : (e : Entry) (es : List Entry) → calls_of (e ∷ es) ≡ calls_of (e ∷ []) ++ calls_of es
first_calls (Asked e) es = refl
first_calls (Deferred at c) es = refl

calls_in_append : (os qs : List Owned) → calls_in (os ++ qs) ≡ calls_in os ++ calls_in qs
calls_in_append os qs =
    ap (λ l. calls_of (map (λ e. e.1) l)) (map-append owned_entry os qs)
    ∙ ap calls_of (map-append (λ e. e.1) (map owned_entry os) (map owned_entry qs))
    ∙ calls_append (map (λ e. e.1) (map owned_entry os)) (map (λ e. e.1) (map owned_entry qs))

-- the call of one entry, or none
abbrev pub call_in : Owned → List Event
call_in o = calls_of (entry_of o.entry.now ∷ [])

next_calls : (os : List Owned) (i : ℕ) (o : Owned) → i < length os → o ≡ get_or os i o →
    calls_in (drop i os) ≡ call_in o ++ calls_in (drop (i + 1) os)
next_calls os i o below is =
    ap calls_in (drop_more os i o below ∙ ap (λ v. v ∷ drop (i + 1) os) (sym is))
    ∙ first_calls (entry_of o.entry.now) (map (λ e. e.1) (map owned_entry (drop (i + 1) os)))

split_calls : (os : List Owned) (i : ℕ) → calls_in os ≡ calls_in (take i os) ++ calls_in (drop i os)
split_calls os i = ap calls_in (sym (take-append-drop i os)) ∙
    calls_in_append (take i os) (drop i os)

-- So far the entries before the place were made again: where the others lead, all lead from the
-- start.
pub record IsMakingSo {S : Type 0} (meaning : Meaning S ℕ) (os : List Owned) (start : S) (i : ℕ)
    (now : S) : Type 0 where
  pub can : HasLed meaning (calls_in (drop i os)) now
  pub leads : (t : S) → Leads (Does meaning) (calls_in (drop i os)) now t →
      Leads (Does meaning) (calls_in os) start t

module _ {S : Type 0} (meaning : Meaning S ℕ) (laws : TakeLaws meaning) where
  abbrev Led : List Event → S → S → Type 0
  Led es s t = Leads (Does meaning) es s t

  abbrev AllAsked : List Event → Type 0
  AllAsked es = AllByRecursion (λ e. Askable e.call) es

  -- ---- one call

  module _ (e : Event) (asked : Askable e.call) where
    abbrev Back : Option Call → S → S → Type 0
    Back o s t = MatchOption o (t ≡ s)
        (λ back. (reply : Reply) × shape.Does meaning s e.at back reply t)

    -- The call leads to a content from one alone,
    one_before : (s u t : S) → Does meaning s e t → Does meaning u e t → s ≡ u
    one_before s u t d k = sym (((laws.calls.holds s).goes_back t e.at e.call e.reply asked d).1 u
        ((laws.calls.holds u).goes_back t e.at e.call e.reply asked k).0)

    undone_within : (o : Option Call) (s t : S) (n : ℕ) → Back o s t → meaning.within s n →
        meaning.within t (n + 1)
    undone_within None s t n undone reached =
        subst (λ v. meaning.within v (n + 1)) (sym undone) (laws.wears_more s n reached)
    undone_within (Some back) s t n undone reached =
        subst (λ v. meaning.within v (n + 1)) (sym undone.1.1)
        ((laws.calls.holds s).wears n e.at back undone.0 reached undone.1.0)

    -- which one run more can reach.
    one_within : (s t : S) (n : ℕ) → Does meaning t e s → meaning.within s n →
        meaning.within t (n + 1)
    one_within s t n d reached = undone_within (inverse_of e.call e.reply) s t n
        ((laws.calls.holds t).goes_back s e.at e.call e.reply asked d).0 reached

    from_led : (u s : S) → Led (e ∷ []) u s → Does meaning u e s
    from_led u s w = subst (λ v. Does meaning u e v) w.2 w.1

    -- A call that changed nothing was done last exactly where it gets its reply now.
    pub taken_none : (s : S) (yes : Bool) → inverse_of e.call e.reply ≡ None →
        IsTrue yes ↔ meaning.answers s e.at e.call e.reply → TakenBack meaning (e ∷ []) yes s s
    taken_none s true none fits =
        let answered = fits.0 refl in
        let same : s ≡ meaning.leaves s e.at e.call e.reply =
        subst (λ o. Back o (meaning.leaves s e.at e.call e.reply) s) none
        ((laws.calls.holds s).goes_back (meaning.leaves s e.at e.call e.reply) e.at e.call
        e.reply asked (answered, refl)).0 in
        (s, (answered, same), refl)
    taken_none s false none fits = λ u w.
        let led = from_led u s w in
        let same : u ≡ s = subst (λ o. Back o s u) none
        ((laws.calls.holds u).goes_back s e.at e.call e.reply asked led).0 in
        let no_one = fits.1 (subst (λ v. meaning.answers v e.at e.call e.reply) same led.0) in cc

    module _ (back : Call) (is : inverse_of e.call e.reply ≡ Some back) (s : S) where
      -- Where its inverse is not answered as the call is undone, it was not done last.
      pub taken_not : (t : S) → (meaning.answers s e.at back (undone_by e.call e.reply) → ⊥) →
          TakenBack meaning (e ∷ []) false s t
      taken_not t stuck = λ u w. stuck
          (laws.leads_back s u e.at e.call e.reply back is (from_led u s w)).0

      -- Where it is, the call was done last exactly if it gets its reply behind that.
      pub taken_so : (t : S) (yes : Bool) → meaning.answers s e.at back (undone_by e.call e.reply) →
          t ≡ meaning.leaves s e.at back (undone_by e.call e.reply) →
          IsTrue yes ↔ meaning.answers t e.at e.call e.reply → TakenBack meaning (e ∷ []) yes s t
      taken_so t true answered gone fits =
          (s, laws.leads_on s t e.at e.call e.reply back is (answered, gone) (fits.0 refl), refl)
      taken_so t false answered gone fits = λ u w.
          let led = from_led u s w in
          let same : u ≡ t = (laws.leads_back s u e.at e.call e.reply back is led).1 ∙ sym gone in
          let no_one = fits.1 (subst (λ v. meaning.answers v e.at e.call e.reply) same led.0) in cc

  -- ---- many calls

  within_before : (es : List Event) (s t : S) (n : ℕ) → AllAsked es → Led es t s →
      meaning.within s n → meaning.within t (n + length es)
  within_before [] s t n asked led reached =
      subst (meaning.within t) (omega arith) (subst (λ v. meaning.within v n) (sym led) reached)
  within_before (e ∷ es) s t n asked led reached =
      subst (meaning.within t) (omega arith)
      (one_within e asked.0 led.0 t (n + length es) led.1
      (within_before es s led.0 n asked.1 led.2 reached))

  once_before : (es : List Event) (s u t : S) → AllAsked es → Led es s t → Led es u t → s ≡ u
  once_before es s u t asked w v =
      Leads-unique (Does meaning) es s u t
      (weaker (λ e. Askable e.call) (λ e. (s u t : S) → Does meaning s e t → Does meaning u e t →
      s ≡ u) (λ e ask. one_before e ask) es asked) w v

  -- There is room for a call that may be made again.
  pub led_room : (es : List Event) (s : S) → HasLed meaning es s → HasRoom meaning s
  led_room es s led = let room = led.room.room in (
    led.room.wear + length es,
    within_before es led.next s led.room.wear led.room.asked led.runs
        led.room.reached,
    omega arith,
  )

  led_front : (es fs : List Event) (s : S) → HasLed meaning (es ++ fs) s → HasLed meaning es s
  led_front es fs s led =
      let parts = Leads-split (Does meaning) es fs s led.next led.runs in
      let all = length-append es fs in
      let most = led.room.room in
      record {
        next = parts.0;
        runs = parts.1;
        room = record {
          asked = each_front (λ e. Askable e.call) es fs led.room.asked;
          wear = led.room.wear + length fs;
          reached = within_before fs led.next parts.0 led.room.wear
              (each_back (λ e. Askable e.call) es fs led.room.asked) parts.2 led.room.reached;
          room = omega arith;
        };
      }

  led_back : (es fs : List Event) (s t : S) → HasLed meaning (es ++ fs) s → Led es s t →
      HasLed meaning fs t
  led_back es fs s t led runs =
      let parts = Leads-split (Does meaning) es fs s led.next led.runs in
      let all = length-append es fs in
      let most = led.room.room in
      record {
        next = led.next;
        runs = subst (λ v. Led fs v led.next) (leads_once meaning es s parts.0 t parts.1 runs)
            parts.2;
        room = record {
          asked = each_back (λ e. Askable e.call) es fs led.room.asked;
          wear = led.room.wear;
          reached = led.room.reached;
          room = omega arith;
        };
      }

  module _ (os : List Owned) (start : S) where
    -- ---- taking back

    module _ (p i : ℕ) (o : Owned) (one : p ≡ i + 1) (most : p ≤ length os) (is : o ≡ get_or os i o)
        (room : HasRoomBack meaning (calls_in os) start) (now : S)
        (from : Led (calls_in (drop p os)) now start) where
      below : i < length os
      below = omega arith

      led : Led (calls_in (drop (i + 1) os)) now start
      led = subst (λ k. Led (calls_in (drop k os)) now start) one from

      parts : calls_in os ≡ calls_in (take i os) ++ (call_in o ++ calls_in (drop (i + 1) os))
      parts = split_calls os i ∙ ap (λ l. calls_in (take i os) ++ l) (next_calls os i o below is)

      asked_from : AllAsked (call_in o ++ calls_in (drop (i + 1) os))
      asked_from = each_back (λ e. Askable e.call) (calls_in (take i os))
          (call_in o ++ calls_in (drop (i + 1) os)) (subst AllAsked parts room.asked)

      asked_behind : AllAsked (calls_in (drop (i + 1) os))
      asked_behind = each_back (λ e. Askable e.call) (call_in o) (calls_in (drop (i + 1) os))
          asked_from

      -- There is room for the entry at the place.
      pub taking_room : HasRoomBack meaning (call_in o) now
      taking_room =
          let size = ap length parts ∙ length-append (calls_in (take i os))
          (call_in o ++ calls_in (drop (i + 1) os)) in
          let more = length-append (call_in o) (calls_in (drop (i + 1) os)) in
          let fits = room.room in
          record {
            asked = each_front (λ e. Askable e.call) (call_in o) (calls_in (drop (i + 1) os))
                asked_from;
            wear = room.wear + length (calls_in (drop (i + 1) os));
            reached = within_before (calls_in (drop (i + 1) os)) start now room.wear asked_behind
                led room.reached;
            room = omega arith;
          }

      -- It is taken back,
      pub taking_next : (more : S) → TakenBack meaning (call_in o) true now more →
          Led (calls_in (drop i os)) more start
      taking_next more taken = subst (λ l. Led l more start) (sym (next_calls os i o below is))
          (Leads-append (Does meaning) (call_in o) (calls_in (drop (i + 1) os)) more now start taken
          led)

      -- or it cannot be, and so not all were done.
      pub taking_stuck : (more t : S) → TakenBack meaning (call_in o) false now more →
          TakenBack meaning (calls_in os) false start t
      taking_stuck more t stuck = λ u w.
          let first = Leads-split (Does meaning) (calls_in (take i os))
          (call_in o ++ calls_in (drop (i + 1) os)) u start
          (subst (λ l. Led l u start) parts w) in
          let second = Leads-split (Does meaning) (call_in o) (calls_in (drop (i + 1) os)) first.0
          start first.2 in
          let same = once_before (calls_in (drop (i + 1) os)) second.0 now start asked_behind
          second.2 led in
          stuck first.0 (subst (λ v. Led (call_in o) first.0 v) same second.1)

    -- ---- making again

    module _ (i : ℕ) (o : Owned) (below : i < length os) (is : o ≡ get_or os i o) (now : S)
        (so : IsMakingSo meaning os start i now) where
      from_here : HasLed meaning (call_in o ++ calls_in (drop (i + 1) os)) now
      from_here = subst (λ l. HasLed meaning l now) (next_calls os i o below is) so.can

      -- the entry at the place can be made again,
      pub making_can : HasLed meaning (call_in o) now
      making_can = led_front (call_in o) (calls_in (drop (i + 1) os)) now from_here

      -- and is
      pub making_next : (more : S) → Led (call_in o) now more →
          IsMakingSo meaning os start (i + 1) more
      making_next more made = record {
        can = led_back (call_in o) (calls_in (drop (i + 1) os)) now more from_here made;
        leads = λ t w. so.leads t (subst (λ l. Led l now t) (sym (next_calls os i o below is))
            (Leads-append (Does meaning) (call_in o) (calls_in (drop (i + 1) os)) now more t made
            w));
      }

    pub making_end : (i : ℕ) (now : S) → length os ≤ i → IsMakingSo meaning os start i now →
        Led (calls_in os) start now
    making_end i now past so = so.leads now
        (subst (λ l. Led l now now) (sym (ap calls_in (drop_all i os past))) refl)

  -- ---- both

  pub made_again : (es : List Event) (s p t : S) → Led es p s → Led es p t →
      DoneAgain meaning es true s t
  made_again es s p t before again = (leads_once meaning es p t s again before, (p, before))
