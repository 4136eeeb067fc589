-- The image of a freeze is read: it leads to a state that lags behind the book's.
use Rattle.std.proofs.Common.{◌≡◌, ℕ, ◌+◌, ◌<◌, ◌≤◌, ◌^◌, inr, ⊎_elim, Bool, not, ◌&&◌, None, List}
use Rattle.std.proofs.Common.{[], ◌∷◌, ◌++◌, length, map, refl, sym, ◌∙◌, ap, subst, arith}
use Rattle.std.specs.Prelude.{◌↔◌, Contains, Vec}
use Rattle.std.specs.declared.alloc.Global.{Global}
use Rattle.std.specs.FinMap as maps
use Rattle.std.specs.Ordering.{nat_cmp}
use Rattle.calls.specs.declared.format.Format.{Format}
use Rattle.calls.specs.Formats.{Allows}
use Rattle.calls.specs.Contents.{Collection}
use Rattle.calls.specs.Transactions.{Entry, Leads, calls_of, own}
use Rattle.abstract_locks.specs.declared.table.Hold.{Hold}
use Rattle.undo_log.specs.Logs.{Statuses, Lives, Falls}
use Rattle.catalog.specs.Holdings.{AreNamed}
use Rattle.catalog.specs.Making.{names_of, AreDistinct}
use Rattle.records.specs.declared.record.Record.{Record}
use Rattle.records.specs.Records.{IsNumber}
use Rattle.records.specs.Images.{Rise, IsImage}
use Rattle.records.specs.Short.{AreShort}
use Rattle.records.specs.Packings.{joined}
use Rattle.txn.specs.Books.{BookState, IsKept}
use Rattle.images.specs.Images.{IsPackedImage}
use Rattle.images.specs.LiveRecords.{live_records}
use Rattle.steps.specs.Machine.{Does, journalled}
use Rattle.steps.specs.Machines.{resting, IsAskedEntry, IsUpheld}
use Rattle.steps.specs.Sound.{IsSound, Shows, all_owned}
use Rattle.steps.specs.Theory.Rules.{Has}
use Rattle.steps.specs.Theory.Journal as journal
use Rattle.steps.specs.Theory.Images.{image_of, shown, is_put, member}
use Rattle.steps.specs.Theory.Loads as loads
use Rattle.steps.proofs.Theory.Lists.{at, filter_has}
use Rattle.steps.proofs.Theory.Loading.{image_loads}
use Rattle.steps.proofs.LiveNumbers.{nobody}
use Rattle.steps.proofs.OwnedEntries.{owner}
use Rattle.steps.proofs.Readings.{journalled_upheld}
use Rattle.replay.specs.Steps.{State}
use Rattle.replay.specs.Reading.{Progress, Unread, InCollections, InJournal, Reads, Settles}
use Rattle.replay.specs.Lagging.{Lags, IsThinned}
use Rattle.replay.proofs.CatalogLaws.{laws}
use Rattle.replay.proofs.Formats.{allows_self}
use Rattle.replay.proofs.Lists.{leads_append}
use Rattle.replay.proofs.ReadLemmas.{IsBehind}
use Rattle.replay.proofs.ImageItems.{told_reads, IsTelling}
use Rattle.recovery.proofs.ImageNumbers.{all_held, as_many, stood, stood_lives, stood_falls}
use Rattle.recovery.proofs.ImageNumbers.{stood_len}
use Rattle.recovery.proofs.ImageNumbers.{AreAbove, StandsAt, collections_stand, numbers_read}
use Rattle.recovery.proofs.ImageNumbers.{IsStanding}
use Rattle.recovery.proofs.ImageEntries.{kept, entry_record, kept_records, kept_each, kept_calls}
use Rattle.recovery.proofs.ImageEntries.{kept_thinned, kept_length, kept_own, kept_shown}
use Rattle.recovery.proofs.ImageEntries.{all_placed}
use Rattle.recovery.proofs.ImageEntries.{Placed}
use Rattle.recovery.proofs.ImageCalls.{rules, Theirs, map_has, IsLater, AsksAt, HasAsked}
use Rattle.recovery.proofs.ImageCalls.{entries_read}
use Rattle.catalog.specs.Meaning.{catalog_meaning, catalog_making}

-- ---- the numbers that are live

nobody_falls : (n : ℕ) → Falls maps.empty n → ⊥
nobody_falls n falls = let none = maps.get-empty {X = Bool} nat_cmp n in cc

-- The numbers of a book that are live, told in their order.
module _ (s : State) (upheld : IsUpheld catalog_meaning catalog_making AreShort
    (IsSound catalog_meaning catalog_making) s) (ns : List ℕ)
    (are : (n : ℕ) → Contains ns n ↔ Lives s.live n) (rise : Rise ns) where
  abbrev begun : Statuses
  begun = stood maps.empty ns

  -- the state with them and nothing that they asked for
  abbrev standing : State
  standing = record {
    now = s.now;
    live = begun;
    entries = [];
    holds = [];
    wear = s.wear;
    format = s.format;
  }

  all_above : AreAbove maps.empty ns
  all_above = all_held (λ n. (m : ℕ) → Lives maps.empty m → m < n) ns
      (λ n held m lives. absurd (nobody m lives))

  begun_lives : (n : ℕ) → Lives begun n ↔ Lives s.live n
  begun_lives n = (
    λ lives. ⊎_elim (λ (none : Lives maps.empty n). absurd (nobody n none))
        (λ (held : Contains ns n). (are n).0 held) ((stood_lives ns maps.empty n).0 lives),
    λ lives. (stood_lives ns maps.empty n).1 (inr ((are n).1 lives)),
  )

  none_falls : (n : ℕ) → Falls begun n → ⊥
  none_falls = stood_falls ns maps.empty nobody_falls

  begun_len : maps.len begun ≡ maps.len s.live
  begun_len = let none = maps.len-empty nat_cmp Bool in
      let all = stood_len ns maps.empty rise all_above in let many = as_many ns s.live rise are in
      omega (arith, none, all, many)

  numbers_lead : (next : ℕ) (p : Progress) → ((n : ℕ) → Lives s.live n → n < next) →
      StandsAt next (resting s.format s.now s.wear) p →
      IsStanding next (map Record.Begin ns) p standing
  numbers_lead next p below stands =
      let none = maps.len-empty nat_cmp Bool in
      let many = as_many ns s.live rise are in
      let few = upheld.few_live in
      numbers_read ns next (resting s.format s.now s.wear) p stands rise
      (all_held IsNumber ns (λ n held. upheld.numbers n ((are n).0 held)))
      (all_held (λ n. n < next) ns (λ n held. below n ((are n).0 held))) all_above
      (omega (arith, none, many, few))

  -- ---- what they asked for

  abbrev m : Theirs
  m = upheld.holds.machine

  abbrev kept_here : List (ℕ × Entry)
  kept_here = kept s.live s.entries

  standing_shown : Shows standing (loads.loaded rules m.now m.live [])
  standing_shown =
      let shows = upheld.holds.shows in
      record {
        now = shows.now;
        entries = refl;
        live = λ n. (
          λ h. (begun_lives n).1 ((shows.live n).0 h),
          λ lives. (shows.live n).1 ((begun_lives n).0 lives),
        );
        falling = λ n. (λ h. absurd h, λ falls. none_falls n falls);
        needs = λ h. (λ none. absurd none, λ held. let below = held.1 in absurd (omega arith));
      }

  image_entries : (image_of rules m).entries ≡ all_owned kept_here
  image_entries = ap (shown owner m.falling) upheld.holds.shows.entries ∙
      kept_shown s.live m.falling upheld.holds.shows.falling s.entries

  image_read : loads.Loads rules (all_owned kept_here) (loads.loaded rules m.now m.live [])
      (image_of rules m)
  image_read = subst (λ es. loads.Loads rules es (loads.loaded rules m.now m.live [])
      (image_of rules m)) image_entries (image_loads laws.rules m upheld.holds.sound)

  few_kept : (n : ℕ) → length (own n kept_here) ≤ 1024
  few_kept n = let few = upheld.few_calls n in let fewer = kept_own n s.live s.entries in
      omega arith

  room_kept : s.wear + length kept_here ≤ 2 ^ 61 + 65536
  room_kept = let room = upheld.unworn in let fewer = kept_length s.live s.entries in omega arith

  asked_lead : (next : ℕ) (p : Progress) → AsksAt next standing p →
      HasAsked next kept_here p standing (image_of rules m)
  asked_lead next p asks =
      entries_read kept_here next standing p (loads.loaded rules m.now m.live []) (image_of rules m)
      asks standing_shown image_read
      (kept_each (λ e. IsAskedEntry s.format e.1) s.live s.entries upheld.asked)
      (kept_each (λ e. Placed s.now e.1) s.live s.entries
      (all_placed s.entries upheld.holds.content s.now upheld.holds.settled))
      few_kept room_kept

  -- ---- the state behind them

  module _ (v : State) (shows : Shows v (image_of rules m)) (now : v.now ≡ s.now)
      (live : v.live ≡ begun) (wear : v.wear ≡ s.wear) (entries : v.entries ≡ kept_here)
      (format : v.format ≡ s.format) where
    settles : Settles v
    settles = (
      upheld.holds.content,
      subst (λ es. Leads (Does catalog_meaning) es upheld.holds.content v.now)
          (sym (ap (λ es. calls_of (map (λ e. e.1) es)) entries ∙ kept_calls s.live s.entries))
          (subst (λ t. Leads (Does catalog_meaning) (calls_of (map (λ e. e.1) s.entries))
          upheld.holds.content t) (sym now) upheld.holds.settled),
    )

    held_there : (h : Hold) → Contains v.holds h → Contains s.holds h
    held_there h held =
        let one = map_has (λ e. rules.need (journal.event e)) (shown owner m.falling m.entries) h
        ((shows.needs h).1 held) in
        let there = filter_has (λ e. not (is_put e && member m.falling (journal.asker owner e)))
        m.entries one.0 one.1 in
        let need : Has m.needs (rules.need (journal.event one.0)) =
        at (λ e. Has m.needs (rules.need (journal.event e))) m.entries one.0
        upheld.holds.sound.held there.0 in
        (upheld.holds.shows.needs h).0 (subst (Has m.needs) one.2 need)

    lags : Lags v s
    lags = record {
      now = now;
      wear = wear;
      format = subst (λ f. Allows s.format f) (sym format) (allows_self s.format);
      few = ap maps.len live ∙ begun_len;
      lives = λ n. subst (λ l. Lives l n ↔ Lives s.live n) (sym live) (begun_lives n);
      falls = λ n falls. absurd (none_falls n (subst (λ l. Falls l n) live falls));
      entries = subst (λ es. IsThinned s.live es s.entries) (sym entries)
          (kept_thinned s.live s.entries);
      holds = held_there;
    }

  -- ---- the rest of the image

  -- The records lead from there to the journal, at a state that lags behind.
  abbrev Rests : (next : ℕ) → List Record → Progress → Type 0
  Rests next rs p = (v : State) × Leads Reads rs p (InJournal next v 0) × Lags v s

  asked_rest : (next : ℕ) (p : Progress) → HasAsked next kept_here p standing (image_of rules m) →
      Rests next (map entry_record kept_here ++ Record.ImageEnd ∷ []) p
  asked_rest next p asked =
      let v : State = asked.state in
      let goal : Progress = InJournal next v 0 in (
        v,
        leads_append Reads (map entry_record kept_here) (Record.ImageEnd ∷ []) p asked.there goal
            asked.leads (
              goal,
              asked.asks Record.ImageEnd goal tt (
                settles v asked.shows asked.now asked.live asked.wear asked.entries asked.format,
                refl,
              ),
              refl,
            ),
        lags v asked.shows asked.now asked.live asked.wear asked.entries asked.format,
      )

  later_behind : (r : Record) → IsLater r → IsBehind r
  later_behind (Record.LiveCall c) later = tt
  later_behind (Record.LiveLater l) later = tt
  later_behind Record.ImageEnd later = tt
  later_behind r later = absurd later

  numbers_rest : (next : ℕ) (p : Progress) → IsStanding next (map Record.Begin ns) p standing →
      Rests next (map Record.Begin ns ++ (map entry_record kept_here ++ Record.ImageEnd ∷ [])) p
  numbers_rest next p numbers =
      let rest = asked_rest next numbers.there
      (asked_lead next numbers.there (λ r q later live. numbers.stands r q
      (later_behind r later) live)) in (
        rest.0,
        leads_append Reads (map Record.Begin ns)
            (map entry_record kept_here ++ Record.ImageEnd ∷ []) p numbers.there
            (InJournal next rest.0 0) numbers.leads rest.1,
        rest.2,
      )

  told_rest : (next : ℕ) (told : List Record) (p : Progress) →
      ((n : ℕ) → Lives s.live n → n < next) →
      IsTelling next told p (resting s.format s.now s.wear) →
      Rests next (told ++ (map Record.Begin ns ++
      (map entry_record kept_here ++ Record.ImageEnd ∷ []))) p
  told_rest next told p below telling =
      let there : Progress = InCollections next telling.state telling.last in
      let rest = numbers_rest next there
      (numbers_lead next there below (collections_stand next telling.state
      (resting s.format s.now s.wear) telling.last telling.closes)) in (
        rest.0,
        leads_append Reads told
            (map Record.Begin ns ++ (map entry_record kept_here ++ Record.ImageEnd ∷ [])) p there
            (InJournal next rest.0 0) telling.leads rest.1,
        rest.2,
      )

  image_lead : (next : ℕ) (live rs : List Record) → live ≡ map entry_record kept_here →
      IsImage s.format next s.wear s.now ns live rs → ((n : ℕ) → Lives s.live n → n < next) →
      AreNamed s.now → AreDistinct (names_of s.now) → Rests next rs (Unread Format.One)
  image_lead next live rs live_is image below good distinct =
      let p : Progress = InCollections next (resting s.format [] s.wear) None in
      let rest = told_rest next image.told p below
      (told_reads s.format next s.wear s.now image.told image.tells upheld.spells good distinct
      upheld.few_names
      upheld.reached) in
      let worn = upheld.unworn in
      let low : s.wear ≤ 2 ^ 61 + 65536 = omega arith in
      let is : Record.Marks s.format next s.wear ∷
      (image.told ++ (map Record.Begin ns ++
      (map entry_record kept_here ++ Record.ImageEnd ∷ []))) ≡ rs =
      ap (λ l. Record.Marks s.format next s.wear ∷
      (image.told ++ (map Record.Begin ns ++ (l ++ Record.ImageEnd ∷ [])))) (sym live_is) ∙
      sym image.is in (
        rest.0,
        subst (λ l. Leads Reads l (Unread Format.One) (InJournal next rest.0 0)) is
            (p, (tt, low, refl), rest.1),
        rest.2,
      )

-- The image of a freeze is read.
pub frozen_reads : (b : BookState (List Collection)) →
    IsKept catalog_meaning catalog_making AreShort (IsSound catalog_meaning catalog_making) b →
    AreNamed b.state.now → AreDistinct (names_of b.state.now) → (blocks : List (Vec ℕ Global)) →
    (packed : IsPackedImage (λ v. v) b.next b.state blocks) →
    (s : State) × Leads Reads (joined packed.groups) (Unread Format.One) (InJournal b.next s 0) ×
    Lags s (journalled b.state)
frozen_reads b kept good distinct blocks packed =
    let tells = packed.tells in
    let s : State = journalled b.state in
    image_lead s (journalled_upheld catalog_meaning catalog_making AreShort laws b.state
    kept.upheld)
    tells.numbers tells.are_live tells.is_image.rise b.next (live_records b.state)
    (joined packed.groups) (kept_records b.state.live b.state.entries) tells.is_image kept.below
    good
    distinct
