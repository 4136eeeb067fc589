-- Records of an image that are read: they are an image with a journal behind it, of given parts.
use Rattle.std.proofs.Common.{◌≡◌, ℕ, ◌+◌, ◌<◌, ◌⊎◌, inl, inr, List, [], ◌∷◌, ◌++◌, map, Option}
use Rattle.std.proofs.Common.{None, Some, refl, sym, ◌∙◌, ap, subst, append_assoc, append-nil}
use Rattle.std.proofs.Common.{false}
use Rattle.std.specs.List.{AllByRecursion}
use Rattle.calls.specs.declared.format.Format.{Format}
use Rattle.calls.specs.declared.kind.Kind.{Kind}
use Rattle.calls.specs.declared.item.Item.{Item}
use Rattle.calls.specs.Contents.{Content, Collection, kind_of_content}
use Rattle.calls.specs.Transactions.{Leads}
use Rattle.undo_log.specs.Logs.{Lives}
use Rattle.catalog.specs.Holdings.{ListsContent}
use Rattle.records.specs.declared.record.Record.{Record}
use Rattle.records.specs.Images.{TellOf, IsLiveRecord, Rise, IsImage}
use Rattle.steps.specs.Machines.{resting}
use Rattle.steps.proofs.LiveNumbers.{lives_more}
use Rattle.replay.specs.Steps.{State, Steps, Repeats}
use Rattle.replay.specs.Reading.{Named, Progress, InCollections, InNumbers, InCalls, InJournal}
use Rattle.replay.specs.Reading.{Closes, HoldsLive, Settles, Reads, ReadsLive, AreAccepted}
use Rattle.replay.specs.Reading.{next_after}
use Rattle.replay.specs.Journals.{IsJournalRecord}

-- ---- a journal

same_journal : (m n : ℕ) (s t : State) (j k : ℕ) → InJournal m s j ≡ InJournal n t k → s ≡ t
same_journal m n s t j k e = cc

pub journal_of : (rs : List Record) (m n : ℕ) (s t : State) (j k : ℕ) →
    Leads Reads rs (InJournal m s j) (InJournal n t k) → Repeats rs s t
journal_of [] m n s t j k run = same_journal m n s t j k run
journal_of (r ∷ rs) m n s t j k run =
    let there = run.1 in (
      there.0,
      there.1,
      journal_of rs (next_after m r) n there.0 t (j + 1) k
          (subst (λ p. Leads Reads rs p (InJournal n t k)) there.2 run.2),
    )

-- Records that the machine repeats are read so.
pub journal_reads : (rs : List Record) (m : ℕ) (s t : State) (j : ℕ) → Repeats rs s t →
    (n k : ℕ) × Leads Reads rs (InJournal m s j) (InJournal n t k)
journal_reads [] m s t j run = (m, j, ap (λ v. InJournal m v j) run)
journal_reads (r ∷ rs) m s t j run =
    let more = journal_reads rs (next_after m r) run.0 t (j + 1) run.2 in
    (more.0, more.1, (InJournal (next_after m r) run.0 (j + 1), (run.0, run.1, refl), more.2))

step_journal : (r : Record) (s t : State) → Steps s r t → IsJournalRecord r
step_journal (Record.Make kind name) s t step = tt
step_journal (Record.Call c) s t step = tt
step_journal (Record.Later l) s t step = tt
step_journal (Record.Commit n) s t step = tt
step_journal (Record.Back n) s t step = tt
step_journal (Record.Ended n) s t step = tt
step_journal (Record.Begin n) s t step = tt
step_journal r s t step = absurd step

pub repeats_journal : (rs : List Record) (s t : State) → Repeats rs s t →
    AllByRecursion IsJournalRecord rs
repeats_journal [] s t run = tt
repeats_journal (r ∷ rs) s t run = (step_journal r s run.0 run.1, repeats_journal rs run.0 t run.2)

-- ---- what was live, from a state on

-- What transactions that were live had asked for, the end of the image, and the journal behind it.
pub record CallsRest (rs : List Record) (s : State) (end : State) : Type 0 where
  pub live : List Record
  pub journal : List Record
  pub is : rs ≡ live ++ Record.ImageEnd ∷ journal
  pub all_live : AllByRecursion IsLiveRecord live
  pub first : State
  pub leads : Leads HoldsLive live s first
  pub settles : Settles first
  pub repeats : Repeats journal first end

more_calls : (r : Record) (rs : List Record) (s t end : State) → IsLiveRecord r → HoldsLive s r t →
    CallsRest rs t end → CallsRest (r ∷ rs) s end
more_calls r rs s t end is holds rest = record {
  live = r ∷ rest.live;
  journal = rest.journal;
  is = ap (λ l. r ∷ l) rest.is;
  all_live = (is, rest.all_live);
  first = rest.first;
  leads = (t, holds, rest.leads);
  settles = rest.settles;
  repeats = rest.repeats;
}

no_calls : (rs : List Record) (n m : ℕ) (s end : State) (k : ℕ) (p : Progress) → Settles s →
    p ≡ InJournal n s 0 → Leads Reads rs p (InJournal m end k) →
    CallsRest (Record.ImageEnd ∷ rs) s end
no_calls rs n m s end k p settles is run = record {
  live = [];
  journal = rs;
  is = refl;
  all_live = tt;
  first = s;
  leads = refl;
  settles = settles;
  repeats = journal_of rs n m s end 0 k (subst (λ q. Leads Reads rs q (InJournal m end k)) is run);
}

calls_rest : (rs : List Record) (n m : ℕ) (s end : State) (k : ℕ) →
    Leads Reads rs (InCalls n s) (InJournal m end k) → CallsRest rs s end
calls_rest [] n m s end k run = absurd (cc)
calls_rest (Record.LiveCall c ∷ rs) n m s end k run =
    let there = run.1 in
    more_calls (Record.LiveCall c) rs s there.0 end tt there.1
    (calls_rest rs n m there.0 end k
    (subst (λ p. Leads Reads rs p (InJournal m end k)) there.2 run.2))
calls_rest (Record.LiveLater l ∷ rs) n m s end k run =
    let there = run.1 in
    more_calls (Record.LiveLater l) rs s there.0 end tt there.1
    (calls_rest rs n m there.0 end k
    (subst (λ p. Leads Reads rs p (InJournal m end k)) there.2 run.2))
calls_rest (Record.ImageEnd ∷ rs) n m s end k run =
    no_calls rs n m s end k run.0 run.1.0 run.1.1 run.2
calls_rest (r ∷ rs) n m s end k run = absurd run.1

-- The numbers that were live, and all that is behind them.
pub record NumbersRest (rs : List Record) (s : State) (end : State) : Type 0 where
  -- the records, part by part
  pub numbers : List ℕ
  pub live : List Record
  pub journal : List Record
  pub is : rs ≡ map Record.Begin numbers ++ (live ++ Record.ImageEnd ∷ journal)
  -- what each part is
  pub rise : Rise numbers
  pub above : AllByRecursion (λ m. (k : ℕ) → Lives s.live k → k < m) numbers
  pub all_live : AllByRecursion IsLiveRecord live
  -- where they lead
  pub first : State
  pub leads : Leads HoldsLive (map Record.Begin numbers ++ live) s first
  pub settles : Settles first
  pub repeats : Repeats journal first end

no_numbers : (rs : List Record) (s end : State) → CallsRest rs s end → NumbersRest rs s end
no_numbers rs s end rest = record {
  numbers = [];
  live = rest.live;
  journal = rest.journal;
  is = rest.is;
  rise = tt;
  above = tt;
  all_live = rest.all_live;
  first = rest.first;
  leads = rest.leads;
  settles = rest.settles;
  repeats = rest.repeats;
}

all_above : (s t : State) (n : ℕ) (ms : List ℕ) → HoldsLive s (Record.Begin n) t →
    AllByRecursion (λ m. (k : ℕ) → Lives t.live k → k < m) ms →
    AllByRecursion (λ m. n < m) ms × AllByRecursion (λ m. (k : ℕ) → Lives s.live k → k < m) ms
all_above s t n [] row all = (tt, tt)
all_above s t n (m ∷ ms) row all =
    let rest = all_above s t n ms row all.1 in
    let lives : (k : ℕ) → (n ≡ k) ⊎ Lives s.live k → Lives t.live k =
    λ k either. subst (λ v. Lives v k) (sym (ap (λ (v : State). v.live) row.is))
    ((lives_more s.live n false k).0 either) in
    ((all.0 n (lives n (inl refl)), rest.0), ((λ k old. all.0 k (lives k (inr old))), rest.1))

more_numbers : (n : ℕ) (rs : List Record) (s t end : State) → HoldsLive s (Record.Begin n) t →
    NumbersRest rs t end → NumbersRest (Record.Begin n ∷ rs) s end
more_numbers n rs s t end row rest =
    let above = all_above s t n rest.numbers row rest.above in record {
      numbers = n ∷ rest.numbers;
      live = rest.live;
      journal = rest.journal;
      is = ap (λ l. Record.Begin n ∷ l) rest.is;
      rise = (above.0, rest.rise);
      above = (row.above, above.1);
      all_live = rest.all_live;
      first = rest.first;
      leads = (t, row, rest.leads);
      settles = rest.settles;
      repeats = rest.repeats;
    }

numbers_rest : (rs : List Record) (n m : ℕ) (s end : State) (k : ℕ) →
    Leads Reads rs (InNumbers n s) (InJournal m end k) → NumbersRest rs s end
numbers_rest [] n m s end k run = absurd (cc)
numbers_rest (Record.Begin i ∷ rs) n m s end k run =
    let there = run.1 in
    more_numbers i rs s there.0 end there.1
    (numbers_rest rs _ m there.0 end k
    (subst (λ p. Leads Reads rs p (InJournal m end k)) there.2 run.2))
numbers_rest (Record.LiveCall c ∷ rs) n m s end k run =
    no_numbers (Record.LiveCall c ∷ rs) s end (calls_rest (Record.LiveCall c ∷ rs) n m s end k run)
numbers_rest (Record.LiveLater l ∷ rs) n m s end k run =
    no_numbers (Record.LiveLater l ∷ rs) s end
    (calls_rest (Record.LiveLater l ∷ rs) n m s end k run)
numbers_rest (Record.ImageEnd ∷ rs) n m s end k run =
    no_numbers (Record.ImageEnd ∷ rs) s end (calls_rest (Record.ImageEnd ∷ rs) n m s end k run)
numbers_rest (r ∷ rs) n m s end k run = absurd run.1

-- ---- collections

-- Collections that come behind those that are told, and all that is behind them.
pub record MoreRest (rs : List Record) (s : State) (end : State) : Type 0 where
  pub more : List Collection
  pub told : List Record
  pub back : List Record
  pub is : rs ≡ told ++ back
  pub tells : TellOf more told
  pub now : List Collection
  pub now_is : now ≡ s.now ++ more
  pub rest : NumbersRest back (record s { now = now }) end

-- The same, where items of a collection that is told come first.
pub record LastRest (rs : List Record) (s : State) (x : Named) (end : State) : Type 0 where
  pub items : List Item
  pub content : Content
  pub of_kind : kind_of_content content ≡ x.kind
  pub lists : ListsContent (x.items ++ items) content
  pub behind : List Record
  pub is : rs ≡ map Record.Item items ++ behind
  pub state : State
  pub state_is : state ≡ record s
      { now = s.now ++ record { name = x.name; content = content } ∷ [] }
  pub rest : MoreRest behind state end

abbrev CollectionsRest : List Record → State → Option Named → State → Type 0
CollectionsRest rs s None end = MoreRest rs s end
CollectionsRest rs s (Some x) end = LastRest rs s x end

-- the collection that was told last is whole
closing : (rs : List Record) (s t : State) (last : Option Named) (end : State) → Closes s last t →
    MoreRest rs t end → CollectionsRest rs s last end
closing rs s t None end closes rest = subst (λ v. MoreRest rs v end) closes rest
closing rs s t (Some x) end closes rest = record {
  items = [];
  content = closes.loads.content;
  of_kind = closes.loads.of_kind;
  lists = subst (λ l. ListsContent l closes.loads.content) (sym (append-nil x.items))
      closes.loads.lists;
  behind = rs;
  is = refl;
  state = t;
  state_is = closes.is ∙ ap (λ v. record s { now = v }) closes.loads.is;
  rest = rest;
}

-- a collection that is named
named_rest : (kind : Kind) (name : List ℕ) (rs : List Record) (t end : State) →
    LastRest rs t (record { name = name; kind = kind; items = [] }) end →
    MoreRest (Record.Name kind name ∷ rs) t end
named_rest kind name rs t end l =
    let y : Collection = record { name = name; content = l.content } in
    let first : List Record = Record.Name kind name ∷ map Record.Item l.items in record {
      more = y ∷ l.rest.more;
      told = first ++ l.rest.told;
      back = l.rest.back;
      is = ap (λ v. Record.Name kind name ∷ v)
          (l.is ∙ ap (λ v. map Record.Item l.items ++ v) l.rest.is ∙
          sym (append_assoc (map Record.Item l.items) l.rest.told l.rest.back));
      tells = (
        first,
        l.rest.told,
        refl,
        record {
          items = l.items;
          lists = l.lists;
          is = ap (λ k. Record.Name k name ∷ map Record.Item l.items) (sym l.of_kind);
        },
        l.rest.tells,
      );
      now = l.rest.now;
      now_is = l.rest.now_is ∙ ap (λ (v : State). v.now ++ l.rest.more) l.state_is ∙
          append_assoc t.now (y ∷ []) l.rest.more;
      rest = subst (λ (v : State). NumbersRest l.rest.back (record v { now = l.rest.now }) end)
          l.state_is l.rest.rest;
    }

item_rest : (i : Item) (rs : List Record) (s : State) (x : Named) (end : State) →
    LastRest rs s (record { name = x.name; kind = x.kind; items = x.items ++ i ∷ [] }) end →
    LastRest (Record.Item i ∷ rs) s x end
item_rest i rs s x end l = record {
  items = i ∷ l.items;
  content = l.content;
  of_kind = l.of_kind;
  lists = subst (λ v. ListsContent v l.content) (append_assoc x.items (i ∷ []) l.items) l.lists;
  behind = l.behind;
  is = ap (λ v. Record.Item i ∷ v) l.is;
  state = l.state;
  state_is = l.state_is;
  rest = l.rest;
}

no_more : (rs : List Record) (t end : State) → NumbersRest rs t end → MoreRest rs t end
no_more rs t end rest = record {
  more = [];
  told = [];
  back = rs;
  is = refl;
  tells = refl;
  now = t.now;
  now_is = sym (append-nil t.now);
  rest = rest;
}

behind_collections : (r : Record) (rs : List Record) (n m : ℕ) (s t : State) (last : Option Named)
    (end : State) (k : ℕ) (p : Progress) → Closes s last t → ReadsLive n t r p →
    Leads Reads rs p (InJournal m end k) → CollectionsRest (r ∷ rs) s last end
behind_collections r rs n m s t last end k p closes live run =
    closing (r ∷ rs) s t last end closes
    (no_more (r ∷ rs) t end (numbers_rest (r ∷ rs) n m t end k (p, live, run)))

collections_rest : (rs : List Record) (n m : ℕ) (s : State) (last : Option Named) (end : State)
    (k : ℕ) → Leads Reads rs (InCollections n s last) (InJournal m end k) →
    CollectionsRest rs s last end
collections_rest [] n m s last end k run = absurd (cc)
collections_rest (Record.Name kind name ∷ rs) n m s last end k run =
    let there = run.1 in
    closing (Record.Name kind name ∷ rs) s there.0 last end there.1
    (named_rest kind name rs there.0 end
    (collections_rest rs n m there.0 (Some (record { name = name; kind = kind; items = [] }))
    end k (subst (λ p. Leads Reads rs p (InJournal m end k)) there.3 run.2)))
collections_rest (Record.Item i ∷ rs) n m s None end k run = absurd run.1.2
collections_rest (Record.Item i ∷ rs) n m s (Some x) end k run =
    item_rest i rs s x end (collections_rest rs n m s
    (Some (record { name = x.name; kind = x.kind; items = x.items ++ i ∷ [] })) end k
    (subst (λ p. Leads Reads rs p (InJournal m end k)) run.1.3 run.2))
collections_rest (r ∷ rs) n m s last end k run =
    behind_collections r rs n m s run.1.0 last end k run.0 run.1.1 run.1.2 run.2

-- ---- the whole

-- The records are an image, from whose live calls the machine begins, and a journal that leads to
-- the end.
pub record IsParts (rs : List Record) (end : State) : Type 0 where
  -- what the image shows
  pub format : Format
  pub next : ℕ
  pub wear : ℕ
  pub shown : List Collection
  pub numbers : List ℕ
  pub live : List Record
  -- the image, and the journal behind it
  pub image : List Record
  pub journal : List Record
  pub is : rs ≡ image ++ journal
  pub is_image : IsImage format next wear shown numbers live image
  -- where they lead
  pub first : State
  pub leads : Leads HoldsLive (map Record.Begin numbers ++ live) (resting format shown wear) first
  pub settles : Settles first
  pub repeats : Repeats journal first end

regroup : (told numbers live journal : List Record) (end : Record) →
    told ++ (numbers ++ (live ++ end ∷ journal)) ≡ (told ++ (numbers ++ (live ++ end ∷ []))) ++
    journal
regroup told numbers live journal end =
    ap (λ l. told ++ (numbers ++ l)) (sym (append_assoc live (end ∷ []) journal)) ∙
    ap (λ l. told ++ l) (sym (append_assoc numbers (live ++ end ∷ []) journal)) ∙
    sym (append_assoc told (numbers ++ (live ++ end ∷ [])) journal)

marked : (format : Format) (first wear : ℕ) (rs : List Record) (end : State) →
    MoreRest rs (resting format [] wear) end →
    IsParts (Record.Marks format first wear ∷ rs) end
marked format first wear rs end c =
    let r = c.rest in record {
      format = format;
      next = first;
      wear = wear;
      shown = c.more;
      numbers = r.numbers;
      live = r.live;
      image = Record.Marks format first wear ∷
          (c.told ++ (map Record.Begin r.numbers ++ (r.live ++ Record.ImageEnd ∷ [])));
      journal = r.journal;
      is = ap (λ l. Record.Marks format first wear ∷ l)
          (c.is ∙ ap (λ l. c.told ++ l) r.is ∙
          regroup c.told (map Record.Begin r.numbers) r.live r.journal Record.ImageEnd);
      is_image = record {
        told = c.told;
        tells = c.tells;
        rise = r.rise;
        all_live = r.all_live;
        is = refl;
      };
      first = r.first;
      leads = subst (λ v. Leads HoldsLive (map Record.Begin r.numbers ++ r.live)
          (resting format v wear)
          r.first) c.now_is r.leads;
      settles = r.settles;
      repeats = r.repeats;
    }

pub parts_of : (version : Format) (rs : List Record) (n : ℕ) (s : State) (k : ℕ) →
    AreAccepted version rs n s k → IsParts rs s
parts_of version [] n s k run = absurd (cc)
parts_of version (Record.Marks format first wear ∷ rs) n s k run =
    marked format first wear rs s (collections_rest rs first n (resting format [] wear) None s k
    (subst (λ p. Leads Reads rs p (InJournal n s k)) run.1.2 run.2))
parts_of version (r ∷ rs) n s k run = absurd run.1
