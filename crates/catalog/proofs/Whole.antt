-- A call on the shelf of its number is one on the whole, for what the two are seen as.
use Rattle.std.proofs.Common.{◌≡◌, ℕ, ⊎_elim, inl, inr, List, ◌++◌, ◌∷◌, [], refl, sym}
use Rattle.std.proofs.Common.{◌∙◌}
use Rattle.std.proofs.Common.{◌%◌, ap, subst, length, Option, Some, None, slice_get, ◌≤◌, Result}
use Rattle.std.proofs.Common.{Ok, Err}
use Rattle.std.specs.Prelude.{OnOk, OnErr, IfOk}
use Rattle.std.specs.Option.{option_map}
use Rattle.std.proofs.lemmas.List.{length-map}
use Rattle.std.proofs.lemmas.Option.{slice_get_within}
use Rattle.calls.specs.declared.kind.Kind.{Kind}
use Rattle.calls.specs.declared.call.Call.{Call}
use Rattle.calls.specs.declared.reply.Reply.{Reply}
use Rattle.calls.specs.declared.refusal.Refusal.{Refusal}
use Rattle.calls.specs.Names.{IsName}
use Rattle.calls.specs.Rules.{Askable}
use Rattle.calls.specs.Formats.{widest}
use Rattle.calls.specs.Contents.{Content, Collection, kind_of_content, AnswersAt, after_at, empty}
use Rattle.calls.specs.Transactions.{Makes}
use Rattle.boosted.specs.Meaning.{HasReply, HasRoom, AskRefused, DeferRefused}
use Rattle.catalog.specs.declared.four.Four.{Four}
use Rattle.catalog.specs.Fours.{Which, which_of, quarter, pick, put}
use Rattle.catalog.specs.Holdings.{ShowRefused}
use Rattle.catalog.specs.Making.{IsFree, names_of}
use Rattle.catalog.specs.Meaning.{catalog_meaning, catalog_making}
use Rattle.catalog.specs.Places.{Belongs}
use Rattle.catalog.specs.Shelving.{CopyRefused, MakesOn}
use Rattle.catalog.specs.Woven.{Label, names_in, ShelfContent, shelf_meaning, IsHeld, woven, Fits}
use Rattle.catalog.specs.Laws.Numbers.{pick_put, put_pick, put_put, which_is}
use Rattle.catalog.specs.Laws.Weaving.{label}
use Rattle.catalog.specs.Laws.Shelves.{catalog_shelves, more_is, more_fits}
use Rattle.catalog.proofs.Places.{nothing_past}

abbrev pub collected : List ℕ → Content → Collection
collected name k = record { name = name; content = k }

-- The names of the whole are those that it has with its shelves.
module _ (n : List Label) (f : Four ShelfContent) (fits : Fits n f) (s : List Collection)
    (seen : woven n f ≡ s) where
  pub names_seen : names_in n ≡ names_of s
  names_seen = sym (catalog_shelves.names n f fits) ∙ ap names_of seen

  pub count_seen : length n ≡ length s
  count_seen = ap length (sym (catalog_shelves.named n f fits)) ∙ length-map (woven n f) label ∙
      ap length seen

  -- Where no name is, the whole has nothing.
  by_none : (o : Option Label) → None ≡ option_map (λ (x : Label). x.name) o → o ≡ None
  by_none None e = refl
  by_none (Some x) e = absurd (cc)

  pub none_whole : (at : ℕ) → None ≡ option_map (λ (x : Label). x.name) (slice_get n at) →
      length s ≤ at
  none_whole at e = subst (λ (m : ℕ). m ≤ at) count_seen
      (nothing_past n at (by_none (slice_get n at) e))

module _ (n : List Label) (f : Four ShelfContent) (fits : Fits n f) (s : List Collection)
    (seen : woven n f ≡ s) (at : ℕ) (t : ShelfContent) (is : t ≡ pick f (which_of at)) where
  module _ (c : Call) where
    pub belongs_shelf : Belongs s at c → shelf_meaning.belongs t at c
    belongs_shelf h = subst (λ v. shelf_meaning.belongs v at c) (sym is)
        ((catalog_shelves.belongs n f at c fits).0 (subst (λ v. Belongs v at c) (sym seen) h))

    pub belongs_whole : shelf_meaning.belongs t at c → Belongs s at c
    belongs_whole h = subst (λ v. Belongs v at c) seen
        ((catalog_shelves.belongs n f at c fits).1
        (subst (λ v. shelf_meaning.belongs v at c) is h))

    pub answers_shelf : (r : Reply) → AnswersAt s at c r → shelf_meaning.answers t at c r
    answers_shelf r h = subst (λ v. shelf_meaning.answers v at c r) (sym is)
        ((catalog_shelves.answers n f at c r fits).0
        (subst (λ v. AnswersAt v at c r) (sym seen) h))

    pub answers_whole : (r : Reply) → shelf_meaning.answers t at c r → AnswersAt s at c r
    answers_whole r h = subst (λ v. AnswersAt v at c r) seen
        ((catalog_shelves.answers n f at c r fits).1
        (subst (λ v. shelf_meaning.answers v at c r) is h))

    misplaced_whole : (e : Refusal) → shelf_meaning.misplaced t at c e →
        catalog_meaning.misplaced s at c e
    misplaced_whole e h = subst (λ v. catalog_meaning.misplaced v at c e) seen
        (catalog_shelves.misplaced n f at c e fits
        (subst (λ v. shelf_meaning.misplaced v at c e) is h))

    pub reply_shelf : HasReply catalog_meaning s at c → HasReply shelf_meaning t at c
    reply_shelf h = ⊎_elim (λ (a : Askable c). inl a)
        (λ (w : (r : Reply) × AnswersAt s at c r). inr (w.0, answers_shelf w.0 w.1)) h

    pub asked_whole : (e : Refusal) → AskRefused shelf_meaning widest t at c e →
        AskRefused catalog_meaning widest s at c e
    asked_whole Refusal.BadArg h = (belongs_whole h.0, h.1)
    asked_whole Refusal.TooLong h = (belongs_whole h.0, h.1, h.2)
    asked_whole Refusal.WrongKind h = misplaced_whole Refusal.WrongKind h
    asked_whole Refusal.NoSuchCollection h = misplaced_whole Refusal.NoSuchCollection h
    asked_whole e h = absurd h

    pub deferred_whole : (e : Refusal) → DeferRefused shelf_meaning t at c e →
        DeferRefused catalog_meaning s at c e
    deferred_whole Refusal.BadArg h = (belongs_whole h.0, h.1)
    deferred_whole Refusal.WrongKind h = misplaced_whole Refusal.WrongKind h
    deferred_whole Refusal.NoSuchCollection h = misplaced_whole Refusal.NoSuchCollection h
    deferred_whole e h = absurd h

  pub room_shelf : HasRoom catalog_meaning s → HasRoom shelf_meaning t
  room_shelf room = (
    room.0,
    subst (λ v. shelf_meaning.within v room.0) (sym is)
        ((catalog_shelves.within n f room.0 fits).0
        (subst (λ v. catalog_meaning.within v room.0) (sym seen) room.1) (which_of at)),
    room.2,
  )

  -- What the shelf holds there, the whole has under its name.
  by_label : (name : List ℕ) (k : Content) → IsHeld t at k → (o : Option Label) →
      slice_get n at ≡ o → Some name ≡ option_map (λ (x : Label). x.name) o →
      slice_get s at ≡ Some (record { name = name; content = k })
  by_label name k h None there e = absurd (cc)
  by_label name k h (Some x) there e =
      let same : x.name ≡ name = cc in
      subst (λ v. slice_get s at ≡ Some (collected v k)) same
      (subst (λ v. slice_get v at ≡ Some (collected x.name k)) seen
      (catalog_shelves.holds_there n f at x k fits there (subst (λ v. IsHeld v at k) is h)))

  pub held_whole : (name : List ℕ) (k : Content) →
      Some name ≡ option_map (λ (x : Label). x.name) (slice_get n at) → IsHeld t at k →
      slice_get s at ≡ Some (record { name = name; content = k })
  held_whole name k e h = by_label name k h (slice_get n at) refl e

  pub copied_whole : (name : List ℕ) →
      Some name ≡ option_map (λ (x : Label). x.name) (slice_get n at) →
      (r : Result Collection Refusal) → IfOk r (λ part. IsHeld t at part.content) →
      IfOk r (λ part. part.name ≡ name) → IfOk r (λ part. slice_get s at ≡ Some part)
  copied_whole name there (Ok part) h e =
      held_whole part.name part.content (ap Some e ∙ there) h
  copied_whole name there (Err e) h is = tt

  -- Where the shelf refuses a copy of what has a name, the whole does.
  by_content : ((k : Content) → IsHeld t at k → ⊥) → which_of at ≡ t.index → (o : Option Content) →
      slice_get t.held (quarter at) ≡ o → slice_get t.held (quarter at) ≡ None
  by_content none there None e = e
  by_content none there (Some k) e = absurd (none k (there, e))

  pub refused_whole : (name : List ℕ) →
      Some name ≡ option_map (λ (x : Label). x.name) (slice_get n at) → (e : Refusal) →
      CopyRefused (IsHeld t at) e → ShowRefused s at e
  refused_whole name there Refusal.NoSuchCollection h =
      misplaced_whole Call.Read Refusal.NoSuchCollection
      (λ here. nothing_past t.held (quarter at)
      (by_content h here (slice_get t.held (quarter at)) refl))
  refused_whole name there Refusal.NoMemory h =
      slice_get_within s at (collected name h.0) (held_whole name h.0 there h.1)
  refused_whole name there e h = absurd h

  -- What the shelf is behind it, the whole is.
  module _ (u : ShelfContent) where
    module _ (c : Call) (r : Reply) (can : shelf_meaning.answers t at c r)
        (left : u ≡ shelf_meaning.leaves t at c r) where
      here : shelf_meaning.answers (pick f (which_of at)) at c r
      here = subst (λ v. shelf_meaning.answers v at c r) is can

      now_left : u ≡ shelf_meaning.leaves (pick f (which_of at)) at c r
      now_left = left ∙ ap (λ v. shelf_meaning.leaves v at c r) is

      pub whole_left : woven n (put f (which_of at) u) ≡ after_at s at c r
      whole_left = ap (λ v. woven n (put f (which_of at) v)) now_left ∙
          sym (catalog_shelves.leaves n f at c r fits here) ∙ ap (λ v. after_at v at c r) seen

      pub fits_left : Fits n (put f (which_of at) u)
      fits_left = subst (λ v. Fits n (put f (which_of at) v)) (sym now_left)
          (catalog_shelves.stays n f at c r fits here)

    module _ (same : u ≡ t) where
      whole_put : put f (which_of at) u ≡ f
      whole_put = ap (put f (which_of at)) (same ∙ is) ∙ put_pick f (which_of at)

      pub whole_same : woven n (put f (which_of at) u) ≡ s
      whole_same = ap (woven n) whole_put ∙ seen

      pub fits_same : Fits n (put f (which_of at) u)
      fits_same = subst (Fits n) (sym whole_put) fits

-- One collection more.
module _ (n : List Label) (f : Four ShelfContent) (fits : Fits n f) (s : List Collection)
    (seen : woven n f ≡ s) (w : Which) (turn : w ≡ which_of (length n)) (t u : ShelfContent)
    (is : t ≡ pick f w) (name : List ℕ) (k : Content) (m : List Label)
    (labels : m ≡ n ++ record { name = name; kind = kind_of_content k } ∷ [])
    (held : u ≡ record t { held = t.held ++ k ∷ [] }) where
  abbrev y : Label
  y = record { name = name; kind = kind_of_content k }

  abbrev grown : ShelfContent → ShelfContent
  grown v = record v { held = v.held ++ k ∷ [] }

  grown_put : put f w u ≡
      put f (which_of (length n)) (grown (pick f (which_of (length n))))
  grown_put = ap (put f w) (held ∙ ap grown is) ∙
      ap (λ v. put f v (grown (pick f v))) turn

  pub whole_more : woven m (put f w u) ≡ s ++ record { name = name; content = k } ∷ []
  whole_more = ap (λ l. woven l (put f w u)) labels ∙ ap (woven (n ++ y ∷ [])) grown_put ∙
      more_is y k refl n f fits ∙ ap (λ l. l ++ record { name = name; content = k } ∷ []) seen

  pub fits_more : Fits m (put f w u)
  fits_more = subst (λ l. Fits l (put f w u)) (sym labels)
      (subst (Fits (n ++ y ∷ [])) (sym grown_put) (more_fits y k refl n f fits))

-- A making over names and a shelf, whatever the other shelves are,
pub made_on : (n m : List Label) (t u : ShelfContent) (name : List ℕ) (kind : Kind) (k : Content) →
    k ≡ empty kind → IsFree (names_in n) name →
    m ≡ n ++ record { name = name; kind = kind_of_content k } ∷ [] →
    u ≡ record t { held = t.held ++ k ∷ [] } →
    MakesOn (λ l. l) woven Fits catalog_making n t name kind m u
made_on n m t u name kind k is free labels held rest fits =
    let w = which_of (length n) in
    let f = put rest w t in
    let whole = whole_more n f fits (woven n f) refl w refl t u (sym (pick_put rest w t)) name k m
    labels held in (
      record {
        free = subst (λ l. IsFree l name) (sym (catalog_shelves.names n f fits)) free;
        is = ap (woven m) (sym (put_put rest w t u)) ∙ whole ∙
            ap (λ v. woven n f ++ collected name v ∷ []) is;
      },
      subst (Fits m) (put_put rest w t u)
          (fits_more n f fits (woven n f) refl w refl t u (sym (pick_put rest w t)) name k m labels
          held),
    )

-- and on the shelf of a whole.
module _ (n : List Label) (f : Four ShelfContent) (fits : Fits n f) (s : List Collection)
    (seen : woven n f ≡ s) (w : Which) (turn : w ≡ which_of (length n)) (t u : ShelfContent)
    (is : t ≡ pick f w) (name : List ℕ) (kind : Kind) (m : List Label)
    (makes : MakesOn (λ l. l) woven Fits catalog_making n t name kind m u) where
  there : put f (which_of (length n)) t ≡ f
  there = ap (put f (which_of (length n))) (is ∙ ap (pick f) turn) ∙
      put_pick f (which_of (length n))

  made : Makes (woven n (put f (which_of (length n)) t)) name kind
      (woven m (put f (which_of (length n)) u)) × Fits m (put f (which_of (length n)) u)
  made = makes f (subst (Fits n) (sym there) fits)

  pub makes_whole : Makes s name kind (woven m (put f w u))
  makes_whole = subst (λ v. Makes s name kind (woven m (put f v u))) (sym turn)
      (subst (λ v. Makes v name kind (woven m (put f (which_of (length n)) u)))
      (ap (woven n) there ∙ seen) made.0)

  pub makes_fits : Fits m (put f w u)
  makes_fits = subst (λ v. Fits m (put f v u)) (sym turn) made.1

-- What follows from either end of a call.
pub either_way : {T E : Type 0} {P Q G : Type 0} (r : Result T E) → OnOk r P → OnErr r Q →
    (P → G) → (Q → G) → G
either_way (Ok x) p q f g = f p
either_way (Err e) p q f g = g q

-- The turn of a count is that of what it leaves on division by 4.
pub turn_of : (n k : ℕ) → k ≡ n % 4 → which_of k ≡ which_of n
turn_of n k is = sym (which_is n k (sym is))

-- The shelf in a place is the one of that place.
pub placed_at : (n : List Label) (f : Four ShelfContent) → Fits n f →
    (w : Which) (t : ShelfContent) →
    t ≡ pick f w → t.index ≡ w
placed_at n f fits w t is = ap (λ v. v.index) is ∙ fits.placed w

-- A count's remainder tells whose turn it is.
pub turned : (n : List Label) (k : ℕ) → k ≡ length n → which_of (k % 4) ≡ which_of (length n)
turned n k is = turn_of k (k % 4) refl ∙ ap which_of is

-- What a putting and a making leave of a whole, whether they are refused or not.
module _ (n : List Label) (f : Four ShelfContent) (fits : Fits n f) (s : List Collection)
    (seen : woven n f ≡ s) (w : Which) (turn : w ≡ which_of (length n)) (t u : ShelfContent)
    (is : t ≡ pick f w) (name : List ℕ) where
  same_fits : (m : List Label) → m ≡ n → u ≡ t → Fits m (put f w u)
  same_fits m names same = subst (λ l. Fits l (put f w u)) (sym names)
      (subst (Fits n) (sym (ap (put f w) (same ∙ is) ∙ put_pick f w)) fits)

  module _ (k : Content) (m : List Label) where
    pub put_end : (r : Result (Unit {0}) Refusal) →
        OnOk r (m ≡ n ++ record { name = name; kind = kind_of_content k } ∷ []) →
        OnOk r (u ≡ record t { held = t.held ++ k ∷ [] }) →
        OnOk r (woven m (put f w u) ≡ s ++ record { name = name; content = k } ∷ [])
    put_end (Ok x) names held = whole_more n f fits s seen w turn t u is name k m names held
    put_end (Err e) names held = tt

    pub put_fits : (r : Result (Unit {0}) Refusal) →
        OnOk r (m ≡ n ++ record { name = name; kind = kind_of_content k } ∷ []) →
        OnOk r (u ≡ record t { held = t.held ++ k ∷ [] }) →
        OnErr r (m ≡ n) → OnErr r (u ≡ t) → Fits m (put f w u)
    put_fits (Ok x) names held old same =
        fits_more n f fits s seen w turn t u is name k m names held
    put_fits (Err e) names held old same = same_fits m old same

  module _ (kind : Kind) (m : List Label) where
    abbrev MakesHere : Type 0
    MakesHere = MakesOn (λ l. l) woven Fits catalog_making n t name kind m u

    pub made_end : (r : Result ℕ Refusal) → OnOk r MakesHere →
        IfOk r (λ at. IsName name × (at ≡ length n)) →
        IfOk r (λ at. IsName name × (at ≡ length (names_of s)) ×
        Makes s name kind (woven m (put f w u)))
    made_end (Ok x) makes h = (
      h.0,
      h.1 ∙ sym (length-map n (λ (x : Label). x.name)) ∙ ap length (names_seen n f fits s seen),
      makes_whole n f fits s seen w turn t u is name kind m makes,
    )
    made_end (Err e) makes h = tt

    pub made_fits : (r : Result ℕ Refusal) → OnOk r MakesHere → OnErr r (m ≡ n) →
        OnErr r (u ≡ t) → Fits m (put f w u)
    made_fits (Ok x) makes old same =
        makes_fits n f fits s seen w turn t u is name kind m makes
    made_fits (Err e) makes old same = same_fits m old same
