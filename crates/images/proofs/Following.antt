-- What is gathered goes along with the collections that it is of.
use Rattle.std.proofs.Common.{◌≡◌, ℕ, zero, suc, ◌+◌, ◌<◌, ◌≤◌, ◌^◌, Bool, true, cond, nat_lt, List}
use Rattle.std.proofs.Common.{[]}
use Rattle.std.proofs.Common.{false, ◌∷◌, ◌++◌, length, take, slice_get, Some, refl, sym, ◌∙◌}
use Rattle.std.proofs.Common.{ap, subst}
use Rattle.std.proofs.Common.{arith, append_assoc, length-append, map, Option, None}
use Rattle.std.specs.Prelude.{IfSome}
use Rattle.std.specs.Option.{option_to_list}
use Rattle.std.proofs.lemmas.List.{append-nil, map-append, take-append-le, take_all}
use Rattle.std.proofs.lemmas.Bool.{lt-ltb}
use Rattle.std.specs.List.{AllByRecursion}
use Rattle.calls.specs.declared.call.Call.{Call}
use Rattle.calls.specs.declared.reply.Reply.{Reply}
use Rattle.calls.specs.Contents.{Collection, Answers, AnswersAt, after_at, after}
use Rattle.boosted.proofs.Each.{each_append, each_back, weaker}
use Rattle.boosted.specs.Meaning.{IsRoomy}
use Rattle.catalog.specs.Places.{Reaches, IsWithin}
use Rattle.images.specs.declared.effect.Effect.{Effect}
use Rattle.images.specs.Gathers.{CopyState, GatherState, gathered, with_effect, with_effect_at}
use Rattle.images.specs.Gathers.{caught_up, CanRepeatAt, CanCatchUp, Repeats, with_gathered}
use Rattle.images.specs.Following.{Follows, CameBy}
use Rattle.images.proofs.Repeats.{caught_up-append, can_rest, can_both, can_more, past_at}

-- ---- sizes and stamps

length_at : (ps : List CopyState) (at : ℕ) (e : Effect) →
    length (with_effect_at ps at e) ≡ length ps
length_at [] at e = refl
length_at (p ∷ ps) zero e = refl
length_at (p ∷ ps) (suc at) e = ap suc (length_at ps at e)

pub length-caught_up : (ps : List CopyState) (es : List Effect) →
    length (caught_up ps es) ≡ length ps
length-caught_up ps [] = refl
length-caught_up ps (e ∷ es) = length-caught_up (with_effect_at ps e.collection e) es ∙
    length_at ps e.collection e

stamp_one : (p : CopyState) (e : Effect) → (with_effect p e).stamp ≡ p.stamp
stamp_one p e = by (nat_lt p.stamp e.lsn)
  where
    by : (b : Bool) → (cond b (record p {
      collection = record p.collection { content = after p.collection.content e.call e.reply };
    }) p).stamp ≡ p.stamp
    by true = refl
    by false = refl

-- the stamps stay
module _ (P : ℕ → Type 0) where
  stamps_at : (ps : List CopyState) (at : ℕ) (e : Effect) → AllByRecursion (λ p. P p.stamp) ps →
      AllByRecursion (λ p. P p.stamp) (with_effect_at ps at e)
  stamps_at [] at e all = tt
  stamps_at (p ∷ ps) zero e all = (subst P (sym (stamp_one p e)) all.0, all.1)
  stamps_at (p ∷ ps) (suc at) e all = (all.0, stamps_at ps at e all.1)

  stamps_caught_up : (ps : List CopyState) (es : List Effect) →
      AllByRecursion (λ p. P p.stamp) ps → AllByRecursion (λ p. P p.stamp) (caught_up ps es)
  stamps_caught_up ps [] all = all
  stamps_caught_up ps (e ∷ es) all =
      stamps_caught_up (with_effect_at ps e.collection e) es (stamps_at ps e.collection e all)

-- ---- a call more

-- The call may be run on the collections, and so on the copies that hold what these hold.
module _ (e : Effect) (n : ℕ) (low : n ≤ 2 ^ 61 + 65536) where
  can_run : (qs : List CopyState) (xs : List Collection) (at : ℕ) →
      gathered qs ≡ take (length qs) xs → AnswersAt xs at e.call e.reply → IsWithin xs n →
      CanRepeatAt qs at e
  can_run [] xs at same a w = tt
  can_run (q ∷ qs) [] at same a w = absurd a
  can_run (q ∷ qs) (x ∷ xs) zero same a w =
      let first : q.collection ≡ x = cc in
      λ past. subst (λ v. Answers v.content e.call e.reply × IsRoomy (Reaches v.content))
      (sym first)
      (a, (n, w.0, low))
  can_run (q ∷ qs) (x ∷ xs) (suc at) same a w =
      let rest : gathered qs ≡ take (length qs) xs = cc in can_run qs xs at rest a w.1

run_one : (q : CopyState) (x : Collection) (e : Effect) → q.collection ≡ x →
    q.stamp < e.lsn → (with_effect q e).collection ≡
    record { name = x.name; content = after x.content e.call e.reply }
run_one q x e same past =
    ap {A = Bool} (λ b. (cond b (record q {
      collection = record q.collection { content = after q.collection.content e.call e.reply };
    }) q).collection) (lt-ltb q.stamp e.lsn past) ∙
    ap {A = Collection} (λ v. record v { content = after v.content e.call e.reply }) same

run_at : (qs : List CopyState) (xs : List Collection) (at : ℕ) (e : Effect) →
    gathered qs ≡ take (length qs) xs → AllByRecursion (λ p. p.stamp < e.lsn) qs →
    AnswersAt xs at e.call e.reply →
    gathered (with_effect_at qs at e) ≡ take (length qs) (after_at xs at e.call e.reply)
run_at [] xs at e same past a = refl
run_at (q ∷ qs) [] at e same past a = absurd a
run_at (q ∷ qs) (x ∷ xs) zero e same past a =
    let first : q.collection ≡ x = cc in
    let rest : gathered qs ≡ take (length qs) xs = cc in
    (λ i. run_one q x e first past.0 i ∷ rest i)
run_at (q ∷ qs) (x ∷ xs) (suc at) e same past a =
    let first : q.collection ≡ x = cc in
    let rest : gathered qs ≡ take (length qs) xs = cc in
    (λ i. first i ∷ run_at qs xs at e rest past.1 a i)

pub length-after_at : (xs : List Collection) (at : ℕ) (c : Call) (r : Reply) →
    length (after_at xs at c r) ≡ length xs
length-after_at [] at c r = refl
length-after_at (x ∷ xs) zero c r = refl
length-after_at (x ∷ xs) (suc at) c r = ap suc (length-after_at xs at c r)

-- A call is run on the collections.
pub follows_run : (g : GatherState) (later : List Effect) (xs : List Collection) (e : Effect)
    (n : ℕ) → n ≤ 2 ^ 61 + 65536 → IsWithin xs n → Follows g later xs →
    AllByRecursion (λ p. p.stamp < e.lsn) g.parts →
    AnswersAt xs e.collection e.call e.reply →
    Follows g (later ++ e ∷ []) (after_at xs e.collection e.call e.reply)
follows_run g later xs e n low within follows past answered =
    let es = g.effects ++ later in
    let qs = caught_up g.parts es in
    let same_length = length-caught_up g.parts es in
    let now : gathered qs ≡ take (length qs) xs =
    follows.leads ∙ ap (λ k. take k xs) (sym same_length) in
    let longer : g.effects ++ (later ++ e ∷ []) ≡ es ++ e ∷ [] =
    sym (append_assoc g.effects later (e ∷ [])) in
    record {
      few = let few = follows.few in
          omega (arith, length-after_at xs e.collection e.call e.reply);
      can = subst (CanCatchUp g.parts) (sym longer)
          (can_both g.parts es (e ∷ []) follows.can
          (can_run e n low qs xs e.collection now answered within, tt));
      leads = ap (λ l. gathered (caught_up g.parts l)) longer ∙
          ap gathered (caught_up-append g.parts es (e ∷ [])) ∙
          run_at qs xs e.collection e now
          (stamps_caught_up (λ s. s < e.lsn) g.parts es past) answered ∙
          ap (λ k. take k (after_at xs e.collection e.call e.reply)) same_length;
    }

-- ---- a collection more, and a copy more

pub follows_made : (g : GatherState) (later : List Effect) (xs ys : List Collection) →
    Follows g later xs → Follows g later (xs ++ ys)
follows_made g later xs ys follows = record {
  few = let few = follows.few in
      omega (arith, length-append xs ys);
  can = follows.can;
  leads = follows.leads ∙ sym (take-append-le (length g.parts) xs ys follows.few);
}

past_all : (ps : List CopyState) (p : CopyState) (es : List Effect) →
    AllByRecursion (λ e. e.lsn ≤ p.stamp) es →
    caught_up (ps ++ p ∷ []) es ≡ caught_up ps es ++ p ∷ []
past_all ps p [] low = refl
past_all ps p (e ∷ es) low =
    ap (λ l. caught_up l es) (past_at ps p e.collection e low.0) ∙
    past_all (with_effect_at ps e.collection e) p es low.1

take_one : (xs : List Collection) (n : ℕ) (x : Collection) → slice_get xs n ≡ Some x →
    take (suc n) xs ≡ take n xs ++ x ∷ []
take_one [] n x there = absurd (cc)
take_one (y ∷ xs) zero x there = let same : y ≡ x = cc in ap (λ v. v ∷ []) same
take_one (y ∷ xs) (suc n) x there = ap (λ l. y ∷ l) (take_one xs n x there)

within_one : (xs : List Collection) (n : ℕ) (x : Collection) → slice_get xs n ≡ Some x →
    n < length xs
within_one [] n x there = absurd (cc)
within_one (y ∷ xs) zero x there = omega arith
within_one (y ∷ xs) (suc n) x there = let less = within_one xs n x there in omega arith

pub follows_copied : (g : GatherState) (later : List Effect) (xs : List Collection) (x : Collection)
    (stamp : ℕ) → Follows g later xs → slice_get xs (length g.parts) ≡ Some x →
    AllByRecursion (λ e. e.lsn ≤ stamp) (g.effects ++ later) →
    Follows (record g { parts = g.parts ++ record { collection = x; stamp = stamp } ∷ [] }) later xs
follows_copied g later xs x stamp follows there low =
    let es = g.effects ++ later in
    let p : CopyState = record { collection = x; stamp = stamp } in
    let one : length (g.parts ++ p ∷ []) ≡ suc (length g.parts) =
    length-append g.parts (p ∷ []) ∙ omega arith in
    record {
      few = omega (arith, one, within_one xs (length g.parts) x there);
      can = can_more g.parts p es low follows.can;
      leads = ap gathered (past_all g.parts p es low) ∙
          map-append (λ (q : CopyState). q.collection) (caught_up g.parts es) (p ∷ []) ∙
          ap (λ l. l ++ x ∷ []) follows.leads ∙
          sym (take_one xs (length g.parts) x there) ∙ ap (λ k. take k xs) (sym one);
    }

-- ---- handing over, and repeating

-- the mark says nothing of what is gathered
follows_marked : (g : GatherState) (later : List Effect) (xs : List Collection) (mark : ℕ) →
    Follows g later xs → Follows (record g { mark = mark }) later xs
follows_marked g later xs mark follows = record {
  few = follows.few;
  can = follows.can;
  leads = follows.leads;
}

pub follows_taken : (g : GatherState) (later : List Effect) (xs : List Collection) →
    Follows g later xs → Follows (record g { effects = g.effects ++ later }) [] xs
follows_taken g later xs follows =
    let all = append-nil (g.effects ++ later) in
    record {
      few = follows.few;
      can = subst (CanCatchUp g.parts) (sym all) follows.can;
      leads = ap (λ l. gathered (caught_up g.parts l)) all ∙ follows.leads;
    }

pub follows_repeated : (g h : GatherState) (later : List Effect) (xs : List Collection) →
    Repeats g h → Follows g later xs → Follows h later xs
follows_repeated g h later xs repeats follows =
    let done = repeats.repeated.done in
    let all : g.effects ++ later ≡ done ++ (h.effects ++ later) =
    ap (λ l. l ++ later) repeats.repeated.are ∙ append_assoc done h.effects later in
    let now = repeats.repeated.is in
    let same_length = ap length now ∙ length-caught_up g.parts done in
    record {
      few = let few = follows.few in
          omega arith;
      can = subst (λ l. CanCatchUp l (h.effects ++ later)) (sym now)
          (can_rest g.parts done (h.effects ++ later)
          (subst (CanCatchUp g.parts) all follows.can));
      leads = ap (λ l. gathered (caught_up l (h.effects ++ later))) now ∙
          ap gathered (sym (caught_up-append g.parts done (h.effects ++ later))) ∙
          ap (λ l. gathered (caught_up g.parts l)) (sym all) ∙ follows.leads ∙
          ap (λ k. take k xs) (sym same_length);
    }

-- A gather that copies the next collection, or none where none is left.
pub follows_gathered : (g : GatherState) (later : List Effect) (xs : List Collection) (mark : ℕ)
    (next : Option Collection) (stamp : ℕ) → Follows g later xs →
    IfSome next (λ x. slice_get xs (length g.parts) ≡ Some x) →
    AllByRecursion (λ e. e.lsn ≤ stamp) (g.effects ++ later) →
    Follows (with_gathered g mark next stamp later) [] xs
follows_gathered g later xs mark (Some x) stamp follows there low =
    let p : CopyState = record { collection = x; stamp = stamp } in
    follows_marked (record g { parts = g.parts ++ p ∷ []; effects = g.effects ++ later }) [] xs mark
    (follows_taken (record g { parts = g.parts ++ p ∷ [] }) later xs
    (follows_copied g later xs x stamp follows there low))
follows_gathered g later xs mark None stamp follows there low =
    follows_marked (record g { parts = g.parts ++ []; effects = g.effects ++ later }) [] xs mark
    (subst (λ ps. Follows (record g { parts = ps; effects = g.effects ++ later }) [] xs)
    (sym (append-nil g.parts)) (follows_taken g later xs follows))

-- Where all are copied, the copies come to what all the collections hold.
pub follows_all : (g : GatherState) (xs : List Collection) → Follows g [] xs →
    length xs ≤ length g.parts → gathered (caught_up g.parts g.effects) ≡ xs
follows_all g xs follows all =
    ap (λ l. gathered (caught_up g.parts l)) (sym (append-nil g.effects)) ∙ follows.leads ∙
    take_all (length g.parts) xs all

-- ---- where the copies and the calls stand

pub came_run : (g : GatherState) (later : List Effect) (e : Effect) (lsn : ℕ) →
    CameBy g later lsn → lsn ≤ e.lsn → CameBy g (later ++ e ∷ []) e.lsn
came_run g later e lsn came low = record {
  stamps = weaker (λ p. p.stamp ≤ lsn) (λ p. p.stamp ≤ e.lsn)
      (λ p s. omega (arith, s, low)) g.parts came.stamps;
  lsns = subst (AllByRecursion (λ x. x.lsn ≤ e.lsn))
      (append_assoc g.effects later (e ∷ []))
      (each_append (λ x. x.lsn ≤ e.lsn) (g.effects ++ later) (e ∷ [])
      (weaker (λ x. x.lsn ≤ lsn) (λ x. x.lsn ≤ e.lsn)
      (λ x s. omega (arith, s, low)) (g.effects ++ later) came.lsns)
      (omega arith, tt));
}

pub came_copied : (g : GatherState) (later : List Effect) (x : Collection) (lsn : ℕ) →
    CameBy g later lsn →
    CameBy (record g { parts = g.parts ++ record { collection = x; stamp = lsn } ∷ [] }) later
    lsn
came_copied g later x lsn came = record {
  stamps = each_append (λ (p : CopyState). p.stamp ≤ lsn) g.parts
      (record { collection = x; stamp = lsn } ∷ []) came.stamps (omega arith, tt);
  lsns = came.lsns;
}

pub came_taken : (g : GatherState) (later : List Effect) (lsn : ℕ) → CameBy g later lsn →
    CameBy (record g { effects = g.effects ++ later }) [] lsn
came_taken g later lsn came = record {
  stamps = came.stamps;
  lsns = subst (AllByRecursion (λ e. e.lsn ≤ lsn))
      (sym (append-nil (g.effects ++ later))) came.lsns;
}

pub came_gathered : (g : GatherState) (later : List Effect) (mark : ℕ) (next : Option Collection)
    (lsn : ℕ) → CameBy g later lsn →
    CameBy (with_gathered g mark next lsn later) [] lsn
came_gathered g later mark next lsn came = record {
  stamps = each_append (λ (p : CopyState). p.stamp ≤ lsn) g.parts
      (map (λ x. record { collection = x; stamp = lsn }) (option_to_list next)) came.stamps
      (stamped next);
  lsns = (came_taken g later lsn came).lsns;
}
  where
    stamped : (next : Option Collection) → AllByRecursion (λ (p : CopyState). p.stamp ≤ lsn)
        (map (λ x. record { collection = x; stamp = lsn }) (option_to_list next))
    stamped None = tt
    stamped (Some x) = (omega arith, tt)

pub came_repeated : (g h : GatherState) (later : List Effect) (lsn : ℕ) → Repeats g h →
    CameBy g later lsn → CameBy h later lsn
came_repeated g h later lsn repeats came =
    let done = repeats.repeated.done in
    let all : g.effects ++ later ≡ done ++ (h.effects ++ later) =
    ap (λ l. l ++ later) repeats.repeated.are ∙ append_assoc done h.effects later in
    record {
      stamps = subst (AllByRecursion (λ (p : CopyState). p.stamp ≤ lsn))
          (sym repeats.repeated.is)
          (stamps_caught_up (λ s. s ≤ lsn) g.parts done came.stamps);
      lsns = each_back (λ (e : Effect). e.lsn ≤ lsn) done (h.effects ++ later)
          (subst (AllByRecursion (λ e. e.lsn ≤ lsn)) all came.lsns);
    }
