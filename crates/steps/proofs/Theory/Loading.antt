-- An image that is read makes a sound state, and that of a sound state can be read.
use Rattle.std.proofs.Common.{◌≡◌, ℕ, ◌==◌, cond, List, [], ◌∷◌, ◌++◌, refl, sym, ◌∙◌, ap, subst}
use Rattle.std.proofs.Common.{append-nil, append_assoc, inl}
use Rattle.std.specs.List.{AllByRecursion}
use Rattle.std.proofs.lemmas.Bool.{eq-eqb}
use Rattle.std.proofs.lemmas.List.{map-append}
use Rattle.boosted.specs.Runs.{Ready, own, AllApart}
use Rattle.boosted.proofs.Each.{weaker, each_append, each_back}
use Rattle.boosted.proofs.Owners.{AllApart-push}
use Rattle.steps.specs.Theory.Rules.{Rules, RuleLaws, Apart, Has, Lacks, AllDiffer}
use Rattle.steps.specs.Theory.Journal.{Entry, Asked, Deferred, event, asker, calls}
use Rattle.steps.specs.Theory.Machine.{State, puts, lefts, left_of, IsSound}
use Rattle.steps.specs.Theory.Images.{image_of}
use Rattle.steps.specs.Theory.Loads.{Fits, LoadRow, loaded, Loads, LoadsSound, ImageLoads}
use Rattle.steps.proofs.Theory.Lists.{each_map, at, every, calls_append, puts_append, has_left}
use Rattle.steps.proofs.Theory.Lists.{has_right, differ_across}
use Rattle.steps.proofs.Theory.Sound.{left_push, left_split, once_push, clear_apart}
use Rattle.steps.proofs.Theory.Stands.{image_sound}

apart_before : {X : Type 0} (apart : X → X → Type 0) (owner : X → ℕ) (xs : List X) (e : X)
    (ys : List X) → AllApart apart owner (xs ++ e ∷ ys) →
    AllByRecursion (λ f. (owner f ≡ owner e → ⊥) → apart f e) xs
apart_before apart owner [] e ys a = tt
apart_before apart owner (x ∷ xs) e ys a =
    ((each_back _ xs (e ∷ ys) a.0).0, apart_before apart owner xs e ys a.1)

module _ {S E M N : Type 0} {rules : Rules S E M N} (laws : RuleLaws rules) where
  load_asked : (x : E) (s t : State S E N) → IsSound rules s → LoadRow rules s (Asked x) t →
      IsSound rules t
  load_asked x s t sound row = subst (IsSound rules) (sym row.is) (record {
    held = each_append (λ e. Has (s.needs ++ rules.need x ∷ []) (rules.need (event e))) s.entries
        (Asked x ∷ []) (weaker _ _ (λ e h. has_left s.needs _ _ h) s.entries sound.held)
        (has_right s.needs _ _ (inl refl), tt);
    alive = each_append (λ e. Has s.live (rules.owner (event e))) s.entries (Asked x ∷ [])
        sound.alive (row.live, tt);
    apart = AllApart-push _ (asker rules.owner) s.entries (Asked x) sound.apart
        (clear_apart laws s sound x row.clear);
    asked = subst (AllByRecursion rules.asked) (sym (calls_append s.entries (Asked x ∷ [])))
        (each_append rules.asked (calls s.entries) (x ∷ []) sound.asked (row.fits.0, tt));
    put = subst (AllByRecursion (λ d. rules.deferred d × Ready rules.does s.now d))
        (sym (puts_append s.entries (Asked x ∷ []) ∙ append-nil (puts s.entries))) sound.put;
    once = λ n. subst AllDiffer (sym (left_push laws n s.entries x))
        (once_push laws n s.entries x (rules.owner x == n) refl (sound.once n) row.fits.1);
    holders = each_append (λ k. Has s.live (rules.holder k)) s.needs (rules.need x ∷ [])
        sound.holders (subst (Has s.live) (sym (laws.held x)) row.live, tt);
    fallers = sound.fallers;
  })

  load_put : (d : E) (s t : State S E N) → IsSound rules s → LoadRow rules s (Deferred d) t →
      IsSound rules t
  load_put d s t sound row = subst (IsSound rules) (sym row.is) (record {
    held = each_append (λ e. Has (s.needs ++ rules.need d ∷ []) (rules.need (event e))) s.entries
        (Deferred d ∷ []) (weaker _ _ (λ e h. has_left s.needs _ _ h) s.entries sound.held)
        (has_right s.needs _ _ (inl refl), tt);
    alive = each_append (λ e. Has s.live (rules.owner (event e))) s.entries (Deferred d ∷ [])
        sound.alive (row.live, tt);
    apart = AllApart-push _ (asker rules.owner) s.entries (Deferred d) sound.apart
        (clear_apart laws s sound d row.clear);
    asked = subst (AllByRecursion rules.asked)
        (sym (calls_append s.entries (Deferred d ∷ []) ∙ append-nil (calls s.entries))) sound.asked;
    put = subst (AllByRecursion (λ d. rules.deferred d × Ready rules.does s.now d))
        (sym (puts_append s.entries (Deferred d ∷ [])))
        (each_append (λ d. rules.deferred d × Ready rules.does s.now d) (puts s.entries) (d ∷ [])
        sound.put (row.fits, tt));
    once = λ n. subst (λ l. AllDiffer (lefts rules.leaves (own rules.owner n l)))
        (sym (calls_append s.entries (Deferred d ∷ []) ∙ append-nil (calls s.entries)))
        (sound.once n);
    holders = each_append (λ k. Has s.live (rules.holder k)) s.needs (rules.need d ∷ [])
        sound.holders (subst (Has s.live) (sym (laws.held d)) row.live, tt);
    fallers = sound.fallers;
  })

  pub load_sound : (e : Entry E) (s t : State S E N) → IsSound rules s → LoadRow rules s e t →
      IsSound rules t
  load_sound (Asked x) s t sound row = load_asked x s t sound row
  load_sound (Deferred d) s t sound row = load_put d s t sound row

  more_loaded : (now : S) (live : List ℕ) (xs : List (Entry E)) (e : Entry E) (t : State S E N) →
      LoadRow rules (loaded rules now live xs) e t → t ≡ loaded rules now live (xs ++ e ∷ [])
  more_loaded now live xs e t row =
      row.is ∙ ap (λ (l : List N). let u : State S E N =
      record { now = now; entries = xs ++ e ∷ []; live = live; falling = []; needs = l } in u)
      (sym (map-append (λ e. rules.need (event e)) xs (e ∷ [])))

  loads_all : (now : S) (live : List ℕ) (xs es : List (Entry E)) (t : State S E N) →
      IsSound rules (loaded rules now live xs) → Loads rules es (loaded rules now live xs) t →
      (t ≡ loaded rules now live (xs ++ es)) × IsSound rules t
  loads_all now live xs [] t sound w =
      (sym w ∙ ap (loaded rules now live) (sym (append-nil xs)), subst (IsSound rules) w sound)
  loads_all now live xs (e ∷ es) t sound w =
      let same = more_loaded now live xs e w.0 w.1 in
      let r = loads_all now live (xs ++ e ∷ []) es t
      (subst (IsSound rules) same (load_sound e (loaded rules now live xs) w.0 sound w.1))
      (subst (λ v. Loads rules es v t) same w.2) in
      (r.0 ∙ ap (loaded rules now live) (append_assoc xs (e ∷ []) es), r.1)

  pub loads_sound : LoadsSound rules
  loads_sound now live es t w = loads_all now live [] es t
      (record {
        held = tt;
        alive = tt;
        apart = tt;
        asked = tt;
        put = tt;
        once = λ n. tt;
        holders = tt;
        fallers = tt;
      }) w

  -- what the whole says of one entry behind those before it
  fits_there : (now : S) (live : List ℕ) (xs : List (Entry E)) (e : Entry E) (ys : List (Entry E)) →
      IsSound rules (loaded rules now live (xs ++ e ∷ ys)) → Fits rules (loaded rules now live xs) e
  fits_there now live xs (Asked x) ys sound =
      let o = rules.owner x in
      let rest = lefts rules.leaves (own rules.owner o (calls ys)) in
      let here : own rules.owner o (x ∷ calls ys) ≡ x ∷ own rules.owner o (calls ys) =
      ap (λ b. cond b (x ∷ own rules.owner o (calls ys)) (own rules.owner o (calls ys)))
      (eq-eqb o o refl) in
      let differ : AllDiffer (left_of rules o xs ++ (rules.leaves x ++ rest)) =
      subst (λ l. AllDiffer (left_of rules o xs ++ lefts rules.leaves l)) here
      (subst AllDiffer (left_split laws o xs (Asked x ∷ ys)) (sound.once o)) in
      let across = differ_across (left_of rules o xs) (rules.leaves x ++ rest) differ in (
        (each_back rules.asked (calls xs) (x ∷ calls ys)
            (subst (AllByRecursion rules.asked) (calls_append xs (Asked x ∷ ys)) sound.asked)).0,
        every _ (rules.leaves x) (λ d hd hl. at (Lacks (rules.leaves x ++ rest))
            (left_of rules o xs) d across hl (has_left (rules.leaves x) rest d hd)),
      )
  fits_there now live xs (Deferred d) ys sound =
      (each_back (λ d. rules.deferred d × Ready rules.does now d) (puts xs) (d ∷ puts ys)
      (subst (AllByRecursion (λ d. rules.deferred d × Ready rules.does now d))
      (puts_append xs (Deferred d ∷ ys)) sound.put)).0

  load_from : (now : S) (live : List ℕ) (xs ys : List (Entry E)) →
      IsSound rules (loaded rules now live (xs ++ ys)) →
      Loads rules ys (loaded rules now live xs) (loaded rules now live (xs ++ ys))
  load_from now live xs [] sound = ap (loaded rules now live) (sym (append-nil xs))
  load_from now live xs (e ∷ ys) sound =
      let next : State S E N = loaded rules now live (xs ++ e ∷ []) in
      let row : LoadRow rules (loaded rules now live xs) e next = record {
        live = (each_back (λ e. Has live (rules.owner (event e))) xs (e ∷ ys) sound.alive).0;
        clear = each_map (λ e. rules.need (event e)) _ xs
            (weaker _ _ (λ f h differ. h (λ same. differ (laws.held (event f) ∙ same))) xs
            (apart_before (λ e f. Apart rules (event e) (event f)) (asker rules.owner) xs e ys
            sound.apart));
        fits = fits_there now live xs e ys sound;
        is = ap (λ (l : List N). let u : State S E N =
            record { now = now; entries = xs ++ e ∷ []; live = live; falling = []; needs = l } in u)
            (map-append (λ e. rules.need (event e)) xs (e ∷ []));
      } in
      let assoc = append_assoc xs (e ∷ []) ys in (
        next,
        row,
        subst (λ l. Loads rules ys next (loaded rules now live l)) assoc
            (load_from now live (xs ++ e ∷ []) ys
            (subst (λ l. IsSound rules (loaded rules now live l)) (sym assoc) sound)),
      )

  pub image_loads : ImageLoads rules
  image_loads s sound = load_from s.now s.live [] (image_of rules s).entries
      (image_sound laws s sound)
