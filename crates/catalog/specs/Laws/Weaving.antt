-- What is on one shelf is in the whole at its number, and a change there is a change of the whole.
use Rattle.std.proofs.Common.{◌≡◌, ℕ, zero, suc, ◌≤◌, Some, List, [], ◌∷◌, ◌++◌, length, map, refl}
use Rattle.std.proofs.Common.{slice_get, sym, ◌∙◌, ap, subst, arith}
use Rattle.std.specs.List.{AllByRecursion}
use Rattle.calls.specs.declared.kind.Kind.{Kind}
use Rattle.calls.specs.declared.call.Call.{Call}
use Rattle.calls.specs.declared.reply.Reply.{Reply}
use Rattle.calls.specs.Contents.{Content, Collection, Answers, after, AnswersAt, after_at}
use Rattle.calls.specs.Contents.{kind_of_content}
use Rattle.catalog.specs.declared.four.Four.{Four}
use Rattle.catalog.specs.Fours.{Which, First, Second, Third, Fourth, which_of, quarter, pick, put}
use Rattle.catalog.specs.Making.{names_of}
use Rattle.catalog.specs.Places.{At, Reaches, IsWithin}
use Rattle.catalog.specs.Woven.{Label, names_in, with_at, weave, AreWoven}
use Rattle.catalog.specs.Laws.Numbers.{next, carry, which_next, quarter_next}
use Rattle.catalog.specs.Laws.OneContent.{kind_after}

abbrev pub Lists : Type 0
Lists = Four (List Content)

abbrev pub four : (k l m n : List Content) → Lists
four k l m n = record { first = k; second = l; third = m; fourth = n }

-- A law of the four at a number, by which of them it is for and its quotient: with a member in
-- front of the first, the numbers go on by one.
module _ (Q : Lists → Which → ℕ → Type 0) (h : Content) (t l m n : List Content) where
  pub onward : (at : ℕ) → Q (four (h ∷ t) l m n) (which_of (suc at)) (quarter (suc at)) →
      Q (four (h ∷ t) l m n) (next (which_of at)) (carry (which_of at) (quarter at))
  onward at q = subst (λ v. Q (four (h ∷ t) l m n) v (carry (which_of at) (quarter at)))
      (which_next at)
      (subst (λ p. Q (four (h ∷ t) l m n) (which_of (suc at)) p) (quarter_next at) q)

  pub backward : (at : ℕ) →
      Q (four (h ∷ t) l m n) (next (which_of at)) (carry (which_of at) (quarter at)) →
      Q (four (h ∷ t) l m n) (which_of (suc at)) (quarter (suc at))
  backward at q = subst (λ p. Q (four (h ∷ t) l m n) (which_of (suc at)) p)
      (sym (quarter_next at))
      (subst (λ v. Q (four (h ∷ t) l m n) v (carry (which_of at) (quarter at)))
      (sym (which_next at)) q)

-- Four lists without members are as they are with one that is empty in each place.
module _ (Q : Lists → Type 0) where
  pub emptied : (k l m n : List Content) → AreWoven [] k l m n → Q (four k l m n) →
      Q (four [] [] [] [])
  emptied k l m n fits q =
      subst (λ v. Q (four v [] [] [])) fits.0 (subst (λ v. Q (four k v [] [])) fits.1
      (subst (λ v. Q (four k l v [])) fits.2 (subst (λ v. Q (four k l m v)) fits.3 q)))

  pub refilled : (k l m n : List Content) → AreWoven [] k l m n → Q (four [] [] [] []) →
      Q (four k l m n)
  refilled k l m n fits q =
      subst (λ v. Q (four k l m v)) (sym fits.3) (subst (λ v. Q (four k l v [])) (sym fits.2)
      (subst (λ v. Q (four k v [] [])) (sym fits.1) (subst (λ v. Q (four v [] [] []))
      (sym fits.0) q)))

-- What is at a place of a list is at the number's place in the whole, and no more is.
module _ (P : Content → Type 0) where
  abbrev pub There : Lists → Which → ℕ → Type 0
  There f w q = At P (pick f w) q

  passed : (w : Which) (q : ℕ) (h : Content) (t l m n : List Content) →
      There (four (h ∷ t) l m n) (next w) (carry w q) → There (four l m n t) w q
  passed First q h t l m n a = a
  passed Second q h t l m n a = a
  passed Third q h t l m n a = a
  passed Fourth q h t l m n a = a

  gone_by : (w : Which) (q : ℕ) (h : Content) (t l m n : List Content) →
      There (four l m n t) w q → There (four (h ∷ t) l m n) (next w) (carry w q)
  gone_by First q h t l m n a = a
  gone_by Second q h t l m n a = a
  gone_by Third q h t l m n a = a
  gone_by Fourth q h t l m n a = a

  nowhere : (w : Which) (q : ℕ) → There (four [] [] [] []) w q → ⊥
  nowhere First q a = a
  nowhere Second q a = a
  nowhere Third q a = a
  nowhere Fourth q a = a

  pub there_join : (xs : List Label) (k l m n : List Content) (at : ℕ) → AreWoven xs k l m n →
      There (four k l m n) (which_of at) (quarter at) → At (λ x. P x.content) (weave xs k l m n) at
  there_join [] k l m n at fits a = absurd (nowhere (which_of at) (quarter at)
      (emptied (λ f. There f (which_of at) (quarter at)) k l m n fits a))
  there_join (x ∷ xs) [] l m n at fits a = absurd fits
  there_join (x ∷ xs) (h ∷ t) l m n zero fits a = a
  there_join (x ∷ xs) (h ∷ t) l m n (suc at) fits a =
      there_join xs l m n t at fits.1
      (passed (which_of at) (quarter at) h t l m n (onward There h t l m n at a))

  pub there_only : (xs : List Label) (k l m n : List Content) (at : ℕ) →
      At (λ x. P x.content) (weave xs k l m n) at → There (four k l m n) (which_of at) (quarter at)
  there_only [] k l m n at a = absurd a
  there_only (x ∷ xs) [] l m n at a = absurd a
  there_only (x ∷ xs) (h ∷ t) l m n zero a = a
  there_only (x ∷ xs) (h ∷ t) l m n (suc at) a =
      backward There h t l m n at
      (gone_by (which_of at) (quarter at) h t l m n (there_only xs l m n t at a))

module _ (c : Call) (r : Reply) where
  pub to_answers : (s : List Collection) (at : ℕ) → At (λ x. Answers x.content c r) s at →
      AnswersAt s at c r
  to_answers [] at h = h
  to_answers (x ∷ xs) zero h = h
  to_answers (x ∷ xs) (suc at) h = to_answers xs at h

  pub from_answers : (s : List Collection) (at : ℕ) → AnswersAt s at c r →
      At (λ x. Answers x.content c r) s at
  from_answers [] at h = h
  from_answers (x ∷ xs) zero h = h
  from_answers (x ∷ xs) (suc at) h = from_answers xs at h

  -- What a call leaves at a place of a list is what it leaves at the number's place in the whole.
  abbrev pub left : Lists → Which → ℕ → Lists
  left f w q = put f w (with_at (λ x. after x c r) (pick f w) q)

  pub record Leaves (xs : List Label) (f : Lists) (at : ℕ) (g : Lists) : Type 0 where
    pub is : after_at (weave xs f.first f.second f.third f.fourth) at c r ≡
        weave xs g.first g.second g.third g.fourth
    pub fits : AreWoven xs g.first g.second g.third g.fourth

  none_left : (w : Which) (q at : ℕ) →
      Leaves [] (four [] [] [] []) at (left (four [] [] [] []) w q)
  none_left First q at = record { is = refl; fits = (refl, refl, refl, refl) }
  none_left Second q at = record { is = refl; fits = (refl, refl, refl, refl) }
  none_left Third q at = record { is = refl; fits = (refl, refl, refl, refl) }
  none_left Fourth q at = record { is = refl; fits = (refl, refl, refl, refl) }

  before : (w : Which) (q : ℕ) (x : Label) (xs : List Label) (h : Content)
      (t l m n : List Content) (at : ℕ) → kind_of_content h ≡ x.kind →
      Leaves xs (four l m n t) at (left (four l m n t) w q) →
      Leaves (x ∷ xs) (four (h ∷ t) l m n) (suc at)
      (left (four (h ∷ t) l m n) (next w) (carry w q))
  before First q x xs h t l m n at e j = record {
    is = ap (λ s. record { name = x.name; content = h } ∷ s) j.is;
    fits = (e, j.fits);
  }
  before Second q x xs h t l m n at e j = record {
    is = ap (λ s. record { name = x.name; content = h } ∷ s) j.is;
    fits = (e, j.fits);
  }
  before Third q x xs h t l m n at e j = record {
    is = ap (λ s. record { name = x.name; content = h } ∷ s) j.is;
    fits = (e, j.fits);
  }
  before Fourth q x xs h t l m n at e j = record {
    is = ap (λ s. record { name = x.name; content = h } ∷ s) j.is;
    fits = (e, j.fits);
  }

  pub leaves_join : (xs : List Label) (k l m n : List Content) (at : ℕ) → AreWoven xs k l m n →
      Leaves xs (four k l m n) at (left (four k l m n) (which_of at) (quarter at))
  leaves_join [] k l m n at fits =
      refilled (λ f. Leaves [] f at (left f (which_of at) (quarter at))) k l m n fits
      (none_left (which_of at) (quarter at) at)
  leaves_join (x ∷ xs) [] l m n at fits = absurd fits
  leaves_join (x ∷ xs) (h ∷ t) l m n zero fits = record {
    is = refl;
    fits = (kind_after h c r ∙ fits.0, fits.1);
  }
  leaves_join (x ∷ xs) (h ∷ t) l m n (suc at) fits =
      backward (λ f w q. Leaves (x ∷ xs) f (suc at) (left f w q)) h t l m n at
      (before (which_of at) (quarter at) x xs h t l m n at fits.0
      (leaves_join xs l m n t at fits.1))

-- One more at the end of the list whose turn it is, comes to the end of the whole.
module _ (y : Label) (c : Content) (same : kind_of_content c ≡ y.kind) where
  abbrev pub more : Lists → Which → Lists
  more f w = put f w (pick f w ++ c ∷ [])

  pub record Grows (xs : List Label) (f g : Lists) : Type 0 where
    pub is : weave (xs ++ y ∷ []) g.first g.second g.third g.fourth ≡
        weave xs f.first f.second f.third f.fourth ++ record { name = y.name; content = c } ∷ []
    pub fits : AreWoven (xs ++ y ∷ []) g.first g.second g.third g.fourth

  behind : (w : Which) (x : Label) (xs : List Label) (h : Content) (t l m n : List Content) →
      kind_of_content h ≡ x.kind → Grows xs (four l m n t) (more (four l m n t) w) →
      Grows (x ∷ xs) (four (h ∷ t) l m n) (more (four (h ∷ t) l m n) (next w))
  behind First x xs h t l m n e j = record {
    is = ap (λ s. record { name = x.name; content = h } ∷ s) j.is;
    fits = (e, j.fits);
  }
  behind Second x xs h t l m n e j = record {
    is = ap (λ s. record { name = x.name; content = h } ∷ s) j.is;
    fits = (e, j.fits);
  }
  behind Third x xs h t l m n e j = record {
    is = ap (λ s. record { name = x.name; content = h } ∷ s) j.is;
    fits = (e, j.fits);
  }
  behind Fourth x xs h t l m n e j = record {
    is = ap (λ s. record { name = x.name; content = h } ∷ s) j.is;
    fits = (e, j.fits);
  }

  pub grows_join : (xs : List Label) (k l m n : List Content) → AreWoven xs k l m n →
      Grows xs (four k l m n) (more (four k l m n) (which_of (length xs)))
  grows_join [] k l m n fits =
      refilled (λ f. Grows [] f (more f First)) k l m n fits
      (record { is = refl; fits = (same, (refl, refl, refl, refl)) })
  grows_join (x ∷ xs) [] l m n fits = absurd fits
  grows_join (x ∷ xs) (h ∷ t) l m n fits =
      subst (λ w. Grows (x ∷ xs) (four (h ∷ t) l m n) (more (four (h ∷ t) l m n) w))
      (sym (which_next (length xs)))
      (behind (which_of (length xs)) x xs h t l m n fits.0 (grows_join xs l m n t fits.1))

-- The names and the kinds are those of the whole.
abbrev pub label : Collection → Label
label x = record { name = x.name; kind = kind_of_content x.content }

abbrev labelled : List ℕ → Kind → Label
labelled name kind = record { name = name; kind = kind }

pub labels_join : (xs : List Label) (k l m n : List Content) → AreWoven xs k l m n →
    map label (weave xs k l m n) ≡ xs
labels_join [] k l m n fits = refl
labels_join (x ∷ xs) [] l m n fits = absurd fits
labels_join (x ∷ xs) (h ∷ t) l m n fits =
    ap (λ kind. labelled x.name kind ∷ map label (weave xs l m n t)) fits.0 ∙
    ap (λ s. x ∷ s) (labels_join xs l m n t fits.1)

pub names_join : (xs : List Label) (k l m n : List Content) → AreWoven xs k l m n →
    names_of (weave xs k l m n) ≡ names_in xs
names_join [] k l m n fits = refl
names_join (x ∷ xs) [] l m n fits = absurd fits
names_join (x ∷ xs) (h ∷ t) l m n fits = ap (λ s. x.name ∷ s) (names_join xs l m n t fits.1)

-- What a list holds at a place, the whole has at the number.
get_passed : (w : Which) (q : ℕ) (h : Content) (t l m n : List Content) →
    slice_get (pick (four (h ∷ t) l m n) (next w)) (carry w q) ≡ slice_get (pick (four l m n t) w) q
get_passed First q h t l m n = refl
get_passed Second q h t l m n = refl
get_passed Third q h t l m n = refl
get_passed Fourth q h t l m n = refl

abbrev collected : Label → Content → Collection
collected v k = record { name = v.name; content = k }

module _ (x : Label) (c : Content) where
  pub gets_join : (xs : List Label) (k l m n : List Content) (at : ℕ) → AreWoven xs k l m n →
      slice_get xs at ≡ Some x →
      slice_get (pick (four k l m n) (which_of at)) (quarter at) ≡ Some c →
      slice_get (weave xs k l m n) at ≡ Some (record { name = x.name; content = c })
  gets_join [] k l m n at fits is holds = absurd (cc)
  gets_join (y ∷ xs) [] l m n at fits is holds = absurd fits
  gets_join (y ∷ xs) (h ∷ t) l m n zero fits is holds =
      let same : y ≡ x = cc in
      let held : h ≡ c = cc in
      ap (λ v. Some (collected v h)) same ∙ ap (λ v. Some (collected x v)) held
  gets_join (y ∷ xs) (h ∷ t) l m n (suc at) fits is holds =
      gets_join xs l m n t at fits.1 is
      (sym (get_passed (which_of at) (quarter at) h t l m n) ∙
      onward (λ f w q. slice_get (pick f w) q ≡ Some c) h t l m n at holds)

-- Nothing is in the whole behind what its list holds.
short_passed : (w : Which) (q : ℕ) (h : Content) (t l m n : List Content) →
    length (pick (four (h ∷ t) l m n) (next w)) ≤ carry w q →
    length (pick (four l m n t) w) ≤ q
short_passed First q h t l m n a = a
short_passed Second q h t l m n a = a
short_passed Third q h t l m n a = a
short_passed Fourth q h t l m n a = let less : suc (length t) ≤ suc q = a in omega (arith, less)

pub short_join : (xs : List Label) (k l m n : List Content) (at : ℕ) → AreWoven xs k l m n →
    length (pick (four k l m n) (which_of at)) ≤ quarter at → length (weave xs k l m n) ≤ at
short_join [] k l m n at fits a = omega arith
short_join (x ∷ xs) [] l m n at fits a = absurd fits
short_join (x ∷ xs) (h ∷ t) l m n zero fits a =
    let none : suc (length t) ≤ 0 = a in absurd (omega (arith, none))
short_join (x ∷ xs) (h ∷ t) l m n (suc at) fits a =
    let rest : length (weave xs l m n t) ≤ at = short_join xs l m n t at fits.1
    (short_passed (which_of at) (quarter at) h t l m n
    (onward (λ f w q. length (pick f w) ≤ q) h t l m n at a)) in
    omega (arith, rest)

-- So many runs can reach the whole where they can reach each list.
module _ (i : ℕ) where
  abbrev pub InReach : List Content → Type 0
  InReach s = AllByRecursion (λ x. Reaches x i) s

  pub within_each : (xs : List Label) (k l m n : List Content) → AreWoven xs k l m n →
      IsWithin (weave xs k l m n) i → InReach k × InReach l × InReach m × InReach n
  within_each [] k l m n fits w =
      refilled (λ f. InReach f.first × InReach f.second × InReach f.third × InReach f.fourth)
      k l m n fits (tt, tt, tt, tt)
  within_each (x ∷ xs) [] l m n fits w = absurd fits
  within_each (x ∷ xs) (h ∷ t) l m n fits w =
      let rest = within_each xs l m n t fits.1 w.1 in
      ((w.0, rest.3), rest.0, rest.1, rest.2)

  pub within_all : (xs : List Label) (k l m n : List Content) →
      InReach k × InReach l × InReach m × InReach n → IsWithin (weave xs k l m n) i
  within_all [] k l m n w = tt
  within_all (x ∷ xs) [] l m n w = tt
  within_all (x ∷ xs) (h ∷ t) l m n w = (w.0.0, within_all xs l m n t (w.1, w.2, w.3, w.0.1))
