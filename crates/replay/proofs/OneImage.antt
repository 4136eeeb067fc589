-- Records are an image with a journal behind it in one way alone.
use Rattle.std.proofs.Common.{◌≡◌, ℕ, List, [], ◌∷◌, ◌++◌, map, refl, sym, ◌∙◌, ap, subst}
use Rattle.std.proofs.Common.{append_assoc}
use Rattle.std.specs.List.{AllByRecursion}
use Rattle.calls.specs.declared.format.Format.{Format}
use Rattle.calls.specs.declared.kind.Kind.{Kind}
use Rattle.calls.specs.declared.item.Item.{Item}
use Rattle.calls.specs.Contents.{Collection, kind_of_content}
use Rattle.catalog.specs.Holdings.{ListsContent}
use Rattle.catalog.proofs.Orders.{one_content_of}
use Rattle.records.specs.declared.record.Record.{Record}
use Rattle.records.specs.Images.{TellOf, IsLiveRecord, IsImage}
use Rattle.replay.specs.Repetitions.{IsBegin, IsItem}
use Rattle.boosted.proofs.Each.{each_append}

-- ---- lists whose front is of one sort

-- The first, if there is one, is not of the sort.
abbrev EndsSort : {X : Type 0} → (X → Type 0) → List X → Type 0
EndsSort P [] = Unit {0}
EndsSort P (y ∷ ys) = P y → ⊥

tails : {X : Type 0} (x y : X) (xs ys : List X) → x ∷ xs ≡ y ∷ ys → xs ≡ ys
tails x y xs ys e = cc

heads : {X : Type 0} (x y : X) (xs ys : List X) → x ∷ xs ≡ y ∷ ys → x ≡ y
heads x y xs ys e = cc

one_front : {X : Type 0} (P : X → Type 0) (xs zs ys ws : List X) → AllByRecursion P xs →
    AllByRecursion P zs → EndsSort P ys → EndsSort P ws → xs ++ ys ≡ zs ++ ws →
    (xs ≡ zs) × (ys ≡ ws)
one_front P [] [] ys ws a b c d e = (refl, e)
one_front P [] (z ∷ zs) [] ws a b c d e = absurd (cc)
one_front P [] (z ∷ zs) (y ∷ ys) ws a b c d e =
    absurd (c (subst P (sym (heads y z ys (zs ++ ws) e)) b.0))
one_front P (x ∷ xs) [] ys [] a b c d e = absurd (cc)
one_front P (x ∷ xs) [] ys (w ∷ ws) a b c d e = absurd (d (subst P (heads x w (xs ++ ys) ws e) a.0))
one_front P (x ∷ xs) (z ∷ zs) ys ws a b c d e =
    let rest = one_front P xs zs ys ws a.1 b.1 c d (tails x z (xs ++ ys) (zs ++ ws) e) in
    (ap (λ v. v ∷ xs) (heads x z (xs ++ ys) (zs ++ ws) e) ∙ ap (λ l. z ∷ l) rest.0, rest.1)

-- ---- collections that are told

-- a record of a collection: its name, or an item
abbrev IsTelling : Record → Type 0
IsTelling (Record.Name kind name) = Unit {0}
IsTelling (Record.Item i) = Unit {0}
IsTelling r = ⊥

all_items : (items : List Item) → AllByRecursion IsItem (map Record.Item items)
all_items [] = tt
all_items (i ∷ items) = (tt, all_items items)

tell_items : (items : List Item) → AllByRecursion IsTelling (map Record.Item items)
tell_items [] = tt
tell_items (i ∷ items) = (tt, tell_items items)

told_tell : (xs : List Collection) (rs : List Record) → TellOf xs rs → AllByRecursion IsTelling rs
told_tell [] rs t = subst (AllByRecursion IsTelling) (sym t) tt
told_tell (x ∷ xs) rs t =
    let first : AllByRecursion IsTelling t.0 =
    subst (AllByRecursion IsTelling) (sym t.3.is) (tt, tell_items t.3.items) in
    subst (AllByRecursion IsTelling) (sym t.2)
    (each_append IsTelling t.0 t.1 first (told_tell xs t.1 t.4))

-- behind the items of a collection stands a name, or nothing
told_ends : (xs : List Collection) (rs : List Record) → TellOf xs rs → EndsSort IsItem rs
told_ends [] rs t = subst (EndsSort IsItem) (sym t) tt
told_ends (x ∷ xs) rs t = subst (EndsSort IsItem) (sym (t.2 ∙ ap (λ l. l ++ t.1) t.3.is)) (λ h. h)

same_items : (is js : List Item) → map Record.Item is ≡ map Record.Item js → is ≡ js
same_items [] [] e = refl
same_items [] (j ∷ js) e = absurd (cc)
same_items (i ∷ is) [] e = absurd (cc)
same_items (i ∷ is) (j ∷ js) e =
    let first : i ≡ j = cc in
    let rest = same_items is js (tails (Record.Item i) (Record.Item j) (map Record.Item is)
    (map Record.Item js) e) in
    ap (λ v. v ∷ is) first ∙ ap (λ l. j ∷ l) rest

same_name : (k l : Kind) (m n : List ℕ) → Record.Name k m ≡ Record.Name l n → (k ≡ l) × (m ≡ n)
same_name k l m n e = (cc, cc)

same_collection : (x y : Collection) → x.name ≡ y.name → x.content ≡ y.content → x ≡ y
same_collection x y name content = λ i. record { name = name i; content = content i }

pub one_telling : (xs ys : List Collection) (rs : List Record) → TellOf xs rs → TellOf ys rs →
    xs ≡ ys
one_telling [] [] rs t u = refl
one_telling [] (y ∷ ys) rs t u =
    absurd (let e : [] ≡ Record.Name (kind_of_content y.content) y.name ∷
    (map Record.Item u.3.items ++ u.1) = sym t ∙ u.2 ∙ ap (λ l. l ++ u.1) u.3.is in cc)
one_telling (x ∷ xs) [] rs t u =
    absurd (let e : [] ≡ Record.Name (kind_of_content x.content) x.name ∷
    (map Record.Item t.3.items ++ t.1) = sym u ∙ t.2 ∙ ap (λ l. l ++ t.1) t.3.is in cc)
one_telling (x ∷ xs) (y ∷ ys) rs t u =
    let a : List Record = map Record.Item t.3.items ++ t.1 in
    let b : List Record = map Record.Item u.3.items ++ u.1 in
    let both : Record.Name (kind_of_content x.content) x.name ∷ a ≡
    Record.Name (kind_of_content y.content) y.name ∷ b =
    sym (t.2 ∙ ap (λ l. l ++ t.1) t.3.is) ∙ u.2 ∙ ap (λ l. l ++ u.1) u.3.is in
    let named = same_name (kind_of_content x.content) (kind_of_content y.content) x.name y.name
    (heads _ _ a b both) in
    let split = one_front IsItem (map Record.Item t.3.items) (map Record.Item u.3.items) t.1 u.1
    (all_items t.3.items) (all_items u.3.items) (told_ends xs t.1 t.4) (told_ends ys u.1 u.4)
    (tails _ _ a b both) in
    let items : t.3.items ≡ u.3.items = same_items t.3.items u.3.items split.0 in
    let content : x.content ≡ y.content =
    one_content_of x.content y.content u.3.items named.0
    (subst (λ l. ListsContent l x.content) items t.3.lists) u.3.lists in
    let rest : xs ≡ ys = one_telling xs ys t.1 t.4 (subst (TellOf ys) (sym split.1) u.4) in
    ap (λ v. v ∷ xs) (same_collection x y named.1 content) ∙ ap (λ l. y ∷ l) rest

-- ---- the whole image

all_begin : (ns : List ℕ) → AllByRecursion IsBegin (map Record.Begin ns)
all_begin [] = tt
all_begin (n ∷ ns) = (tt, all_begin ns)

same_numbers : (ns ms : List ℕ) → map Record.Begin ns ≡ map Record.Begin ms → ns ≡ ms
same_numbers [] [] e = refl
same_numbers [] (m ∷ ms) e = absurd (cc)
same_numbers (n ∷ ns) [] e = absurd (cc)
same_numbers (n ∷ ns) (m ∷ ms) e =
    let first : n ≡ m = cc in
    let rest = same_numbers ns ms (tails (Record.Begin n) (Record.Begin m) (map Record.Begin ns)
    (map Record.Begin ms) e) in
    ap (λ v. v ∷ ns) first ∙ ap (λ l. m ∷ l) rest

no_telling : (r : Record) → IsLiveRecord r → IsTelling r → ⊥
no_telling (Record.Name kind name) live telling = live
no_telling (Record.Item i) live telling = live
no_telling r live telling = telling

no_begin : (r : Record) → IsLiveRecord r → IsBegin r → ⊥
no_begin (Record.Begin n) live begin = live
no_begin r live begin = begin

calls_end_telling : (live journal : List Record) → AllByRecursion IsLiveRecord live →
    EndsSort IsTelling (live ++ Record.ImageEnd ∷ journal)
calls_end_telling [] journal all = λ h. h
calls_end_telling (r ∷ live) journal all = no_telling r all.0

numbers_end_telling : (ns : List ℕ) (live journal : List Record) →
    AllByRecursion IsLiveRecord live →
    EndsSort IsTelling (map Record.Begin ns ++ (live ++ Record.ImageEnd ∷ journal))
numbers_end_telling [] live journal all = calls_end_telling live journal all
numbers_end_telling (n ∷ ns) live journal all = λ h. h

calls_end_begin : (live journal : List Record) → AllByRecursion IsLiveRecord live →
    EndsSort IsBegin (live ++ Record.ImageEnd ∷ journal)
calls_end_begin [] journal all = λ h. h
calls_end_begin (r ∷ live) journal all = no_begin r all.0

-- One image, and one journal.
pub record IsSameImage (shown other : List Collection) (numbers also : List ℕ)
    (live too journal behind : List Record) : Type 0 where
  pub shown_is : shown ≡ other
  pub numbers_are : numbers ≡ also
  pub live_is : live ≡ too
  pub journal_is : journal ≡ behind

grouped : (told numbers live journal : List Record) (end : Record) →
    (told ++ (numbers ++ (live ++ end ∷ []))) ++ journal ≡ told ++
    (numbers ++ (live ++ end ∷ journal))
grouped told numbers live journal end =
    append_assoc told (numbers ++ (live ++ end ∷ [])) journal ∙
    ap (λ l. told ++ l) (append_assoc numbers (live ++ end ∷ []) journal) ∙
    ap (λ l. told ++ (numbers ++ l)) (append_assoc live (end ∷ []) journal)

pub one_image : (f g : Format) (n m w v : ℕ) (shown other : List Collection) (numbers also : List ℕ)
    (live too image again journal behind : List Record) → IsImage f n w shown numbers live image →
    IsImage g m v other also too again → image ++ journal ≡ again ++ behind
    → IsSameImage shown other numbers also live too journal behind
one_image f g n m w v shown other numbers also live too image again journal behind a b e =
    let left : List Record = map Record.Begin numbers ++ (live ++ Record.ImageEnd ∷ journal) in
    let right : List Record = map Record.Begin also ++ (too ++ Record.ImageEnd ∷ behind) in
    let both : Record.Marks f n w ∷ (a.told ++ left) ≡ Record.Marks g m v ∷ (b.told ++ right) =
    sym (ap (λ l. l ++ journal) a.is ∙
    ap (λ l. Record.Marks f n w ∷ l) (grouped a.told (map Record.Begin numbers) live journal
    Record.ImageEnd)) ∙ e ∙ ap (λ l. l ++ behind) b.is ∙
    ap (λ l. Record.Marks g m v ∷ l) (grouped b.told (map Record.Begin also) too behind
    Record.ImageEnd) in
    let telling = one_front IsTelling a.told b.told left right (told_tell shown a.told a.tells)
    (told_tell other b.told b.tells) (numbers_end_telling numbers live journal a.all_live)
    (numbers_end_telling also too behind b.all_live) (tails _ _ _ _ both) in
    let begins = one_front IsBegin (map Record.Begin numbers) (map Record.Begin also)
    (live ++ Record.ImageEnd ∷ journal) (too ++ Record.ImageEnd ∷ behind) (all_begin numbers)
    (all_begin also)
    (calls_end_begin live journal a.all_live) (calls_end_begin too behind b.all_live) telling.1 in
    let calls = one_front IsLiveRecord live too (Record.ImageEnd ∷ journal)
    (Record.ImageEnd ∷ behind) a.all_live b.all_live (λ h. h) (λ h. h) begins.1 in
    record {
      shown_is = one_telling shown other b.told (subst (TellOf shown) telling.0 a.tells) b.tells;
      numbers_are = same_numbers numbers also begins.0;
      live_is = calls.0;
      journal_is = tails Record.ImageEnd Record.ImageEnd journal behind calls.1;
    }
