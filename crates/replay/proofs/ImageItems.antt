-- The collections that an image tells of are read one after another.
use Rattle.std.proofs.Common.{◌≡◌, ℕ, zero, suc, ◌<◌, ◌≤◌, Option, Some, None, List, [], ◌∷◌, ◌++◌}
use Rattle.std.proofs.Common.{length, map, slice_get, refl, sym, ap, subst, arith, append-nil}
use Rattle.std.proofs.Common.{append_assoc}
use Rattle.std.specs.List.{AllByRecursion}
use Rattle.std.proofs.lemmas.List.{length-map}
use Rattle.std.proofs.lemmas.Option.{slice_get_within, slice_get_read}
use Rattle.calls.specs.declared.format.Format.{Format}
use Rattle.calls.specs.declared.kind.Kind.{Kind}
use Rattle.calls.specs.declared.item.Item.{Item}
use Rattle.calls.specs.Contents.{Collection}
use Rattle.calls.specs.Contents.{kind_of_content, IsItemOf}
use Rattle.calls.specs.Names.{IsName}
use Rattle.calls.specs.Transactions.{Leads}
use Rattle.catalog.specs.Holdings.{AreNamed, Rise, AreInOrder, Follows}
use Rattle.catalog.specs.Making.{names_of, IsNew, AreDistinct}
use Rattle.catalog.specs.Places.{Reaches, IsWithin}
use Rattle.catalog.proofs.Orders.{listed_in_order, first_is_item, in_order_rise, rise_in_order}
use Rattle.records.specs.declared.record.Record.{Record}
use Rattle.records.specs.Images.{TellsOf, TellOf}
use Rattle.records.specs.Reached.{IsReached}
use Rattle.records.specs.Short.{IsShortItem, HoldsShort, AreShort}
use Rattle.records.proofs.Items.{items_reached, content_items}
use Rattle.steps.specs.Machines.{resting}
use Rattle.replay.specs.Steps.{State}
use Rattle.replay.specs.Reading.{Named, Progress, InCollections, Closes, Reads}
use Rattle.replay.proofs.Lists.{leads_append}
use Rattle.boosted.proofs.Each.{each_front, each_back, weaker}

-- ---- items in order

rise_item : (kind : Kind) (x : Item) (xs : List Item) → Rise kind x xs → IsItemOf kind x
rise_item kind x [] rise = rise
rise_item kind x (y ∷ xs) rise = first_is_item kind x y rise.0

rise_front : (kind : Kind) (x : Item) (front : List Item) (i : Item) (back : List Item) →
    Rise kind x (front ++ i ∷ back) → Rise kind x (front ++ i ∷ [])
rise_front kind x [] i back rise = (rise.0, rise_item kind i back rise.1)
rise_front kind x (y ∷ front) i back rise = (rise.0, rise_front kind y front i back rise.1)

-- Each item of items in order may come behind those before it.
follows_front : (kind : Kind) (front : List Item) (i : Item) (back : List Item) →
    AreInOrder kind (front ++ i ∷ back) → Follows kind front i
follows_front kind [] i back order =
    rise_in_order kind i [] (rise_item kind i back (in_order_rise kind i back order))
follows_front kind (x ∷ front) i back order =
    rise_in_order kind x (front ++ i ∷ [])
    (rise_front kind x front i back (in_order_rise kind x (front ++ i ∷ back) order))

-- ---- a collection

abbrev named : List ℕ → Kind → List Item → Named
named name kind items = record { name = name; kind = kind; items = items }

items_read : (next : ℕ) (s : State) (name : List ℕ) (kind : Kind) (done todo : List Item) →
    AreInOrder kind (done ++ todo) → AllByRecursion (IsShortItem s.format) todo →
    AllByRecursion (IsReached s.wear) todo →
    Leads Reads (map Record.Item todo) (InCollections next s (Some (named name kind done)))
    (InCollections next s (Some (named name kind (done ++ todo))))
items_read next s name kind done [] order short reached =
    ap (λ l. InCollections next s (Some (named name kind l))) (sym (append-nil done))
items_read next s name kind done (i ∷ todo) order short reached =
    let assoc = append_assoc done (i ∷ []) todo in (
      InCollections next s (Some (named name kind (done ++ i ∷ []))),
      (follows_front kind done i todo order, short.0, reached.0, refl),
      subst (λ l. Leads Reads (map Record.Item todo)
          (InCollections next s (Some (named name kind (done ++ i ∷ []))))
          (InCollections next s (Some (named name kind l)))) assoc
          (items_read next s name kind (done ++ i ∷ []) todo
          (subst (AreInOrder kind) (sym assoc) order) short.1 reached.1),
    )

-- Records lead from there to where this state is reached once the last collection is told whole.
pub record IsTelling (next : ℕ) (rs : List Record) (p : Progress) (goal : State) : Type 0 where
  pub state : State
  pub last : Option Named
  pub leads : Leads Reads rs p (InCollections next state last)
  pub closes : Closes state last goal

collection_read : (f : Format) (next wear : ℕ) (ys : List Collection) (x : Collection)
    (rs : List Record) →
    TellsOf x rs → HoldsShort f x.content → IsNew (names_of ys) x.name → Reaches x.content wear →
    IsWithin (ys ++ x ∷ []) wear →
    (s : State) (last : Option Named) → Closes s last (resting f ys wear) →
    IsTelling next rs (InCollections next s last) (resting f (ys ++ x ∷ []) wear)
collection_read f next wear ys x rs tells short new reached within s last closes =
    let kind = kind_of_content x.content in
    let before : State = resting f ys wear in
    record {
      state = before;
      last = Some (named x.name kind tells.items);
      leads = subst (λ l. Leads Reads l (InCollections next s last)
          (InCollections next before (Some (named x.name kind tells.items)))) (sym tells.is) (
            InCollections next before (Some (named x.name kind [])),
            (before, closes, new, refl),
            items_read next before x.name kind [] tells.items
                (listed_in_order x.content tells.items tells.lists)
                (weaker (λ i. IsShortItem f i × IsItemOf kind i) (IsShortItem f) (λ i is. is.0)
                tells.items (content_items f x.content tells.items short tells.lists))
                (items_reached wear x.content tells.items tells.lists reached),
          );
      closes = record {
        new = new;
        next = ys ++ x ∷ [];
        loads = record { content = x.content; of_kind = refl; lists = tells.lists; is = refl };
        reached = within;
        is = refl;
      };
    }

-- ---- the name of the next collection is new

stands_there : (ys : List Collection) (x : Collection) (xs : List Collection) →
    slice_get (names_of (ys ++ x ∷ xs)) (length ys) ≡ Some x.name
stands_there [] x xs = refl
stands_there (y ∷ ys) x xs = stands_there ys x xs

stands_still : (ys zs : List Collection) (at : ℕ) (name : List ℕ) →
    slice_get (names_of ys) at ≡ Some name → slice_get (names_of (ys ++ zs)) at ≡ Some name
stands_still [] zs at name e = absurd (cc)
stands_still (y ∷ ys) zs zero name e = e
stands_still (y ∷ ys) zs (suc at) name e = stands_still ys zs at name e

next_new : (ys : List Collection) (x : Collection) (xs : List Collection) →
    AreNamed (ys ++ x ∷ xs) → AreDistinct (names_of (ys ++ x ∷ xs)) →
    length (names_of (ys ++ x ∷ xs)) ≤ 256 → IsNew (names_of ys) x.name
next_new ys x xs good distinct few = record {
  good = (each_back (λ x. IsName x.name) ys (x ∷ xs) good).0;
  free = λ taken.
      let at = taken.0 in
      let there : slice_get (names_of ys) at ≡ Some x.name =
      slice_get_read (names_of ys) (length (names_of ys)) at x.name refl taken.1
      (sym taken.2) in
      let same : at ≡ length ys = distinct x.name at (length ys)
      (stands_still ys (x ∷ xs) at x.name there) (stands_there ys x xs) in
      let below : at < length (names_of ys) = taken.1 in
      let names : length (names_of ys) ≡ length ys = length-map ys (λ x. x.name) in
      absurd (omega arith);
  few =
      let below : length (names_of ys) < length (names_of (ys ++ x ∷ xs)) =
      let names : length (names_of ys) ≡ length ys = length-map ys (λ x. x.name) in
      let inside : length ys < length (names_of (ys ++ x ∷ xs)) =
      slice_get_within (names_of (ys ++ x ∷ xs)) (length ys) x.name (stands_there ys x xs) in
      omega arith in
      omega arith;
}

-- ---- all collections

collections_read : (f : Format) (next wear : ℕ) (xs ys : List Collection) (rs : List Record) →
    TellOf xs rs →
    AreShort f (ys ++ xs) →
    AreNamed (ys ++ xs) → AreDistinct (names_of (ys ++ xs)) → length (names_of (ys ++ xs)) ≤ 256 →
    IsWithin (ys ++ xs) wear →
    (s : State) (last : Option Named) → Closes s last (resting f ys wear) →
    IsTelling next rs (InCollections next s last) (resting f (ys ++ xs) wear)
collections_read f next wear [] ys rs tells short good distinct few within s last closes = record {
  state = s;
  last = last;
  leads = subst (λ l. Leads Reads l (InCollections next s last) (InCollections next s last))
      (sym tells) refl;
  closes = subst (λ l. Closes s last (resting f l wear)) (sym (append-nil ys)) closes;
}
collections_read f next wear (x ∷ xs) ys rs tells short good distinct few within s last closes =
    let assoc : (ys ++ x ∷ []) ++ xs ≡ ys ++ x ∷ xs = append_assoc ys (x ∷ []) xs in
    let each = subst (λ l. IsWithin l wear) (sym assoc) within in
    let one = collection_read f next wear ys x tells.0 tells.3
    (each_back (λ x. HoldsShort f x.content) ys (x ∷ xs) short).0
    (next_new ys x xs good distinct few)
    (each_back (λ x. Reaches x.content wear) ys (x ∷ xs) within).0
    (each_front (λ x. Reaches x.content wear) (ys ++ x ∷ []) xs each) s last closes in
    let more = collections_read f next wear xs (ys ++ x ∷ []) tells.1 tells.4
    (subst (AreShort f) (sym assoc) short)
    (subst AreNamed (sym assoc) good)
    (subst (λ l. AreDistinct (names_of l)) (sym assoc) distinct)
    (subst (λ l. length (names_of l) ≤ 256) (sym assoc) few) each one.state one.last
    one.closes in
    record {
      state = more.state;
      last = more.last;
      leads = subst (λ l. Leads Reads l (InCollections next s last)
          (InCollections next more.state more.last)) (sym tells.2)
          (leads_append Reads tells.0 tells.1 (InCollections next s last)
          (InCollections next one.state one.last) (InCollections next more.state more.last)
          one.leads more.leads);
      closes = subst (λ l. Closes more.state more.last (resting f l wear)) assoc more.closes;
    }

-- From the marks on all collections are read.
pub told_reads : (f : Format) (next wear : ℕ) (xs : List Collection) (rs : List Record) →
    TellOf xs rs → AreShort f xs →
    AreNamed xs → AreDistinct (names_of xs) → length (names_of xs) ≤ 256 → IsWithin xs wear →
    IsTelling next rs (InCollections next (resting f [] wear) None) (resting f xs wear)
told_reads f next wear xs rs tells short good distinct few within =
    collections_read f next wear xs [] rs tells short good distinct few within (resting f [] wear)
    None refl
