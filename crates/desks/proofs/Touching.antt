-- What the two ends of a twin know of a shelf.
use Rattle.std.proofs.Common.{◌≡◌, ℕ, List, [], ◌∷◌, ◌++◌, Option, Some, None, refl, sym, ap, ◌∙◌}
use Rattle.std.proofs.Common.{subst}
use Rattle.atomic_table.specs.Seated.{TableId}
use Rattle.calls.specs.Transactions as transactions
use Rattle.calls.specs.Transactions.{Event}
use Rattle.boosted.specs.Meaning.{Meaning}
use Rattle.catalog.specs.declared.four.Four.{Four}
use Rattle.catalog.specs.Fours.{Which, First, Second, Third, Fourth, pick}
use Rattle.steps.specs.Shelves.{ShelfState, Does, Settles}
use Rattle.txn.specs.Shelved.{IsIdle}
use Rattle.group_commit.specs.Twins.{EndState, touched}
use Rattle.desks.specs.declared.touch.Touch.{Touch}
use Rattle.desks.specs.Touches.{led, Leads, IsShelf}

module _ {S : Type 0} where
  -- Touches lead to what the last one left.
  pub led_push : (o : Option S) (l : List (Touch S)) (t : Touch S) → led o (l ++ t ∷ []) ≡ t.left
  led_push o [] t = refl
  led_push o (x ∷ l) t = led_push x.left l t

  some_same : (s t : S) → ◌≡◌ {A = Option S} (Some s) (Some t) → s ≡ t
  some_same s t e = cc

  -- An end leads to one state.
  pub known_is : (e : EndState (Touch S)) (s t : S) → Leads e s → Leads e t → s ≡ t
  known_is e s t one two = some_same s t (sym one ∙ two)

  -- Behind a touch an end leads to what it left.
  pub leads_on : (e f : EndState (Touch S)) (t : Touch S) (s : S) → f ≡ touched e t →
      t.left ≡ Some s → Leads f s
  leads_on e f t s is left = ap (λ (v : EndState (Touch S)). led None v.list) is ∙
      led_push None e.list t ∙ left

-- What each of four ends leads to.
pub leads_each : {S : Type 0} (nears : Four (EndState (Touch S))) (f : Four S) →
    Leads nears.first f.first → Leads nears.second f.second → Leads nears.third f.third →
    Leads nears.fourth f.fourth → (w : Which) → Leads (pick nears w) (pick f w)
leads_each nears f a b c d First = a
leads_each nears f a b c d Second = b
leads_each nears f a b c d Third = c
leads_each nears f a b c d Fourth = d

-- What is settled of the shelf that the far end knows is settled of whatever the near end knows,
-- where both know one list.
pub settles_known : {T : Type 0} (meaning : Meaning T ℕ) (number : ℕ) (laters : List Event)
    (near far e : EndState (Touch (ShelfState T))) (s t : ShelfState T) → Leads far s →
    near.list ≡ far.list → Leads e t → Settles meaning s number laters t → (u : ShelfState T) →
    Leads near u → (v : ShelfState T) × Leads e v × Settles meaning u number laters v
settles_known {T} meaning number laters near far e s t there same behind settles u leads = (
  t,
  behind,
  subst (λ x. Settles meaning x number laters t)
      (known_is near s u (ap (led None) same ∙ there) leads) settles,
)

-- A shelf that the end knows, with nothing to settle there, is settled as it is.
pub idles_known : {T : Type 0} (meaning : Meaning T ℕ) (number : ℕ) (laters : List Event)
    (near : EndState (Touch (ShelfState T))) →
    (s : ShelfState T) × Leads near s × IsIdle s number laters → (u : ShelfState T) →
    Leads near u → (v : ShelfState T) × Leads near v × Settles meaning u number laters v
idles_known {T} meaning number laters near idle u leads = (
  idle.0,
  idle.1,
  subst (λ x. Settles meaning x number laters idle.0)
      (known_is near idle.0 u idle.1 leads) record {
        runs = subst (λ ls. transactions.Leads (Does meaning) ls idle.0.now idle.0.now)
            (sym idle.2.0) refl;
        holds = idle.2.1;
      },
)

-- Behind a touch that tells what the shelf holds, its end leads there.
pub shelf_touched : {T : Type 0} (tables : Four TableId) (w : Which) (s : ShelfState T)
    (far e : EndState (Touch (ShelfState T))) (t : Touch (ShelfState T)) →
    far.table ≡ pick tables w → e ≡ touched far t → t.left ≡ Some s → IsShelf tables w s e
shelf_touched {T} tables w s far e t table is left = record {
  table = ap (λ (v : EndState (Touch (ShelfState T))). v.table) is ∙ table;
  leads = leads_on far e t s is left;
}
