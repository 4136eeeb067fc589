-- What a book needs of its collections, from the laws of their traits.
use Rattle.records.specs.Told.{Tells}
use Rattle.boosted.specs.Laws.{BoostedLaws}
use Rattle.std.proofs.Common.{◌≡◌, ℕ, ◌+◌, Some, List, sym, subst}
use Rattle.calls.specs.declared.format.Format.{Format}
use Rattle.calls.specs.declared.kind.Kind.{Kind}
use Rattle.calls.specs.declared.call.Call.{Call}
use Rattle.calls.specs.declared.reply.Reply.{Reply}
use Rattle.calls.specs.Contents.{Collection}
use Rattle.calls.specs.Rules.{Askable, IsShort, Pairs, inverse_of}
use Rattle.boosted.specs.Meaning.{Meaning}
use Rattle.records.specs.Short.{AreShort, IsShortReply}
use Rattle.records.proofs.CallRecords.{answered_pairs}
use Rattle.records.proofs.Items as values
use Rattle.steps.specs.Theory.Rules.{RuleLaws}
use Rattle.steps.specs.Theory.Collections.{collection_rules}
use Rattle.steps.proofs.Theory.Collections.{collection_laws}
use Rattle.steps.proofs.RoomForRuns.{wears_more}
use Rattle.catalog.specs.Making.{Making, MakingLaws}

-- short: no value in the content is too long for a format.
pub record BookLaws {S : Type 0} (meaning : Meaning S ℕ) (making : Making S)
    (short : Format → S → Type 0) : Type 0 where
  pub rules : RuleLaws (collection_rules meaning making)
  pub calls : BoostedLaws meaning
  pub wears_more : (s : S) (n : ℕ) → meaning.within s n → meaning.within s (n + 1)
  pub makings : MakingLaws meaning making
  pub short_runs : (f : Format) (s : S) (at : ℕ) (c : Call) (r : Reply) → short f s →
      meaning.answers s at c r →
      IsShort f c → short f (meaning.leaves s at c r)
  pub short_makes : (f : Format) (s t : S) (name : List ℕ) (kind : Kind) →
      making.makes s name kind t → short f s →
      short f t
  pub short_replies : (f : Format) (s : S) (at : ℕ) (c : Call) (r : Reply) → short f s →
      meaning.answers s at c r →
      IsShortReply f r
  pub paired : (s : S) (at : ℕ) (c : Call) (r : Reply) → Askable c → meaning.answers s at c r →
      Pairs c r
  pub short_inverse : (f : Format) (c : Call) (r : Reply) (back : Call) → IsShortReply f r →
      inverse_of c r ≡ Some back →
      IsShort f back

module _ {S : Type 0} {meaning : Meaning S ℕ} {making : Making S}
    {collections : S → List Collection}
    (laws : BoostedLaws meaning) (makings : MakingLaws meaning making)
    (told : Tells meaning making collections) where
  pub book_laws : BookLaws meaning making (λ f s. AreShort f (collections s))
  book_laws = record {
    rules = collection_laws laws makings;
    calls = laws;
    wears_more = wears_more told;
    makings = makings;
    short_runs = λ f s at c r is answered short_call.
        subst (AreShort f) (sym (told.leaves s at c r answered))
        (values.short_after f (collections s) at c r is ((told.answers s at c r).0 answered)
        short_call);
    short_makes = λ f s t name kind made is.
        values.short_made f (collections s) (collections t) name kind
        (told.makes s t name kind made)
        is;
    short_replies = λ f s at c r is answered.
        values.short_reply f (collections s) at c r is ((told.answers s at c r).0 answered);
    paired = λ s at c r asked answered.
        answered_pairs (collections s) at c r asked ((told.answers s at c r).0 answered);
    short_inverse = λ f c r back is same. values.short_inverse f c r back is same;
  }
