-- What is gathered goes along, whatever is done.
use Rattle.std.proofs.Common.{◌≡◌, ℕ, ◌+◌, ◌<◌, ◌≤◌, ◌^◌, None, Some, List, [], ◌∷◌, ◌++◌}
use Rattle.std.proofs.Common.{Result, Ok, Err, length, slice_get, sym, ap, subst, arith}
use Rattle.std.proofs.Common.{length-append, inr}
use Rattle.std.specs.Prelude.{Option, IfSome, OnOk, OnErr}
use Rattle.std.specs.Option.{option_map}
use Rattle.calls.specs.declared.kind.Kind.{Kind}
use Rattle.calls.specs.declared.call.Call.{Call}
use Rattle.calls.specs.declared.reply.Reply.{Reply}
use Rattle.calls.specs.Formats.{widest}
use Rattle.calls.specs.Rules.{IsShort}
use Rattle.calls.specs.Contents.{Collection, AnswersAt, after_at, empty}
use Rattle.calls.specs.Transactions.{Makes}
use Rattle.boosted.proofs.Each.{each_append, weaker}
use Rattle.boosted.specs.Meaning.{CanDefer}
use Rattle.catalog.specs.Meaning.{catalog_meaning}
use Rattle.catalog.specs.Laws.Catalogs.{catalog_laws, making_laws}
use Rattle.catalog.specs.Places.{IsWithin}
use Rattle.records.specs.Told.{tells_itself}
use Rattle.records.proofs.Items.{short_after, short_deferrable}
use Rattle.steps.proofs.BookLaws.{book_laws}
use Rattle.images.specs.declared.effect.Effect.{Effect}
use Rattle.images.specs.Gathers.{GatherState, Repeats, with_gathered}
use Rattle.images.proofs.Following.{follows_run, follows_gathered, follows_repeated}
use Rattle.images.proofs.Following.{came_run, came_gathered, came_repeated}
use Rattle.images.proofs.Following.{length-after_at}
use Rattle.workloads.specs.Gatherings.{HasRun, CanRun, Goes}

pub none_run : HasRun [] 0 0
none_run = record { few = omega arith; short = tt; within = tt }

pub made_run : (most : ℕ) (s t : List Collection) (name : List ℕ) (kind : Kind) →
    HasRun s most 0 → Makes s name kind t → HasRun t (most + 1) 0
made_run most s t name kind run makes =
    let laws = book_laws catalog_laws making_laws tells_itself in
    record {
      few = let few = run.few in
          omega (
            arith,
            ap length makes.is,
            length-append s (record { name = name; content = empty kind } ∷ []),
          );
      short = laws.short_makes widest s t name kind makes run.short;
      within = making_laws.makes_keep_within s t name kind 0 makes run.within;
    }

pub deferred_runs : (xs : List Collection) (at : ℕ) (c : Call) → CanDefer catalog_meaning xs at c →
    CanRun xs at c
deferred_runs xs at c can = record {
  belongs = can.0;
  reply = inr (Reply.Done, (catalog_laws.holds xs).deferred_is_ready at c can.0 can.1);
  short = short_deferrable widest c can.1;
}

module _ (xs : List Collection) (g : GatherState) (later : List Effect) (lsn : ℕ)
    (goes : Goes xs g later lsn) where
  pub goes_run : (e : Effect) → e.lsn ≡ lsn + 1 → lsn < 2 ^ 61 →
      AnswersAt xs e.collection e.call e.reply → IsShort widest e.call →
      Goes (after_at xs e.collection e.call e.reply) g (later ++ e ∷ []) e.lsn
  goes_run e next unworn answered short = record {
    has_run = record {
      few = let few = goes.has_run.few in
          omega (arith, few, length-after_at xs e.collection e.call e.reply);
      short = short_after widest xs e.collection e.call e.reply goes.has_run.short answered short;
      within = subst (IsWithin (after_at xs e.collection e.call e.reply)) (sym next)
          ((catalog_laws.holds xs).wears lsn e.collection e.call e.reply
          goes.has_run.within answered);
    };
    unworn = omega (arith, next);
    follows = follows_run g later xs e lsn (omega (arith, unworn)) goes.has_run.within
        goes.follows
        (weaker (λ p. p.stamp ≤ lsn) (λ p. p.stamp < e.lsn)
        (λ p low. omega (arith, low, next)) g.parts goes.came.stamps) answered;
    came = came_run g later e lsn goes.came (omega (arith, next));
    short_calls = each_append (λ x. IsShort widest x.call) later (e ∷ []) goes.short_calls
        (short, tt);
  }

  pub goes_gathered : (mark : ℕ) (next : Option Collection) →
      IfSome next (λ x. slice_get xs (length g.parts) ≡ Some x) →
      Goes xs (with_gathered g mark next lsn later) [] lsn
  goes_gathered mark next there = record {
    has_run = goes.has_run;
    unworn = goes.unworn;
    follows = follows_gathered g later xs mark next lsn goes.follows there
        goes.came.lsns;
    came = came_gathered g later mark next lsn goes.came;
    short_calls = tt;
  }

  pub goes_repeated : (h : GatherState) → Repeats g h → Goes xs h later lsn
  goes_repeated h repeats = record {
    has_run = goes.has_run;
    unworn = goes.unworn;
    follows = follows_repeated g h later xs repeats goes.follows;
    came = came_repeated g h later lsn repeats goes.came;
    short_calls = goes.short_calls;
  }

-- What holds either way.
pub either_way : {T E : Type 0} (r : Result T E) (A B C D G : Type 0) → OnOk r A → OnOk r B →
    OnErr r C → OnErr r D → (A → B → G) → (C → D → G) → G
either_way (Ok x) A B C D G a b c d f h = f a b
either_way (Err e) A B C D G a b c d f h = h c d

-- a copy of a collection shows what it holds
pub shown : (P : Collection → Type 0) (next : Option Collection) → IfSome next P →
    IfSome (option_map (λ (x : Collection). x) next) P
shown P None is = tt
shown P (Some x) is = is
