-- What a client knew it knows still.
use Rattle.std.proofs.Common.{List, [], Bool, refl, sym, ap, subst}
use Rattle.std.proofs.Common.{◌∙◌}
use Rattle.std.specs.Prelude.{Contains}
use Rattle.std.proofs.lemmas.List.{append-nil}
use Rattle.std.proofs.lemmas.List.Elements.{Contains-append_left}
use Rattle.txn.specs.declared.actions.Action.{Action}
use Rattle.group_commit.specs.declared.mark.Raised.{Raised}
use Rattle.desks.specs.declared.naming.Naming.{Ghosts}
use Rattle.clients.specs.Calls.{Acts, Hears}
use Rattle.clients.specs.Known.{Known}
use Rattle.fizgaloms.specs.Works.{KnowsStill}
use Rattle.fizgaloms.proofs.WorkLemmas.{prefix_through}

-- nothing was done
pub knows_same : (known : Known) → KnowsStill known known
knows_same known = record {
  number = refl;
  seen = ([], append-nil known.seen);
  counts = λ count some. some;
}

-- one thing was done behind another
pub knows_through : (old between new : Known) → KnowsStill old between → KnowsStill between new →
    KnowsStill old new
knows_through old between new one two = record {
  number = two.number ∙ one.number;
  seen = prefix_through old.seen between.seen new.seen one.seen two.seen;
  counts = λ count some. two.counts count (one.counts count some);
}

-- counts and flags were loaded
pub knows_heard : (old new : Known) (counts : List Raised) (flags : List Bool) →
    Hears old counts flags new → KnowsStill old new
knows_heard old new counts flags hears =
    subst (KnowsStill old) (sym hears) (record {
      number = refl;
      seen = ([], append-nil old.seen);
      counts = λ count some. Contains-append_left old.counts counts count some;
    })

module _ {J : Type 0} (j : Ghosts J) where
  -- steps were taken
  pub knows_acted : (old new : Known) (firsts : List Action) (last : Action) →
      Acts j.origin old firsts last new → KnowsStill old new
  knows_acted old new firsts last acts = record {
    number = ap (λ (k : Known). k.number) acts.0;
    seen = acts.1.grows.begins;
    counts = λ count some. subst (λ l. Contains l count)
        (sym (ap (λ (k : Known). k.counts) acts.0)) some;
  }
