-- The past of a world begins with the store that was opened.
use Rattle.std.proofs.Common.{◌≡◌, ℕ, List, [], ◌++◌, None, Some}
use Rattle.std.proofs.Common.{refl, sym, ◌∙◌, subst, arith}
use Rattle.records.specs.declared.block.Block.{Block}
use Rattle.records.specs.declared.block.Image.{Image}
use Rattle.images.specs.Gathers.{GatherState, Packs}
use Rattle.txn.specs.Books.{opened}
use Rattle.checkpoint.specs.Keepers.{KeeperState, IsFresh}
use Rattle.checkpoint.proofs.ReceivedLemmas.{received_starts}
use Rattle.recovery.specs.Openings.{IsOpened, IsReadyStore}
use Rattle.recovery.proofs.OpenedStores.{are_read, in_use}
use Rattle.txn.specs.Books.{NamedBook}
use Rattle.world.specs.Worlds.{HasPast, parts_of}
use Rattle.images.specs.Gathers.{nothing_gathered}
use Rattle.txn.proofs.Handings.{opens}
use Rattle.catalog.specs.Meaning.{catalog_meaning, catalog_making}

-- nothing is packed of what is not frozen
pub none_packed : (g : GatherState) (image : Image) (A : Type 0) → g.frozen ≡ None →
    Packs g image → A
none_packed g image A none packs =
    let frozen : None ≡ Some packs.frozen = sym none ∙ packs.is_frozen in absurd cc

pub past_begins : {D : Type 0} (seen : D → List ℕ) (may_leave : D → List ℕ → Type 0)
    (bytes : List ℕ) (book : NamedBook) (keeper : KeeperState D) (transit : List Block) →
    IsFresh keeper → transit ≡ [] →
    IsOpened bytes book keeper.area (seen keeper.disk) →
    IsReadyStore seen may_leave bytes book keeper.area keeper.disk →
    HasPast seen may_leave book.state.now [] (parts_of book nothing_gathered keeper transit 0)
past_begins seen may_leave bytes book keeper transit fresh none told ready =
    let now = told.undone.now in
    let wear = told.undone.wear in
    let format = told.undone.format in
    let first : NamedBook = opened format now told.next wear in
    subst (λ (b : NamedBook). HasPast seen may_leave b.state.now []
    (parts_of b nothing_gathered keeper transit 0)) (sym told.book_is)
    (subst (λ q. HasPast seen may_leave now [] (parts_of first nothing_gathered keeper q 0))
    (sym none)
    (record {
      format = format;
      wear = wear;
      steps = [];
      are = refl;
      received = [];
      groups = [];
      freezes = [];
      images = [];
      handed = opens catalog_meaning catalog_making (λ v. v) format now wear told.next;
      begun = [];
      are_begun = tt;
      keeps = received_starts seen may_leave format now wear (told.blocks ++ told.written) keeper
          (are_read bytes book keeper.area (seen keeper.disk) told) fresh
          (in_use seen may_leave bytes book keeper.disk keeper.area told ready);
      packs = λ image packs. none_packed nothing_gathered image _ refl packs;
      marked = sym fresh.unmarked;
      told = omega arith;
    }))
